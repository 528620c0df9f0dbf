-- What transactions leave of what is known of a target before its worlds are held.
use Rattle.std.proofs.Common.{◌≡◌, ℕ, Bool, true, false, refl, sym, ap, subst, ◌∙◌, ◌⊎◌, inl, inr}
use Rattle.std.specs.Prelude.{Option, Some, None, ◌==◌, ◌||◌}
use Rattle.swd_bits.specs.declared.request.Request.{Request}
use Rattle.swd_bits.specs.declared.request.Reg4.{Reg4}
use Rattle.swd_bits.specs.declared.request.Reg4.TheVariants.{R0, R4, R8, RC}
use Rattle.swd_bits.specs.declared.tx.TxEnd.{TxEnd}
use Rattle.swd_bits.specs.declared.tx.TxEnd.TheVariants.{Moved, Wait, Fault}
use Rattle.swd_port.specs.declared.register.Register.{Register}
use Rattle.swd_port.specs.declared.register.Register.TheVariants.{DpidrRead, CtrlStatRead, DpOtherRead, SelectWrite}
use Rattle.swd_port.specs.declared.register.Register.TheVariants.{DrwRead, DrwWrite}
use Rattle.swd_port.specs.declared.select.Select.{Select}
use Rattle.swd_port.specs.declared.state.Drw.{Drw}
use Rattle.swd_port.specs.declared.state.Reply.{Reply}
use Rattle.swd_port.specs.declared.state.Reply.TheVariants.{Okay, Waits, Faults, Silent}
use Rattle.swd_port.specs.Port.{Port, Target, port_selects_mem_ap, port_register_where}
use Rattle.swd_port.specs.Answers.{is_exempt_register}
use Rattle.swd_port.specs.Choices.{Choice, port_flip_of}
use Rattle.swd_port.specs.Registers.{select_of}
use Rattle.swd_port.specs.Asking.{port_target_after, pending_drw_once_read}
use Rattle.swd_port.specs.Completion.{PortCompletes}
use Rattle.swd_port.specs.Leading.{PortLeads}
use Rattle.swd_port.specs.Moving.{Arrives, Damaged, port_arrival_of, port_after_bits}
use Rattle.swd_port.specs.Moving.{port_select_after_write, pending_after_write}
use Rattle.swd_port.proofs.CompletionLaws.{port_completion_keeps_fact}
use Rattle.swd_checker.specs.declared.opening.Opening.{Opening}
use Rattle.swd_checker.specs.declared.opening.Opening.TheVariants.{Anything, Resting, Selected, Over}
use Rattle.swd_checker.specs.declared.worlds.Worlds.{Worlds}
use Rattle.swd_checker.specs.Checked.{CheckedHasMoved, checked_phase}
use Rattle.swd_checker.specs.Openings.{IsCheckedResting, IsCheckedSelected, OpeningHolds, OpeningLeads}
use Rattle.swd_checker.specs.Openings.{checked_passes, checked_may_be_refused, checked_leaves_rest}
use Rattle.swd_checker.specs.Openings.{checked_selects, is_opening_over}
use Rattle.swd_checker.proofs.CheckedLemmas.{checked_okay_seen}
use Rattle.swd_checker.proofs.GivenLemmas.{checked_kept_plain, checked_kept_at_rest}
use Rattle.swd_checker.proofs.KeepingLemmas.{FactCompletes, KeepsFact, transact_keeps, waited_keeps, faulted_keeps}
use Rattle.swd_checker.proofs.KeepingLemmas.{given_leads}
use Rattle.swd_checker.proofs.TransactLemmas.{phase_written, gives, written_whole, hold_port_later}

-- REQUESTS, BY THEIR FIELDS
-- a read of DPIDR, or of the debug port's address 4
abbrev pub IsCheckedPassing : Register → Type 0
IsCheckedPassing DpidrRead = Unit {0}
IsCheckedPassing CtrlStatRead = Unit {0}
IsCheckedPassing DpOtherRead = Unit {0}
IsCheckedPassing r = ⊥

-- a request that starts no transfer, and doesn't write SELECT
abbrev pub IsCheckedUnmoving : Register → Type 0
IsCheckedUnmoving DrwRead = ⊥
IsCheckedUnmoving DrwWrite = ⊥
IsCheckedUnmoving SelectWrite = ⊥
IsCheckedUnmoving r = Unit {0}

passing_by : (ap m b read : Bool) (addr : Reg4) → checked_passes addr ap read ≡ true
    → (read ≡ true) × IsCheckedPassing (port_register_where m b ap read addr)
passing_by false m b true R0 e = (refl, tt)
passing_by false m true true R4 e = (refl, tt)
passing_by false m false true R4 e = (refl, tt)
passing_by false m b false R0 e = absurd (cc)
passing_by false m b false R4 e = absurd (cc)
passing_by true m b read R0 e = absurd (cc)
passing_by true m b read R4 e = absurd (cc)
passing_by ap m b read R8 e = absurd (cc)
passing_by ap m b read RC e = absurd (cc)

unmoving_by : (ap m b read : Bool) (addr : Reg4) → checked_leaves_rest addr ap read ≡ true
    → IsCheckedUnmoving (port_register_where m b ap read addr)
unmoving_by true true b true R0 e = tt
unmoving_by true true b true R4 e = tt
unmoving_by true true b true R8 e = tt
unmoving_by true true b false R0 e = tt
unmoving_by true true b false R4 e = tt
unmoving_by true true b false R8 e = tt
unmoving_by true m b read RC e = absurd (cc)
unmoving_by true false b true addr e = tt
unmoving_by true false b false addr e = tt
unmoving_by false m b true R0 e = tt
unmoving_by false m b false R0 e = tt
unmoving_by false m true true R4 e = tt
unmoving_by false m false true R4 e = tt
unmoving_by false m true false R4 e = tt
unmoving_by false m false false R4 e = tt
unmoving_by false m b true R8 e = tt
unmoving_by false m b false R8 e = absurd (cc)
unmoving_by false m b true RC e = tt
unmoving_by false m b false RC e = tt

plain_by : (ap m b read : Bool) (addr : Reg4) → checked_may_be_refused addr ap read ≡ true
    → is_exempt_register (port_register_where m b ap read addr) ≡ false
plain_by true true b true R0 e = refl
plain_by true true b true R4 e = refl
plain_by true true b true R8 e = refl
plain_by true true b true RC e = refl
plain_by true true b false R0 e = refl
plain_by true true b false R4 e = refl
plain_by true true b false R8 e = refl
plain_by true true b false RC e = refl
plain_by true false b true addr e = refl
plain_by true false b false addr e = refl
plain_by false m b read R0 e = absurd (cc)
plain_by false m b true R4 e = absurd (cc)
plain_by false m true false R4 e = refl
plain_by false m false false R4 e = refl
plain_by false m b true R8 e = refl
plain_by false m b false R8 e = refl
plain_by false m b true RC e = refl
plain_by false m b false RC e = refl

-- the register of a request that can be refused
pub plain_named : (q : Request) (mem_ap bank0 : Bool) → checked_may_be_refused q.addr q.ap q.read ≡ true
    → is_exempt_register (port_register_where mem_ap bank0 q.ap q.read q.addr) ≡ false
plain_named q mem_ap bank0 e = plain_by q.ap mem_ap bank0 q.read q.addr e

-- A TARGET AT REST
pending_read : (r : Register) (pending : Option Drw) → IsCheckedUnmoving r → pending ≡ None
    → pending_drw_once_read r pending ≡ None
pending_read DrwRead pending plain e = absurd plain
pending_read r pending plain e = e

rest_replies : (c : Choice) (a : Reply) (r : Register) (ap : Bool) (x : Target) → IsCheckedUnmoving r
    → IsCheckedResting x → IsCheckedResting (port_target_after c a r ap x)
rest_replies c Okay r ap x plain h =
    record { mem_ap = h.mem_ap; bank0 = h.bank0; pending = pending_read r x.pending plain h.pending }
rest_replies c Waits r ap x plain h = record { mem_ap = h.mem_ap; bank0 = h.bank0; pending = h.pending }
rest_replies c Faults r ap x plain h = record { mem_ap = h.mem_ap; bank0 = h.bank0; pending = h.pending }
rest_replies c Silent r ap x plain h = h

select_written : (r : Register) (word : Option ℕ) (select : Select) → IsCheckedUnmoving r
    → port_select_after_write (port_arrival_of r word) select ≡ select
select_written r None select plain = refl
select_written SelectWrite (Some word) select plain = absurd plain
select_written r (Some word) select plain = refl

pending_written : (r : Register) (word : Option ℕ) (pending : Option Drw) → IsCheckedUnmoving r
    → pending_after_write (port_arrival_of r word) pending ≡ pending
pending_written r None pending plain = refl
pending_written DrwWrite (Some word) pending plain = absurd plain
pending_written r (Some word) pending plain = refl

rest_writes : (refuses : Bool) (r : Register) (word : Option ℕ) (x : Target) → IsCheckedUnmoving r → IsCheckedResting x
    → IsCheckedResting (port_after_bits refuses (port_arrival_of r word) x)
rest_writes refuses r word x plain h = record {
  mem_ap = ap port_selects_mem_ap (select_written r word x.select plain) ∙ h.mem_ap;
  bank0 = ap (λ (s : Select). s.dpbanksel == 0) (select_written r word x.select plain) ∙ h.bank0;
  pending = pending_written r word x.pending plain ∙ h.pending;
}

rest_completes : FactCompletes IsCheckedResting
rest_completes c x h = record { mem_ap = h.mem_ap; bank0 = h.bank0; pending = refl }

rest_keeps : (q : Request) → checked_leaves_rest q.addr q.ap q.read ≡ true
    → KeepsFact IsCheckedResting IsCheckedUnmoving q
rest_keeps q plain = record {
  completes = rest_completes;
  names = λ x h. unmoving_by q.ap (port_selects_mem_ap x.select) (x.select.dpbanksel == 0) q.read q.addr plain;
  replies = λ c a r x named h. rest_replies c a r q.ap x named h;
  writes = λ refuses r word x read named h. rest_writes refuses r word x named h;
}

-- a target at rest stays so at a request that starts no transfer and doesn't write SELECT,
pub opening_rests : (end : TxEnd) (q : Request) → checked_leaves_rest q.addr q.ap q.read ≡ true
    → OpeningLeads Resting end q Resting
opening_rests end q plain clean v u s t h rests =
    transact_keeps IsCheckedResting IsCheckedUnmoving clean q end s t (rest_keeps q plain)
    (checked_kept_at_rest clean end q s t rests.pending h) rests

-- at FAULT,
pub opening_rests_at_fault : (q : Request) → OpeningLeads Resting Fault q Resting
opening_rests_at_fault q clean v u s t h rests = faulted_keeps IsCheckedResting clean q s t rest_completes
    (λ r x k. record { mem_ap = k.mem_ap; bank0 = k.bank0; pending = k.pending })
    (checked_kept_at_rest clean Fault q s t rests.pending h) rests

-- A TARGET WHOSE SELECT WAS WRITTEN
selected_completes : (word : ℕ) → FactCompletes (IsCheckedSelected word)
selected_completes word c x h = record { pending = refl; arrived = h.arrived }

passing_pending : (r : Register) (pending : Option Drw) → IsCheckedPassing r → pending ≡ None
    → pending_drw_once_read r pending ≡ None
passing_pending DpidrRead pending plain e = e
passing_pending CtrlStatRead pending plain e = e
passing_pending DpOtherRead pending plain e = e
passing_pending r pending plain e = absurd plain

selected_replies : (word : ℕ) (c : Choice) (a : Reply) (r : Register) (ap : Bool) (x : Target) → IsCheckedPassing r
    → IsCheckedSelected word x → IsCheckedSelected word (port_target_after c a r ap x)
selected_replies word c Okay r ap x plain h =
    record { pending = passing_pending r x.pending plain h.pending; arrived = h.arrived }
selected_replies word c Waits r ap x plain h = record { pending = h.pending; arrived = h.arrived }
selected_replies word c Faults r ap x plain h = record { pending = h.pending; arrived = h.arrived }
selected_replies word c Silent r ap x plain h = h

-- such a target stays so at reads of DPIDR and of address 4
pub opening_passes : (word : ℕ) (sent : ℕ) (ok : Bool) (q : Request) → checked_passes q.addr q.ap q.read ≡ true
    → OpeningLeads (Selected word) (Moved sent ok) q (Selected word)
opening_passes word sent ok q passes clean v u s t h selected =
    transact_keeps (IsCheckedSelected word) IsCheckedPassing clean q (Moved sent ok) s t (record {
      completes = selected_completes word;
      names = λ x k. (passing_by q.ap (port_selects_mem_ap x.select) (x.select.dpbanksel == 0) q.read q.addr passes).1;
      replies = λ c a r x named k. selected_replies word c a r q.ap x named k;
      writes = λ refuses r found x write named k. absurd (
          let e : true ≡ false = sym (passing_by q.ap true true q.read q.addr passes).0 ∙ write in cc
          );
    }) (checked_kept_at_rest clean (Moved sent ok) q s t selected.pending h) selected

-- WAIT
pub opening_waits : (opening : Opening) (q : Request) → (opening ≡ Over → ⊥) → OpeningLeads opening Wait q opening
opening_waits Anything q other clean v u s t h k = tt
opening_waits Resting q other clean v u s t h k = waited_keeps IsCheckedResting clean q s t rest_completes
    (λ r x n. record { mem_ap = n.mem_ap; bank0 = n.bank0; pending = n.pending })
    (checked_kept_at_rest clean Wait q s t k.pending h) k
opening_waits (Selected word) q other clean v u s t h k = waited_keeps (IsCheckedSelected word) clean q s t
    (selected_completes word) (λ r x n. record { pending = n.pending; arrived = n.arrived })
    (checked_kept_at_rest clean Wait q s t k.pending h) k
opening_waits Over q other clean v u s t h k = absurd (other refl)

-- SELECT is written
abbrev SelectPends : Target → Type 0
SelectPends x = x.pending ≡ None

select_arrives : (word : ℕ) (refuses : Bool) (x : Target) → x.pending ≡ None
    → IsCheckedSelected word (port_after_bits refuses (Arrives SelectWrite word) x)
select_arrives word refuses x none = record { pending = none; arrived = inr refl }

select_damaged : (word : ℕ) (refuses : Bool) (x : Target) → x.pending ≡ None
    → IsCheckedSelected word (port_after_bits refuses Damaged x)
select_damaged word refuses x none = record { pending = none; arrived = inl refl }

pub select_moved : (clean : Bool) (q : Request) (word : ℕ) (s t : Port) → q.read ≡ false
    → ((mem_ap bank0 : Bool) → port_register_where mem_ap bank0 q.ap q.read q.addr ≡ SelectWrite)
    → CheckedHasMoved clean q word true s t
    → IsCheckedSelected word t.target
select_moved clean q word s t write named h =
    let k = checked_okay_seen clean s q h.asked SelectWrite h.asks
    (named (port_selects_mem_ap h.asks.before.target.select) (h.asks.before.target.select.dpbanksel == 0)) in
    given_leads SelectPends (IsCheckedSelected word) SelectWrite (port_flip_of h.asks.mark) h.asks.after h.asked t
    (checked_phase true word) (λ c x e. refl) (selected_completes word) (λ refuses x none.
    written_whole (λ a. IsCheckedSelected word (port_after_bits refuses a x)) clean h.asks.mark SelectWrite word h.small
    h.asks.undamaged (select_arrives word refuses x none) (λ may. select_damaged word refuses x none))
    (k.line ∙ phase_written q.read SelectWrite (port_flip_of h.asks.mark) _ write) h.asks.then
    (gives q.read h.asked t (checked_phase true word) write h.moves)
    (subst SelectPends (sym k.target) (k.settled refl))

select_by : (ap m read : Bool) (addr : Reg4) (b : Bool) → checked_selects addr ap read ≡ true
    → (read ≡ false) × (port_register_where m b ap read addr ≡ SelectWrite)
select_by false m false R8 b e = (refl, refl)
select_by false m true R8 b e = absurd (cc)
select_by true m read R8 b e = absurd (cc)
select_by ap m read R0 b e = absurd (cc)
select_by ap m read R4 b e = absurd (cc)
select_by ap m read RC b e = absurd (cc)

-- from anything
pub opening_selects : (opening : Opening) (q : Request) (word : ℕ) (ok : Bool) → ok ≡ true
    → checked_selects q.addr q.ap q.read ≡ true → OpeningLeads opening (Moved word ok) q (Selected word)
opening_selects opening q word ok right selects clean v u s t h k =
    let named = λ (mem_ap bank0 : Bool). (select_by q.ap mem_ap q.read q.addr bank0 selects).1 in
    let kept : CheckedHasMoved clean q word ok s t = checked_kept_plain clean (Moved word ok) q s t
    (ap is_exempt_register (named (port_selects_mem_ap s.target.select) (s.target.select.dpbanksel == 0))) h in
    select_moved clean q word s t (select_by q.ap true q.read q.addr true selects).0 named
    (subst (λ b. CheckedHasMoved clean q word b s t) right kept)

-- nothing is known afterwards
pub opening_forgets : (opening : Opening) (end : TxEnd) (q : Request) → OpeningLeads opening end q Anything
opening_forgets opening end q clean v u s t h k = tt

-- the worlds are held, or not
pub opening_is_over : (opening : Opening) → is_opening_over opening ≡ true → opening ≡ Over
opening_is_over Over e = refl
opening_is_over Anything e = absurd (cc)
opening_is_over Resting e = absurd (cc)
opening_is_over (Selected word) e = absurd (cc)

-- they are not held
pub opening_not_over : (opening : Opening) → is_opening_over opening ≡ false → opening ≡ Over → ⊥
opening_not_over opening e same = absurd (let f : true ≡ false = sym (ap is_opening_over same) ∙ e in cc)

-- ONES AND ZEROS, AND COMPLETION
or_true : (a b : Bool) → b ≡ true → (a || b) ≡ true
or_true true b e = refl
or_true false b e = e

selected_resets : (word : ℕ) (awaits : Bool) (x : Target) → (x.write_error ≡ true) ⊎ (x.select ≡ select_of word)
    → ((awaits || x.write_error) ≡ true) ⊎ (x.select ≡ select_of word)
selected_resets word awaits x (inl e) = inl (or_true awaits x.write_error e)
selected_resets word awaits x (inr e) = inr e

-- what is known before the worlds are held, after ones and zeros
pub opening_led : (opening : Opening) (ones : ℕ) (v u : Worlds) (s t : Port) → (opening ≡ Over → ⊥)
    → PortLeads s ones t → OpeningHolds opening v s → OpeningHolds opening u t
opening_led Anything ones v u s t other h k = tt
opening_led Resting ones v u s t other (a, b, first, leads, last) k =
    let x : IsCheckedResting a.target = port_completion_keeps_fact IsCheckedResting rest_completes s a first k in
    port_completion_keeps_fact IsCheckedResting rest_completes b t last
    (subst (λ p. IsCheckedResting p.target) (sym leads.after)
    (record { mem_ap = x.mem_ap; bank0 = x.bank0; pending = x.pending }))
opening_led (Selected word) ones v u s t other (a, b, first, leads, last) k =
    let x : IsCheckedSelected word a.target =
    port_completion_keeps_fact (IsCheckedSelected word) (selected_completes word) s a first k in
    port_completion_keeps_fact (IsCheckedSelected word) (selected_completes word) b t last
    (subst (λ p. IsCheckedSelected word p.target) (sym leads.after)
    (record { pending = x.pending; arrived = selected_resets word _ a.target x.arrived }))
opening_led Over ones v u s t other h k = absurd (other refl)

-- and once a pending transfer took effect
pub opening_completes : (opening : Opening) (v : Worlds) (s t : Port) → PortCompletes s t → OpeningHolds opening v s
    → OpeningHolds opening v t
opening_completes Anything v s t h k = tt
opening_completes Resting v s t h k = port_completion_keeps_fact IsCheckedResting rest_completes s t h k
opening_completes (Selected word) v s t h k =
    port_completion_keeps_fact (IsCheckedSelected word) (selected_completes word) s t h k
opening_completes Over v s t h k = (k.0, hold_port_later v s t h k.1)

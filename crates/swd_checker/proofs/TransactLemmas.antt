-- What the worlds hold after a whole transaction: the request, its answer, the data phase, and what takes effect
-- between these.
use Rattle.std.proofs.Common.{◌≡◌, ◌<◌, ◌^◌, ℕ, Bool, true, false, refl, sym, ap, subst, ◌∙◌, inl, inr, List}
use Rattle.std.specs.Prelude.{Option, Some, None, IfSome, not, ◌==◌}
use Rattle.std.specs.List.{Any}
use Rattle.swd_bits.specs.declared.request.Request.{Request}
use Rattle.swd_bits.specs.declared.request.Reg4.{Reg4}
use Rattle.swd_bits.specs.declared.request.Reg4.TheVariants.{R0, R4, R8, RC}
use Rattle.swd_bits.specs.Phases.{data_phase_number, data_phase_word}
use Rattle.swd_bits.proofs.PhaseLemmas.{data_phase_gives_word, flipped_data_phase_no_word}
use Rattle.swd_port.specs.declared.register.Register.{Register}
use Rattle.swd_port.specs.declared.register.Register.TheVariants.{DpidrRead, CtrlStatRead}
use Rattle.swd_port.specs.declared.state.Reply.TheVariants.{Okay, Faults, Silent}
use Rattle.swd_port.specs.declared.mark.Mark.{Mark}
use Rattle.swd_port.specs.declared.mark.Mark.TheVariants.{Clean, Wait, Flip, Deaf, Mute}
use Rattle.swd_port.specs.Choices.{port_flipped}
use Rattle.swd_port.specs.declared.state.AfterAck.{AfterAck}
use Rattle.swd_port.specs.declared.state.AfterAck.TheVariants.{Awaits, Drives}
use Rattle.swd_port.specs.Port.{Port, Target, port_register, port_selects_mem_ap, port_register_where}
use Rattle.swd_bits.specs.declared.tx.TxEnd.TheVariants.{NoAck}
use Rattle.swd_port.specs.Choices.{Choice, port_flip_of, IsPortMark, PortMayBeLate}
use Rattle.swd_port.specs.Answers.{is_exempt_register}
use Rattle.swd_port.specs.Asking.{port_answer, port_after_okay, port_after_wait, port_after_fault, port_value_in}
use Rattle.swd_port.specs.Asking.{port_phase_after, is_port_posted}
use Rattle.swd_port.specs.Completion.{PortCompletes, port_completion}
use Rattle.swd_port.specs.Leading.{port_line_awaits}
use Rattle.swd_port.specs.Moving.{PortTakes, PortGives, PortPasses, PortArrival, Arrives, Damaged, port_arrival}
use Rattle.swd_port.specs.Moving.{port_arrival_of, port_after_bits, port_bits_driven}
use Rattle.swd_port.proofs.CompletionLaws.{port_kept, port_completion_keeps_fact}
use Rattle.swd_observer.specs.Transacts.{ObservedMoves}
use Rattle.swd_checker.specs.declared.near.Near.{Near}
use Rattle.swd_checker.specs.declared.step.Asked.{Asked}
use Rattle.swd_checker.specs.declared.worlds.Kept.{Kept}
use Rattle.swd_checker.specs.declared.worlds.Worlds.{Worlds}
use Rattle.swd_checker.specs.Worlds.{World}
use Rattle.swd_checker.specs.Described.{WorldDescribes, IsCheckedNear, checked_changed_at}
use Rattle.swd_checker.specs.Holding.{KeptDescribes, WorldsHold, WorldsKeep, WorldsHoldPort}
use Rattle.swd_checker.specs.Laws.{WorldDescribesPort}
use Rattle.swd_checker.specs.Steps.{WorldAccepts, world_register, world_due}
use Rattle.swd_checker.specs.Asking.{IsAskedBy, IsAskedAlike, IsAskedAccepted, IsAskedTo}
use Rattle.swd_checker.specs.Adding.{IsCheckedPrompt, WorldsReturn, WorldsRead, WorldsArrive, WorldsDamage}
use Rattle.swd_checker.specs.Adding.{WorldsLose}
use Rattle.swd_checker.specs.Checked.{CheckedAsks, CheckedHasMoved, WasCheckedRefused, WasCheckedLost, checked_phase}
use Rattle.swd_checker.specs.Checked.{is_checked_clean, IsCheckedOkay}
use Rattle.swd_checker.specs.Reaching.{CheckedLink}
use Rattle.swd_checker.specs.Reached.{WorldsLoseOkay}
use Rattle.swd_checker.proofs.DescribedLemmas.{world_completes, world_at_completion}
use Rattle.swd_checker.proofs.AddingLemmas.{world_after_plain}
use Rattle.swd_checker.proofs.PhaseLemmas.{seen_whole, seen_unchanged, seen_changed, seen_undamaged, sent_changed}
use Rattle.swd_checker.proofs.CheckedLemmas.{CheckedOkayed, CheckedFaulted, CheckedWaited, CheckedUnseen, ignored}
use Rattle.swd_checker.proofs.CheckedLemmas.{accepted, refused, checked_okay_seen, checked_wait_seen}
use Rattle.swd_checker.proofs.CheckedLemmas.{checked_fault_seen}
use Rattle.swd_checker.proofs.CheckedLemmas.{checked_unseen, CheckedOkayLost, checked_okay_lost}
use Rattle.swd_checker.proofs.AddedLemmas.{WorldIsAdded}
use Rattle.swd_checker.proofs.DueLemmas.{world_names, world_due_okay, world_due_silent, world_never_faults}

-- COMPLETION
describes_more : (kept : Kept) (awaited : Bool) (c : Choice) (x : Target) → KeptDescribes kept awaited x
    → KeptDescribes kept awaited (port_completion c x)
describes_more kept awaited c x h =
    record { awaits = h.awaits; target = world_completes kept.world c x h.target }

-- what follows for each world of a list
pub any_more : (P Q : Kept → Type 0) (items : List Kept) → ((kept : Kept) → P kept → Q kept) → Any P items → Any Q items
any_more P Q items step (k, kept, within, is, holds) = (k, kept, within, is, step kept holds)

hold_completes : (v : Worlds) (awaited : Bool) (c : Choice) (x : Target) → WorldsHold v awaited x
    → WorldsHold v awaited (port_completion c x)
hold_completes v awaited c x h = record {
  held = λ f. any_more (λ kept. KeptDescribes kept awaited x) (λ kept. KeptDescribes kept awaited (port_completion c x))
      v.kept.items (λ kept d. describes_more kept awaited c x d) (h.held f);
}

-- the worlds still hold a target once its pending transfer takes effect
hold_later : (v : Worlds) (awaited : Bool) (s t : Port) → PortCompletes s t → WorldsHold v awaited s.target
    → WorldsHold v awaited t.target
hold_later v awaited s t h held =
    port_completion_keeps_fact (WorldsHold v awaited) (λ c x d. hold_completes v awaited c x d) s t h held

same_line : (s t : Port) → PortCompletes s t → port_line_awaits t.link.line ≡ port_line_awaits s.link.line
same_line s t h = ap (λ l. port_line_awaits l.line) (port_kept s t h).link

-- the worlds still hold a port
pub hold_port_later : (v : Worlds) (s t : Port) → PortCompletes s t → WorldsHoldPort v s → WorldsHoldPort v t
hold_port_later v s t h held = subst (λ b. WorldsHold v b t.target) (sym (same_line s t h))
    (hold_later v (port_line_awaits s.link.line) s t h held)

-- THE DATA PHASE OF A READ
pub hold_taken : (v : Worlds) (b asked t : Port) (bits : ℕ) → PortCompletes b asked → PortTakes asked bits t
    → WorldsHold v false b.target → WorldsHoldPort v t
hold_taken v b asked t bits first (d, e, before, takes, last) h =
    let k : WorldsHold v false d.target = hold_later v false asked d before (hold_later v false b asked first h) in
    hold_port_later v e t last (subst (WorldsHoldPort v) (sym takes.after) k)

-- what the target awaits or drives
pub line_later : (s t : Port) (line : AfterAck) → PortCompletes s t → s.link.line ≡ line → t.link.line ≡ line
line_later s t line h e = ap (λ l. l.line) (port_kept s t h).link ∙ e

-- the bits that are taken
pub bits_taken : (b asked t : Port) (bits sent : ℕ) → b.link.line ≡ Drives sent → PortCompletes b asked
    → PortTakes asked bits t → bits ≡ sent
bits_taken b asked t bits sent line first (d, e, before, takes, last) =
    takes.gets ∙ ap port_bits_driven (line_later asked d (Drives sent) before
    (line_later b asked (Drives sent) first line))

-- THE DATA PHASE OF A WRITE
pub hold_given : (v : Worlds) (w : World) (r : Register) (flip : Option ℕ) (b asked t : Port) (bits : ℕ)
    → b.link.line ≡ Awaits r flip → PortCompletes b asked → PortGives asked bits t → WorldDescribes w b.target
    → w.awaits ≡ false
    → ((refuses : Bool) (x : Target) → WorldDescribes w x
    → WorldsHold v w.awaits (port_after_bits refuses (port_arrival_of r (data_phase_word (port_flipped flip bits))) x))
    → WorldsHoldPort v t
hold_given v w r flip b asked t bits line first (d, e, before, gives, last) described idle arrives =
    let later : WorldDescribes w d.target = port_completion_keeps_fact (WorldDescribes w) (world_completes w) asked d
    before (port_completion_keeps_fact (WorldDescribes w) (world_completes w) b asked first described) in
    let on : d.link.line ≡ Awaits r flip =
    line_later asked d (Awaits r flip) before (line_later b asked (Awaits r flip) first line) in
    hold_port_later v e t last (subst (WorldsHoldPort v) (sym gives.after)
    (subst (λ a. WorldsHold v false (port_after_bits gives.refuses a d.target))
    (sym (ap (λ l. port_arrival l bits) on))
    (subst (λ z. WorldsHold v z (port_after_bits gives.refuses
    (port_arrival_of r (data_phase_word (port_flipped flip bits))) d.target)) idle
    (arrives gives.refuses d.target later))))

-- WAIT AND FAULT
pub hold_passed : (v : Worlds) (b asked t : Port) → PortCompletes b asked → PortPasses asked t → WorldsHoldPort v b
    → WorldsHoldPort v t
hold_passed v b asked t first (d, e, before, passes, last) h =
    let k : WorldsHoldPort v d = hold_port_later v asked d before (hold_port_later v b asked first h) in
    hold_port_later v e t last (subst (WorldsHoldPort v) (sym passes.after) k)

pub hold_waited : (v : Worlds) (w : World) (q : Request) (r : Register) (a b : Port) → WorldDescribesPort w a
    → CheckedWaited q r a b
    → ((x : Target) → WorldDescribes w x → port_answer x q ≡ Okay → is_exempt_register r ≡ false
    → WorldsHold v w.awaits (port_after_wait r x)) → WorldsHoldPort v b
hold_waited v w q r a b d h defers =
    subst (λ l. WorldsHold v l b.target) (sym (ap port_line_awaits h.line ∙ d.awaits))
    (subst (WorldsHold v w.awaits) (sym h.target) (defers a.target d.target h.answer h.plain))

pub hold_faulted : (v : Worlds) (w : World) (q : Request) (r : Register) (a b : Port) → WorldDescribesPort w a
    → CheckedFaulted q r a b
    → ((x : Target) → WorldDescribes w x → x.pending ≡ None → port_answer x q ≡ Faults
    → WorldsHold v w.awaits (port_after_fault r q.ap x)) → WorldsHoldPort v b
hold_faulted v w q r a b d h refuses =
    subst (λ l. WorldsHold v l b.target) (sym (ap port_line_awaits h.line ∙ d.awaits))
    (subst (WorldsHold v w.awaits) (sym h.target) (refuses a.target d.target h.settled h.answer))

-- WHAT WAS SEEN OF A DATA PHASE
-- a word that is seen with right parity is what the target returned
pub moved_whole : (mark : Mark) (word value : ℕ) → word < 2 ^ 32 → value < 2 ^ 32
    → checked_phase true word ≡ port_flipped (port_flip_of mark) (data_phase_number value) → word ≡ value
moved_whole Clean word value h k e = seen_whole word value h k e
moved_whole Wait word value h k e = seen_whole word value h k e
moved_whole (Flip place) word value h k e = absurd (seen_unchanged word value place h k e)
moved_whole Deaf word value h k e = seen_whole word value h k e
moved_whole (Mute place) word value h k e = seen_whole word value h k e

not_clean : (clean : Bool) (mark : Mark) → is_checked_clean mark ≡ false → (clean ≡ true → is_checked_clean mark ≡ true)
    → clean ≡ false
not_clean true mark e h = absurd (let f : true ≡ false = sym (h refl) ∙ e in cc)
not_clean false mark e h = refl

-- a read whose word arrived with one bit changed
record ReadChanged (clean : Bool) (c : Choice) (word value : ℕ) : Type 0 where
  place : ℕ
  inside : place < 33
  may : clean ≡ false
  prompt : IsCheckedPrompt c
  is : value ≡ checked_changed_at word place

moved_changed : (clean : Bool) (mark : Mark) (c : Choice) (word value : ℕ) → IsPortMark mark → PortMayBeLate mark c
    → (clean ≡ true → is_checked_clean mark ≡ true) → word < 2 ^ 32 → value < 2 ^ 32
    → checked_phase false word ≡ port_flipped (port_flip_of mark) (data_phase_number value)
    → ReadChanged clean c word value
moved_changed clean Clean c word value legal late undamaged h k e = absurd (seen_undamaged word value h k e)
moved_changed clean Wait c word value legal late undamaged h k e = absurd (seen_undamaged word value h k e)
moved_changed clean Deaf c word value legal late undamaged h k e = absurd (seen_undamaged word value h k e)
moved_changed clean (Mute place) c word value legal late undamaged h k e = absurd (seen_undamaged word value h k e)
moved_changed clean (Flip place) c word value legal late undamaged h k e = let p = late refl in record {
  place = place;
  inside = legal;
  may = not_clean clean (Flip place) refl undamaged;
  prompt = record { debug = p.0; system = p.1 };
  is = seen_changed word value place h k legal e;
}

-- a write's word that was sent with right parity: it arrives, or with one bit changed
arrives_whole : (P : PortArrival → Type 0) (r : Register) (word : ℕ) → word < 2 ^ 32 → P (Arrives r word)
    → P (port_arrival_of r (data_phase_word (checked_phase true word)))
arrives_whole P r word h arrives = subst (λ o. P (port_arrival_of r o)) (sym (data_phase_gives_word word h)) arrives

-- a word that was sent with right parity
pub written_whole : (P : PortArrival → Type 0) (clean : Bool) (mark : Mark) (r : Register) (word : ℕ) → word < 2 ^ 32
    → (clean ≡ true → is_checked_clean mark ≡ true) → P (Arrives r word) → (clean ≡ false → P Damaged)
    → P (port_arrival_of r (data_phase_word (port_flipped (port_flip_of mark) (checked_phase true word))))
written_whole P clean Clean r word h undamaged arrives damages = arrives_whole P r word h arrives
written_whole P clean Wait r word h undamaged arrives damages = arrives_whole P r word h arrives
written_whole P clean Deaf r word h undamaged arrives damages = arrives_whole P r word h arrives
written_whole P clean (Mute place) r word h undamaged arrives damages = arrives_whole P r word h arrives
written_whole P clean (Flip place) r word h undamaged arrives damages =
    subst (λ o. P (port_arrival_of r o)) (sym (flipped_data_phase_no_word word place h))
    (damages (not_clean clean (Flip place) refl undamaged))

-- one that was sent with wrong parity: it arrives so, or one bit more is changed
arrives_damaged : (P : PortArrival → Type 0) (r : Register) (word : ℕ) → word < 2 ^ 32 → P Damaged
    → P (port_arrival_of r (data_phase_word (checked_phase false word)))
arrives_damaged P r word h damages =
    subst (λ o. P (port_arrival_of r o)) (sym (flipped_data_phase_no_word word 32 h)) damages

written_changed : (P : PortArrival → Type 0) (clean : Bool) (mark : Mark) (r : Register) (word : ℕ) → word < 2 ^ 32
    → IsPortMark mark → (clean ≡ true → is_checked_clean mark ≡ true) → P Damaged
    → (clean ≡ false → (place : ℕ) → place < 33 → P (Arrives r (checked_changed_at word place)))
    → P (port_arrival_of r (data_phase_word (port_flipped (port_flip_of mark) (checked_phase false word))))
written_changed P clean Clean r word h legal undamaged damages cures = arrives_damaged P r word h damages
written_changed P clean Wait r word h legal undamaged damages cures = arrives_damaged P r word h damages
written_changed P clean Deaf r word h legal undamaged damages cures = arrives_damaged P r word h damages
written_changed P clean (Mute place) r word h legal undamaged damages cures = arrives_damaged P r word h damages
written_changed P clean (Flip place) r word h legal undamaged damages cures =
    elim (sent_changed word place h legal)
    as (λ _. P (port_arrival_of r (data_phase_word (port_flipped (Some place) (checked_phase false word))))) [
      | inl odd ↦ subst (λ o. P (port_arrival_of r o)) (sym odd) damages
      | inr even ↦ subst (λ o. P (port_arrival_of r o)) (sym even)
          (cures (not_clean clean (Flip place) refl undamaged) place legal)
    ]

-- OK THAT WAS SEEN
record Accepted (asked : Asked) (s p : Port) (h : CheckedAsks asked.clean s asked.request 1 p) : Type 0 where
  described : WorldDescribes asked.world h.before.target
  okayed : CheckedOkayed h.mark h.choice asked.request asked.register h.before h.after

accepted_at : (asked : Asked) (s p : Port) (h : CheckedAsks asked.clean s asked.request 1 p) → IsAskedBy asked
    → WorldDescribesPort asked.world s → Accepted asked s p h
accepted_at asked s p h is d =
    let later : WorldDescribesPort asked.world h.before = world_at_completion asked.world s h.before h.completes d in
    record {
      described = later.target;
      okayed = checked_okay_seen asked.clean s asked.request p asked.register h
          (world_names asked.world h.before.target asked.request later.target ∙ sym is.register);
    }

-- there is such a world
pub moves_none : (asked : Asked) (v : Worlds) (result : Option Asked) (word : ℕ) (ok : Bool) → result ≡ None
    → ((c : Choice) (x : Target) → IsAskedBy asked → WorldDescribes asked.world x
    → (is_exempt_register asked.register ≡ false → x.pending ≡ None) → port_answer x asked.request ≡ Okay
    → IsAskedAccepted result asked.register c x) → (s t : Port) → IsAskedBy asked
    → CheckedHasMoved asked.clean asked.request word ok s t → WorldDescribesPort asked.world s → WorldsHoldPort v t
moves_none asked v result word ok none accepts s t is moved d =
    let k : Accepted asked s moved.asked moved.asks = accepted_at asked s moved.asked moved.asks is d in
    absurd (subst (λ o. IsAskedAccepted o asked.register moved.asks.choice moved.asks.before.target) none
    (accepts moved.asks.choice moved.asks.before.target is k.described k.okayed.settled k.okayed.answer))

-- there is such a world
pub moves_some : (asked now : Asked) (v : Worlds) (result : Option Asked) (word : ℕ) (ok : Bool) → result ≡ Some now
    → IfSome result (λ z. IsAskedAlike z asked × (z.world.awaits ≡ false))
    → ((c : Choice) (x : Target) → IsAskedBy asked → WorldDescribes asked.world x
    → (is_exempt_register asked.register ≡ false → x.pending ≡ None) → port_answer x asked.request ≡ Okay
    → IsAskedAccepted result asked.register c x)
    → ((s t : Port) → IsAskedAlike now asked → now.world.awaits ≡ false → IsAskedTo asked now.world
    → IsAskedBy asked → CheckedHasMoved asked.clean asked.request word ok s t → WorldDescribesPort asked.world s
    → WorldsHoldPort v t) → (s t : Port) → IsAskedBy asked
    → CheckedHasMoved asked.clean asked.request word ok s t → WorldDescribesPort asked.world s → WorldsHoldPort v t
moves_some asked now v result word ok some same accepts moves s t is moved d =
    let k : IsAskedAlike now asked × (now.world.awaits ≡ false) =
    subst (λ o. IfSome o (λ z. IsAskedAlike z asked × (z.world.awaits ≡ false))) some same in
    moves s t k.0 k.1 (λ c x by h settled e. subst (λ o. IsAskedAccepted o asked.register c x) some
    (accepts c x by h settled e)) is moved d

-- a read drives its word
pub phase_read : (read : Bool) (r : Register) (flip : Option ℕ) (value : ℕ) → read ≡ true
    → port_phase_after read r flip value ≡ Drives (port_flipped flip (data_phase_number value))
phase_read true r flip value e = refl
phase_read false r flip value e = absurd (cc)

-- a write awaits its word
pub phase_written : (read : Bool) (r : Register) (flip : Option ℕ) (value : ℕ) → read ≡ false
    → port_phase_after read r flip value ≡ Awaits r flip
phase_written true r flip value e = absurd (cc)
phase_written false r flip value e = refl

-- the data phase of a read
pub takes : (read : Bool) (a t : Port) (bits : ℕ) → read ≡ true → ObservedMoves read a bits t → PortTakes a bits t
takes true a t bits e h = h
takes false a t bits e h = absurd (cc)

-- the data phase of a write
pub gives : (read : Bool) (a t : Port) (bits : ℕ) → read ≡ false → ObservedMoves read a bits t → PortGives a bits t
gives true a t bits e h = absurd (cc)
gives false a t bits e h = h

-- DPIDR
record DpidrMoved (clean : Bool) (q : Request) (word : ℕ) (ok : Bool) (s t : Port)
    (h : CheckedHasMoved clean q word ok s t) : Type 0 where
  okayed : CheckedOkayed h.asks.mark h.asks.choice q DpidrRead h.asks.before h.asks.after
  bits : checked_phase ok word ≡ port_flipped (port_flip_of h.asks.mark)
      (data_phase_number h.asks.before.target.identification)
  same : h.asks.before.target.identification ≡ s.target.identification

dpidr_moved : (clean : Bool) (q : Request) (word : ℕ) (ok : Bool) (s t : Port) → q.read ≡ true
    → ((mem_ap bank0 : Bool) → port_register_where mem_ap bank0 q.ap q.read q.addr ≡ DpidrRead)
    → (h : CheckedHasMoved clean q word ok s t) → DpidrMoved clean q word ok s t h
dpidr_moved clean q word ok s t read named h =
    let k : CheckedOkayed h.asks.mark h.asks.choice q DpidrRead h.asks.before h.asks.after =
    checked_okay_seen clean s q h.asked DpidrRead h.asks
    (named (port_selects_mem_ap h.asks.before.target.select) (h.asks.before.target.select.dpbanksel == 0)) in
    record {
      okayed = k;
      bits = bits_taken h.asks.after h.asked t (checked_phase ok word) _
          (k.line ∙ phase_read q.read DpidrRead (port_flip_of h.asks.mark) _ read) h.asks.then
          (takes q.read h.asked t (checked_phase ok word) read h.moves);
      same = (port_kept s h.asks.before h.asks.completes).identification;
    }

-- a read of DPIDR with right parity returns its word,
pub dpidr_whole : (clean : Bool) (q : Request) (word : ℕ) (s t : Port) → q.read ≡ true
    → ((mem_ap bank0 : Bool) → port_register_where mem_ap bank0 q.ap q.read q.addr ≡ DpidrRead)
    → CheckedHasMoved clean q word true s t
    → word ≡ s.target.identification
dpidr_whole clean q word s t read named h =
    let k : DpidrMoved clean q word true s t h = dpidr_moved clean q word true s t read named h in
    moved_whole h.asks.mark word h.asks.before.target.identification h.small (k.okayed.word read) k.bits ∙ k.same

-- and one with wrong parity returns it with one bit changed
pub dpidr_changed : (clean : Bool) (q : Request) (word : ℕ) (s t : Port) → q.read ≡ true
    → ((mem_ap bank0 : Bool) → port_register_where mem_ap bank0 q.ap q.read q.addr ≡ DpidrRead)
    → CheckedHasMoved clean q word false s t
    → (place : ℕ) × (place < 33) × (s.target.identification ≡ checked_changed_at word place)
dpidr_changed clean q word s t read named h =
    let k : DpidrMoved clean q word false s t h = dpidr_moved clean q word false s t read named h in
    let z : ReadChanged clean h.asks.choice word h.asks.before.target.identification =
    moved_changed clean h.asks.mark h.asks.choice word h.asks.before.target.identification k.okayed.legal k.okayed.late
    h.asks.undamaged h.small (k.okayed.word read) k.bits in
    (z.place, z.inside, sym k.same ∙ z.is)

-- a read: which 33 bits were seen, and what is left of the worlds that hold the target after OK
record ReadAfter (asked : Asked) (word : ℕ) (ok : Bool) (s t : Port)
    (moved : CheckedHasMoved asked.clean asked.request word ok s t) : Type 0 where
  value : port_value_in moved.asks.choice asked.register moved.asks.before.target < 2 ^ 32
  bits : checked_phase ok word ≡ port_flipped (port_flip_of moved.asks.mark)
      (data_phase_number (port_value_in moved.asks.choice asked.register moved.asks.before.target))

read_after : (asked : Asked) (word : ℕ) (ok : Bool) (s t : Port)
    (moved : CheckedHasMoved asked.clean asked.request word ok s t) → asked.request.read ≡ true
    → Accepted asked s moved.asked moved.asks → ReadAfter asked word ok s t moved
read_after asked word ok s t moved read k = record {
  value = k.okayed.word read;
  bits = bits_taken moved.asks.after moved.asked t (checked_phase ok word) _
      (k.okayed.line ∙ phase_read asked.request.read asked.register (port_flip_of moved.asks.mark) _ read)
      moved.asks.then (takes asked.request.read moved.asked t (checked_phase ok word) read moved.moves);
}

read_holds : (asked : Asked) (v : Worlds) (word : ℕ) (ok : Bool) (s t : Port)
    (moved : CheckedHasMoved asked.clean asked.request word ok s t) → asked.request.read ≡ true
    → Accepted asked s moved.asked moved.asks
    → WorldsHold v false (port_after_okay moved.asks.choice asked.register moved.asks.before.target)
    → WorldsHoldPort v t
read_holds asked v word ok s t moved read k h =
    hold_taken v moved.asks.after moved.asked t (checked_phase ok word) moved.asks.then
    (takes asked.request.read moved.asked t (checked_phase ok word) read moved.moves)
    (subst (WorldsHold v false) (sym k.okayed.target) h)

-- a read with right parity
pub moves_read : (asked now : Asked) (v : Worlds) (seen : Near) (word : ℕ) (ok : Bool) (s t : Port)
    → asked.request.read ≡ true → ok ≡ true → IsAskedAlike now asked → now.world.awaits ≡ false
    → IsAskedTo asked now.world → WorldsRead v now.world now.register seen true → IsCheckedNear seen word
    → IsAskedBy asked → CheckedHasMoved asked.clean asked.request word ok s t → WorldDescribesPort asked.world s
    → WorldsHoldPort v t
moves_read asked now v seen word ok s t read right same idle accepts reads near is moved d =
    let k : Accepted asked s moved.asked moved.asks = accepted_at asked s moved.asked moved.asks is d in
    let p : ReadAfter asked word ok s t moved = read_after asked word ok s t moved read k in
    let c : Choice = moved.asks.choice in
    let x : Target = moved.asks.before.target in
    let e : word ≡ port_value_in c asked.register x = moved_whole moved.asks.mark word _ moved.small p.value
    (ap (λ b. checked_phase b word) (sym right) ∙ p.bits) in
    let h : WorldsHold v now.world.awaits (port_after_okay c asked.register x) =
    subst (λ r. WorldsRead v now.world r seen true) same.register reads c x
    (accepts c x is k.described k.okayed.settled k.okayed.answer) (λ f. absurd (cc)) (subst (IsCheckedNear seen) e near)
    in
    read_holds asked v word ok s t moved read k (subst (λ a. WorldsHold v a (port_after_okay c asked.register x)) idle
    h)

-- a read with wrong parity
pub moves_read_damaged : (asked now : Asked) (v : Worlds) (word : ℕ) (ok : Bool) (s t : Port)
    → asked.request.read ≡ true → ok ≡ false → IsAskedAlike now asked → now.world.awaits ≡ false
    → IsAskedTo asked now.world
    → (now.clean ≡ false → (place : ℕ) → place < 33 → (c : Choice) (x : Target)
    → WorldAccepts now.world now.register c x → IsCheckedPrompt c
    → port_value_in c now.register x ≡ checked_changed_at word place
    → WorldsHold v now.world.awaits (port_after_okay c now.register x)) → IsAskedBy asked
    → CheckedHasMoved asked.clean asked.request word ok s t → WorldDescribesPort asked.world s → WorldsHoldPort v t
moves_read_damaged asked now v word ok s t read wrong same idle accepts reads is moved d =
    let k : Accepted asked s moved.asked moved.asks = accepted_at asked s moved.asked moved.asks is d in
    let p : ReadAfter asked word ok s t moved = read_after asked word ok s t moved read k in
    let c : Choice = moved.asks.choice in
    let x : Target = moved.asks.before.target in
    let z : ReadChanged asked.clean c word (port_value_in c asked.register x) =
    moved_changed asked.clean moved.asks.mark c word _ k.okayed.legal k.okayed.late moved.asks.undamaged moved.small
    p.value (ap (λ b. checked_phase b word) (sym wrong) ∙ p.bits) in
    let h : WorldsHold v now.world.awaits (port_after_okay c asked.register x) =
    subst (λ r. WorldAccepts now.world r c x → IsCheckedPrompt c
    → port_value_in c r x ≡ checked_changed_at word z.place → WorldsHold v now.world.awaits (port_after_okay c r x))
    same.register (reads (same.clean ∙ z.may) z.place z.inside c x)
    (accepts c x is k.described k.okayed.settled k.okayed.answer) z.prompt z.is in
    read_holds asked v word ok s t moved read k (subst (λ a. WorldsHold v a (port_after_okay c asked.register x)) idle
    h)

-- a write
record WritesOnly (r : Register) : Type 0 where
  posted : is_port_posted r ≡ false
  other : r ≡ DpidrRead → ⊥
  status : r ≡ CtrlStatRead → ⊥

write_names : (ap m b read : Bool) (addr : Reg4) → read ≡ false → (r : Register)
    → port_register_where m b ap read addr ≡ r → WritesOnly r
write_names true true b false R0 e r f = subst WritesOnly f
    (record { posted = refl; other = λ g. cc; status = λ g. cc })
write_names true true b false R4 e r f = subst WritesOnly f
    (record { posted = refl; other = λ g. cc; status = λ g. cc })
write_names true true b false R8 e r f = subst WritesOnly f
    (record { posted = refl; other = λ g. cc; status = λ g. cc })
write_names true true b false RC e r f = subst WritesOnly f
    (record { posted = refl; other = λ g. cc; status = λ g. cc })
write_names true false b false addr e r f =
    subst WritesOnly f (record { posted = refl; other = λ g. cc; status = λ g. cc })
write_names false m b false R0 e r f = subst WritesOnly f (record { posted = refl; other = λ g. cc; status = λ g. cc })
write_names false m true false R4 e r f =
    subst WritesOnly f (record { posted = refl; other = λ g. cc; status = λ g. cc })
write_names false m false false R4 e r f =
    subst WritesOnly f (record { posted = refl; other = λ g. cc; status = λ g. cc })
write_names false m b false R8 e r f = subst WritesOnly f (record { posted = refl; other = λ g. cc; status = λ g. cc })
write_names false m b false RC e r f = subst WritesOnly f (record { posted = refl; other = λ g. cc; status = λ g. cc })
write_names ap m b true addr e r f = absurd (cc)

record WriteAfter (asked : Asked) (w : World) (s p : Port) (h : CheckedAsks asked.clean s asked.request 1 p) : Type 0
  where
    described : WorldDescribes w h.after.target
    line : h.after.link.line ≡ Awaits asked.register (port_flip_of h.mark)
    settled : is_exempt_register asked.register ≡ false → w.pending ≡ None

write_after : (asked : Asked) (w : World) (s p : Port) (h : CheckedAsks asked.clean s asked.request 1 p)
    → asked.request.read ≡ false → IsAskedBy asked → Accepted asked s p h → IsAskedTo asked w
    → WriteAfter asked w s p h
write_after asked w s p h write is k accepts =
    let a : WorldAccepts w asked.register h.choice h.before.target =
    accepts h.choice h.before.target is k.described k.okayed.settled k.okayed.answer in
    let o : WritesOnly asked.register = write_names asked.request.ap asked.world.mem_ap asked.world.bank0
    asked.request.read asked.request.addr write asked.register (sym is.register) in
    record {
      described = subst (WorldDescribes w) (sym k.okayed.target)
          (world_after_plain w asked.register h.choice h.before.target o.posted o.other o.status a);
      line = k.okayed.line ∙ phase_written asked.request.read asked.register (port_flip_of h.mark) _ write;
      settled = a.settled;
    }

write_holds : (asked : Asked) (v : Worlds) (w : World) (word : ℕ) (ok : Bool) (s t : Port)
    (moved : CheckedHasMoved asked.clean asked.request word ok s t) → asked.request.read ≡ false
    → WriteAfter asked w s moved.asked moved.asks → w.awaits ≡ false
    → ((refuses : Bool) (x : Target) → WorldDescribes w x
    → WorldsHold v w.awaits (port_after_bits refuses (port_arrival_of asked.register
    (data_phase_word (port_flipped (port_flip_of moved.asks.mark) (checked_phase ok word)))) x)) → WorldsHoldPort v t
write_holds asked v w word ok s t moved write p idle arrives =
    hold_given v w asked.register (port_flip_of moved.asks.mark) moved.asks.after moved.asked t (checked_phase ok word)
    p.line moved.asks.then (gives asked.request.read moved.asked t (checked_phase ok word) write moved.moves)
    p.described
    idle arrives

-- a write with right parity
pub moves_write : (asked now : Asked) (v : Worlds) (word : ℕ) (ok : Bool) (s t : Port)
    → asked.request.read ≡ false → ok ≡ true → IsAskedAlike now asked → now.world.awaits ≡ false
    → IsAskedTo asked now.world → WorldsArrive v now.world now.register word
    → (now.clean ≡ false → WorldsDamage v now.world) → IsAskedBy asked
    → CheckedHasMoved asked.clean asked.request word ok s t → WorldDescribesPort asked.world s → WorldsHoldPort v t
moves_write asked now v word ok s t write right same idle accepts arrives damages is moved d =
    let k : Accepted asked s moved.asked moved.asks = accepted_at asked s moved.asked moved.asks is d in
    let p : WriteAfter asked now.world s moved.asked moved.asks =
    write_after asked now.world s moved.asked moved.asks write is k accepts in
    let arrive : WorldsArrive v now.world asked.register word =
    subst (λ r. WorldsArrive v now.world r word) same.register arrives in
    write_holds asked v now.world word ok s t moved write p idle (λ refuses x h.
    subst (λ b. WorldsHold v now.world.awaits (port_after_bits refuses (port_arrival_of asked.register
    (data_phase_word (port_flipped (port_flip_of moved.asks.mark) (checked_phase b word)))) x)) (sym right)
    (written_whole (λ a. WorldsHold v now.world.awaits (port_after_bits refuses a x)) asked.clean moved.asks.mark
    asked.register word moved.small moved.asks.undamaged (arrive refuses x p.settled h)
    (λ may. damages (same.clean ∙ may) refuses x h)))

-- a write with wrong parity
pub moves_write_damaged : (asked now : Asked) (v : Worlds) (word : ℕ) (ok : Bool) (s t : Port)
    → asked.request.read ≡ false → ok ≡ false → IsAskedAlike now asked → now.world.awaits ≡ false
    → IsAskedTo asked now.world → WorldsDamage v now.world
    → (now.clean ≡ false → (place : ℕ) → place < 33
    → WorldsArrive v now.world now.register (checked_changed_at word place)) → IsAskedBy asked
    → CheckedHasMoved asked.clean asked.request word ok s t → WorldDescribesPort asked.world s → WorldsHoldPort v t
moves_write_damaged asked now v word ok s t write wrong same idle accepts damages cures is moved d =
    let k : Accepted asked s moved.asked moved.asks = accepted_at asked s moved.asked moved.asks is d in
    let p : WriteAfter asked now.world s moved.asked moved.asks =
    write_after asked now.world s moved.asked moved.asks write is k accepts in
    write_holds asked v now.world word ok s t moved write p idle (λ refuses x h.
    subst (λ b. WorldsHold v now.world.awaits (port_after_bits refuses (port_arrival_of asked.register
    (data_phase_word (port_flipped (port_flip_of moved.asks.mark) (checked_phase b word)))) x)) (sym wrong)
    (written_changed (λ a. WorldsHold v now.world.awaits (port_after_bits refuses a x)) asked.clean moved.asks.mark
    asked.register word moved.small k.okayed.legal moved.asks.undamaged (damages refuses x h)
    (λ may place inside. subst (λ r. WorldsArrive v now.world r (checked_changed_at word place)) same.register
    (cures (same.clean ∙ may) place inside) refuses x p.settled h)))

-- NO ACKNOWLEDGEMENT
abbrev LosesTo : Asked → Worlds → Type 0
LosesTo asked v = WorldsLose v asked.world asked.request asked.register

awaits_after : (read : Bool) (r : Register) (flip : Option ℕ) (value : ℕ)
    → port_line_awaits (port_phase_after read r flip value) ≡ not read
awaits_after true r flip value = refl
awaits_after false r flip value = refl

hold_same : (v : Worlds) (w : World) (a b : Port) → WorldDescribesPort w a → b.target ≡ a.target
    → b.link.line ≡ a.link.line → ((x : Target) → WorldDescribes w x → WorldsHold v w.awaits x) → WorldsHoldPort v b
hold_same v w a b d target line holds = subst (λ l. WorldsHold v l b.target) (sym (ap port_line_awaits line ∙ d.awaits))
    (subst (WorldsHold v w.awaits) (sym target) (holds a.target d.target))

lost_nothing : (asked : Asked) (v : Worlds) (seen : ℕ) (clean : Bool) (a : Port) → asked.clean ≡ clean
    → (asked.clean ≡ false → LosesTo asked v)
    → (asked.clean ≡ true → (seen ≡ 7) × (port_answer a.target asked.request ≡ Silent))
    → ((seen ≡ 7) × (port_answer a.target asked.request ≡ Silent)
    → (x : Target) → WorldDescribes asked.world x → WorldsHold v asked.world.awaits x) → (x : Target)
    → WorldDescribes asked.world x → WorldsHold v asked.world.awaits x
lost_nothing asked v seen true a e loses plain quiet = quiet (plain e)
lost_nothing asked v seen false a e loses plain quiet = (loses e).nothing

-- OK that wasn't seen
okay_lost_to : (asked : Asked) (v : Worlds) (mark : Mark) (c : Choice) (a b : Port) → WorldDescribesPort asked.world a
    → CheckedOkayed mark c asked.request asked.register a b
    → ((x : Target) → WorldDescribes asked.world x → (is_exempt_register asked.register ≡ false → x.pending ≡ None)
    → port_answer x asked.request ≡ Okay
    → WorldsHold v (not asked.request.read) (port_after_okay c asked.register x)) → WorldsHoldPort v b
okay_lost_to asked v mark c a b d k okays =
    subst (λ l. WorldsHold v l b.target)
    (sym (ap port_line_awaits k.line ∙ awaits_after asked.request.read asked.register (port_flip_of mark) _))
    (subst (WorldsHold v (not asked.request.read)) (sym k.target) (okays a.target d.target k.settled k.answer))

lost_to : (asked : Asked) (v : Worlds) (seen : ℕ) (a b : Port) → WorldDescribesPort asked.world a
    → CheckedUnseen asked.request asked.register seen asked.clean a b → (asked.clean ≡ false → LosesTo asked v)
    → ((seen ≡ 7) × (port_answer a.target asked.request ≡ Silent)
    → (x : Target) → WorldDescribes asked.world x → WorldsHold v asked.world.awaits x) → WorldsHoldPort v b
lost_to asked v seen a b d (ignored target line plain) loses quiet = hold_same v asked.world a b d target line
    (lost_nothing asked v seen asked.clean a refl loses plain quiet)
lost_to asked v seen a b d (accepted mark c k prompt may) loses quiet =
    okay_lost_to asked v mark c a b d k (λ x h settled e. (loses may).okays c x h settled e prompt)
lost_to asked v seen a b d (refused k may) loses quiet =
    hold_faulted v asked.world asked.request asked.register a b d k (loses may).faults

loses_by : (asked : Asked) (v : Worlds) (seen : ℕ) (s t : Port) → IsAskedBy asked
    → WasCheckedLost asked.clean asked.request seen s t → WorldDescribesPort asked.world s
    → (asked.clean ≡ false → LosesTo asked v)
    → ((a : Port) → WorldDescribes asked.world a.target → (seen ≡ 7) × (port_answer a.target asked.request ≡ Silent)
    → (x : Target) → WorldDescribes asked.world x → WorldsHold v asked.world.awaits x) → WorldsHoldPort v t
loses_by asked v seen s t is lost d loses quiet =
    let h : CheckedAsks asked.clean s asked.request seen t = lost.asks in
    let later : WorldDescribesPort asked.world h.before = world_at_completion asked.world s h.before h.completes d in
    hold_port_later v h.after t h.then (lost_to asked v seen h.before h.after later (checked_unseen asked.clean h.mark
    h.choice asked.register h.before asked.request seen h.after lost.none h.undamaged
    (world_names asked.world h.before.target asked.request later.target ∙ sym is.register) h.asks) loses
    (quiet h.before later.target))

-- nobody was to answer
pub loses_silently : (asked : Asked) (v : Worlds) (seen : ℕ) → world_due asked.world asked.request ≡ Silent
    → WorldIsAdded asked.world v → (s t : Port) → IsAskedBy asked
    → WasCheckedLost asked.clean asked.request seen s t → WorldDescribesPort asked.world s → WorldsHoldPort v t
loses_silently asked v seen silent adds s t is lost d = loses_by asked v seen s t is lost d (λ may. record {
  nothing = adds;
  faults = λ x h settled e. absurd (world_never_faults asked.world x asked.request settled h e silent);
  okays = λ c x h settled e prompt. absurd (let f : Silent ≡ Okay = sym silent
      ∙ world_due_okay asked.world x asked.request h e in cc);
}) (λ a h quiet. adds)

-- where nothing is lost, the line is undriven after a request that isn't to be answered
pub loses_never : (asked : Asked) (v : Worlds) (seen : ℕ) → not asked.clean ≡ false
    → (world_due asked.world asked.request ≡ Silent → seen ≡ 7 → ⊥) → (s t : Port) → IsAskedBy asked
    → WasCheckedLost asked.clean asked.request seen s t → WorldDescribesPort asked.world s → WorldsHoldPort v t
loses_never asked v seen clean never s t is lost d = loses_by asked v seen s t is lost d
    (λ may. absurd (let e : true ≡ false = ap not (sym may) ∙ clean in cc))
    (λ a h quiet. absurd (never (world_due_silent asked.world a.target asked.request h quiet.1) quiet.0))

-- the same request, of which one more is damaged or lost
pub asked_again : (asked lost : Asked) → IsAskedAlike lost asked → lost.world ≡ asked.world → IsAskedBy asked
    → IsAskedBy lost
asked_again asked lost same world is = record {
  register = same.register ∙ is.register ∙ ap (λ q. world_register asked.world q) (sym same.request)
      ∙ ap (λ w. world_register w lost.request) (sym world);
}

-- the request wasn't seen, was refused, or accepted
pub loses_any : (asked lost : Asked) (v : Worlds) (seen : ℕ) → IsAskedAlike lost asked → lost.world ≡ asked.world
    → (IsAskedBy lost → WorldsLose v lost.world lost.request lost.register) → (s t : Port) → IsAskedBy asked
    → WasCheckedLost asked.clean asked.request seen s t → WorldDescribesPort asked.world s → WorldsHoldPort v t
loses_any asked lost v seen same world loses s t is gone d =
    let k : WorldsLose v asked.world asked.request asked.register =
    subst (λ r. WorldsLose v asked.world asked.request r) same.register
    (subst (λ q. WorldsLose v asked.world q lost.register) same.request
    (subst (λ w. WorldsLose v w lost.request lost.register) world (loses (asked_again asked lost same world is)))) in
    loses_by asked v seen s t is gone d (λ may. k) (λ a h none. k.nothing)

-- what is added once it wasn't seen, then once it was refused, and once it was accepted
pub loses_each : (lost : Asked) (u v last : Worlds) → WorldIsAdded lost.world u → WorldsKeep u v
    → ((x : Target) → IsAskedBy lost → WorldDescribes lost.world x → x.pending ≡ None
    → port_answer x lost.request ≡ Faults
    → WorldsHold v lost.world.awaits (port_after_fault lost.register lost.request.ap x)) → WorldsKeep v last
    → ((c : Choice) (x : Target) → IsAskedBy lost → WorldDescribes lost.world x
    → (is_exempt_register lost.register ≡ false → x.pending ≡ None) → port_answer x lost.request ≡ Okay
    → IsCheckedPrompt c → WorldsHold last (not lost.request.read) (port_after_okay c lost.register x))
    → IsAskedBy lost → WorldsLose last lost.world lost.request lost.register
loses_each lost u v last adds keeps refuses further accepts is = record {
  nothing = λ x h. further.each _ _ (keeps.each _ _ (adds x h));
  faults = λ x h settled e. further.each _ _ (refuses x is h settled e);
  okays = λ c x h settled e prompt. accepts c x is h settled e prompt;
}

-- OK that wasn't seen
abbrev pub AcceptsUnseen : Asked → Worlds → Type 0
AcceptsUnseen lost v = (c : Choice) (x : Target) → IsAskedBy lost → WorldDescribes lost.world x
    → (is_exempt_register lost.register ≡ false → x.pending ≡ None) → port_answer x lost.request ≡ Okay
    → IsCheckedPrompt c → WorldsHold v (not lost.request.read) (port_after_okay c lost.register x)

abbrev pub AcceptsTo : Asked → Option Asked → Type 0
AcceptsTo asked result = (c : Choice) (x : Target) → IsAskedBy asked → WorldDescribes asked.world x
    → (is_exempt_register asked.register ≡ false → x.pending ≡ None) → port_answer x asked.request ≡ Okay
    → IsAskedAccepted result asked.register c x

-- OK that was lost is one of these
pub loses_okay : (asked lost : Asked) (v : Worlds) → IsAskedAlike lost asked → lost.world ≡ asked.world
    → (asked.clean ≡ false → AcceptsUnseen lost v) → (seen : ℕ) (s t : Port) → IsAskedBy asked
    → (h : WasCheckedLost asked.clean asked.request seen s t)
    → IsCheckedOkay asked.clean (NoAck seen) asked.request s t h → WorldDescribesPort asked.world s → WorldsHoldPort v t
loses_okay asked lost v same world accepts seen s t is h okay d =
    let before : Port = h.asks.before in
    let later : WorldDescribesPort asked.world before = world_at_completion asked.world s before h.asks.completes d in
    let k : CheckedOkayLost asked.clean h.asks.mark h.asks.choice asked.request asked.register before h.asks.after =
    checked_okay_lost asked.clean h.asks.mark h.asks.choice asked.register before asked.request seen h.asks.after h.none
    h.asks.undamaged (world_names asked.world before.target asked.request later.target ∙ sym is.register) okay
    h.asks.asks in
    let c : Choice = h.asks.choice in
    hold_port_later v h.asks.after t h.asks.then (okay_lost_to asked v h.asks.mark c before h.asks.after later k.okayed
    (λ x described settled e.
    let found : WorldsHold v (not lost.request.read) (port_after_okay c lost.register x) =
    accepts k.may c x (asked_again asked lost same world is)
    (subst (λ w. WorldDescribes w x) (sym world) described)
    (λ f. settled (sym (ap is_exempt_register same.register) ∙ f)) (ap (port_answer x) same.request ∙ e) k.prompt in
    subst (λ r. WorldsHold v (not asked.request.read) (port_after_okay c r x)) same.register
    (subst (λ (q : Request). WorldsHold v (not q.read) (port_after_okay c lost.register x)) same.request found)))

-- each world that it leads to is reached
pub loses_okay_reached : (link : CheckedLink) (asked lost : Asked) → IsAskedAlike lost asked
    → lost.world ≡ asked.world → WorldsLoseOkay link asked.world asked.request asked.register
    → WorldsLoseOkay link lost.world lost.request lost.register
loses_okay_reached link asked lost same world h =
    subst (λ w. WorldsLoseOkay link w lost.request lost.register) (sym world)
    (subst (λ q. WorldsLoseOkay link asked.world q lost.register) (sym same.request)
    (subst (λ r. WorldsLoseOkay link asked.world asked.request r) (sym same.register) h))

-- where nothing is lost, there is none
pub loses_okay_never : (asked : Asked) (v : Worlds) → not asked.clean ≡ false → (seen : ℕ) (s t : Port)
    → IsAskedBy asked → (h : WasCheckedLost asked.clean asked.request seen s t)
    → IsCheckedOkay asked.clean (NoAck seen) asked.request s t h → WorldDescribesPort asked.world s → WorldsHoldPort v t
loses_okay_never asked v clean seen s t is h okay d =
    let k : CheckedOkayLost asked.clean h.asks.mark h.asks.choice asked.request
    (port_register h.asks.before.target.select asked.request) h.asks.before h.asks.after =
    checked_okay_lost asked.clean h.asks.mark h.asks.choice _ h.asks.before asked.request seen h.asks.after h.none
    h.asks.undamaged refl okay h.asks.asks in
    absurd (let e : true ≡ false = ap not (sym k.may) ∙ clean in cc)

-- there is a world after it
pub accepts_unseen : (lost now : Asked) (v : Worlds) (result : Option Asked) → result ≡ Some now
    → IfSome result (λ z. IsAskedAlike z lost × (z.world.awaits ≡ not lost.request.read)) → AcceptsTo lost result
    → WorldsReturn v now.world now.register → AcceptsUnseen lost v
accepts_unseen lost now v result some same accepts returns = λ c x is h settled e prompt.
    let k : IsAskedAlike now lost × (now.world.awaits ≡ not lost.request.read) =
    subst (λ o. IfSome o (λ z. IsAskedAlike z lost × (z.world.awaits ≡ not lost.request.read))) some same in
    let a : WorldAccepts now.world lost.register c x =
    subst (λ o. IsAskedAccepted o lost.register c x) some (accepts c x is h settled e) in
    subst (λ b. WorldsHold v b (port_after_okay c lost.register x)) k.1
    (subst (λ r. WorldsReturn v now.world r) k.0.register returns c x a (λ f. prompt))

-- there is none
pub accepts_none : (lost : Asked) (v : Worlds) (result : Option Asked) → result ≡ None → AcceptsTo lost result
    → AcceptsUnseen lost v
accepts_none lost v result none accepts = λ c x is h settled e prompt.
    absurd (subst (λ o. IsAskedAccepted o lost.register c x) none (accepts c x is h settled e))

-- WHOLE TRANSACTIONS
pub step_waits : (asked : Asked) (v : Worlds) → IsAskedBy asked
    → ((x : Target) → IsAskedBy asked → WorldDescribes asked.world x → port_answer x asked.request ≡ Okay
    → is_exempt_register asked.register ≡ false → WorldsHold v asked.world.awaits (port_after_wait asked.register x))
    → (s t : Port) → WasCheckedRefused asked.clean asked.request 2 s t → WorldDescribesPort asked.world s
    → WorldsHoldPort v t
step_waits asked v is defers s t h d =
    let later : WorldDescribesPort asked.world h.asks.before =
    world_at_completion asked.world s h.asks.before h.asks.completes d in
    hold_passed v h.asks.after h.asked t h.asks.then h.passes (hold_waited v asked.world asked.request asked.register
    h.asks.before h.asks.after later (checked_wait_seen asked.clean s asked.request h.asked asked.register h.asks
    (world_names asked.world h.asks.before.target asked.request later.target ∙ sym is.register))
    (λ x k e plain. defers x is k e plain))

-- FAULT
pub step_faults : (asked : Asked) (v : Worlds) → IsAskedBy asked
    → ((x : Target) → IsAskedBy asked → WorldDescribes asked.world x → x.pending ≡ None
    → port_answer x asked.request ≡ Faults
    → WorldsHold v asked.world.awaits (port_after_fault asked.register asked.request.ap x)) → (s t : Port)
    → WasCheckedRefused asked.clean asked.request 4 s t → WorldDescribesPort asked.world s → WorldsHoldPort v t
step_faults asked v is refuses s t h d =
    let later : WorldDescribesPort asked.world h.asks.before =
    world_at_completion asked.world s h.asks.before h.asks.completes d in
    hold_passed v h.asks.after h.asked t h.asks.then h.passes (hold_faulted v asked.world asked.request asked.register
    h.asks.before h.asks.after later (checked_fault_seen asked.clean s asked.request h.asked asked.register h.asks
    (world_names asked.world h.asks.before.target asked.request later.target ∙ sym is.register))
    (λ x k none e. refuses x is k none e))

-- What a read leads to, from a state that a world stands for exactly, where a word was seen.
use Rattle.std.proofs.Common.{◌≡◌, ◌<◌, ◌^◌, ◌/◌, ◌%◌, ℕ, zero, suc, Bool, true, false, refl, sym, ap}
use Rattle.std.proofs.Common.{subst, ◌∙◌, arith}
use Rattle.std.specs.Prelude.{Some, None, is_some, not, ◌&&◌, ◌==◌, unwrap_or}
use Rattle.swd_bits.specs.Bits.{bit}
use Rattle.swd_bits.specs.declared.request.Reg4.{Reg4}
use Rattle.swd_bits.specs.declared.request.Reg4.TheVariants.{R0, R4, R8, RC}
use Rattle.swd_bits.specs.declared.tx.Tx.{Tx as Transaction}
use Rattle.swd_bits.specs.declared.tx.TxEnd.TheVariants.{Moved}
use Rattle.swd_port.specs.Registers.{register_bit, ctrl_stat_read}
use Rattle.swd_port.specs.declared.register.Register.{Register}
use Rattle.swd_port.specs.declared.register.Register.TheVariants.{DpidrRead, CtrlStatRead}
use Rattle.swd_port.specs.declared.register.Register.TheVariants.{ResendRead, RdbuffRead, DpOtherRead}
use Rattle.swd_port.specs.declared.register.Register.TheVariants.{CswRead, TarRead}
use Rattle.swd_port.specs.declared.register.Register.TheVariants.{DrwRead, ApOtherRead}
use Rattle.swd_port.specs.declared.state.PowerUp.{PowerUp}
use Rattle.swd_port.specs.Port.{Target, port_register_where}
use Rattle.swd_port.specs.Choices.{Choice}
use Rattle.swd_port.specs.Answers.{is_exempt_register, is_port_power_there}
use Rattle.swd_port.specs.Asking.{power_up_after, ctrl_stat_word_in, is_port_posted}
use Rattle.swd_observer.proofs.StepLemmas.{observed_left_set}
use Rattle.swd_checker.specs.Worlds.{World, Power, PowerOff, PowerUnseen, PowerLate, PowerSeen, Held}
use Rattle.swd_checker.specs.Worlds.{TransferRead, world_failed}
use Rattle.swd_checker.specs.Described.{CheckedPower, IsCheckedNear}
use Rattle.swd_checker.specs.Words.{IsCheckedStatus}
use Rattle.swd_checker.specs.Steps.{world_live, is_found_late, checked_power_found, PowerFound}
use Rattle.swd_checker.specs.Steps.{IsPowerFound}
use Rattle.swd_checker.specs.Standing.{checked_reads_dpidr}
use Rattle.swd_checker.specs.Exact.{WorldWords, CheckedAnswers, IsWorldTarget, IsHeldExact}
use Rattle.swd_checker.specs.Exact.{IsPowerExact}
use Rattle.swd_checker.specs.Reaching.{CheckedLink, HeldNarrows, IsLinkWord}
use Rattle.swd_checker.specs.Reaching.{checked_near_seen}
use Rattle.swd_checker.specs.Reached.{WorldsFindAll, WorldsReadSeen, WorldsPostHeld}
use Rattle.swd_checker.proofs.NearLemmas.{near_small, near_of_has, all_places}
use Rattle.swd_checker.proofs.StatusLemmas.{world_power_found}
use Rattle.swd_checker.proofs.AddingLemmas.{checked_posted_plain}
use Rattle.swd_checker.proofs.SettleLemmas.{checked_choice_plain, checked_plain_legal}
use Rattle.swd_checker.proofs.EffectLemmas.{world_target_lives, world_target_finds, WorldGivesBack, world_resends}
use Rattle.swd_checker.proofs.EffectLemmas.{WorldPosts, posted_worlds}
use Rattle.swd_checker.proofs.MarkLemmas.{mark_read, mark_read_late}
use Rattle.swd_checker.proofs.MovesLemmas.{LinkBase, base_okayed, ReadFrom, ReadsTo, read_reaches}
use Rattle.swd_checker.proofs.MovesLemmas.{world_okayed_sound, world_okayed_pending, is_write_register}
use Rattle.swd_checker.proofs.MovesLemmas.{checked_register_write}

-- WORDS
-- the word that was seen is one that may have been sent
near_seen_has : (word : ℕ) (ok : Bool) → IsCheckedNear (checked_near_seen word ok) word
near_seen_has word true = near_of_has word
near_seen_has word false = (32, omega arith, all_places 32 (omega arith), refl)

near_seen_small : (word : ℕ) (ok : Bool) (value : ℕ) → word < 2 ^ 32 → IsCheckedNear (checked_near_seen word ok) value
    → value < 2 ^ 32
near_seen_small word true value small near = near_small (checked_near_seen word true) value small near
near_seen_small word false value small near = near_small (checked_near_seen word false) value small near

bit_as : (m : ℕ) (b : Bool) → m < 2 → (m == 1) ≡ b → bit b ≡ m
bit_as zero b h e = ap bit (sym e)
bit_as (suc zero) b h e = ap bit (sym e)
bit_as (suc (suc m)) b h e = absurd (omega arith)

-- a word whose flags are these is the one that CTRL/STAT reads, if its other bits are the word's
status_word : (word : ℕ) (a b d e f g h : Bool) → word < 2 ^ 32 → register_bit 5 word ≡ a → register_bit 6 word ≡ b
    → register_bit 7 word ≡ d → register_bit 28 word ≡ e → register_bit 29 word ≡ (e && f)
    → register_bit 30 word ≡ g → register_bit 31 word ≡ (g && h) → ctrl_stat_read word a b d e f g h ≡ word
status_word word a b d e f g h small h5 h6 h7 h28 h29 h30 h31 =
    let p5 : bit a ≡ word / 2 ^ 5 % 2 = bit_as _ a (omega arith) h5 in
    let p6 : bit b ≡ word / 2 ^ 6 % 2 = bit_as _ b (omega arith) h6 in
    let p7 : bit d ≡ word / 2 ^ 7 % 2 = bit_as _ d (omega arith) h7 in
    let p28 : bit e ≡ word / 2 ^ 28 % 2 = bit_as _ e (omega arith) h28 in
    let p29 : bit (e && f) ≡ word / 2 ^ 29 % 2 = bit_as _ (e && f) (omega arith) h29 in
    let p30 : bit g ≡ word / 2 ^ 30 % 2 = bit_as _ g (omega arith) h30 in
    let p31 : bit (g && h) ≡ word / 2 ^ 31 % 2 = bit_as _ (g && h) (omega arith) h31 in
    omega arith

-- DPIDR
dpidr_reads : (n : ℕ) (clean ok : Bool) (word : ℕ) (m : World) → word < 2 ^ 32 → (ok ≡ false → clean ≡ false)
    → IsCheckedNear (checked_near_seen word ok) n → ReadsTo n clean ok word DpidrRead m (world_live m)
dpidr_reads n clean ok word m small may near = record {
  awaits = refl;
  sound = λ s. record { tar = s.tar; buffer = s.buffer; last_returned = s.last_returned };
  each = λ s v exact. record {
    before = v;
    exact = record { tar = exact.tar; buffer = exact.buffer; last_returned = exact.last_returned };
    choice = checked_choice_plain;
    legal = checked_plain_legal;
    value = n;
    mark = mark_read clean ok word DpidrRead checked_choice_plain n (record { debug = refl; system = refl }) small may
        near;
    returns = λ answers x o. (o.exempt refl).identification;
    leads = λ answers x o. world_target_lives m n v answers checked_choice_plain x (o.exempt refl);
  };
}

-- a request of this register
dpidr_by_register : (ap m b read : Bool) (addr : Reg4)
    → port_register_where m b ap read addr ≡ DpidrRead → checked_reads_dpidr addr ap read ≡ true
dpidr_by_register false m b true R0 e = refl
dpidr_by_register true true b true R0 e = absurd (cc)
dpidr_by_register true true b true R4 e = absurd (cc)
dpidr_by_register true true b true R8 e = absurd (cc)
dpidr_by_register true true b true RC e = absurd (cc)
dpidr_by_register true true b false R0 e = absurd (cc)
dpidr_by_register true true b false R4 e = absurd (cc)
dpidr_by_register true true b false R8 e = absurd (cc)
dpidr_by_register true true b false RC e = absurd (cc)
dpidr_by_register true false b true addr e = absurd (cc)
dpidr_by_register true false b false addr e = absurd (cc)
dpidr_by_register false m b false R0 e = absurd (cc)
dpidr_by_register false m true true R4 e = absurd (cc)
dpidr_by_register false m false true R4 e = absurd (cc)
dpidr_by_register false m true false R4 e = absurd (cc)
dpidr_by_register false m false false R4 e = absurd (cc)
dpidr_by_register false m b true R8 e = absurd (cc)
dpidr_by_register false m b false R8 e = absurd (cc)
dpidr_by_register false m b true RC e = absurd (cc)
dpidr_by_register false m b false RC e = absurd (cc)

-- CTRL/STAT
late_as : (power : Power) (d on : Bool) (up : PowerUp) (found : Power) → checked_power_found power d ≡ Some found
    → CheckedPower power on up → IsPowerExact power up → d ≡ is_found_late d on up
late_as PowerOff false on up found e h exact = sym (ap (λ o. is_found_late false o up) h)
late_as PowerOff true on up found e h exact = absurd (cc)
late_as PowerUnseen false on up found e h exact =
    sym (ap (λ o. is_found_late false o up) h.0 ∙ ap (λ u. is_found_late false true u) exact)
late_as PowerUnseen true on up found e h exact =
    sym (ap (λ o. is_found_late true o up) h.0 ∙ ap (λ u. is_found_late true true u) exact)
late_as PowerLate false on up found e h exact =
    sym (ap (λ o. is_found_late false o up) h.0 ∙ ap (λ u. is_found_late false true u) h.1)
late_as PowerLate true on up found e h exact =
    sym (ap (λ o. is_found_late true o up) h.0 ∙ ap (λ u. is_found_late true true u) h.1)
late_as PowerSeen false on up found e h exact =
    sym (ap (λ o. is_found_late false o up) h.0 ∙ ap (λ u. is_found_late false true u) h.1)
late_as PowerSeen true on up found e h exact = absurd (cc)

found_as : (power : Power) (d on : Bool) (up : PowerUp) (found : Power) → checked_power_found power d ≡ Some found
    → CheckedPower power on up → IsPowerExact power up → PowerFound found on (power_up_after d CtrlStatRead up)
found_as power d on up found e h exact = subst (λ o. IsPowerFound o on (power_up_after d CtrlStatRead up)) e
    (world_power_found power d d on up h (late_as power d on up found e h exact))

abbrev status_choice : ℕ → Bool → Bool → Choice
status_choice others d s = record checked_choice_plain { others = others; debug_late = d; system_late = s }

status_returns : (m : World) (n : ℕ) (v : WorldWords) (answers : CheckedAnswers) (d s : Bool) (debug system : Power)
    (value : ℕ) (x : Target) → value < 2 ^ 32 → checked_power_found m.debug d ≡ Some debug
    → checked_power_found m.system s ≡ Some system
    → IsCheckedStatus (record m { debug = debug; system = system }) value → IsWorldTarget m n v answers x
    → ctrl_stat_word_in (status_choice value d s) x ≡ value
status_returns m n v answers d s debug system value x small de se shows h =
    let p : PowerFound debug x.debug_power (power_up_after d CtrlStatRead x.debug_up) =
    found_as m.debug d x.debug_power x.debug_up debug de h.now.debug h.debug in
    let q : PowerFound system x.system_power (power_up_after s CtrlStatRead x.system_up) =
    found_as m.system s x.system_power x.system_up system se h.now.system h.system in
    status_word value x.sticky_error x.read_ok x.write_error x.debug_power
    (is_port_power_there (power_up_after d CtrlStatRead x.debug_up)) x.system_power
    (is_port_power_there (power_up_after s CtrlStatRead x.system_up)) small
    (shows.sticky_error ∙ sym h.now.sticky_error)
    (shows.read_ok ∙ sym h.now.read_ok) (shows.write_error ∙ sym h.now.write_error) (shows.debug ∙ sym p.asked)
    (shows.debug_there ∙ sym p.there) (shows.system ∙ sym q.asked) (shows.system_there ∙ sym q.there)

status_reads : (n : ℕ) (clean ok : Bool) (word : ℕ) (m : World) (d s : Bool) (debug system : Power) (value : ℕ)
    → word < 2 ^ 32 → (ok ≡ false → clean ≡ false) → (ok ≡ false → (d ≡ false) × (s ≡ false))
    → checked_power_found m.debug d ≡ Some debug → checked_power_found m.system s ≡ Some system
    → IsCheckedNear (checked_near_seen word ok) value
    → IsCheckedStatus (record m { debug = debug; system = system }) value
    → ReadsTo n clean ok word CtrlStatRead m (record m { debug = debug; system = system })
status_reads n clean ok word m d s debug system value small may late de se near shows =
    let c : Choice = status_choice value d s in
    let within : value < 2 ^ 32 = near_seen_small word ok value small near in
    record {
      awaits = refl;
      sound = λ k. record { tar = k.tar; buffer = k.buffer; last_returned = k.last_returned };
      each = λ k v exact. record {
        before = v;
        exact = record { tar = exact.tar; buffer = exact.buffer; last_returned = exact.last_returned };
        choice = c;
        legal = record { address = omega arith; filler = omega arith; others = within; elsewhere = omega arith };
        value = value;
        mark = mark_read_late clean ok word CtrlStatRead c value
            (λ e. record { debug = (late e).0; system = (late e).1 }) refl small may near;
        returns = λ answers x o.
            status_returns m n v answers d s debug system value x within de se shows (o.exempt refl);
        leads = λ answers x o. world_target_finds m n v answers c x debug system de se (o.exempt refl);
      };
    }

-- the world after a read of CTRL/STAT is reached
pub status_reached : (link : CheckedLink) (clean : Bool) (tx : Transaction) (b : World) (r : Register)
    (word : ℕ) (ok : Bool) → LinkBase link clean tx b r → tx.request.read ≡ true → tx.result ≡ Moved word ok
    → word < 2 ^ 32 → (ok ≡ false → clean ≡ false) → r ≡ CtrlStatRead
    → WorldsFindAll link (base_okayed tx r b) (checked_near_seen word ok) ok
status_reached link clean tx b r word ok k read is small may e = λ d s debug system late de se value near shows.
    read_reaches link clean tx b _ r word ok k read is small (subst (λ z. ReadsTo link.identification clean ok word z
    (base_okayed tx r b) (record (base_okayed tx r b) { debug = debug; system = system })) (sym e)
    (status_reads link.identification clean ok word (base_okayed tx r b) d s debug system value small may late de se
    near shows))

-- THE LAST RETURNED VALUE AND THE READ BUFFER
returns_from : (n : ℕ) (clean ok : Bool) (word : ℕ) (r : Register) (m next : World) (filler : ℕ) (v : WorldWords)
    → is_exempt_register r ≡ false → word < 2 ^ 32 → (ok ≡ false → clean ≡ false)
    → IsCheckedNear (checked_near_seen word ok) (unwrap_or v.last_returned filler) → WorldGivesBack m next r filler v
    → ReadFrom n clean ok word r m next v
returns_from n clean ok word r m next filler v plain small may near w = record {
  before = w.before;
  exact = w.exact;
  choice = w.choice;
  legal = w.legal;
  value = unwrap_or v.last_returned filler;
  mark = mark_read clean ok word r w.choice (unwrap_or v.last_returned filler) w.prompt small may near;
  returns = λ answers x o. w.value x ((o.plain plain).buffer (λ e. let f : None ≡ Some TransferRead =
      sym (o.settled plain) ∙ e in cc)) (o.plain plain).last_returned;
  leads = λ answers x o. w.leads n answers x (o.plain plain);
}

resend_reads : (n : ℕ) (clean ok : Bool) (word : ℕ) (m : World) (held : Held) → word < 2 ^ 32
    → (ok ≡ false → clean ≡ false) → HeldNarrows m.last_returned (checked_near_seen word ok) held
    → ReadsTo n clean ok word ResendRead m (record m { last_returned = held })
resend_reads n clean ok word m held small may narrows = record {
  awaits = refl;
  sound = λ s. record { tar = s.tar; buffer = s.buffer; last_returned = narrows.sound s.last_returned };
  each = λ s v exact. let k = narrows.each v.last_returned exact.last_returned in
      returns_from n clean ok word ResendRead m (record m { last_returned = held }) k.1.0 v refl small may k.1.2
      (world_resends m held k.1.0 v k.1.1 k.0 exact);
}

-- a read that returns the read buffer
posted_reads : (n : ℕ) (clean ok : Bool) (word : ℕ) (r : Register) (m next : World) (held : Held)
    → is_exempt_register r ≡ false → word < 2 ^ 32 → (ok ≡ false → clean ≡ false)
    → HeldNarrows m.buffer (checked_near_seen word ok) held → WorldPosts m next r held
    → ReadsTo n clean ok word r m next
posted_reads n clean ok word r m next held plain small may narrows h = record {
  awaits = h.awaits;
  sound = λ s. h.sound s (narrows.sound s.buffer);
  each = λ s v exact.
      let k =
      narrows.each v.last_returned (subst (λ z. IsHeldExact z v.last_returned) h.last_returned exact.last_returned) in
      returns_from n clean ok word r m next k.1.0 v plain small may k.1.2 (h.returns s k.1.0 v k.1.1 k.0 exact);
}

-- the world after a read that returned the read buffer is reached
posted_reached : (link : CheckedLink) (clean : Bool) (tx : Transaction) (b : World) (r : Register) (word : ℕ)
    (ok : Bool) → LinkBase link clean tx b r → tx.request.read ≡ true → tx.result ≡ Moved word ok → word < 2 ^ 32
    → (ok ≡ false → clean ≡ false) → is_exempt_register r ≡ false → (held : Held)
    → HeldNarrows (base_okayed tx r b).buffer (checked_near_seen word ok) held
    → WorldsPostHeld link (base_okayed tx r b) r held
posted_reached link clean tx b r word ok k read is small may plain held narrows =
    let m : World = base_okayed tx r b in
    posted_worlds link m r held (world_okayed_sound (is_exempt_register r) tx.request.ap b k.sound)
    (world_okayed_pending (is_exempt_register r) tx.request.ap b ∙ k.settled plain) (λ next h.
    read_reaches link clean tx b next r word ok k read is small
    (posted_reads link.identification clean ok word r m next held plain small may narrows h))

-- THE OTHERS
other_reads : (n : ℕ) (clean ok : Bool) (word : ℕ) (m : World) → word < 2 ^ 32 → (ok ≡ false → clean ≡ false)
    → ReadsTo n clean ok word DpOtherRead m m
other_reads n clean ok word m small may = let c : Choice = record checked_choice_plain { elsewhere = word } in record {
  awaits = refl;
  sound = λ s. s;
  each = λ s v exact. record {
    before = v;
    exact = exact;
    choice = c;
    legal = record { address = omega arith; filler = omega arith; others = omega arith; elsewhere = small };
    value = word;
    mark = mark_read clean ok word DpOtherRead c word (record { debug = refl; system = refl }) small may
        (near_seen_has word ok);
    returns = λ answers x o. refl;
    leads = λ answers x o. o.plain refl;
  };
}

only_other : (r : Register) → is_write_register r ≡ false → is_port_posted r ≡ false → (r ≡ DpidrRead → ⊥)
    → (r ≡ CtrlStatRead → ⊥) → (r ≡ ResendRead → ⊥) → r ≡ DpOtherRead
only_other DpidrRead w p d s l = absurd (d refl)
only_other CtrlStatRead w p d s l = absurd (s refl)
only_other ResendRead w p d s l = absurd (l refl)
only_other DpOtherRead w p d s l = refl
only_other RdbuffRead w p d s l = absurd (let e : true ≡ false = p in cc)
only_other CswRead w p d s l = absurd (let e : true ≡ false = p in cc)
only_other TarRead w p d s l = absurd (let e : true ≡ false = p in cc)
only_other DrwRead w p d s l = absurd (let e : true ≡ false = p in cc)
only_other ApOtherRead w p d s l = absurd (let e : true ≡ false = p in cc)
only_other r w p d s l = absurd (let e : true ≡ false = w in cc)

-- the world after a read of which a word was seen is reached
pub reads_reached : (link : CheckedLink) (clean : Bool) (tx : Transaction) (b : World) (r : Register) (word : ℕ)
    (ok : Bool) → LinkBase link clean tx b r → tx.request.read ≡ true → tx.result ≡ Moved word ok → word < 2 ^ 32
    → (ok ≡ false → clean ≡ false) → IsLinkWord link.identification tx
    → (r ≡ CtrlStatRead → is_some (base_okayed tx r b).pending ≡ true
    → WorldsFindAll link (world_failed (base_okayed tx r b)) (checked_near_seen word ok) ok)
    → WorldsReadSeen link (base_okayed tx r b) r (checked_near_seen word ok) ok
reads_reached link clean tx b r word ok k read is small may known fails =
    let n : ℕ = link.identification in
    let m : World = base_okayed tx r b in
    let to = λ (next : World) (z : Register) (e : r ≡ z) (h : ReadsTo n clean ok word z m next).
    read_reaches link clean tx b next r word ok k read is small
    (subst (λ y. ReadsTo n clean ok word y m next) (sym e) h) in
    let named : is_write_register r ≡ false = sym (ap is_write_register k.names)
    ∙ checked_register_write b tx.request ∙ ap not read in
    record {
      status = λ e. record {
        now = status_reached link clean tx b r word ok k read is small may e;
        failed = λ pends. fails e (observed_left_set _ _ pends);
      };
      resend = λ e held narrows. to _ ResendRead e (resend_reads n clean ok word m held small may narrows);
      posted = λ e held narrows.
          posted_reached link clean tx b r word ok k read is small may (checked_posted_plain r e) held narrows;
      other = λ p s l. record {
        dpidr = λ e. to _ DpidrRead e (dpidr_reads n clean ok word m small may
            (known.seen (dpidr_by_register tx.request.ap b.mem_ap b.bank0 tx.request.read tx.request.addr (k.names ∙ e))
            word ok is));
        status = λ e. absurd (s e);
        posted = λ e. absurd (let f : true ≡ false = sym e ∙ p in cc);
        other = λ p d s. to _ DpOtherRead (only_other r named p d s l) (other_reads n clean ok word m small may);
      };
    }

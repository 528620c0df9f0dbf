-- What the worlds hold to which those after a read were added.
use Rattle.std.proofs.Common.{◌≡◌, ◌<◌, ◌+◌, ◌*◌, ℕ, Bool, true, false, refl, sym, ap, subst, arith, ◌∙◌}
use Rattle.std.proofs.Common.{◌⊎◌, inl, inr}
use Rattle.std.specs.Prelude.{Option, Some, None, is_some, unwrap_or, ◌||◌, ◌&&◌, not}
use Rattle.swd_port.specs.declared.register.Register.{Register}
use Rattle.swd_port.specs.declared.register.Register.TheVariants.{DpidrRead, AbortWrite, CtrlStatRead, CtrlStatWrite}
use Rattle.swd_port.specs.declared.register.Register.TheVariants.{SelectWrite, ResendRead, RdbuffRead, DpOtherRead}
use Rattle.swd_port.specs.declared.register.Register.TheVariants.{DpIgnoredWrite, CswRead, CswWrite, TarRead, TarWrite}
use Rattle.swd_port.specs.declared.register.Register.TheVariants.{DrwRead, DrwWrite, ApOtherRead, ApOtherWrite}
use Rattle.swd_port.specs.declared.state.PowerUp.{PowerUp}
use Rattle.swd_port.specs.declared.state.PowerUp.TheVariants.{Unseen, Late, Seen}
use Rattle.swd_port.specs.Port.{Target}
use Rattle.swd_port.specs.Choices.{Choice}
use Rattle.swd_port.specs.Answers.{is_exempt_register}
use Rattle.swd_port.specs.Asking.{port_after_okay, port_value_in, power_up_after, ctrl_stat_word_in, is_port_posted}
use Rattle.swd_checker.specs.declared.near.Near.{Near}
use Rattle.swd_checker.specs.declared.step.Asked.{Asked}
use Rattle.swd_checker.specs.declared.worlds.Worlds.{Worlds}
use Rattle.swd_checker.specs.Worlds.{World, Held, HeldWord, HeldCsw, Power, TransferRead, TarFrom}
use Rattle.swd_checker.specs.Worlds.{world_failed}
use Rattle.swd_checker.specs.Described.{IsWorldNow, WorldDescribes, now, IsCheckedNear, CheckedHeld, CheckedPower}
use Rattle.swd_checker.specs.Described.{CheckedTar, checked_changed_at}
use Rattle.swd_checker.specs.Asking.{IsAskedAlike}
use Rattle.swd_checker.specs.Words.{IsSomeHeld, IsSomeNear, IsCheckedStatus}
use Rattle.swd_checker.specs.Holding.{WorldsHold, WorldsKeep}
use Rattle.swd_checker.specs.Steps.{WorldAccepts, world_live, world_posted, is_found_late, checked_power_found}
use Rattle.swd_checker.specs.Steps.{PowerFound, IsPowerFound}
use Rattle.swd_checker.specs.Adding.{IsCheckedPrompt, WorldsReturn, WorldsPost, WorldsRead, WorldsFind}
use Rattle.swd_checker.specs.Adding.{WorldsFindPowers, is_debug_late, is_system_late}
use Rattle.swd_checker.proofs.AddedLemmas.{WorldIsAdded}
use Rattle.swd_checker.proofs.HoldingLemmas.{worlds_hold_as, worlds_keep_then}
use Rattle.swd_checker.proofs.ReadLemmas.{world_at_dpidr, world_at_resend, world_at_rdbuff, world_at_csw_read}
use Rattle.swd_checker.proofs.ReadLemmas.{world_at_tar_read, world_at_drw_read, world_at_elsewhere}
use Rattle.swd_checker.proofs.StatusLemmas.{world_shares, world_power_found, world_finds, world_at_status}
use Rattle.swd_checker.proofs.StatusLemmas.{world_shows_sticky}

-- OK TO A REQUEST WHOSE WORD WASN'T SEEN
-- a power that is found at once is acknowledged from then on
prompt_late : (on : Bool) (up : PowerUp) → is_found_late false on up ≡ false
prompt_late true Unseen = refl
prompt_late true Late = refl
prompt_late true Seen = refl
prompt_late false up = refl

found_prompt : (power left : Power) (late on : Bool) (up : PowerUp) → checked_power_found power false ≡ Some left
    → late ≡ false → CheckedPower power on up → PowerFound left on (power_up_after late CtrlStatRead up)
found_prompt power left late on up is prompt h = subst (λ o. IsPowerFound o on (power_up_after late CtrlStatRead up)) is
    (world_power_found power false late on up h
    (sym (ap (λ l. is_found_late l on up) prompt ∙ prompt_late on up)))

-- DPIDR
pub return_dpidr : (v : Worlds) (w u : World) → WorldIsAdded u v → u ≡ world_live w → WorldsReturn v w DpidrRead
return_dpidr v w u adds same = λ c x ok prompt. worlds_hold_as v u (world_live w) w.awaits
    (port_after_okay c DpidrRead x) adds same refl (world_at_dpidr w c x ok)

-- CTRL/STAT, whose powers are found acknowledged
pub return_status : (v : Worlds) (w : World) (debug system : Power)
    → WorldIsAdded (record w { debug = debug; system = system }) v → checked_power_found w.debug false ≡ Some debug
    → checked_power_found w.system false ≡ Some system → WorldsReturn v w CtrlStatRead
return_status v w debug system adds d s = λ c x ok prompt.
    let h : WorldDescribes w x = ok.exempt refl in
    let p : IsCheckedPrompt c = prompt refl in
    let shares = world_shares w x h in
    adds (port_after_okay c CtrlStatRead x) (world_finds w c x debug system
    (found_prompt w.debug debug c.debug_late x.debug_power x.debug_up d p.debug shares.debug).is
    (found_prompt w.system system c.system_late x.system_power x.system_up s p.system shares.system).is h)

-- a read that returns the read buffer can be refused
pub checked_posted_plain : (r : Register) → is_port_posted r ≡ true → is_exempt_register r ≡ false
checked_posted_plain RdbuffRead e = refl
checked_posted_plain CswRead e = refl
checked_posted_plain TarRead e = refl
checked_posted_plain DrwRead e = refl
checked_posted_plain ApOtherRead e = refl
checked_posted_plain r e = absurd (cc)

buffer_held : (w : World) (r : Register) (c : Choice) (x : Target) → is_port_posted r ≡ true → WorldAccepts w r c x
    → CheckedHeld w.buffer x.buffer
buffer_held w r c x posted ok = (ok.confirmed (checked_posted_plain r posted)).buffer

-- a read that returns the read buffer, whatever that is
pub return_posted : (v : Worlds) (w : World) (r : Register) → is_port_posted r ≡ true → WorldsPost v w r w.buffer
    → WorldsReturn v w r
return_posted v w r posted posts = λ c x ok prompt. posts c x posted ok (buffer_held w r c x posted ok)

-- a world after OK to a request that does nothing yet
pub world_after_plain : (w : World) (r : Register) (c : Choice) (x : Target) → is_port_posted r ≡ false
    → (r ≡ DpidrRead → ⊥) → (r ≡ CtrlStatRead → ⊥) → WorldAccepts w r c x → WorldDescribes w (port_after_okay c r x)
world_after_plain w AbortWrite c x p d s ok = ok.exempt refl
world_after_plain w CtrlStatWrite c x p d s ok = now (ok.confirmed refl)
world_after_plain w SelectWrite c x p d s ok = now (ok.confirmed refl)
world_after_plain w ResendRead c x p d s ok = now (ok.confirmed refl)
world_after_plain w DpOtherRead c x p d s ok = now (ok.confirmed refl)
world_after_plain w DpIgnoredWrite c x p d s ok = now (ok.confirmed refl)
world_after_plain w CswWrite c x p d s ok = now (ok.confirmed refl)
world_after_plain w TarWrite c x p d s ok = now (ok.confirmed refl)
world_after_plain w DrwWrite c x p d s ok = now (ok.confirmed refl)
world_after_plain w ApOtherWrite c x p d s ok = now (ok.confirmed refl)
world_after_plain w DpidrRead c x p d s ok = absurd (d refl)
world_after_plain w CtrlStatRead c x p d s ok = absurd (s refl)
world_after_plain w RdbuffRead c x p d s ok = absurd (cc)
world_after_plain w CswRead c x p d s ok = absurd (cc)
world_after_plain w TarRead c x p d s ok = absurd (cc)
world_after_plain w DrwRead c x p d s ok = absurd (cc)
world_after_plain w ApOtherRead c x p d s ok = absurd (cc)

-- any other request does nothing at its OK
pub return_plain : (v : Worlds) (w : World) (r : Register) → WorldIsAdded w v → is_port_posted r ≡ false
    → (r ≡ DpidrRead → ⊥) → (r ≡ CtrlStatRead → ⊥) → WorldsReturn v w r
return_plain v w r adds posted d s = λ c x ok prompt. adds (port_after_okay c r x) (world_after_plain w r c x posted d s
    ok)

-- POSTED READS
-- CSW
pub post_csw : (v : Worlds) (w u : World) (held : Held)
    → WorldIsAdded (record u { buffer = HeldCsw u.increments }) v → u ≡ world_posted held w → WorldsPost v w CswRead
    held
post_csw v w u held adds same = λ c x posted ok is. worlds_hold_as v (record u { buffer = HeldCsw u.increments })
    (record (world_posted held w) { buffer = HeldCsw w.increments }) w.awaits (port_after_okay c CswRead x) adds
    (ap (λ (z : World). record z { buffer = HeldCsw z.increments }) same) refl (world_at_csw_read w held c x ok is)

-- TAR: each of its addresses
pub post_tar_read : (v : Worlds) (w u : World) (held : Held)
    → ((x : Target) → IsWorldNow u x → x.buffer ≡ x.tar → WorldsHold v u.awaits x) → u ≡ world_posted held w
    → WorldsPost v w TarRead held
post_tar_read v w u held posts same = λ c x posted ok is.
    subst (λ (z : World). (y : Target) → IsWorldNow z y → y.buffer ≡ y.tar → WorldsHold v z.awaits y) same posts
    (port_after_okay c TarRead x) (world_at_tar_read w held c x ok is) refl

-- DRW: a transfer is pending
pub post_drw : (v : Worlds) (w u : World) (held : Held)
    → WorldIsAdded (record u { pending = Some TransferRead }) v → u ≡ world_posted held w → WorldsPost v w DrwRead held
post_drw v w u held adds same = λ c x posted ok is. worlds_hold_as v (record u { pending = Some TransferRead })
    (record (world_posted held w) { pending = Some TransferRead }) w.awaits (port_after_okay c DrwRead x) adds
    (ap (λ (z : World). record z { pending = Some TransferRead }) same) refl (world_at_drw_read w held c x ok is)

-- a register elsewhere: a word, or a bus error
pub post_other : (v : Worlds) (w u : World) (held : Held)
    → ((x : Target) → WorldDescribes (record u { buffer = HeldWord }) x → WorldsHold v u.awaits x)
    → ((x : Target) → WorldDescribes (record u { sticky_error = true }) x → WorldsHold v u.awaits x)
    → u ≡ world_posted held w → WorldsPost v w ApOtherRead held
post_other v w u held word error same = λ c x posted ok is.
    elim (world_at_elsewhere w held c x ok is) as (λ _. WorldsHold v w.awaits (port_after_okay c ApOtherRead x)) [
      | inl h ↦ subst (λ (z : World). (y : Target) → WorldDescribes (record z { buffer = HeldWord }) y
          → WorldsHold v z.awaits y) same word (port_after_okay c ApOtherRead x) h
      | inr h ↦ subst (λ (z : World). (y : Target) → WorldDescribes (record z { sticky_error = true }) y
          → WorldsHold v z.awaits y) same error (port_after_okay c ApOtherRead x) h
    ]

-- a register that returns the read buffer, and is none of an access port's, is RDBUFF
pub checked_only_rdbuff : (r : Register) → is_port_posted r ≡ true → (r ≡ CswRead → ⊥) → (r ≡ TarRead → ⊥) → (r ≡
    DrwRead → ⊥)
    → (r ≡ ApOtherRead → ⊥) → r ≡ RdbuffRead
checked_only_rdbuff RdbuffRead e a b d f = refl
checked_only_rdbuff CswRead e a b d f = absurd (a refl)
checked_only_rdbuff TarRead e a b d f = absurd (b refl)
checked_only_rdbuff DrwRead e a b d f = absurd (d refl)
checked_only_rdbuff ApOtherRead e a b d f = absurd (f refl)
checked_only_rdbuff r e a b d f = absurd (cc)

rdbuff_posted : (v : Worlds) (w u : World) (held : Held) → WorldIsAdded u v → u ≡ world_posted held w
    → WorldsPost v w RdbuffRead held
rdbuff_posted v w u held adds same = λ c x posted ok is. worlds_hold_as v u (world_posted held w) w.awaits
    (port_after_okay c RdbuffRead x) adds same refl (world_at_rdbuff w held c x ok is)

-- RDBUFF alone is left
pub post_rdbuff : (v : Worlds) (w u : World) (r : Register) (held : Held) → WorldIsAdded u v
    → u ≡ world_posted held w → (r ≡ CswRead → ⊥) → (r ≡ TarRead → ⊥) → (r ≡ DrwRead → ⊥) → (r ≡ ApOtherRead → ⊥)
    → WorldsPost v w r held
post_rdbuff v w u r held adds same a b d f = λ c x posted ok is.
    subst (λ z. WorldsPost v w z held) (sym (checked_only_rdbuff r posted a b d f)) (rdbuff_posted v w u held adds same)
    c x
    posted ok is

-- READS WHOSE WORD WAS SEEN
value_posted : (r : Register) (c : Choice) (x : Target) → is_port_posted r ≡ true
    → port_value_in c r x ≡ unwrap_or x.buffer c.filler
value_posted RdbuffRead c x e = refl
value_posted CswRead c x e = refl
value_posted TarRead c x e = refl
value_posted DrwRead c x e = refl
value_posted ApOtherRead c x e = refl
value_posted r c x e = absurd (cc)

-- what is left of the read buffer once its word was seen
abbrev pub HeldIsNarrowed : Held → Near → Option Held → Type 0
HeldIsNarrowed held seen left = (value : Option ℕ) (filler : ℕ) → CheckedHeld held value
    → IsCheckedNear seen (unwrap_or value filler) → IsSomeHeld left value

-- the read buffer can be the word
pub read_posted_some : (v : Worlds) (w : World) (r : Register) (seen : Near) (ok : Bool) (held : Held)
    (left : Option Held) → left ≡ Some held → is_port_posted r ≡ true → HeldIsNarrowed w.buffer seen left
    → WorldsPost v w r held → WorldsRead v w r seen ok
read_posted_some v w r seen ok held left is posted narrows posts = λ c x accepts prompt near.
    posts c x posted accepts (subst (λ o. IsSomeHeld o x.buffer) is (narrows x.buffer c.filler
    (buffer_held w r c x posted accepts) (subst (IsCheckedNear seen) (value_posted r c x posted) near)))

-- it can't
pub read_posted_none : (v : Worlds) (w : World) (r : Register) (seen : Near) (ok : Bool) (left : Option Held)
    → left ≡ None → is_port_posted r ≡ true → HeldIsNarrowed w.buffer seen left → WorldsRead v w r seen ok
read_posted_none v w r seen ok left none posted narrows = λ c x accepts prompt near.
    absurd (subst (λ o. IsSomeHeld o x.buffer) none (narrows x.buffer c.filler
    (buffer_held w r c x posted accepts) (subst (IsCheckedNear seen) (value_posted r c x posted) near)))

-- a read whose word isn't compared
pub read_plain : (v : Worlds) (w : World) (r : Register) (seen : Near) (ok : Bool) → (r ≡ CtrlStatRead → ⊥)
    → WorldsReturn v w r → WorldsRead v w r seen ok
read_plain v w r seen ok other returns = λ c x accepts prompt near. returns c x accepts (λ e. absurd (other e))

-- RESEND returns the last returned value
resends : (v : Worlds) (w : World) (seen : Near) (held : Held) → HeldIsNarrowed w.last_returned seen (Some held)
    → WorldIsAdded (record w { last_returned = held }) v → (c : Choice) (x : Target) → WorldAccepts w ResendRead c x
    → IsCheckedNear seen (port_value_in c ResendRead x)
    → WorldsHold v w.awaits (port_after_okay c ResendRead x)
resends v w seen held narrows adds c x ok near = adds (port_after_okay c ResendRead x)
    (world_at_resend w held c x ok (narrows x.last_returned c.filler (ok.confirmed refl).last_returned near))

abbrev WorldsResend : Worlds → World → Register → Near → Choice → Target → Type 0
WorldsResend v w r seen c x = WorldAccepts w r c x → IsCheckedNear seen (port_value_in c r x)
    → WorldsHold v w.awaits (port_after_okay c r x)

-- the last returned value can be the word
pub resent_some : (v : Worlds) (w : World) (r : Register) (seen : Near) (held : Held) (left : Option Held)
    → left ≡ Some held → HeldIsNarrowed w.last_returned seen left → WorldIsAdded (record w { last_returned = held }) v
    → (c : Choice) (x : Target) → r ≡ ResendRead → WorldAccepts w r c x → IsCheckedNear seen (port_value_in c r x)
    → WorldsHold v w.awaits (port_after_okay c r x)
resent_some v w r seen held left is narrows adds c x named = subst (λ z. WorldsResend v w z seen c x) (sym named)
    (resends v w seen held (subst (HeldIsNarrowed w.last_returned seen) is narrows) adds c x)

resends_never : (v : Worlds) (w : World) (seen : Near) → HeldIsNarrowed w.last_returned seen None → (c : Choice)
    (x : Target) → WorldsResend v w ResendRead seen c x
resends_never v w seen narrows c x ok near =
    absurd (narrows x.last_returned c.filler (ok.confirmed refl).last_returned near)

-- there is no such word: nothing is left
pub resent_none : (v : Worlds) (w : World) (r : Register) (seen : Near) (left : Option Held) → left ≡ None
    → HeldIsNarrowed w.last_returned seen left → (c : Choice) (x : Target) → r ≡ ResendRead → WorldAccepts w r c x
    → IsCheckedNear seen (port_value_in c r x) → WorldsHold v w.awaits (port_after_okay c r x)
resent_none v w r seen left none narrows c x named = subst (λ z. WorldsResend v w z seen c x) (sym named)
    (resends_never v w seen (subst (HeldIsNarrowed w.last_returned seen) none narrows) c x)

-- CTRL/STAT
some_near : (left : Option Near) (word : ℕ) → IsSomeNear left word → is_some left ≡ true
some_near None word h = absurd h
some_near (Some near) word h = refl

-- the powers were found so, in a world in which STICKYERR is as it was read
pub find_holds : (v : Worlds) (w : World) (seen : Near) (d s : Bool) (debug system : Power) (left : Option Near)
    → checked_power_found w.debug d ≡ Some debug → checked_power_found w.system s ≡ Some system
    → ((word : ℕ) → IsCheckedNear seen word → IsCheckedStatus (record w { debug = debug; system = system }) word
    → IsSomeNear left word) → (is_some left ≡ true → WorldIsAdded (record w { debug = debug; system = system }) v)
    → (c : Choice) (x : Target) → d ≡ is_debug_late c x → s ≡ is_system_late c x → WorldsFindPowers v w seen c x
find_holds v w seen d s debug system left a b among adds c x late late_system sticky h near =
    let shares = world_shares w x h in
    let p : PowerFound debug x.debug_power (power_up_after c.debug_late CtrlStatRead x.debug_up) =
    subst (λ o. IsPowerFound o x.debug_power (power_up_after c.debug_late CtrlStatRead x.debug_up)) a
    (world_power_found w.debug d c.debug_late x.debug_power x.debug_up shares.debug late) in
    let q : PowerFound system x.system_power (power_up_after c.system_late CtrlStatRead x.system_up) =
    subst (λ o. IsPowerFound o x.system_power (power_up_after c.system_late CtrlStatRead x.system_up)) b
    (world_power_found w.system s c.system_late x.system_power x.system_up shares.system late_system) in
    let status = world_at_status w c x debug system h sticky p q in
    adds (some_near left (ctrl_stat_word_in c x) (among (ctrl_stat_word_in c x) near status.0))
    (port_after_okay c CtrlStatRead x) status.1

-- system power that can't be found so
pub find_no_system : (v : Worlds) (w : World) (seen : Near) (d s : Bool) → checked_power_found w.system s ≡ None
    → (c : Choice) (x : Target) → d ≡ is_debug_late c x → s ≡ is_system_late c x → WorldsFindPowers v w seen c x
find_no_system v w seen d s none c x late late_system sticky h near = absurd
    (subst (λ o. IsPowerFound o x.system_power (power_up_after c.system_late CtrlStatRead x.system_up)) none
    (world_power_found w.system s c.system_late x.system_power x.system_up (world_shares w x h).system late_system))

-- worlds that are held stay so
pub find_kept : (v last : Worlds) (w : World) (seen : Near) (c : Choice) (x : Target) → WorldsKeep v last
    → WorldsFindPowers v w seen c x → WorldsFindPowers last w seen c x
find_kept v last w seen c x keeps finds sticky h near = keeps.each _ _ (finds sticky h near)

-- one of the powers was found late
abbrev pub FoundLate : Worlds → World → Near → Bool → Bool → Type 0
FoundLate v w seen d s = (c : Choice) (x : Target) → d ≡ is_debug_late c x → s ≡ is_system_late c x
    → WorldsFindPowers v w seen c x

by_late : (v : Worlds) (w : World) (seen : Near) (c : Choice) (x : Target) (d s : Bool) → is_debug_late c x ≡ d
    → is_system_late c x ≡ s → (is_debug_late c x || is_system_late c x) ≡ true → FoundLate v w seen false true
    → FoundLate v w seen true false → FoundLate v w seen true true → WorldsFindPowers v w seen c x
by_late v w seen c x false false a b some system debug both =
    absurd (let f : is_system_late c x ≡ true = ap (λ z. z || is_system_late c x) (sym a) ∙ some in
    let g : false ≡ true = sym b ∙ f in cc)
by_late v w seen c x false true a b some system debug both = system c x (sym a) (sym b)
by_late v w seen c x true false a b some system debug both = debug c x (sym a) (sym b)
by_late v w seen c x true true a b some system debug both = both c x (sym a) (sym b)

-- one of them is late, or both
pub find_late_holds : (v : Worlds) (w : World) (seen : Near) (c : Choice) (x : Target)
    → (is_debug_late c x || is_system_late c x) ≡ true → FoundLate v w seen false true → FoundLate v w seen true false
    → FoundLate v w seen true true → WorldsFindPowers v w seen c x
find_late_holds v w seen c x some system debug both =
    by_late v w seen c x (is_debug_late c x) (is_system_late c x) refl refl some system debug both

by_prompt : (v last : Worlds) (w : World) (seen : Near) (c : Choice) (x : Target) (d s : Bool) → is_debug_late c x ≡ d
    → is_system_late c x ≡ s → WorldsKeep v last → FoundLate v w seen false false
    → ((is_debug_late c x || is_system_late c x) ≡ true → WorldsFindPowers last w seen c x)
    → WorldsFindPowers last w seen c x
by_prompt v last w seen c x false false a b keeps first late =
    find_kept v last w seen c x keeps (first c x (sym a) (sym b))
by_prompt v last w seen c x true s a b keeps first late = late (ap (λ z. z || is_system_late c x) a)
by_prompt v last w seen c x false true a b keeps first late =
    late (ap (λ z. z || is_system_late c x) a ∙ b)

-- both were found acknowledged, or one late
pub find_either : (v last : Worlds) (w : World) (seen : Near) (c : Choice) (x : Target) → WorldsKeep v last
    → FoundLate v w seen false false
    → ((is_debug_late c x || is_system_late c x) ≡ true → WorldsFindPowers last w seen c x)
    → WorldsFindPowers last w seen c x
find_either v last w seen c x keeps first late =
    by_prompt v last w seen c x (is_debug_late c x) (is_system_late c x) refl refl keeps first late

-- none is late
pub find_prompt : (v : Worlds) (w : World) (seen : Near) (c : Choice) (x : Target) → IsCheckedPrompt c
    → FoundLate v w seen false false → WorldsFindPowers v w seen c x
find_prompt v w seen c x p first = first c x
    (sym (ap (λ l. is_found_late l x.debug_power x.debug_up) p.debug ∙ prompt_late x.debug_power x.debug_up))
    (sym (ap (λ l. is_found_late l x.system_power x.system_up) p.system ∙ prompt_late x.system_power x.system_up))

-- STICKYERR is as it was, or shows a bus error
pub status_either : (v last : Worlds) (w u : World) (seen : Near) (c : Choice) (x : Target) → u ≡ world_failed w
    → WorldsKeep v last → WorldsFindPowers v w seen c x → WorldsFindPowers last u seen c x
    → WorldsFind last w seen c x
status_either v last w u seen c x same keeps first second h near =
    elim (world_shows_sticky w x h) as (λ _. WorldsHold last w.awaits (port_after_okay c CtrlStatRead x)) [
      | inl sticky ↦ keeps.each _ _ (first sticky h near)
      | inr shown ↦ subst (λ z. WorldsFindPowers last z seen c x) same second shown.3 shown.2 near
    ]

-- it can't show one
pub status_alone : (v : Worlds) (w : World) (seen : Near) (c : Choice) (x : Target)
    → (is_some w.pending && not w.sticky_error) ≡ false → WorldsFindPowers v w seen c x → WorldsFind v w seen c x
status_alone v w seen c x settled first h near =
    elim (world_shows_sticky w x h) as (λ _. WorldsHold v w.awaits (port_after_okay c CtrlStatRead x)) [
      | inl sticky ↦ first sticky h near
      | inr shown ↦ absurd (let e = shown.0 in let f = shown.1 in
          let g : true ≡ false = sym (ap (λ z. z && not w.sticky_error) e ∙ ap not f) ∙ settled in cc)
    ]

-- READS OF TAR
-- TAR, and the read buffer, is one of the addresses up to an index
pub record WorldsAtTar (u v : Worlds) (w : World) (first index : ℕ) : Type 0 where
  pub keeps : WorldsKeep u v
  pub each : (k : ℕ) → k < index → (x : Target) → IsWorldNow w x → x.tar ≡ Some (first + 4 * k) → x.buffer ≡ x.tar
      → WorldsHold v w.awaits x

last_index : (k index : ℕ) → k < index + 1 → (k < index) ⊎ (k ≡ index)
last_index k index h = grind arith

-- one address more
pub at_tar_more : (u v last : Worlds) (w added : World) (first index : ℕ)
    → ((x : Target) → IsWorldNow w x → x.tar ≡ Some (first + 4 * index) → x.buffer ≡ x.tar → IsWorldNow added x)
    → added.awaits ≡ w.awaits → WorldsKeep v last → WorldIsAdded added last → WorldsAtTar u v w first index
    → WorldsAtTar u last w first (index + 1)
at_tar_more u v last w added first index at awaits keeps adds before = record {
  keeps = worlds_keep_then u v last before.keeps keeps;
  each = λ k below x h tar same. elim (last_index k index below) as (λ _. WorldsHold last w.awaits x) [
    | inl earlier ↦ keeps.each _ _ (before.each k earlier x h tar same)
    | inr is ↦ subst (λ a. WorldsHold last a x) awaits
        (adds x (now (at x h (tar ∙ ap (λ n. Some (first + 4 * n)) is) same)))
  ];
}

-- all addresses
pub at_each_tar : (u v : Worlds) (w : World) (first more index : ℕ) → w.tar ≡ TarFrom first more → more < index
    → WorldsAtTar u v w first index → (x : Target) → IsWorldNow w x → x.buffer ≡ x.tar → WorldsHold v w.awaits x
at_each_tar u v w first more index is past all x h same =
    let found : CheckedTar (TarFrom first more) x.tar = subst (λ t. CheckedTar t x.tar) is h.tar in
    let k = found.0 in let inside = found.1 in all.each k (omega arith) x h found.2 same

-- WRONG PARITY
-- a read whose word was seen with one bit changed, as the same request, of which one more is damaged
pub read_changed : (asked again : Asked) (v : Worlds) (seen : Near) (word place : ℕ) → IsAskedAlike again asked
    → again.world ≡ asked.world → WorldsRead v again.world again.register seen false
    → IsCheckedNear seen (checked_changed_at word place) → (c : Choice) (x : Target)
    → WorldAccepts asked.world asked.register c x → IsCheckedPrompt c
    → port_value_in c asked.register x ≡ checked_changed_at word place
    → WorldsHold v asked.world.awaits (port_after_okay c asked.register x)
read_changed asked again v seen word place same world reads near c x accepts prompt is =
    subst (λ w. WorldsRead v w asked.register seen false) world
    (subst (λ r. WorldsRead v again.world r seen false) same.register reads) c x accepts (λ e. prompt)
    (subst (IsCheckedNear seen) (sym is) near)

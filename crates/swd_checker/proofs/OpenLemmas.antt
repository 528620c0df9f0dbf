-- The worlds that are held from a transaction on describe the target before it.
use Rattle.std.proofs.Common.{◌≡◌, ◌+◌, ◌≤◌, ℕ, Bool, true, false, refl, sym, ap, subst, arith, ◌∙◌, inl, inr}
use Rattle.std.proofs.Common.{◌⊎◌, [], length}
use Rattle.std.specs.Prelude.{None, ◌==◌}
use Rattle.swd_bits.specs.declared.request.Request.{Request}
use Rattle.swd_bits.specs.declared.request.Reg4.{Reg4}
use Rattle.swd_bits.specs.declared.request.Reg4.TheVariants.{R0, R4, R8, RC}
use Rattle.swd_bits.specs.declared.tx.TxEnd.{TxEnd}
use Rattle.swd_bits.specs.declared.tx.TxEnd.TheVariants.{Moved, Wait, Fault, NoAck}
use Rattle.swd_port.specs.declared.register.Register.{Register}
use Rattle.swd_port.specs.declared.register.Register.TheVariants.{DpidrRead, CtrlStatRead}
use Rattle.swd_port.specs.declared.select.Select.{Select}
use Rattle.swd_port.specs.declared.state.PowerUp.{PowerUp}
use Rattle.swd_port.specs.declared.state.PowerUp.TheVariants.{Unseen, Late, Seen}
use Rattle.swd_port.specs.declared.state.Reply.TheVariants.{Okay}
use Rattle.swd_port.specs.declared.state.Reply.{Reply}
use Rattle.swd_port.specs.declared.state.Reset.{Reset}
use Rattle.swd_port.specs.declared.state.Reset.TheVariants.{Unreset, Fresh, Live}
use Rattle.swd_port.specs.declared.mark.Mark.{Mark}
use Rattle.swd_port.specs.Registers.{register_bit, select_of}
use Rattle.swd_port.specs.Port.{Port, Target, port_idle_link, port_register, port_selects_mem_ap}
use Rattle.swd_port.specs.Choices.{Choice, port_flip_of}
use Rattle.swd_port.specs.Answers.{is_exempt_register, is_dpidr_register, port_is_answered, is_port_unpowered}
use Rattle.swd_port.specs.Answers.{is_port_power_there}
use Rattle.swd_port.specs.Asking.{PortAsksNow, port_after_reply, port_reply, port_has_power}
use Rattle.swd_port.specs.Asking.{ctrl_stat_word_in, power_up_after}
use Rattle.swd_port.specs.Completion.{PortCompletes}
use Rattle.swd_port.proofs.CompletionLaws.{no_pending_same}
use Rattle.swd_port.proofs.StatusLaws.{ctrl_stat_word_reads}
use Rattle.swd_observer.proofs.StepLemmas.{observed_first_clear, observed_second_clear}
use Rattle.swd_checker.specs.declared.opening.Opening.TheVariants.{Resting, Selected}
use Rattle.swd_checker.specs.declared.worlds.Worlds.{Worlds}
use Rattle.swd_checker.specs.Worlds.{World, Power, PowerOff, PowerUnseen, PowerLate, PowerSeen}
use Rattle.std.specs.Option.{option_map}
use Rattle.swd_checker.specs.Described.{WorldDescribes, now, CheckedPower, checked_transfer_of}
use Rattle.swd_checker.specs.Holding.{WorldsHold, WorldsKeep, WorldsGrow}
use Rattle.swd_checker.specs.Steps.{world_selecting}
use Rattle.swd_checker.specs.Checked.{CheckedHasMoved, checked_phase}
use Rattle.swd_checker.specs.Openings.{IsCheckedResting, IsCheckedSelected, WorldsOpen, IsOpenedAtStatus}
use Rattle.swd_checker.specs.Openings.{IsOpenedAtOkay, world_unknown, checked_may_be_refused}
use Rattle.swd_checker.specs.Openings.{checked_reads_status, is_checked_moved}
use Rattle.swd_checker.proofs.CheckedLemmas.{CheckedOkayed, checked_okay_seen, checked_reply_okay}
use Rattle.swd_checker.proofs.DueLemmas.{checked_clear_by, checked_answered_by}
use Rattle.swd_checker.proofs.OpeningLemmas.{plain_named}
use Rattle.swd_checker.proofs.GivenLemmas.{checked_kept_at_rest}
use Rattle.swd_checker.proofs.TransactLemmas.{bits_taken, phase_read, takes, moved_whole}

-- THE LINE BEFORE A REQUEST
abbrev with_idle_line : Port → Port
with_idle_line s = record s { link = port_idle_link }

completes_idle : (s t : Port) → PortCompletes s t → PortCompletes (with_idle_line s) (with_idle_line t)
completes_idle s t (inl e) = inl (ap with_idle_line e)
completes_idle s t (inr (c, fits, e)) = inr (c, fits, ap with_idle_line e)

reply_idle : (mark : Mark) (reply : Reply) (r : Register) (q : Request) (c : Choice) (a : Port) → reply ≡ Okay
    → port_after_reply mark reply r q c a ≡ port_after_reply mark reply r q c (with_idle_line a)
reply_idle mark reply r q c a e =
    subst (λ z. port_after_reply mark z r q c a ≡ port_after_reply mark z r q c (with_idle_line a)) (sym e) refl

-- what the line was before an OK has no effect
asks_idle : (mark : Mark) (c : Choice) (a : Port) (q : Request) (b : Port) → port_reply mark a.target q ≡ Okay
    → PortAsksNow mark c a q 1 b → PortAsksNow mark c (with_idle_line a) q 1 b
asks_idle mark c a q b okay h = record {
  legal = h.legal;
  choice = h.choice;
  late = h.late;
  settled = h.settled;
  word = h.word;
  sees = h.sees;
  after = h.after ∙ reply_idle mark (port_reply mark a.target q) (port_register a.target.select q) q c a okay;
}

moved_idle : (clean : Bool) (q : Request) (word : ℕ) (ok : Bool) (s t : Port) → CheckedHasMoved clean q word ok s t
    → CheckedHasMoved clean q word ok (with_idle_line s) t
moved_idle clean q word ok s t h = record {
  asked = h.asked;
  asks = record {
    before = with_idle_line h.asks.before;
    after = h.asks.after;
    mark = h.asks.mark;
    choice = h.asks.choice;
    undamaged = h.asks.undamaged;
    completes = completes_idle s h.asks.before h.asks.completes;
    asks = asks_idle h.asks.mark h.asks.choice h.asks.before q h.asks.after
        (checked_reply_okay h.asks.mark (port_reply h.asks.mark h.asks.before.target q) h.asks.asks.sees) h.asks.asks;
    then = h.asks.then;
  };
  small = h.small;
  moves = h.moves;
}

-- OK
live_by : (reset : Reset) (r : Register) → port_is_answered reset r ≡ true → is_dpidr_register r ≡ false
    → reset ≡ Live
live_by Unreset r e plain = absurd (let f : false ≡ true = e in cc)
live_by Fresh r e plain = absurd (let f : true ≡ false = sym e ∙ plain in cc)
live_by Live r e plain = refl

plain_not_dpidr : (r : Register) → is_exempt_register r ≡ false → is_dpidr_register r ≡ false
plain_not_dpidr DpidrRead e = absurd (let f : true ≡ false = e in cc)
plain_not_dpidr r e = refl

status_named : (q : Request) (select : Select) → q.ap ≡ false → q.read ≡ true → q.addr ≡ R4
    → (select.dpbanksel == 0) ≡ true → port_register select q ≡ CtrlStatRead
status_named q select plain read at bank = rw (plain, read, at, bank) refl

-- a read of CTRL/STAT of a target at rest
status_opened : (clean : Bool) (q : Request) (word : ℕ) (s t : Port) → q.ap ≡ false → q.read ≡ true → q.addr ≡ R4
    → CheckedHasMoved clean q word true s t → IsCheckedResting s.target → IsOpenedAtStatus word s.target
status_opened clean q word s t plain read at h rests =
    let same : h.asks.before ≡ s = no_pending_same s h.asks.before rests.pending h.asks.completes in
    let x : Target = h.asks.before.target in
    let bank : (x.select.dpbanksel == 0) ≡ true = subst (λ (p : Port). (p.target.select.dpbanksel == 0) ≡ true)
    (sym same)
    rests.bank0 in
    let named : port_register x.select q ≡ CtrlStatRead = status_named q x.select plain read at bank in
    let k : CheckedOkayed h.asks.mark h.asks.choice q CtrlStatRead h.asks.before h.asks.after =
    checked_okay_seen clean s q h.asked CtrlStatRead h.asks named in
    let bits = bits_taken h.asks.after h.asked t (checked_phase true word) _
    (k.line ∙ phase_read q.read CtrlStatRead (port_flip_of h.asks.mark) _ read) h.asks.then
    (takes q.read h.asked t (checked_phase true word) read h.moves) in
    let e : word ≡ ctrl_stat_word_in h.asks.choice x =
    moved_whole h.asks.mark word (ctrl_stat_word_in h.asks.choice x) h.small (k.word read) bits in
    let reads = ctrl_stat_word_reads h.asks.choice.others x.sticky_error x.read_ok x.write_error
    x.debug_power (is_port_power_there (power_up_after h.asks.choice.debug_late CtrlStatRead x.debug_up))
    x.system_power (is_port_power_there (power_up_after h.asks.choice.system_late CtrlStatRead x.system_up)) in
    let live : x.reset ≡ Live = live_by x.reset (port_register x.select q)
    (checked_answered_by (port_is_answered x.reset (port_register x.select q)) _ _ k.answer)
    (ap is_dpidr_register named) in
    subst (λ (p : Port). IsOpenedAtStatus word p.target) same (record {
      live = live;
      sticky_error = sym (ap (register_bit 5) e ∙ reads.sticky_bit);
      read_ok = sym (ap (register_bit 6) e ∙ reads.ok_bit);
      write_error = sym (ap (register_bit 7) e ∙ reads.write_bit);
      rests = subst (λ (p : Port). IsCheckedResting p.target) (sym same) rests;
    })

-- OK to a request that can be refused, once SELECT was written
arrived_whole : (word : ℕ) (x : Target) → (x.write_error ≡ true) ⊎ (x.select ≡ select_of word) → x.write_error ≡ false
    → x.select ≡ select_of word
arrived_whole word x (inl e) clear = absurd (let f : true ≡ false = sym e ∙ clear in cc)
arrived_whole word x (inr e) clear = e

okay_opened : (clean : Bool) (q : Request) (select word : ℕ) (ok : Bool) (s t : Port)
    → checked_may_be_refused q.addr q.ap q.read ≡ true → CheckedHasMoved clean q word ok s t
    → IsCheckedSelected select s.target → IsOpenedAtOkay select s.target
okay_opened clean q select word ok s t may h selected =
    let same : h.asks.before ≡ s = no_pending_same s h.asks.before selected.pending h.asks.completes in
    let x : Target = h.asks.before.target in
    let r : Register = port_register x.select q in
    let plain : is_exempt_register r ≡ false =
    plain_named q (port_selects_mem_ap x.select) (x.select.dpbanksel == 0) may in
    let k : CheckedOkayed h.asks.mark h.asks.choice q r h.asks.before h.asks.after =
    checked_okay_seen clean s q h.asked r h.asks refl in
    let clear = checked_clear_by (port_is_answered x.reset r) (is_exempt_register r) _ k.answer plain in
    let write : x.write_error ≡ false = observed_second_clear x.sticky_error x.write_error
    (is_port_unpowered q.ap (port_has_power x)) clear in
    let before : IsCheckedSelected select x = subst (λ (p : Port). IsCheckedSelected select p.target) (sym same)
    selected in
    subst (λ (p : Port). IsOpenedAtOkay select p.target) same (record {
      live = live_by x.reset r (checked_answered_by (port_is_answered x.reset r) _ _ k.answer)
          (plain_not_dpidr r plain);
      sticky_error = observed_first_clear x.sticky_error x.write_error (is_port_unpowered q.ap (port_has_power x))
          clear;
      write_error = write;
      select = arrived_whole select x before.arrived write;
      pending = before.pending;
    })

-- the worlds are opened
status_fields : (ap read : Bool) (addr : Reg4) → checked_reads_status addr ap read ≡ true
    → (ap ≡ false) × (read ≡ true) × (addr ≡ R4)
status_fields false true R4 e = (refl, refl, refl)
status_fields false false R4 e = absurd (cc)
status_fields true read R4 e = absurd (cc)
status_fields ap read R0 e = absurd (cc)
status_fields ap read R8 e = absurd (cc)
status_fields ap read RC e = absurd (cc)

-- at a read of CTRL/STAT
pub worlds_open_at_status : (v : Worlds) (q : Request) (word : ℕ) (ok : Bool) → ok ≡ true
    → checked_reads_status q.addr q.ap q.read ≡ true → v.crowded ≡ false
    → ((x : Target) → IsOpenedAtStatus word x → WorldsHold v false x) → WorldsOpen Resting (Moved word ok) q v
worlds_open_at_status v q word ok right reads room opens clean u s t h rests =
    let fields = status_fields q.ap q.read q.addr reads in
    let kept : CheckedHasMoved clean q word ok s t = checked_kept_at_rest clean (Moved word ok) q s t rests.pending h in
    let whole : CheckedHasMoved clean q word true s t = subst (λ b. CheckedHasMoved clean q word b s t) right kept in (
      with_idle_line s,
      inl (moved_idle clean q word ok s t kept),
      room,
      opens s.target (status_opened clean q word s t fields.0 fields.1 fields.2 whole rests),
    )

-- at OK to a request that can be refused
pub worlds_open_at_okay : (v : Worlds) (q : Request) (select : ℕ) (end : TxEnd) → is_checked_moved end ≡ true
    → checked_may_be_refused q.addr q.ap q.read ≡ true → v.crowded ≡ false
    → ((x : Target) → IsOpenedAtOkay select x → WorldsHold v false x) → WorldsOpen (Selected select) end q v
worlds_open_at_okay v q select Wait moved may room opens clean u s t h selected = absurd (cc)
worlds_open_at_okay v q select Fault moved may room opens clean u s t h selected = absurd (cc)
worlds_open_at_okay v q select (NoAck seen) moved may room opens clean u s t h selected = absurd (cc)
worlds_open_at_okay v q select (Moved word ok) moved may room opens clean u s t h selected =
    let kept : CheckedHasMoved clean q word ok s t =
    checked_kept_at_rest clean (Moved word ok) q s t selected.pending h in (
      with_idle_line s,
      inl (moved_idle clean q word ok s t kept),
      room,
      opens s.target (okay_opened clean q select word ok s t may kept selected),
    )

-- THE WORLDS
pending_none : (x : Target) → x.pending ≡ None → option_map checked_transfer_of x.pending ≡ None
pending_none x e = ap (option_map checked_transfer_of) e

-- there is room for the first ones
pub worlds_uncrowded : (n : ℕ) (v last : Worlds) → v.kept.items ≡ [] → v.crowded ≡ false → n ≤ 64 → WorldsGrow n v last
    → last.crowded ≡ false
worlds_uncrowded n v last items clear few h =
    h.fits (subst (λ l. length l + n ≤ 64) (sym items) (omega (arith, few))) ∙ clear

-- a power that isn't the one that was seen
abbrev known_power : Bool → PowerUp → Power
known_power false up = PowerOff
known_power true Late = PowerLate
known_power true Unseen = PowerUnseen
known_power true Seen = PowerUnseen

known_other : (on : Bool) (up : PowerUp) → known_power on up ≡ PowerSeen → ⊥
known_other false up e = absurd (cc)
known_other true Late e = absurd (cc)
known_other true Unseen e = absurd (cc)
known_other true Seen e = absurd (cc)

known_checked : (on : Bool) (up : PowerUp) → CheckedPower (known_power on up) on up
known_checked false up = refl
known_checked true Late = (refl, refl)
known_checked true Unseen = (refl, λ e. cc)
known_checked true Seen = (refl, λ e. cc)

-- one of three powers, if it isn't the one that was seen
pub power_of_three : (P : Power → Type 0) → P PowerOff → P PowerUnseen → P PowerLate → (p : Power)
    → (p ≡ PowerSeen → ⊥) → P p
power_of_three P off unseen late PowerOff other = off
power_of_three P off unseen late PowerUnseen other = unseen
power_of_three P off unseen late PowerLate other = late
power_of_three P off unseen late PowerSeen other = absurd (other refl)

-- AddrInc is single, or off
pub single_or_off : (P : Bool → Type 0) → P false → P true → (b : Bool) → P b
single_or_off P off single false = off
single_or_off P off single true = single

-- this world with any powers that are known, and any AddrInc
abbrev pub WorldsAddAny : World → Worlds → Type 0
WorldsAddAny w v = (debug system : Power) (increments : Bool) (x : Target) → (debug ≡ PowerSeen → ⊥)
    → (system ≡ PowerSeen → ⊥) → WorldDescribes (record w { debug = debug; system = system; increments = increments }) x
    → WorldsHold v w.awaits x

abbrev world_at_flags : Bool → Bool → Bool → World
world_at_flags sticky ok write =
    record world_unknown { sticky_error = sticky; read_ok = ok; write_error = write }

flags_described : (x : Target) (sticky ok write : Bool) (d s : Power) → x.reset ≡ Live → x.sticky_error ≡ sticky
    → x.read_ok ≡ ok → x.write_error ≡ write → IsCheckedResting x → CheckedPower d x.debug_power x.debug_up
    → CheckedPower s x.system_power x.system_up
    → WorldDescribes (record (world_at_flags sticky ok write) { debug = d; system = s; increments = x.increments }) x
flags_described x sticky ok write d s live a b e rests debug system = now (record {
  reset = live;
  sticky_error = a;
  write_error = e;
  read_ok = b;
  debug = debug;
  system = system;
  mem_ap = rests.mem_ap;
  bank0 = rests.bank0;
  increments = refl;
  pending = pending_none x rests.pending;
  tar = tt;
  buffer = tt;
  last_returned = tt;
})

-- the worlds that CTRL/STAT leaves
pub status_held : (v : Worlds) (unknown : World) (a b e : Bool) (word : ℕ) → unknown ≡ world_unknown
    → a ≡ register_bit 5 word → b ≡ register_bit 6 word → e ≡ register_bit 7 word
    → WorldsAddAny (record unknown { sticky_error = a; read_ok = b; write_error = e }) v → (x : Target)
    → IsOpenedAtStatus word x → WorldsHold v false x
status_held v unknown a b e word is f g k adds x h =
    let same : (record unknown { sticky_error = a; read_ok = b; write_error = e })
    ≡ world_at_flags (register_bit 5 word) (register_bit 6 word) (register_bit 7 word) = rw (is, f, g, k) refl in
    let d : Power = known_power x.debug_power x.debug_up in
    let s : Power = known_power x.system_power x.system_up in
    subst (λ w. WorldsAddAny w v) same adds d s x.increments x (known_other x.debug_power x.debug_up)
    (known_other x.system_power x.system_up) (flags_described x (register_bit 5 word) (register_bit 6 word)
    (register_bit 7 word) d s h.live h.sticky_error h.read_ok h.write_error h.rests
    (known_checked x.debug_power x.debug_up) (known_checked x.system_power x.system_up))

abbrev world_at_select : ℕ → Bool → World
world_at_select select ok = record (world_selecting select world_unknown) { read_ok = ok }

select_described : (x : Target) (select : ℕ) (ok : Bool) (d s : Power) → IsOpenedAtOkay select x → x.read_ok ≡ ok
    → CheckedPower d x.debug_power x.debug_up → CheckedPower s x.system_power x.system_up
    → WorldDescribes (record (world_at_select select ok) { debug = d; system = s; increments = x.increments }) x
select_described x select ok d s h is debug system = now (record {
  reset = h.live;
  sticky_error = h.sticky_error;
  write_error = h.write_error;
  read_ok = is;
  debug = debug;
  system = system;
  mem_ap = ap port_selects_mem_ap h.select;
  bank0 = ap (λ (z : Select). z.dpbanksel == 0) h.select;
  increments = refl;
  pending = pending_none x h.pending;
  tar = tt;
  buffer = tt;
  last_returned = tt;
})

select_held : (v : Worlds) (select : ℕ) (ok : Bool) (x : Target) → WorldsAddAny (world_at_select select ok) v
    → IsOpenedAtOkay select x → x.read_ok ≡ ok → WorldsHold v false x
select_held v select ok x adds h is =
    let d : Power = known_power x.debug_power x.debug_up in
    let s : Power = known_power x.system_power x.system_up in
    adds d s x.increments x (known_other x.debug_power x.debug_up) (known_other x.system_power x.system_up)
    (select_described x select ok d s h is (known_checked x.debug_power x.debug_up)
    (known_checked x.system_power x.system_up))

held_by : (v last : Worlds) (select : ℕ) (x : Target) (ok : Bool) → x.read_ok ≡ ok → WorldsKeep v last
    → WorldsAddAny (world_at_select select false) v → WorldsAddAny (world_at_select select true) last
    → IsOpenedAtOkay select x → WorldsHold last false x
held_by v last select x false is keeps first second h = keeps.each _ _ (select_held v select false x first h is)
held_by v last select x true is keeps first second h = select_held last select true x second h is

-- the worlds that SELECT leaves
pub okay_held : (v last : Worlds) (unknown selecting : World) (select : ℕ) → unknown ≡ world_unknown
    → selecting ≡ world_selecting select unknown → WorldsKeep v last
    → WorldsAddAny (record selecting { read_ok = false }) v → WorldsAddAny (record selecting { read_ok = true }) last
    → (x : Target) → IsOpenedAtOkay select x → WorldsHold last false x
okay_held v last unknown selecting select is named keeps first second x h =
    let same : selecting ≡ world_selecting select world_unknown = named ∙ ap (world_selecting select) is in
    held_by v last select x x.read_ok refl keeps
    (subst (λ (w : World). WorldsAddAny (record w { read_ok = false }) v) same first)
    (subst (λ (w : World). WorldsAddAny (record w { read_ok = true }) last) same second) h

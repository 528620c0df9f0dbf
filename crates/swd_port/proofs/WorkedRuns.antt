-- Short runs of the port machine, computed by its definitions: what each last read gives.
use Rattle.std.proofs.Common.{◌≡◌, ℕ, true, false, Some, None, refl, sym, subst}
use Rattle.swd_bits.specs.declared.request.Request.{Request}
use Rattle.swd_bits.specs.declared.request.Reg4.{Reg4}
use Rattle.swd_bits.specs.declared.request.Reg4.TheVariants.{R0, R4, R8, RC}
use Rattle.swd_port.specs.declared.wire.Due.TheVariants.{Lost}
use Rattle.swd_port.specs.declared.access.Access.TheVariants.{Write}
use Rattle.swd_port.specs.Bus.{Bus, bus_succeeds, bus_after}
use Rattle.swd_bits.specs.Phases.{data_phase_number}
use Rattle.swd_port.specs.Port.{Port, CtrlStatRead, CswRead, ApOtherRead, ApOtherWrite, Drives}
use Rattle.swd_port.specs.Made.{port_made}
use Rattle.swd_port.specs.Port.{port_register}
use Rattle.swd_port.specs.Choices.{Clean, Wait, Choice}
use Rattle.swd_port.specs.Answers.{port_seen_at}
use Rattle.swd_port.specs.Completion.{port_completed}
use Rattle.swd_port.specs.Asking.{port_reply, port_after_reply, port_after_okay, port_value_in}
use Rattle.swd_port.specs.Moving.{Arrives, Damaged, port_after_arrival, port_after_take}
use Rattle.swd_port.specs.Leading.{port_after_lead}

-- the choices of these runs
abbrev choice : Choice
choice = record {
  address = 0;
  filler = 0xa5a5_a5a5;
  others = 0;
  elsewhere = 0x5a5a_5a5a;
  refuses = false;
  debug_late = false;
  system_late = false;
}

-- the choices of a target that finds both powers late
abbrev busy : Choice
busy = record choice { debug_late = true; system_late = true }

-- requests by their names in AP 0, bank 0, and DP bank 0
abbrev dp_read : Reg4 → Request
dp_read addr = record { ap = false; read = true; addr = addr }

abbrev dp_write : Reg4 → Request
dp_write addr = record { ap = false; read = false; addr = addr }

abbrev ap_read : Reg4 → Request
ap_read addr = record { ap = true; read = true; addr = addr }

abbrev ap_write : Reg4 → Request
ap_write addr = record { ap = true; read = false; addr = addr }

-- a clean request, and what the host sees of it
abbrev asked : Request → Port → Port
asked q s = port_after_reply Clean (port_reply Clean s.target q) (port_register s.target.select q) q choice s

abbrev seen : Request → Port → ℕ
seen q s = port_seen_at Clean (port_reply Clean s.target q)

-- a request of a busy target
abbrev asked_busy : Request → Port → Port
asked_busy q s = port_after_reply Wait (port_reply Wait s.target q) (port_register s.target.select q) q busy s

-- a read with its data phase, and the value that it gives
abbrev taken : Request → Port → Port
taken q s = port_after_take (asked q s)

abbrev value : Request → Port → ℕ
value q s = port_value_in choice (port_register s.target.select q) s.target

-- a write whose word arrives, and one whose data is damaged
abbrev given : Request → ℕ → Port → Port
given q word s = port_after_arrival false (Arrives (port_register s.target.select q) word) (asked q s)

abbrev damaged : Request → Port → Port
damaged q s = port_after_arrival false Damaged (asked q s)

-- a target that was reset and read, and one that is set up for transfers
abbrev live : Bus → Port
live m = taken (dp_read R0) (port_after_lead 56 (port_made 0x2ba0_1477 m))

abbrev up : Bus → Port
up m = given (ap_write R0) 0x2300_0012 (given (dp_write R4) 0x5000_0000 (live m))

before_any_lead : (m : Bus) → seen (dp_read R0) (port_made 0x2ba0_1477 m) ≡ 7
before_any_lead m = refl

lost_before_any_lead : (m : Bus) → (asked (dp_read R0) (port_made 0x2ba0_1477 m)).link.due ≡ Lost
lost_before_any_lead m = refl

dpidr : (m : Bus)
    → (asked (dp_read R0) (port_after_lead 56 (port_made 0x2ba0_1477 m))).link.line
    ≡ Drives (data_phase_number 0x2ba0_1477)
dpidr m = refl

unknown_buffer : (m : Bus) → (asked (dp_read RC) (live m)).link.line ≡ Drives (data_phase_number 0xa5a5_a5a5)
unknown_buffer m = refl

read_ok : (m : Bus) → value (dp_read R4) (taken (dp_read RC) (live m)) ≡ 0x0000_0040
read_ok m = refl

-- a line reset in place of the data of a SELECT write
abbrev cut_short : Bus → Port
cut_short m = port_after_lead 100 (asked (dp_write R8) (live m))

silent_while_fresh : (m : Bus) → seen (dp_read R4) (cut_short m) ≡ 7
silent_while_fresh m = refl

cut_short_sets_write_error : (m : Bus) → value (dp_read R4) (taken (dp_read R0) (cut_short m)) ≡ 0x0000_0080
cut_short_sets_write_error m = refl

other_bank_ignores : (m : Bus)
    → value (dp_read R4) (given (dp_write R8) 0 (given (dp_write R4) 0x5000_0000 (given (dp_write R8) 1 (live m)))) ≡ 0
other_bank_ignores m = refl

no_power : (m : Bus) → seen (ap_read R0) (live m) ≡ 4
no_power m = refl

no_power_sets_sticky_error : (m : Bus) → value (dp_read R4) (asked (ap_read R0) (live m)) ≡ 0x0000_0020
no_power_sets_sticky_error m = refl

no_power_beside_write_error : (m : Bus)
    → value (dp_read R4) (asked (ap_read R0) (damaged (dp_write R8) (live m))) ≡ 0x0000_00a0
no_power_beside_write_error m = refl

powered : (m : Bus) → value (dp_read R4) (up m) ≡ 0xf000_0000
powered m = refl

-- power that a busy target finds late when CTRL/STAT is read, then seen when it is read again
abbrev late : Bus → Port
late m = asked_busy (dp_read R4) (given (dp_write R4) 0x5000_0000 (live m))

late_in_status : (m : Bus)
    → port_value_in busy CtrlStatRead (given (dp_write R4) 0x5000_0000 (live m)).target ≡ 0x5000_0000
late_in_status m = refl

late_is_disturbed : (m : Bus) → (late m).tally.disturbed ≡ 1
late_is_disturbed m = refl

late_is_a_fault : (m : Bus) → seen (ap_read R0) (late m) ≡ 4
late_is_a_fault m = refl

late_no_more : (m : Bus) → value (dp_read R4) (late m) ≡ 0xf000_0000
late_no_more m = refl

late_no_more_for_access_ports : (m : Bus) → seen (ap_read R0) (asked (dp_read R4) (late m)) ≡ 1
late_no_more_for_access_ports m = refl

-- once it was seen, no busy target finds it late
stays_there : (m : Bus)
    → port_value_in busy CtrlStatRead (asked (dp_read R4) (late m)).target ≡ 0xf000_0000
stays_there m = refl

-- an access port that answers has debug power, and system power may still be late
there_by_access : (m : Bus) → port_value_in busy CtrlStatRead (up m).target ≡ 0x7000_0000
there_by_access m = refl

csw_is_posted : (m : Bus) → value (ap_read R0) (up m) ≡ 0xa5a5_a5a5
csw_is_posted m = refl

csw : (m : Bus) → value (dp_read RC) (taken (ap_read R0) (up m)) ≡ 0x0000_0052
csw m = refl

damaged_write_keeps_returned : (m : Bus) →
    value (dp_read R8) (given (dp_write R0) 8
    (damaged (ap_write R4) (taken (dp_read RC) (taken (ap_read R0) (up m))))) ≡ 0x0000_0052
damaged_write_keeps_returned m = refl

-- a write that the bus refuses, done at once
abbrev failed : Bus → Port
failed m = port_completed choice (given (ap_write RC) 1 (given (ap_write R4) 0x3000_0000 (up m)))

abbrev refused : Bus → Port
refused m =
    let p = given (ap_write RC) 1 (given (ap_write R4) 0x3000_0000 (up m)) in
    record p {
      target = record p.target {
        sticky_error = true;
        tar = None;
        buffer = None;
        pending = None;
        memory = bus_after (Write 0x3000_0000 1) m;
      };
    }

failed_refused : (m : Bus) → bus_succeeds (Write 0x3000_0000 1) m ≡ false → failed m ≡ refused m
failed_refused m none = rw none refl

bus_error_is_a_fault : (m : Bus) → bus_succeeds (Write 0x3000_0000 1) m ≡ false → seen (dp_read RC) (failed m) ≡ 4
bus_error_is_a_fault m none = rw none refl

bus_error_in_status : (m : Bus) → bus_succeeds (Write 0x3000_0000 1) m ≡ false
    → value (dp_read R4) (asked (dp_read RC) (failed m)) ≡ 0xf000_0020
bus_error_in_status m none =
    subst (λ p. value (dp_read R4) (asked (dp_read RC) p) ≡ 0xf000_0020) (sym (failed_refused m none)) refl

bus_error_cleared : (m : Bus) → bus_succeeds (Write 0x3000_0000 1) m ≡ false
    → value (dp_read R4) (given (dp_write R0) 4 (asked (dp_read RC) (failed m))) ≡ 0xf000_0000
bus_error_cleared m none =
    subst (λ p. value (dp_read R4) (given (dp_write R0) 4 (asked (dp_read RC) p)) ≡ 0xf000_0000)
    (sym (failed_refused m none)) refl

-- one that it takes, before the end of a kilobyte, and at it, where TAR is any word then
abbrev moved : ℕ → Bus → Port
moved at m = port_completed choice (given (ap_write RC) 1 (given (ap_write R4) at (up m)))

next_inside : (m : Bus) → bus_succeeds (Write 0x2000_03f8 1) m ≡ true
    → value (dp_read RC) (taken (ap_read R4) (moved 0x2000_03f8 m)) ≡ 0x2000_03fc
next_inside m there = rw there refl

unknown_past_the_end : (m : Bus) → bus_succeeds (Write 0x2000_03fc 1) m ≡ true
    → value (dp_read RC) (taken (ap_read R4) (moved 0x2000_03fc m)) ≡ 0xa5a5_a5a5
unknown_past_the_end m there = rw there refl

-- a target that sets each bit that the model leaves open
abbrev open_bits : Choice
open_bits = record choice { others = 0xffff_ffff }

status_with_open_bits : (m : Bus) → port_value_in open_bits CtrlStatRead (up m).target ≡ 0xffff_ff1f
status_with_open_bits m = refl

csw_with_open_bits : (m : Bus) → (port_after_okay open_bits CswRead (up m).target).buffer ≡ Some 0xffff_ffda
csw_with_open_bits m = refl

-- debug power alone is late, and an access port doesn't answer; then system power alone, and it does
debug_alone_late : (m : Bus) → port_value_in (record choice { debug_late = true }) CtrlStatRead
    (given (dp_write R4) 0x5000_0000 (live m)).target ≡ 0xd000_0000
debug_alone_late m = refl

abbrev system_late : Bus → Port
system_late m =
    let p = given (dp_write R4) 0x5000_0000 (live m) in
    record p { target = port_after_okay (record choice { system_late = true }) CtrlStatRead p.target }

system_alone_late : (m : Bus) → port_value_in (record choice { system_late = true }) CtrlStatRead
    (given (dp_write R4) 0x5000_0000 (live m)).target ≡ 0x7000_0000
system_alone_late m = refl

access_port_without_system_power : (m : Bus) → seen (ap_read R0) (system_late m) ≡ 1
access_port_without_system_power m = refl

-- a register of another AP bank, and of another bank of the debug port
abbrev elsewhere : Bus → Port
elsewhere m = given (dp_write R8) 0x0000_0011 (up m)

word_elsewhere : (m : Bus) → value (dp_read RC) (taken (ap_read R0) (elsewhere m)) ≡ 0x5a5a_5a5a
word_elsewhere m = refl

word_in_other_bank : (m : Bus) → value (dp_read R4) (elsewhere m) ≡ 0x5a5a_5a5a
word_in_other_bank m = refl

bus_error_elsewhere : (m : Bus)
    → (port_after_okay (record choice { refuses = true }) ApOtherRead (elsewhere m).target).sticky_error ≡ true
bus_error_elsewhere m = refl

bus_error_elsewhere_at_write : (m : Bus)
    → (port_after_arrival true (Arrives ApOtherWrite 1) (asked (ap_write R0) (elsewhere m))).target.sticky_error ≡ true
bus_error_elsewhere_at_write m = refl

-- A clocked target without its device, as integers. Each enum that isn't optional is numbered from 1 on, so no target
-- has all zeros. An unused field is 0.
use Rattle.std.specs.Prelude.{ℕ, ◌==◌, ◌%◌, ◌^◌, is_some, unwrap_or, if◌then◌else◌}
use Rattle.swd_bits.specs.Bits.{bit}
use Rattle.swd_port.specs.declared.register.Register.{Register}
use Rattle.swd_port.specs.declared.register.Register.TheVariants.{DpidrRead, AbortWrite, CtrlStatRead, CtrlStatWrite}
use Rattle.swd_port.specs.declared.register.Register.TheVariants.{SelectWrite, ResendRead, RdbuffRead, DpOtherRead}
use Rattle.swd_port.specs.declared.register.Register.TheVariants.{DpIgnoredWrite, CswRead, CswWrite, TarRead, TarWrite}
use Rattle.swd_port.specs.declared.register.Register.TheVariants.{DrwRead, DrwWrite, ApOtherRead, ApOtherWrite}
use Rattle.swd_port.specs.declared.state.AfterAck.{AfterAck}
use Rattle.swd_port.specs.declared.state.AfterAck.TheVariants as lines
use Rattle.swd_port.specs.declared.state.Reply.{Reply}
use Rattle.swd_port.specs.declared.state.Reply.TheVariants.{Okay, Waits, Faults, Silent}
use Rattle.swd_target.specs.Fields.{restored_target_flag, restored_target}
use Rattle.swd_target.specs.Fields as target
use Rattle.swd_clocked.specs.declared.clocked.Clocked.{Clocked}
use Rattle.swd_clocked.specs.declared.fields.ClockedFields.{ClockedFields}
use Rattle.swd_clocked.specs.declared.fields.FrameFields.{FrameFields}
use Rattle.swd_clocked.specs.declared.fields.LineFields.{LineFields}
use Rattle.swd_clocked.specs.declared.frame.Frame.{Frame}
use Rattle.swd_clocked.specs.declared.frame.Frame.TheVariants.{Asks, Lost, High, Switches, Replies, Drives, Awaits}
use Rattle.swd_clocked.specs.declared.frame.Frame.TheVariants.{Passes}

abbrev pub clocked_register_number : Register → ℕ
clocked_register_number DpidrRead = 1
clocked_register_number AbortWrite = 2
clocked_register_number CtrlStatRead = 3
clocked_register_number CtrlStatWrite = 4
clocked_register_number SelectWrite = 5
clocked_register_number ResendRead = 6
clocked_register_number RdbuffRead = 7
clocked_register_number DpOtherRead = 8
clocked_register_number DpIgnoredWrite = 9
clocked_register_number CswRead = 10
clocked_register_number CswWrite = 11
clocked_register_number TarRead = 12
clocked_register_number TarWrite = 13
clocked_register_number DrwRead = 14
clocked_register_number DrwWrite = 15
clocked_register_number ApOtherRead = 16
clocked_register_number ApOtherWrite = 17

abbrev pub clocked_reply_number : Reply → ℕ
clocked_reply_number Okay = 1
clocked_reply_number Waits = 2
clocked_reply_number Faults = 3
clocked_reply_number Silent = 4

-- the fields of a data phase: its kind, its bits, its register, and the bit that arrives changed, if any
abbrev pub clocked_line_with : ℕ → ℕ → ℕ → ℕ → ℕ → LineFields
clocked_line_with kind bits register flips flip =
    record { bits = bits; kind = kind; register = register; flips = flips; flip = flip }

abbrev pub clocked_line_fields : AfterAck → LineFields
clocked_line_fields lines.Idle = clocked_line_with 1 0 0 0 0
clocked_line_fields (lines.Drives bits) = clocked_line_with 2 bits 0 0 0
clocked_line_fields (lines.Awaits r flip) =
    clocked_line_with 3 0 (clocked_register_number r) (bit (is_some flip)) (unwrap_or flip 0)

-- the fields of a frame with this kind and count
abbrev pub plain_frame : ℕ → ℕ → FrameFields
plain_frame kind place = record { line = clocked_line_with 0 0 0 0 0; kind = kind; place = place; byte = 0; reply = 0 }

abbrev pub frame_fields : Frame → FrameFields
frame_fields (Asks byte count) = record (plain_frame 1 count) { byte = byte }
frame_fields (Lost ones) = plain_frame 2 ones
frame_fields High = plain_frame 3 0
frame_fields (Switches place) = plain_frame 4 place
frame_fields (Replies reply line place) =
    record (plain_frame 5 place) { line = clocked_line_fields line; reply = clocked_reply_number reply }
frame_fields (Drives bits left) = record (plain_frame 6 left) { line = clocked_line_with 0 bits 0 0 0 }
frame_fields (Awaits r bits place) = record (plain_frame 7 place)
    { line = clocked_line_with 0 bits (clocked_register_number r) 0 0 }
frame_fields Passes = plain_frame 8 0

-- the fields of a clocked target
abbrev pub clocked_fields : {D : Type 0} → Clocked D → ClockedFields
clocked_fields c = record {
  cycles = c.cycles;
  frame = frame_fields c.frame;
  target = target.target_fields c.target;
  waits = bit c.waits;
}

-- How any integers are read, also those of no target: the fields of what they are read as.
abbrev pub restored_clocked_register : ℕ → ℕ
restored_clocked_register n =
    if n == 1 then 1 else if n == 2 then 2 else if n == 3 then 3 else if n == 4 then 4 else if n == 5 then 5
    else if n == 6 then 6 else if n == 7 then 7 else if n == 8 then 8 else if n == 9 then 9 else if n == 10 then 10
    else if n == 11 then 11 else if n == 12 then 12 else if n == 13 then 13 else if n == 14 then 14
    else if n == 15 then 15 else if n == 16 then 16 else 17

abbrev pub restored_clocked_reply : ℕ → ℕ
restored_clocked_reply n = if n == 1 then 1 else if n == 2 then 2 else if n == 3 then 3 else 4

abbrev pub restored_clocked_line : LineFields → LineFields
restored_clocked_line f =
    if f.kind == 1 then clocked_line_with 1 0 0 0 0 else if f.kind == 2 then clocked_line_with 2 (f.bits % 2 ^ 33) 0 0 0
    else clocked_line_with 3 0 (restored_clocked_register f.register) (restored_target_flag f.flips)
    (if f.flips == 1 then f.flip else 0)

abbrev pub restored_frame : FrameFields → FrameFields
restored_frame f =
    if f.kind == 1 then record (plain_frame 1 (f.place % 8)) { byte = f.byte }
    else if f.kind == 2 then plain_frame 2 (f.place % 50)
    else if f.kind == 3 then plain_frame 3 0
    else if f.kind == 4 then plain_frame 4 (f.place % 16)
    else if f.kind == 5 then
    record (plain_frame 5 (f.place % 4)) { line = restored_clocked_line f.line; reply = restored_clocked_reply f.reply }
    else if f.kind == 6 then record (plain_frame 6 (f.place % 34))
    { line = clocked_line_with 0 (f.line.bits % 2 ^ 33) 0 0 0 } else if f.kind == 7 then
    record (plain_frame 7 (f.place % 34))
    { line = clocked_line_with 0 (f.line.bits % 2 ^ 33) (restored_clocked_register f.line.register) 0 0 }
    else plain_frame 8 0

abbrev pub restored_clocked : ClockedFields → ClockedFields
restored_clocked f = record {
  cycles = f.cycles;
  frame = restored_frame f.frame;
  target = restored_target f.target;
  waits = restored_target_flag f.waits;
}

-- The numbers of a clocked target are read as they are. For `ClockedFields::clocked`.
use Rattle.std.proofs.Math.Nat.{mod-eq_of_lt}
use Rattle.std.proofs.Common.{◌≡◌, ◌<◌, ◌^◌, Some, None, refl}
use Rattle.swd_port.specs.declared.register.Register.{Register}
use Rattle.swd_port.specs.declared.register.Register.TheVariants.{DpidrRead, AbortWrite, CtrlStatRead, CtrlStatWrite}
use Rattle.swd_port.specs.declared.register.Register.TheVariants.{SelectWrite, ResendRead, RdbuffRead, DpOtherRead}
use Rattle.swd_port.specs.declared.register.Register.TheVariants.{DpIgnoredWrite, CswRead, CswWrite, TarRead, TarWrite}
use Rattle.swd_port.specs.declared.register.Register.TheVariants.{DrwRead, DrwWrite, ApOtherRead, ApOtherWrite}
use Rattle.swd_port.specs.declared.state.AfterAck.{AfterAck}
use Rattle.swd_port.specs.declared.state.AfterAck.TheVariants as lines
use Rattle.swd_port.specs.declared.state.Reply.{Reply}
use Rattle.swd_port.specs.declared.state.Reply.TheVariants.{Okay, Waits, Faults, Silent}
use Rattle.swd_port.specs.Moving.{port_bits_driven}
use Rattle.swd_target.proofs.FieldsLemmas.{target_flag_restores, target_fields_restore}
use Rattle.swd_clocked.specs.declared.clocked.Clocked.{Clocked}
use Rattle.swd_clocked.specs.declared.frame.Frame.{Frame}
use Rattle.swd_clocked.specs.declared.frame.Frame.TheVariants.{Asks, Lost, High, Switches, Replies, Drives, Awaits}
use Rattle.swd_clocked.specs.declared.frame.Frame.TheVariants.{Passes}
use Rattle.swd_clocked.specs.Fields.{clocked_fields, frame_fields, clocked_line_fields, clocked_register_number}
use Rattle.swd_clocked.specs.Fields.{clocked_reply_number, restored_clocked, restored_frame, restored_clocked_line}
use Rattle.swd_clocked.specs.Fields.{restored_clocked_register, restored_clocked_reply}
use Rattle.swd_clocked.specs.Frames.{frame_bits, frame_limit, frame_place}

register_read : (r : Register) → restored_clocked_register (clocked_register_number r) ≡ clocked_register_number r
register_read DpidrRead = refl
register_read AbortWrite = refl
register_read CtrlStatRead = refl
register_read CtrlStatWrite = refl
register_read SelectWrite = refl
register_read ResendRead = refl
register_read RdbuffRead = refl
register_read DpOtherRead = refl
register_read DpIgnoredWrite = refl
register_read CswRead = refl
register_read CswWrite = refl
register_read TarRead = refl
register_read TarWrite = refl
register_read DrwRead = refl
register_read DrwWrite = refl
register_read ApOtherRead = refl
register_read ApOtherWrite = refl

reply_read : (r : Reply) → restored_clocked_reply (clocked_reply_number r) ≡ clocked_reply_number r
reply_read Okay = refl
reply_read Waits = refl
reply_read Faults = refl
reply_read Silent = refl

line_read : (l : AfterAck) → port_bits_driven l < 2 ^ 33
    → restored_clocked_line (clocked_line_fields l) ≡ clocked_line_fields l
line_read lines.Idle h = refl
line_read (lines.Drives bits) h = rw (mod-eq_of_lt h) refl
line_read (lines.Awaits r None) h = rw (register_read r) refl
line_read (lines.Awaits r (Some place)) h = rw (register_read r) refl

frame_read : (f : Frame) → frame_bits f < 2 ^ 33 → frame_place f < frame_limit f
    → restored_frame (frame_fields f) ≡ frame_fields f
frame_read (Asks byte count) h p = rw (mod-eq_of_lt p) refl
frame_read (Lost ones) h p = rw (mod-eq_of_lt p) refl
frame_read High h p = refl
frame_read (Switches place) h p = rw (mod-eq_of_lt p) refl
frame_read (Replies reply line place) h p = rw (mod-eq_of_lt p, line_read line h, reply_read reply) refl
frame_read (Drives bits left) h p = rw (mod-eq_of_lt p, mod-eq_of_lt h) refl
frame_read (Awaits r bits place) h p = rw (mod-eq_of_lt p, mod-eq_of_lt h, register_read r) refl
frame_read Passes h p = refl

-- the fields of a clocked target are read as themselves
pub clocked_fields_restore : {D : Type 0} (c : Clocked D) → restored_clocked (clocked_fields c) ≡ clocked_fields c
clocked_fields_restore c = rw (
  frame_read c.frame c.bits c.place,
  target_fields_restore c.target,
  target_flag_restores c.waits,
) refl

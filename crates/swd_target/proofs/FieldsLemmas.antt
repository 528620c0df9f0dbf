-- The numbers of a target are read as they are.
use Rattle.std.proofs.Common.{◌≡◌, Bool, true, false, Option, Some, None, refl}
use Rattle.swd_bits.specs.Bits.{bit}
use Rattle.swd_port.specs.declared.state.Drw.{Drw}
use Rattle.swd_port.specs.declared.state.Drw.TheVariants.{Reads, Writes}
use Rattle.swd_port.specs.declared.state.PowerUp.{PowerUp}
use Rattle.swd_port.specs.declared.state.PowerUp.TheVariants.{Unseen, Late, Seen}
use Rattle.swd_port.specs.declared.state.Reset.{Reset}
use Rattle.swd_port.specs.declared.state.Reset.TheVariants.{Unreset, Fresh, Live}
use Rattle.swd_target.specs.declared.target.Target.{Target}
use Rattle.swd_target.specs.Fields.{target_fields, target_pending_fields, target_powers_number, target_reset_number}
use Rattle.swd_target.specs.Fields.{restored_target_flag, restored_target_pending}
use Rattle.swd_target.specs.Fields.{restored_target_powers, restored_target_reset, restored_target}

-- the number of a flag is read as itself
pub target_flag_restores : (b : Bool) → restored_target_flag (bit b) ≡ bit b
target_flag_restores true = refl
target_flag_restores false = refl

pending_read : (p : Option Drw) → restored_target_pending (target_pending_fields p) ≡ target_pending_fields p
pending_read None = refl
pending_read (Some Reads) = refl
pending_read (Some (Writes word)) = refl

reset_read : (r : Reset) → restored_target_reset (target_reset_number r) ≡ target_reset_number r
reset_read Unreset = refl
reset_read Fresh = refl
reset_read Live = refl

powers_read : (p q : PowerUp) → restored_target_powers (target_powers_number p q) ≡ target_powers_number p q
powers_read Unseen Unseen = refl
powers_read Unseen Late = refl
powers_read Unseen Seen = refl
powers_read Late Unseen = refl
powers_read Late Late = refl
powers_read Late Seen = refl
powers_read Seen Unseen = refl
powers_read Seen Late = refl
powers_read Seen Seen = refl

-- the numbers of a target are read as themselves
pub target_fields_restore : {D : Type 0} (t : Target D) → restored_target (target_fields t) ≡ target_fields t
target_fields_restore t =
    rw (
      target_flag_restores t.tar.known,
      target_flag_restores t.buffer.known,
      target_flag_restores t.last_returned.known,
      pending_read t.pending,
      target_flag_restores t.quirks.wrap,
      target_flag_restores t.quirks.late,
    )
    (rw (
      reset_read t.reset,
      powers_read t.debug_up t.system_up,
      target_flag_restores t.sticky_error,
      target_flag_restores t.write_error,
      target_flag_restores
          t.read_ok,
    )
    (rw (target_flag_restores t.debug_power, target_flag_restores t.system_power, target_flag_restores t.increments)
    refl))

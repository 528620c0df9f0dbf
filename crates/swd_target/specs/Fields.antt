-- A target without its device, as integers. Each enum that isn't optional is numbered from 1 on, so no target has all
-- zeros. An unused field is 0.
use Rattle.std.specs.Prelude.{ℕ, ◌==◌, Option, Some, None, if◌then◌else◌}
use Rattle.swd_bits.specs.Bits.{bit}
use Rattle.swd_port.specs.declared.state.Drw.{Drw}
use Rattle.swd_port.specs.declared.state.Drw.TheVariants.{Reads, Writes}
use Rattle.swd_port.specs.declared.state.PowerUp.{PowerUp}
use Rattle.swd_port.specs.declared.state.PowerUp.TheVariants.{Unseen, Late, Seen}
use Rattle.swd_port.specs.declared.state.Reset.{Reset}
use Rattle.swd_port.specs.declared.state.Reset.TheVariants.{Unreset, Fresh, Live}
use Rattle.swd_target.specs.declared.content.Content.{Content}
use Rattle.swd_target.specs.declared.fields.ContentFields.{ContentFields}
use Rattle.swd_target.specs.declared.fields.PendingFields.{PendingFields}
use Rattle.swd_target.specs.declared.fields.TargetFields.{TargetFields}
use Rattle.swd_target.specs.declared.target.Target.{Target}

abbrev pub target_content_fields : Content → ContentFields
target_content_fields c = record { word = c.word; known = bit c.known }

abbrev pub target_pending_fields : Option Drw → PendingFields
target_pending_fields None = record { word = 0; kind = 0 }
target_pending_fields (Some Reads) = record { word = 0; kind = 1 }
target_pending_fields (Some (Writes word)) = record { word = word; kind = 2 }

abbrev pub target_reset_number : Reset → ℕ
target_reset_number Unreset = 1
target_reset_number Fresh = 2
target_reset_number Live = 3

-- the state of debug power, and that of system power
abbrev pub target_powers_number : PowerUp → PowerUp → ℕ
target_powers_number Unseen Unseen = 1
target_powers_number Late Late = 2
target_powers_number Seen Seen = 3
target_powers_number Seen Unseen = 4
target_powers_number Seen Late = 5
target_powers_number Unseen Late = 6
target_powers_number Unseen Seen = 7
target_powers_number Late Unseen = 8
target_powers_number Late Seen = 9

-- the fields of a target
abbrev pub target_fields : {D : Type 0} → Target D → TargetFields
target_fields t = record {
  tar = target_content_fields t.tar;
  buffer = target_content_fields t.buffer;
  last_returned = target_content_fields t.last_returned;
  pending = target_pending_fields t.pending;
  filler = t.quirks.filler;
  wrap = bit t.quirks.wrap;
  late = bit t.quirks.late;
  reset = target_reset_number t.reset;
  sticky_error = bit t.sticky_error;
  write_error = bit t.write_error;
  read_ok = bit t.read_ok;
  debug_power = bit t.debug_power;
  system_power = bit t.system_power;
  power_up = target_powers_number t.debug_up t.system_up;
  apsel = t.select.apsel;
  apbanksel = t.select.apbanksel;
  dpbanksel = t.select.dpbanksel;
  increments = bit t.increments;
  csw_upper = t.csw_upper;
}

-- How any integers are read, also those of no target: the fields of what they are read as.
abbrev pub restored_target_flag : ℕ → ℕ
restored_target_flag n = bit (n == 1)

abbrev pub restored_target_content : ContentFields → ContentFields
restored_target_content f = record { word = f.word; known = restored_target_flag f.known }

abbrev pub restored_target_pending : PendingFields → PendingFields
restored_target_pending f =
    if f.kind == 1 then record { word = 0; kind = 1 }
    else if f.kind == 2 then record { word = f.word; kind = 2 }
    else record { word = 0; kind = 0 }

abbrev pub restored_target_reset : ℕ → ℕ
restored_target_reset n = if n == 1 then 1 else if n == 2 then 2 else 3

abbrev pub restored_target_powers : ℕ → ℕ
restored_target_powers n = if n == 1 then 1 else if n == 2 then 2 else if n == 4 then 4 else if n == 5 then 5
    else if n == 6 then 6 else if n == 7 then 7 else if n == 8 then 8 else if n == 9 then 9 else 3

abbrev pub restored_target : TargetFields → TargetFields
restored_target f = record {
  tar = restored_target_content f.tar;
  buffer = restored_target_content f.buffer;
  last_returned = restored_target_content f.last_returned;
  pending = restored_target_pending f.pending;
  filler = f.filler;
  wrap = restored_target_flag f.wrap;
  late = restored_target_flag f.late;
  reset = restored_target_reset f.reset;
  sticky_error = restored_target_flag f.sticky_error;
  write_error = restored_target_flag f.write_error;
  read_ok = restored_target_flag f.read_ok;
  debug_power = restored_target_flag f.debug_power;
  system_power = restored_target_flag f.system_power;
  power_up = restored_target_powers f.power_up;
  apsel = f.apsel;
  apbanksel = f.apbanksel;
  dpbanksel = f.dpbanksel;
  increments = restored_target_flag f.increments;
  csw_upper = f.csw_upper;
}

-- What a verdict says, weakened: for `swd_commands`.
use Rattle.std.proofs.Common.{ℕ, List}
use Rattle.std.specs.Prelude.{Option, Result, Ok, Err}
use Rattle.swd_trace.specs.declared.item.Item.{Item}
use Rattle.swd_text.specs.declared.fault.DecodeFault.{DecodeFault}
use Rattle.swd_text.specs.declared.fault.DecodeFault.TheVariants.{Text, Read, Write}
use Rattle.swd_capture_text.specs.declared.reading.Reading.{Reading}
use Rattle.swd_check.specs.declared.checked.Checked.{Checked}
use Rattle.swd_check.specs.Checks.{ChecksText, WritesChecked}

module _ (P Q : List Item → Checked → Type 0) (weaken : (items : List Item) (checked : Checked) → P items checked
    → Q items checked) where
  checks_said : (reading : Reading) (checked : Checked) (text left : Option (List ℕ))
      → ChecksText reading P (Ok checked) text left → ChecksText reading Q (Ok checked) text left
  checks_said reading checked text left r = (r.0, r.1, r.2, r.3, r.4, r.5, weaken _ checked r.6)

  -- what is written with a verdict that says one thing is written with one that says what follows
  pub check_writes_said : (reading : Reading) (result : Result Checked DecodeFault)
      (text left old new : Option (List ℕ))
      → WritesChecked reading P result text left old new → WritesChecked reading Q result text left old new
  check_writes_said reading (Ok checked) text left old new h = (checks_said reading checked text left h.0, h.1)
  check_writes_said reading (Err (Text fault)) text left old new h = h
  check_writes_said reading (Err Read) text left old new h = h
  check_writes_said reading (Err (Write told)) text left old new h =
      (h.0, checks_said reading h.0 text left h.1, h.2)

-- The line of a verdict.
use Rattle.std.specs.Prelude.{ℕ, ◌==◌, List, [], ◌++◌, Option, None, Some, codes, if◌then◌else◌}
use Rattle.std.specs.Fmt.{decimal}
use Rattle.swd_trace.specs.Texts.{item_line}
use Rattle.swd_trace.specs.declared.item.Item.TheVariants.{Tx}
use Rattle.swd_check.specs.declared.why.Broken.{Broken}
use Rattle.swd_check.specs.declared.checked.Checked.{Checked}
use Rattle.swd_check.specs.declared.checked.Checked.TheVariants.{Fits, Breaks, Crowded, Outside}

-- the place from which on items were checked
abbrev pub check_from : Option ℕ → List ℕ
check_from None = []
check_from (Some place) = codes " from @" ++ decimal place

-- a count and its name; nothing if it is 0
abbrev pub check_counted : List ℕ → ℕ → List ℕ
check_counted name count = if count == 0 then [] else name ++ decimal count

-- the item that breaks a rule, and why, which is text for a reader
abbrev pub check_broken : Broken → List ℕ → List ℕ
check_broken broken why = (((codes "breaks @" ++ decimal broken.place) ++ codes " ") ++ item_line (Tx broken.tx))
    ++ codes ": " ++ why

-- where a session left the model, and why, which is text for a reader
abbrev pub check_outside : ℕ → List ℕ → List ℕ
check_outside place why = (codes "outside @" ++ decimal place) ++ codes ": " ++ why

abbrev pub check_line : Checked → List ℕ → List ℕ
check_line (Fits items from faults gaps) why = ((((codes "fits " ++ decimal items) ++ check_from from)
    ++ check_counted (codes " faults ") faults) ++ check_counted (codes " gaps ") gaps)
check_line (Breaks broken) why = check_broken broken why
check_line (Crowded place) why = codes "crowded @" ++ decimal place
check_line (Outside place left) why = check_outside place why

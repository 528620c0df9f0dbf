-- The text begins empty, and each call appends its entry.
use Rattle.std.proofs.Common.{rules, ◌≡◌, [], ◌∷◌, ◌++◌, true, ℕ, List, ap, ◌∙◌}
use Rattle.swd_capture.specs.declared.printed.LineForm.{LineForm}
use Rattle.swd_capture.specs.declared.printed.Printed.TheVariants.{Lines}
use Rattle.swd_capture.specs.Printing.{capture_printed_entry}
use Rattle.swd_pages.proofs.capture.lines.Goals as goal

pub returns : goal.returns
returns c =
    let form : LineForm = record { places = true; names = true } in
    let line : List ℕ = capture_printed_entry (Lines form) [] c.args.first.now in
    let next : List ℕ = capture_printed_entry (Lines form) (c.args.first.now ∷ []) c.args.second.now in
    let none : c.new-text.result.bytes ≡ [] = search rules in
    let one : c.tell.new.text.bytes ≡ line =
    c.tell.ensures.bytes (Lines form) [] c.new-teller.ensures ∙ ap (λ (text : List ℕ). text ++ line) none in
    let both : c.tell-2.new.text.bytes ≡ c.tell.new.text.bytes ++ next =
    c.tell-2.ensures.bytes (Lines form) (c.args.first.now ∷ [])
    (c.tell.ensures.after (Lines form) [] c.new-teller.ensures) in
    both ∙ ap (λ (text : List ℕ). text ++ next) one

use Rattle.std.proofs.Common.{ℕ, List, map, drop, ap, ◌∙◌}
use Rattle.std.specs.Str.{bytes_eq}
use Rattle.std.specs.Char.{to_ascii_lowercase}
use Rattle.std.proofs.lemmas.Bool.Decides.{same_from_decides}
use Rattle.std.proofs.lemmas.Slice.Eq.{bytes_eq-Decides}
use Rattle.swd_image_files.proofs.format.ends_in.Goals as goal

pub returns : goal.returns
returns c =
    let name = c.args.name.now in
    let extension = c.args.extension.now in
    let lower : List ℕ → List ℕ = map to_ascii_lowercase in
    let end = c.behind.result.now in
    same_from_decides c.eq_ignore_ascii_case.result (bytes_eq (lower end) (lower extension))
    c.eq_ignore_ascii_case.ensures.test (bytes_eq-Decides (lower end) (lower extension))
    ∙ ap (λ l. bytes_eq (lower l) (lower extension))
    (c.behind.ensures ∙ ap (λ k. drop k name) c.saturating_sub-start.ensures)

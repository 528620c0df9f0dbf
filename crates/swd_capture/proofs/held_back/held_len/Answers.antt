use Rattle.std.proofs.Common.{◌≡◌, ◌-◌, ◌^◌, min, length, sym, ap, ◌∙◌, arith}
use Rattle.std.specs.Prelude.{Some}
use Rattle.swd_trace.specs.Texts.{bits_of_items}
use Rattle.swd_capture.specs.Gaps.{capture_held_items}
use Rattle.swd_capture.proofs.AccessLemmas.{capture_held_length}
use Rattle.swd_capture.proofs.held_back.held_len.Goals as goal

pub returns-in-None : goal.returns-in-None
returns-in-None c =
    ap (λ q. min (length (bits_of_items (capture_held_items q c.args.idle))) (2 ^ 64 - 1)) (sym c.in-None.is)

pub returns-in-Some : goal.returns-in-Some
returns-in-Some c =
    let part = c.in-Some.part in
    let len = capture_held_length part c.args.idle in
    let before = c.place_behind_part.ensures in
    let sum = c.saturating_add.ensures in
    let same : c.saturating_add.result
    ≡ min (length (bits_of_items (capture_held_items (Some part) c.args.idle))) (2 ^ 64 - 1) = omega arith in
    same ∙ ap (λ q. min (length (bits_of_items (capture_held_items q c.args.idle))) (2 ^ 64 - 1)) (sym c.in-Some.is)

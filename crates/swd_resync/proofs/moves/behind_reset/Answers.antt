use Rattle.std.proofs.Common.{◌≡◌, ◌++◌, ◌-◌, ◌/◌, ◌^◌, ◌<◌, ℕ, List, Bool, [], length, ap, ◌∙◌, subst, arith}
use Rattle.std.specs.Prelude.{Some}
use Rattle.std.proofs.lemmas.List.{append_assoc}
use Rattle.swd_bits.specs.Bits.{low_bits}
use Rattle.swd_trace.specs.Reading.{switch_item, trace_begins_with}
use Rattle.swd_trace.proofs.NumberLemmas.{decoder_bits_parted}
use Rattle.swd_resync.specs.Holding.{resync_held}
use Rattle.swd_resync.specs.Stages.{ResyncSeesSwitch}
use Rattle.swd_resync.specs.declared.stage.RemovalStage.TheVariants.{AfterReset as BehindReset}
use Rattle.swd_resync.proofs.MoveLemmas.{stretch_waits_few, stretch_switch_reported, stretch_no_switch_move}
use Rattle.swd_resync.proofs.MoveLemmas.{resync_window_length}
use Rattle.swd_resync.proofs.moves.behind_reset.Goals as goal

pub returns-in-None : goal.returns-in-None
returns-in-None c =
    let w = c.window.ensures.first in
    let few : c.window.result.len < 16 = c.in-None.ensures.1 in
    let l : length (resync_held c.args.held.now) ≡ c.window.result.len =
    resync_window_length (resync_held c.args.held.now) c.window.result w.0 w.1 (w.2 (omega arith)) in
    stretch_waits_few c.args.over c.args.ended BehindReset (resync_held c.args.held.now) c.in-None.ensures.0
    (omega arith)

pub returns-in-Some-true : goal.returns-in-Some-true
returns-in-Some-true c =
    let w = c.window.ensures.first in
    let len = c.window.result.len in
    let bits = c.window.result.bits in
    let s = subst (λ t. ResyncSeesSwitch c.args.ended c.window.result (Some t)) c.in-Some-true.field-0-test
    c.in-Some-true.ensures in
    let behind : List Bool = low_bits (len - 16) (bits / 2 ^ 16) in
    stretch_switch_reported c.args.over c.args.ended (resync_held c.args.held.now) (behind ++ w.0)
    (w.1 ∙ ap (λ x. x ++ w.0) (decoder_bits_parted 16 len bits s.0 ∙ ap (λ x. x ++ behind) s.1)
    ∙ append_assoc switch_item behind w.0)

pub returns-in-Some-false : goal.returns-in-Some-false
returns-in-Some-false c =
    let w = c.window.ensures.first in
    let len : ℕ = c.window.result.len in
    let bits : List Bool = low_bits c.window.result.len c.window.result.bits in
    let s = subst (λ t. ResyncSeesSwitch c.args.ended c.window.result (Some t)) c.in-Some-false.field-0-test
    c.in-Some-false.ensures in
    stretch_no_switch_move c.args.over c.args.ended (resync_held c.args.held.now) c.stay.result c.stay.ensures
    (λ more may.
    ap (trace_begins_with switch_item) (ap (λ x. x ++ more) w.1 ∙ append_assoc bits w.0 more)
    ∙ s (w.0 ++ more) (λ few at_end.
    let none : w.0 ≡ [] = w.2 (omega arith) in
    ap (λ x. x ++ more) none ∙ may at_end))

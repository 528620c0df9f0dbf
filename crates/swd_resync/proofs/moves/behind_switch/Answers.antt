use Rattle.std.proofs.Common.{◌≡◌, ◌++◌, ◌≤◌, ◌<◌, ℕ, List, Bool, true, replicate, length, ap, ◌∙◌, sym, subst, arith}
use Rattle.std.proofs.Common.{refl}
use Rattle.swd_bits.specs.Bits.{low_bits}
use Rattle.swd_bits.proofs.BitsLemmas.{length-low_bits}
use Rattle.swd_trace.proofs.NumberLemmas.{decoder_bits_none}
use Rattle.swd_trace.specs.Reading.{cut_first_item}
use Rattle.swd_trace.specs.declared.mode.Mode.TheVariants.{AfterSwitch}
use Rattle.swd_resync.specs.Parts.{resync_first, InStretch}
use Rattle.swd_resync.specs.Holding.{resync_held}
use Rattle.swd_resync.specs.declared.stage.RemovalStage.TheVariants.{AfterSwitch as BehindSwitch}
use Rattle.swd_resync.proofs.PartLemmas.{resync_parts_none}
use Rattle.swd_resync.proofs.SightLemmas.{sight_nothing_behind}
use Rattle.swd_resync.proofs.MoveLemmas.{stretch_waits_few, stretch_waits_empty, stretch_ends_after_switch}
use Rattle.swd_resync.proofs.MoveLemmas.{stretch_enters_reset, stretch_cut_move, stretch_switch_ones_cut}
use Rattle.swd_resync.proofs.MoveLemmas.{resync_window_length}
use Rattle.swd_resync.proofs.moves.behind_switch.Goals as goal
use Rattle.swd_resync.proofs.moves.behind_switch.Goals.{then-not-ended-via-then-not-ended}
use Rattle.swd_resync.proofs.moves.behind_switch.Goals.{then-not-ended-via-else-not-ended+then-window-eq0}

pub returns-then-not-is_ones : goal.returns-then-not-is_ones
returns-then-not-is_ones c =
    let w = c.window-window.ensures.first in
    let bits : List Bool = low_bits c.window-window.result.len c.window-window.result.bits in
    let l : length bits ≡ c.window-window.result.len =
    length-low_bits c.window-window.result.len c.window-window.result.bits in
    let most : c.window-window.result.len ≤ 50 = c.window-window.ensures.most in
    stretch_ends_after_switch c.args.over c.args.ended bits w.0 (resync_held c.args.held.now) c.stay.result
    c.stay.ensures w.1 (c.is_ones.ensures.zero c.if-not-is_ones.true) (omega arith)

pub returns-then-window-eq-WINDOW_BITS : goal.returns-then-window-eq-WINDOW_BITS
returns-then-window-eq-WINDOW_BITS c =
    let w = c.window-window.ensures.first in
    let ones : low_bits c.window-window.result.len c.window-window.result.bits ≡ replicate 50 true =
    c.is_ones.ensures.ones c.if-not-is_ones.false ∙ ap (λ n. replicate n true) c.if-window-eq-WINDOW_BITS.true in
    stretch_enters_reset c.args.over c.args.ended BehindSwitch AfterSwitch (resync_held c.args.held.now) w.0
    (w.1 ∙ ap (λ x. x ++ w.0) ones) (λ x. refl)

pub returns-then-not-ended : goal.returns-then-not-ended
returns-then-not-ended c =
    let w = c.window-window.ensures.first in
    let len : ℕ = c.window-window.result.len in
    let most : len ≤ 50 = c.window-window.ensures.most in
    let other : len ≡ 50 → ⊥ = c.if-window-eq-WINDOW_BITS.false in
    let few : len < 50 = omega arith in
    let l : length (resync_held c.args.held.now) ≡ len =
    resync_window_length (resync_held c.args.held.now) c.window-window.result w.0 w.1 (w.2 few) in
    elim c.then-not-ended.branch [
      | then-not-ended-via-then-not-ended v ↦
          stretch_waits_few c.args.over c.args.ended BehindSwitch (resync_held c.args.held.now) v.if-not-ended.true
          (omega arith)
      | then-not-ended-via-else-not-ended+then-window-eq0 v ↦
          stretch_waits_empty c.args.over c.args.ended BehindSwitch (resync_held c.args.held.now)
          (w.1 ∙ ap (λ x. x ++ w.0) (decoder_bits_none len c.window-window.result.bits v.if-window-eq0.true) ∙ w.2 few)
          (resync_parts_none c.args.over (InStretch AfterSwitch))
    ]

pub returns : goal.returns
returns c =
    let w = c.window-window.ensures.first in
    let len : ℕ = c.window-window.result.len in
    let most : len ≤ 50 = c.window-window.ensures.most in
    let other : len ≡ 50 → ⊥ = c.if-window-eq-WINDOW_BITS.false in
    let few : len < 50 = omega arith in
    let some : 0 < len = omega (arith, c.if-window-eq0.false) in
    let bits : List Bool = low_bits c.window-window.result.len c.window-window.result.bits in
    let e : resync_held c.args.held.now ≡ bits = w.1 ∙ sight_nothing_behind bits w.0 (w.2 few) in
    let l : length (resync_held c.args.held.now) ≡ len =
    resync_window_length (resync_held c.args.held.now) c.window-window.result w.0 w.1 (w.2 few) in
    let ones : bits ≡ replicate len true = c.is_ones.ensures.ones c.if-not-is_ones.false in
    let f : resync_first c.args.over.phases AfterSwitch (resync_held c.args.held.now)
    ≡ cut_first_item (resync_held c.args.held.now) =
    subst (λ x. resync_first c.args.over.phases AfterSwitch x ≡ cut_first_item x) (sym (e ∙ ones))
    (stretch_switch_ones_cut c.args.over.phases len some few) in
    stretch_cut_move c.args.over BehindSwitch AfterSwitch c.window-window.result (resync_held c.args.held.now)
    c.args.ended c.if-not-ended.false e c.window-window.ensures.spelled (omega arith) (omega arith) f (λ x. refl)

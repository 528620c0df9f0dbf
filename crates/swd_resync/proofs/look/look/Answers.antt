use Rattle.std.proofs.Common.{◌≡◌, ◌<◌, ◌≤◌, ℕ, true, [], length, subst, sym, ap, ◌∙◌, arith, replicate}
use Rattle.swd_bits.specs.Bits.{low_bits}
use Rattle.swd_trace.proofs.NumberLemmas.{decoder_bits_none}
use Rattle.swd_resync.specs.Holding.{resync_held}
use Rattle.swd_resync.specs.Sights.{IsCutSight}
use Rattle.swd_resync.proofs.SightLemmas.{sight_cut_or_wait, sight_nothing_behind, sight_ones_cut, sight_zero}
use Rattle.swd_resync.proofs.SightLemmas.{sight_no_bits}
use Rattle.swd_resync.proofs.look.look.Goals as goal

pub returns-then-ended : goal.returns-then-ended
returns-then-ended c =
    let w = c.window-window.ensures.first in (
      c.if-ended.true,
      sight_no_bits _ _ w.0 w.1 (w.2 (omega (arith, c.if-window-eq0.true)))
          (decoder_bits_none c.window-window.result.len c.window-window.result.bits c.if-window-eq0.true),
    )

pub returns-else-ended : goal.returns-else-ended
returns-else-ended c =
    let w = c.window-window.ensures.first in
    let none : resync_held c.args.held.now ≡ [] = sight_no_bits _ _ w.0 w.1 (w.2 (omega (arith, c.if-window-eq0.true)))
    (decoder_bits_none c.window-window.result.len c.window-window.result.bits c.if-window-eq0.true) in
    let l : length (resync_held c.args.held.now) ≡ 0 = ap length none in
    (c.if-ended.false, omega arith)

pub returns-then-window-eq0-2 : goal.returns-then-window-eq0-2
returns-then-window-eq0-2 c =
    let w = c.window-window.ensures.first in
    sight_zero c.window-window.result.len c.window-window.result.bits w.0 _ w.1 (omega (arith, c.if-window-eq0.false))
    c.if-window-eq0-2.true

pub returns : goal.returns
returns c =
    let w = c.window-window.ensures.first in
    let len : ℕ = c.window-window.result.len in
    let most : len ≤ 50 = c.window-window.ensures.most in
    let other : len ≡ 50 → ⊥ = c.if-window-eq-WINDOW_BITS.false in
    let few : len < 50 = omega arith in
    let some : 0 < len = omega (arith, c.if-window-eq0.false) in
    let bits = low_bits c.window-window.result.len c.window-window.result.bits in
    let e : resync_held c.args.held.now ≡ bits = w.1 ∙ sight_nothing_behind bits w.0 (w.2 few) in
    let ones : bits ≡ replicate len true = c.is_ones.ensures.ones c.if-not-is_ones.false in
    sight_cut_or_wait c.args.over c.args.ended c.window-window.result _ _ c.begun.ensures.cut c.begun.ensures.wait e
    c.window-window.ensures.spelled (subst (IsCutSight c.args.over) (sym (e ∙ ones))
    (sight_ones_cut c.args.over len some few))

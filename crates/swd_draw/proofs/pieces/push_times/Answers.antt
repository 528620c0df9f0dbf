use Rattle.std.proofs.Common.{◌++◌, sym, ap, ◌∙◌, arith, rules}
use Rattle.swd_draw.proofs.MarkLemmas.{svg_times_none, svg_times_more}
use Rattle.swd_draw.proofs.pieces.push_times.Goals as goal

pub loop-init : goal.loop-init
loop-init g c = record {
  len = omega arith;
  bytes = sym (svg_times_none c.args.text.now.bytes c.args.piece.now);
}

pub loop-preserved : goal.loop-preserved
loop-preserved g c = record {
  len = search rules;
  bytes = c.push_str.ensures.bytes ∙ ap (λ x. x ++ c.args.piece.now) c.loop.invariant.bytes
      ∙ svg_times_more c.args.text.now.bytes c.args.piece.now c.loop.counter;
}

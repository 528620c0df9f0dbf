use Rattle.std.proofs.Common.{◌++◌, ap, ◌∙◌, rules}
use Rattle.swd_draw.proofs.MarkLemmas.{svg_wave_more, svg_wave_done}
use Rattle.swd_draw.proofs.pieces.push_wave.Goals as goal

pub loop-preserved : goal.loop-preserved
loop-preserved g c = record {
  room = search rules;
  kept = svg_wave_more c.loop.text.bytes c.push_str.new.self.bytes _ c.args.bits.len c.loop.counter c.loop.rest
      c.loop-test.true (c.push_str.ensures.bytes ∙ ap (λ x. c.loop.text.bytes ++ x) c.level_text.ensures.bytes)
      c.loop.invariant.kept;
}

pub returns-clause-bytes : goal.returns-clause-bytes
returns-clause-bytes g c = svg_wave_done c.loop.text.bytes _ c.args.bits.len c.loop.counter c.loop.rest
    c.loop-test.false c.loop.invariant.kept

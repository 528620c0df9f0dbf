use Rattle.std.proofs.Common.{◌≡◌, ◌+◌, ◌-◌, ◌++◌, take, drop, sym, ap, ◌∙◌, subst, append_assoc, arith}
use Rattle.std.proofs.Math.Seq.{take-add}
use Rattle.swd_io.specs.Blocks.{BlockBufferSends}
use Rattle.swd_draw.proofs.drawing.put_text.Goals as goal

pub loop-at-preserved : goal.loop-at-preserved
loop-at-preserved g c =
    let text = c.args.text.now in
    let at = c.loop-at.at in
    let len = c.min-len.result in
    let same : at + len - at ≡ len = omega arith in
    record {
      within = omega arith;
      writer = c.put.ensures.writer ∙ c.loop-at.invariant.writer;
      sends = λ start all h.
          subst (λ x. BlockBufferSends g.W.Write.contents start c.put.new.self x)
          (append_assoc all (take at text) (take (at + len - at) (drop at text))
          ∙ ap (λ x. all ++ x) (ap (λ n. take at text ++ take n (drop at text)) same ∙ sym (take-add at len text)))
          (c.put.ensures.sends start (all ++ take at text) (c.loop-at.invariant.sends start all h));
    }

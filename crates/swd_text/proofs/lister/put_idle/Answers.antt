use Rattle.std.proofs.Common.{◌<◌, ◌++◌, ap, ◌∙◌, subst, arith}
use Rattle.swd_io.specs.Blocks.{BlockBufferSends}
use Rattle.swd_text.proofs.ListerLemmas.{decode_text_idle_line, decode_text_no_idle_line}
use Rattle.swd_text.proofs.lister.put_idle.Goals as goal

pub returns-then-count-eq0-clause-sends : goal.returns-then-count-eq0-clause-sends
returns-then-count-eq0-clause-sends g c = λ start all h.
    subst (BlockBufferSends g.W.Write.contents start c.args.block.now)
    (decode_text_no_idle_line all c.args.count c.if-count-eq0.true) h

pub returns-then-count-lt10-clause-sends : goal.returns-then-count-lt10-clause-sends
returns-then-count-lt10-clause-sends g c = λ start all h.
    let some = c.if-count-eq0.false in
    let positive : 0 < c.args.count = omega arith in
    subst (BlockBufferSends g.W.Write.contents start c.put.new.self)
    (ap (λ text. all ++ text) c.idle_line.ensures ∙ decode_text_idle_line all c.args.count positive)
    (c.put.ensures.sends start all h)

pub returns-else-count-lt10-clause-sends : goal.returns-else-count-lt10-clause-sends
returns-else-count-lt10-clause-sends g c = λ start all h.
    let some = c.if-count-eq0.false in
    let positive : 0 < c.args.count = omega arith in
    subst (BlockBufferSends g.W.Write.contents start c.put_any_line.new.block)
    (decode_text_idle_line all c.args.count positive) (c.put_any_line.ensures.sends start all h)

use Rattle.std.proofs.Common.{arith}
use Rattle.swd_draw.proofs.KeptLemmas.{drawn_kept_full, drawn_kept_more}
use Rattle.swd_draw.proofs.kept.DrawnParts.add.Goals as goal

pub returns-then-self : goal.returns-then-self
returns-then-self c = λ most parts h.
    let k = c.args.self.now in
    let kept = drawn_kept_full most parts k.parts k.most k.count k.left_out c.args.part.now (omega arith) h in
    rw c.saturating_add-self.ensures kept

pub returns : goal.returns
returns c = λ most parts h.
    let k = c.args.self.now in
    drawn_kept_more most parts k.parts k.most k.count k.left_out c.args.part.now (omega arith) (omega arith) h

use Rattle.std.proofs.Common.{◌+◌, ◌*◌, ◌++◌, ◌∷◌, [], append_assoc, sym, ap, ◌∙◌}
use Rattle.swd_port.specs.declared.access.Access.TheVariants.{Read}
use Rattle.swd_port.specs.PlainAnswers.{plain_reads}
use Rattle.swd_port.proofs.ReadLists.{plain_reads_next}
use Rattle.swd_port.proofs.access.push_reads.Goals as goal

pub loop-index-preserved : goal.loop-index-preserved
loop-index-preserved g c =
    let before = c.args.list.now.items in
    let here = Read (c.args.addr + 4 * c.loop-index.index) ∷ [] in
    c.in_ok-push.ensures.items ∙ ap (λ x. x ++ here) c.loop-index.invariant
    ∙ append_assoc before (plain_reads c.args.addr c.loop-index.index) here
    ∙ ap (λ x. before ++ x) (sym (plain_reads_next c.args.addr c.loop-index.index))

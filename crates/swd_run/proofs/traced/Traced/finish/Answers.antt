use Rattle.std.proofs.Common.{◌∙◌, ap, arith, length, subst, sym, take}
use Rattle.std.proofs.lemmas.List.{take_all}
use Rattle.std.proofs.Math.Logic.{∥∥₁_map}
use Rattle.swd_trace.specs.Texts.{trace_text}
use Rattle.swd_run.specs.GrowingFiles.{GrowingFileHas, RunTraceHasDone}
use Rattle.swd_run.proofs.traced.Traced.finish.Goals as goal

pub returns-clause-file : goal.returns-clause-file
returns-clause-file g c =
    let contents = g.T.Write.contents in
    let before = g.B.Origin.before in
    let items = c.items-items.result.now in
    let same = c.items-items.ensures.items in
    let new = c.write_to.new.file in
    let all = ap (λ n. take n items) c.write_to.ensures.done ∙ take_all (length items) items (omega arith) ∙ same in
    ∥∥₁_map c.args.self.has (λ h.
    subst (λ l. GrowingFileHas contents before new (trace_text l)) all
    (c.write_to.ensures.has before (subst (λ l. RunTraceHasDone contents before l c.args.self.file) (sym same) h)))

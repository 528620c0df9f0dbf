use Rattle.std.proofs.lemmas.List.{append-nil}
use Rattle.std.proofs.Common.{[], ◌∷◌, ◌++◌, refl, sym, ap, ap₂, ◌∙◌, subst, append_assoc}
use Rattle.swd_io.specs.Blocks.{BlockBufferSends}
use Rattle.swd_run.specs.Reports.{report_answer_lines, report_lines_from}
use Rattle.swd_run.proofs.ReportLemmas.{report_lines_after_resume, report_lines_no_resume, report_line_append}
use Rattle.swd_run.proofs.ReportLemmas.{report_slice_to_end}
use Rattle.swd_run.proofs.report.put_lines.Goals as goal

pub loop-stop-init : goal.loop-stop-init
loop-stop-init g c = record {
  lines = ([], refl, λ start all h. subst (BlockBufferSends g.W.Write.contents start _) (sym (append-nil all)) h);
  writer = refl;
}

pub loop-stop-preserved : goal.loop-stop-preserved
loop-stop-preserved g c =
    let accesses = c.args.accesses.now in
    let answers = c.args.answers.now in
    let stops = c.args.stops.now in
    let i = c.loop-stop.stop-index in
    let (text, whole, sends) = c.loop-stop.invariant.lines in
    let lines = ap₂ (report_answer_lines c.args.reads) c.between-done.ensures c.between-told.ensures in
    let line = c.as_bytes.ensures.value ∙ c.as_str.ensures.value ∙ c.resume_line.ensures.bytes in
    let part = report_answer_lines c.args.reads c.between-done.result.now c.between-told.result.now in
    let fed = c.as_bytes.result.now ++ 10 ∷ [] in
    record {
      lines = (
        text ++ (part ++ fed),
        report_lines_after_resume c.args.reads accesses answers stops i c.loop-stop.from _ text
            (report_lines_from c.args.reads 0 stops accesses answers) part
            c.as_bytes.result.now c.loop-stop-test.true lines line whole,
        λ start all h.
            subst (BlockBufferSends g.W.Write.contents start c.put_line.new.self) (report_line_append all text part fed)
            (c.put_line.ensures.sends start ((all ++ text) ++ part)
            (c.put_answers.ensures.sends start (all ++ text) (sends start all h))),
      );
      writer = c.put_line.ensures.writer ∙ c.put_answers.ensures.writer ∙ c.loop-stop.invariant.writer;
    }

pub returns-clause-sends : goal.returns-clause-sends
returns-clause-sends g c = λ start all h.
    let accesses = c.args.accesses.now in
    let answers = c.args.answers.now in
    let (text, whole, sends) = c.loop-stop.invariant.lines in
    let lines = ap₂ (report_answer_lines c.args.reads)
    (c.between-rest.ensures ∙ report_slice_to_end c.loop-stop.from accesses)
    (c.between-last.ensures ∙ report_slice_to_end c.loop-stop.from answers) in
    subst (λ x. BlockBufferSends g.W.Write.contents start c.put_answers-2.new.block x)
    (append_assoc all text _ ∙ ap (λ x. all ++ (text ++ x)) lines
    ∙ ap (λ x. all ++ x) (report_lines_no_resume c.args.reads accesses answers c.args.stops.now c.loop-stop.stop-index
    c.loop-stop.from text _ c.loop-stop-test.false whole))
    (c.put_answers-2.ensures.sends start (all ++ text) (sends start all h))

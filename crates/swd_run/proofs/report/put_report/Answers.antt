use Rattle.std.proofs.Common.{◌≡◌, [], ◌∷◌, ◌++◌, List, ap, ◌∙◌, subst, append_assoc}
use Rattle.swd_port.specs.declared.access.Answer.{Answer}
use Rattle.swd_host.specs.Reports.{host_report_of}
use Rattle.swd_io.specs.Blocks.{BlockBufferSends}
use Rattle.swd_run.specs.declared.going_on.Stop.{Stop}
use Rattle.swd_run.specs.Reports.{report_end_line, report_lines_from}
use Rattle.swd_run.proofs.report.put_report.Goals as goal

pub returns-clause-sends : goal.returns-clause-sends
returns-clause-sends g c = λ start all h.
    let accesses = c.args.accesses.now in
    let run = c.args.run.now in
    let reads = c.args.reads in
    let stops = run.stops.items in
    let answers = run.report.answers.items in
    let lines = report_lines_from reads 0 stops accesses answers in
    let last = report_end_line c.args.never (host_report_of run.report) in
    let line : c.as_bytes.result.now ≡ last = c.as_bytes.ensures.value ∙ c.as_str.ensures.value
    ∙ c.end_line-last.ensures in
    let sent = c.put_lines.ensures.sends start all h in
    let stopped = subst (λ (x : List Stop). BlockBufferSends g.W.Write.contents start c.put_lines.new.block
    (all ++ report_lines_from reads 0 x accesses c.as_slice-2.result.now)) c.as_slice.ensures.value sent in
    let before = subst (λ (x : List Answer). BlockBufferSends g.W.Write.contents start c.put_lines.new.block
    (all ++ report_lines_from reads 0 stops accesses x)) c.as_slice-2.ensures.value stopped in
    subst (λ x. BlockBufferSends g.W.Write.contents start c.put_line.new.self x)
    (ap (λ x. (all ++ lines) ++ (x ++ 10 ∷ [])) line ∙ append_assoc all lines (last ++ 10 ∷ []))
    (c.put_line.ensures.sends start (all ++ lines) before)

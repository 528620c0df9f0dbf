use Rattle.std.proofs.Common.{◌≡◌, [], ◌∷◌, ◌++◌, None, refl, sym, ap, subst, arith, ◌∙◌}
use Rattle.swd_io.specs.Blocks.{BlockBufferSends}
use Rattle.swd_run.specs.Reports.{report_lines_from, report_resume_line}
use Rattle.swd_run.proofs.ReportLemmas.{report_line_per_resume, resume_places_within_last}
use Rattle.swd_run.proofs.reporting.ReportingRunSink.stop.Goals as goal

pub returns-clause-follows : goal.returns-clause-follows
returns-clause-follows g c =
    let self = c.args.self.now in
    let stop = c.args.stop in
    let accesses = self.accesses.now in
    let answers = g.K.AnswerSink.taken self.answers.now in
    let at_end = c.requires in
    let line : c.as_bytes.result.now ≡ report_resume_line stop = c.as_bytes.ensures.value ∙ c.as_str.ensures.value
    ∙ c.resume_line.ensures.bytes in
    record {
      block = refl;
      writer = c.put_line.ensures.writer;
      answers = refl;
      accesses = refl;
      has = λ start before h. record {
        few = h.few;
        within = resume_places_within_last _ before stop h.within (omega (arith, at_end));
        sends = subst (BlockBufferSends g.W.Write.contents start c.put_line.new.self)
            (ap (λ l. report_lines_from None 0 before accesses answers ++ (l ++ 10 ∷ [])) line
            ∙ sym (report_line_per_resume 0 before stop accesses answers at_end))
            (c.put_line.ensures.sends start _ h.sends);
      };
    }

use Rattle.std.proofs.Common.{rules, ◌≡◌, ◌<◌, ◌≤◌, ℕ, [], ◌∷◌, ◌++◌, List, None, Option, get_or, length, refl, sym, ap}
use Rattle.std.proofs.Common.{ap₂, subst, arith, ◌∙◌}
use Rattle.std.proofs.lemmas.List.{append-nil, length-append}
use Rattle.swd_port.specs.declared.access.Access.{Access}
use Rattle.swd_port.specs.declared.access.Access.TheVariants.{Read}
use Rattle.swd_port.specs.declared.access.Answer.{Answer}
use Rattle.swd_io.specs.Blocks.{BlockBufferSends}
use Rattle.swd_run.specs.declared.going_on.Stop.{Stop}
use Rattle.swd_run.specs.declared.reporting.Reporting.{Reporting}
use Rattle.swd_run.specs.Reporting.{Goes, Has}
use Rattle.swd_run.specs.Reports.{report_answer_fed, report_answer_line, report_lines_from}
use Rattle.swd_run.proofs.ReportLemmas.{report_line_per_answer, resume_places_within_more}
use Rattle.swd_run.proofs.reporting.ReportingAnswerSink.take.Goals as goal

-- one answer more, whose line was appended
took : {W K G : Type 0} (contents : W → Option (List ℕ)) (taken : K → List Answer) (old new : Reporting W K G)
    (answer : Answer)
    → new.block.ghost_name ≡ old.block.ghost_name
    → new.block.now.writer.ghost_name ≡ old.block.now.writer.ghost_name
    → new.answers.ghost_name ≡ old.answers.ghost_name → new.accesses.now ≡ old.accesses.now
    → taken new.answers.now ≡ taken old.answers.now ++ answer ∷ []
    → length (taken old.answers.now) < length old.accesses.now
    → ((start : Option (List ℕ)) (all : List ℕ) → BlockBufferSends contents start old.block.now all
    → BlockBufferSends contents start new.block.now
    (all ++ report_answer_fed None (get_or old.accesses.now (length (taken old.answers.now)) (Read 0)) answer))
    → Goes contents taken old [] new
took contents taken old new answer block writer sink same items high sends = record {
  block = block;
  writer = writer;
  answers = sink;
  accesses = same;
  has = λ start before h.
      let longer = ap length items in
      let many = length-append (taken old.answers.now) (answer ∷ []) in
      let few = ap length same in
      let low : length (taken old.answers.now) ≤ length (taken new.answers.now) = omega (arith, longer, many) in
      subst (λ (stops : List Stop). Has contents taken start stops new) (sym (append-nil before)) (record {
        few = omega (arith, high, longer, many, few);
        within = resume_places_within_more (length (taken old.answers.now)) (length (taken new.answers.now)) before low
            h.within;
        sends = subst (BlockBufferSends contents start new.block.now)
            (sym (report_line_per_answer 0 before old.accesses.now (taken old.answers.now) (Read 0) answer (omega arith)
            h.within high)
            ∙ ap₂ (λ (a : List Access) (l : List Answer). report_lines_from None 0 before a l) (sym same) (sym items))
            (sends start _ h.sends);
      });
}

pub returns-then-count-eq0-clause-keeps : goal.returns-then-count-eq0-clause-keeps
returns-then-count-eq0-clause-keeps g c =
    let self = c.args.self.now in
    let accesses = self.accesses.now in
    let answers = g.K.AnswerSink.taken self.answers.now in
    let items = c.take.ensures.taken in
    let line : c.as_bytes.result.now ≡ report_answer_line (get_or accesses (length answers) (Read 0)) c.args.answer =
    search rules in
    let room = c.requires in
    took g.W.Write.contents g.K.AnswerSink.taken self _ c.args.answer refl (c.flush-sent.ensures.writer ∙
    c.put_line.ensures.writer) refl refl items
    (omega (arith, room)) (λ start all h. c.flush-sent.ensures.sends start _
    (subst (λ l. BlockBufferSends g.W.Write.contents start c.put_line.new.self
    (all ++ (l ++ 10 ∷ []))) line (c.put_line.ensures.sends start all h)))

pub returns-else-count-eq0-clause-keeps : goal.returns-else-count-eq0-clause-keeps
returns-else-count-eq0-clause-keeps g c =
    let self = c.args.self.now in
    let accesses = self.accesses.now in
    let answers = g.K.AnswerSink.taken self.answers.now in
    let items = c.take.ensures.taken in
    let line : c.as_bytes.result.now ≡ report_answer_line (get_or accesses (length answers) (Read 0)) c.args.answer =
    search rules in
    let room = c.requires in
    took g.W.Write.contents g.K.AnswerSink.taken self _ c.args.answer refl c.put_line.ensures.writer refl refl items
    (omega (arith, room))
    (λ start all h. subst (λ l. BlockBufferSends g.W.Write.contents start c.put_line.new.self (all ++ (l ++ 10 ∷ [])))
    line (c.put_line.ensures.sends start all h))

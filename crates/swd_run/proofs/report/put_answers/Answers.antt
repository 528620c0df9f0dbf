use Rattle.std.proofs.Common.{◌≡◌, ◌+◌, [], ◌∷◌, ◌++◌, length, take, get_or, sym, ap, ◌∙◌, subst, append_assoc}
use Rattle.std.proofs.lemmas.List.{length-append}
use Rattle.std.proofs.lemmas.Slice.Zip.{zip_turn, zip_end}
use Rattle.std.specs.Slice.Iter.{iter_rest}
use Rattle.std.specs.Iterator.Adapters.{zip_first, zip_second}
use Rattle.swd_io.specs.Blocks.{BlockBufferSends}
use Rattle.swd_run.specs.Reports.{report_answer_fed, report_answer_line, report_answer_lines, report_with_reads}
use Rattle.swd_run.proofs.ReportLemmas.{report_pairs_take_next, report_pairs_whole}
use Rattle.swd_run.proofs.report.put_answers.Goals as goal

pub loop-access-preserved : goal.loop-access-preserved
loop-access-preserved g c =
    let accesses = c.args.accesses.now in
    let answers = c.args.answers.now in
    let i = length c.loop-access.yielded in
    let first : iter_rest (zip_first c.into_iter-access-iterator.result) ≡ accesses = search in
    let second : iter_rest (zip_second c.into_iter-access-iterator.result) ≡ answers = search in
    let turn = zip_turn accesses answers c.loop-access.yielded c.into_iter-access-iterator.result
    c.loop-access.access-iterator c.next.new.self c.next.result first second c.loop-access.yielded_by
    (c.in-Some.access, c.in-Some.answer) c.in-Some.is c.next.ensures.steps in
    let access = c.in-Some.access.now in
    let answer = c.in-Some.answer.now in
    let reads = c.args.reads in
    let line : c.as_bytes.result.now
    ≡ report_with_reads reads (report_answer_line (get_or accesses i access) (get_or answers i answer)) =
    c.as_bytes.ensures.value ∙ c.as_str.ensures.value ∙ c.with_reads-line.ensures
    ∙ ap (report_with_reads reads) (c.answer_line.ensures.bytes ∙ ap (λ a. report_answer_line a answer) (turn.2 access)
    ∙ ap (report_answer_line (get_or accesses i access)) (turn.3 answer)) in
    let next : length (c.loop-access.yielded ++ (c.in-Some.access, c.in-Some.answer) ∷ []) ≡ i + 1 = length-append
    c.loop-access.yielded ((c.in-Some.access, c.in-Some.answer) ∷ []) in
    let so_far = report_answer_lines reads (take i accesses) (take i answers) in
    record {
      sends = λ start all h.
          subst (λ x. BlockBufferSends g.W.Write.contents start c.put_line.new.self x)
          (ap (λ x. (all ++ so_far) ++ (x ++ 10 ∷ [])) line
          ∙ append_assoc all so_far (report_answer_fed reads (get_or accesses i access) (get_or answers i answer))
          ∙ ap (λ x. all ++ x) (sym (report_pairs_take_next (report_answer_fed reads) accesses answers i access answer
          turn.0 turn.1) ∙ ap (λ n. report_answer_lines reads (take n accesses) (take n answers)) (sym next)))
          (c.put_line.ensures.sends start (all ++ so_far) (c.loop-access.invariant.sends start all h));
      writer = c.put_line.ensures.writer ∙ c.loop-access.invariant.writer;
    }

pub returns-clause-sends : goal.returns-clause-sends
returns-clause-sends g c = λ start all h.
    let accesses = c.args.accesses.now in
    let answers = c.args.answers.now in
    let i = length c.loop-access.yielded in
    let first : iter_rest (zip_first c.into_iter-access-iterator.result) ≡ accesses = search in
    let second : iter_rest (zip_second c.into_iter-access-iterator.result) ≡ answers = search in
    let ended = zip_end accesses answers c.loop-access.yielded c.into_iter-access-iterator.result
    c.loop-access.access-iterator c.next.new.self c.next.result first second c.loop-access.yielded_by
    c.in-None.is c.next.ensures.steps in
    subst (λ x. BlockBufferSends g.W.Write.contents start c.loop-access.block (all ++ x))
    (report_pairs_whole (report_answer_fed c.args.reads) accesses answers i ended)
    (c.loop-access.invariant.sends start all h)

pub returns-clause-writer : goal.returns-clause-writer
returns-clause-writer g c = c.loop-access.invariant.writer

use Rattle.std.proofs.Common.{ℕ, List, [], sym, subst}
use Rattle.std.specs.Prelude.{option_copied}
use Rattle.std.proofs.lemmas.Result.{IfOk-weaker, IfErr-weaker}
use Rattle.swd_script.specs.Lines.{script_lines}
use Rattle.swd_script.specs.Readers.{HasLastScriptLine, IsLastScriptLine, ReadsScriptLines}
use Rattle.swd_script.specs.Scans.{IsScannedScriptLine}
use Rattle.swd_script.proofs.ReadLemmas.{script_splits_last_line}
use Rattle.swd_script.proofs.line_reader.LineReader.finish.Goals as goal

pub returns-in-Ok-clause-ok : goal.returns-in-Ok-clause-ok
returns-in-Ok-clause-ok g c =
    let took = g.S.LineSink.took in
    let old = c.args.self in
    let new = c.add_line.new.self in
    let words = option_copied c.words.result in
    IfOk-weaker c.whole.result (λ whole. (text : List ℕ) → took (script_lines text) new → g.S.LineSink.says text whole)
    (λ whole. (seen : List ℕ) → ReadsScriptLines took old seen → g.S.LineSink.says seen whole)
    (λ whole h seen r.
    (let last : IsLastScriptLine seen r.ended words = script_splits_last_line seen r.ended old.scan old.number words
    (λ line k. subst (IsScannedScriptLine line) (sym c.words.ensures) (c.finish.ensures line k)) r.splits in
    h seen (subst (λ all. took all new) (sym last.law)
    (c.in-Ok.ensures.ok r.ended last.line r.splits.number_is last.scan r.so_far))))
    c.whole.ensures.ok

pub returns-in-Ok-clause-err : goal.returns-in-Ok-clause-err
returns-in-Ok-clause-err g c =
    let took = g.S.LineSink.took in
    let refuses = g.S.LineSink.refuses in
    let old = c.args.self in
    let new = c.add_line.new.self in
    let words = option_copied c.words.result in
    IfErr-weaker c.whole.result
    (λ fault. (text : List ℕ) → HasLastScriptLine text old.number → took (script_lines text) new → refuses fault text)
    (λ fault. (seen : List ℕ) → ReadsScriptLines took old seen → refuses fault seen)
    (λ fault h seen r.
    (let last : IsLastScriptLine seen r.ended words = script_splits_last_line seen r.ended old.scan old.number words
    (λ line k. subst (IsScannedScriptLine line) (sym c.words.ensures) (c.finish.ensures line k)) r.splits in
    let ends : HasLastScriptLine seen old.number =
    record { ended = r.ended; line = last.line; law = last.law; number_is = r.splits.number_is } in
    h seen ends (subst (λ all. took all new) (sym last.law)
    (c.in-Ok.ensures.ok r.ended last.line r.splits.number_is last.scan r.so_far))))
    c.whole.ensures.err

pub returns-in-Err-clause-err : goal.returns-in-Err-clause-err
returns-in-Err-clause-err g c = λ seen r.
    let words = option_copied c.words.result in
    let last : IsLastScriptLine seen r.ended words =
    script_splits_last_line seen r.ended c.args.self.scan c.args.self.number words
    (λ line k. subst (IsScannedScriptLine line) (sym c.words.ensures) (c.finish.ensures line k)) r.splits in
    subst (λ f. g.S.LineSink.refuses f seen) (sym c.at.ensures)
    (c.in-Err.ensures.err seen r.ended last.line (record { rest = []; law = last.law }) r.splits.number_is last.scan
    r.so_far)

use Rattle.std.proofs.Common.{◌≡◌, ◌≢◌, [], ◌∷◌, ◌++◌, sym, subst, arith}
use Rattle.swd_script.specs.Lines.{script_lines}
use Rattle.std.specs.Prelude.{option_copied}
use Rattle.swd_script.specs.Readers.{IsFedScriptLine, SplitsScriptLines}
use Rattle.swd_script.specs.Scans.{IsScannedScriptLine, script_without_return}
use Rattle.swd_script.proofs.ReadLemmas.{script_splits_byte, script_splits_feed, script_splits_next_line}
use Rattle.swd_script.proofs.line_reader.LineReader.byte.Goals as goal

pub returns-then-byte-ne10-clause-ok : goal.returns-then-byte-ne10-clause-ok
returns-then-byte-ne10-clause-ok g c = λ seen r.
    let old = c.args.self.now in
    let unbroken : c.args.byte ≢ 10 = omega arith in
    record {
      ended = r.ended;
      splits = script_splits_byte seen r.ended old.scan c.byte.new.self old.number c.args.byte unbroken c.byte.ensures
          r.splits;
      so_far = r.so_far;
    }

pub returns-in-Ok-clause-ok : goal.returns-in-Ok-clause-ok
returns-in-Ok-clause-ok g c = λ seen r.
    let old = c.args.self.now in
    let words = option_copied c.words.result in
    let fed : IsFedScriptLine seen r.ended words = script_splits_feed seen r.ended old.scan old.number words
    (λ line h. subst (IsScannedScriptLine (script_without_return line)) (sym c.words.ensures) (c.feed.ensures line h))
    r.splits in
    let feed : 10 ≡ c.args.byte = omega arith in
    record {
      ended = r.ended ++ fed.line ∷ [];
      splits = subst (λ b. SplitsScriptLines (seen ++ b ∷ []) (r.ended ++ fed.line ∷ []) c.begin.new.self
          c.saturating_add-self.result) feed
          (script_splits_next_line seen r.ended c.begin.new.self old.number c.saturating_add-self.result words
          r.splits.number_is c.saturating_add-self.ensures c.begin.ensures fed);
      so_far = c.in-Ok.ensures.ok r.ended fed.line r.splits.number_is fed.scan r.so_far;
    }

pub returns-in-Err-clause-err : goal.returns-in-Err-clause-err
returns-in-Err-clause-err g c = λ seen more r.
    let old = c.args.self.now in
    let words = option_copied c.words.result in
    let fed : IsFedScriptLine seen r.ended words = script_splits_feed seen r.ended old.scan old.number words
    (λ line h. subst (IsScannedScriptLine (script_without_return line)) (sym c.words.ensures) (c.feed.ensures line h))
    r.splits in
    let feed : 10 ≡ c.args.byte = omega arith in
    subst (λ b. g.S.LineSink.refuses c.at.result (seen ++ b ∷ more)) feed
    (subst (λ f. g.S.LineSink.refuses f (seen ++ 10 ∷ more)) (sym c.at.ensures)
    (c.in-Err.ensures.err (seen ++ 10 ∷ more) r.ended fed.line (record { rest = script_lines more; law = fed.law more })
    r.splits.number_is fed.scan r.so_far))

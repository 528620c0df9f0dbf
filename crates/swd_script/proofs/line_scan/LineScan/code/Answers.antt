use Rattle.std.proofs.Common.{◌≡◌, ◌≢◌, ◌<◌, ◌≤◌, ◌++◌, ◌∷◌, [], false, true, sym, subst, ◌∙◌, arith}
use Rattle.swd_script.specs.Lines.{is_script_blank}
use Rattle.swd_script.specs.Scans.{ScriptScanHoldsAt, IsScriptCodeSoFar}
use Rattle.swd_script.proofs.ScanLemmas.{script_blank_byte_tests, script_code_so_far, script_code_spoiled_by_byte}
use Rattle.swd_script.proofs.WordLemmas.{script_gathers_blank}
use Rattle.swd_script.proofs.ScanLemmas.{script_high_byte_tests, script_low_byte_tests, script_word_byte_tests}
use Rattle.swd_script.proofs.line_scan.LineScan.code.Goals as goal
use Rattle.swd_script.proofs.line_scan.LineScan.code.Goals.{in_default-2-via-then-byte-lt33}
use Rattle.swd_script.proofs.line_scan.LineScan.code.Goals.{in_default-2-via-else-byte-lt33+else-byte-lt127}

pub returns-in_default : goal.returns-in_default
returns-in_default c = λ line h.
    let old = c.args.self.now in
    let k : IsScriptCodeSoFar line old.words = subst (λ p. ScriptScanHoldsAt p line old.words) c.requires.code h in
    let blank : is_script_blank c.args.byte ≡ true = sym c.is_blank.ensures ∙ c.if-is_blank.true in
    let hash : c.args.byte ≢ 35 = omega arith in
    subst (λ p. ScriptScanHoldsAt p (line ++ c.args.byte ∷ []) c.end_word.new.self) (sym c.requires.code)
    (script_code_so_far line c.args.byte old.words c.end_word.new.self (script_blank_byte_tests c.args.byte blank hash)
    (script_gathers_blank line old.words c.end_word.new.self c.args.byte blank c.end_word.ensures.ended
    c.end_word.ensures.last) k)

pub returns-in-33-to-126 : goal.returns-in-33-to-126
returns-in-33-to-126 c = λ line h.
    let old = c.args.self.now in
    let k : IsScriptCodeSoFar line old.words = subst (λ p. ScriptScanHoldsAt p line old.words) c.requires.code h in
    let blank : is_script_blank c.args.byte ≡ false = sym c.is_blank.ensures ∙ c.if-is_blank.false in
    let low : 33 ≤ c.args.byte = omega arith in
    let high : c.args.byte ≤ 126 = omega arith in
    let hash : c.args.byte ≢ 35 = omega arith in
    subst (λ p. ScriptScanHoldsAt p (line ++ c.args.byte ∷ []) c.push.new.self) (sym c.requires.code)
    (script_code_so_far line c.args.byte old.words c.push.new.self
    (script_word_byte_tests c.args.byte blank low high hash) (c.push.ensures line) k)

pub returns-in_default-2 : goal.returns-in_default-2
returns-in_default-2 c = λ line h.
    let old = c.args.self.now in
    let k : IsScriptCodeSoFar line old.words = subst (λ p. ScriptScanHoldsAt p line old.words) c.requires.code h in
    let blank : is_script_blank c.args.byte ≡ false = sym c.is_blank.ensures ∙ c.if-is_blank.false in
    let hash : c.args.byte ≢ 35 = omega arith in
    let return : c.args.byte ≢ 13 = omega arith in
    elim c.in_default-2.branch [
      | in_default-2-via-then-byte-lt33 w ↦
          let low : c.args.byte < 33 = omega arith in
          script_code_spoiled_by_byte line c.args.byte old.words (script_low_byte_tests c.args.byte blank low hash)
          return k
      | in_default-2-via-else-byte-lt33+else-byte-lt127 w ↦
          let high : 126 < c.args.byte = omega arith in
          script_code_spoiled_by_byte line c.args.byte old.words (script_high_byte_tests c.args.byte blank high hash)
          return k
    ]

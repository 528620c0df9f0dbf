-- Laws of a text that is read line by line.
use Rattle.std.proofs.Common.{◌≡◌, ◌≢◌, ℕ, suc, ◌+◌, ◌-◌, ◌^◌, ◌<◌, take, drop, get_or, drop-cons, take-append-drop}
use Rattle.std.proofs.Common.{List, [], ◌∷◌, ◌++◌, length, append_assoc, sym, ap, ◌∙◌, subst, arith, Option, Result, Ok}
use Rattle.std.proofs.Common.{Err}
use Rattle.std.specs.Prelude.{min, IsOk}
use Rattle.std.proofs.lemmas.List.{append-nil, length-append}
use Rattle.arrayvec.specs.ArrayVec.{ArrayVec}
use Rattle.swd_script.specs.declared.fault.LineFault.{LineFault}
use Rattle.swd_script.specs.declared.fault.LineFault.TheVariants.{Word, Number, Range, NoMemoryLine, Memory}
use Rattle.swd_script.specs.declared.fault.ScriptFault.{ScriptFault}
use Rattle.swd_script.specs.declared.line_scan.LineScan.{LineScan}
use Rattle.swd_script.specs.Faults.{script_line_number, script_after_lines, script_then_lines, script_fault_at}
use Rattle.swd_script.specs.Lines.{script_lines, script_line_words}
use Rattle.swd_script.specs.Readers.{EndsScriptLine, IsScriptLineFault, IsFedScriptLine, IsLastScriptLine}
use Rattle.swd_script.specs.Readers.{IsScriptTextFault, ScriptRunsOut, SplitsScriptLines}
use Rattle.swd_script.specs.Scans.{script_without_return, ScriptScanHolds, IsScannedScriptLine}
use Rattle.swd_script.proofs.LineLemmas.{script_lines_fed, script_lines_last, script_line_unbroken_more}

-- a byte of a line more
pub script_splits_byte : (seen : List ℕ) (ended : List (List ℕ)) (old new : LineScan) (number byte : ℕ) → byte ≢ 10
    → ((line : List ℕ) → ScriptScanHolds line old → ScriptScanHolds (line ++ byte ∷ []) new)
    → SplitsScriptLines seen ended old number
    → SplitsScriptLines (seen ++ byte ∷ []) ended new number
script_splits_byte seen ended old new number byte h f s = record {
  line = s.line ++ byte ∷ [];
  law = λ more. ap script_lines (append_assoc seen (byte ∷ []) more) ∙ s.law (byte ∷ more)
      ∙ ap (λ x. ended ++ script_lines x) (sym (append_assoc s.line (byte ∷ []) more));
  unbroken = script_line_unbroken_more s.line byte s.unbroken h;
  holds = f s.line s.holds;
  number_is = s.number_is;
}

next_number : (number before : ℕ) → number ≡ script_line_number before
    → min (number + 1) (2 ^ 64 - 1) ≡ script_line_number (before + 1)
next_number number before e = omega arith

-- a line feed more
pub script_splits_feed : (seen : List ℕ) (ended : List (List ℕ)) (old : LineScan) (number : ℕ)
    (scanned : Option (ArrayVec (ArrayVec ℕ)))
    → ((line : List ℕ) → ScriptScanHolds line old → IsScannedScriptLine (script_without_return line) scanned)
    → SplitsScriptLines seen ended old number
    → IsFedScriptLine seen ended scanned
script_splits_feed seen ended old number scanned f s = record {
  line = script_without_return s.line;
  scan = f s.line s.holds;
  law = λ more. s.law (10 ∷ more) ∙ ap (λ x. ended ++ x) (script_lines_fed s.line more s.unbroken);
}

-- the next line begins behind a line feed
pub script_splits_next_line : (seen : List ℕ) (ended : List (List ℕ)) (new : LineScan) (number next : ℕ)
    (scanned : Option (ArrayVec (ArrayVec ℕ)))
    → number ≡ script_line_number (length ended) → next ≡ min (number + 1) (2 ^ 64 - 1) → ScriptScanHolds [] new
    → (fed : IsFedScriptLine seen ended scanned)
    → SplitsScriptLines (seen ++ 10 ∷ []) (ended ++ fed.line ∷ []) new next
script_splits_next_line seen ended new number next scanned n e h fed = record {
  line = [];
  law = λ more. ap script_lines (append_assoc seen (10 ∷ []) more) ∙ fed.law more
      ∙ sym (append_assoc ended (fed.line ∷ []) (script_lines more));
  unbroken = tt;
  holds = h;
  number_is = e ∙ next_number number (length ended) n
      ∙ ap script_line_number (sym (length-append ended (fed.line ∷ [])));
}

-- the end of the text
pub script_splits_last_line : (seen : List ℕ) (ended : List (List ℕ)) (old : LineScan) (number : ℕ)
    (scanned : Option (ArrayVec (ArrayVec ℕ)))
    → ((line : List ℕ) → ScriptScanHolds line old → IsScannedScriptLine line scanned)
    → SplitsScriptLines seen ended old number
    → IsLastScriptLine seen ended scanned
script_splits_last_line seen ended old number scanned f s = record {
  line = s.line;
  scan = f s.line s.holds;
  law = ap script_lines (sym (append-nil seen)) ∙ s.law [] ∙ ap (λ x. ended ++ script_lines x) (append-nil s.line)
      ∙ ap (λ x. ended ++ x) (script_lines_last s.line s.unbroken);
}

step_before : {S : Type 0} (take : ℕ → S → Option (List (List ℕ)) → Result S LineFault) (state : S) (before count : ℕ)
    (rest : List (List ℕ)) →
    script_after_lines take state (suc before + count) rest ≡ script_after_lines take state (before + suc count) rest
step_before take state before count rest = ap (λ n. script_after_lines take state n rest) (omega arith)

same_ok : {S : Type 0} (a b : S) → (let left : Result S ScriptFault = Ok a in left ≡ Ok b) → a ≡ b
same_ok a b e = cc

append_step : {S : Type 0} (take : ℕ → S → Option (List (List ℕ)) → Result S LineFault) (next : S) (before : ℕ)
    (front rest : List (List ℕ)) (result : Result S LineFault) →
    ((s : S) → script_after_lines take s (suc before) front ≡ Ok next
    → script_after_lines take s (suc before) (front ++ rest)
    ≡ script_after_lines take next (suc before + length front) rest) →
    script_then_lines before (λ s. script_after_lines take s (suc before) front) result ≡ Ok next →
    script_then_lines before (λ s. script_after_lines take s (suc before) (front ++ rest)) result
    ≡ script_after_lines take next (before + suc (length front)) rest
append_step take next before front rest (Ok s) f e = f s e ∙ step_before take next before (length front) rest
append_step take next before front rest (Err fault) f e = absurd cc

-- lines after others
pub script_lines_append : {S : Type 0} (take : ℕ → S → Option (List (List ℕ)) → Result S LineFault) (start next : S)
    (before : ℕ) (front rest : List (List ℕ)) → script_after_lines take start before front ≡ Ok next
    → script_after_lines take start before (front ++ rest) ≡ script_after_lines take next (before + length front) rest
script_lines_append take start next before [] rest e =
    ap (λ s. script_after_lines take s before rest) (same_ok start next e) ∙ ap
    (λ n. script_after_lines take next n rest) (omega arith)
script_lines_append take start next before (line ∷ front) rest e =
    append_step take next before front rest (take (script_line_number before) start (script_line_words line))
    (λ s h. script_lines_append take s next (suc before) front rest h) e

-- lines after the first ones of a text
after_first : {S : Type 0} (take : ℕ → S → Option (List (List ℕ)) → Result S LineFault) (start next : S)
    (front rest : List (List ℕ))
    → script_after_lines take start 0 front ≡ Ok next
    → script_after_lines take start 0 (front ++ rest) ≡ script_after_lines take next (length front) rest
after_first take start next front rest e =
    let n : 0 + length front ≡ length front = omega arith in
    script_lines_append take start next 0 front rest e ∙ ap (λ n. script_after_lines take next n rest) n

-- a line without a fault
pub script_lines_after_line : {S : Type 0} (take : ℕ → S → Option (List (List ℕ)) → Result S LineFault)
    (start mid next : S) (ended : List (List ℕ)) (line : List ℕ) (number : ℕ)
    → number ≡ script_line_number (length ended)
    → script_after_lines take start 0 ended ≡ Ok mid → take number mid (script_line_words line) ≡ Ok next
    → script_after_lines take start 0 (ended ++ line ∷ []) ≡ Ok next
script_lines_after_line take start mid next ended line number n e f =
    after_first take start mid ended (line ∷ []) e
    ∙ ap (script_then_lines (length ended) (λ s. script_after_lines take s (suc (length ended)) []))
    (ap (λ k. take k mid (script_line_words line)) (sym n) ∙ f)

-- a line at fault, whatever follows
pub script_lines_after_fault : {S : Type 0} (take : ℕ → S → Option (List (List ℕ)) → Result S LineFault) (start mid : S)
    (ended rest : List (List ℕ)) (line : List ℕ) (fault : LineFault) → script_after_lines take start 0 ended ≡ Ok mid
    → take (script_line_number (length ended)) mid (script_line_words line) ≡ Err fault
    → script_after_lines take start 0 (ended ++ line ∷ rest)
    ≡ Err (script_fault_at fault (script_line_number (length ended)))
script_lines_after_fault take start mid ended rest line fault e f =
    after_first take start mid ended (line ∷ rest) e
    ∙ ap (script_then_lines (length ended) (λ s. script_after_lines take s (suc (length ended)) rest)) f

-- a fault of a line is one of the text
pub script_line_runs_out : {S : Type 0} (take : ℕ → S → Option (List (List ℕ)) → Result S LineFault) (start mid : S)
    (text : List ℕ) (ended : List (List ℕ)) (line : List ℕ) (number : ℕ) → EndsScriptLine text ended line
    → number ≡ script_line_number (length ended)
    → script_after_lines take start 0 ended ≡ Ok mid
    → IsOk (take (script_line_number (length ended)) mid (script_line_words line))
    → ScriptRunsOut take start text number
script_line_runs_out {S} take start mid text ended line number l n e f = record {
  ended = ended;
  line = line;
  ends = l;
  fine = subst IsOk (sym (after_first take start mid ended (line ∷ []) e))
      (fine_step (take (script_line_number (length ended)) mid (script_line_words line)) f);
  number_is = n;
}
  where
    fine_step : (result : Result S LineFault) → IsOk result
        → IsOk (script_then_lines (length ended) (λ s. script_after_lines take s (suc (length ended)) []) result)
    fine_step (Ok next) h = h
    fine_step (Err fault) h = absurd cc

-- a line at fault makes the text at fault
pub script_line_fault_of_text : {S M : Type 0} (meaning_of : List ℕ → Result M ScriptFault)
    (take : ℕ → S → Option (List (List ℕ)) → Result S LineFault) (start mid : S)
    → ((text : List ℕ) (fault : ScriptFault) → script_after_lines take start 0 (script_lines text) ≡ Err fault
    → meaning_of text ≡ Err fault)
    → (text : List ℕ) (ended : List (List ℕ)) (line : List ℕ) (number : ℕ) (fault : LineFault)
    → EndsScriptLine text ended line
    → number ≡ script_line_number (length ended) → script_after_lines take start 0 ended ≡ Ok mid
    → IsScriptLineFault fault (take number mid (script_line_words line))
    → IsScriptTextFault meaning_of take start (script_fault_at fault number) text
script_line_fault_of_text {S} meaning_of take start mid m text ended line number fault l n e f = at fault f
  where
    told : (fault : LineFault) → take number mid (script_line_words line) ≡ Err fault
        → meaning_of text ≡ Err (script_fault_at fault number)
    told fault f =
        m text (script_fault_at fault number) (ap (script_after_lines take start 0) l.law
        ∙ script_lines_after_fault take start mid ended l.rest line fault e
        (ap (λ k. take k mid (script_line_words line)) (sym n) ∙ f) ∙ ap (λ k. Err (script_fault_at fault k)) (sym n))

    at : (fault : LineFault) → IsScriptLineFault fault (take number mid (script_line_words line))
        → IsScriptTextFault meaning_of take start (script_fault_at fault number) text
    at Word f = told Word f
    at Number f = told Number f
    at Range f = told Range f
    at NoMemoryLine f = told NoMemoryLine f
    at Memory f = script_line_runs_out take start mid text ended line number l n e
        (subst (λ k. IsOk (take k mid (script_line_words line))) n f)

-- the piece about a byte
pub script_piece_about_byte : (seen piece more : List ℕ) (i : ℕ) → i < length piece
    → (seen ++ take i piece) ++ (get_or piece i 0 ∷ (drop (suc i) piece ++ more)) ≡ (seen ++ piece) ++ more
script_piece_about_byte seen piece more i h =
    append_assoc seen (take i piece) (get_or piece i 0 ∷ (drop (suc i) piece ++ more))
    ∙ ap (λ x. seen ++ x) (ap (λ x. take i piece ++ (x ++ more)) (sym (drop-cons piece i 0 h))
    ∙ sym (append_assoc (take i piece) (drop i piece) more) ∙ ap (λ x. x ++ more) (take-append-drop i piece))
    ∙ sym (append_assoc seen piece more)

use Rattle.std.proofs.Common.{◌≡◌, ℕ, ◌+◌, ◌≤◌, List, ◌++◌, length, take, drop, sym, ap, ◌∙◌, arith}
use Rattle.std.proofs.lemmas.List.{length-append, take-append-drop, take-append-le, length-take-le}
use Rattle.std.proofs.Math.Seq.{take-append-add}
use Rattle.swd_io.proofs.held.HeldOutput.extend_first.Goals as goal

-- the first bytes of what was added
first_added : (n m k : ℕ) (bytes old piece : List ℕ) → length old ≡ n → take m bytes ≡ old ++ piece → k ≤ length piece →
    take (n + k) bytes ≡ old ++ take k piece
first_added n m k bytes old piece l e h =
    let whole : length (take m bytes) ≡ length old + length piece = ap length e ∙ length-append old piece in
    let within : length old + k ≤ length (take m bytes) = omega arith in
    let cut : take (length old + k) bytes ≡ take (length old + k) (take m bytes)
    = ap (take (length old + k)) (sym (take-append-drop m bytes))
    ∙ take-append-le (length old + k) (take m bytes) (drop m bytes) within in
    ap (λ j. take (j + k) bytes) (sym l) ∙ cut ∙ ap (take (length old + k)) e ∙ take-append-add old piece k

pub returns-clause-bytes : goal.returns-clause-bytes
returns-clause-bytes g c = first_added c.args.self.now.len _ c.args.count _ _ c.args.piece.now
    (length-take-le c.args.self.now.len c.args.self.now.bytes (omega arith)) c.extend.ensures.bytes (omega arith)

use Rattle.std.proofs.Common.{◌≡◌, ℕ, ◌+◌, ◌<◌, List, ◌++◌, length, take, Option, sym, ap, ◌∙◌, subst, append_assoc}
use Rattle.std.proofs.Common.{arith}
use Rattle.std.specs.Io.KnownBytes.{Appends}
use Rattle.std.proofs.KnownBytes.{Appends-trans}
use Rattle.std.proofs.lemmas.List.{length-append, take-append-le}
use Rattle.std.proofs.Math.Seq.{take-append-add}
use Rattle.swd_trace.specs.Texts.{item_text}
use Rattle.swd_trace.specs.ItemBytes.{item_bytes_left}
use Rattle.swd_trace.proofs.encoder.encode.Goals as goal

-- a beginning of a piece went out, and before it the pieces before
cut_short : (start old new : Option (List ℕ)) (text sent piece rest : List ℕ) (k : ℕ) → text ≡ sent ++ (piece ++ rest)
    → Appends start old sent →
    k < length piece → Appends old new (take k piece) → (n : ℕ) × (n < length text) × Appends start new (take n text)
cut_short start old new text sent piece rest k whole gone short more =
    let first : length (sent ++ (piece ++ rest)) ≡ length sent + length (piece ++ rest) = length-append sent
    (piece ++ rest) in
    let second : length (piece ++ rest) ≡ length piece + length rest = length-append piece rest in
    let len : length text ≡ length (sent ++ (piece ++ rest)) = ap length whole in
    let front : take k (piece ++ rest) ≡ take k piece = take-append-le k piece rest (omega arith) in
    let n : ℕ = length sent + k in
    let taken : take n text ≡ sent ++ take k piece =
    ap (take n) whole ∙ take-append-add sent (piece ++ rest) k ∙ ap (λ x. sent ++ x) front in
    (n, omega arith, subst (Appends start new) (sym taken) (Appends-trans _ _ _ _ _ gone more))

pub returns-in-Err-clause-err : goal.returns-in-Err-clause-err
returns-in-Err-clause-err g c =
    let i = c.loop-bytes.invariant in
    let piece = take c.fill-filled.result c.fill-filled.new.piece in
    cut_short (g.W.Write.contents c.args.writer.now) (g.W.Write.contents c.loop-bytes.writer)
    (g.W.Write.contents c.send.new.writer)
    (item_text c.args.item.now) i.0 piece (item_bytes_left c.fill-filled.new.self) c.in-Err.unsent.sent
    (i.1 ∙ ap (λ x. i.0 ++ x) c.fill-filled.ensures.bytes) i.2 c.in-Err.ensures.err.0 c.in-Err.ensures.err.1

pub loop-bytes-preserved : goal.loop-bytes-preserved
loop-bytes-preserved g c =
    let i = c.loop-bytes.invariant in
    let piece = take c.fill-filled.result c.fill-filled.new.piece in (
      i.0 ++ piece,
      i.1 ∙ ap (λ x. i.0 ++ x) c.fill-filled.ensures.bytes
          ∙ sym (append_assoc i.0 piece (item_bytes_left c.fill-filled.new.self)),
      Appends-trans _ _ _ _ _ i.2 c.in_default.ensures.ok,
    )

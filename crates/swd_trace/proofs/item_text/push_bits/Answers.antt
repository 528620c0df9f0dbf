use Rattle.std.proofs.Common.{rules, ◌≡◌, ℕ, ◌+◌, ◌-◌, ◌/◌, ◌%◌, ◌<◌, ◌≤◌, List, [], ◌∷◌, ◌++◌, map, append_assoc, sym}
use Rattle.std.proofs.Common.{ap, ◌∙◌, arith}
use Rattle.std.specs.Prelude.{◌==◌}
use Rattle.std.proofs.lemmas.List.{append-nil}
use Rattle.swd_bits.specs.Bits.{low_bits}
use Rattle.swd_trace.specs.Texts.{trace_digit}
use Rattle.swd_trace.proofs.NumberLemmas.{decoder_bits_next, decoder_bits_none}
use Rattle.swd_trace.proofs.item_text.push_bits.Goals as goal

-- one digit more is written, and one fewer is left
step : (old new all : List ℕ) (len at v : ℕ) → at < len → new ≡ old ++ trace_digit (v % 2 == 1) ∷ [] →
    old ++ map trace_digit (low_bits (len - at) v) ≡ all
    → new ++ map trace_digit (low_bits (len - (at + 1)) (v / 2)) ≡ all
step old new all len at v h e k =
    let less : len - at - 1 ≡ len - (at + 1) = omega arith in
    let front : low_bits (len - at) v ≡ (v % 2 == 1) ∷ low_bits (len - (at + 1)) (v / 2) =
    decoder_bits_next (len - at) v (omega arith) ∙ ap (λ n. (v % 2 == 1) ∷ low_bits n (v / 2)) less in
    ap (λ x. x ++ map trace_digit (low_bits (len - (at + 1)) (v / 2))) e
    ∙ append_assoc old (trace_digit (v % 2 == 1) ∷ []) (map trace_digit (low_bits (len - (at + 1)) (v / 2)))
    ∙ ap (λ x. old ++ map trace_digit x) (sym front) ∙ k

pub loop-preserved : goal.loop-preserved
loop-preserved g c = record {
  room = search rules;
  kept = step c.loop.text.bytes c.push_str.new.self.bytes _ c.args.bits.len c.loop.counter c.loop.rest c.loop-test.true
      (c.push_str.ensures.bytes ∙ ap (λ x. c.loop.text.bytes ++ x) c.bit_text.ensures) c.loop.invariant.kept;
}

-- all the digits are written
done : (text all : List ℕ) (len at v : ℕ) → len ≤ at → text ++ map trace_digit (low_bits (len - at) v) ≡ all
    → text ≡ all
done text all len at v h k =
    let none : len - at ≡ 0 = omega arith in
    sym (append-nil text) ∙ ap (λ x. text ++ map trace_digit x) (sym (decoder_bits_none (len - at) v none)) ∙ k

pub returns-clause-bytes : goal.returns-clause-bytes
returns-clause-bytes g c = done c.loop.text.bytes _ c.args.bits.len c.loop.counter c.loop.rest c.loop-test.false
    c.loop.invariant.kept

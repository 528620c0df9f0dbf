use Rattle.std.proofs.Common.{◌≡◌, ◌<◌, ◌≤◌, ◌^◌, ◌%◌, ◌-◌, ◌*◌, ◌++◌, ◌∷◌, [], ℕ, zero, suc, List, Bool, length, ap}
use Rattle.std.proofs.Common.{sym, subst, ◌∙◌, arith, append_assoc}
use Rattle.std.specs.Prelude.{bit_and}
use Rattle.std.proofs.lemmas.Nat.{one_shl, pow_pos}
use Rattle.swd_bits.specs.Bits.{low_bits}
use Rattle.swd_bits.specs.Transactions.{SpellsTx}
use Rattle.swd_bits.specs.declared.tx.Tx.{Tx as Transaction}
use Rattle.swd_bits.specs.declared.tx.TxEnd.{TxEnd}
use Rattle.swd_bits.specs.declared.tx.TxEnd.TheVariants.{Moved, Wait, Fault, NoAck}
use Rattle.swd_bits.proofs.BitsLemmas.{length-low_bits}
use Rattle.swd_trace.specs.declared.decoder.Decoder.{Decoder}
use Rattle.swd_trace.specs.declared.item.Item.TheVariants.{Tx}
use Rattle.swd_trace.specs.Held.{GivesItem, DecoderHasRead, decoder_rest}
use Rattle.swd_trace.specs.Stands.{Whole, stands}
use Rattle.swd_trace.proofs.BitsStepLemmas.{decoder_tx_item_fits}
use Rattle.swd_trace.proofs.GrammarLemmas.{decoder_finds_spelled_tx, decoder_found_tx_spelled}
use Rattle.swd_trace.proofs.NumberLemmas.{decoder_bits_masked}
use Rattle.swd_trace.proofs.SpellingLemmas.{trace_tx_len, trace_spelling_length}
use Rattle.swd_trace.proofs.decoder.Decoder.due_tx.Goals as goal

odd_of : (n : ℕ) → (n % 2 ≡ 0 → ⊥) → n % 2 ≡ 1
odd_of n h = let small : n % 2 < 2 = omega arith in by (n % 2) small h
  where
    by : (d : ℕ) → d < 2 → (d ≡ 0 → ⊥) → d ≡ 1
    by d k h = omega arith

-- an odd number has a bit
some_odd : (n len : ℕ) → n % 2 ≡ 1 → n < 2 ^ len → 0 < len
some_odd n zero h k = let small : n < 1 = k in let none : n ≡ 0 = omega arith in let even : n % 2 ≡ 0 = ap (λ m. m % 2)
    none in absurd (omega arith)
some_odd n (suc len) h k = omega arith

longest : (end : TxEnd) → trace_tx_len end ≤ 46
longest (Moved word ok) = omega arith
longest Wait = omega arith
longest Fault = omega arith
longest (NoAck seen) = omega arith

-- a transaction has 46 bits at most
few_bits : (n v : ℕ) (tx : Transaction) → SpellsTx tx (low_bits n v) → n ≤ 46
few_bits n v tx s =
    let l : length (low_bits n v) ≡ n = length-low_bits n v in
    let e : length (low_bits n v) ≡ trace_tx_len tx.result = ap length s.3 ∙ trace_spelling_length tx s.1 s.2 in
    let most : trace_tx_len tx.result ≤ 46 = longest tx.result in
    omega arith

-- what is spelled is what stands
same_tx : (len v n : ℕ) (one other : Transaction) → n ≤ len → n < 64 → stands (low_bits len v) ≡ Whole one n →
    SpellsTx other (low_bits n (bit_and v (1 * 2 ^ n % 2 ^ 64 - 1))) → one ≡ other
same_tx len v n one other h k e s =
    let f : stands (low_bits len v) ≡ Whole other n = decoder_finds_spelled_tx len v n other h k s in
    cc

read_on : (old new : Decoder) (tx : Transaction) (bits : List Bool) (items : List _) → GivesItem old new (Tx tx)
    → DecoderHasRead old bits items → DecoderHasRead new bits (items ++ Tx tx ∷ [])
read_on old new tx bits items g h = λ more.
    append_assoc items (Tx tx ∷ []) (decoder_rest new more) ∙ ap (λ x. items ++ x) (sym (g.law more)) ∙ h more

pub front_of-requires-clause-started : goal.front_of-requires-clause-started
front_of-requires-clause-started c = odd_of c.args.self.now.bits c.if-self-eq0.false

pub front_of-requires-clause-some : goal.front_of-requires-clause-some
front_of-requires-clause-some c = some_odd c.args.self.now.bits c.args.self.now.len
    (odd_of c.args.self.now.bits c.if-self-eq0.false) c.args.self.now.holds.whole

pub overflow_shl-spelled : goal.overflow_shl-spelled
overflow_shl-spelled c =
    let short : c.args.self.now.len ≤ 50 = c.args.self.now.holds.short in
    let fits : c.in-Whole.len ≤ c.args.self.now.len =
    decoder_tx_item_fits c.args.self.now.len c.args.self.now.bits c.in-Whole.len
    c.in-Whole.tx c.in-Whole.ensures.0 in
    omega arith

pub overflow_sub-spelled : goal.overflow_sub-spelled
overflow_sub-spelled c =
    let short : c.args.self.now.len ≤ 50 = c.args.self.now.holds.short in
    let fits : c.in-Whole.len ≤ c.args.self.now.len =
    decoder_tx_item_fits c.args.self.now.len c.args.self.now.bits c.in-Whole.len
    c.in-Whole.tx c.in-Whole.ensures.0 in
    let some : 0 < 2 ^ c.in-Whole.len = pow_pos c.in-Whole.len in
    rw (one_shl c.in-Whole.len 64 (omega arith)) (omega arith)

pub returns-clause-tx : goal.returns-clause-tx
returns-clause-tx c =
    let d = c.args.self.now in
    let n = c.in-Whole.len in
    let short : d.len ≤ 50 = d.holds.short in
    let fits : n ≤ d.len = decoder_tx_item_fits d.len d.bits n c.in-Whole.tx c.in-Whole.ensures.0 in
    let spelled = decoder_found_tx_spelled d.len d.bits n c.in-Whole.tx fits (omega arith) c.in-Whole.ensures.0 in
    let some : 0 < 2 ^ n = pow_pos n in
    let small : d.bits % 2 ^ n < 2 ^ n = omega arith in
    record {
      whole = rw (decoder_bits_masked n d.bits (omega arith)) small;
      short = few_bits n _ c.in-Whole.tx spelled;
      found = (c.in-Whole.tx, spelled);
      gives = λ other s.
          subst (λ tx. GivesItem d c.drop_tx.new.self (Tx tx))
          (same_tx d.len d.bits n c.in-Whole.tx other fits (omega arith) c.in-Whole.ensures.0 s) c.drop_tx.ensures;
    }

pub returns-clause-read : goal.returns-clause-read
returns-clause-read c =
    let d = c.args.self.now in
    let n = c.in-Whole.len in
    let short : d.len ≤ 50 = d.holds.short in
    let fits : n ≤ d.len = decoder_tx_item_fits d.len d.bits n c.in-Whole.tx c.in-Whole.ensures.0 in
    λ other bits items s h.
    read_on d c.drop_tx.new.self other bits items (subst (λ tx. GivesItem d c.drop_tx.new.self (Tx tx))
    (same_tx d.len d.bits n c.in-Whole.tx other fits (omega arith) c.in-Whole.ensures.0 s) c.drop_tx.ensures) h

use Rattle.std.proofs.Common.{◌≡◌, ◌+◌, ◌<◌, ◌≤◌, ◌++◌, ◌∷◌, [], List, Bool, true, replicate, sym, ap, ◌∙◌, subst}
use Rattle.std.proofs.Common.{append_assoc, arith}
use Rattle.swd_bits.specs.Bits.{low_bits}
use Rattle.swd_bits.specs.BitLists.{tx_bits_of}
use Rattle.swd_bits.proofs.TxLemmas.{tx_bits_injective}
use Rattle.swd_trace.specs.declared.item.Item.TheVariants.{Tx}
use Rattle.swd_trace.specs.declared.item.Item.{Item}
use Rattle.swd_trace.specs.Reading.{reading}
use Rattle.swd_trace.specs.Held.{decoder_rest, idle_items}
use Rattle.swd_trace.specs.Spelled.{IsTraceTxAcknowledged}
use Rattle.swd_trace.proofs.HoldingLemmas.{decoder_holds_bits}
use Rattle.swd_trace.proofs.FoundLemmas.{found_tx_reading, decoder_items_given}
use Rattle.swd_trace.proofs.decoder.Decoder.take_tx.Goals as goal

pub invariant_of-self : goal.invariant_of-self
invariant_of-self c =
    let d = c.args.self.now in
    let counted : d.run + d.len ≤ d.fed = d.holds.counted in
    record {
      holds = decoder_holds_bits d.mode d.one d.len d.bits (d.fed + c.from-2.result) d.holds.whole d.holds.short
          (omega arith);
    }

pub returns-clause-tx : goal.returns-clause-tx
returns-clause-tx c =
    let d = c.args.self.now in
    let found = c.in-Some.ensures in
    let alone : c.holds_idle_alone.result ≡ true = c.if-not-holds_idle_alone.false in
    let some : 0 < c.in-Some.tx.len = found.some in
    let none : d.len ≡ 0 = c.holds_idle_alone.ensures.alone alone in
    record {
      whole = found.whole;
      short = found.short;
      spells = (found.tx, found.spells);
      some = omega arith;
      most = c.if-taken-count.false;
      gives = λ tx s more.
          found_tx_reading d.mode d.one d.run d.len d.bits c.args.bits c.in-Some.tx.len tx (tx_bits_of c.in-Some.tx)
          (c.holds_idle_alone.ensures.mode alone) none (c.holds_idle_alone.ensures.idle alone) found.same s
          (subst (λ t. IsTraceTxAcknowledged t.result)
          (tx_bits_injective found.tx tx (tx_bits_of c.in-Some.tx) found.spells s)
          found.acknowledged) more
          ∙ ap (λ z. idle_items (d.run + z)
          ++ (Tx tx ∷ reading d.mode (replicate 0 d.one ++ (low_bits d.len d.bits ++ more)))) (sym c.from.ensures);
      fed = ap (λ n. d.fed + n) c.from-2.ensures;
      settled = omega arith;
    }

pub returns-clause-read : goal.returns-clause-read
returns-clause-read c = λ tx before items s h.
    let d = c.args.self.now in
    let idle = idle_items (d.run + c.from.result) in
    let takes = returns-clause-tx c in
    let new : List Bool → List Item = λ more. reading d.mode (replicate 0 d.one ++ (low_bits d.len d.bits ++ more)) in
    decoder_items_given (decoder_rest d) new before (low_bits _ c.args.bits) items (idle ++ Tx tx ∷ [])
    (λ more. takes.gives tx s more ∙ sym (append_assoc idle (Tx tx ∷ []) (new more))) h

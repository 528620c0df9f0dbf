use Rattle.std.proofs.Common.{◌≡◌, ◌≤◌, ◌-◌, ◌++◌, ◌/◌, ◌^◌, ◌∷◌, ℕ, refl, ap, sym, ◌∙◌, arith}
use Rattle.swd_bits.specs.Bits.{low_bits}
use Rattle.swd_bits.specs.declared.tx.TxEnd.{TxEnd}
use Rattle.swd_bits.specs.declared.tx.TxEnd.TheVariants.{Moved, Wait, Fault, NoAck}
use Rattle.swd_trace.specs.declared.item.Item.TheVariants.{Tx}
use Rattle.swd_trace.specs.declared.mode.Mode.TheVariants.{Synced, Lost}
use Rattle.swd_trace.specs.Reading.{reading, decoder_mode_after_tx}
use Rattle.swd_trace.proofs.HeldLemmas.{decoder_holds_fewer_bits}
use Rattle.swd_trace.proofs.BitsStepLemmas.{item_after_empty_run, decoder_tx_item, decoder_tx_item_fits}
use Rattle.swd_trace.proofs.decoder.Decoder.drop_tx.Goals as goal

pub overflow_shr-self : goal.overflow_shr-self
overflow_shr-self c =
    let short : c.args.self.now.len ≤ 50 = c.args.self.now.holds.short in
    let fits : c.args.len ≤ c.args.self.now.len =
    decoder_tx_item_fits c.args.self.now.len c.args.self.now.bits c.args.len c.args.tx
    c.requires.stands in
    omega arith

pub overflow_sub-self : goal.overflow_sub-self
overflow_sub-self c = decoder_tx_item_fits c.args.self.now.len c.args.self.now.bits c.args.len c.args.tx
    c.requires.stands

pub invariant_of-self : goal.invariant_of-self
invariant_of-self c = record {
  holds = decoder_holds_fewer_bits c.args.self.now.mode Lost c.args.self.now.one c.args.self.now.run c.args.self.now.len
      c.args.self.now.bits c.args.self.now.next c.args.self.now.fed
      c.args.len c.args.self.now.holds c.requires.run
      (decoder_tx_item_fits c.args.self.now.len c.args.self.now.bits c.args.len c.args.tx c.requires.stands);
}

pub invariant_of-self-in_default : goal.invariant_of-self-in_default
invariant_of-self-in_default c = record {
  holds = decoder_holds_fewer_bits c.args.self.now.mode c.args.self.now.mode c.args.self.now.one c.args.self.now.run
      c.args.self.now.len c.args.self.now.bits c.args.self.now.next c.args.self.now.fed
      c.args.len c.args.self.now.holds c.requires.run
      (decoder_tx_item_fits c.args.self.now.len c.args.self.now.bits c.args.len c.args.tx c.requires.stands);
}

-- what comes after a transaction
after_none : (end : TxEnd) (n : ℕ) → end ≡ NoAck n → decoder_mode_after_tx end ≡ Lost
after_none end n e = ap decoder_mode_after_tx e

after_some : (end : TxEnd) → ((n : ℕ) → end ≡ NoAck n → ⊥) → decoder_mode_after_tx end ≡ Synced
after_some (Moved word ok) h = refl
after_some Wait h = refl
after_some Fault h = refl
after_some (NoAck n) h = absurd (h n refl)

pub returns-in-NoAck : goal.returns-in-NoAck
returns-in-NoAck c =
    let fits : c.args.len ≤ c.args.self.now.len =
    decoder_tx_item_fits c.args.self.now.len c.args.self.now.bits c.args.len c.args.tx
    c.requires.stands in
    let some : 12 ≤ c.args.len = c.requires.some in
    let after : decoder_mode_after_tx c.args.tx.result ≡ Lost =
    after_none c.args.tx.result c.in-NoAck.field-0 c.in-NoAck.is in
    record {
      law = λ more.
          item_after_empty_run c.args.self.now.mode Lost c.args.self.now.one c.args.self.now.run (Tx c.args.tx)
          (low_bits c.args.self.now.len c.args.self.now.bits ++ more)
          (low_bits (c.args.self.now.len - c.args.len) (c.args.self.now.bits / 2 ^ c.args.len) ++ more) c.requires.run
          (decoder_tx_item c.args.self.now.mode c.args.self.now.len c.args.self.now.bits c.args.len c.args.tx
          c.requires.mode c.requires.stands some more ∙ ap (λ m. Tx c.args.tx ∷ reading m
          (low_bits (c.args.self.now.len - c.args.len) (c.args.self.now.bits / 2 ^ c.args.len) ++ more)) after);
      fewer = omega arith;
      fed = refl;
    }

pub returns-in_default : goal.returns-in_default
returns-in_default c =
    let fits : c.args.len ≤ c.args.self.now.len =
    decoder_tx_item_fits c.args.self.now.len c.args.self.now.bits c.args.len c.args.tx
    c.requires.stands in
    let some : 12 ≤ c.args.len = c.requires.some in
    let after : decoder_mode_after_tx c.args.tx.result ≡ Synced = after_some c.args.tx.result c.in_default.not-NoAck in
    record {
      law = λ more.
          item_after_empty_run c.args.self.now.mode c.args.self.now.mode c.args.self.now.one c.args.self.now.run
          (Tx c.args.tx) (low_bits c.args.self.now.len c.args.self.now.bits ++ more)
          (low_bits (c.args.self.now.len - c.args.len) (c.args.self.now.bits / 2 ^ c.args.len) ++ more) c.requires.run
          (decoder_tx_item c.args.self.now.mode c.args.self.now.len c.args.self.now.bits c.args.len c.args.tx
          c.requires.mode c.requires.stands some more ∙ ap (λ m. Tx c.args.tx ∷ reading m
          (low_bits (c.args.self.now.len - c.args.len) (c.args.self.now.bits / 2 ^ c.args.len) ++ more))
          (after ∙ sym c.requires.mode));
      fewer = omega arith;
      fed = refl;
    }

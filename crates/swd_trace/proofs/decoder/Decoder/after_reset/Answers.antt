use Rattle.std.proofs.Common.{◌≡◌, ◌≤◌, ◌-◌, ◌++◌, ◌/◌, ◌^◌, min, bit_and, refl, ◌∙◌, subst, arith}
use Rattle.swd_bits.specs.Bits.{low_bits}
use Rattle.swd_trace.specs.declared.item.Item.TheVariants.{Switch}
use Rattle.swd_trace.specs.declared.mode.Mode.TheVariants.{Synced, AfterSwitch}
use Rattle.swd_trace.proofs.HeldLemmas.{decoder_holds_fewer_bits, decoder_decides_after_step}
use Rattle.swd_trace.proofs.BitsStepLemmas.{item_after_empty_run, reading_after_empty_run}
use Rattle.swd_trace.proofs.SwitchLemmas.{decoder_mask, decoder_no_switch_item, decoder_holds_switch_prefix}
use Rattle.swd_trace.proofs.SwitchLemmas.{decoder_switch_open_end, decoder_switch_item}
use Rattle.swd_trace.proofs.decoder.Decoder.after_reset.Goals as goal

pub returns-then-self-mask : goal.returns-then-self-mask
returns-then-self-mask c =
    let seen : c.min-seen.result ≡ min c.args.self.now.len 16 = c.min-seen.ensures in
    decoder_decides_after_step c.args.self.now _ c.synced.new.self c.synced.result c.synced.ensures
    (λ more. reading_after_empty_run c.args.self.now.mode Synced c.args.self.now.one c.args.self.now.run
    (low_bits c.args.self.now.len c.args.self.now.bits ++ more)
    (low_bits c.args.self.now.len c.args.self.now.bits ++ more) c.requires.run
    (decoder_no_switch_item c.args.self.now.mode c.args.self.now.one c.args.self.now.len c.args.self.now.bits
    c.min-seen.result c.requires.mode (omega arith) (omega arith) c.if-self-mask.true more))
    refl refl

pub invariant_of-self-then-self-lt-SWITCH_BITS : goal.invariant_of-self-then-self-lt-SWITCH_BITS
invariant_of-self-then-self-lt-SWITCH_BITS c =
    let seen : c.min-seen.result ≡ c.args.self.now.len = c.min-seen.ensures ∙ omega arith in
    record {
      holds = decoder_holds_switch_prefix c.args.self.now.mode c.args.self.now.one c.args.self.now.run
          c.args.self.now.len c.args.self.now.bits c.args.self.now.next c.args.self.now.fed
          c.args.self.now.holds c.requires.run c.requires.mode c.requires.some c.if-self-lt-SWITCH_BITS.true
          (subst (λ n. bit_and c.args.self.now.bits (decoder_mask n) ≡ bit_and 59294 (decoder_mask n)) seen
          c.if-self-mask.false);
    }

pub returns-then-self-lt-SWITCH_BITS : goal.returns-then-self-lt-SWITCH_BITS
returns-then-self-lt-SWITCH_BITS c =
    let seen : c.min-seen.result ≡ c.args.self.now.len = c.min-seen.ensures ∙ omega arith in
    record {
      law = λ more. refl;
      open_end = record {
        ran = λ p. let none : c.args.self.now.run ≡ 0 = c.requires.run in absurd (omega arith);
        held = λ e p. decoder_switch_open_end c.args.self.now.mode c.args.self.now.len c.args.self.now.bits
            c.requires.mode c.if-self-lt-SWITCH_BITS.true
            (subst (λ n. bit_and c.args.self.now.bits (decoder_mask n) ≡ bit_and 59294 (decoder_mask n)) seen
            c.if-self-mask.false);
      };
      settled = omega arith;
      places = omega arith;
      fed = refl;
    }

pub invariant_of-self-2 : goal.invariant_of-self-2
invariant_of-self-2 c = record {
  holds = decoder_holds_fewer_bits c.args.self.now.mode AfterSwitch c.args.self.now.one c.args.self.now.run
      c.args.self.now.len c.args.self.now.bits c.args.self.now.next c.args.self.now.fed
      16 c.args.self.now.holds c.requires.run c.if-self-lt-SWITCH_BITS.false;
}

pub returns : goal.returns
returns c =
    let seen : c.min-seen.result ≡ 16 = c.min-seen.ensures ∙ omega arith in
    let long : 16 ≤ c.args.self.now.len = c.if-self-lt-SWITCH_BITS.false in
    record {
      law = λ more.
          item_after_empty_run c.args.self.now.mode AfterSwitch c.args.self.now.one c.args.self.now.run Switch
          (low_bits c.args.self.now.len c.args.self.now.bits ++ more)
          (low_bits (c.args.self.now.len - 16) (c.args.self.now.bits / 2 ^ 16) ++ more) c.requires.run
          (decoder_switch_item c.args.self.now.mode c.args.self.now.len c.args.self.now.bits c.requires.mode long
          (subst (λ n. bit_and c.args.self.now.bits (decoder_mask n) ≡ bit_and 59294 (decoder_mask n)) seen
          c.if-self-mask.false) more);
      fewer = omega arith;
      fed = refl;
    }

use Rattle.std.proofs.Common.{◌≡◌, ◌++◌, ◌<◌, ◌%◌, ◌^◌, List, Bool, length, ap, ◌∙◌, sym, subst, arith, lit<, bit_and}
use Rattle.std.proofs.lemmas.List.{append-nil}
use Rattle.swd_bits.specs.Bits.{low_bits}
use Rattle.swd_bits.proofs.BitsLemmas.{length-low_bits}
use Rattle.swd_trace.specs.Reading.{switch_item, trace_begins_with}
use Rattle.swd_trace.proofs.NumberLemmas.{decoder_bits_mod, decoder_bits_masked}
use Rattle.swd_trace.proofs.DecidedLemmas.{switch_item_needs_16_bits}
use Rattle.swd_trace.proofs.SwitchLemmas.{switch_item_excluded, switch_item_number, decoder_mask}
use Rattle.swd_resync.proofs.moves.sees_switch.Goals as goal

pub returns-then-window-mask : goal.returns-then-window-mask
returns-then-window-mask c = λ rest may.
    switch_item_excluded c.args.window.len c.args.window.bits c.min-seen.result (omega arith) (omega arith)
    c.if-window-mask.true rest

pub returns-then-window-ge-SWITCH_BITS : goal.returns-then-window-ge-SWITCH_BITS
returns-then-window-ge-SWITCH_BITS c =
    let bits = c.args.window.bits in
    let seen : c.min-seen.result ≡ 16 = c.min-seen.ensures ∙ omega (arith, c.if-window-ge-SWITCH_BITS.true) in
    let same : bit_and bits (decoder_mask 16) ≡ bit_and 59294 (decoder_mask 16) =
    subst (λ n. bit_and bits (decoder_mask n) ≡ bit_and 59294 (decoder_mask n)) seen c.if-window-mask.false in
    let low : bits % 2 ^ 16 ≡ 59294 % 2 ^ 16 =
    sym (decoder_bits_masked 16 bits (lit< tt)) ∙ same ∙ decoder_bits_masked 16 59294 (lit< tt) in (
      c.if-window-ge-SWITCH_BITS.true,
      sym (decoder_bits_mod 16 bits) ∙ ap (low_bits 16) low ∙ decoder_bits_mod 16 59294 ∙ switch_item_number,
    )

pub returns-then-ended : goal.returns-then-ended
returns-then-ended c = λ rest may.
    let few : c.args.window.len < 16 = c.if-window-ge-SWITCH_BITS.false in
    let bits : List Bool = low_bits c.args.window.len c.args.window.bits in
    let l : length bits ≡ c.args.window.len = length-low_bits c.args.window.len c.args.window.bits in
    ap (trace_begins_with switch_item) (ap (λ x. bits ++ x) (may few c.if-ended.true) ∙ append-nil bits)
    ∙ switch_item_needs_16_bits bits (omega arith)

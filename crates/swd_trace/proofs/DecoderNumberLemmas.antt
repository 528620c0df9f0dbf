-- A decoder is read back from its numbers, but for what is found again.
use Rattle.std.proofs.Common.{◌≡◌, ◌==◌, Bool, true, false, List, refl, ap, sym, ◌∙◌, subst}
use Rattle.swd_bits.specs.Bits.{bit}
use Rattle.swd_trace.specs.declared.decoder.Decoder.{Decoder}
use Rattle.swd_trace.specs.declared.decoder.fields.DecoderFields.{DecoderFields}
use Rattle.swd_trace.specs.declared.mode.Mode.{Mode}
use Rattle.swd_trace.specs.declared.mode.Mode.TheVariants.{Synced, AfterReset, AfterSwitch, Lost}
use Rattle.swd_trace.specs.DecoderNumbers.{decoder_fields, rest_in}
use Rattle.swd_trace.specs.Holding.{DecoderHolds}
use Rattle.swd_trace.specs.Held.{decoder_rest}
use Rattle.swd_trace.specs.Modes.{decoder_mode_at, decoder_mode_number}

mode_back : (mode : Mode) → decoder_mode_at (decoder_mode_number mode) ≡ mode
mode_back Synced = refl
mode_back AfterReset = refl
mode_back AfterSwitch = refl
mode_back Lost = refl

flag_back : (b : Bool) → (bit b == 1) ≡ b
flag_back true = refl
flag_back false = refl

-- the numbers of a decoder are what its parts always are
pub decoder_holds_as_numbers : (d : Decoder) (fields : DecoderFields) → decoder_fields d ≡ fields →
    DecoderHolds (decoder_mode_at fields.mode) (fields.one == 1) fields.run fields.len fields.bits d.next fields.fed
decoder_holds_as_numbers d fields has =
    let plain : DecoderHolds (decoder_mode_at (decoder_mode_number d.mode)) (bit d.one == 1) d.run d.len d.bits d.next
    d.fed =
    rw (mode_back d.mode, flag_back d.one) d.holds in
    subst (λ (f : DecoderFields). DecoderHolds (decoder_mode_at f.mode) (f.one == 1) f.run f.len f.bits d.next f.fed)
    has plain

-- the reading of what is held goes by the numbers
pub decoder_rest_as_numbers : (d : Decoder) (fields : DecoderFields) → decoder_fields d ≡ fields → (more : List Bool) →
    decoder_rest d more ≡ rest_in fields more
unfolding rest_in
decoder_rest_as_numbers d fields has more =
    let plain : decoder_rest d more ≡ rest_in (decoder_fields d) more =
    sym (rw (mode_back d.mode, flag_back d.one) refl) in
    plain ∙ ap (λ f. rest_in f more) has

-- Laws of a trace text whose bits are given to a sink.
use Rattle.std.proofs.Common.{◌≡◌, ℕ, ◌+◌, ◌-◌, ◌^◌, min, List, Bool, [], ◌∷◌, ◌++◌, length, take, refl, sym, ap, subst}
use Rattle.std.proofs.Common.{◌∙◌, append_assoc, Result, Ok, Err, arith}
use Rattle.std.specs.Prelude.{OnOk, IfErr}
use Rattle.std.proofs.lemmas.List.{take_at, length-append}
use Rattle.swd_bits.specs.TraceText.{scan_bits_of_text}
use Rattle.swd_bits.proofs.ScanLemmas.{scan_bits_no_byte, scan_bits_read_all}
use Rattle.swd_text.specs.Readers.{IsFreshTextReader}
use Rattle.swd_text.specs.Sinks.{TextHasFed, TextStopsAt}
use Rattle.swd_text.specs.TextBits.{TextHasBits, TextStopsWith}
use Rattle.swd_text.specs.declared.fault.TextFault.{TextFault}
use Rattle.swd_text.specs.declared.fault.TextFault.TheVariants.{BadChar, TooLong}
use Rattle.swd_text.specs.declared.reader.TextReader.{TextReader}

-- what follows from what holds of an `Ok`
pub text_result_ok : {A E P Q : Type 0} (r : Result A E) → (P → Q) → OnOk r P → OnOk r Q
text_result_ok (Ok x) f p = f p
text_result_ok (Err e) f p = tt

-- the same of an `Err`
pub text_result_err : {A E : Type 0} {P Q : E → Type 0} (r : Result A E) → ((e : E) → P e → Q e) → IfErr r P
    → IfErr r Q
text_result_err (Ok x) f p = tt
text_result_err (Err e) f p = f e p

-- a fact of a sink and what it writes to, where both are the same
pub sink_unmoved : {S W : Type 0} (P : S × W → Type 0) (s t : S) (v w : W) → t ≡ s → w ≡ v → P (s, v) → P (t, w)
sink_unmoved P s t v w e f h = subst (λ x. P (x, w)) (sym e) (subst (λ x. P (s, x)) (sym f) h)

-- the bits of the first bytes
before : (seen more : List ℕ) (bits : List Bool) → TextHasBits seen bits
    → TextHasBits (take (length seen) (seen ++ more)) bits
before seen more bits h = record {
  has = ap scan_bits_of_text (take_at seen more (length seen) refl) ∙ h.has;
  counted = h.counted;
}

-- a byte at which the text can't go on, in the whole text
pub text_stops_with : (fault : TextFault) (seen more : List ℕ) (byte : ℕ) (bits : List Bool)
    → TextStopsAt fault (min (length seen) (2 ^ 64 - 1)) seen byte → TextHasBits seen bits
    → TextStopsWith fault bits (seen ++ byte ∷ more)
text_stops_with (BadChar told) seen more byte bits s h = record {
  place = length seen;
  tells = s.0;
  bad = s.1 more;
  before = before seen (byte ∷ more) bits h;
}
text_stops_with TooLong seen more byte bits s h =
    let n : length (seen ++ byte ∷ []) ≡ length seen + 1 = length-append seen (byte ∷ []) in
    let front : take (length seen + 1) (seen ++ byte ∷ more) ≡ seen ++ byte ∷ [] =
    ap (take (length seen + 1)) (sym (append_assoc seen (byte ∷ []) more))
    ∙ take_at (seen ++ byte ∷ []) more (length seen + 1) n in
    record {
      place = length seen;
      all = s.bits;
      has = ap scan_bits_of_text front ∙ scan_bits_read_all (seen ++ byte ∷ []) s.bits s.comment s.reads;
      long = s.long;
      before = before seen (byte ∷ more) bits h;
    }

-- a reader before its first byte, whose sink was given no bits
pub text_reader_begins : {S W : Type 0} (led : S × W → List Bool → S × W → Type 0) (fed : S → ℕ) (sink : S)
    (reader : TextReader S) (writer : W) → ((a : S × W) → led a [] a) → IsFreshTextReader sink reader → fed sink ≡ 0
    → TextHasFed led fed (sink, writer) (reader, writer) []
text_reader_begins led fed sink reader writer nowhere fresh count =
    let place = fresh.place in
    record {
      feeds = record {
        bits = [];
        reads = scan_bits_no_byte reader.scan fresh.outside;
        goes = subst (λ s. led (sink, writer) [] (s, writer)) (sym fresh.is) (nowhere (sink, writer));
        count = ap fed fresh.is ∙ count;
        counted = omega arith;
      };
      place = omega arith;
    }

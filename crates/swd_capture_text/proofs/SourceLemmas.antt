-- Laws of a decoder of either reading.
use Rattle.std.proofs.Common.{◌≡◌, ◌<◌, Bool, List, [], ◌∷◌, ◌++◌, map, refl, sym, ap, ◌∙◌}
use Rattle.std.specs.Prelude.{Option, None, Some, IfSome, IfNone}
use Rattle.std.proofs.lemmas.List.{append-nil, map-append}
use Rattle.swd_trace.specs.declared.item.Item.{Item}
use Rattle.swd_trace.specs.declared.mode.Mode.TheVariants.{Synced}
use Rattle.swd_trace.specs.Reading.{reading_of}
use Rattle.swd_trace.specs.declared.decoder.Decoder.{Decoder}
use Rattle.swd_trace.specs.Held as trace
use Rattle.swd_trace.proofs.DecidedLemmas.{decided_items_are_longest}
use Rattle.swd_trace.proofs.ReadingLemmas.{no_bits_decide_no_item}
use Rattle.swd_resync.specs.declared.decoder.CaptureDecoder.{CaptureDecoder}
use Rattle.swd_resync.specs.declared.part.Part.{Part}
use Rattle.swd_resync.specs.declared.part.Part.TheVariants.{Item as Told}
use Rattle.swd_resync.specs.AsItems.{resync_items}
use Rattle.swd_resync.specs.Parts.{resync_parts_of}
use Rattle.swd_resync.specs.Decoding as capture
use Rattle.swd_capture_text.specs.declared.reading.Reading.{Reading}
use Rattle.swd_capture_text.specs.declared.reading.Reading.TheVariants.{Trace, Capture}
use Rattle.swd_capture_text.specs.declared.source.Source.{Source}
use Rattle.swd_capture_text.specs.declared.source.Source.TheVariants.{Trace as OfTrace, Capture as OfCapture}
use Rattle.swd_capture_text.specs.Readings.{SourceDecides}
use Rattle.swd_capture_text.specs.Sources.{SourceEndsAt, SourceHas}

-- what a source has, it has where the bits end, too
pub source_ends_at : (reading : Reading) (source : Source) (bits : List Bool) (parts : List Part)
    → SourceHas reading source bits parts → SourceEndsAt reading source bits parts
source_ends_at Trace (OfTrace d) bits parts h =
    ap (λ p. p ++ map Told (trace.decoder_rest d [])) h.1 ∙ sym (map-append Told h.0 (trace.decoder_rest d []))
    ∙ ap (map Told) (h.2 []) ∙ ap (λ b. map Told (reading_of b)) (append-nil bits)
source_ends_at Trace (OfCapture d) bits parts h = absurd h
source_ends_at (Capture over) (OfTrace d) bits parts h = absurd h
source_ends_at (Capture over) (OfCapture d) bits parts h = h [] ∙ ap (resync_parts_of over) (append-nil bits)

-- more items are given
pub source_gives_items : (reading : Reading) (old new : Decoder) (bits : List Bool) (parts : List Part)
    (more : List Item)
    → ((items : List Item) → trace.DecoderHasRead old bits items → trace.DecoderHasRead new bits (items ++ more))
    → SourceHas reading (OfTrace old) bits parts → SourceHas reading (OfTrace new) bits (parts ++ map Told more)
source_gives_items Trace old new bits parts more f h =
    (h.0 ++ more, ap (λ p. p ++ map Told more) h.1 ∙ sym (map-append Told h.0 more), f h.0 h.2)
source_gives_items (Capture over) old new bits parts more f h = absurd h

-- what follows from a fact of a Some
pub source_if_some : {A : Type 0} {P Q : A → Type 0} (r : Option A) → ((a : A) → P a → Q a) → IfSome r P → IfSome r Q
source_if_some (Some x) f p = f x p
source_if_some None f p = tt

-- no part is due behind these bits: so these are the parts that they decide
pub source_capture_settled : (old new : CaptureDecoder)
    → ((over : Bool) (bits : List Bool) (parts : List Part) → capture.ResyncHasRead over old bits parts
    → capture.ResyncHasRead over new bits parts) → capture.resync_held_len new < 142
    → (reading : Reading) (bits : List Bool) (parts : List Part) → SourceHas reading (OfCapture old) bits parts
    → SourceHas reading (OfCapture new) bits parts × SourceDecides reading bits parts
source_capture_settled old new same few Trace bits parts h = absurd h
source_capture_settled old new same few (Capture over) bits parts h =
    (same over bits parts h, (new, same over bits parts h, few))

-- a transaction is taken and the part before it returned: these are the parts that the bits decide
pub source_capture_follows : (old new : CaptureDecoder) (next : List Bool) (part : Part)
    → ((over : Bool) (bits : List Bool) (parts : List Part) → capture.ResyncHasRead over old bits parts
    → capture.ResyncHasRead over new (bits ++ next) (parts ++ part ∷ [])) → capture.resync_held_len new < 142
    → (reading : Reading) (bits : List Bool) (parts : List Part) → SourceHas reading (OfCapture old) bits parts
    → SourceHas reading (OfCapture new) (bits ++ next) (parts ++ part ∷ [])
    × SourceDecides reading (bits ++ next) (parts ++ part ∷ [])
source_capture_follows old new next part reads few Trace bits parts h = absurd h
source_capture_follows old new next part reads few (Capture over) bits parts h =
    (reads over bits parts h, (new, reads over bits parts h, few))

-- what follows from two facts of a Some
pub source_on_some : {A : Type 0} {P Q R : A → Type 0} (r : Option A) → ((a : A) → P a → Q a → R a) → IfSome r P
    → IfSome r Q → IfSome r R
source_on_some (Some x) f p q = f x p q
source_on_some None f p q = tt

-- what follows from two facts of a None
pub source_on_none : {A P Q R : Type 0} (r : Option A) → (P → Q → R) → IfNone r P → IfNone r Q → IfNone r R
source_on_none (Some x) f p q = tt
source_on_none None f p q = f p q

-- nothing at all decides nothing
pub source_decides_nothing : SourceDecides Trace [] []
source_decides_nothing = (
  [],
  refl,
  decided_items_are_longest [] (λ more. reading_of more) (λ more. reading_of more) (λ more. refl)
      (no_bits_decide_no_item Synced),
)

-- as the items of a trace, the items of a trace are themselves
pub source_items_of_trace : (items : List Item) → resync_items (map Told items) ≡ items
source_items_of_trace [] = refl
source_items_of_trace (item ∷ items) = ap (λ x. item ∷ x) (source_items_of_trace items)

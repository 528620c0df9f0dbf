-- What a check of a capture took: all items that are due.
use Rattle.std.proofs.Common.{◌≡◌, ◌+◌, ◌-◌, ◌^◌, ◌∙◌, ℕ, min, Bool, List, [], ◌∷◌, ◌++◌, length, map, sym, ap}
use Rattle.std.proofs.Common.{subst, arith}
use Rattle.std.specs.Prelude.{Option, None, Err}
use Rattle.std.proofs.lemmas.List.{length-append, map-append}
use Rattle.swd_trace.specs.declared.item.Item.{Item}
use Rattle.swd_trace.specs.declared.item.Item.TheVariants.{Junk}
use Rattle.swd_trace.specs.Texts.{bits_of_items}
use Rattle.swd_trace.proofs.SizeLemmas.{item_bits_append}
use Rattle.swd_resync.specs.declared.part.Part.{Part}
use Rattle.swd_resync.specs.declared.part.Part.TheVariants.{Item as Told}
use Rattle.swd_resync.specs.AsItems.{resync_items, resync_part_items}
use Rattle.swd_resync.specs.Divisions.{PartsDivide}
use Rattle.swd_resync.proofs.ItemLemmas.{resync_items_part_more, resync_parts_items_length}
use Rattle.swd_resync.proofs.PartLemmas.{resync_parts_divide}
use Rattle.swd_text.specs.Sinks.{LeadsSinkOn, sink_leads_join}
use Rattle.swd_text.specs.declared.fault.DecodeFault.{DecodeFault}
use Rattle.swd_text.specs.declared.fault.DecodeFault.TheVariants.{Text, Read, Write}
use Rattle.swd_capture.specs.declared.held_back.DueParts.{DueParts}
use Rattle.swd_capture.specs.Gaps.{IsCaptureDue, IsHeldBack, capture_due_at, capture_due_items, capture_due_of}
use Rattle.swd_capture.specs.Gaps.{capture_due_of_run, capture_items_of_due, capture_run_after, capture_run_items}
use Rattle.swd_capture.specs.Gaps.{capture_waiting}
use Rattle.swd_capture.specs.Printing.{capture_junk_parts}
use Rattle.swd_capture.proofs.HeldLemmas.{capture_due_exact, capture_due_within, capture_waits_within}
use Rattle.swd_capture.proofs.TellerLemmas.{capture_due_items_more, capture_waiting_more}
use Rattle.swd_capture_text.specs.declared.reading.Reading.{Reading}
use Rattle.swd_capture_text.specs.declared.reading.Reading.TheVariants.{Capture}
use Rattle.swd_capture_text.specs.Captures.{CaptureTextReadsAs}
use Rattle.swd_capture_text.specs.PartSinks.{PartsGoTo}
use Rattle.swd_check.specs.declared.check.Check.{Check}
use Rattle.swd_check.specs.declared.checked.Checked.{Checked}
use Rattle.swd_check.specs.declared.text.CapturedParts.{CapturedParts}
use Rattle.swd_check.specs.Checks.{AreFewParts, CheckHasHeld, ChecksText, check_capture_items, check_never_stops}
use Rattle.swd_check.specs.Watched.{CheckHolds, CheckTakes}

bits_more : (seen : List Part) (part : Part) → length (bits_of_items (resync_items (seen ++ part ∷ [])))
    ≡ length (bits_of_items (resync_items seen)) + length (bits_of_items (resync_part_items part))
bits_more seen part =
    ap (λ l. length (bits_of_items l)) (resync_items_part_more seen part)
    ∙ ap length (item_bits_append (resync_items seen) (resync_part_items part))
    ∙ length-append (bits_of_items (resync_items seen)) (bits_of_items (resync_part_items part))

-- one part more, of which this is due
pub check_held_more : {A : Type 0} (before : Check A) (seen : List Part) (part : Part) (old new : CapturedParts A)
    (due : DueParts) → new.checked.parts ≡ min (old.checked.parts + 1) (2 ^ 64 - 1)
    → IsHeldBack (capture_run_after (capture_waiting seen) part) new.held
    → IsCaptureDue (capture_due_of (capture_waiting seen) part) due
    → CheckTakes (capture_items_of_due due) old.checked.check new.checked.check → CheckHasHeld before (old, tt) seen
    → CheckHasHeld before (new, tt) (seen ++ part ∷ [])
check_held_more before seen part old new due counted waits is taken h =
    let size : length (seen ++ part ∷ []) ≡ length seen + 1 = length-append seen (part ∷ []) in
    let bits = bits_more seen part in
    let within = capture_due_within seen part in
    let count = h.count in record {
      count = omega (arith, count, size, counted);
      held = subst (λ r. IsHeldBack r new.held) (sym (capture_waiting_more seen part)) waits;
      takes = λ few. subst (λ l. CheckTakes l before new.checked.check) (sym (capture_due_items_more seen part))
          (sink_leads_join CheckHolds before old.checked.check new.checked.check (capture_due_items seen)
          (capture_due_at (capture_waiting seen) part) (h.takes (omega (arith, few, bits)))
          (subst (λ l. CheckTakes l old.checked.check new.checked.check)
          (capture_due_exact (capture_due_of (capture_waiting seen) part) due is (omega (arith, few, bits, within)))
          taken));
    }

-- and what waits at the end
pub check_held_last : {A : Type 0} (before now : Check A) (seen : List Part) (old : CapturedParts A) (due : DueParts)
    → IsCaptureDue (capture_due_of_run (capture_waiting seen) None) due
    → CheckTakes (capture_items_of_due due) old.checked.check now → CheckHasHeld before (old, tt) seen
    → AreFewParts seen → CheckTakes (check_capture_items seen) before now
check_held_last before now seen old due is taken h few =
    let within = capture_waits_within seen in
    sink_leads_join CheckHolds before old.checked.check now (capture_due_items seen)
    (capture_run_items (capture_waiting seen)) (h.takes few)
    (subst (λ l. CheckTakes l old.checked.check now)
    (capture_due_exact (capture_due_of_run (capture_waiting seen) None) due is (omega (arith, few, within))) taken)

-- junk bits are parts of a capture too
pub check_held_junk : {A : Type 0} (start old new : CapturedParts A) (b : Bool)
    → LeadsSinkOn CheckHasHeld (old, tt) (Told (Junk b) ∷ []) (new, tt)
    → (done : List Bool) → LeadsSinkOn CheckHasHeld (start, tt) (capture_junk_parts done) (old, tt)
    → LeadsSinkOn CheckHasHeld (start, tt) (capture_junk_parts (done ++ b ∷ [])) (new, tt)
check_held_junk start old new b next done led =
    let same : capture_junk_parts (done ++ b ∷ []) ≡ capture_junk_parts done ++ Told (Junk b) ∷ [] =
    ap (map Told) (map-append Junk done (b ∷ [])) ∙ map-append Told (map Junk done) (Junk b ∷ []) in
    subst (λ l. LeadsSinkOn CheckHasHeld (start, tt) l (new, tt)) (sym same)
    (sink_leads_join CheckHasHeld (start, tt) (old, tt) (new, tt) (capture_junk_parts done) (Told (Junk b) ∷ [])
    led next)

-- the parts of a text have fewer than 2^64 bits
pub check_parts_few : (over : Bool) (read : List ℕ) (parts : List Part)
    → CaptureTextReadsAs (Capture over) read parts → AreFewParts parts
check_parts_few over read parts h =
    let size = resync_parts_items_length parts h.0
    (subst (λ p. PartsDivide p h.0) (sym h.2) (resync_parts_divide _ _ h.0)) in
    let few = h.1.counted in
    omega (arith, size, few)

-- no verdict at an error
pub check_reading_fails : {K : Type 0} (led : K × Unit {0} → List Part → K × Unit {0} → Type 0) (reading : Reading)
    (Says : List Item → Checked → Type 0) (fault : DecodeFault) (text left : Option (List ℕ)) (before : K × Unit {0})
    → PartsGoTo led check_never_stops reading (Err fault) text left before tt
    → ChecksText reading Says (Err fault) text left
check_reading_fails led reading Says (Text fault) text left before r = (r.0, r.1, r.3, r.4)
check_reading_fails led reading Says Read text left before r = (r.0, r.1, r.3, r.4)
check_reading_fails led reading Says (Write told) text left before r = r.5.2

use Rattle.std.proofs.Common.{◌≡◌, ◌<◌, ◌++◌, ℕ, [], length, replicate, false, refl, sym, ap, ◌∙◌, subst, arith}
use Rattle.std.proofs.Common.{append_assoc}
use Rattle.std.proofs.lemmas.List.{append-nil}
use Rattle.swd_bits.specs.BitLists.{tx_bits_of}
use Rattle.swd_bits.proofs.BitsLemmas.{length-low_bits}
use Rattle.swd_trace.specs.declared.item.Item.TheVariants.{Junk}
use Rattle.swd_observer.specs.Traces.{trace_observer_after, trace_observer_from}
use Rattle.swd_capture.specs.Accesses.{observer_text_of_items}
use Rattle.swd_capture.specs.declared.printed.Printed.TheVariants.{Lines}
use Rattle.swd_capture.specs.declared.teller.Telling.TheVariants.{Accesses as ToldAccesses}
use Rattle.swd_capture.specs.Printing.{capture_junk_parts, capture_printed_parts}
use Rattle.swd_trace.proofs.NumberLemmas.{decoder_bits_none}
use Rattle.swd_capture.specs.Gaps.{IsHeldBack, capture_run_items, capture_run_none, capture_waiting, capture_due_items}
use Rattle.swd_capture.specs.Tellers.{CaptureTellingAfter, IsCaptureTellerAfter, IsCaptureWatching}
use Rattle.swd_capture.proofs.TellerLemmas.{capture_accesses_at_junk, capture_observer_at_junk}
use Rattle.swd_capture.proofs.TellerLemmas.{capture_waiting_at_junk}
use Rattle.swd_capture.proofs.teller.Teller.tell_junk.Goals as goal

-- no junk bits are no parts
no_bits : (len bits : ℕ) → len ≡ 0 → tx_bits_of (record { len = len; bits = bits }) ≡ []
no_bits len bits e = decoder_bits_none len bits e

pub returns-in-Lines-clause-after : goal.returns-in-Lines-clause-after
returns-in-Lines-clause-after g c = λ printed parts h.
    let keeps = subst (CaptureTellingAfter printed parts) c.in-Lines.is h.keeps in
    record { keeps = (keeps.0 ∙ ap Lines (sym c.tell_junk.ensures.form), c.tell_junk.ensures.after parts keeps.1) }

pub returns-in-Lines-clause-bytes : goal.returns-in-Lines-clause-bytes
returns-in-Lines-clause-bytes g c = λ printed parts h.
    let keeps = subst (CaptureTellingAfter printed parts) c.in-Lines.is h.keeps in
    let told = c.tell_junk.ensures.bytes parts keeps.1 in (
      told.0,
      told.1,
      subst (λ p. capture_printed_parts p (parts ++ capture_junk_parts (tx_bits_of c.args.junk))
          ≡ capture_printed_parts p parts ++ told.0) (sym keeps.0) told.2,
    )

pub returns-then-junk-gt0-clause-after : goal.returns-then-junk-gt0-clause-after
returns-then-junk-gt0-clause-after g c = λ printed parts h.
    let bits = tx_bits_of c.args.junk in
    let keeps = subst (CaptureTellingAfter printed parts) c.in-Accesses.is h.keeps in
    let flushed = c.flush.ensures.shows (capture_waiting parts) keeps.3 in
    let len : length bits ≡ c.from.result = length-low_bits c.args.junk.len c.args.junk.bits ∙ sym c.from.ensures in
    let some : 0 < c.from.result = omega (arith, c.if-junk-gt0.true, c.from.ensures) in
    record {
      keeps = (
        keeps.0,
        keeps.1,
        c.lose.ensures.observer
            ∙ ap (trace_observer_after (replicate c.from.result (Junk false)))
            (flushed.observer ∙ ap (trace_observer_after (capture_run_items (capture_waiting parts))) keeps.2)
            ∙ sym (capture_observer_at_junk keeps.0 parts bits c.from.result len some),
        subst (λ r. IsCaptureWatching r c.lose.new.self) (sym (capture_waiting_at_junk parts bits (omega arith)))
            (subst (IsHeldBack capture_run_none) (sym c.lose.ensures.held) flushed.keeps),
      );
    }

pub returns-then-junk-gt0-clause-bytes : goal.returns-then-junk-gt0-clause-bytes
returns-then-junk-gt0-clause-bytes g c = λ printed parts h.
    let bits = tx_bits_of c.args.junk in
    let keeps = subst (CaptureTellingAfter printed parts) c.in-Accesses.is h.keeps in
    let flushed = c.flush.ensures.shows (capture_waiting parts) keeps.3 in
    let len : length bits ≡ c.from.result = length-low_bits c.args.junk.len c.args.junk.bits ∙ sym c.from.ensures in
    let some : 0 < c.from.result = omega (arith, c.if-junk-gt0.true, c.from.ensures) in
    let waits = capture_run_items (capture_waiting parts) in
    let before = trace_observer_after (capture_due_items parts) (trace_observer_from keeps.0) in
    let first = observer_text_of_items waits before in
    let second = observer_text_of_items (replicate c.from.result (Junk false)) (trace_observer_after waits before) in (
      first ++ second,
      c.lose.ensures.bytes
          ∙ ap (λ o. c.flush.new.text.bytes ++ observer_text_of_items (replicate c.from.result (Junk false)) o)
          (flushed.observer ∙ ap (trace_observer_after waits) keeps.2)
          ∙ ap (λ x. x ++ second) (flushed.bytes
          ∙ ap (λ o. c.args.text.now.bytes ++ observer_text_of_items waits o) keeps.2)
          ∙ append_assoc c.args.text.now.bytes first second,
      subst (λ p. capture_printed_parts p (parts ++ capture_junk_parts bits) ≡ capture_printed_parts p parts
          ++ (first ++ second)) (sym keeps.1) (capture_accesses_at_junk keeps.0 parts bits c.from.result len some),
    )

pub returns-else-junk-gt0-clause-after : goal.returns-else-junk-gt0-clause-after
returns-else-junk-gt0-clause-after g c = λ printed parts h.
    subst (λ p. IsCaptureTellerAfter printed p (record { telling = ToldAccesses c.in-Accesses.watching }))
    (sym (ap (λ x. parts ++ capture_junk_parts x) (no_bits c.args.junk.len c.args.junk.bits
    (omega (arith, c.if-junk-gt0.false))) ∙ append-nil parts))
    (record { keeps = subst (CaptureTellingAfter printed parts) c.in-Accesses.is h.keeps })

pub returns-else-junk-gt0-clause-bytes : goal.returns-else-junk-gt0-clause-bytes
returns-else-junk-gt0-clause-bytes g c = λ printed parts h. (
  [],
  sym (append-nil c.args.text.now.bytes),
  ap (λ x. capture_printed_parts printed (parts ++ capture_junk_parts x)) (no_bits c.args.junk.len
      c.args.junk.bits (omega (arith, c.if-junk-gt0.false)))
      ∙ ap (capture_printed_parts printed) (append-nil parts)
      ∙ sym (append-nil (capture_printed_parts printed parts)),
)

pub returns-in-Counts-clause-after : goal.returns-in-Counts-clause-after
returns-in-Counts-clause-after g c = λ printed parts h.
    let bits = tx_bits_of c.args.junk in
    let keeps = subst (CaptureTellingAfter printed parts) c.in-Counts.is h.keeps in
    record {
      keeps = (keeps.0, c.add_junk.ensures parts bits (length-low_bits c.args.junk.len c.args.junk.bits) keeps.1);
    }

pub returns-in-Counts-clause-bytes : goal.returns-in-Counts-clause-bytes
returns-in-Counts-clause-bytes g c = λ printed parts h.
    let keeps = subst (CaptureTellingAfter printed parts) c.in-Counts.is h.keeps in (
      [],
      sym (append-nil c.args.text.now.bytes),
      subst (λ p. capture_printed_parts p (parts ++ capture_junk_parts (tx_bits_of c.args.junk))
          ≡ capture_printed_parts p parts ++ []) (sym keeps.0) refl,
    )

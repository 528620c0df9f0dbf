use Rattle.std.proofs.Common.{◌≡◌, ◌+◌, ◌++◌, ◌∙◌, length, sym, subst, arith, map}
use Rattle.std.proofs.lemmas.List.{length-append, length-map}
use Rattle.swd_bits.specs.BitLists.{tx_bits_of}
use Rattle.swd_bits.proofs.BitsLemmas.{length-low_bits}
use Rattle.swd_trace.specs.declared.item.Item.TheVariants.{Junk}
use Rattle.swd_resync.specs.declared.part.Part.TheVariants.{Item as Told}
use Rattle.swd_resync.specs.AsItems.{resync_items}
use Rattle.swd_capture.specs.Printing.{capture_junk_parts}
use Rattle.swd_text.specs.Sinks.{sink_leads_join}
use Rattle.swd_check.specs.Watched.{CheckHolds, CheckTakes}
use Rattle.swd_check.proofs.JunkLemmas.{check_junk_items}
use Rattle.swd_check.proofs.text.CheckedPartsPartSinkUnit.take_junk.Goals as goal

pub returns : goal.returns
returns g c = λ i seen h.
    let bits = tx_bits_of c.args.junk in
    let junk = capture_junk_parts bits in
    let count : length junk ≡ c.args.junk.len =
    length-map (map Junk bits) Told ∙ length-map bits Junk ∙ length-low_bits c.args.junk.len c.args.junk.bits in
    let size : length (seen ++ junk) ≡ length seen + length junk = length-append seen junk in
    let before = h.0 in (
      omega (arith, before, size, count, c.saturating_add-self.ensures),
      subst (λ l. CheckTakes l i c.watch_junk.new.check) (sym (check_junk_items seen bits))
          (sink_leads_join CheckHolds i c.args.self.now.check c.watch_junk.new.check (resync_items seen)
          (map Junk bits) h.1 c.watch_junk.ensures),
    )

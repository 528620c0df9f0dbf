use Rattle.std.proofs.Common.{◌≡◌, ◌+◌, ◌∷◌, [], ◌++◌, length, sym, subst, arith}
use Rattle.std.proofs.lemmas.List.{length-append}
use Rattle.swd_text.specs.Sinks.{sink_leads_join}
use Rattle.swd_resync.specs.AsItems.{resync_items, resync_part_items}
use Rattle.swd_resync.proofs.ItemLemmas.{resync_items_part_more}
use Rattle.swd_check.specs.Watched.{CheckHolds, CheckTakes}
use Rattle.swd_check.proofs.text.CheckedPartsPartSinkUnit.take_part.Goals as goal

pub returns : goal.returns
returns g c = λ i seen h.
    let size : length (seen ++ c.args.part.now ∷ []) ≡ length seen + 1 = length-append seen (c.args.part.now ∷ []) in
    let count = h.0 in (
      omega (arith, count, size, c.saturating_add-self.ensures),
      subst (λ l. CheckTakes l i c.watch_part.new.check) (sym (resync_items_part_more seen c.args.part.now))
          (sink_leads_join CheckHolds i c.args.self.now.check c.watch_part.new.check (resync_items seen)
          (resync_part_items c.args.part.now) h.1 c.watch_part.ensures),
    )

use Rattle.std.proofs.Common.{◌+◌, ◌-◌, ◌^◌, min, length, sym, ap, ◌∙◌}
use Rattle.swd_trace.specs.Texts.{bits_of_items}
use Rattle.swd_resync.specs.AsItems.{resync_part_items}
use Rattle.swd_capture.specs.Names.{capture_select_from}
use Rattle.swd_capture.proofs.TellerLemmas.{capture_place_more, capture_select_more}
use Rattle.swd_capture.proofs.teller.PartLines.tell.Goals as goal

pub returns-clause-after : goal.returns-clause-after
returns-clause-after g c = λ parts h.
    let part = c.args.part.now in
    record {
      place = c.place_behind_part-self.ensures
          ∙ ap (λ n. min (n + length (bits_of_items (resync_part_items part))) (2 ^ 64 - 1)) h.place
          ∙ sym (capture_place_more parts part);
      select = c.selected_behind-self.ensures ∙ ap (λ s. capture_select_from s (resync_part_items part)) h.select
          ∙ sym (capture_select_more parts part);
    }

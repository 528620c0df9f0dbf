use Rattle.std.proofs.Common.{◌+◌, ◌-◌, ◌^◌, min, length, ap, ◌∙◌}
use Rattle.std.specs.Prelude.{Some}
use Rattle.swd_trace.specs.Texts.{bits_of_items}
use Rattle.swd_resync.specs.declared.part.Part.TheVariants.{Skip}
use Rattle.swd_capture.specs.Gaps.{capture_held_items}
use Rattle.swd_capture.proofs.AccessLemmas.{capture_held_capped}
use Rattle.swd_capture.proofs.held_back.HeldBack.skip.Goals as goal

pub returns-clause-due : goal.returns-clause-due
returns-clause-due c = λ run h.
    let idle = c.args.self.now.idle in
    let n = c.args.count in
    record {
      held = c.due_alone.ensures.held;
      idle = c.due_alone.ensures.idle;
      part = c.due_alone.ensures.part ∙ ap (λ m. Some (Skip m))
          (c.saturating_add-all.ensures ∙ ap (λ m. min (m + n) (2 ^ 64 - 1)) c.held_len.ensures
          ∙ ap (λ p. min (min (length (bits_of_items (capture_held_items p idle))) (2 ^ 64 - 1) + n) (2 ^ 64 - 1))
          h.part
          ∙ capture_held_capped run.part run.idle idle n h.idle);
    }

use Rattle.std.proofs.Common.{◌≡◌, List, sym, subst}
use Rattle.std.specs.Prelude.{◌↔◌}
use Rattle.swd_trace.specs.declared.item.Item.{Item}
use Rattle.swd_trace.specs.Listed.{AreLegalItems}
use Rattle.swd_trace.specs.Reading.{reading_of}
use Rattle.swd_trace.specs.Texts.{bits_of_items}
use Rattle.swd_port.specs.declared.wire.Due.{Due}
use Rattle.swd_port.specs.declared.wire.Due.TheVariants.{Lost}
use Rattle.swd_port.specs.Stories.{port_due_by}
use Rattle.swd_recorder.specs.Chains.{Clear}
use Rattle.swd_recorder.specs.Steps.{RecordedEndsUnacknowledged}
use Rattle.swd_recorder.proofs.ChainLemmas.{recorded_chain_reads_back, recorded_chain_legal}
use Rattle.swd_recorder.proofs.StepLemmas.{recorded_ends_when_lost}
use Rattle.swd_recorder.proofs.recorder.Recorder.items.Goals as goal

pub returns-clause-legal : goal.returns-clause-legal
returns-clause-legal g c =
    let items = c.args.self.now.recording.items in
    subst AreLegalItems (sym c.as_slice.ensures.value) (recorded_chain_legal Clear items.list.items items.chained)

pub returns-clause-read : goal.returns-clause-read
returns-clause-read g c =
    let items = c.args.self.now.recording.items in
    subst (λ (l : List Item). reading_of (bits_of_items l) ≡ l) (sym c.as_slice.ensures.value)
    (recorded_chain_reads_back Clear items.list.items items.chained)

pub returns-clause-lost : goal.returns-clause-lost
returns-clause-lost g c = λ uncut.
    let recorder = c.args.self.now in
    let recording = recorder.recording in
    subst (λ (due : Due). RecordedEndsUnacknowledged c.as_slice.result.now ↔ (due ≡ Lost)) (sym recorder.tracked)
    (subst (λ (l : List Item). RecordedEndsUnacknowledged l ↔ (port_due_by recording.noted.calls ≡ Lost))
    (sym c.as_slice.ensures.value)
    (recorded_ends_when_lost (port_due_by recording.noted.calls) recording.items.list.items recording.items.chained
    (recording.placed uncut)))

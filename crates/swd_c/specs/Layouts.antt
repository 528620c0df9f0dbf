-- The structs that C programs use, as the lists of their fields. In a layout each field has a number of its own in all
-- of its bytes, so that whoever reads these bytes finds the field's place and its size.
use Rattle.std.specs.Prelude.{ℕ, ◌≡◌, ◌+◌, ◌*◌, zero, suc, List, [], ◌∷◌, ◌++◌}
use Rattle.swd_host.specs.declared.fields.EngineFields.{EngineFields}
use Rattle.swd_host.specs.declared.fields.JobFields.{JobFields}
use Rattle.swd_host.specs.declared.fields.OutcomeFields.{OutcomeFields}
use Rattle.swd_host.specs.declared.fields.StateFields.{StateFields}
use Rattle.swd_host.specs.declared.fields.TarFields.{TarFields}
use Rattle.swd_host.specs.declared.fields.TaskFields.{TaskFields}
use Rattle.swd_trace.specs.declared.decoder.fields.DecoderFields.{DecoderFields}
use Rattle.swd_clocked.specs.declared.fields.ClockedFields.{ClockedFields}
use Rattle.swd_clocked.specs.declared.fields.FrameFields.{FrameFields}
use Rattle.swd_clocked.specs.declared.fields.LineFields.{LineFields}
use Rattle.swd_target.specs.declared.fields.ContentFields.{ContentFields}
use Rattle.swd_target.specs.declared.fields.PendingFields.{PendingFields}
use Rattle.swd_target.specs.declared.fields.TargetFields.{TargetFields}
use Rattle.swd_steps.specs.declared.fields.RunFields.{RunFields}
use Rattle.swd_checker.specs.declared.checker.fields.CheckerFields.{CheckerFields}
use Rattle.swd_checker.specs.declared.fields.HeldFields.{HeldFields}
use Rattle.swd_checker.specs.declared.fields.IntervalFields.{IntervalFields}
use Rattle.swd_checker.specs.declared.fields.WorldFields.{WorldFields}
use Rattle.swd_c.specs.declared.check.SwdVerdict.{SwdVerdict}
use Rattle.swd_c.specs.declared.cue.SwdCue.{SwdCue}
use Rattle.swd_c.specs.declared.plan.SwdPlanned.{SwdPlanned}
use Rattle.swd_c.specs.declared.access.SwdAccess.{SwdAccess}
use Rattle.swd_c.specs.declared.item.SwdItem.{SwdItem}
use Rattle.swd_c.specs.declared.layout.SwdCheckLayout.{SwdCheckLayout}
use Rattle.swd_c.specs.declared.layout.SwdLayout.{SwdLayout}
use Rattle.swd_c.specs.declared.target.SwdTransfer.{SwdTransfer}

-- a field by its type, which has one, four or eight bytes, and its value
pub data CStructField : Type 0 where
  byte : ℕ → CStructField
  word : ℕ → CStructField
  double : ℕ → CStructField

-- the number of so many bytes that are all this one
abbrev pub c_struct_repeated_byte : ℕ → ℕ → ℕ
c_struct_repeated_byte zero number = 0
c_struct_repeated_byte (suc width) number = c_struct_repeated_byte width number * 256 + number

-- the field of this type with this number in all of its bytes
abbrev pub c_struct_filled_field : CStructField → ℕ → CStructField
c_struct_filled_field (byte value) number = byte (c_struct_repeated_byte 1 number)
c_struct_filled_field (word value) number = word (c_struct_repeated_byte 4 number)
c_struct_filled_field (double value) number = double (c_struct_repeated_byte 8 number)

-- fields of these types with the numbers from the first one on, one after the other
abbrev pub c_struct_numbered_fields : ℕ → List CStructField → List CStructField
c_struct_numbered_fields first [] = []
c_struct_numbered_fields first (field ∷ more) =
    c_struct_filled_field field first ∷ c_struct_numbered_fields (first + 1) more

-- each field has its own number in all of its bytes: the first one has this number, and each other one the next
abbrev pub CStructIsNumbered : ℕ → List CStructField → Type 0
CStructIsNumbered first fields = fields ≡ c_struct_numbered_fields first fields

-- THE FIELDS OF EACH STRUCT, IN THEIR ORDER
abbrev pub c_outcome_layout : OutcomeFields → List CStructField
c_outcome_layout outcome = word outcome.word ∷ byte outcome.kind ∷ []

abbrev pub c_job_layout : JobFields → List CStructField
c_job_layout job = byte job.kind ∷ byte job.place ∷ byte job.error ∷ byte job.damaged ∷ []

abbrev pub c_state_layout : StateFields → List CStructField
c_state_layout state = c_outcome_layout state.outcome
    ++ (c_job_layout state.job ++ (byte state.kind ∷ byte state.phase ∷ []))

abbrev pub c_task_layout : TaskFields → List CStructField
c_task_layout task = word task.addr ∷ word task.word ∷ byte task.kind ∷ []

abbrev pub c_tar_layout : TarFields → List CStructField
c_tar_layout tar = word tar.word ∷ byte tar.known ∷ []

abbrev pub c_engine_layout : EngineFields → List CStructField
c_engine_layout engine =
    double engine.requests ∷ (c_state_layout engine.state ++ (c_task_layout engine.task ++ (c_tar_layout engine.tar ++
    (word engine.tries ∷ word engine.events ∷ byte engine.aims ∷ byte engine.bursts ∷ byte engine.ahead ∷
    byte engine.begun ∷ byte engine.stray ∷ []))))

abbrev pub c_cue_layout : SwdCue → List CStructField
c_cue_layout cue =
    double cue.bits ∷ word cue.ones ∷ word cue.zeros ∷ word cue.undriven ∷ (c_outcome_layout cue.outcome ++
    (byte cue.kind ∷ byte cue.request ∷ byte cue.with_switch ∷ byte cue.begun ∷ []))

abbrev pub c_access_layout : SwdAccess → List CStructField
c_access_layout access = word access.addr ∷ word access.word ∷ byte access.write ∷ []

abbrev pub c_decoder_layout : DecoderFields → List CStructField
c_decoder_layout decoder =
    double decoder.fed ∷ double decoder.run ∷ double decoder.bits ∷ byte decoder.mode ∷ byte decoder.one ∷
    byte decoder.len ∷ []

abbrev pub c_item_layout : SwdItem → List CStructField
c_item_layout item =
    double item.count ∷ double item.bits ∷ word item.word ∷ byte item.kind ∷ byte item.request ∷ byte item.ack ∷
    byte item.parity_ok ∷ []

abbrev pub c_line_layout : LineFields → List CStructField
c_line_layout line = double line.bits ∷ byte line.kind ∷ byte line.register ∷ byte line.flips ∷ byte line.flip ∷ []

abbrev pub c_frame_layout : FrameFields → List CStructField
c_frame_layout frame =
    c_line_layout frame.line ++ (byte frame.kind ∷ byte frame.place ∷ byte frame.byte ∷ byte frame.reply ∷ [])

abbrev pub c_content_layout : ContentFields → List CStructField
c_content_layout content = word content.word ∷ byte content.known ∷ []

abbrev pub c_pending_layout : PendingFields → List CStructField
c_pending_layout pending = word pending.word ∷ byte pending.kind ∷ []

abbrev pub c_port_layout : TargetFields → List CStructField
c_port_layout port =
    c_content_layout port.tar ++ (c_content_layout port.buffer ++ (c_content_layout port.last_returned ++
    (c_pending_layout port.pending ++ (word port.filler ∷ byte port.wrap ∷ byte port.late ∷ byte port.reset ∷
    byte port.sticky_error ∷ byte port.write_error ∷ byte port.read_ok ∷ byte port.debug_power ∷
    byte port.system_power ∷ byte port.power_up ∷ byte port.apsel ∷ byte port.apbanksel ∷ byte port.dpbanksel ∷
    byte port.increments ∷ byte port.csw_upper ∷ []))))

abbrev pub c_target_layout : ClockedFields → List CStructField
c_target_layout target =
    double target.cycles ∷ (c_frame_layout target.frame ++ (c_port_layout target.target ++ (byte target.waits ∷ [])))

abbrev pub c_transfer_layout : SwdTransfer → List CStructField
c_transfer_layout transfer = word transfer.addr ∷ word transfer.word ∷ byte transfer.kind ∷ []

-- a run's fields behind those of its engine
abbrev pub c_run_layout : RunFields → List CStructField
c_run_layout run =
    c_engine_layout run.engine ++ (double run.requests ∷ (c_outcome_layout run.end ++
    (word run.answered ∷ byte run.begun ∷ byte run.stage ∷ [])))

abbrev pub c_planned_layout : SwdPlanned → List CStructField
c_planned_layout planned = word planned.word ∷ byte planned.request ∷ []

abbrev pub c_held_layout : HeldFields → List CStructField
c_held_layout held = double held.places ∷ word held.word ∷ byte held.kind ∷ []

abbrev pub c_interval_layout : IntervalFields → List CStructField
c_interval_layout tar = word tar.first ∷ byte tar.more ∷ byte tar.known ∷ []

abbrev pub c_world_layout : WorldFields → List CStructField
c_world_layout world =
    double world.faults ∷ (c_held_layout world.buffer ++ (c_held_layout world.last_returned ++
    (c_interval_layout world.tar ++ (byte world.reset ∷ byte world.sticky_error ∷ byte world.write_error ∷
    byte world.read_ok ∷ byte world.debug ∷ byte world.system ∷ byte world.mem_ap ∷ byte world.bank0 ∷
    byte world.increments ∷ byte world.pending ∷ byte world.awaits ∷ []))))

-- without its worlds
abbrev pub c_checker_layout : CheckerFields → List CStructField
c_checker_layout check = c_held_layout check.identification ++ (double check.began ∷ double check.faults_before ∷
    double check.gaps ∷ double check.broken ∷ double check.crowded ∷ word check.select ∷ byte check.count ∷
    byte check.overfull ∷ byte check.opening ∷ byte check.clean ∷ byte check.has_began ∷ byte check.in_gap ∷
    byte check.stray ∷ byte check.rule ∷ byte check.is_crowded ∷ [])

abbrev pub c_verdict_layout : SwdVerdict → List CStructField
c_verdict_layout verdict =
    double verdict.place ∷ double verdict.began ∷ double verdict.faults ∷ double verdict.gaps ∷ byte verdict.kind ∷
    byte verdict.rule ∷ byte verdict.has_began ∷ []

-- a world, a checker without its worlds, and a verdict
abbrev pub c_check_layout : SwdCheckLayout → List CStructField
c_check_layout layout =
    c_world_layout layout.world ++ (c_checker_layout layout.check ++ c_verdict_layout layout.verdict)

-- all structs of a layout
abbrev pub c_whole_layout : SwdLayout → List CStructField
c_whole_layout layout =
    c_engine_layout layout.engine ++ (c_cue_layout layout.cue ++ (c_access_layout layout.access ++
    (c_decoder_layout layout.decoder ++ (c_item_layout layout.item ++ (c_target_layout layout.target ++
    c_transfer_layout layout.transfer)))))

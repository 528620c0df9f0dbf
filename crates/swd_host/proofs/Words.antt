-- The words that these proofs speak of, of the host, the port and std, passed on from one place. Declares nothing.
pub use Rattle.std.proofs.Common.{◌%◌, ◌*◌, ◌++◌, ◌+◌, ◌-◌, ◌<◌, ◌==◌, ◌^◌, ◌∙◌, ◌∷◌, ◌≡◌, ◌≢◌, ◌≤◌, [], ap, arith}
pub use Rattle.std.proofs.Common.{Bool, false, get_or, inl, inr, length, length-append, List, refl, subst, suc, sym}
pub use Rattle.std.proofs.Common.{take, true, zero, ℕ}
pub use Rattle.std.specs.Prelude.{if◌then◌else◌, ◌&&◌, ◌||◌, ◌⊎◌, drop, is_some, max, nat_lt, None, not, Option}
pub use Rattle.std.specs.Prelude.{replicate, Some}
pub use Rattle.swd_bits.specs.Bits.{bit, low_bits}
pub use Rattle.swd_bits.specs.Phases.{data_phase_number, data_phase_word}
pub use Rattle.swd_bits.specs.declared.request.Request.{Request}
pub use Rattle.swd_host.specs.Addresses.{continues_burst}
pub use Rattle.swd_host.specs.Again.{Again, ResumePlacesBelow, LogHasRoomForResume, IsAfterResumeRepeats}
pub use Rattle.swd_host.specs.Again.{list_with_resume_repeats, resume_repeats_of}
pub use Rattle.swd_host.specs.Early.{ResumedOpeningAnywhere, clean, ResumedFlagsCleared, ResumedFlagsOwed}
pub use Rattle.swd_host.specs.Early.{ResumeComesFrom, early, ResumedOpening, ResumedBefore, ResumedDuring}
pub use Rattle.swd_host.specs.Early.{ResumedOpeningSawAck, ResumedOpeningTookData, ResumedOpeningReadWord}
pub use Rattle.swd_host.specs.Early.{ResumeGlimpsedFlags, gone, hurt, EngineIsInResumedOpening, ResumedOpeningIsOver}
pub use Rattle.swd_host.specs.Early.{ResumedMetBusError, over, ResumedAfterReset, EngineResumes, ResumedSelectSettled}
pub use Rattle.swd_host.specs.Early.{ResumeReadFlags, still, ResumedAbortWritten, ResumedAwake}
pub use Rattle.swd_host.specs.Engines.{engine_begun, engine_cue, engine_outcome_at, engine_outcome, engine_is_ahead}
pub use Rattle.swd_host.specs.Engines.{engine_is_ahead_at, engine_is_ahead_in, engine_is_resting, engine_job}
pub use Rattle.swd_host.specs.Engines.{engine_may_start, engine_count_more}
pub use Rattle.swd_host.specs.Fields.{fields_of_engine}
pub use Rattle.swd_host.specs.FieldsRead.{engine_at}
pub use Rattle.swd_host.specs.Flags.{host_abort_word, host_flags_in, host_reads_power}
pub use Rattle.swd_host.specs.Plain.{answers_of, AreHostAccesses, IsHostAccess, memory_after}
pub use Rattle.swd_host.specs.Progress.{engine_calls_left, engine_job_is_of, engine_state_is_of, engine_least_for}
pub use Rattle.swd_host.specs.Progress.{engine_least_in, engine_left_at_place, engine_left_for, engine_left_in}
pub use Rattle.swd_host.specs.Progress.{engine_open_requests, engine_stray_left}
pub use Rattle.swd_host.specs.Reports.{Closes, HostEndsAt, Fits, FitsFrom, FitsFromAt, IsAtRest}
pub use Rattle.swd_host.specs.Standing.{HostNextAccess}
pub use Rattle.swd_host.specs.Reports.{HostKnowsTarget, HostIsOpen, RunFits, RunFitsFrom}
pub use Rattle.swd_host.specs.OpenLists.{ListCloses, ListsWithin}
pub use Rattle.swd_host.specs.Reports.{RunsOver, RunsWithin, HostReport, host_report_of}
pub use Rattle.swd_host.specs.Requests.{engine_job_starts, task_confirm_starts, engine_confirmed}
pub use Rattle.swd_host.specs.Requests.{task_confirming_register, task_drw_register, engine_place_is_behind}
pub use Rattle.swd_host.specs.Requests.{engine_place_is_confirm, engine_word_is_ignored, engine_request_for}
pub use Rattle.swd_host.specs.Requests.{engine_word_for, word_of_task, task_drw_place}
pub use Rattle.swd_host.specs.Resuming.{resume_report}
pub use Rattle.swd_host.specs.Standing.{BurstContinuesAt, EngineDoes, EngineDoesOver, EngineHasOpened}
pub use Rattle.swd_host.specs.Standing.{EngineTargetIsOpen, EnginePerforms, BurstWriteIsPoised, EngineStands}
pub use Rattle.swd_host.specs.Standing.{engine_report, EngineBetweenAccesses}
pub use Rattle.swd_host.specs.Tasks.{access_of_task, task_is_block, is_burst, is_burst_write, task_is_read}
pub use Rattle.swd_host.specs.Tasks.{task_most_begun, task_for}
pub use Rattle.swd_host.specs.Bursts.{bursts_limit}
pub use Rattle.swd_host.specs.Tracks.{task_ahead, EngineAheadAt, OpeningIsAwake, EngineBefore, TaskBusError}
pub use Rattle.swd_host.specs.Tracks.{EngineMetBusError, by_damage, by_error, EngineTargetCalm, changed}
pub use Rattle.swd_host.specs.Tracks.{EngineChecksFlags, cleared, TaskWriteConfirmed, TaskConfirmPhase, TaskConfirmTook}
pub use Rattle.swd_host.specs.Tracks.{EngineBase, TaskTransferDone, TaskDoneWithAhead, engine_data_due, EngineDueAt}
pub use Rattle.swd_host.specs.Tracks.{EngineDueFits, EngineDuring, EngineFlagCause, EngineFaultAtJob, EngineFollowsPort}
pub use Rattle.swd_host.specs.Tracks.{EngineHand, hand_of_engine, EnginePlaceHas, OpeningAskedPower, EngineWriteDamaged}
pub use Rattle.swd_host.specs.Tracks.{EngineHasTar, EngineKnowsTarAt, EngineIsReady, IsTask, EngineAllowsMemory, kept}
pub use Rattle.swd_host.specs.Tracks.{EngineHoldsAfterCue, memory_once_task_done, next_error, block_next_hand}
pub use Rattle.swd_host.specs.Tracks.{block_next_read, EngineOwesFlags, own_error, EngineReads, EngineMetFlag}
pub use Rattle.swd_host.specs.Tracks.{EngineResendWord, EngineWordReturned, EngineSawResult, EngineReadsStatus}
pub use Rattle.swd_host.specs.Tracks.{OpeningReadsPower, engine_state_after_ack, EnginePlaceIsSure, EngineTookForJob}
pub use Rattle.swd_host.specs.Tracks.{EngineReadsFlags, EngineTookAtPlace, EngineStateTracks, TracksEngine}
pub use Rattle.swd_host.specs.Tracks.{TaskTransferPhase, TaskTransferSent, EngineTargetUp, EngineWaitAtJob, whole}
pub use Rattle.swd_host.specs.Tracks.{EngineMemoryWithin, within_both, within_first, within_none, EngineWrites}
pub use Rattle.swd_host.specs.Turns.{engine_first_state, EngineGoesWithPort, engine_next_failed, engine_stops_at_all}
pub use Rattle.swd_host.specs.Turns.{engine_ahead_failed, EngineIsCountable, EngineIsNew, EngineLands}
pub use Rattle.swd_host.specs.Turns.{engine_lands_from, EngineSeesAck, EngineStarts, EngineWorks}
pub use Rattle.swd_host.specs.declared.engine.Ahead.{Ahead}
pub use Rattle.swd_host.specs.declared.engine.Ahead.TheVariants.{Failed as NextFailed, Sent as NextSent, Unsent}
pub use Rattle.swd_port.specs.declared.cue.Cue.TheVariants.{Ask as CueAsk}
pub use Rattle.swd_host.specs.declared.engine.Engine.{Engine}
pub use Rattle.swd_host.specs.declared.engine.Phase.TheVariants.{Ask, Data, Waited}
pub use Rattle.swd_host.specs.declared.engine.State.{State}
pub use Rattle.swd_host.specs.declared.engine.State.TheVariants.{Doing, Resting}
pub use Rattle.swd_host.specs.declared.flags.Flags.{Flags}
pub use Rattle.swd_host.specs.declared.outcome.End.{End}
pub use Rattle.swd_host.specs.declared.outcome.End.TheVariants.{All, Lost}
pub use Rattle.swd_host.specs.declared.outcome.Outcome.{Outcome}
pub use Rattle.swd_host.specs.declared.outcome.Outcome.TheVariants.{Answered, Opened, Stopped}
pub use Rattle.swd_host.specs.declared.request.Job.{Job}
pub use Rattle.swd_host.specs.declared.request.Job.TheVariants.{At, Check, Clear, LastStatus, Resend, Status}
pub use Rattle.swd_host.specs.declared.request.HostStep.{HostStep}
pub use Rattle.swd_host.specs.declared.request.HostStep.TheVariants.{WriteTar, Behind, Configure, Configured, Confirm}
pub use Rattle.swd_host.specs.declared.request.HostStep.TheVariants.{Identify, CheckCtrlStat, Power, Powered, ReadCsw}
pub use Rattle.swd_host.specs.declared.request.HostStep.TheVariants.{Select, Transfer, WriteAbort}
pub use Rattle.swd_host.specs.declared.task.Bursts.{Bursts}
pub use Rattle.swd_host.specs.Bursts.{event_requests}
pub use Rattle.swd_host.specs.declared.task.Task.{Task}
pub use Rattle.swd_host.specs.declared.task.Task.TheVariants.{BurstRead, BurstWrite, Read, Write}
pub use Rattle.swd_port.specs.Answers.{is_exempt_register}
pub use Rattle.swd_port.specs.Asking.{PortAsks, port_has_power, is_port_posted, pending_drw_once_read}
pub use Rattle.swd_port.specs.Asking.{ctrl_stat_word_in}
pub use Rattle.swd_port.specs.Choices.{Choice}
pub use Rattle.swd_port.specs.Completion.{port_completed, PortCompletes}
unfoldable pub use Rattle.swd_port.specs.Becoming.{MayBecome}
pub use Rattle.swd_port.specs.Laws.WordsRead.{PortAbortClears, PortOnLine}
pub use Rattle.swd_port.specs.Leading.{PortLeads}
pub use Rattle.swd_port.specs.Moves.{PortWritten, PortPassed, PortWriteSpoiled}
pub use Rattle.swd_port.specs.Moving.{PortGives, PortPasses, PortTakes}
pub use Rattle.swd_port.specs.Outcomes.{PortAccepts, fault, IsPortNoAck, lost, okay, PortRefuses, PortPhaseSpared}
pub use Rattle.swd_port.specs.Outcomes.{PortIgnores, wait}
pub use Rattle.swd_port.specs.Bus.{bus_done_answer, bus_after, bus_answer, Bus}
pub use Rattle.swd_port.specs.PlainMemory.{plain_address}
pub use Rattle.swd_port.specs.Bus.{bus_word_at}
pub use Rattle.swd_port.specs.Port.{Port, port_register, Target}
pub use Rattle.swd_port.specs.Registers.{port_select_zero}
pub use Rattle.swd_port.specs.Transfers.{PortBuffered, PortSent, PortSucceeded}
pub use Rattle.swd_port.specs.declared.access.Access.{Access}
pub use Rattle.swd_port.specs.declared.access.Access.TheVariants.{Read as AccessRead, Write as AccessWrite}
pub use Rattle.swd_port.specs.declared.access.Answer.{Answer}
pub use Rattle.swd_port.specs.declared.access.Answer.TheVariants.{BusFault, Value, Written}
pub use Rattle.swd_port.specs.declared.register.Register.{Register}
pub use Rattle.swd_port.specs.declared.register.Register.TheVariants.{AbortWrite, CswWrite, CtrlStatRead, CtrlStatWrite}
pub use Rattle.swd_port.specs.declared.register.Register.TheVariants.{DpidrRead, DrwRead, DrwWrite, RdbuffRead}
pub use Rattle.swd_port.specs.declared.register.Register.TheVariants.{ResendRead, SelectWrite, TarWrite}
pub use Rattle.swd_port.specs.declared.state.Drw.{Drw}
pub use Rattle.swd_port.specs.declared.state.PowerUp.TheVariants.{Seen}
pub use Rattle.swd_port.specs.declared.state.Reset.{Reset}
pub use Rattle.swd_port.specs.declared.state.Reset.TheVariants.{Live, Unreset}
pub use Rattle.swd_port.specs.declared.wire.Due.{Due}
pub use Rattle.swd_port.specs.declared.wire.Due.TheVariants.{Nothing}

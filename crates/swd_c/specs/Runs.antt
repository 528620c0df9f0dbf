-- What the calls of a run leave in the caller's memory.
use Rattle.std.specs.Prelude.{ℕ, ◌≡◌, ◌+◌, ◌<◌, ◌==◌, if◌then◌else◌, List, [], ◌∷◌, length, map, slice_set}
use Rattle.std.specs.Prelude.{None, option_map}
use Rattle.swd_port.specs.declared.access.Access.{Access}
use Rattle.swd_port.specs.declared.access.Answer.{Answer}
use Rattle.swd_port.specs.declared.cue.Cue.{Cue}
use Rattle.swd_host.specs.declared.fields.OutcomeFields.{OutcomeFields}
use Rattle.swd_host.specs.declared.outcome.Outcome.TheVariants.{Answered, Stopped}
use Rattle.swd_host.specs.declared.task.Bursts.{Bursts}
use Rattle.swd_host.specs.declared.task.Bursts.TheVariants.{Reads, Writes}
use Rattle.swd_host.specs.Engines.{engine_begun}
use Rattle.swd_host.specs.Fields.{engine_outcome_fields, engine_outcome_of_kind}
use Rattle.swd_steps.specs.declared.fields.RunFields.{RunFields}
use Rattle.swd_steps.specs.declared.run.Refusal.{Refusal}
use Rattle.swd_steps.specs.declared.run.Refusal.TheVariants.{Ended, Reply, TooMany, Unaligned, TooFew}
use Rattle.swd_steps.specs.declared.run.Run.{Run}
use Rattle.swd_steps.specs.Fields.{stepped_fields}
use Rattle.swd_steps.specs.Runs.{SteppedExtends, SteppedRefusalReason, stepped_run_end, stepped_run_cue}
use Rattle.swd_c.specs.declared.cue.SwdCue.{SwdCue}
use Rattle.swd_c.specs.declared.access.SwdAccess.{SwdAccess}
use Rattle.swd_c.specs.Cues.{c_api_cue_of_kind, c_api_refusal, c_api_cue}
use Rattle.swd_c.specs.Accesses.{c_api_access}

-- the run with these fields, of which this holds
abbrev pub CApiHasRun : RunFields → (Run → Type 0) → Type 0
CApiHasRun fields P = (run : Run) × (stepped_fields run ≡ fields) × P run

-- no run has these fields
abbrev pub CApiHasNoRun : RunFields → Type 0
CApiHasNoRun fields = (run : Run) → stepped_fields run ≡ fields → ⊥

-- the accesses of a list
abbrev pub c_api_accesses : List SwdAccess → List Access
c_api_accesses list = map c_api_access list

-- the bursts of a run over an open target: of writes for 0, else of reads
abbrev pub c_api_bursts : ℕ → Bursts
c_api_bursts blocks = if blocks == 0 then Writes else Reads

-- the cue of a run; its end, if it has ended
abbrev pub c_api_run_cue : Run → SwdCue
c_api_run_cue run =
    record (c_api_cue (stepped_run_cue run) (option_map Stopped (stepped_run_end run)))
    { begun = engine_begun run.engine }

-- the objects with these answers stored from this index on
abbrev pub c_api_stored_answers : ℕ → List Answer → List OutcomeFields → List OutcomeFields
c_api_stored_answers index [] room = room
c_api_stored_answers index (answer ∷ more) room =
    c_api_stored_answers (index + 1) more (slice_set room index (engine_outcome_fields (Answered answer)))

-- a run took a reply to its cue, which gave these answers
pub record CApiRunStoresAnswers (cue : Cue) (reply : ℕ) (list : List SwdAccess) (before : Run)
    (room : List OutcomeFields) (after : Run) (left : List OutcomeFields) (more : List Answer) : Type 0 where
  pub goes : SteppedExtends cue reply (c_api_accesses list) before more after
  pub answered : after.answered ≡ before.answered + length more
  pub left_is : left ≡ c_api_stored_answers before.answered more room

-- WHAT IS REFUSED
-- the cue of a refused call: its outcome's kind is the reason, and the word is the index of the access
abbrev pub c_api_refusal_with : ℕ → ℕ → SwdCue
c_api_refusal_with why index = record (c_api_cue_of_kind 255) { outcome = engine_outcome_of_kind why index }

abbrev pub c_api_refusal_for : Refusal → SwdCue
c_api_refusal_for Ended = c_api_refusal_with 1 0
c_api_refusal_for Reply = c_api_refusal_with 2 0
c_api_refusal_for TooMany = c_api_refusal_with 3 0
c_api_refusal_for (Unaligned index) = c_api_refusal_with 4 index
c_api_refusal_for TooFew = c_api_refusal_with 5 0

-- the fields are those of no run; the run refuses the call; or there isn't room for all answers
pub data CApiRunRefusal (fields : RunFields) (list : List SwdAccess) (reply room : ℕ) : SwdCue → Type 0 where
  no_run : CApiHasNoRun fields → CApiRunRefusal fields list reply room c_api_refusal
  refused : (run : Run) (why : Refusal) → stepped_fields run ≡ fields
      → SteppedRefusalReason run (c_api_accesses list) reply why
      → CApiRunRefusal fields list reply room (c_api_refusal_for why)
  no_room : room < length list → CApiRunRefusal fields list reply room (c_api_refusal_with 6 0)

-- the line can't fail inside a cue: the fields are those of no run, or the run has none
pub data CApiFailRefusal (fields : RunFields) : SwdCue → Type 0 where
  fails_no_run : CApiHasNoRun fields → CApiFailRefusal fields c_api_refusal
  has_no_cue : (run : Run) → stepped_fields run ≡ fields → stepped_run_cue run ≡ None
      → CApiFailRefusal fields (c_api_refusal_with 1 0)

-- the list alone is why the call is refused, whatever the run and the reply
pub data CApiListRefusal (list : List SwdAccess) : SwdCue → Type 0 where
  refused_list : (why : Refusal)
      → ((run : Run) (reply : ℕ) → SteppedRefusalReason run (c_api_accesses list) reply why)
      → CApiListRefusal list (c_api_refusal_for why)

-- the index of the access is below 65,536
abbrev pub CApiRefusalIndexIsSmall : Refusal → Type 0
CApiRefusalIndexIsSmall (Unaligned index) = index < 65536
CApiRefusalIndexIsSmall why = Unit {0}

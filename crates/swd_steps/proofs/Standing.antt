-- What is known of a run after some calls, over any story of the line: in its opening, between two accesses, within
-- one,
-- and at its end. `swd_host`'s loops keep the same from one turn to the next.
use Rattle.std.proofs.Common.{◌≡◌, ◌<◌, ℕ, List, [], ◌++◌, length, get_or}
use Rattle.std.specs.Prelude.{◌⊎◌, Option, Some}
use Rattle.swd_port.specs.declared.access.Access.{Access}
use Rattle.swd_port.specs.declared.access.Access.TheVariants.{Read}
use Rattle.swd_port.specs.declared.access.Answer.{Answer}
use Rattle.swd_port.specs.declared.call.Call.{Call}
use Rattle.swd_port.specs.Port.{Port}
use Rattle.swd_port.specs.Stories.{FitsStory, port_at}
use Rattle.swd_host.specs.declared.engine.Engine.{Engine}
use Rattle.swd_host.specs.declared.engine.State.TheVariants.{Resting}
use Rattle.swd_host.specs.declared.outcome.End.{End}
use Rattle.swd_host.specs.declared.outcome.Outcome.TheVariants.{Opened, Stopped}
use Rattle.swd_host.specs.Calls.{EngineTurns}
use Rattle.swd_host.specs.Standing.{HostNextAccess}
use Rattle.swd_host.specs.Stages.{EngineListCalls}
use Rattle.swd_host.specs.Standing.{EngineDoes, EnginePerforms, EngineStands, EngineStays}
use Rattle.swd_host.specs.Tracks.{EngineDueFits}
use Rattle.swd_host.specs.Turns.{EngineGoesWithPort, EngineStarts, EngineWorks}
use Rattle.swd_host.proofs.Folding.{EngineSentSoFar}
use Rattle.swd_steps.specs.declared.run.Stage.{Stage}
use Rattle.swd_steps.specs.declared.run.Stage.TheVariants.{Driving, Between, Ended}
use Rattle.swd_steps.specs.Runs.{SteppedBegins, SteppedSetup}

-- From one moment, after the older calls, to a later one, after the newer: these were made for the engine. What it
-- keeps by itself, and with the port, where the story fits.
pub record SteppedWent (story : ℕ → Port) (older newer : List Call) (first : Engine) (made : List Call) (e : Engine) :
    Type 0
  where
    pub works : EngineWorks first e
    pub turns : EngineTurns first made e
    pub due : EngineDueFits e (port_at story newer)
    pub goes : FitsStory story newer → FitsStory story older
        × EngineGoesWithPort first (port_at story older) e (port_at story newer)

-- in the opening
pub record SteppedInOpening (story : ℕ → Port) (past : List Call) (how : SteppedSetup) (calls : List Call) (e : Engine)
    : Type 0
  where
    pub first : Engine
    pub new : SteppedBegins how first
    pub went : SteppedWent story past (calls ++ past) first calls e

-- between two accesses
pub record SteppedBetweenAccesses (story : ℕ → Port) (past : List Call) (how : SteppedSetup) (list : List Access)
    (calls : List Call) (e : Engine) (answers : List Answer) : Type 0 where
  pub o : Engine
  pub early : List Call
  pub late : List Call
  pub parts : calls ≡ late ++ early
  pub opening : SteppedInOpening story past how early o
  pub at : o.state ≡ Resting Opened
  pub stays : EngineStays (length answers) list o e answers (port_at story (calls ++ past))
  pub stands : FitsStory story (calls ++ past) → FitsStory story (early ++ past)
      × EngineStands (length answers) list o (port_at story (early ++ past)) e answers (port_at story (calls ++ past))
  pub keeps : EngineSentSoFar list answers o e late

-- within an access
pub record SteppedInAccess (story : ℕ → Port) (past : List Call) (how : SteppedSetup) (list : List Access)
    (calls : List Call) (f : Engine) (answers : List Answer) : Type 0 where
  pub e : Engine
  pub g : Engine
  pub before : List Call
  pub recent : List Call
  pub parts : calls ≡ recent ++ before
  pub rested : SteppedBetweenAccesses story past how list before e answers
  pub low : length answers < length list
  pub following : Option Access
  pub next : (b : Access) → following ≡ Some b → HostNextAccess (length answers) list b
  pub starts : EngineStarts (get_or list (length answers) (Read 0)) following e g
  pub went : SteppedWent story (before ++ past) (calls ++ past) g recent f

-- at its end: the opening was stopped, or the list was done
pub data SteppedAtEnd (story : ℕ → Port) (past : List Call) (how : SteppedSetup) (list : List Access)
    (calls : List Call) (e : Engine) (answers : List Answer) (end : End) : Type 0 where
  -- the opening stopped, and there is no answer
  never_opened : SteppedInOpening story past how calls e → e.state ≡ Resting (Stopped end) → answers ≡ []
      → SteppedAtEnd story past how list calls e answers end
  -- the opening succeeded, and the list was performed up to this end
  performed : (o : Engine) (early late : List Call) → calls ≡ late ++ early → SteppedInOpening story past how early o
      → o.state ≡ Resting Opened → EnginePerforms list o e [] answers end (port_at story (calls ++ past)).link.due
      → (FitsStory story (calls ++ past) → FitsStory story (early ++ past)
      × EngineDoes list o e [] answers end (port_at story (early ++ past)) (port_at story (calls ++ past)))
      → EngineListCalls list o e [] answers end late → SteppedAtEnd story past how list calls e answers end

abbrev pub SteppedHolds : (ℕ → Port) → List Call → SteppedSetup → List Access → List Call → Engine → Stage → List Answer
    → Type 0
SteppedHolds story past how list calls e Driving answers =
    (SteppedInOpening story past how calls e × (answers ≡ [])) ⊎ SteppedInAccess story past how list calls e answers
SteppedHolds story past how list calls e Between answers = SteppedBetweenAccesses story past how list calls e answers
SteppedHolds story past how list calls e (Ended end) answers = SteppedAtEnd story past how list calls e answers end

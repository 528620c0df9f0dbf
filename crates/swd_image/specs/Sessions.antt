-- The calls of a load, a verification or a dump, over any wire and whatever was seen.
use Rattle.std.specs.Prelude.{ℕ, ◌≡◌, ◌≢◌, Bool, true, false, List, [], ◌∷◌, ◌++◌, map, Option, Some, None}
use Rattle.std.specs.Prelude.{if◌then◌else◌}
use Rattle.swd_port.specs.declared.access.Access.{Access}
use Rattle.swd_port.specs.declared.access.Access.TheVariants.{Read, Write}
use Rattle.swd_port.specs.declared.access.Answer.{Answer}
use Rattle.swd_port.specs.declared.access.Answer.TheVariants.{Value, Written, BusFault}
use Rattle.swd_port.specs.PlainMemory.{plain_address}
use Rattle.swd_host.specs.declared.outcome.End.TheVariants.{All}
use Rattle.swd_script.specs.Scripts.{ScriptListed}
use Rattle.swd_script.specs.Laws.{IsScriptBatch}
use Rattle.swd_run.specs.declared.limits.Limits.{Limits}
use Rattle.swd_run.specs.Sessions.{ScriptRun, RunsBatch, batch_bursts}
use Rattle.swd_port.specs.declared.wire.Wire.{Ghosts}
use Rattle.swd_image.specs.declared.fault.ImageFault.{ImageFault}
use Rattle.swd_image.specs.declared.fault.ImageFault.TheVariants.{Range, Memory, Stopped, Report, BusFault as FaultAt}

-- ANSWERS
-- the access succeeded: the answer to a read is a word, that to a write is written
abbrev pub is_image_done : Access → Answer → Bool
is_image_done (Read at) (Value word) = true
is_image_done (Read at) Written = false
is_image_done (Read at) BusFault = false
is_image_done (Write at word) Written = true
is_image_done (Write at word) (Value other) = false
is_image_done (Write at word) BusFault = false

-- all of them succeeded
abbrev pub AreImageDone : List Access → List Answer → Type 0
AreImageDone [] [] = Unit {0}
AreImageDone [] (x ∷ answers) = ⊥
AreImageDone (a ∷ list) [] = ⊥
AreImageDone (a ∷ list) (x ∷ answers) = (is_image_done a x ≡ true) × AreImageDone list answers

-- the address of the first one that failed
abbrev pub image_first_failed : List Access → List Answer → Option ℕ
image_first_failed [] answers = None
image_first_failed (a ∷ list) [] = None
image_first_failed (a ∷ list) (x ∷ answers) =
    if is_image_done a x then image_first_failed list answers else Some (plain_address a)

-- the words that were read
abbrev pub image_word_read : Answer → ℕ
image_word_read (Value word) = word
image_word_read Written = 0
image_word_read BusFault = 0

abbrev pub image_words_read : List Answer → List ℕ
image_words_read answers = map image_word_read answers

-- THE CALLS
module _ {W : Type 0} (wire : Ghosts W) (limits : Limits) where
  -- one call over a wire, from one state of the wire to another, with its report: a batch of at most 65,536 accesses,
  -- which may have been resumed
  pub record Call (batch : ScriptListed) (s : W) (run : ScriptRun) (t : W) : Type 0 where
    pub fits : IsScriptBatch batch
    pub goes : RunsBatch wire (batch_bursts limits.bursts batch) limits batch s run t

  -- consecutive calls, each of which ended `All` with each access done: their accesses, and their answers
  pub data Calls (s : W) : List Access → List Answer → W → Type 0 where
    none : Calls s [] [] s
    more : {list : List Access} {answers : List Answer} {t u : W} {batch : ScriptListed} {run : ScriptRun}
        → Calls s list answers t → Call batch t run u → run.told.ended ≡ All
        → AreImageDone batch.accesses run.told.answers
        → Calls s (list ++ batch.accesses) (answers ++ run.told.answers) u

  -- such calls, which read these words
  pub record ReadsAs (list : List Access) (words : List ℕ) (s t : W) : Type 0 where
    pub answers : List Answer
    pub calls : Calls s list answers t
    pub told : words ≡ image_words_read answers

  -- such calls, with any answers
  pub record MadeAll (list : List Access) (s t : W) : Type 0 where
    pub answers : List Answer
    pub calls : Calls s list answers t

  -- Calls of which the last one ended otherwise, as `P` says: the accesses of the calls are the first ones of the
  -- list, and the list's `rest` was in no call.
  pub record Fails (list : List Access) (s u : W) (P : ScriptListed → ScriptRun → Type 0) : Type 0 where
    pub before : List Access
    pub answers : List Answer
    pub reached : W
    pub calls : Calls s before answers reached
    pub batch : ScriptListed
    pub run : ScriptRun
    pub last : Call batch reached run u
    pub rest : List Access
    pub split : list ≡ before ++ (batch.accesses ++ rest)
    pub ended : P batch run

  -- Calls before the next one was made: they ended `All` with each access done, and their accesses are the first ones
  -- of the list. So with some replies a call over the whole list makes these calls first.
  pub record FailsNext (list : List Access) (s u : W) : Type 0 where
    pub before : List Access
    pub answers : List Answer
    pub calls : Calls s before answers u
    pub rest : List Access
    pub split : list ≡ before ++ rest

  -- the error of a load or a dump with these accesses, from one state of the wire to another
  abbrev pub FailsAs : List Access → W → W → ImageFault → Type 0
  FailsAs list s u Range = ⊥
  FailsAs list s u Memory = FailsNext list s u
  FailsAs list s u (Stopped end) = Fails list s u (λ batch run. (run.told.ended ≡ end) × (end ≢ All))
  FailsAs list s u (FaultAt at) =
      Fails list s u (λ batch run. (run.told.ended ≡ All)
      × (image_first_failed batch.accesses run.told.answers ≡ Some at))
  FailsAs list s u Report = Fails list s u (λ batch run. Unit {0})

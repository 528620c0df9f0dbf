-- What a decoder of captures has read.
use Rattle.std.specs.Prelude.{◌≡◌, ℕ, ◌+◌, ◌*◌, ◌<◌, ◌≤◌, Bool, true, false, List, [], ◌∷◌, ◌++◌, length, drop}
use Rattle.swd_bits.specs.Bits.{low_bits}
use Rattle.swd_resync.specs.declared.part.Part.{Part}
use Rattle.swd_resync.specs.declared.part.FollowedPart.{FollowedPart}
use Rattle.swd_resync.specs.declared.stage.RemovalStage.TheVariants.{Stretch}
use Rattle.swd_resync.specs.declared.stage.WholeTx.{WholeTx}
use Rattle.swd_resync.specs.Fronts.{resync_is_acknowledged}
use Rattle.swd_resync.specs.Sights.{IsTxSight}
use Rattle.swd_resync.specs.declared.stage.Move.{Move}
use Rattle.swd_resync.specs.declared.decoder.CaptureDecoder.{CaptureDecoder}
use Rattle.swd_resync.specs.Parts.{resync_parts_of}
use Rattle.swd_resync.specs.Holding.{resync_held, resync_behind_run, IsResyncNear}
use Rattle.swd_resync.specs.Stages.{parts_at_stage, resync_stage_rank}

-- the reading of the held bits and of later ones
abbrev pub resync_rest : CaptureDecoder → List Bool → List Part
resync_rest d more = parts_at_stage d.over d.stage (resync_held d.held ++ more)

-- it was fed these bits and returned these parts: with any later bits, the parts and the reading of what it
-- holds are the reading of the bits
abbrev pub ResyncHasRead : Bool → CaptureDecoder → List Bool → List Part → Type 0
ResyncHasRead over d bits parts = (more : List Bool) → parts ++ resync_rest d more ≡ resync_parts_of over (bits ++ more)

-- how many bits it was fed
abbrev pub resync_fed : CaptureDecoder → ℕ
resync_fed d = d.fed

-- how many bits it holds apart from a count of zeros among them
abbrev pub resync_held_len : CaptureDecoder → ℕ
resync_held_len d = d.held.queue.front_len + d.held.queue.back_len

-- no part is due
abbrev pub ResyncSettled : CaptureDecoder → Type 0
ResyncSettled d = resync_behind_run d.held < 50

-- an upper bound on the number of steps before the next bit is taken
abbrev pub resync_steps_left : CaptureDecoder → ℕ
resync_steps_left d = 8 * length (resync_held d.held) + resync_stage_rank d.stage

-- the bits of a step are removed
pub record IsResyncDecoderStep (old : CaptureDecoder) (step : Move) (new : CaptureDecoder) : Type 0 where
  pub over : new.over ≡ step.over
  pub stage : new.stage ≡ step.stage
  pub held : resync_held new.held ≡ drop step.count (resync_held old.held)
  pub fed : resync_fed new ≡ resync_fed old

-- few bits are held if more may follow, and nothing is left at the end
pub record ResyncEnds (ended : Bool) (d : CaptureDecoder) : Type 0 where
  pub near : ended ≡ false → IsResyncNear 92 (resync_held d.held)
  pub none : ended ≡ true → resync_rest d [] ≡ []

-- nothing is held but a transaction of a stretch, which was acknowledged
pub record IsResyncAlone (d : CaptureDecoder) (front : WholeTx) : Type 0 where
  pub stage : d.stage ≡ Stretch 0
  pub seen : IsTxSight d.over.phases front.tx front.len (resync_held d.held)
  pub acknowledged : resync_is_acknowledged front.tx.result ≡ true
  pub whole : length (resync_held d.held) ≡ front.len

-- a transaction is taken from new bits, and the part before it is returned
pub record ResyncTakesTx (old new : CaptureDecoder) (bits count : ℕ) (found : FollowedPart) : Type 0 where
  pub some : 0 < found.taken
  pub most : found.taken ≤ count
  pub gives : (more : List Bool)
      → resync_rest old (low_bits found.taken bits ++ more) ≡ found.part ∷ resync_rest new more
  pub settled : ResyncSettled new
  pub held : resync_held_len new < 142
  pub fed : resync_fed new ≡ resync_fed old + found.taken

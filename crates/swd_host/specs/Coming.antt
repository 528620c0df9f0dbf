-- What an engine asks for next as long as each transaction is answered OK with right parity.
use Rattle.std.specs.Prelude.{ℕ, ◌≡◌, ◌-◌, ◌<◌, ◌^◌, ◌⊎◌, true, false, is_some, Some, List, [], ◌∷◌, slice_get}
use Rattle.swd_bits.specs.Phases.{data_phase_number}
use Rattle.swd_bits.specs.declared.request.Request.{Request}
use Rattle.swd_port.specs.declared.access.Access.{Access}
use Rattle.swd_port.specs.declared.coming.Coming.{Coming}
use Rattle.swd_port.specs.declared.cue.Cue.TheVariants.{Ask, Take, Give}
use Rattle.swd_host.specs.declared.engine.Engine.{Engine}
use Rattle.swd_host.specs.Engines.{engine_cue, engine_job, engine_may_start, engine_outcome}
use Rattle.swd_host.specs.Replies.{EngineTookReply}
use Rattle.swd_host.specs.Steps.{engine_is_rested, engine_word_decides}
use Rattle.swd_host.specs.Turns.{EngineStarts}

-- an engine that has a cue stays as it is
pub record HostGoesOn (e : Engine) (after : List Access) (f : Engine) (left : List Access) : Type 0 where
  pub cue : is_some (engine_cue e) ≡ true
  pub same : f ≡ e
  pub all : left ≡ after

-- An engine that has a cue stays as it is; one that rests takes up the next access. So it does until it has a cue:
-- `left` are the accesses that it hasn't taken up.
abbrev pub HostTakesUp : Engine → List Access → Engine → List Access → Type 0
HostTakesUp e [] f left = HostGoesOn e [] f left
HostTakesUp e (a ∷ more) f left = HostGoesOn e (a ∷ more) f left
    ⊎ ((g : Engine) × (engine_may_start (engine_outcome e) ≡ true) × EngineStarts a (slice_get more 0) e g
    × HostTakesUp g more f left)

-- the engine has a cue once it takes up accesses, and P holds then
pub record HostTakesUpSo (P : Engine → List Access → Type 0) (e : Engine) (after : List Access) : Type 0 where
  pub engine : Engine
  pub left : List Access
  pub takes : HostTakesUp e after engine left
  pub so : (f : Engine) (rest : List Access) → HostTakesUp e after f rest → P f rest

-- The engine e, which has these accesses to perform after the current one, asks for this and sees OK. Then f has a cue,
-- and the accesses that are left. In a burst the OK to a write ends the access before: the next one is taken up then,
-- with its data due.
pub record EngineAsked (e : Engine) (after : List Access) (request : Request) (f : Engine) (rest : List Access) : Type 0
  where
    pub asking : Engine
    pub left : List Access
    pub takes : HostTakesUp e after asking left
    pub asks : engine_cue asking ≡ Some (Ask request)
    pub answered : Engine
    pub saw : EngineTookReply (Ask request) 1 asking answered
    pub again : HostTakesUp answered left f rest

-- no transaction can come next
abbrev pub HostForeseesNone : Engine → List Access → Type 0
HostForeseesNone e after = (request : Request) (f : Engine) (rest : List Access)
    → EngineAsked e after request f rest → ⊥

-- The data phase that comes next: of a write with this word; or of a read, after which nothing is foreseen, if its word
-- decides; or of another read, after which what comes next is the same for any word.
abbrev pub HostForeseesData : ℕ → Type 0 → (Engine → Type 0) → Engine → Type 0
HostForeseesData word Last P e =
    ((engine_cue e ≡ Some (Give (data_phase_number word)))
    × ((f : Engine) → EngineTookReply (Give (data_phase_number word)) 0 e f → P f))
    ⊎ ((engine_cue e ≡ Some Take) × (word ≡ 0)
    × (((engine_word_decides (engine_job e.state) ≡ true) × Last)
    ⊎ ((read : ℕ) (f : Engine) → read < 2 ^ 32 → EngineTookReply Take (data_phase_number read) e f → P f)))

-- The engine, which has these accesses to perform after the current one, asks for exactly these transactions next, as
-- long as each is answered OK with right parity. They end where there is no room for more, behind a read whose word
-- decides, or where none can come next.
abbrev pub HostForesees : ℕ → Engine → List Access → List Coming → Type 0
HostForesees room e after [] = (room ≡ 0) ⊎ HostForeseesNone e after
HostForesees room e after (next ∷ coming) = HostTakesUpSo (λ f left. (engine_cue f ≡ Some (Ask next.request))
    × ((g : Engine) → EngineTookReply (Ask next.request) 1 f g
    → HostTakesUpSo (λ h rest.
    HostForeseesData next.word (coming ≡ []) (λ k. HostForesees (room - 1) k rest coming) h) g left)) e after

-- the same engine but for what doesn't decide which transactions come next
pub data EngineIsAlike (e f : Engine) : Type 0 where
  alike_doing : engine_is_rested e.state ≡ false → f.state ≡ e.state → f.task ≡ e.task → f.bursts ≡ e.bursts
      → EngineIsAlike e f
  alike_resting : engine_is_rested e.state ≡ true → engine_is_rested f.state ≡ true → f.tar ≡ e.tar → f.ahead ≡ e.ahead
      → f.bursts ≡ e.bursts → EngineIsAlike e f

-- the same of each engine like this one
abbrev pub EnginesForesee : ℕ → Engine → List Access → List Coming → Type 0
EnginesForesee room e after coming = (f : Engine) → EngineIsAlike e f → HostForesees room f after coming

abbrev pub EnginesForeseeNone : Engine → List Access → Type 0
EnginesForeseeNone e after = (f : Engine) → EngineIsAlike e f → HostForeseesNone f after

-- what the engine f foresees, with these accesses left, the engine e foresees behind this transaction
abbrev pub EngineForeseesNext : Engine → List Access → Coming → Engine → List Access → Type 0
EngineForeseesNext e after next f left = (room : ℕ) (coming : List Coming) → EnginesForesee (room - 1) f left coming
    → EnginesForesee room e after (next ∷ coming)

-- no access leads the engine to a cue
abbrev pub HostTakesUpNone : Engine → List Access → Type 0
HostTakesUpNone e after = (f : Engine) (rest : List Access) → HostTakesUp e after f rest → ⊥

-- Every request keeps what the engine knows.
use Rattle.swd_host.proofs.Words.{◌≡◌, ◌≤◌, ℕ, Bool, false, refl, sym, ap, subst, inl, inr, arith, ◌∙◌, None, max, Task}
use Rattle.swd_host.proofs.Words.{BurstRead, Bus, Port, CtrlStatWrite, SelectWrite, CswWrite, TarWrite, Live}
use Rattle.swd_host.proofs.Words.{PortAsks, Flags, HostStep, Identify, WriteAbort, CheckCtrlStat, Select, Power}
use Rattle.swd_host.proofs.Words.{Powered, Configure, ReadCsw, Configured, WriteTar, Transfer, Confirm, Behind, Job, At}
use Rattle.swd_host.proofs.Words.{Resend, Status, LastStatus, Clear, Check, engine_request_for, engine_job_starts}
use Rattle.swd_host.proofs.Words.{task_confirm_starts, EngineHand, EngineSawResult, EngineBase, port_select_zero}
use Rattle.swd_host.proofs.Words.{EngineTargetCalm, EnginePlaceIsSure, EngineWriteDamaged, TaskBusError}
use Rattle.swd_host.proofs.Words.{EngineFlagCause, EngineMetFlag, EngineOwesFlags, EngineChecksFlags, EngineBefore}
use Rattle.swd_host.proofs.Words.{EngineDuring, EngineReadsStatus, task_is_block, EngineMetBusError, IsTask}
use Rattle.swd_host.proofs.Words.{engine_place_is_confirm}
use Rattle.std.proofs.Math.Nat.{le-max_left, le-max_right, max-zero}
use Rattle.swd_port.proofs.CallLaws.{port_request_counted}
use Rattle.swd_host.proofs.Frames.{owes_framed, host_debug_power}
use Rattle.swd_host.proofs.Asked.{HostAskOutcome, host_status_request, host_ask_status, host_ask_power, host_ask_abort}
use Rattle.swd_host.proofs.Transfers.{host_ask_drw, host_ask_confirm}
use Rattle.swd_host.proofs.Asks.{host_damaged_calm, host_spoilt_calm, host_ask_damaged, write_asked, opening_ask_abort}
use Rattle.swd_host.proofs.Asks.{opening_ask_dpidr, opening_ask_csw, opening_ask_csw_word}
use Rattle.swd_host.proofs.Blocks.{burst_ask_next_read, host_ask_resend}

-- AT REST
pub record HostAtRest (s : Port) : Type 0 where
  pub select : s.target.select ≡ port_select_zero
  pub live : s.target.reset ≡ Live
  pub pending : s.target.pending ≡ None

calm_rest : (m : Bus) (s : Port) → EngineTargetCalm m s.target → HostAtRest s
calm_rest m s h = record { select = h.select; live = h.live; pending = h.pending }

broken_rest : (p : HostStep) (b : ℕ) (k : EngineHand) (s : Port) → TaskBusError p b k s.target → HostAtRest s
broken_rest p b k s h = record { select = h.serves.select; live = h.serves.live; pending = h.pending }

bus_error_rest : (p : HostStep) (b : ℕ) (k : EngineHand) (s : Port) → EngineMetBusError p b k s.target → HostAtRest s
bus_error_rest p b k s h = grind (arith, broken_rest)

-- where the cause of the flags to be cleared is known, the target is live and at rest, with SELECT 0
pub host_facts_at_rest : (error : Bool) (p : HostStep) (b : ℕ) (k : EngineHand) (s : Port)
    → EngineFlagCause error p b k s.target → HostAtRest s
host_facts_at_rest error p b k s h = grind (arith, bus_error_rest, calm_rest, host_spoilt_calm)

-- the same where a request met a flag
pub host_refused_at_rest : (p : HostStep) (n b : ℕ) (k : EngineHand) (s : Port) → EngineMetFlag p n b k s → HostAtRest s
host_refused_at_rest p n b k s h = grind (arith, bus_error_rest, calm_rest, host_damaged_calm)

-- the same after ABORT was written to clear the flags
pub host_checks_at_rest : (p : HostStep) (owed : Flags) (n b : ℕ) (k : EngineHand) (s : Port)
    → EngineChecksFlags p owed n b k s → HostAtRest s
host_checks_at_rest p owed n b k s h = grind (arith, host_facts_at_rest)

-- the same before the read of CTRL/STAT that checks that no flag is left
pub host_ctrl_stat_at_rest : (n b : ℕ) (k : EngineHand) (s : Port) → EngineBefore (At CheckCtrlStat) n b k s
    → HostAtRest s
host_ctrl_stat_at_rest n b k s h = grind (arith, calm_rest, host_damaged_calm)

-- the same before the read of CTRL/STAT that checks whether power is acknowledged
pub host_power_at_rest : (n b : ℕ) (k : EngineHand) (s : Port) → EngineBefore (At Powered) n b k s → HostAtRest s
host_power_at_rest n b k s h = grind (arith, calm_rest, host_damaged_calm)

some_more : (b : ℕ) → 1 ≤ b → 1 ≤ max b 0
some_more b h = omega (arith, le-max_left b 0)

-- the request that confirms, by the access in hand
confirm_sent : (task : Task) (n : ℕ) (base : EngineBase) (b : ℕ) (k : EngineHand) (v : ℕ) (s t : Port) → k.task ≡ task
    → IsTask task → base.lost ≤ s.tally.lost → EnginePlaceIsSure Confirm n b k s
    → PortAsks s (engine_request_for (At Confirm) k.task) v t
    → HostAskOutcome (At Confirm) n base (max b (task_confirm_starts task)) k v t
confirm_sent (BurstRead at) n base b k v s t e ok l h asks =
    burst_ask_next_read at n base b (max b 2) k v s t e ok (le-max_right b 2) l h asks
confirm_sent _ n base b k v s t e ok l h asks =
    host_ask_confirm n base b (max b 0) k v s t (some_more b h.has.begun) (ap task_is_block e) l h asks

-- where no access is begun by it
came_same : (job : Job) (n : ℕ) (base : EngineBase) (b : ℕ) (k : EngineHand) (v : ℕ) (t : Port)
    → HostAskOutcome job n base b k v t → HostAskOutcome job n base (max b 0) k v t
came_same job n base b k v t h = subst (λ c. HostAskOutcome job n base c k v t) (sym (max-zero b)) h

-- EVERY REQUEST
module _ (n : ℕ) (base : EngineBase) (b : ℕ) (k : EngineHand) (v : ℕ) (s t : Port) (l : base.lost ≤ s.tally.lost)
    (ok : IsTask k.task) where
  says_asked : (job : Job) → HostAtRest s → EngineBefore job n b k s → PortAsks s host_status_request v t
      → (EngineReadsStatus job n b k t → EngineDuring job n b k t) → HostAskOutcome job n base b k v t
  says_asked job r h asks go = host_ask_status job n base b k v s t r.select r.live r.pending l h asks go

  powers_asked : EngineBefore (At Powered) n b k s → PortAsks s host_status_request v t
      → HostAskOutcome (At Powered) n base b k v t
  powers_asked h asks =
      let r = host_power_at_rest n b k s h in host_ask_power n base b k v s t r.select r.live r.pending l h asks

  -- a request that begins no access
  plain_asked : (p : HostStep) → EnginePlaceIsSure p n b k s → PortAsks s (engine_request_for (At p) k.task) v t
      → engine_job_starts (At p) k.task ≡ 0 → engine_place_is_confirm p ≡ false → HostAskOutcome (At p) n base b k v t
  plain_asked Identify h asks none other = opening_ask_dpidr n base b k v s t l h asks
  plain_asked WriteAbort h asks none other = opening_ask_abort n base b k v s t l h asks
  plain_asked CheckCtrlStat h asks none other =
      says_asked (At CheckCtrlStat) (host_ctrl_stat_at_rest n b k s (inl h)) (inl h) asks (λ x. x)
  plain_asked Select h asks none other = write_asked Select n base b b k v s t SelectWrite refl refl refl refl refl refl
      (λ e. absurd (cc)) (omega arith) h.has (λ e. absurd (cc)) l h asks (λ w. w)
  plain_asked Power h asks none other = write_asked Power n base b b k v s t CtrlStatWrite refl refl refl refl refl refl
      (λ e. absurd (cc)) (omega arith) h.has (λ e. absurd (cc)) l h asks (λ w. w)
  plain_asked Powered h asks none other = powers_asked (inl h) asks
  plain_asked Configure h asks none other = write_asked Configure n base b b k v s t CswWrite refl refl refl refl
      refl refl
      (λ e. absurd (cc)) (omega arith) h.has.calm (λ e. host_debug_power s.target h.has.debug h.has.debug_seen) l h asks
      (λ w. w)
  plain_asked ReadCsw h asks none other = opening_ask_csw n base b k v s t l h asks
  plain_asked Configured h asks none other = opening_ask_csw_word n base b k v s t l h asks
  plain_asked WriteTar h asks none other =
      write_asked WriteTar n base b b k v s t TarWrite refl refl refl refl refl refl
      (λ e. absurd (cc)) (omega arith) h.has.up.calm (λ e. host_debug_power s.target h.has.up.debug h.has.up.debug_seen)
      l h
      asks (λ w. w)
  plain_asked _ h asks none other = grind arith

  sure_asked : (p : HostStep) → EnginePlaceIsSure p n b k s → PortAsks s (engine_request_for (At p) k.task) v t
      → HostAskOutcome (At p) n base (max b (engine_job_starts (At p) k.task)) k v t
  sure_asked Transfer h asks =
      host_ask_drw k.task n base b (max b 1) k v s t refl (le-max_left b 1) (le-max_right b 1) l h asks
  sure_asked Confirm h asks = confirm_sent k.task n base b k v s t refl ok l h asks
  sure_asked Identify h asks = came_same (At Identify) n base b k v t (plain_asked Identify h asks refl refl)
  sure_asked WriteAbort h asks = came_same (At WriteAbort) n base b k v t (plain_asked WriteAbort h asks refl refl)
  sure_asked CheckCtrlStat h asks =
      came_same (At CheckCtrlStat) n base b k v t (plain_asked CheckCtrlStat h asks refl refl)
  sure_asked Select h asks = came_same (At Select) n base b k v t (plain_asked Select h asks refl refl)
  sure_asked Power h asks = came_same (At Power) n base b k v t (plain_asked Power h asks refl refl)
  sure_asked Powered h asks = came_same (At Powered) n base b k v t (plain_asked Powered h asks refl refl)
  sure_asked Configure h asks = came_same (At Configure) n base b k v t (plain_asked Configure h asks refl refl)
  sure_asked ReadCsw h asks = came_same (At ReadCsw) n base b k v t (plain_asked ReadCsw h asks refl refl)
  sure_asked Configured h asks = came_same (At Configured) n base b k v t (plain_asked Configured h asks refl refl)
  sure_asked WriteTar h asks = came_same (At WriteTar) n base b k v t (plain_asked WriteTar h asks refl refl)
  sure_asked Behind h asks = absurd h.has

  -- a request that meets the damage of the write before
  place_hurt : (p : HostStep) → EngineWriteDamaged p n b k s → PortAsks s (engine_request_for (At p) k.task) v t
      → HostAskOutcome (At p) n base (max b (engine_job_starts (At p) k.task)) k v t
  place_hurt CheckCtrlStat h asks = came_same (At CheckCtrlStat) n base b k v t
      (says_asked (At CheckCtrlStat) (host_ctrl_stat_at_rest n b k s (inr h)) (inr h) asks (λ x. x))
  place_hurt Powered h asks = came_same (At Powered) n base b k v t (powers_asked (inr h) asks)
  place_hurt Power h asks = host_ask_damaged Power n base b (max b 0) k v s t refl (le-max_left b 0) l h asks
  place_hurt ReadCsw h asks = host_ask_damaged ReadCsw n base b (max b 0) k v s t refl (le-max_left b 0) l h asks
  place_hurt Transfer h asks = host_ask_damaged Transfer n base b (max b 1) k v s t refl (le-max_left b 1) l h asks
  place_hurt Confirm h asks =
      host_ask_damaged Confirm n base b (max b (task_confirm_starts k.task)) k v s t refl (le-max_left b
      (task_confirm_starts k.task)) l h asks
  place_hurt _ h asks = absurd (let c = h.confirms in cc)

  pub job_asked : (job : Job) → EngineBefore job n b k s → PortAsks s (engine_request_for job k.task) v t
      → HostAskOutcome job n base (max b (engine_job_starts job k.task)) k v t
  job_asked (At p) (inl h) asks = sure_asked p h asks
  job_asked (At p) (inr h) asks = place_hurt p h asks
  job_asked (Resend p) h asks = came_same (Resend p) n base b k v t (host_ask_resend p h.0 n base b k v s t l h.1 asks)
  job_asked (Status p) h asks =
      came_same (Status p) n base b k v t (says_asked (Status p) (host_refused_at_rest p n b k s h) h asks (λ x. x))
  job_asked LastStatus h asks = absurd h
  job_asked (Clear p owed) h asks =
      let r : HostAtRest s = host_facts_at_rest owed.error p b k s h.facts in
      came_same (Clear p owed) n base b k v t
      (host_ask_abort (Clear p owed) n base b k v s t (λ c. EngineOwesFlags p owed c b k t) r.select r.live r.pending l
      h asks (λ n' f e more. owes_framed n n' b k s t f e more p owed h) (λ w. w))
  job_asked (Check p owed) h asks =
      came_same (Check p owed) n base b k v t
      (says_asked (Check p owed) (host_checks_at_rest p owed n b k s h) h asks (λ x. x))

-- SELECT is 0 before each request
pub host_job_select : (job : Job) (n b : ℕ) (k : EngineHand) (s : Port) → EngineBefore job n b k s
    → s.target.select ≡ port_select_zero
host_job_select job n b k s h = grind arith

-- what an acknowledgement tells the engine
pub engine_saw_outcome : (job : Job) (n : ℕ) (base : EngineBase) (b : ℕ) (k : EngineHand) (v : ℕ) (t : Port)
    → t.target.select ≡ port_select_zero → HostAskOutcome job n base b k v t → EngineSawResult job v n base b k t
engine_saw_outcome job n base b k v t select h = grind arith

-- a request that may be sent gets OK, WAIT, FAULT or no ACK, each with what the engine has to know after it
pub engine_saw_ask : (job : Job) (n : ℕ) (base : EngineBase) (b : ℕ) (k : EngineHand) (v : ℕ) (s t : Port)
    → base.lost ≤ s.tally.lost → IsTask k.task → EngineBefore job n b k s
    → PortAsks s (engine_request_for job k.task) v t
    → EngineSawResult job v n base (max b (engine_job_starts job k.task)) k t
engine_saw_ask job n base b k v s t l ok h asks =
    engine_saw_outcome job n base (max b (engine_job_starts job k.task)) k v t
    ((port_request_counted (engine_request_for job k.task) v s t asks).select ∙ host_job_select job n b k s h)
    (job_asked n base b k v s t l ok job h asks)

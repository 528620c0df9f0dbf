-- What stays at the port stays known: the host's facts, by the fields that a step leaves unchanged.
use Rattle.swd_host.proofs.Words.{◌≡◌, ◌≢◌, ◌+◌, ◌≤◌, ℕ, Bool, true, false, refl, sym, ap, subst, inl, inr, arith, ◌∙◌}
use Rattle.swd_host.proofs.Words.{Option, None, ◌⊎◌, ◌||◌, if◌then◌else◌, Bus, bus_after, Port, Target}
use Rattle.swd_host.proofs.Words.{Register, DrwRead, AbortWrite, Live, PortCompletes, port_has_power, is_port_posted}
use Rattle.swd_host.proofs.Words.{Seen, PortIgnores, PortRefuses, PortAccepts, PortPassed, PortWritten}
use Rattle.swd_host.proofs.Words.{PortWriteSpoiled, PortSent, Flags, access_of_task, task_is_block, Ahead, Unsent}
use Rattle.swd_host.proofs.Words.{NextSent, NextFailed, HostStep, Powered, Configure, ReadCsw, Configured, WriteTar}
use Rattle.swd_host.proofs.Words.{Transfer, Confirm, Behind, Job, At, Resend, Status, LastStatus, Clear, Check}
use Rattle.swd_host.proofs.Words.{EngineHand, EngineTargetCalm, EnginePlaceHas, EnginePlaceIsSure, EngineWriteDamaged}
use Rattle.swd_host.proofs.Words.{EngineFlagCause, EngineMetFlag, by_damage, by_error, EngineOwesFlags}
use Rattle.swd_host.proofs.Words.{EngineChecksFlags, cleared, kept, EngineWordReturned, EngineResendWord, EngineBefore}
use Rattle.swd_host.proofs.Words.{EngineMemoryWithin, EngineAllowsMemory, within_none, within_first, within_both}
use Rattle.swd_host.proofs.Words.{memory_once_task_done, block_next_hand, TaskDoneWithAhead, task_ahead}
use Rattle.swd_host.proofs.Words.{EngineMetBusError, own_error, next_error}
use Rattle.swd_port.specs.Answers.{is_port_unpowered}
use Rattle.swd_port.specs.Outcomes.{PortDefers}
use Rattle.swd_port.specs.Transfers.{idle}
use Rattle.swd_port.proofs.CompletionLaws.{port_sent_becomes, port_sent_memory, port_becomes_stays}
use Rattle.swd_port.proofs.CompletionLaws.{port_becomes_carried, port_becomes_completed}
use Rattle.swd_port.proofs.RequestLaws.{port_lost_request}

-- the fields that the host's facts are about, the flags and the counts aside
pub record HostFrame (s t : Port) : Type 0 where
  pub reset : t.target.reset ≡ s.target.reset
  pub select : t.target.select ≡ s.target.select
  pub pending : t.target.pending ≡ s.target.pending
  pub memory : t.target.memory ≡ s.target.memory
  pub tar : t.target.tar ≡ s.target.tar
  pub debug : t.target.debug_power ≡ s.target.debug_power
  pub system : t.target.system_power ≡ s.target.system_power
  pub debug_seen : s.target.debug_up ≡ Seen → t.target.debug_up ≡ Seen
  pub system_seen : s.target.system_up ≡ Seen → t.target.system_up ≡ Seen
  pub increments : t.target.increments ≡ s.target.increments
  pub buffer : t.target.buffer ≡ s.target.buffer
  pub last_returned : t.target.last_returned ≡ s.target.last_returned
  pub identification : t.target.identification ≡ s.target.identification

-- the flags too
pub record HostSameFlags (s t : Port) : Type 0 where
  pub sticky : t.target.sticky_error ≡ s.target.sticky_error
  pub write : t.target.write_error ≡ s.target.write_error

-- a target that differs in READOK and the flags alone
framed : (s t : Port) (ok error write : Bool) → t.target ≡ record s.target {
  read_ok = ok;
  sticky_error = error;
  write_error = write;
} → HostFrame s t
framed s t ok error write h = record {
  reset = ap (λ i. i.reset) h;
  select = ap (λ i. i.select) h;
  pending = ap (λ i. i.pending) h;
  memory = ap (λ i. i.memory) h;
  tar = ap (λ i. i.tar) h;
  debug = ap (λ i. i.debug_power) h;
  system = ap (λ i. i.system_power) h;
  debug_seen = λ e. ap (λ i. i.debug_up) h ∙ e;
  system_seen = λ e. ap (λ i. i.system_up) h ∙ e;
  increments = ap (λ i. i.increments) h;
  buffer = ap (λ i. i.buffer) h;
  last_returned = ap (λ i. i.last_returned) h;
  identification = ap (λ i. i.identification) h;
}

-- an unchanged target has these fields unchanged
pub host_frame_unchanged : (s t : Port) → t.target ≡ s.target → HostFrame s t
host_frame_unchanged s t h = framed s t s.target.read_ok s.target.sticky_error s.target.write_error h

pub host_flags_unchanged : (s t : Port) → t.target ≡ s.target → HostSameFlags s t
host_flags_unchanged s t h = record { sticky = ap (λ i. i.sticky_error) h; write = ap (λ i. i.write_error) h }

-- a call that changes neither the target nor the counts leaves these fields unchanged
pub host_frame_passed : (s t : Port) → PortPassed s t → HostFrame s t
host_frame_passed s t h = host_frame_unchanged s t h.target

-- such a call leaves the flags unchanged
pub host_flags_passed : (s t : Port) → PortPassed s t → HostSameFlags s t
host_flags_passed s t h = host_flags_unchanged s t h.target

-- a request that is answered WAIT leaves these fields unchanged
pub host_frame_wait : (r : Register) (s t : Port) → PortDefers r s t → HostFrame s t
host_frame_wait r s t h = framed s t
    (if is_port_posted r then false else s.target.read_ok) s.target.sticky_error s.target.write_error h.target

-- a request that is answered WAIT leaves the flags unchanged
pub host_flags_wait : (r : Register) (s t : Port) → PortDefers r s t → HostSameFlags s t
host_flags_wait r s t h = record {
  sticky = ap (λ i. i.sticky_error) h.target;
  write = ap (λ i. i.write_error) h.target;
}

-- a request that is answered FAULT leaves these fields unchanged
pub host_frame_fault : (r : Register) (access : Bool) (s t : Port) → PortRefuses r access s t → HostFrame s t
host_frame_fault r access s t h = framed s t (if is_port_posted r then false else s.target.read_ok)
    (s.target.sticky_error || is_port_unpowered access (port_has_power s.target)) s.target.write_error h.target

-- a request that is answered FAULT leaves the flags unchanged, if an access port that it addresses has power
pub host_flags_fault : (r : Register) (access : Bool) (s t : Port) → (access ≡ true → port_has_power s.target ≡ true)
    → PortRefuses r access s t → HostSameFlags s t
host_flags_fault r access s t power h = grind arith

-- a write whose data was corrupted leaves these fields unchanged
pub host_frame_spoiled : (s t : Port) → PortWriteSpoiled s t → HostFrame s t
host_frame_spoiled s t h = framed s t s.target.read_ok s.target.sticky_error true h.target

-- a write of ABORT leaves these fields unchanged
pub host_frame_abort : (word : ℕ) (s t : Port) → PortWritten AbortWrite word s t → HostFrame s t
host_frame_abort word s t h = grind arith

-- there is debug power, then
pub host_debug_power : (x : Target) → x.debug_power ≡ true → x.debug_up ≡ Seen → port_has_power x ≡ true
host_debug_power x debug seen = rw (debug, seen) refl

-- an accepted request that isn't a posted read
pub host_frame_okay : (r : Register) (read : Bool) (flip : Option ℕ) (s t : Port) → is_port_posted r ≡ false
    → s.target.reset ≡ Live → PortAccepts r read flip s t → HostFrame s t
host_frame_okay r read flip s t plain live h = grind arith

-- so is every flag
pub host_flags_okay : (r : Register) (read : Bool) (flip : Option ℕ) (s t : Port) → is_port_posted r ≡ false
    → PortAccepts r read flip s t → HostSameFlags s t
host_flags_okay r read flip s t plain h = grind arith

-- a live target at rest with STICKYERR clear stays so, where these fields and STICKYERR are unchanged
pub host_calm_framed : (m : Bus) (s t : Port) → HostFrame s t → t.target.sticky_error ≡ s.target.sticky_error
    → EngineTargetCalm m s.target → EngineTargetCalm m t.target
host_calm_framed m s t f e h = grind arith

-- where they are, what holds before a place's request, WDATAERR aside, stays with as many accesses in flight or more
pub host_place_framed : (p : HostStep) (b c : ℕ) (k : EngineHand) (s t : Port) → b ≤ c → HostFrame s t
    → t.target.sticky_error ≡ s.target.sticky_error → EnginePlaceHas p b k s.target → EnginePlaceHas p c k t.target
host_place_framed p b c k s t g f e h = grind arith

-- a bus error's facts say nothing of STICKYERR
pub host_facts_framed : (error : Bool) (p : HostStep) (b : ℕ) (k : EngineHand) (s t : Port) → HostFrame s t
    → (error ≡ false → t.target.sticky_error ≡ s.target.sticky_error) → EngineFlagCause error p b k s.target
    → EngineFlagCause error p b k t.target
host_facts_framed error p b k s t f e h = grind arith

-- n events that were paid for at s, and n' at t
module _ (n n' : ℕ) (b : ℕ) (k : EngineHand) (s t : Port) (f : HostFrame s t) (e : HostSameFlags s t)
    (more : n' + s.tally.disturbed ≤ n + t.tally.disturbed) where
  -- what holds before a place's request where no write was corrupted stays
  pub sure_framed : (p : HostStep) → EnginePlaceIsSure p n b k s → EnginePlaceIsSure p n' b k t
  sure_framed p h = grind arith

  pub hurt_framed : (p : HostStep) → EngineWriteDamaged p n b k s → EngineWriteDamaged p n' b k t
  hurt_framed p h = grind arith

  pub refused_framed : (p : HostStep) → EngineMetFlag p n b k s → EngineMetFlag p n' b k t
  refused_framed p h = grind arith

  -- what is known of a word that RESEND returns again stays
  pub resent_framed : (p : HostStep) (word : ℕ) → EngineResendWord p word n b k s → EngineResendWord p word n' b k t
  resent_framed p word h = grind arith

  -- what is known where ABORT has to be written for these flags stays
  pub owes_framed : (p : HostStep) (owed : Flags) → EngineOwesFlags p owed n b k s → EngineOwesFlags p owed n' b k t
  owes_framed p owed h = grind arith

  pub checks_framed : (p : HostStep) (owed : Flags) → EngineChecksFlags p owed n b k s
      → EngineChecksFlags p owed n' b k t
  checks_framed p owed h = grind arith

  -- what is known before the request of any job stays
  pub before_framed : (job : Job) → EngineBefore job n b k s → EngineBefore job n' b k t
  before_framed job h =
      grind (arith, checks_framed, hurt_framed, owes_framed, refused_framed, resent_framed, sure_framed)

-- WITHIN
pub host_in_flight_carried : (b c : ℕ) (k : EngineHand) (s t : Port) → b ≤ c → t.target.pending ≡ s.target.pending
    → t.target.tar ≡ s.target.tar → t.target.memory ≡ s.target.memory → EngineMemoryWithin b k s.target
    → EngineMemoryWithin c k t.target
host_in_flight_carried b c k s t g p a e h =
    let more : (m : Bus) → EngineAllowsMemory b k m → EngineAllowsMemory c k m = λ m i. elim i [
      | within_none x ↦ within_none x
      | within_first begun x ↦ within_first (omega arith) x
      | within_both begun block x ↦ within_both (omega arith) block x
    ] in
    record {
      now = subst (EngineAllowsMemory c k) (sym e) (more s.target.memory h.now);
      later = h.later;
      becomes = port_becomes_carried h.later s.target t.target p a e h.becomes;
      ends = more h.later h.ends;
    }

-- completion leaves a memory that the accesses in flight allow
pub host_in_flight_completed : (b : ℕ) (k : EngineHand) (s t : Port) → PortCompletes s t
    → EngineMemoryWithin b k s.target → EngineMemoryWithin b k t.target
host_in_flight_completed b k s t (inl same) h = subst (λ i. EngineMemoryWithin b k i.target) (sym same) h
host_in_flight_completed b k s t (inr (c, i, same)) h = record {
  now = subst (EngineAllowsMemory b k) (sym
      (ap (λ x. x.target.memory) same ∙ port_becomes_completed h.later c s.target h.becomes)) h.ends;
  later = h.later;
  becomes = port_becomes_stays h.later s t (inr (c, i, same)) h.becomes;
  ends = h.ends;
}

-- the accesses in flight allow the memory from before the current access, where no transfer is pending
pub host_in_flight_idle : (b : ℕ) (k : EngineHand) (s : Port) → s.target.pending ≡ None → s.target.memory ≡ k.memory
    → EngineMemoryWithin b k s.target
host_in_flight_idle b k s p e = record {
  now = within_none e;
  later = k.memory;
  becomes = idle p e;
  ends = within_none refl;
}

-- they allow the memory after the current access, if that is in flight and no transfer is pending
pub host_in_flight_done : (b : ℕ) (k : EngineHand) (s : Port) → 1 ≤ b → s.target.pending ≡ None
    → s.target.memory ≡ bus_after (access_of_task k.task) k.memory → EngineMemoryWithin b k s.target
host_in_flight_done b k s g p e = record {
  now = within_first g e;
  later = bus_after (access_of_task k.task) k.memory;
  becomes = idle p e;
  ends = within_first g refl;
}

-- they allow the memory while the accepted transfer of the current access is pending, done or failed
pub host_in_flight_sent : (b : ℕ) (k : EngineHand) (s : Port) → 1 ≤ b
    → PortSent (access_of_task k.task) k.memory s.target → EngineMemoryWithin b k s.target
host_in_flight_sent b k s g h = record {
  now = elim (port_sent_memory (access_of_task k.task) k.memory s.target h) [
    | inl e ↦ within_none e
    | inr e ↦ within_first g e
  ];
  later = bus_after (access_of_task k.task) k.memory;
  becomes = port_sent_becomes (access_of_task k.task) k.memory s.target h;
  ends = within_first g refl;
}

-- what is known of the next access of a block is so of both
pub host_in_flight_next : (b : ℕ) (k : EngineHand) (s : Port) → 2 ≤ b → task_is_block k.task ≡ true
    → EngineMemoryWithin 1 (block_next_hand k.task (memory_once_task_done k)) s.target → EngineMemoryWithin b k s.target
host_in_flight_next b k s g block h =
    let more : (m : Bus) → EngineAllowsMemory 1 (block_next_hand k.task (memory_once_task_done k)) m
    → EngineAllowsMemory b k m =
    λ m i. elim i [
      | within_none x ↦ within_first (omega arith) x
      | within_first begun x ↦ within_both g block x
      | within_both begun never x ↦ absurd (omega arith)
    ] in
    record { now = more s.target.memory h.now; later = h.later; becomes = h.becomes; ends = more h.later h.ends }

-- before the request of each place the memory is one that the accesses in flight allow
pub host_place_in_flight : (p : HostStep) (b : ℕ) (k : EngineHand) (s : Port) → EnginePlaceHas p b k s.target
    → EngineMemoryWithin b k s.target
host_place_in_flight Powered b k s h = host_in_flight_idle b k s h.calm.pending h.calm.memory
host_place_in_flight Configure b k s h = host_in_flight_idle b k s h.calm.pending h.calm.memory
host_place_in_flight ReadCsw b k s h = host_in_flight_idle b k s h.calm.pending h.calm.memory
host_place_in_flight Configured b k s h = host_in_flight_idle b k s h.up.calm.pending h.up.calm.memory
host_place_in_flight WriteTar b k s h = host_in_flight_idle b k s h.up.calm.pending h.up.calm.memory
host_place_in_flight Transfer b k s h = host_in_flight_idle b k s h.up.calm.pending h.up.calm.memory
host_place_in_flight Confirm b k s h = host_in_flight_sent b k s h.begun h.sent
host_place_in_flight Behind b k s h = absurd h
host_place_in_flight _ b k s h = host_in_flight_idle b k s h.pending h.memory

bus_error_within : (p : HostStep) (b : ℕ) (k : EngineHand) (s : Port) → EngineMetBusError p b k s.target
    → EngineMemoryWithin b k s.target
bus_error_within p b k s (own_error h) = host_in_flight_done b k s h.begun h.pending h.memory
bus_error_within p b k s (next_error h) =
    host_in_flight_next b k s h.begun h.block (host_in_flight_done 1
    (block_next_hand k.task (memory_once_task_done k)) s (omega arith) h.broken.pending h.broken.memory)

facts_within : (error : Bool) (p : HostStep) (b : ℕ) (k : EngineHand) (s : Port) → EngineFlagCause error p b k s.target
    → EngineMemoryWithin b k s.target
facts_within true p b k s h = bus_error_within p b k s h
facts_within false p b k s h = host_place_in_flight h.back b k s h.has

refused_within : (p : HostStep) (n b : ℕ) (k : EngineHand) (s : Port) → EngineMetFlag p n b k s
    → EngineMemoryWithin b k s.target
refused_within p n b k s (by_damage h) = host_place_in_flight h.back b k s h.has
refused_within p n b k s (by_error h i w paid) = bus_error_within p b k s h

done_within : (ahead : Ahead) (b : ℕ) (k : EngineHand) (s : Port) → TaskDoneWithAhead ahead b k s.target
    → EngineMemoryWithin b k s.target
done_within Unsent b k s h = host_in_flight_done b k s h.begun h.up.calm.pending h.up.calm.memory
done_within NextSent b k s h =
    host_in_flight_next b k s h.0 h.1.0 (host_in_flight_sent 1 (block_next_hand k.task (memory_once_task_done k)) s
    h.1.1.begun h.1.1.sent)
done_within NextFailed b k s h =
    host_in_flight_next b k s h.0 h.1.0 (host_in_flight_done 1 (block_next_hand k.task (memory_once_task_done k)) s
    (omega arith) h.1.1.calm.pending h.1.1.calm.memory)

returned_within : (p : HostStep) (word : ℕ) (b : ℕ) (k : EngineHand) (s : Port) → EngineWordReturned p word b k s.target
    → EngineMemoryWithin b k s.target
returned_within Configured word b k s h = host_in_flight_idle b k s h.0.calm.pending h.0.calm.memory
returned_within Confirm word b k s h = done_within (task_ahead k.task) b k s h.0
returned_within Behind word b k s h = done_within NextFailed b k s h.0
returned_within _ word b k s h = absurd h

checks_within : (p : HostStep) (owed : Flags) (n b : ℕ) (k : EngineHand) (s : Port) → EngineChecksFlags p owed n b k s
    → EngineMemoryWithin b k s.target
checks_within p owed n b k s (cleared h i w paid) = facts_within owed.error p b k s h
checks_within p owed n b k s (kept h i w paid) = facts_within owed.error p b k s h

-- before the request of any job, also one after an error, the memory is one that the accesses in flight allow
pub host_job_in_flight : (job : Job) (n b : ℕ) (k : EngineHand) (s : Port) → EngineBefore job n b k s
    → EngineMemoryWithin b k s.target
host_job_in_flight (At p) n b k s (inl h) = host_place_in_flight p b k s h.has
host_job_in_flight (At p) n b k s (inr h) = host_place_in_flight h.back b k s h.has
host_job_in_flight (Resend p) n b k s h = returned_within p h.0 b k s h.1.returned
host_job_in_flight (Status p) n b k s h = refused_within p n b k s h
host_job_in_flight LastStatus n b k s h = absurd h
host_job_in_flight (Clear p owed) n b k s h = facts_within owed.error p b k s h.facts
host_job_in_flight (Check p owed) n b k s h = checks_within p owed n b k s h

-- EVENTS THAT WERE PAID FOR
pub host_job_events_paid : (job : Job) (n b : ℕ) (k : EngineHand) (s : Port) → EngineBefore job n b k s
    → n ≤ s.tally.disturbed
host_job_events_paid job n b k s h = grind arith

-- a lost request that starts no transfer
pub host_lost_in_flight : (r : Register) (read : Bool) (b c : ℕ) (k : EngineHand) (s t : Port) → b ≤ c
    → r ≢ DrwRead → PortIgnores s t ⊎ PortAccepts r read None s t → EngineMemoryWithin b k s.target
    → EngineMemoryWithin c k t.target
host_lost_in_flight r read b c k s t g n h w =
    let l = port_lost_request r read s t h in
    let p : t.target.pending ≡ s.target.pending = elim l.2 [ inl e ↦ e | inr e ↦ absurd (n e) ] in
    host_in_flight_carried b c k s t g p l.0.tar l.0.memory w

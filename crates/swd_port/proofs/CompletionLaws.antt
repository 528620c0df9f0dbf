-- Laws of completion: the pending transfer takes effect, or not yet.
use Rattle.std.proofs.Common.{◌≡◌, ◌≢◌, ◌+◌, ◌%◌, ◌<◌, ◌^◌, ℕ, Bool, true, false, refl, sym, ap, subst, inl, inr, arith}
use Rattle.std.proofs.Common.{◌∙◌}
use Rattle.std.specs.Prelude.{Option, Some, None, ◌⊎◌, ◌||◌, not, unwrap_or}
use Rattle.swd_port.specs.declared.access.Access.{Access}
use Rattle.swd_port.specs.declared.access.Access.TheVariants.{Read, Write}
use Rattle.swd_port.specs.Bus.{Bus, bus_after, bus_succeeds}
use Rattle.swd_port.specs.PlainMemory.{plain_address}
use Rattle.swd_port.specs.Port.{Port, Target, Drw, TarWrite, DrwRead, DrwWrite}
use Rattle.swd_port.specs.Choices.{Choice}
use Rattle.swd_port.specs.Completion.{PortCompletes, port_completed, port_completion, memory_after_pending}
use Rattle.swd_port.specs.Completion.{pending_access_at, port_tar_next_address}
use Rattle.swd_port.specs.Becoming.{MayBecome}
use Rattle.swd_port.specs.Asking.{is_pending_write}
use Rattle.swd_port.specs.Laws.Completion.{PortMayBecomeOfNone}
use Rattle.swd_port.specs.Moves.{PortKept, PortWritten}
use Rattle.swd_port.specs.Outcomes.{PortAccepts}
use Rattle.swd_port.specs.Transfers.{PortSent, owed, gone, failed, PortBuffered, PortTarAdvanced, PortBecomes, idle}
use Rattle.swd_port.specs.Transfers.{pends, pending_drw_of, PortCarries, PortAimed, PortSucceeded, PortFailed}

-- nothing pending: nothing happens
pub no_pending_same_target : (c : Choice) (x : Target) → x.pending ≡ None → port_completion c x ≡ x
no_pending_same_target c x p = grind arith

-- the same for the whole state: without a pending transfer a completion changes nothing
pub no_pending_same_port : (c : Choice) (s : Port) → s.target.pending ≡ None → port_completed c s ≡ s
no_pending_same_port c s p = ap (λ x. record s { target = x }) (no_pending_same_target c s.target p)

-- without a pending transfer the state after a possible completion is the state before it
pub no_pending_same : (s t : Port) → s.target.pending ≡ None → PortCompletes s t → t ≡ s
no_pending_same s t none (inl e) = e
no_pending_same s t none (inr (c, fits, e)) = e ∙ no_pending_same_port c s none

stuck : (b : Bool) → b ≡ true → (c : Bool) → (b || c) ≡ true
stuck b e c = rw e refl

-- all that it keeps
kept_done : (c : Choice) (s : Port) → PortKept s (port_completed c s)
kept_done c s = record {
  link = refl;
  tally = refl;
  reset = refl;
  write_error = refl;
  read_ok = refl;
  debug_power = refl;
  system_power = refl;
  debug_up = refl;
  system_up = refl;
  select = refl;
  increments = refl;
  last_returned = refl;
  identification = refl;
  sticky_error = λ set. stuck _ set _;
  pending = inr refl;
}

kept_same : (s : Port) → PortKept s s
kept_same s = record {
  link = refl;
  tally = refl;
  reset = refl;
  write_error = refl;
  read_ok = refl;
  debug_power = refl;
  system_power = refl;
  debug_up = refl;
  system_up = refl;
  select = refl;
  increments = refl;
  last_returned = refl;
  identification = refl;
  sticky_error = λ set. set;
  pending = inl refl;
}

-- a possible completion changes at most TAR, the read buffer, the memory, STICKYERR, which it may set, and the
-- pending transfer, of which it may leave none
pub port_kept : (s t : Port) → PortCompletes s t → PortKept s t
port_kept s t (inl e) = subst (PortKept s) (sym e) (kept_same s)
port_kept s t (inr (c, fits, e)) = subst (PortKept s) (sym e) (kept_done c s)

-- two completions are one
pub port_completion_twice : (s t u : Port) → PortCompletes s t → PortCompletes t u → PortCompletes s u
port_completion_twice s t u (inl e) second = subst (λ p. PortCompletes p u) e second
port_completion_twice s t u (inr (c, fits, e)) second =
    inr (c, fits, no_pending_same t u (ap (λ p. p.target.pending) e) second ∙ e)

-- none is one
pub port_completion_not_yet : (s : Port) → PortCompletes s s
port_completion_not_yet s = inl refl

-- a fact that a completion keeps is kept where one may happen
pub port_completion_keeps_fact : (P : Target → Type 0) → ((c : Choice) (x : Target) → P x → P (port_completion c x))
    → (s t : Port) → PortCompletes s t → P s.target → P t.target
port_completion_keeps_fact P keeps s t (inl e) h = subst (λ p. P p.target) (sym e) h
port_completion_keeps_fact P keeps s t (inr (c, fits, e)) h = subst (λ p. P p.target) (sym e) (keeps c s.target h)

-- the transfer that is pending for an access
pub pending_access_same : (access : Access) → pending_access_at (plain_address access) (pending_drw_of access) ≡ access
pending_access_same (Read at) = refl
pending_access_same (Write at word) = refl

done_error : (c : Choice) (access : Access) (m : Bus) (x : Target) (b : Bool)
    → x.tar ≡ Some (plain_address access)
    → x.pending ≡ Some (pending_drw_of access) → x.memory ≡ m → x.sticky_error ≡ false →
    bus_succeeds access m ≡ b → (port_completion c x).sticky_error ≡ not b
done_error c (Read at) m x b tar pending memory error fits = rw (error, pending, tar, memory, fits)
done_error c (Write at word) m x b tar pending memory error fits = rw (error, pending, tar, memory, fits)

pub pending_done_memory : (c : Choice) (access : Access) (x : Target) → x.tar ≡ Some (plain_address access)
    → x.pending ≡ Some (pending_drw_of access) → (port_completion c x).memory ≡ bus_after access x.memory
pending_done_memory c access x tar pending =
    rw (pending, tar) (ap (λ a. bus_after a x.memory) (pending_access_same access))

done_buffer : (c : Choice) (access : Access) (m : Bus) (x : Target) → x.tar ≡ Some (plain_address access)
    → x.pending ≡ Some (pending_drw_of access) → x.memory ≡ m →
    bus_succeeds access m ≡ true → PortBuffered access m (port_completion c x)
done_buffer c (Read at) m x tar pending memory fits = rw (pending, tar, memory, fits) refl
done_buffer c (Write at word) m x tar pending memory fits = tt

-- a bus error leaves them unknown
lost_tar : (c : Choice) (access : Access) (m : Bus) (x : Target) → x.tar ≡ Some (plain_address access)
    → x.pending ≡ Some (pending_drw_of access) → x.memory ≡ m →
    bus_succeeds access m ≡ false → (port_completion c x).tar ≡ None
lost_tar c (Read at) m x tar pending memory fits = rw (pending, tar, memory, fits) refl
lost_tar c (Write at word) m x tar pending memory fits = rw (pending, tar, memory, fits) refl

lost_buffer : (c : Choice) (access : Access) (m : Bus) (x : Target) → x.tar ≡ Some (plain_address access)
    → x.pending ≡ Some (pending_drw_of access) → x.memory ≡ m →
    bus_succeeds access m ≡ false → (port_completion c x).buffer ≡ None
lost_buffer c (Read at) m x tar pending memory fits = rw (pending, tar, memory, fits) refl
lost_buffer c (Write at word) m x tar pending memory fits = rw (pending, tar, memory, fits) refl

-- the next address inside a kilobyte
next_inside : (at : ℕ) → at % 4 ≡ 0 → (at + 4) % 1024 ≢ 0 → port_tar_next_address at ≡ Some (at + 4)
next_inside at aligned inside = let below : at % 1024 + 4 < 1024 = omega arith in grind arith

next_tar : (c : Choice) (access : Access) (m : Bus) (x : Target) → x.tar ≡ Some (plain_address access)
    → x.pending ≡ Some (pending_drw_of access) → x.memory ≡ m → bus_succeeds access m ≡ true → x.increments ≡ true
    → (port_completion c x).tar ≡ port_tar_next_address (plain_address access)
next_tar c (Read at) m x tar pending memory fits increments = rw (pending, tar, memory, fits, increments) refl
next_tar c (Write at word) m x tar pending memory fits increments = rw (pending, tar, memory, fits, increments) refl

done_tar : (c : Choice) (access : Access) (m : Bus) (x : Target) → x.tar ≡ Some (plain_address access)
    → x.pending ≡ Some (pending_drw_of access) → x.memory ≡ m →
    bus_succeeds access m ≡ true → PortTarAdvanced (plain_address access) (port_completion c x)
done_tar c access m x tar pending memory fits increments aligned range inside =
    next_tar c access m x tar pending memory fits increments ∙ next_inside (plain_address access) aligned inside

stays_buffered : (access : Access) (m : Bus) (x y : Target) → y.buffer ≡ x.buffer → PortBuffered access m x
    → PortBuffered access m y
stays_buffered (Read at) m x y e h = e ∙ h
stays_buffered (Write at word) m x y e h = tt

-- the life of a transfer
pub port_sent_completed : (access : Access) (m : Bus) (c : Choice) (x : Target) → PortSent access m x
    → PortSent access m (port_completion c x)
port_sent_completed access m c x (owed pending tar memory error) =
    elim (bus_succeeds access m) as
    (λ b. bus_succeeds access m ≡ b → PortSent access m (port_completion c x)) [
      | true ↦ λ fits. gone fits refl
          (pending_done_memory c access x tar pending ∙ ap (bus_after access) memory)
          (done_error c access m x true tar pending memory error fits)
          (done_buffer c access m x tar pending memory fits) (done_tar c access m x tar pending memory fits)
      | false ↦ λ fits. failed fits refl
          (pending_done_memory c access x tar pending ∙ ap (bus_after access) memory)
          (done_error c access m x false tar pending memory error fits)
          (lost_tar c access m x tar pending memory fits) (lost_buffer c access m x tar pending memory fits)
    ] refl
port_sent_completed access m c x (gone fits pending memory error buffered advanced) = subst (PortSent access m)
    (sym (no_pending_same_target c x pending)) (gone fits pending memory error buffered advanced)
port_sent_completed access m c x (failed fits pending memory error tar buffer) = subst (PortSent access m)
    (sym (no_pending_same_target c x pending)) (failed fits pending memory error tar buffer)

-- a sent transfer, pending, done or failed, is one of these after a possible completion, too
pub port_sent_stays : (access : Access) (m : Bus) (s t : Port) → PortCompletes s t → PortSent access m s.target
    → PortSent access m t.target
port_sent_stays access m s t may = port_completion_keeps_fact (PortSent access m) (port_sent_completed access m) s t may

-- the memory that is bound to be
pub port_becomes_done : (m : Bus) (c : Choice) (x : Target) → PortBecomes m x
    → PortBecomes m (port_completion c x)
port_becomes_done m c x (idle pending memory) =
    subst (PortBecomes m) (sym (no_pending_same_target c x pending)) (idle pending memory)
port_becomes_done m c x (pends access pending tar memory) =
    idle refl (pending_done_memory c access x tar pending ∙ memory)

-- a possible completion keeps the memory that `PortBecomes` states
pub port_becomes_stays : (m : Bus) (s t : Port) → PortCompletes s t → PortBecomes m s.target
    → PortBecomes m t.target
port_becomes_stays m s t may = port_completion_keeps_fact (PortBecomes m) (port_becomes_done m) s t may

-- a sent transfer, pending, done or failed, leaves the memory after the plain access, once none is pending
pub port_sent_becomes : (access : Access) (m : Bus) (x : Target) → PortSent access m x
    → PortBecomes (bus_after access m) x
port_sent_becomes access m x (owed pending tar memory error) = pends access pending tar (ap (bus_after access) memory)
port_sent_becomes access m x (gone fits pending memory error buffered advanced) = idle pending memory
port_sent_becomes access m x (failed fits pending memory error tar buffer) = idle pending memory

-- what has the same fields has the same transfer
pub port_sent_carried : (access : Access) (m : Bus) (x y : Target) → PortCarries x y → PortSent access m x
    → PortSent access m y
port_sent_carried access m x y f (owed pending tar memory error) = owed (f.pending ∙ pending) (f.tar ∙ tar)
    (f.memory ∙ memory) (f.sticky_error ∙ error)
port_sent_carried access m x y f (gone fits pending memory error buffered advanced) =
    gone fits (f.pending ∙ pending) (f.memory ∙ memory) (f.sticky_error ∙ error)
    (stays_buffered access m x y f.buffer buffered)
    (λ increments aligned range inside. f.tar ∙ advanced (sym f.increments ∙ increments) aligned range inside)
port_sent_carried access m x y f (failed fits pending memory error tar buffer) =
    failed fits (f.pending ∙ pending) (f.memory ∙ memory) (f.sticky_error ∙ error) (f.tar ∙ tar) (f.buffer ∙ buffer)

-- a state with the same pending transfer, TAR and memory keeps the memory that `PortBecomes` states
pub port_becomes_carried : (m : Bus) (x y : Target) → y.pending ≡ x.pending → y.tar ≡ x.tar
    → y.memory ≡ x.memory → PortBecomes m x → PortBecomes m y
port_becomes_carried m x y e f g (idle pending memory) = idle (e ∙ pending) (g ∙ memory)
port_becomes_carried m x y e f g (pends access pending tar memory) = pends access (e ∙ pending) (f ∙ tar)
    (ap (bus_after access) g ∙ memory)

-- what the host learns of it
pub port_sent_succeeds : (access : Access) (m : Bus) (x : Target) → x.pending ≡ None → x.sticky_error ≡ false
    → PortSent access m x → PortSucceeded access m x
port_sent_succeeds access m x none fine (owed pending tar memory error) = absurd (cc)
port_sent_succeeds access m x none fine (gone fits pending memory error buffered advanced) =
    record {
      answer = rw fits refl;
      memory = memory;
      pending = none;
      sticky_error = fine;
      buffered = buffered;
      advanced = advanced;
    }
port_sent_succeeds access m x none fine (failed fits pending memory error tar buffer) = absurd (cc)

-- once no transfer is pending, a set STICKYERR shows that the sent one was a bus error
pub port_sent_fails : (access : Access) (m : Bus) (x : Target) → x.pending ≡ None → x.sticky_error ≡ true
    → PortSent access m x → PortFailed access m x
port_sent_fails access m x none bad (owed pending tar memory error) = absurd (cc)
port_sent_fails access m x none bad (gone fits pending memory error buffered advanced) = absurd (cc)
port_sent_fails access m x none bad (failed fits pending memory error tar buffer) =
    record {
      answer = rw fits refl;
      memory = memory;
      pending = none;
      sticky_error = bad;
      tar = tar;
      buffer =
          buffer;
    }

-- once no transfer is pending, the memory that `PortBecomes` states is the target's
pub port_becomes_is : (m : Bus) (x : Target) → x.pending ≡ None → PortBecomes m x → x.memory ≡ m
port_becomes_is m x none (idle pending memory) = memory
port_becomes_is m x none (pends access pending tar memory) = absurd (cc)

-- how it begins
pub port_drw_read_sent : (at : ℕ) (m : Bus) (flip : Option ℕ) (s t : Port) → PortAimed at m s.target
    → PortAccepts DrwRead true flip s t → PortSent (Read at) m t.target
port_drw_read_sent at m flip s t h a = subst (PortSent (Read at) m) (sym a.target)
    (owed refl h.tar h.memory h.sticky_error)

-- a DRW write whose word arrived, where TAR is known, none is pending and STICKYERR is clear, is a sent transfer at
-- that address
pub port_drw_write_sent : (at word : ℕ) (m : Bus) (s t : Port) → PortAimed at m s.target
    → PortWritten DrwWrite word s t → PortSent (Write at word) m t.target
port_drw_write_sent at word m s t h g = subst (PortSent (Write at word) m) (sym g.target)
    (owed refl h.tar h.memory h.sticky_error)

-- the memory that `PortBecomes` states is the target's once the pending transfer took effect, whatever the target
-- chooses
pub port_becomes_completed : (m : Bus) (c : Choice) (x : Target) → PortBecomes m x
    → (port_completion c x).memory ≡ m
port_becomes_completed m c x h = port_becomes_is m (port_completion c x) refl (port_becomes_done m c x h)

-- while a sent transfer is pending, done or failed, the memory is that before it or that after it
pub port_sent_memory : (access : Access) (m : Bus) (x : Target) → PortSent access m x
    → (x.memory ≡ m) ⊎ (x.memory ≡ bus_after access m)
port_sent_memory access m x (owed pending tar memory error) = inl memory
port_sent_memory access m x (gone fits pending memory error buffered advanced) = inr memory
port_sent_memory access m x (failed fits pending memory error tar buffer) = inr memory

-- a TAR write whose word arrived aims at this word, where no transfer is pending and STICKYERR is clear
pub port_aimed_by_tar : (at : ℕ) (m : Bus) (s t : Port) → s.target.memory ≡ m → s.target.pending ≡ None
    → s.target.sticky_error ≡ false → PortWritten TarWrite at s t → PortAimed at m t.target
port_aimed_by_tar at m s t memory none fine g = subst (PortAimed at m) (sym g.target)
    (record { tar = refl; memory = memory; pending = none; sticky_error = fine })

-- with AddrInc single a transfer that was done aims at the next word, except at the end of a kilobyte
pub port_aimed_by_transfer : (access : Access) (m : Bus) (x : Target) → PortSucceeded access m x
    → x.increments ≡ true → plain_address access % 4 ≡ 0 → plain_address access < 2 ^ 32 →
    (plain_address access + 4) % 1024 ≢ 0 → PortAimed (plain_address access + 4) (bus_after access m) x
port_aimed_by_transfer access m x h increments aligned range inside =
    record {
      tar = h.advanced increments aligned range inside;
      memory = h.memory;
      pending = h.pending;
      sticky_error =
          h.sticky_error;
    }

-- a state with the same TAR, memory, pending transfer and STICKYERR is aimed at the same address
pub port_aimed_carried : (at : ℕ) (m : Bus) (x y : Target) → y.tar ≡ x.tar → y.memory ≡ x.memory
    → y.pending ≡ x.pending → y.sticky_error ≡ x.sticky_error → PortAimed at m x → PortAimed at m y
port_aimed_carried at m x y e f g h aimed =
    record {
      tar = e ∙ aimed.tar;
      memory = f ∙ aimed.memory;
      pending = g ∙ aimed.pending;
      sticky_error = h
          ∙ aimed.sticky_error;
    }

-- what the memory may become
memory_same : (c : Choice) (x y : Target) → y.pending ≡ x.pending → y.tar ≡ x.tar → y.memory ≡ x.memory
    → (port_completion c y).memory ≡ (port_completion c x).memory
memory_same c x y p a e =
    let f : Option Drw → Option ℕ → Bus → Bus =
    (λ i j k. memory_after_pending i (unwrap_or j c.address) k) in
    ap (λ i. f i y.tar y.memory) p ∙ (ap (λ j. f x.pending j y.memory) a ∙ ap (λ k. f x.pending x.tar k) e)

-- what the memory may become after a possible completion, it might have become before it
pub port_may_become_stays : (m : Bus) (s t : Port) → PortCompletes s t → MayBecome t m → MayBecome s m
unfolding MayBecome
port_may_become_stays m s t (inl e) h = subst (λ p. MayBecome p m) e h
port_may_become_stays m s t (inr (c, fits, e)) (inl given) =
    absurd (let none : is_pending_write t.target.pending ≡ false = ap (λ p. is_pending_write p.target.pending) e in
    let write : is_pending_write t.target.pending ≡ true = given.0 in cc)
port_may_become_stays m s t (inr (c, fits, e)) (inr (d, more, is)) =
    let none : t.target.pending ≡ None = ap (λ p. p.target.pending) e in
    inr (c, fits, is ∙ ap (λ p. p.target.memory) (no_pending_same_port d t none) ∙ ap (λ p. p.target.memory) e)

-- what the memory may become, it may become in each state with the same pending transfer, TAR and memory
pub port_may_become_carried : (m : Bus) (s t : Port) → t.target.pending ≡ s.target.pending
    → t.target.tar ≡ s.target.tar → t.target.memory ≡ s.target.memory → MayBecome t m → MayBecome s m
unfolding MayBecome
port_may_become_carried m s t p a e (inl given) = inl (ap is_pending_write (sym p) ∙ given.0, given.1 ∙ e)
port_may_become_carried m s t p a e (inr (c, fits, is)) =
    inr (c, fits, is ∙ memory_same c s.target t.target p a e)

abbrev any_choice : Choice
any_choice =
    record {
      address = 0;
      filler = 0;
      others = 0;
      elsewhere = 0;
      refuses = false;
      debug_late = false;
      system_late = false;
    }

may_become_same : (s : Port) → s.target.pending ≡ None → MayBecome s s.target.memory
unfolding MayBecome
may_become_same s none = inr (
  any_choice,
  record { address = omega arith; filler = omega arith; others = omega arith; elsewhere = omega arith },
  sym
      (ap (λ p. p.target.memory) (no_pending_same_port any_choice s none)),
)

may_become_only : (m : Bus) (s : Port) → s.target.pending ≡ None → MayBecome s m → m ≡ s.target.memory
unfolding MayBecome
may_become_only m s none (inl given) =
    absurd (let write : is_pending_write s.target.pending ≡ true = given.0 in grind arith)
may_become_only m s none (inr (c, fits, is)) = is ∙ ap (λ p. p.target.memory) (no_pending_same_port c s none)

-- without a pending transfer the memory may become what it is, and nothing else
pub port_may_become_of_none : PortMayBecomeOfNone
port_may_become_of_none = record { same = may_become_same; only = may_become_only }

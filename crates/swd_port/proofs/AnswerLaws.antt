-- Laws of answers and of what the host sees of them.
use Rattle.std.proofs.Common.{◌≡◌, ◌≢◌, ℕ, zero, suc, ◌<◌, Bool, true, false, refl, inl, inr, arith}
use Rattle.std.specs.Prelude.{◌==◌, ◌||◌, not, if◌then◌else◌}
use Rattle.swd_bits.specs.declared.ack.Ack.{Ack}
use Rattle.swd_bits.specs.declared.ack.Ack.TheVariants.{Ok as AckOk, Wait as AckWait, Fault as AckFault}
use Rattle.swd_bits.specs.Bits.{bits_number}
use Rattle.swd_bits.specs.Acks.{bits_of_ack}
use Rattle.swd_port.specs.declared.wire.Due.TheVariants.{Lost}
use Rattle.swd_port.specs.Port.{Register, Reset}
use Rattle.swd_port.specs.Choices.{Mark, Clean, Wait, Flip, Deaf, Mute, IsPortMark, is_port_wait, is_port_deaf}
use Rattle.swd_port.specs.Answers.{Reply, Okay, Waits, Faults, Silent, port_answer_by, port_may_wait}
use Rattle.swd_port.specs.Laws.Answers.{PortMayAnswer}
use Rattle.swd_port.specs.Answers.{port_reply_under, port_ack_driven, port_seen_at, PortSees, IsPortNoAck}
use Rattle.swd_port.specs.Answers.{port_due_after, port_is_answered, is_exempt_register}

answer_by : (a b c : Bool) → (if not a then Silent else if b then Okay else if c then Faults else Okay) ≢ Waits
answer_by true true c = λ e. cc
answer_by true false true = λ e. cc
answer_by true false false = λ e. cc
answer_by false b c = λ e. cc

-- a target's answer is never WAIT, which it may give before it has one
pub port_answer_never_wait : (reset : Reset) (sticky write unpowered : Bool) (r : Register)
    → port_answer_by reset sticky write unpowered r ≢ Waits
port_answer_never_wait reset sticky write unpowered r = answer_by (port_is_answered reset r) (is_exempt_register r)
    (sticky || write || unpowered)

allowed_if : (b : Bool) (r : Register) (a : Reply) → port_may_wait r a ≡ b → PortMayAnswer r a (if b then Waits else a)
allowed_if true r a e = inr (e, refl)
allowed_if false r a e = inl refl

pub port_reply_allowed : (mark : Mark) (r : Register) (a : Reply) → is_port_deaf mark ≡ false
    → PortMayAnswer r a (port_reply_under mark r a)
port_reply_allowed Clean r a seen = inl refl
port_reply_allowed Wait r a seen = allowed_if (port_may_wait r a) r a refl
port_reply_allowed (Flip place) r a seen = inl refl
port_reply_allowed Deaf r a seen = absurd cc
port_reply_allowed (Mute place) r a seen = inl refl

pub port_wait_at_wait_mark : (r : Register) (a : Reply) → port_may_wait r a ≡ true → port_reply_under Wait r a ≡ Waits
port_wait_at_wait_mark r a e = rw e refl

pub port_wait_at_wait_mark_only : (mark : Mark) (r : Register) (a : Reply) → a ≢ Waits
    → port_reply_under mark r a ≡ Waits → is_port_wait mark ≡ true
port_wait_at_wait_mark_only Clean r a other e = absurd (other e)
port_wait_at_wait_mark_only Wait r a other e = refl
port_wait_at_wait_mark_only (Flip place) r a other e = absurd (other e)
port_wait_at_wait_mark_only Deaf r a other e = absurd cc
port_wait_at_wait_mark_only (Mute place) r a other e = absurd (other e)

-- the three places of an acknowledgement
muted_range : (place : ℕ) (reply : Reply) → place < 3 → port_seen_at (Mute place) reply < 8
muted_range zero Okay h = omega arith
muted_range zero Waits h = omega arith
muted_range zero Faults h = omega arith
muted_range (suc zero) Okay h = omega arith
muted_range (suc zero) Waits h = omega arith
muted_range (suc zero) Faults h = omega arith
muted_range (suc (suc zero)) Okay h = omega arith
muted_range (suc (suc zero)) Waits h = omega arith
muted_range (suc (suc zero)) Faults h = omega arith
muted_range (suc (suc (suc n))) reply h = absurd (omega arith)
muted_range place Silent h = omega arith

-- what the host sees of a reply, under a legal mark, is three bits
pub port_seen_range : (mark : Mark) (reply : Reply) → IsPortMark mark → port_seen_at mark reply < 8
port_seen_range (Mute place) reply h = muted_range place reply h
port_seen_range mark Okay h = omega arith
port_seen_range mark Waits h = omega arith
port_seen_range mark Faults h = omega arith
port_seen_range mark Silent h = omega arith

-- what is no acknowledgement
other : (n : ℕ) (a : Ack) → (n == 1) ≡ false → (n == 2) ≡ false → (n == 4) ≡ false → n ≡ bits_number (bits_of_ack a) → ⊥
other n AckOk b d f e = absurd (cc (rw e at b))
other n AckWait b d f e = absurd (cc (rw e at d))
other n AckFault b d f e = absurd (cc (rw e at f))

muted_seen : (place : ℕ) (reply : Reply) (a : Ack) → place < 3
    → port_seen_at (Mute place) reply ≡ bits_number (bits_of_ack a)
    → port_ack_driven reply ≡ bits_number (bits_of_ack a)
muted_seen zero Okay a h e = absurd (other (port_seen_at (Mute 0) Okay) a refl refl refl e)
muted_seen zero Waits a h e = absurd (other (port_seen_at (Mute 0) Waits) a refl refl refl e)
muted_seen zero Faults a h e = absurd (other (port_seen_at (Mute 0) Faults) a refl refl refl e)
muted_seen (suc zero) Okay a h e = absurd (other (port_seen_at (Mute 1) Okay) a refl refl refl e)
muted_seen (suc zero) Waits a h e = absurd (other (port_seen_at (Mute 1) Waits) a refl refl refl e)
muted_seen (suc zero) Faults a h e = absurd (other (port_seen_at (Mute 1) Faults) a refl refl refl e)
muted_seen (suc (suc zero)) Okay a h e = absurd (other (port_seen_at (Mute 2) Okay) a refl refl refl e)
muted_seen (suc (suc zero)) Waits a h e = absurd (other (port_seen_at (Mute 2) Waits) a refl refl refl e)
muted_seen (suc (suc zero)) Faults a h e = absurd (other (port_seen_at (Mute 2) Faults) a refl refl refl e)
muted_seen (suc (suc (suc n))) reply a h e = absurd (omega arith)
muted_seen place Silent a h e = e

-- an OK, WAIT or FAULT that the host sees, under a legal mark, is the one that the target drove
pub port_seen_driven : (mark : Mark) (reply : Reply) (a : Ack) → IsPortMark mark
    → port_seen_at mark reply ≡ bits_number (bits_of_ack a) → port_ack_driven reply ≡ bits_number (bits_of_ack a)
port_seen_driven (Mute place) reply a h e = muted_seen place reply a h e
port_seen_driven mark Okay a h e = e
port_seen_driven mark Waits a h e = e
port_seen_driven mark Faults a h e = e
port_seen_driven mark Silent a h e = e

pub ruleset answer_laws = (
  port_answer_never_wait,
  port_reply_allowed,
  port_wait_at_wait_mark,
  port_wait_at_wait_mark_only,
  port_seen_range,
  port_seen_driven,
)

muted_none : (place : ℕ) (reply : Reply) → place < 3 → IsPortNoAck (port_seen_at (Mute place) reply)
muted_none place Silent h = record { not_okay = refl; not_wait = refl; not_fault = refl }
muted_none zero Okay h = record { not_okay = refl; not_wait = refl; not_fault = refl }
muted_none zero Waits h = record { not_okay = refl; not_wait = refl; not_fault = refl }
muted_none zero Faults h = record { not_okay = refl; not_wait = refl; not_fault = refl }
muted_none (suc zero) Okay h = record { not_okay = refl; not_wait = refl; not_fault = refl }
muted_none (suc zero) Waits h = record { not_okay = refl; not_wait = refl; not_fault = refl }
muted_none (suc zero) Faults h = record { not_okay = refl; not_wait = refl; not_fault = refl }
muted_none (suc (suc zero)) Okay h = record { not_okay = refl; not_wait = refl; not_fault = refl }
muted_none (suc (suc zero)) Waits h = record { not_okay = refl; not_wait = refl; not_fault = refl }
muted_none (suc (suc zero)) Faults h = record { not_okay = refl; not_wait = refl; not_fault = refl }
muted_none (suc (suc (suc n))) reply h = absurd (omega arith)

-- nothing but a line reset is due then
pub port_due_lost : (read : Bool) (seen : ℕ) → (seen == 1) ≡ false → (seen == 2) ≡ false → (seen == 4) ≡ false
    → port_due_after read seen ≡ Lost
port_due_lost read seen e f g = rw (e, f, g) refl

-- after three bits that are no acknowledgement only a line reset is due
pub port_due_after_no_ack : (read : Bool) (seen : ℕ) → IsPortNoAck seen → port_due_after read seen ≡ Lost
port_due_after_no_ack read seen none = port_due_lost read seen none.not_okay none.not_wait none.not_fault

-- what the host sees of a reply under a Mute mark is no acknowledgement, so only a line reset is due
pub port_due_after_muted : (place : ℕ) (reply : Reply) (read : Bool) → place < 3
    → port_due_after read (port_seen_at (Mute place) reply) ≡ Lost
port_due_after_muted place reply read h = port_due_after_no_ack read (port_seen_at (Mute place) reply)
    (muted_none place reply h)

-- under a Deaf mark the target is silent
pub port_deaf_silent : (mark : Mark) (r : Register) (a : Reply) → is_port_deaf mark ≡ true
    → port_reply_under mark r a ≡ Silent
port_deaf_silent mark r a deaf = rw deaf refl

-- what a simulated target shows is one of the numbers that the host may see
pub port_sees_seen_at : (mark : Mark) (reply : Reply) → IsPortMark mark → (is_port_deaf mark ≡ true → reply ≡ Silent)
    → PortSees mark reply (port_seen_at mark reply)
port_sees_seen_at Clean Okay legal deaf = refl
port_sees_seen_at Clean Waits legal deaf = refl
port_sees_seen_at Clean Faults legal deaf = refl
port_sees_seen_at Clean Silent legal deaf = refl
port_sees_seen_at Wait Okay legal deaf = refl
port_sees_seen_at Wait Waits legal deaf = refl
port_sees_seen_at Wait Faults legal deaf = refl
port_sees_seen_at Wait Silent legal deaf = refl
port_sees_seen_at (Flip place) Okay legal deaf = refl
port_sees_seen_at (Flip place) Waits legal deaf = refl
port_sees_seen_at (Flip place) Faults legal deaf = refl
port_sees_seen_at (Flip place) Silent legal deaf = refl
port_sees_seen_at (Mute place) reply legal deaf = muted_none place reply legal
port_sees_seen_at Deaf Silent legal deaf = record { not_okay = refl; not_wait = refl; not_fault = refl }
port_sees_seen_at Deaf Okay legal deaf = absurd (let never = deaf refl in cc)
port_sees_seen_at Deaf Waits legal deaf = absurd (let never = deaf refl in cc)
port_sees_seen_at Deaf Faults legal deaf = absurd (let never = deaf refl in cc)

-- Laws of answers, and of what the host sees of them.
use Rattle.std.specs.Prelude.{◌≡◌, ◌≢◌, ◌<◌, Bool, true, false, ◌⊎◌}
use Rattle.swd_bits.specs.declared.ack.Ack.{Ack}
use Rattle.swd_bits.specs.Bits.{bits_number}
use Rattle.swd_bits.specs.Acks.{bits_of_ack}
use Rattle.swd_port.specs.Port.{Register, Reset}
use Rattle.swd_port.specs.Choices.{Mark, Wait, IsPortMark, is_port_wait, is_port_deaf}
use Rattle.swd_port.specs.Answers.{Reply, Waits, port_answer_by, port_may_wait, port_reply_under}
use Rattle.swd_port.specs.Answers.{port_ack_driven, port_seen_at}

-- the replies that are allowed: the answer, or WAIT where that may replace it
abbrev pub PortMayAnswer : Register → Reply → Reply → Type 0
PortMayAnswer r a reply = (reply ≡ a) ⊎ ((port_may_wait r a ≡ true) × (reply ≡ Waits))

-- without a request for WAIT the answer isn't WAIT
abbrev pub PortAnswerNeverWait : Type 0
PortAnswerNeverWait = (reset : Reset) (sticky write unpowered : Bool) (r : Register) →
    port_answer_by reset sticky write unpowered r ≢ Waits

-- the reply to a request that the target sees is an allowed one
abbrev pub PortReplyAllowed : Type 0
PortReplyAllowed = (mark : Mark) (r : Register) (a : Reply) → is_port_deaf mark ≡ false →
    PortMayAnswer r a (port_reply_under mark r a)

-- a Wait mark gives WAIT wherever that is allowed
abbrev pub PortWaitAtWaitMark : Type 0
PortWaitAtWaitMark = (r : Register) (a : Reply) → port_may_wait r a ≡ true → port_reply_under Wait r a ≡ Waits

-- and no other mark does
abbrev pub PortWaitAtWaitMarkOnly : Type 0
PortWaitAtWaitMarkOnly = (mark : Mark) (r : Register) (a : Reply) → a ≢ Waits → port_reply_under mark r a ≡ Waits →
    is_port_wait mark ≡ true

-- the host sees three bits
abbrev pub PortSeenRange : Type 0
PortSeenRange = (mark : Mark) (reply : Reply) → IsPortMark mark → port_seen_at mark reply < 8

-- an acknowledgement that the host sees is the one that was driven
abbrev pub PortSeenDriven : Type 0
PortSeenDriven = (mark : Mark) (reply : Reply) (a : Ack) → IsPortMark mark →
    port_seen_at mark reply ≡ bits_number (bits_of_ack a) → port_ack_driven reply ≡ bits_number (bits_of_ack a)

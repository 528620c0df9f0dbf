-- Laws of a bus that is a plain memory.
use Rattle.std.proofs.Common.{◌≡◌, ap, sym, ◌∙◌}
use Rattle.swd_port.specs.declared.access.Access.{Access}
use Rattle.swd_port.specs.PlainAnswers.{plain_answer, plain_after}
use Rattle.swd_port.specs.Bus.{Bus, bus_answer, bus_after}
use Rattle.swd_port.specs.PlainBus.{bus_of, plain_of}
use Rattle.swd_port.specs.PlainBus.{IsPlain}
use Rattle.swd_port.proofs.PlainLaws.{bus_of_after, bus_of_answer}

-- after an access it is that memory after the access
pub plain_next : (a : Access) (b : Bus) → IsPlain b → bus_after a b ≡ bus_of (plain_after a (plain_of b))
plain_next a b h = ap (bus_after a) h ∙ bus_of_after a (plain_of b)

-- the same of the memory
pub plain_of_next : (a : Access) (b : Bus) → IsPlain b → plain_of (bus_after a b) ≡ plain_after a (plain_of b)
plain_of_next a b h = ap plain_of (plain_next a b h)

-- so it stays a plain memory
pub is_plain_next : (a : Access) (b : Bus) → IsPlain b → IsPlain (bus_after a b)
is_plain_next a b h = plain_next a b h ∙ ap bus_of (sym (plain_of_next a b h))

-- and it answers as the memory does
pub plain_answers : (a : Access) (b : Bus) → IsPlain b → bus_answer a b ≡ plain_answer a (plain_of b)
plain_answers a b h = ap (bus_answer a) h ∙ bus_of_answer a (plain_of b)

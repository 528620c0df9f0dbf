use Rattle.std.proofs.Common.{◌≡◌, ℕ, refl, sym, ap, rules, ◌∙◌, ◌<◌, ◌^◌}
use Rattle.swd_bits.specs.Bits.{low_bits, bits_number}
use Rattle.swd_bits.specs.Acks.{bits_of_ack}
use Rattle.swd_bits.specs.declared.ack.Ack.{Ack}
use Rattle.swd_bits.specs.declared.ack.Ack.TheVariants.{Ok, Wait, Fault}
use Rattle.swd_bits.proofs.BitsLemmas.{number-low_bits}
use Rattle.swd_bits.proofs.ack.Ack.of.Goals as goal

pub returns-in-1-clause-found : goal.returns-in-1-clause-found
unfolding low_bits
returns-in-1-clause-found c = rw c.in-1.is refl

pub returns-in-2-clause-found : goal.returns-in-2-clause-found
unfolding low_bits
returns-in-2-clause-found c = rw c.in-2.is refl

pub returns-in-4-clause-found : goal.returns-in-4-clause-found
unfolding low_bits
returns-in-4-clause-found c = rw c.in-4.is refl

-- acknowledgements with the same bits are one
same_ack : (a b : Ack) → bits_of_ack a ≡ bits_of_ack b → a ≡ b
same_ack Ok Ok e = refl
same_ack Ok Wait e = absurd cc
same_ack Ok Fault e = absurd cc
same_ack Wait Ok e = absurd cc
same_ack Wait Wait e = refl
same_ack Wait Fault e = absurd cc
same_ack Fault Ok e = absurd cc
same_ack Fault Wait e = absurd cc
same_ack Fault Fault e = refl

pub returns-in-1-clause-only : goal.returns-in-1-clause-only
unfolding low_bits
returns-in-1-clause-only c = λ other e. same_ack other Ok (rw c.in-1.is at e)

pub returns-in-2-clause-only : goal.returns-in-2-clause-only
unfolding low_bits
returns-in-2-clause-only c = λ other e. same_ack other Wait (rw c.in-2.is at e)

pub returns-in-4-clause-only : goal.returns-in-4-clause-only
unfolding low_bits
returns-in-4-clause-only c = λ other e. same_ack other Fault (rw c.in-4.is at e)

-- the number of an acknowledgement's three bits
number_of : (a : Ack) (seen : ℕ) → seen < 2 ^ 3 → bits_of_ack a ≡ low_bits 3 seen → seen ≡ bits_number (bits_of_ack a)
number_of a seen h e = sym (number-low_bits 3 seen h) ∙ ap bits_number (sym e)

pub returns-in_default-clause-none : goal.returns-in_default-clause-none
returns-in_default-clause-none c = λ a e.
    let n : c.args.seen ≡ bits_number (bits_of_ack a) = number_of a c.args.seen c.requires e in
    elim a as (λ x. c.args.seen ≡ bits_number (bits_of_ack x) → ⊥)
    [ Ok ↦ λ k. search (rules, k) | Wait ↦ λ k. search (rules, k) | Fault ↦ λ k. search (rules, k) ] n

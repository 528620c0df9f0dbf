use Rattle.std.proofs.Common.{◌≡◌, ℕ, ◌/◌, ◌<◌, ◌^◌, Bool, true, false, refl, sym, ap, ◌∙◌, bit_and}
use Rattle.std.specs.Prelude.{◌==◌}
use Rattle.swd_bits.specs.declared.request.Request.{Request}
use Rattle.swd_bits.specs.declared.request.Reg4.{Reg4}
use Rattle.swd_bits.specs.declared.request.Reg4.TheVariants.{R0, R4, R8, RC}
use Rattle.swd_bits.specs.Bits.{low_bits, bits_number}
use Rattle.swd_bits.specs.Wire.{bits_of_request, request_reg4_of}
use Rattle.swd_bits.proofs.BitsLemmas.{number-low_bits, low_bits_injective}
use Rattle.swd_bits.proofs.request.Request.of.Goals as goal

-- the request that the code takes from a byte
abbrev made : ℕ → Request
made n = record {
  ap = bit_and (n / 2) 1 == 1;
  read = bit_and (n / 4) 1 == 1;
  addr = request_reg4_of (bit_and (n / 8) 3);
}

again : (ap read : Bool) (addr : Reg4) →
    let q : Request = record { ap = ap; read = read; addr = addr } in
    made (bits_number (bits_of_request q)) ≡ q
again true true R0 = refl
again true true R4 = refl
again true true R8 = refl
again true true RC = refl
again true false R0 = refl
again true false R4 = refl
again true false R8 = refl
again true false RC = refl
again false true R0 = refl
again false true R4 = refl
again false true R8 = refl
again false true RC = refl
again false false R0 = refl
again false false R4 = refl
again false false R8 = refl
again false false RC = refl

-- a request with these bits is the one that the code makes of them
only_made : (byte : ℕ) (addr : Reg4) → byte < 2 ^ 8 → addr ≡ request_reg4_of (bit_and (byte / 8) 3) → (q : Request)
    → bits_of_request q ≡ low_bits 8 byte →
    q ≡ record { ap = bit_and (byte / 2) 1 == 1; read = bit_and (byte / 4) 1 == 1; addr = addr }
only_made byte addr h a q e =
    let n : byte ≡ bits_number (bits_of_request q) = sym (number-low_bits 8 byte h) ∙ ap bits_number (sym e) in
    rw a (sym (ap made n ∙ again q.ap q.read q.addr))

-- no request has these bits where the one that was made of them has others
no_other : (byte code : ℕ) (addr : Reg4) → byte < 2 ^ 8 → code < 2 ^ 8 → addr ≡ request_reg4_of (bit_and (byte / 8) 3) →
    low_bits 8 code ≡ bits_of_request (record
    { ap = bit_and (byte / 2) 1 == 1; read = bit_and (byte / 4) 1 == 1; addr = addr })
    →
    (code ≡ byte → ⊥) → (q : Request) → bits_of_request q ≡ low_bits 8 byte → ⊥
no_other byte code addr h k a f g q e = g
    (low_bits_injective 8 code byte k h (f ∙ ap bits_of_request (sym (only_made byte addr h a q e)) ∙ e))

pub returns-then-bits-byte-clause-only : goal.returns-then-bits-byte-clause-only
returns-then-bits-byte-clause-only c = only_made c.args.byte c.of.result c.ranges.byte.fits c.of.ensures

pub returns-else-bits-byte-clause-none : goal.returns-else-bits-byte-clause-none
returns-else-bits-byte-clause-none c =
    no_other c.args.byte c.bits.result c.of.result c.ranges.byte.fits c.bits.type_inv c.of.ensures c.bits.ensures
    c.if-bits-byte.false

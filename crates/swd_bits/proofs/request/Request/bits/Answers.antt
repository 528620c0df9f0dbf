use Rattle.std.proofs.Common.{◌≡◌, ℕ, ◌*◌, ◌%◌, Bool, true, false, refl, bit_or}
use mir.Val.{bool_byte}
use denote.Enum.Declared.{tag_of}
use lib.Count.{ones, ones_in}
use Rattle.swd_bits.specs.contracts.request.Reg4.{the_type}
use Rattle.swd_bits.specs.declared.request.Reg4.{Reg4}
use Rattle.swd_bits.specs.declared.request.Reg4.TheVariants.{R0, R4, R8, RC}
use Rattle.swd_bits.specs.Bits.{low_bits}
use Rattle.swd_bits.specs.Wire.{bits_of_request}
use Rattle.swd_bits.proofs.request.Request.bits.Goals as goal

-- the five asked bits as a number
abbrev asked : ℕ → ℕ → ℕ → ℕ
asked a r t = bit_or (bit_or a (r * 2 % 256)) (t * 4 % 256)

-- the byte that is made of them
abbrev byte_of : ℕ → ℕ
byte_of n = bit_or (bit_or 129 (n * 2 % 256)) (ones n % 2 * 32 % 256)

-- each of the sixteen
each : (ap read : Bool) (addr : Reg4)
    → low_bits 8 (byte_of (asked (bool_byte ap) (bool_byte read) (tag_of the_type addr))) ≡ bits_of_request
    (record { ap = ap; read = read; addr = addr })
unfolding low_bits ones ones_in
each true true R0 = refl
each true true R4 = refl
each true true R8 = refl
each true true RC = refl
each true false R0 = refl
each true false R4 = refl
each true false R8 = refl
each true false RC = refl
each false true R0 = refl
each false true R4 = refl
each false true R8 = refl
each false true RC = refl
each false false R0 = refl
each false false R4 = refl
each false false R8 = refl
each false false RC = refl

pub returns : goal.returns
returns c = rw (c.from.ensures, c.from-2.ensures) (each c.args.self.now.ap c.args.self.now.read c.args.self.now.addr)

-- Bits that go through a shift register, and cycles that follow each other. For the phases of `FaultyClocked`.
use Rattle.std.proofs.Common.{◌≡◌, ℕ, zero, suc, ◌+◌, ◌*◌, ◌/◌, ◌%◌, ◌-◌, ◌<◌, ◌^◌, Bool, true, false, refl, sym, ap}
use Rattle.std.proofs.Common.{subst, ◌∙◌, arith}
use Rattle.std.specs.Prelude.{◌==◌}
use lib.Pow.{shr-shr}
use mir.Val.{bool_byte}
use Rattle.swd_bits.specs.Bits.{low_bits, bit}
use Rattle.swd_bits.specs.Wire.{bits_of_request}
use Rattle.swd_bits.specs.declared.request.Request.{Request}
use Rattle.swd_bits.specs.declared.request.Reg4.{Reg4}
use Rattle.swd_bits.specs.declared.request.Reg4.TheVariants.{R0, R4, R8, RC}
use Rattle.swd_port.specs.Bus.{Bus}
use Rattle.swd_port.specs.declared.register.Register.{Register}
use Rattle.swd_target.specs.declared.target.Target.{Target}
use Rattle.swd_clocked.specs.declared.frame.Frame.{Frame}
use Rattle.swd_clocked.specs.declared.frame.Frame.TheVariants.{Drives}
use Rattle.swd_clocked.specs.declared.clocked.Clocked.{Clocked}
use Rattle.swd_clocked.specs.Frames.{clocked_shifted, cycles_counted}
use Rattle.swd_clocked.specs.Cycles.{FrameMoved, ClockedDataCame}

-- eight ones are no request
no_request_at : (ap read : Bool) (addr : Reg4)
    → bits_of_request (record { ap = ap; read = read; addr = addr }) ≡ low_bits 8 255 → ⊥
unfolding low_bits
no_request_at ap read R0 e = cc
no_request_at ap read R4 e = cc
no_request_at ap read R8 e = cc
no_request_at ap read RC e = cc

-- no request has eight ones as its bits
pub clocked_ones_no_request : (q : Request) → bits_of_request q ≡ low_bits 8 255 → ⊥
clocked_ones_no_request q e = no_request_at q.ap q.read q.addr e

-- a register below n = 2 ^ k took so many bits of a number from the top, and the rest is still to come
pub record ClockedShifts (n whole place rest bits : ℕ) : Type 0 where
  pub equation : rest * n + bits ≡ whole / 2 ^ place
  pub small : bits < n

-- a number shifted right by k bits and by one more is shifted right by k + 1
pub clocked_shift_halved : (w k : ℕ) → w / 2 ^ k / 2 ≡ w / 2 ^ (k + 1)
clocked_shift_halved w k = shr-shr w k 1

digit : (r : ℕ) → r < 2 → bit (r == 1) ≡ r
digit zero h = refl
digit (suc zero) h = refl
digit (suc (suc n)) h = absurd (omega arith)

-- an 8-bit register that takes the next bit at its top has taken one bit more of the number
pub clocked_shift_8 : (whole place rest bits : ℕ) → ClockedShifts 256 whole place rest bits
    → ClockedShifts 256 whole (place + 1) (rest / 2) (clocked_shifted 128 bits (rest % 2 == 1))
clocked_shift_8 whole place rest bits s =
    let low : rest % 2 < 2 = omega arith in
    let d = digit (rest % 2) low in
    let e = s.equation in
    let h = clocked_shift_halved whole place in
    record {
      equation = (let g : rest / 2 * 256 + (bits / 2 + bit (rest % 2 == 1) * 128) ≡ (rest * 256 + bits) / 2 = rw d
          (omega arith) in g ∙ ap (λ n. n / 2) e ∙ h);
      small = (let b = s.small in rw d (omega arith));
    }

-- the same of a 33-bit register
pub clocked_shift_33 : (whole place rest bits : ℕ) → ClockedShifts (2 ^ 33) whole place rest bits
    → ClockedShifts (2 ^ 33) whole (place + 1) (rest / 2) (clocked_shifted (2 ^ 32) bits (rest % 2 == 1))
clocked_shift_33 whole place rest bits s =
    let low : rest % 2 < 2 = omega arith in
    let d = digit (rest % 2) low in
    let e = s.equation in
    let h = clocked_shift_halved whole place in
    record {
      equation = (let g : rest / 2 * 2 ^ 33 + (bits / 2 + bit (rest % 2 == 1) * 2 ^ 32) ≡ (rest * 2 ^ 33 + bits) / 2 =
          rw d (omega arith) in g ∙ ap (λ n. n / 2) e ∙ h);
      small = (let b = s.small in rw d (omega arith));
    }

-- in the end the register has the number
pub clocked_shift_full_8 : (byte rest bits : ℕ) → byte < 256 → ClockedShifts 256 (byte * 256 + 255) 8 rest bits
    → bits ≡ byte
clocked_shift_full_8 byte rest bits h s = let e = s.equation in let b = s.small in omega arith

-- after 33 shifts a 33-bit register that was preset with ones has the number that was sent
pub clocked_shift_full_33 : (sent rest bits : ℕ) → sent < 2 ^ 33
    → ClockedShifts (2 ^ 33) (sent * 2 ^ 33 + (2 ^ 33 - 1)) 33 rest bits → bits ≡ sent
clocked_shift_full_33 sent rest bits h s = let e = s.equation in let b = s.small in omega arith

-- so has one that was preset with zeros
pub clocked_shift_zeros_33 : (sent rest bits : ℕ) → sent < 2 ^ 33 → ClockedShifts (2 ^ 33) (sent * 2 ^ 33) 33 rest bits
    → bits ≡ sent
clocked_shift_zeros_33 sent rest bits h s = let e = s.equation in let b = s.small in omega arith

-- the first bit of a request is a one
pub clocked_shift_first_8 : (byte place rest bits : ℕ) → ClockedShifts 256 (byte * 256 + 255) place rest bits
    → place ≡ 0 → byte % 2 ≡ 1 → (rest % 2 == 1) ≡ true
clocked_shift_first_8 byte place rest bits s z odd =
    let e : rest * 256 + bits ≡ (byte * 256 + 255) / 1 = s.equation ∙ ap (λ n. (byte * 256 + 255) / 2 ^ n) z in
    let b = s.small in
    let r : rest % 2 ≡ 1 = omega arith in
    rw r refl

-- a bit as the code makes it a number
pub clocked_byte_bit : (a b : Bool) (n : ℕ) → n ≡ bool_byte a → a ≡ b → n ≡ bit b
clocked_byte_bit true true n e h = e
clocked_byte_bit false false n e h = e
clocked_byte_bit true false n e h = absurd cc
clocked_byte_bit false true n e h = absurd cc

-- a 33-bit register that takes the next bit, given as a number, has taken one bit more
pub clocked_shift_takes_bit : (whole place rest bits n : ℕ) → ClockedShifts (2 ^ 33) whole place rest bits
    → n ≡ bit (rest % 2 == 1) → ClockedShifts (2 ^ 33) whole (place + 1) (rest / 2) (bits / 2 + n * 2 ^ 32)
clocked_shift_takes_bit whole place rest bits n s e =
    subst (λ x. ClockedShifts (2 ^ 33) whole (place + 1) (rest / 2) (bits / 2 + x * 2 ^ 32)) (sym e)
    (clocked_shift_33 whole place rest bits s)

-- one cycle after others
pub frame_moved_chain : {D : Type 0} (f g : Frame) (s : Target D) (w : Bool) (t u : Clocked D) → FrameMoved f s w t
    → FrameMoved g t.target t.waits u → FrameMoved g s w u
frame_moved_chain f g s w t u m n = record { frame = n.frame; target = n.target ∙ m.target; waits = n.waits ∙ m.waits }

-- a write's data that came after cycles that changed the frame alone came to the target from before those cycles
pub clocked_data_after_moves : {D : Type 0} (bus : D → Bus) (f : Frame) (r : Register) (a b : ℕ) (s : Target D)
    (w : Bool)
    (t u : Clocked D) → FrameMoved f s w t → a ≡ b → ClockedDataCame bus r a t.target t.waits u → ClockedDataCame bus r
    b s w u
clocked_data_after_moves bus f r a b s w t u m e d = subst (λ x. ClockedDataCame bus r x s w u) e
    (subst (λ (x : Target _). ClockedDataCame bus r a x w u) m.target
    (subst (λ x. ClockedDataCame bus r a t.target x u) m.waits d))

-- after one more of the 33 bits that a target drives, one fewer is left
pub drives_frame_left_less : {D : Type 0} (rest place : ℕ) (s : Target D) (w : Bool) (t : Clocked D) → place < 33
    → FrameMoved (Drives rest (33 - place - 1)) s w t → FrameMoved (Drives rest (33 - (place + 1))) s w t
drives_frame_left_less rest place s w t h m = let e : 33 - place - 1 ≡ 33 - (place + 1) = omega arith in
    subst (λ n. FrameMoved (Drives rest n) s w t) e m

-- cycles after others
pub cycles_counted_chain : (a b c n m k : ℕ) → m ≡ cycles_counted a n → k ≡ cycles_counted b m → a + b ≡ c
    → k ≡ cycles_counted c n
cycles_counted_chain a b c n m k first next sum = omega arith

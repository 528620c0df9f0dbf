-- In which cycles of a host nobody else drives the line. For the phases of `FaultyClocked`.
use Rattle.std.proofs.Common.{◌≡◌, ℕ, ◌+◌, Bool, true, false, refl, ap, ◌∙◌, arith, if◌then◌else◌}
use Rattle.std.proofs.lemmas.Bool.Decides.{nat_tests}
use Rattle.swd_port.specs.declared.register.Register.{Register}
use Rattle.swd_clocked.specs.declared.frame.Frame.{Frame}
use Rattle.swd_clocked.specs.declared.frame.Frame.TheVariants.{Asks, Lost, High, Switches, Awaits}
use Rattle.swd_clocked.specs.Frames.{contended_cycle}

-- a count that a cycle leaves as it was
pub contended_count_kept : (n m k a : ℕ) → m ≡ n → k ≡ m + a → a ≡ 0 → k ≡ n
contended_count_kept n m k a first next none = omega arith

-- the same in a frame that the proof knows
pub contended_count_in_frame : (n m k : ℕ) (f g : Frame) (driven : Bool) → m ≡ n → k ≡ m + contended_cycle f driven
    → f ≡ g → contended_cycle g driven ≡ 0 → k ≡ n
contended_count_in_frame n m k f g driven first next is none =
    contended_count_kept n m k (contended_cycle f driven) first next
    (ap (λ (x : Frame). contended_cycle x driven) is ∙ none)

-- while the bits of a request are awaited, a cycle isn't contended
pub asks_frame_uncontended : (bits count : ℕ) (driven : Bool) → contended_cycle (Asks bits count) driven ≡ 0
asks_frame_uncontended bits count true = refl
asks_frame_uncontended bits count false = refl

-- while the 33 bits of a write's data are awaited, a cycle isn't contended
pub awaits_frame_uncontended : (r : Register) (bits place : ℕ) (driven : Bool)
    → contended_cycle (Awaits r bits (place + 1)) driven ≡ 0
awaits_frame_uncontended r bits place true = grind (arith, nat_tests)
awaits_frame_uncontended r bits place false = refl

switch_alone : (n : ℕ) (a b : Bool) → contended_cycle (if a then High else (if b then Lost 0 else Switches n)) true ≡ 0
switch_alone n true b = refl
switch_alone n false true = refl
switch_alone n false false = refl

-- What is known of the next transfer, call by call.
use Rattle.std.proofs.Common.{◌≡◌, ◌&&◌, ◌||◌, ℕ, not, Bool, true, false, refl, sym, subst, inr}
use Rattle.std.proofs.Common.{List, ◌∷◌}
use Rattle.swd_port.specs.declared.call.Call.{Call}
use Rattle.swd_port.specs.declared.cue.Cue.{Cue}
use Rattle.swd_port.specs.declared.cue.Cue.TheVariants.{Lead, Ask, Take, Give, Pass}
use Rattle.swd_recorder.specs.Items.{recorded_in_hand_by}
use Rattle.swd_conform.specs.declared.aim.Aim.{Aim}
use Rattle.swd_conform.specs.declared.aim.Aim.TheVariants.{Unpowered, Unknown, Hole, Behind, Words}
use Rattle.swd_conform.specs.declared.aim.Bounds.{Bounds}
use Rattle.swd_conform.specs.Aims.{IsConformAim, conform_leaves_address, conform_powers, conform_unsettles, left}
use Rattle.swd_conform.specs.Aims.{is_conform_unsettling, kept}

settled_of : (unsettling other : Bool) → (not unsettling && other) ≡ true → unsettling ≡ false
settled_of false other e = refl
settled_of true other e = absurd (cc)

-- a call that leaves TAR writes neither ABORT nor SELECT
leaves_settled : (cue : Cue) (seen : ℕ) → conform_leaves_address cue seen ≡ true → conform_unsettles cue ≡ false
leaves_settled (Ask q) seen e = settled_of (is_conform_unsettling q) _ e
leaves_settled (Lead ones undriven switch zeros) seen e = refl
leaves_settled Take seen e = refl
leaves_settled (Give bits) seen e = refl
leaves_settled Pass seen e = refl

-- a call that leaves TAR, and gives no power, leaves what is known
pub conform_aim_left : (bounds : Bounds) (aim : Aim) (cue : Cue) (seen : ℕ) (calls : List Call)
    → conform_leaves_address cue seen ≡ true → conform_powers cue (recorded_in_hand_by calls) ≡ false
    → IsConformAim bounds aim calls → IsConformAim bounds aim (record { cue = cue; seen = seen } ∷ calls)
conform_aim_left bounds Unpowered cue seen calls leaves powers h = (powers, h)
conform_aim_left bounds Unknown cue seen calls leaves powers h = tt
conform_aim_left bounds Hole cue seen calls leaves powers h = (h.0, h.1, left cue seen leaves h.2)
conform_aim_left bounds (Behind used refused) cue seen calls leaves powers h = (
  h.0,
  h.1,
  h.2,
  left cue seen leaves h.3,
  λ is. inr (leaves_settled cue seen leaves, powers, h.4 is),
  λ is. kept cue seen leaves powers (h.5 is),
)
conform_aim_left bounds (Words low high) cue seen calls leaves powers h = (h.0, h.1, left cue seen leaves h.2)

-- the same of a call with this cue
pub conform_aim_passes : (bounds : Bounds) (aim : Aim) (cue other : Cue) (seen : ℕ) (calls : List Call) → cue ≡ other
    → conform_leaves_address other seen ≡ true → conform_powers other (recorded_in_hand_by calls) ≡ false
    → IsConformAim bounds aim calls → IsConformAim bounds aim (record { cue = cue; seen = seen } ∷ calls)
conform_aim_passes bounds aim cue other seen calls e leaves powers h =
    subst (λ (c : Cue). IsConformAim bounds aim (record { cue = c; seen = seen } ∷ calls)) (sym e)
    (conform_aim_left bounds aim other seen calls leaves powers h)

-- a request that is refused leaves TAR
pub conform_refused_leaves : (unsettling refused known : Bool) → unsettling ≡ false → refused ≡ true
    → (not unsettling && (refused || not known)) ≡ true
conform_refused_leaves false true known e f = refl
conform_refused_leaves true refused known e f = absurd (cc)
conform_refused_leaves false false known e f = absurd (cc)

-- and so does one that asks for no transfer, and names neither TAR, ABORT nor SELECT
pub conform_other_leaves : (unsettling refused address transfer : Bool) → unsettling ≡ false → address ≡ false
    → transfer ≡ false → (not unsettling && (refused || not (address || transfer))) ≡ true
conform_other_leaves false true false false e f g = refl
conform_other_leaves false false false false e f g = refl
conform_other_leaves true refused address transfer e f g = absurd (cc)
conform_other_leaves false refused true transfer e f g = absurd (cc)
conform_other_leaves false refused false true e f g = absurd (cc)

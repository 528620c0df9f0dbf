-- What ones and zeros do at a clocked target. For `FaultyClocked` and the law `ones_reset`.
use Rattle.std.proofs.Common.{◌≡◌, ℕ, ◌+◌, ◌-◌, ◌/◌, ◌<◌, ◌≤◌, ◌^◌, ◌⊎◌, inl, inr, Option, Bool, true, refl, ap}
use Rattle.std.proofs.Common.{subst, ◌∙◌, arith}
use Rattle.std.proofs.lemmas.Bool.{cases_lt}
use lib.Count.{count_leading_zeros}
use Rattle.swd_bits.specs.Bits.{low_bits}
use Rattle.swd_port.specs.Bus.{Bus}
use Rattle.swd_port.specs.declared.register.Register.{Register}
use Rattle.swd_port.specs.Port.{Target as State}
use Rattle.swd_port.specs.Choices.{port_undriven}
use Rattle.swd_port.specs.Moving.{port_arrival_of}
use Rattle.swd_bits.proofs.PhaseLemmas.{ones_data_phase_no_word}
use Rattle.swd_target.specs.declared.target.Target.{Target}
use Rattle.swd_target.specs.Targets.{target_state, target_simulation}
use Rattle.swd_target.specs.Simulations.{Simulation, simulation_stepped}
use Rattle.swd_target.specs.Requests.{DataComes}
use Rattle.swd_clocked.specs.declared.frame.Frame.{Frame}
use Rattle.swd_clocked.specs.declared.frame.Frame.TheVariants.{Asks, Lost, High, Switches, Replies, Drives, Awaits}
use Rattle.swd_clocked.specs.declared.frame.Frame.TheVariants.{Passes}
use Rattle.swd_clocked.specs.declared.clocked.Clocked.{Clocked}
use Rattle.swd_clocked.specs.Frames.{frame_place, frame_limit, idle_frame, clocked_shifted, clocked_ones_at_end}
use Rattle.swd_clocked.specs.Frames.{IsRisingFrame, rising_frame_ones, risen_frame_state}
use Rattle.swd_clocked.specs.Cycles.{FrameMoved, ClockedResetCame, ClockedDataCame, Cycles}
use Rattle.swd_clocked.specs.Clocks.{ClockedRises}
use Rattle.swd_clocked.proofs.Shifts.{clocked_ones_no_request}

-- the line reset that ones lead to, as a state and exactly
abbrev Rose : {D : Type 0} → (D → Bus) → Frame → Target D → Clocked D → Type 0
Rose bus f s t =
    (risen_frame_state t.frame (target_state bus t.target) ≡ risen_frame_state f (target_state bus s))
    × (simulation_stepped (λ c. risen_frame_state t.frame) (target_simulation bus t.target)
    ≡ simulation_stepped (λ c. risen_frame_state f) (target_simulation bus s))

rose_moved : {D : Type 0} (bus : D → Bus) (f : Frame) (s : Target D) (w : Bool) (t : Clocked D) → FrameMoved f s w t
    → Rose bus f s t
rose_moved bus f s w t m = (
  ap (λ (x : Frame). risen_frame_state x (target_state bus t.target)) m.frame ∙ ap
      (λ (x : Target _). risen_frame_state f (target_state bus x)) m.target,
  ap (λ (x : Frame). simulation_stepped (λ c. risen_frame_state x) (target_simulation bus t.target)) m.frame
      ∙ ap (λ (x : Target _). simulation_stepped (λ c. risen_frame_state f) (target_simulation bus x)) m.target,
)

rose_reset : {D : Type 0} (bus : D → Bus) (ones : ℕ) (s : Target D) (w : Bool) (t : Clocked D) → ClockedResetCame bus s
    w t
    → Rose bus (Lost ones) s t
rose_reset bus ones s w t r = (
  ap (λ (x : Frame). risen_frame_state x (target_state bus t.target)) r.frame
      ∙ r.reset.state,
  ap (λ (x : Frame). simulation_stepped (λ c. risen_frame_state x) (target_simulation bus t.target)) r.frame ∙
      r.reset.exact,
)

rose_damaged : {D : Type 0} (bus : D → Bus) (r : Register) (bits place : ℕ) (s : Target D) (w : Bool) (t : Clocked D)
    → ClockedDataCame bus r port_undriven s w t → Rose bus (Awaits r bits place) s t
rose_damaged bus r bits place s w t d =
    let comes = subst (λ (o : Option ℕ). DataComes bus (port_arrival_of r o) s t.target) ones_data_phase_no_word d.comes
    in (
      ap (λ (x : Frame). risen_frame_state x (target_state bus t.target)) d.frame ∙ ap (risen_frame_state idle_frame)
          (comes.undone refl),
      ap (λ (x : Frame). simulation_stepped (λ c. risen_frame_state x) (target_simulation bus t.target)) d.frame
          ∙ ap (simulation_stepped (λ c. risen_frame_state idle_frame)) comes.exact,
    )

one_rose : {D : Type 0} (bus : D → Bus) (f : Frame) (answer : Bool) (s : Target D) (w : Bool) (t : Clocked D)
    → IsRisingFrame f
    → frame_place f < frame_limit f → Cycles bus f true answer s w t → Rose bus f s t
one_rose bus High answer s w t i p c = rose_moved bus _ s w t c.1
one_rose bus (Asks bits count) answer s w t i p c =
    elim (cases_lt count 7) as (λ (x : (count < 7) ⊎ (7 ≤ count)). Rose bus (Asks bits count) s t) [
      | inl l ↦ rose_moved bus _ s w t (c.1.more l (λ e. refl))
      | inr g ↦ rose_moved bus _ s w t
          ((c.1.whole (omega arith)).broken
          (λ q e. clocked_ones_no_request q (e ∙ ap (λ n. low_bits 8 (clocked_shifted 128 n true)) i)))
    ]
one_rose bus (Lost ones) answer s w t i p c =
    elim (cases_lt ones 49) as (λ (x : (ones < 49) ⊎ (49 ≤ ones)). Rose bus (Lost ones) s t) [
      | inl l ↦ rose_moved bus _ s w t (c.1.more l refl)
      | inr g ↦ rose_reset bus ones s w t (c.1.whole (omega arith) refl)
    ]
one_rose bus (Switches place) answer s w t i p c = absurd i
one_rose bus (Replies reply line place) answer s w t i p c = absurd i
one_rose bus (Drives bits left) answer s w t i p c =
    elim (cases_lt 0 left) as (λ (x : (0 < left) ⊎ (left ≤ 0)). Rose bus (Drives bits left) s t) [
      | inl l ↦ rose_moved bus _ s w t (c.more (λ e. absurd (omega arith)))
      | inr g ↦ rose_moved bus _ s w t (c.turn (omega arith)).1
    ]
one_rose bus (Awaits r bits place) answer s w t i p c =
    elim (cases_lt 0 place) as (λ (x : (0 < place) ⊎ (place ≤ 0)). Rose bus (Awaits r bits place) s t) [
      | inr g ↦ rose_moved bus _ s w t (c.1.turn (omega arith))
      | inl l ↦ elim (cases_lt place 33) as (λ (x : (place < 33) ⊎ (33 ≤ place)). Rose bus (Awaits r bits place) s t) [
        | inl m ↦ rose_moved bus _ s w t (c.1.more (λ e. absurd (omega arith)) m)
        | inr m ↦ rose_damaged bus r bits place s w t
            (subst (λ n. ClockedDataCame bus r (clocked_shifted (2 ^ 32) n true) s w t) i (c.1.whole (omega arith)))
      ]
    ]
one_rose bus Passes answer s w t i p c = rose_moved bus _ s w t c.1

-- a one, where ones lead to a line reset, leads to the same line reset
pub one_cycle_rises : {D : Type 0} (bus : D → Bus) (s t : Clocked D) (answer : Bool) → IsRisingFrame s.frame
    → frame_place s.frame < frame_limit s.frame → Cycles bus s.frame true answer s.target s.waits t → ClockedRises bus s
    t
one_cycle_rises bus s t answer i p c = let r = one_rose bus s.frame answer s.target s.waits t i p c in
    record { state = r.0; exact = r.1 }

-- cycles that lead to the same line reset, and further such cycles, together do
pub clocked_rises_chain : {D : Type 0} (bus : D → Bus) (s t u : Clocked D) → ClockedRises bus s t → ClockedRises bus t u
    → ClockedRises bus s u
clocked_rises_chain bus s t u a b = record { state = b.state ∙ a.state; exact = b.exact ∙ a.exact }

-- where no cycle passed, the line reset that ones lead to is the same
pub clocked_rises_itself : {D : Type 0} (bus : D → Bus) (s : Clocked D) → ClockedRises bus s s
clocked_rises_itself bus s = record { state = refl; exact = refl }

-- where ones lead to a line reset and no more of them are needed, fifty ones have passed
pub risen_frame_is_high : (f : Frame) → IsRisingFrame f → rising_frame_ones f ≡ 0 → frame_place f < frame_limit f
    → f ≡ High
risen_frame_is_high High i e p = refl
risen_frame_is_high (Asks bits count) i e p = absurd (omega arith)
risen_frame_is_high (Lost ones) i e p = absurd (omega arith)
risen_frame_is_high (Switches place) i e p = absurd i
risen_frame_is_high (Replies reply line place) i e p = absurd i
risen_frame_is_high (Drives bits left) i e p = absurd (omega arith)
risen_frame_is_high (Awaits r bits place) i e p = absurd (omega arith)
risen_frame_is_high Passes i e p = absurd (omega arith)

-- After a line reset, the switch and ones again: the second line reset changes nothing.
again : (f : Frame) (s : State) → IsRisingFrame f → 0 < rising_frame_ones f
    → risen_frame_state (Lost 0) (risen_frame_state f s) ≡ risen_frame_state f s
again High s i l = absurd (omega arith)
again (Asks bits count) s i l = refl
again (Lost ones) s i l = refl
again (Switches place) s i l = absurd i
again (Replies reply line place) s i l = absurd i
again (Drives bits left) s i l = refl
again (Awaits r bits place) s i l = refl
again Passes s i l = refl

again_exactly : (f : Frame) (s : Simulation) → IsRisingFrame f → 0 < rising_frame_ones f
    → simulation_stepped (λ c. risen_frame_state (Lost 0)) (simulation_stepped (λ c. risen_frame_state f) s)
    ≡ simulation_stepped (λ c. risen_frame_state f) s
again_exactly High s i l = absurd (omega arith)
again_exactly (Asks bits count) s i l = refl
again_exactly (Lost ones) s i l = refl
again_exactly (Switches place) s i l = absurd i
again_exactly (Replies reply line place) s i l = absurd i
again_exactly (Drives bits left) s i l = refl
again_exactly (Awaits r bits place) s i l = refl
again_exactly Passes s i l = refl

-- and one of them less leads to it
pub record FrameRisenByOne (f g : Frame) : Type 0 where
  pub next : Frame
  pub is : g ≡ next
  pub rising : IsRisingFrame next
  pub less : rising_frame_ones next ≡ rising_frame_ones f - 1

eight_ones : clocked_ones_at_end 255 ≡ 8
unfolding count_leading_zeros
eight_ones = refl

-- after a one, a frame from which ones lead to a line reset is such a frame again, one fewer being needed if any was
pub rising_frame_after_one : {D : Type 0} (bus : D → Bus) (f : Frame) (answer : Bool) (s : Target D) (w : Bool)
    (t : Clocked D)
    → IsRisingFrame f → frame_place f < frame_limit f → Cycles bus f true answer s w t → FrameRisenByOne f t.frame
rising_frame_after_one bus High answer s w t i p c = record { next = High; is = c.1.frame; rising = tt; less = refl }
rising_frame_after_one bus (Asks bits count) answer s w t i p c =
    elim (cases_lt count 7) as (λ (x : (count < 7) ⊎ (7 ≤ count)). FrameRisenByOne (Asks bits count) t.frame) [
      | inl l ↦ record {
        next = Asks (clocked_shifted 128 bits true) (count + 1);
        is = (c.1.more l (λ e. refl)).frame;
        rising =
            ap (λ n. clocked_shifted 128 n true) i;
        less = omega arith;
      }
      | inr g ↦
          let m = (c.1.whole (omega arith)).broken
          (λ q e. clocked_ones_no_request q (e ∙ ap (λ n. low_bits 8 (clocked_shifted 128 n true)) i)) in
          record {
            next = Lost 8;
            is = m.frame ∙ ap (λ n. Lost (clocked_ones_at_end (clocked_shifted 128 n true))) i
                ∙ ap Lost eight_ones;
            rising = tt;
            less = omega arith;
          }
    ]
rising_frame_after_one bus (Lost ones) answer s w t i p c =
    elim (cases_lt ones 49) as (λ (x : (ones < 49) ⊎ (49 ≤ ones)). FrameRisenByOne (Lost ones) t.frame) [
      | inl l ↦ record { next = Lost (ones + 1); is = (c.1.more l refl).frame; rising = tt; less = omega arith }
      | inr g ↦ record { next = High; is = (c.1.whole (omega arith) refl).frame; rising = tt; less = omega arith }
    ]
rising_frame_after_one bus (Switches place) answer s w t i p c = absurd i
rising_frame_after_one bus (Replies reply line place) answer s w t i p c = absurd i
rising_frame_after_one bus (Drives bits left) answer s w t i p c =
    elim (cases_lt 0 left) as (λ (x : (0 < left) ⊎ (left ≤ 0)). FrameRisenByOne (Drives bits left) t.frame) [
      | inl l ↦ record {
        next = Drives (bits / 2) (left - 1);
        is = (c.more (λ e. absurd (omega arith))).frame;
        rising =
            tt;
        less = omega arith;
      }
      | inr g ↦ record { next = idle_frame; is = (c.turn (omega arith)).1.frame; rising = refl; less = omega arith }
    ]
rising_frame_after_one bus (Awaits r bits place) answer s w t i p c =
    elim (cases_lt 0 place) as (λ (x : (0 < place) ⊎ (place ≤ 0)). FrameRisenByOne (Awaits r bits place) t.frame) [
      | inr g ↦ record { next = Awaits r bits 1; is = (c.1.turn (omega arith)).frame; rising = i; less = omega arith }
      | inl l ↦ elim (cases_lt place 33) as
          (λ (x : (place < 33) ⊎ (33 ≤ place)). FrameRisenByOne (Awaits r bits place) t.frame) [
            | inl m ↦ record {
              next = Awaits r (clocked_shifted (2 ^ 32) bits true) (place + 1);
              is =
                  (c.1.more (λ e. absurd (omega arith)) m).frame;
              rising = ap (λ n. clocked_shifted (2 ^ 32) n true) i;
              less = omega
                  arith;
            }
            | inr m ↦ record {
              next = idle_frame;
              is = (c.1.whole (omega arith)).frame;
              rising = refl;
              less =
                  omega arith;
            }
          ]
    ]
rising_frame_after_one bus Passes answer s w t i p c =
    record { next = idle_frame; is = c.1.frame; rising = refl; less = refl }

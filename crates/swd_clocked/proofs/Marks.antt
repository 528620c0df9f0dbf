-- Cycles at a clocked target whose requests meet a plan, and the bits that its marks change. For `FaultyClocked`.
use Rattle.std.proofs.Common.{◌≡◌, ℕ, zero, suc, ◌+◌, ◌*◌, ◌/◌, ◌%◌, ◌-◌, ◌<◌, ◌^◌, inl, inr, Option, Bool, true, false}
use Rattle.std.proofs.Common.{not, refl, sym, ap, subst, ◌∙◌, arith}
use Rattle.std.specs.Prelude.{◌==◌, is_some, unwrap_or, bit_xor}
use Rattle.std.specs.Int.{bit_at}
use Rattle.std.proofs.lemmas.Bool.Decides.{nat_tests, eqb_tells}
use Rattle.std.proofs.lemmas.Nat.Bits.{bit_at_xor, bit_at-pow_same, bit_at-pow_other, bit_at-lt}
use mir.Val.{bool_byte}
use Rattle.swd_bits.specs.declared.request.Request.{Request}
use Rattle.swd_port.specs.Bus.{Bus}
use Rattle.swd_port.specs.declared.mark.Mark.{Mark}
use Rattle.swd_port.specs.declared.mark.Mark.TheVariants.{Clean, Wait, Flip, Deaf, Mute}
use Rattle.swd_port.specs.declared.register.Register.{Register}
use Rattle.swd_port.specs.declared.state.Reply.{Reply}
use Rattle.swd_port.specs.declared.state.Reply.TheVariants.{Okay, Waits, Faults, Silent}
use Rattle.swd_port.specs.declared.state.AfterAck.{AfterAck}
use Rattle.swd_port.specs.Choices.{IsPortMark, port_flip_of}
use Rattle.swd_port.specs.Choices.{port_flipped}
use Rattle.swd_port.specs.Answers.{port_seen_at}
use Rattle.swd_target.specs.Marks.{is_legal_mark}
use Rattle.swd_target.specs.declared.target.Target.{Target}
use Rattle.swd_clocked.specs.declared.frame.Frame.{Frame}
use Rattle.swd_clocked.specs.declared.frame.Frame.TheVariants.{Asks, Lost, High, Switches, Replies, Drives, Awaits}
use Rattle.swd_clocked.specs.declared.frame.Frame.TheVariants.{Passes}
use Rattle.swd_clocked.specs.declared.clocked.Clocked.{Clocked}
use Rattle.swd_clocked.specs.declared.marked.FaultyClocked.{FaultyClocked}
use Rattle.swd_clocked.specs.Frames.{reply_cycle_bit}
use Rattle.swd_clocked.specs.Cycles.{Cycles, FrameMoved}
use Rattle.swd_clocked.specs.Damage.{mark_changes_cycle, cycle_bit_turned, IsLastRequestCycle}
use Rattle.swd_clocked.specs.Marked.{CycleKeepsPlan, CycleReaches, MarkedCycles}
use Rattle.swd_clocked.specs.Phases.{CyclesMoveFrame}
use Rattle.swd_clocked.proofs.Shifts.{frame_moved_chain}

-- a mark that passes the test changes one of the 33 bits of a data phase, one of three of an ACK, or no bit
pub clocked_mark_legal : (m : Mark) → is_legal_mark m ≡ true → IsPortMark m
clocked_mark_legal Clean e = tt
clocked_mark_legal Wait e = tt
clocked_mark_legal (Flip place) e = grind (arith, nat_tests)
clocked_mark_legal Deaf e = tt
clocked_mark_legal (Mute place) e = grind (arith, nat_tests)

-- a frame in which no request ends
abbrev pub IsOpenFrame : Frame → Type 0
IsOpenFrame (Asks bits count) = count ≡ 7 → ⊥
IsOpenFrame frame = Unit {0}

no_end : (f : Frame) (b : Bool) (q : Request) → IsOpenFrame f → IsLastRequestCycle f b q → ⊥
no_end (Asks bits count) b q o l = o l.0
no_end (Lost ones) b q o l = l
no_end High b q o l = l
no_end (Switches place) b q o l = l
no_end (Replies reply line place) b q o l = l
no_end (Drives bits left) b q o l = l
no_end (Awaits r bits place) b q o l = l
no_end Passes b q o l = l

-- a cycle in a frame, with the bits that the mark changes
pub record TurnedCycle {D : Type 0} (bus : D → Bus) (f : Frame) (mark : Mark) (drive : Option Bool) (answer : Bool)
    (s : Target D)
    (w : Bool) (t : Clocked D) : Type 0 where
  pub bit : Bool
  pub cycles : Cycles bus f (cycle_bit_turned (mark_changes_cycle f mark (is_some drive)) (unwrap_or drive true)) bit s
      w t
  pub sees : answer ≡ cycle_bit_turned (mark_changes_cycle f mark (is_some drive)) bit

pub record OpenFrameStep {D A : Type 0} (bus : D → Bus) (f : Frame) (drive : Option Bool) (answer : Bool)
    (s t : FaultyClocked D A) : Type 0 where
  pub turns : TurnedCycle bus f s.mark drive answer s.clocked.target s.clocked.waits t.clocked
  pub keeps : CycleKeepsPlan s t
  pub heard : t.unseen ≡ 0

turns_of : {D A : Type 0} (bus : D → Bus) (m : Mark) (w : Bool) (drive : Option Bool) (answer : Bool)
    (s t : FaultyClocked D A)
    → CycleReaches bus m w drive answer s t → TurnedCycle bus s.clocked.frame m drive answer s.clocked.target w
    t.clocked
turns_of bus m w drive answer s t r = record { bit = r.bit; cycles = r.cycles; sees = r.sees }

-- a cycle that reaches the target is a cycle in its frame, its bit changed as the mark says
pub turned_cycle_in_frame : {D A : Type 0} (bus : D → Bus) (f : Frame) (m : Mark) (w : Bool) (drive : Option Bool)
    (answer : Bool)
    (s t : FaultyClocked D A) → CycleReaches bus m w drive answer s t → s.clocked.frame ≡ f
    → TurnedCycle bus f m drive answer s.clocked.target w t.clocked
turned_cycle_in_frame bus f m w drive answer s t r is =
    subst (λ (x : Frame). TurnedCycle bus x m drive answer s.clocked.target w t.clocked) is
    (turns_of bus m w drive answer s t r)

-- a cycle that reaches the target where no request ends keeps plan and mark, its bit changed as the mark says
pub open_frame_step : {D A : Type 0} (bus : D → Bus) (f : Frame) (drive : Option Bool) (answer : Bool)
    (s t : FaultyClocked D A)
    → MarkedCycles bus drive answer s t → s.unseen ≡ 0 → s.clocked.frame ≡ f → IsOpenFrame f
    → OpenFrameStep bus f drive answer s t
open_frame_step bus f drive answer s t c heard is o =
    let r = c.other heard (λ q l. no_end f (unwrap_or drive true) q o
    (subst (λ (x : Frame). IsLastRequestCycle x (unwrap_or drive true) q) is l)) in
    record {
      turns = turned_cycle_in_frame bus f s.mark s.clocked.waits drive answer s t r.0 is;
      keeps = r.1;
      heard = r.0.heard;
    }

-- a frame in which no bit is changed
abbrev pub IsPlainFrame : Frame → Type 0
IsPlainFrame (Asks bits count) = count ≡ 7 → ⊥
IsPlainFrame (Replies reply line place) = ⊥
IsPlainFrame (Drives bits left) = ⊥
IsPlainFrame (Awaits r bits place) = ⊥
IsPlainFrame frame = Unit {0}

plain_open : (f : Frame) → IsPlainFrame f → IsOpenFrame f
plain_open (Asks bits count) p = p
plain_open (Lost ones) p = tt
plain_open High p = tt
plain_open (Switches place) p = tt
plain_open (Replies reply line place) p = absurd p
plain_open (Drives bits left) p = absurd p
plain_open (Awaits r bits place) p = absurd p
plain_open Passes p = tt

plain_cycles : {D : Type 0} (bus : D → Bus) (f : Frame) (m : Mark) (drive : Option Bool) (answer : Bool) (s : Target D)
    (w : Bool)
    (t : Clocked D) → IsPlainFrame f → TurnedCycle bus f m drive answer s w t → Cycles bus f (unwrap_or drive true)
    answer s w t
plain_cycles bus (Asks bits count) m drive answer s w t p x =
    subst (λ (b : Bool). Cycles bus (Asks bits count) (unwrap_or drive true) b s w t) (sym x.sees) x.cycles
plain_cycles bus (Lost ones) m drive answer s w t p x =
    subst (λ (b : Bool). Cycles bus (Lost ones) (unwrap_or drive true) b s w t) (sym x.sees) x.cycles
plain_cycles bus High m drive answer s w t p x = subst (λ (b : Bool). Cycles bus High (unwrap_or drive true) b s w t)
    (sym x.sees) x.cycles
plain_cycles bus (Switches place) m drive answer s w t p x =
    subst (λ (b : Bool). Cycles bus (Switches place) (unwrap_or drive true) b s w t) (sym x.sees) x.cycles
plain_cycles bus (Replies reply line place) m drive answer s w t p x = absurd p
plain_cycles bus (Drives bits left) m drive answer s w t p x = absurd p
plain_cycles bus (Awaits r bits place) m drive answer s w t p x = absurd p
plain_cycles bus Passes m drive answer s w t p x = subst
    (λ (b : Bool). Cycles bus Passes (unwrap_or drive true) b s w t)
    (sym x.sees) x.cycles

-- a cycle in such a frame is one of the target alone
pub record PlainFrameStep {D A : Type 0} (bus : D → Bus) (f : Frame) (drive : Option Bool) (answer : Bool)
    (s t : FaultyClocked D A) : Type 0 where
  pub cycles : Cycles bus f (unwrap_or drive true) answer s.clocked.target s.clocked.waits t.clocked
  pub keeps : CycleKeepsPlan s t
  pub heard : t.unseen ≡ 0

-- a cycle that reaches the target in a frame where no bit is changed is one of the target alone
pub plain_frame_step : {D A : Type 0} (bus : D → Bus) (f : Frame) (drive : Option Bool) (answer : Bool)
    (s t : FaultyClocked D A)
    → MarkedCycles bus drive answer s t → s.unseen ≡ 0 → s.clocked.frame ≡ f → IsPlainFrame f
    → PlainFrameStep bus f drive answer s t
plain_frame_step bus f drive answer s t c heard is plain =
    let x = open_frame_step bus f drive answer s t c heard is (plain_open f plain) in
    record {
      cycles = plain_cycles bus f s.mark drive answer s.clocked.target s.clocked.waits t.clocked plain x.turns;
      keeps = x.keeps;
      heard = x.heard;
    }

-- cycles after cycles
pub cycles_keep_plan_chain : {D A : Type 0} (s t u : FaultyClocked D A) → CycleKeepsPlan s t → CycleKeepsPlan t u
    → CycleKeepsPlan s u
cycles_keep_plan_chain s t u a b = record { plan = b.plan ∙ a.plan; mark = b.mark ∙ a.mark }

pub no_cycle_keeps_plan : {D A : Type 0} (s : FaultyClocked D A) → CycleKeepsPlan s s
no_cycle_keeps_plan s = record { plan = refl; mark = refl }

-- where no cycle passed, nothing changed
pub no_cycle_moves_frame : {D A : Type 0} (f : Frame) (s : FaultyClocked D A) → s.unseen ≡ 0 → s.clocked.frame ≡ f
    → CyclesMoveFrame f s s
no_cycle_moves_frame f s heard is = record {
  moved = record { frame = is; target = refl; waits = refl };
  keeps = no_cycle_keeps_plan s;
  heard = heard;
}

-- cycles that changed only the frame, and a further such cycle, changed only the frame
pub cycles_move_frame_chain : {D A : Type 0} (f g : Frame) (s t u : FaultyClocked D A) → CyclesMoveFrame f s t
    → FrameMoved g t.clocked.target t.clocked.waits u.clocked → CycleKeepsPlan t u → u.unseen ≡ 0
    → CyclesMoveFrame g s u
cycles_move_frame_chain f g s t u a m k heard =
    record {
      moved = frame_moved_chain f g s.clocked.target s.clocked.waits t.clocked u.clocked a.moved m;
      keeps = cycles_keep_plan_chain s t u
          a.keeps k;
      heard = heard;
    }

-- the bit of a data phase with this number is changed
abbrev pub clocked_flip_at : Mark → ℕ → Bool
clocked_flip_at (Flip place) k = k == place
clocked_flip_at mark k = false

bit_turned : (r : ℕ) → r < 2 → ((r + 1) % 2 == 1) ≡ not (r == 1)
bit_turned zero h = refl
bit_turned (suc zero) h = refl
bit_turned (suc (suc r)) h = absurd (omega arith)

bit_kept : (r : ℕ) → r < 2 → ((r + 0) % 2 == 1) ≡ (r == 1)
bit_kept zero h = refl
bit_kept (suc zero) h = refl
bit_kept (suc (suc r)) h = absurd (omega arith)

flipped_bit : (v p k : ℕ) → cycle_bit_turned (k == p) (bit_at v k == 1) ≡ (bit_at (bit_xor v (2 ^ p)) k == 1)
flipped_bit v p k =
    let small = bit_at-lt v k in
    let xor : bit_at (bit_xor v (2 ^ p)) k ≡ (bit_at v k + bit_at (2 ^ p) k) % 2 = bit_at_xor v (2 ^ p) k in
    elim (eqb_tells k p) as (λ z. cycle_bit_turned (k == p) (bit_at v k == 1) ≡ (bit_at (bit_xor v (2 ^ p)) k == 1)) [
      | inl same ↦
          let one : bit_at (2 ^ p) k ≡ 1 = ap (bit_at (2 ^ p)) same.1 ∙ bit_at-pow_same p in
          ap (λ (c : Bool). cycle_bit_turned c (bit_at v k == 1)) same.0 ∙ sym (bit_turned (bit_at v k) small)
          ∙ ap (λ n. (bit_at v k + n) % 2 == 1) (sym one) ∙ ap (λ n. n == 1) (sym xor)
      | inr other ↦
          let none : bit_at (2 ^ p) k ≡ 0 = bit_at-pow_other p k other.1 in
          ap (λ (c : Bool). cycle_bit_turned c (bit_at v k == 1)) other.0 ∙ sym (bit_kept (bit_at v k) small)
          ∙ ap (λ n. (bit_at v k + n) % 2 == 1) (sym none) ∙ ap (λ n. n == 1) (sym xor)
    ]

-- a bit of a phase on the other side of the damage
pub clocked_phase_bit_flipped : (m : Mark) (v k : ℕ)
    → cycle_bit_turned (clocked_flip_at m k) (v / 2 ^ k % 2 == 1) ≡ (port_flipped (port_flip_of m) v / 2 ^ k % 2 == 1)
clocked_phase_bit_flipped Clean v k = refl
clocked_phase_bit_flipped Wait v k = refl
clocked_phase_bit_flipped (Flip p) v k = flipped_bit v p k
clocked_phase_bit_flipped Deaf v k = refl
clocked_phase_bit_flipped (Mute p) v k = refl

-- which cycle of a data phase has the bit
pub changed_drives_cycle : (m : Mark) (bits k : ℕ) (driven : Bool) → IsPortMark m → k < 33
    → mark_changes_cycle (Drives bits (33 - k)) m driven ≡ clocked_flip_at m k
changed_drives_cycle Clean bits k driven l h = refl
changed_drives_cycle Wait bits k driven l h = refl
changed_drives_cycle (Flip p) bits k driven l h = grind (arith, nat_tests)
changed_drives_cycle Deaf bits k driven l h = refl
changed_drives_cycle (Mute p) bits k driven l h = refl

-- the same of the data of a write that the host drives: the cycle of bit k is the one after the turnaround and k bits
pub changed_awaits_cycle : (m : Mark) (r : Register) (bits k : ℕ)
    → mark_changes_cycle (Awaits r bits (k + 1)) m true ≡ clocked_flip_at m k
changed_awaits_cycle Clean r bits k = refl
changed_awaits_cycle Wait r bits k = refl
changed_awaits_cycle (Flip p) r bits k = grind (arith, nat_tests)
changed_awaits_cycle Deaf r bits k = refl
changed_awaits_cycle (Mute p) r bits k = refl

-- the three bits of a reply under a mark
abbrev pub marked_reply_cycle : Mark → Reply → AfterAck → ℕ → Bool
marked_reply_cycle m reply line place = cycle_bit_turned (mark_changes_cycle (Replies reply line place) m false)
    (reply_cycle_bit reply place)

-- the number of three bits, the first of them least significant
abbrev pub clocked_ack_number : Bool → Bool → Bool → ℕ
clocked_ack_number a b c = bool_byte a + 2 * bool_byte b + 4 * bool_byte c

muted : (p : ℕ) (reply : Reply) (line : AfterAck) → p < 3 → (reply ≡ Silent → ⊥)
    → clocked_ack_number (marked_reply_cycle (Mute p) reply line 1) (marked_reply_cycle (Mute p) reply line 2)
    (marked_reply_cycle (Mute p) reply line 3) ≡ port_seen_at (Mute p) reply
muted p Silent line l n = absurd (n refl)
muted zero Okay line l n = refl
muted zero Waits line l n = refl
muted zero Faults line l n = refl
muted (suc zero) Okay line l n = refl
muted (suc zero) Waits line l n = refl
muted (suc zero) Faults line l n = refl
muted (suc (suc zero)) Okay line l n = refl
muted (suc (suc zero)) Waits line l n = refl
muted (suc (suc zero)) Faults line l n = refl
muted (suc (suc (suc p))) Okay line l n = absurd (omega arith)
muted (suc (suc (suc p))) Waits line l n = absurd (omega arith)
muted (suc (suc (suc p))) Faults line l n = absurd (omega arith)

-- the three bits that a reply drives, as a mark leaves them, are the ACK as seen under that mark
pub marked_reply_cycles_seen : (m : Mark) (reply : Reply) (line : AfterAck) → IsPortMark m → (reply ≡ Silent → ⊥)
    → clocked_ack_number (marked_reply_cycle m reply line 1) (marked_reply_cycle m reply line 2)
    (marked_reply_cycle m reply line 3) ≡ port_seen_at m reply
marked_reply_cycles_seen m Silent line l n = absurd (n refl)
marked_reply_cycles_seen (Mute p) Okay line l n = muted p Okay line l n
marked_reply_cycles_seen (Mute p) Waits line l n = muted p Waits line l n
marked_reply_cycles_seen (Mute p) Faults line l n = muted p Faults line l n
marked_reply_cycles_seen Clean Okay line l n = refl
marked_reply_cycles_seen Clean Waits line l n = refl
marked_reply_cycles_seen Clean Faults line l n = refl
marked_reply_cycles_seen Wait Okay line l n = refl
marked_reply_cycles_seen Wait Waits line l n = refl
marked_reply_cycles_seen Wait Faults line l n = refl
marked_reply_cycles_seen (Flip p) Okay line l n = refl
marked_reply_cycles_seen (Flip p) Waits line l n = refl
marked_reply_cycles_seen (Flip p) Faults line l n = refl
marked_reply_cycles_seen Deaf Okay line l n = refl
marked_reply_cycles_seen Deaf Waits line l n = refl
marked_reply_cycles_seen Deaf Faults line l n = refl

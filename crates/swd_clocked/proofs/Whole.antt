-- Whole phases at a clocked target whose requests meet a plan: what their cycles do. For `FaultyClocked`.
use Rattle.std.proofs.Common.{◌≡◌, ℕ, suc, ◌+◌, ◌/◌, ◌%◌, ◌-◌, ◌<◌, ◌≤◌, ◌^◌, ◌⊎◌, inl, inr, Option, Some, None, Bool}
use Rattle.std.proofs.Common.{true, false, refl, sym, ap, subst, ◌∙◌, arith, if◌then◌else◌}
use Rattle.std.specs.Prelude.{◌==◌, is_some, unwrap_or}
use Rattle.std.proofs.lemmas.Bool.{cases_lt}
use Rattle.std.proofs.lemmas.Nat.{xor_lt}
use Rattle.std.proofs.Math.Pow.{pow-lt}
use Rattle.std.proofs.lemmas.Bool.Decides.{nat_tests}
use Rattle.swd_bits.specs.Bits.{low_bits}
use Rattle.swd_bits.specs.Wire.{bits_of_request}
use Rattle.swd_bits.specs.declared.request.Request.{Request}
use Rattle.swd_port.specs.Bus.{Bus}
use Rattle.swd_port.specs.declared.mark.Mark.{Mark}
use Rattle.swd_port.specs.declared.mark.Mark.TheVariants.{Clean, Wait, Flip, Deaf, Mute}
use Rattle.swd_port.specs.declared.register.Register.{Register}
use Rattle.swd_port.specs.declared.state.Reply.{Reply}
use Rattle.swd_port.specs.declared.state.Reply.TheVariants.{Okay, Waits, Faults, Silent}
use Rattle.swd_port.specs.declared.state.AfterAck.{AfterAck}
use Rattle.swd_port.specs.Choices.{IsPortMark, is_port_deaf, is_port_wait, port_flip_of}
use Rattle.swd_port.specs.Choices.{port_flipped}
use Rattle.swd_port.specs.Answers.{port_seen_at}
use Rattle.swd_target.specs.Requests.{TargetAnswers}
use Rattle.swd_target.specs.declared.plan.Plan.{Plan}
use Rattle.swd_target.specs.declared.target.Target.{Target}
use Rattle.swd_clocked.specs.declared.frame.Frame.{Frame}
use Rattle.swd_clocked.specs.declared.frame.Frame.TheVariants.{Asks, Lost, High, Switches, Replies, Drives, Awaits}
use Rattle.swd_clocked.specs.declared.frame.Frame.TheVariants.{Passes}
use Rattle.swd_clocked.specs.declared.clocked.Clocked.{Clocked}
use Rattle.swd_clocked.specs.declared.marked.FaultyClocked.{FaultyClocked}
use Rattle.swd_clocked.specs.Frames.{idle_frame, clocked_shifted, frame_after_reply, frame_replied, frame_seen}
use Rattle.swd_clocked.specs.Frames.{IsRisingFrame, rising_frame_ones, frame_place, frame_limit}
use Rattle.swd_clocked.specs.Cycles.{Cycles, FrameMoved, ClockedRequested, ClockedSeen, AwaitsCycle}
use Rattle.swd_clocked.specs.Damage.{mark_changes_cycle, cycle_bit_turned, IsLastRequestCycle}
use Rattle.swd_clocked.specs.Marked.{CycleKeepsPlan, CycleUsesMark, CycleMisses, MarkedCycles}
use Rattle.swd_clocked.specs.Phases.{CyclesMoveFrame, CyclesSendRequest, CyclesSeeReply, CyclesAskRequest}
use Rattle.swd_clocked.proofs.Shifts.{frame_moved_chain, clocked_ones_no_request, clocked_shift_halved}
use Rattle.swd_clocked.proofs.Shifts.{drives_frame_left_less}
use Rattle.swd_clocked.proofs.Calls.{ClockedSeenUnder, clocked_seen_under_mark, clocked_deaf_is_silent}
use Rattle.swd_clocked.proofs.Calls.{clocked_mark_is_deaf}
use Rattle.swd_clocked.proofs.Marks.{clocked_flip_at, clocked_phase_bit_flipped, changed_drives_cycle}
use Rattle.swd_clocked.proofs.Marks.{changed_awaits_cycle, TurnedCycle, open_frame_step, turned_cycle_in_frame}
use Rattle.swd_clocked.proofs.Marks.{plain_frame_step, cycles_move_frame_chain, no_cycle_moves_frame}
use Rattle.swd_clocked.proofs.Marks.{cycles_keep_plan_chain, marked_reply_cycle, clocked_ack_number}
use Rattle.swd_clocked.proofs.Marks.{marked_reply_cycles_seen}

-- the last bit of a request
pub request_last_cycle : {D A : Type 0} (bus : D → Bus) (q : Request) (b answer : Bool) (bits byte : ℕ)
    (s t u : FaultyClocked D A)
    → CyclesMoveFrame (Asks bits 7) s t → MarkedCycles bus (Some b) answer t u
    → clocked_shifted 128 bits b ≡ byte → low_bits 8 byte ≡ bits_of_request q → CyclesSendRequest bus q s u
request_last_cycle bus q b answer bits byte s t u goes c whole is =
    let eq : bits_of_request q ≡ low_bits 8 (clocked_shifted 128 bits b) = sym is ∙ ap (low_bits 8) (sym whole) in
    let last : IsLastRequestCycle t.clocked.frame b q =
    subst (λ (x : Frame). IsLastRequestCycle x b q) (sym goes.moved.frame) (refl, eq) in
    let m = c.met goes.heard q last in
    record {
      uses = subst (λ (p : Plan _). CycleUsesMark u.mark p u.plan) goes.keeps.plan m.uses;
      deaf = λ d. let x = m.deaf d in (
        frame_moved_chain _ idle_frame s.clocked.target s.clocked.waits t.clocked u.clocked goes.moved x.moved,
        x.left,
      );
      hears = λ h.
          let r = m.hears h in
          let x = turned_cycle_in_frame bus (Asks bits 7) u.mark (is_port_wait u.mark) (Some b) answer t u r
          goes.moved.frame in
          let came = x.cycles.1.whole refl in (
            subst (λ (y : Target _). ClockedRequested bus q y (is_port_wait u.mark) u.clocked) goes.moved.target
                (came.whole q eq),
            r.heard,
          );
    }

-- a cycle of a reply
record RepliesStep {D A : Type 0} (reply : Reply) (line : AfterAck) (place : ℕ) (answer : Bool)
    (s t : FaultyClocked D A) : Type 0 where
  pub moved : FrameMoved (if place == 3 then frame_after_reply line else Replies reply line (place + 1))
      s.clocked.target s.clocked.waits t.clocked
  pub keeps : CycleKeepsPlan s t
  pub heard : t.unseen ≡ 0
  pub driven : (place ≡ 0 → ⊥) → answer ≡ marked_reply_cycle s.mark reply line place

replies_step : {D A : Type 0} (bus : D → Bus) (reply : Reply) (line : AfterAck) (place : ℕ) (answer : Bool)
    (s t : FaultyClocked D A)
    → MarkedCycles bus None answer s t → s.unseen ≡ 0 → s.clocked.frame ≡ Replies reply line place
    → RepliesStep reply line place answer s t
replies_step bus reply line place answer s t c heard is =
    let x = open_frame_step bus (Replies reply line place) None answer s t c heard is tt in
    record {
      moved = x.turns.cycles.frame;
      keeps = x.keeps;
      heard = x.heard;
      driven = λ some. x.turns.sees
          ∙ ap (cycle_bit_turned (mark_changes_cycle (Replies reply line place) s.mark false))
          (x.turns.cycles.driven some);
    }

-- a cycle that doesn't reach the target
missed_step : {D A : Type 0} (bus : D → Bus) (left : ℕ) (answer : Bool) (s t : FaultyClocked D A) → MarkedCycles bus
    None answer s t
    → s.unseen ≡ suc left → CycleMisses left None answer s t × CycleKeepsPlan s t
missed_step bus left answer s t c some =
    let x = c.missed (λ none. absurd (omega arith)) in
    let less : s.unseen - 1 ≡ left = omega arith in
    (subst (λ n. CycleMisses n None answer s t) less x.0, x.1)

-- in the last three of four undriven cycles after a request the host sees the reply's bits, or ones without a reply
pub reply_cycles_seen : {D A : Type 0} (bus : D → Bus) (s a b c t : FaultyClocked D A) (w x y z : Bool) → IsPortMark
    s.mark
    → MarkedCycles bus None w s a
    → MarkedCycles bus None x a b → MarkedCycles bus None y b c → MarkedCycles bus None z c t
    → CyclesSeeReply (clocked_ack_number x y z) s t
reply_cycles_seen bus s a b c t w x y z legal one two three four = record {
  replied = λ reply line some heard is.
      let p = replies_step bus reply line 0 w s a one heard is in
      let q = replies_step bus reply line 1 x a b two p.heard p.moved.frame in
      let r = replies_step bus reply line 2 y b c three q.heard q.moved.frame in
      let u = replies_step bus reply line 3 z c t four r.heard r.moved.frame in
      let mark_b : b.mark ≡ s.mark = q.keeps.mark ∙ p.keeps.mark in
      let mark_c : c.mark ≡ s.mark = r.keeps.mark ∙ mark_b in
      let first : x ≡ marked_reply_cycle s.mark reply line 1 = q.driven (λ e. absurd (omega arith))
      ∙ ap (λ (m : Mark). marked_reply_cycle m reply line 1) p.keeps.mark in
      let second : y ≡ marked_reply_cycle s.mark reply line 2 = r.driven (λ e. absurd (omega arith))
      ∙ ap (λ (m : Mark). marked_reply_cycle m reply line 2) mark_b in
      let third : z ≡ marked_reply_cycle s.mark reply line 3 = u.driven (λ e. absurd (omega arith))
      ∙ ap (λ (m : Mark). marked_reply_cycle m reply line 3) mark_c in
      let here = cycles_move_frame_chain _ _ s s a (no_cycle_moves_frame _ s heard is) p.moved p.keeps p.heard in
      let there = cycles_move_frame_chain _ _ s a b here q.moved q.keeps q.heard in
      let soon = cycles_move_frame_chain _ _ s b c there r.moved r.keeps r.heard in (
        ap (λ (v : Bool). clocked_ack_number v y z) first ∙ ap
            (λ (v : Bool). clocked_ack_number (marked_reply_cycle s.mark reply line 1) v z) second ∙ ap
            (λ (v : Bool). clocked_ack_number (marked_reply_cycle s.mark reply line 1)
            (marked_reply_cycle s.mark reply line 2) v) third ∙ marked_reply_cycles_seen s.mark reply line legal some,
        cycles_move_frame_chain _ _ s c t soon u.moved u.keeps u.heard,
      );
  lost = λ heard is.
      let p = plain_frame_step bus (Lost 1) None w s a one heard is tt in
      let p' = p.cycles.1.more (omega arith) refl in
      let q = plain_frame_step bus (Lost 2) None x a b two p.heard p'.frame tt in
      let q' = q.cycles.1.more (omega arith) refl in
      let r = plain_frame_step bus (Lost 3) None y b c three q.heard q'.frame tt in
      let r' = r.cycles.1.more (omega arith) refl in
      let u = plain_frame_step bus (Lost 4) None z c t four r.heard r'.frame tt in
      let u' = u.cycles.1.more (omega arith) refl in
      let here = cycles_move_frame_chain _ (Lost 2) s s a (no_cycle_moves_frame _ s heard is) p' p.keeps p.heard in
      let there = cycles_move_frame_chain _ (Lost 3) s a b here q' q.keeps q.heard in
      let soon = cycles_move_frame_chain _ (Lost 4) s b c there r' r.keeps r.heard in
      (rw (q.cycles.0, r.cycles.0, u.cycles.0) refl, cycles_move_frame_chain _ (Lost 5) s c t soon u' u.keeps u.heard);
  missed = λ unseen.
      let p = missed_step bus 3 w s a one unseen in
      let q = missed_step bus 2 x a b two p.0.left in
      let r = missed_step bus 1 y b c three q.0.left in
      let u = missed_step bus 0 z c t four r.0.left in
      let near = frame_moved_chain _ idle_frame s.clocked.target s.clocked.waits a.clocked b.clocked p.0.moved q.0.moved
      in
      let far = frame_moved_chain _ idle_frame s.clocked.target s.clocked.waits b.clocked c.clocked near r.0.moved in (
        rw (q.0.sees, r.0.sees, u.0.sees) refl,
        record {
          moved = frame_moved_chain _ idle_frame s.clocked.target s.clocked.waits c.clocked t.clocked far u.0.moved;
          keeps = cycles_keep_plan_chain s c t (cycles_keep_plan_chain s b c (cycles_keep_plan_chain s a b p.1 q.1) r.1)
              u.1;
          heard = u.0.left;
        },
      );
}

-- a driven cycle of a read's data doesn't look at the line
driven_anyway : {D : Type 0} (bus : D → Bus) (bits left : ℕ) (b bit : Bool) (s : Target D) (w : Bool) (t : Clocked D)
    → (left ≡ 0 → ⊥)
    → Cycles bus (Drives bits left) b bit s w t → Cycles bus (Drives bits left) true bit s w t
driven_anyway bus bits left b bit s w t some c =
    record { driven = c.driven; more = c.more; turn = λ none. absurd (some none) }

unchanged_turn : (m : Mark) (bits left : ℕ) (driven : Bool) → IsPortMark m → left ≡ 0
    → mark_changes_cycle (Drives bits left) m driven ≡ false
unchanged_turn Clean bits left driven l e = refl
unchanged_turn Wait bits left driven l e = refl
unchanged_turn (Flip p) bits left driven l e = grind (arith, nat_tests)
unchanged_turn Deaf bits left driven l e = refl
unchanged_turn (Mute p) bits left driven l e = refl

unchanged_undriven : (m : Mark) (r : Register) (bits place : ℕ)
    → mark_changes_cycle (Awaits r bits place) m false ≡ false
unchanged_undriven Clean r bits place = refl
unchanged_undriven Wait r bits place = refl
unchanged_undriven (Flip p) r bits place = refl
unchanged_undriven Deaf r bits place = refl
unchanged_undriven (Mute p) r bits place = refl

-- A one reaches the target as a one where no data of a write is open, or the line is undriven.
pub one_cycle_reaches : {D : Type 0} (bus : D → Bus) (f : Frame) (m : Mark) (drive : Option Bool) (answer : Bool)
    (s : Target D)
    (w : Bool) (t : Clocked D) → IsPortMark m → IsRisingFrame f → frame_place f < frame_limit f
    → unwrap_or drive true ≡ true → (is_some drive ≡ true → rising_frame_ones f ≤ 50)
    → TurnedCycle bus f m drive answer s w t
    → (bit : Bool) × Cycles bus f true bit s w t
one_cycle_reaches bus (Asks bits count) m drive answer s w t l i p one quiet x =
    (x.bit, subst (λ (b : Bool). Cycles bus (Asks bits count) b x.bit s w t) one x.cycles)
one_cycle_reaches bus (Lost ones) m drive answer s w t l i p one quiet x =
    (x.bit, subst (λ (b : Bool). Cycles bus (Lost ones) b x.bit s w t) one x.cycles)
one_cycle_reaches bus High m drive answer s w t l i p one quiet x =
    (x.bit, subst (λ (b : Bool). Cycles bus High b x.bit s w t) one x.cycles)
one_cycle_reaches bus (Switches place) m drive answer s w t l i p one quiet x = absurd i
one_cycle_reaches bus (Replies reply line place) m drive answer s w t l i p one quiet x = absurd i
one_cycle_reaches bus (Drives bits left) m drive answer s w t l i p one quiet x =
    elim (cases_lt 0 left) as (λ (z : (0 < left) ⊎ (left ≤ 0)). (bit : Bool) × Cycles bus (Drives bits left) true bit s
    w t) [
      | inl some ↦ (x.bit, driven_anyway bus bits left _ x.bit s w t (λ e. absurd (omega arith)) x.cycles)
      | inr none ↦
          let same : mark_changes_cycle (Drives bits left) m (is_some drive) ≡ false =
          unchanged_turn m bits left (is_some drive) l (omega arith) in (
            x.bit,
            subst (λ (b : Bool). Cycles bus (Drives bits left) b x.bit s w t)
                (ap (λ (c : Bool). cycle_bit_turned c (unwrap_or drive true)) same ∙ one) x.cycles,
          )
    ]
one_cycle_reaches bus (Awaits r bits place) m (Some b) answer s w t l i p one quiet x =
    absurd (let low = quiet refl in omega arith)
one_cycle_reaches bus (Awaits r bits place) m None answer s w t l i p one quiet x = (
  x.bit,
  subst (λ (b : Bool). Cycles bus (Awaits r bits place) b x.bit s w t)
      (ap (λ (c : Bool). cycle_bit_turned c true) (unchanged_undriven m r bits place)) x.cycles,
)
one_cycle_reaches bus Passes m drive answer s w t l i p one quiet x =
    (x.bit, subst (λ (b : Bool). Cycles bus Passes b x.bit s w t) one x.cycles)

-- no request ends in ones
no_end_of_ones : (f : Frame) (q : Request) → IsRisingFrame f → IsLastRequestCycle f true q → ⊥
no_end_of_ones (Asks bits count) q i l = clocked_ones_no_request q
    (l.1 ∙ ap (λ n. low_bits 8 (clocked_shifted 128 n true)) i)
no_end_of_ones (Lost ones) q i l = l
no_end_of_ones High q i l = l
no_end_of_ones (Switches place) q i l = l
no_end_of_ones (Replies reply line place) q i l = l
no_end_of_ones (Drives bits left) q i l = l
no_end_of_ones (Awaits r bits place) q i l = l
no_end_of_ones Passes q i l = l

-- a one, where ones lead to a line reset
pub record OneCycleStep {D A : Type 0} (bus : D → Bus) (s t : FaultyClocked D A) : Type 0 where
  pub bit : Bool
  pub cycles : Cycles bus s.clocked.frame true bit s.clocked.target s.clocked.waits t.clocked
  pub keeps : CycleKeepsPlan s t
  pub heard : t.unseen ≡ 0

-- where ones lead to a line reset, a one reaches the target if it is undriven or at most fifty are needed
pub one_cycle_step : {D A : Type 0} (bus : D → Bus) (drive : Option Bool) (answer : Bool) (s t : FaultyClocked D A)
    → IsPortMark s.mark
    → IsRisingFrame s.clocked.frame → frame_place s.clocked.frame < frame_limit s.clocked.frame → s.unseen ≡ 0
    → unwrap_or drive true ≡ true → (is_some drive ≡ true → rising_frame_ones s.clocked.frame ≤ 50)
    → MarkedCycles bus drive answer s t
    → OneCycleStep bus s t
one_cycle_step bus drive answer s t legal i p heard one quiet c =
    let r = c.other heard (λ q l. no_end_of_ones s.clocked.frame q i
    (subst (λ (b : Bool). IsLastRequestCycle s.clocked.frame b q) one l)) in
    let x = one_cycle_reaches bus s.clocked.frame s.mark drive answer s.clocked.target s.clocked.waits t.clocked legal i
    p
    one quiet (turned_cycle_in_frame bus s.clocked.frame s.mark s.clocked.waits drive answer s t r.0 refl) in
    record { bit = x.0; cycles = x.1; keeps = r.1; heard = r.0.heard }

-- a bit of a read's data, as it arrives
pub record DrivenCycleStep {D A : Type 0} (got sent k : ℕ) (answer : Bool) (s t : FaultyClocked D A) : Type 0 where
  pub seen : answer ≡ (got / 2 ^ k % 2 == 1)
  pub moved : FrameMoved (Drives (sent / 2 ^ (k + 1)) (33 - (k + 1))) s.clocked.target s.clocked.waits t.clocked
  pub keeps : CycleKeepsPlan s t
  pub heard : t.unseen ≡ 0

-- the host sees bit k of a read's data as the mark leaves it, and the target has one bit fewer to drive
pub driven_cycle_step : {D A : Type 0} (bus : D → Bus) (m : Mark) (sent k : ℕ) (answer : Bool) (s t : FaultyClocked D A)
    → IsPortMark m
    → k < 33 → s.mark ≡ m → MarkedCycles bus None answer s t → s.unseen ≡ 0
    → s.clocked.frame ≡ Drives (sent / 2 ^ k) (33 - k)
    → DrivenCycleStep (port_flipped (port_flip_of m) sent) sent k answer s t
driven_cycle_step bus m sent k answer s t legal small same c heard is =
    let rest = sent / 2 ^ k in
    let x = open_frame_step bus (Drives rest (33 - k)) None answer s t c heard is tt in
    let d = x.turns.cycles in
    let some : 33 - k ≡ 0 → ⊥ = λ e. absurd (omega arith) in
    let change : mark_changes_cycle (Drives rest (33 - k)) s.mark false ≡ clocked_flip_at m k =
    ap (λ (y : Mark). mark_changes_cycle (Drives rest (33 - k)) y false) same
    ∙ changed_drives_cycle m rest k false legal small in
    record {
      seen = x.turns.sees ∙ ap (cycle_bit_turned (mark_changes_cycle (Drives rest (33 - k)) s.mark false))
          (d.driven some) ∙ ap (λ (y : Bool). cycle_bit_turned y (rest % 2 == 1)) change ∙ clocked_phase_bit_flipped m
          sent k;
      moved = drives_frame_left_less _ k s.clocked.target s.clocked.waits t.clocked small
          (subst (λ n. FrameMoved (Drives n (33 - k - 1)) s.clocked.target s.clocked.waits t.clocked)
          (clocked_shift_halved sent k) (d.more some));
      keeps = x.keeps;
      heard = x.heard;
    }

-- a bit of a write's data, as it arrives
pub record ArrivingCycleStep {D A : Type 0} (bus : D → Bus) (got k : ℕ) (r : Register) (bits : ℕ)
    (s t : FaultyClocked D A) : Type 0 where
  pub awaits : AwaitsCycle bus r bits (k + 1) (got / 2 ^ k % 2 == 1) s.clocked.target s.clocked.waits t.clocked
  pub keeps : CycleKeepsPlan s t
  pub heard : t.unseen ≡ 0

-- bit k of a write's data reaches the target as the mark leaves it
pub arriving_cycle_step : {D A : Type 0} (bus : D → Bus) (m : Mark) (sent k : ℕ) (r : Register) (bits rest : ℕ)
    (answer : Bool)
    (s t : FaultyClocked D A) → s.mark ≡ m → rest ≡ sent / 2 ^ k → MarkedCycles bus (Some (rest % 2 == 1)) answer s t
    → s.unseen ≡ 0
    → s.clocked.frame ≡ Awaits r bits (k + 1) → ArrivingCycleStep bus (port_flipped (port_flip_of m) sent) k r bits s t
arriving_cycle_step bus m sent k r bits rest answer s t same whole c heard is =
    let x = open_frame_step bus (Awaits r bits (k + 1)) (Some (rest % 2 == 1)) answer s t c heard is tt in
    let change : mark_changes_cycle (Awaits r bits (k + 1)) s.mark true ≡ clocked_flip_at m k =
    ap (λ (y : Mark). mark_changes_cycle (Awaits r bits (k + 1)) y true) same ∙ changed_awaits_cycle m r bits k in
    let bit : cycle_bit_turned (mark_changes_cycle (Awaits r bits (k + 1)) s.mark true) (rest % 2 == 1) ≡
    (port_flipped (port_flip_of m) sent / 2 ^ k % 2 == 1) =
    ap (λ (y : Bool). cycle_bit_turned y (rest % 2 == 1)) change ∙ ap
    (λ n. cycle_bit_turned (clocked_flip_at m k) (n % 2 == 1)) whole ∙ clocked_phase_bit_flipped m sent k in
    record {
      awaits = subst (λ (b : Bool). AwaitsCycle bus r bits (k + 1) b s.clocked.target s.clocked.waits t.clocked) bit
          x.turns.cycles.1;
      keeps = x.keeps;
      heard = x.heard;
    }

-- a phase with a changed bit has 33 bits, too
pub clocked_flip_in_33_bits : (m : Mark) (v : ℕ) → IsPortMark m → v < 2 ^ 33 → port_flipped (port_flip_of m) v < 2 ^ 33
clocked_flip_in_33_bits Clean v l h = h
clocked_flip_in_33_bits Wait v l h = h
clocked_flip_in_33_bits (Flip p) v l h = xor_lt 33 v (2 ^ p) h (pow-lt l)
clocked_flip_in_33_bits Deaf v l h = h
clocked_flip_in_33_bits (Mute p) v l h = h

seen_silent : (m : Mark) → port_seen_at m Silent ≡ 7
seen_silent Clean = refl
seen_silent Wait = refl
seen_silent (Flip p) = refl
seen_silent Deaf = refl
seen_silent (Mute p) = refl

-- a request, and its reply
asked_reply : {D A : Type 0} (bus : D → Bus) (q : Request) (seen : ℕ) (s m t : FaultyClocked D A)
    → (x : ClockedRequested bus q s.clocked.target (is_port_wait m.mark) m.clocked) → m.unseen ≡ 0 → CyclesSeeReply seen
    m t
    → (a : Reply) × (seen ≡ port_seen_at m.mark a) × ClockedSeen bus q a s.clocked.target (is_port_wait m.mark)
    t.clocked
    × CycleKeepsPlan m t
    × (t.unseen ≡ 0)
asked_reply bus q seen s m t x heard r =
    let both : (reply : Reply) → x.reply ≡ reply → (seen ≡ port_seen_at m.mark reply)
    × CyclesMoveFrame (frame_seen reply x.phase) m t =
    λ reply. elim reply as (λ (y : Reply). x.reply ≡ y → (seen ≡ port_seen_at m.mark y)
    × CyclesMoveFrame (frame_seen y x.phase) m t) [
      | Okay ↦ λ e. r.replied Okay x.phase (λ n. cc) heard (x.frame ∙ ap (λ y. frame_replied y x.phase) e)
      | Waits ↦ λ e. r.replied Waits x.phase (λ n. cc) heard (x.frame ∙ ap (λ y. frame_replied y x.phase) e)
      | Faults ↦ λ e. r.replied Faults x.phase (λ n. cc) heard (x.frame ∙ ap (λ y. frame_replied y x.phase) e)
      | Silent ↦ λ e. let z = r.lost heard (x.frame ∙ ap (λ y. frame_replied y x.phase) e) in
          (z.0 ∙ sym (seen_silent m.mark), z.1)
    ] in
    let z = both x.reply refl in (
      x.reply,
      z.0,
      record {
        phase = x.phase;
        answers = subst (λ (y : Target _). TargetAnswers bus (is_port_wait m.mark) q s.clocked.target x.reply x.phase y)
            (sym z.1.moved.target) x.answers;
        frame = z.1.moved.frame;
        waits = z.1.moved.waits ∙ x.waits;
      },
      z.1.keeps,
      z.1.heard,
    )

-- a step under either kind of mark
heard_or_not : (b : Bool) → (b ≡ true) ⊎ (b ≡ false)
heard_or_not true = inl refl
heard_or_not false = inr refl

-- the bits of a request and the cycles of its reply are together a request, the reply to it and the ACK that is seen
pub clocked_ask_whole : {D A : Type 0} (bus : D → Bus) (q : Request) (seen : ℕ) (s m t : FaultyClocked D A)
    → CyclesSendRequest bus q s m
    → CyclesSeeReply seen m t → CyclesAskRequest bus q seen s t
clocked_ask_whole bus q seen s m t sent r =
    let mark : CycleKeepsPlan m t → t.mark ≡ m.mark = λ k. k.mark in
    let uses : CycleKeepsPlan m t → CycleUsesMark t.mark s.plan t.plan =
    λ k. subst (λ (y : Mark). CycleUsesMark y s.plan t.plan) (sym k.mark)
    (subst (λ (p : Plan _). CycleUsesMark m.mark s.plan p) (sym k.plan) sent.uses) in
    elim (heard_or_not (is_port_deaf m.mark)) as
    (λ (z : (is_port_deaf m.mark ≡ true) ⊎ (is_port_deaf m.mark ≡ false)). CyclesAskRequest bus q seen s t) [
      | inl deaf ↦
          let d = sent.deaf deaf in
          let x = r.missed d.1 in
          record {
            uses = uses x.1.keeps;
            heard = x.1.heard;
            deaf = λ e. (
              x.0,
              frame_moved_chain _ idle_frame s.clocked.target s.clocked.waits m.clocked t.clocked d.0
                  x.1.moved,
            );
            hears = λ e. absurd (let k : is_port_deaf t.mark ≡ true = ap is_port_deaf (mark x.1.keeps) ∙ deaf in cc);
          }
      | inr hears ↦
          let h = sent.hears hears in
          let x = asked_reply bus q seen s m t h.0 h.1 r in
          let e = mark x.3 in
          record {
            uses = uses x.3;
            heard = x.4;
            deaf = λ d. absurd (let k : is_port_deaf t.mark ≡ false = ap is_port_deaf e ∙ hears in cc);
            hears = λ d. (
              x.0,
              x.1 ∙ ap (λ (y : Mark). port_seen_at y x.0) (sym e),
              subst (λ (y : Mark). ClockedSeen bus q x.0 s.clocked.target (is_port_wait y) t.clocked) (sym e) x.2,
            );
          }
    ]

-- what a bench sees of it
pub clocked_ask_under_mark : {D A : Type 0} (bus : D → Bus) (q : Request) (seen : ℕ) (s t : FaultyClocked D A)
    → CyclesAskRequest bus q seen s t
    → (a : Reply) × (seen ≡ port_seen_at t.mark a) × ClockedSeenUnder bus t.mark q a s.clocked.target t.clocked
clocked_ask_under_mark bus q seen s t x =
    elim (heard_or_not (is_port_deaf t.mark)) as
    (λ (z : (is_port_deaf t.mark ≡ true) ⊎ (is_port_deaf t.mark ≡ false)). (a : Reply) × (seen ≡ port_seen_at t.mark a)
    × ClockedSeenUnder bus t.mark q a s.clocked.target t.clocked) [
      | inl deaf ↦ let d = x.deaf deaf in (
        Silent,
        d.0 ∙ sym (seen_silent t.mark),
        clocked_deaf_is_silent bus t.mark q s.clocked.target s.clocked.waits t.clocked
            (clocked_mark_is_deaf t.mark deaf) d.1,
      )
      | inr hears ↦ let h = x.hears hears in (
        h.0,
        h.1,
        clocked_seen_under_mark bus t.mark q h.0 s.clocked.target (is_port_wait t.mark) t.clocked x.uses.legal
            hears refl h.2,
      )
    ]

-- What a clocked bench does is a step of the port machine.
use Rattle.std.proofs.Common.{◌≡◌, ℕ, zero, suc, ◌%◌, ◌<◌, Option, Bool, true, false, refl, sym, ap, subst, ◌∙◌, arith}
use Rattle.std.specs.Prelude.{◌==◌}
use Rattle.std.proofs.lemmas.Bool.Decides.{nat_tests}
use Rattle.swd_bits.specs.Bits.{low_bits}
use Rattle.swd_bits.specs.Wire.{bits_of_request}
use Rattle.swd_bits.specs.declared.request.Request.{Request}
use Rattle.swd_port.specs.Bus.{Bus}
use Rattle.swd_port.specs.declared.wire.Due.{Due}
use Rattle.swd_port.specs.declared.wire.Due.TheVariants.{Nothing, Give, Lost as DueLost}
use Rattle.swd_port.specs.declared.mark.Mark.{Mark}
use Rattle.swd_port.specs.declared.mark.Mark.TheVariants.{Clean, Wait, Flip, Deaf, Mute}
use Rattle.swd_port.specs.declared.register.Register.{Register}
use Rattle.swd_port.specs.declared.state.Reply.{Reply}
use Rattle.swd_port.specs.declared.state.Reply.TheVariants.{Okay, Waits, Faults, Silent}
use Rattle.swd_port.specs.declared.state.AfterAck.{AfterAck}
use Rattle.swd_port.specs.declared.state.AfterAck.TheVariants as lines
use Rattle.swd_port.specs.Port.{PortLink}
use Rattle.swd_port.specs.Choices.{IsPortMark, is_port_deaf, is_port_wait, port_flip_of}
use Rattle.swd_port.specs.Answers.{port_ack_driven, port_seen_at, port_due_after}
use Rattle.swd_port.specs.Asking.{port_line_after, port_phase_after}
use Rattle.swd_target.specs.declared.target.Target.{Target}
use Rattle.swd_target.specs.Flips.{target_line_flipped, target_line_under}
use Rattle.swd_target.specs.Requests.{TargetAnswersUnder}
use Rattle.swd_target.specs.Simulations.{simulation_reply, simulation_phase, simulation_link_after}
use Rattle.swd_target.specs.Targets.{target_simulation}
use Rattle.swd_target.proofs.AskLemmas.{simulated_answers_deaf}
use Rattle.swd_clocked.specs.declared.frame.Frame.{Frame}
use Rattle.swd_clocked.specs.declared.frame.Frame.TheVariants.{Asks, Lost, High, Switches, Replies, Drives, Awaits}
use Rattle.swd_clocked.specs.declared.frame.Frame.TheVariants.{Passes}
use Rattle.swd_clocked.specs.declared.clocked.Clocked.{Clocked}
use Rattle.swd_clocked.specs.Frames.{idle_frame, frame_register, frame_seen}
use Rattle.swd_clocked.specs.Cycles.{FrameMoved, ClockedSeen}
use Rattle.swd_clocked.specs.Rests.{frame_fits_due, is_idle_frame, frame_line}

-- the first bit of a request is a one
pub clocked_request_start : (q : Request) (v : ℕ) → low_bits 8 v ≡ bits_of_request q → v % 2 ≡ 1
unfolding low_bits
clocked_request_start q v e = let h : (v % 2 == 1) ≡ true = cc in grind (arith, nat_tests)

-- between calls
pub is_idle_frame_exact : (f : Frame) → is_idle_frame f ≡ true → f ≡ idle_frame
is_idle_frame_exact f e = grind (arith, nat_tests)

-- a frame that fits where nothing is due is the one between transactions
pub nothing_due_idle_frame : (due : Due) (f : Frame) → due ≡ Nothing → frame_fits_due due f ≡ true → f ≡ idle_frame
nothing_due_idle_frame due f is e = is_idle_frame_exact f (subst (λ (d : Due). frame_fits_due d f ≡ true) is e)

-- which data phase a line is: none, a read's or a write's
abbrev pub clocked_phase_kind : AfterAck → ℕ
clocked_phase_kind lines.Idle = 0
clocked_phase_kind (lines.Drives bits) = 1
clocked_phase_kind (lines.Awaits r flip) = 2

-- the same after a reply to a read or a write: only OK is followed by a data phase
abbrev pub clocked_kind_after_reply : Reply → Bool → ℕ
clocked_kind_after_reply Okay true = 1
clocked_kind_after_reply Okay false = 2
clocked_kind_after_reply reply read = 0

kind_flipped : (flip : Option ℕ) (line : AfterAck)
    → clocked_phase_kind (target_line_flipped flip line) ≡ clocked_phase_kind line
kind_flipped flip lines.Idle = refl
kind_flipped flip (lines.Drives bits) = refl
kind_flipped flip (lines.Awaits r f) = refl

kind_phase : (a : Reply) (read : Bool) (r : Register) (flip : Option ℕ) (v : ℕ)
    → clocked_phase_kind (port_line_after a (port_phase_after read r flip v) lines.Idle)
    ≡ clocked_kind_after_reply a read
kind_phase Okay true r flip v = refl
kind_phase Okay false r flip v = refl
kind_phase Waits read r flip v = refl
kind_phase Faults read r flip v = refl
kind_phase Silent read r flip v = refl

-- the phase that a request leaves is that of its reply
pub clocked_kind_of_seen : {D : Type 0} (bus : D → Bus) (m : Mark) (q : Request) (s t : Target D) (a : Reply)
    (phase : AfterAck)
    → TargetAnswersUnder bus m q s a (target_line_under m phase) t
    → clocked_phase_kind phase ≡ clocked_kind_after_reply a q.read
clocked_kind_of_seen bus m q s t a phase u =
    sym (kind_flipped (port_flip_of m) phase) ∙ ap clocked_phase_kind u.phases ∙ kind_phase _ q.read _ (port_flip_of m)
    _ ∙ ap (λ (y : Reply). clocked_kind_after_reply y q.read) (sym u.replies)

due_muted : (place : ℕ) (a : Reply) (read : Bool) → place < 3
    → port_due_after read (port_seen_at (Mute place) a) ≡ DueLost
due_muted zero Okay read l = refl
due_muted zero Waits read l = refl
due_muted zero Faults read l = refl
due_muted zero Silent read l = refl
due_muted (suc zero) Okay read l = refl
due_muted (suc zero) Waits read l = refl
due_muted (suc zero) Faults read l = refl
due_muted (suc zero) Silent read l = refl
due_muted (suc (suc zero)) Okay read l = refl
due_muted (suc (suc zero)) Waits read l = refl
due_muted (suc (suc zero)) Faults read l = refl
due_muted (suc (suc zero)) Silent read l = refl
due_muted (suc (suc (suc n))) a read l = absurd (omega arith)

rests_muted : (a : Reply) (phase : AfterAck) → frame_fits_due DueLost (frame_seen a phase) ≡ true
rests_muted Silent phase = refl
rests_muted Okay lines.Idle = refl
rests_muted Okay (lines.Drives bits) = refl
rests_muted Okay (lines.Awaits r f) = refl
rests_muted Waits lines.Idle = refl
rests_muted Waits (lines.Drives bits) = refl
rests_muted Waits (lines.Awaits r f) = refl
rests_muted Faults lines.Idle = refl
rests_muted Faults (lines.Drives bits) = refl
rests_muted Faults (lines.Awaits r f) = refl

rests_plain : (a : Reply) (read : Bool) (phase : AfterAck) → clocked_phase_kind phase ≡ clocked_kind_after_reply a read
    → frame_fits_due (port_due_after read (port_ack_driven a)) (frame_seen a phase) ≡ true
rests_plain Silent read phase e = refl
rests_plain Okay true lines.Idle e = absurd (omega arith)
rests_plain Okay true (lines.Drives bits) e = refl
rests_plain Okay true (lines.Awaits r f) e = absurd (omega arith)
rests_plain Okay false lines.Idle e = absurd (omega arith)
rests_plain Okay false (lines.Drives bits) e = absurd (omega arith)
rests_plain Okay false (lines.Awaits r f) e = refl
rests_plain Waits read lines.Idle e = refl
rests_plain Waits read (lines.Drives bits) e = absurd (omega arith)
rests_plain Waits read (lines.Awaits r f) e = absurd (omega arith)
rests_plain Faults read lines.Idle e = refl
rests_plain Faults read (lines.Drives bits) e = absurd (omega arith)
rests_plain Faults read (lines.Awaits r f) e = absurd (omega arith)

seen_plain : (m : Mark) (a : Reply) → ((place : ℕ) → m ≡ Mute place → ⊥) → port_seen_at m a ≡ port_ack_driven a
seen_plain (Mute place) a n = absurd (n place refl)
seen_plain Clean Okay n = refl
seen_plain Clean Waits n = refl
seen_plain Clean Faults n = refl
seen_plain Clean Silent n = refl
seen_plain Wait Okay n = refl
seen_plain Wait Waits n = refl
seen_plain Wait Faults n = refl
seen_plain Wait Silent n = refl
seen_plain (Flip p) Okay n = refl
seen_plain (Flip p) Waits n = refl
seen_plain (Flip p) Faults n = refl
seen_plain (Flip p) Silent n = refl
seen_plain Deaf Okay n = refl
seen_plain Deaf Waits n = refl
seen_plain Deaf Faults n = refl
seen_plain Deaf Silent n = refl

rests_seen : (m : Mark) (a : Reply) (read : Bool) (phase : AfterAck) → IsPortMark m
    → clocked_phase_kind phase ≡ clocked_kind_after_reply a read
    → frame_fits_due (port_due_after read (port_seen_at m a)) (frame_seen a phase) ≡ true
rests_seen (Mute place) a read phase l e =
    ap (λ (d : Due). frame_fits_due d (frame_seen a phase)) (due_muted place a read l) ∙ rests_muted a phase
rests_seen Clean a read phase l e = ap (λ n. frame_fits_due (port_due_after read n) (frame_seen a phase))
    (seen_plain Clean a (λ p h. cc)) ∙ rests_plain a read phase e
rests_seen Wait a read phase l e = ap (λ n. frame_fits_due (port_due_after read n) (frame_seen a phase))
    (seen_plain Wait a (λ p h. cc)) ∙ rests_plain a read phase e
rests_seen (Flip x) a read phase l e = ap (λ n. frame_fits_due (port_due_after read n) (frame_seen a phase))
    (seen_plain (Flip x) a (λ p h. cc)) ∙ rests_plain a read phase e
rests_seen Deaf a read phase l e = ap (λ n. frame_fits_due (port_due_after read n) (frame_seen a phase))
    (seen_plain Deaf a (λ p h. cc)) ∙ rests_plain a read phase e

line_seen : (a : Reply) (read : Bool) (phase : AfterAck) (flip : Option ℕ)
    → clocked_phase_kind phase ≡ clocked_kind_after_reply a read
    → frame_line (frame_seen a phase) flip ≡ port_line_after a (target_line_flipped flip phase) lines.Idle
line_seen Silent read phase flip e = refl
line_seen Okay read lines.Idle flip e = refl
line_seen Okay read (lines.Drives bits) flip e = refl
line_seen Okay read (lines.Awaits r f) flip e = refl
line_seen Waits read lines.Idle flip e = refl
line_seen Waits read (lines.Drives bits) flip e = absurd (omega arith)
line_seen Waits read (lines.Awaits r f) flip e = absurd (omega arith)
line_seen Faults read lines.Idle flip e = refl
line_seen Faults read (lines.Drives bits) flip e = absurd (omega arith)
line_seen Faults read (lines.Awaits r f) flip e = absurd (omega arith)

-- what was seen of a request under a mark that the target hears
pub record ClockedSeenUnder {D : Type 0} (bus : D → Bus) (m : Mark) (q : Request) (a : Reply) (s : Target D)
    (t : Clocked D) : Type 0 where
  pub phase : AfterAck
  pub answers : TargetAnswersUnder bus m q s a phase t.target
  pub line : frame_line t.frame (port_flip_of m) ≡ port_line_after a phase lines.Idle
  pub resting : frame_fits_due (port_due_after q.read (port_seen_at m a)) t.frame ≡ true

-- a request that the target sees under a mark is answered as the model says, and what is due then fits its frame
pub clocked_seen_under_mark : {D : Type 0} (bus : D → Bus) (m : Mark) (q : Request) (a : Reply) (s : Target D)
    (w : Bool)
    (t : Clocked D) → IsPortMark m
    → is_port_deaf m ≡ false → w ≡ is_port_wait m → ClockedSeen bus q a s w t → ClockedSeenUnder bus m q a s t
clocked_seen_under_mark bus m q a s w t legal hears waits d =
    let u = d.answers.under m legal hears (sym waits) in
    let k = clocked_kind_of_seen bus m q s t.target a d.phase u in
    record {
      phase = target_line_under m d.phase;
      answers = u;
      line = ap (λ (f : Frame). frame_line f (port_flip_of m)) d.frame ∙ line_seen a q.read d.phase (port_flip_of m) k;
      resting = ap (frame_fits_due (port_due_after q.read (port_seen_at m a))) d.frame ∙ rests_seen m a q.read d.phase
          legal k;
    }

-- a frame that fits where a write's data is due awaits the data of its write
pub frame_awaits_data : (f : Frame) (flip : Option ℕ) → frame_fits_due Give f ≡ true
    → frame_line f flip ≡ lines.Awaits (frame_register f) flip
frame_awaits_data (Awaits r bits place) flip e = refl
frame_awaits_data (Asks bits count) flip e = absurd cc
frame_awaits_data (Lost ones) flip e = absurd cc
frame_awaits_data High flip e = absurd cc
frame_awaits_data (Switches place) flip e = absurd cc
frame_awaits_data (Replies reply line place) flip e = absurd cc
frame_awaits_data (Drives bits left) flip e = absurd cc
frame_awaits_data Passes flip e = absurd cc

-- what is due after it, and the data phase
pub clocked_link_after_seen : {D : Type 0} (bus : D → Bus) (m : Mark) (q : Request) (a : Reply) (s t : Target D)
    (phase line : AfterAck)
    (due : Due) (l : PortLink) (seen : ℕ) → TargetAnswersUnder bus m q s a phase t
    → seen ≡ port_seen_at m a → due ≡ port_due_after q.read seen → line ≡ port_line_after a phase l.line
    → record { due = due; line = line } ≡ simulation_link_after m q (simulation_reply m q (target_simulation bus s))
    (simulation_phase m q (target_simulation bus s)) l
clocked_link_after_seen bus m q a s t phase line due l seen u sees dues lined =
    let now : record { due = due; line = line } ≡ simulation_link_after m q a phase l = rw (lined, dues, sees) refl in
    now ∙ ap (λ (y : Reply). simulation_link_after m q y phase l) u.replies
    ∙ ap (λ (y : AfterAck). simulation_link_after m q (simulation_reply m q (target_simulation bus s)) y l) u.phases

-- a request that the target doesn't see
pub clocked_mark_is_deaf : (m : Mark) → is_port_deaf m ≡ true → m ≡ Deaf
clocked_mark_is_deaf Deaf e = refl
clocked_mark_is_deaf Clean e = absurd cc
clocked_mark_is_deaf Wait e = absurd cc
clocked_mark_is_deaf (Flip p) e = absurd cc
clocked_mark_is_deaf (Mute p) e = absurd cc

-- a request that leaves the target unchanged between transactions is answered with silence, under the mark Deaf
pub clocked_deaf_is_silent : {D : Type 0} (bus : D → Bus) (m : Mark) (q : Request) (s : Target D) (w : Bool)
    (t : Clocked D) → m ≡ Deaf
    → FrameMoved idle_frame s w t → ClockedSeenUnder bus m q Silent s t
clocked_deaf_is_silent bus m q s w t deaf moved = record {
  phase = lines.Idle;
  answers = subst (λ (y : Mark). TargetAnswersUnder bus y q s Silent lines.Idle t.target) (sym deaf)
      (subst (λ (y : Target _). TargetAnswersUnder bus Deaf q s Silent lines.Idle y) (sym moved.target)
      (simulated_answers_deaf bus q s));
  line = ap (λ (f : Frame). frame_line f (port_flip_of m)) moved.frame;
  resting = ap (λ (y : Mark). frame_fits_due (port_due_after q.read (port_seen_at y Silent)) t.frame) deaf
      ∙ ap (frame_fits_due (port_due_after q.read 7)) moved.frame;
}

-- A target's log and the trace of its pins only grow. For `LiveFiles`.
use Rattle.std.proofs.Common.{◌≡◌, ◌≢◌, ℕ, zero, suc, ◌+◌, ◌<◌, ◌≤◌, ◌⊎◌, inl, inr, Bool, true, false, List, [], ◌∷◌}
use Rattle.std.proofs.Common.{◌++◌, drop, get_or, Option, Some, None, refl, sym, ap, subst, ◌∙◌, append_assoc}
use Rattle.std.proofs.Common.{append-nil, arith}
use lib.Count.{count_leading_zeros}
use Rattle.std.specs.Prelude.{◌==◌, unwrap_or, if◌then◌else◌}
use Rattle.std.proofs.lemmas.Bool.{cases_lt}
use Rattle.swd_bits.specs.Bits.{low_bits}
use Rattle.swd_bits.specs.Wire.{bits_of_request}
use Rattle.swd_bits.specs.declared.request.Request.{Request}
use Rattle.swd_bits.specs.declared.request.Reg4.{Reg4}
use Rattle.swd_bits.specs.declared.request.Reg4.TheVariants.{R0, R4, R8, RC}
use Rattle.swd_port.specs.declared.access.Transfer.{Transfer}
use Rattle.swd_port.specs.declared.mark.Mark.{Mark}
use Rattle.swd_port.specs.declared.register.Register.{Register}
use Rattle.swd_port.specs.declared.state.Drw.{Drw}
use Rattle.swd_port.specs.declared.state.AfterAck.{AfterAck}
use Rattle.swd_port.specs.declared.state.AfterAck.TheVariants as lines
use Rattle.swd_port.specs.declared.state.Reply.{Reply}
use Rattle.swd_port.specs.declared.state.Reply.TheVariants.{Okay, Waits, Faults, Silent}
use Rattle.swd_port.specs.declared.mark.Mark.TheVariants.{Clean, Wait}
use Rattle.swd_port.specs.Bus.{Bus, bus_succeeds, bus_transfer_of}
use Rattle.swd_port.specs.Port.{Port, Target as State, PortTally, port_idle_link}
use Rattle.swd_port.specs.Choices.{Choice, IsPortMark, is_port_deaf, is_port_wait}
use Rattle.swd_port.specs.Completion.{PortCompletes, pending_access_at, memory_after_pending}
use Rattle.swd_port.specs.Asking.{port_target_after}
use Rattle.swd_port.specs.Moving.{PortArrival}
use Rattle.swd_target.specs.declared.target.Target.{Target}
use Rattle.swd_target.specs.Requests.{TargetAnswers, DataComes}
use Rattle.swd_clocked.specs.declared.frame.Frame.{Frame}
use Rattle.swd_clocked.specs.declared.frame.Frame.TheVariants.{Asks, Lost, High, Switches, Replies, Drives, Awaits}
use Rattle.swd_clocked.specs.declared.frame.Frame.TheVariants.{Passes}
use Rattle.swd_clocked.specs.declared.clocked.Clocked.{Clocked}
use Rattle.swd_clocked.specs.declared.marked.FaultyClocked.{FaultyClocked}
use Rattle.swd_clocked.specs.Frames.{idle_frame, clocked_shifted, frame_after_reply, frame_place, frame_limit}
use Rattle.swd_clocked.specs.Frames.{frame_replied, clocked_ones_at_end, switch_cycle_bit, unswitched_frame}
use Rattle.swd_clocked.specs.Cycles.{FrameMoved, ClockedByteCame, AsksCycle, LostCycle, HeardCycle, SwitchCycle}
use Rattle.swd_clocked.specs.Cycles.{DrivesCycle, AwaitsCycle, Cycles}
use Rattle.swd_clocked.specs.Damage.{IsLastRequestCycle}
use Rattle.swd_clocked.specs.Marked as marked
use Rattle.swd_clocked.specs.Giving.{BufferedCycles}
use Rattle.swd_sequences.specs.declared.character.Character.{Character}
use Rattle.swd_sequences.specs.declared.character.Character.TheVariants.{Moves, Looks, Drives as Turns, Quits}
use Rattle.swd_bitbang.specs.declared.trace.Trace.{Trace}
use Rattle.swd_bitbang.specs.declared.pins.Pins.{Pins}
use Rattle.swd_bitbang.specs.declared.pins.PinReply.{PinReply}
use Rattle.swd_bitbang.specs.Traces as traces
use Rattle.swd_bitbang.specs.Steps.{PinsStep, PinsShowBy, PinsSeenBy, pins_driven}
use Rattle.swd_bitbang.specs.Sessions.{PinsSession}
use Rattle.swd_bitbang.specs.Watching.{PinsReach}
use Rattle.swd_ends.specs.LiveFiles.{LiveLogGrows, IsLiveFrameSound, live_pins_sound, live_trace_at, live_transfers_at}

-- LISTS

grows_same : {X : Type 0} (xs ys : List X) → ys ≡ xs → LiveLogGrows xs ys
grows_same xs ys e = ([], e ∙ sym (append-nil xs))

pub live_log_grows_further : {X : Type 0} (xs ys zs : List X) → LiveLogGrows xs ys → LiveLogGrows ys zs
    → LiveLogGrows xs zs
live_log_grows_further xs ys zs f g = (f.0 ++ g.0, g.1 ∙ ap (λ l. l ++ g.0) f.1 ∙ append_assoc xs f.0 g.0)

-- A REQUEST IS FOUND, OR THERE IS NONE

bool_same : (x y : Bool) → (x ≡ y) ⊎ (x ≢ y)
bool_same true true = inl refl
bool_same false false = inl refl
bool_same true false = inr (λ e. cc)
bool_same false true = inr (λ e. cc)

bits_same : (xs ys : List Bool) → (xs ≡ ys) ⊎ (xs ≢ ys)
bits_same [] [] = inl refl
bits_same [] (y ∷ ys) = inr (λ e. cc)
bits_same (x ∷ xs) [] = inr (λ e. cc)
bits_same (x ∷ xs) (y ∷ ys) = elim (bool_same x y)
    as (λ (_ : (x ≡ y) ⊎ (x ≢ y)). (x ∷ xs ≡ y ∷ ys) ⊎ (x ∷ xs ≢ y ∷ ys)) [
      | inl e ↦ elim (bits_same xs ys) as (λ (_ : (xs ≡ ys) ⊎ (xs ≢ ys)). (x ∷ xs ≡ y ∷ ys) ⊎ (x ∷ xs ≢ y ∷ ys)) [
        | inl f ↦ inl (ap (λ l. x ∷ l) f ∙ ap (λ b. b ∷ ys) e)
        | inr n ↦ inr (λ f. n (ap (drop 1) f))
      ]
      | inr n ↦ inr (λ f. n (ap (λ l. get_or l 0 true) f))
    ]

abbrev register_at : Bool → Bool → Reg4
register_at false false = R0
register_at true false = R4
register_at false true = R8
register_at true true = RC

-- the request that eight bits would have to be
abbrev candidate : List Bool → Request
candidate bits = record {
  ap = get_or bits 1 false;
  read = get_or bits 2 false;
  addr = register_at (get_or bits 3 false) (get_or bits 4 false);
}

candidate_at : (port read : Bool) (addr : Reg4)
    → candidate (bits_of_request (record { ap = port; read = read; addr = addr }))
    ≡ record { ap = port; read = read; addr = addr }
candidate_at port read R0 = refl
candidate_at port read R4 = refl
candidate_at port read R8 = refl
candidate_at port read RC = refl

request_or_none : (bits : List Bool) → ((q : Request) × (bits_of_request q ≡ bits))
    ⊎ ((q : Request) → bits_of_request q ≢ bits)
request_or_none bits = elim (bits_same (bits_of_request (candidate bits)) bits)
    as (λ (_ : (bits_of_request (candidate bits) ≡ bits) ⊎ (bits_of_request (candidate bits) ≢ bits)).
    ((q : Request) × (bits_of_request q ≡ bits)) ⊎ ((q : Request) → bits_of_request q ≢ bits)) [
      | inl e ↦ inl (candidate bits, e)
      | inr n ↦ inr (λ q e. n (ap bits_of_request (ap candidate (sym e) ∙ candidate_at q.ap q.read q.addr) ∙ e))
    ]

-- THE MEMORY

if_grows : (b : Bool) (log more : List Transfer) → LiveLogGrows log (if b then log ++ more else log)
if_grows true log more = (more, refl)
if_grows false log more = grows_same log log refl

memory_grows : (p : Option Drw) (at : ℕ) (m : Bus) → LiveLogGrows m.log (memory_after_pending p at m).log
memory_grows None at m = grows_same m.log m.log refl
memory_grows (Some drw) at m =
    let a = pending_access_at at drw in
    if_grows (bus_succeeds a m) m.log (bus_transfer_of a m ∷ [])

completes_grow : (s t : Port) → PortCompletes s t → LiveLogGrows s.target.memory.log t.target.memory.log
completes_grow s t h = elim h as (λ (_ : PortCompletes s t). LiveLogGrows s.target.memory.log t.target.memory.log) [
  | inl e ↦ grows_same _ _ (ap (λ (x : Port). x.target.memory.log) e)
  | inr f ↦ subst (λ (l : List Transfer). LiveLogGrows s.target.memory.log l)
      (sym (ap (λ (x : Port). x.target.memory.log) f.2))
      (memory_grows s.target.pending (unwrap_or s.target.tar f.0.address) s.target.memory)
]

replied_alike : (c : Choice) (reply : Reply) (r : Register) (port : Bool) (x : State)
    → (port_target_after c reply r port x).memory ≡ x.memory
replied_alike c Okay r port x = refl
replied_alike c Waits r port x = refl
replied_alike c Faults r port x = refl
replied_alike c Silent r port x = refl

-- a mark under which WAIT is asked for, or isn't
mark_for : (w : Bool) → (mark : Mark) × IsPortMark mark × (is_port_deaf mark ≡ false) × (is_port_wait mark ≡ w)
mark_for true = (Wait, tt, refl, refl)
mark_for false = (Clean, tt, refl, refl)

answers_grow : {D : Type 0} (bus : D → Bus) (w : Bool) (q : Request) (s : Target D) (reply : Reply) (phase : AfterAck)
    (t : Target D)
    → TargetAnswers bus w q s reply phase t → LiveLogGrows (bus s.device).log (bus t.device).log
answers_grow bus w q s reply phase t h =
    let m = mark_for w in
    let none : PortTally = record { asked = 0; disturbed = 0; lost = 0 } in
    let asks = (h.under m.0 m.1 m.2 m.3).step port_idle_link none in
    let a = asks.0 in
    let b = asks.1 in
    let before = completes_grow _ a asks.3 in
    let now = ap (λ (x : Port). x.target.memory.log) asks.4.after
    ∙ ap (λ (x : Bus). x.log) (replied_alike asks.2 _ _ q.ap a.target) in
    let after = completes_grow b _ asks.5 in
    live_log_grows_further _ a.target.memory.log _ before
    (live_log_grows_further _ b.target.memory.log _ (grows_same _ _ now) after)

data_grows : {D : Type 0} (bus : D → Bus) (a : PortArrival) (s t : Target D) → DataComes bus a s t
    → LiveLogGrows (bus s.device).log
    (bus t.device).log
data_grows bus a s t h = elim h.later [
  | inl e ↦ grows_same _ _ (ap (λ (x : State). x.memory.log) e)
  | inr f ↦ subst (λ (l : List Transfer). LiveLogGrows (bus s.device).log l) (sym (ap (λ
      (x : State). x.memory.log) f.2))
      (memory_grows _ _ (bus s.device))
]

-- A CYCLE

-- the log grew, and the frame is one that cycles lead to
record After {D : Type 0} (bus : D → Bus) (s : Target D) (t : Clocked D) : Type 0 where
  grows : LiveLogGrows (bus s.device).log (bus t.target.device).log
  sound : IsLiveFrameSound t.frame

moved : {D : Type 0} (bus : D → Bus) (f : Frame) (s : Target D) (w : Bool) (t : Clocked D) → IsLiveFrameSound f
    → FrameMoved f s
    w t
    → After bus s t
moved bus f s w t sound h = record {
  grows = grows_same _ _ (ap (λ (x : Target _). (bus x.device).log) h.target);
  sound = subst IsLiveFrameSound (sym h.frame) sound;
}

sound_replied : (reply : Reply) (phase : AfterAck) → IsLiveFrameSound (frame_replied reply phase)
sound_replied Okay phase = tt
sound_replied Waits phase = tt
sound_replied Faults phase = tt
sound_replied Silent phase = tt

sound_phase : (line : AfterAck) → IsLiveFrameSound (frame_after_reply line)
sound_phase lines.Idle = tt
sound_phase (lines.Drives bits) = tt
sound_phase (lines.Awaits r flip) = tt

sound_reply : (last : Bool) (reply : Reply) (line : AfterAck) (place : ℕ)
    → IsLiveFrameSound (if last then frame_after_reply line else Replies reply line place)
sound_reply true reply line place = sound_phase line
sound_reply false reply line place = tt

sound_switched : (last : Bool) (place : ℕ) → IsLiveFrameSound (if last then Lost 0 else Switches (place + 1))
sound_switched true place = tt
sound_switched false place = λ e. absurd (omega arith)

byte_grows : {D : Type 0} (bus : D → Bus) (byte : ℕ) (s : Target D) (w : Bool) (t : Clocked D)
    → ClockedByteCame bus byte s w
    t → After bus s t
byte_grows bus byte s w t h = elim (request_or_none (low_bits 8 byte))
    as (λ (_ : ((q : Request) × (bits_of_request q ≡ low_bits 8 byte))
    ⊎ ((q : Request) → bits_of_request q ≢ low_bits 8 byte)). After bus s t) [
      | inl q ↦ (let r = h.whole q.0 q.1 in record {
        grows = answers_grow bus w q.0 s r.reply r.phase t.target r.answers;
        sound = subst IsLiveFrameSound (sym r.frame) (sound_replied r.reply r.phase);
      })
      | inr n ↦ moved bus _ s w t tt (h.broken n)
    ]

asks_on : {D : Type 0} (bus : D → Bus) (bits count : ℕ) (b : Bool) (s : Target D) (w : Bool) (t : Clocked D) → count < 8
    → (count ≡ 0 → b ≡ true) → AsksCycle bus bits count b s w t → After bus s t
asks_on bus bits count b s w t l first h = elim (cases_lt count 7) as (λ (_ : (count < 7)
    ⊎ (7 ≤ count)). After bus s t) [
      | inl m ↦ moved bus _ s w t tt (h.more m first)
      | inr g ↦ byte_grows bus _ s w t (h.whole (omega arith))
    ]

asks_grow : {D : Type 0} (bus : D → Bus) (bits count : ℕ) (b : Bool) (s : Target D) (w : Bool) (t : Clocked D)
    → count < 8
    → AsksCycle bus bits count b s w t → After bus s t
asks_grow bus bits count true s w t l h = asks_on bus bits count true s w t l (λ e. refl) h
asks_grow bus bits zero false s w t l h = moved bus idle_frame s w t tt (h.quiet refl refl)
asks_grow bus bits (suc n) false s w t l h = asks_on bus bits (suc n) false s w t l (λ e. absurd (omega arith)) h

lost_grow : {D : Type 0} (bus : D → Bus) (ones : ℕ) (b : Bool) (s : Target D) (w : Bool) (t : Clocked D) → ones < 50
    → LostCycle bus ones b s w t → After bus s t
lost_grow bus ones false s w t l h = moved bus _ s w t tt (h.low refl)
lost_grow bus ones true s w t l h = elim (cases_lt ones 49) as (λ (_ : (ones < 49) ⊎ (49 ≤ ones)). After bus s t) [
  | inl m ↦ moved bus _ s w t tt (h.more m refl)
  | inr g ↦ (let r = h.whole (omega arith) refl in record {
    grows = grows_same _ _ (ap (λ (x : State). x.memory.log) r.reset.state);
    sound = subst IsLiveFrameSound (sym r.frame) tt;
  })
]

-- a frame that takes bits as if no switch had begun
abbrev IsHeard : Frame → Type 0
IsHeard (Asks bits count) = count < 8
IsHeard (Lost ones) = ones < 50
IsHeard frame = ⊥

heard_grow : {D : Type 0} (bus : D → Bus) (f : Frame) (b : Bool) (s : Target D) (w : Bool) (t : Clocked D) → IsHeard f
    → HeardCycle bus f b s w t → After bus s t
heard_grow bus (Asks bits count) b s w t l h = asks_grow bus bits count b s w t l h
heard_grow bus (Lost ones) b s w t l h = lost_grow bus ones b s w t l h
heard_grow bus High b s w t l h = absurd l
heard_grow bus (Switches place) b s w t l h = absurd l
heard_grow bus (Replies reply line place) b s w t l h = absurd l
heard_grow bus (Drives bits left) b s w t l h = absurd l
heard_grow bus (Awaits r bits place) b s w t l h = absurd l
heard_grow bus Passes b s w t l h = absurd l

-- a switch that turned out to be none leaves such a frame
unswitched_heard : (place : ℕ) → place < 16 → (place ≡ 0 → ⊥) → IsHeard (unswitched_frame place)
unfolding count_leading_zeros
unswitched_heard zero l n = absurd (n refl)
unswitched_heard (suc zero) l n = omega arith
unswitched_heard (suc (suc zero)) l n = omega arith
unswitched_heard (suc (suc (suc zero))) l n = omega arith
unswitched_heard (suc (suc (suc (suc zero)))) l n = omega arith
unswitched_heard (suc (suc (suc (suc (suc zero))))) l n = omega arith
unswitched_heard (suc (suc (suc (suc (suc (suc zero)))))) l n = omega arith
unswitched_heard (suc (suc (suc (suc (suc (suc (suc zero))))))) l n = omega arith
unswitched_heard (suc (suc (suc (suc (suc (suc (suc (suc zero)))))))) l n = omega arith
unswitched_heard (suc (suc (suc (suc (suc (suc (suc (suc (suc zero))))))))) l n = let two : clocked_ones_at_end 207 ≡ 2
    = refl in omega arith
unswitched_heard (suc (suc (suc (suc (suc (suc (suc (suc (suc (suc zero)))))))))) l n = let two : clocked_ones_at_end
    207 ≡ 2
    = refl in omega arith
unswitched_heard (suc (suc (suc (suc (suc (suc (suc (suc (suc (suc (suc zero))))))))))) l n = let two :
    clocked_ones_at_end
    207 ≡ 2 = refl in omega arith
unswitched_heard (suc (suc (suc (suc (suc (suc (suc (suc (suc (suc (suc (suc zero)))))))))))) l n = omega arith
unswitched_heard (suc (suc (suc (suc (suc (suc (suc (suc (suc (suc (suc (suc (suc zero))))))))))))) l n = omega arith
unswitched_heard (suc (suc (suc (suc (suc (suc (suc (suc (suc (suc (suc (suc (suc (suc zero)))))))))))))) l n =
    omega arith
unswitched_heard (suc (suc (suc (suc (suc (suc (suc (suc (suc (suc (suc (suc (suc (suc (suc zero))))))))))))))) l n =
    omega arith
unswitched_heard (suc (suc (suc (suc (suc (suc (suc (suc (suc (suc (suc (suc (suc (suc (suc (suc n)))))))))))))))) l
    e = absurd (omega arith)

switches_grow : {D : Type 0} (bus : D → Bus) (place : ℕ) (b : Bool) (s : Target D) (w : Bool) (t : Clocked D)
    → place < 16
    → (place ≡ 0 → ⊥) → SwitchCycle bus place b s w t → After bus s t
switches_grow bus place b s w t l sound h = elim (bool_same b (switch_cycle_bit place))
    as (λ (_ : (b ≡ switch_cycle_bit place) ⊎ (b ≢ switch_cycle_bit place)). After bus s t) [
      | inl e ↦ moved bus _ s w t (sound_switched (place == 15) place) (h.fits e)
      | inr n ↦ heard_grow bus (unswitched_frame place) b s w t (unswitched_heard place l sound) (h.differs n)
    ]

awaits_grow : {D : Type 0} (bus : D → Bus) (r : Register) (bits place : ℕ) (b : Bool) (s : Target D) (w : Bool)
    (t : Clocked D)
    → place < 34 → AwaitsCycle bus r bits place b s w t → After bus s t
awaits_grow bus r bits zero b s w t l h = moved bus _ s w t tt (h.turn refl)
awaits_grow bus r bits (suc n) b s w t l h = elim (cases_lt (suc n) 33)
    as (λ (_ : (suc n < 33) ⊎ (33 ≤ suc n)). After bus s t) [
      | inl m ↦ moved bus _ s w t tt (h.more (λ e. absurd (omega arith)) m)
      | inr g ↦ (let d = h.whole (omega arith) in record {
        grows = data_grows bus _ s t.target d.comes;
        sound = subst IsLiveFrameSound (sym d.frame) tt;
      })
    ]

drives_grow : {D : Type 0} (bus : D → Bus) (bits left : ℕ) (b answer : Bool) (s : Target D) (w : Bool) (t : Clocked D)
    → DrivesCycle bits left b answer s w t → After bus s t
drives_grow bus bits zero b answer s w t h = moved bus _ s w t tt (h.turn refl).1
drives_grow bus bits (suc n) b answer s w t h = moved bus _ s w t tt (h.more (λ e. absurd (omega arith)))

if_high : (b : Bool) → IsLiveFrameSound (if b then High else Switches 1)
if_high true = tt
if_high false = λ e. absurd (omega arith)

cycle_grows : {D : Type 0} (bus : D → Bus) (f : Frame) (b answer : Bool) (s : Target D) (w : Bool) (t : Clocked D)
    → frame_place f < frame_limit f → IsLiveFrameSound f → Cycles bus f b answer s w t → After bus s t
cycle_grows bus (Asks bits count) b answer s w t l sound h = asks_grow bus bits count b s w t l h.1
cycle_grows bus (Lost ones) b answer s w t l sound h = lost_grow bus ones b s w t l h.1
cycle_grows bus High b answer s w t l sound h = moved bus _ s w t (if_high b) h.1
cycle_grows bus (Switches place) b answer s w t l sound h = switches_grow bus place b s w t l sound h.1
cycle_grows bus (Replies reply line place) b answer s w t l sound h =
    moved bus _ s w t (sound_reply (place == 3) reply line (place + 1)) h.frame
cycle_grows bus (Drives bits left) b answer s w t l sound h = drives_grow bus bits left b answer s w t h
cycle_grows bus (Awaits r bits place) b answer s w t l sound h = awaits_grow bus r bits place b s w t l h.1
cycle_grows bus Passes b answer s w t l sound h = moved bus _ s w t tt h.1

-- A CYCLE UNDER A PLAN

last_or_not : (f : Frame) (b : Bool) → ((q : Request) × IsLastRequestCycle f b q)
    ⊎ ((q : Request) → IsLastRequestCycle f b q → ⊥)
last_or_not (Asks bits count) b = elim (cases_lt count 7)
    as (λ (_ : (count < 7) ⊎ (7 ≤ count)). ((q : Request) × IsLastRequestCycle (Asks bits count) b q)
    ⊎ ((q : Request) → IsLastRequestCycle (Asks bits count) b q → ⊥)) [
      | inl m ↦ inr (λ q l. let e = l.0 in absurd (omega arith))
      | inr g ↦ elim (cases_lt 7 count) as
          (λ (_ : (7 < count) ⊎ (count ≤ 7)). ((q : Request) × IsLastRequestCycle (Asks bits count) b q)
          ⊎ ((q : Request) → IsLastRequestCycle (Asks bits count) b q → ⊥)) [
            | inl m ↦ inr (λ q l. let e = l.0 in absurd (omega arith))
            | inr k ↦ elim (request_or_none (low_bits 8 (clocked_shifted 128 bits b)))
                as (λ (_ : ((q : Request) × (bits_of_request q ≡ low_bits 8 (clocked_shifted 128 bits b)))
                ⊎ ((q : Request) → bits_of_request q ≢ low_bits 8 (clocked_shifted 128 bits b))).
                ((q : Request) × IsLastRequestCycle (Asks bits count) b q)
                ⊎ ((q : Request) → IsLastRequestCycle (Asks bits count) b q → ⊥)) [
                  | inl f ↦ inl (f.0, (omega arith, f.1))
                  | inr n ↦ inr (λ q l. n q l.1)
                ]
          ]
    ]
last_or_not (Lost ones) b = inr (λ q l. l)
last_or_not High b = inr (λ q l. l)
last_or_not (Switches place) b = inr (λ q l. l)
last_or_not (Replies reply line place) b = inr (λ q l. l)
last_or_not (Drives bits left) b = inr (λ q l. l)
last_or_not (Awaits r bits place) b = inr (λ q l. l)
last_or_not Passes b = inr (λ q l. l)

reached : {D A : Type 0} (bus : D → Bus) (m : Mark) (w : Bool) (drive : Option Bool) (answer : Bool)
    (s t : FaultyClocked D A)
    → IsLiveFrameSound s.clocked.frame → marked.CycleReaches bus m w drive answer s t → After bus s.clocked.target
    t.clocked
reached bus m w drive answer s t sound h =
    cycle_grows bus s.clocked.frame _ h.bit s.clocked.target w t.clocked s.clocked.place sound h.cycles

missed : {D A : Type 0} (bus : D → Bus) (more : ℕ) (drive : Option Bool) (answer : Bool) (s t : FaultyClocked D A)
    → marked.CycleMisses more drive answer s t → After bus s.clocked.target t.clocked
missed bus more drive answer s t h = moved bus idle_frame s.clocked.target s.clocked.waits t.clocked tt h.moved

met : {D A : Type 0} (bus : D → Bus) (deaf : Bool) (drive : Option Bool) (answer : Bool) (s t : FaultyClocked D A)
    → is_port_deaf t.mark ≡ deaf
    → IsLiveFrameSound s.clocked.frame → marked.CycleMeetsMark bus drive answer s t → After bus s.clocked.target
    t.clocked
met bus true drive answer s t e sound h = missed bus 4 drive answer s t (h.deaf e)
met bus false drive answer s t e sound h = reached bus t.mark (is_port_wait t.mark) drive answer s t sound (h.hears e)

marked_grows : {D A : Type 0} (bus : D → Bus) (drive : Option Bool) (answer : Bool) (s t : FaultyClocked D A)
    → IsLiveFrameSound s.clocked.frame → marked.MarkedCycles bus drive answer s t → After bus s.clocked.target t.clocked
marked_grows bus drive answer s t sound h = elim (cases_lt 0 s.unseen)
    as (λ (_ : (0 < s.unseen) ⊎ (s.unseen ≤ 0)). After bus s.clocked.target t.clocked) [
      | inl m ↦ missed bus _ drive answer s t (h.missed (λ e. absurd (omega arith))).0
      | inr z ↦ elim (last_or_not s.clocked.frame (unwrap_or drive true))
          as (λ (_ : ((q : Request) × IsLastRequestCycle s.clocked.frame (unwrap_or drive true) q)
          ⊎ ((q : Request) → IsLastRequestCycle s.clocked.frame (unwrap_or drive true) q
          → ⊥)). After bus s.clocked.target
          t.clocked) [
            | inl q ↦ met bus (is_port_deaf t.mark) drive answer s t refl sound (h.met (omega arith) q.0 q.1)
            | inr n ↦ reached bus s.mark s.clocked.waits drive answer s t sound (h.other (omega arith) n).0
          ]
    ]

-- the same where a write may be given up before the cycle, which changes neither log nor frame
buffered_grows : {D A : Type 0} (bus : D → Bus) (drive : Option Bool) (answer : Bool) (s t : FaultyClocked D A)
    → IsLiveFrameSound s.clocked.frame → BufferedCycles bus drive answer s t → After bus s.clocked.target t.clocked
buffered_grows bus drive answer s t sound h =
    let alone = h.gives.alone in
    let after = marked_grows bus drive answer h.before t (subst IsLiveFrameSound (sym alone.frame) sound) h.cycles in
    record {
      grows = subst (λ d. LiveLogGrows (bus d).log (bus t.clocked.target.device).log) alone.device after.grows;
      sound = after.sound;
    }

-- THE PINS

-- the log and the trace at later pins, and their frame
pub record LivePinsGrew {D A : Type 0} (bus : D → Bus) (s t : Pins D A) : Type 0 where
  pub log : LiveLogGrows (live_transfers_at bus s) (live_transfers_at bus t)
  pub trace : LiveLogGrows (live_trace_at s) (live_trace_at t)
  pub sound : live_pins_sound t

unchanged : {D A : Type 0} (bus : D → Bus) (s t : Pins D A) → live_pins_sound s → t.target ≡ s.target → t.trace
    ≡ s.trace
    → LivePinsGrew bus s t
unchanged bus s t sound e f = record {
  log = grows_same _ _ (ap (λ (x : FaultyClocked _ _). (bus x.clocked.target.device).log) e);
  trace = grows_same _ _ (ap (λ (x : Trace _). traces.pins_kept_trace x) f);
  sound = subst (λ (x : FaultyClocked _ _). IsLiveFrameSound x.clocked.frame) (sym e) sound;
}

trace_on : {A : Type 0} (wanted cut : Bool) (bit : Bool) (s t : Trace A) → s.wanted ≡ wanted → s.cut ≡ cut
    → traces.PinsTraceKeeps bit s t → LiveLogGrows (traces.pins_kept_trace s) (traces.pins_kept_trace t)
trace_on false cut bit s t e f h = grows_same _ _ (ap (λ (x : Trace _). traces.pins_kept_trace x) (h.unwanted e))
trace_on true true bit s t e f h = grows_same _ _ (ap (λ (x : Trace _). traces.pins_kept_trace x) (h.none f))
trace_on true false bit s t e f h = elim (h.more e f) [
  | inl k ↦ (traces.pins_level_text bit, k.0)
  | inr k ↦ grows_same _ _ k.0
]

shown : {D A : Type 0} (bus : D → Bus) (seen : Option Bool) (bit : Bool) (s t : Pins D A) → live_pins_sound s
    → PinsShowBy
    bus seen bit s t
    → LivePinsGrew bus s t
shown bus (Some b) bit s t sound h =
    unchanged bus s t sound (ap (λ (x : Pins _ _). x.target) h.1) (ap (λ (x : Pins _ _). x.trace) h.1)
shown bus None bit s t sound h =
    let after = buffered_grows bus (pins_driven s) bit s.target t.target sound h.cycle in
    record {
      log = after.grows;
      trace = trace_on s.trace.wanted s.trace.cut bit s.trace t.trace refl refl h.trace;
      sound = after.sound;
    }

sees : {D A : Type 0} (bus : D → Bus) (drives : Bool) (bit : Bool) (s t : Pins D A) → live_pins_sound s → PinsSeenBy bus
    drives bit s t
    → LivePinsGrew bus s t
sees bus true bit s t sound h =
    unchanged bus s t sound (ap (λ (x : Pins _ _). x.target) h.1) (ap (λ (x : Pins _ _). x.trace) h.1)
sees bus false bit s t sound h = shown bus s.seen bit s t sound h

stepped : {D A : Type 0} (bus : D → Bus) (found : Option Character) (sign : PinReply) (s t : Pins D A)
    → live_pins_sound s
    → PinsStep bus found s sign t → LivePinsGrew bus s t
stepped bus (Some (Moves false level)) sign s t sound h =
    unchanged bus s t sound (ap (λ (x : Pins _ _). x.target) h.1) (ap (λ (x : Pins _ _). x.trace) h.1)
stepped bus (Some (Moves true level)) sign s t sound h =
    let g = shown bus s.seen h.1.0 (record s { clock = true; level = level }) t sound h.1.1 in
    record { log = g.log; trace = g.trace; sound = g.sound }
stepped bus (Some Looks) sign s t sound h = sees bus s.drives h.0 s t sound h.2
stepped bus (Some (Turns drives)) sign s t sound h =
    unchanged bus s t sound (ap (λ (x : Pins _ _). x.target) h.1) (ap (λ (x : Pins _ _). x.trace) h.1)
stepped bus (Some Quits) sign s t sound h =
    unchanged bus s t sound (ap (λ (x : Pins _ _). x.target) h.1) (ap (λ (x : Pins _ _). x.trace) h.1)
stepped bus (Some character) sign s t sound h =
    unchanged bus s t sound (ap (λ (x : Pins _ _). x.target) h.1) (ap (λ (x : Pins _ _). x.trace) h.1)
stepped bus None sign s t sound h =
    unchanged bus s t sound (ap (λ (x : Pins _ _). x.target) h.1) (ap (λ (x : Pins _ _). x.trace) h.1)

session_grows : {D A : Type 0} (bus : D → Bus) (text levels : List ℕ) (s t : Pins D A) → live_pins_sound s
    → PinsSession bus
    text levels s t
    → LivePinsGrew bus s t
session_grows bus [] levels s t sound h =
    unchanged bus s t sound (ap (λ (x : Pins _ _). x.target) h.1) (ap (λ (x : Pins _ _). x.trace) h.1)
session_grows bus (byte ∷ text) levels s t sound h =
    let first = stepped bus _ h.3.sign s h.0 sound h.3.steps in
    let rest = session_grows bus text h.2 h.0 t first.sound h.4 in
    record {
      log = live_log_grows_further _ (live_transfers_at bus h.0) _ first.log rest.log;
      trace = live_log_grows_further _ (live_trace_at h.0) _ first.trace rest.trace;
      sound = rest.sound;
    }

-- at pins that were reached, log and trace have what they had before, and maybe more
pub live_pins_reached_grow : {D A : Type 0} (bus : D → Bus) (s t : Pins D A) → live_pins_sound s → PinsReach bus s t
    → LivePinsGrew bus s t
live_pins_reached_grow bus s t sound h = session_grows bus h.0 h.1 s t sound h.2

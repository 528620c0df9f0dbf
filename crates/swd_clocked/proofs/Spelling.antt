-- Cycles one after the other: what a request, its reply and its data leave on the line. For two functions of `laws`.
use Rattle.std.proofs.Common.{◌≡◌, ◌≢◌, ℕ, zero, suc, ◌+◌, ◌-◌, ◌/◌, ◌%◌, ◌<◌, ◌≤◌, ◌^◌, Bool, true, false, not, List}
use Rattle.std.proofs.Common.{[], ◌∷◌, ◌++◌, length, map, replicate, Option, Some, None, refl, sym, ap, subst, ◌∙◌}
use Rattle.std.proofs.Common.{arith, inl, inr}
use Rattle.std.specs.Prelude.{◌==◌, unwrap_or, ◌⊎◌, if◌then◌else◌}
use Rattle.swd_bits.specs.Bits.{low_bits, bits_number, odd}
use Rattle.swd_bits.specs.Wire.{bits_of_request, addr_bits}
use Rattle.swd_bits.specs.Transactions.{phase_with, SpellsTx, IsTxEnd, tx_ending_bits}
use Rattle.swd_bits.specs.declared.request.Request.{Request}
use Rattle.swd_bits.specs.declared.request.Reg4.{Reg4}
use Rattle.swd_bits.specs.declared.request.Reg4.TheVariants.{R0, R4, R8, RC}
use Rattle.swd_bits.specs.declared.tx.TxEnd.{TxEnd}
use Rattle.swd_bits.specs.declared.tx.TxEnd.TheVariants.{Moved as WordMoved, Wait, Fault, NoAck}
use Rattle.swd_bits.proofs.BitsLemmas.{low_bits-number, bits_number_lt, length-low_bits}
use Rattle.swd_bits.proofs.TxLemmas.{request_bits_length}
use Rattle.swd_port.specs.Bus.{Bus}
use Rattle.swd_port.specs.declared.register.Register.{Register}
use Rattle.swd_port.specs.declared.state.Reply.{Reply}
use Rattle.swd_port.specs.declared.state.Reply.TheVariants.{Okay, Waits, Faults, Silent}
use Rattle.swd_port.specs.declared.state.AfterAck.{AfterAck}
use Rattle.swd_port.specs.declared.state.AfterAck.TheVariants as lines
use Rattle.swd_port.specs.declared.mark.Mark.TheVariants.{Clean, Wait as WaitMark}
use Rattle.swd_port.specs.declared.state.Reset.TheVariants.{Fresh}
use Rattle.swd_port.specs.Port.{Target as State}
use Rattle.swd_port.specs.Choices.{port_undriven}
use Rattle.swd_target.specs.declared.target.Target.{Target}
use Rattle.swd_target.specs.Requests.{TargetAnswers}
use Rattle.swd_clocked.specs.declared.frame.Frame.{Frame}
use Rattle.swd_clocked.specs.declared.frame.Frame.TheVariants.{Asks, Lost, High, Replies, Drives, Awaits, Passes}
use Rattle.swd_clocked.specs.declared.clocked.Clocked.{Clocked}
use Rattle.swd_clocked.specs.Frames.{idle_frame, clocked_shifted, frame_after_reply, frame_replied, reply_cycle_bit}
use Rattle.swd_clocked.specs.Frames.{IsRisingFrame, rising_frame_ones, risen_frame_state}
use Rattle.swd_clocked.specs.Cycles.{FrameMoved, Cycles, ClockedByteCame, ClockedRequested}
use Rattle.swd_clocked.specs.Clocks.{ClocksOneCycle, ClockedRises, clocked_state}
use Rattle.swd_clocked.specs.Spelled.{RunsCycles, released_cycles, cycles_driven_behind, ClockedEndsAs, frame_behind}
use Rattle.swd_clocked.specs.Spelled.{CyclesSpellOne, RequestsSpell, AreOnesCycles, OnesReset}
use Rattle.swd_clocked.proofs.Calls.{clocked_phase_kind, clocked_kind_after_reply, clocked_kind_of_seen}
use Rattle.swd_clocked.proofs.Frames.{one_cycle_rises, clocked_rises_chain, clocked_rises_itself}
use Rattle.swd_clocked.proofs.Frames.{rising_frame_after_one, risen_frame_is_high}

-- a cycle from a frame that is known
cycle_on : {D : Type 0} (bus : D → Bus) (f : Frame) (s : Target D) (w : Bool) (m t : Clocked D) (drive : Option Bool)
    (b : Bool) →
    FrameMoved f s w m → ClocksOneCycle bus drive b m t → Cycles bus f (unwrap_or drive true) b s w t
cycle_on bus f s w m t drive b h c =
    subst (λ (x : Frame). Cycles bus x (unwrap_or drive true) b s w t) h.frame
    (subst (λ (x : Target _). Cycles bus m.frame (unwrap_or drive true) b x w t) h.target
    (subst (λ (x : Bool). Cycles bus m.frame (unwrap_or drive true) b m.target x t) h.waits c))

moved_here : {D : Type 0} (f : Frame) (s : Clocked D) → s.frame ≡ f → FrameMoved f s.target s.waits s
moved_here f s is = record { frame = is; target = refl; waits = refl }

moved_same : {D : Type 0} (f : Frame) (s : Target D) (w : Bool) (m t : Clocked D) → t ≡ m → FrameMoved f s w m
    → FrameMoved f s w t
moved_same f s w m t e h = subst (λ (x : Clocked _). FrameMoved f s w x) (sym e) h

-- ---- the bits of a request

-- bits shifted in, one after the other
abbrev shifted_in : ℕ → List Bool → ℕ
shifted_in bits [] = bits
shifted_in bits (b ∷ more) = shifted_in (clocked_shifted 128 bits b) more

pub record RequestBitsByCycles {D : Type 0} (bus : D → Bus) (l line : List Bool) (byte : ℕ) (s : Target D) (w : Bool)
    (t : Clocked D) : Type 0 where
  pub line_is : line ≡ l
  pub came : ClockedByteCame bus byte s w t

asked : {D : Type 0} (bus : D → Bus) (l line : List Bool) (bits count : ℕ) (s : Target D) (w : Bool) (m t : Clocked D) →
    0 < count → 0 < length l → count + length l ≡ 8 → FrameMoved (Asks bits count) s w m
    → RunsCycles bus (map Some l) line m t → RequestBitsByCycles bus l line (shifted_in bits l) s w t
asked bus [] line bits count s w m t a b e h r = absurd (omega arith)
asked bus (x ∷ l) [] bits count s w m t a b e h r = absurd r
asked bus (x ∷ []) (y ∷ []) bits count s w m t a b e h r =
    let c = cycle_on bus (Asks bits count) s w m r.0 (Some x) y h r.1 in
    record {
      line_is = ap (λ z. z ∷ []) c.0;
      came = subst (λ (z : Clocked _). ClockedByteCame bus (clocked_shifted 128 bits x) s w z) (sym r.2)
          (c.1.whole (omega arith));
    }
asked bus (x ∷ []) (y ∷ z ∷ line) bits count s w m t a b e h r = absurd r.2
asked bus (x ∷ z ∷ l) (y ∷ line) bits count s w m t a b e h r =
    let c = cycle_on bus (Asks bits count) s w m r.0 (Some x) y h r.1 in
    let more = c.1.more (omega arith) (λ none. absurd (omega arith)) in
    let rest = asked bus (z ∷ l) line (clocked_shifted 128 bits x) (count + 1) s w r.0 t (omega arith) (omega arith)
    (omega arith) more r.2 in
    record { line_is = ap (λ i. i ∷ line) c.0 ∙ ap (λ i. x ∷ i) rest.line_is; came = rest.came }

-- a request without its first bit
abbrev behind_start : Request → List Bool
behind_start q =
    let asked = q.ap ∷ q.read ∷ addr_bits q.addr in
    asked ++ odd asked ∷ false ∷ true ∷ []

byte_at : (ap read : Bool) (addr : Reg4) →
    let q : Request = record { ap = ap; read = read; addr = addr } in bits_of_request q ≡ low_bits 8
    (shifted_in 255 (behind_start q))
unfolding low_bits
byte_at true true R0 = refl
byte_at true true R4 = refl
byte_at true true R8 = refl
byte_at true true RC = refl
byte_at true false R0 = refl
byte_at true false R4 = refl
byte_at true false R8 = refl
byte_at true false RC = refl
byte_at false true R0 = refl
byte_at false true R4 = refl
byte_at false true R8 = refl
byte_at false true RC = refl
byte_at false false R0 = refl
byte_at false false R4 = refl
byte_at false false R8 = refl
byte_at false false RC = refl

pub record RequestSentByCycles {D : Type 0} (bus : D → Bus) (q : Request) (line : List Bool) (s : Target D) (w : Bool)
    (t : Clocked D) : Type 0 where
  pub line_is : line ≡ bits_of_request q
  pub requested : ClockedRequested bus q s w t

sent : {D : Type 0} (bus : D → Bus) (q : Request) (line : List Bool) (s t : Clocked D) → s.frame ≡ idle_frame
    → RunsCycles bus (map Some (bits_of_request q)) line s t → RequestSentByCycles bus q line s.target s.waits t
sent bus q [] s t is r = absurd r
sent bus q (b ∷ line) s t is r =
    let c = cycle_on bus idle_frame s.target s.waits s r.0 (Some true) b (moved_here idle_frame s is) r.1 in
    let first = c.1.more (omega arith) (λ e. refl) in
    let eight = request_bits_length q in
    let rest = asked bus (behind_start q) line 255 1 s.target s.waits r.0 t (omega arith) (omega arith) (omega arith)
    first
    r.2 in
    record {
      line_is = ap (λ x. x ∷ line) c.0 ∙ ap (λ x. true ∷ x) rest.line_is;
      requested = rest.came.whole q (byte_at q.ap q.read q.addr);
    }

-- ---- one cycle after the other

pub record FirstCycleOfRun {D : Type 0} (bus : D → Bus) (drive : Option Bool) (drives : List (Option Bool))
    (line : List Bool)
    (m t : Clocked D) : Type 0 where
  pub on : Bool
  pub rest : List Bool
  pub next : Clocked D
  pub line_is : line ≡ on ∷ rest
  pub clocks : ClocksOneCycle bus drive on m next
  pub runs : RunsCycles bus drives rest next t

stepped : {D : Type 0} (bus : D → Bus) (drive : Option Bool) (drives : List (Option Bool)) (line : List Bool)
    (m t : Clocked D) →
    RunsCycles bus (drive ∷ drives) line m t → FirstCycleOfRun bus drive drives line m t
stepped bus drive drives [] m t r = absurd r
stepped bus drive drives (b ∷ line) m t r =
    record { on = b; rest = line; next = r.0; line_is = refl; clocks = r.1; runs = r.2 }

pub record NoCycleLeft {D : Type 0} (line : List Bool) (m t : Clocked D) : Type 0 where
  pub none : line ≡ []
  pub same : t ≡ m

ended : {D : Type 0} (bus : D → Bus) (line : List Bool) (m t : Clocked D) → RunsCycles bus [] line m t → NoCycleLeft
    line m t
ended bus [] m t r = record { none = refl; same = r }
ended bus (b ∷ line) m t r = absurd r

-- ---- a reply

not_none : (n : ℕ) → 0 < n → n ≢ 0
not_none n some e = omega (arith, some, e)

-- a turnaround and the three bits that are driven
pub record ReplyByCycles {D : Type 0} (bus : D → Bus) (reply : Reply) (phase : AfterAck) (drives : List (Option Bool))
    (line : List Bool) (s : Target D) (w : Bool) (t : Clocked D) : Type 0 where
  pub turn : Bool
  pub rest : List Bool
  pub next : Clocked D
  pub line_is : line ≡ turn ∷ reply_cycle_bit reply 1 ∷ reply_cycle_bit reply 2 ∷ reply_cycle_bit reply 3 ∷ rest
  pub moved : FrameMoved (frame_after_reply phase) s w next
  pub runs : RunsCycles bus drives rest next t

replied : {D : Type 0} (bus : D → Bus) (reply : Reply) (phase : AfterAck) (drives : List (Option Bool))
    (line : List Bool)
    (s : Target D) (w : Bool)
    (m t : Clocked D) → FrameMoved (Replies reply phase 0) s w m → RunsCycles bus (released_cycles 4 ++ drives) line m t
    → ReplyByCycles bus reply phase drives line s w t
replied bus reply phase drives line s w m t h r =
    let a = stepped bus None (released_cycles 3 ++ drives) line m t r in
    let c = cycle_on bus (Replies reply phase 0) s w m a.next None a.on h a.clocks in
    let a1 = stepped bus None (released_cycles 2 ++ drives) a.rest a.next t a.runs in
    let c1 = cycle_on bus (Replies reply phase 1) s w a.next a1.next None a1.on c.frame a1.clocks in
    let a2 = stepped bus None (released_cycles 1 ++ drives) a1.rest a1.next t a1.runs in
    let c2 = cycle_on bus (Replies reply phase 2) s w a1.next a2.next None a2.on c1.frame a2.clocks in
    let a3 = stepped bus None drives a2.rest a2.next t a2.runs in
    let c3 = cycle_on bus (Replies reply phase 3) s w a2.next a3.next None a3.on c2.frame a3.clocks in
    let third = a3.line_is ∙ ap (λ x. x ∷ a3.rest) (c3.driven (not_none 3 (omega arith))) in
    let second = a2.line_is ∙ ap (λ x. x ∷ a2.rest) (c2.driven (not_none 2 (omega arith)))
    ∙ ap (λ x. reply_cycle_bit reply 2 ∷ x) third in
    let first = a1.line_is ∙ ap (λ x. x ∷ a1.rest) (c1.driven (not_none 1 (omega arith)))
    ∙ ap (λ x. reply_cycle_bit reply 1 ∷ x) second in
    record {
      turn = a.on;
      rest = a3.rest;
      next = a3.next;
      line_is = a.line_is ∙ ap (λ x. a.on ∷ x) first;
      moved = c3.frame;
      runs = a3.runs;
    }

-- no reply: the line is left alone, and fifty ones are awaited
pub record SilentCycles {D : Type 0} (n ones : ℕ) (line : List Bool) (s : Target D) (w : Bool)
    (t : Clocked D) : Type 0 where
  pub line_is : line ≡ replicate n true
  pub moved : FrameMoved (Lost (ones + n)) s w t

silence : {D : Type 0} (bus : D → Bus) (n ones : ℕ) (line : List Bool) (s : Target D) (w : Bool) (m t : Clocked D) →
    ones + n < 50 → FrameMoved (Lost ones) s w m → RunsCycles bus (released_cycles n) line m t
    → SilentCycles n ones line s w t
silence bus zero ones line s w m t few h r =
    let e = ended bus line m t r in
    record {
      line_is = e.none;
      moved = subst (λ k. FrameMoved (Lost k) s w t) (let z : ones ≡ ones + 0 = omega arith in z)
          (moved_same (Lost ones) s w m t e.same h);
    }
silence bus (suc n) ones line s w m t few h r =
    let a = stepped bus None (released_cycles n) line m t r in
    let c = cycle_on bus (Lost ones) s w m a.next None a.on h a.clocks in
    let rest = silence bus n (ones + 1) a.rest s w a.next t (omega arith) (c.1.more (omega arith) refl) a.runs in
    record {
      line_is = a.line_is ∙ ap (λ x. x ∷ a.rest) c.0 ∙ ap (λ x. true ∷ x) rest.line_is;
      moved = subst (λ k. FrameMoved (Lost k) s w t) (let z : ones + 1 + n ≡ ones + suc n = omega arith in z)
          rest.moved;
    }

-- a turnaround after WAIT or FAULT
pub record TurnaroundCycle {D : Type 0} (line : List Bool) (t : Clocked D) : Type 0 where
  pub line_is : line ≡ true ∷ []
  pub frame : t.frame ≡ idle_frame

passed : {D : Type 0} (bus : D → Bus) (line : List Bool) (s : Target D) (w : Bool) (m t : Clocked D) → FrameMoved Passes
    s w m
    → RunsCycles bus (released_cycles 1) line m t → TurnaroundCycle line t
passed bus line s w m t h r =
    let a = stepped bus None [] line m t r in
    let c = cycle_on bus Passes s w m a.next None a.on h a.clocks in
    let e = ended bus a.rest a.next t a.runs in
    record {
      line_is = a.line_is ∙ ap (λ x. x ∷ a.rest) c.0 ∙ ap (λ x. true ∷ x) e.none;
      frame = (moved_same idle_frame s w a.next t e.same c.1).frame;
    }

-- ---- data

-- the last bit
pub record ClockedLastBit (n : ℕ) (bits : List Bool) : Type 0 where
  pub front : List Bool
  pub last : Bool
  pub counted : length front ≡ n
  pub is : bits ≡ front ++ last ∷ []

last_of : (n : ℕ) (bits : List Bool) → length bits ≡ suc n → ClockedLastBit n bits
last_of n [] h = absurd (omega arith)
last_of zero (b ∷ []) h = record { front = []; last = b; counted = refl; is = refl }
last_of zero (b ∷ d ∷ bits) h = absurd (omega arith)
last_of (suc n) (b ∷ bits) h =
    let rest = last_of n bits (omega arith) in
    record {
      front = b ∷ rest.front;
      last = rest.last;
      counted = (let e = rest.counted in omega arith);
      is =
          ap (λ x. b ∷ x) rest.is;
    }

-- a bit is a parity, or where it is wrong the other bit
parity : (p o : Bool) → (ok : Bool) × (p ≡ (if ok then o else not o))
parity true true = (true, refl)
parity false false = (true, refl)
parity true false = (false, refl)
parity false true = (false, refl)

-- 33 bits are the phase of a word, its parity right or wrong
pub record IsClockedPhase (bits : List Bool) : Type 0 where
  pub word : ℕ
  pub ok : Bool
  pub fits : word < 2 ^ 32
  pub is : bits ≡ phase_with word ok

phase_of : (bits : List Bool) → length bits ≡ 33 → IsClockedPhase bits
unfolding phase_with
phase_of bits h =
    let cut = last_of 32 bits h in
    let word = bits_number cut.front in
    let same : low_bits 32 word ≡ cut.front = subst (λ n. low_bits n word ≡ cut.front) cut.counted
    (low_bits-number cut.front) in
    let p = parity cut.last (odd (low_bits 32 word)) in
    record {
      word = word;
      ok = p.0;
      fits = subst (λ n. word < 2 ^ n) cut.counted (bits_number_lt cut.front);
      is = cut.is ∙ ap (λ x. x ++ cut.last ∷ []) (sym same) ∙ ap (λ x. low_bits 32 word ++ x ∷ []) p.1;
    }

-- the bits of a read, and a turnaround
pub record DataDrivenByCycles {D : Type 0} (wanted : List Bool) (line : List Bool) (t : Clocked D) : Type 0 where
  pub line_is : line ≡ wanted ++ true ∷ []
  pub frame : t.frame ≡ idle_frame

drives : {D : Type 0} (bus : D → Bus) (n bits : ℕ) (line : List Bool) (s : Target D) (w : Bool) (m t : Clocked D) →
    FrameMoved (Drives bits n) s w m → RunsCycles bus (released_cycles (suc n)) line m t
    → DataDrivenByCycles (low_bits n bits) line t
unfolding low_bits
drives bus zero bits line s w m t h r =
    let a = stepped bus None [] line m t r in
    let c = cycle_on bus (Drives bits 0) s w m a.next None a.on h a.clocks in
    let e = ended bus a.rest a.next t a.runs in
    record {
      line_is = a.line_is ∙ ap (λ x. x ∷ a.rest) (c.turn refl).0 ∙ ap (λ x. true ∷ x) e.none;
      frame = (moved_same idle_frame s w a.next t e.same (c.turn refl).1).frame;
    }
drives bus (suc n) bits line s w m t h r =
    let a = stepped bus None (released_cycles (suc n)) line m t r in
    let c = cycle_on bus (Drives bits (suc n)) s w m a.next None a.on h a.clocks in
    let some : suc n ≢ 0 = not_none (suc n) (omega arith) in
    let less : suc n - 1 ≡ n = omega arith in
    let rest = drives bus n (bits / 2) a.rest s w a.next t
    (subst (λ k. FrameMoved (Drives (bits / 2) k) s w a.next) less (c.more some)) a.runs in
    record {
      line_is = a.line_is ∙ ap (λ x. x ∷ a.rest) (c.driven some) ∙ ap (λ x. (bits % 2 == 1) ∷ x) rest.line_is;
      frame = rest.frame;
    }

-- the bits of a write
pub record DataTakenByCycles {D : Type 0} (wanted line : List Bool) (t : Clocked D) : Type 0 where
  pub line_is : line ≡ wanted
  pub frame : t.frame ≡ idle_frame

awaits : {D : Type 0} (bus : D → Bus) (wanted line : List Bool) (r : Register) (bits place : ℕ) (s : Target D)
    (w : Bool)
    (m t : Clocked D) →
    0 < place → 0 < length wanted → place + length wanted ≡ 34 → FrameMoved (Awaits r bits place) s w m
    → RunsCycles bus (map Some wanted) line m t → DataTakenByCycles wanted line t
awaits bus [] line r bits place s w m t a b e h runs = absurd (omega arith)
awaits bus (x ∷ wanted) [] r bits place s w m t a b e h runs = absurd runs
awaits bus (x ∷ []) (y ∷ []) r bits place s w m t a b e h runs =
    let c = cycle_on bus (Awaits r bits place) s w m runs.0 (Some x) y h runs.1 in
    let came = c.1.whole (omega arith) in
    record { line_is = ap (λ z. z ∷ []) c.0; frame = ap (λ (z : Clocked _). z.frame) runs.2 ∙ came.frame }
awaits bus (x ∷ []) (y ∷ z ∷ line) r bits place s w m t a b e h runs = absurd runs.2
awaits bus (x ∷ z ∷ wanted) (y ∷ line) r bits place s w m t a b e h runs =
    let c = cycle_on bus (Awaits r bits place) s w m runs.0 (Some x) y h runs.1 in
    let more = c.1.more (not_none place a) (omega arith) in
    let rest = awaits bus (z ∷ wanted) line r (clocked_shifted (2 ^ 32) bits x) (place + 1) s w runs.0 t (omega arith)
    (omega arith) (omega arith) more runs.2 in
    record { line_is = ap (λ i. i ∷ line) c.0 ∙ ap (λ i. x ∷ i) rest.line_is; frame = rest.frame }

-- ---- a whole transaction

-- what follows a request is spelled with it
spelled : (q : Request) (end : TxEnd) (sent line : List Bool) (turn last : Bool) → IsTxEnd end
    → sent ≡ bits_of_request q → line ≡ turn ∷ tx_ending_bits q.read end last
    → SpellsTx (record { request = q; result = end }) (sent ++ line)
spelled q end sent line turn last fits e h =
    (fits, turn, last, ap (λ x. x ++ line) e ∙ ap (λ x. bits_of_request q ++ x) h)

refused : {D : Type 0} (bus : D → Bus) (q : Request) (reply : Reply) (end : TxEnd) (sent line : List Bool)
    (m t : Clocked D)
    → sent ≡ bits_of_request q → IsTxEnd end →
    ((x : Bool) → tx_ending_bits q.read end x ≡ reply_cycle_bit reply 1 ∷ reply_cycle_bit reply 2
    ∷ reply_cycle_bit reply 3 ∷ x ∷ [])
    → ClockedEndsAs reply end →
    frame_behind reply ≡ idle_frame → FrameMoved (Replies reply lines.Idle 0) m.target m.waits m
    → RunsCycles bus (released_cycles 5) line m t
    → CyclesSpellOne q reply (sent ++ line) t
refused bus q reply end sent line m t e fits is ends frame h r =
    let x = replied bus reply lines.Idle (released_cycles 1) line m.target m.waits m t h r in
    let y = passed bus x.rest m.target m.waits x.next t x.moved x.runs in
    record {
      end = end;
      ends = ends;
      spells = spelled q end sent line x.turn true fits e
          (x.line_is ∙ ap (λ i. x.turn ∷ reply_cycle_bit reply 1 ∷ reply_cycle_bit reply 2 ∷ reply_cycle_bit reply 3
          ∷ i) y.line_is ∙ ap (λ i. x.turn ∷ i) (sym (is true)));
      frame = y.frame ∙ sym frame;
    }

okay_read : {D : Type 0} (bus : D → Bus) (q : Request) (bits : ℕ) (sent line : List Bool) (m t : Clocked D) → q.read ≡
    true
    → sent ≡ bits_of_request q →
    FrameMoved (Replies Okay (lines.Drives bits) 0) m.target m.waits m → RunsCycles bus (released_cycles 38) line m t
    → CyclesSpellOne q Okay (sent ++ line) t
okay_read bus q bits sent line m t reads e h r =
    let x = replied bus Okay (lines.Drives bits) (released_cycles 34) line m.target m.waits m t h r in
    let y = drives bus 33 bits x.rest m.target m.waits x.next t x.moved x.runs in
    let p = phase_of (low_bits 33 bits) (length-low_bits 33 bits) in
    let end : TxEnd = WordMoved p.word p.ok in
    record {
      end = end;
      ends = (p.word, p.ok, refl);
      spells = spelled q end sent line x.turn true p.fits e
          (x.line_is ∙ ap (λ i. x.turn ∷ true ∷ false ∷ false ∷ i) (y.line_is ∙ ap (λ i. i ++ true ∷ []) p.is)
          ∙ ap (λ (b : Bool). x.turn ∷ tx_ending_bits b end true) (sym reads));
      frame = y.frame;
    }

okay_write : {D : Type 0} (bus : D → Bus) (q : Request) (r : Register) (flip : Option ℕ) (phase sent line : List Bool)
    (m t : Clocked D)
    → q.read ≡ false → length phase ≡ 33 →
    sent ≡ bits_of_request q → FrameMoved (Replies Okay (lines.Awaits r flip) 0) m.target m.waits m
    → RunsCycles bus (released_cycles 5 ++ map Some phase) line m t → CyclesSpellOne q Okay (sent ++ line) t
okay_write bus q r flip phase sent line m t writes n e h runs =
    let x = replied bus Okay (lines.Awaits r flip) (released_cycles 1 ++ map Some phase) line m.target m.waits m t h
    runs in
    let a = stepped bus None (map Some phase) x.rest x.next t x.runs in
    let c = cycle_on bus (Awaits r port_undriven 0) m.target m.waits x.next a.next None a.on x.moved a.clocks in
    let y = awaits bus phase a.rest r port_undriven 1 m.target m.waits a.next t (omega arith) (omega arith)
    (omega arith)
    (c.1.turn refl) a.runs in
    let p = phase_of phase n in
    let end : TxEnd = WordMoved p.word p.ok in
    record {
      end = end;
      ends = (p.word, p.ok, refl);
      spells = spelled q end sent line x.turn a.on p.fits e
          (x.line_is ∙ ap (λ i. x.turn ∷ true ∷ false ∷ false ∷ i) (a.line_is ∙ ap (λ i. a.on ∷ i) (y.line_is ∙ p.is))
          ∙ ap (λ (b : Bool). x.turn ∷ tx_ending_bits b end a.on) (sym writes));
      frame = y.frame;
    }

silent_line : (read last : Bool) → replicate 4 true ≡ true ∷ tx_ending_bits read (NoAck 7) last
unfolding low_bits
silent_line read last = refl

behind : {D : Type 0} (bus : D → Bus) (q : Request) (reply : Reply) (read : Bool) (follows : AfterAck)
    (phase sent line : List Bool)
    (m t : Clocked D) → q.read ≡ read →
    clocked_phase_kind follows ≡ clocked_kind_after_reply reply read → length phase ≡ 33 → sent ≡ bits_of_request q
    → FrameMoved (frame_replied reply follows) m.target m.waits m →
    RunsCycles bus (cycles_driven_behind reply read phase) line m t → CyclesSpellOne q reply (sent ++ line) t
behind bus q Silent read follows phase sent line m t reads k n e h r =
    let x = silence bus 4 1 line m.target m.waits m t (omega arith) h r in
    record {
      end = NoAck 7;
      ends = refl;
      spells = spelled q (NoAck 7) sent line true true (inr (inr (inr (inr refl)))) e
          (x.line_is ∙ silent_line q.read true);
      frame = x.moved.frame;
    }
behind bus q Waits read lines.Idle phase sent line m t reads k n e h r = refused bus q Waits Wait sent line m t e tt
    (λ x. refl)
    refl refl h r
behind bus q Waits read (lines.Drives bits) phase sent line m t reads k n e h r = absurd (omega arith)
behind bus q Waits read (lines.Awaits reg flip) phase sent line m t reads k n e h r = absurd (omega arith)
behind bus q Faults read lines.Idle phase sent line m t reads k n e h r = refused bus q Faults Fault sent line m t e tt
    (λ x. refl) refl refl h r
behind bus q Faults read (lines.Drives bits) phase sent line m t reads k n e h r = absurd (omega arith)
behind bus q Faults read (lines.Awaits reg flip) phase sent line m t reads k n e h r = absurd (omega arith)
behind bus q Okay true (lines.Drives bits) phase sent line m t reads k n e h r = okay_read bus q bits sent line m t
    reads e h r
behind bus q Okay true lines.Idle phase sent line m t reads k n e h r = absurd (omega arith)
behind bus q Okay true (lines.Awaits reg flip) phase sent line m t reads k n e h r = absurd (omega arith)
behind bus q Okay false (lines.Awaits reg flip) phase sent line m t reads k n e h r = okay_write bus q reg flip phase
    sent line
    m t reads n e h r
behind bus q Okay false lines.Idle phase sent line m t reads k n e h r = absurd (omega arith)
behind bus q Okay false (lines.Drives bits) phase sent line m t reads k n e h r = absurd (omega arith)

-- the phase that a request leaves is that of its reply
kind_answered : {D : Type 0} (bus : D → Bus) (w : Bool) (q : Request) (s t : Target D) (reply : Reply)
    (follows : AfterAck)
    → TargetAnswers bus w q s reply follows t → clocked_phase_kind follows ≡ clocked_kind_after_reply reply q.read
kind_answered bus true q s t reply follows x =
    clocked_kind_of_seen bus WaitMark q s t reply follows (x.under WaitMark tt refl refl)
kind_answered bus false q s t reply follows x = clocked_kind_of_seen bus Clean q s t reply follows
    (x.under Clean tt refl refl)

-- a request that is sent between transactions and the cycles after it spell one transaction, with the model's reply
pub requests_spell : {D : Type 0} (bus : D → Bus) → RequestsSpell bus
requests_spell bus q phase line s m is n r =
    let x = sent bus q line s m is r in
    let y = x.requested in
    record {
      sends = x.line_is;
      reply = y.reply;
      follows = y.phase;
      answers = y.answers;
      one = λ more t runs. behind bus q y.reply q.read y.phase phase line more m t refl
          (kind_answered bus s.waits q s.target m.target y.reply y.phase y.answers) n x.line_is
          (moved_here (frame_replied y.reply y.phase) m y.frame) runs;
    }

-- ---- ones

pub record RisenByOnesCycles {D : Type 0} (bus : D → Bus) (n : ℕ) (s t : Clocked D) : Type 0 where
  pub rising : IsRisingFrame t.frame
  pub left : rising_frame_ones t.frame ≡ rising_frame_ones s.frame - n
  pub rises : ClockedRises bus s t

ones_run : {D : Type 0} (bus : D → Bus) (drives : List (Option Bool)) (line : List Bool) (s t : Clocked D)
    → IsRisingFrame s.frame
    → AreOnesCycles drives → RunsCycles bus drives line s t → RisenByOnesCycles bus (length drives) s t
ones_run bus [] line s t i h r =
    let e = ended bus line s t r in
    let none : RisenByOnesCycles bus 0 s s = record
    { rising = i; left = omega arith; rises = clocked_rises_itself bus s } in
    subst (λ (x : Clocked _). RisenByOnesCycles bus 0 s x) (sym e.same) none
ones_run bus (drive ∷ drives) line s t i h r =
    let a = stepped bus drive drives line s t r in
    let c = subst (λ (b : Bool). Cycles bus s.frame b a.on s.target s.waits a.next) h.0 a.clocks in
    let f = rising_frame_after_one bus s.frame a.on s.target s.waits a.next i s.place c in
    let rest = ones_run bus drives a.rest a.next t (subst IsRisingFrame (sym f.is) f.rising) h.1 a.runs in
    let less = ap rising_frame_ones f.is ∙ f.less in
    let more = rest.left in
    record {
      rising = rest.rising;
      left = omega (arith, less, more);
      rises = clocked_rises_chain bus s a.next t (one_cycle_rises bus s a.next a.on i s.place c) rest.rises;
    }

-- a frame from which fifty ones are a line reset
hears : (f : Frame) → (f ≡ idle_frame) ⊎ ((ones : ℕ) × (f ≡ Lost ones)) → IsRisingFrame f × (rising_frame_ones f ≤ 50)
    × ((x : State) → risen_frame_state f x ≡ record x { reset = Fresh })
hears f h = elim h [
  | inl e ↦ rw e (refl, omega arith, λ x. refl)
  | inr (ones, e) ↦ rw e (tt, omega arith, λ x. refl)
]

-- fifty ones, driven or not, are a line reset, between transactions and where the target awaits one
pub ones_reset : {D : Type 0} (bus : D → Bus) → OnesReset bus
ones_reset bus drives line s t from many ones r =
    let (rising, few, to) = hears s.frame from in
    let x = ones_run bus drives line s t rising ones r in
    let left = x.left in
    let high : t.frame ≡ High = risen_frame_is_high t.frame x.rising (omega (arith, left, many, few)) t.place in
    record {
      frame = high;
      state = sym (ap (λ (f : Frame). risen_frame_state f (clocked_state bus t)) high) ∙ x.rises.state ∙ to
          (clocked_state bus s);
    }

-- The states of a port before its pending transfer took effect, or was a bus error; and a transaction after that.
use Rattle.std.proofs.Common.{◌≡◌, ◌<◌, ◌≤◌, ◌+◌, ◌*◌, ◌%◌, ℕ, Bool, true, false, refl, sym, ap, subst, ◌∙◌, inl}
use Rattle.std.proofs.Common.{inr}
use Rattle.std.proofs.Common.{arith, List, [], ◌∷◌}
use Rattle.std.specs.Prelude.{Option, Some, None, is_some, if◌then◌else◌, nat_lt, unwrap_or, not}
use Rattle.std.specs.Option.{option_map, option_and_then}
use Rattle.swd_bits.specs.declared.tx.Tx.{Tx as Transaction}
use Rattle.swd_port.specs.declared.access.Access.{Access}
use Rattle.swd_port.specs.declared.state.Drw.{Drw}
use Rattle.swd_port.specs.declared.state.Drw.TheVariants.{Reads, Writes}
use Rattle.swd_port.specs.Registers.{csw_read}
use Rattle.swd_port.specs.Bus.{Bus}
use Rattle.swd_port.specs.Port.{Port, Target}
use Rattle.swd_port.specs.Choices.{Choice, IsPortChoice}
use Rattle.swd_port.specs.Completion.{PortCompletes, port_completion, port_completed, port_tar_next_address}
use Rattle.swd_port.specs.Completion.{pending_fails, pending_access_at, tar_after_pending, buffer_after_pending}
use Rattle.swd_port.specs.Completion.{memory_after_pending}
use Rattle.swd_port.proofs.RegisterLemmas.{port_csw_reads}
use Rattle.swd_checker.specs.Worlds.{World, Transfer, TransferRead, TransferWrite, Tar, TarUnknown, TarFrom, Held}
use Rattle.swd_checker.specs.Worlds.{HeldUnknown, HeldWord, HeldCsw, HeldSeen, checked_tar_incremented}
use Rattle.swd_checker.specs.Worlds.{checked_buffer_moved, world_success_of, world_succeeded, world_failed}
use Rattle.swd_checker.specs.Described.{CheckedHeld, IsWorldNow, checked_transfer_of, checked_near_at}
use Rattle.swd_checker.specs.Exact.{WorldWords, CheckedAnswers, IsTarExact, IsHeldExact, IsTarSound, IsHeldSound}
use Rattle.swd_checker.specs.Exact.{IsWorldExact, IsWorldSound, IsWorldTarget, IsWorldPort}
use Rattle.swd_checker.specs.Reaching.{WorldSteps, WorldGoes, WorldTransacts}
use Rattle.swd_checker.proofs.DescribedLemmas.{world_now_succeeds, world_now_fails}
use Rattle.swd_checker.proofs.ReadLemmas.{checked_csw_read}

-- what a world stands for exactly of the read buffer, or of the last returned value, it describes
pub held_exact_checked : (held : Held) (value : Option ℕ) → IsHeldExact held value → CheckedHeld held value
held_exact_checked HeldUnknown value h = tt
held_exact_checked HeldWord value (word, e, small) = (word, e)
held_exact_checked (HeldCsw increments) value (word, e, small, is) = (word, e, is)
held_exact_checked (HeldSeen near) value h = h

tar_some : (tar : Tar) → IsTarSound tar → (value : Option ℕ) × IsTarExact tar value
tar_some TarUnknown sound = (None, refl)
tar_some (TarFrom first more) sound = (Some (first + 4 * 0), (0, omega arith, refl))

held_some : (held : Held) → IsHeldSound held → (value : Option ℕ) × IsHeldExact held value
held_some HeldUnknown sound = (None, refl)
held_some HeldWord sound = (Some 0, (0, refl, omega arith))
held_some (HeldCsw increments) sound = (
  Some (csw_read increments 0),
  (csw_read increments 0, refl, (port_csw_reads increments 0).range, checked_csw_read increments increments 0 refl),
)
held_some (HeldSeen near) sound = (
  Some (checked_near_at near sound.place),
  (checked_near_at near sound.place, refl, (sound.place, sound.inside, sound.is, refl)),
)

-- there are words that a world allows
pub world_some : (w : World) → IsWorldSound w → (v : WorldWords) × IsWorldExact w v
world_some w sound =
    let tar = tar_some w.tar sound.tar in
    let buffer = held_some w.buffer sound.buffer in
    let last = held_some w.last_returned sound.last_returned in (
      record { tar = tar.0; buffer = buffer.0; last_returned = last.0 },
      record { tar = tar.1; buffer = buffer.1; last_returned = last.1 },
    )

inside_sound : (first more : ℕ) (b : Bool) → nat_lt (first % 1024 + 4 * more + 4) 1024 ≡ b
    → IsTarSound (TarFrom first more) → IsTarSound (if b then TarFrom (first + 4) more else TarUnknown)
inside_sound first more false e sound = tt
inside_sound first more true e (small, inside) = (grind arith, grind arith)

incremented_sound : (increments : Bool) (tar : Tar) → IsTarSound tar
    → IsTarSound (if increments then checked_tar_incremented tar else tar)
incremented_sound false tar sound = sound
incremented_sound true TarUnknown sound = tt
incremented_sound true (TarFrom first more) sound = inside_sound first more _ refl sound

moved_sound : (transfer : Transfer) (held : Held) → IsHeldSound held
    → IsHeldSound (checked_buffer_moved transfer held)
moved_sound TransferRead held sound = tt
moved_sound TransferWrite held sound = sound

success_sound : (pending : Option Transfer) (w : World) → IsWorldSound w → IsWorldSound (world_success_of pending w)
success_sound None w sound = sound
success_sound (Some transfer) w sound = record {
  tar = incremented_sound w.increments w.tar sound.tar;
  buffer = moved_sound transfer w.buffer sound.buffer;
  last_returned = sound.last_returned;
}

-- the world in which the pending transfer succeeded has words, too
pub world_succeeded_sound : (w : World) → IsWorldSound w → IsWorldSound (world_succeeded w)
world_succeeded_sound w sound = success_sound w.pending w sound

-- COMPLETION
-- one answer of a bus, and then these
abbrev pub checked_answers_first : Option ℕ → CheckedAnswers → CheckedAnswers
checked_answers_first answer after [] = λ a. answer
checked_answers_first answer after (a ∷ made) = after made

-- a choice of a target that leaves nothing open but words
abbrev pub checked_choice_plain : Choice
checked_choice_plain = record {
  address = 0;
  filler = 0;
  others = 0;
  elsewhere = 0;
  refuses = false;
  debug_late = false;
  system_late = false;
}

-- which is one
pub checked_plain_legal : IsPortChoice checked_choice_plain
checked_plain_legal =
    record { address = omega arith; filler = omega arith; others = omega arith; elsewhere = omega arith }

next_last : (first more : ℕ) → nat_lt (first % 1024 + 4 * more + 4) 1024 ≡ false
    → first % 1024 + 4 * more < 1024 → nat_lt ((first + 4 * more) % 1024 + 4) 1024 ≡ false
next_last first more e inside = grind arith

next_within : (first more index : ℕ) → index ≤ more → nat_lt (first % 1024 + 4 * more + 4) 1024 ≡ true
    → nat_lt ((first + 4 * index) % 1024 + 4) 1024 ≡ true
next_within first more index within inside = grind arith

-- TAR before it was incremented
tar_before_in : (first more : ℕ) (b : Bool) (value : Option ℕ) → nat_lt (first % 1024 + 4 * more + 4) 1024 ≡ b
    → IsTarSound (TarFrom first more) → IsTarExact (if b then TarFrom (first + 4) more else TarUnknown) value
    → (at : Option ℕ) × IsTarExact (TarFrom first more) at × (option_and_then port_tar_next_address at ≡ value)
tar_before_in first more false value e sound h =
    (Some (first + 4 * more), (more, omega arith, refl), rw (next_last first more e sound.1) (sym h))
tar_before_in first more true value e sound (index, within, is) = (
  Some (first + 4 * index),
  (index, within, refl),
  rw (next_within first more index within e) (ap Some (omega arith) ∙ sym is),
)

tar_before : (increments : Bool) (tar : Tar) (value : Option ℕ) → IsTarSound tar
    → IsTarExact (if increments then checked_tar_incremented tar else tar) value
    → (at : Option ℕ) × IsTarExact tar at
    × ((if increments then option_and_then port_tar_next_address at else at) ≡ value)
tar_before false tar value sound h = (value, h, refl)
tar_before true TarUnknown value sound h = (None, refl, sym h)
tar_before true (TarFrom first more) value sound h = tar_before_in first more _ value refl sound h

-- the read buffer before, and the answer of the bus
abbrev buffer_from : Transfer → ℕ → Option ℕ → Option ℕ
buffer_from TransferRead word buffer = Some word
buffer_from TransferWrite word buffer = buffer

buffer_before : (transfer : Transfer) (held : Held) (value : Option ℕ) → IsHeldSound held
    → IsHeldExact (checked_buffer_moved transfer held) value
    → (buffer : Option ℕ) × (word : ℕ) × IsHeldExact held buffer × (buffer_from transfer word buffer ≡ value)
buffer_before TransferRead held value sound (word, e, small) =
    let k = held_some held sound in (k.0, word, k.1, sym e)
buffer_before TransferWrite held value sound h = (value, 0, h, refl)

buffer_moved : (drw : Drw) (transfer : Transfer) (at word : ℕ) (m : Bus) (after : CheckedAnswers)
    (buffer before value : Option ℕ) → checked_transfer_of drw ≡ transfer
    → m.answers ≡ checked_answers_first (Some word) after
    → ((Some transfer ≡ Some TransferRead → ⊥) → buffer ≡ before)
    → buffer_from transfer word before ≡ value → buffer_after_pending (Some drw) false at m buffer ≡ value
buffer_moved Reads transfer at word m after buffer before value e bus same is =
    ap (λ f. Some (unwrap_or (f [] (pending_access_at at Reads)) 0)) bus
    ∙ ap (λ t. buffer_from t word before) e ∙ is
buffer_moved (Writes sent) transfer at word m after buffer before value e bus same is =
    same (λ f. let g : TransferWrite ≡ TransferRead = e ∙ cc in cc) ∙ ap (λ t. buffer_from t word before) e ∙ is

-- the transfer that is pending in a target
pending_drw : (p : Option Drw) (transfer : Transfer) → option_map checked_transfer_of p ≡ Some transfer
    → (drw : Drw) × (p ≡ Some drw) × (checked_transfer_of drw ≡ transfer)
pending_drw None transfer e = absurd (cc)
pending_drw (Some drw) transfer e = (drw, refl, cc)

fails_as : (x : Target) (at : ℕ) (drw : Drw) (answer : Option ℕ) (after : CheckedAnswers) → x.pending ≡ Some drw
    → x.memory.answers ≡ checked_answers_first answer after
    → pending_fails x.pending at x.memory ≡ not (is_some answer)
fails_as x at drw answer after pending bus = ap (λ p. pending_fails p at x.memory) pending
    ∙ ap (λ f. not (is_some (f [] (pending_access_at at drw)))) bus

bus_later : (x : Target) (at : ℕ) (drw : Drw) (answer : Option ℕ) (after : CheckedAnswers) → x.pending ≡ Some drw
    → x.memory.answers ≡ checked_answers_first answer after
    → (memory_after_pending x.pending at x.memory).answers ≡ after
bus_later x at drw answer after pending bus = ap (λ p. (memory_after_pending p at x.memory).answers) pending
    ∙ ap (λ (f : CheckedAnswers). (λ (made : List Access). f (pending_access_at at drw ∷ made))) bus

-- the target once its transfer succeeded
succeeds_exactly : (w : World) (n : ℕ) (u v : WorldWords) (after : CheckedAnswers) (c : Choice) (x : Target)
    (transfer : Transfer) (drw : Drw) (word : ℕ) → w.pending ≡ Some transfer → x.pending ≡ Some drw
    → checked_transfer_of drw ≡ transfer
    → (if w.increments then option_and_then port_tar_next_address u.tar else u.tar) ≡ v.tar
    → buffer_from transfer word u.buffer ≡ v.buffer → u.last_returned ≡ v.last_returned
    → IsWorldTarget w n u (checked_answers_first (Some word) after) x
    → IsWorldTarget (world_success_of (Some transfer) w) n v after (port_completion c x)
succeeds_exactly w n u v after c x transfer drw word known pending is tar buffer last h =
    let at = unwrap_or x.tar c.address in
    let fits : pending_fails x.pending at x.memory ≡ false = fails_as x at drw (Some word) after pending h.bus in
    record {
      now = subst (λ t. IsWorldNow (world_success_of (Some t) w) (port_completion c x)) is
          (world_now_succeeds w c x drw h.now pending (known ∙ ap (λ t. Some t) (sym is)) fits);
      debug = h.debug;
      system = h.system;
      tar = ap (λ f. tar_after_pending x.pending f x.increments x.tar) fits
          ∙ ap (λ p. tar_after_pending p false x.increments x.tar) pending
          ∙ ap (λ i. if i then option_and_then port_tar_next_address x.tar else x.tar) h.now.increments
          ∙ ap (λ t. if w.increments then option_and_then port_tar_next_address t else t) h.tar ∙ tar;
      buffer = λ free. ap (λ f. buffer_after_pending x.pending f at x.memory x.buffer) fits
          ∙ ap (λ p. buffer_after_pending p false at x.memory x.buffer) pending
          ∙ buffer_moved drw transfer at word x.memory after x.buffer u.buffer v.buffer is h.bus
          (λ free. h.buffer (λ f. free (sym known ∙ f))) buffer;
      last_returned = h.last_returned ∙ last;
      identification = h.identification;
      bus = bus_later x at drw (Some word) after pending h.bus;
    }

settles : (pending : Option Transfer) (w : World) (n : ℕ) (v : WorldWords) → w.pending ≡ pending → IsWorldSound w
    → IsWorldExact (world_success_of pending w) v
    → (u : WorldWords) × IsWorldExact w u × WorldSteps PortCompletes n w u (world_success_of pending w) v
settles None w n v known sound exact = (v, exact, λ after. (after, λ s is. (s, inl refl, is)))
settles (Some transfer) w n v known sound exact =
    let tar = tar_before w.increments w.tar v.tar sound.tar exact.tar in
    let buffer = buffer_before transfer w.buffer v.buffer sound.buffer exact.buffer in
    let u : WorldWords = record { tar = tar.0; buffer = buffer.0; last_returned = v.last_returned } in (
      u,
      record { tar = tar.1; buffer = buffer.2; last_returned = exact.last_returned },
      λ after. (
        checked_answers_first (Some buffer.1) after,
        λ s is.
            let drw = pending_drw s.target.pending transfer (is.target.now.pending ∙ known) in (
              port_completed checked_choice_plain s,
              inr (checked_choice_plain, checked_plain_legal, refl),
              record {
                target = succeeds_exactly w n u v after checked_choice_plain s.target transfer drw.0 buffer.1 known
                    drw.1 drw.2 tar.2 buffer.3 refl is.target;
                awaits = is.awaits;
              },
            ),
      ),
    )

-- each state in which it succeeded is one that follows from one in which it is pending
pub world_settles : (w : World) (n : ℕ) (v : WorldWords) → IsWorldSound w → IsWorldExact (world_succeeded w) v
    → (u : WorldWords) × IsWorldExact w u × WorldSteps PortCompletes n w u (world_succeeded w) v
world_settles w n v sound exact = settles w.pending w n v refl sound exact

-- the same where it was a bus error
pub world_failed_sound : (w : World) → IsWorldSound w → IsWorldSound (world_failed w)
world_failed_sound w sound = record { tar = tt; buffer = tt; last_returned = sound.last_returned }

forgotten : (drw : Drw) (at : ℕ) (m : Bus) (buffer : Option ℕ)
    → buffer_after_pending (Some drw) true at m buffer ≡ None
forgotten Reads at m buffer = refl
forgotten (Writes word) at m buffer = refl

fails_exactly : (w : World) (n : ℕ) (u v : WorldWords) (after : CheckedAnswers) (c : Choice) (x : Target) (drw : Drw)
    → x.pending ≡ Some drw → v.tar ≡ None → v.buffer ≡ None → u.last_returned ≡ v.last_returned
    → IsWorldTarget w n u (checked_answers_first None after) x
    → IsWorldTarget (world_failed w) n v after (port_completion c x)
fails_exactly w n u v after c x drw pending tar buffer last h =
    let at = unwrap_or x.tar c.address in
    let error : pending_fails x.pending at x.memory ≡ true = fails_as x at drw None after pending h.bus in
    record {
      now = world_now_fails w c x h.now error;
      debug = h.debug;
      system = h.system;
      tar = ap (λ f. tar_after_pending x.pending f x.increments x.tar) error
          ∙ ap (λ p. tar_after_pending p true x.increments x.tar) pending ∙ sym tar;
      buffer = λ free. ap (λ f. buffer_after_pending x.pending f at x.memory x.buffer) error
          ∙ ap (λ p. buffer_after_pending p true at x.memory x.buffer) pending
          ∙ forgotten drw at x.memory x.buffer ∙ sym buffer;
      last_returned = h.last_returned ∙ last;
      identification = h.identification;
      bus = bus_later x at drw None after pending h.bus;
    }

fails : (pending : Option Transfer) (w : World) (n : ℕ) (v : WorldWords) → w.pending ≡ pending
    → is_some pending ≡ true → IsWorldSound w → IsWorldExact (world_failed w) v
    → (u : WorldWords) × IsWorldExact w u × WorldSteps PortCompletes n w u (world_failed w) v
fails None w n v known pends sound exact = absurd (cc)
fails (Some transfer) w n v known pends sound exact =
    let some = world_some w sound in
    let u : WorldWords = record some.0 { last_returned = v.last_returned } in (
      u,
      record { tar = some.1.tar; buffer = some.1.buffer; last_returned = exact.last_returned },
      λ after. (
        checked_answers_first None after,
        λ s is.
            let drw = pending_drw s.target.pending transfer (is.target.now.pending ∙ known) in (
              port_completed checked_choice_plain s,
              inr (checked_choice_plain, checked_plain_legal, refl),
              record {
                target = fails_exactly w n u v after checked_choice_plain s.target drw.0 drw.1 exact.tar exact.buffer
                    refl is.target;
                awaits = is.awaits;
              },
            ),
      ),
    )

-- each state in which it was one is one that follows from one in which it is pending
pub world_fails : (w : World) (n : ℕ) (v : WorldWords) → is_some w.pending ≡ true → IsWorldSound w
    → IsWorldExact (world_failed w) v
    → (u : WorldWords) × IsWorldExact w u × WorldSteps PortCompletes n w u (world_failed w) v
world_fails w n v pends sound exact = fails w.pending w n v refl pends sound exact

-- A TRANSACTION AFTER COMPLETION
-- Each state that the second stands for is one to which the transaction leads, from a state of the first that a
-- completion leads to. The bus answers the same before and after it. No write is given up before it, and the target
-- answers OK where `okay` is true.
pub record WorldPasses (okay clean : Bool) (n : ℕ) (tx : Transaction) (w next : World) : Type 0 where
  pub sound : IsWorldSound w → IsWorldSound next
  pub each : IsWorldSound w → (v : WorldWords) → IsWorldExact next v
      → (u : WorldWords) × IsWorldExact w u × ((answers : CheckedAnswers) (a : Port) → IsWorldPort w n u answers a
      → (t : Port) × ((s : Port) → PortCompletes s a → WorldTransacts okay clean tx.result tx.request s t)
      × IsWorldPort next n v answers t)

-- nothing took effect before the transaction,
pub world_goes_now : (okay clean : Bool) (n : ℕ) (tx : Transaction) (w next : World)
    → WorldPasses okay clean n tx w next → WorldGoes (WorldTransacts okay clean tx.result tx.request) n w next
world_goes_now okay clean n tx w next h = record {
  sound = h.sound;
  each = λ sound v exact. let k = h.each sound v exact in
      (k.0, k.1, λ after. (after, λ s is. let t = k.2 after s is in (t.0, t.1 s (inl refl), t.2)));
}

-- the pending transfer succeeded,
pub world_goes_settled : (okay clean : Bool) (n : ℕ) (tx : Transaction) (w next : World)
    → WorldPasses okay clean n tx (world_succeeded w) next
    → WorldGoes (WorldTransacts okay clean tx.result tx.request) n w next
world_goes_settled okay clean n tx w next h = record {
  sound = λ sound. h.sound (world_succeeded_sound w sound);
  each = λ sound v exact. let k = h.each (world_succeeded_sound w sound) v exact in
      let j = world_settles w n k.0 sound k.1 in (
        j.0,
        j.1,
        λ after. let b = j.2 after in (
          b.0,
          λ s is. let a = b.1 s is in let t = k.2 after a.0 a.2 in
              (t.0, t.1 s a.1, t.2),
        ),
      );
}

-- or was a bus error
pub world_goes_failed : (okay clean : Bool) (n : ℕ) (tx : Transaction) (w next : World) → is_some w.pending ≡ true
    → WorldPasses okay clean n tx (world_failed w) next
    → WorldGoes (WorldTransacts okay clean tx.result tx.request) n w next
world_goes_failed okay clean n tx w next pends h = record {
  sound = λ sound. h.sound (world_failed_sound w sound);
  each = λ sound v exact. let k = h.each (world_failed_sound w sound) v exact in
      let j = world_fails w n k.0 pends sound k.1 in (
        j.0,
        j.1,
        λ after. let b = j.2 after in (
          b.0,
          λ s is. let a = b.1 s is in let t = k.2 after a.0 a.2 in
              (t.0, t.1 s a.1, t.2),
        ),
      );
}

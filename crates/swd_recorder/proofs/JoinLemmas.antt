-- The items of a call may come behind those of the calls before it. For the proofs of `Items`.
use Rattle.std.proofs.Common.{◌≡◌, ◌≢◌, ℕ, zero, suc, ◌<◌, ◌≤◌, ◌^◌, ◌%◌, Bool, true, false, List, [], ◌∷◌, ◌++◌}
use Rattle.std.proofs.Common.{Option, Some, None, ne_eqb, refl, sym, ap, ◌∙◌, subst, arith, lt-ltb, inl, inr}
use Rattle.std.specs.Prelude.{◌&&◌, nat_lt, nat_le, if◌then◌else◌}
use Rattle.swd_bits.specs.declared.ack.Ack.{Ack}
use Rattle.swd_bits.specs.declared.ack.Ack.TheVariants.{Ok as AckOk, Wait as AckWait, Fault as AckFault}
use Rattle.swd_bits.specs.declared.request.Request.{Request}
use Rattle.swd_bits.specs.declared.tx.TxEnd.{TxEnd}
use Rattle.swd_bits.specs.declared.tx.TxEnd.TheVariants.{NoAck}
use Rattle.swd_trace.specs.declared.item.Item.{Item}
use Rattle.swd_trace.specs.declared.item.Item.TheVariants.{Reset, Switch, Idle, Tx}
use Rattle.swd_port.specs.declared.cue.Cue.{Cue}
use Rattle.swd_port.specs.declared.cue.Cue.TheVariants.{Lead, Ask, Take as CueTake, Give as CueGive, Pass as CuePass}
use Rattle.swd_port.specs.declared.wire.Due.{Due}
use Rattle.swd_port.specs.declared.wire.Due.TheVariants.{Nothing, Take, Give, Pass, Lost}
use Rattle.swd_port.specs.Leading.{PortMayLead}
use Rattle.swd_port.specs.Steps.{IsPortSeen}
use Rattle.swd_recorder.specs.declared.in_hand.InHand.{InHand}
use Rattle.swd_recorder.specs.Calls.{IsRecordedRange, recorded_call_items}
use Rattle.swd_recorder.specs.Chains.{RecordedPlace, Clear, Low, High, Switched, Silent, recorded_place_of}
use Rattle.swd_recorder.specs.Chains.{recorded_may_reset, recorded_may_ask, recorded_may_lower, is_recorded_end}
use Rattle.swd_recorder.specs.Chains.{is_recorded_chain, recorded_lone_idle, RecordedMayJoin}
use Rattle.swd_recorder.specs.Items.{recorded_high_items, recorded_low_items, recorded_items_of}
use Rattle.swd_recorder.specs.Items.{recorded_moved, recorded_refused}
use Rattle.swd_recorder.specs.Kept.{RecorderKept}
use Rattle.swd_recorder.specs.Steps.{RecorderMayAdd, is_recorded_inside, is_recorded_place_due, recorded_due_count}
use Rattle.swd_recorder.specs.Steps.{recorded_in_hand_count}
use Rattle.swd_recorder.proofs.AckLemmas.{recorded_phase_moved}
use Rattle.swd_recorder.proofs.ChainLemmas.{recorder_both_true}

-- outside of a transaction the items of a call are those that are recorded
pub recorded_items_outside : (in_hand : Option InHand) (cue : Cue) (seen : ℕ) → is_recorded_inside in_hand cue ≡ false
    → recorded_call_items in_hand cue seen ≡ recorded_items_of in_hand cue seen
recorded_items_outside None cue seen e = refl
recorded_items_outside (Some asked) (Lead ones undriven switch zeros) seen e = absurd cc
recorded_items_outside (Some asked) (Ask q) seen e = refl
recorded_items_outside (Some asked) CueTake seen e = refl
recorded_items_outside (Some asked) (CueGive bits) seen e = refl
recorded_items_outside (Some asked) CuePass seen e = refl

-- ---- a line reset, and zeros

high_at : (n : ℕ) (switch : Bool) (more : List Item) → n ≢ 0
    → recorded_high_items n switch ++ more ≡ (Reset n ∷ (if switch then Switch ∷ Reset n ∷ [] else [])) ++ more
high_at n switch more h =
    ap (λ (none : Bool). (if none then [] else Reset n ∷ (if switch then Switch ∷ Reset n ∷ [] else [])) ++ more)
    (ne_eqb n 0 h)

low_at : (n : ℕ) → n ≢ 0 → recorded_low_items n ≡ Idle n ∷ []
low_at n h = ap (λ (none : Bool). if none then [] else Idle n ∷ []) (ne_eqb n 0 h)

le-leb : (m n : ℕ) → m ≤ n → nat_le m n ≡ true
le-leb m n h = grind arith

fits : (n : ℕ) → n < 2 ^ 32 → nat_lt n (2 ^ 64) ≡ true
fits n h = lt-ltb n (2 ^ 64) (omega (arith, h))

reset_follows : (place : RecordedPlace) (n : ℕ) → recorded_may_reset place ≡ true → 50 ≤ n → n < 2 ^ 32
    → (recorded_may_reset place && nat_le 50 n && nat_lt n (2 ^ 64)) ≡ true
reset_follows place n may many small =
    recorder_both_true (recorded_may_reset place && nat_le 50 n) (nat_lt n (2 ^ 64))
    (recorder_both_true (recorded_may_reset place) (nat_le 50 n) may (le-leb 50 n many)) (fits n small)

idle_follows : (n : ℕ) → 2 ≤ n → n < 2 ^ 32 → is_recorded_chain High (Idle n ∷ []) ≡ true
idle_follows n some small =
    recorder_both_true (nat_le 2 n && nat_lt n (2 ^ 64)) true
    (recorder_both_true (nat_le 2 n) (nat_lt n (2 ^ 64)) (le-leb 2 n some) (fits n small)) refl

reset_chain : (place : RecordedPlace) (ones zeros : ℕ) (switch : Bool) → recorded_may_reset place ≡ true → 50 ≤ ones
    → 2 ≤ zeros → ones < 2 ^ 32 → zeros < 2 ^ 32
    → is_recorded_chain place ((Reset ones ∷ (if switch then Switch ∷ Reset ones ∷ [] else [])) ++ Idle zeros ∷ [])
    ≡ true
reset_chain place ones zeros true may many some small low =
    recorder_both_true (recorded_may_reset place && nat_le 50 ones && nat_lt ones (2 ^ 64))
    (is_recorded_chain High (Switch ∷ Reset ones ∷ Idle zeros ∷ [])) (reset_follows place ones may many small)
    (recorder_both_true (recorded_may_reset Switched && nat_le 50 ones && nat_lt ones (2 ^ 64))
    (is_recorded_chain High (Idle zeros ∷ [])) (reset_follows Switched ones refl many small)
    (idle_follows zeros some low))
reset_chain place ones zeros false may many some small low =
    recorder_both_true (recorded_may_reset place && nat_le 50 ones && nat_lt ones (2 ^ 64))
    (is_recorded_chain High (Idle zeros ∷ [])) (reset_follows place ones may many small)
    (idle_follows zeros some low)

-- where a line reset may be
resets_at : (due : Due) (place : RecordedPlace) → recorded_due_count due ≡ 0 → is_recorded_place_due due place ≡ true
    → recorded_may_reset place ≡ true
resets_at Nothing Clear none e = refl
resets_at Nothing Low none e = refl
resets_at Nothing High none e = absurd cc
resets_at Nothing Switched none e = absurd cc
resets_at Nothing Silent none e = absurd cc
resets_at Lost Silent none e = refl
resets_at Lost Clear none e = absurd cc
resets_at Lost Low none e = absurd cc
resets_at Lost High none e = absurd cc
resets_at Lost Switched none e = absurd cc
resets_at Take place none e = absurd cc
resets_at Give place none e = absurd cc
resets_at Pass place none e = absurd cc

-- and zeros alone
lowers_at : (due : Due) (place : RecordedPlace) (n : ℕ) → (due ≢ Nothing → ⊥)
    → is_recorded_place_due due place ≡ true → recorded_may_lower place (suc n) ≡ true
lowers_at Nothing Clear n rests e = le-leb 1 (suc n) (omega arith)
lowers_at Nothing Low n rests e = refl
lowers_at Nothing High n rests e = absurd cc
lowers_at Nothing Switched n rests e = absurd cc
lowers_at Nothing Silent n rests e = absurd cc
lowers_at Take place n rests e = absurd (rests (λ f. cc))
lowers_at Give place n rests e = absurd (rests (λ f. cc))
lowers_at Pass place n rests e = absurd (rests (λ f. cc))
lowers_at Lost place n rests e = absurd (rests (λ f. cc))

abbrev MayJoin : RecordedPlace → List Item → Type 0
MayJoin place items = RecordedMayJoin place items (recorded_lone_idle items)

lead_joins : (due : Due) (place : RecordedPlace) (ones zeros : ℕ) (switch : Bool) → PortMayLead due ones switch zeros
    → recorded_due_count due ≡ 0 → ones < 2 ^ 32 → zeros < 2 ^ 32 → is_recorded_place_due due place ≡ true
    → MayJoin place (recorded_high_items ones switch ++ recorded_low_items zeros)
lead_joins due place zero zero switch may none small low e = refl
lead_joins due place zero (suc n) switch may none small low e =
    subst (MayJoin place) (sym (low_at (suc n) (λ z. omega (arith, z))))
    (lowers_at due place n (λ some. let many : 100 ≤ 0 = (may.inside some).0 in omega (arith, many)) e)
lead_joins due place (suc k) zeros switch may none small low e =
    let ones = suc k in
    let some : ones ≢ 0 = λ z. omega (arith, z) in
    let two : 2 ≤ zeros = may.low some in
    let many : 50 ≤ ones = elim may.high [ inl z ↦ absurd (some z) | inr h ↦ h ] in
    let all = (Reset ones ∷ (if switch then Switch ∷ Reset ones ∷ [] else [])) ++ Idle zeros ∷ [] in
    let is : recorded_high_items ones switch ++ recorded_low_items zeros ≡ all =
    ap (λ l. recorded_high_items ones switch ++ l) (low_at zeros (λ z. omega (arith, two, z)))
    ∙ high_at ones switch (Idle zeros ∷ []) some in
    subst (MayJoin place) (sym is)
    (subst (RecordedMayJoin place all) (sym (resets_are_not_alone ones switch (Idle zeros ∷ [])))
    (reset_chain place ones zeros switch (resets_at due place none e) many two small low))
  where
    resets_are_not_alone : (n : ℕ) (switch : Bool) (more : List Item)
        → recorded_lone_idle ((Reset n ∷ (if switch then Switch ∷ Reset n ∷ [] else [])) ++ more) ≡ None
    resets_are_not_alone n switch more = refl

-- ---- a transaction

may_ask : (due : Due) (place : RecordedPlace) (asked : InHand)
    → recorded_due_count due ≡ recorded_in_hand_count (Some asked)
    → is_recorded_place_due due place ≡ true → recorded_may_ask place ≡ true
may_ask Take place asked one e = e
may_ask Give place asked one e = e
may_ask Pass place asked one e = e
may_ask Nothing place asked one e = absurd cc
may_ask Lost place asked one e = absurd cc

tx_joins : (place : RecordedPlace) (q : Request) (end : TxEnd) → recorded_may_ask place ≡ true
    → is_recorded_end end ≡ true → MayJoin place (Tx (record { request = q; result = end }) ∷ [])
tx_joins place q end may is =
    recorder_both_true (recorded_may_ask place && is_recorded_end end) true
    (recorder_both_true (recorded_may_ask place) (is_recorded_end end) may is) refl

moved_end : (bits : ℕ) → bits < 2 ^ 33 → is_recorded_end (recorded_moved bits) ≡ true
moved_end bits h =
    subst (λ end. is_recorded_end end ≡ true) (recorded_phase_moved bits h)
    (lt-ltb (bits % 2 ^ 32) (2 ^ 32) (omega arith))

refused_end : (a : Ack) → is_recorded_end (recorded_refused a) ≡ true
refused_end AckOk = refl
refused_end AckWait = refl
refused_end AckFault = refl

asked_joins : (place : RecordedPlace) (q : Request) (seen : ℕ) → recorded_may_ask place ≡ true → seen < 8
    → MayJoin place (recorded_items_of None (Ask q) seen)
asked_joins place q zero may h = tx_joins place q (NoAck 0) may refl
asked_joins place q (suc zero) may h = refl
asked_joins place q (suc (suc zero)) may h = refl
asked_joins place q (suc (suc (suc zero))) may h = tx_joins place q (NoAck 3) may refl
asked_joins place q (suc (suc (suc (suc zero)))) may h = refl
asked_joins place q (suc (suc (suc (suc (suc zero))))) may h = tx_joins place q (NoAck 5) may refl
asked_joins place q (suc (suc (suc (suc (suc (suc zero)))))) may h = tx_joins place q (NoAck 6) may refl
asked_joins place q (suc (suc (suc (suc (suc (suc (suc zero))))))) may h = tx_joins place q (NoAck 7) may refl
asked_joins place q (suc (suc (suc (suc (suc (suc (suc (suc n)))))))) may h = absurd (omega (arith, h))

-- ---- any call

-- the items of a call outside of a transaction may come behind those that are kept
pub recorded_call_joins : (in_hand : Option InHand) (cue : Cue) (seen : ℕ) (kept : RecorderKept)
    → RecorderMayAdd in_hand cue kept → IsRecordedRange cue → IsPortSeen cue seen
    → is_recorded_inside in_hand cue ≡ false → kept.is_cut ≡ false
    → MayJoin (recorded_place_of kept.items) (recorded_items_of in_hand cue seen)
recorded_call_joins None (Lead ones undriven switch zeros) seen kept (due, may, none, placed) range is inside uncut =
    lead_joins due (recorded_place_of kept.items) ones zeros switch may.0 none range.0 range.1 (placed uncut)
recorded_call_joins (Some asked) (Lead ones undriven switch zeros) seen kept may range is inside uncut = absurd cc
recorded_call_joins in_hand (Ask q) seen kept (due, may, none, placed) range is inside uncut =
    asked_joins (recorded_place_of kept.items) q seen
    (subst (λ due. is_recorded_place_due due (recorded_place_of kept.items) ≡ true) may (placed uncut)) is
recorded_call_joins None CueTake seen kept may range is inside uncut = refl
recorded_call_joins None (CueGive bits) seen kept may range is inside uncut = refl
recorded_call_joins None CuePass seen kept may range is inside uncut = refl
recorded_call_joins (Some asked) CueTake seen kept (due, may, one, placed) range is inside uncut =
    tx_joins (recorded_place_of kept.items) asked.request (recorded_moved seen)
    (may_ask due (recorded_place_of kept.items) asked one (placed uncut)) (moved_end seen is)
recorded_call_joins (Some asked) (CueGive bits) seen kept (due, may, one, placed) range is inside uncut =
    tx_joins (recorded_place_of kept.items) asked.request (recorded_moved bits)
    (may_ask due (recorded_place_of kept.items) asked one (placed uncut)) (moved_end bits may.1)
recorded_call_joins (Some asked) CuePass seen kept (due, may, one, placed) range is inside uncut =
    tx_joins (recorded_place_of kept.items) asked.request (recorded_refused asked.ack)
    (may_ask due (recorded_place_of kept.items) asked one (placed uncut)) (refused_end asked.ack)

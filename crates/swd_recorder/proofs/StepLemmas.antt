-- The items keep step with the wire that their calls are made of: where they end, and how many transactions there are.
-- For the proofs of `Recording::record` and of `Recorder`.
use Rattle.std.proofs.Common.{◌≡◌, ◌≢◌, ℕ, zero, suc, ◌+◌, ◌≤◌, Bool, true, false, List, [], ◌∷◌, ◌++◌, Option, Some}
use Rattle.std.proofs.Common.{None, refl, sym, ap, ◌∙◌, subst, arith}
use Rattle.std.specs.Prelude.{◌||◌, ◌==◌, if◌then◌else◌, ◌↔◌}
use Rattle.swd_bits.specs.Bits.{bit}
use Rattle.swd_bits.specs.declared.ack.Ack.{Ack}
use Rattle.swd_bits.specs.declared.ack.Ack.TheVariants.{Ok as AckOk, Wait as AckWait, Fault as AckFault}
use Rattle.swd_bits.specs.declared.request.Request.{Request}
use Rattle.swd_bits.specs.declared.tx.TxEnd.{TxEnd}
use Rattle.swd_bits.specs.declared.tx.TxEnd.TheVariants.{Moved, Wait, Fault, NoAck}
use Rattle.swd_trace.specs.declared.item.Item.{Item}
use Rattle.swd_trace.specs.declared.item.Item.TheVariants.{Reset, Switch, Idle, Tx, Junk, Cut}
use Rattle.swd_port.specs.declared.call.Call.{Call}
use Rattle.swd_port.specs.declared.cue.Cue.{Cue}
use Rattle.swd_port.specs.declared.cue.Cue.TheVariants.{Lead, Ask, Take as CueTake, Give as CueGive, Pass as CuePass}
use Rattle.swd_port.specs.declared.wire.Due.{Due}
use Rattle.swd_port.specs.declared.wire.Due.TheVariants.{Nothing, Take, Give, Pass, Lost}
use Rattle.swd_port.specs.Leading.{PortMayLead}
use Rattle.swd_port.specs.Steps.{PortMayStep, IsPortStep, is_port_ask, port_due_once}
use Rattle.swd_port.specs.Stories.{port_due_by}
use Rattle.swd_port.specs.Port.{Port}
use Rattle.swd_port.specs.Laws.Calls.{port_with_asked}
use Rattle.swd_port.proofs.CallLaws.{port_counted_apart}
use Rattle.swd_recorder.specs.declared.in_hand.InHand.{InHand}
use Rattle.swd_recorder.specs.Chains.{RecordedPlace, Clear, Low, High, Switched, Silent, recorded_place_of_end}
use Rattle.swd_recorder.specs.Chains.{recorded_place_after, recorded_place_behind, recorded_place_of}
use Rattle.swd_recorder.specs.Chains.{recorded_may_follow, is_recorded_chain}
use Rattle.swd_recorder.specs.Items.{recorded_with_item, recorded_with_items, recorded_high_items, recorded_low_items}
use Rattle.swd_recorder.specs.Items.{recorded_answered, recorded_unanswered, recorded_items_of, recorded_moved}
use Rattle.swd_recorder.specs.Items.{recorded_refused, recorded_in_hand_once, recorded_in_hand_by}
use Rattle.swd_recorder.specs.Kept.{RecorderKept, RecorderAdds}
use Rattle.swd_recorder.specs.Steps.{is_recorded_place_due, recorded_transactions, recorded_due_count}
use Rattle.swd_recorder.specs.Steps.{recorded_in_hand_count, is_recorded_inside, IsRecordedPlaced, recorder_ask_count}
use Rattle.swd_recorder.specs.Steps.{RecordedEndsUnacknowledged}
use Rattle.swd_recorder.proofs.ChainLemmas.{recorder_both_tests, recorded_place_with_item, recorded_count_appended}

-- ---- a request

abbrev due_tests : Bool → Bool → Bool → Bool → Due
due_tests read one two four = if one then (if read then Take else Give) else if two || four then Pass else Lost

abbrev ack_tests : Bool → Bool → Bool → Option Ack
ack_tests one two four = if one then Some AckOk else if two then Some AckWait else if four then Some AckFault else None

held_tests : (q : Request) (read one two four : Bool)
    → recorded_due_count (due_tests read one two four)
    ≡ recorded_in_hand_count (recorded_answered q (ack_tests one two four))
held_tests q true true two four = refl
held_tests q false true two four = refl
held_tests q read false true four = refl
held_tests q read false false true = refl
held_tests q read false false false = refl

-- a transaction is in hand where the rest of one is due
pub recorded_in_hand_when_due : (calls : List Call)
    → recorded_due_count (port_due_by calls) ≡ recorded_in_hand_count (recorded_in_hand_by calls)
recorded_in_hand_when_due [] = refl
recorded_in_hand_when_due (call ∷ calls) = after call.cue call.seen
  where
    after : (cue : Cue) (seen : ℕ) → recorded_due_count (port_due_once cue seen)
        ≡ recorded_in_hand_count (recorded_in_hand_once cue seen)
    after (Lead ones undriven switch zeros) seen = refl
    after (Ask q) seen = held_tests q q.read (seen == 1) (seen == 2) (seen == 4)
    after CueTake seen = refl
    after (CueGive bits) seen = refl
    after CuePass seen = refl

place_tests : (q : Request) (seen : ℕ) (items : List Item) (read one two four : Bool)
    → is_recorded_place_due Nothing (recorded_place_of items) ≡ true →
    is_recorded_place_due (due_tests read one two four)
    (recorded_place_of (recorded_with_items items (recorded_unanswered q seen (ack_tests one two four))))
    ≡ true
place_tests q seen items true true two four e = e
place_tests q seen items false true two four e = e
place_tests q seen items read false true four e = e
place_tests q seen items read false false true e = e
place_tests q seen items read false false false e = ap (is_recorded_place_due Lost)
    (recorded_place_with_item Clear items (Tx (record { request = q; result = NoAck seen })))

count_tests : (q : Request) (seen : ℕ) (read one two four : Bool)
    → recorded_transactions (recorded_unanswered q seen (ack_tests one two four))
    + recorded_due_count (due_tests read one two four) ≡ 1
count_tests q seen true true two four = refl
count_tests q seen false true two four = refl
count_tests q seen read false true four = refl
count_tests q seen read false false true = refl
count_tests q seen read false false false = refl

-- ---- a lead

some_ones : (due : Due) (ones lows : ℕ) (switches : Bool) → PortMayLead due ones switches lows → due ≢ Nothing
    → ones ≢ 0
some_ones due ones lows switches m h z = let (many, none) = m.inside h in omega (arith, many, z)

at_rest : (due : Due) (place : RecordedPlace) (switches : Bool) → PortMayLead due 0 switches 0
    → is_recorded_place_due due place ≡ true → is_recorded_place_due Nothing place ≡ true
at_rest Nothing place switches m e = e
at_rest due place switches m e = absurd (some_ones due 0 0 switches m (λ f. cc) refl)

none_in_tests : (no_ones switches no_lows : Bool) (n m : ℕ) →
    recorded_transactions ((if no_ones then [] else Reset n ∷ (if switches then Switch ∷ Reset n ∷ [] else []))
    ++ (if no_lows then [] else Idle m ∷ [])) ≡ 0
none_in_tests true switches true n m = refl
none_in_tests true switches false n m = refl
none_in_tests false true true n m = refl
none_in_tests false true false n m = refl
none_in_tests false false true n m = refl
none_in_tests false false false n m = refl

-- zeros come last
placed_last : (items more : List Item) (item : Item)
    → recorded_place_of (recorded_with_items items (more ++ item ∷ [])) ≡ recorded_place_after item
placed_last items [] item = recorded_place_with_item Clear items item
placed_last items (first ∷ more) item = placed_last (recorded_with_item items first) more item

not_zero : (n : ℕ) → n ≢ 0 → (n == 0) ≡ false
not_zero zero h = absurd (h refl)
not_zero (suc n) h = grind arith

place_lead : (items : List Item) (ones lows : ℕ) (switches : Bool) → lows ≢ 0
    → recorded_place_of (recorded_with_items items (recorded_high_items ones switches ++ recorded_low_items lows)) ≡ Low
place_lead items ones lows switches h =
    ap (λ t. recorded_place_of (recorded_with_items items
    (recorded_high_items ones switches ++ (if t then [] else Idle lows ∷ []))))
    (not_zero lows h) ∙ placed_last items (recorded_high_items ones switches) (Idle lows)

lead_at : (due : Due) (items : List Item) (ones lows : ℕ) (switches : Bool) → PortMayLead due ones switches lows
    → is_recorded_place_due due (recorded_place_of items) ≡ true → is_recorded_place_due Nothing (recorded_place_of
    (recorded_with_items items (recorded_high_items ones switches ++ recorded_low_items lows))) ≡ true
lead_at due items ones (suc n) switches m e = let some : suc n ≢ 0 = λ z. omega (arith, z) in
    ap (is_recorded_place_due Nothing)
    (place_lead items ones (suc n) switches some)
lead_at due items (suc k) zero switches m e =
    let two : 2 ≤ 0 = m.low (λ z. omega (arith, z)) in absurd (omega (arith, two))
lead_at due items zero zero switches m e = at_rest due (recorded_place_of items) switches m e

-- ---- any call

-- a transaction is added for each request, once it is whole
items_counted : (due : Due) (in_hand : Option InHand) (cue : Cue) (seen : ℕ) → PortMayStep due cue
    → recorded_due_count due ≡ recorded_in_hand_count in_hand → is_recorded_inside in_hand cue ≡ false →
    recorded_transactions (recorded_items_of in_hand cue seen) + recorded_due_count (port_due_once cue seen)
    ≡ recorded_due_count due + bit (is_port_ask cue)
items_counted due None (Lead ones undriven switch zeros) seen m h i =
    let none = none_in_tests (ones == 0) switch (zeros == 0) ones zeros in omega (arith, none, h)
items_counted due (Some asked) (Lead ones undriven switch zeros) seen m h i = absurd cc
items_counted due in_hand (Ask q) seen m h i =
    let one = count_tests q seen q.read (seen == 1) (seen == 2) (seen == 4) in
    let none : recorded_due_count due ≡ 0 = ap recorded_due_count m in
    one ∙ omega (arith, none)
items_counted due None CueTake seen m h i = omega (arith, h)
items_counted due (Some asked) CueTake seen m h i = omega (arith, h)
items_counted due None (CueGive bits) seen m h i = omega (arith, h)
items_counted due (Some asked) (CueGive bits) seen m h i = omega (arith, h)
items_counted due None CuePass seen m h i = omega (arith, h)
items_counted due (Some asked) CuePass seen m h i = omega (arith, h)

refused_clear : (a : Ack) → recorded_place_of_end (recorded_refused a) ≡ Clear
refused_clear AckOk = refl
refused_clear AckWait = refl
refused_clear AckFault = refl

-- where it stands then
items_placed : (due : Due) (in_hand : Option InHand) (cue : Cue) (seen : ℕ) (items : List Item) → PortMayStep due cue
    → recorded_due_count due ≡ recorded_in_hand_count in_hand → is_recorded_inside in_hand cue ≡ false
    → is_recorded_place_due due (recorded_place_of items) ≡ true
    → is_recorded_place_due (port_due_once cue seen)
    (recorded_place_of (recorded_with_items items (recorded_items_of in_hand cue seen))) ≡ true
items_placed due in_hand (Lead ones undriven switch zeros) seen items m h i e =
    lead_at due items ones zeros switch m.0 e
items_placed due in_hand (Ask q) seen items m h i e =
    place_tests q seen items q.read (seen == 1) (seen == 2) (seen == 4)
    (subst (λ d. is_recorded_place_due d (recorded_place_of items) ≡ true) m e)
items_placed due None CueTake seen items m h i e = let one = ap recorded_due_count m in absurd (omega (arith, one, h))
items_placed due None (CueGive bits) seen items m h i e = let one = ap recorded_due_count m.0 in
    absurd (omega (arith, one, h))
items_placed due None CuePass seen items m h i e = let one = ap recorded_due_count m in absurd (omega (arith, one, h))
items_placed due (Some asked) CueTake seen items m h i e = ap (is_recorded_place_due Nothing)
    (recorded_place_with_item Clear items (Tx (record { request = asked.request; result = recorded_moved seen })))
items_placed due (Some asked) (CueGive bits) seen items m h i e = ap (is_recorded_place_due Nothing)
    (recorded_place_with_item Clear items (Tx (record { request = asked.request; result = recorded_moved bits })))
items_placed due (Some asked) CuePass seen items m h i e = ap (is_recorded_place_due Nothing)
    (recorded_place_with_item Clear items (Tx (record { request = asked.request; result = recorded_refused asked.ack }))
    ∙ refused_clear asked.ack)

-- nothing is cut off inside a transaction where the recording goes on
outside : (inside cut : Bool) → (inside ≡ true → cut ≡ true) → cut ≡ false → inside ≡ false
outside true cut h e = absurd (let f = h refl in cc)
outside false cut h e = refl

-- the items end as they do where this is due, once a call has added its own
pub recorded_step_placed : (due : Due) (in_hand : Option InHand) (cue : Cue) (seen : ℕ) (old new : RecorderKept)
    → PortMayStep due cue
    → recorded_due_count due ≡ recorded_in_hand_count in_hand
    → RecorderAdds (recorded_items_of in_hand cue seen) old new
    → (is_recorded_inside in_hand cue ≡ true → new.is_cut ≡ true) → IsRecordedPlaced due old
    → IsRecordedPlaced (port_due_once cue seen) new
recorded_step_placed due in_hand cue seen old new m h adds inside placed uncut =
    let (o, items) = adds.whole uncut in
    ap (λ l. is_recorded_place_due (port_due_once cue seen) (recorded_place_of l)) items
    ∙ items_placed due in_hand cue seen old.items m h (outside (is_recorded_inside in_hand cue) new.is_cut inside uncut)
    (placed o)

-- a transaction for each request, but one that isn't whole yet
pub recorded_step_counted : (due : Due) (in_hand : Option InHand) (cue : Cue) (seen : ℕ) (old new : RecorderKept)
    (n : ℕ)
    → PortMayStep due cue → recorded_due_count due ≡ recorded_in_hand_count in_hand
    → RecorderAdds (recorded_items_of in_hand cue seen) old new
    → (is_recorded_inside in_hand cue ≡ true → new.is_cut ≡ true)
    → (old.is_cut ≡ false → recorded_transactions old.items + recorded_due_count due ≡ n) →
    new.is_cut ≡ false → recorded_transactions new.items + recorded_due_count (port_due_once cue seen) ≡ n
    + bit (is_port_ask cue)
recorded_step_counted due in_hand cue seen old new n m h adds inside counted uncut =
    let (o, items) = adds.whole uncut in
    let before = counted o in
    let now = ap recorded_transactions items ∙ recorded_count_appended old.items (recorded_items_of in_hand cue seen) in
    let one = items_counted due in_hand cue seen m h (outside (is_recorded_inside in_hand cue) new.is_cut inside uncut)
    in
    omega (arith, before, now, one)

-- no more transactions than requests, cut off or not
pub recorded_step_at_most : (due : Due) (cue : Cue) (more : List Item) (old new : RecorderKept) (n : ℕ)
    → RecorderAdds more old new
    → recorded_transactions old.items ≤ n → (new.is_cut ≡ false
    → recorded_transactions new.items + recorded_due_count due ≡ n + bit (is_port_ask cue)) →
    recorded_transactions new.items ≤ n + bit (is_port_ask cue)
recorded_step_at_most due cue more old new n adds most counted = by new.is_cut refl
  where
    by : (cut : Bool) → new.is_cut ≡ cut → recorded_transactions new.items ≤ n + bit (is_port_ask cue)
    by false e = let all = counted e in omega (arith, all)
    by true e = let same = ap recorded_transactions (adds.cut e).0 in omega (arith, most, same)

-- a step of the wire is one with a number of requests of the recorder's own
pub recorder_step_of_wire : (cue : Cue) (seen : ℕ) (calls now : List Call) (s t : Port)
    → now ≡ record { cue = cue; seen = seen } ∷ calls → IsPortStep cue seen s t →
    IsPortStep cue seen (port_with_asked (recorder_ask_count calls) s) (port_with_asked (recorder_ask_count now) t)
recorder_step_of_wire cue seen calls now s t e h =
    subst (λ l. IsPortStep cue seen (port_with_asked (recorder_ask_count calls) s)
    (port_with_asked (recorder_ask_count l) t)) (sym e) (port_counted_apart (recorder_ask_count calls) cue seen s t h)

-- ---- the last item

silent_end : (q : Request) (end : TxEnd) → recorded_place_of_end end ≡ Silent
    → RecordedEndsUnacknowledged (Tx (record { request = q; result = end }) ∷ [])
silent_end q (NoAck seen) e = ([], q, seen, refl)
silent_end q (Moved word ok) e = absurd cc
silent_end q Wait e = absurd cc
silent_end q Fault e = absurd cc

silent_last : (place : RecordedPlace) (item : Item) (items : List Item) → is_recorded_chain place (item ∷ items) ≡ true
    → recorded_place_behind place (item ∷ items) ≡ Silent → RecordedEndsUnacknowledged (item ∷ items)
silent_last place (Tx tx) [] c e = silent_end tx.request tx.result e
silent_last place (Reset n) [] c e = absurd cc
silent_last place Switch [] c e = absurd cc
silent_last place (Idle n) [] c e = absurd cc
silent_last place (Junk b) [] c e = absurd cc
silent_last place (Cut bits) [] c e = absurd cc
silent_last place item (second ∷ items) c e =
    let (here, rest) = recorder_both_tests (recorded_may_follow place item)
    (is_recorded_chain (recorded_place_after item) (second ∷ items)) c in
    let (front, q, seen, is) = silent_last (recorded_place_after item) second items rest e in
    (item ∷ front, q, seen, ap (λ l. item ∷ l) is)

ends_silent : (place : RecordedPlace) (front : List Item) (q : Request) (seen : ℕ)
    → recorded_place_behind place (front ++ Tx (record { request = q; result = NoAck seen }) ∷ []) ≡ Silent
ends_silent place [] q seen = refl
ends_silent place (item ∷ front) q seen = ends_silent (recorded_place_after item) front q seen

silent_due : (due : Due) (place : RecordedPlace) → is_recorded_place_due due place ≡ true → place ≡ Silent → due ≡ Lost
silent_due Lost place e f = refl
silent_due due place e f = let none : is_recorded_place_due due place ≡ false = ap (is_recorded_place_due due) f in
    absurd cc

lost_silent : (place : RecordedPlace) → is_recorded_place_due Lost place ≡ true → place ≡ Silent
lost_silent Silent e = refl
lost_silent Clear e = absurd cc
lost_silent Low e = absurd cc
lost_silent High e = absurd cc
lost_silent Switched e = absurd cc

unacknowledged : (items : List Item) → is_recorded_chain Clear items ≡ true → recorded_place_of items ≡ Silent
    → RecordedEndsUnacknowledged items
unacknowledged [] c e = absurd cc
unacknowledged (item ∷ items) c e = silent_last Clear item items c e

-- the wire is lost exactly where the last item is a transaction without an acknowledgement
pub recorded_ends_when_lost : (due : Due) (items : List Item) → is_recorded_chain Clear items ≡ true
    → is_recorded_place_due due (recorded_place_of items) ≡ true → RecordedEndsUnacknowledged items ↔ (due ≡ Lost)
recorded_ends_when_lost due items c e = (
  λ (front, q, seen, is). silent_due due (recorded_place_of items) e
      (ap recorded_place_of is ∙ ends_silent Clear front q seen),
  λ d. unacknowledged items c (lost_silent (recorded_place_of items)
      (subst (λ x. is_recorded_place_due x (recorded_place_of items) ≡ true) d e)),
)

-- Lists of items as a host sends them: they are read as themselves, and one more leaves them such a list. For the
-- proofs of `Items`, of `Recorder::items` and of what calls add.
use Rattle.std.proofs.Common.{◌≡◌, ◌≢◌, ℕ, zero, suc, ◌+◌, ◌-◌, ◌^◌, ◌<◌, ◌≤◌, Bool, true, false, List, [], ◌∷◌, ◌++◌}
use Rattle.std.proofs.Common.{length, replicate, nat_le, Some, refl, sym, ap, ◌∙◌, arith}
use Rattle.std.specs.Prelude.{◌&&◌, nat_lt, slice_get, slice_set}
use Rattle.std.proofs.lemmas.Bool.{leb-true, ltb-true, le-leb, lt-ltb}
use Rattle.std.proofs.lemmas.List.{drop_at, append_assoc, append-nil}
use Rattle.swd_bits.specs.Transactions.{tx_spelling_bits, IsTxEnd}
use Rattle.swd_bits.specs.declared.tx.TxEnd.{TxEnd}
use Rattle.swd_bits.specs.declared.tx.TxEnd.TheVariants.{Moved, Wait, Fault, NoAck}
use Rattle.swd_bits.specs.declared.tx.Tx.{Tx as Transaction}
use Rattle.swd_trace.specs.declared.item.Item.{Item}
use Rattle.swd_trace.specs.declared.item.Item.TheVariants.{Reset, Switch, Idle, Tx, Junk, Cut}
use Rattle.swd_trace.specs.declared.mode.Mode.{Mode}
use Rattle.swd_trace.specs.declared.mode.Mode.TheVariants.{Synced, AfterReset, AfterSwitch, Lost}
use Rattle.swd_trace.specs.Reading.{trace_begins_with, switch_item, decoder_mode_after_tx, reading}
use Rattle.swd_trace.specs.Texts.{bits_of_items}
use Rattle.swd_trace.specs.Listed.{AreLegalItems}
use Rattle.swd_trace.proofs.SpellingLemmas.{trace_stand_of_spelling, trace_tx_len, trace_spelling_length}
use Rattle.swd_trace.proofs.ReadingLemmas.{reading_no_item, switch_item_after_reset, no_switch_item_synced}
use Rattle.swd_trace.proofs.ReadingLemmas.{tx_item_first}
use Rattle.swd_trace.proofs.RereadLemmas.{StartsTraceWith, reset_item_any_mode, idle_item_any_end}
use Rattle.swd_recorder.specs.Chains.{RecordedPlace, Clear, Low, High, Switched, Silent, recorded_place_of_end}
use Rattle.swd_recorder.specs.Chains.{recorded_place_after, recorded_place_behind, recorded_place_of}
use Rattle.swd_recorder.specs.Chains.{recorded_may_reset, recorded_may_idle, recorded_may_ask, recorded_may_lower}
use Rattle.swd_recorder.specs.Chains.{is_recorded_no_ack, is_recorded_end, recorded_may_follow, is_recorded_chain}
use Rattle.swd_recorder.specs.Items.{recorded_joined, recorded_with_item, recorded_with_items, recorded_idle_in}
use Rattle.swd_recorder.specs.Items.{recorded_idle_at_end}
use Rattle.swd_recorder.specs.Steps.{recorded_transactions}

-- both of two tests
pub recorder_both_tests : (a b : Bool) → (a && b) ≡ true → (a ≡ true) × (b ≡ true)
recorder_both_tests true true e = (refl, refl)
recorder_both_tests true false e = absurd cc
recorder_both_tests false b e = absurd cc

-- and the other way round
pub recorder_both_true : (a b : Bool) → a ≡ true → b ≡ true → (a && b) ≡ true
recorder_both_true true true e f = refl
recorder_both_true true false e f = absurd cc
recorder_both_true false b e f = absurd cc

-- ---- a chain is read as itself

abbrev pub recorded_place_mode : RecordedPlace → Mode
recorded_place_mode Clear = Synced
recorded_place_mode Low = Synced
recorded_place_mode High = AfterReset
recorded_place_mode Switched = AfterSwitch
recorded_place_mode Silent = Lost

-- the first bit behind a line reset is a zero, and behind idle cycles a one
low_first : (items : List Item) → is_recorded_chain High items ≡ true → StartsTraceWith false (bits_of_items items)
low_first [] e = tt
low_first (Reset n ∷ items) e = absurd cc
low_first (Switch ∷ items) e = refl
low_first (Idle zero ∷ items) e = absurd cc
low_first (Idle (suc n) ∷ items) e = refl
low_first (Tx tx ∷ items) e = absurd cc
low_first (Junk b ∷ items) e = absurd cc
low_first (Cut bits ∷ items) e = absurd cc

high_first : (items : List Item) → is_recorded_chain Low items ≡ true → StartsTraceWith true (bits_of_items items)
high_first [] e = tt
high_first (Reset zero ∷ items) e = absurd cc
high_first (Reset (suc n) ∷ items) e = refl
high_first (Switch ∷ items) e = absurd cc
high_first (Idle n ∷ items) e = absurd cc
high_first (Tx tx ∷ items) e = refl
high_first (Junk b ∷ items) e = absurd cc
high_first (Cut bits ∷ items) e = absurd cc

none_is : (seen : ℕ) → is_recorded_no_ack seen ≡ true → IsTxEnd (NoAck seen)
none_is seen e = grind arith

end_is : (end : TxEnd) → is_recorded_end end ≡ true → IsTxEnd end
end_is (Moved word ok) e = ltb-true word (2 ^ 32) e
end_is Wait e = tt
end_is Fault e = tt
end_is (NoAck seen) e = none_is seen e

mode_behind : (end : TxEnd) → decoder_mode_after_tx end ≡ recorded_place_mode (recorded_place_of_end end)
mode_behind (Moved word ok) = refl
mode_behind Wait = refl
mode_behind Fault = refl
mode_behind (NoAck seen) = refl

some_bits : (end : TxEnd) → 0 < trace_tx_len end
some_bits (Moved word ok) = omega arith
some_bits Wait = omega arith
some_bits Fault = omega arith
some_bits (NoAck seen) = omega arith

tx_read : (tx : Transaction) (tail : List Bool) → IsTxEnd tx.result
    → reading Synced (tx_spelling_bits tx true true ++ tail) ≡ Tx tx
    ∷ reading (recorded_place_mode (recorded_place_of_end tx.result)) tail
tx_read tx tail h =
    tx_item_first (tx_spelling_bits tx true true ++ tail) tx (trace_tx_len tx.result)
    (trace_stand_of_spelling tx true true tail h) (some_bits tx.result)
    ∙ ap (λ x. Tx tx ∷ reading (decoder_mode_after_tx tx.result) x)
    (drop_at (tx_spelling_bits tx true true) tail (trace_tx_len tx.result) (trace_spelling_length tx true true))
    ∙ ap (λ m. Tx tx ∷ reading m tail) (mode_behind tx.result)

idle_after_reset : (n : ℕ) (tail : List Bool) → 2 ≤ n
    → trace_begins_with switch_item (replicate n false ++ tail) ≡ false
idle_after_reset zero tail h = absurd (omega arith)
idle_after_reset (suc zero) tail h = absurd (omega arith)
idle_after_reset (suc (suc n)) tail h = refl

-- each item of such a list is read again from its own bits
pub recorded_chain_reads_back : (place : RecordedPlace) (items : List Item) → is_recorded_chain place items ≡ true
    → reading (recorded_place_mode place) (bits_of_items items) ≡ items
recorded_chain_reads_back place [] e = reading_no_item (recorded_place_mode place)
recorded_chain_reads_back place (Reset n ∷ items) e =
    let (here, rest) = recorder_both_tests (recorded_may_follow place (Reset n)) (is_recorded_chain High items) e in
    let (a, fits) = recorder_both_tests (recorded_may_reset place && nat_le 50 n) (nat_lt n (2 ^ 64)) here in
    let (may, fifty) = recorder_both_tests (recorded_may_reset place) (nat_le 50 n) a in
    reset_item_any_mode (recorded_place_mode place) n (bits_of_items items) (leb-true 50 n fifty) (low_first items rest)
    ∙ ap (λ x. Reset n ∷ x) (recorded_chain_reads_back High items rest)
recorded_chain_reads_back High (Switch ∷ items) e = switch_item_after_reset (bits_of_items items)
    ∙ ap (λ x. Switch ∷ x) (recorded_chain_reads_back Switched items e)
recorded_chain_reads_back Clear (Switch ∷ items) e = absurd cc
recorded_chain_reads_back Low (Switch ∷ items) e = absurd cc
recorded_chain_reads_back Switched (Switch ∷ items) e = absurd cc
recorded_chain_reads_back Silent (Switch ∷ items) e = absurd cc
recorded_chain_reads_back Clear (Idle n ∷ items) e =
    let (here, rest) = recorder_both_tests (recorded_may_follow Clear (Idle n)) (is_recorded_chain Low items) e in
    let (some, fits) = recorder_both_tests (nat_le 1 n) (nat_lt n (2 ^ 64)) here in
    idle_item_any_end n (bits_of_items items) (leb-true 1 n some) (high_first items rest)
    ∙ ap (λ x. Idle n ∷ x) (recorded_chain_reads_back Low items rest)
recorded_chain_reads_back High (Idle n ∷ items) e =
    let (here, rest) = recorder_both_tests (recorded_may_follow High (Idle n)) (is_recorded_chain Low items) e in
    let (some, fits) = recorder_both_tests (nat_le 2 n) (nat_lt n (2 ^ 64)) here in
    let two : 2 ≤ n = leb-true 2 n some in
    no_switch_item_synced (replicate n false ++ bits_of_items items) (idle_after_reset n (bits_of_items items) two)
    ∙ idle_item_any_end n (bits_of_items items) (omega (arith, two)) (high_first items rest)
    ∙ ap (λ x. Idle n ∷ x) (recorded_chain_reads_back Low items rest)
recorded_chain_reads_back Low (Idle n ∷ items) e = absurd cc
recorded_chain_reads_back Switched (Idle n ∷ items) e = absurd cc
recorded_chain_reads_back Silent (Idle n ∷ items) e = absurd cc
recorded_chain_reads_back Clear (Tx tx ∷ items) e =
    let (here, rest) = recorder_both_tests (recorded_may_follow Clear (Tx tx))
    (is_recorded_chain (recorded_place_of_end tx.result) items) e in
    tx_read tx (bits_of_items items) (end_is tx.result here)
    ∙ ap (λ x. Tx tx ∷ x) (recorded_chain_reads_back (recorded_place_of_end tx.result) items rest)
recorded_chain_reads_back Low (Tx tx ∷ items) e =
    let (here, rest) = recorder_both_tests (recorded_may_follow Low (Tx tx))
    (is_recorded_chain (recorded_place_of_end tx.result) items) e in
    tx_read tx (bits_of_items items) (end_is tx.result here)
    ∙ ap (λ x. Tx tx ∷ x) (recorded_chain_reads_back (recorded_place_of_end tx.result) items rest)
recorded_chain_reads_back High (Tx tx ∷ items) e = absurd cc
recorded_chain_reads_back Switched (Tx tx ∷ items) e = absurd cc
recorded_chain_reads_back Silent (Tx tx ∷ items) e = absurd cc
recorded_chain_reads_back place (Junk b ∷ items) e = absurd cc
recorded_chain_reads_back place (Cut bits ∷ items) e = absurd cc

-- and each item of it has a line
pub recorded_chain_legal : (place : RecordedPlace) (items : List Item) → is_recorded_chain place items ≡ true
    → AreLegalItems items
recorded_chain_legal place [] e = tt
recorded_chain_legal place (Reset n ∷ items) e =
    let (here, rest) = recorder_both_tests (recorded_may_follow place (Reset n)) (is_recorded_chain High items) e in
    let (a, fits) = recorder_both_tests (recorded_may_reset place && nat_le 50 n) (nat_lt n (2 ^ 64)) here in
    (ltb-true n (2 ^ 64) fits, recorded_chain_legal High items rest)
recorded_chain_legal place (Switch ∷ items) e =
    let (here, rest) = recorder_both_tests (recorded_may_follow place Switch) (is_recorded_chain Switched items) e in
    (tt, recorded_chain_legal Switched items rest)
recorded_chain_legal place (Idle n ∷ items) e =
    let (here, rest) = recorder_both_tests (recorded_may_follow place (Idle n)) (is_recorded_chain Low items) e in
    let (some, fits) = recorder_both_tests (recorded_may_idle place n) (nat_lt n (2 ^ 64)) here in
    (ltb-true n (2 ^ 64) fits, recorded_chain_legal Low items rest)
recorded_chain_legal place (Tx tx ∷ items) e =
    let (here, rest) = recorder_both_tests (recorded_may_follow place (Tx tx))
    (is_recorded_chain (recorded_place_of_end tx.result) items) e in
    let (may, is) = recorder_both_tests (recorded_may_ask place) (is_recorded_end tx.result) here in
    (end_is tx.result is, recorded_chain_legal (recorded_place_of_end tx.result) items rest)
recorded_chain_legal place (Junk b ∷ items) e = absurd cc
recorded_chain_legal place (Cut bits ∷ items) e = absurd cc

-- ---- one item more

-- an item that may stand there is no idle cycles behind others
pushed : (place : RecordedPlace) (items : List Item) (item : Item)
    → recorded_may_follow (recorded_place_behind place items) item ≡ true
    → recorded_with_item items item ≡ items ++ item ∷ []
pushed place [] item e = refl
pushed place (last ∷ []) item e = apart last item e
  where
    -- an item that may follow the last one isn't joined to it
    apart : (last item : Item) → recorded_may_follow (recorded_place_after last) item ≡ true
        → recorded_joined last item ≡ last ∷ item ∷ []
    apart (Idle m) (Idle n) e = absurd cc
    apart (Idle m) (Reset n) e = refl
    apart (Idle m) Switch e = refl
    apart (Idle m) (Tx tx) e = refl
    apart (Idle m) (Junk b) e = refl
    apart (Idle m) (Cut bits) e = refl
    apart (Reset m) item e = refl
    apart Switch item e = refl
    apart (Tx tx) item e = refl
    apart (Junk b) item e = refl
    apart (Cut bits) item e = refl
pushed place (first ∷ second ∷ items) item e =
    ap (λ x. first ∷ x) (pushed (recorded_place_after first) (second ∷ items) item e)

-- others that may stand behind the items
pub recorded_chain_append : (place : RecordedPlace) (items more : List Item) → is_recorded_chain place items ≡ true
    → is_recorded_chain (recorded_place_behind place items) more ≡ true → is_recorded_chain place (items ++ more) ≡ true
recorded_chain_append place [] more e f = f
recorded_chain_append place (first ∷ items) more e f =
    let (here, rest) = recorder_both_tests (recorded_may_follow place first)
    (is_recorded_chain (recorded_place_after first) items) e in
    recorder_both_true (recorded_may_follow place first)
    (is_recorded_chain (recorded_place_after first) (items ++ more)) here
    (recorded_chain_append (recorded_place_after first) items more rest f)

-- what stands before the next item then
pub recorded_place_with_item : (place : RecordedPlace) (items : List Item) (item : Item)
    → recorded_place_behind place (recorded_with_item items item) ≡ recorded_place_after item
recorded_place_with_item place [] item = refl
recorded_place_with_item place (last ∷ []) item = at_end last item
  where
    at_end : (last item : Item) → recorded_place_behind place (recorded_joined last item) ≡ recorded_place_after item
    at_end (Idle m) (Idle n) = refl
    at_end (Idle m) (Reset n) = refl
    at_end (Idle m) Switch = refl
    at_end (Idle m) (Tx tx) = refl
    at_end (Idle m) (Junk b) = refl
    at_end (Idle m) (Cut bits) = refl
    at_end (Reset m) item = refl
    at_end Switch item = refl
    at_end (Tx tx) item = refl
    at_end (Junk b) item = refl
    at_end (Cut bits) item = refl
recorded_place_with_item place (first ∷ second ∷ items) item =
    recorded_place_with_item (recorded_place_after first) (second ∷ items) item

-- items that may stand there are added behind the others
pub recorded_items_appended : (items more : List Item) → is_recorded_chain (recorded_place_of items) more ≡ true
    → recorded_with_items items more ≡ items ++ more
recorded_items_appended items [] e = sym (append-nil items)
recorded_items_appended items (item ∷ more) e =
    let (here, rest) = recorder_both_tests (recorded_may_follow (recorded_place_of items) item)
    (is_recorded_chain (recorded_place_after item) more) e in
    recorded_items_appended (recorded_with_item items item) more
    (ap (λ place. is_recorded_chain place more) (recorded_place_with_item Clear items item) ∙ rest)
    ∙ ap (λ l. l ++ more) (pushed Clear items item here)
    ∙ append_assoc items (item ∷ []) more

-- ---- idle cycles joined to others

-- the last item, by its place
last_at : (items : List Item) (k : ℕ) (item : Item) → length items ≡ suc k → slice_get items k ≡ Some item
    → recorded_idle_at_end items ≡ recorded_idle_in item
last_at [] k item l e = absurd (omega arith)
last_at (first ∷ []) zero item l e = let same : first ≡ item = cc in ap recorded_idle_in same
last_at (first ∷ []) (suc k) item l e = absurd (omega arith)
last_at (first ∷ second ∷ items) zero item l e = absurd (omega arith)
last_at (first ∷ second ∷ items) (suc k) item l e = last_at (second ∷ items) k item (omega arith) e

-- the last item has the idle cycles at the end
pub recorded_last_item_idle : (items : List Item) (item : Item) → slice_get items (length items - 1) ≡ Some item
    → recorded_idle_at_end items ≡ recorded_idle_in item
recorded_last_item_idle [] item e = absurd cc
recorded_last_item_idle (first ∷ items) item e =
    last_at (first ∷ items) (length (first ∷ items) - 1) item (omega arith) e

some_last : (items : List Item) → 0 < recorded_idle_at_end items → 0 < length items
some_last [] h = absurd (omega arith)
some_last (item ∷ items) h = omega arith

idle_joined : (item : Item) (n : ℕ) → 0 < recorded_idle_in item
    → Idle (recorded_idle_in item + n) ∷ [] ≡ recorded_joined item (Idle n)
idle_joined (Idle m) n h = refl
idle_joined (Reset m) n h = absurd (omega arith)
idle_joined Switch n h = absurd (omega arith)
idle_joined (Tx tx) n h = absurd (omega arith)
idle_joined (Junk b) n h = absurd (omega arith)
idle_joined (Cut bits) n h = absurd (omega arith)

joined_at : (items : List Item) (k n : ℕ) → length items ≡ suc k → 0 < recorded_idle_at_end items
    → slice_set items k (Idle (recorded_idle_at_end items + n)) ≡ recorded_with_item items (Idle n)
joined_at [] k n l h = absurd (omega arith)
joined_at (item ∷ []) zero n l h = idle_joined item n h
joined_at (item ∷ []) (suc k) n l h = absurd (omega arith)
joined_at (first ∷ second ∷ items) zero n l h = absurd (omega arith)
joined_at (first ∷ second ∷ items) (suc k) n l h = ap (λ x. first ∷ x) (joined_at (second ∷ items) k n (omega arith) h)

-- more zeros make the last item one of more idle cycles
pub recorded_idle_joined_last : (items : List Item) (n : ℕ) → 0 < recorded_idle_at_end items
    → slice_set items (length items - 1) (Idle (recorded_idle_at_end items + n)) ≡ recorded_with_item items (Idle n)
recorded_idle_joined_last items n h = let some : 0 < length items = some_last items h in
    joined_at items (length items - 1) n
    (omega arith) h

-- more idle cycles stand wherever fewer do
more_idle : (place : RecordedPlace) (m n : ℕ) → recorded_may_idle place m ≡ true
    → recorded_may_idle place (m + n) ≡ true
more_idle Clear m n e = let h : 1 ≤ m = leb-true 1 m e in le-leb 1 (m + n) (omega (arith, h))
more_idle High m n e = let h : 2 ≤ m = leb-true 2 m e in le-leb 2 (m + n) (omega (arith, h))
more_idle Low m n e = absurd cc
more_idle Switched m n e = absurd cc
more_idle Silent m n e = absurd cc

chained_one : (place : RecordedPlace) (item : Item) (n : ℕ) → is_recorded_chain place (item ∷ []) ≡ true
    → 0 < recorded_idle_in item → recorded_idle_in item + n < 2 ^ 64 →
    is_recorded_chain place (recorded_joined item (Idle n)) ≡ true
chained_one place (Idle m) n e h fits =
    let (here, rest) = recorder_both_tests (recorded_may_follow place (Idle m)) true e in
    let (may, old) = recorder_both_tests (recorded_may_idle place m) (nat_lt m (2 ^ 64)) here in
    recorder_both_true (recorded_may_follow place (Idle (m + n))) true
    (recorder_both_true (recorded_may_idle place (m + n)) (nat_lt (m + n) (2 ^ 64)) (more_idle place m n may)
    (lt-ltb (m + n) (2 ^ 64) fits)) refl
chained_one place (Reset m) n e h fits = absurd (omega arith)
chained_one place Switch n e h fits = absurd (omega arith)
chained_one place (Tx tx) n e h fits = absurd (omega arith)
chained_one place (Junk b) n e h fits = absurd (omega arith)
chained_one place (Cut bits) n e h fits = absurd (omega arith)

-- and leave each item where it may stand
pub recorded_chain_join : (place : RecordedPlace) (items : List Item) (n : ℕ) → is_recorded_chain place items ≡ true
    → 0 < recorded_idle_at_end items → recorded_idle_at_end items + n < 2 ^ 64 →
    is_recorded_chain place (recorded_with_item items (Idle n)) ≡ true
recorded_chain_join place [] n e h fits = absurd (omega arith)
recorded_chain_join place (item ∷ []) n e h fits = chained_one place item n e h fits
recorded_chain_join place (first ∷ second ∷ items) n e h fits =
    let (here, rest) = recorder_both_tests (recorded_may_follow place first)
    (is_recorded_chain (recorded_place_after first) (second ∷ items)) e in
    recorder_both_true (recorded_may_follow place first)
    (is_recorded_chain (recorded_place_after first) (recorded_with_item (second ∷ items) (Idle n))) here
    (recorded_chain_join (recorded_place_after first) (second ∷ items) n rest h fits)

-- ---- idle cycles that join no others

idle_some : (place : RecordedPlace) (n : ℕ) → recorded_may_idle place n ≡ true → 0 < n
idle_some Clear n e = let h : 1 ≤ n = leb-true 1 n e in omega (arith, h)
idle_some High n e = let h : 2 ≤ n = leb-true 2 n e in omega (arith, h)
idle_some Low n e = absurd cc
idle_some Switched n e = absurd cc
idle_some Silent n e = absurd cc

end_not_low : (end : TxEnd) → recorded_place_of_end end ≢ Low
end_not_low (Moved word ok) e = cc
end_not_low Wait e = cc
end_not_low Fault e = cc
end_not_low (NoAck seen) e = cc

last_not_low : (place : RecordedPlace) (item : Item) → is_recorded_chain place (item ∷ []) ≡ true
    → recorded_idle_in item ≡ 0 → recorded_place_after item ≢ Low
last_not_low place (Idle n) e h f =
    let (here, rest) = recorder_both_tests (recorded_may_follow place (Idle n)) true e in
    let (may, fits) = recorder_both_tests (recorded_may_idle place n) (nat_lt n (2 ^ 64)) here in
    let some : 0 < n = idle_some place n may in omega (arith, some, h)
last_not_low place (Reset n) e h f = cc
last_not_low place Switch e h f = cc
last_not_low place (Tx tx) e h f = end_not_low tx.result f
last_not_low place (Junk b) e h f = cc
last_not_low place (Cut bits) e h f = cc

not_low : (place : RecordedPlace) (item : Item) (items : List Item) → is_recorded_chain place (item ∷ items) ≡ true
    → recorded_idle_at_end (item ∷ items) ≡ 0 → recorded_place_behind place (item ∷ items) ≢ Low
not_low place item [] e h = last_not_low place item e h
not_low place item (second ∷ items) e h =
    let (here, rest) = recorder_both_tests (recorded_may_follow place item)
    (is_recorded_chain (recorded_place_after item) (second ∷ items)) e in
    not_low (recorded_place_after item) second items rest h

lowered : (place : RecordedPlace) (n : ℕ) → place ≢ Low → recorded_may_lower place n ≡ true
    → recorded_may_idle place n ≡ true
lowered Low n h e = absurd (h refl)
lowered Clear n h e = e
lowered High n h e = e
lowered Switched n h e = e
lowered Silent n h e = e

-- where no idle cycles stand at the end, more may stand on their own
pub recorded_idle_apart : (items : List Item) (n : ℕ) → is_recorded_chain Clear items ≡ true
    → recorded_idle_at_end items ≡ 0
    → recorded_may_lower (recorded_place_of items) n ≡ true → n < 2 ^ 64
    → recorded_may_follow (recorded_place_of items) (Idle n) ≡ true
recorded_idle_apart [] n e h may fits = recorder_both_true (nat_le 1 n) (nat_lt n (2 ^ 64)) may (lt-ltb n (2 ^ 64) fits)
recorded_idle_apart (item ∷ items) n e h may fits =
    recorder_both_true (recorded_may_idle (recorded_place_of (item ∷ items)) n) (nat_lt n (2 ^ 64))
    (lowered (recorded_place_of (item ∷ items)) n (not_low Clear item items e h) may) (lt-ltb n (2 ^ 64) fits)

-- ---- the numbers of transactions

abbrev pub recorded_item_count : Item → ℕ
recorded_item_count item = recorded_transactions (item ∷ [])

count_with : (items : List Item) (item : Item)
    → recorded_transactions (recorded_with_item items item) ≡ recorded_transactions items + recorded_item_count item
count_with [] item = omega arith
count_with (last ∷ []) item = at_end last item
  where
    at_end : (last item : Item) → recorded_transactions (recorded_joined last item) ≡ recorded_transactions (last ∷ [])
        + recorded_item_count item
    at_end (Idle m) (Idle n) = refl
    at_end (Idle m) (Reset n) = refl
    at_end (Idle m) Switch = refl
    at_end (Idle m) (Tx tx) = refl
    at_end (Idle m) (Junk b) = refl
    at_end (Idle m) (Cut bits) = refl
    at_end (Reset m) item = omega arith
    at_end Switch item = omega arith
    at_end (Tx tx) item = omega arith
    at_end (Junk b) item = omega arith
    at_end (Cut bits) item = omega arith
count_with (Tx tx ∷ second ∷ items) item = let e = count_with (second ∷ items) item in omega (arith, e)
count_with (Reset n ∷ second ∷ items) item = count_with (second ∷ items) item
count_with (Switch ∷ second ∷ items) item = count_with (second ∷ items) item
count_with (Idle n ∷ second ∷ items) item = count_with (second ∷ items) item
count_with (Junk b ∷ second ∷ items) item = count_with (second ∷ items) item
count_with (Cut bits ∷ second ∷ items) item = count_with (second ∷ items) item

count_cons : (item : Item) (more : List Item)
    → recorded_transactions (item ∷ more) ≡ recorded_item_count item + recorded_transactions more
count_cons (Tx tx) more = omega arith
count_cons (Reset n) more = omega arith
count_cons Switch more = omega arith
count_cons (Idle n) more = omega arith
count_cons (Junk b) more = omega arith
count_cons (Cut bits) more = omega arith

-- and in items with others
pub recorded_count_appended : (items more : List Item)
    → recorded_transactions (recorded_with_items items more) ≡ recorded_transactions items + recorded_transactions more
recorded_count_appended items [] = omega arith
recorded_count_appended items (item ∷ more) =
    let a = recorded_count_appended (recorded_with_item items item) more in
    let b = count_with items item in
    let d = count_cons item more in
    omega (arith, a, b, d)

-- Laws of the reading of a list of bits.
use Rattle.std.proofs.Common.{◌≡◌, ◌≢◌, ℕ, zero, suc, ◌-◌, ◌<◌, ◌≤◌, Bool, true, false, List, [], ◌∷◌, ◌++◌, length}
use Rattle.std.proofs.Common.{drop, replicate, nat_le, refl, sym, ap, ◌∙◌, arith, inl, inr, ◌⊎◌}
use Rattle.std.specs.Prelude.{if◌then◌else◌}
use Rattle.std.proofs.lemmas.List.{drop_all}
use Rattle.std.proofs.lemmas.Bool.{le-leb}
use Rattle.swd_bits.specs.Bits.{bits_number}
use Rattle.swd_bits.specs.declared.tx_bits.TxBits.{TxBits}
use Rattle.swd_bits.specs.declared.tx.Tx.{Tx as Transaction}
use Rattle.swd_trace.specs.declared.item.Item.{Item}
use Rattle.swd_trace.specs.declared.item.Item.TheVariants.{Reset, Switch, Idle, Tx, Junk, Cut}
use Rattle.swd_trace.specs.declared.mode.Mode.{Mode}
use Rattle.swd_trace.specs.declared.mode.Mode.TheVariants.{Synced, AfterReset, AfterSwitch, Lost}
use Rattle.swd_trace.specs.Stands.{Stand, Whole, Begun, Broken, stands}
use Rattle.swd_trace.specs.Reading.{trace_ones, trace_zeros, trace_all_ones, trace_begins_with, switch_item, FirstItem}
use Rattle.swd_trace.specs.Reading.{decoder_mode_after_tx, whole_tx_item, cut_first_item, junk_first_item}
use Rattle.swd_trace.specs.Reading.{cut_or_junk_item, first_item_by_stand, first_item_synced, first_item_by_mode}
use Rattle.swd_trace.specs.Reading.{first_item, items_after, reading}
use Rattle.swd_trace.specs.Decided.{ContinuesTrace, DecidesNoItem}
use Rattle.swd_trace.proofs.StandLemmas.{stand_by_test, trace_len_test_false, trace_stand_few_ones}

-- a bit is a one or a zero
pub trace_bit_cases : (b : Bool) → (b ≡ true) ⊎ (b ≡ false)
trace_bit_cases true = inl refl
trace_bit_cases false = inr refl

-- ---- one item after the other

passed : (n : ℕ) (mode : Mode) (bits : List Bool) → items_after n mode bits ≡ reading mode (drop n bits)
unfolding items_after
passed zero mode bits = refl
passed (suc n) mode [] = refl
passed (suc n) mode (b ∷ bits) = passed n mode bits

-- a reading is its first item, and then the reading of the bits after that item, in the mode after it
pub reading_first_item : (mode : Mode) (b : Bool) (bits : List Bool) →
    reading mode (b ∷ bits) ≡ (first_item mode b bits).item ∷ reading (first_item mode b bits).after
    (drop ((first_item mode b bits).taken - 1) bits)
unfolding items_after
reading_first_item mode b bits = ap (λ items. (first_item mode b bits).item ∷ items)
    (passed ((first_item mode b bits).taken - 1) (first_item mode b bits).after bits)

-- no bits are read as no items, in any mode
pub reading_no_item : (mode : Mode) → reading mode [] ≡ []
unfolding items_after
reading_no_item mode = refl

-- what is read first, from what `first_item` computes to
pub reading_by_first_item : (mode : Mode) (b : Bool) (bits : List Bool) (f : FirstItem) → first_item mode b bits ≡ f
    → reading mode (b ∷ bits) ≡ f.item ∷ reading f.after (drop (f.taken - 1) bits)
reading_by_first_item mode b bits f e = reading_first_item mode b bits ∙ ap
    (λ g. g.item ∷ reading g.after (drop (g.taken - 1) bits)) e

-- ---- runs

pub trace_ones_of_run : (n : ℕ) (more : List Bool) → trace_ones (replicate n true ++ false ∷ more) ≡ n
trace_ones_of_run zero more = refl
trace_ones_of_run (suc n) more = ap suc (trace_ones_of_run n more)

pub trace_ones_of_all : (n : ℕ) → trace_ones (replicate n true) ≡ n
trace_ones_of_all zero = refl
trace_ones_of_all (suc n) = ap suc (trace_ones_of_all n)

zeros_run : (n : ℕ) (more : List Bool) → trace_zeros (replicate n false ++ true ∷ more) ≡ n
zeros_run zero more = refl
zeros_run (suc n) more = ap suc (zeros_run n more)

zeros_all : (n : ℕ) → trace_zeros (replicate n false) ≡ n
zeros_all zero = refl
zeros_all (suc n) = ap suc (zeros_all n)

pub trace_all_ones_of_run : (n : ℕ) → trace_all_ones (replicate n true) ≡ true
trace_all_ones_of_run zero = refl
trace_all_ones_of_run (suc n) = trace_all_ones_of_run n

pub trace_drop_run : (n : ℕ) (b : Bool) (more : List Bool) → drop n (replicate n b ++ more) ≡ more
trace_drop_run zero b more = refl
trace_drop_run (suc n) b more = trace_drop_run n b more

drop_whole : (n : ℕ) (b : Bool) → drop n (replicate n b) ≡ []
drop_whole zero b = refl
drop_whole (suc n) b = drop_whole n b

-- some bits with a zero among them end the ones, whatever follows
pub trace_ones_end_at_zero : (bits more : List Bool) → trace_all_ones bits ≡ false
    → (trace_ones (bits ++ more) ≡ trace_ones bits)
    × ((trace_all_ones (bits ++ more) ≡ false) × (trace_ones bits < length bits))
trace_ones_end_at_zero [] more e = absurd cc
trace_ones_end_at_zero (false ∷ bits) more e = (refl, (refl, omega arith))
trace_ones_end_at_zero (true ∷ bits) more e = let r = trace_ones_end_at_zero bits more e in
    (ap suc r.0, (r.1.0, (let h : trace_ones bits < length bits = r.1.1 in omega arith)))

-- bits without a zero are a run of ones
pub trace_all_ones_is_run : (bits : List Bool) → trace_all_ones bits ≡ true → bits ≡ replicate (length bits) true
trace_all_ones_is_run [] e = refl
trace_all_ones_is_run (true ∷ bits) e = ap (λ x. true ∷ x) (trace_all_ones_is_run bits e)
trace_all_ones_is_run (false ∷ bits) e = absurd cc

-- ---- what is first, in each mode

-- fifty ones or more at the front are a line reset of all of these, in any mode
pub first_item_is_reset : (mode : Mode) (b : Bool) (bits : List Bool) → 50 ≤ trace_ones (b ∷ bits) →
    first_item mode b bits ≡ record {
      item = Reset (trace_ones (b ∷ bits));
      after = AfterReset;
      taken = trace_ones (b ∷ bits);
    }
first_item_is_reset mode b bits h = let t : nat_le 50 (trace_ones (b ∷ bits)) ≡ true =
    le-leb 50 (trace_ones (b ∷ bits)) h in rw t refl

-- with fewer than fifty ones at the front, the cases of the mode say what is read first
pub first_item_no_reset : (mode : Mode) (b : Bool) (bits : List Bool) → trace_ones (b ∷ bits) < 50
    → first_item mode b bits ≡ first_item_by_mode mode b bits
first_item_no_reset mode b bits h = let t : nat_le 50 (trace_ones (b ∷ bits)) ≡ false =
    trace_len_test_false 50 (trace_ones (b ∷ bits)) h in rw t refl

-- a reset, with a zero after it
pub reset_item_before_zero : (mode : Mode) (n : ℕ) (more : List Bool) → 50 ≤ n
    → reading mode (replicate n true ++ false ∷ more) ≡ Reset n ∷ reading AfterReset (false ∷ more)
reset_item_before_zero mode zero more h = absurd (omega arith)
reset_item_before_zero mode (suc n) more h =
    let e : trace_ones (true ∷ (replicate n true ++ false ∷ more)) ≡ suc n = ap suc (trace_ones_of_run n more) in
    let f : first_item mode true (replicate n true ++ false ∷ more) ≡
    record { item = Reset (suc n); after = AfterReset; taken = suc n } =
    first_item_is_reset mode true (replicate n true ++ false ∷ more) (omega arith)
    ∙ ap (λ k. record { item = Reset k; after = AfterReset; taken = k }) e in
    let d : suc n - 1 ≡ n = omega arith in
    reading_by_first_item mode true (replicate n true ++ false ∷ more) _ f
    ∙ ap (λ k. Reset (suc n) ∷ reading AfterReset (drop k (replicate n true ++ false ∷ more))) d
    ∙ ap (λ x. Reset (suc n) ∷ reading AfterReset x) (trace_drop_run n true (false ∷ more))

-- a reset at the end
pub reset_item_at_end : (mode : Mode) (n : ℕ) → 50 ≤ n → reading mode (replicate n true) ≡ Reset n ∷ []
reset_item_at_end mode zero h = absurd (omega arith)
reset_item_at_end mode (suc n) h =
    let e : trace_ones (true ∷ replicate n true) ≡ suc n = ap suc (trace_ones_of_all n) in
    let f : first_item mode true (replicate n true)
    ≡ record { item = Reset (suc n); after = AfterReset; taken = suc n } =
    first_item_is_reset mode true (replicate n true) (omega arith)
    ∙ ap (λ k. record { item = Reset k; after = AfterReset; taken = k }) e in
    let d : suc n - 1 ≡ n = omega arith in
    reading_by_first_item mode true (replicate n true) _ f
    ∙ ap (λ k. Reset (suc n) ∷ reading AfterReset (drop k (replicate n true))) d
    ∙ ap (λ x. Reset (suc n) ∷ reading AfterReset x) (drop_whole n true)
    ∙ ap (λ x. Reset (suc n) ∷ x) (reading_no_item AfterReset)

-- idle cycles, with a one after them
pub idle_item_before_one : (n : ℕ) (more : List Bool) → 0 < n
    → reading Synced (replicate n false ++ true ∷ more) ≡ Idle n ∷ reading Synced (true ∷ more)
idle_item_before_one zero more h = absurd (omega arith)
idle_item_before_one (suc n) more h =
    let f : first_item Synced false (replicate n false ++ true ∷ more) ≡
    record { item = Idle (suc n); after = Synced; taken = suc n } = rw (zeros_run n more) refl in
    let d : suc n - 1 ≡ n = omega arith in
    reading_by_first_item Synced false (replicate n false ++ true ∷ more) _ f
    ∙ ap (λ k. Idle (suc n) ∷ reading Synced (drop k (replicate n false ++ true ∷ more))) d
    ∙ ap (λ x. Idle (suc n) ∷ reading Synced x) (trace_drop_run n false (true ∷ more))

-- in mode synced, zeros up to the end are one item of idle cycles
pub idle_item_at_end : (n : ℕ) → 0 < n → reading Synced (replicate n false) ≡ Idle n ∷ []
idle_item_at_end zero h = absurd (omega arith)
idle_item_at_end (suc n) h =
    let f : first_item Synced false (replicate n false)
    ≡ record { item = Idle (suc n); after = Synced; taken = suc n } =
    rw (zeros_all n) refl in
    let d : suc n - 1 ≡ n = omega arith in
    reading_by_first_item Synced false (replicate n false) _ f
    ∙ ap (λ k. Idle (suc n) ∷ reading Synced (drop k (replicate n false))) d
    ∙ ap (λ x. Idle (suc n) ∷ reading Synced x) (drop_whole n false) ∙ ap (λ x. Idle (suc n) ∷ x)
    (reading_no_item Synced)

-- the switch, directly after a reset
pub switch_item_after_reset : (more : List Bool)
    → reading AfterReset (switch_item ++ more) ≡ Switch ∷ reading AfterSwitch more
switch_item_after_reset more =
    let f : first_item AfterReset false (drop 1 switch_item ++ more)
    ≡ record { item = Switch; after = AfterSwitch; taken = 16 } =
    refl in
    reading_by_first_item AfterReset false (drop 1 switch_item ++ more) _ f

-- where no switch stands, the mode after a reset is synced
pub no_switch_item_synced : (bits : List Bool) → trace_begins_with switch_item bits ≡ false
    → reading AfterReset bits ≡ reading Synced bits
no_switch_item_synced [] e = reading_no_item AfterReset ∙ sym (reading_no_item Synced)
no_switch_item_synced (b ∷ bits) e =
    let f : first_item AfterReset b bits ≡ first_item Synced b bits = rw e refl in
    reading_first_item AfterReset b bits ∙ ap (λ g. g.item ∷ reading g.after (drop (g.taken - 1) bits)) f
    ∙ sym (reading_first_item Synced b bits)

-- a transaction
pub tx_item_first : (bits : List Bool) (tx : Transaction) (n : ℕ) → stands bits ≡ Whole tx n → 0 < n
    → reading Synced bits ≡ Tx tx ∷ reading (decoder_mode_after_tx tx.result) (drop n bits)
tx_item_first [] tx n e h = absurd cc
tx_item_first (false ∷ bits) tx n e h = absurd cc
tx_item_first (true ∷ bits) tx zero e h = absurd (omega arith)
tx_item_first (true ∷ bits) tx (suc n) e h =
    let few : trace_ones (true ∷ bits) < 50 =
    elim (trace_stand_few_ones (true ∷ bits)) [ inl b ↦ absurd cc | inr l ↦ omega arith ] in
    let f : first_item Synced true bits ≡ whole_tx_item tx (suc n) = first_item_no_reset Synced true bits few
    ∙ ap (λ s. first_item_by_stand s true bits) e in
    let d : suc n - 1 ≡ n = omega arith in
    reading_by_first_item Synced true bits _ f ∙ ap
    (λ k. Tx tx ∷ reading (decoder_mode_after_tx tx.result) (drop k bits)) d

-- a bit that belongs to nothing
pub junk_item_first : (mode : Mode) (b : Bool) (bits : List Bool) → first_item mode b bits ≡ junk_first_item b
    → reading mode (b ∷ bits) ≡ Junk b ∷ reading Lost bits
junk_item_first mode b bits e = reading_by_first_item mode b bits _ e

-- the end that is cut off
pub cut_item_alone : (mode : Mode) (b : Bool) (bits : List Bool) → first_item mode b bits ≡ cut_first_item (b ∷ bits) →
    reading mode (b ∷ bits) ≡ Cut (record { len = length (b ∷ bits); bits = bits_number (b ∷ bits) }) ∷ []
cut_item_alone mode b bits e =
    let h : length bits ≤ suc (length bits) - 1 = omega arith in
    reading_by_first_item mode b bits _ e
    ∙ ap (λ x. Cut (record { len = length (b ∷ bits); bits = bits_number (b ∷ bits) }) ∷ reading Synced x)
    (drop_all (suc (length bits) - 1) bits h)
    ∙ ap (λ x. Cut (record { len = length (b ∷ bits); bits = bits_number (b ∷ bits) }) ∷ x) (reading_no_item Synced)

-- ---- when these come

-- in mode synced, a one that begins no transaction is junk, where fewer than fifty ones are at the front and a
-- zero is among the bits
pub junk_item_in_synced : (bits : List Bool) → stands (true ∷ bits) ≡ Broken → trace_all_ones (true ∷ bits) ≡ false
    → trace_ones (true ∷ bits) < 50 → first_item Synced true bits ≡ junk_first_item true
junk_item_in_synced bits e a h = first_item_no_reset Synced true bits h ∙ ap (λ s. first_item_by_stand s true bits) e
    ∙ ap (λ t. if t then cut_first_item (true ∷ bits) else junk_first_item true) a

-- in mode lost, a bit is junk where fewer than fifty ones are at the front
pub junk_item_in_lost : (b : Bool) (bits : List Bool) → trace_ones (b ∷ bits) < 50
    → first_item Lost b bits ≡ junk_first_item b
junk_item_in_lost b bits h = first_item_no_reset Lost b bits h

-- directly after the switch, a bit is junk where fewer than fifty ones are at the front and a zero is among
-- the bits
pub junk_item_after_switch : (b : Bool) (bits : List Bool) → trace_all_ones (b ∷ bits) ≡ false
    → trace_ones (b ∷ bits) < 50 → first_item AfterSwitch b bits ≡ junk_first_item b
junk_item_after_switch b bits a h = first_item_no_reset AfterSwitch b bits h ∙ ap
    (λ t. if t then cut_first_item (b ∷ bits) else junk_first_item b) a

-- in mode synced, bits that are no more than the beginning of a transaction are cut
pub cut_item_of_begun_tx : (bits : List Bool) → stands (true ∷ bits) ≡ Begun
    → first_item Synced true bits ≡ cut_first_item (true ∷ bits)
cut_item_of_begun_tx bits e =
    let few : trace_ones (true ∷ bits) < 50 =
    elim (trace_stand_few_ones (true ∷ bits)) [ inl b ↦ absurd cc | inr l ↦ omega arith ] in
    first_item_no_reset Synced true bits few ∙ ap (λ s. first_item_by_stand s true bits) e

-- fewer than fifty ones, and nothing else
stands_ones : (n : ℕ) → (stands (replicate (suc n) true) ≡ Begun) ⊎ (stands (replicate (suc n) true) ≡ Broken)
stands_ones zero = inl refl
stands_ones (suc zero) = inl refl
stands_ones (suc (suc zero)) = inl refl
stands_ones (suc (suc (suc zero))) = inl refl
stands_ones (suc (suc (suc (suc zero)))) = inl refl
stands_ones (suc (suc (suc (suc (suc n))))) = inr refl

few_all : (n : ℕ) → suc n < 50 → trace_ones (true ∷ replicate n true) < 50
few_all n h = let e = trace_ones_of_all (suc n) in omega arith

-- in mode synced, ones alone, fewer than fifty, are cut
pub cut_item_of_ones : (n : ℕ) → suc n < 50
    → first_item Synced true (replicate n true) ≡ cut_first_item (true ∷ replicate n true)
cut_item_of_ones n h =
    let bits : List Bool = replicate n true in
    let by : first_item Synced true bits ≡ first_item_by_stand (stands (true ∷ bits)) true bits =
    first_item_no_reset Synced true bits (few_all n h) in
    elim (stands_ones n) [
      | inl e ↦ by ∙ ap (λ s. first_item_by_stand s true bits) e
      | inr e ↦ by ∙ ap (λ s. first_item_by_stand s true bits) e
          ∙ ap (λ t. if t then cut_first_item (true ∷ bits) else junk_first_item true) (trace_all_ones_of_run (suc n))
    ]

-- directly after the switch, ones alone, fewer than fifty, are cut
pub cut_item_ones_after_switch : (n : ℕ) → suc n < 50
    → first_item AfterSwitch true (replicate n true) ≡ cut_first_item (true ∷ replicate n true)
cut_item_ones_after_switch n h =
    first_item_no_reset AfterSwitch true (replicate n true) (few_all n h)
    ∙ ap (λ t. if t then cut_first_item (true ∷ replicate n true) else junk_first_item true)
    (trace_all_ones_of_run (suc n))

-- directly after a reset, ones alone, fewer than fifty, are cut
pub cut_item_ones_after_reset : (n : ℕ) → suc n < 50
    → first_item AfterReset true (replicate n true) ≡ cut_first_item (true ∷ replicate n true)
cut_item_ones_after_reset n h =
    first_item_no_reset AfterReset true (replicate n true) (few_all n h)
    ∙ sym (first_item_no_reset Synced true (replicate n true) (few_all n h)) ∙ cut_item_of_ones n h

-- in mode lost, the first of ones alone, fewer than fifty, is junk
pub junk_item_of_ones : (n : ℕ) → suc n < 50 → first_item Lost true (replicate n true) ≡ junk_first_item true
junk_item_of_ones n h = junk_item_in_lost true (replicate n true) (few_all n h)

-- ---- what decides nothing

-- two of the readings begin with different items
pub differing_items_undecided : (readings : List Bool → List Item) (x y : List Bool) (a b : Item) (r s : List Item)
    → ContinuesTrace x → ContinuesTrace y → readings x ≡ a ∷ r → readings y ≡ b ∷ s → a ≢ b → DecidesNoItem readings
differing_items_undecided readings x y a b r s cx cy e f n = λ item all.
    let p : readings x ≡ item ∷ (all x cx).0 = (all x cx).1 in
    let q : readings y ≡ item ∷ (all y cy).0 = (all y cy).1 in
    n cc

-- without a bit no item is decided, in any mode
pub no_bits_decide_no_item : (mode : Mode) → DecidesNoItem (λ more. reading mode more)
no_bits_decide_no_item mode = λ item all.
    let p : reading mode [] ≡ item ∷ (all [] (inl refl)).0 = (all [] (inl refl)).1 in
    let e : reading mode [] ≡ [] = reading_no_item mode in
    absurd cc

abbrev reset_of : List Bool → FirstItem
reset_of bits = record { item = Reset (trace_ones bits); after = AfterReset; taken = trace_ones bits }

-- how many bits are cut off
abbrev len_of : Item → ℕ
len_of (Cut t) = t.len
len_of (Reset n) = 0
len_of Switch = 0
len_of (Idle n) = 0
len_of (Tx tx) = 0
len_of (Junk b) = 0

-- no item that is cut off has another length
pub cut_item_len_is_bits : (mode : Mode) (b : Bool) (bits : List Bool) (t : TxBits)
    → (first_item mode b bits).item ≡ Cut t → t.len ≡ length (b ∷ bits)
cut_item_len_is_bits mode b bits t =
    stand_by_test (nat_le 50 (trace_ones (b ∷ bits))) (reset_of (b ∷ bits)) (first_item_by_mode mode b bits)
    (λ f. f.item ≡ Cut t → t.len ≡ length (b ∷ bits))
    (λ e g. absurd cc) (λ e. short mode b bits)
  where
    by_ones : (b : Bool) (bits : List Bool) → (cut_or_junk_item b bits).item ≡ Cut t → t.len ≡ length (b ∷ bits)
    by_ones b bits =
        stand_by_test (trace_all_ones (b ∷ bits)) (cut_first_item (b ∷ bits)) (junk_first_item b)
        (λ f. f.item ≡ Cut t → t.len ≡ length (b ∷ bits)) (λ e g. sym (ap len_of g)) (λ e g. absurd cc)

    by_stand : (s : Stand) (b : Bool) (bits : List Bool) → (first_item_by_stand s b bits).item ≡ Cut t
        → t.len ≡ length (b ∷ bits)
    by_stand (Whole tx n) b bits g = absurd cc
    by_stand Begun b bits g = sym (ap len_of g)
    by_stand Broken b bits g = by_ones b bits g

    synced : (b : Bool) (bits : List Bool) → (first_item_synced b bits).item ≡ Cut t → t.len ≡ length (b ∷ bits)
    synced false bits g = absurd cc
    synced true bits g = by_stand (stands (true ∷ bits)) true bits g

    short : (mode : Mode) (b : Bool) (bits : List Bool) → (first_item_by_mode mode b bits).item ≡ Cut t
        → t.len ≡ length (b ∷ bits)
    short Synced b bits = synced b bits
    short AfterReset b bits =
        stand_by_test (trace_begins_with switch_item (b ∷ bits))
        (record { item = Switch; after = AfterSwitch; taken = 16 }) (first_item_synced b bits)
        (λ f. f.item ≡ Cut t → t.len ≡ length (b ∷ bits)) (λ e g. absurd cc)
        (λ e. synced b bits)
    short AfterSwitch b bits = by_ones b bits
    short Lost b bits = λ g. absurd cc

-- The bits of a reading are read as that reading.
use Rattle.std.proofs.Common.{◌≡◌, ℕ, zero, suc, ◌+◌, ◌-◌, ◌<◌, ◌≤◌, Bool, true, false, List, [], ◌∷◌, ◌++◌, length}
use Rattle.std.proofs.Common.{take, drop, replicate, nat_le, refl, sym, ap, ◌∙◌, subst, arith, inl, inr}
use Rattle.std.specs.Prelude.{if◌then◌else◌}
use Rattle.std.proofs.lemmas.List.{length-append, length-replicate, length-drop, length-take-le, append-nil}
use Rattle.std.proofs.lemmas.List.{take-append-le, take-append-drop, take-take, drop_at}
use Rattle.std.proofs.lemmas.Bool.Decides.{leb_tells}
use Rattle.swd_bits.specs.Bits.{low_bits, bits_number, odd}
use Rattle.swd_bits.specs.Transactions.{SpellsTx, tx_spelling_bits}
use Rattle.swd_bits.specs.Wire.{bits_of_request}
use Rattle.swd_bits.specs.declared.request.Request.{Request}
use Rattle.swd_bits.specs.declared.request.Reg4.{Reg4}
use Rattle.swd_bits.specs.declared.request.Reg4.TheVariants.{R0, R4, R8, RC}
use Rattle.swd_bits.specs.declared.tx.Tx.{Tx as Transaction}
use Rattle.swd_bits.proofs.BitsLemmas.{low_bits-number}
use Rattle.swd_bits.proofs.TxLemmas.{tx_bits_at_least_12}
use Rattle.swd_trace.specs.declared.item.Item.{Item}
use Rattle.swd_trace.specs.declared.item.Item.TheVariants.{Reset, Switch, Idle, Tx, Junk}
use Rattle.swd_trace.specs.declared.mode.Mode.{Mode}
use Rattle.swd_trace.specs.declared.mode.Mode.TheVariants.{Synced, AfterReset, AfterSwitch, Lost}
use Rattle.swd_trace.specs.Stands.{Stand, Whole, Begun, Broken, stands, stand_after_ok, stand_after_request}
use Rattle.swd_trace.specs.Stands.{stand_after_parity, stand_reg4_at, stand_moved_in, stand_phase_in}
use Rattle.swd_trace.specs.Reading.{trace_ones, trace_zeros, trace_all_ones, trace_begins_with, switch_item}
use Rattle.swd_trace.specs.Reading.{decoder_mode_after_tx, cut_first_item, junk_first_item, first_item_by_stand}
use Rattle.swd_trace.specs.Reading.{first_item, reading}
use Rattle.swd_trace.specs.Texts.{item_bits, bits_of_items}
use Rattle.swd_trace.proofs.StandLemmas.{stand_by_test, trace_stand_whole_fits, trace_stand_stays_broken}
use Rattle.swd_trace.proofs.LawLemmas.{trace_prefix_test_sound}
use Rattle.swd_trace.proofs.SpellingLemmas.{trace_stand_is_spelled, trace_stand_of_spelling, trace_tx_len}
use Rattle.swd_trace.proofs.SpellingLemmas.{trace_spelling_length}
use Rattle.swd_trace.proofs.ReadingLemmas.{trace_bit_cases, reading_no_item, reset_item_before_zero, reset_item_at_end}
use Rattle.swd_trace.proofs.ReadingLemmas.{idle_item_before_one, idle_item_at_end, switch_item_after_reset}
use Rattle.swd_trace.proofs.ReadingLemmas.{no_switch_item_synced, tx_item_first, junk_item_first, cut_item_alone}
use Rattle.swd_trace.proofs.ReadingLemmas.{first_item_no_reset, junk_item_in_lost, junk_item_in_synced}
use Rattle.swd_trace.proofs.ReadingLemmas.{junk_item_after_switch, cut_item_of_begun_tx}

-- the bits of the reading
abbrev pub reread_bits : Mode → List Bool → List Bool
reread_bits mode bits = bits_of_items (reading mode bits)

-- one item, and what comes after it
again : (mode after : Mode) (l tail : List Bool) (item : Item) → reading mode l ≡ item ∷ reading after tail
    → reread_bits mode l ≡ item_bits item ++ reread_bits after tail
again mode after l tail item e = ap bits_of_items e

step : (mode after : Mode) (l tail : List Bool) (item : Item) → reading mode l ≡ item ∷ reading after tail →
    reading mode (item_bits item ++ reread_bits after tail) ≡ item ∷ reading after (reread_bits after tail) →
    reading after (reread_bits after tail) ≡ reading after tail → reading mode (reread_bits mode l) ≡ reading mode l
step mode after l tail item e f g = ap (reading mode) (again mode after l tail item e) ∙ f ∙ ap (λ x. item ∷ x) g
    ∙ sym e

-- ---- runs, and what ends them

-- the bits are none, or begin with this one
abbrev pub StartsTraceWith : Bool → List Bool → Type 0
StartsTraceWith b [] = Unit {0}
StartsTraceWith b (x ∷ bits) = x ≡ b

ones_split : (l : List Bool) → (tail : List Bool) × (l ≡ replicate (trace_ones l) true ++ tail)
    × StartsTraceWith false tail
ones_split [] = ([], refl, tt)
ones_split (false ∷ l) = (false ∷ l, refl, refl)
ones_split (true ∷ l) = let r = ones_split l in (r.0, ap (λ x. true ∷ x) r.1, r.2)

zeros_split : (l : List Bool) → (tail : List Bool) × (l ≡ replicate (trace_zeros l) false ++ tail)
    × StartsTraceWith true tail
zeros_split [] = ([], refl, tt)
zeros_split (true ∷ l) = (true ∷ l, refl, refl)
zeros_split (false ∷ l) = let r = zeros_split l in (r.0, ap (λ x. false ∷ x) r.1, r.2)

-- fifty ones or more, and then a zero or the end, are a line reset of that length, in any mode
pub reset_item_any_mode : (mode : Mode) (n : ℕ) (tail : List Bool) → 50 ≤ n → StartsTraceWith false tail
    → reading mode (replicate n true ++ tail) ≡ Reset n ∷ reading AfterReset tail
reset_item_any_mode mode n [] h s = ap (reading mode) (append-nil (replicate n true)) ∙ reset_item_at_end mode n h
    ∙ ap (λ x. Reset n ∷ x) (sym (reading_no_item AfterReset))
reset_item_any_mode mode n (true ∷ tail) h s = absurd cc
reset_item_any_mode mode n (false ∷ tail) h s = reset_item_before_zero mode n tail h

-- in mode synced, zeros, and then a one or the end, are one item of idle cycles
pub idle_item_any_end : (n : ℕ) (tail : List Bool) → 0 < n → StartsTraceWith true tail
    → reading Synced (replicate n false ++ tail) ≡ Idle n ∷ reading Synced tail
idle_item_any_end n [] h s = ap (reading Synced) (append-nil (replicate n false)) ∙ idle_item_at_end n h
    ∙ ap (λ x. Idle n ∷ x) (sym (reading_no_item Synced))
idle_item_any_end n (false ∷ tail) h s = absurd cc
idle_item_any_end n (true ∷ tail) h s = idle_item_before_one n tail h

reset_read : (mode : Mode) (l : List Bool) → 50 ≤ trace_ones l
    → reading mode l ≡ Reset (trace_ones l) ∷ reading AfterReset (ones_split l).0
reset_read mode l h = ap (reading mode) (ones_split l).1 ∙ reset_item_any_mode mode (trace_ones l) (ones_split l).0 h
    (ones_split l).2

idle_read : (l : List Bool) → 0 < trace_zeros l
    → reading Synced l ≡ Idle (trace_zeros l) ∷ reading Synced (zeros_split l).0
idle_read l h = ap (reading Synced) (zeros_split l).1 ∙ idle_item_any_end (trace_zeros l) (zeros_split l).0 h
    (zeros_split l).2

-- ---- the first bit stays

cut_again : (mode : Mode) (b : Bool) (bits : List Bool) → first_item mode b bits ≡ cut_first_item (b ∷ bits)
    → reread_bits mode (b ∷ bits) ≡ b ∷ bits
cut_again mode b bits e = ap bits_of_items (cut_item_alone mode b bits e)
    ∙ append-nil (low_bits (length (b ∷ bits)) (bits_number (b ∷ bits))) ∙ low_bits-number (b ∷ bits)

junk_again : (mode : Mode) (b : Bool) (bits : List Bool) → first_item mode b bits ≡ junk_first_item b
    → reread_bits mode (b ∷ bits) ≡ b ∷ reread_bits Lost bits
junk_again mode b bits e = again mode Lost (b ∷ bits) bits (Junk b) (junk_item_first mode b bits e)

reset_starts : (mode : Mode) (b : Bool) (bits : List Bool) → 50 ≤ trace_ones (b ∷ bits)
    → StartsTraceWith b (reread_bits mode (b ∷ bits))
reset_starts mode false bits h = absurd (omega arith)
reset_starts mode true bits h =
    subst (StartsTraceWith true) (sym
    (again mode AfterReset (true ∷ bits) (ones_split (true ∷ bits)).0 (Reset (trace_ones (true ∷ bits)))
    (reset_read mode (true ∷ bits) h))) refl

tx_again : (bits : List Bool) (tx : Transaction) (n : ℕ) → stands bits ≡ Whole tx n → 0 < n
    → reread_bits Synced bits ≡ tx_spelling_bits tx true true
    ++ reread_bits (decoder_mode_after_tx tx.result) (drop n bits)
tx_again bits tx n e h = again Synced (decoder_mode_after_tx tx.result) bits (drop n bits) (Tx tx)
    (tx_item_first bits tx n e h)

-- a transaction has some bits
some_bits : (bits : List Bool) (tx : Transaction) (n : ℕ) → stands bits ≡ Whole tx n → 12 ≤ n
some_bits bits tx n e =
    let fits : n ≤ length bits = trace_stand_whole_fits bits tx n e in
    let l : length (take n bits) ≡ n = length-take-le n bits fits in
    let m : 12 ≤ length (take n bits) = tx_bits_at_least_12 tx (take n bits) (trace_stand_is_spelled bits tx n e) in
    omega arith

starts_synced : (b : Bool) (bits : List Bool) → trace_ones (b ∷ bits) < 50
    → StartsTraceWith b (reread_bits Synced (b ∷ bits))
starts_synced false bits few =
    subst (StartsTraceWith false) (sym
    (again Synced Synced (false ∷ bits) (zeros_split (false ∷ bits)).0 (Idle (trace_zeros (false ∷ bits)))
    (idle_read (false ∷ bits) (omega arith)))) refl
starts_synced true bits few = by (stands (true ∷ bits)) refl
  where
    by : (s : Stand) → stands (true ∷ bits) ≡ s → StartsTraceWith true (reread_bits Synced (true ∷ bits))
    by (Whole tx n) e =
        let some : 12 ≤ n = some_bits (true ∷ bits) tx n e in
        subst (StartsTraceWith true) (sym (tx_again (true ∷ bits) tx n e (omega arith))) refl
    by Begun e = subst (StartsTraceWith true) (sym (cut_again Synced true bits (cut_item_of_begun_tx bits e))) refl
    by Broken e = elim (trace_bit_cases (trace_all_ones (true ∷ bits))) [
      | inl a ↦ subst (StartsTraceWith true)
          (sym (cut_again Synced true bits
          (first_item_no_reset Synced true bits few ∙ ap (λ s. first_item_by_stand s true bits) e
          ∙ ap (λ t. if t then cut_first_item (true ∷ bits) else junk_first_item true) a))) refl
      | inr a ↦ subst (StartsTraceWith true) (sym (junk_again Synced true bits (junk_item_in_synced bits e a few))) refl
    ]

starts_after_reset : (b : Bool) (bits : List Bool) → trace_ones (b ∷ bits) < 50
    → StartsTraceWith b (reread_bits AfterReset (b ∷ bits))
starts_after_reset true bits few = subst (StartsTraceWith true)
    (ap bits_of_items (sym (no_switch_item_synced (true ∷ bits) refl))) (starts_synced true bits few)
starts_after_reset false bits few = elim (trace_bit_cases (trace_begins_with switch_item (false ∷ bits))) [
  | inl e ↦ by e
  | inr e ↦ subst (StartsTraceWith false) (ap bits_of_items (sym (no_switch_item_synced (false ∷ bits) e)))
      (starts_synced false bits few)
]
  where
    by : trace_begins_with switch_item (false ∷ bits) ≡ true
        → StartsTraceWith false (reread_bits AfterReset (false ∷ bits))
    by e =
        let r = trace_prefix_test_sound switch_item (false ∷ bits) e in
        subst (StartsTraceWith false) (sym
        (ap (reread_bits AfterReset) r.1 ∙ again AfterReset AfterSwitch (switch_item ++ r.0) r.0 Switch
        (switch_item_after_reset r.0))) refl

-- the first bit of a reading's bits is that of the bits
starts : (mode : Mode) (b : Bool) (bits : List Bool) → StartsTraceWith b (reread_bits mode (b ∷ bits))
starts mode b bits = elim (leb_tells 50 (trace_ones (b ∷ bits)))
    [ inl p ↦ reset_starts mode b bits p.1 | inr p ↦ short mode p.1 ]
  where
    short : (mode : Mode) → trace_ones (b ∷ bits) < 50 → StartsTraceWith b (reread_bits mode (b ∷ bits))
    short Synced few = starts_synced b bits few
    short AfterReset few = starts_after_reset b bits few
    short AfterSwitch few = elim (trace_bit_cases (trace_all_ones (b ∷ bits))) [
      | inl a ↦ subst (StartsTraceWith b)
          (sym (cut_again AfterSwitch b bits (first_item_no_reset AfterSwitch b bits few ∙ ap
          (λ t. if t then cut_first_item (b ∷ bits) else junk_first_item b) a))) refl
      | inr a ↦ subst (StartsTraceWith b) (sym (junk_again AfterSwitch b bits (junk_item_after_switch b bits a few)))
          refl
    ]
    short Lost few = subst (StartsTraceWith b) (sym (junk_again Lost b bits (junk_item_in_lost b bits few))) refl

starts_tail : (b : Bool) (mode : Mode) (tail : List Bool) → StartsTraceWith b tail
    → StartsTraceWith b (reread_bits mode tail)
starts_tail b mode [] s = subst (StartsTraceWith b) (ap bits_of_items (sym (reading_no_item mode))) tt
starts_tail b mode (x ∷ tail) s = subst (λ c. StartsTraceWith c (reread_bits mode (x ∷ tail))) s (starts mode x tail)

-- ---- the first bits of what is lost stay

same_front : (k : ℕ) → k ≤ 50 → (bits : List Bool) → take k (reread_bits Lost bits) ≡ take k bits
same_front zero h bits = refl
same_front (suc k) h [] = ap (λ x. take (suc k) (bits_of_items x)) (reading_no_item Lost)
same_front (suc k) h (b ∷ bits) = elim (leb_tells 50 (trace_ones (b ∷ bits))) [
  | inl p ↦
      let n : 50 ≤ trace_ones (b ∷ bits) = p.1 in
      let l : length (replicate (trace_ones (b ∷ bits)) true) ≡ trace_ones (b ∷ bits) =
      length-replicate (trace_ones (b ∷ bits)) true in
      let tail = (ones_split (b ∷ bits)).0 in
      ap (take (suc k)) (again Lost AfterReset (b ∷ bits) tail (Reset (trace_ones (b ∷ bits)))
      (reset_read Lost (b ∷ bits) n))
      ∙ take-append-le (suc k) (replicate (trace_ones (b ∷ bits)) true) (reread_bits AfterReset tail) (omega arith)
      ∙ sym (take-append-le (suc k) (replicate (trace_ones (b ∷ bits)) true) tail (omega arith))
      ∙ ap (take (suc k)) (sym (ones_split (b ∷ bits)).1)
  | inr p ↦
      let few : trace_ones (b ∷ bits) < 50 = p.1 in
      ap (take (suc k)) (junk_again Lost b bits (junk_item_in_lost b bits few))
      ∙ ap (λ x. b ∷ x) (same_front k (omega arith) bits)
]

ones_within : (k : ℕ) (l : List Bool) → trace_ones l < k → trace_ones (take k l) ≡ trace_ones l
ones_within zero l h = absurd (omega arith)
ones_within (suc k) [] h = refl
ones_within (suc k) (false ∷ l) h = refl
ones_within (suc k) (true ∷ l) h = let less : trace_ones l < k = omega arith in ap suc (ones_within k l less)

ones_beyond : (k : ℕ) (l : List Bool) → trace_ones (take k l) < k → trace_ones l ≡ trace_ones (take k l)
ones_beyond zero l h = absurd (omega arith)
ones_beyond (suc k) [] h = refl
ones_beyond (suc k) (false ∷ l) h = refl
ones_beyond (suc k) (true ∷ l) h = let less : trace_ones (take k l) < k = omega arith in ap suc (ones_beyond k l less)

zero_within : (k : ℕ) (l : List Bool) → trace_ones l < k → trace_all_ones l ≡ false → trace_all_ones (take k l) ≡ false
zero_within zero l h e = absurd (omega arith)
zero_within (suc k) [] h e = absurd cc
zero_within (suc k) (false ∷ l) h e = refl
zero_within (suc k) (true ∷ l) h e = let less : trace_ones l < k = omega arith in zero_within k l less e

zero_beyond : (k : ℕ) (l : List Bool) → trace_all_ones (take k l) ≡ false → trace_all_ones l ≡ false
zero_beyond zero l e = absurd cc
zero_beyond (suc k) [] e = absurd cc
zero_beyond (suc k) (false ∷ l) e = refl
zero_beyond (suc k) (true ∷ l) e = zero_beyond k l e

-- what is no transaction is so by its first eight bits
ok_unbroken : (q : Request) (bits : List Bool) → stand_after_ok q bits ≡ Broken → ⊥
ok_unbroken q bits =
    stand_by_test (nat_le 34 (length bits))
    (Whole (record { request = q; result = stand_moved_in (stand_phase_in q.read bits) }) 46) Begun
    (λ s. s ≡ Broken → ⊥) (λ t e. cc) (λ t e. cc)

request_unbroken : (q : Request) (bits : List Bool) → stand_after_request q bits ≡ Broken → ⊥
request_unbroken q [] e = cc
request_unbroken q (t ∷ []) e = cc
request_unbroken q (t ∷ a ∷ []) e = cc
request_unbroken q (t ∷ a ∷ b ∷ []) e = cc
request_unbroken q (t ∷ true ∷ false ∷ false ∷ bits) e = ok_unbroken q bits e
request_unbroken q (t ∷ false ∷ true ∷ false ∷ []) e = cc
request_unbroken q (t ∷ false ∷ true ∷ false ∷ u ∷ bits) e = cc
request_unbroken q (t ∷ false ∷ false ∷ true ∷ []) e = cc
request_unbroken q (t ∷ false ∷ false ∷ true ∷ u ∷ bits) e = cc
request_unbroken q (t ∷ true ∷ true ∷ c ∷ bits) e = cc
request_unbroken q (t ∷ true ∷ false ∷ true ∷ bits) e = cc
request_unbroken q (t ∷ false ∷ true ∷ true ∷ bits) e = cc
request_unbroken q (t ∷ false ∷ false ∷ false ∷ bits) e = cc

parity_early : (q : Request) (bits : List Bool) → stand_after_parity q bits ≡ Broken
    → stand_after_parity q (take 2 bits) ≡ Broken
parity_early q [] e = e
parity_early q (true ∷ bits) e = refl
parity_early q (false ∷ []) e = e
parity_early q (false ∷ false ∷ bits) e = refl
parity_early q (false ∷ true ∷ bits) e = absurd (request_unbroken q bits e)

choice_early : (t : Bool) (s r : Stand) → (s ≡ Broken → r ≡ Broken) → (if t then Broken else s) ≡ Broken
    → (if t then Broken else r) ≡ Broken
choice_early true s r f e = refl
choice_early false s r f e = f e

broken_early : (bits : List Bool) → stands bits ≡ Broken → stands (take 8 bits) ≡ Broken
broken_early [] e = e
broken_early (false ∷ bits) e = refl
broken_early (true ∷ []) e = e
broken_early (true ∷ a ∷ []) e = e
broken_early (true ∷ a ∷ b ∷ []) e = e
broken_early (true ∷ a ∷ b ∷ c ∷ []) e = e
broken_early (true ∷ a ∷ b ∷ c ∷ d ∷ []) e = e
broken_early (true ∷ a ∷ b ∷ c ∷ d ∷ p ∷ bits) e =
    choice_early (odd (a ∷ b ∷ c ∷ d ∷ p ∷ []))
    (stand_after_parity (record { ap = a; read = b; addr = stand_reg4_at c d }) bits)
    (stand_after_parity (record { ap = a; read = b; addr = stand_reg4_at c d }) (take 2 bits))
    (parity_early (record { ap = a; read = b; addr = stand_reg4_at c d }) bits) e

-- ---- a bit that belongs to nothing stays one

module _ (b : Bool) (bits x : List Bool) (same : take 49 x ≡ take 49 bits) where
  alike : take 50 (b ∷ x) ≡ take 50 (b ∷ bits)
  alike = ap (λ y. b ∷ y) same

  few_again : trace_ones (b ∷ bits) < 50 → trace_ones (b ∷ x) < 50
  few_again h =
      let e : trace_ones (take 50 (b ∷ x)) ≡ trace_ones (b ∷ bits) =
      ap trace_ones alike ∙ ones_within 50 (b ∷ bits) h in
      let f : trace_ones (b ∷ x) ≡ trace_ones (take 50 (b ∷ x)) = ones_beyond 50 (b ∷ x) (omega arith) in
      omega arith

  zero_again : trace_ones (b ∷ bits) < 50 → trace_all_ones (b ∷ bits) ≡ false → trace_all_ones (b ∷ x) ≡ false
  zero_again h e = zero_beyond 50 (b ∷ x) (ap trace_all_ones alike ∙ zero_within 50 (b ∷ bits) h e)

  broken_again : stands (b ∷ bits) ≡ Broken → stands (b ∷ x) ≡ Broken
  broken_again e =
      let eight : 8 ≤ 50 = omega arith in
      let front : take 8 (b ∷ x) ≡ take 8 (b ∷ bits) = sym (take-take 8 50 (b ∷ x) eight) ∙ ap (take 8) alike
      ∙ take-take 8 50 (b ∷ bits) eight in
      ap stands (sym (take-append-drop 8 (b ∷ x)))
      ∙ trace_stand_stays_broken (take 8 (b ∷ x)) (drop 8 (b ∷ x)) (ap stands front ∙ broken_early (b ∷ bits) e)

junk_step : (mode : Mode) (b : Bool) (bits : List Bool) → first_item mode b bits ≡ junk_first_item b
    → first_item mode b (reread_bits Lost bits) ≡ junk_first_item b →
    reading Lost (reread_bits Lost bits) ≡ reading Lost bits
    → reading mode (reread_bits mode (b ∷ bits)) ≡ reading mode (b ∷ bits)
junk_step mode b bits e f g = step mode Lost (b ∷ bits) bits (Junk b) (junk_item_first mode b bits e)
    (junk_item_first mode b (reread_bits Lost bits) f) g

cut_step : (mode : Mode) (b : Bool) (bits : List Bool) → first_item mode b bits ≡ cut_first_item (b ∷ bits)
    → reading mode (reread_bits mode (b ∷ bits)) ≡ reading mode (b ∷ bits)
cut_step mode b bits e = ap (reading mode) (cut_again mode b bits e)

-- ---- a list after the other, by its length

Rereads : ℕ → Type 0
Rereads n = (mode : Mode) (bits : List Bool) → length bits < n
    → reading mode (reread_bits mode bits) ≡ reading mode bits

reset_rereads : (mode : Mode) (b : Bool) (bits : List Bool) → 50 ≤ trace_ones (b ∷ bits) → Rereads (length (b ∷ bits))
    → reading mode (reread_bits mode (b ∷ bits)) ≡ reading mode (b ∷ bits)
unfolding Rereads
reset_rereads mode b bits h again =
    let s = ones_split (b ∷ bits) in
    let tail : List Bool = s.0 in
    let l : length (b ∷ bits) ≡ length (replicate (trace_ones (b ∷ bits)) true ++ tail) = ap length s.1 in
    let m : length (replicate (trace_ones (b ∷ bits)) true ++ tail) ≡ length (replicate (trace_ones (b ∷ bits)) true)
    + length
    tail = length-append (replicate (trace_ones (b ∷ bits)) true) tail in
    let k : length (replicate (trace_ones (b ∷ bits)) true) ≡ trace_ones (b ∷ bits) =
    length-replicate (trace_ones (b ∷ bits)) true in
    step mode AfterReset (b ∷ bits) tail (Reset (trace_ones (b ∷ bits))) (reset_read mode (b ∷ bits) h)
    (reset_item_any_mode mode (trace_ones (b ∷ bits)) (reread_bits AfterReset tail) h
    (starts_tail false AfterReset tail s.2)) (again AfterReset tail (omega arith))

idle_rereads : (bits : List Bool) → Rereads (length (false ∷ bits))
    → reading Synced (reread_bits Synced (false ∷ bits)) ≡ reading Synced (false ∷ bits)
unfolding Rereads
idle_rereads bits again =
    let s = zeros_split (false ∷ bits) in
    let tail : List Bool = s.0 in
    let l : length (false ∷ bits) ≡ length (replicate (trace_zeros (false ∷ bits)) false ++ tail) = ap length s.1 in
    let m : length (replicate (trace_zeros (false ∷ bits)) false ++ tail)
    ≡ length (replicate (trace_zeros (false ∷ bits)) false) +
    length tail = length-append (replicate (trace_zeros (false ∷ bits)) false) tail in
    let k : length (replicate (trace_zeros (false ∷ bits)) false) ≡ trace_zeros (false ∷ bits) = length-replicate
    (trace_zeros (false ∷ bits)) false in
    step Synced Synced (false ∷ bits) tail (Idle (trace_zeros (false ∷ bits))) (idle_read (false ∷ bits) (omega arith))
    (idle_item_any_end (trace_zeros (false ∷ bits)) (reread_bits Synced tail) (omega arith)
    (starts_tail true Synced tail s.2)) (again Synced tail (omega arith))

tx_rereads : (bits : List Bool) (tx : Transaction) (n : ℕ) → stands bits ≡ Whole tx n → Rereads (length bits)
    → reading Synced (reread_bits Synced bits) ≡ reading Synced bits
unfolding Rereads
tx_rereads bits tx n e again =
    let some : 12 ≤ n = some_bits bits tx n e in
    let fits : n ≤ length bits = trace_stand_whole_fits bits tx n e in
    let after : Mode = decoder_mode_after_tx tx.result in
    let tail : List Bool = drop n bits in
    let l : length (drop n bits) ≡ length bits - n = length-drop n bits in
    let spelled : SpellsTx tx (take n bits) = trace_stand_is_spelled bits tx n e in
    let stand : stands (tx_spelling_bits tx true true ++ reread_bits after tail) ≡ Whole tx (trace_tx_len tx.result) =
    trace_stand_of_spelling tx true true (reread_bits after tail) spelled.0 in
    let m : 12 ≤ trace_tx_len tx.result = some_bits (tx_spelling_bits tx true true ++ reread_bits after tail) tx
    (trace_tx_len tx.result) stand in
    step Synced after bits tail (Tx tx) (tx_item_first bits tx n e (omega arith))
    (tx_item_first (tx_spelling_bits tx true true ++ reread_bits after tail) tx (trace_tx_len tx.result) stand
    (omega arith) ∙ ap (λ x. Tx tx ∷ reading after x)
    (drop_at (tx_spelling_bits tx true true) (reread_bits after tail) (trace_tx_len tx.result)
    (trace_spelling_length tx true true))) (again after tail (omega arith))

synced_rereads : (b : Bool) (bits : List Bool) → trace_ones (b ∷ bits) < 50 → Rereads (length (b ∷ bits))
    → reading Synced (reread_bits Synced (b ∷ bits)) ≡ reading Synced (b ∷ bits)
unfolding Rereads
synced_rereads false bits few again = idle_rereads bits again
synced_rereads true bits few again = by (stands (true ∷ bits)) refl
  where
    by : (s : Stand) → stands (true ∷ bits) ≡ s
        → reading Synced (reread_bits Synced (true ∷ bits)) ≡ reading Synced (true ∷ bits)
    by (Whole tx n) e = tx_rereads (true ∷ bits) tx n e again
    by Begun e = cut_step Synced true bits (cut_item_of_begun_tx bits e)
    by Broken e = elim (trace_bit_cases (trace_all_ones (true ∷ bits))) [
      | inl a ↦ cut_step Synced true bits
          (first_item_no_reset Synced true bits few ∙ ap (λ s. first_item_by_stand s true bits) e
          ∙ ap (λ t. if t then cut_first_item (true ∷ bits) else junk_first_item true) a)
      | inr a ↦
          let front : take 49 (reread_bits Lost bits) ≡ take 49 bits = same_front 49 (omega arith) bits in
          junk_step Synced true bits (junk_item_in_synced bits e a few)
          (junk_item_in_synced (reread_bits Lost bits) (broken_again true bits (reread_bits Lost bits) front e)
          (zero_again true bits (reread_bits Lost bits) front few a)
          (few_again true bits (reread_bits Lost bits) front few)) (again Lost bits (omega arith))
    ]

-- ---- a switch does not come into being

begins_take : (a l : List Bool) → trace_begins_with a (take (length a) l) ≡ trace_begins_with a l
begins_take [] l = refl
begins_take (x ∷ a) [] = refl
begins_take (true ∷ a) (true ∷ l) = begins_take a l
begins_take (true ∷ a) (false ∷ l) = refl
begins_take (false ∷ a) (true ∷ l) = refl
begins_take (false ∷ a) (false ∷ l) = begins_take a l

many_ones : (n : ℕ) (x : List Bool) → 5 ≤ n → trace_begins_with (drop 1 switch_item) (replicate n true ++ x) ≡ false
many_ones zero x h = absurd (omega arith)
many_ones (suc zero) x h = absurd (omega arith)
many_ones (suc (suc zero)) x h = absurd (omega arith)
many_ones (suc (suc (suc zero))) x h = absurd (omega arith)
many_ones (suc (suc (suc (suc zero)))) x h = absurd (omega arith)
many_ones (suc (suc (suc (suc (suc n))))) x h = refl

asked_no_switch : (port read : Bool) (addr : Reg4) (rest x : List Bool)
    → trace_begins_with (drop 1 switch_item)
    ((bits_of_request (record { ap = port; read = read; addr = addr }) ++ rest) ++ x) ≡ false
asked_no_switch true true R0 rest x = refl
asked_no_switch true true R4 rest x = refl
asked_no_switch true true R8 rest x = refl
asked_no_switch true true RC rest x = refl
asked_no_switch true false R0 rest x = refl
asked_no_switch true false R4 rest x = refl
asked_no_switch true false R8 rest x = refl
asked_no_switch true false RC rest x = refl
asked_no_switch false true R0 rest x = refl
asked_no_switch false true R4 rest x = refl
asked_no_switch false true R8 rest x = refl
asked_no_switch false true RC rest x = refl
asked_no_switch false false R0 rest x = refl
asked_no_switch false false R4 rest x = refl
asked_no_switch false false R8 rest x = refl
asked_no_switch false false RC rest x = refl

spelling_no_switch : (tx : Transaction) (x : List Bool)
    → trace_begins_with (drop 1 switch_item) (tx_spelling_bits tx true true ++ x) ≡ false
spelling_no_switch tx x = asked_no_switch tx.request.ap tx.request.read tx.request.addr _ x

tail_stays : (bits : List Bool) → trace_begins_with (drop 1 switch_item) (true ∷ bits) ≡ false
    → trace_begins_with (drop 1 switch_item) (reread_bits Synced (true ∷ bits)) ≡ false
tail_stays bits e = elim (leb_tells 50 (trace_ones (true ∷ bits))) [
  | inl p ↦
      let n : 50 ≤ trace_ones (true ∷ bits) = p.1 in
      ap (trace_begins_with (drop 1 switch_item))
      (again Synced AfterReset (true ∷ bits) (ones_split (true ∷ bits)).0 (Reset (trace_ones (true ∷ bits)))
      (reset_read Synced (true ∷ bits) n))
      ∙ many_ones (trace_ones (true ∷ bits)) (reread_bits AfterReset (ones_split (true ∷ bits)).0) (omega arith)
  | inr p ↦ by (stands (true ∷ bits)) refl p.1
]
  where
    by : (s : Stand) → stands (true ∷ bits) ≡ s → trace_ones (true ∷ bits) < 50
        → trace_begins_with (drop 1 switch_item) (reread_bits Synced (true ∷ bits)) ≡ false
    by (Whole tx n) f few =
        let some : 12 ≤ n = some_bits (true ∷ bits) tx n f in
        ap (trace_begins_with (drop 1 switch_item)) (tx_again (true ∷ bits) tx n f (omega arith))
        ∙ spelling_no_switch tx (reread_bits (decoder_mode_after_tx tx.result) (drop n (true ∷ bits)))
    by Begun f few = ap (trace_begins_with (drop 1 switch_item))
        (cut_again Synced true bits (cut_item_of_begun_tx bits f)) ∙ e
    by Broken f few = elim (trace_bit_cases (trace_all_ones (true ∷ bits))) [
      | inl a ↦ ap (trace_begins_with (drop 1 switch_item))
          (cut_again Synced true bits
          (first_item_no_reset Synced true bits few ∙ ap (λ s. first_item_by_stand s true bits) f
          ∙ ap (λ t. if t then cut_first_item (true ∷ bits) else junk_first_item true) a)) ∙ e
      | inr a ↦
          ap (trace_begins_with (drop 1 switch_item)) (junk_again Synced true bits (junk_item_in_synced bits f a few))
          ∙ sym (begins_take (drop 2 switch_item) (reread_bits Lost bits))
          ∙ ap (trace_begins_with (drop 2 switch_item)) (same_front 14 (omega arith) bits) ∙ begins_take
          (drop 2 switch_item) bits ∙ e
    ]

true_no_switch : (l : List Bool) → StartsTraceWith true l → trace_begins_with switch_item l ≡ false
true_no_switch [] s = refl
true_no_switch (true ∷ l) s = refl
true_no_switch (false ∷ l) s = absurd cc

idle_again : (bits : List Bool) → reread_bits Synced (false ∷ bits) ≡ replicate (trace_zeros (false ∷ bits)) false
    ++ reread_bits Synced (zeros_split (false ∷ bits)).0
idle_again bits = again Synced Synced (false ∷ bits) (zeros_split (false ∷ bits)).0 (Idle (trace_zeros (false ∷ bits)))
    (idle_read (false ∷ bits) (omega arith))

switch_stays : (b : Bool) (bits : List Bool) → trace_ones (b ∷ bits) < 50
    → trace_begins_with switch_item (b ∷ bits) ≡ false
    → trace_begins_with switch_item (reread_bits Synced (b ∷ bits)) ≡ false
unfolding zeros_split
switch_stays true bits few e = true_no_switch (reread_bits Synced (true ∷ bits)) (starts_synced true bits few)
switch_stays false [] few e = ap (trace_begins_with switch_item) (idle_again [])
    ∙ ap (λ x. trace_begins_with switch_item (false ∷ bits_of_items x)) (reading_no_item Synced)
switch_stays false (false ∷ bits) few e = ap (trace_begins_with switch_item) (idle_again (false ∷ bits))
switch_stays false (true ∷ bits) few e = ap (trace_begins_with switch_item) (idle_again (true ∷ bits)) ∙ tail_stays bits
    e

-- ---- every mode

after_reset_rereads : (b : Bool) (bits : List Bool) → trace_ones (b ∷ bits) < 50 → Rereads (length (b ∷ bits))
    → reading AfterReset (reread_bits AfterReset (b ∷ bits)) ≡ reading AfterReset (b ∷ bits)
unfolding Rereads
after_reset_rereads b bits few again_shorter = elim (trace_bit_cases (trace_begins_with switch_item (b ∷ bits))) [
  | inl e ↦ switched e
  | inr e ↦
      ap (λ x. reading AfterReset (bits_of_items x)) (no_switch_item_synced (b ∷ bits) e)
      ∙ no_switch_item_synced (reread_bits Synced (b ∷ bits)) (switch_stays b bits few e)
      ∙ synced_rereads b bits few again_shorter ∙ sym (no_switch_item_synced (b ∷ bits) e)
]
  where
    switched : trace_begins_with switch_item (b ∷ bits) ≡ true
        → reading AfterReset (reread_bits AfterReset (b ∷ bits)) ≡ reading AfterReset (b ∷ bits)
    switched e =
        let r = trace_prefix_test_sound switch_item (b ∷ bits) e in
        let rest : List Bool = r.0 in
        let l : length (b ∷ bits) ≡ length (switch_item ++ rest) = ap length r.1 in
        let m : length (switch_item ++ rest) ≡ 16 + length rest = length-append switch_item rest in
        let h : reading AfterSwitch (reread_bits AfterSwitch rest) ≡ reading AfterSwitch rest =
        again_shorter AfterSwitch rest (omega arith) in
        ap (λ x. reading AfterReset (reread_bits AfterReset x)) r.1
        ∙ step AfterReset AfterSwitch (switch_item ++ rest) rest Switch (switch_item_after_reset rest)
        (switch_item_after_reset (reread_bits AfterSwitch rest)) h ∙ ap (reading AfterReset) (sym r.1)

lost_rereads : (b : Bool) (bits : List Bool) → trace_ones (b ∷ bits) < 50 → Rereads (length (b ∷ bits))
    → reading Lost (reread_bits Lost (b ∷ bits)) ≡ reading Lost (b ∷ bits)
unfolding Rereads
lost_rereads b bits few again =
    let front : take 49 (reread_bits Lost bits) ≡ take 49 bits = same_front 49 (omega arith) bits in
    junk_step Lost b bits (junk_item_in_lost b bits few)
    (junk_item_in_lost b (reread_bits Lost bits) (few_again b bits (reread_bits Lost bits) front few))
    (again Lost bits (omega arith))

switched_rereads : (b : Bool) (bits : List Bool) → trace_ones (b ∷ bits) < 50 → Rereads (length (b ∷ bits))
    → reading AfterSwitch (reread_bits AfterSwitch (b ∷ bits)) ≡ reading AfterSwitch (b ∷ bits)
unfolding Rereads
switched_rereads b bits few again = elim (trace_bit_cases (trace_all_ones (b ∷ bits))) [
  | inl a ↦ cut_step AfterSwitch b bits
      (first_item_no_reset AfterSwitch b bits few ∙ ap (λ t. if t then cut_first_item (b ∷ bits) else junk_first_item b)
      a)
  | inr a ↦
      let front : take 49 (reread_bits Lost bits) ≡ take 49 bits = same_front 49 (omega arith) bits in
      junk_step AfterSwitch b bits (junk_item_after_switch b bits a few)
      (junk_item_after_switch b (reread_bits Lost bits) (zero_again b bits (reread_bits Lost bits) front few a)
      (few_again b bits (reread_bits Lost bits) front few)) (again Lost bits (omega arith))
]

one_more : (mode : Mode) (bits : List Bool) → Rereads (length bits)
    → reading mode (reread_bits mode bits) ≡ reading mode bits
one_more mode [] again = ap (λ x. reading mode (bits_of_items x)) (reading_no_item mode)
one_more mode (b ∷ bits) again = elim (leb_tells 50 (trace_ones (b ∷ bits)))
    [ inl p ↦ reset_rereads mode b bits p.1 again | inr p ↦ by mode p.1 ]
  where
    by : (mode : Mode) → trace_ones (b ∷ bits) < 50
        → reading mode (reread_bits mode (b ∷ bits)) ≡ reading mode (b ∷ bits)
    by Synced few = synced_rereads b bits few again
    by AfterReset few = after_reset_rereads b bits few again
    by AfterSwitch few = switched_rereads b bits few again
    by Lost few = lost_rereads b bits few again

rereads_to : (n : ℕ) → Rereads n
unfolding Rereads
rereads_to zero mode bits h = absurd (omega arith)
rereads_to (suc n) mode bits h = one_more mode bits (λ m l k. rereads_to n m l (omega arith))

-- the bits of the items of a reading have that same reading, in any mode
pub item_reread_same_reading : (mode : Mode) (bits : List Bool)
    → reading mode (reread_bits mode bits) ≡ reading mode bits
item_reread_same_reading mode bits = one_more mode bits (rereads_to (length bits))

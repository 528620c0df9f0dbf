-- Laws of what held bits decide.
use Rattle.std.proofs.Common.{◌≡◌, ◌≢◌, ℕ, zero, suc, ◌+◌, ◌-◌, ◌<◌, ◌≤◌, Bool, true, false, List, [], ◌∷◌, ◌++◌}
use Rattle.std.proofs.Common.{length, drop, replicate, nat_le, arith, refl, sym, ap, ◌∙◌, subst, inl, inr}
use Rattle.std.specs.Prelude.{nat_lt, ◌&&◌, ◌||◌, ◌==◌, if◌then◌else◌, Option, Some, None}
use Rattle.std.proofs.lemmas.List.{append_assoc, append-nil, drop-append-le, drop-drop, length-append}
use Rattle.std.proofs.lemmas.Bool.{leb-true, le-leb, ne_eqb, eq-eqb, and_parts}
use Rattle.swd_trace.specs.declared.item.Item.{Item}
use Rattle.swd_trace.specs.declared.item.Item.TheVariants.{Reset, Switch, Idle, Tx as TxItem, Junk as JunkItem}
use Rattle.swd_trace.specs.declared.item.Item.TheVariants.{Cut as CutItem}
use Rattle.swd_trace.specs.declared.mode.Mode.TheVariants.{Synced, AfterReset}
use Rattle.swd_trace.specs.Reading.{trace_ones, whole_tx_item, cut_first_item, junk_first_item, FirstItem}
use Rattle.swd_trace.proofs.ReadingLemmas.{trace_bit_cases}
use Rattle.swd_trace.proofs.LawLemmas.{trace_reset_test_complete}
use Rattle.swd_resync.specs.declared.sight.Sight.{Sight}
use Rattle.swd_resync.specs.declared.sight.Sight.TheVariants.{Wait, End, Zero, Ones, Tx, Junk, Cut}
use Rattle.swd_resync.specs.Parts.{resync_first, past_zeros, resync_sound, resync_sound_bits, resync_sound_next, pair}
use Rattle.swd_resync.specs.Parts.{begins_stretch, resync_is_junk, stretch_ended_or_reset, before_pair}
use Rattle.swd_resync.specs.Parts.{resync_is_refused, resync_is_sound_item, stretch_resumes, other_tx_len}
use Rattle.swd_resync.specs.Parts.{has_other_length, other_length_step}
use Rattle.swd_resync.specs.Parts.{stretch_after_tx, in_stretch, stretch_item, item_or_withdrawn, skip_bits}
use Rattle.swd_resync.specs.declared.overrun.Overrun.{Overrun}
use Rattle.swd_bits.specs.declared.tx.Tx.{Tx as Transaction}
use Rattle.swd_resync.specs.Holding.{IsResyncNear}
use Rattle.swd_resync.specs.Sights.{SightMore, IsSight}
use Rattle.swd_resync.specs.Seen.{sight_sound_bits, sight_junk_bit, sight_fifty_ones, sight_end_or_reset}
use Rattle.swd_resync.specs.Seen.{sight_sound_item}
use Rattle.swd_resync.specs.Judged.{Judges, IsJudgedClear}
use Rattle.swd_resync.proofs.StepLemmas.{resync_reset_first}

-- ---- few bits

past_le : (bits : List Bool) → length (past_zeros bits) ≤ length bits
past_le [] = omega arith
past_le (false ∷ bits) = let h = past_le bits in omega arith
past_le (true ∷ bits) = omega arith

-- of fewer than fifty bits, fewer than fifty come after the zeros at the front
pub judged_near_of_few : (bits : List Bool) → length bits < 50 → IsResyncNear 0 bits
judged_near_of_few bits h = let l = past_le bits in record { place = 0; within = omega arith; few = omega arith }

-- where fewer than fifty bits come after at most m bits and zeros, m may be replaced by any greater number
pub judged_near_widened : (m n : ℕ) (bits : List Bool) → m ≤ n → IsResyncNear m bits → IsResyncNear n bits
judged_near_widened m n bits h i = let w : i.place ≤ m = i.within in
    record { place = i.place; within = omega arith; few = i.few }

-- behind some of the bits
pub judged_near_behind : (k m n : ℕ) (bits : List Bool) → k + m ≤ n → IsResyncNear m (drop k bits) → IsResyncNear n bits
judged_near_behind k m n bits h i =
    let w : i.place ≤ m = i.within in
    record {
      place = k + i.place;
      within = omega arith;
      few = subst (λ x. length (past_zeros x) < 50) (drop-drop i.place k bits) i.few;
    }

-- ---- what is read first, from what is seen

-- nothing follows the end
pub judged_no_more : (bits more : List Bool) → more ≡ [] → bits ++ more ≡ bits
judged_no_more bits more e = ap (λ x. bits ++ x) e ∙ append-nil bits

abbrev pub SightShows : Sight → FirstItem → Type 0
SightShows Wait f = Unit {0}
SightShows End f = f ≡ cut_first_item []
SightShows Zero f = (n : ℕ) × (f ≡ record { item = Idle n; after = Synced; taken = n })
SightShows Ones f = (n : ℕ) × (f ≡ record { item = Reset n; after = AfterReset; taken = n })
SightShows (Tx tx len) f = f ≡ whole_tx_item tx len
SightShows Junk f = f ≡ junk_first_item true
SightShows (Cut bits) f = (all : List Bool) × (f ≡ cut_first_item all)

idle_first : (over : Bool) (bits : List Bool) → (n : ℕ)
    × (resync_first over Synced (false ∷ bits) ≡ record { item = Idle n; after = Synced; taken = n })
idle_first false bits = (_, refl)
idle_first true bits = (_, refl)

fifty_more : (bits back more : List Bool) → bits ≡ replicate 50 true ++ back
    → nat_le 50 (trace_ones (bits ++ more)) ≡ true
fifty_more bits back more e = trace_reset_test_complete (bits ++ more)
    (back ++ more, ap (λ x. x ++ more) e ∙ append_assoc (replicate 50 true) back more)

fifty_first : (over : Bool) (bits : List Bool) → nat_le 50 (trace_ones bits) ≡ true → (n : ℕ)
    × (resync_first over Synced bits ≡ record { item = Reset n; after = AfterReset; taken = n })
fifty_first over [] e = absurd cc
fifty_first over (b ∷ bits) e = (_, resync_reset_first over Synced b bits (leb-true 50 (trace_ones (b ∷ bits)) e))

-- what is seen at the front of held bits is what is read first in mode synced, whatever may follow
pub sight_first : (over ended : Bool) (s : Sight) (bits : List Bool) → IsSight over ended s bits → (more : List Bool)
    → SightMore ended more → SightShows s (resync_first over Synced (bits ++ more))
sight_first over ended Wait bits h more may = tt
sight_first over ended End bits h more may =
    ap (resync_first over Synced) (ap (λ x. x ++ more) h.1 ∙ may h.0)
sight_first over ended Zero bits h more may =
    let i = idle_first over (h.0 ++ more) in
    (i.0, ap (λ x. resync_first over Synced (x ++ more)) h.1 ∙ i.1)
sight_first over ended Ones bits h more may = fifty_first over (bits ++ more) (fifty_more bits h.0 more h.1)
sight_first over ended (Tx tx len) bits h more may = h.first more
sight_first over ended Junk bits h more may = h.1 more
sight_first over ended (Cut seen) bits h more may =
    (bits, ap (resync_first over Synced) (judged_no_more bits more (may h.0)) ∙ h.3.first)

-- ---- what a sight says

-- what is seen decides how many bits a sound transaction at the front has (0 without one), or asks for more
pub sight_judges_sound : (over ended : Bool) (s : Sight) (bits : List Bool) → IsSight over ended s bits
    → Judges ended 0 (λ bits. resync_sound over bits) bits (sight_sound_bits s)
sight_judges_sound over ended Wait bits h = (h.0, judged_near_of_few bits h.1)
sight_judges_sound over ended End bits h = λ more may.
    ap (λ f. resync_sound_bits f.item f.taken) (sight_first over ended End bits h more may)
sight_judges_sound over ended Zero bits h = λ more may.
    ap (λ f. resync_sound_bits f.item f.taken) (sight_first over ended Zero bits h more may).1
sight_judges_sound over ended Ones bits h = λ more may.
    ap (λ f. resync_sound_bits f.item f.taken) (sight_first over ended Ones bits h more may).1
sight_judges_sound over ended (Tx tx len) bits h = λ more may.
    ap (λ f. resync_sound_bits f.item f.taken) (sight_first over ended (Tx tx len) bits h more may)
sight_judges_sound over ended Junk bits h = λ more may.
    ap (λ f. resync_sound_bits f.item f.taken) (sight_first over ended Junk bits h more may)
sight_judges_sound over ended (Cut seen) bits h = λ more may.
    ap (λ f. resync_sound_bits f.item f.taken) (sight_first over ended (Cut seen) bits h more may).1

pub sight_judges_junk : (over ended : Bool) (s : Sight) (bits : List Bool) → IsSight over ended s bits
    → Judges ended 0 (λ bits. resync_is_junk (resync_first over Synced bits).item) bits (sight_junk_bit s)
sight_judges_junk over ended Wait bits h = (h.0, judged_near_of_few bits h.1)
sight_judges_junk over ended End bits h = λ more may. ap (λ f. resync_is_junk f.item)
    (sight_first over ended End bits h more may)
sight_judges_junk over ended Zero bits h =
    λ more may. ap (λ f. resync_is_junk f.item) (sight_first over ended Zero bits h more may).1
sight_judges_junk over ended Ones bits h =
    λ more may. ap (λ f. resync_is_junk f.item) (sight_first over ended Ones bits h more may).1
sight_judges_junk over ended (Tx tx len) bits h = λ more may.
    ap (λ f. resync_is_junk f.item) (sight_first over ended (Tx tx len) bits h more may)
sight_judges_junk over ended Junk bits h =
    λ more may. ap (λ f. resync_is_junk f.item) (sight_first over ended Junk bits h more may)
sight_judges_junk over ended (Cut seen) bits h = λ more may.
    ap (λ f. resync_is_junk f.item) (sight_first over ended (Cut seen) bits h more may).1

-- what is seen decides whether it is neither a junk bit nor a transaction that isn't sound, or asks for more bits
pub sight_judges_sound_item : (ended : Bool) (s : Sight) (bits : List Bool) → IsSight false ended s bits
    → Judges ended 0 (λ bits. resync_is_sound_item (resync_first false Synced bits).item) bits (sight_sound_item s)
sight_judges_sound_item ended Wait bits h = (h.0, judged_near_of_few bits h.1)
sight_judges_sound_item ended End bits h = λ more may. ap (λ f. resync_is_sound_item f.item)
    (sight_first false ended End bits h more may)
sight_judges_sound_item ended Zero bits h =
    λ more may. ap (λ f. resync_is_sound_item f.item) (sight_first false ended Zero bits h more may).1
sight_judges_sound_item ended Ones bits h =
    λ more may. ap (λ f. resync_is_sound_item f.item) (sight_first false ended Ones bits h more may).1
sight_judges_sound_item ended (Tx tx len) bits h = λ more may.
    ap (λ f. resync_is_sound_item f.item) (sight_first false ended (Tx tx len) bits h more may)
sight_judges_sound_item ended Junk bits h =
    λ more may. ap (λ f. resync_is_sound_item f.item) (sight_first false ended Junk bits h more may)
sight_judges_sound_item ended (Cut seen) bits h = λ more may.
    ap (λ f. resync_is_sound_item f.item) (sight_first false ended (Cut seen) bits h more may).1

-- whether an item is a line reset
abbrev pub judged_reset : Item → Bool
judged_reset (Reset n) = true
judged_reset Switch = false
judged_reset (Idle n) = false
judged_reset (TxItem tx) = false
judged_reset (JunkItem b) = false
judged_reset (CutItem bits) = false

-- where what is read first in mode synced isn't a line reset, fewer than fifty ones are at the front
pub sight_not_fifty : (over : Bool) (bits : List Bool) → judged_reset (resync_first over Synced bits).item ≡ false
    → nat_le 50 (trace_ones bits) ≡ false
sight_not_fifty over bits e = elim (trace_bit_cases (nat_le 50 (trace_ones bits))) [
  | inl f ↦ (let r : judged_reset (resync_first over Synced bits).item ≡ true = ap (λ g. judged_reset g.item)
      (fifty_first over bits f).1 in absurd cc)
  | inr f ↦ f
]

pub sight_judges_ones : (over ended : Bool) (s : Sight) (bits : List Bool) → IsSight over ended s bits
    → Judges ended 0 (λ bits. nat_le 50 (trace_ones bits)) bits (sight_fifty_ones s)
sight_judges_ones over ended Wait bits h = (h.0, judged_near_of_few bits h.1)
sight_judges_ones over ended End bits h = λ more may.
    sight_not_fifty over (bits ++ more) (ap (λ f. judged_reset f.item) (sight_first over ended End bits h more may))
sight_judges_ones over ended Zero bits h = λ more may.
    sight_not_fifty over (bits ++ more) (ap (λ f. judged_reset f.item) (sight_first over ended Zero bits h more may).1)
sight_judges_ones over ended Ones bits h = λ more may. fifty_more bits h.0 more h.1
sight_judges_ones over ended (Tx tx len) bits h = λ more may.
    sight_not_fifty over (bits ++ more) (ap (λ f. judged_reset f.item)
    (sight_first over ended (Tx tx len) bits h more may))
sight_judges_ones over ended Junk bits h = λ more may.
    sight_not_fifty over (bits ++ more) (ap (λ f. judged_reset f.item) (sight_first over ended Junk bits h more may))
sight_judges_ones over ended (Cut seen) bits h = λ more may.
    sight_not_fifty over (bits ++ more) (ap (λ f. judged_reset f.item)
    (sight_first over ended (Cut seen) bits h more may).1)

-- behind a bit that is there, the end is decided by the ones
ends_by_ones : (bits more : List Bool) (t : Bool) → bits ≢ [] → nat_le 50 (trace_ones (bits ++ more)) ≡ t
    → stretch_ended_or_reset (bits ++ more) ≡ t
ends_by_ones [] more t n e = absurd (n refl)
ends_by_ones (b ∷ bits) more t n e = e

some_cut : (bits : List Bool) → 0 < length bits → bits ≢ []
some_cut [] h = absurd (omega arith)
some_cut (b ∷ bits) h = λ e. cc

-- what is seen decides whether there are no bits or fifty ones, or asks for more bits
pub sight_judges_end : (over ended : Bool) (s : Sight) (bits : List Bool) → IsSight over ended s bits
    → Judges ended 0 (λ bits. stretch_ended_or_reset bits) bits (sight_end_or_reset s)
sight_judges_end over ended Wait bits h = (h.0, judged_near_of_few bits h.1)
sight_judges_end over ended End bits h = λ more may. ap stretch_ended_or_reset (ap (λ x. x ++ more) h.1 ∙ may h.0)
sight_judges_end over ended Zero bits h = λ more may. ap (λ x. stretch_ended_or_reset (x ++ more)) h.1
sight_judges_end over ended Ones bits h = λ more may.
    ends_by_ones bits more true (subst (λ x. x ≢ []) (sym h.1) (λ e. cc))
    (sight_judges_ones over ended Ones bits h more may)
sight_judges_end over ended (Tx tx len) bits h = λ more may.
    let some : 12 ≤ len = h.some in
    let fits : len ≤ length bits = h.fits in
    ends_by_ones bits more false (some_cut bits (omega arith))
    (sight_judges_ones over ended (Tx tx len) bits h more may)
sight_judges_end over ended Junk bits h = λ more may.
    ends_by_ones bits more false h.0 (sight_judges_ones over ended Junk bits h more may)
sight_judges_end over ended (Cut seen) bits h = λ more may.
    ends_by_ones bits more false (some_cut bits h.3.some) (sight_judges_ones over ended (Cut seen) bits h more may)

pub sight_junk_clear : (over ended : Bool) (s : Sight) (bits : List Bool) → IsSight over ended s bits
    → IsJudgedClear ended bits (sight_junk_bit s)
sight_junk_clear over ended Wait bits h = tt
sight_junk_clear over ended End bits h = λ e. h.0
sight_junk_clear over ended Zero bits h = λ e. (let f : [] ≡ false ∷ h.0 = sym e ∙ h.1 in absurd cc)
sight_junk_clear over ended Ones bits h = λ e. (let f : [] ≡ replicate 50 true ++ h.0 = sym e ∙ h.1 in absurd cc)
sight_junk_clear over ended (Tx tx len) bits h = λ e.
    let some : 12 ≤ len = h.some in
    let fits : len ≤ length bits = h.fits in
    let none : length bits ≡ 0 = ap length e in
    absurd (omega arith)
sight_junk_clear over ended Junk bits h = λ e. absurd (h.0 e)
sight_junk_clear over ended (Cut seen) bits h = λ e. h.0

pub sight_sound_item_clear : (ended : Bool) (s : Sight) (bits : List Bool) → IsSight false ended s bits
    → IsJudgedClear ended bits (sight_sound_item s)
sight_sound_item_clear ended Wait bits h = tt
sight_sound_item_clear ended End bits h = λ e. h.0
sight_sound_item_clear ended Zero bits h = λ e. (let f : [] ≡ false ∷ h.0 = sym e ∙ h.1 in absurd cc)
sight_sound_item_clear ended Ones bits h = λ e. (let f : [] ≡ replicate 50 true ++ h.0 = sym e ∙ h.1 in absurd cc)
sight_sound_item_clear ended (Tx tx len) bits h = λ e.
    let some : 12 ≤ len = h.some in
    let fits : len ≤ length bits = h.fits in
    let none : length bits ≡ 0 = ap length e in
    absurd (omega arith)
sight_sound_item_clear ended Junk bits h = λ e. absurd (h.0 e)
sight_sound_item_clear ended (Cut seen) bits h = λ e. h.0

-- ---- behind zeros

past_twice : (bits : List Bool) → past_zeros (past_zeros bits) ≡ past_zeros bits
past_twice [] = refl
past_twice (false ∷ bits) = past_twice bits
past_twice (true ∷ bits) = refl

past_append : (bits more : List Bool) → past_zeros bits ≢ [] → past_zeros (bits ++ more) ≡ past_zeros bits ++ more
past_append [] more n = absurd (n refl)
past_append (false ∷ bits) more n = past_append bits more n
past_append (true ∷ bits) more n = refl

past_more : (ended : Bool) (bits more : List Bool) → (past_zeros bits ≡ [] → ended ≡ true) → SightMore ended more
    → past_zeros (bits ++ more) ≡ past_zeros bits ++ more
past_more true bits more clear may =
    ap past_zeros (judged_no_more bits more (may refl)) ∙ sym (judged_no_more (past_zeros bits) more (may refl))
past_more false bits more clear may = past_append bits more (λ e. let f : false ≡ true = clear e in cc)

near_past : (bits : List Bool) → IsResyncNear 0 (past_zeros bits) → IsResyncNear 0 bits
near_past bits i =
    let w : i.place ≤ 0 = i.within in
    let z : i.place ≡ 0 = omega arith in
    record {
      place = 0;
      within = omega arith;
      few = subst (λ x. length x < 50) (ap (λ n. past_zeros (drop n (past_zeros bits))) z ∙ past_twice bits) i.few;
    }

pub judged_value_past_zeros : {A : Type 0} (ended : Bool) (value : List Bool → A) (bits : List Bool) (r : Option A)
    → Judges ended 0 value (past_zeros bits) r → IsJudgedClear ended (past_zeros bits) r
    → Judges ended 0 (λ bits. value (past_zeros bits)) bits r
judged_value_past_zeros ended value bits (Some a) j clear =
    λ more may. ap value (past_more ended bits more clear may) ∙ j more may
judged_value_past_zeros ended value bits None j clear = (j.0, near_past bits j.1)

-- ---- a pair, and a stretch

-- the tests for more than 0 and for at least 1 agree
pub judged_one_or_more : (n : ℕ) → nat_lt 0 n ≡ nat_le 1 n
judged_one_or_more zero = refl
judged_one_or_more (suc n) = refl

-- behind a sound transaction, whether another one comes after any zeros decides whether there is a pair
pub pair_judged : (over ended : Bool) (bits : List Bool) (n : ℕ) (r : Option Bool)
    → ((more : List Bool) → SightMore ended more → resync_sound over (bits ++ more) ≡ n) → 0 < n → n ≤ length bits
    → n ≤ 46
    → Judges ended 0 (λ bits. resync_sound_next bits) (drop n bits) r
    → Judges ended 46 (λ bits. pair over bits) bits r
pair_judged over ended bits n (Some t) here some fits short j = λ more may.
    ap (λ m. nat_le 1 m && resync_sound_next (drop m (bits ++ more))) (here more may)
    ∙ ap (λ t. t && resync_sound_next (drop n (bits ++ more))) (le-leb 1 n some)
    ∙ ap resync_sound_next (drop-append-le n bits more fits) ∙ j more may
pair_judged over ended bits n None here some fits short j = (j.0, judged_near_behind n 0 46 bits (omega arith) j.1)

-- where fifty ones aren't at the front, whether there is a pair decides whether a stretch begins
pub stretch_begin_judged : (over ended : Bool) (bits : List Bool) (r : Option Bool)
    → ((more : List Bool) → SightMore ended more → nat_le 50 (trace_ones (bits ++ more)) ≡ false)
    → Judges ended 46 (λ bits. pair over bits) bits r → Judges ended 46 (λ bits. begins_stretch over bits) bits r
stretch_begin_judged over ended bits (Some t) none j = λ more may.
    ap (λ t. t || pair over (bits ++ more)) (none more may) ∙ j more may
stretch_begin_judged over ended bits None none j = j

-- ---- the bits before a pair

-- how many of n bits, at least one, come before a pair: 0 where it is at the front, else one more than of the
-- n - 1 after the first
pub judged_before_pair_next : (over : Bool) (n : ℕ) (bits : List Bool) (t : Bool) → 0 < n → pair over bits ≡ t
    → before_pair over n bits ≡ (if t then 0 else suc (before_pair over (n - 1) (drop 1 bits)))
judged_before_pair_next over zero bits t h e = absurd (omega arith)
judged_before_pair_next over (suc n) bits t h e =
    let m : suc n - 1 ≡ n = omega arith in
    ap (λ t. if t then 0 else suc (before_pair over n (drop 1 bits))) e
    ∙ ap (λ k. if t then 0 else suc (before_pair over k (drop 1 bits))) (sym m)

-- ---- as the functions ask

-- what is seen decides whether fifty ones are at the front, or asks for more bits
pub judged_ones_by_sight : (over ended : Bool) (bits : List Bool) (s : Sight) (r : Option Bool)
    → IsSight over ended s bits → r ≡ sight_fifty_ones s → Judges ended 0 (λ bits. nat_le 50 (trace_ones bits)) bits r
judged_ones_by_sight over ended bits s r h e = subst (Judges ended 0 (λ bits. nat_le 50 (trace_ones bits)) bits) (sym e)
    (sight_judges_ones over ended s bits h)

-- what is seen behind the zeros at the front decides whether a junk bit is there, or asks for more bits
pub judged_junk_past_zeros : (over ended : Bool) (bits behind : List Bool) (s : Sight) (r : Option Bool)
    → behind ≡ past_zeros bits → IsSight over ended s behind → r ≡ sight_junk_bit s
    → Judges ended 0 (λ bits. resync_is_junk (resync_first over Synced (past_zeros bits)).item) bits r
judged_junk_past_zeros over ended bits behind s r b h e =
    let seen : IsSight over ended s (past_zeros bits) = subst (IsSight over ended s) b h in
    subst (Judges ended 0 (λ bits. resync_is_junk (resync_first over Synced (past_zeros bits)).item) bits) (sym e)
    (judged_value_past_zeros ended (λ bits. resync_is_junk (resync_first over Synced bits).item) bits (sight_junk_bit s)
    (sight_judges_junk over ended s (past_zeros bits) seen) (sight_junk_clear over ended s (past_zeros bits) seen))

-- what is decided of a sound transaction by the bits behind the zeros at the front is decided by all the bits
pub judged_sound_past_zeros : (over ended : Bool) (bits behind : List Bool) (r : Option ℕ) → behind ≡ past_zeros bits
    → Judges ended 0 (λ bits. resync_sound over bits) behind r → IsJudgedClear ended behind r
    → Judges ended 0 (λ bits. resync_sound over (past_zeros bits)) bits r
judged_sound_past_zeros over ended bits behind r b j clear =
    judged_value_past_zeros ended (λ bits. resync_sound over bits) bits r
    (subst (λ x. Judges ended 0 (λ bits. resync_sound over bits) x r) b j)
    (subst (λ x. IsJudgedClear ended x r) b clear)

-- what is seen behind the zeros at the front decides whether the stretch would resume there, or asks for more bits
pub judged_sound_item_past_zeros : (ended : Bool) (bits behind : List Bool) (s : Sight) (r : Option Bool)
    → behind ≡ past_zeros bits → IsSight false ended s behind → r ≡ sight_sound_item s
    → Judges ended 0 (λ bits. stretch_resumes bits) bits r
judged_sound_item_past_zeros ended bits behind s r b h e =
    let seen : IsSight false ended s (past_zeros bits) = subst (IsSight false ended s) b h in
    subst (Judges ended 0 (λ bits. stretch_resumes bits) bits) (sym e)
    (judged_value_past_zeros ended (λ bits. resync_is_sound_item (resync_first false Synced bits).item) bits
    (sight_sound_item s) (sight_judges_sound_item ended s (past_zeros bits) seen)
    (sight_sound_item_clear ended s (past_zeros bits) seen))

-- ---- the other length

-- a transaction has at most 46 bits with either length
pub judged_other_len_most : (phases : Bool) → other_tx_len phases ≤ 46
judged_other_len_most true = omega arith
judged_other_len_most false = omega arith

-- where a transaction has its other length whatever follows, these bits are held
pub judged_other_len_fits : (phases ended : Bool) (item : Item) (bits : List Bool)
    → ((more : List Bool) → SightMore ended more → has_other_length phases item (bits ++ more) ≡ true)
    → other_tx_len phases ≤ length bits
judged_other_len_fits phases ended item bits j =
    let p = and_parts (resync_is_refused item) _ (j [] (λ e. refl)) in
    let q = and_parts (nat_le (other_tx_len phases) (length (bits ++ []))) _ p.1 in
    subst (λ x. other_tx_len phases ≤ length x) (append-nil bits) (leb-true _ _ q.0)

-- an item that isn't WAIT or FAULT has no other length
pub judged_no_other_length : (phases : Bool) (item : Item) (bits : List Bool) → resync_is_refused item ≡ false
    → has_other_length phases item bits ≡ false
judged_no_other_length phases item bits e = ap (λ t. t
    && (nat_le (other_tx_len phases) (length bits) && stretch_resumes (drop (other_tx_len phases) bits))) e

-- too few bits for the other length
pub judged_too_few_for_other : (phases : Bool) (item : Item) (bits : List Bool)
    → nat_le (other_tx_len phases) (length bits) ≡ false → has_other_length phases item bits ≡ false
judged_too_few_for_other phases item bits e =
    ap (λ t. resync_is_refused item && (t && stretch_resumes (drop (other_tx_len phases) bits))) e
    ∙ and_false (resync_is_refused item)
  where
    and_false : (t : Bool) → (t && false) ≡ false
    and_false true = refl
    and_false false = refl

-- where there are enough bits for the other length of WAIT or FAULT, what comes behind them decides
pub judged_other_length : (phases ended : Bool) (item : Item) (n : ℕ) (bits : List Bool) (r : Option Bool)
    → resync_is_refused item ≡ true → n ≡ other_tx_len phases → n ≤ length bits → n ≤ 46
    → Judges ended 0 (λ bits. stretch_resumes bits) (drop n bits) r
    → Judges ended 46 (λ bits. has_other_length phases item bits) bits r
judged_other_length phases ended item n bits (Some t) e same fits short j = λ more may.
    let l : length (bits ++ more) ≡ length bits + length more = length-append bits more in
    ap (λ t. t && (nat_le (other_tx_len phases) (length (bits ++ more))
    && stretch_resumes (drop (other_tx_len phases) (bits ++ more)))) e
    ∙ ap (λ m. nat_le m (length (bits ++ more)) && stretch_resumes (drop m (bits ++ more))) (sym same)
    ∙ ap (λ t. t && stretch_resumes (drop n (bits ++ more))) (le-leb n (length (bits ++ more)) (omega arith))
    ∙ ap stretch_resumes (drop-append-le n bits more fits) ∙ j more may
judged_other_length phases ended item n bits None e same fits short j =
    (j.0, judged_near_behind n 0 46 bits (omega arith) j.1)

-- where the stretch doesn't continue, the other length decides
pub judged_or_other : (ended : Bool) (A H : List Bool → Bool) (bits : List Bool) (r : Option Bool)
    → ((more : List Bool) → SightMore ended more → A (bits ++ more) ≡ false) → Judges ended 46 H bits r
    → Judges ended 92 (λ bits. A bits || H bits) bits r
judged_or_other ended A H bits (Some t) f j = λ more may. ap (λ t. t || H (bits ++ more)) (f more may) ∙ j more may
judged_or_other ended A H bits None f j = (j.0, judged_near_widened 46 92 bits (omega arith) j.1)

-- ---- a transaction in a stretch

-- in a stretch, a transaction after which it continues is reported
pub stretch_reports_followed_tx : (over : Overrun) (tx : Transaction) (len : ℕ) (bits : List Bool)
    → stretch_after_tx tx.result (drop len bits) ≡ true
    → in_stretch over (whole_tx_item tx len) bits ≡ stretch_item over (whole_tx_item tx len)
stretch_reports_followed_tx over tx len bits e =
    ap (λ t. if t then stretch_item over (whole_tx_item tx len)
    else if has_other_length over.phases (TxItem tx) bits then other_length_step over (TxItem tx)
    else item_or_withdrawn over (whole_tx_item tx len) bits) e

-- in a stretch, a transaction after which it doesn't continue, but would with the other length, has that
pub stretch_turns_lost_tx : (over : Overrun) (tx : Transaction) (len : ℕ) (bits : List Bool)
    → stretch_after_tx tx.result (drop len bits) ≡ false → has_other_length over.phases (TxItem tx) bits ≡ true
    → in_stretch over (whole_tx_item tx len) bits ≡ other_length_step over (TxItem tx)
stretch_turns_lost_tx over tx len bits e f =
    ap (λ t. if t then stretch_item over (whole_tx_item tx len)
    else if has_other_length over.phases (TxItem tx) bits then other_length_step over (TxItem tx)
    else item_or_withdrawn over (whole_tx_item tx len) bits) e
    ∙ ap (λ t. if t then other_length_step over (TxItem tx)
    else item_or_withdrawn over (whole_tx_item tx len) bits) f

-- with neither, what comes before the first pair inside of it decides
lost_by_pair : (over : Overrun) (tx : Transaction) (len before : ℕ) (bits : List Bool)
    → stretch_after_tx tx.result (drop len bits) ≡ false → has_other_length over.phases (TxItem tx) bits ≡ false
    → before_pair over.phases (len - 1) (drop 1 bits) ≡ before
    → in_stretch over (whole_tx_item tx len) bits
    ≡ (if before == len - 1 then stretch_item over (whole_tx_item tx len) else skip_bits over (suc before))
lost_by_pair over tx len before bits e f g =
    ap (λ t. if t then stretch_item over (whole_tx_item tx len)
    else if has_other_length over.phases (TxItem tx) bits then other_length_step over (TxItem tx)
    else item_or_withdrawn over (whole_tx_item tx len) bits) e
    ∙ ap (λ t. if t then other_length_step over (TxItem tx)
    else item_or_withdrawn over (whole_tx_item tx len) bits) f
    ∙ ap (λ m. if m == len - 1 then stretch_item over (whole_tx_item tx len) else skip_bits over (suc m)) g

-- in a stretch, a transaction inside of which no pair begins is reported all the same
pub stretch_reports_lost_tx : (over : Overrun) (tx : Transaction) (len before : ℕ) (bits : List Bool)
    → stretch_after_tx tx.result (drop len bits) ≡ false → has_other_length over.phases (TxItem tx) bits ≡ false
    → before_pair over.phases (len - 1) (drop 1 bits) ≡ before → before ≡ len - 1
    → in_stretch over (whole_tx_item tx len) bits ≡ stretch_item over (whole_tx_item tx len)
stretch_reports_lost_tx over tx len before bits e f g n =
    lost_by_pair over tx len before bits e f g
    ∙ ap (λ t. if t then stretch_item over (whole_tx_item tx len) else skip_bits over (suc before))
    (eq-eqb before (len - 1) n)

-- in a stretch, a transaction after which it doesn't continue, and in which a pair begins, is withdrawn: the
-- bits before that pair are skipped
pub stretch_withdraws_to_pair : (over : Overrun) (tx : Transaction) (len before : ℕ) (bits : List Bool)
    → stretch_after_tx tx.result (drop len bits) ≡ false → has_other_length over.phases (TxItem tx) bits ≡ false
    → before_pair over.phases (len - 1) (drop 1 bits) ≡ before → (before ≡ len - 1 → ⊥)
    → in_stretch over (whole_tx_item tx len) bits ≡ skip_bits over (before + 1)
stretch_withdraws_to_pair over tx len before bits e f g n =
    let one : suc before ≡ before + 1 = omega arith in
    lost_by_pair over tx len before bits e f g
    ∙ ap (λ t. if t then stretch_item over (whole_tx_item tx len) else skip_bits over (suc before))
    (ne_eqb before (len - 1) n)
    ∙ ap (skip_bits over) one

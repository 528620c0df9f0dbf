-- Laws of the steps of the reading of captures.
use Rattle.std.proofs.Common.{◌≡◌, ℕ, zero, suc, ◌+◌, ◌-◌, ◌<◌, ◌≤◌, Bool, true, false, List, [], ◌∷◌, length}
use Rattle.std.proofs.Common.{take, drop, nat_le, refl, sym, ap, ◌∙◌, subst, arith, inl, inr, ◌⊎◌}
use Rattle.std.specs.Prelude.{if◌then◌else◌, ◌&&◌, ◌||◌, ◌==◌, min}
use Rattle.std.proofs.lemmas.List.{length-take-le, length-append, length-drop, take-take, take_at, append-nil}
use Rattle.std.proofs.lemmas.List.{drop-drop}
use Rattle.std.proofs.lemmas.Bool.{leb-true, eqb-false, or_cases, and_parts}
use Rattle.swd_trace.specs.declared.item.Item.{Item}
use Rattle.swd_trace.specs.declared.item.Item.TheVariants.{Reset, Switch, Idle, Tx, Junk, Cut}
use Rattle.swd_trace.specs.declared.mode.Mode.{Mode}
use Rattle.swd_trace.specs.declared.mode.Mode.TheVariants.{Synced, AfterReset}
use Rattle.swd_trace.specs.Reading.{trace_ones, FirstItem}
use Rattle.swd_trace.proofs.StandLemmas.{stand_by_test}
use Rattle.swd_trace.proofs.ReadingLemmas.{first_item_is_reset}
use Rattle.swd_resync.specs.declared.part.Part.{Part}
use Rattle.swd_resync.specs.declared.overrun.Overrun.{Overrun}
use Rattle.swd_resync.specs.declared.part.Part.TheVariants.{Item as Told, Phased, Skip}
use Rattle.swd_resync.specs.Parts.{resync_with_phase, resync_first, resync_is_junk, resync_sound_bits, resync_sound}
use Rattle.swd_resync.specs.Parts.{pair, begins_stretch, stretch_gap, before_pair, stretch_after_item, ResyncPlace}
use Rattle.swd_resync.specs.Parts.{InStretch, AtPhase, Between, ResyncStep, stretch_item, skip_bits, stretch_or_skip}
use Rattle.swd_resync.specs.Parts.{item_or_withdrawn, in_stretch, resync_step, resync_told, resync_place_after}
use Rattle.swd_resync.specs.Parts.{resync_is_refusal, resync_is_refused, overrun_after_item, other_tx_len}
use Rattle.swd_resync.specs.Parts.{has_other_length, other_length_step, synced_step, skip_phase, skip_before_step}
use Rattle.swd_resync.specs.Divisions.{ResyncPartHasBits, StretchShows}
use Rattle.swd_resync.proofs.FirstLemmas.{ResyncTakes, resync_first_takes_bits, resync_refused_tx_len}

-- ---- tests

pub resync_or_right : (a b : Bool) → b ≡ true → (a || b) ≡ true
resync_or_right true b e = refl
resync_or_right false b e = e

-- ---- what begins a stretch

-- fifty ones are a reset, whatever the mode
pub resync_reset_first : (over : Bool) (mode : Mode) (b : Bool) (bits : List Bool) → 50 ≤ trace_ones (b ∷ bits) →
    resync_first over mode (b ∷ bits) ≡
    record { item = Reset (trace_ones (b ∷ bits)); after = AfterReset; taken = trace_ones (b ∷ bits) }
resync_reset_first false mode b bits h = first_item_is_reset mode b bits h
resync_reset_first true mode b bits h = ap (λ f. resync_with_phase true f (b ∷ bits))
    (first_item_is_reset mode b bits h)

-- a sound transaction isn't a junk bit
pub resync_sound_not_junk : (item : Item) (n : ℕ) → nat_le 1 (resync_sound_bits item n) ≡ true
    → resync_is_junk item ≡ false
resync_sound_not_junk (Tx tx) n e = refl
resync_sound_not_junk (Reset m) n e = refl
resync_sound_not_junk Switch n e = refl
resync_sound_not_junk (Idle m) n e = refl
resync_sound_not_junk (Junk b) n e = absurd cc
resync_sound_not_junk (Cut off) n e = refl

-- where a stretch begins, what is read first in mode synced isn't a junk bit
pub stretch_begin_not_junk : (over : Bool) (bits : List Bool) → begins_stretch over bits ≡ true
    → resync_is_junk (resync_first over Synced bits).item ≡ false
stretch_begin_not_junk over [] e = refl
stretch_begin_not_junk over (b ∷ bits) e =
    elim (or_cases (nat_le 50 (trace_ones (b ∷ bits))) (pair over (b ∷ bits)) e) [
      | inl many ↦ ap (λ f. resync_is_junk f.item)
          (resync_reset_first over Synced b bits (leb-true 50 (trace_ones (b ∷ bits)) many))
      | inr both ↦ resync_sound_not_junk (resync_first over Synced (b ∷ bits)).item
          (resync_first over Synced (b ∷ bits)).taken (and_parts (nat_le 1 (resync_sound over (b ∷ bits))) _ both).0
    ]

-- ---- the bits before a stretch

pub stretch_gap_le : (over : Bool) (bits : List Bool) → stretch_gap over bits ≤ length bits
stretch_gap_le over [] = omega arith
stretch_gap_le over (b ∷ bits) =
    stand_by_test (begins_stretch over (b ∷ bits)) 0 (suc (stretch_gap over bits)) (λ n. n ≤ length (b ∷ bits))
    (λ e. omega arith) (λ e. let h = stretch_gap_le over bits in omega arith)

-- where no stretch begins at a bit, the bits before the next stretch are that bit and those counted behind it
pub stretch_gap_none : (over : Bool) (b : Bool) (bits : List Bool) → begins_stretch over (b ∷ bits) ≡ false
    → stretch_gap over (b ∷ bits) ≡ suc (stretch_gap over bits)
stretch_gap_none over b bits e = ap (λ t. if t then 0 else suc (stretch_gap over bits)) e

-- where a stretch begins, no bits come before it
pub stretch_gap_here : (over : Bool) (bits : List Bool) → begins_stretch over bits ≡ true → stretch_gap over bits ≡ 0
stretch_gap_here over [] e = refl
stretch_gap_here over (b ∷ bits) e = ap (λ t. if t then 0 else suc (stretch_gap over bits)) e

-- behind them a stretch begins, or nothing is left
pub stretch_behind_gap : (over : Bool) (bits : List Bool) → (drop (stretch_gap over bits) bits ≡ [])
    ⊎ (begins_stretch over (drop (stretch_gap over bits) bits) ≡ true)
stretch_behind_gap over [] = inl refl
stretch_behind_gap over (b ∷ bits) =
    stand_by_test (begins_stretch over (b ∷ bits)) 0 (suc (stretch_gap over bits))
    (λ n. (drop n (b ∷ bits) ≡ []) ⊎ (begins_stretch over (drop n (b ∷ bits)) ≡ true)) (λ e. inr e)
    (λ e. stretch_behind_gap over bits)

-- no place before them has a pair or fifty ones
pub stretch_gap_least : (over : Bool) (bits : List Bool) (n : ℕ) → begins_stretch over (drop n bits) ≡ true
    → stretch_gap over bits ≤ n
stretch_gap_least over [] n e = omega arith
stretch_gap_least over (b ∷ bits) zero e = let h = stretch_gap_here over (b ∷ bits) e in omega arith
stretch_gap_least over (b ∷ bits) (suc n) e =
    stand_by_test (begins_stretch over (b ∷ bits)) 0 (suc (stretch_gap over bits)) (λ m. m ≤ suc n) (λ t. omega arith)
    (λ t. let h = stretch_gap_least over bits n e in omega arith)

-- where there is a pair, a stretch begins
pub pair_begins_stretch : (over : Bool) (bits : List Bool) → pair over bits ≡ true → begins_stretch over bits ≡ true
pair_begins_stretch over bits e = resync_or_right (nat_le 50 (trace_ones bits)) (pair over bits) e

-- ---- a pair inside of a transaction

pub before_pair_le : (over : Bool) (n : ℕ) (bits : List Bool) → before_pair over n bits ≤ n
before_pair_le over zero bits = omega arith
before_pair_le over (suc n) bits =
    stand_by_test (pair over bits) 0 (suc (before_pair over n (drop 1 bits))) (λ m. m ≤ suc n) (λ e. omega arith)
    (λ e. let h = before_pair_le over n (drop 1 bits) in omega arith)

pub pair_behind_before : (over : Bool) (n : ℕ) (bits : List Bool) → before_pair over n bits < n
    → pair over (drop (before_pair over n bits) bits) ≡ true
pair_behind_before over zero bits h = absurd (omega arith)
pair_behind_before over (suc n) bits k =
    stand_by_test (pair over bits) 0 (suc (before_pair over n (drop 1 bits)))
    (λ m. m < suc n → pair over (drop m bits) ≡ true) (λ e h. e)
    (λ e h. subst (λ x. pair over x ≡ true) (sym (next (before_pair over n (drop 1 bits)) bits))
    (pair_behind_before over n (drop 1 bits) (omega arith))) k
  where
    next : (m : ℕ) (bits : List Bool) → drop (suc m) bits ≡ drop m (drop 1 bits)
    next zero [] = refl
    next (suc m) [] = refl
    next zero (b ∷ bits) = refl
    next (suc m) (b ∷ bits) = refl

-- ---- a step

-- whether a part is a skip
abbrev pub resync_is_skip : Part → Bool
resync_is_skip (Skip n) = true
resync_is_skip (Told item) = false
resync_is_skip (Phased tx) = false

-- what follows a skip: a part that isn't one, or nothing
abbrev pub StretchAfterSkip : Overrun → Part → ResyncPlace → List Bool → Type 0
StretchAfterSkip over (Told item) after rest = Unit {0}
StretchAfterSkip over (Phased tx) after rest = Unit {0}
StretchAfterSkip over (Skip n) after rest =
    (rest ≡ []) ⊎ (resync_is_skip (resync_step over after rest).part ≡ false)

pub record ResyncSteps (bits : List Bool) (s : ResyncStep) : Type 0 where
  pub some : 0 < s.taken
  pub fits : s.taken ≤ length bits
  pub shows : ResyncPartHasBits s.part (take s.taken bits)
  pub goes : StretchAfterSkip s.over s.part s.after (drop s.taken bits)

no_skip_goes : (over : Overrun) (part : Part) (after : ResyncPlace) (rest : List Bool) → resync_is_skip part ≡ false
    → StretchAfterSkip over part after rest
no_skip_goes over (Told item) after rest e = tt
no_skip_goes over (Phased tx) after rest e = tt
no_skip_goes over (Skip n) after rest e = absurd cc

-- a reported item is no skip
pub resync_told_no_skip : (phases : Bool) (item : Item) → resync_is_skip (resync_told phases item) ≡ false
resync_told_no_skip phases (Tx tx) =
    stand_by_test (phases && resync_is_refusal tx.result) (Phased tx) (Told (Tx tx))
    (λ p. resync_is_skip p ≡ false) (λ e. refl) (λ e. refl)
resync_told_no_skip phases (Reset n) = refl
resync_told_no_skip phases Switch = refl
resync_told_no_skip phases (Idle n) = refl
resync_told_no_skip phases (Junk b) = refl
resync_told_no_skip phases (Cut bits) = refl

-- its bits are the part's
told_shows : (phases : Bool) (item : Item) (bits : List Bool) → StretchShows phases item bits
    → ResyncPartHasBits (resync_told phases item) bits
told_shows false (Tx tx) bits h = h
told_shows true (Tx tx) bits h =
    stand_by_test (resync_is_refusal tx.result) (Phased tx) (Told (Tx tx)) (λ p. ResyncPartHasBits p bits)
    (λ r. (r, h)) (λ r. (h.0, h.1, h.2, h.3, h.4 ∙ ap (λ t. if t then 33 else 0) r))
told_shows phases (Reset n) bits h = h
told_shows phases Switch bits h = h
told_shows phases (Idle n) bits h = h
told_shows phases (Junk b) bits h = h
told_shows phases (Cut cut) bits h = h

steps_told : (over : Overrun) (bits : List Bool) (f : FirstItem) → ResyncTakes over.phases bits f
    → resync_is_junk f.item ≡ false → ResyncSteps bits (stretch_item over f)
steps_told over bits f t j = record {
  some = t.some;
  fits = t.fits;
  shows = told_shows over.phases f.item (take f.taken bits) (t.shows j);
  goes = no_skip_goes (overrun_after_item over f.item) (resync_told over.phases f.item) (resync_place_after f.after)
      (drop f.taken bits) (resync_told_no_skip over.phases f.item);
}

-- where a stretch begins, it begins with an item
begin_no_skip : (over : Overrun) (bits : List Bool) → begins_stretch over.phases bits ≡ true
    → resync_is_skip (resync_step over Between bits).part ≡ false
begin_no_skip over bits e =
    ap (λ t. resync_is_skip (if t then stretch_item over (resync_first over.phases Synced bits)
    else skip_bits over (stretch_gap over.phases bits)).part) e
    ∙ resync_told_no_skip over.phases (resync_first over.phases Synced bits).item

steps_skipped : (over : Overrun) (bits : List Bool) (n : ℕ) → 0 < n → n ≤ length bits
    → (drop n bits ≡ []) ⊎ (begins_stretch over.phases (drop n bits) ≡ true) → ResyncSteps bits (skip_bits over n)
steps_skipped over bits n h l g = record {
  some = h;
  fits = l;
  shows = (h, length-take-le n bits l);
  goes = elim g [
    | inl e ↦ inl e
    | inr e ↦ inr (begin_no_skip over (drop n bits) e)
  ];
}

pub resync_step_between : (over : Overrun) (b : Bool) (bits : List Bool)
    → ResyncSteps (b ∷ bits) (stretch_or_skip over (b ∷ bits))
resync_step_between over b bits =
    stand_by_test (begins_stretch over.phases (b ∷ bits)) (stretch_item over (resync_first over.phases Synced
    (b ∷ bits)))
    (skip_bits over (stretch_gap over.phases (b ∷ bits))) (λ s. ResyncSteps (b ∷ bits) s)
    (λ e. steps_told over (b ∷ bits) (resync_first over.phases Synced (b ∷ bits))
    (resync_first_takes_bits over.phases Synced b bits)
    (stretch_begin_not_junk over.phases (b ∷ bits) e)) (λ e.
    let n = stretch_gap_none over.phases b bits e in
    steps_skipped over (b ∷ bits) (stretch_gap over.phases (b ∷ bits)) (omega arith)
    (stretch_gap_le over.phases (b ∷ bits))
    (stretch_behind_gap over.phases (b ∷ bits)))

steps_withdrawn : (over : Overrun) (b : Bool) (bits : List Bool) (f : FirstItem)
    → ResyncTakes over.phases (b ∷ bits) f
    → resync_is_junk f.item ≡ false → ResyncSteps (b ∷ bits) (item_or_withdrawn over f (b ∷ bits))
steps_withdrawn over b bits f t j =
    stand_by_test (before_pair over.phases (f.taken - 1) bits == f.taken - 1) (stretch_item over f)
    (skip_bits over (suc (before_pair over.phases (f.taken - 1) bits)))
    (λ s. ResyncSteps (b ∷ bits) s) (λ e. steps_told over (b ∷ bits) f t j)
    (λ e.
    let some : 0 < f.taken = t.some in
    let fits : f.taken ≤ length (b ∷ bits) = t.fits in
    let most = before_pair_le over.phases (f.taken - 1) bits in
    let less : before_pair over.phases (f.taken - 1) bits < f.taken - 1 = fewer _ _ most e in
    steps_skipped over (b ∷ bits) (suc (before_pair over.phases (f.taken - 1) bits)) (omega arith) (omega arith)
    (inr (pair_begins_stretch over.phases (drop (before_pair over.phases (f.taken - 1) bits) bits)
    (pair_behind_before over.phases (f.taken - 1) bits less))))
  where
    fewer : (m n : ℕ) → m ≤ n → (m == n) ≡ false → m < n
    fewer m n h e = let d : m ≡ n → ⊥ = eqb-false m n e in omega arith

-- the first 13 bits of WAIT and FAULT are theirs, whatever follows
refused_front : (phases : Bool) (item : Item) (n : ℕ) (bits : List Bool) → resync_is_refused item ≡ true
    → n ≤ length bits → StretchShows phases item (take n bits) → StretchShows false item (take 13 bits)
refused_front phases (Reset m) n bits r l s = absurd cc
refused_front phases Switch n bits r l s = absurd cc
refused_front phases (Idle m) n bits r l s = absurd cc
refused_front phases (Junk b) n bits r l s = absurd cc
refused_front phases (Cut cut) n bits r l s = absurd cc
refused_front phases (Tx tx) n bits r l s =
    let front : length s.0 ≡ 13 = resync_refused_tx_len tx s.0 r s.3 in
    let both : length (take n bits) ≡ length s.0 + length s.1 = ap length s.2 ∙ length-append s.0 s.1 in
    let all : length (take n bits) ≡ n = length-take-le n bits l in
    let same : take 13 bits ≡ s.0 =
    sym (take-take 13 n bits (omega arith)) ∙ ap (take 13) s.2 ∙ take_at s.0 s.1 13 front in
    (s.0, [], same ∙ sym (append-nil s.0), s.3, refl)

resync_no_junk : (item : Item) → resync_is_refused item ≡ true → resync_is_junk item ≡ false
resync_no_junk (Tx tx) r = refl
resync_no_junk (Reset m) r = refl
resync_no_junk Switch r = refl
resync_no_junk (Idle m) r = refl
resync_no_junk (Junk b) r = absurd cc
resync_no_junk (Cut cut) r = refl

least_len : (phases : Bool) → 13 ≤ other_tx_len phases
least_len true = omega arith
least_len false = omega arith

steps_turned : (over : Overrun) (b : Bool) (bits : List Bool) (f : FirstItem) → ResyncTakes over.phases (b ∷ bits) f
    → has_other_length over.phases f.item (b ∷ bits) ≡ true → ResyncSteps (b ∷ bits) (other_length_step over f.item)
steps_turned over b bits f t e =
    let p = and_parts (resync_is_refused f.item) _ e in
    let q = and_parts (nat_le (other_tx_len over.phases) (length (b ∷ bits))) _ p.1 in
    let many : other_tx_len over.phases ≤ length (b ∷ bits) = leb-true _ _ q.0 in
    let least = least_len over.phases in
    record {
      some = omega arith;
      fits = omega arith;
      shows = refused_front over.phases f.item f.taken (b ∷ bits) p.0 t.fits (t.shows (resync_no_junk f.item p.0));
      goes = tt;
    }

steps_stretch : (over : Overrun) (b : Bool) (bits : List Bool) (f : FirstItem) → ResyncTakes over.phases (b ∷ bits) f
    → ResyncSteps (b ∷ bits) (in_stretch over f (b ∷ bits))
steps_stretch over b bits f t =
    stand_by_test (resync_is_junk f.item) (stretch_or_skip over (b ∷ bits)) _ (λ s. ResyncSteps (b ∷ bits) s)
    (λ j. resync_step_between over b bits)
    (λ j. stand_by_test (stretch_after_item f.item (drop f.taken (b ∷ bits))) (stretch_item over f)
    _ (λ s. ResyncSteps (b ∷ bits) s) (λ e. steps_told over (b ∷ bits) f t j)
    (λ e. stand_by_test (has_other_length over.phases f.item (b ∷ bits)) (other_length_step over f.item)
    (item_or_withdrawn over f (b ∷ bits)) (λ s. ResyncSteps (b ∷ bits) s) (λ o. steps_turned over b bits f t o)
    (λ o. steps_withdrawn over b bits f t j)))

-- ---- a data phase that wasn't foreseen

-- the step behind some bits, if there is one
abbrev StepsBehind : List Bool → ResyncStep → Type 0
StepsBehind bits s = (resync_is_skip s.part ≡ true) → ResyncSteps bits s

steps_behind : (over : Overrun) (bits : List Bool) → StepsBehind bits (synced_step over bits)
steps_behind over [] e = absurd cc
steps_behind over (b ∷ bits) e = steps_stretch over b bits (resync_first over.phases Synced (b ∷ bits))
    (resync_first_takes_bits over.phases Synced b bits)

skip_before : (over : Overrun) (n : ℕ) (bits : List Bool) (part : Part) (s : ResyncStep) → 0 < n → n ≤ length bits
    → part ≡ s.part → StepsBehind (drop n bits) s
    → ((resync_is_skip part ≡ false) → resync_is_skip (resync_step over (InStretch Synced) (drop n bits)).part ≡ false)
    → ResyncSteps bits (skip_before_step over n part s)
skip_before over n bits (Told item) s h l e b g =
    record { some = h; fits = l; shows = (h, length-take-le n bits l); goes = inr (g refl) }
skip_before over n bits (Phased tx) s h l e b g =
    record { some = h; fits = l; shows = (h, length-take-le n bits l); goes = inr (g refl) }
skip_before over n bits (Skip m) s h l e b g =
    let r : ResyncSteps (drop n bits) s = b (ap resync_is_skip (sym e)) in
    let left : length (drop n bits) ≡ length bits - n = length-drop n bits in
    let fits : s.taken ≤ length (drop n bits) = r.fits in
    let shown : ResyncPartHasBits (Skip m) (take s.taken (drop n bits)) =
    subst (λ p. ResyncPartHasBits p (take s.taken (drop n bits))) (sym e) r.shows in
    let many : length (take s.taken (drop n bits)) ≡ s.taken = length-take-le s.taken (drop n bits) fits in
    let all : length (take (n + s.taken) bits) ≡ n + s.taken = length-take-le (n + s.taken) bits (omega arith) in
    let same : length (take s.taken (drop n bits)) ≡ m = shown.1 in
    record {
      some = omega arith;
      fits = omega arith;
      shows = (omega arith, omega arith);
      goes = subst (λ x. StretchAfterSkip s.over (Skip m) s.after x) (drop-drop s.taken n bits)
          (subst (λ p. StretchAfterSkip s.over p s.after (drop s.taken (drop n bits))) (sym e) r.goes);
    }

steps_phase : (over : Overrun) (b : Bool) (bits : List Bool) → ResyncSteps (b ∷ bits) (skip_phase over (b ∷ bits))
steps_phase over b bits =
    let n = min 33 (length (b ∷ bits)) in
    let s = synced_step over (drop n (b ∷ bits)) in
    skip_before over n (b ∷ bits) s.part s (omega arith) (omega arith) refl (steps_behind over (drop n (b ∷ bits)))
    (λ e. e)

-- each step takes at least one bit of those there are, the bits taken are its part's, and after a skip a part that
-- isn't one comes or no bits are left
pub resync_step_takes_bits : (over : Overrun) (place : ResyncPlace) (b : Bool) (bits : List Bool)
    → ResyncSteps (b ∷ bits) (resync_step over place (b ∷ bits))
resync_step_takes_bits over (InStretch mode) b bits =
    steps_stretch over b bits (resync_first over.phases mode (b ∷ bits))
    (resync_first_takes_bits over.phases mode b bits)
resync_step_takes_bits over AtPhase b bits = steps_phase over b bits
resync_step_takes_bits over Between b bits = resync_step_between over b bits

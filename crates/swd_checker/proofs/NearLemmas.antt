-- Words near to one, place by place.
use Rattle.std.proofs.Common.{◌≡◌, ◌≢◌, ◌<◌, ◌≤◌, ◌+◌, ◌*◌, ◌%◌, ◌^◌, ℕ, Bool, true, false, refl, sym, ap, subst}
use Rattle.std.proofs.Common.{arith, ◌∙◌, ◌⊎◌, inl, inr, w64}
use Rattle.std.proofs.Math.Pow.{pow-lt}
use Rattle.std.specs.Prelude.{Option, Some, None, unwrap_or, ◌==◌, if◌then◌else◌}
use Rattle.std.specs.Int.{bit_at}
use Rattle.std.specs.Int.RustNames.{bit_or, bit_xor}
use Rattle.std.proofs.lemmas.Nat.{xor_lt}
use Rattle.std.proofs.lemmas.Nat.Bits.{bit_at_set_same, bit_at_set_other, bit_at_ones, bit_at-zero, bit_at-pow_other}
use Rattle.swd_port.specs.Registers.{register_bit}
use Rattle.swd_checker.specs.declared.near.Near.{Near}
use Rattle.swd_checker.specs.Described.{IsCheckedNear, checked_near_at, checked_changed_at}
use Rattle.swd_checker.specs.Words.{Words, IsCheckedWord, IsSomeNear, IsSomeHeld, IsCheckedNearAt}
use Rattle.swd_checker.specs.Exact.{IsNearSound}
use Rattle.swd_checker.specs.Reaching.{NearNarrows, checked_near_of}
use Rattle.swd_checker.specs.Worlds.{Held}

-- a place of which a word was taken: its bit is set, some were counted, and it is the last one if it is the only one
pub record NearTaken (near : Near) (place places count last : ℕ) : Type 0 where
  pub set : register_bit place places ≡ true
  pub counted : 0 < count
  pub alone : count ≡ 1 → last ≡ checked_near_at near place

-- a place of the set, whose word is among these
pub record NearPicked (near : Near) (words : Words) (place : ℕ) : Type 0 where
  pub set : register_bit place near.places ≡ true
  pub among : IsCheckedWord words (checked_near_at near place)

-- all places that were taken are such ones, and so is that of the last word; there is one if some were counted
pub record NearPlaced (near : Near) (words : Words) (places count last : ℕ) : Type 0 where
  pub only : (k : ℕ) → k < 33 → register_bit k places ≡ true → NearPicked near words k
  pub some : 0 < count → (k : ℕ) × (k < 33) × (register_bit k places ≡ true)
  pub latest : 0 < count → (k : ℕ) × (k < 33) × NearPicked near words k × (last ≡ checked_near_at near k)

-- the words up to a place that are among these
pub record NearCollected (near : Near) (words : Words) (place places count last : ℕ) : Type 0 where
  pub few : count ≤ place
  pub each : (k : ℕ) → k < place → register_bit k near.places ≡ true → IsCheckedWord words (checked_near_at near k)
      → NearTaken near k places count last
  pub placed : NearPlaced near words places count last

below_or_last : (k place : ℕ) → k < place + 1 → (k < place) ⊎ (k ≡ place)
below_or_last k place h = grind arith

near_collected_past : (near : Near) (words : Words) (place places count last : ℕ)
    → IsCheckedNearAt near place words None → NearCollected near words place places count last
    → NearCollected near words (place + 1) places count last
near_collected_past near words place places count last h before = record {
  few = let few = before.few in omega arith;
  each = λ k below bit is. elim (below_or_last k place below) as (λ _. NearTaken near k places count last) [
    | inl earlier ↦ before.each k earlier bit is
    | inr same ↦ absurd (h (subst (λ p. register_bit p near.places ≡ true) same bit)
        (subst (λ p. IsCheckedWord words (checked_near_at near p)) same is))
  ];
  placed = before.placed;
}

set_same : (places place : ℕ) → place < 33 → register_bit place (bit_or places (1 * 2 ^ place % 2 ^ 64)) ≡ true
set_same places place h = ap (λ b. b == 1) (bit_at_set_same w64 places place (omega arith))

set_other : (places place k : ℕ) → place < 33 → k ≢ place
    → register_bit k (bit_or places (1 * 2 ^ place % 2 ^ 64)) ≡ register_bit k places
set_other places place k h other = ap (λ b. b == 1) (bit_at_set_other w64 places place (omega arith) k other)

same_or_other : (k place : ℕ) → (k ≡ place) ⊎ (k ≢ place)
same_or_other k place = grind arith

near_placed_more : (near : Near) (words : Words) (place places count last word : ℕ) → place < 33
    → IsCheckedNearAt near place words (Some word) → NearPlaced near words places count last
    → NearPlaced near words (bit_or places (1 * 2 ^ place % 2 ^ 64)) (count + 1) word
near_placed_more near words place places count last word inside (bit, is, among) before =
    let picked : NearPicked near words place = record {
      set = bit;
      among = subst (IsCheckedWord words) is among;
    } in
    record {
      only = λ k below set. elim (same_or_other k place) as (λ _. NearPicked near words k) [
        | inl same ↦ subst (NearPicked near words) (sym same) picked
        | inr other ↦ before.only k below (sym (set_other places place k inside other) ∙ set)
      ];
      some = λ counted. (place, inside, set_same places place inside);
      latest = λ counted. (place, inside, picked, is);
    }

near_collected_more : (near : Near) (words : Words) (place places count last word : ℕ) → place < 33
    → IsCheckedNearAt near place words (Some word) → NearCollected near words place places count last
    → NearCollected near words (place + 1) (bit_or places (1 * 2 ^ place % 2 ^ 64)) (count + 1) word
near_collected_more near words place places count last word inside (bit, is, among) before = record {
  few = let few = before.few in omega arith;
  each = λ k below set has. elim (below_or_last k place below)
      as (λ _. NearTaken near k (bit_or places (1 * 2 ^ place % 2 ^ 64)) (count + 1) word) [
        | inl earlier ↦ (let taken : NearTaken near k places count last = before.each k earlier set has in
            let other : k ≢ place = omega arith in
            let counted = taken.counted in
            record {
              set = set_other places place k inside other ∙ taken.set;
              counted = omega arith;
              alone = λ one. absurd (omega arith);
            })
        | inr same ↦ record {
          set = subst (λ p. register_bit p (bit_or places (1 * 2 ^ place % 2 ^ 64)) ≡ true) (sym same)
              (set_same places place inside);
          counted = omega arith;
          alone = λ one. is ∙ ap (checked_near_at near) (sym same);
        }
      ];
  placed = near_placed_more near words place places count last word inside (bit, is, among) before.placed;
}

no_bit : (k : ℕ) → register_bit k 0 ≡ true → ⊥
no_bit k set = let none : (bit_at 0 k == 1) ≡ false = ap (λ b. b == 1) (bit_at-zero k) in cc

-- before the first place
pub near_collected_none : (near : Near) (words : Words) → NearCollected near words 0 0 0 0
near_collected_none near words = record {
  few = omega arith;
  each = λ k below set is. absurd (omega arith);
  placed = record {
    only = λ k below set. absurd (no_bit k set);
    some = λ counted. absurd (omega arith);
    latest = λ counted. absurd (omega arith);
  };
}

changed_small : (word place : ℕ) (parity : Bool) → parity ≡ (place == 32) → word < 2 ^ 32 → place < 33
    → (if parity then word else bit_xor word (2 ^ place)) < 2 ^ 32
changed_small word place true e small inside = small
changed_small word place false e small inside =
    let below : place < 32 = grind arith in
    xor_lt 32 word (2 ^ place) small (pow-lt below)

-- the words near to one of 32 bits have 32 bits
pub near_small : (near : Near) (word : ℕ) → near.word < 2 ^ 32 → IsCheckedNear near word → word < 2 ^ 32
near_small near word small (place, inside, set, is) =
    subst (λ n. n < 2 ^ 32) (sym is) (changed_small near.word place (place == 32) refl small inside)

-- there is one
pub near_sound : (near : Near) → IsNearSound near → (word : ℕ) × IsCheckedNear near word
near_sound near sound = (checked_near_at near sound.place, (sound.place, sound.inside, sound.is, refl))

whole_place : (place : ℕ) → register_bit place 4294967296 ≡ true → place ≡ 32
whole_place place set = elim (same_or_other place 32) as (λ _. place ≡ 32) [
  | inl same ↦ same
  | inr other ↦ absurd (let none : (bit_at 4294967296 place == 1) ≡ false =
      ap (λ b. b == 1) (bit_at-pow_other 32 place other) in cc)
]

whole_word : (word place : ℕ) → place ≡ 32 → checked_changed_at word place ≡ word
whole_word word place is = ap (checked_changed_at word) is

-- a word itself is the only one that is exactly it
pub near_of_is : (word other : ℕ) → IsCheckedNear (checked_near_of word) other → other ≡ word
near_of_is word other (place, inside, set, is) = is ∙ whole_word word place (whole_place place set)

-- exactly this word
pub near_of_has : (word : ℕ) → IsCheckedNear (checked_near_of word) word
near_of_has word = (32, omega arith, refl, refl)

near_picked_of : (near : Near) (words : Words) (k last : ℕ) → k < 33 → NearPicked near words k
    → last ≡ checked_near_at near k → IsCheckedNear near last × IsCheckedWord words last
near_picked_of near words k last inside picked is =
    ((k, inside, picked.set, is), subst (IsCheckedWord words) (sym is) picked.among)

-- several words are left
pub near_narrowed : (near : Near) (words : Words) (place places count last : ℕ) → 0 < count
    → NearCollected near words place places count last
    → NearNarrows near words (record { word = near.word; places = places })
near_narrowed near words place places count last counted h = record {
  sound = λ sound. let found = h.placed.some counted in record {
    small = sound.small;
    place = found.0;
    inside = found.1;
    is = found.2;
  };
  each = λ word (k, inside, set, is). near_picked_of near words k word inside (h.placed.only k inside set) is;
}

-- one word is left
pub near_narrowed_one : (near : Near) (words : Words) (place places count last : ℕ) → 0 < count
    → NearCollected near words place places count last → NearNarrows near words (checked_near_of last)
near_narrowed_one near words place places count last counted h =
    let found = h.placed.latest counted in
    let of = near_picked_of near words found.0 last found.1 found.2 found.3 in
    record {
      sound = λ sound. record {
        small = near_small near last sound.small of.0;
        place = 32;
        inside = omega arith;
        is = refl;
      };
      each = λ word is. subst (λ n. IsCheckedNear near n × IsCheckedWord words n) (sym (near_of_is last word is)) of;
    }

-- one more place, where what was collected is told by equations
pub near_collected_some : (near : Near) (words : Words) (place places count last word : ℕ) (result : Option ℕ)
    (more counted latest : ℕ) → place < 33 → result ≡ Some word → IsCheckedNearAt near place words result
    → more ≡ bit_or places (1 * 2 ^ place % 2 ^ 64) → counted ≡ count + 1 → latest ≡ word
    → NearCollected near words place places count last → NearCollected near words (place + 1) more counted latest
near_collected_some near words place places count last word result more counted latest inside is at a b d before =
    subst (λ p. NearCollected near words (place + 1) p counted latest) (sym a)
    (subst (λ n. NearCollected near words (place + 1) (bit_or places (1 * 2 ^ place % 2 ^ 64)) n latest) (sym b)
    (subst (λ l. NearCollected near words (place + 1) (bit_or places (1 * 2 ^ place % 2 ^ 64)) (count + 1) l) (sym d)
    (near_collected_more near words place places count last word inside
    (subst (IsCheckedNearAt near place words) is at) before)))

-- a place that isn't taken
pub near_collected_rest : (near : Near) (words : Words) (place places count last : ℕ) (result : Option ℕ)
    (more counted latest : ℕ) → result ≡ None → IsCheckedNearAt near place words result → more ≡ places
    → counted ≡ count → latest ≡ last → NearCollected near words place places count last
    → NearCollected near words (place + 1) more counted latest
near_collected_rest near words place places count last result more counted latest is at a b d before =
    subst (λ p. NearCollected near words (place + 1) p counted latest) (sym a)
    (subst (λ n. NearCollected near words (place + 1) places n latest) (sym b)
    (subst (λ l. NearCollected near words (place + 1) places count l) (sym d)
    (near_collected_past near words place places count last (subst (IsCheckedNearAt near place words) is at) before)))

-- what is left of known words once one was seen
pub held_narrows : (test : Words) (seen : Near) (left : Option Near) (result : Option Held) (value : Option ℕ)
    (filler : ℕ) → ((word : ℕ) → IsCheckedNear seen word → IsCheckedWord test word → IsSomeNear left word)
    → ((held : Option ℕ) (word : ℕ) → held ≡ Some word → IsSomeNear left word → IsSomeHeld result held)
    → ((word : ℕ) × (value ≡ Some word) × IsCheckedWord test word) → IsCheckedNear seen (unwrap_or value filler)
    → IsSomeHeld result value
held_narrows test seen left result value filler among made (word, known, is) near = made value word known (among word
    (subst (IsCheckedNear seen) (ap (λ o. unwrap_or o filler) known) near) is)

-- each place may be the changed one
pub all_places : (place : ℕ) → place < 33 → register_bit place 8589934591 ≡ true
all_places place inside = ap (λ b. b == 1) (bit_at_ones 33 place inside)

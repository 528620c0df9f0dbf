-- Where few bits are held behind some of the first ones, few are held behind the run of zeros.
use Rattle.std.proofs.Common.{◌≡◌, ◌+◌, ◌<◌, ◌≤◌, Bool, true, false, List, [], ◌∷◌, ◌++◌, length, drop}
use Rattle.std.proofs.Common.{replicate, arith, ap, ◌∙◌, subst, inl, inr}
use Rattle.std.specs.Prelude.{ℕ, ◌==◌, Option, Some, None, IfSome, IfNone}
use Rattle.std.proofs.lemmas.List.{length-append, drop-append-le}
use Rattle.std.proofs.lemmas.Bool.{cases_lt, eqb-true}
use Rattle.swd_bits.specs.Bits.{low_bits}
use Rattle.swd_bits.proofs.BitsLemmas.{length-low_bits}
use Rattle.swd_resync.specs.declared.queue.Queue.{Queue}
use Rattle.swd_resync.specs.Parts.{past_zeros}
use Rattle.swd_resync.specs.Queues.{resync_queued, IsResyncHeld}
use Rattle.swd_resync.specs.Holding.{IsResyncNear}
use Rattle.swd_resync.proofs.QueueLemmas.{resync_past_run, resync_past_alone, resync_queue_none_behind}
use Rattle.swd_resync.proofs.QueueLemmas.{resync_queue_alone}

-- a fact that holds where a result is None may be replaced by one that follows from it
pub resync_if_none_weaker : {A : Type 0} (r : Option A) (P Q : Type 0) → (P → Q) → IfNone r P → IfNone r Q
resync_if_none_weaker (Some a) P Q f h = h
resync_if_none_weaker None P Q f h = f h

-- a fact that holds of what a result has may be replaced by one that follows from it
pub resync_if_some_weaker : {A : Type 0} (r : Option A) (P Q : A → Type 0) → ((a : A) → P a → Q a) → IfSome r P
    → IfSome r Q
resync_if_some_weaker (Some a) P Q f h = f a h
resync_if_some_weaker None P Q f h = h

past_longer : (x y : List Bool) → length (past_zeros y) ≤ length (past_zeros (x ++ y))
past_longer [] y = omega arith
past_longer (false ∷ x) y = past_longer x y
past_longer (true ∷ x) y =
    let h = shorter y in
    let l : length (x ++ y) ≡ length x + length y = length-append x y in
    omega arith
  where
    shorter : (y : List Bool) → length (past_zeros y) ≤ length y
    shorter [] = omega arith
    shorter (false ∷ y) = let h = shorter y in omega arith
    shorter (true ∷ y) = omega arith

-- where fewer than fifty bits come after at most 92 bits and zeros, fewer than fifty are held behind the run
pub resync_held_back_room : (q : Queue) → IsResyncHeld q → IsResyncNear 92 (resync_queued q) → q.back_len < 50
resync_held_back_room q held near = elim (cases_lt 0 q.back_len) [
  | inr none ↦ omega arith
  | inl some ↦
      let front : List Bool = low_bits q.front_len q.front in
      let back : List Bool = low_bits q.back_len q.back in
      let others : List Bool = replicate q.zeros false ++ back in
      let full : q.front_len ≡ 92 = held.full (omega arith) in
      let within : near.place ≤ 92 = near.within in
      let l : length front ≡ q.front_len = length-low_bits q.front_len q.front in
      let m : length back ≡ q.back_len = length-low_bits q.back_len q.back in
      let split : drop near.place (resync_queued q) ≡ drop near.place front ++ others =
      drop-append-le near.place front others (omega arith) in
      let few : length (past_zeros (drop near.place front ++ others)) < 50 =
      subst (λ x. length (past_zeros x) < 50) split near.few in
      let more : length (past_zeros others) ≤ length (past_zeros (drop near.place front ++ others)) =
      past_longer (drop near.place front) others in
      let same : past_zeros others ≡ back =
      resync_past_run q.zeros back ∙ resync_past_alone q.back_len q.back held.ends some in
      let all : length (past_zeros others) ≡ length back = ap length same in
      omega arith
]

-- where no bits are held, none stand before the run of zeros or behind it
pub resync_held_empty : (q : Queue) → resync_queued q ≡ [] → q.front_len + q.back_len ≡ 0
resync_held_empty q h =
    let front : List Bool = low_bits q.front_len q.front in
    let back : List Bool = low_bits q.back_len q.back in
    let others : List Bool = replicate q.zeros false ++ back in
    let none : length (resync_queued q) ≡ 0 = ap length h in
    let whole : length (resync_queued q) ≡ length front + length others = length-append front others in
    let behind : length others ≡ length (replicate q.zeros false) + length back =
    length-append (replicate q.zeros false) back in
    let l : length front ≡ q.front_len = length-low_bits q.front_len q.front in
    let m : length back ≡ q.back_len = length-low_bits q.back_len q.back in
    omega arith

-- where so few bits are in the front, these are all
pub resync_held_len_is : (q : Queue) → IsResyncHeld q → (len : ℕ) → len ≤ 50 → (q.front_len == len) ≡ true
    → length (resync_queued q) ≡ len
resync_held_len_is q held len few same =
    let e : q.front_len ≡ len = eqb-true q.front_len len same in
    let none = resync_queue_none_behind q held.full (omega arith) in
    let l : length (resync_queued q) ≡ q.front_len =
    ap length (resync_queue_alone q.front_len q.front q.zeros q.back_len q.back none)
    ∙ length-low_bits q.front_len q.front in
    omega arith

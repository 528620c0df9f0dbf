-- Laws of numbers that hold a queue of bits.
use Rattle.std.proofs.Common.{◌≡◌, ℕ, zero, suc, ◌+◌, ◌-◌, ◌*◌, ◌/◌, ◌%◌, ◌^◌, ◌<◌, ◌≤◌, Bool, true, false, List, []}
use Rattle.std.proofs.Common.{◌∷◌, ◌++◌, replicate, arith, refl, sym, ap, ◌∙◌, bit_or, bit_and, length, drop, lit<}
use mir.Val.{bool_byte}
use Rattle.std.specs.Prelude.{min, ◌==◌}
use Rattle.std.proofs.lemmas.List.{append_assoc, append-nil, replicate-append-replicate, drop_at, length-replicate}
use Rattle.std.proofs.lemmas.Nat.{one_shl, and_mask, or_shifted, pow_pos, pow-add, mul-add-lt}
use Rattle.std.proofs.Math.Pow.{shl_lt}
use Rattle.std.proofs.Math.Nat.{mod-eq_of_lt, pow-le-pow_right, mul_comm, mod-lt}
use lib.Count.{count_trailing_zeros, trailing_of_zero}
use Rattle.swd_bits.specs.Bits.{low_bits}
use Rattle.swd_bits.proofs.BitsLemmas.{low_bits-cat, length-low_bits}
use Rattle.swd_trace.proofs.NumberLemmas.{decoder_bits_low_zeros, decoder_bits_mod, decoder_bits_parted}
use Rattle.swd_trace.proofs.NumberLemmas.{decoder_bits_none, decoder_zeros_at_front, decoder_zeros_counted}
use Rattle.swd_trace.proofs.NumberLemmas.{DecoderTrailingZeros, decoder_bits_next}
use Rattle.swd_trace.proofs.GrammarLemmas.{decoder_first_bit_is_one}
use Rattle.swd_resync.specs.Parts.{past_zeros}
use Rattle.swd_resync.specs.declared.queue.Queue.{Queue}
use Rattle.swd_resync.specs.Queues.{resync_queued, IsResyncQueueFull, IsResyncHeld}
use Rattle.std.proofs.lemmas.Bool.{cases_lt, eqb-true}
use Rattle.std.proofs.Common.{inl, inr, subst}

-- a queue's bits, from its numbers
abbrev pub resync_queue : ℕ → ℕ → ℕ → ℕ → ℕ → List Bool
resync_queue len front run back_len back = low_bits len front ++ (replicate run false ++ low_bits back_len back)

-- ---- numbers that are joined

no_loss : (w m n a : ℕ) → a < 2 ^ n → m + n ≤ w → a * 2 ^ m % 2 ^ w ≡ a * 2 ^ m
no_loss w m n a k room =
    let moved : a * 2 ^ m < 2 ^ (n + m) = shl_lt n m k in
    let room' : n + m ≤ w = omega arith in
    let most : 2 ^ (n + m) ≤ 2 ^ w = pow-le-pow_right (lit< tt) room' in
    mod-eq_of_lt (omega arith)

pub resync_queue_join : (w m n a b : ℕ) → a < 2 ^ n → b < 2 ^ m → m + n ≤ w
    → low_bits (m + n) (bit_or (a * 2 ^ m % 2 ^ w) b) ≡ low_bits m b ++ low_bits n a
resync_queue_join w m n a b k h room = rw (no_loss w m n a k room, or_shifted a m b h, low_bits-cat m n a b h) refl

-- m bits with n bits joined above them are a number below 2 ^ (m + n), where w bits have room for them
pub resync_queue_join_lt : (w m n a b : ℕ) → a < 2 ^ n → b < 2 ^ m → m + n ≤ w
    → bit_or (a * 2 ^ m % 2 ^ w) b < 2 ^ (m + n)
resync_queue_join_lt w m n a b k h room =
    let e : m + n ≡ n + m = omega arith in
    rw (no_loss w m n a k room, or_shifted a m b h, e, pow-add 2 n m, mul_comm (2 ^ n) (2 ^ m))
    (mul-add-lt a (2 ^ m) b (2 ^ n) k h)

-- a number masked by 2 ^ n - 1, as the code computes it in w bits, is its low n bits
pub resync_queue_mask : (w n v : ℕ) → n < w → bit_and v (1 * 2 ^ n % 2 ^ w - 1) ≡ v % 2 ^ n
resync_queue_mask w n v h = rw (one_shl n w h) (and_mask v n)

-- a number of m bits is one of n bits, where n is at least m
pub resync_queue_wider : (m n v : ℕ) → v < 2 ^ m → m ≤ n → v < 2 ^ n
resync_queue_wider m n v h k = let most : 2 ^ m ≤ 2 ^ n = pow-le-pow_right (lit< tt) k in omega arith

-- ---- zeros

pub resync_queue_zeros_join : (a b : ℕ) (x : List Bool)
    → replicate a false ++ (replicate b false ++ x) ≡ replicate (a + b) false ++ x
resync_queue_zeros_join a b x = sym (append_assoc (replicate a false) (replicate b false) x)
    ∙ ap (λ y. y ++ x) (replicate-append-replicate a b false)

-- the front takes zeros of the run
pub resync_queue_front_zeros : (len front m : ℕ) → front < 2 ^ len
    → low_bits (len + m) front ≡ low_bits len front ++ replicate m false
resync_queue_front_zeros len front m h =
    let e : 0 * 2 ^ len + front ≡ front = omega arith in
    ap (low_bits (len + m)) (sym e) ∙ low_bits-cat len m 0 front h ∙ ap (λ x. low_bits len front ++ x)
    (decoder_bits_low_zeros m)

-- zeros that move from the run to the end of the front leave the queue's bits unchanged
pub resync_queue_zeros_moved : (len front run m back_len back : ℕ) → front < 2 ^ len → m ≤ run →
    resync_queue (len + m) front (run - m) back_len back ≡ resync_queue len front run back_len back
resync_queue_zeros_moved len front run m back_len back h k =
    let s : m + (run - m) ≡ run = omega arith in
    ap (λ x. x ++ (replicate (run - m) false ++ low_bits back_len back)) (resync_queue_front_zeros len front m h)
    ∙ append_assoc (low_bits len front) (replicate m false) (replicate (run - m) false ++ low_bits back_len back)
    ∙ ap (λ x. low_bits len front ++ x) (resync_queue_zeros_join m (run - m) (low_bits back_len back)
    ∙ ap (λ n. replicate n false ++ low_bits back_len back) s)

-- ---- bits from behind

-- where the run is empty, bits that move from behind it to the end of the front leave the queue's bits unchanged
pub resync_queue_back_moved : (len front run m back_len back : ℕ) → front < 2 ^ len → run ≡ 0 → m ≤ back_len
    → len + m ≤ 128 → resync_queue (len + m) (bit_or (back % 2 ^ m * 2 ^ len % 2 ^ 128) front) 0 (back_len - m)
    (back / 2 ^ m) ≡ resync_queue len front run back_len back
resync_queue_back_moved len front run m back_len back h z k room =
    let low : back % 2 ^ m < 2 ^ m = mod-lt back (pow_pos m) in
    ap (λ x. x ++ low_bits (back_len - m) (back / 2 ^ m)) (resync_queue_join 128 len m (back % 2 ^ m) front low h room
    ∙ ap (λ x. low_bits len front ++ x) (decoder_bits_mod m back))
    ∙ append_assoc (low_bits len front) (low_bits m back) (low_bits (back_len - m) (back / 2 ^ m))
    ∙ ap (λ x. low_bits len front ++ x) (sym (decoder_bits_parted m back_len back k))
    ∙ ap (λ n. low_bits len front ++ (replicate n false ++ low_bits back_len back)) (sym z)

-- zeros at the front of the bits behind
pub resync_queue_run_found : (len front run c back_len back : ℕ) → run ≡ 0 → c ≤ back_len
    → c ≤ count_trailing_zeros 64 back → resync_queue len front c (back_len - c) (back / 2 ^ c)
    ≡ resync_queue len front run back_len back
resync_queue_run_found len front run c back_len back z k t =
    ap (λ x. low_bits len front ++ (x ++ low_bits (back_len - c) (back / 2 ^ c)))
    (sym (decoder_zeros_at_front 64 c back t)) ∙ ap (λ x. low_bits len front ++ x)
    (sym (decoder_bits_parted c back_len back k))
    ∙ ap (λ n. low_bits len front ++ (replicate n false ++ low_bits back_len back)) (sym z)

-- behind all of them is a one
pub resync_queue_run_ends : (back_len back c : ℕ) → back < 2 ^ back_len → back_len ≤ 63 →
    c ≡ min (count_trailing_zeros 64 back) back_len → 0 < back_len - c → back / 2 ^ c % 2 ≡ 1
resync_queue_run_ends back_len zero c h k e some = let t : count_trailing_zeros 64 zero ≡ 64 = trailing_of_zero 64 in
    absurd (omega arith)
resync_queue_run_ends back_len (suc back) c h k e some =
    let r : DecoderTrailingZeros back_len (suc back) (count_trailing_zeros 64 (suc back)) =
    decoder_zeros_counted 64 back_len (suc back) (omega arith) (omega arith) h in
    let all : c ≡ count_trailing_zeros 64 (suc back) = omega arith in
    ap (λ n. suc back / 2 ^ n % 2) all ∙ r.one

-- ---- bits at the front

-- a queue whose front is shifted by c bits has its bits without the first c
pub resync_queue_drop : (len front c run back_len back : ℕ) → c ≤ len →
    resync_queue (len - c) (front / 2 ^ c) run back_len back ≡ drop c (resync_queue len front run back_len back)
resync_queue_drop len front c run back_len back h =
    let others : List Bool = replicate run false ++ low_bits back_len back in
    sym (ap (λ x. drop c (x ++ others)) (decoder_bits_parted c len front h)
    ∙ ap (drop c) (append_assoc (low_bits c front) (low_bits (len - c) (front / 2 ^ c)) others)
    ∙ drop_at (low_bits c front) (low_bits (len - c) (front / 2 ^ c) ++ others) c (length-low_bits c front))

-- a queue with nothing in its front, its run and behind it has no bits
pub resync_queue_empty : (len front run back_len back : ℕ) → len ≡ 0 → run + back_len ≡ 0
    → resync_queue len front run back_len back ≡ []
resync_queue_empty len front run back_len back e f =
    let none : run ≡ 0 = omega arith in
    ap (λ x. x ++ (replicate run false ++ low_bits back_len back)) (decoder_bits_none len front e)
    ∙ ap (λ n. replicate n false ++ low_bits back_len back) none ∙ decoder_bits_none back_len back (omega arith)

-- with nothing behind
pub resync_queue_alone : (len front run back_len back : ℕ) → run + back_len ≡ 0
    → resync_queue len front run back_len back ≡ low_bits len front
resync_queue_alone len front run back_len back f =
    let none : run ≡ 0 = omega arith in
    ap (λ n. low_bits len front ++ (replicate n false ++ low_bits back_len back)) none
    ∙ ap (λ x. low_bits len front ++ x) (decoder_bits_none back_len back (omega arith)) ∙ append-nil
    (low_bits len front)

-- where the front isn't empty, its first bit is the queue's first bit, and the others follow it
pub resync_queue_first_bit : (len front run back_len back : ℕ) → 0 < len → resync_queue len front run back_len back
    ≡ (front % 2 == 1) ∷ resync_queue (len - 1) (front / 2) run back_len back
resync_queue_first_bit len front run back_len back h =
    ap (λ x. x ++ (replicate run false ++ low_bits back_len back)) (decoder_bits_next len front h)

-- ---- behind zeros

-- a run of zeros in front doesn't change which bits come after the zeros at the front
pub resync_past_run : (n : ℕ) (x : List Bool) → past_zeros (replicate n false ++ x) ≡ past_zeros x
resync_past_run zero x = refl
resync_past_run (suc n) x = resync_past_run n x

pub resync_past_odd : (len v : ℕ) → (0 < len → v % 2 ≡ 1) → (x : List Bool) → 0 < len
    → past_zeros (low_bits len v ++ x) ≡ low_bits len v ++ x
resync_past_odd len v h x some =
    let e : low_bits len v ≡ true ∷ low_bits (len - 1) (v / 2) = decoder_first_bit_is_one len v some (h some) in
    ap (λ y. past_zeros (y ++ x)) e ∙ sym (ap (λ y. y ++ x) e)

-- bits that begin with a one
pub resync_past_alone : (len v : ℕ) → (0 < len → v % 2 ≡ 1) → 0 < len → past_zeros (low_bits len v) ≡ low_bits len v
resync_past_alone len v h some =
    let e : low_bits len v ++ [] ≡ low_bits len v = append-nil (low_bits len v) in
    sym (ap past_zeros e) ∙ resync_past_odd len v h [] some ∙ e

-- all zeros in front
pub resync_queue_past_all_zeros : (len front run back_len back : ℕ) → front ≡ 0 → (0 < back_len → back % 2 ≡ 1) →
    resync_queue back_len back 0 0 0 ≡ past_zeros (resync_queue len front run back_len back)
resync_queue_past_all_zeros len front run back_len back e h =
    resync_queue_alone back_len back 0 0 0 refl
    ∙ sym (ap (λ v. past_zeros (low_bits len v ++ (replicate run false ++ low_bits back_len back))) e
    ∙ ap (λ x. past_zeros (x ++ (replicate run false ++ low_bits back_len back))) (decoder_bits_low_zeros len)
    ∙ resync_past_run len (replicate run false ++ low_bits back_len back) ∙ resync_past_run run (low_bits back_len back)
    ∙ behind back_len back h)
  where
    behind : (len v : ℕ) → (0 < len → v % 2 ≡ 1) → past_zeros (low_bits len v) ≡ low_bits len v
    behind zero v h = ap past_zeros (decoder_bits_none zero v refl) ∙ sym (decoder_bits_none zero v refl)
    behind (suc len) v h = resync_past_alone (suc len) v h (omega arith)

-- where the front has a one, the bits after the zeros at the front are those after its trailing zeros
pub resync_queue_past_zeros : (len front run back_len back : ℕ) → len ≤ 128 → 0 < front → front < 2 ^ len →
    (count_trailing_zeros 128 front ≤ len)
    × (drop (count_trailing_zeros 128 front) (resync_queue len front run back_len back)
    ≡ past_zeros (resync_queue len front run back_len back))
resync_queue_past_zeros len front run back_len back k some h =
    let z = count_trailing_zeros 128 front in
    let r : DecoderTrailingZeros len front z = decoder_zeros_counted 128 len front k some h in
    let within : z < len = r.within in
    let others : List Bool = replicate run false ++ low_bits back_len back in
    let last : List Bool = low_bits (len - z) (front / 2 ^ z) in
    let split : resync_queue len front run back_len back ≡ replicate z false ++ (last ++ others) =
    ap (λ x. x ++ others) r.front ∙ append_assoc (replicate z false) last others in (
      omega arith,
      ap (drop z) split ∙ drop_at (replicate z false) (last ++ others) z (length-replicate z false)
          ∙ sym (ap past_zeros split ∙ resync_past_run z (last ++ others)
          ∙ resync_past_odd (len - z) (front / 2 ^ z) (λ p. r.one) others (omega arith)),
    )

-- ---- one bit more

byte_lt : (b : ℕ) (bit : Bool) → b ≡ bool_byte bit → b < 2 ^ 1
byte_lt b true e = omega arith
byte_lt b false e = omega arith

bit_of : (b : ℕ) (bit : Bool) → b ≡ bool_byte bit → low_bits 1 b ≡ bit ∷ []
unfolding low_bits
bit_of b true e = rw e refl
bit_of b false e = rw e refl

pub resync_queue_push : (w len v b : ℕ) (bit : Bool) → v < 2 ^ len → len + 1 ≤ w → b ≡ bool_byte bit →
    low_bits (len + 1) (bit_or (b * 2 ^ len % 2 ^ w) v) ≡ low_bits len v ++ bit ∷ []
resync_queue_push w len v b bit h k e =
    resync_queue_join w len 1 b v (byte_lt b bit e) h k ∙ ap (λ x. low_bits len v ++ x) (bit_of b bit e)

-- a number of len bits with a bit pushed above them is below 2 ^ (len + 1), where w bits have room for it
pub resync_queue_push_lt : (w len v b : ℕ) (bit : Bool) → v < 2 ^ len → len + 1 ≤ w → b ≡ bool_byte bit →
    bit_or (b * 2 ^ len % 2 ^ w) v < 2 ^ (len + 1)
resync_queue_push_lt w len v b bit h k e = resync_queue_join_lt w len 1 b v (byte_lt b bit e) h k

abbrev head_or : List Bool → Bool
head_or [] = false
head_or (b ∷ bits) = b

-- at the end of the front
pub resync_queue_push_front : (len front run back_len back b : ℕ) (bit : Bool) → front < 2 ^ len → len < 92
    → run + back_len ≡ 0
    → b ≡ bool_byte bit → resync_queue (len + 1) (bit_or (b * 2 ^ len % 2 ^ 128) front) run back_len back
    ≡ resync_queue len front run back_len back ++ bit ∷ []
resync_queue_push_front len front run back_len back b bit h k n e =
    resync_queue_alone (len + 1) (bit_or (b * 2 ^ len % 2 ^ 128) front) run back_len back n ∙ resync_queue_push 128 len
    front b bit h (omega arith) e ∙ sym (ap (λ x. x ++ bit ∷ []) (resync_queue_alone len front run back_len back n))

-- at the end of the run
pub resync_queue_push_zero : (len front run back_len back : ℕ) (bit : Bool) → back_len ≡ 0 → bit ≡ false
    → resync_queue len front (run + 1) back_len back ≡ resync_queue len front run back_len back ++ bit ∷ []
resync_queue_push_zero len front run back_len back bit e f =
    let none : low_bits back_len back ≡ [] = decoder_bits_none back_len back e in
    ap (λ x. low_bits len front ++ (replicate (run + 1) false ++ x)) none
    ∙ ap (λ x. low_bits len front ++ x) (append-nil (replicate (run + 1) false)
    ∙ sym (replicate-append-replicate run 1 false) ∙ ap (λ b. replicate run false ++ b ∷ []) (sym f)
    ∙ ap (λ x. x ++ bit ∷ []) (sym (append-nil (replicate run false)) ∙ ap (λ x. replicate run false ++ x) (sym none)))
    ∙ sym (append_assoc (low_bits len front) (replicate run false ++ low_bits back_len back) (bit ∷ []))

-- behind it
pub resync_queue_push_back : (len front run back_len back b : ℕ) (bit : Bool) → back < 2 ^ back_len → back_len < 63
    → b ≡ bool_byte bit → resync_queue len front run (back_len + 1) (bit_or (b * 2 ^ back_len % 2 ^ 64) back)
    ≡ resync_queue len front run back_len back ++ bit ∷ []
resync_queue_push_back len front run back_len back b bit h k e =
    ap (λ x. low_bits len front ++ (replicate run false ++ x))
    (resync_queue_push 64 back_len back b bit h (omega arith) e) ∙ ap (λ x. low_bits len front ++ x)
    (sym (append_assoc (replicate run false) (low_bits back_len back) (bit ∷ [])))
    ∙ sym (append_assoc (low_bits len front) (replicate run false ++ low_bits back_len back) (bit ∷ []))

-- the bits behind still begin with a one
pub resync_queue_push_odd : (back_len back b : ℕ) (bit : Bool) → back < 2 ^ back_len → back_len < 63 → b ≡ bool_byte bit
    → (0 < back_len → back % 2 ≡ 1) → (back_len ≡ 0 → bit ≡ true) → bit_or (b * 2 ^ back_len % 2 ^ 64) back % 2 ≡ 1
resync_queue_push_odd back_len back b bit h k e odd one =
    let v : ℕ = bit_or (b * 2 ^ back_len % 2 ^ 64) back in
    let front : (v % 2 == 1) ∷ low_bits (back_len + 1 - 1) (v / 2) ≡ low_bits back_len back ++ bit ∷ [] =
    sym (decoder_bits_next (back_len + 1) v (omega arith)) ∙ resync_queue_push 64 back_len back b bit h (omega arith) e
    in
    let is_one : (v % 2 == 1) ≡ true = ap head_or front ∙ head back_len odd one in
    eqb-true (v % 2) 1 is_one
  where
    head : (len : ℕ) → (0 < len → back % 2 ≡ 1) → (len ≡ 0 → bit ≡ true)
        → head_or (low_bits len back ++ bit ∷ []) ≡ true
    head zero odd one = ap (λ x. head_or (x ++ bit ∷ [])) (decoder_bits_none zero back refl) ∙ one refl
    head (suc len) odd one = ap (λ x. head_or (x ++ bit ∷ []))
        (decoder_first_bit_is_one (suc len) back (omega arith) (odd (omega arith)))

-- ---- many bits more

-- at the end of the front
pub resync_queue_join_front : (len front run back_len back n v : ℕ) → front < 2 ^ len → len + n ≤ 92
    → run + back_len ≡ 0
    → resync_queue (len + n) (bit_or (bit_and v (1 * 2 ^ n % 2 ^ 128 - 1) * 2 ^ len % 2 ^ 128) front) run back_len back
    ≡ resync_queue len front run back_len back ++ low_bits n v
resync_queue_join_front len front run back_len back n v h room none =
    let low : bit_and v (1 * 2 ^ n % 2 ^ 128 - 1) ≡ v % 2 ^ n = resync_queue_mask 128 n v (omega arith) in
    let few : v % 2 ^ n < 2 ^ n = mod-lt v (pow_pos n) in
    ap (λ w. resync_queue (len + n) (bit_or (w * 2 ^ len % 2 ^ 128) front) run back_len back) low
    ∙ resync_queue_alone (len + n) (bit_or (v % 2 ^ n * 2 ^ len % 2 ^ 128) front) run back_len back none
    ∙ resync_queue_join 128 len n (v % 2 ^ n) front few h (omega arith) ∙ ap (λ x. low_bits len front ++ x)
    (decoder_bits_mod n v) ∙ sym (ap (λ x. x ++ low_bits n v) (resync_queue_alone len front run back_len back none))

-- a number of len bits with the low n bits of another joined above is below 2 ^ (len + n), with room in w bits
pub resync_queue_join_masked_lt : (w len front n v : ℕ) → front < 2 ^ len → len + n ≤ w → n < w
    → bit_or (bit_and v (1 * 2 ^ n % 2 ^ w - 1) * 2 ^ len % 2 ^ w) front < 2 ^ (len + n)
resync_queue_join_masked_lt w len front n v h room few =
    subst (λ x. bit_or (x * 2 ^ len % 2 ^ w) front < 2 ^ (len + n)) (sym (resync_queue_mask w n v few))
    (resync_queue_join_lt w len n (v % 2 ^ n) front (mod-lt v (pow_pos n)) h room)

-- at the end of the run
pub resync_queue_join_zeros : (len front run n m back_len back : ℕ) → back_len ≡ 0 → m ≡ n
    → resync_queue len front (run + m) back_len back ≡ resync_queue len front run back_len back ++ replicate n false
resync_queue_join_zeros len front run n m back_len back e same =
    let none : low_bits back_len back ≡ [] = decoder_bits_none back_len back e in
    ap (λ k. low_bits len front ++ (replicate (run + k) false ++ low_bits back_len back)) same
    ∙ ap (λ x. low_bits len front ++ (replicate (run + n) false ++ x)) none
    ∙ ap (λ x. low_bits len front ++ x) (append-nil (replicate (run + n) false)
    ∙ sym (replicate-append-replicate run n false)
    ∙ ap (λ x. x ++ replicate n false) (sym (append-nil (replicate run false))
    ∙ ap (λ x. replicate run false ++ x) (sym none)))
    ∙ sym (append_assoc (low_bits len front) (replicate run false ++ low_bits back_len back) (replicate n false))

-- behind it
pub resync_queue_join_back : (len front run back_len back n v : ℕ) → back < 2 ^ back_len → back_len + n ≤ 63
    → resync_queue len front run (back_len + n)
    (bit_or (bit_and v (1 * 2 ^ n % 2 ^ 64 - 1) * 2 ^ back_len % 2 ^ 64) back)
    ≡ resync_queue len front run back_len back ++ low_bits n v
resync_queue_join_back len front run back_len back n v h room =
    let few : v % 2 ^ n < 2 ^ n = mod-lt v (pow_pos n) in
    ap (λ w. resync_queue len front run (back_len + n) (bit_or (w * 2 ^ back_len % 2 ^ 64) back))
    (resync_queue_mask 64 n v (omega arith)) ∙ ap (λ x. low_bits len front ++ (replicate run false ++ x))
    (resync_queue_join 64 back_len n (v % 2 ^ n) back few h (omega arith)
    ∙ ap (λ x. low_bits back_len back ++ x) (decoder_bits_mod n v)) ∙ ap (λ x. low_bits len front ++ x) (sym
    (append_assoc (replicate run false) (low_bits back_len back) (low_bits n v)))
    ∙ sym (append_assoc (low_bits len front) (replicate run false ++ low_bits back_len back) (low_bits n v))

-- the bits behind still begin with a one
pub resync_queue_join_odd : (back_len back n v : ℕ) → back < 2 ^ back_len → back_len + n ≤ 63 → 0 < back_len + n
    → (0 < back_len → back % 2 ≡ 1) → (back_len ≡ 0 → v % 2 ≡ 1)
    → bit_or (bit_and v (1 * 2 ^ n % 2 ^ 64 - 1) * 2 ^ back_len % 2 ^ 64) back % 2 ≡ 1
resync_queue_join_odd back_len back n v h room some odd one =
    let few : v % 2 ^ n < 2 ^ n = mod-lt v (pow_pos n) in
    let w : ℕ = bit_or (v % 2 ^ n * 2 ^ back_len % 2 ^ 64) back in
    let all : low_bits (back_len + n) w ≡ low_bits back_len back ++ low_bits n v =
    resync_queue_join 64 back_len n (v % 2 ^ n) back few h (omega arith) ∙ ap (λ x. low_bits back_len back ++ x)
    (decoder_bits_mod n v) in
    let front : (w % 2 == 1) ∷ low_bits (back_len + n - 1) (w / 2) ≡ low_bits back_len back ++ low_bits n v =
    sym (decoder_bits_next (back_len + n) w some) ∙ all in
    ap (λ x. bit_or (x * 2 ^ back_len % 2 ^ 64) back % 2) (resync_queue_mask 64 n v (omega arith))
    ∙ eqb-true (w % 2) 1 (ap head_or front ∙ head back_len odd one some)
  where
    head : (len : ℕ) → (0 < len → back % 2 ≡ 1) → (len ≡ 0 → v % 2 ≡ 1) → 0 < len + n
        → head_or (low_bits len back ++ low_bits n v) ≡ true
    head zero odd one some =
        ap (λ x. head_or (x ++ low_bits n v)) (decoder_bits_none zero back refl)
        ∙ ap head_or (decoder_first_bit_is_one n v (omega arith) (one refl))
    head (suc len) odd one some =
        ap (λ x. head_or (x ++ low_bits n v))
        (decoder_first_bit_is_one (suc len) back (omega arith) (odd (omega arith)))

-- ---- a run at the front

-- the first bit of a number is a one exactly where the number is odd
pub resync_queue_lowest_bit : (v : ℕ) → low_bits 1 v ≡ (v % 2 == 1) ∷ []
unfolding low_bits
resync_queue_lowest_bit v = refl

-- a run at the front of a window is at the front of all the bits
pub resync_window_run : (len v n : ℕ) (bit : Bool) (back all : List Bool) → all ≡ low_bits len v ++ back → n ≤ len
    → low_bits n v ≡ replicate n bit → (rest : List Bool) × (all ≡ replicate n bit ++ rest)
resync_window_run len v n bit back all e h r =
    let others : List Bool = low_bits (len - n) (v / 2 ^ n) in (
      others ++ back,
      e ∙ ap (λ x. x ++ back) (decoder_bits_parted n len v h ∙ ap (λ x. x ++ others) r)
          ∙ append_assoc (replicate n bit) others back,
    )

-- where all the bits begin with a bit, the window isn't empty, and begins with it
pub resync_window_first_bit : (len v : ℕ) (bit : Bool) (back all rest : List Bool) → all ≡ low_bits len v ++ back
    → (len < 50 → back ≡ []) → all ≡ bit ∷ rest → (0 < len) × (low_bits 1 v ≡ replicate 1 bit)
resync_window_first_bit zero v bit back all rest e none f =
    let nothing : [] ≡ bit ∷ rest =
    sym (none (omega arith)) ∙ ap (λ x. x ++ back) (sym (decoder_bits_none zero v refl)) ∙ sym e ∙ f in
    absurd cc
resync_window_first_bit (suc len) v bit back all rest e none f =
    let first : (v % 2 == 1) ∷ (low_bits (suc len - 1) (v / 2) ++ back) ≡ bit ∷ rest =
    sym (ap (λ x. x ++ back) (decoder_bits_next (suc len) v (omega arith))) ∙ sym e ∙ f in
    (omega arith, resync_queue_lowest_bit v ∙ ap (λ b. b ∷ []) (ap head_or first))

-- ---- of a queue that is held

-- where the front isn't full, the run is empty and nothing is behind it
pub resync_queue_none_behind : (q : Queue) → IsResyncQueueFull q → q.front_len < 92 → q.zeros + q.back_len ≡ 0
resync_queue_none_behind q full h = elim (cases_lt 0 (q.zeros + q.back_len)) [
  | inl some ↦ (let n : q.front_len ≡ 92 = full some in absurd (omega arith))
  | inr none ↦ omega arith
]

-- up to 92 bits, where the queue has as many, are in its front
pub resync_queue_front_holds : (q : Queue) → IsResyncQueueFull q → (c : ℕ) → c ≤ 92 → c ≤ length (resync_queued q)
    → c ≤ q.front_len
resync_queue_front_holds q full c h k = elim (cases_lt q.front_len 92) [
  | inl less ↦
      let none = resync_queue_none_behind q full less in
      let l : length (resync_queued q) ≡ q.front_len =
      ap length (resync_queue_alone q.front_len q.front q.zeros q.back_len q.back none)
      ∙ length-low_bits q.front_len q.front in
      omega arith
  | inr most ↦ omega arith
]

-- the window, up to fifty bits of the front, is at the front of the queue, and is all of it where it has fewer
pub resync_window_in_front : (q : Queue) → IsResyncHeld q → (n : ℕ) → n ≡ min q.front_len 50 →
    (back : List Bool) × (resync_queued q ≡ low_bits n (bit_and q.front (1 * 2 ^ n % 2 ^ 128 - 1)) ++ back)
    × (n < 50 → back ≡ [])
resync_window_in_front q held n e =
    let within : n ≤ q.front_len = omega arith in
    let bits : low_bits n (bit_and q.front (1 * 2 ^ n % 2 ^ 128 - 1)) ≡ low_bits n q.front =
    ap (low_bits n) (resync_queue_mask 128 n q.front (omega arith)) ∙ decoder_bits_mod n q.front in
    let others : List Bool = replicate q.zeros false ++ low_bits q.back_len q.back in (
      low_bits (q.front_len - n) (q.front / 2 ^ n) ++ others,
      ap (λ x. x ++ others) (decoder_bits_parted n q.front_len q.front within)
          ∙ append_assoc (low_bits n q.front) (low_bits (q.front_len - n) (q.front / 2 ^ n)) others
          ∙ sym (ap (λ x. x ++ (low_bits (q.front_len - n) (q.front / 2 ^ n) ++ others)) bits),
      (λ few. resync_queue_empty (q.front_len - n) (q.front / 2 ^ n) q.zeros q.back_len q.back (omega arith)
          (resync_queue_none_behind q held.full (omega arith))),
    )

use Rattle.std.proofs.Common.{◌≡◌, ℕ, ◌+◌, ◌-◌, ◌<◌, ◌≤◌, List, ◌++◌, Option, rules, arith, length, take, slice_range}
use Rattle.std.proofs.Common.{sym, ap, ◌∙◌, subst, le_refl, drop_at, length-take-le}
use Rattle.std.proofs.lemmas.List.{length-append}
use Rattle.std.proofs.lemmas.Slice.{take-put_mid_below}
use Rattle.std.specs.Io.KnownBytes.{Consumes}
use Rattle.std.proofs.KnownBytes.{Consumes-trans, Consumes-kept}
use borrow.Rule.Slice.PartMut.{put_mid, post_of}
use lib.Seq.{take-add, take-append-le}
use Rattle.swd_remote.proofs.levels.fill.Goals as goal

-- a read that gave nothing leaves what was read before
short : (a b c : Option (List ℕ)) (buffer got : List ℕ) (at n : ℕ) → at < length buffer → n ≡ 0
    → Consumes a b (take at buffer) → Consumes b c (take n got)
    → (text : List ℕ) × (length text < length buffer) × Consumes a c text
short a b c buffer got at n l e p q =
    let front : length (take at buffer) ≡ at = length-take-le at buffer (omega arith) in
    let none : length (take n got) ≡ 0 = ap (λ k. length (take k got)) e in
    let both : length (take at buffer ++ take n got) ≡ length (take at buffer) + length (take n got) = length-append
    (take at buffer) (take n got) in
    (take at buffer ++ take n got, omega arith, Consumes-trans a b c _ _ p q)

take_split : (a b : ℕ) (old new : List ℕ) → a ≤ b → take a new ≡ take a old
    → take a old ++ slice_range new a b ≡ take b new
take_split a b old new h front =
    let same : a + (b - a) ≡ b = omega arith in
    ap (λ l. l ++ slice_range new a b) (sym front) ∙ sym (take-add a (b - a) new) ∙ ap (λ n. take n new) same

slice_range-put_mid : (a k n : ℕ) (xs ys : List ℕ) → a ≤ length xs → n ≤ length ys
    → slice_range (put_mid a k xs ys) a (a + n) ≡ take n ys
slice_range-put_mid a k n xs ys within fits =
    let same : (a + n) - a ≡ n = omega arith in
    let after = post_of a k xs in
    ap (take ((a + n) - a)) (drop_at (take a xs) (ys ++ after) a (length-take-le a xs within))
    ∙ ap (λ m. take m (ys ++ after)) same ∙ take-append-le n ys after fits

pub returns-then-n-eq0-clause-err : goal.returns-then-n-eq0-clause-err
returns-then-n-eq0-clause-err g c =
    let i = c.loop-at.invariant in
    let long = i.long in
    let s = short _ _ _ c.loop-at.buffer c.read.new.buf c.loop-at.at c.in-Ok.n c.loop-at-test.true c.if-n-eq0.true
    i.reads c.in-Ok.ensures.bytes.0 in
    (s.0, subst (λ k. length s.0 < k) long s.1, s.2, c.in-Ok.ensures.bytes.1 c.if-n-eq0.true (omega arith))

pub returns-in-Err-clause-err : goal.returns-in-Err-clause-err
returns-in-Err-clause-err g c =
    let i = c.loop-at.invariant in
    let front : length (take c.loop-at.at c.loop-at.buffer) ≡ c.loop-at.at = length-take-le c.loop-at.at
    c.loop-at.buffer i.within in
    (take c.loop-at.at c.loop-at.buffer, omega arith, Consumes-kept _ _ _ _ i.reads c.in-Err.ensures.bytes)

pub loop-at-preserved : goal.loop-at-preserved
loop-at-preserved g c =
    let from = c.loop-at.at in
    let room = length c.loop-at.buffer - from in
    let within = c.loop-at.invariant.within in
    let part = slice_range-put_mid from room c.in-Ok.n c.loop-at.buffer c.read.new.buf within c.in-Ok.ensures.bound.0 in
    let joined = take_split from (from + c.in-Ok.n) c.loop-at.buffer (put_mid from room c.loop-at.buffer c.read.new.buf)
    (omega arith) (take-put_mid_below _ _ _ _ _ (le_refl _) within) in
    record {
      long = search rules;
      within = search rules;
      reads = subst (Consumes _ _) (ap (λ l. take from c.loop-at.buffer ++ l) (sym part) ∙ joined)
          (Consumes-trans _ _ _ _ _ c.loop-at.invariant.reads c.in-Ok.ensures.bytes.0);
    }

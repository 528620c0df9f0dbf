use Rattle.std.proofs.Common.{◌≡◌, ℕ, zero, suc, ◌-◌, ◌/◌, ◌%◌, ◌<◌, [], ◌∷◌, ◌++◌, sym, ap, ◌∙◌, subst, arith}
use Rattle.std.proofs.Common.{append_assoc}
use Rattle.std.specs.Prelude.{◌==◌}
use Rattle.std.proofs.lemmas.List.{append-nil}
use Rattle.swd_bits.specs.Bits.{low_bits}
use Rattle.swd_trace.proofs.NumberLemmas.{decoder_bits_none}
use Rattle.swd_trace.specs.declared.item.Item.TheVariants.{Junk}
use Rattle.swd_resync.specs.declared.part.Part.TheVariants.{Item as Told}
use Rattle.swd_capture.specs.Printing.{capture_junk_parts}
use Rattle.swd_draw.specs.Collecting.{KeepsDrawn}
use Rattle.swd_draw.proofs.kept.DrawnParts.add_junk.Goals as goal

-- the first junk bit, and the others
first_junk : (n v : ℕ) → 0 < n
    → capture_junk_parts (low_bits n v) ≡ Told (Junk (v % 2 == 1)) ∷ capture_junk_parts (low_bits (n - 1) (v / 2))
unfolding low_bits
first_junk zero v h = absurd (omega arith)
first_junk (suc n) v h =
    let same : n ≡ suc n - 1 = omega arith in
    ap (λ m. Told (Junk (v % 2 == 1)) ∷ capture_junk_parts (low_bits m (v / 2))) same

pub loop-left-preserved : goal.loop-left-preserved
loop-left-preserved c = λ most parts h.
    let i = c.loop-left.invariant most parts h in
    let part = Told (Junk (c.loop-left.bits % 2 == 1)) in
    let others = capture_junk_parts (low_bits (c.loop-left.left - 1) (c.loop-left.bits / 2)) in (
      i.0 ++ part ∷ [],
      c.add.ensures most i.0 i.1,
      append_assoc i.0 (part ∷ []) others
          ∙ ap (λ x. i.0 ++ x) (sym (first_junk c.loop-left.left c.loop-left.bits c.loop-left-test.true)) ∙ i.2,
    )

pub returns : goal.returns
returns c = λ most parts h.
    let i = c.loop-left.invariant most parts h in
    let none : low_bits c.loop-left.left c.loop-left.bits ≡ [] =
    decoder_bits_none c.loop-left.left c.loop-left.bits (omega (arith, c.loop-left-test.false)) in
    subst (λ p. KeepsDrawn most p c.loop-left.self)
    (sym (append-nil i.0) ∙ ap (λ x. i.0 ++ capture_junk_parts x) (sym none) ∙ i.2) i.1

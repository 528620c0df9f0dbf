use Rattle.std.proofs.Common.{◌≡◌, ◌<◌, ◌++◌, ◌∙◌, ℕ, zero, suc, codes, ap, sym, append_assoc, arith, refl}
use Rattle.std.specs.Fmt.{decimal}
use Rattle.swd_draw.specs.Drawings.{caption_end}
use Rattle.swd_draw.proofs.head.push_caption_end.Goals as goal

none_left_out : (n : ℕ) → n ≡ 0 → codes ". The trace ends here.</text>" ≡ caption_end n
unfolding caption_end
none_left_out zero h = refl
none_left_out (suc n) h = absurd (omega arith)

some_left_out : (n : ℕ) → 0 < n
    → codes ". Items left out: " ++ decimal n ++ codes ".</text>" ≡ caption_end n
unfolding caption_end
some_left_out zero h = absurd (omega arith)
some_left_out (suc n) h = refl

pub returns-then-left_out-eq0-clause-bytes : goal.returns-then-left_out-eq0-clause-bytes
returns-then-left_out-eq0-clause-bytes c =
    c.push_str.ensures.bytes
    ∙ ap (λ x. c.args.text.now.bytes ++ x) (none_left_out c.args.left_out (omega (arith, c.if-left_out-eq0.true)))

pub returns-else-left_out-eq0-clause-bytes : goal.returns-else-left_out-eq0-clause-bytes
returns-else-left_out-eq0-clause-bytes c =
    rw (
      c.push_str-else-left_out-eq0-2.ensures.bytes,
      c.push_number.ensures.bytes,
      c.push_str-else-left_out-eq0.ensures.bytes,
      sym (some_left_out c.args.left_out (omega (arith, c.if-left_out-eq0.false))),
    ) (simp append_assoc refl)

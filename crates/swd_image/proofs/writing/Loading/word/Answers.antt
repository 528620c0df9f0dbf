use Rattle.std.proofs.Common.{◌≡◌, ◌∙◌, ◌+◌, ◌*◌, ℕ, ap, arith}
use Rattle.swd_image.specs.Images.{image_byte}
use Rattle.swd_image.proofs.writing.Loading.word.Goals as goal

same : (a b c d x y z w : ℕ) → a ≡ x → b ≡ y → c ≡ z → d ≡ w
    → a + b * 256 + c * 65536 + d * 16777216 ≡ x + y * 256 + z * 65536 + w * 16777216
same a b c d x y z w e f g h = omega (arith, e, f, g, h)

pub returns : goal.returns
returns c =
    let byte = λ (word at : ℕ). image_byte c.args.self.now.addr c.args.self.now.bytes.now word at in
    let edge = c.word-word.ensures in
    c.from_le_bytes.ensures
    ∙ same _ _ _ _ _ _ _ _ (c.byte.ensures ∙ ap (λ w. byte w c.args.at) edge)
    (c.byte-2.ensures ∙ ap (λ w. byte w (c.args.at + 1)) edge)
    (c.byte-3.ensures ∙ ap (λ w. byte w (c.args.at + 2)) edge)
    (c.byte-4.ensures ∙ ap (λ w. byte w (c.args.at + 3)) edge)

use Rattle.std.proofs.Common.{◌≡◌, ℕ, ◌+◌, ◌-◌, ◌*◌, ◌/◌, ◌%◌, Bool, true, false, [], ◌∷◌, ◌++◌}
use Rattle.std.proofs.Common.{sym, ap, ◌∙◌, append_assoc, arith}
use Rattle.std.specs.Prelude.{◌==◌}
use Rattle.swd_trace.specs.Texts.{item_line}
use Rattle.swd_trace.specs.declared.item.Item.TheVariants.{Junk}
use Rattle.swd_capture.specs.Places.{capture_tens_prefix}
use Rattle.swd_capture.proofs.PlaceLemmas.{capture_place_split}
use Rattle.swd_capture.proofs.junk_line.Tens.push_placed.Goals as goal
use mir.Val.{bool_byte}

half : (d : ℕ) (bit : Bool) → (2 * d + bool_byte bit) / 2 ≡ d
half d true = omega arith
half d false = omega arith

odd : (d : ℕ) (bit : Bool) → ((2 * d + bool_byte bit) % 2 == 1) ≡ bit
odd d true = let e : (2 * d + 1) % 2 ≡ 1 = omega arith in ap (λ n. n == 1) e
odd d false = let e : (2 * d + 0) % 2 ≡ 0 = omega arith in ap (λ n. n == 1) e

pub returns-clause-bytes : goal.returns-clause-bytes
returns-clause-bytes g c =
    let old = c.args.text.now.bytes in
    let place = c.args.place in
    let bit = c.args.bit in
    let start = c.set.new.self.start in
    let d = place % 10 in
    let n = c.from.result in
    let end = c.placed_end.result.now in
    let line = item_line (Junk bit) ++ 10 ∷ [] in
    let first : start / 10 ≡ place / 10 = omega (arith, c.set.ensures) in
    let last : place - start ≡ d = omega (arith, c.set.ensures) in
    let ends : end ≡ (48 + d) ∷ 32 ∷ line =
    c.placed_end.ensures.bytes
    ∙ ap (λ k. (48 + (2 * k + n) / 2) ∷ 32 ∷ (item_line (Junk ((2 * k + n) % 2 == 1)) ++ 10 ∷ [])) last
    ∙ ap (λ n. (48 + (2 * d + n) / 2) ∷ 32 ∷ (item_line (Junk ((2 * d + n) % 2 == 1)) ++ 10 ∷ [])) c.from.ensures
    ∙ ap (λ n. (48 + n) ∷ 32 ∷ (item_line (Junk ((2 * d + bool_byte bit) % 2 == 1)) ++ 10 ∷ [])) (half d bit)
    ∙ ap (λ b. (48 + d) ∷ 32 ∷ (item_line (Junk b) ++ 10 ∷ [])) (odd d bit) in
    c.push_str.ensures.bytes ∙ ap (λ x. x ++ end) c.push.ensures.bytes ∙ append_assoc old
    (capture_tens_prefix (start / 10)) end ∙ ap (λ t. old ++ (capture_tens_prefix t ++ end)) first
    ∙ ap (λ x. old ++ (capture_tens_prefix (place / 10) ++ x)) ends
    ∙ ap (λ x. old ++ x) (sym (capture_place_split place line c.ranges.place.fits))

use Rattle.std.proofs.Common.{◌≡◌, ℕ, ◌/◌, ◌%◌, ◌^◌, not, cond, eqb, map, length, replicate, ap, ◌∙◌, w8, arith}
use Rattle.std.specs.Simd.Lanes.{mask_l, zip2, top}
use Rattle.std.proofs.lemmas.Simd.{bitmask_splat, zip2_splat, map-map}
use Rattle.std.proofs.lemmas.List.{length-map}
use Rattle.swd_text.proofs.digits.others.Goals as goal

pub returns : goal.returns
returns c =
    let long : length c.args.bytes ≡ 64 = c.fits-bytes.0 in
    let halves = map (λ (x : ℕ). x / 2) c.args.bytes in
    ap (λ l. mask_l (map (top 7) (zip2 (λ a b. cond (not (eqb a b)) 255 0) l (replicate 64 24))) % 2 ^ 64)
    (zip2_splat (λ x k. x / 2 ^ k) c.args.bytes 64 1 long)
    ∙ bitmask_splat w8 (λ a b. not (eqb a b)) halves 64 24 (omega (arith, length-map c.args.bytes (λ (x : ℕ). x / 2)))
    (omega arith)
    ∙ ap mask_l (map-map (λ x. not (eqb x 24)) (λ x. x / 2) c.args.bytes)

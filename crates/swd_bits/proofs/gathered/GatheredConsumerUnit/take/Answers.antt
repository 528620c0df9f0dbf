use Rattle.std.proofs.Common.{◌≡◌, ℕ, suc, ◌+◌, ◌-◌, ◌^◌, ◌<◌, min, List, ◌∷◌, ◌++◌, length, take, drop, get_or, refl}
use Rattle.std.proofs.Common.{ap, ◌∙◌, subst, arith}
use Rattle.std.proofs.lemmas.List.{length-append, length-take-le}
use Rattle.swd_bits.specs.One.{IsFirstBadScanByte}
use Rattle.swd_bits.proofs.ScanLemmas.{scan_bits_parted}
use Rattle.swd_bits.proofs.gathered.GatheredConsumerUnit.take.Goals as goal

bad_there : (seen piece more : List ℕ) (i : ℕ) → i < length piece →
    IsFirstBadScanByte ((seen ++ take i piece) ++ (get_or piece i 0 ∷ (drop (suc i) piece ++ more)))
    (length (seen ++ take i piece)) →
    IsFirstBadScanByte ((seen ++ piece) ++ more) (length seen + i)
bad_there seen piece more i h b =
    let n : length (seen ++ take i piece) ≡ length seen + i = length-append seen (take i piece)
    ∙ ap (λ k. length seen + k) (length-take-le i piece (omega arith)) in
    subst (λ x. IsFirstBadScanByte x (length seen + i)) (scan_bits_parted seen piece more i h)
    (subst (IsFirstBadScanByte _) n b)

least : (seen place i told : ℕ) → place ≡ min seen (2 ^ 64 - 1) → told ≡ min (place + i) (2 ^ 64 - 1)
    → told ≡ min (seen + i) (2 ^ 64 - 1)
least seen place i told p q = omega arith

pub returns-then-not-byte-clause-err : goal.returns-then-not-byte-clause-err
returns-then-not-byte-clause-err c =
    let i = c.loop-index.index in
    let piece = c.args.piece.now in
    let within : i < length piece = omega arith in
    λ u seen h more. (
      length seen + i,
      least (length seen) _ i _ (c.if-not-byte.ensures.place ∙ c.loop-index.invariant.place ∙ h.place)
          c.saturating_add.ensures,
      bad_there seen piece more i within
          (c.if-not-byte.ensures.bad refl (seen ++ take i piece) (c.loop-index.invariant.gathers seen h.gathers) _),
    )

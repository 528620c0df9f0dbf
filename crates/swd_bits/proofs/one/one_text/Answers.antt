use Rattle.std.proofs.Common.{◌≡◌, ℕ, Bool, false, List, [], ◌∷◌, ◌++◌, ◌<◌, length, take, sym, ap, ◌∙◌, subst, arith}
use Rattle.std.proofs.Common.{Option, None, Some, IfSome}
use Rattle.std.specs.Prelude.{IsSomeAnd}
use Rattle.std.proofs.KnownBytes.{Appends-nil}
use Rattle.std.specs.Io.KnownBytes.{Appends}
use Rattle.swd_bits.specs.TraceText.{scan_bits_of_text}
use Rattle.swd_bits.specs.BitLists.{tx_bits_of}
use Rattle.swd_bits.specs.Transactions.{SpellsTx}
use Rattle.swd_bits.specs.One.{GathersTxBits, HoldsGatheredBits}
use Rattle.swd_bits.specs.declared.gathered.Gathered.{Gathered}
use Rattle.swd_bits.specs.declared.tx.Tx.{Tx}
use Rattle.swd_bits.proofs.ScanLemmas.{scan_bits_read_all}
use Rattle.swd_bits.proofs.TxLemmas.{tx_bits_at_most_46}
use Rattle.swd_bits.proofs.one.one_text.Goals as goal

-- what the held bits say is said of the text
judged : (text : Option (List ℕ)) (g : Gathered) (P : List Bool → Type 0)
    → IfSome text (λ bytes. GathersTxBits bytes g)
    → ((bits : List Bool) → HoldsGatheredBits g.long g.held bits → P bits)
    → IfSome text (λ bytes. IsSomeAnd (scan_bits_of_text bytes) P)
judged None g P h k = tt
judged (Some bytes) g P h k = rw (scan_bits_read_all bytes h.bits g.scan h.reads) (k h.bits h.kept)

pub returns-then-gathered : goal.returns-then-gathered
returns-then-gathered g c = (
  judged (g.R.Read.remaining c.args.reader.now) c.in_ok-gathered.gathered (λ bits. (tx : Tx) → SpellsTx tx bits → ⊥)
      c.in_ok-gathered.ensures
      (λ bits k tx p.
      let k' = rw c.if-gathered.true at k in
      let n = tx_bits_at_most_46 tx bits p in
      omega (arith, k'.1, n)),
  Appends-nil _,
)

pub returns-in_default : goal.returns-in_default
returns-in_default g c = (
  judged (g.R.Read.remaining c.args.reader.now) c.in_ok-gathered.gathered (λ bits. (tx : Tx) → SpellsTx tx bits → ⊥)
      c.in_ok-gathered.ensures
      (λ bits k tx p.
      let k' = rw c.if-gathered.false at k in
      c.in_default.ensures.none tx (subst (SpellsTx tx) (sym k'.1) p)),
  Appends-nil _,
)

-- what the transaction that was found is in the text
found : (text : Option (List ℕ)) (g : Gathered) (tx : Tx) → IfSome text (λ bytes. GathersTxBits bytes g)
    → g.long ≡ false → SpellsTx tx (tx_bits_of g.held) →
    IfSome text (λ bytes. IsSomeAnd (scan_bits_of_text bytes) (SpellsTx tx))
found text g tx h e f = judged text g (SpellsTx tx) h (λ bits k. let k' = rw e at k in subst (SpellsTx tx) k'.1 f)

pub returns-in-Ok : goal.returns-in-Ok
returns-in-Ok g c =
    let e = c.as_bytes.ensures.value ∙ c.as_str.ensures.value ∙ c.push_str.ensures.bytes
    ∙ ap (λ x. x ++ 10 ∷ []) c.line-line.ensures.bytes in (
      c.in-Some.tx,
      found (g.R.Read.remaining c.args.reader.now) c.in_ok-gathered.gathered c.in-Some.tx
          c.in_ok-gathered.ensures c.if-gathered.false c.in-Some.ensures.found,
      subst (Appends (g.W.Write.contents c.args.writer.now) (g.W.Write.contents c.send.new.writer)) e
          c.in-Ok.ensures.ok,
    )

pub returns-in-Err : goal.returns-in-Err
returns-in-Err g c =
    let e = c.as_bytes.ensures.value ∙ c.as_str.ensures.value ∙ c.push_str.ensures.bytes
    ∙ ap (λ x. x ++ 10 ∷ []) c.line-line.ensures.bytes in (
      c.in-Some.tx,
      c.in-Err.field-0.sent,
      subst (λ x. c.in-Err.field-0.sent < length x) e c.in-Err.ensures.err.0,
      found (g.R.Read.remaining c.args.reader.now) c.in_ok-gathered.gathered c.in-Some.tx c.in_ok-gathered.ensures
          c.if-gathered.false c.in-Some.ensures.found,
      subst (λ x. Appends (g.W.Write.contents c.args.writer.now) (g.W.Write.contents c.send.new.writer)
          (take c.in-Err.field-0.sent x)) e c.in-Err.ensures.err.1,
    )

use Rattle.std.proofs.Common.{◌≡◌, ℕ, List, ◌++◌, ◌+◌, ◌-◌, length, take, drop, arith, subst, ap, sym, ◌∙◌, length-drop}
use Rattle.std.proofs.KnownBytes.{Appends-trans}
use Rattle.std.proofs.Math.Seq.{take-add, take-length}
use Rattle.std.specs.Io.KnownBytes.{Appends}
use Rattle.swd_io.proofs.output.send.Goals as goal

-- the front, and then some of the rest
joined : (text : List ℕ) (at n : ℕ)
    → take at text ++ take n (take (length text - at) (drop at text)) ≡ take (at + n) text
joined text at n =
    let all : take (length text - at) (drop at text) ≡ drop at text = ap (λ k. take k (drop at text))
    (sym (length-drop at text)) ∙ take-length (drop at text) in
    ap (λ rest. take at text ++ take n rest) all ∙ sym (take-add at n text)

pub loop-sent-preserved : goal.loop-sent-preserved
loop-sent-preserved g c = record {
  within = omega (arith, c.in-Ok.ensures.bound);
  written = subst (Appends (g.W.Write.contents c.args.writer.now) (g.W.Write.contents c.write.new.self))
      (joined c.args.text.now c.loop-sent.sent c.in-Ok.n)
      (Appends-trans _ _ _ _ _ c.loop-sent.invariant.written c.in-Ok.ensures.bytes);
}

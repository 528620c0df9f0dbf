use Rattle.std.proofs.Common.{◌≡◌, ◌-◌, ◌*◌, ◌/◌, ◌≤◌, ◌^◌, ◌++◌, ◌%◌, [], map, take, ap, sym, subst, ◌∙◌}
use Rattle.std.proofs.Common.{append_assoc, arith}
use Rattle.std.proofs.lemmas.List.{append-nil}
use Rattle.swd_io.specs.Blocks.{BlockBufferSends}
use Rattle.swd_bits.specs.Bits.{low_bits}
use Rattle.swd_trace.specs.declared.item.Item.TheVariants.{Junk}
use Rattle.swd_trace.specs.Texts.{listing}
use Rattle.swd_trace.proofs.NumberLemmas.{decoder_bits_none}
use Rattle.swd_text.proofs.ListerLemmas.{decode_text_junk_split, decode_text_junk_taken}
use Rattle.swd_text.proofs.lister.put_junk.Goals as goal

pub loop-left-preserved : goal.loop-left-preserved
loop-left-preserved g c = record {
  sends = λ start all h.
      let i = c.loop-left.invariant.sends start all h in
      let left = c.loop-left.left in
      let bits = c.loop-left.bits in
      let k = c.min-count.result in
      let least = c.min-count.ensures in
      let few : k ≤ 4 = omega arith in
      let within : k ≤ left = omega arith in
      let lines = listing (map Junk (low_bits k bits)) in
      let others = listing (map Junk (low_bits (left - k) (bits / 2 ^ k))) in
      let put : take (7 * c.from.result) c.junk_lines.result.now ≡ lines =
      ap (λ text. take (7 * c.from.result) text) c.junk_lines.ensures
      ∙ ap (λ n. take (7 * n) (listing (map Junk (low_bits 4 (bits % 16))))) c.from.ensures
      ∙ decode_text_junk_taken k bits few in (
        i.0 ++ lines,
        subst (BlockBufferSends g.W.Write.contents start c.put_first.new.self)
            (append_assoc all i.0 _ ∙ ap (λ x. all ++ (i.0 ++ x)) put)
            (c.put_first.ensures.sends start (all ++ i.0) i.1),
        append_assoc i.0 lines others ∙ ap (λ x. i.0 ++ x) (sym (decode_text_junk_split k left bits within)) ∙ i.2,
      );
  writer = c.put_first.ensures.writer ∙ c.loop-left.invariant.writer;
}

pub returns-clause-sends : goal.returns-clause-sends
returns-clause-sends g c = λ start all h.
    let i = c.loop-left.invariant.sends start all h in
    let ended = c.loop-left-test.false in
    let left = c.loop-left.left in
    let bits = c.loop-left.bits in
    let none : low_bits left bits ≡ [] = decoder_bits_none left bits (omega arith) in
    subst (λ x. BlockBufferSends g.W.Write.contents start c.loop-left.block (all ++ x))
    (sym (append-nil i.0) ∙ ap (λ bits. i.0 ++ listing (map Junk bits)) (sym none) ∙ i.2) i.1

use Rattle.std.proofs.Common.{◌≡◌, ℕ, ◌-◌, ◌/◌, ◌^◌, ◌≤◌, [], ◌++◌, map, sym, ap, subst, append_assoc, ◌∙◌, arith}
use Rattle.std.proofs.lemmas.List.{append-nil, map-append}
use Rattle.swd_io.specs.Blocks.{BlockBufferSends}
use Rattle.swd_bits.specs.Bits.{low_bits}
use Rattle.swd_trace.proofs.NumberLemmas.{decoder_bits_none, decoder_bits_parted}
use Rattle.swd_trace.specs.declared.item.Item.TheVariants.{Junk}
use Rattle.swd_resync.specs.declared.part.Part.TheVariants.{Item as Told}
use Rattle.swd_capture.specs.Printing.{capture_junk_parts}
use Rattle.swd_capture_text.specs.Printers.{print_output, PrintQueues}
use Rattle.swd_capture_text.proofs.printer.put_junk.Goals as goal

-- the first junk bits, and the others
junk_parted : (k n v : ℕ) → k ≤ n
    → capture_junk_parts (low_bits n v) ≡ capture_junk_parts (low_bits k v)
    ++ capture_junk_parts (low_bits (n - k) (v / 2 ^ k))
junk_parted k n v h =
    ap capture_junk_parts (decoder_bits_parted k n v h)
    ∙ ap (map Told) (map-append Junk (low_bits k v) (low_bits (n - k) (v / 2 ^ k)))
    ∙ map-append Told (map Junk (low_bits k v)) (map Junk (low_bits (n - k) (v / 2 ^ k)))

pub loop-left-preserved : goal.loop-left-preserved
loop-left-preserved g c = λ start parts h.
    let i = c.loop-left.invariant start parts h in
    let left = c.loop-left.left in
    let bits = c.loop-left.bits in
    let k = c.min-count.result in
    let within : k ≤ left = omega (arith, c.min-count.ensures) in
    let first = capture_junk_parts (low_bits k bits) in
    let others = capture_junk_parts (low_bits (left - k) (bits / 2 ^ k)) in
    let b = c.tell_junk.ensures.bytes start.printed i.0 i.1.after in
    let same : c.as_bytes.result.now ≡ c.tell_junk.new.text.bytes = search in (
      i.0 ++ first,
      record {
        after = c.tell_junk.ensures.after start.printed i.0 i.1.after;
        sends = subst (λ all. BlockBufferSends g.W.Write.contents start.from c.put.new.self all)
            (ap (λ x. print_output start i.0 ++ x) (same ∙ b.1 ∙ ap (λ x. x ++ b.0) c.clear.ensures) ∙ sym b.2)
            (c.put.ensures.sends start.from (print_output start i.0) i.1.sends);
        same = c.put.ensures.writer ∙ i.1.same;
      },
      append_assoc i.0 first others ∙ ap (λ x. i.0 ++ x) (sym (junk_parted k left bits within)) ∙ i.2,
    )

pub returns : goal.returns
returns g c = λ start parts h.
    let i = c.loop-left.invariant start parts h in
    let none : low_bits c.loop-left.left c.loop-left.bits ≡ [] =
    decoder_bits_none c.loop-left.left c.loop-left.bits (omega (arith, c.loop-left-test.false)) in
    subst (PrintQueues g.W.Write.contents start c.loop-left.teller c.loop-left.block)
    (sym (append-nil i.0) ∙ ap (λ x. i.0 ++ capture_junk_parts x) (sym none) ∙ i.2) i.1

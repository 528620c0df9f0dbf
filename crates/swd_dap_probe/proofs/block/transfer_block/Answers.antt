use Rattle.std.proofs.Common.{◌/◌, ◌%◌, ◌++◌, ◌∙◌, [], ◌∷◌, ap, append_assoc, arith}
use Rattle.swd_dap_probe.proofs.block.transfer_block.Goals as goal

pub returns : goal.returns
returns g c =
    let done = c.move_block-done in
    let count = done.result.count in
    let words = done.new.words.items in
    let head = 6 ∷ count % 256 ∷ count / 256 ∷ done.result.value ∷ [] in
    record {
      told = head ++ words;
      is = c.put-2.ensures ∙ ap (λ x. x ++ c.as_slice.result.now) c.put.ensures
          ∙ ap (λ x. (c.args.reply.now.items ++ head) ++ x) c.as_slice.ensures.value
          ∙ append_assoc c.args.reply.now.items head words;
      short = omega (arith, done.ensures.room);
      holds = record {
        count = count;
        value = done.ensures.makes.0;
        words = words;
        does = done.ensures.makes.1;
        is = ap (λ v. 6 ∷ count % 256 ∷ count / 256 ∷ v ∷ words) done.ensures.makes.2;
      };
    }

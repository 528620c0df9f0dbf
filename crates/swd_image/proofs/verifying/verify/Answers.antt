use Rattle.std.proofs.Common.{◌∙◌, ◌%◌, ap, length}
use Rattle.swd_image.proofs.DumpLemmas.{dump_bytes_length}
use Rattle.swd_image.proofs.verifying.verify.Goals as goal

pub first_difference-requires-clause-same : goal.first_difference-requires-clause-same
first_difference-requires-clause-same g c =
    let dumps = c.in_ok-found.ensures.dumps in
    ap length c.as_slice.ensures.value ∙ ap length dumps.are
    ∙ dump_bytes_length dumps.words (c.args.addr % 4) (length c.args.bytes.now)

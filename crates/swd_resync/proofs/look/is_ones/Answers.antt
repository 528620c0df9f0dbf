use Rattle.std.proofs.Common.{◌≤◌, arith}
use Rattle.std.proofs.lemmas.Bool.{eqb-true, eqb-false}
use Rattle.swd_trace.proofs.NumberLemmas.{decoder_bits_ones_alone, decoder_bits_zero_among}
use Rattle.swd_resync.proofs.look.is_ones.Goals as goal

pub returns-clause-ones : goal.returns-clause-ones
returns-clause-ones c = λ e.
    let short : c.args.window.len ≤ 50 = c.requires.most in
    decoder_bits_ones_alone c.args.window.len c.args.window.bits (omega arith) (eqb-true _ _ e)

pub returns-clause-zero : goal.returns-clause-zero
returns-clause-zero c = λ e.
    let short : c.args.window.len ≤ 50 = c.requires.most in
    decoder_bits_zero_among c.args.window.len c.args.window.bits c.requires.spelled (omega arith) (eqb-false _ _ e)

use Rattle.std.proofs.Common.{arith}
use Rattle.swd_checker.proofs.CoverLemmas.{tar_within, checked_at_most}
use Rattle.swd_checker.proofs.tar.are_among.Goals as goal

pub returns : goal.returns
returns c = λ e. let fits = checked_at_most _ _ e in
    tar_within c.args.first c.args.more c.args.from c.args.count (omega arith) (omega arith) (omega (arith, fits))

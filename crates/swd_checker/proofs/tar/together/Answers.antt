use Rattle.std.proofs.Common.{arith}
use Rattle.swd_checker.proofs.CoverLemmas.{tars_joined}
use Rattle.swd_checker.proofs.JoiningLemmas.{tars_united}
use Rattle.swd_checker.proofs.tar.together.Goals as goal

pub returns-then-most-lt256-clause-joined : goal.returns-then-most-lt256-clause-joined
returns-then-most-lt256-clause-joined c = tars_joined c.args.first c.args.more c.args.from c.args.count _ (omega arith)
    (omega arith)
    (omega arith) (omega arith)

pub returns-then-most-lt256-clause-whole : goal.returns-then-most-lt256-clause-whole
returns-then-most-lt256-clause-whole c = tars_united c.args.first c.args.more c.args.from c.args.count _ (omega arith)
    (omega arith) (omega arith) (omega arith) (grind arith)

use Rattle.std.specs.Prelude.{map}
use Rattle.swd_trace.specs.declared.item.Item.TheVariants.{Junk}
use Rattle.swd_check.specs.Watched.{CheckTakes}
use Rattle.swd_check.proofs.JunkLemmas.{JunkTaken}
use Rattle.swd_check.proofs.text.watch_junk.Given as goal

abbrev pub invariant-loop-taken : goal.invariant-loop-taken
invariant-loop-taken g l = JunkTaken (λ done. CheckTakes (map Junk done) l.fn.check l.check) l.fn.junk l._taken l.bits

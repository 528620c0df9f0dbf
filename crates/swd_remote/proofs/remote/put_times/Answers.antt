use Rattle.std.proofs.Common.{◌++◌, ◌∙◌, ap, sym, append_assoc}
use Rattle.swd_remote.proofs.WayLemmas.{remote_outgoing_twice}
use Rattle.swd_remote.proofs.LevelLemmas.{remote_next_equal_clock}
use Rattle.swd_remote.proofs.remote.put_times.Goals as goal

pub loop-place-preserved : goal.loop-place-preserved
loop-place-preserved g c =
    let i = c.loop-place.invariant in
    let clock = c.args.clock.now in (
      i.0 ++ clock,
      remote_outgoing_twice g.W.Write.contents i.0 clock _ c.loop-place.outgoing _ i.1 c.put.ensures,
      append_assoc i.0 clock _ ∙ ap (λ x. i.0 ++ x)
          (sym (remote_next_equal_clock c.args.count c.loop-place.place clock c.loop-place-test.true)) ∙ i.2,
    )

use Rattle.std.proofs.Common.{◌%◌, List, ℕ, ◌++◌, ◌∙◌, ap, sym, append_assoc, subst}
use Rattle.std.specs.Prelude.{◌==◌}
use Rattle.swd_sequences.specs.Clocks.{sequence_driven_clock}
use Rattle.swd_remote.specs.Ways.{RemoteLengthens}
use Rattle.swd_remote.proofs.WayLemmas.{remote_outgoing_twice, remote_outgoing_all_put}
use Rattle.swd_remote.proofs.LevelLemmas.{remote_next_clock, remote_no_clock_left}
use Rattle.swd_remote.proofs.remote.put_bits.Goals as goal

pub loop-place-preserved : goal.loop-place-preserved
loop-place-preserved g c =
    let i = c.loop-place.invariant in
    let clock = sequence_driven_clock (c.loop-place.rest % 2 == 1) in
    let put : RemoteLengthens g.W.Write.contents clock c.loop-place.outgoing c.put.new.self
    = subst (λ (x : List ℕ). RemoteLengthens g.W.Write.contents x c.loop-place.outgoing c.put.new.self)
    c.driven_clock.ensures c.put.ensures in (
      i.0 ++ clock,
      remote_outgoing_twice g.W.Write.contents i.0 clock _ c.loop-place.outgoing _ i.1 put,
      append_assoc i.0 clock _ ∙ ap (λ x. i.0 ++ x)
          (sym (remote_next_clock c.args.count c.loop-place.place c.loop-place.rest c.loop-place-test.true)) ∙ i.2,
    )

pub returns : goal.returns
returns g c =
    let i = c.loop-place.invariant in
    remote_outgoing_all_put g.W.Write.contents i.0 _ _ _ _ i.1 i.2
    (remote_no_clock_left c.args.count c.loop-place.place c.loop-place.rest c.loop-place-test.false)

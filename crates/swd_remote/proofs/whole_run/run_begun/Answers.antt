use Rattle.std.proofs.Common.{refl}
use Rattle.std.proofs.Math.Logic.{∥∥₁_map, ∥∥₁_elim, ∥∥₁_prop}
use Rattle.swd_host.proofs.Outsides.{host_run_fresh_wire, host_run_noted_calls}
use Rattle.swd_remote.proofs.WholeLemmas.{remote_still_no_calls}
use Rattle.swd_remote.proofs.whole_run.run_begun.Goals as goal

pub returns : goal.returns
returns g c =
    ∥∥₁_elim (c.into_transport.ensures refl) ∥∥₁_prop (λ went.
    ∥∥₁_map (c.hang_up.ensures went.made went.told) (λ ended. record {
      calls = c.run-ran.new.wire.noted.calls;
      closes = c.run-ran.ensures.closes;
      fits = host_run_fresh_wire c.run-ran.result c.args.accesses.now c.args.tries g.S.Story.at
          c.begun-wire.result.noted.calls c.run-ran.new.wire.noted.calls c.begun-wire.ensures.calls
          c.run-ran.ensures.fits;
      told = host_run_noted_calls c.run-ran.result c.args.accesses.now c.begun-wire.result.noted.calls
          c.run-ran.new.wire.noted.calls c.begun-wire.ensures.calls c.run-ran.ensures.told;
      accepted = c.run-ran.ensures.accepted;
      refused = c.run-ran.ensures.refused;
      untouched = remote_still_no_calls c.run-ran.result (λ wire. wire.noted.calls) c.run-ran.new.wire
          c.begun-wire.result c.begun-wire.ensures.calls c.run-ran.ensures.untouched;
      over = record {
        made = went.made;
        gone = c.run-ran.new.wire.gone;
        fetched = went.fetched;
        of = went.of;
        hangs = ended.0;
        shows = ended.1;
      };
    }))

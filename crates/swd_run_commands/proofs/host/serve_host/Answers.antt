use Rattle.std.proofs.Common.{subst, sym}
use Rattle.swd_run_commands.specs.Targets.{ServesHost}
use Rattle.swd_run_commands.proofs.host.serve_host.Goals as goal

pub returns : goal.returns
returns g c =
    subst (λ p. ServesHost g.D.Device.bus p c.serve_logged-served-2.result.0 c.is_cut_off.result
    (g.R.Read.remaining c.args.reader.now)
    (g.R.Read.remaining c.serve_logged-served-2.new.reader) (g.W.Write.contents c.args.writer.now)
    (g.W.Write.contents c.serve_logged-served-2.new.writer) c.args.pins c.into_pins.result)
    (sym c.in-Some.is) (
      c.new-probe.result,
      c.serve_logged-served-2.result.1,
      c.new-probe.ensures,
      c.serve_logged-served-2.ensures.session,
      c.into_pins.ensures,
      c.is_cut_off.ensures,
    )

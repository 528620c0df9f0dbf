use Rattle.std.proofs.Common.{ℕ, ◌-◌, [], Option, Some, None, subst, if◌then◌else◌}
use Rattle.swd_dap.specs.Leading.{DapReleases, DapQueues, dap_lead_bits}
use Rattle.swd_dap.proofs.sequences.lead.Goals as goal

pub returns : goal.returns
returns g c =
    let ones = c.args.ones in
    let zeros = c.args.zeros in
    let m = c.release.new.packets in
    let t = c.drive_lead.new.packets in
    record {
      released = m;
      releases = subst (λ n. DapReleases g.P.Packets.exchanged n c.args.packets.now m) c.min-undriven.ensures
          c.in_ok-release.ensures;
      drives = subst (λ n. DapQueues g.P.Packets.exchanged
          (dap_lead_bits (ones - n) (if c.args.switch then Some ones else None) zeros) m [] t []) c.min-undriven.ensures
          (subst (λ (a : Option ℕ). DapQueues g.P.Packets.exchanged
          (dap_lead_bits (ones - c.min-undriven.result) a zeros) m [] t []) c.ones_again.ensures
          c.in_ok-drive_lead.ensures);
    }

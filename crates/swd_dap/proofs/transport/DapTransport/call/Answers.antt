use Rattle.std.proofs.Common.{Option, Some, Ok, Err, sym, subst, refl}
use Rattle.swd_port.specs.declared.outside.Disconnected.{Disconnected}
use Rattle.swd_dap.specs.declared.packets.DapFault.{DapFault}
use Rattle.swd_dap.specs.Calls.{DapCallsAt}
use Rattle.swd_dap.proofs.CallLemmas.{dap_fault_not_none}
use Rattle.swd_dap.proofs.transport.DapTransport.call.Goals as goal

pub returns-in-Some : goal.returns-in-Some
returns-in-Some g c =
    let s = c.args.self.now in
    let gone : Disconnected = record {} in
    subst (λ (o : Option DapFault). DapCallsAt o (Err gone) g.P.Packets.exchanged c.args.cue s s) (sym c.in-Some.is)
    refl

pub returns-in-Ok : goal.returns-in-Ok
returns-in-Ok g c =
    let s = c.args.self.now in
    let t = c.perform.new.self in
    subst (λ (o : Option DapFault). DapCallsAt o (Ok c.in-Ok.seen) g.P.Packets.exchanged c.args.cue s t)
    (sym c.in-None.is) c.in-Ok.ensures

pub returns-in-Err : goal.returns-in-Err
returns-in-Err g c =
    let s = c.args.self.now in
    let t = record c.perform.new.self { fault = Some c.in-Err.fault } in
    let gone : Disconnected = record {} in
    subst (λ (o : Option DapFault). DapCallsAt o (Err gone) g.P.Packets.exchanged c.args.cue s t)
    (sym c.in-None.is) (dap_fault_not_none c.in-Err.fault)

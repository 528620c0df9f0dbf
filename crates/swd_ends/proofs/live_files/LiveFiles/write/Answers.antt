use Rattle.std.proofs.Common.{rules, ◌≡◌, ◌∙◌, List, ap, drop, length, subst, take}
use Rattle.swd_port.specs.declared.access.Transfer.{Transfer}
use Rattle.swd_ends.specs.TargetLogs.{live_log_lines}
use Rattle.swd_ends.specs.LiveFiles.{LiveFileWrites, live_log_at, live_trace_at, live_transfers_at}
use Rattle.swd_ends.proofs.live_files.LiveFiles.write.Goals as goal

pub returns-clause-log : goal.returns-clause-log
returns-clause-log g c =
    let contents = g.M.Write.contents in
    let self = c.args.self.now in
    let bus = g.D.Device.bus in
    let all : c.log.result.now ≡ live_transfers_at bus c.args.pins.now = search rules in
    let log : c.transfers_since.result.now ≡ live_log_at bus self.skipped c.args.pins.now =
    c.transfers_since.ensures ∙ ap (drop self.skipped) all in
    subst (λ (l : List Transfer). LiveFileWrites contents (λ n. live_log_lines (take n l)) (length l) self.log
    c.log_on.new.file) log c.log_on.ensures

pub returns-clause-trace : goal.returns-clause-trace
returns-clause-trace g c =
    let text : c.text.result.now ≡ live_trace_at c.args.pins.now = search rules in
    subst (λ l. LiveFileWrites g.M.Write.contents (λ n. take n l) (length l) c.args.self.now.trace c.trace_on.new.file)
    text c.trace_on.ensures

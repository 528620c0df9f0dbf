use Rattle.std.proofs.Common.{rules, ◌≡◌, ◌-◌, ◌^◌, min, [], ◌∷◌, ◌++◌, length, ap, arith, subst}
use Rattle.std.proofs.lemmas.List.{take_all}
use Rattle.swd_clocked.specs.Marked.{marked_clocked_tally, marked_clocked_cycles}
use Rattle.swd_run.specs.GrowingFiles.{GrowingFileAdds}
use Rattle.swd_ends.specs.TargetLogs.{live_log_counts_line, live_log_lines}
use Rattle.swd_ends.specs.LiveFiles.{live_log_at, live_log_first, live_log_whole, live_trace_at, live_trace_first}
use Rattle.swd_ends.specs.LiveFiles.{live_trace_whole}
use Rattle.swd_ends.proofs.LiveLemmas.{live_file_finishes}
use Rattle.swd_ends.proofs.live_files.LiveFiles.finish.Goals as goal

pub returns-clause-log : goal.returns-clause-log
returns-clause-log g c =
    let contents = g.M.Write.contents in
    let t = c.args.pins.now in
    let self = c.args.self.now in
    let bus = g.D.Device.bus in
    let log = live_log_at bus self.skipped t in
    let between = c.write.new.self.log in
    let last = live_log_counts_line (marked_clocked_cycles t.target)
    (min (marked_clocked_tally t.target).asked (2 ^ 64 - 1)) ++ 10 ∷ [] in
    let line : c.as_bytes.result.now ≡ last = search rules in
    live_file_finishes contents (live_log_first bus self.skipped t) (length log) last
    (live_log_whole bus self.skipped t)
    self.log between c.add.new.self (ap (λ l. live_log_lines l ++ last) (take_all (length log) log (omega arith)))
    c.write.ensures.log (subst (λ x. GrowingFileAdds contents x between c.add.new.self) line c.add.ensures.adds)

pub returns-clause-trace : goal.returns-clause-trace
returns-clause-trace g c =
    let t = c.args.pins.now in
    let text = live_trace_at t in
    live_file_finishes g.M.Write.contents (live_trace_first t) (length text) (10 ∷ []) (live_trace_whole t)
    c.args.self.now.trace c.write.new.self.trace c.add-2.new.self
    (ap (λ l. l ++ 10 ∷ []) (take_all (length text) text (omega arith))) c.write.ensures.trace c.add-2.ensures.adds

use Rattle.std.proofs.Common.{rules, ◌≡◌, ◌∙◌, ℕ, length, refl, subst}
use Rattle.swd_run.specs.GrowingFiles.{GrowingFileHas}
use Rattle.swd_run.specs.Records.{run_file_held}
use Rattle.swd_ends.specs.LiveFiles.{LiveFileFinishes, live_log_at, live_log_first, live_log_whole, live_trace_at}
use Rattle.swd_ends.specs.LiveFiles.{live_trace_first, live_trace_whole, live_transfers_at}
use Rattle.swd_ends.proofs.LiveLemmas.{live_file_given}
use Rattle.swd_ends.proofs.live_files.serve_logged.Goals as goal

pub returns-clause-log : goal.returns-clause-log
returns-clause-log g c = λ sound.
    let contents = g.M.Write.contents in
    let bus = g.D.Device.bus in
    let s = g.P.Protocol.pins_of c.args.protocol in
    let t = g.P.Protocol.pins_of c.serve_watched-served.result.1 in
    let n : ℕ = length c.log.result.now in
    let was : n ≡ length (live_transfers_at bus s) = search rules in
    let watched = c.serve_watched-served.ensures.watched sound in
    let live = c.serve_watched-served.result.2 in
    let m : ℕ = live.skipped in
    let file = c.finish.new.self.log in
    subst (λ k. GrowingFileHas contents (run_file_held contents c.args.log) file (live_log_whole bus k t))
    (watched.skipped ∙ was)
    (live_file_given contents (live_log_first bus n s) (live_log_first bus m t) (length (live_log_at bus n s))
    (length (live_log_at bus m t)) (live_log_whole bus m t) c.args.log _ _ file refl c.new.ensures watched.log
    (subst (λ p. LiveFileFinishes contents (live_log_first bus m p) (length (live_log_at bus m p))
    (live_log_whole bus m p) live.log file) c.pins-2.ensures c.finish.ensures.log))

pub returns-clause-trace : goal.returns-clause-trace
returns-clause-trace g c = λ sound.
    let contents = g.M.Write.contents in
    let s = g.P.Protocol.pins_of c.args.protocol in
    let t = g.P.Protocol.pins_of c.serve_watched-served.result.1 in
    let file = c.finish.new.self.trace in
    live_file_given contents (live_trace_first s) (live_trace_first t) (length (live_trace_at s))
    (length (live_trace_at t)) (live_trace_whole t) c.args.trace _ _ file refl c.new-2.ensures
    (c.serve_watched-served.ensures.watched sound).trace
    (subst (λ p. LiveFileFinishes contents (live_trace_first p) (length (live_trace_at p)) (live_trace_whole p)
    c.serve_watched-served.result.2.trace file) c.pins-2.ensures c.finish.ensures.trace)

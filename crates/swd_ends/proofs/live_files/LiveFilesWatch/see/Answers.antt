use Rattle.std.proofs.Common.{ap, length, subst, sym}
use Rattle.swd_ends.specs.TargetLogs.{live_log_lines}
use Rattle.swd_ends.specs.LiveFiles.{LiveFileKeeps, live_log_at, live_log_first, live_trace_at, live_trace_first}
use Rattle.swd_ends.specs.LiveFiles.{live_transfers_at}
use Rattle.swd_ends.proofs.LiveLemmas.{live_file_keeps, live_log_first_alike, live_log_grows_behind}
use Rattle.swd_ends.proofs.LiveLemmas.{live_log_no_shorter}
use Rattle.swd_ends.proofs.LogGrowth.{live_pins_reached_grow}
use Rattle.swd_ends.proofs.live_files.LiveFilesWatch.see.Goals as goal

pub returns : goal.returns
returns g c = λ s reaches sound.
    let contents = g.M.Write.contents in
    let t = c.args.pins.now in
    let bus = g.D.Device.bus in
    let later = live_pins_reached_grow bus s t sound reaches in
    let self = c.args.self.now in
    let old = live_log_at bus self.skipped s in
    let new = live_log_at bus self.skipped t in
    let grown = live_log_grows_behind self.skipped (live_transfers_at bus s) (live_transfers_at bus t) later.log in
    let wrote = c.write.ensures in
    record {
      sound = later.sound;
      skipped = wrote.skipped;
      log = subst (λ k. LiveFileKeeps contents (live_log_first bus self.skipped s) (live_log_first bus k t) (length old)
          (length (live_log_at bus k t)) self.log c.write.new.self.log) (sym wrote.skipped)
          (live_file_keeps contents (live_log_first bus self.skipped s) (live_log_first bus self.skipped t) (length old)
          (length new) self.log c.write.new.self.log (live_log_no_shorter old new grown)
          (λ n l. ap live_log_lines (live_log_first_alike old new grown n l)) wrote.log);
      trace = live_file_keeps contents (live_trace_first s) (live_trace_first t) (length (live_trace_at s))
          (length (live_trace_at t)) self.trace c.write.new.self.trace
          (live_log_no_shorter (live_trace_at s) (live_trace_at t) later.trace)
          (live_log_first_alike (live_trace_at s) (live_trace_at t) later.trace) wrote.trace;
    }

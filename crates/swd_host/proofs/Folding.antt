-- Passes on the lemmas from which `turn`, `perform`, `run` and `resume` fold their calls, for a crate whose loop is
-- another one, and declares nothing.
pub use Rattle.swd_host.proofs.Turned.{engine_turn_moves, engine_turn_works, engine_turn_due, engine_turn_falls}
pub use Rattle.swd_host.proofs.Turned.{engine_turn_goes, engine_moves_few}
pub use Rattle.swd_host.proofs.Working.{engine_works_refl, engine_works_trans}
pub use Rattle.swd_host.proofs.Going.{engine_goes_refl, engine_goes_trans}
pub use Rattle.swd_host.proofs.Lists.{host_list_valid_next, host_access_valid}
pub use Rattle.swd_host.proofs.Starts.{start_access, engine_due_at_start, start_left}
pub use Rattle.swd_host.proofs.Ends.{engine_stopped_state, engine_opened_state, engine_access_not_opened}
pub use Rattle.swd_host.proofs.Alone.{burst_next_access, opened_engine_stays, access_performs, answered_stays}
pub use Rattle.swd_host.proofs.Alone.{engine_performs_all, engine_stop_not_all, engine_start_not_all, opening_closes}
pub use Rattle.swd_host.proofs.Alone.{list_closes, engine_closes_equal}
pub use Rattle.swd_host.proofs.Performing.{opened_engine_stands, access_does, answered_stands, all_does}
pub use Rattle.swd_host.proofs.Runs.{opening_stops, list_fits}
pub use Rattle.swd_host.proofs.Resumed.{resume_stops, resume_performs}
pub use Rattle.swd_host.proofs.SendingTurns.{opening_counts, opening_stop_sent}
pub use Rattle.swd_host.proofs.SendingRuns.{EngineSentSoFar, engine_sent_answered, engine_sent_stopped, engine_sent_all}
pub use Rattle.swd_host.proofs.SendingRuns.{list_confirms}
pub use Rattle.swd_host.proofs.SendingRuns.{engine_report_matches, engine_requests_small}
pub use Rattle.swd_host.proofs.Listed.{list_report_closes, list_report_sent, list_runs_within, list_sent_confirms}

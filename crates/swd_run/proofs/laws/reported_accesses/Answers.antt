use Rattle.swd_run.proofs.TransferLemmas.{report_known_is_exact, report_session_explained, report_sure_is_exact}
use Rattle.swd_run.proofs.laws.reported_accesses.Goals as goal

pub returns : goal.returns
returns c = record { sessions = report_session_explained; sure = report_sure_is_exact; known = report_known_is_exact }

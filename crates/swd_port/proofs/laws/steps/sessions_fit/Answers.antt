use Rattle.swd_port.proofs.SessionLaws.{made_port_has_words, port_step_for_each_cue, port_session_fits}
use Rattle.swd_port.proofs.laws.steps.sessions_fit.Goals as goal

pub returns-clause-made : goal.returns-clause-made
returns-clause-made c = made_port_has_words

pub returns-clause-steps : goal.returns-clause-steps
returns-clause-steps c = port_step_for_each_cue

pub returns-clause-sessions : goal.returns-clause-sessions
returns-clause-sessions c = port_session_fits

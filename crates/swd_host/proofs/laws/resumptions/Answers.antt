use Rattle.swd_host.proofs.Chains.{resume_calls_chained, resume_chain_does, resume_chain_repeats}
use Rattle.swd_host.proofs.ReadChains.{resume_chain_reads}
use Rattle.swd_host.proofs.laws.resumptions.Goals as goal

pub returns-clause-chained : goal.returns-clause-chained
returns-clause-chained c = resume_calls_chained

pub returns-clause-done : goal.returns-clause-done
returns-clause-done c = resume_chain_does

pub returns-clause-reads : goal.returns-clause-reads
returns-clause-reads c = resume_chain_reads

pub returns-clause-repeats : goal.returns-clause-repeats
returns-clause-repeats c = resume_chain_repeats

use Rattle.swd_checker.proofs.identification.Identification.unknown.Goals as goal

pub returns-clause-may : goal.returns-clause-may
returns-clause-may c = λ n. tt

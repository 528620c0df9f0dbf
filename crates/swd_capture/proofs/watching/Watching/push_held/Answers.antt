use Rattle.swd_capture.proofs.watching.Watching.push_held.Goals as goal

pub returns-clause-bytes : goal.returns-clause-bytes
returns-clause-bytes g c = λ run h. (c.flush.ensures.shows run h).bytes

use Rattle.swd_capture_text.proofs.parts.PartReader.finish.Goals as goal

pub returns : goal.returns
returns g c = λ start bits h. c.give_last.ensures start bits h.parts h.gathers

use Rattle.swd_draw.proofs.kept.DrawnPartsPartSinkUnit.take_junk.Goals as goal

pub returns : goal.returns
returns c = λ most seen h. c.add_junk.ensures most seen h

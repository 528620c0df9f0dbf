use Rattle.swd_draw.proofs.kept.DrawnPartsPartSinkUnit.take_part.Goals as goal

pub returns : goal.returns
returns c = λ most seen h. c.add.ensures most seen h

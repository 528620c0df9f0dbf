use Rattle.std.proofs.Common.{refl}
use Rattle.swd_bitbang.proofs.LineLemmas.{pins_read_sequences, pins_served_up_to_quit, bitbang_sequences_stay_open}
use Rattle.swd_bitbang.proofs.laws.sequences_are_read.Goals as goal

pub returns-clause-reads : goal.returns-clause-reads
returns-clause-reads g c = λ sequences answers s t between h. pins_read_sequences g.D.Device.bus sequences s.drives
    answers s t refl
    between h

pub returns-clause-serves : goal.returns-clause-serves
returns-clause-serves g c = pins_served_up_to_quit g.D.Device.bus

pub returns-clause-goes_on : goal.returns-clause-goes_on
returns-clause-goes_on g c = bitbang_sequences_stay_open

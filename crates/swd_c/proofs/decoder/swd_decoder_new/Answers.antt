use Rattle.std.proofs.Common.{sym}
use Rattle.swd_c.proofs.decoder.swd_decoder_new.Goals as goal

pub returns-clause-is : goal.returns-clause-is
returns-clause-is c = (c.new.result, sym c.fields.ensures.fields)

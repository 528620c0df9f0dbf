use Rattle.swd_resync.proofs.HoldLemmas.{resync_held_empty}
use Rattle.swd_resync.proofs.decoder.CaptureDecoder.new.Goals as goal

pub returns-clause-held : goal.returns-clause-held
returns-clause-held c = resync_held_empty c.new.result.queue c.new.ensures.bits

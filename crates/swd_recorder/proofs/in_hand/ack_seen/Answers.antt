use Rattle.swd_recorder.proofs.AckLemmas.{recorded_ack_is_seen, recorded_no_ack_seen}
use Rattle.swd_recorder.proofs.in_hand.ack_seen.Goals as goal

pub returns-clause-is : goal.returns-clause-is
returns-clause-is c = recorded_ack_is_seen c.of.result c.args.seen c.requires c.of.ensures.found c.of.ensures.none

pub returns-clause-none : goal.returns-clause-none
returns-clause-none c = recorded_no_ack_seen c.of.result c.args.seen c.requires c.of.ensures.none

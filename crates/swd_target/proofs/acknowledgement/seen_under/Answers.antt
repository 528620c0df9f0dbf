use Rattle.std.proofs.Common.{◌<◌, sym, subst}
use Rattle.swd_port.proofs.AnswerLaws.{port_seen_range}
use Rattle.swd_target.proofs.ReplyLemmas.{target_muted_ack_seen}
use Rattle.swd_target.proofs.acknowledgement.seen_under.Goals as goal

pub returns-in-Mute-default : goal.returns-in-Mute-default
returns-in-Mute-default c =
    let value = target_muted_ack_seen c.args.mark c.args.reply c.in-Mute-default.place c.bits_of.result
    c.in-Mute-default.is-0 c.requires c.in-Mute-default.not-Silent-1 c.bits_of.ensures.value in
    record {
      value = value;
      range = subst (λ n. n < 8) (sym value) (port_seen_range c.args.mark c.args.reply c.requires);
    }

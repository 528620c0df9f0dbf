use Rattle.std.proofs.Common.{subst}
use Rattle.std.specs.Option.{option_map}
use Rattle.std.specs.String.{string_bytes}
use Rattle.clap.specs.Words.{found_of, rows_of}
use Rattle.swd_words.specs.Commands.{AreLeadArguments}
use Rattle.swd_words.proofs.lead_words.remote_in.Goals as goal

pub returns-in-Some : goal.returns-in-Some
returns-in-Some c = subst (λ files. AreLeadArguments (option_map string_bytes files) c.in_ok-lead.lead.1
    (rows_of (found_of c.args.matches.now))) c.in-Some.is c.in_ok-lead.ensures

use Rattle.std.proofs.Common.{sym}
use Rattle.std.proofs.lemmas.Grind.{merely}
use Rattle.swd_remote.proofs.KeptLemmas.{line_begins_at}
use Rattle.swd_remote.proofs.kept.RemoteTransport.new.Goals as goal

pub returns : goal.returns
returns g c = merely (
  line_begins_at g.R.Read.remaining g.W.Write.contents _ _ _ _ _ _ c.new.result (sym c.requires.way)
      (sym c.requires.sent) (sym c.requires.left) c.new.ensures,
  c.new-2.ensures,
)

use Rattle.std.proofs.Common.{[], ◌∷◌, refl, sym, ap, ◌∙◌, subst}
use Rattle.std.proofs.KnownBytes.{Appends-nil}
use Rattle.swd_remote.specs.declared.remote.Remote.{Remote}
use Rattle.swd_remote.specs.Ways.{IsOnRemoteWay}
use Rattle.swd_remote.proofs.line.begun.Goals as goal

pub returns : goal.returns
returns g c =
    let probe = c.new-2.ensures in
    let contents = g.W.Write.contents in
    let way = c.new.ensures.out (contents c.args.writer) [] (Appends-nil (contents c.args.writer)) in
    record {
      start = c.new-2.result.probe;
      fresh = record {
        well = ap (λ (r : Remote g.row.R.Denot g.row.W.Denot). r.fault) probe ∙ c.new.ensures.fault;
        asked = ap (λ (r : Remote g.row.R.Denot g.row.W.Denot). r.asked) probe ∙ c.new.ensures.asked;
        drives = ap (λ (r : Remote g.row.R.Denot g.row.W.Denot). r.drives) probe ∙ c.new.ensures.drives;
        writer = subst (λ (r : Remote g.row.R.Denot g.row.W.Denot). IsOnRemoteWay contents (contents c.args.writer)
            r.outgoing (79 ∷ [])) (sym probe) way;
        reader = ap (λ (r : Remote g.row.R.Denot g.row.W.Denot). g.R.Read.remaining r.reader) probe
            ∙ ap g.R.Read.remaining c.new.ensures.reader;
      };
      made = refl;
    }

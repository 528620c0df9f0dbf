use Rattle.std.proofs.Common.{◌+◌, arith, length, subst, sym}
use Rattle.std.proofs.KnownBytes.{Appends-trans}
use Rattle.std.proofs.lemmas.List.{length-append}
use Rattle.std.proofs.Math.Seq.{take-append-add}
use Rattle.std.specs.Io.KnownBytes.{Appends}
use Rattle.swd_ends.proofs.portions.CharactersPortion.write.Goals as goal

pub returns-in-Err : goal.returns-in-Err
returns-in-Err g c = λ start text h.
    let more = c.args.self.now.0.now in
    let sent = c.in-Err.unsent.sent in
    let cut = c.in-Err.ensures.err in
    let short = cut.0 in
    let count = h.count in
    let all = length-append text more in
    record {
      sent = length text + sent;
      short = omega (arith, all, short);
      gone = subst (Appends start _) (sym (take-append-add text more sent)) (Appends-trans _ _ _ _ _ h.gone cut.1);
      count = omega (arith, count);
    }

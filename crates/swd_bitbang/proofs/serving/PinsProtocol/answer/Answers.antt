use Rattle.std.proofs.Common.{refl, sym, ◌∙◌}
use Rattle.swd_sequences.specs.Alphabet.{alphabet_character}
use Rattle.swd_bitbang.specs.Sessions.{bitbang_answer_to_sign}
use Rattle.swd_bitbang.proofs.SessionLemmas.{bitbang_open_sign, bitbang_sign_ends_session}
use Rattle.swd_bitbang.proofs.serving.PinsProtocol.answer.Goals as goal

pub returns-in-Some-clause-same : goal.returns-in-Some-clause-same
returns-in-Some-clause-same g c =
    let e = bitbang_sign_ends_session g.D.Device.bus (alphabet_character c.args.byte) c.args.place c.args.byte
    c.in-Some.served c.args.self.now c.take-sign.new.self c.take-sign.result c.take-sign.ensures
    (sym c.end_at.ensures ∙ c.in-Some.is) in
    (e.same, refl)

pub returns-in-Some-clause-err : goal.returns-in-Some-clause-err
returns-in-Some-clause-err g c =
    let e = bitbang_sign_ends_session g.D.Device.bus (alphabet_character c.args.byte) c.args.place c.args.byte
    c.in-Some.served c.args.self.now c.take-sign.new.self c.take-sign.result c.take-sign.ensures
    (sym c.end_at.ensures ∙ c.in-Some.is) in
    (e.stops, λ taken at. e.why taken refl at)

pub returns-clause-ok : goal.returns-clause-ok
returns-clause-ok g c =
    let sign = c.take-sign.result in (
      bitbang_answer_to_sign sign,
      record {
        sign = sign;
        steps = c.take-sign.ensures;
        goes_on = bitbang_open_sign sign c.args.place c.args.byte (sym c.end_at.ensures ∙ c.in_default.is);
        tells = refl;
      },
      c.put_answer.ensures.sends,
    )

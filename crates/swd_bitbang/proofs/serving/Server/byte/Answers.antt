use Rattle.std.proofs.Common.{◌≡◌, ◌+◌, [], ◌∷◌, ◌++◌, length, refl, sym, subst, arith}
use Rattle.std.proofs.lemmas.List.{length-append}
use Rattle.swd_io.specs.Blocks.{BlockBufferSends}
use Rattle.swd_bitbang.specs.Protocols.{ProtocolSession}
use Rattle.swd_bitbang.specs.Watching.{PinsReach}
use Rattle.swd_bitbang.proofs.SessionLemmas.{pins_reach_themselves, serving_session_one_more}
use Rattle.swd_bitbang.proofs.serving.Server.byte.Goals as goal

pub returns-in-Err-clause-goes : goal.returns-in-Err-clause-goes
returns-in-Err-clause-goes g c =
    let old = c.args.self.now.protocol in
    subst (λ p. PinsReach g.D.Device.bus (g.P.Protocol.pins_of old) (g.P.Protocol.pins_of p))
    (sym c.in-Err.ensures.same.0) (pins_reach_themselves g.D.Device.bus (g.P.Protocol.pins_of old))

pub returns-in-Err-clause-err : goal.returns-in-Err-clause-err
returns-in-Err-clause-err g c = λ begin seen h.
    let old = c.args.self.now in
    let same = c.in-Err.ensures.same in
    let why = c.in-Err.ensures.err in
    record {
      taken = seen;
      byte = c.args.byte;
      more = [];
      is = refl;
      stops = why.0;
      ends = subst (λ p. g.P.Protocol.end c.in-Err.served p seen c.args.byte) (sym same.0) (why.1 seen h.place);
      under_way = record {
        answers = h.answers;
        session = subst (λ p. ProtocolSession g.P.Protocol.step seen h.answers begin.0 p) (sym same.0) h.session;
        sends = subst (λ b. BlockBufferSends g.W.Write.contents begin.1 b h.answers) (sym same.1) h.sends;
        place = h.place;
      };
    }

pub returns-clause-goes : goal.returns-clause-goes
returns-clause-goes g c =
    let went = c.in_default.ensures.ok in
    g.met.P.Protocol.reaches c.args.byte went.0 c.args.self.now.protocol c.answer.new.self went.1

pub returns-clause-ok : goal.returns-clause-ok
returns-clause-ok g c = λ begin seen h.
    let old = c.args.self.now in
    let went = c.in_default.ensures.ok in
    let len : length (seen ++ c.args.byte ∷ []) ≡ length seen + 1 = length-append seen (c.args.byte ∷ []) in
    let place = h.place in
    let next = c.saturating_add-self.ensures in
    record {
      answers = h.answers ++ went.0;
      session = serving_session_one_more g.P.Protocol.step seen h.answers c.args.byte went.0 begin.0 old.protocol
          c.answer.new.self h.session went.1;
      sends = went.2 begin.1 h.answers h.sends;
      place = omega arith;
    }

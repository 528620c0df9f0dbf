use Rattle.std.proofs.Common.{◌≡◌, ◌++◌, sym, ◌∙◌, subst}
use Rattle.std.specs.Io.KnownBytes.{Appends}
use Rattle.swd_port.specs.Bus.{Bus}
use Rattle.swd_bitbang.specs.declared.pins.Pins.{Pins}
use Rattle.swd_bitbang.specs.Protocols.{ProtocolEndsAs, ProtocolWriterBreaks}
use Rattle.swd_bitbang.specs.Watching.{PinsReach}
use Rattle.swd_bitbang.specs.Serving.{IsServingCutOff, ServingTaken}
use Rattle.swd_bitbang.proofs.SessionLemmas.{serving_answers_queued, serving_if_err_then, serving_on_ok_then}
use Rattle.swd_bitbang.proofs.SessionLemmas.{serving_session_ends_as}
use Rattle.swd_bitbang.proofs.serving.ServerConsumer.take.Goals as goal

-- the watch is shown pins that those before the piece reach
followed : {D A V : Type 0} (bus : D → Bus) (follows : V × Pins D A → V × Pins D A → Type 0) (first watch later : V)
    (s shown t : Pins D A) → watch ≡ first → shown ≡ t → PinsReach bus s t
    → ((x : Pins D A) → PinsReach bus x shown → follows (watch, x) (later, shown)) → follows (first, s) (later, t)
followed bus follows first watch later s shown t same is reach sees =
    subst (λ w. follows (w, s) (later, t)) same
    (subst (λ p. follows (watch, s) (later, p)) is (sees s (subst (λ p. PinsReach bus s p) (sym is) reach)))

pub returns-in-Err-clause-err : goal.returns-in-Err-clause-err
returns-in-Err-clause-err g c = record {
  leads_to_end = λ begin seen h.
      let contents = g.W.Write.contents in
      let same = c.writer-1.given.1
      (sym (c.flush.ensures.writer ∙ c.bytes-taken.ensures.writer ∙ c.new-block.ensures.writer)) in
      let text = seen ++ c.args.piece.now in
      let goes : ServingTaken g.P.Protocol.step contents begin c.args.self.now c.new-block.result seen =
      record {
        answers = h.answers;
        session = h.session;
        sends = c.new-block.ensures.sends begin.1 h.answers h.gone
            h.written;
        place = h.place;
      } in
      let u = serving_answers_queued g.P.Protocol.step g.P.Protocol.end contents begin c.bytes-taken.new.self
      c.bytes-taken.new.block text
      c.bytes-taken.result (serving_on_ok_then c.bytes-taken.result (λ f. f begin seen goes) c.bytes-taken.ensures.ok)
      (serving_if_err_then c.bytes-taken.result (λ served f. f begin seen goes) c.bytes-taken.ensures.err) in (
        tt,
        subst (λ w. ProtocolWriterBreaks g.P.Protocol.step c.in-Err.written begin.1 (contents w) text begin.0
            c.bytes-taken.new.self.protocol)
            (sym same) (record {
              taken = u.taken;
              more = u.more;
              is = u.is;
              answers = u.under_way.answers;
              session =
                  u.under_way.session;
              stopped = c.in-Err.ensures.err begin.1 u.under_way.answers u.under_way.sends;
            }),
      );
  followed = followed g.D.Device.bus g.V.Watch.follows _ _ _ (g.P.Protocol.pins_of c.args.self.now.protocol) _
      (g.P.Protocol.pins_of c.bytes-taken.new.self.protocol) c.bytes-taken.ensures.watch c.pins.ensures
      c.bytes-taken.ensures.goes c.see.ensures;
}

pub returns-in-Ok-taken-clause-ok : goal.returns-in-Ok-taken-clause-ok
returns-in-Ok-taken-clause-ok g c = record {
  leads_on = λ begin seen h.
      let contents = g.W.Write.contents in
      let same = c.writer-1.given.1
      (sym (c.flush.ensures.writer ∙ c.bytes-taken.ensures.writer ∙ c.new-block.ensures.writer)) in
      let goes = c.in-Ok-taken.ensures.ok begin seen
      (record {
        answers = h.answers;
        session = h.session;
        sends = c.new-block.ensures.sends begin.1 h.answers h.gone
            h.written;
        place = h.place;
      }) in
      let gone = c.in-Ok.ensures.ok begin.1 goes.answers goes.sends in
      record {
        answers = goes.answers;
        session = goes.session;
        gone = subst (λ w. Appends begin.1 (contents w) goes.answers) (sym same) gone.0;
        written = gone.1;
        place = goes.place;
      };
  followed = followed g.D.Device.bus g.V.Watch.follows _ _ _ (g.P.Protocol.pins_of c.args.self.now.protocol) _
      (g.P.Protocol.pins_of c.bytes-taken.new.self.protocol) c.bytes-taken.ensures.watch c.pins.ensures
      c.bytes-taken.ensures.goes c.see.ensures;
}

pub returns-in-Err-taken-clause-err : goal.returns-in-Err-taken-clause-err
returns-in-Err-taken-clause-err g c = record {
  leads_to_end = λ begin seen h.
      let contents = g.W.Write.contents in
      let same = c.writer-1.given.1
      (sym (c.flush.ensures.writer ∙ c.bytes-taken.ensures.writer ∙ c.new-block.ensures.writer)) in
      let text = seen ++ c.args.piece.now in
      let stops = c.in-Err-taken.ensures.err begin seen
      (record {
        answers = h.answers;
        session = h.session;
        sends = c.new-block.ensures.sends begin.1 h.answers h.gone
            h.written;
        place = h.place;
      }) in
      let way = stops.under_way in
      subst (λ w. IsServingCutOff c.in-Err-taken.served
      × ProtocolEndsAs g.P.Protocol.step g.P.Protocol.end c.in-Err-taken.served begin.1 (contents w) text begin.0
      c.bytes-taken.new.self.protocol) (sym same)
      (serving_session_ends_as g.P.Protocol.step g.P.Protocol.end c.in-Err-taken.served begin.1 _ text stops.taken
      stops.byte stops.more begin.0
      c.bytes-taken.new.self.protocol stops.is stops.stops stops.ends
      (record {
        answers = way.answers;
        session = way.session;
        gone = (c.in-Ok.ensures.ok begin.1 way.answers way.sends).0;
      }));
  followed = followed g.D.Device.bus g.V.Watch.follows _ _ _ (g.P.Protocol.pins_of c.args.self.now.protocol) _
      (g.P.Protocol.pins_of c.bytes-taken.new.self.protocol) c.bytes-taken.ensures.watch c.pins.ensures
      c.bytes-taken.ensures.goes c.see.ensures;
}

use Rattle.std.proofs.Common.{suc, [], ◌∷◌, ◌++◌, sym, ap, subst, ◌∙◌, append_assoc, take, drop, get_or}
use Rattle.std.proofs.lemmas.List.{take_more}
use Rattle.swd_bitbang.specs.Serving.{ServingTaken}
use Rattle.swd_bitbang.specs.Watching.{PinsReach}
use Rattle.swd_bitbang.proofs.SessionLemmas.{serving_piece_parted, pins_reach_further}
use Rattle.swd_bitbang.proofs.serving.Server.bytes.Goals as goal

pub returns-in-Err-clause-err : goal.returns-in-Err-clause-err
returns-in-Err-clause-err g c = λ begin seen h.
    let piece = c.args.piece.now in
    let index = c.loop-byte.byte-index in
    let so_far = seen ++ take index piece in
    let e = c.in-Err.ensures.err begin so_far (c.loop-byte.invariant.goes begin seen h) in
    let one = get_or piece index 0 in
    let left = drop (suc index) piece in
    record {
      taken = e.taken;
      byte = e.byte;
      more = e.more ++ left;
      is = serving_piece_parted seen piece index c.loop-byte-test.true ∙ sym (append_assoc so_far (one ∷ []) left)
          ∙ ap (λ x. x ++ left) e.is ∙ append_assoc e.taken (e.byte ∷ e.more) left;
      stops = e.stops;
      ends = e.ends;
      under_way = e.under_way;
    }

pub loop-byte-preserved : goal.loop-byte-preserved
loop-byte-preserved g c =
    let piece = c.args.piece.now in
    let i = c.loop-byte.byte-index in
    let reaches : PinsReach g.D.Device.bus (g.P.Protocol.pins_of c.args.self.now.protocol)
    (g.P.Protocol.pins_of c.byte.new.self.protocol) =
    pins_reach_further g.D.Device.bus _ _ _ c.loop-byte.invariant.reaches c.in_default.ensures.goes in
    record {
      writer = c.in_default.ensures.writer ∙ c.loop-byte.invariant.writer;
      written = c.in_default.ensures.written ∙ c.loop-byte.invariant.written;
      watch = c.in_default.ensures.watch ∙ c.loop-byte.invariant.watch;
      reaches = reaches;
      goes = λ begin seen h.
          let so_far = seen ++ take i piece in
          subst (ServingTaken g.P.Protocol.step g.W.Write.contents begin c.byte.new.self c.byte.new.block)
          (append_assoc seen (take i piece) _
          ∙ ap (λ x. seen ++ x) (sym (take_more piece i 0 c.loop-byte-test.true)))
          (c.in_default.ensures.ok begin so_far (c.loop-byte.invariant.goes begin seen h));
    }

pub returns-in-Err-clause-watch : goal.returns-in-Err-clause-watch
returns-in-Err-clause-watch g c = c.in-Err.ensures.watch ∙ c.loop-byte.invariant.watch

pub returns-in-Err-clause-goes : goal.returns-in-Err-clause-goes
returns-in-Err-clause-goes g c = pins_reach_further g.D.Device.bus _ _ _ c.loop-byte.invariant.reaches
    c.in-Err.ensures.goes

pub returns-clause-watch : goal.returns-clause-watch
returns-clause-watch g c = c.loop-byte.invariant.watch

pub returns-clause-goes : goal.returns-clause-goes
returns-clause-goes g c = c.loop-byte.invariant.reaches

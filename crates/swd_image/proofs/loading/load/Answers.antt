use Rattle.std.proofs.Common.{◌∙◌, ◌++◌, [], Some, ap, arith, length, refl, subst, sym}
use Rattle.std.proofs.lemmas.List.{append-nil}
use Rattle.std.proofs.lemmas.Result.{IfErr-weaker, err_from_is_err_and, on_ok_weaker}
use Rattle.swd_image.specs.declared.fault.ImageFault.TheVariants.{Range}
use Rattle.swd_image.specs.Bytes.{image_word_of}
use Rattle.swd_image.specs.Lists.{image_edge_list, image_load_list, image_loaded_word, image_writes}
use Rattle.swd_image.specs.Reports.{image_fault_of}
use Rattle.swd_image.specs.Sessions.{FailsAs, MadeAll}
use Rattle.swd_image.proofs.LoadLemmas.{fails_early, fails_late, loaded}
use Rattle.swd_image.proofs.ReportLemmas.{to_after, to_front, to_none}
use Rattle.swd_image.proofs.loading.load.Goals as goal

pub returns-clause-loads : goal.returns-clause-loads
returns-clause-loads g c =
    let s = c.args.wire.now in
    let reached = c.read_edges.new.wire in
    let t = c.write_words.new.wire in
    let addr = c.args.addr in
    let bytes = c.args.bytes.now in
    let edges = c.in_ok-edges.edges in
    let word = image_loaded_word addr bytes edges.head edges.tail in
    let Made = MadeAll g.W.Wire c.args.limits in
    on_ok_weaker c.write_words.result (λ made.
    (let all = subst (λ n. Made (image_writes word (image_word_of addr) n) reached t) c.word_count.ensures
    (subst (λ a. Made (image_writes word a c.word_count.result) reached t) c.word_of.ensures made) in
    record {
      fits = omega arith;
      head = edges.head;
      tail = edges.tail;
      reached = reached;
      edges = c.in_ok-edges.ensures.read;
      writes = all;
      memory = loaded g.W.Wire c.args.limits addr bytes s t
          (λ k. omega (arith, c.type_inv.bytes k)) edges.head edges.tail reached c.in_ok-edges.ensures.read all;
    })) c.write_words.ensures.made

pub returns-then-addr-len-clause-report : goal.returns-then-addr-len-clause-report
returns-then-addr-len-clause-report g c = (
  0,
  0,
  to_none g.W.Wire c.args.limits c.args.wire.now _ (Some Range)
      (g.S.CallReports.held c.args.report.now) (λ e. absurd cc) (λ end e. cc) (λ e. cc),
)

pub returns-in_err-edges-clause-report : goal.returns-in_err-edges-clause-report
returns-in_err-edges-clause-report g c =
    let addr = c.args.addr in
    let bytes = c.args.bytes.now in
    let p = err_from_is_err_and c.from_residual.result c.from_residual.ensures.1 in
    rw (p.1, p.2) (
      0,
      0,
      to_front g.W.Wire c.args.limits c.args.wire.now
          c.read_edges.new.wire (image_edge_list addr (length bytes)) (image_load_list addr bytes 0 0)
          (image_edge_list addr (length bytes) ++ image_load_list addr bytes 0 0) _
          (g.S.CallReports.held c.args.report.now)
          (g.S.CallReports.held c.read_edges.new.report) c.in_err-edges.ensures.report refl,
    )

pub returns-clause-report : goal.returns-clause-report
returns-clause-report g c =
    let addr = c.args.addr in
    let bytes = c.args.bytes.now in
    let edges = c.in_ok-edges.edges in
    let word = image_loaded_word addr bytes edges.head edges.tail in
    let all = image_edge_list addr (length bytes) in
    let made = image_writes word c.word_of.result c.word_count.result in
    let same = ap (λ n. image_writes word (image_word_of addr) n) (sym c.word_count.ensures)
    ∙ ap (λ a. image_writes word a c.word_count.result) (sym c.word_of.ensures) in (
      edges.head,
      edges.tail,
      to_after g.W.Wire c.args.limits c.args.wire.now
          c.read_edges.new.wire c.write_words.new.wire all made []
          (all ++ image_load_list addr bytes edges.head edges.tail) (image_fault_of c.write_words.result)
          (g.S.CallReports.held c.args.report.now)
          (g.S.CallReports.held c.read_edges.new.report)
          (g.S.CallReports.held c.write_words.new.report)
          c.in_ok-edges.ensures.report c.write_words.ensures.report
          (ap (λ l. all ++ l) (same ∙ sym (append-nil made))) (λ e. refl),
    )

pub returns-in_err-edges-clause-fault : goal.returns-in_err-edges-clause-fault
returns-in_err-edges-clause-fault g c =
    let p = err_from_is_err_and c.from_residual.result c.from_residual.ensures.1 in
    rw (p.1, p.2) (fails_early g.W.Wire c.args.limits c.args.addr c.args.bytes.now c.args.wire.now
    c.read_edges.new.wire _ (omega arith)
    c.in_err-edges.ensures.fault)

pub returns-clause-fault : goal.returns-clause-fault
returns-clause-fault g c =
    let reached = c.read_edges.new.wire in
    let t = c.write_words.new.wire in
    let bytes = c.args.bytes.now in
    let edges = c.in_ok-edges.edges in
    let word = image_loaded_word c.args.addr bytes edges.head edges.tail in
    let Fails = FailsAs g.W.Wire c.args.limits in
    IfErr-weaker c.write_words.result _ _ (λ fault f.
    fails_late g.W.Wire c.args.limits c.args.addr bytes c.args.wire.now t fault (omega arith) edges.head edges.tail
    reached
    c.in_ok-edges.ensures.read
    (subst (λ n. Fails (image_writes word (image_word_of c.args.addr) n) reached t fault) c.word_count.ensures
    (subst (λ a. Fails (image_writes word a c.word_count.result) reached t fault) c.word_of.ensures f)))
    c.write_words.ensures.fault

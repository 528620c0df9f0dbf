use Rattle.std.proofs.Common.{◌≡◌, ◌∙◌, ◌++◌, [], ℕ, Bool, List, None, ap, ap₂, refl, subst, sym}
use Rattle.std.proofs.lemmas.List.{append-nil}
use Rattle.std.proofs.lemmas.Result.{err_from_is_err_and}
use Rattle.swd_port.specs.declared.access.Access.{Access}
use Rattle.swd_port.specs.declared.wire.Wire.{Ghosts}
use Rattle.swd_run.specs.declared.limits.Limits.{Limits}
use Rattle.swd_image.specs.Bytes.{image_word_of}
use Rattle.swd_image.specs.Lists.{image_edge_list, image_last_word, image_needs_head, image_needs_tail, image_read_if}
use Rattle.swd_image.specs.Lists.{image_word_if}
use Rattle.swd_image.specs.Sessions.{FailsAs, ReadsAs}
use Rattle.swd_image.proofs.CallLemmas.{fails_after, fails_before, reads_append}
use Rattle.swd_image.proofs.ReportLemmas.{to_after, to_front}
use Rattle.swd_image.proofs.loading.read_edges.Goals as goal

-- the read of an edge, by the word and the test that were computed
edge_read : {W : Type 0} (wire : Ghosts W) (limits : Limits) (needed needs : Bool) (at addr word : ℕ) (s t : W)
    → needed ≡ needs → at ≡ addr → ReadsAs wire limits (image_read_if needed at) (image_word_if needed word) s t
    → ReadsAs wire limits (image_read_if needs addr) (image_word_if needs word) s t
edge_read wire limits needed needs at addr word s t e f h =
    subst (λ a. ReadsAs wire limits (image_read_if needs a) (image_word_if needs word) s t) f
    (subst (λ b. ReadsAs wire limits (image_read_if b at) (image_word_if b word) s t) e h)

pub returns-in_err-head-clause-fault : goal.returns-in_err-head-clause-fault
returns-in_err-head-clause-fault g c =
    let s = c.args.wire.now in
    let r = c.read_word.new.wire in
    let head = image_word_of c.args.addr in
    let needs = image_needs_head c.args.addr c.args.len in
    let tail = image_read_if (image_needs_tail c.args.addr c.args.len) (image_last_word c.args.addr c.args.len) in
    let Fails = FailsAs g.W.Wire c.args.limits in
    let fault = c.in_err-head.field-0.0 in
    let p = err_from_is_err_and c.from_residual.result c.from_residual.ensures.1 in
    rw (p.1, p.2) (fails_before g.W.Wire c.args.limits s r (image_read_if needs head) tail fault
    (subst (λ a. Fails (image_read_if needs a) s r fault) c.word_of.ensures
    (subst (λ b. Fails (image_read_if b c.word_of.result) s r fault) c.needs_head-first.ensures
    c.in_err-head.ensures.fault)))

pub returns-in_err-tail-clause-fault : goal.returns-in_err-tail-clause-fault
returns-in_err-tail-clause-fault g c =
    let r = c.read_word.new.wire in
    let u = c.read_word-2.new.wire in
    let t = image_needs_tail c.args.addr c.args.len in
    let last = image_last_word c.args.addr c.args.len in
    let Fails = FailsAs g.W.Wire c.args.limits in
    let head = edge_read g.W.Wire _ _ _ _ _ _ _ _ c.needs_head-first.ensures c.word_of.ensures
    c.in_ok-head.ensures.read in
    let p = err_from_is_err_and c.from_residual-in_err-tail.result c.from_residual-in_err-tail.ensures.1 in
    rw (p.1, p.2) (fails_after g.W.Wire c.args.limits c.args.wire.now r u _
    (image_read_if t last) head.answers _ head.calls
    (subst (λ a. Fails (image_read_if t a) r u c.in_err-tail.field-0.0) c.last_word.ensures
    (subst (λ b. Fails (image_read_if b c.last_word.result) r u c.in_err-tail.field-0.0) c.needs_tail-last.ensures
    c.in_err-tail.ensures.fault)))

pub returns-clause-read : goal.returns-clause-read
returns-clause-read g c =
    reads_append g.W.Wire c.args.limits c.args.wire.now c.read_word.new.wire c.read_word-2.new.wire _ _ _ _
    (edge_read g.W.Wire _ _ _ _ _ _ _ _ c.needs_head-first.ensures c.word_of.ensures c.in_ok-head.ensures.read)
    (edge_read g.W.Wire _ _ _ _ _ _ _ _ c.needs_tail-last.ensures c.last_word.ensures c.in_ok-tail.ensures.read)

-- the reads of both edges, by the words and tests that were computed
edges : (a b : ℕ) (m n : Bool) (c d : Bool) (x y : ℕ) → m ≡ c → n ≡ d → a ≡ x → b ≡ y
    → image_read_if c x ++ image_read_if d y ≡ image_read_if m a ++ image_read_if n b
edges a b m n c d x y e f g i =
    ap₂ (λ (xs ys : List Access). xs ++ ys) (sym (ap₂ image_read_if e g)) (sym (ap₂ image_read_if f i))

pub returns-in_err-head-clause-report : goal.returns-in_err-head-clause-report
returns-in_err-head-clause-report g c =
    let addr = c.args.addr in
    let len = c.args.len in
    let p = err_from_is_err_and c.from_residual.result c.from_residual.ensures.1 in
    rw (p.1, p.2) (to_front g.W.Wire c.args.limits c.args.wire.now
    c.read_word.new.wire (image_read_if c.needs_head-first.result c.word_of.result)
    (image_read_if (image_needs_tail addr len) (image_last_word addr len)) (image_edge_list addr len) _
    (g.S.CallReports.held c.args.report.now) (g.S.CallReports.held c.read_word.new.report)
    c.in_err-head.ensures.report
    (edges c.word_of.result (image_last_word addr len) c.needs_head-first.result (image_needs_tail addr len)
    (image_needs_head addr len)
    (image_needs_tail addr len) (image_word_of addr) (image_last_word addr len) c.needs_head-first.ensures refl
    c.word_of.ensures refl))

pub returns-in_err-tail-clause-report : goal.returns-in_err-tail-clause-report
returns-in_err-tail-clause-report g c =
    let addr = c.args.addr in
    let len = c.args.len in
    let last = image_read_if c.needs_tail-last.result c.last_word.result in
    let first = image_read_if c.needs_head-first.result c.word_of.result in
    let p = err_from_is_err_and c.from_residual-in_err-tail.result c.from_residual-in_err-tail.ensures.1 in
    rw (p.1, p.2) (to_after g.W.Wire c.args.limits c.args.wire.now
    c.read_word.new.wire c.read_word-2.new.wire first last [] (image_edge_list addr len) _
    (g.S.CallReports.held c.args.report.now) (g.S.CallReports.held c.read_word.new.report)
    (g.S.CallReports.held c.read_word-2.new.report) c.in_ok-head.ensures.report c.in_err-tail.ensures.report
    (edges c.word_of.result c.last_word.result c.needs_head-first.result c.needs_tail-last.result
    (image_needs_head addr len)
    (image_needs_tail addr len) (image_word_of addr) (image_last_word addr len) c.needs_head-first.ensures
    c.needs_tail-last.ensures c.word_of.ensures c.last_word.ensures
    ∙ ap (λ l. first ++ l) (sym (append-nil last))) (λ e. refl))

pub returns-clause-report : goal.returns-clause-report
returns-clause-report g c =
    let addr = c.args.addr in
    let len = c.args.len in
    let last = image_read_if c.needs_tail-last.result c.last_word.result in
    let first = image_read_if c.needs_head-first.result c.word_of.result in
    to_after g.W.Wire c.args.limits c.args.wire.now
    c.read_word.new.wire c.read_word-2.new.wire first last [] (image_edge_list addr len) None
    (g.S.CallReports.held c.args.report.now) (g.S.CallReports.held c.read_word.new.report)
    (g.S.CallReports.held c.read_word-2.new.report) c.in_ok-head.ensures.report c.in_ok-tail.ensures.report
    (edges c.word_of.result c.last_word.result c.needs_head-first.result c.needs_tail-last.result
    (image_needs_head addr len)
    (image_needs_tail addr len) (image_word_of addr) (image_last_word addr len) c.needs_head-first.ensures
    c.needs_tail-last.ensures c.word_of.ensures c.last_word.ensures
    ∙ ap (λ l. first ++ l) (sym (append-nil last))) (λ e. refl)

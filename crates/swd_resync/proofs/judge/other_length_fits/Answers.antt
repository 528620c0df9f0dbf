use Rattle.std.proofs.Common.{◌≡◌, ◌+◌, ◌<◌, ◌≤◌, ◌++◌, ℕ, List, Bool, length, subst, sym, ap, ◌∙◌, arith}
use Rattle.std.proofs.lemmas.Bool.{lt-leb}
use Rattle.std.proofs.lemmas.List.{length-append}
use Rattle.swd_bits.specs.Bits.{low_bits}
use Rattle.swd_bits.proofs.BitsLemmas.{length-low_bits}
use Rattle.swd_trace.specs.declared.item.Item.TheVariants.{Tx as TxItem}
use Rattle.swd_resync.specs.Parts.{stretch_resumes, other_tx_len}
use Rattle.swd_resync.specs.Holding.{resync_held}
use Rattle.swd_resync.specs.Judged.{Judges}
use Rattle.swd_resync.proofs.JudgeLemmas.{judged_no_other_length, judged_too_few_for_other, judged_other_length}
use Rattle.swd_resync.proofs.JudgeLemmas.{judged_near_of_few, judged_near_widened, judged_no_more}
use Rattle.swd_resync.proofs.JudgeLemmas.{judged_other_len_most}
use Rattle.swd_resync.proofs.MoveLemmas.{resync_window_length}
use Rattle.swd_resync.proofs.judge.other_length_fits.Goals as goal

pub returns-then-not-has_phase : goal.returns-then-not-has_phase
returns-then-not-has_phase c = λ more may.
    judged_no_other_length c.args.over (TxItem c.args.tx.now) (resync_held c.args.held.now ++ more)
    (sym c.has_phase.ensures ∙ c.if-not-has_phase.true)

pub returns-then-ended : goal.returns-then-ended
returns-then-ended c = λ more may.
    let w = c.window.ensures.first in
    let most : other_tx_len c.args.over ≤ 46 = judged_other_len_most c.args.over in
    let same : c.other_len-len.result ≡ other_tx_len c.args.over = c.other_len-len.ensures in
    let short : c.window.result.len < c.other_len-len.result = c.if-window-len.true in
    let l : length (resync_held c.args.held.now) ≡ c.window.result.len =
    resync_window_length (resync_held c.args.held.now) c.window.result w.0 w.1 (w.2 (omega arith)) in
    judged_too_few_for_other c.args.over (TxItem c.args.tx.now) (resync_held c.args.held.now ++ more)
    (lt-leb (other_tx_len c.args.over) (length (resync_held c.args.held.now ++ more))
    (subst (λ x. length x < other_tx_len c.args.over)
    (sym (judged_no_more (resync_held c.args.held.now) more (may c.if-ended.true))) (omega arith)))

pub returns-else-ended : goal.returns-else-ended
returns-else-ended c =
    let w = c.window.ensures.first in
    let most : other_tx_len c.args.over ≤ 46 = judged_other_len_most c.args.over in
    let same : c.other_len-len.result ≡ other_tx_len c.args.over = c.other_len-len.ensures in
    let short : c.window.result.len < c.other_len-len.result = c.if-window-len.true in
    let l : length (resync_held c.args.held.now) ≡ c.window.result.len =
    resync_window_length (resync_held c.args.held.now) c.window.result w.0 w.1 (w.2 (omega arith)) in (
      c.if-ended.false,
      judged_near_widened 0 46 (resync_held c.args.held.now) (omega arith)
          (judged_near_of_few (resync_held c.args.held.now) (omega arith)),
    )

-- a list that begins with a window has at least its bits
at_least : (len v : ℕ) (bits back : List Bool) → bits ≡ low_bits len v ++ back → len ≤ length bits
at_least len v bits back e =
    let l : length bits ≡ length (low_bits len v) + length back = ap length e ∙ length-append (low_bits len v) back in
    let m : length (low_bits len v) ≡ len = length-low_bits len v in
    omega arith

pub without-requires-clause-held : goal.without-requires-clause-held
without-requires-clause-held c =
    let w = c.window.ensures.first in
    let fits : c.window.result.len ≤ length (resync_held c.args.held.now) =
    at_least c.window.result.len c.window.result.bits (resync_held c.args.held.now) w.0 w.1 in
    let many : c.other_len-len.result ≤ c.window.result.len = omega (arith, c.if-window-len.false) in
    omega arith

pub returns : goal.returns
returns c =
    let w = c.window.ensures.first in
    let most : other_tx_len c.args.over ≤ 46 = judged_other_len_most c.args.over in
    let same : c.other_len-len.result ≡ other_tx_len c.args.over = c.other_len-len.ensures in
    let fits : c.window.result.len ≤ length (resync_held c.args.held.now) =
    at_least c.window.result.len c.window.result.bits (resync_held c.args.held.now) w.0 w.1 in
    let many : c.other_len-len.result ≤ c.window.result.len = omega (arith, c.if-window-len.false) in
    judged_other_length c.args.over c.args.ended (TxItem c.args.tx.now) c.other_len-len.result
    (resync_held c.args.held.now) _ (sym c.has_phase.ensures ∙ c.if-not-has_phase.false) same (omega arith)
    (omega arith)
    (subst (λ x. Judges c.args.ended 0 (λ bits. stretch_resumes bits) x c.reading_resumes.result)
    c.without.ensures.bits c.reading_resumes.ensures)

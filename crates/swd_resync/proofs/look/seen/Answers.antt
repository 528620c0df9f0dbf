use Rattle.std.proofs.Common.{◌≡◌, ◌<◌, ◌≤◌, ℕ, [], ◌++◌, length, subst, sym, ap, ◌∙◌, arith}
use Rattle.std.proofs.lemmas.Bool.{and_parts}
use Rattle.std.proofs.lemmas.List.{append-nil}
use Rattle.swd_bits.specs.Bits.{low_bits}
use Rattle.swd_bits.proofs.BitsLemmas.{length-low_bits}
use Rattle.swd_trace.specs.Stands.{Begun, stands}
use Rattle.swd_resync.specs.Parts.{resync_is_refusal}
use Rattle.swd_resync.specs.Sights.{IsTxSight, IsCutSight}
use Rattle.swd_resync.proofs.SightLemmas.{sight_plain_tx, sight_phased_tx, sight_phase_cut, sight_partial_tx_cut}
use Rattle.swd_resync.proofs.SightLemmas.{sight_junk, sight_cut_or_wait, sight_nothing_behind}
use Rattle.swd_resync.proofs.look.seen.Goals as goal

pub returns-then-not-has_phase : goal.returns-then-not-has_phase
returns-then-not-has_phase c = λ back n.
    sight_plain_tx c.args.over c.in-Whole.tx c.in-Whole.len (low_bits c.args.window.len c.args.window.bits)
    c.in-Whole.ensures.0 c.in-Whole.ensures.1 (sym c.has_phase.ensures ∙ c.if-not-has_phase.true) back

pub returns-then-window-lt-MOVED_BITS : goal.returns-then-window-lt-MOVED_BITS
returns-then-window-lt-MOVED_BITS c = λ back n.
    let bits = low_bits c.args.window.len c.args.window.bits in
    let l : length bits ≡ c.args.window.len = length-low_bits c.args.window.len c.args.window.bits in
    let few : c.args.window.len < 46 = c.if-window-lt-MOVED_BITS.true in
    let short : length bits < 46 = omega arith in
    let r = and_parts c.args.over (resync_is_refusal c.in-Whole.tx.result)
    (sym c.has_phase.ensures ∙ c.if-not-has_phase.false) in
    let e = sight_nothing_behind bits back (n (omega arith)) in
    let seen : IsCutSight c.args.over bits = subst (λ o. IsCutSight o bits) (sym r.0)
    (sight_phase_cut c.in-Whole.tx c.in-Whole.len bits c.in-Whole.ensures.0 r.1 short) in
    sight_cut_or_wait c.args.over c.args.ended c.args.window _ _ c.begun-then-window-lt-MOVED_BITS.ensures.cut
    c.begun-then-window-lt-MOVED_BITS.ensures.wait e c.requires.spelled (subst (IsCutSight c.args.over) (sym e) seen)

pub returns-in-Begun : goal.returns-in-Begun
returns-in-Begun c = λ back n.
    let bits = low_bits c.args.window.len c.args.window.bits in
    let l : length bits ≡ c.args.window.len = length-low_bits c.args.window.len c.args.window.bits in
    let next : ℕ = c.in-Begun.field-0 in
    let below : length bits < next = c.in-Begun.ensures.0 in
    let most : next ≤ 46 = c.in-Begun.ensures.1 in
    let some : 0 < c.args.window.len = c.requires.some in
    let begun : stands bits ≡ Begun = sym (ap stands (append-nil bits)) ∙ c.in-Begun.ensures.2 [] (omega arith) in
    let e = sight_nothing_behind bits back (n (omega arith)) in
    let seen : IsCutSight c.args.over bits = sight_partial_tx_cut c.args.over bits begun (omega arith) (omega arith) in
    sight_cut_or_wait c.args.over c.args.ended c.args.window _ _ c.begun.ensures.cut c.begun.ensures.wait e
    c.requires.spelled (subst (IsCutSight c.args.over) (sym e) seen)

pub returns-in-Broken : goal.returns-in-Broken
returns-in-Broken c = λ back n.
    sight_junk c.args.over c.args.window.len c.args.window.bits back c.requires.some c.requires.most c.requires.one
    c.in-Broken.ensures c.requires.zero

pub returns-else-window-lt-MOVED_BITS : goal.returns-else-window-lt-MOVED_BITS
returns-else-window-lt-MOVED_BITS c = λ back n.
    let bits = low_bits c.args.window.len c.args.window.bits in
    let l : length bits ≡ c.args.window.len = length-low_bits c.args.window.len c.args.window.bits in
    let many : 46 ≤ c.args.window.len = c.if-window-lt-MOVED_BITS.false in
    let r = and_parts c.args.over (resync_is_refusal c.in-Whole.tx.result)
    (sym c.has_phase.ensures ∙ c.if-not-has_phase.false) in
    subst (λ o. IsTxSight o c.in-Whole.tx 46 (bits ++ back)) (sym r.0)
    (sight_phased_tx c.in-Whole.tx c.in-Whole.len bits c.in-Whole.ensures.0 r.1 (omega arith) back)

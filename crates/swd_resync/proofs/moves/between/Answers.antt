use Rattle.std.proofs.Common.{◌≡◌, ◌+◌, List, Bool, length, ap, ◌∙◌, sym, subst, arith, []}
use Rattle.std.specs.Prelude.{None}
use Rattle.std.proofs.lemmas.List.{length-append}
use Rattle.swd_bits.specs.BitLists.{tx_bits_of}
use Rattle.swd_bits.proofs.BitsLemmas.{length-low_bits}
use Rattle.swd_resync.specs.Parts.{Between}
use Rattle.swd_resync.specs.Holding.{resync_held}
use Rattle.swd_resync.specs.Stages.{skip_rest, ResyncMove}
use Rattle.swd_resync.specs.declared.stage.RemovalStage.TheVariants.{Between as Skipping}
use Rattle.swd_resync.proofs.PartLemmas.{resync_parts_none}
use Rattle.swd_resync.proofs.MoveLemmas.{stretch_waits_empty, skip_counts_before_stretch, stretch_waits_no_bits}
use Rattle.swd_resync.proofs.moves.between.Goals as goal
use Rattle.swd_resync.proofs.moves.between.Goals.{else-ended-via-then-ended+else-count-gt0, else-ended-via-else-ended}

pub returns-else-ended : goal.returns-else-ended
returns-else-ended c = elim c.else-ended.branch [
  | else-ended-via-then-ended+else-count-gt0 w ↦
      stretch_waits_empty c.args.over c.args.ended (Skipping c.args.count) (resync_held c.args.held.now)
      c.in-None.ensures.none (let none : c.args.count ≡ 0 = omega (arith, w.if-count-gt0.false) in
      ap (λ n. skip_rest c.args.over n []) none ∙ resync_parts_none c.args.over Between)
  | else-ended-via-else-ended w ↦
      stretch_waits_no_bits c.args.over c.args.ended (Skipping c.args.count) (resync_held c.args.held.now)
      c.in-None.ensures.none w.if-ended.false
]

pub returns-then-before-gt0 : goal.returns-then-before-gt0
returns-then-before-gt0 c =
    let w = c.window.ensures.first in
    let len : length (tx_bits_of c.window.result) ≡ c.window.result.len =
    length-low_bits c.window.result.len c.window.result.bits in
    let within = c.bits_before_start-before.ensures.within in
    let most = c.window.ensures.most in
    subst (λ n. ResyncMove c.args.over c.args.ended (Skipping c.args.count) (resync_held c.args.held.now)
    (record {
      count = c.bits_before_start-before.result;
      over = c.args.over;
      stage = Skipping (c.args.count + n);
      part =
          None;
    }))
    (sym c.from.ensures)
    (skip_counts_before_stretch c.args.over c.args.ended c.args.count c.bits_before_start-before.result
    (tx_bits_of c.window.result) w.0 (resync_held c.args.held.now) w.1 c.if-before-gt0.true (omega arith) (omega arith)
    (c.bits_before_start-before.ensures.before c.args.over.phases))

pub between_at-requires-clause-some : goal.between_at-requires-clause-some
between_at-requires-clause-some c =
    let f = c.in-Some.ensures.some in
    (c.in-Some.field-0, f.0, f.1)

pub overflow_add-result : goal.overflow_add-result
overflow_add-result c =
    let w = c.window.ensures.first in
    let front : List Bool = tx_bits_of c.window.result in
    let len : length front ≡ c.window.result.len = length-low_bits c.window.result.len c.window.result.bits in
    let all : length (resync_held c.args.held.now) ≡ length front + length w.0 =
    ap length w.1 ∙ length-append front w.0 in
    let within = c.bits_before_start-before.ensures.within in
    let few = c.requires in
    let same = c.from.ensures in
    omega arith

use Rattle.std.proofs.Common.{◌≡◌, ◌+◌, [], ◌∷◌, ◌++◌, length, sym, ap, ◌∙◌, subst, append_assoc, arith}
use Rattle.swd_bits.specs.Bits.{low_bits}
use Rattle.swd_bits.proofs.BitsLemmas.{length-low_bits}
use Rattle.swd_resync.specs.Fronts.{IsResyncFront}
use Rattle.swd_resync.specs.Holding.{resync_held}
use Rattle.swd_resync.specs.Parts.{resync_parts_of}
use Rattle.swd_resync.specs.Stages.{parts_at_stage, resync_stage_counted}
use Rattle.swd_resync.proofs.FrontLemmas.{resync_followed_tx_told, resync_stage_behind_counts}
use Rattle.swd_resync.proofs.decoder.CaptureDecoder.take_tx.Goals as goal

pub invariant_of-self : goal.invariant_of-self
invariant_of-self c =
    let d = c.args.self.now in
    let n = c.in-Some-whole_tx.follower.len in
    let m = c.followed_step-step.result.next in
    let none : resync_stage_counted m.stage ≡ 0 =
    ap (λ m. resync_stage_counted m.stage) c.followed_step-step.ensures.next
    ∙ resync_stage_behind_counts c.in-Some.front.tx.result in
    let all : length (resync_held c.of-self.result) ≡ n =
    ap length c.of-self.ensures.bits ∙ length-low_bits n c.args.bits in
    let same = c.from.ensures in
    let within = c.in-Some-whole_tx.ensures.within in
    let room = c.requires.room in
    let behind = c.of-self.ensures.room in
    record {
      fed_so = record { counts = omega arith; small = omega arith; room = omega arith };
      front_so = subst (IsResyncFront m.over.phases c.followed_step-step.result.behind) (sym c.of-self.ensures.bits)
          (c.followed_step-step.ensures.behind _ c.in-Some-whole_tx.ensures.sight);
    }

pub returns-clause-part : goal.returns-clause-part
returns-clause-part c =
    let d = c.args.self.now in
    let m = c.followed_step-step.result.next in
    let next = low_bits c.in-Some-whole_tx.follower.len c.args.bits in
    let alone = c.in-Some.ensures in
    let least = c.in-Some-whole_tx.ensures.sight.some in
    let short = c.of-self.result.holds.queue.front_short in
    let behind = c.of-self.ensures.room in
    record {
      some = omega arith;
      most = c.in-Some-whole_tx.ensures.within;
      gives = λ more.
          ap (λ stage. parts_at_stage d.over stage (resync_held d.held ++ (next ++ more))) alone.stage
          ∙ resync_followed_tx_told d.over c.in-Some.front c.in-Some-whole_tx.follower (resync_held d.held) next m
          c.in-Some-part.part alone.seen alone.acknowledged alone.whole c.in-Some-whole_tx.ensures.sight
          c.followed_step-step.ensures.next c.in-Some-part.is more
          ∙ ap (λ x. c.in-Some-part.part ∷ parts_at_stage m.over m.stage (x ++ more)) (sym c.of-self.ensures.bits);
      settled = omega arith;
      held = omega arith;
      fed = ap (λ n. d.fed + n) c.from.ensures;
    }

pub returns-clause-read : goal.returns-clause-read
returns-clause-read c = λ over before parts h more.
    let next = low_bits c.in-Some-whole_tx.follower.len c.args.bits in
    append_assoc parts (c.in-Some-part.part ∷ []) _
    ∙ ap (λ x. parts ++ x) (sym ((returns-clause-part c).gives more)) ∙ h (next ++ more)
    ∙ ap (resync_parts_of over) (sym (append_assoc before next more))

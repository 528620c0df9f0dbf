use Rattle.std.proofs.Common.{◌≡◌, ◌+◌, ◌≤◌, length, ap, ◌∙◌, arith}
use Rattle.std.proofs.lemmas.List.{length-append}
use Rattle.swd_bits.specs.Bits.{low_bits}
use Rattle.swd_bits.proofs.BitsLemmas.{length-low_bits}
use Rattle.swd_resync.specs.Holding.{resync_held}
use Rattle.swd_resync.specs.Stages.{resync_stage_counted}
use Rattle.swd_resync.proofs.FrontLemmas.{resync_front_more}
use Rattle.swd_resync.proofs.decoder.CaptureDecoder.take_bits.Goals as goal

pub invariant_of-self-clause-fed_so : goal.invariant_of-self-clause-fed_so
invariant_of-self-clause-fed_so c =
    let d = c.args.self.now in
    let n = c.push_many-taken.result in
    let l : length (resync_held c.push_many-taken.new.self) ≡ length (resync_held d.held)
    + length (low_bits n c.args.bits) =
    ap length c.push_many-taken.ensures.bits ∙ length-append (resync_held d.held) (low_bits n c.args.bits) in
    let m : length (low_bits n c.args.bits) ≡ n = length-low_bits n c.args.bits in
    let most = c.push_many-taken.ensures.most in
    let room = c.requires.room in
    let same = c.from.ensures in
    let counts : resync_stage_counted d.stage + length (resync_held d.held) ≤ d.fed = d.fed_so.counts in
    record { counts = omega arith; small = omega arith; room = c.push_many-taken.ensures.room }

pub invariant_of-self-clause-front_so : goal.invariant_of-self-clause-front_so
invariant_of-self-clause-front_so c =
    let d = c.args.self.now in
    resync_front_more d.over.phases d.front (resync_held d.held) (low_bits c.push_many-taken.result c.args.bits) _
    c.push_many-taken.ensures.bits d.front_so

pub returns-clause-left : goal.returns-clause-left
returns-clause-left c =
    let d = c.args.self.now in
    let n = c.push_many-taken.result in
    let l : length (resync_held c.push_many-taken.new.self) ≡ length (resync_held d.held)
    + length (low_bits n c.args.bits) =
    ap length c.push_many-taken.ensures.bits ∙ length-append (resync_held d.held) (low_bits n c.args.bits) in
    let m : length (low_bits n c.args.bits) ≡ n = length-low_bits n c.args.bits in
    omega arith

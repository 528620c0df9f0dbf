use Rattle.std.proofs.Common.{◌≡◌, ◌+◌, subst, refl, arith}
use Rattle.std.specs.Prelude.{None}
use Rattle.swd_trace.specs.declared.mode.Mode.TheVariants.{Synced}
use Rattle.swd_resync.specs.Parts.{InStretch}
use Rattle.swd_resync.proofs.PartLemmas.{resync_parts_none}
use Rattle.swd_resync.specs.Stages.{ResyncMove}
use Rattle.swd_resync.specs.Holding.{resync_held}
use Rattle.swd_resync.specs.declared.stage.RemovalStage.TheVariants.{Stretch}
use Rattle.swd_resync.proofs.MoveLemmas.{stretch_waits_few, stretch_waits_empty, stretch_counts_idle}
use Rattle.swd_resync.proofs.MoveLemmas.{stretch_enters_reset, stretch_ends_at_junk, stretch_cut_move}
use Rattle.swd_resync.proofs.moves.in_stretch.Goals as goal

pub returns-in-Wait-clause-moves : goal.returns-in-Wait-clause-moves
returns-in-Wait-clause-moves c = stretch_waits_few c.args.over c.args.ended (Stretch 0) (resync_held c.args.held.now)
    c.in-Wait.ensures.0 c.in-Wait.ensures.1

pub returns-in-Zero-clause-moves : goal.returns-in-Zero-clause-moves
returns-in-Zero-clause-moves c =
    let run = c.run_of-count.ensures.run in
    let same : 0 + c.run_of-count.result ≡ c.from.result = omega (arith, c.from.ensures) in
    subst (λ n. ResyncMove c.args.over c.args.ended (Stretch 0) (resync_held c.args.held.now)
    (record { count = c.run_of-count.result; over = c.args.over; stage = Stretch n; part = None })) same
    (stretch_counts_idle c.args.over c.args.ended 0 c.run_of-count.result (resync_held c.args.held.now) run.0 run.1
    (c.run_of-count.ensures.some c.in-Zero.ensures.0 c.in-Zero.ensures.1) c.run_of-count.ensures.most)

pub returns-in-Ones-clause-moves : goal.returns-in-Ones-clause-moves
returns-in-Ones-clause-moves c =
    stretch_enters_reset c.args.over c.args.ended (Stretch 0) Synced (resync_held c.args.held.now)
    c.in-Ones.ensures.0 c.in-Ones.ensures.1 (λ x. refl)

pub returns-in-Junk-clause-moves : goal.returns-in-Junk-clause-moves
returns-in-Junk-clause-moves c =
    stretch_ends_at_junk c.args.over c.args.ended (resync_held c.args.held.now) c.in-Junk.ensures.0 c.in-Junk.ensures.1

pub returns-in-Cut-clause-moves : goal.returns-in-Cut-clause-moves
returns-in-Cut-clause-moves c =
    let h = c.in-Cut.ensures in
    stretch_cut_move c.args.over (Stretch 0) Synced c.in-Cut.bits (resync_held c.args.held.now) c.args.ended h.0 h.1 h.2
    h.3.some h.3.few h.3.first (λ x. refl)

pub returns-in-End-clause-moves : goal.returns-in-End-clause-moves
returns-in-End-clause-moves c = stretch_waits_empty c.args.over c.args.ended (Stretch 0) (resync_held c.args.held.now)
    c.in-End.ensures.1 (resync_parts_none c.args.over (InStretch Synced))

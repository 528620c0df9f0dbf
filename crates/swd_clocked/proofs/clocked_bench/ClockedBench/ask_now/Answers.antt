use Rattle.std.proofs.Common.{◌≡◌, ℕ, sym, ap, subst, ◌∙◌}
use Rattle.swd_bits.specs.declared.request.Request.{Request}
use Rattle.swd_port.specs.Bus.{Bus}
use Rattle.swd_port.specs.declared.wire.Due.{Due}
use Rattle.swd_port.specs.declared.mark.Mark.{Mark}
use Rattle.swd_port.specs.declared.state.Reply.{Reply}
use Rattle.swd_port.specs.Choices.{port_flip_of}
use Rattle.swd_port.specs.Answers.{port_due_after, port_seen_at}
use Rattle.swd_port.specs.Asking.{port_line_after}
use Rattle.swd_port.specs.Port.{PortTally}
use Rattle.swd_target.specs.Simulations.{simulation_asked, simulation_seen, simulation_reply, simulation_phase}
use Rattle.swd_target.specs.Simulations.{simulation_link_after}
use Rattle.swd_target.specs.Targets.{target_simulation}
use Rattle.swd_target.proofs.AskLemmas.{bench_asks_lawful, simulated_asks_lawful}
use Rattle.swd_clocked.specs.declared.frame.Frame.{Frame}
use Rattle.swd_clocked.specs.declared.marked.FaultyClocked.{FaultyClocked}
use Rattle.swd_clocked.specs.Phases.{CyclesAskRequest}
use Rattle.swd_clocked.specs.Rests.{frame_fits_due, frame_line}
use Rattle.swd_clocked.specs.ClockedBenches.{clocked_bench_link, clocked_bench_tally}
use Rattle.swd_clocked.proofs.Calls.{nothing_due_idle_frame, clocked_link_after_seen}
use Rattle.swd_clocked.proofs.Whole.{clocked_ask_under_mark}
use Rattle.swd_clocked.proofs.clocked_bench.ClockedBench.ask_now.Goals as goal

pub ask_request-seen-requires-clause-frame : goal.ask_request-seen-requires-clause-frame
ask_request-seen-requires-clause-frame g c =
    let old = c.args.self.now in
    ap (λ (x : FaultyClocked _ _). x.clocked.frame) c.deref_mut.ensures.value
    ∙ nothing_due_idle_frame old.due old.marked.value.clocked.frame c.requires old.resting

pub ask_request-seen-requires-clause-heard : goal.ask_request-seen-requires-clause-heard
ask_request-seen-requires-clause-heard g c = ap (λ (x : FaultyClocked _ _). x.unseen) c.deref_mut.ensures.value
    ∙ c.args.self.now.heard

asks : {D A : Type 0} (bus : D → Bus) (was was' new : FaultyClocked D A) (q : Request) (seen : ℕ) → was' ≡ was
    → CyclesAskRequest bus q seen was' new → CyclesAskRequest bus q seen was new
asks bus was was' new q seen same d = subst (λ (x : FaultyClocked _ _). CyclesAskRequest bus q seen x new) same d

pub invariant_of-self-clause-resting : goal.invariant_of-self-clause-resting
invariant_of-self-clause-resting g c =
    let new = c.ask_request-seen.new.self in
    let q = c.args.request in
    let u = clocked_ask_under_mark g.D.Device.bus q c.ask_request-seen.result c.args.self.now.marked.value new
    (asks g.D.Device.bus c.args.self.now.marked.value _ new q c.ask_request-seen.result c.deref_mut.ensures.value
    c.ask_request-seen.ensures.asked) in
    let due = c.after-self.ensures ∙ ap (port_due_after q.read) u.1 in
    ap (λ (d : Due). frame_fits_due d new.clocked.frame) due ∙ u.2.resting

pub invariant_of-self-clause-heard : goal.invariant_of-self-clause-heard
invariant_of-self-clause-heard g c = c.ask_request-seen.ensures.asked.heard

pub returns-clause-step : goal.returns-clause-step
returns-clause-step g c =
    let old = c.args.self.now in
    let was = old.marked.value in
    let new = c.ask_request-seen.new.self in
    let q = c.args.request in
    let seen = c.ask_request-seen.result in
    let asked = asks g.D.Device.bus was _ new q seen c.deref_mut.ensures.value c.ask_request-seen.ensures.asked in
    let u = clocked_ask_under_mark g.D.Device.bus q seen was new asked in
    let idles = nothing_due_idle_frame old.due was.clocked.frame c.requires old.resting in
    let line = u.2.line ∙ ap (λ (f : Frame). port_line_after u.0 u.2.phase (frame_line f (port_flip_of was.mark)))
    (sym idles) in
    let tally = asked.uses.tally in
    simulated_asks_lawful new.mark _ _ _ _
    (bench_asks_lawful g.D.Device.bus new.mark q was.clocked.target new.clocked.target u.0 u.2.phase
    (clocked_bench_link old)
    (clocked_bench_tally old) _ _ _ _ _ _ u.2.answers
    u.1 c.after-self.ensures line (ap (λ (n : PortTally). n.asked) tally) (ap (λ (n : PortTally). n.disturbed) tally)
    (ap (λ (n : PortTally). n.lost) tally))

pub returns-clause-sees : goal.returns-clause-sees
returns-clause-sees g c =
    let was = c.args.self.now.marked.value in
    let new = c.ask_request-seen.new.self in
    let q = c.args.request in
    let seen = c.ask_request-seen.result in
    let asked = asks g.D.Device.bus was _ new q seen c.deref_mut.ensures.value c.ask_request-seen.ensures.asked in
    let u = clocked_ask_under_mark g.D.Device.bus q seen was new asked in
    u.1 ∙ ap (λ (y : Reply). port_seen_at new.mark y) u.2.answers.replies
    ∙ ap (λ (m : Mark). simulation_seen m q (target_simulation g.D.Device.bus was.clocked.target)) asked.uses.is

pub returns-clause-exact : goal.returns-clause-exact
returns-clause-exact g c =
    let was = c.args.self.now.marked.value in
    let new = c.ask_request-seen.new.self in
    let q = c.args.request in
    let seen = c.ask_request-seen.result in
    let used = asks g.D.Device.bus was _ new q seen c.deref_mut.ensures.value c.ask_request-seen.ensures.asked in
    let u = clocked_ask_under_mark g.D.Device.bus q seen was new used in
    u.2.answers.exact ∙ ap (λ (m : Mark). simulation_asked m q (target_simulation g.D.Device.bus was.clocked.target))
    used.uses.is

pub returns-clause-link : goal.returns-clause-link
returns-clause-link g c =
    let old = c.args.self.now in
    let was = old.marked.value in
    let new = c.ask_request-seen.new.self in
    let q = c.args.request in
    let seen = c.ask_request-seen.result in
    let used = asks g.D.Device.bus was _ new q seen c.deref_mut.ensures.value c.ask_request-seen.ensures.asked in
    let u = clocked_ask_under_mark g.D.Device.bus q seen was new used in
    let idles = nothing_due_idle_frame old.due was.clocked.frame c.requires old.resting in
    let line = u.2.line ∙ ap (λ (f : Frame). port_line_after u.0 u.2.phase (frame_line f (port_flip_of was.mark)))
    (sym idles) in
    let s = target_simulation g.D.Device.bus was.clocked.target in
    clocked_link_after_seen g.D.Device.bus new.mark q u.0 was.clocked.target new.clocked.target u.2.phase _ _
    (clocked_bench_link old)
    _ u.2.answers u.1 c.after-self.ensures line
    ∙ ap (λ (m : Mark). simulation_link_after m q (simulation_reply m q s) (simulation_phase m q s)
    (clocked_bench_link old)) used.uses.is

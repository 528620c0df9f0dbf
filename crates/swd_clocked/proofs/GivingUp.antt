-- A write that is given up before a cycle of a clocked target with a plan.
use Rattle.std.proofs.Common.{◌≡◌, ◌+◌, Bool, refl, sym, subst, ◌∙◌}
use Rattle.std.specs.Prelude.{if◌then◌else◌}
use Rattle.swd_bits.specs.declared.request.Request.{Request}
use Rattle.swd_bits.proofs.TxLemmas.{request_bits_injective}
use Rattle.swd_port.specs.Bus.{Bus}
use Rattle.swd_port.specs.declared.mark.Mark.{Mark}
use Rattle.swd_port.specs.Asking.{PortKeepsOrGivesUp}
use Rattle.swd_target.specs.Giving.{tally_given}
use Rattle.swd_target.specs.Requests.{target_port_at}
use Rattle.swd_target.proofs.GivingLemmas.{target_keeps_or_gives_up}
use Rattle.swd_clocked.specs.declared.frame.Frame.{Frame}
use Rattle.swd_clocked.specs.declared.frame.Frame.TheVariants.{Asks, Lost, High, Switches, Replies, Drives, Awaits}
use Rattle.swd_clocked.specs.declared.frame.Frame.TheVariants.{Passes}
use Rattle.swd_clocked.specs.declared.marked.FaultyClocked.{FaultyClocked}
use Rattle.swd_clocked.specs.Clocks.{ClockedGivesUp}
use Rattle.swd_clocked.specs.Damage.{IsLastRequestCycle}
use Rattle.swd_clocked.specs.Marked.{marked_clocked_state, CycleKeepsPlan}
use Rattle.swd_clocked.specs.Giving.{GivesUpAlone, RequestGivesUp}

-- a bit is the last of one request at most
pub last_request_alone : (f : Frame) (b : Bool) (q r : Request) → IsLastRequestCycle f b q → IsLastRequestCycle f b r
    → q ≡ r
last_request_alone (Asks bits count) b q r h k = request_bits_injective q r (h.1 ∙ sym k.1)
last_request_alone (Lost ones) b q r h k = absurd h
last_request_alone High b q r h k = absurd h
last_request_alone (Switches place) b q r h k = absurd h
last_request_alone (Replies reply line place) b q r h k = absurd h
last_request_alone (Drives bits left) b q r h k = absurd h
last_request_alone (Awaits register bits place) b q r h k = absurd h
last_request_alone Passes b q r h k = absurd h

-- where nothing changed, nothing but the target did
pub nothing_given_up : {D A : Type 0} (s : FaultyClocked D A) → GivesUpAlone s s
nothing_given_up s = record {
  frame = refl;
  waits = refl;
  counts = (refl, refl);
  device = refl;
  keeps = record { plan = refl; mark = refl };
  unseen = refl;
  buffers = refl;
}

-- what the target gives up before a request, and how it is counted
pub marked_request_gives_up : {D A : Type 0} (bus : D → Bus) (mark : Mark) (q : Request) (gave : Bool)
    (s t : FaultyClocked D A)
    → ClockedGivesUp bus mark q gave s.clocked t.clocked
    → CycleKeepsPlan s t → t.unseen ≡ s.unseen → t.buffers ≡ s.buffers
    → t.given_up.ticks ≡ (if gave then s.given_up.ticks + 1 else s.given_up.ticks)
    → RequestGivesUp bus mark q s t
marked_request_gives_up bus mark q gave s t h keeps unseen buffers counted =
    record {
      exact = h.exact;
      lawful = λ l n. subst (λ (g : Bool). PortKeepsOrGivesUp mark q (target_port_at l n (marked_clocked_state bus s))
          (target_port_at l (tally_given g n) (marked_clocked_state bus t))) h.gave
          (target_keeps_or_gives_up gave mark q l n (marked_clocked_state bus s) (marked_clocked_state bus t) h.gave
          h.state);
      counted = subst (λ (g : Bool). t.given_up.ticks ≡ (if g then s.given_up.ticks + 1 else s.given_up.ticks)) h.gave
          counted;
      alone = record {
        frame = h.frame;
        waits = h.waits;
        counts = h.counts;
        device = h.device;
        keeps = keeps;
        unseen = unseen;
        buffers = buffers;
      };
    }

-- the same before the last bit of this request
pub last_cycle_gives_up : {D A : Type 0} (bus : D → Bus) (b : Bool) (mark : Mark) (q : Request)
    (s t : FaultyClocked D A)
    → IsLastRequestCycle s.clocked.frame b q → RequestGivesUp bus mark q s t
    → (r : Request) → IsLastRequestCycle s.clocked.frame b r → RequestGivesUp bus mark r s t
last_cycle_gives_up bus b mark q s t found h r is =
    subst (λ (x : Request). RequestGivesUp bus mark x s t) (last_request_alone s.clocked.frame b q r found is) h

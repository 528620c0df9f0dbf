-- What a clocked target does without a transfer, it does over every device on whose bus the pending one would succeed.
-- Below `bus` is the bus that the target's own device is, and `there` the bus that the other device is, of any type.
use Rattle.std.proofs.Common.{◌≡◌, Bool, ℕ, Option, ap, inl, refl, sym, subst, unwrap_or, true}
use Rattle.swd_bits.specs.declared.request.Request.{Request}
use Rattle.swd_port.specs.Bus.{Bus}
use Rattle.swd_port.specs.Completion.{memory_after_pending}
use Rattle.swd_port.specs.Port.{Target as State}
use Rattle.swd_port.specs.declared.mark.Mark.{Mark}
use Rattle.swd_port.specs.declared.register.Register.{Register}
use Rattle.swd_port.specs.declared.state.AfterAck.{AfterAck}
use Rattle.swd_port.specs.declared.state.Reply.{Reply}
use Rattle.swd_port.specs.Moving.{PortArrival}
use Rattle.swd_target.specs.declared.target.Target.{Target}
use Rattle.swd_target.specs.Requests.{TargetAnswers, TargetAnswersUnder, DataComes}
use Rattle.swd_target.specs.Targets.{TargetCompletes}
use Rattle.swd_target.specs.Elsewhere.{IsTargetReadyIf, IsUntouched, bus_itself, target_over_device}
use Rattle.swd_target.proofs.ElsewhereLemmas.{IsTargetAnsweredAlike, target_completes_elsewhere, simulation_placed}
use Rattle.swd_clocked.specs.declared.clocked.Clocked.{Clocked}
use Rattle.swd_clocked.specs.declared.frame.Frame.{Frame}
use Rattle.swd_clocked.specs.declared.frame.Frame.TheVariants.{Asks, Lost, High, Switches, Replies, Drives, Awaits}
use Rattle.swd_clocked.specs.declared.frame.Frame.TheVariants.{Passes}
use Rattle.swd_clocked.specs.Clocks.{ClocksOneCycle, ClockedHoldsWait, ClockedSettles, clocked_over}
use Rattle.swd_clocked.specs.Cycles.{AsksCycle, AwaitsCycle, ClockedByteCame, Cycles, ClockedDataCame, DrivesCycle}
use Rattle.swd_clocked.specs.Cycles.{HeardCycle, LostCycle}
use Rattle.swd_clocked.specs.Cycles.{FrameMoved, ReplyCycle, ClockedRequested, ClockedResetCame, SwitchCycle}
use Rattle.swd_clocked.specs.Frames.{unswitched_frame}

moved : {D E : Type 0} (d : E) (f : Frame) (s : Target D) (w : Bool) (t : Clocked D) → FrameMoved f s w t
    → FrameMoved f (target_over_device d s) w (clocked_over d t)
moved d f s w t x = record { frame = x.frame; target = ap (target_over_device d) x.target; waits = x.waits }

-- what holds of a bus as a device holds of a device that is this bus
placed : {D E : Type 0} (there : E → Bus) (d : E) (m : Mark) (q : Request) (s : Target D) (reply : Reply)
    (phase : AfterAck) (t : Target D)
    → TargetAnswersUnder bus_itself m q (target_over_device (there d) s) reply phase (target_over_device (there d) t)
    → TargetAnswersUnder there m q (target_over_device d s) reply phase (target_over_device d t)
placed there d m q s reply phase t x =
    record { step = x.step; replies = x.replies; phases = x.phases; exact = x.exact }

answered : {D E : Type 0} (bus : D → Bus) (there : E → Bus) (d : E) (w : Bool) (q : Request) (s : Target D)
    (reply : Reply) (phase : AfterAck) (t : Target D)
    → IsUntouched bus s t → IsTargetReadyIf w (there d) s → TargetAnswers bus w q s reply phase t
    → TargetAnswers there w q (target_over_device d s) reply phase (target_over_device d t)
answered bus there d w q s reply phase t u ready x = record {
  under = λ m legal hears waits.
      placed there d m q s reply _ t (x.elsewhere (there d) u ready m legal hears waits);
  elsewhere = λ n v now. x.elsewhere n u now;
}

requested : {D E : Type 0} (bus : D → Bus) (there : E → Bus) (d : E) (q : Request) (s : Target D) (w : Bool)
    (t : Clocked D)
    → IsUntouched bus s t.target → IsTargetReadyIf w (there d) s
    → ClockedRequested bus q s w t → ClockedRequested there q (target_over_device d s) w (clocked_over d t)
requested bus there d q s w t u ready x =
    record {
      reply = x.reply;
      phase = x.phase;
      answers = answered bus there d w q s x.reply x.phase t.target u ready x.answers;
      frame = x.frame;
      waits = x.waits;
    }

byte : {D E : Type 0} (bus : D → Bus) (there : E → Bus) (d : E) (n : ℕ) (s : Target D) (w : Bool) (t : Clocked D)
    → IsUntouched bus s t.target
    → IsTargetReadyIf w (there d) s
    → ClockedByteCame bus n s w t → ClockedByteCame there n (target_over_device d s) w (clocked_over d t)
byte bus there d n s w t u ready x =
    record {
      whole = λ q e. requested bus there d q s w t u ready (x.whole q e);
      broken = λ none. moved d _ s w t (x.broken none);
    }

asks : {D E : Type 0} (bus : D → Bus) (there : E → Bus) (d : E) (bits count : ℕ) (b : Bool) (s : Target D) (w : Bool)
    (t : Clocked D)
    → IsUntouched bus s t.target → IsTargetReadyIf w (there d) s
    → AsksCycle bus bits count b s w t → AsksCycle there bits count b (target_over_device d s) w (clocked_over d t)
asks bus there d bits count b s w t u ready x = record {
  quiet = λ e f. moved d _ s w t (x.quiet e f);
  more = λ l e. moved d _ s w t (x.more l e);
  whole = λ e. byte bus there d _ s w t u ready (x.whole e);
}

reset : {D E : Type 0} (bus : D → Bus) (there : E → Bus) (d : E) (s : Target D) (w : Bool) (t : Clocked D)
    → ClockedResetCame bus s w t
    → ClockedResetCame there (target_over_device d s) w (clocked_over d t)
reset bus there d s w t x = record {
  reset = record {
    state = ap (λ (y : State). record y { memory = there d }) x.reset.state;
    exact = ap (simulation_placed (there d)) x.reset.exact;
    device = refl;
  };
  frame = x.frame;
  waits = x.waits;
}

lost : {D E : Type 0} (bus : D → Bus) (there : E → Bus) (d : E) (ones : ℕ) (b : Bool) (s : Target D) (w : Bool)
    (t : Clocked D)
    → LostCycle bus ones b s w t → LostCycle there ones b (target_over_device d s) w (clocked_over d t)
lost bus there d ones b s w t x = record {
  low = λ e. moved d _ s w t (x.low e);
  more = λ l e. moved d _ s w t (x.more l e);
  whole = λ e f. reset bus there d s w t (x.whole e f);
}

heard : {D E : Type 0} (bus : D → Bus) (there : E → Bus) (d : E) (f : Frame) (b : Bool) (s : Target D) (w : Bool)
    (t : Clocked D)
    → IsUntouched bus s t.target → IsTargetReadyIf w (there d) s
    → HeardCycle bus f b s w t → HeardCycle there f b (target_over_device d s) w (clocked_over d t)
heard bus there d (Asks bits count) b s w t u ready x = asks bus there d bits count b s w t u ready x
heard bus there d (Lost ones) b s w t u ready x = lost bus there d ones b s w t x
heard bus there d f b s w t u ready x = tt

switches : {D E : Type 0} (bus : D → Bus) (there : E → Bus) (d : E) (place : ℕ) (b : Bool) (s : Target D) (w : Bool)
    (t : Clocked D)
    → IsUntouched bus s t.target → IsTargetReadyIf w (there d) s
    → SwitchCycle bus place b s w t → SwitchCycle there place b (target_over_device d s) w (clocked_over d t)
switches bus there d place b s w t u ready x = record {
  fits = λ e. moved d _ s w t (x.fits e);
  differs = λ n. heard bus there d (unswitched_frame place) b s w t u ready (x.differs n);
}

replies : {D E : Type 0} (d : E) (reply : Reply) (line : AfterAck) (place : ℕ) (b answer : Bool) (s : Target D)
    (w : Bool) (t : Clocked D)
    → ReplyCycle reply line place b answer s w t
    → ReplyCycle reply line place b answer (target_over_device d s) w (clocked_over d t)
replies d reply line place b answer s w t x =
    record { frame = moved d _ s w t x.frame; turn = x.turn; driven = x.driven }

drives : {D E : Type 0} (d : E) (bits left : ℕ) (b answer : Bool) (s : Target D) (w : Bool) (t : Clocked D)
    → DrivesCycle bits left b answer s w t
    → DrivesCycle bits left b answer (target_over_device d s) w (clocked_over d t)
drives d bits left b answer s w t x = record {
  driven = x.driven;
  more = λ n. moved d _ s w t (x.more n);
  turn = λ e. ((x.turn e).0, moved d _ s w t (x.turn e).1);
}

came : {D E : Type 0} (bus : D → Bus) (there : E → Bus) (d : E) (a : PortArrival) (s t : Target D) → s.quirks.late ≡
    true → DataComes bus a s t
    → DataComes there a (target_over_device d s) (target_over_device d t)
came bus there d a s t late x =
    let y = x.elsewhere (there d) late in
    record { later = inl y.0; undone = λ e. y.0; exact = y.1; elsewhere = λ n late. x.elsewhere n late }

data_came : {D E : Type 0} (bus : D → Bus) (there : E → Bus) (d : E) (r : Register) (sent : ℕ) (s : Target D) (w : Bool)
    (t : Clocked D)
    → s.quirks.late ≡ true
    → ClockedDataCame bus r sent s w t → ClockedDataCame there r sent (target_over_device d s) w (clocked_over d t)
data_came bus there d r sent s w t late x = record {
  comes = came bus there d _ s t.target late x.comes;
  frame =
      x.frame;
  waits = x.waits;
}

awaits : {D E : Type 0} (bus : D → Bus) (there : E → Bus) (d : E) (r : Register) (bits place : ℕ) (b : Bool)
    (s : Target D) (w : Bool)
    (t : Clocked D) → s.quirks.late ≡ true
    → AwaitsCycle bus r bits place b s w t → AwaitsCycle there r bits place b (target_over_device d s) w
    (clocked_over d t)
awaits bus there d r bits place b s w t late x = record {
  turn = λ e. moved d _ s w t (x.turn e);
  more = λ n l. moved d _ s w t (x.more n l);
  whole = λ e. data_came bus there d r _ s w t late (x.whole e);
}

cycles : {D E : Type 0} (bus : D → Bus) (there : E → Bus) (d : E) (f : Frame) (b answer : Bool) (s : Target D)
    (w : Bool) (t : Clocked D)
    → IsUntouched bus s t.target → IsTargetReadyIf w (there d) s
    → Cycles bus f b answer s w t → Cycles there f b answer (target_over_device d s) w (clocked_over d t)
cycles bus there d (Asks bits count) b answer s w t u ready x = (x.0, asks bus there d bits count b s w t u ready x.1)
cycles bus there d (Lost ones) b answer s w t u ready x = (x.0, lost bus there d ones b s w t x.1)
cycles bus there d High b answer s w t u ready x = (x.0, moved d _ s w t x.1)
cycles bus there d (Switches place) b answer s w t u ready x = (x.0, switches bus there d place b s w t u ready x.1)
cycles bus there d (Replies reply line place) b answer s w t u ready x = replies d reply line place b answer s w t x
cycles bus there d (Drives bits left) b answer s w t u ready x = drives d bits left b answer s w t x
cycles bus there d (Awaits r bits place) b answer s w t u ready x =
    (x.0, awaits bus there d r bits place b s w t u.late x.1)
cycles bus there d Passes b answer s w t u ready x = (x.0, moved d _ s w t x.1)

-- A cycle in which a late target does no transfer is such a cycle over every device. Where WAIT is asked for, it is one
-- over every device on whose bus the pending transfer would succeed.
pub clocked_step_elsewhere : {D E : Type 0} (bus : D → Bus) (there : E → Bus) (d : E) (drive : Option Bool)
    (answer : Bool) (s t : Clocked D)
    → IsUntouched bus s.target t.target → IsTargetReadyIf s.waits (there d) s.target
    → ClocksOneCycle bus drive answer s t → ClocksOneCycle there drive answer (clocked_over d s) (clocked_over d t)
clocked_step_elsewhere bus there d drive answer s t u ready x =
    cycles bus there d s.frame (unwrap_or drive true) answer s.target s.waits t u ready x

-- a pending transfer takes effect over every device whose bus answers it alike; that device changes as its bus says
pub clocked_settles_elsewhere : {D E : Type 0} (bus : D → Bus) (there : E → Bus) (d last : E) (s t : Clocked D)
    → IsTargetAnsweredAlike s.target.pending s.target.tar.word (there d) (bus s.target.device)
    → there last ≡ memory_after_pending s.target.pending s.target.tar.word (there d)
    → ClockedSettles bus s t → ClockedSettles there (clocked_over d s) (clocked_over last t)
clocked_settles_elsewhere bus there d last s t e after x =
    let y = subst (λ (m : Bus). TargetCompletes bus_itself (target_over_device (there d) s.target)
    (target_over_device m t.target)) (sym after)
    (target_completes_elsewhere bus (there d) s.target t.target e x.target) in
    record {
      target = record { state = y.state; exact = y.exact };
      frame = x.frame;
      waits = x.waits;
    }

-- what is held over one device is held over every one
pub clocked_wait_elsewhere : {D E : Type 0} (d : E) (w : Bool) (s t : Clocked D) → ClockedHoldsWait w s t
    → ClockedHoldsWait w (clocked_over d s) (clocked_over d t)
clocked_wait_elsewhere d w s t x = moved d s.frame s.target w t x

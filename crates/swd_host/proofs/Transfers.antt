-- The requests of a transfer: DRW, and the request that confirms it.
use Rattle.swd_host.proofs.Words.{◌≡◌, ◌≢◌, ◌+◌, ◌≤◌, ℕ, Bool, true, false, refl, sym, ap, subst, inl, inr, arith, ◌∙◌}
use Rattle.swd_host.proofs.Words.{Option, Some, None, ◌⊎◌, Request, AccessRead, Task, Read, BurstRead, Write}
use Rattle.swd_host.proofs.Words.{BurstWrite, access_of_task, task_is_block, Value, bus_answer, bus_done_answer}
use Rattle.swd_host.proofs.Words.{bus_word_at, Port, port_register, Register, RdbuffRead, DrwRead, DrwWrite}
use Rattle.swd_port.specs.declared.register.Register.TheVariants.{ApOtherRead}
use Rattle.swd_host.proofs.Words.{PortCompletes, PortAsks, port_has_power, pending_drw_once_read, Drw, PortIgnores}
use Rattle.swd_host.proofs.Words.{PortAccepts, PortRefuses, PortPhaseSpared, okay, wait, lost, PortSent, PortSucceeded}
use Rattle.swd_host.proofs.Words.{PortBuffered, Transfer, Confirm, Job, At, engine_request_for, task_drw_register}
use Rattle.swd_host.proofs.Words.{task_confirming_register, EngineHand, EngineBase, EngineTargetUp, EngineHasTar}
use Rattle.swd_host.proofs.Words.{TaskTransferSent, EnginePlaceIsSure, TaskBusError, EngineMetFlag, by_error}
use Rattle.swd_host.proofs.Words.{TaskTransferDone, EngineResendWord, EngineDuring, TaskTransferPhase, TaskConfirmPhase}
use Rattle.swd_host.proofs.Words.{TaskWriteConfirmed, EngineFaultAtJob, EngineMemoryWithin, EngineWrites}
use Rattle.swd_host.proofs.Words.{EngineWaitAtJob, own_error, TaskDoneWithAhead, task_ahead}
use Rattle.swd_port.specs.Port.{port_request_for}
use Rattle.swd_port.specs.Outcomes.{PortOkaySeen, PortWaitSeen}
use Rattle.swd_port.specs.Transfers.{PortFailed}
use Rattle.swd_port.specs.Laws.Requests.{PortConfirms as ConfirmsThen, confirms_okay, confirms_wait, confirms_fault}
use Rattle.swd_port.specs.Laws.Requests.{confirms_lost}
use Rattle.swd_port.proofs.RequestLaws.{port_free_at_rest, port_confirming_request, port_refused_with_power}
use Rattle.swd_port.proofs.StatusLaws.{port_buffer_returned}
use Rattle.swd_port.proofs.CompletionLaws.{no_pending_same, port_kept as kept_by}
use Rattle.swd_host.proofs.Frames.{HostFrame, host_frame_wait, host_frame_fault, host_place_framed, host_debug_power}
use Rattle.swd_host.proofs.Frames.{host_in_flight_carried, host_in_flight_completed, host_in_flight_sent}
use Rattle.swd_host.proofs.Frames.{host_in_flight_idle, host_in_flight_done}
use Rattle.swd_host.proofs.Asked.{HostAskOutcome, came_okay, came_wait, came_fault, came_lost, host_data_read_due}
use Rattle.swd_host.proofs.Asked.{host_data_write_due}
use Rattle.swd_host.proofs.Asks.{engine_place_register, engine_place_not_exempt, write_asked}

-- A READ OF DRW
pub host_under_completed : (b : ℕ) (k : EngineHand) (s t : Port) → PortCompletes s t → TaskTransferSent b k s.target
    → TaskTransferSent b k t.target
host_under_completed b k s t c h = grind arith

read_sent : (k : EngineHand) (at : ℕ) (flip : Option ℕ) (s y : Port) → access_of_task k.task ≡ AccessRead at
    → EngineHasTar k s.target → PortAccepts DrwRead true flip s y → PortSent (access_of_task k.task) k.memory y.target
read_sent k at flip s y e h a = grind arith

read_under : (b : ℕ) (k : EngineHand) (at : ℕ) (flip : Option ℕ) (s y : Port) → 1 ≤ b
    → access_of_task k.task ≡ AccessRead at
    → EngineHasTar k s.target → PortAccepts DrwRead true flip s y → TaskTransferSent b k y.target
read_under b k at flip s y some e h a = grind arith

pub host_under_sure : (n n' b : ℕ) (k : EngineHand) (s y t : Port) → TaskTransferSent b k y.target → PortCompletes y t
    → y.target.write_error ≡ false → n' ≤ y.tally.disturbed → EnginePlaceIsSure Confirm n' b k t
host_under_sure n n' b k s y t h c flag paid = grind arith

lost_read : (b c : ℕ) (k : EngineHand) (at : ℕ) (s y t : Port) → 1 ≤ c → access_of_task k.task ≡ AccessRead at
    → EngineHasTar k s.target → PortCompletes y t → PortIgnores s y ⊎ PortAccepts DrwRead true None s y
    → EngineMemoryWithin c k t.target
lost_read b c k at s y t some e h last (inl w) =
    host_in_flight_completed c k y t last (host_in_flight_carried 0 c k s y (omega arith) (ap (λ i. i.pending) w.target)
    (ap (λ i. i.tar) w.target) (ap (λ i. i.memory) w.target)
    (host_in_flight_idle 0 k s h.up.calm.pending h.up.calm.memory))
lost_read b c k at s y t some e h last (inr a) =
    host_in_flight_completed c k y t last (host_in_flight_sent c k y some (read_sent k at None s y e h a))

drw_read_asked : (n : ℕ) (base : EngineBase) (b c : ℕ) (k : EngineHand) (at v : ℕ) (s t : Port) → b ≤ c → 1 ≤ c
    → access_of_task k.task ≡ AccessRead at → (EnginePlaceIsSure Confirm n c k t → TaskTransferPhase k.task n c k t)
    → base.lost ≤ s.tally.lost
    → EnginePlaceIsSure Transfer n b k s → PortAsks s (port_request_for DrwRead) v t
    → HostAskOutcome (At Transfer) n base c k v t
drw_read_asked n base b c k at v s t grows some e sent l h asks =
    let up : EngineTargetUp k.memory s.target = h.has.up in
    let (y, came, last) = port_free_at_rest DrwRead (port_request_for DrwRead) v s t
    (ap (λ x. port_register x (port_request_for DrwRead)) up.calm.select) refl up.calm.live up.calm.pending
    (h.flag refl) up.calm.sticky (λ x. host_debug_power s.target up.debug up.debug_seen) asks in
    elim came [
      | okay a ↦
          (let x : PortAccepts DrwRead true a.flip s y = a.accepts in
          came_okay a.is (sent (host_under_sure n n c k s y t
          (read_under c k at a.flip s y some e h.has x) last (ap (λ i. i.write_error) x.target ∙ h.flag refl)
          (omega (arith, a.heard.disturbed_least, h.paid)))))
      | wait a ↦
          (let f : HostFrame s y = host_frame_wait DrwRead s y a.defers in
          let same : t ≡ y = no_pending_same y t (f.pending ∙ up.calm.pending) last in
          let sure : EnginePlaceIsSure Transfer (n + 1) c k y = record {
            has = host_place_framed Transfer b c k s y grows f
                (ap (λ i. i.sticky_error) a.defers.target) h.has;
            flag = λ w. ap (λ i. i.write_error) a.defers.target ∙ h.flag refl;
            paid = omega (arith, a.disturbed, h.paid);
          } in
          came_wait a.is (record {
            free = refl;
            before = inl (subst (λ z. EnginePlaceIsSure Transfer (n + 1) c k z)
                (sym same) sure);
          }))
      | lost a w ↦
          (let kp = kept_by y t last in
          came_lost a.none (lost_read b c k at s y t some e h.has last w)
          (omega (arith, a.lost, ap (λ i. i.lost) kp.tally))
          (omega (arith, a.disturbed, ap (λ i. i.disturbed) kp.tally, h.paid)))
    ]

-- A WRITE OF DRW
drw_write_asked : (n : ℕ) (base : EngineBase) (b c : ℕ) (k : EngineHand) (v : ℕ) (s t : Port) → b ≤ c
    → task_drw_register k.task ≡ DrwWrite → base.lost ≤ s.tally.lost → EnginePlaceIsSure Transfer n b k s
    → PortAsks s (engine_request_for (At Transfer) k.task) v t
    → (EngineWrites DrwWrite n (λ x. EnginePlaceIsSure Transfer x c k t) t → TaskTransferPhase k.task n c k t)
    → HostAskOutcome (At Transfer) n base c k v t
drw_write_asked n base b c k v s t grows r l h asks go =
    write_asked Transfer n base b c k v s t DrwWrite r (ap (λ z. (port_request_for z).read) r) refl refl refl refl
    (λ x. absurd (cc))
    grows h.has.up.calm (λ x. host_debug_power s.target h.has.up.debug h.has.up.debug_seen) l h asks go

-- what came of an access's DRW request, where TAR has its address and no write was corrupted
pub host_ask_drw : (task : Task) (n : ℕ) (base : EngineBase) (b c : ℕ) (k : EngineHand) (v : ℕ) (s t : Port)
    → k.task ≡ task
    → b ≤ c → 1 ≤ c → base.lost ≤ s.tally.lost → EnginePlaceIsSure Transfer n b k s
    → PortAsks s (engine_request_for (At Transfer) k.task) v t
    → HostAskOutcome (At Transfer) n base c k v t
host_ask_drw (Read at) n base b c k v s t e grows some l h asks =
    drw_read_asked n base b c k at v s t grows some (ap access_of_task e)
    (λ x. subst (λ a. TaskTransferPhase a n c k t) (sym e) x) l h
    (subst (λ a. PortAsks s (engine_request_for (At Transfer) a) v t) e asks)
host_ask_drw (BurstRead at) n base b c k v s t e grows some l h asks =
    drw_read_asked n base b c k at v s t grows some (ap access_of_task e)
    (λ x. subst (λ a. TaskTransferPhase a n c k t) (sym e) x) l h
    (subst (λ a. PortAsks s (engine_request_for (At Transfer) a) v t) e asks)
host_ask_drw _ n base b c k v s t e grows some l h asks =
    drw_write_asked n base b c k v s t grows (ap task_drw_register e) l h asks
    (λ w. subst (λ a. TaskTransferPhase a n c k t) (sym e) (some, w))

-- THE REQUEST THAT CONFIRMS: RDBUFF, OR DRW FOR THE NEXT ACCESS OF A BURST; IN A BLOCK RESEND TOO
confirming_pending : (task : Task) (pending : Option Drw) → task_is_block task ≡ false → pending_drw_once_read
    (task_confirming_register task) pending ≡ pending
confirming_pending (BurstRead at) pending single = absurd (cc)
confirming_pending _ pending single = refl

-- outside a block what confirms an access leaves what is pending
stays_pending : (task : Task) (read : Bool) (flip : Option ℕ) (x y : Port) → task_is_block task ≡ false
    → PortAccepts (task_confirming_register task) read flip x y → y.target.pending ≡ x.target.pending
stays_pending task read flip x y single a = grind (arith, confirming_pending)

-- the transfer was done before x, and the request was answered OK from x to y
done_there : (b : ℕ) (k : EngineHand) (r : Register) (read : Bool) (flip : Option ℕ) (x y : Port)
    → r ≢ ApOtherRead → y.target.pending ≡ x.target.pending → TaskTransferSent b k x.target
    → PortSucceeded (access_of_task k.task) k.memory x.target
    → PortAccepts r read flip x y → TaskTransferDone b k y.target
done_there b k r read flip x y near p h d a = grind arith

-- what its OK tells, by the task
confirms_at : (task : Task) (n b : ℕ) (k : EngineHand) (x y : Port) (flip : Option ℕ) → k.task ≡ task
    → task_is_block task ≡ false
    → TaskTransferSent b k x.target → x.target.write_error ≡ false → n ≤ x.tally.disturbed
    → x.tally.disturbed ≤ y.tally.disturbed
    → PortPhaseSpared flip x y → PortSucceeded (access_of_task k.task) k.memory x.target
    → PortAccepts (task_confirming_register task)
    (engine_request_for (At Confirm) task).read flip x y → TaskConfirmPhase task n b k y
confirms_at (BurstRead at) n b k x y flip e single h flag paid more sp d ac = absurd (cc)
confirms_at (Read at) n b k x y flip e single h flag paid more sp d ac =
    let done : TaskTransferDone b k y.target = done_there b k RdbuffRead true flip x y (λ e. absurd (cc)) (stays_pending
    (Read at) true flip x y refl ac) h d ac in
    let by : TaskDoneWithAhead (task_ahead k.task) b k y.target =
    subst (λ a. TaskDoneWithAhead (task_ahead a) b k y.target) (sym e) done in
    let answer : bus_answer (access_of_task k.task) k.memory ≡ Value (bus_word_at at k.memory) =
    d.answer ∙ ap (λ a. bus_done_answer (access_of_task a) k.memory) e in
    let buffer : x.target.buffer ≡ Some (bus_word_at at k.memory) =
    subst (λ a. PortBuffered (access_of_task a) k.memory x.target) e d.buffered in
    let back = port_buffer_returned RdbuffRead flip (bus_word_at at k.memory) x y refl buffer ac in
    let resent : (n' : ℕ) → n' ≤ y.tally.disturbed → EngineResendWord Confirm (bus_word_at at k.memory) n' b k y =
    (λ n' p. record {
      returned = (by, answer);
      last = back.1;
      flag = ap (λ i. i.write_error) ac.target ∙ flag;
      paid = p;
    }) in (
      bus_word_at at k.memory,
      host_data_read_due (bus_word_at at k.memory) n
          (λ c. EngineResendWord Confirm (bus_word_at at k.memory) c b k y) flip x y back.0 sp
          (resent n (omega arith)) (λ i. resent (n + 1) (omega arith)),
    )
confirms_at (Write at word) n b k x y flip e single h flag paid more sp d ac =
    record {
      done = done_there b k RdbuffRead true flip x y (λ e. absurd (cc))
          (stays_pending (Write at word) true flip x y refl ac) h d ac;
      answered = d.answer ∙ ap (λ a. bus_done_answer (access_of_task a) k.memory) e;
      flag = ap (λ i. i.write_error) ac.target ∙ flag;
      paid = omega arith;
    }
confirms_at (BurstWrite at word) n b k x y flip e single h flag paid more sp d ac =
    let confirmed : (n' : ℕ) → n' ≤ y.tally.disturbed → TaskWriteConfirmed n' b k y =
    (λ n' i. record {
      done = done_there b k DrwWrite false flip x y (λ e. absurd (cc))
          (stays_pending (BurstWrite at word) false flip x y refl ac) h d ac;
      answered = d.answer ∙ ap (λ a. bus_done_answer (access_of_task a) k.memory) e;
      flag = ap (λ i. i.write_error) ac.target ∙ flag;
      paid = i;
    }) in
    host_data_write_due DrwWrite n (λ c. TaskWriteConfirmed c b k y) flip x y ac.line sp (confirmed n (omega arith))
    (λ i. confirmed (n + 1) (omega arith))

-- a request that confirms a transfer, whichever it is, with what is known of the transfer; what comes of it is the
-- caller's
module _ (r : Register) (q : Request) (h : EngineHand) (x y : Port)
    (power : q.ap ≡ true → port_has_power x.target ≡ true) where
  broken_there : TaskTransferSent 1 h x.target → PortFailed (access_of_task h.task) h.memory x.target
      → PortRefuses r q.ap x y → TaskBusError Confirm 1 h y.target
  broken_there u d z = grind arith

  -- the transfer was a bus error
  pub record Broke (n : ℕ) (t : Port) : Type 0 where
    pub same : t ≡ y
    pub frame : HostFrame x y
    pub broken : TaskBusError Confirm 1 h y.target
    pub sticky : y.target.sticky_error ≡ true
    pub flag : y.target.write_error ≡ false
    pub paid : n ≤ y.tally.disturbed

  -- what came of a request that confirms a transfer, where the caller knows what its OK, WAIT, FAULT or loss leads to
  pub confirming_came : (job : Job) (n : ℕ) (base : EngineBase) (b : ℕ) (k : EngineHand) (v : ℕ) (t : Port)
      → base.lost ≤ x.tally.lost → TaskTransferSent 1 h x.target → x.target.write_error ≡ false → n ≤ x.tally.disturbed
      → PortCompletes y t → (PortSucceeded (access_of_task h.task) h.memory x.target → PortOkaySeen r q.read v x y
      → EngineDuring job n b k t)
      → (PortWaitSeen r v x y → EnginePlaceIsSure Confirm (n + 1) 1 h t → EngineWaitAtJob job n b k t)
      → (Broke n t → EngineFaultAtJob job n b k t)
      → (EngineMemoryWithin 1 h y.target → EngineMemoryWithin b k y.target)
      → (PortSucceeded (access_of_task h.task) h.memory x.target → PortAccepts r q.read None x y
      → EngineMemoryWithin b k y.target)
      → ConfirmsThen (access_of_task h.task) h.memory r q v x y → HostAskOutcome job n base b k v t
  confirming_came job n base b k v t l u flag paid last good again bad lift gone (confirms_okay d a) =
      came_okay a.is (good d a)
  confirming_came job n base b k v t l u flag paid last good again bad lift gone (confirms_wait sent a) =
      let f : HostFrame x y = host_frame_wait r x y a.defers in
      let under : TaskTransferSent 1 h y.target = host_place_framed Confirm 1 1 h x y (omega arith) f (ap
      (λ i. i.sticky_error) a.defers.target) u in
      came_wait a.is (again a (host_under_sure n (n + 1) 1 h x y t under last
      ((ap (λ i. i.write_error) a.defers.target) ∙ flag) (omega (arith, a.disturbed))))
  confirming_came job n base b k v t l u flag paid last good again bad lift gone (confirms_fault d a) =
      came_fault a.is (bad (record {
        same = no_pending_same y t ((ap (λ i. i.pending) a.refuses.target) ∙ d.pending) last;
        frame = host_frame_fault r q.ap x y a.refuses;
        broken = broken_there u d a.refuses;
        sticky = port_refused_with_power r q.ap x y a.refuses power ∙ d.sticky_error;
        flag = ap (λ i. i.write_error) a.refuses.target ∙ flag;
        paid = omega (arith, a.heard.disturbed_least);
      }))
  confirming_came job n base b k v t l u flag paid last good again bad lift gone (confirms_lost sent a w) =
      let kp = kept_by y t last in
      let within : EngineMemoryWithin 1 h x.target = host_in_flight_sent 1 h x (omega arith) sent in
      came_lost a.none (host_in_flight_completed b k y t last (elim w [
        | inl z ↦ lift (host_in_flight_carried 1 1 h x y (omega arith) (ap (λ i. i.pending) z.target)
            (ap (λ i. i.tar) z.target) (ap (λ i. i.memory) z.target) within)
        | inr z ↦ elim z [
          | inl u ↦ gone u.0 u.1
          | inr u ↦ lift (host_in_flight_carried 1 1 h x y (omega arith) (ap (λ i. i.pending) u.1.target)
              (ap (λ i. i.tar) u.1.target) (ap (λ i. i.memory) u.1.target) within)
        ]
      ])) (omega (arith, a.lost, ap (λ i. i.lost) kp.tally))
      (omega (arith, a.disturbed, ap (λ i. i.disturbed) kp.tally))

-- as many accesses more are begun
under_more : (b c : ℕ) (k : EngineHand) (s : Port) → 1 ≤ c → TaskTransferSent b k s.target
    → TaskTransferSent c k s.target
under_more b c k s some h = grind arith

-- the same with more accesses begun
pub host_sure_more : (n b c : ℕ) (k : EngineHand) (s : Port) → 1 ≤ c → EnginePlaceIsSure Confirm n b k s
    → EnginePlaceIsSure Confirm n c k s
host_sure_more n b c k s some h = record { has = under_more b c k s some h.has; flag = h.flag; paid = h.paid }

broken_more : (b c : ℕ) (k : EngineHand) (s : Port) → 1 ≤ c → TaskBusError Confirm b k s.target
    → TaskBusError Confirm c k s.target
broken_more b c k s some h = grind arith

within_more : (b c : ℕ) (k : EngineHand) (s : Port) → b ≤ c → EngineMemoryWithin b k s.target
    → EngineMemoryWithin c k s.target
within_more b c k s grows h = host_in_flight_carried b c k s s grows refl refl refl h

-- the request that confirms; c accesses are begun by it
module _ (n : ℕ) (base : EngineBase) (b c : ℕ) (k : EngineHand) (v : ℕ) (s t : Port) (some : 1 ≤ c) where
  -- what came of the request that confirms an access, where the caller knows what its OK leads to, seen or lost
  pub confirm_came : base.lost ≤ s.tally.lost → EnginePlaceIsSure Confirm n b k s
      → PortAsks s (engine_request_for (At Confirm) k.task) v t
      → ((x y : Port) → PortCompletes y t → TaskTransferSent c k x.target → x.target.write_error ≡ false
      → n ≤ x.tally.disturbed
      → PortSucceeded (access_of_task k.task) k.memory x.target
      → PortOkaySeen (task_confirming_register k.task) (engine_request_for (At Confirm) k.task).read v x y
      → EngineDuring (At Confirm) n c k t)
      → ((x y : Port) → PortCompletes y t → PortSucceeded (access_of_task k.task) k.memory x.target
      → TaskTransferSent c k x.target
      → PortAccepts (task_confirming_register k.task) (engine_request_for (At Confirm) k.task).read None x y
      → EngineMemoryWithin c k y.target)
      → HostAskOutcome (At Confirm) n base c k v t
  confirm_came l h asks good gone =
      let u : TaskTransferSent b k s.target = h.has in
      let r : Register = task_confirming_register k.task in
      let q : Request = engine_request_for (At Confirm) k.task in
      let (x, y, first, came, last) = port_confirming_request (access_of_task k.task) k.memory r q v s t u.sent
      (engine_place_register Confirm k.task s u.serves.select) (engine_place_not_exempt Confirm k.task refl)
      u.serves.live (h.flag refl) (λ e. host_debug_power s.target u.serves.debug u.serves.debug_seen) asks in
      let kp = kept_by s x first in
      let ux : TaskTransferSent b k x.target = host_under_completed b k s x first u in
      let flag : x.target.write_error ≡ false = kp.write_error ∙ h.flag refl in
      let paid : n ≤ x.tally.disturbed = omega (arith, ap (λ i. i.disturbed) kp.tally, h.paid) in
      confirming_came r q k x y (λ e. host_debug_power x.target ux.serves.debug ux.serves.debug_seen) (At Confirm) n
      base c k
      v t (omega (arith, ap (λ i. i.lost) kp.tally)) (under_more b 1 k x (omega arith) ux) flag paid last
      (λ d a. good x y last (under_more b c k x some ux) flag paid d a)
      (λ a w. record { free = refl; before = inl (host_sure_more (n + 1) 1 c k t some w) })
      (λ z. record {
        free = refl;
        refused = subst (λ p. EngineMetFlag Confirm n c k p) (sym z.same)
            (by_error (own_error (broken_more 1 c k y some z.broken)) z.sticky z.flag z.paid);
      })
      (λ w. within_more 1 c k y some w)
      (λ d ac. gone x y last d (under_more b c k x some ux) ac)
      came

-- what came of the request that confirms an access that isn't a read of a block
pub host_ask_confirm : (n : ℕ) (base : EngineBase) (b c : ℕ) (k : EngineHand) (v : ℕ) (s t : Port) → 1 ≤ c
    → task_is_block k.task ≡ false → base.lost ≤ s.tally.lost
    → EnginePlaceIsSure Confirm n b k s → PortAsks s (engine_request_for (At Confirm) k.task) v t
    → HostAskOutcome (At Confirm) n base c k v t
host_ask_confirm n base b c k v s t some single l h asks =
    let r : Register = task_confirming_register k.task in
    let q : Request = engine_request_for (At Confirm) k.task in
    confirm_came n base b c k v s t some l h asks
    (λ x y last ux flag paid d a. (let ac : PortAccepts r q.read a.flip x y = a.accepts in
    subst (λ z. EngineDuring (At Confirm) n c k z) (sym
    (no_pending_same y t (stays_pending k.task q.read a.flip x y single ac ∙ d.pending) last))
    (confirms_at k.task n c k x y a.flip refl single ux flag paid a.heard.disturbed_least a.spares d ac)))
    (λ x y last d ux ac. host_in_flight_done c k y some (stays_pending k.task q.read None x y single ac ∙ d.pending)
    (ap (λ i. i.memory) ac.target ∙ d.memory))

-- Blocks of reads: a word is returned while the next read is in flight.
use Rattle.swd_host.proofs.Words.{◌≡◌, ◌+◌, ◌≤◌, ℕ, true, false, refl, sym, ap, subst, arith, ◌∙◌, Option, Some, None}
use Rattle.swd_host.proofs.Words.{Request, AccessRead, Value, bus_answer, bus_done_answer, bus_word_at, Port}
use Rattle.swd_host.proofs.Words.{port_register, DrwRead, ResendRead, PortCompletes, PortAsks, PortAccepts}
use Rattle.swd_host.proofs.Words.{PortPhaseSpared, PortSucceeded, PortBuffered, BurstRead, Ahead, Unsent, NextSent}
use Rattle.swd_host.proofs.Words.{NextFailed, HostStep, Configured, Confirm, Behind, At, Resend, access_of_task}
use Rattle.swd_host.proofs.Words.{task_is_block, engine_request_for, task_confirming_register, EngineHand, EngineBase}
use Rattle.swd_host.proofs.Words.{TaskTransferSent, EnginePlaceIsSure, EngineResendWord, TaskConfirmPhase, EngineReads}
use Rattle.swd_host.proofs.Words.{whole, changed, by_error, next_error, EngineFaultAtJob, EngineMemoryWithin}
use Rattle.swd_host.proofs.Words.{memory_once_task_done, block_next_hand, TaskDoneWithAhead, task_ahead, IsTask}
use Rattle.swd_port.proofs.RequestLaws.{port_confirming_request}
use Rattle.swd_port.proofs.StatusLaws.{port_buffer_returned, port_value_resent}
use Rattle.swd_port.proofs.CompletionLaws.{port_kept as kept_by}
use Rattle.swd_host.proofs.Frames.{HostFrame, HostSameFlags, host_frame_wait, host_flags_wait, host_frame_okay}
use Rattle.swd_host.proofs.Frames.{host_flags_okay, resent_framed, host_in_flight_next, host_in_flight_sent}
use Rattle.swd_host.proofs.Frames.{host_in_flight_done}
use Rattle.swd_host.proofs.Asked.{HostAskOutcome, host_data_read_due}
use Rattle.swd_host.proofs.Asks.{host_resend_at_rest}
use Rattle.swd_host.proofs.Transfers.{host_under_completed, confirming_came, confirm_came}

-- WHAT STAYS WHILE A TRANSFER TAKES EFFECT
pub host_resent_completed : (p : HostStep) (word n b : ℕ) (k : EngineHand) (s t : Port) → PortCompletes s t
    → EngineResendWord p word n b k s → EngineResendWord p word n b k t
host_resent_completed p word n b k s t c h = grind arith

reads_stay : (p : HostStep) (word n b : ℕ) (k : EngineHand) (s t : Port) → PortCompletes s t
    → EngineReads word n (λ c. EngineResendWord p word c b k s) s
    → EngineReads word n (λ c. EngineResendWord p word c b k t) t
reads_stay p word n b k s t c (whole line small h) =
    whole (ap (λ i. i.line) (kept_by s t c).link ∙ line) small (host_resent_completed p word n b k s t c h)
reads_stay p word n b k s t c (changed place line small h) =
    changed place (ap (λ i. i.line) (kept_by s t c).link ∙ line) small
    (host_resent_completed p word (n + 1) b k s t c h)

-- THE DRW READ OF THE NEXT ACCESS
module _ (at n c : ℕ) (k : EngineHand) (x y : Port) (flip : Option ℕ) (task : k.task ≡ BurstRead at) (ok : IsTask
    (BurstRead at))
    (two : 2 ≤ c) (u : TaskTransferSent c k x.target) (d : PortSucceeded (access_of_task k.task) k.memory x.target)
    (ac : PortAccepts DrwRead true flip x y) where
  access_here : access_of_task k.task ≡ AccessRead at
  access_here = ap access_of_task task

  -- the next read is in flight
  next_under : TaskTransferSent 1 (block_next_hand k.task (memory_once_task_done k)) y.target
  next_under = grind arith

  block_here : task_is_block k.task ≡ true
  block_here = ap task_is_block task

  -- the access in hand is done, and the next one sent
  next_sent : TaskDoneWithAhead (task_ahead k.task) c k y.target
  next_sent = subst (λ a. TaskDoneWithAhead a c k y.target) (sym (ap task_ahead task)) (two, (block_here, next_under))

  -- the memory is one that both allow
  pub next_within : EngineMemoryWithin c k y.target
  next_within = host_in_flight_next c k y two block_here
      (host_in_flight_sent 1 (block_next_hand k.task (memory_once_task_done k)) y (omega arith) next_under.sent)

  -- the word that the access in hand answers
  given : bus_answer (access_of_task k.task) k.memory ≡ Value (bus_word_at at k.memory)
  given = d.answer ∙ ap (λ a. bus_done_answer a k.memory) access_here

  -- the read buffer has it
  held : x.target.buffer ≡ Some (bus_word_at at k.memory)
  held = subst (λ a. PortBuffered a k.memory x.target) access_here d.buffered

  pub next_given : x.target.write_error ≡ false → n ≤ x.tally.disturbed → x.tally.disturbed ≤ y.tally.disturbed
      → PortPhaseSpared flip x y → (word : ℕ) × EngineReads word n (λ z. EngineResendWord Confirm word z c k y) y
  next_given flag paid more sp =
      let back = port_buffer_returned DrwRead flip (bus_word_at at k.memory) x y refl held ac in
      let resent : (n' : ℕ) → n' ≤ y.tally.disturbed → EngineResendWord Confirm (bus_word_at at k.memory) n' c k y =
      (λ n' p. record {
        returned = (next_sent, given);
        last = back.1;
        flag = ap (λ i. i.write_error) ac.target ∙ flag;
        paid = p;
      }) in (
        bus_word_at at k.memory,
        host_data_read_due (bus_word_at at k.memory) n
            (λ z. EngineResendWord Confirm (bus_word_at at k.memory) z c k y) flip x y back.0 sp
            (resent n (omega arith)) (λ i. resent (n + 1) (omega arith)),
      )

-- what came of the DRW read of a block's next access, which confirms the current one and returns its word
pub burst_ask_next_read : (at n : ℕ) (base : EngineBase) (b c : ℕ) (k : EngineHand) (v : ℕ) (s t : Port)
    → k.task ≡ BurstRead at
    → IsTask (BurstRead at) → 2 ≤ c → base.lost ≤ s.tally.lost → EnginePlaceIsSure Confirm n b k s
    → PortAsks s (engine_request_for (At Confirm) k.task) v t → HostAskOutcome (At Confirm) n base c k v t
burst_ask_next_read at n base b c k v s t task ok two l h asks =
    confirm_came n base b c k v s t (omega arith) l h asks
    (λ x y last u flag paid d a. subst (λ z. TaskConfirmPhase z n c k t) (sym task)
    (let ac : PortAccepts DrwRead true a.flip x y =
    subst (λ z. PortAccepts (task_confirming_register z) (engine_request_for (At Confirm) z).read a.flip x y) task
    a.accepts in
    let read = next_given at n c k x y a.flip task ok two u d ac flag paid a.heard.disturbed_least a.spares in
    (read.0, reads_stay Confirm read.0 n c k y t last read.1)))
    (λ x y last d u ac. next_within at n c k x y None task ok two u d
    (subst (λ z. PortAccepts (task_confirming_register z) (engine_request_for (At Confirm) z).read None x y) task ac))

-- RESEND, WHILE THE NEXT READ IS IN FLIGHT
passing_asked : (word n : ℕ) (base : EngineBase) (b : ℕ) (k : EngineHand) (v : ℕ) (s t : Port)
    → base.lost ≤ s.tally.lost
    → TaskDoneWithAhead NextSent b k s.target → EngineResendWord Confirm word n b k s
    → PortAsks s (engine_request_for (Resend Confirm) k.task) v t
    → HostAskOutcome (Resend Confirm) n base b k v t
passing_asked word n base b k v s t l h r asks =
    let h2 : EngineHand = block_next_hand k.task (memory_once_task_done k) in
    let q : Request = engine_request_for (Resend Confirm) k.task in
    let u : TaskTransferSent 1 h2 s.target = h.1.1 in
    let (x, y, first, came, last) = port_confirming_request (access_of_task h2.task) h2.memory ResendRead q v s t u.sent
    (ap (λ z. port_register z q) u.serves.select) refl u.serves.live r.flag (λ e. absurd (cc)) asks in
    let kp = kept_by s x first in
    let ux : TaskTransferSent 1 h2 x.target = host_under_completed 1 h2 s x first u in
    let rx : EngineResendWord Confirm word n b k x = host_resent_completed Confirm word n b k s x first r in
    confirming_came ResendRead q h2 x y (λ e. absurd (cc)) (Resend Confirm) n base b k v t
    (omega (arith, ap (λ i. i.lost) kp.tally)) ux rx.flag rx.paid last
    (λ d a. (let ac : PortAccepts ResendRead true a.flip x y = a.accepts in
    let f : HostFrame x y = host_frame_okay ResendRead true a.flip x y refl ux.serves.live ac in
    let e : HostSameFlags x y = host_flags_okay ResendRead true a.flip x y refl ac in
    let more : x.tally.disturbed ≤ y.tally.disturbed = a.heard.disturbed_least in (
      word,
      reads_stay Confirm word n b k y t last
          (host_data_read_due word n (λ c. EngineResendWord Confirm word c b k y) a.flip x y
          (port_value_resent a.flip word x y rx.last ac).0 a.spares
          (resent_framed n n b k x y f e (omega arith) Confirm word rx)
          (λ i. resent_framed n (n + 1) b k x y f e (omega arith) Confirm word rx)),
    )))
    (λ a w. record {
      free = refl;
      before = (
        word,
        host_resent_completed Confirm word (n + 1) b k y t last
            (resent_framed n (n + 1) b k x y (host_frame_wait ResendRead x y a.defers)
            (host_flags_wait ResendRead x y a.defers) (omega (arith, a.disturbed)) Confirm word rx),
      );
    })
    (λ z. subst (λ p. EngineFaultAtJob (Resend Confirm) n b k p) (sym z.same) (
      h.1.0,
      by_error (next_error (record {
        place = refl;
        begun = h.0;
        block = h.1.0;
        word = word;
        answer = rx.returned.1;
        last = z.frame.last_returned ∙ rx.last;
        broken = z.broken;
      })) z.sticky z.flag z.paid,
    ))
    (λ w. host_in_flight_next b k y h.0 h.1.0 w) (λ d ac. host_in_flight_next b k y h.0 h.1.0
    (host_in_flight_done 1 h2 y (omega arith) (ap (λ i. i.pending) ac.target ∙ d.pending)
    (ap (λ i. i.memory) ac.target ∙ d.memory)))
    came

done_resend_asked : (ahead : Ahead) (word n : ℕ) (base : EngineBase) (b : ℕ) (k : EngineHand) (v : ℕ) (s t : Port)
    → base.lost ≤ s.tally.lost → TaskDoneWithAhead ahead b k s.target → EngineResendWord Confirm word n b k s
    → PortAsks s (engine_request_for (Resend Confirm) k.task) v t → HostAskOutcome (Resend Confirm) n base b k v t
done_resend_asked Unsent word n base b k v s t l h r asks =
    host_resend_at_rest Confirm word n base b k v _ s t l h.up.calm r asks
done_resend_asked NextSent word n base b k v s t l h r asks = passing_asked word n base b k v s t l h r asks
done_resend_asked NextFailed word n base b k v s t l h r asks =
    host_resend_at_rest Confirm word n base b k v _ s t l h.1.1.calm r asks

-- what came of RESEND for the word of a place, whether or not the next read of a block is in flight
pub host_ask_resend : (p : HostStep) (word n : ℕ) (base : EngineBase) (b : ℕ) (k : EngineHand) (v : ℕ) (s t : Port)
    → base.lost ≤ s.tally.lost → EngineResendWord p word n b k s → PortAsks s (engine_request_for (Resend p) k.task) v t
    → HostAskOutcome (Resend p) n base b k v t
host_ask_resend Configured word n base b k v s t l h asks =
    host_resend_at_rest Configured word n base b k v _ s t l h.returned.0.calm h asks
host_ask_resend Confirm word n base b k v s t l h asks =
    done_resend_asked (task_ahead k.task) word n base b k v s t l h.returned.0 h asks
host_ask_resend Behind word n base b k v s t l h asks =
    host_resend_at_rest Behind word n base b k v _ s t l h.returned.0.1.1.calm h asks
host_ask_resend _ word n base b k v s t l h asks = absurd h.returned

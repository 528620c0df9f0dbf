-- A transaction that leads from a world to another: the target's reply to it, and what the host sees of that; FAULT,
-- WAIT, and requests that the target didn't see.
use Rattle.std.proofs.Common.{◌≡◌, ℕ, Bool, true, false, refl, sym, ap, subst, ◌∙◌, arith, ◌⊎◌, inl, inr}
use Rattle.std.specs.Prelude.{Option, Some, None}
use Rattle.std.specs.Option.{option_map}
use Rattle.swd_bits.specs.declared.request.Request.{Request}
use Rattle.swd_bits.specs.declared.tx.Tx.{Tx as Transaction}
use Rattle.swd_bits.specs.declared.tx.TxEnd.{TxEnd}
use Rattle.swd_bits.specs.declared.tx.TxEnd.TheVariants.{Wait, Fault, NoAck}
use Rattle.swd_bits.specs.Transactions.{IsTxEnd}
use Rattle.swd_port.specs.declared.register.Register.{Register}
use Rattle.swd_port.specs.declared.mark.Mark.{Mark}
use Rattle.swd_port.specs.declared.mark.Mark.TheVariants.{Clean, Wait as WaitMark, Deaf, Mute}
use Rattle.swd_port.specs.declared.state.Drw.{Drw}
use Rattle.swd_port.specs.declared.state.AfterAck.{AfterAck}
use Rattle.swd_port.specs.declared.state.Reply.{Reply}
use Rattle.swd_port.specs.declared.state.Reply.TheVariants.{Okay, Waits, Faults, Silent}
use Rattle.swd_port.specs.Port.{Port, Target, port_register}
use Rattle.swd_port.specs.Choices.{Choice, IsPortChoice, IsPortMark, port_flip_of}
use Rattle.swd_port.specs.Answers.{is_exempt_register, port_is_answered, port_reply_under, PortSees}
use Rattle.swd_port.specs.Answers.{IsPortNoAck}
use Rattle.swd_port.specs.Asking.{IsPendingSettled, IsPortWordRead, port_answer, port_reply}
use Rattle.swd_port.specs.Asking.{port_value_in, port_after_reply, port_phase_after, port_line_after}
use Rattle.swd_port.specs.Asking.{port_target_after, port_after_wait, port_after_fault}
use Rattle.swd_port.specs.Completion.{PortCompletes}
use Rattle.swd_port.specs.Leading.{port_line_awaits}
use Rattle.swd_port.specs.Moving.{port_after_pass}
use Rattle.swd_checker.specs.Worlds.{World, world_succeeded, world_failed, world_after_wait}
use Rattle.swd_checker.specs.Worlds.{world_after_fault}
use Rattle.swd_checker.specs.Described.{IsWorldNow, checked_transfer_of}
use Rattle.swd_checker.specs.Steps.{world_register, world_due}
use Rattle.swd_checker.specs.Checked.{CheckedAsks, is_checked_clean}
use Rattle.swd_checker.specs.Adding.{IsCheckedPrompt}
use Rattle.swd_checker.specs.Exact.{WorldWords, CheckedAnswers, IsWorldExact, IsWorldSound, IsWorldTarget, IsWorldPort}
use Rattle.swd_checker.specs.Reaching.{CheckedLink, LinkLeads, WorldReaches, WorldTransacts}
use Rattle.swd_checker.specs.Reached.{WorldsRefuse, WorldsDefer}
use Rattle.swd_checker.proofs.DescribedLemmas.{world_fault_now, world_now_waits, world_success_pends_nothing}
use Rattle.swd_checker.proofs.DueLemmas.{register_now, register_success, due_now, due_success, by_flags}
use Rattle.swd_checker.proofs.SettleLemmas.{WorldPasses, world_goes_now, world_goes_settled, world_goes_failed}
use Rattle.swd_checker.proofs.SettleLemmas.{checked_choice_plain, checked_plain_legal}

-- MARKS
-- a mark under which the reply to a request, instead of this answer, is seen so
pub record ReplyMark (clean : Bool) (r : Register) (answer reply : Reply) (seen : ℕ) : Type 0 where
  pub mark : Mark
  pub legal : IsPortMark mark
  pub undamaged : clean ≡ true → is_checked_clean mark ≡ true
  pub replies : port_reply_under mark r answer ≡ reply
  pub sees : PortSees mark reply seen

not_clean : (clean : Bool) (b : Bool) → clean ≡ false → clean ≡ true → b ≡ true
not_clean clean b e f = absurd (let g : false ≡ true = sym e ∙ f in cc)

-- FAULT that is seen,
pub mark_faults : (clean : Bool) (r : Register) → ReplyMark clean r Faults Faults 4
mark_faults clean r = record { mark = Clean; legal = tt; undamaged = λ e. refl; replies = refl; sees = refl }

-- WAIT in place of OK,
pub mark_waits : (clean : Bool) (r : Register) → is_exempt_register r ≡ false → ReplyMark clean r Okay Waits 2
mark_waits clean r plain =
    record { mark = WaitMark; legal = tt; undamaged = λ e. refl; replies = rw plain refl; sees = refl }

-- silence where nothing is answered,
pub mark_silent : (clean : Bool) (r : Register) (seen : ℕ) → seen ≡ 7 → ReplyMark clean r Silent Silent seen
mark_silent clean r seen is = record { mark = Clean; legal = tt; undamaged = λ e. refl; replies = refl; sees = is }

-- a request that the target doesn't see,
pub mark_deaf : (clean : Bool) (r : Register) (answer : Reply) (seen : ℕ) → clean ≡ false → IsPortNoAck seen
    → ReplyMark clean r answer Silent seen
mark_deaf clean r answer seen may none =
    record { mark = Deaf; legal = tt; undamaged = not_clean clean _ may; replies = refl; sees = none }

-- and an answer that isn't seen
pub mark_mute : (clean : Bool) (r : Register) (answer : Reply) (seen : ℕ) → clean ≡ false → IsPortNoAck seen
    → ReplyMark clean r answer answer seen
mark_mute clean r answer seen may none =
    record { mark = Mute 0; legal = omega arith; undamaged = not_clean clean _ may; replies = refl; sees = none }

-- ENDS
-- what follows the acknowledgement, which leaves the target and the line as they are
pub record TxEnded (clean : Bool) (tx : Transaction) (seen : ℕ) (asked : Port) : Type 0 where
  pub after : Port
  pub target : after.target ≡ asked.target
  pub line : after.link.line ≡ asked.link.line
  pub shows : (okay : Bool) (s : Port) (asks : CheckedAsks clean s tx.request seen asked)
      → (okay ≡ true → port_reply asks.mark asks.before.target tx.request ≡ Okay)
      → WorldTransacts okay clean tx.result tx.request s after

-- a turnaround after FAULT,
pub tx_faulted : (clean : Bool) (tx : Transaction) (asked : Port) → tx.result ≡ Fault → TxEnded clean tx 4 asked
tx_faulted clean tx asked is = record {
  after = port_after_pass asked;
  target = refl;
  line = refl;
  shows = λ okay s asks answers.
      subst (λ e. WorldTransacts okay clean e tx.request s (port_after_pass asked)) (sym is) (
        record {
          asked = asked;
          asks = asks;
          passes = (asked, port_after_pass asked, inl refl, record { after = refl }, inl refl);
        },
        answers,
      );
}

-- after WAIT,
pub tx_waited : (clean : Bool) (tx : Transaction) (asked : Port) → tx.result ≡ Wait → TxEnded clean tx 2 asked
tx_waited clean tx asked is = record {
  after = port_after_pass asked;
  target = refl;
  line = refl;
  shows = λ okay s asks answers.
      subst (λ e. WorldTransacts okay clean e tx.request s (port_after_pass asked)) (sym is) (
        record {
          asked = asked;
          asks = asks;
          passes = (asked, port_after_pass asked, inl refl, record { after = refl }, inl refl);
        },
        answers,
      );
}

-- and nothing where no acknowledgement was seen
pub tx_lost : (clean : Bool) (tx : Transaction) (seen : ℕ) (asked : Port) → tx.result ≡ NoAck seen → IsPortNoAck seen
    → TxEnded clean tx seen asked
tx_lost clean tx seen asked is none = record {
  after = asked;
  target = refl;
  line = refl;
  shows = λ okay s asks answers. subst (λ e. WorldTransacts okay clean e tx.request s asked) (sym is)
      (record { none = none; asks = asks }, answers);
}

-- REQUESTS
-- a mark under which the target replies so
pub replied_so : (clean : Bool) (a : Port) (q : Request) (r : Register) (answer reply : Reply) (seen : ℕ)
    (k : ReplyMark clean r answer reply seen) → port_register a.target.select q ≡ r
    → port_answer a.target q ≡ answer → port_reply k.mark a.target q ≡ reply
replied_so clean a q r answer reply seen k names answers =
    ap (λ z. port_reply_under k.mark z (port_answer a.target q)) names ∙ ap (port_reply_under k.mark r) answers
    ∙ k.replies

-- a request to which the target replies so under a mark
pub asked_so : (clean : Bool) (s a : Port) (q : Request) (r : Register) (answer reply : Reply) (seen : ℕ) (c : Choice)
    → (k : ReplyMark clean r answer reply seen) → IsPortChoice c → IsCheckedPrompt c
    → port_register a.target.select q ≡ r → port_answer a.target q ≡ answer
    → IsPendingSettled reply r a.target.pending → IsPortWordRead reply q.read (port_value_in c r a.target)
    → PortCompletes s a → CheckedAsks clean s q seen (port_after_reply k.mark reply r q c a)
asked_so clean s a q r answer reply seen c k legal prompt names answers settled word completes =
    let is : port_reply k.mark a.target q ≡ reply = replied_so clean a q r answer reply seen k names answers in
    record {
      before = a;
      after = port_after_reply k.mark reply r q c a;
      mark = k.mark;
      choice = c;
      undamaged = k.undamaged;
      completes = completes;
      asks = record {
        legal = k.legal;
        choice = legal;
        late = λ e. (prompt.debug, prompt.system);
        settled = subst (λ z. IsPendingSettled z (port_register a.target.select q) a.target.pending) (sym is)
            (subst (λ z. IsPendingSettled reply z a.target.pending) (sym names) settled);
        word = subst (λ z. IsPortWordRead z q.read (port_value_in c (port_register a.target.select q) a.target))
            (sym is) (subst (λ z. IsPortWordRead reply q.read (port_value_in c z a.target)) (sym names) word);
        sees = subst (λ z. PortSees k.mark z seen) (sym is) k.sees;
        after = ap (λ z. port_after_reply k.mark reply z q c a) (sym names)
            ∙ ap (λ z. port_after_reply k.mark z (port_register a.target.select q) q c a) (sym is);
      };
      then = inl refl;
    }

-- What a reply leads to, and from which words, with which choice.
pub record WorldReplies (n : ℕ) (w next : World) (q : Request) (r : Register) (reply : Reply) (v : WorldWords)
    : Type 0 where
  pub before : WorldWords
  pub exact : IsWorldExact w before
  pub choice : Choice
  pub legal : IsPortChoice choice
  pub prompt : IsCheckedPrompt choice
  pub settled : (x : Target) → IsWorldNow w x → IsPendingSettled reply r x.pending
  pub word : (answers : CheckedAnswers) (a : Port) → IsWorldPort w n before answers a
      → IsPortWordRead reply q.read (port_value_in choice r a.target)
  pub leads : (answers : CheckedAnswers) (a : Port) → IsWorldPort w n before answers a
      → IsWorldTarget next n v answers (port_target_after choice reply r q.ap a.target)
  pub awaits : (flip : Option ℕ) (value : ℕ) (line : AfterAck) → port_line_awaits line ≡ w.awaits
      → port_line_awaits (port_line_after reply (port_phase_after q.read r flip value) line) ≡ next.awaits

-- a transaction of which the acknowledgement was seen so, or not
pub tx_passes : (okay clean : Bool) (n : ℕ) (tx : Transaction) (w next : World) (r : Register)
    (answer reply : Reply) (seen : ℕ) → (okay ≡ true → reply ≡ Okay) → ReplyMark clean r answer reply seen
    → ((asked : Port) → TxEnded clean tx seen asked)
    → world_register w tx.request ≡ r → world_due w tx.request ≡ answer → (IsWorldSound w → IsWorldSound next)
    → (IsWorldSound w → (v : WorldWords) → IsWorldExact next v → WorldReplies n w next tx.request r reply v)
    → WorldPasses okay clean n tx w next
unfolding asked_so
tx_passes okay clean n tx w next r answer reply seen answers_so k ended names due sound each = record {
  sound = sound;
  each = λ well v exact. let j = each well v exact in (
    j.before,
    j.exact,
    λ answers a h.
        let asked = port_after_reply k.mark reply r tx.request j.choice a in
        let end : TxEnded clean tx seen asked = ended asked in
        let named : port_register a.target.select tx.request ≡ r =
        register_now w a.target tx.request h.target.now ∙ names in
        let answered : port_answer a.target tx.request ≡ answer =
        due_now w a.target tx.request h.target.now ∙ due in (
          end.after,
          λ s completes. end.shows okay s (asked_so clean s a tx.request r answer reply seen j.choice k j.legal
              j.prompt named answered (j.settled a.target h.target.now) (j.word answers a h) completes)
              (λ e. replied_so clean a tx.request r answer reply seen k named answered ∙ answers_so e),
          record {
            target = subst (IsWorldTarget next n v answers) (sym end.target) (j.leads answers a h);
            awaits = ap port_line_awaits end.line ∙ j.awaits (port_flip_of k.mark)
                (port_value_in j.choice r a.target) a.link.line h.awaits;
          },
        ),
  );
}

idle : (p : Option Drw) → option_map checked_transfer_of p ≡ None → p ≡ None
idle None e = refl
idle (Some drw) e = absurd (cc)

-- nothing is pending in a target of such a world
pub world_target_idle : (w : World) (x : Target) → w.pending ≡ None → IsWorldNow w x → x.pending ≡ None
world_target_idle w x none h = idle x.pending (h.pending ∙ none)

-- FAULT
fault_target : (w : World) (n : ℕ) (v : WorldWords) (answers : CheckedAnswers) (r : Register) (ap_is : Bool)
    (x : Target) → IsWorldTarget w n v answers x
    → IsWorldTarget (world_after_fault r ap_is w) n v answers (port_after_fault r ap_is x)
fault_target w n v answers r ap_is x h = record {
  now = world_fault_now w r ap_is x h.now;
  debug = h.debug;
  system = h.system;
  tar = h.tar;
  buffer = h.buffer;
  last_returned = h.last_returned;
  identification = h.identification;
  bus = h.bus;
}

-- a request that is refused, where nothing is pending
fault_passes : (clean : Bool) (n : ℕ) (tx : Transaction) (w : World) (r : Register) (seen : ℕ)
    → ReplyMark clean r Faults Faults seen → ((asked : Port) → TxEnded clean tx seen asked)
    → world_register w tx.request ≡ r → world_due w tx.request ≡ Faults → w.pending ≡ None
    → WorldPasses false clean n tx w (world_after_fault r tx.request.ap w)
fault_passes clean n tx w r seen k ended names due none =
    tx_passes false clean n tx w (world_after_fault r tx.request.ap w) r Faults Faults seen (λ e. absurd (cc)) k ended
    names due
    (λ sound. record { tar = sound.tar; buffer = sound.buffer; last_returned = sound.last_returned })
    (λ sound v exact. record {
      before = v;
      exact = record { tar = exact.tar; buffer = exact.buffer; last_returned = exact.last_returned };
      choice = checked_choice_plain;
      legal = checked_plain_legal;
      prompt = record { debug = refl; system = refl };
      settled = λ x h plain. world_target_idle w x none h;
      word = λ answers a h. tt;
      leads = λ answers a h. fault_target w n v answers r tx.request.ap a.target h.target;
      awaits = λ flip value line e. e;
    })

by_failed : (a b f : Bool) → (by_flags a b f ≡ Faults) ⊎ ((by_flags a b f ≡ Okay) × (b ≡ false))
    → by_flags a b true ≡ Faults
by_failed false b f (inl e) = absurd (cc)
by_failed true true f (inl e) = absurd (cc)
by_failed true false f (inl e) = refl
by_failed false b f (inr e) = absurd (let g : Silent ≡ Okay = e.0 in cc)
by_failed true true f (inr e) = absurd (let g : true ≡ false = e.1 in cc)
by_failed true false f (inr e) = refl

-- what is refused, or was a bus error, once it is seen, or not
pub link_faults : (link : CheckedLink) (w : World) (clean : Bool) (tx : Transaction) (seen : ℕ)
    → ReplyMark clean (world_register w tx.request) Faults Faults seen
    → ((asked : Port) → TxEnded clean tx seen asked) → LinkLeads false link clean tx w
    → WorldsRefuse link w tx.request (world_register w tx.request)
link_faults link w clean tx seen k ended leads =
    let q : Request = tx.request in
    let r : Register = world_register w q in
    record {
      refused = λ due. leads.goes _
          (world_goes_settled false clean link.identification tx w _
          (fault_passes clean link.identification tx (world_succeeded w) r seen k ended (register_success w w.pending q)
          (due_success w w.pending q ∙ due) (world_success_pends_nothing w.pending w refl)));
      failed = λ pends may. leads.goes _
          (world_goes_failed false clean link.identification tx w _ pends
          (fault_passes clean link.identification tx (world_failed w) r seen k ended refl
          (by_failed (port_is_answered w.reset r) (is_exempt_register r) _ may) refl));
    }

-- WAIT
wait_target : (w : World) (n : ℕ) (v : WorldWords) (answers : CheckedAnswers) (r : Register) (x : Target)
    → IsWorldTarget w n v answers x → IsWorldTarget (world_after_wait r w) n v answers (port_after_wait r x)
wait_target w n v answers r x h = record {
  now = world_now_waits w r x h.now;
  debug = h.debug;
  system = h.system;
  tar = h.tar;
  buffer = h.buffer;
  last_returned = h.last_returned;
  identification = h.identification;
  bus = h.bus;
}

-- a request that is deferred
pub link_waits : (link : CheckedLink) (w : World) (clean : Bool) (tx : Transaction)
    → LinkLeads false link clean tx w → tx.result ≡ Wait
    → WorldsDefer link w tx.request (world_register w tx.request)
link_waits link w clean tx leads is due plain =
    let n : ℕ = link.identification in
    let r : Register = world_register w tx.request in
    leads.goes (world_after_wait r w) (world_goes_now false clean n tx w (world_after_wait r w)
    (tx_passes false clean n tx w (world_after_wait r w) r Okay Waits 2 (λ e. absurd (cc)) (mark_waits clean r plain)
    (λ asked. tx_waited clean tx asked is) refl due
    (λ sound. record { tar = sound.tar; buffer = sound.buffer; last_returned = sound.last_returned })
    (λ sound v exact. record {
      before = v;
      exact = record { tar = exact.tar; buffer = exact.buffer; last_returned = exact.last_returned };
      choice = checked_choice_plain;
      legal = checked_plain_legal;
      prompt = record { debug = refl; system = refl };
      settled = λ x h. tt;
      word = λ answers a h. tt;
      leads = λ answers a h. wait_target w n v answers r a.target h.target;
      awaits = λ flip value line e. e;
    })))

-- SILENCE
-- a request that isn't answered
pub link_silent : (link : CheckedLink) (w : World) (clean : Bool) (tx : Transaction) (answer : Reply) (seen : ℕ)
    → ReplyMark clean (world_register w tx.request) answer Silent seen
    → ((asked : Port) → TxEnded clean tx seen asked) → LinkLeads false link clean tx w
    → world_due w tx.request ≡ answer → WorldReaches link w
link_silent link w clean tx answer seen k ended leads due =
    let n : ℕ = link.identification in
    leads.goes w (world_goes_now false clean n tx w w
    (tx_passes false clean n tx w w (world_register w tx.request) answer Silent seen (λ e. absurd (cc)) k ended refl due
    (λ sound. sound)
    (λ sound v exact. record {
      before = v;
      exact = exact;
      choice = checked_choice_plain;
      legal = checked_plain_legal;
      prompt = record { debug = refl; system = refl };
      settled = λ x h. tt;
      word = λ answers a h. tt;
      leads = λ answers a h. h.target;
      awaits = λ flip value line e. e;
    })))

no_ack_of : (known seen : ℕ) → IsPortNoAck known → seen ≡ known → IsPortNoAck seen
no_ack_of known seen none is = subst IsPortNoAck (sym is) none

no_ack_some : (seen : ℕ) → IsTxEnd (NoAck seen) → IsPortNoAck seen
no_ack_some seen (inl is) = no_ack_of 0 seen (record { not_okay = refl; not_wait = refl; not_fault = refl }) is
no_ack_some seen (inr (inl is)) = no_ack_of 3 seen (record { not_okay = refl; not_wait = refl; not_fault = refl }) is
no_ack_some seen (inr (inr (inl is))) =
    no_ack_of 5 seen (record { not_okay = refl; not_wait = refl; not_fault = refl }) is
no_ack_some seen (inr (inr (inr (inl is)))) =
    no_ack_of 6 seen (record { not_okay = refl; not_wait = refl; not_fault = refl }) is
no_ack_some seen (inr (inr (inr (inr is)))) =
    no_ack_of 7 seen (record { not_okay = refl; not_wait = refl; not_fault = refl }) is

-- a number that is no acknowledgement
pub tx_no_ack : (end : TxEnd) (seen : ℕ) → IsTxEnd end → end ≡ NoAck seen → IsPortNoAck seen
tx_no_ack end seen legal is = no_ack_some seen (subst IsTxEnd is legal)

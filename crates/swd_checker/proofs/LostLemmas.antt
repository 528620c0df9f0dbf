-- Requests whose acknowledgement wasn't seen: the target did nothing, answered FAULT, or OK.
use Rattle.std.proofs.Common.{◌≡◌, ◌<◌, ◌^◌, ℕ, Bool, true, false, refl, sym, ap, subst, ◌∙◌, arith}
use Rattle.std.specs.Prelude.{Option, Some, None, unwrap_or, if◌then◌else◌, not}
use Rattle.swd_bits.specs.declared.request.Request.{Request}
use Rattle.swd_bits.specs.declared.tx.Tx.{Tx as Transaction}
use Rattle.swd_bits.specs.declared.tx.TxEnd.TheVariants.{NoAck}
use Rattle.swd_port.specs.declared.register.Register.{Register}
use Rattle.swd_port.specs.declared.register.Register.TheVariants.{DpidrRead, AbortWrite, CtrlStatRead, CtrlStatWrite}
use Rattle.swd_port.specs.declared.register.Register.TheVariants.{SelectWrite, ResendRead, DpOtherRead}
use Rattle.swd_port.specs.declared.register.Register.TheVariants.{DpIgnoredWrite, CswWrite, TarWrite, DrwWrite}
use Rattle.swd_port.specs.declared.register.Register.TheVariants.{ApOtherWrite}
use Rattle.swd_port.specs.declared.state.Reply.TheVariants.{Okay, Faults, Silent}
use Rattle.swd_port.specs.Port.{Port, Target}
use Rattle.swd_port.specs.Choices.{Choice, IsPortChoice}
use Rattle.swd_port.specs.Answers.{is_exempt_register, is_port_power_there, IsPortNoAck}
use Rattle.swd_port.specs.Asking.{IsPortWordRead, port_value_in, port_after_okay, port_phase_after}
use Rattle.swd_port.specs.Asking.{is_port_posted, debug_up_after, power_up_after}
use Rattle.swd_port.specs.Leading.{port_line_awaits}
use Rattle.swd_port.proofs.StatusLaws.{ctrl_stat_word_range}
use Rattle.swd_checker.specs.Worlds.{World, Power, Held, HeldUnknown, HeldWord, HeldCsw, HeldSeen, TransferRead}
use Rattle.swd_checker.specs.Worlds.{world_succeeded, world_confirmed}
use Rattle.swd_checker.specs.Steps.{world_register, world_due, world_live, checked_power_found}
use Rattle.swd_checker.specs.Adding.{IsCheckedPrompt}
use Rattle.swd_checker.specs.Exact.{WorldWords, CheckedAnswers, IsWorldExact, IsWorldSound, IsWorldTarget, IsWorldPort}
use Rattle.swd_checker.specs.Exact.{IsHeldExact, IsHeldSound}
use Rattle.swd_checker.specs.Reaching.{CheckedLink, LinkSteps, LinkLeads, WorldReaches}
use Rattle.swd_checker.specs.Reached.{WorldsReturnAny, WorldsLoseOkay, WorldsLoseSeen, world_accepted}
use Rattle.swd_checker.proofs.NearLemmas.{near_small}
use Rattle.swd_checker.proofs.ReadLemmas.{world_now_awaits}
use Rattle.swd_checker.proofs.AddingLemmas.{checked_posted_plain}
use Rattle.swd_checker.proofs.SettleLemmas.{checked_choice_plain, checked_plain_legal}
use Rattle.swd_checker.proofs.EffectLemmas.{WorldGivesBack, WorldPosts, posted_worlds, world_target_lives}
use Rattle.swd_checker.proofs.EffectLemmas.{world_target_finds}
use Rattle.swd_checker.proofs.GoesLemmas.{mark_silent, mark_deaf, mark_mute, tx_lost, tx_passes, tx_no_ack}
use Rattle.swd_checker.proofs.GoesLemmas.{world_target_idle, link_faults, link_silent}
use Rattle.swd_checker.proofs.MarkLemmas.{word_read_by, unread_by}
use Rattle.swd_checker.proofs.MovesLemmas.{IsWorldOkayed, LinkBase, base_okayed, base_port, base_exempt}
use Rattle.swd_checker.proofs.MovesLemmas.{base_settled, okayed_words, world_okayed, world_okayed_sound}
use Rattle.swd_checker.proofs.MovesLemmas.{world_okayed_pending, is_write_register, checked_register_write}

-- OK
-- the world after OK, where write data is awaited or not
abbrev lost_okayed : Transaction → Register → World → World
lost_okayed tx r b = record (base_okayed tx r b) { awaits = not tx.request.read }

-- What OK leads to that wasn't seen: for each of the words after it, those before it, and the choice of the target.
record LostFrom (n : ℕ) (q : Request) (r : Register) (w next : World) (v : WorldWords) : Type 0 where
  before : WorldWords
  exact : IsWorldExact w before
  choice : Choice
  legal : IsPortChoice choice
  prompt : IsCheckedPrompt choice
  word : (answers : CheckedAnswers) (x : Target) → IsWorldOkayed w n before answers r choice.debug_late x
      → IsPortWordRead Okay q.read (port_value_in choice r x)
  leads : (answers : CheckedAnswers) (x : Target) → IsWorldOkayed w n before answers r choice.debug_late x
      → IsWorldTarget next n v answers (port_after_okay choice r x)

record LostTo (n : ℕ) (q : Request) (r : Register) (w next : World) : Type 0 where
  awaits : next.awaits ≡ not q.read
  sound : IsWorldSound w → IsWorldSound next
  each : IsWorldSound w → (v : WorldWords) → IsWorldExact next v → LostFrom n q r w next v

target_awaits : (w : World) (n : ℕ) (u : WorldWords) (answers : CheckedAnswers) (awaits : Bool) (x : Target)
    → IsWorldTarget w n u answers x → IsWorldTarget (record w { awaits = awaits }) n u answers x
target_awaits w n u answers awaits x h = record {
  now = world_now_awaits w awaits x h.now;
  debug = h.debug;
  system = h.system;
  tar = h.tar;
  buffer = h.buffer;
  last_returned = h.last_returned;
  identification = h.identification;
  bus = h.bus;
}

okayed_awaits : (w : World) (n : ℕ) (u : WorldWords) (answers : CheckedAnswers) (r : Register) (late awaits : Bool)
    (x : Target) → IsWorldOkayed w n u answers r late x
    → IsWorldOkayed (record w { awaits = awaits }) n u answers r late x
okayed_awaits w n u answers r late awaits x o = record {
  exempt = λ e. target_awaits w n u answers awaits x (o.exempt e);
  plain = λ e. target_awaits w n u answers awaits (record x { debug_up = debug_up_after late r x.debug_up })
      (o.plain e);
  settled = o.settled;
}

words_awaits : (w : World) (awaits : Bool) (u : WorldWords) → IsWorldExact (record w { awaits = awaits }) u
    → IsWorldExact w u
words_awaits w awaits u h = record { tar = h.tar; buffer = h.buffer; last_returned = h.last_returned }

sound_awaits : (w : World) (awaits : Bool) → IsWorldSound w → IsWorldSound (record w { awaits = awaits })
sound_awaits w awaits h = record { tar = h.tar; buffer = h.buffer; last_returned = h.last_returned }

phase_awaits : (read : Bool) (r : Register) (flip : Option ℕ) (value : ℕ)
    → port_line_awaits (port_phase_after read r flip value) ≡ not read
phase_awaits true r flip value = refl
phase_awaits false r flip value = refl

base_sound : (tx : Transaction) (r : Register) (b : World) → IsWorldSound b → IsWorldSound (lost_okayed tx r b)
base_sound tx r b sound = sound_awaits (base_okayed tx r b) (not tx.request.read)
    (world_okayed_sound (is_exempt_register r) tx.request.ap b sound)

-- what OK leads to that wasn't seen is reached
lost_reaches : (link : CheckedLink) (clean : Bool) (tx : Transaction) (b next : World) (r : Register) (seen : ℕ)
    → LinkBase link clean tx b r → clean ≡ false → tx.result ≡ NoAck seen → IsPortNoAck seen
    → LostTo link.identification tx.request r (lost_okayed tx r b) next → WorldReaches link next
lost_reaches link clean tx b next r seen k may is none to =
    let n : ℕ = link.identification in
    let q : Request = tx.request in
    let okayed = λ (u : WorldWords) (answers : CheckedAnswers) (a : Port) (late : Bool)
    (at : IsWorldPort b n u answers a).
    okayed_awaits (base_okayed tx r b) n u answers r late (not q.read) a.target
    ((base_port link clean tx b r u answers a k at).okayed late) in
    k.reaches next (tx_passes true clean n tx b next r Okay Okay seen (λ e. refl) (mark_mute clean r Okay seen may none)
    (λ asked. tx_lost clean tx seen asked is none) k.names k.due (λ sound. to.sound (base_sound tx r b sound))
    (λ sound v exact. let f = to.each (base_sound tx r b sound) v exact in record {
      before = f.before;
      exact = okayed_words (is_exempt_register r) q.ap b f.before
          (words_awaits (base_okayed tx r b) (not q.read) f.before f.exact);
      choice = f.choice;
      legal = f.legal;
      prompt = f.prompt;
      settled = λ x h plain. world_target_idle b x (k.settled plain) h;
      word = λ answers a at. f.word answers a.target (okayed f.before answers a f.choice.debug_late at);
      leads = λ answers a at. f.leads answers a.target (okayed f.before answers a f.choice.debug_late at);
      awaits = λ flip value line e. phase_awaits q.read r flip value ∙ sym to.awaits;
    }))

-- READS OF THE READ BUFFER
held_small : (held : Held) (value : Option ℕ) → IsHeldSound held → IsHeldExact held value
    → unwrap_or value 0 < 2 ^ 32
held_small HeldUnknown value sound is = subst (λ o. unwrap_or o 0 < 2 ^ 32) (sym is) (omega arith)
held_small HeldWord value sound (word, is, small) = subst (λ o. unwrap_or o 0 < 2 ^ 32) (sym is) small
held_small (HeldCsw increments) value sound (word, is, small, csw) =
    subst (λ o. unwrap_or o 0 < 2 ^ 32) (sym is) small
held_small (HeldSeen near) value sound (word, is, among) =
    subst (λ o. unwrap_or o 0 < 2 ^ 32) (sym is) (near_small near word sound.small among)

lost_posts : (n : ℕ) (q : Request) (r : Register) (w next : World) → is_exempt_register r ≡ false
    → w.awaits ≡ not q.read → WorldPosts w next r w.buffer → LostTo n q r w next
lost_posts n q r w next plain idle posts = record {
  awaits = posts.awaits ∙ idle;
  sound = λ sound. posts.sound sound sound.buffer;
  each = λ sound v exact.
      let last : IsHeldExact w.buffer v.last_returned =
      subst (λ z. IsHeldExact z v.last_returned) posts.last_returned exact.last_returned in
      let f : WorldGivesBack w next r 0 v = posts.returns sound 0 v (omega arith) last exact in
      record {
        before = f.before;
        exact = f.exact;
        choice = f.choice;
        legal = f.legal;
        prompt = f.prompt;
        word = λ answers x o. word_read_by q.read _ (subst (λ z. z < 2 ^ 32) (sym (f.value x
            ((o.plain plain).buffer (λ e. let g : None ≡ Some TransferRead = sym (o.settled plain) ∙ e in cc))
            (o.plain plain).last_returned)) (held_small w.buffer v.last_returned sound.buffer last));
        leads = λ answers x o. f.leads n answers x (o.plain plain);
      };
}

-- DPIDR, CTRL/STAT
lost_dpidr : (n : ℕ) (q : Request) (w : World) → n < 2 ^ 32 → w.awaits ≡ not q.read
    → LostTo n q DpidrRead w (world_live w)
lost_dpidr n q w small idle = record {
  awaits = idle;
  sound = λ sound. record { tar = sound.tar; buffer = sound.buffer; last_returned = sound.last_returned };
  each = λ sound v exact. record {
    before = v;
    exact = record { tar = exact.tar; buffer = exact.buffer; last_returned = exact.last_returned };
    choice = checked_choice_plain;
    legal = checked_plain_legal;
    prompt = record { debug = refl; system = refl };
    word = λ answers x o. word_read_by q.read _
        (subst (λ z. z < 2 ^ 32) (sym (o.exempt refl).identification) small);
    leads = λ answers x o. world_target_lives w n v answers checked_choice_plain x (o.exempt refl);
  };
}

lost_status : (n : ℕ) (q : Request) (w : World) (debug system : Power) → w.awaits ≡ not q.read
    → checked_power_found w.debug false ≡ Some debug → checked_power_found w.system false ≡ Some system
    → LostTo n q CtrlStatRead w (record w { debug = debug; system = system })
lost_status n q w debug system idle d s = record {
  awaits = idle;
  sound = λ sound. record { tar = sound.tar; buffer = sound.buffer; last_returned = sound.last_returned };
  each = λ sound v exact. record {
    before = v;
    exact = record { tar = exact.tar; buffer = exact.buffer; last_returned = exact.last_returned };
    choice = checked_choice_plain;
    legal = checked_plain_legal;
    prompt = record { debug = refl; system = refl };
    word = λ answers x o. word_read_by q.read _ (ctrl_stat_word_range 0 x.sticky_error x.read_ok x.write_error
        x.debug_power (is_port_power_there (power_up_after false CtrlStatRead x.debug_up))
        x.system_power (is_port_power_there (power_up_after false CtrlStatRead x.system_up)));
    leads = λ answers x o. world_target_finds w n v answers checked_choice_plain x debug system d s (o.exempt refl);
  };
}

-- OTHERS
-- none of those: OK leaves the target as it is, but for debug power, which an access port shows
record IsLostOther (r : Register) : Type 0 where
  unposted : is_port_posted r ≡ false
  dpidr : r ≡ DpidrRead → ⊥
  status : r ≡ CtrlStatRead → ⊥

other_stays : (w : World) (n : ℕ) (u : WorldWords) (answers : CheckedAnswers) (r : Register) (c : Choice) (x : Target)
    → IsLostOther r → IsWorldOkayed w n u answers r c.debug_late x
    → IsWorldTarget w n u answers (port_after_okay c r x)
other_stays w n u answers DpidrRead c x k o = absurd (k.dpidr refl)
other_stays w n u answers CtrlStatRead c x k o = absurd (k.status refl)
other_stays w n u answers AbortWrite c x k o = o.exempt refl
other_stays w n u answers CtrlStatWrite c x k o = o.plain refl
other_stays w n u answers SelectWrite c x k o = o.plain refl
other_stays w n u answers ResendRead c x k o = o.plain refl
other_stays w n u answers DpOtherRead c x k o = o.plain refl
other_stays w n u answers DpIgnoredWrite c x k o = o.plain refl
other_stays w n u answers CswWrite c x k o = o.plain refl
other_stays w n u answers TarWrite c x k o = o.plain refl
other_stays w n u answers DrwWrite c x k o = o.plain refl
other_stays w n u answers ApOtherWrite c x k o = o.plain refl
other_stays w n u answers r c x k o = absurd (let e : true ≡ false = k.unposted in cc)

writes_by : (read : Bool) → true ≡ not read → read ≡ false
writes_by true e = absurd (cc)
writes_by false e = refl

other_word : (w : World) (n : ℕ) (u : WorldWords) (answers : CheckedAnswers) (r : Register) (read : Bool) (x : Target)
    → is_write_register r ≡ not read → IsLostOther r → IsWorldSound w → IsWorldExact w u
    → IsWorldOkayed w n u answers r false x → IsPortWordRead Okay read (port_value_in checked_choice_plain r x)
other_word w n u answers DpidrRead read x e k sound exact o = absurd (k.dpidr refl)
other_word w n u answers CtrlStatRead read x e k sound exact o = absurd (k.status refl)
other_word w n u answers ResendRead read x e k sound exact o = word_read_by read _
    (subst (λ z. unwrap_or z 0 < 2 ^ 32) (sym (o.plain refl).last_returned)
    (held_small w.last_returned u.last_returned sound.last_returned exact.last_returned))
other_word w n u answers DpOtherRead read x e k sound exact o = word_read_by read _ (omega arith)
other_word w n u answers AbortWrite read x e k sound exact o = unread_by read _ (writes_by read e)
other_word w n u answers CtrlStatWrite read x e k sound exact o = unread_by read _ (writes_by read e)
other_word w n u answers SelectWrite read x e k sound exact o = unread_by read _ (writes_by read e)
other_word w n u answers DpIgnoredWrite read x e k sound exact o = unread_by read _ (writes_by read e)
other_word w n u answers CswWrite read x e k sound exact o = unread_by read _ (writes_by read e)
other_word w n u answers TarWrite read x e k sound exact o = unread_by read _ (writes_by read e)
other_word w n u answers DrwWrite read x e k sound exact o = unread_by read _ (writes_by read e)
other_word w n u answers ApOtherWrite read x e k sound exact o = unread_by read _ (writes_by read e)
other_word w n u answers r read x e k sound exact o = absurd (let f : true ≡ false = k.unposted in cc)

lost_other : (n : ℕ) (q : Request) (r : Register) (w : World) → w.awaits ≡ not q.read
    → is_write_register r ≡ not q.read → IsLostOther r → LostTo n q r w w
lost_other n q r w idle writes k = record {
  awaits = idle;
  sound = λ sound. sound;
  each = λ sound v exact. record {
    before = v;
    exact = exact;
    choice = checked_choice_plain;
    legal = checked_plain_legal;
    prompt = record { debug = refl; system = refl };
    word = λ answers x o. other_word w n v answers r q.read x writes k sound exact o;
    leads = λ answers x o. other_stays w n v answers r checked_choice_plain x k o;
  };
}

-- ANY REQUEST
-- after OK that wasn't seen, from a world in which it is due
lost_any : (link : CheckedLink) (clean : Bool) (tx : Transaction) (b : World) (r : Register) (seen : ℕ)
    → LinkBase link clean tx b r → clean ≡ false → tx.result ≡ NoAck seen → IsPortNoAck seen
    → link.identification < 2 ^ 32 → WorldsReturnAny link (lost_okayed tx r b) r
lost_any link clean tx b r seen k may is none small =
    let n : ℕ = link.identification in
    let q : Request = tx.request in
    let w : World = lost_okayed tx r b in
    let reaches = λ (next : World) (to : LostTo n q r w next).
    lost_reaches link clean tx b next r seen k may is none to in
    record {
      dpidr = λ e. reaches (world_live w)
          (subst (λ z. LostTo n q z w (world_live w)) (sym e) (lost_dpidr n q w small refl));
      status = λ e debug system d s. reaches (record w { debug = debug; system = system })
          (subst (λ z. LostTo n q z w (record w { debug = debug; system = system })) (sym e)
          (lost_status n q w debug system refl d s));
      posted = λ e. let plain : is_exempt_register r ≡ false = checked_posted_plain r e in
          posted_worlds link w r w.buffer (base_sound tx r b k.sound)
          (world_okayed_pending (is_exempt_register r) q.ap b ∙ k.settled plain)
          (λ next posts. reaches next (lost_posts n q r w next plain refl posts));
      other = λ unposted dpidr status. reaches w (lost_other n q r w refl
          (sym (ap is_write_register k.names) ∙ checked_register_write b q)
          (record { unposted = unposted; dpidr = dpidr; status = status }));
    }

accepted_never : (exempt ap awaits : Bool) (w : World) → exempt ≡ true
    → (record (if exempt then w else world_confirmed ap w) { awaits = awaits })
    ≡ record (world_okayed exempt ap w) { awaits = awaits }
accepted_never true ap awaits w e = refl
accepted_never false ap awaits w e = absurd (cc)

accepted_plain : (exempt ap awaits : Bool) (w : World) → exempt ≡ false
    → (record (if exempt then w else world_confirmed ap w) { awaits = awaits })
    ≡ record (world_okayed exempt ap (world_succeeded w)) { awaits = awaits }
accepted_plain true ap awaits w e = absurd (cc)
accepted_plain false ap awaits w e = refl

okay_lost : (link : CheckedLink) (w : World) (clean : Bool) (tx : Transaction) (seen : ℕ) (exempt : Bool)
    → LinkSteps link clean tx → LinkLeads true link clean tx w → clean ≡ false → tx.result ≡ NoAck seen
    → IsPortNoAck seen → world_due w tx.request ≡ Okay → is_exempt_register (world_register w tx.request) ≡ exempt
    → WorldsReturnAny link
    (world_accepted (not tx.request.read) (world_register w tx.request) tx.request.ap w) (world_register w tx.request)
okay_lost link w clean tx seen true steps leads may is none due e =
    let r : Register = world_register w tx.request in
    subst (λ z. WorldsReturnAny link z r)
    (sym (accepted_never (is_exempt_register r) tx.request.ap (not tx.request.read) w e))
    (lost_any link clean tx w r seen (base_exempt link clean tx w r leads refl e due) may is none steps.word.small)
okay_lost link w clean tx seen false steps leads may is none due e =
    let r : Register = world_register w tx.request in
    subst (λ z. WorldsReturnAny link z r)
    (sym (accepted_plain (is_exempt_register r) tx.request.ap (not tx.request.read) w e))
    (lost_any link clean tx (world_succeeded w) r seen (base_settled link clean tx w r leads refl e due) may is none
    steps.word.small)

-- OK that wasn't seen
pub link_lost_okay : (link : CheckedLink) (w : World) (clean : Bool) (tx : Transaction) (seen : ℕ)
    → LinkSteps link clean tx → LinkLeads true link clean tx w → tx.result ≡ NoAck seen → clean ≡ false
    → WorldsLoseOkay link w tx.request (world_register w tx.request)
link_lost_okay link w clean tx seen steps leads is may due =
    okay_lost link w clean tx seen (is_exempt_register (world_register w tx.request)) steps leads may is
    (tx_no_ack tx.result seen steps.legal is) due refl

-- a request whose acknowledgement wasn't seen
pub link_lost : (link : CheckedLink) (w : World) (clean : Bool) (tx : Transaction) (seen : ℕ)
    → LinkSteps link clean tx → ((okay : Bool) → LinkLeads okay link clean tx w) → tx.result ≡ NoAck seen
    → WorldsLoseSeen link w tx.request (world_register w tx.request) clean seen
link_lost link w clean tx seen steps leads is =
    let r : Register = world_register w tx.request in
    let none : IsPortNoAck seen = tx_no_ack tx.result seen steps.legal is in
    let ended = λ (asked : Port). tx_lost clean tx seen asked is none in
    record {
      quiet = λ due quiet. link_silent link w clean tx Silent seen (mark_silent clean r seen quiet) ended (leads false)
          due;
      lost = λ may. record {
        nothing = link_silent link w clean tx (world_due w tx.request) seen
            (mark_deaf clean r (world_due w tx.request) seen may none) ended (leads false) refl;
        faults = link_faults link w clean tx seen (mark_mute clean r Faults seen may none) ended (leads false);
        okays = λ due. link_lost_okay link w clean tx seen steps (leads true) is may due;
      };
    }

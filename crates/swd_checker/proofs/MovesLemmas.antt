-- What OK and a data phase lead to, from a state in which OK is due.
use Rattle.std.proofs.Common.{◌≡◌, ◌<◌, ◌^◌, ℕ, Bool, true, false, refl, sym, ap, subst, ◌∙◌}
use Rattle.std.specs.Prelude.{Option, None, is_some, if◌then◌else◌, ◌||◌, not}
use Rattle.swd_bits.specs.declared.request.Request.{Request}
use Rattle.swd_bits.specs.declared.request.Reg4.{Reg4}
use Rattle.swd_bits.specs.declared.request.Reg4.TheVariants.{R0, R4, R8, RC}
use Rattle.swd_bits.specs.declared.tx.Tx.{Tx as Transaction}
use Rattle.swd_bits.specs.declared.tx.TxEnd.TheVariants.{Moved}
use Rattle.swd_port.specs.declared.register.Register.{Register}
use Rattle.swd_port.specs.declared.register.Register.TheVariants.{AbortWrite, CtrlStatWrite}
use Rattle.swd_port.specs.declared.register.Register.TheVariants.{SelectWrite}
use Rattle.swd_port.specs.declared.register.Register.TheVariants.{DpIgnoredWrite, CswWrite, TarWrite}
use Rattle.swd_port.specs.declared.register.Register.TheVariants.{DrwWrite, ApOtherWrite}
use Rattle.swd_port.specs.declared.state.Reply.TheVariants.{Okay}
use Rattle.swd_port.specs.Port.{Port, Target, port_register, port_register_where}
use Rattle.swd_port.specs.Choices.{Choice, IsPortChoice}
use Rattle.swd_port.specs.Answers.{is_exempt_register, port_is_answered, is_port_unpowered}
use Rattle.swd_port.specs.Asking.{port_answer, port_reply, port_value_in, port_after_okay, debug_up_after}
use Rattle.swd_port.specs.Asking.{port_after_reply, is_access_port_register}
use Rattle.swd_port.specs.Moving.{port_after_bits, port_arrival_of, port_after_take, port_after_arrival}
use Rattle.swd_observer.proofs.StepLemmas.{observed_ap_power}
use Rattle.swd_checker.specs.Worlds.{World, PowerSeen, world_succeeded, world_failed, is_checked_power_there}
use Rattle.swd_checker.specs.Described.{now}
use Rattle.swd_checker.specs.Steps.{world_register, world_due}
use Rattle.swd_checker.specs.Checked.{CheckedHasMoved}
use Rattle.swd_checker.specs.Exact.{WorldWords, CheckedAnswers, IsWorldExact, IsWorldSound, IsWorldTarget, IsWorldPort}
use Rattle.swd_checker.specs.Reaching.{CheckedLink, LinkLeads, WorldReaches, WorldTransacts}
use Rattle.swd_checker.proofs.DescribedLemmas.{world_success_pends_nothing, world_no_transfer}
use Rattle.swd_checker.proofs.ReadLemmas.{world_now_awaits}
use Rattle.swd_checker.proofs.DueLemmas.{register_now, due_now, by_flags, checked_register_access, world_okay_clear}
use Rattle.swd_checker.proofs.DueLemmas.{register_success, due_success}
use Rattle.swd_checker.proofs.SettleLemmas.{WorldPasses, world_goes_now, world_goes_settled, world_goes_failed}
use Rattle.swd_checker.proofs.SettleLemmas.{world_succeeded_sound, world_failed_sound}
use Rattle.swd_checker.proofs.SettleLemmas.{checked_choice_plain}
use Rattle.swd_checker.proofs.CheckedLemmas.{checked_reply_okay}
use Rattle.swd_checker.proofs.EffectLemmas.{world_target_okays}
use Rattle.swd_checker.proofs.MarkLemmas.{ReadMark, read_moved, WriteMark, write_moved}

-- THE WORLD AFTER OK
-- after OK to a request, where nothing more takes effect, and no write data is awaited
abbrev pub world_okayed : Bool → Bool → World → World
world_okayed exempt ap w =
    record (if exempt then w else record w { debug = if ap then PowerSeen else w.debug }) { awaits = false }

-- a target that answered OK, before what the request does
pub record IsWorldOkayed (m : World) (n : ℕ) (u : WorldWords) (answers : CheckedAnswers) (r : Register) (late : Bool)
    (x : Target) : Type 0 where
  pub exempt : is_exempt_register r ≡ true → IsWorldTarget m n u answers x
  pub plain : is_exempt_register r ≡ false
      → IsWorldTarget m n u answers (record x { debug_up = debug_up_after late r x.debug_up })
  pub settled : is_exempt_register r ≡ false → m.pending ≡ None

idle_target : (w : World) (n : ℕ) (u : WorldWords) (answers : CheckedAnswers) (x : Target)
    → IsWorldTarget w n u answers x → IsWorldTarget (record w { awaits = false }) n u answers x
idle_target w n u answers x h = record {
  now = world_now_awaits w false x h.now;
  debug = h.debug;
  system = h.system;
  tar = h.tar;
  buffer = h.buffer;
  last_returned = h.last_returned;
  identification = h.identification;
  bus = h.bus;
}

okayed_by : (exempt : Bool) (b : World) (n : ℕ) (u : WorldWords) (answers : CheckedAnswers) (r : Register)
    (late ap : Bool) (x : Target) → is_exempt_register r ≡ exempt
    → (is_exempt_register r ≡ false → b.pending ≡ None) → IsWorldTarget b n u answers x
    → (is_exempt_register r ≡ false
    → IsWorldTarget (record b { debug = if ap then PowerSeen else b.debug }) n u answers
    (record x { debug_up = debug_up_after late r x.debug_up }))
    → IsWorldOkayed (world_okayed exempt ap b) n u answers r late x
okayed_by true b n u answers r late ap x e settled h plain = record {
  exempt = λ f. idle_target b n u answers x h;
  plain = λ f. absurd (let g : true ≡ false = sym e ∙ f in cc);
  settled = settled;
}
okayed_by false b n u answers r late ap x e settled h plain = record {
  exempt = λ f. absurd (let g : false ≡ true = sym e ∙ f in cc);
  plain = λ f. idle_target (record b { debug = if ap then PowerSeen else b.debug }) n u answers
      (record x { debug_up = debug_up_after late r x.debug_up }) (plain e);
  settled = settled;
}

-- the words that it has are those before
pub okayed_words : (exempt ap : Bool) (b : World) (u : WorldWords) → IsWorldExact (world_okayed exempt ap b) u
    → IsWorldExact b u
okayed_words true ap b u h = record { tar = h.tar; buffer = h.buffer; last_returned = h.last_returned }
okayed_words false ap b u h = record { tar = h.tar; buffer = h.buffer; last_returned = h.last_returned }

-- the words that it may have are those before
pub world_okayed_sound : (exempt ap : Bool) (b : World) → IsWorldSound b → IsWorldSound (world_okayed exempt ap b)
world_okayed_sound true ap b h = record { tar = h.tar; buffer = h.buffer; last_returned = h.last_returned }
world_okayed_sound false ap b h = record { tar = h.tar; buffer = h.buffer; last_returned = h.last_returned }

-- and what is pending remains so
pub world_okayed_pending : (exempt ap : Bool) (b : World) → (world_okayed exempt ap b).pending ≡ b.pending
world_okayed_pending true ap b = refl
world_okayed_pending false ap b = refl

-- A BASE
-- a world in which OK is due, before the request: what its states lead to is reached
pub record LinkBase (link : CheckedLink) (clean : Bool) (tx : Transaction) (b : World) (r : Register) : Type 0 where
  pub reaches : (next : World) → WorldPasses true clean link.identification tx b next → WorldReaches link next
  pub names : world_register b tx.request ≡ r
  pub due : world_due b tx.request ≡ Okay
  pub settled : is_exempt_register r ≡ false → b.pending ≡ None
  pub sound : IsWorldSound b

-- the target after OK to a request that is due
abbrev pub base_okayed : Transaction → Register → World → World
base_okayed tx r b = world_okayed (is_exempt_register r) tx.request.ap b

-- the transaction from a port that is in a state of the base
pub record BasePort (link : CheckedLink) (clean : Bool) (tx : Transaction) (b : World) (r : Register) (u : WorldWords)
    (answers : CheckedAnswers) (a : Port) : Type 0 where
  pub names : port_register a.target.select tx.request ≡ r
  pub answer : port_answer a.target tx.request ≡ Okay
  pub settled : is_exempt_register r ≡ false → a.target.pending ≡ None
  pub okayed : (late : Bool)
      → IsWorldOkayed (base_okayed tx r b) link.identification u answers r late a.target

-- such a port is one from which the transaction leads on
pub base_port : (link : CheckedLink) (clean : Bool) (tx : Transaction) (b : World) (r : Register) (u : WorldWords)
    (answers : CheckedAnswers) (a : Port) → LinkBase link clean tx b r
    → IsWorldPort b link.identification u answers a → BasePort link clean tx b r u answers a
base_port link clean tx b r u answers a k is =
    let h : IsWorldTarget b link.identification u answers a.target = is.target in
    let q : Request = tx.request in
    let names : port_register a.target.select q ≡ r = register_now b a.target q h.now ∙ k.names in
    let answer : port_answer a.target q ≡ Okay = due_now b a.target q h.now ∙ k.due in
    record {
      names = names;
      answer = answer;
      settled = λ e. world_no_transfer a.target.pending (h.now.pending ∙ k.settled e);
      okayed = λ late. okayed_by (is_exempt_register r) b link.identification u answers r late q.ap a.target refl
          k.settled h (λ e. world_target_okays b link.identification u answers r late q.ap a.target e
          (ap is_access_port_register (sym k.names) ∙ checked_register_access b q)
          (λ access. observed_ap_power q a.target (world_okay_clear b a.target q (now h.now) answer
          (ap is_exempt_register k.names ∙ e)) access) h);
    }

-- a request that is never refused,
pub base_exempt : (link : CheckedLink) (clean : Bool) (tx : Transaction) (w : World) (r : Register)
    → LinkLeads true link clean tx w → world_register w tx.request ≡ r → is_exempt_register r ≡ true
    → world_due w tx.request ≡ Okay → LinkBase link clean tx w r
base_exempt link clean tx w r leads names exempt due = record {
  reaches = λ next h. leads.goes next (world_goes_now true clean link.identification tx w next h);
  names = names;
  due = due;
  settled = λ e. absurd (let f : true ≡ false = sym exempt ∙ e in cc);
  sound = leads.sound;
}

flags_exempt : (a b f g : Bool) → by_flags a b f ≡ Okay → b ≡ true → by_flags a b g ≡ Okay
flags_exempt true true f g e is = refl
flags_exempt false b f g e is = absurd (cc)
flags_exempt true false f g e is = absurd (cc)

-- also once the pending transfer was a bus error,
pub base_failed : (link : CheckedLink) (clean : Bool) (tx : Transaction) (w : World) (r : Register)
    → LinkLeads true link clean tx w → world_register w tx.request ≡ r → is_exempt_register r ≡ true
    → world_due w tx.request ≡ Okay → is_some w.pending ≡ true → LinkBase link clean tx (world_failed w) r
base_failed link clean tx w r leads names exempt due pends = record {
  reaches = λ next h. leads.goes next (world_goes_failed true clean link.identification tx w next pends h);
  names = names;
  due = flags_exempt (port_is_answered w.reset (world_register w tx.request))
      (is_exempt_register (world_register w tx.request)) _
      (true || w.write_error || is_port_unpowered tx.request.ap (is_checked_power_there w.debug)) due
      (ap is_exempt_register names ∙ exempt);
  settled = λ e. absurd (let f : true ≡ false = sym exempt ∙ e in cc);
  sound = world_failed_sound w leads.sound;
}

-- and another request, before which the pending transfer succeeded
pub base_settled : (link : CheckedLink) (clean : Bool) (tx : Transaction) (w : World) (r : Register)
    → LinkLeads true link clean tx w → world_register w tx.request ≡ r → is_exempt_register r ≡ false
    → world_due w tx.request ≡ Okay → LinkBase link clean tx (world_succeeded w) r
base_settled link clean tx w r leads names plain due = record {
  reaches = λ next h. leads.goes next (world_goes_settled true clean link.identification tx w next h);
  names = register_success w w.pending tx.request ∙ names;
  due = due_success w w.pending tx.request ∙ due;
  settled = λ e. world_success_pends_nothing w.pending w refl;
  sound = world_succeeded_sound w leads.sound;
}

-- READS
-- A read that showed this word, from a world after OK: for each of the words after it, those before it, the choice of
-- the target, and the mark.
pub record ReadFrom (n : ℕ) (clean ok : Bool) (word : ℕ) (r : Register) (m next : World) (v : WorldWords) : Type 0 where
  pub before : WorldWords
  pub exact : IsWorldExact m before
  pub choice : Choice
  pub legal : IsPortChoice choice
  pub value : ℕ
  pub mark : ReadMark clean ok word r choice value
  pub returns : (answers : CheckedAnswers) (x : Target) → IsWorldOkayed m n before answers r choice.debug_late x
      → port_value_in choice r x ≡ value
  pub leads : (answers : CheckedAnswers) (x : Target) → IsWorldOkayed m n before answers r choice.debug_late x
      → IsWorldTarget next n v answers (port_after_okay choice r x)

pub record ReadsTo (n : ℕ) (clean ok : Bool) (word : ℕ) (r : Register) (m next : World) : Type 0 where
  pub awaits : next.awaits ≡ m.awaits
  pub sound : IsWorldSound m → IsWorldSound next
  pub each : IsWorldSound m → (v : WorldWords) → IsWorldExact next v → ReadFrom n clean ok word r m next v

moved_shows : (clean : Bool) (tx : Transaction) (word : ℕ) (ok : Bool) (s t : Port)
    → tx.result ≡ Moved word ok → CheckedHasMoved clean tx.request word ok s t
    → WorldTransacts true clean tx.result tx.request s t
moved_shows clean tx word ok s t is h = subst (λ z. WorldTransacts true clean z tx.request s t) (sym is) (
  h,
  λ e. checked_reply_okay h.asks.mark (port_reply h.asks.mark h.asks.before.target tx.request) h.asks.asks.sees,
)

-- what a read leads to is reached
pub read_reaches : (link : CheckedLink) (clean : Bool) (tx : Transaction) (b next : World) (r : Register) (word : ℕ)
    (ok : Bool) → LinkBase link clean tx b r → tx.request.read ≡ true → tx.result ≡ Moved word ok → word < 2 ^ 32
    → ReadsTo link.identification clean ok word r (base_okayed tx r b) next → WorldReaches link next
read_reaches link clean tx b next r word ok k read is small reads = k.reaches next (record {
  sound = λ sound. reads.sound (world_okayed_sound (is_exempt_register r) tx.request.ap b sound);
  each = λ sound v exact.
      let f = reads.each (world_okayed_sound (is_exempt_register r) tx.request.ap b sound) v exact in (
        f.before,
        okayed_words (is_exempt_register r) tx.request.ap b f.before f.exact,
        λ answers a at.
            let p : BasePort link clean tx b r f.before answers a =
            base_port link clean tx b r f.before answers a k at in
            let t : Port = port_after_take (port_after_reply f.mark.mark Okay r tx.request f.choice a) in
            let o : IsWorldOkayed (base_okayed tx r b) link.identification f.before answers r f.choice.debug_late
            a.target = p.okayed f.choice.debug_late in (
              t,
              λ s completes. moved_shows clean tx word ok s t is (read_moved clean ok word f.choice f.value s a
                  tx.request r f.mark read small f.legal p.names p.answer p.settled (f.returns answers a.target o)
                  completes),
              record { target = f.leads answers a.target o; awaits = sym reads.awaits },
            ),
      );
})

-- WRITES
-- a register that is written
abbrev pub is_write_register : Register → Bool
is_write_register AbortWrite = true
is_write_register CtrlStatWrite = true
is_write_register SelectWrite = true
is_write_register DpIgnoredWrite = true
is_write_register CswWrite = true
is_write_register TarWrite = true
is_write_register DrwWrite = true
is_write_register ApOtherWrite = true
is_write_register r = false

write_by : (ap m b read : Bool) (addr : Reg4)
    → is_write_register (port_register_where m b ap read addr) ≡ not read
write_by true true b true R0 = refl
write_by true true b true R4 = refl
write_by true true b true R8 = refl
write_by true true b true RC = refl
write_by true true b false R0 = refl
write_by true true b false R4 = refl
write_by true true b false R8 = refl
write_by true true b false RC = refl
write_by true false b true addr = refl
write_by true false b false addr = refl
write_by false m b true R0 = refl
write_by false m b false R0 = refl
write_by false m true true R4 = refl
write_by false m false true R4 = refl
write_by false m true false R4 = refl
write_by false m false false R4 = refl
write_by false m b true R8 = refl
write_by false m b false R8 = refl
write_by false m b true RC = refl
write_by false m b false RC = refl

-- a request that writes names such a register, and no other does
pub checked_register_write : (w : World) (q : Request) → is_write_register (world_register w q) ≡ not q.read
checked_register_write w q = write_by q.ap w.mem_ap w.bank0 q.read q.addr

-- OK to a write changes nothing yet, but for debug power, which an access port shows
write_waits : (m : World) (n : ℕ) (u : WorldWords) (answers : CheckedAnswers) (r : Register) (c : Choice) (x : Target)
    → is_write_register r ≡ true → IsWorldOkayed m n u answers r c.debug_late x
    → IsWorldTarget m n u answers (port_after_okay c r x)
write_waits m n u answers AbortWrite c x e o = o.exempt refl
write_waits m n u answers CtrlStatWrite c x e o = o.plain refl
write_waits m n u answers SelectWrite c x e o = o.plain refl
write_waits m n u answers DpIgnoredWrite c x e o = o.plain refl
write_waits m n u answers CswWrite c x e o = o.plain refl
write_waits m n u answers TarWrite c x e o = o.plain refl
write_waits m n u answers DrwWrite c x e o = o.plain refl
write_waits m n u answers ApOtherWrite c x e o = o.plain refl
write_waits m n u answers r c x e o = absurd (cc)

-- A write of which this arrived, or nothing with right parity: for each of the words after it, those before it, and
-- whether a register elsewhere refuses it.
pub record WriteFrom (n : ℕ) (r : Register) (found : Option ℕ) (m next : World) (v : WorldWords) : Type 0 where
  pub before : WorldWords
  pub exact : IsWorldExact m before
  pub refuses : Bool
  pub leads : (answers : CheckedAnswers) (x : Target) → IsWorldTarget m n before answers x
      → IsWorldTarget next n v answers (port_after_bits refuses (port_arrival_of r found) x)

pub record WritesTo (n : ℕ) (r : Register) (found : Option ℕ) (m next : World) : Type 0 where
  pub awaits : next.awaits ≡ m.awaits
  pub sound : IsWorldSound m → IsWorldSound next
  pub each : IsWorldSound m → (v : WorldWords) → IsWorldExact next v → WriteFrom n r found m next v

-- what a write leads to is reached
pub write_reaches : (link : CheckedLink) (clean : Bool) (tx : Transaction) (b next : World) (r : Register) (word : ℕ)
    (ok : Bool) (found : Option ℕ) → LinkBase link clean tx b r → tx.request.read ≡ false
    → tx.result ≡ Moved word ok → word < 2 ^ 32 → WriteMark clean ok word r found
    → WritesTo link.identification r found (base_okayed tx r b) next → WorldReaches link next
write_reaches link clean tx b next r word ok found k write is small mark writes = k.reaches next (record {
  sound = λ sound. writes.sound (world_okayed_sound (is_exempt_register r) tx.request.ap b sound);
  each = λ sound v exact.
      let f = writes.each (world_okayed_sound (is_exempt_register r) tx.request.ap b sound) v exact in
      let named : is_write_register r ≡ true = sym (ap is_write_register k.names)
      ∙ checked_register_write b tx.request ∙ ap not write in (
        f.before,
        okayed_words (is_exempt_register r) tx.request.ap b f.before f.exact,
        λ answers a at.
            let p : BasePort link clean tx b r f.before answers a =
            base_port link clean tx b r f.before answers a k at in
            let t : Port = port_after_arrival f.refuses (port_arrival_of r found)
            (port_after_reply mark.mark Okay r tx.request checked_choice_plain a) in (
              t,
              λ s completes. moved_shows clean tx word ok s t is (write_moved clean ok word found f.refuses s a
                  tx.request r mark write small p.names p.answer p.settled completes),
              record {
                target = f.leads answers (port_after_okay checked_choice_plain r a.target)
                    (write_waits (base_okayed tx r b) link.identification f.before answers r checked_choice_plain
                    a.target named (p.okayed false));
                awaits = sym writes.awaits;
              },
            ),
      );
})

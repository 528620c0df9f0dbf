-- Facts of a target that a transaction, or ones and zeros, keep.
use Rattle.std.proofs.Common.{◌≡◌, ℕ, Bool, true, false, refl, sym, subst, ◌∙◌}
use Rattle.std.specs.Prelude.{Option}
use Rattle.swd_bits.specs.declared.request.Request.{Request}
use Rattle.swd_bits.specs.declared.tx.TxEnd.{TxEnd}
use Rattle.swd_bits.specs.declared.tx.TxEnd.TheVariants.{Moved, Wait, Fault, NoAck}
use Rattle.swd_bits.specs.Phases.{data_phase_word}
use Rattle.swd_port.specs.declared.register.Register.{Register}
use Rattle.swd_port.specs.declared.state.Reply.{Reply}
use Rattle.swd_port.specs.declared.state.AfterAck.TheVariants.{Awaits}
use Rattle.swd_port.specs.Port.{Port, Target, port_register}
use Rattle.swd_port.specs.Choices.{Choice, port_flip_of}
use Rattle.swd_port.specs.Choices.{port_flipped}
use Rattle.swd_port.specs.Asking.{port_reply, port_target_after, port_after_wait, port_after_fault}
use Rattle.swd_port.specs.Completion.{PortCompletes, port_completion}
use Rattle.swd_port.specs.Moving.{PortTakes, PortGives, PortPasses, port_arrival, port_arrival_of, port_after_bits}
use Rattle.swd_port.proofs.CompletionLaws.{port_completion_keeps_fact}
use Rattle.swd_checker.specs.Checked.{CheckedAsks, CheckedHasMoved, WasCheckedRefused, CheckedTransactsKept}
use Rattle.swd_checker.specs.Checked.{checked_phase}
use Rattle.swd_checker.proofs.CheckedLemmas.{checked_okay_seen, checked_wait_seen, checked_fault_seen}
use Rattle.swd_checker.proofs.TransactLemmas.{phase_written, takes, gives, line_later}

abbrev pub FactCompletes : (Target → Type 0) → Type 0
FactCompletes P = (c : Choice) (x : Target) → P x → P (port_completion c x)

-- WAIT AND FAULT
pub passed_keeps : (P : Target → Type 0) (asked t : Port) → FactCompletes P → PortPasses asked t → P asked.target
    → P t.target
passed_keeps P asked t keeps (a, b, first, passes, last) h =
    port_completion_keeps_fact P keeps b t last
    (subst (λ p. P p.target) (sym passes.after) (port_completion_keeps_fact P keeps asked a first h))

-- what WAIT keeps
pub waited_keeps : (P : Target → Type 0) (clean : Bool) (q : Request) (s t : Port) → FactCompletes P
    → ((r : Register) (x : Target) → P x → P (port_after_wait r x)) → WasCheckedRefused clean q 2 s t → P s.target
    → P t.target
waited_keeps P clean q s t keeps waits h first =
    let x : P h.asks.before.target = port_completion_keeps_fact P keeps s h.asks.before h.asks.completes first in
    let k = checked_wait_seen clean s q h.asked (port_register h.asks.before.target.select q) h.asks refl in
    passed_keeps P h.asked t keeps h.passes (port_completion_keeps_fact P keeps h.asks.after h.asked h.asks.then
    (subst P (sym k.target) (waits (port_register h.asks.before.target.select q) h.asks.before.target x)))

-- what FAULT keeps
pub faulted_keeps : (P : Target → Type 0) (clean : Bool) (q : Request) (s t : Port) → FactCompletes P
    → ((r : Register) (x : Target) → P x → P (port_after_fault r q.ap x)) → WasCheckedRefused clean q 4 s t
    → P s.target → P t.target
faulted_keeps P clean q s t keeps faults h first =
    let x : P h.asks.before.target = port_completion_keeps_fact P keeps s h.asks.before h.asks.completes first in
    let k = checked_fault_seen clean s q h.asked (port_register h.asks.before.target.select q) h.asks refl in
    passed_keeps P h.asked t keeps h.passes (port_completion_keeps_fact P keeps h.asks.after h.asked h.asks.then
    (subst P (sym k.target) (faults (port_register h.asks.before.target.select q) h.asks.before.target x)))

-- DATA PHASES
pub taken_keeps : (P : Target → Type 0) (asked t : Port) (bits : ℕ) → FactCompletes P → PortTakes asked bits t
    → P asked.target → P t.target
taken_keeps P asked t bits keeps (a, b, first, takes, last) h =
    port_completion_keeps_fact P keeps b t last
    (subst (λ p. P p.target) (sym takes.after) (port_completion_keeps_fact P keeps asked a first h))

-- a write's data leads from one fact to another
pub given_leads : (P Q : Target → Type 0) (r : Register) (flip : Option ℕ) (b asked t : Port) (bits : ℕ)
    → FactCompletes P → FactCompletes Q
    → ((refuses : Bool) (x : Target) → P x
    → Q (port_after_bits refuses (port_arrival_of r (data_phase_word (port_flipped flip bits))) x))
    → b.link.line ≡ Awaits r flip → PortCompletes b asked → PortGives asked bits t → P b.target → Q t.target
given_leads P Q r flip b asked t bits keeps stays writes line before (a, d, first, gives, last) h =
    let on : a.link.line ≡ Awaits r flip =
    line_later asked a (Awaits r flip) first (line_later b asked (Awaits r flip) before line) in
    let x : P a.target = port_completion_keeps_fact P keeps asked a first
    (port_completion_keeps_fact P keeps b asked before h) in
    port_completion_keeps_fact Q stays d t last (subst (λ p. Q p.target) (sym gives.after)
    (subst (λ l. Q (port_after_bits gives.refuses (port_arrival l bits) a.target)) (sym on)
    (writes gives.refuses a.target x)))

-- WHOLE TRANSACTIONS
-- a fact that completion, each reply to a request and its data phase keep
pub record KeepsFact (P : Target → Type 0) (R : Register → Type 0) (q : Request) : Type 0 where
  pub completes : FactCompletes P
  pub names : (x : Target) → P x → R (port_register x.select q)
  pub replies : (c : Choice) (a : Reply) (r : Register) (x : Target) → R r → P x → P (port_target_after c a r q.ap x)
  pub writes : (refuses : Bool) (r : Register) (word : Option ℕ) (x : Target) → q.read ≡ false → R r → P x
      → P (port_after_bits refuses (port_arrival_of r word) x)

answered_keeps : (P : Target → Type 0) (R : Register → Type 0) (clean : Bool) (q : Request) (s t : Port) (seen : ℕ)
    (h : CheckedAsks clean s q seen t) → KeepsFact P R q → P s.target → P h.after.target
answered_keeps P R clean q s t seen h keeps first =
    let x : P h.before.target = port_completion_keeps_fact P keeps.completes s h.before h.completes first in
    subst (λ p. P p.target) (sym h.asks.after) (keeps.replies h.choice (port_reply h.mark h.before.target q)
    (port_register h.before.target.select q) h.before.target (keeps.names h.before.target x) x)

asked_keeps : (P : Target → Type 0) (R : Register → Type 0) (clean : Bool) (q : Request) (s t : Port) (seen : ℕ)
    → CheckedAsks clean s q seen t → KeepsFact P R q → P s.target → P t.target
asked_keeps P R clean q s t seen h keeps first = port_completion_keeps_fact P keeps.completes h.after t h.then
    (answered_keeps P R clean q s t seen h keeps first)

refused_keeps : (P : Target → Type 0) (R : Register → Type 0) (clean : Bool) (q : Request) (s t : Port) (seen : ℕ)
    → WasCheckedRefused clean q seen s t → KeepsFact P R q → P s.target → P t.target
refused_keeps P R clean q s t seen h keeps first = passed_keeps P h.asked t keeps.completes h.passes
    (asked_keeps P R clean q s h.asked seen h.asks keeps first)

moved_by : (P : Target → Type 0) (R : Register → Type 0) (clean : Bool) (q : Request) (word : ℕ) (ok : Bool)
    (s t : Port)
    (read : Bool) → q.read ≡ read → CheckedHasMoved clean q word ok s t → KeepsFact P R q → P s.target → P t.target
moved_by P R clean q word ok s t true e h keeps first =
    taken_keeps P h.asked t (checked_phase ok word) keeps.completes
    (takes q.read h.asked t (checked_phase ok word) e h.moves) (asked_keeps P R clean q s h.asked 1 h.asks keeps first)
moved_by P R clean q word ok s t false e h keeps first =
    let r = port_register h.asks.before.target.select q in
    let k = checked_okay_seen clean s q h.asked r h.asks refl in
    let x : P h.asks.before.target =
    port_completion_keeps_fact P keeps.completes s h.asks.before h.asks.completes first in
    given_leads P P r (port_flip_of h.asks.mark) h.asks.after h.asked t (checked_phase ok word) keeps.completes
    keeps.completes
    (λ refuses y z. keeps.writes refuses r _ y e (keeps.names h.asks.before.target x) z)
    (k.line ∙ phase_written q.read r (port_flip_of h.asks.mark) _ e) h.asks.then
    (gives q.read h.asked t (checked_phase ok word) e h.moves)
    (answered_keeps P R clean q s h.asked 1 h.asks keeps first)

-- what a transaction keeps before which no write is given up
pub transact_keeps : (P : Target → Type 0) (R : Register → Type 0) (clean : Bool) (q : Request) (end : TxEnd)
    (s t : Port) → KeepsFact P R q → CheckedTransactsKept clean end q s t → P s.target → P t.target
transact_keeps P R clean q (Moved word ok) s t keeps h first =
    moved_by P R clean q word ok s t q.read refl h keeps first
transact_keeps P R clean q Wait s t keeps h first = refused_keeps P R clean q s t 2 h keeps first
transact_keeps P R clean q Fault s t keeps h first = refused_keeps P R clean q s t 4 h keeps first
transact_keeps P R clean q (NoAck seen) s t keeps h first = asked_keeps P R clean q s t seen h.asks keeps first

-- A write that is given up before a request, and the request after it, are a step of the port machine.
use Rattle.std.proofs.Common.{◌≡◌, ◌+◌, ◌&&◌, ℕ, Bool, true, false, refl, sym, ap, subst, ◌∙◌, inl, inr, arith}
use Rattle.std.specs.Prelude.{None, if◌then◌else◌, not as no}
use Rattle.swd_bits.specs.declared.request.Request.{Request}
use Rattle.swd_port.specs.declared.mark.Mark.{Mark}
use Rattle.swd_port.specs.declared.register.Register.{Register}
use Rattle.swd_port.specs.declared.state.Reset.{Reset}
use Rattle.swd_port.specs.declared.state.Reply.TheVariants.{Okay}
use Rattle.swd_port.specs.Port.{Port, PortLink, PortTally, Target as State, port_register, port_idle_link}
use Rattle.swd_port.specs.Choices.{is_port_deaf, port_disturbs}
use Rattle.swd_port.specs.Answers.{is_exempt_register, port_is_answered, port_reply_under, port_answer_by}
use Rattle.swd_port.specs.Answers.{is_port_unpowered}
use Rattle.swd_port.specs.Asking.{PortAsks, PortAsksNow, PortKeepsOrGivesUp, is_pending_write}
use Rattle.swd_port.specs.Asking.{port_tally_after, port_has_power}
use Rattle.swd_port.specs.Moving.{PortGives}
use Rattle.swd_port.proofs.CompletionLaws.{no_pending_same}
use Rattle.swd_target.specs.Requests.{target_port_at, TargetAsksUnder}
use Rattle.swd_target.specs.Giving.{is_giving_up_at, is_giving_up, state_without_write, tally_given}
use Rattle.swd_target.specs.Buffered.{tally_giving, port_giving}
use Rattle.swd_target.proofs.AskLemmas.{simulated_asks_lawful}

first_set : (a b : Bool) → (a && b) ≡ true → a ≡ true
first_set true b e = refl
first_set false b e = absurd (cc)

second_set : (a b : Bool) → (a && b) ≡ true → b ≡ true
second_set true b e = e
second_set false b e = absurd (cc)

not_set : (a : Bool) → no a ≡ true → a ≡ false
not_set false e = refl
not_set true e = absurd (cc)

-- a request that can't wait is answered OK, where the target sees it and answers
exempt_okay : (mark : Mark) (r : Register) (reset : Reset) (sticky write unpowered : Bool) → is_port_deaf mark ≡ false
    → is_exempt_register r ≡ true → port_is_answered reset r ≡ true
    → port_reply_under mark r (port_answer_by reset sticky write unpowered r) ≡ Okay
exempt_okay mark r reset sticky write unpowered hears exempt answers = grind arith

-- the pending write is given up before a request of which the target says so
target_gives_up : (mark : Mark) (q : Request) (l : PortLink) (n : PortTally) (s t : State)
    → is_giving_up mark q s ≡ true → t ≡ state_without_write s
    → PortKeepsOrGivesUp mark q (target_port_at l n s) (target_port_at l (tally_given true n) t)
target_gives_up mark q l n s t gives after =
    let r = port_register s.select q in
    let hears : is_port_deaf mark ≡ false = not_set (is_port_deaf mark) (first_set _ _ gives) in
    let at : is_giving_up_at r s ≡ true = second_set (no (is_port_deaf mark)) _ gives in
    let both = second_set (is_pending_write s.pending) _ at in
    inr (record {
      exempt = first_set _ _ both;
      seen = exempt_okay mark r s.reset s.sticky_error s.write_error (is_port_unpowered q.ap (port_has_power s)) hears
          (first_set _ _ both) (second_set (is_exempt_register r) _ both);
      write = first_set _ _ at;
      after = ap (target_port_at l (tally_given true n)) after;
    })

-- a target keeps the pending write, or gives it up where it says so
pub target_keeps_or_gives_up : (gave : Bool) (mark : Mark) (q : Request) (l : PortLink) (n : PortTally) (s t : State)
    → gave ≡ is_giving_up mark q s → t ≡ (if gave then state_without_write s else s)
    → PortKeepsOrGivesUp mark q (target_port_at l n s) (target_port_at l (tally_given gave n) t)
target_keeps_or_gives_up true mark q l n s t gives after = target_gives_up mark q l n s t (sym gives) after
target_keeps_or_gives_up false mark q l n s t gives after = inl (ap (target_port_at l n) after)

-- a request after what was given up before it is a step of the port machine
pub asks_after_giving : (mark : Mark) (q : Request) (seen : ℕ) (s d t : Port) → PortKeepsOrGivesUp mark q s d
    → TargetAsksUnder mark d q seen t → PortAsks s q seen t
asks_after_giving mark q seen s d t (inl e) h =
    simulated_asks_lawful mark s q seen t (subst (λ (p : Port). TargetAsksUnder mark p q seen t) e h)
asks_after_giving mark q seen s d t (inr gave) (a, b, c, before, now, later) =
    let none : d.target.pending ≡ None = ap (λ (p : Port). p.target.pending) gave.after in
    let same : a ≡ d = no_pending_same d a none before in
    (s, d, b, mark, c, inl refl, inr gave, subst (λ (p : Port). PortAsksNow mark c p q seen b) same now, later)

-- the counts of requests with one more write that was given up
pub tally_given_more : (gave : Bool) (g h : ℕ) (n : PortTally) → h ≡ (if gave then g + 1 else g)
    → tally_given gave (tally_giving g n) ≡ tally_giving h n
tally_given_more true g h n e =
    ap (λ d. record n { disturbed = d }) (let sum : n.disturbed + g + 1 ≡ n.disturbed + h = omega arith in sum)
tally_given_more false g h n e = ap (λ x. record n { disturbed = n.disturbed + x }) (sym e)

-- a request after writes that were given up is counted as it is without
pub tally_giving_after : (mark : Mark) (g : ℕ) (n : PortTally)
    → port_tally_after mark (tally_giving g n) ≡ tally_giving g (port_tally_after mark n)
tally_giving_after mark g n = ap (λ d. record (port_tally_after mark n) { disturbed = d })
    (let sum : n.disturbed + g + port_disturbs mark ≡ n.disturbed + port_disturbs mark + g = omega arith in sum)

-- what a bench gives up before a request, with the writes that were given up before counted
pub gives_buffered : (mark : Mark) (q : Request) (gave : Bool) (g h : ℕ) (s t : Port)
    → ((n : PortTally) → PortKeepsOrGivesUp mark q (target_port_at s.link n s.target)
    (target_port_at s.link (tally_given gave n) t.target))
    → t.link ≡ s.link → t.tally ≡ s.tally → h ≡ (if gave then g + 1 else g)
    → PortKeepsOrGivesUp mark q (port_giving g s) (port_giving h t)
gives_buffered mark q gave g h s t gives link tally count =
    let counted : tally_given gave (tally_giving g s.tally) ≡ tally_giving h t.tally =
    tally_given_more gave g h s.tally count ∙ ap (tally_giving h) (sym tally) in
    let same : target_port_at s.link (tally_given gave (tally_giving g s.tally)) t.target ≡ port_giving h t =
    ap (λ n. target_port_at s.link n t.target) counted
    ∙ ap (λ l. target_port_at l (tally_giving h t.tally) t.target) (sym link) in
    subst (PortKeepsOrGivesUp mark q (port_giving g s)) same (gives (tally_giving g s.tally))

-- a request of a bench after that, with the writes that were given up counted
pub asks_buffered : (mark next : Mark) (q : Request) (seen g : ℕ) (s d t : Port)
    → PortKeepsOrGivesUp mark q s (port_giving g d) → next ≡ mark
    → ((n : PortTally) → TargetAsksUnder next (target_port_at d.link n d.target) q seen
    (target_port_at t.link (port_tally_after next n) t.target))
    → t.tally ≡ port_tally_after next d.tally → PortAsks s q seen (port_giving g t)
asks_buffered mark next q seen g s d t gives same asks tally =
    let counted : port_tally_after next (tally_giving g d.tally) ≡ tally_giving g t.tally =
    tally_giving_after next g d.tally ∙ ap (tally_giving g) (sym tally) in
    let asked : TargetAsksUnder next (port_giving g d) q seen (port_giving g t) =
    subst (λ n. TargetAsksUnder next (port_giving g d) q seen (target_port_at t.link n t.target)) counted
    (asks (tally_giving g d.tally)) in
    asks_after_giving mark q seen s (port_giving g d) (port_giving g t) gives
    (subst (λ m. TargetAsksUnder m (port_giving g d) q seen (port_giving g t)) same asked)

-- the data of a write at a bench, with the writes that were given up counted
pub gives_data_buffered : (g sent : ℕ) (s t : Port)
    → ((n : PortTally) → PortGives (target_port_at s.link n s.target) sent (target_port_at port_idle_link n t.target))
    → t.link ≡ port_idle_link → t.tally ≡ s.tally → PortGives (port_giving g s) sent (port_giving g t)
gives_data_buffered g sent s t gives link tally =
    let same : target_port_at port_idle_link (tally_giving g s.tally) t.target ≡ port_giving g t =
    ap (λ n. target_port_at port_idle_link (tally_giving g n) t.target) (sym tally)
    ∙ ap (λ l. target_port_at l (tally_giving g t.tally) t.target) (sym link) in
    subst (PortGives (port_giving g s) sent) same (gives (tally_giving g s.tally))

-- A run of the port model that an observer knows is one that items show.
use Rattle.std.proofs.Common.{◌≡◌, ◌%◌, ◌^◌, ℕ, Bool, zero, suc, true, false, refl, sym, ap, subst, ◌∙◌, arith}
use Rattle.std.proofs.Common.{◌⊎◌, inl, inr}
use Rattle.std.proofs.Common.{List, [], ◌∷◌}
use Rattle.std.specs.Prelude.{bit_xor, if◌then◌else◌, not}
use Rattle.swd_bits.specs.declared.request.Request.{Request}
use Rattle.swd_bits.specs.declared.tx.TxEnd.{TxEnd}
use Rattle.swd_bits.specs.declared.tx.TxEnd.TheVariants.{Moved, Wait, Fault, NoAck}
use Rattle.swd_bits.proofs.PhaseLemmas.{data_phase_of_found_word}
use Rattle.swd_trace.specs.declared.item.Item.{Item}
use Rattle.swd_trace.specs.declared.item.Item.TheVariants.{Reset, Idle, Tx}
use Rattle.swd_port.specs.declared.mark.Mark.{Mark}
use Rattle.swd_port.specs.declared.state.Reply.TheVariants.{Okay, Faults, Silent}
use Rattle.swd_port.specs.Port.{Port, port_register}
use Rattle.swd_port.specs.Choices.{Choice}
use Rattle.swd_port.specs.Answers.{is_exempt_register, port_is_answered, port_reply_under}
use Rattle.swd_port.specs.Asking.{PortAsks, PortAsksNow, PortGivesUp, port_reply, port_without_write, is_pending_write}
use Rattle.swd_port.specs.Completion.{PortCompletes}
use Rattle.swd_port.specs.GivingUp.{PortGaveUp}
use Rattle.swd_port.specs.Leading.{PortLeads}
use Rattle.swd_observer.specs.Runs.{ObservedEvent, Moves, Lifts, ObservedRuns}
use Rattle.swd_observer.specs.Transacts.{ObservedMoves, ObservedHasMoved, ObservedTransacts}
use Rattle.swd_checker.specs.Checked.{CheckedAsks, CheckedTransacts, CheckedTransactsKept, IsCheckedOkay}
use Rattle.swd_checker.specs.Shown.{IsEndShown, IsLeadShown, AreEventsShown, ObservedRunsAreShown}
use Rattle.swd_checker.specs.Standing.{CheckedRuns, CheckedShows, checked_gap_at, checked_gap_after}
use Rattle.swd_checker.specs.Standing.{checked_stray_after}
use Rattle.swd_checker.proofs.PhaseLemmas.{phase_of_wrong_parity}

-- a request, before which a write was given up, or none
abbrev ShownAsks : Port → Request → ℕ → Port → Type 0
ShownAsks s q seen t = CheckedAsks false s q seen t
    ⊎ ((d : Port) × PortGaveUp q s d × (k : CheckedAsks false d q seen t)
    × (port_reply k.mark k.before.target q ≡ Okay))

answer_exempt : (a b f g : Bool) → b ≡ true
    → (if not a then Silent else if b then Okay else if f then Faults else Okay)
    ≡ (if not a then Silent else if b then Okay else if g then Faults else Okay)
answer_exempt false b f g e = refl
answer_exempt true true f g e = refl
answer_exempt true false f g e = absurd (cc)

-- a target answers an exempt request alike, whatever its flags
reply_without_write : (mark : Mark) (s : Port) (q : Request)
    → is_exempt_register (port_register s.target.select q) ≡ true
    → port_reply mark (port_without_write s).target q ≡ port_reply mark s.target q
reply_without_write mark s q exempt = let r = port_register s.target.select q in
    ap (port_reply_under mark r) (answer_exempt (port_is_answered s.target.reset r) (is_exempt_register r) _ _ exempt)

asks_kept : (mark : Mark) (c : Choice) (q : Request) (seen : ℕ) (s a b t : Port) → PortCompletes s a
    → PortAsksNow mark c a q seen b → PortCompletes b t → CheckedAsks false s q seen t
asks_kept mark c q seen s a b t before asks later = record {
  before = a;
  after = b;
  mark = mark;
  choice = c;
  undamaged = λ e. absurd (cc);
  completes = before;
  asks = asks;
  then = later;
}

asks_given : (mark : Mark) (c : Choice) (q : Request) (seen : ℕ) (s d b t : Port) → PortGivesUp mark q s d
    → PortAsksNow mark c d q seen b → PortCompletes b t → ShownAsks s q seen t
unfolding asks_kept
asks_given mark c q seen s d b t g asks later = inr (
  d,
  record { exempt = g.exempt; write = g.write; after = g.after },
  asks_kept mark c q seen d d b t (inl refl) asks later,
  ap (λ (p : Port). port_reply mark p.target q) g.after ∙ reply_without_write mark s q g.exempt ∙ g.seen,
)

shown_asks : (s t : Port) (q : Request) (seen : ℕ) → PortAsks s q seen t → ShownAsks s q seen t
shown_asks s t q seen (a, d, b, mark, c, before, inl e, asks, later) =
    inl (asks_kept mark c q seen s a b t before (subst (λ p. PortAsksNow mark c p q seen b) e asks) later)
shown_asks s t q seen (a, d, b, mark, c, inl e, inr g, asks, later) =
    asks_given mark c q seen s d b t (subst (λ p. PortGivesUp mark q p d) e g) asks later
shown_asks s t q seen (a, d, b, mark, c, inr done, inr g, asks, later) =
    absurd (let none : is_pending_write a.target.pending ≡ false = ap (λ p. is_pending_write p.target.pending) done.2 in
    let write : is_pending_write a.target.pending ≡ true = g.write in cc)

-- what it is a part of
shown_by : (end : TxEnd) (q : Request) (seen : ℕ) (s asked t : Port)
    → (make : (p : Port) → CheckedAsks false p q seen asked → CheckedTransactsKept false end q p t)
    → ((p : Port) (k : CheckedAsks false p q seen asked) → port_reply k.mark k.before.target q ≡ Okay
    → IsCheckedOkay false end q p t (make p k)) → ShownAsks s q seen asked → CheckedTransacts false end q s t
shown_by end q seen s asked t make okay (inl k) = inl (make s k)
shown_by end q seen s asked t make okay (inr (d, gives, k, e)) =
    inr (record { given = d; gives = gives; transacts = make d k; okay = okay d k e })

shown_whole : (q : Request) (word : ℕ) (s t : Port) → ObservedHasMoved q word true s t
    → CheckedTransacts false (Moved word true) q s t
shown_whole q word s t h = shown_by (Moved word true) q 1 s h.asked t (λ p k. record {
  asked = h.asked;
  asks = k;
  small = h.small;
  moves = subst (λ bits. ObservedMoves q.read h.asked bits t) (data_phase_of_found_word h.bits word h.range h.carries)
      h.moves;
}) (λ p k e. e) (shown_asks s h.asked q 1 h.asks)

shown_wrong : (q : Request) (word : ℕ) (s t : Port) → ObservedHasMoved q word false s t
    → (seen : ℕ) × CheckedTransacts false (Moved seen false) q s t
shown_wrong q word s t h =
    let seen : ℕ = bit_xor h.bits (2 ^ 32) % 2 ^ 32 in (
      seen,
      shown_by (Moved seen false) q 1 s h.asked t (λ p k. record {
        asked = h.asked;
        asks = k;
        small = omega arith;
        moves = subst (λ bits. ObservedMoves q.read h.asked bits t) (phase_of_wrong_parity h.bits h.range h.carries)
            h.moves;
      }) (λ p k e. e) (shown_asks s h.asked q 1 h.asks),
    )

-- a transaction
shown_end : (end : TxEnd) (q : Request) (s t : Port) → ObservedTransacts end q s t
    → (shown : TxEnd) × IsEndShown end shown × CheckedTransacts false shown q s t
shown_end (Moved word true) q s t h = (Moved word true, refl, shown_whole q word s t h)
shown_end (Moved word false) q s t h =
    let r = shown_wrong q word s t h in (Moved r.0 false, (r.0, refl), r.1)
shown_end Wait q s t h = (
  Wait,
  refl,
  shown_by Wait q 2 s h.asked t
      (λ p k. record { asked = h.asked; asks = k; passes = h.passes }) (λ p k e. e) (shown_asks s h.asked q 2 h.asks),
)
shown_end Fault q s t h = (
  Fault,
  refl,
  shown_by Fault q 4 s h.asked t
      (λ p k. record { asked = h.asked; asks = k; passes = h.passes }) (λ p k e. e) (shown_asks s h.asked q 4 h.asks),
)
shown_end (NoAck seen) q s t h = (
  NoAck seen,
  refl,
  shown_by (NoAck seen) q seen s t t
      (λ p k. record { none = h.none; asks = k }) (λ p k e. e) (shown_asks s t q seen h.asks),
)

-- ones or zeros
record LeadShown (ones stray : ℕ) (s t : Port) : Type 0 where
  item : Item
  shown : IsLeadShown ones item
  shows : CheckedShows false (checked_gap_at stray false) item s t
  later : ℕ
  gap : checked_gap_after item (checked_gap_at stray false) ≡ checked_gap_at later false

shown_lead : (ones stray : ℕ) (s t : Port) → PortLeads s ones t → LeadShown ones stray s t
shown_lead zero stray s t h =
    record { item = Idle 1; shown = (1, refl); shows = h; later = stray; gap = refl }
shown_lead (suc ones) stray s t h = record {
  item = Reset (suc ones);
  shown = refl;
  shows = (suc ones, λ e. absurd (cc), h);
  later = 0;
  gap = refl;
}

shown_from : (events : List ObservedEvent) (stray : ℕ) (s t : Port) → ObservedRuns events s t
    → (items : List Item) × AreEventsShown events items × CheckedRuns false (checked_gap_at stray false) items s t
shown_from [] stray s t h = ([], refl, h)
shown_from (Moves tx place ∷ events) stray s t (m, moved, rest) =
    let r = shown_end tx.result tx.request s m moved in
    let item : Item = Tx (record { request = tx.request; result = r.0 }) in
    let more = shown_from events (checked_stray_after r.0) m t rest in
    (item ∷ more.0, (item, more.0, refl, (r.0, r.1, refl), more.1), (m, r.2, more.2))
shown_from (Lifts ones ∷ events) stray s t (m, leads, rest) =
    let r : LeadShown ones stray s m = shown_lead ones stray s m leads in
    let more = shown_from events r.later m t rest in (
      r.item ∷ more.0,
      (r.item, more.0, refl, r.shown, more.1),
      (m, r.shows, subst (λ g. CheckedRuns false g more.0 m t) (sym r.gap) more.2),
    )

-- for `laws::runs`
pub observed_runs_are_shown : ObservedRunsAreShown
observed_runs_are_shown events s t h = shown_from events 0 s t h

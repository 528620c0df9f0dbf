-- What a checker holds of a state, item by item.
use Rattle.std.proofs.Common.{◌≡◌, ◌≢◌, ◌<◌, ◌-◌, ℕ, Bool, true, false, refl, sym, ap, subst, arith, ◌∙◌}
use Rattle.std.proofs.Common.{List, [], ◌∷◌, length}
use Rattle.std.specs.Prelude.{Option, Some, None, is_some, not, ◌==◌}
use Rattle.std.specs.List.{Any}
use Rattle.swd_bits.specs.declared.tx.Tx.{Tx as Transaction}
use Rattle.swd_bits.specs.declared.tx_bits.TxBits.{TxBits}
use Rattle.swd_trace.specs.declared.item.Item.{Item}
use Rattle.swd_trace.specs.declared.item.Item.TheVariants.{Reset, Switch, Idle, Tx, Junk, Cut}
use Rattle.swd_port.specs.Registers.{register_bit}
use Rattle.swd_port.specs.Port.{Port}
use Rattle.swd_port.specs.Leading.{PortLeads, port_line_awaits}
use Rattle.swd_port.specs.Completion.{PortCompletes}
use Rattle.swd_port.proofs.CompletionLaws.{port_kept}
use Rattle.swd_checker.specs.declared.checker.Checker.{Checker}
use Rattle.swd_checker.specs.declared.opening.Opening.{Opening}
use Rattle.swd_checker.specs.declared.opening.Opening.TheVariants.{Anything, Resting, Selected, Over}
use Rattle.swd_checker.specs.declared.worlds.Kept.{Kept}
use Rattle.swd_checker.specs.declared.worlds.Worlds.{Worlds}
use Rattle.swd_checker.specs.Worlds.{World, world_made}
use Rattle.swd_checker.specs.Checked.{CheckedTransacts}
use Rattle.swd_checker.specs.Holding.{KeptDescribes, WorldsHold, WorldsHoldPort}
use Rattle.swd_checker.specs.Laws.{WorldDescribesPort}
use Rattle.swd_checker.specs.Openings.{OpeningHolds, OpeningLeads, WorldsOpen}
use Rattle.swd_checker.specs.Standing.{CheckerHolds, CheckerWatches, CheckerLeaves, CheckerKeeps, CheckerKeepsWorlds}
use Rattle.swd_checker.specs.Standing.{CheckerChecks}
use Rattle.swd_checker.specs.Standing.{CheckerIdentifies, CheckedJunk, CheckedShows, CheckedShowsIn, IsSameTarget}
use Rattle.swd_checker.specs.Standing.{CheckedMade, IsIdentified}
use Rattle.swd_checker.specs.Standing.{CheckedGap}
use Rattle.swd_checker.specs.Standing.{checker_gap, checked_gap_at, checked_gap_after, checked_stray_after}
use Rattle.swd_checker.proofs.AddedLemmas.{WorldIsAdded}
use Rattle.swd_checker.proofs.DescribedLemmas.{world_at_idle}
use Rattle.swd_checker.proofs.HoldingLemmas.{worlds_hold_as}
use Rattle.swd_checker.proofs.IdentifyLemmas.{same_identification}
use Rattle.swd_checker.proofs.OkayLemmas.{world_at_made}
use Rattle.swd_checker.proofs.OpeningLemmas.{opening_led, opening_completes}
use Rattle.swd_checker.proofs.TransactLemmas.{any_more}

-- THE SAME TARGET
same_target_led : (ones : ℕ) (s t : Port) → PortLeads s ones t → IsSameTarget s t
same_target_led ones s t (a, b, first, leads, last) = record {
  identification = (port_kept b t last).identification ∙ ap (λ p. p.target.identification) leads.after
      ∙ (port_kept s a first).identification;
}

same_target_later : (s t : Port) → PortCompletes s t → IsSameTarget s t
same_target_later s t h = record { identification = (port_kept s t h).identification }

-- the same checker, at another state
holds_at : (c : Checker) (s t : Port) → IsSameTarget s t → OpeningHolds c.opening c.worlds t → CheckerHolds c s
    → CheckerHolds c t
holds_at c s t same opened h = record {
  unbroken = h.unbroken;
  odd = subst (λ n. register_bit 0 n ≡ true) (sym same.identification) h.odd;
  identified = subst (IsIdentified c.identification) (sym same.identification) h.identified;
  opened = opened;
  in_gap = h.in_gap;
}

-- whatever an item shows, the target is the same
same_after_junk : (b : Bool) (s t : Port) → CheckedJunk b s t → IsSameTarget s t
same_after_junk true s t h = h
same_after_junk false s t h = same_target_later s t h

same_after_item : (gap clean : Bool) (stray : ℕ) (item : Item) (s t : Port) → CheckedShowsIn gap clean stray item s t
    → IsSameTarget s t
same_after_item true clean stray item s t h = h
same_after_item false clean stray (Tx tx) s t h =
    record { identification = same_identification clean tx.result tx.request s t h }
same_after_item false clean stray (Reset ones) s t (n, some, leads) = same_target_led n s t leads
same_after_item false clean stray (Idle zeros) s t h = same_target_led 0 s t h
same_after_item false clean stray (Junk b) s t h = same_after_junk (stray == 0) s t h
same_after_item false clean stray (Cut bits) s t h = h
same_after_item false clean stray Switch s t h = same_target_later s t h

-- each item leaves the target the same one
pub checked_shows_same : (clean : Bool) (g : CheckedGap) (item : Item) (s t : Port) → CheckedShows clean g item s t
    → IsSameTarget s t
checked_shows_same clean g item s t h = same_after_item g.in_gap clean g.stray item s t h

-- in a gap nothing is known
opened_in_gap : (c : Checker) (s t : Port) → c.in_gap ≡ true → CheckerHolds c s → OpeningHolds c.opening c.worlds t
opened_in_gap c s t gap h = subst (λ o. OpeningHolds o c.worlds t) (sym (h.in_gap gap)) tt

-- a checker in a gap holds what it held
pub checker_holds_in_gap : (c : Checker) (s t : Port) → c.in_gap ≡ true → IsSameTarget s t → CheckerHolds c s →
    CheckerHolds c t
checker_holds_in_gap c s t gap same h = holds_at c s t same (opened_in_gap c s t gap h) h

-- ITEMS THAT SHOW NOTHING
kept_idle : (kept : Kept) (s t : Port) → PortLeads s 0 t → KeptDescribes kept (port_line_awaits s.link.line) s.target
    → KeptDescribes kept (port_line_awaits t.link.line) t.target
kept_idle kept s t h d =
    let p : WorldDescribesPort kept.world t =
    world_at_idle kept.world s t h (record { target = d.target; awaits = d.awaits }) in
    record { awaits = p.awaits; target = p.target }

opened_idle : (opening : Opening) (v : Worlds) (s t : Port) → PortLeads s 0 t → OpeningHolds opening v s
    → OpeningHolds opening v t
opened_idle Over v s t h k = (
  k.0,
  record {
    held = λ f. any_more (λ kept. KeptDescribes kept (port_line_awaits s.link.line) s.target)
        (λ kept. KeptDescribes kept (port_line_awaits t.link.line) t.target) v.kept.items
        (λ kept d. kept_idle kept s t h d) (k.1.held f);
  },
)
opened_idle Anything v s t h k = tt
opened_idle Resting v s t h k = opening_led Resting 0 v v s t (λ e. cc) h k
opened_idle (Selected word) v s t h k = opening_led (Selected word) 0 v v s t (λ e. cc) h k

holds_later : (c : Checker) (s t : Port) → PortCompletes s t → CheckerHolds c s → CheckerHolds c t
holds_later c s t h k =
    holds_at c s t (same_target_later s t h) (opening_completes c.opening c.worlds s t h k.opened) k

-- an item that is none of those that the checker looks at
shows_nothing : (c : Checker) (item : Item) (gap : Bool) (s t : Port) → c.in_gap ≡ gap
    → ((b : Bool) → item ≡ Junk b → ⊥) → ((ones : ℕ) → item ≡ Reset ones → ⊥)
    → ((tx : Transaction) → item ≡ Tx tx → ⊥) → ((bits : TxBits) → item ≡ Cut bits → ⊥) → CheckedShowsIn gap c.clean
    c.stray item s t → CheckerHolds c s
    → CheckerHolds c t
shows_nothing c item true s t gap junk reset tx cut shows h = checker_holds_in_gap c s t gap shows h
shows_nothing c (Junk b) false s t gap junk reset tx cut shows h = absurd (junk b refl)
shows_nothing c (Reset ones) false s t gap junk reset tx cut shows h = absurd (reset ones refl)
shows_nothing c (Tx t1) false s t gap junk reset tx cut shows h = absurd (tx t1 refl)
shows_nothing c (Idle zeros) false s t gap junk reset tx cut shows h =
    holds_at c s t (same_target_led 0 s t shows) (opened_idle c.opening c.worlds s t shows h.opened) h
shows_nothing c Switch false s t gap junk reset tx cut shows h = holds_later c s t shows h
shows_nothing c (Cut bits) false s t gap junk reset tx cut shows h = absurd (cut bits refl)

gap_same : (c : Checker) (item : Item) → ((b : Bool) → item ≡ Junk b → ⊥) → ((ones : ℕ) → item ≡ Reset ones → ⊥)
    → ((tx : Transaction) → item ≡ Tx tx → ⊥) → ((bits : TxBits) → item ≡ Cut bits → ⊥)
    → checker_gap c ≡ checked_gap_after item (checker_gap c)
gap_same c (Junk b) junk reset tx cut = absurd (junk b refl)
gap_same c (Reset ones) junk reset tx cut = absurd (reset ones refl)
gap_same c (Tx t1) junk reset tx cut = absurd (tx t1 refl)
gap_same c (Idle zeros) junk reset tx cut = refl
gap_same c Switch junk reset tx cut = refl
gap_same c (Cut bits) junk reset tx cut = absurd (cut bits refl)

-- an item at which nothing is looked
pub watches_nothing : (c : Checker) (item : Item) → ((b : Bool) → item ≡ Junk b → ⊥)
    → ((ones : ℕ) → item ≡ Reset ones → ⊥) → ((tx : Transaction) → item ≡ Tx tx → ⊥)
    → ((bits : TxBits) → item ≡ Cut bits → ⊥) → CheckerWatches item c c
watches_nothing c item junk reset tx cut = record {
  holds = λ s t shows h. shows_nothing c item c.in_gap s t refl junk reset tx cut shows h;
  wire = refl;
  gap = λ e. gap_same c item junk reset tx cut;
  broken = λ other. refl;
}

-- JUNK
stray_shows : (c : Checker) (b : Bool) (gap : Bool) (s t : Port) → c.in_gap ≡ gap → (c.stray == 0) ≡ false
    → CheckedShowsIn gap c.clean c.stray (Junk b) s t → CheckerHolds c s → CheckerHolds c t
stray_shows c b true s t gap some shows h = checker_holds_in_gap c s t gap shows h
stray_shows c b false s t gap some shows h = holds_later c s t (subst (λ z. CheckedJunk z s t) some shows) h

no_index : (k n : ℕ) → (n == 0) ≡ true → k < n → ⊥
no_index k n e h = grind arith

not_zero : (n : ℕ) → 0 < n → (n == 0) ≡ false
not_zero n h = grind arith

-- a junk bit that may follow a lost acknowledgement
pub watches_stray : (c now : Checker) (b : Bool) → 0 < c.stray → now ≡ (record c { stray = c.stray - 1 })
    → CheckerWatches (Junk b) c now
watches_stray c now b some is =
    let e : (c.stray == 0) ≡ false = not_zero c.stray some in
    subst (CheckerWatches (Junk b) c) (sym is) (record {
      holds = λ s t shows h. let k : CheckerHolds c t = stray_shows c b c.in_gap s t refl e shows h in record {
        unbroken = k.unbroken;
        odd = k.odd;
        identified = k.identified;
        opened = k.opened;
        in_gap = k.in_gap;
      };
      wire = refl;
      gap = λ f. rw e refl;
      broken = λ other. refl;
    })

same_in_gap : (gap zero : Bool) (c : Checker) (b : Bool) (s t : Port) → (c.stray == 0) ≡ zero → zero ≡ true
    → CheckedShowsIn gap c.clean c.stray (Junk b) s t → IsSameTarget s t
same_in_gap true zero c b s t e f shows = shows
same_in_gap false zero c b s t e f shows = subst (λ z. CheckedJunk z s t) (e ∙ f) shows

is_zero : (n : ℕ) → n ≡ 0 → (n == 0) ≡ true
is_zero n e = rw e refl

-- one in a gap
pub watches_in_gap : (c : Checker) (b : Bool) → c.stray ≡ 0 → c.in_gap ≡ true → CheckerWatches (Junk b) c c
watches_in_gap c b none gap = record {
  holds = λ s t shows h. checker_holds_in_gap c s t gap
      (same_in_gap c.in_gap true c b s t (is_zero c.stray none) refl shows) h;
  wire = refl;
  gap = λ e. rw (none, gap) refl;
  broken = λ other. refl;
}

gap_begun : (now : ℕ) (in_gap : Bool) (stray : ℕ) (before : Bool) → now ≡ 0 → in_gap ≡ true → stray ≡ 0
    → checked_gap_at now in_gap ≡ checked_gap_after (Junk true) (checked_gap_at stray before)
gap_begun now in_gap stray before e f g = rw (e, f, g) refl

-- a checker that knows no more of a target than its DPIDR
forgotten_at : (c now : Checker) (s t : Port) → IsSameTarget s t → now.identification ≡ c.identification
    → now.opening ≡ Anything → now.broken ≡ c.broken → CheckerHolds c s → CheckerHolds now t
forgotten_at c now s t same known opening broken h = record {
  unbroken = broken ∙ h.unbroken;
  odd = subst (λ n. register_bit 0 n ≡ true) (sym same.identification) h.odd;
  identified = subst (λ i. IsIdentified i t.target.identification) (sym known)
      (subst (IsIdentified c.identification) (sym same.identification) h.identified);
  opened = subst (λ o. OpeningHolds o now.worlds t) (sym opening) tt;
  in_gap = λ e. opening;
}

-- and one that begins a gap
pub watches_gap : (c mid now : Checker) (b : Bool) → c.stray ≡ 0 → mid.identification ≡ c.identification
    → mid.clean ≡ c.clean → mid.stray ≡ c.stray → mid.in_gap ≡ true → mid.broken ≡ c.broken → CheckerKeeps mid now
    → now.opening ≡ Anything → now.broken ≡ mid.broken → CheckerWatches (Junk b) c now
watches_gap c mid now b none known wire stray gap broken keeps opening same = record {
  holds = λ s t shows h. forgotten_at c now s t (same_in_gap c.in_gap true c b s t (is_zero c.stray none) refl shows)
      (keeps.identification ∙ known) opening (same ∙ broken) h;
  wire = keeps.wire ∙ wire;
  gap = λ e. keeps.gap ∙ gap_begun mid.stray mid.in_gap c.stray c.in_gap (stray ∙ none) gap none;
  broken = λ other. same ∙ broken;
}

same_at_cut : (gap : Bool) (c : Checker) (bits : TxBits) (s t : Port)
    → CheckedShowsIn gap c.clean c.stray (Cut bits) s t → IsSameTarget s t
same_at_cut true c bits s t shows = shows
same_at_cut false c bits s t shows = shows

-- anything may have happened
pub leaves_model : (c now : Checker) → CheckerKeeps (record c { in_gap = true }) now → now.opening ≡ Anything
    → now.broken ≡ c.broken → CheckerLeaves c now
leaves_model c now keeps opening broken = record {
  holds = λ s t same h. forgotten_at c now s t same keeps.identification opening broken h;
  wire = keeps.wire;
  gap = keeps.gap;
  broken = broken;
}

-- a cut end
pub watches_cut : (c now : Checker) (bits : TxBits) → CheckerLeaves c now → CheckerWatches (Cut bits) c now
watches_cut c now bits leaves = record {
  holds = λ s t shows h. leaves.holds s t (same_at_cut c.in_gap c bits s t shows) h;
  wire = leaves.wire;
  gap = λ e. leaves.gap;
  broken = λ other. leaves.broken;
}

-- LINE RESETS
reset_opens : (opening : Opening) (v u : Worlds) (n : ℕ) (s t : Port) → n ≢ 0 → PortLeads s n t → u.crowded ≡ false
    → ((n : ℕ) (s t : Port) → n ≢ 0 → PortLeads s n t → v.crowded ≡ false → WorldsHoldPort v s → WorldsHoldPort u t)
    → OpeningHolds opening v s → OpeningHolds opening u t
reset_opens Over v u n s t some leads room resets k = (room, resets n s t some leads k.0 k.1)
reset_opens Anything v u n s t some leads room resets k = tt
reset_opens Resting v u n s t some leads room resets k = opening_led Resting n v u s t (λ e. cc) leads k
reset_opens (Selected word) v u n s t some leads room resets k =
    opening_led (Selected word) n v u s t (λ e. cc) leads k

-- a checker after a line reset, at a state
reset_at : (c : Checker) (v : Worlds) (s t : Port) → IsSameTarget s t → OpeningHolds c.opening v t → CheckerHolds c s
    → CheckerHolds (record c { in_gap = false; stray = 0; worlds = v }) t
reset_at c v s t same opened h = record {
  unbroken = h.unbroken;
  odd = subst (λ n. register_bit 0 n ≡ true) (sym same.identification) h.odd;
  identified = subst (IsIdentified c.identification) (sym same.identification) h.identified;
  opened = opened;
  in_gap = λ e. absurd (let f : false ≡ true = e in cc);
}

reset_shows : (c : Checker) (v : Worlds) (ones : ℕ) (gap : Bool) (s t : Port) → c.in_gap ≡ gap → v.crowded ≡ false
    → ((n : ℕ) (s t : Port) → n ≢ 0 → PortLeads s n t → c.worlds.crowded ≡ false → WorldsHoldPort c.worlds s
    → WorldsHoldPort v t) → CheckedShowsIn gap c.clean c.stray (Reset ones) s t → CheckerHolds c s
    → CheckerHolds (record c { in_gap = false; stray = 0; worlds = v }) t
reset_shows c v ones true s t gap room resets shows h =
    reset_at c v s t shows (subst (λ o. OpeningHolds o v t) (sym (h.in_gap gap)) tt) h
reset_shows c v ones false s t gap room resets (n, some, leads) h =
    reset_at c v s t (same_target_led n s t leads)
    (reset_opens c.opening c.worlds v n s t some leads room resets h.opened) h

-- the worlds after a line reset
pub worlds_are_reset : (c : Checker) (v : Worlds) (ones : ℕ) → v.crowded ≡ false
    → ((n : ℕ) (s t : Port) → n ≢ 0 → PortLeads s n t → c.worlds.crowded ≡ false → WorldsHoldPort c.worlds s
    → WorldsHoldPort v t) → CheckerWatches (Reset ones) c (record c { in_gap = false; stray = 0; worlds = v })
worlds_are_reset c v ones room resets = record {
  holds = λ s t shows h. reset_shows c v ones c.in_gap s t refl room resets shows h;
  wire = refl;
  gap = λ e. refl;
  broken = λ other. refl;
}

-- TRANSACTIONS
outside_gap : (gap : Bool) (stray : ℕ) (tx : Transaction) → gap ≡ false
    → checked_gap_after (Tx tx) (checked_gap_at stray gap) ≡ checked_gap_at (checked_stray_after tx.result) gap
outside_gap true stray tx e = absurd (cc)
outside_gap false stray tx e = refl

inside_gap : (gap : Bool) (stray : ℕ) (tx : Transaction) → gap ≡ true
    → checked_gap_after (Tx tx) (checked_gap_at stray gap) ≡ checked_gap_at stray gap
inside_gap true stray tx e = refl
inside_gap false stray tx e = absurd (cc)

-- a transaction outside of a gap
pub watches_transaction : (c mid now : Checker) (tx : Transaction) → c.in_gap ≡ false
    → CheckerKeeps (record c { stray = checked_stray_after tx.result }) mid
    → CheckerChecks tx (record c { stray = checked_stray_after tx.result }) mid → CheckerIdentifies tx mid now
    → CheckerKeepsWorlds mid now → CheckerWatches (Tx tx) c now
watches_transaction c mid now tx gap keeps checks identifies left = record {
  holds = λ s t shows h.
      let x : CheckedTransacts c.clean tx.result tx.request s t =
      subst (λ g. CheckedShowsIn g c.clean c.stray (Tx tx) s t) gap shows in
      let opened = checks.each s t x h.opened in
      let known = identifies.each c.clean s t x h.odd
      (subst (λ i. IsIdentified i s.target.identification) (sym keeps.identification) h.identified) in
      let same = same_identification c.clean tx.result tx.request s t x in record {
        unbroken = known.1 ∙ opened.1 ∙ h.unbroken;
        odd = subst (λ n. register_bit 0 n ≡ true) (sym same) h.odd;
        identified = subst (IsIdentified now.identification) (sym same) known.0;
        opened = subst (λ o. OpeningHolds o now.worlds t) (sym left.opening)
            (subst (λ v. OpeningHolds mid.opening v t) (sym left.worlds) opened.0);
        in_gap = λ e. absurd (let f : true ≡ false = sym e ∙ ap (λ (g : CheckedGap). g.in_gap) (left.gap ∙ keeps.gap) ∙
            gap in cc);
      };
  wire = left.wire ∙ keeps.wire;
  gap = λ e. left.gap ∙ keeps.gap ∙ sym (outside_gap c.in_gap c.stray tx gap);
  broken = λ other. absurd (other tx refl);
}

-- a transaction in a gap
pub watches_in_a_gap : (c : Checker) (tx : Transaction) → c.in_gap ≡ true → CheckerWatches (Tx tx) c c
watches_in_a_gap c tx gap = record {
  holds = λ s t shows h. checker_holds_in_gap c s t gap (subst (λ g. CheckedShowsIn g c.clean c.stray (Tx tx) s t) gap
      shows) h;
  wire = refl;
  gap = λ e. sym (inside_gap c.in_gap c.stray tx gap);
  broken = λ other. refl;
}

-- nothing is taken once a rule was broken
pub watches_broken : (c : Checker) (item : Item) → (c.broken ≡ None → ⊥) → CheckerWatches item c c
watches_broken c item broken = record {
  holds = λ s t shows h. absurd (broken h.unbroken);
  wire = refl;
  gap = λ e. absurd (broken e);
  broken = λ other. refl;
}

-- the worlds are opened, or not yet
pub checks_opened : (c now : Checker) (v : Worlds) (began : Option ℕ) (tx : Transaction)
    → WorldsOpen c.opening tx.result tx.request v
    → CheckerChecks tx (record c { worlds = v; opening = Over; began = began }) now → CheckerChecks tx c now
checks_opened c now v began tx opens checks = record {
  each = λ s t x k. let o = opens c.clean c.worlds s t x k in checks.each o.0 t o.1 (o.2, o.3);
}

-- they are too many
pub checks_unopened : (c : Checker) (v : Worlds) (opening : Opening) (tx : Transaction)
    → OpeningLeads c.opening tx.result tx.request opening
    → CheckerChecks tx c (record c { worlds = v; opening = opening })
checks_unopened c v opening tx leads = record { each = λ s t x k. (leads c.clean c.worlds v s t x k, refl) }

no_element : (items : List Kept) (P : Kept → Type 0) → (length items == 0) ≡ true → Any P items → ⊥
no_element items P empty (k, kept, within, is, holds) = no_index k (length items) empty within

-- no world is left
pub none_left : (v : Worlds) (s : Port) (P : Type 0) → v.crowded ≡ false → (length v.kept.items == 0) ≡ true
    → WorldsHoldPort v s → P
none_left v s P room empty h = absurd (no_element v.kept.items
    (λ kept. KeptDescribes kept (port_line_awaits s.link.line) s.target) empty (h.held room))

-- the first world of a target in its reset state
pub made_holds : (v : Worlds) (w : World) (s : Port) → w ≡ world_made → WorldIsAdded w v → CheckedMade s
    → WorldsHoldPort v s
made_holds v w s same adds made =
    let p : WorldDescribesPort world_made s =
    subst (WorldDescribesPort world_made) (sym made.is) (world_at_made made.identification made.bus) in
    subst (λ b. WorldsHold v b s.target) (sym p.awaits) (worlds_hold_as v w world_made world_made.awaits s.target adds
    same
    refl p.target)

-- a world that is alone
pub one_is_added : (v : Worlds) (w : World) → v.kept.items ≡ (record { world = w; faults = 0 }) ∷ [] → WorldIsAdded w v
one_is_added v w items = λ x h. record {
  held = λ f. subst (Any (λ kept. KeptDescribes kept w.awaits x)) (sym items)
      (0, record { world = w; faults = 0 }, omega arith, refl, record { awaits = refl; target = h });
}

-- a rule was broken, or none
pub broken_some : {T : Type 0} → (broken : Option T) (b : Bool) → is_some broken ≡ not b → b ≡ false → broken ≡ None → ⊥
broken_some broken b is other none =
    absurd (let e : false ≡ true = sym (ap is_some none) ∙ is ∙ ap not other in cc)

-- a rule was broken
pub not_some : {T : Type 0} → (broken : Option T) (value : T) → broken ≡ Some value → broken ≡ None → ⊥
not_some broken value e f = absurd (let g : Some value ≡ None = sym e ∙ f in cc)

-- some word of DPIDR is left
pub not_narrowed : (b : Bool) (P : Type 0) → b ≡ false → b ≡ true → P
not_narrowed b P none some = absurd (let e : false ≡ true = sym none ∙ some in cc)

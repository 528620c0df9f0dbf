-- The place at which a check begins, and what stands for the items from there on.
use Rattle.std.proofs.Common.{◌≡◌, ◌<◌, ◌≤◌, ◌+◌, ℕ, zero, suc, Bool, false, refl, sym, ap, subst, arith, ◌∙◌}
use Rattle.std.proofs.Common.{◌⊎◌, inl, inr}
use Rattle.std.proofs.Common.{List, [], ◌∷◌, ◌++◌, length, take, drop, get_or}
use Rattle.std.specs.Prelude.{Option, Some, None, All, IfSome}
use Rattle.std.specs.Option.{option_or}
use Rattle.std.proofs.Math.Seq.{drop-append_seam, take-append_seam}
use Rattle.std.proofs.lemmas.List.{take_more, take-take, drop-append-le, take-append-le, length-take-le}
use Rattle.swd_bits.specs.declared.tx.Tx.{Tx as Transaction}
use Rattle.swd_bits.specs.Transactions.{IsTx}
use Rattle.swd_trace.specs.declared.item.Item.{Item}
use Rattle.swd_trace.specs.declared.item.Item.TheVariants.{Tx}
use Rattle.swd_trace.specs.Listed.{IsLegalItem, AreLegalItems}
use Rattle.swd_checker.specs.declared.identification.Identification.{Identification}
use Rattle.swd_checker.specs.declared.worlds.Worlds.{Worlds}
use Rattle.swd_checker.specs.declared.checker.CheckStart.{CheckStart}
use Rattle.swd_checker.specs.declared.checker.CheckStart.TheVariants.{Made, Rest, Any}
use Rattle.swd_checker.specs.declared.checker.Checker.{Checker}
use Rattle.swd_checker.specs.declared.opening.Opening.{Opening}
use Rattle.swd_checker.specs.declared.opening.Opening.TheVariants.{Over}
use Rattle.swd_checker.specs.Worlds.{World}
use Rattle.swd_checker.specs.Standing.{CheckerStarts, CheckerWatches, CheckerKeeps, CheckerKeepsWorlds, checker_gap}
use Rattle.swd_checker.specs.Standing.{checked_gap_at, checked_gap_none, checked_gap_after, checked_gap_over}
use Rattle.swd_checker.specs.Standing.{checked_stray_after}
use Rattle.swd_checker.specs.Reaching.{WorldsReach, AreKeptSound, checked_link, IsWordSound}
use Rattle.swd_checker.specs.Reaching.{IdentificationNarrows}
use Rattle.swd_checker.specs.Fitting.{WorldIsShown, CheckerShows, CheckerBegins, CheckerFollows, CheckerSteps}
use Rattle.swd_checker.specs.Fitting.{CheckerOpens, CheckerBeginsBy, CheckerFirst, AreGapless, IsLongestShownFrom}
use Rattle.swd_checker.specs.Fitting.{AreShownByRun, CheckerKnows, CheckerWaits}
use Rattle.swd_checker.specs.Openings.{is_opening_over}
use Rattle.swd_checker.specs.Knowing.{IsOpeningKnown, CheckedFrom, opening_after_item}
use Rattle.swd_checker.specs.Knowing.{opening_of_start, opening_over_items}
use Rattle.swd_checker.specs.declared.whole.ShownPart.{ShownPart}
use Rattle.swd_checker.specs.Whole.{IsShownByNoRun}
use Rattle.swd_checker.proofs.KnowingLemmas.{opening_over_more, opening_unknown_last, opening_unknown_more}
use Rattle.swd_checker.proofs.OpenedLemmas.{world_is_shown}
use Rattle.swd_checker.proofs.WholeLemmas.{CheckerRuns, checker_begins, checker_ran}
use Rattle.swd_checker.proofs.FittingLemmas.{reached_shown, legal_item, checked_gapless_more, shown_by_run}

-- BY ONE ITEM
-- an item at which no check begins
pub begins_same : (item : Item) (place : ℕ) (c now : Checker) → now.identification ≡ c.identification
    → now.began ≡ c.began → CheckerBeginsBy item place c now
begins_same item place c now known same = record {
  word = λ legal whole sound. subst (λ (i : Identification). IsWordSound i.word) (sym known) sound;
  stays = λ room whole p e. same ∙ e;
  opens = λ room whole none p e. absurd (let f : None ≡ Some p = sym none ∙ sym same ∙ e in cc);
}

-- a transaction in worlds that are held
pub opens_over : (tx : Transaction) (place : ℕ) (c now : Checker) → c.opening ≡ Over → CheckerSteps tx c now
    → CheckerOpens tx place c now
opens_over tx place c now over steps = record {
  stays = λ room whole p e. (steps.over over room whole).3 ∙ e;
  opens = λ room whole none p e.
      absurd (let f : None ≡ Some p = sym none ∙ sym (steps.over over room whole).3 ∙ e in cc);
}

-- a transaction at which the worlds are too many to be held
pub opens_not : (tx : Transaction) (place : ℕ) (c now : Checker) → now.began ≡ c.began → CheckerOpens tx place c now
opens_not tx place c now same = record {
  stays = λ room whole p e. same ∙ e;
  opens = λ room whole none p e. absurd (let f : None ≡ Some p = sym none ∙ sym same ∙ e in cc);
}

began_stays : (before now : Option ℕ) (place p : ℕ) → now ≡ option_or before (Some place) → before ≡ Some p
    → now ≡ Some p
began_stays before now place p is e = is ∙ ap (λ b. option_or b (Some place)) e

began_here : (before now : Option ℕ) (place p : ℕ) → now ≡ option_or before (Some place) → before ≡ None
    → now ≡ Some p → p ≡ place
began_here before now place p is none e =
    let f : Some p ≡ Some place = sym e ∙ is ∙ ap (λ b. option_or b (Some place)) none in cc

-- a transaction before which worlds are held
pub opens_begun : (tx : Transaction) (place : ℕ) (c now : Checker) (v : Worlds) (began : Option ℕ)
    → began ≡ option_or c.began (Some place) → AreKeptSound v.kept.items
    → CheckerSteps tx (record c { worlds = v; opening = Over; began = began }) now → CheckerOpens tx place c now
opens_begun tx place c now v began is sound steps = record {
  stays = λ room whole p e. (steps.over refl room whole).3 ∙ began_stays c.began began place p is e;
  opens = λ room whole none p e.
      let s = steps.over refl room whole in (
        began_here c.began began place p is none (sym s.3 ∙ e),
        s.0,
        s.1,
        v,
        sound,
        λ link from linked. s.2 link from linked sound,
      );
}

-- a transaction outside of a gap
pub begins_transaction : (c mid now : Checker) (tx : Transaction) (place : ℕ) → c.in_gap ≡ false
    → CheckerKeeps (record c { stray = checked_stray_after tx.result }) mid
    → CheckerOpens tx place (record c { stray = checked_stray_after tx.result }) mid → now.crowded ≡ mid.crowded
    → (IsTx tx → now.broken ≡ None
    → (mid.broken ≡ None) × IdentificationNarrows tx mid.identification now.identification)
    → (now.broken ≡ None → mid.broken ≡ None) → now.began ≡ mid.began → CheckerKeepsWorlds mid now
    → CheckerBeginsBy (Tx tx) place c now
begins_transaction c mid now tx place outside keeps opens crowded narrows unbroken began same = record {
  word = λ legal whole sound. (narrows legal whole).1.sound
      (subst (λ (i : Identification). IsWordSound i.word) (sym keeps.identification) sound);
  stays = λ room whole p e. began ∙ opens.stays (sym crowded ∙ room) (unbroken whole) p e;
  opens = λ room whole none p e.
      let s = opens.opens (sym crowded ∙ room) (unbroken whole) none p (sym began ∙ e) in (
        s.0,
        λ legal word.
            let k = narrows legal whole in
            let gap : checker_gap now ≡ checked_gap_at (checked_stray_after tx.result) false =
            same.gap ∙ keeps.gap ∙ ap (checked_gap_at (checked_stray_after tx.result)) outside in
            record {
              over = same.opening ∙ s.1;
              some = subst (λ (v : Worlds). 0 < length v.kept.items) (sym same.worlds) s.2;
              word = k.1.sound
                  (subst (λ (i : Identification). IsWordSound i.word) (sym keeps.identification) word);
              gap = gap;
              inside = ap (λ g. g.in_gap) gap;
              each = λ n may.
                  let both = k.1.each n may in
                  let reach : WorldsReach (checked_link s.3.kept.items c.clean n (Tx tx)) mid.worlds =
                  s.5 (checked_link s.3.kept.items c.clean n (Tx tx)) refl
                  (record { wire = refl; item = refl; legal = legal; word = both.1 }) in
                  subst (λ b. All (λ kept. WorldIsShown Any b n (Tx tx ∷ []) kept.world) now.worlds.kept.items)
                  (sym (same.wire ∙ keeps.wire))
                  (subst (λ (v : Worlds). All (λ kept. WorldIsShown Any c.clean n (Tx tx ∷ []) kept.world) v.kept.items)
                  (sym same.worlds) (reached_shown Any [] (Tx tx) s.3.kept.items c.clean checked_gap_none mid.worlds n
                  refl refl (λ a b x. x) reach
                  (λ k d below. world_is_shown c.clean n _ both.0.odd (s.4 k d below))));
            },
      );
}

-- BEFORE THE FIRST ITEM
-- a target in its reset state
pub first_made : (start : CheckStart) (c : Checker) → start ≡ Made → c.began ≡ Some 0 → CheckerBegins c
    → CheckerFirst start c
first_made start c is began begins = record {
  uncrowded = begins.uncrowded;
  word = begins.shows.word;
  made = λ made. began;
  first = λ p e. (
    (let f : Some 0 ≡ Some p = sym began ∙ e in cc),
    subst (λ z. CheckerShows z [] c) (sym is) begins.shows,
  );
}

-- any other one
pub first_later : (start : CheckStart) (c : Checker) → (start ≡ Made → ⊥) → c.began ≡ None
    → c.identification.word ≡ None → c.crowded ≡ None → CheckerFirst start c
first_later start c other began word room = record {
  uncrowded = room;
  word = subst IsWordSound (sym word) tt;
  made = λ made. absurd (other made);
  first = λ p e. absurd (let f : None ≡ Some p = sym began ∙ e in cc);
}

-- WHERE A CHECK BEGINS
-- a check that begins at the first of these items does so with one more of them
pub checked_from_more : (start : CheckStart) (before items : List Item) (item : Item) → CheckedFrom start before items
    → CheckedFrom start before (items ++ item ∷ [])
checked_from_more Made before items item h = h
checked_from_more Rest before [] item h = absurd h
checked_from_more Rest before (first ∷ items) item h = h
checked_from_more Any before [] item h = absurd h
checked_from_more Any before (first ∷ items) item h = h

-- and one at the item by which the state is known at that one
pub checked_from_known : (start : CheckStart) (before : List Item) (item : Item) → (start ≡ Made → ⊥)
    → IsOpeningKnown start before item → CheckedFrom start before (item ∷ [])
checked_from_known Made before item other h = absurd (other refl)
checked_from_known Rest before item other h = h
checked_from_known Any before item other h = h

start_unknown : (start : CheckStart) → (start ≡ Made → ⊥) → is_opening_over (opening_of_start start) ≡ false
start_unknown Made other = absurd (other refl)
start_unknown Rest other = refl
start_unknown Any other = refl

checker_waits_first : (start : CheckStart) (c : Checker) → (start ≡ Made → ⊥)
    → c.opening ≡ opening_of_start start → CheckerWaits start [] c
checker_waits_first start c other opening = record { unknown = start_unknown start other; opening = opening }

waits_over : (start : CheckStart) (items : List Item) (c : Checker) → CheckerWaits start items c
    → is_opening_over c.opening ≡ false
waits_over start items c h = ap is_opening_over h.opening
    ∙ opening_unknown_last items checked_gap_none (opening_of_start start) h.unknown

waits_after : (start : CheckStart) (items : List Item) (item : Item) (c : Checker)
    → checker_gap c ≡ checked_gap_over items checked_gap_none → CheckerWaits start items c
    → opening_after_item item (checker_gap c) c.opening
    ≡ opening_after_item item (checked_gap_over items checked_gap_none)
    (opening_over_items items checked_gap_none (opening_of_start start))
waits_after start items item c gap h = ap (λ g. opening_after_item item g c.opening) gap
    ∙ ap (opening_after_item item (checked_gap_over items checked_gap_none)) h.opening

-- no check began after one item more
pub checker_waits_more : (start : CheckStart) (items : List Item) (item : Item) (c now : Checker)
    → checker_gap c ≡ checked_gap_over items checked_gap_none
    → CheckerKnows (opening_after_item item (checker_gap c) c.opening) c now → now.began ≡ None
    → CheckerWaits start items c → CheckerWaits start (items ++ item ∷ []) now
checker_waits_more start items item c now gap knows none h =
    let w = knows.waits none (waits_over start items c h) in
    let after = waits_after start items item c gap h in record {
      unknown = opening_unknown_more items item checked_gap_none (opening_of_start start) h.unknown
          (ap is_opening_over (sym after) ∙ w.1);
      opening = w.0 ∙ after ∙ sym (opening_over_more items item checked_gap_none (opening_of_start start));
    }

-- the item at which a check begins is the first by which the state is known
pub checker_known_at : (start : CheckStart) (items : List Item) (item : Item) (c now : Checker) (p : ℕ)
    → checker_gap c ≡ checked_gap_over items checked_gap_none
    → CheckerKnows (opening_after_item item (checker_gap c) c.opening) c now → c.began ≡ None → now.began ≡ Some p
    → CheckerWaits start items c → IsOpeningKnown start items item
checker_known_at start items item c now p gap knows none begun h = record {
  unknown = h.unknown;
  known = ap is_opening_over (sym (waits_after start items item c gap h))
      ∙ knows.begins none (waits_over start items c h) p begun;
}

-- A WHOLE TRACE
shown_other : (start : CheckStart) (clean : Bool) (n : ℕ) (items : List Item) (w : World) → (start ≡ Made → ⊥)
    → WorldIsShown Any clean n items w → WorldIsShown start clean n items w
shown_other Made clean n items w other h = absurd (other refl)
shown_other Rest clean n items w other h = record { sound = h.sound; each = h.each }
shown_other Any clean n items w other h = h

-- what is shown from some state, if that isn't the reset state
pub checker_shows_other : (start : CheckStart) (items : List Item) (c : Checker) → (start ≡ Made → ⊥) → CheckerShows
    Any items c
    → CheckerShows start items c
checker_shows_other start items c other h = record {
  over = h.over;
  some = h.some;
  word = h.word;
  gap = h.gap;
  inside = h.inside;
  each = λ n may k d below. shown_other start c.clean n items _ other (h.each n may k d below);
}

-- what a checker stands for after some items, from the place at which its check began
pub record CheckerFitsFrom (start : CheckStart) (clean : Bool) (all items : List Item) (c : Checker) : Type 0 where
  pub ran : CheckerRuns start clean items c
  pub room : c.crowded ≡ None
  pub made : start ≡ Made → c.began ≡ Some 0
  pub word : AreLegalItems all → IsWordSound c.identification.word
  pub inside : (from : ℕ) → c.began ≡ Some from → from ≤ length items
  pub waits : c.began ≡ None → CheckerWaits start items c
  pub first : (from : ℕ) → c.began ≡ Some from → CheckedFrom start (take from items) (drop from items)
  pub shows : (from : ℕ) → c.began ≡ Some from → AreLegalItems all → AreGapless checked_gap_none (drop from items)
      → CheckerShows start (drop from items) c

none_dropped : (p : ℕ) → p ≡ 0 → drop {A = Item} p [] ≡ []
none_dropped zero e = refl
none_dropped (suc p) e = absurd (omega arith)

none_taken : (p : ℕ) → p ≡ 0 → take {A = Item} p [] ≡ []
none_taken zero e = refl
none_taken (suc p) e = absurd (omega arith)

made_or_other : (start : CheckStart) → (start ≡ Made) ⊎ (start ≡ Made → ⊥)
made_or_other Made = inl refl
made_or_other Rest = inr (λ e. cc)
made_or_other Any = inr (λ e. cc)

-- nor before the first
pub checker_waits_at_first : (start : CheckStart) (c : Checker) → c.opening ≡ opening_of_start start → CheckerFirst
    start c
    → c.began ≡ None → CheckerWaits start [] c
checker_waits_at_first start c opening h none = checker_waits_first start c
    (λ made. let f : None ≡ Some 0 = sym none ∙ h.made made in cc) opening

made_from_first : (start : CheckStart) (p : ℕ) → start ≡ Made → p ≡ 0 → CheckedFrom start (take p []) (drop p [])
made_from_first Made p is e = none_taken p e
made_from_first Rest p is e = absurd (cc)
made_from_first Any p is e = absurd (cc)

begun_at_first : (start : CheckStart) (c : Checker) (p : ℕ) → ((start ≡ Made → ⊥) → c.began ≡ None)
    → c.began ≡ Some p → p ≡ 0 → CheckedFrom start (take p []) (drop p [])
begun_at_first start c p unbegun begun zero_at = elim (made_or_other start)
    as (λ _. CheckedFrom start (take p []) (drop p [])) [
      | inl made ↦ made_from_first start p made zero_at
      | inr other ↦ absurd (let f : None ≡ Some p = sym (unbegun other) ∙ begun in cc)
    ]

-- before the first
pub fits_from_first : (start : CheckStart) (clean : Bool) (items : List Item) (c : Checker)
    → CheckerStarts start clean c → CheckerFirst start c → c.opening ≡ opening_of_start start
    → ((start ≡ Made → ⊥) → c.began ≡ None) → CheckerFitsFrom start clean items (take 0 items) c
fits_from_first start clean items c starts h opening unbegun = record {
  ran = checker_begins start clean items c starts;
  room = h.uncrowded;
  made = h.made;
  word = λ legal. h.word;
  inside = λ p e. let f : p ≡ 0 = (h.first p e).0 in omega arith;
  waits = λ none. checker_waits_at_first start c opening h none;
  first = λ p e. begun_at_first start c p unbegun e (h.first p e).0;
  shows = λ p e legal gapless. let f = h.first p e in
      subst (λ l. CheckerShows start l c) (sym (none_dropped p f.0)) f.1;
}

inside_by : (before : Option ℕ) (index from : ℕ) (seen : List Item) (item : Item) (c now : Checker)
    → c.began ≡ before → index ≡ length seen → CheckerBeginsBy item index c now → now.crowded ≡ None
    → now.broken ≡ None → ((p : ℕ) → c.began ≡ Some p → p ≤ length seen) → now.began ≡ Some from
    → from ≤ length seen
inside_by None index from seen item c now was end h room whole inside e =
    let s : from ≡ index = (h.opens room whole was from e).0 in omega arith
inside_by (Some p) index from seen item c now was end h room whole inside e =
    let same : Some from ≡ Some p = sym e ∙ h.stays room whole p was in
    let is : from ≡ p = cc in
    let k = inside p was in
    omega arith

shows_by : (before : Option ℕ) (start : CheckStart) (index from : ℕ) (seen : List Item) (item : Item)
    (c now : Checker) → c.began ≡ before → index ≡ length seen → (start ≡ Made → c.began ≡ Some 0)
    → IsLegalItem item → CheckerFollows item c now → CheckerBeginsBy item index c now → now.crowded ≡ None
    → now.broken ≡ None → IsWordSound c.identification.word → ((p : ℕ) → c.began ≡ Some p → p ≤ length seen)
    → ((p : ℕ) → c.began ≡ Some p → AreGapless checked_gap_none (drop p seen) → CheckerShows start (drop p seen) c)
    → now.began ≡ Some from → AreGapless checked_gap_none (drop from (seen ++ item ∷ []))
    → CheckerShows start (drop from (seen ++ item ∷ [])) now
shows_by None start index from seen item c now was end made legal follows h room whole word inside shows e gapless =
    let s = h.opens room whole was from e in
    let at : from ≡ length seen = s.0 ∙ end in
    let rest : drop from (seen ++ item ∷ []) ≡ item ∷ [] =
    subst (λ k. drop k (seen ++ item ∷ []) ≡ item ∷ []) (sym at) (drop-append_seam seen (item ∷ [])) in
    subst (λ l. CheckerShows start l now) (sym rest) (checker_shows_other start (item ∷ []) now
    (λ is. let f : None ≡ Some 0 = sym was ∙ made is in cc) (s.1 legal word))
shows_by (Some p) start index from seen item c now was end made legal follows h room whole word inside shows e gapless =
    let same : Some from ≡ Some p = sym e ∙ h.stays room whole p was in
    let is : from ≡ p = cc in
    let rest : drop from (seen ++ item ∷ []) ≡ drop p seen ++ item ∷ [] =
    subst (λ k. drop k (seen ++ item ∷ []) ≡ drop p seen ++ item ∷ []) (sym is)
    (drop-append-le p seen (item ∷ []) (inside p was)) in
    let g = checked_gapless_more checked_gap_none (drop p seen) item (subst (AreGapless checked_gap_none) rest gapless)
    in
    let before : CheckerShows start (drop p seen) c = shows p was g.0 in
    subst (λ l. CheckerShows start l now) (sym rest) (follows.shows legal
    (ap (λ z. (checked_gap_after item z).in_gap) before.gap ∙ g.1) room whole start (drop p seen) before)

first_by : (before : Option ℕ) (start : CheckStart) (index from : ℕ) (seen : List Item) (item : Item)
    (c now : Checker) → c.began ≡ before → index ≡ length seen → (start ≡ Made → c.began ≡ Some 0)
    → checker_gap c ≡ checked_gap_over seen checked_gap_none
    → CheckerKnows (opening_after_item item (checker_gap c) c.opening) c now → CheckerBeginsBy item index c now
    → now.crowded ≡ None → now.broken ≡ None → (c.began ≡ None → CheckerWaits start seen c)
    → ((p : ℕ) → c.began ≡ Some p → p ≤ length seen)
    → ((p : ℕ) → c.began ≡ Some p → CheckedFrom start (take p seen) (drop p seen)) → now.began ≡ Some from
    → CheckedFrom start (take from (seen ++ item ∷ [])) (drop from (seen ++ item ∷ []))
first_by None start index from seen item c now was end made gap knows h room whole waits inside first e =
    let at : from ≡ length seen = (h.opens room whole was from e).0 ∙ end in
    let rest : drop from (seen ++ item ∷ []) ≡ item ∷ [] =
    subst (λ k. drop k (seen ++ item ∷ []) ≡ item ∷ []) (sym at) (drop-append_seam seen (item ∷ [])) in
    let front : take from (seen ++ item ∷ []) ≡ seen =
    subst (λ k. take k (seen ++ item ∷ []) ≡ seen) (sym at) (take-append_seam seen (item ∷ [])) in
    subst (λ l. CheckedFrom start l (drop from (seen ++ item ∷ []))) (sym front)
    (subst (CheckedFrom start seen) (sym rest) (checked_from_known start seen item
    (λ is. let f : None ≡ Some 0 = sym was ∙ made is in cc)
    (checker_known_at start seen item c now from gap knows was e (waits was))))
first_by (Some p) start index from seen item c now was end made gap knows h room whole waits inside first e =
    let same : Some from ≡ Some p = sym e ∙ h.stays room whole p was in
    let is : from ≡ p = cc in
    let rest : drop from (seen ++ item ∷ []) ≡ drop p seen ++ item ∷ [] =
    subst (λ k. drop k (seen ++ item ∷ []) ≡ drop p seen ++ item ∷ []) (sym is)
    (drop-append-le p seen (item ∷ []) (inside p was)) in
    let front : take from (seen ++ item ∷ []) ≡ take p seen =
    subst (λ k. take k (seen ++ item ∷ []) ≡ take p seen) (sym is) (take-append-le p seen (item ∷ []) (inside p was))
    in
    subst (λ l. CheckedFrom start l (drop from (seen ++ item ∷ []))) (sym front)
    (subst (CheckedFrom start (take p seen)) (sym rest)
    (checked_from_more start (take p seen) (drop p seen) item (first p was)))

-- a check that began by no item began by none before
pub checker_unbegun_before : (before : Option ℕ) (after : Opening) (c now : Checker) → c.began ≡ before
    → CheckerKnows after c now → now.began ≡ None → c.began ≡ None
checker_unbegun_before None after c now was knows none = was
checker_unbegun_before (Some p) after c now was knows none =
    absurd (let f : None ≡ Some p = sym none ∙ knows.begun p was in cc)

-- after one more
pub fits_from_more : (start : CheckStart) (clean : Bool) (items : List Item) (index place : ℕ) (d : Item)
    (c now : Checker) → index < length items → place ≡ index → CheckerWatches (get_or items index d) c now
    → CheckerFollows (get_or items index d) c now → CheckerBeginsBy (get_or items index d) place c now
    → (c.broken ≡ None → CheckerKnows (opening_after_item (get_or items index d) (checker_gap c) c.opening) c now)
    → now.broken ≡ None → now.crowded ≡ None → CheckerFitsFrom start clean items (take index items) c
    → CheckerFitsFrom start clean items (take (index + 1) items) now
fits_from_more start clean items index place d c now inside at watches follows begins knows whole room h =
    let k = knows h.ran.unbroken in
    let end : index ≡ length (take index items) = sym (length-take-le index items (omega arith)) in
    let by : CheckerBeginsBy (get_or items index d) index c now =
    subst (λ k. CheckerBeginsBy (get_or items index d) k c now) at begins in
    let more : take (index + 1) items ≡ take index items ++ get_or items index d ∷ [] =
    take_more items index d inside in
    record {
      ran = record { ran = checker_ran start clean items index d c now inside watches h.ran; unbroken = whole };
      room = room;
      made = λ is. by.stays room whole 0 (h.made is);
      word = λ legal. by.word (legal_item items index d inside legal) whole (h.word legal);
      inside = λ from e.
          let below = inside_by c.began index from (take index items) (get_or items index d) c now refl end by room
          whole h.inside e in
          let n : length (take (index + 1) items) ≡ index + 1 = length-take-le (index + 1) items (omega arith) in
          omega arith;
      waits = λ none. subst (λ l. CheckerWaits start l now) (sym more) (checker_waits_more start (take index items)
          (get_or items index d) c now h.ran.ran.gap k none (h.waits (checker_unbegun_before c.began _ c now refl k
          none)));
      first = subst (λ l. (from : ℕ) → now.began ≡ Some from → CheckedFrom start (take from l) (drop from l)) (sym more)
          (λ from e. first_by c.began start index from (take index items) (get_or items index d) c now refl end h.made
          h.ran.ran.gap k by room whole h.waits h.inside h.first e);
      shows = subst (λ l. (from : ℕ) → now.began ≡ Some from → AreLegalItems items
          → AreGapless checked_gap_none (drop from l) → CheckerShows start (drop from l) now) (sym more)
          (λ from e legal gapless. shows_by c.began start index from (take index items) (get_or items index d) c now
          refl end h.made (legal_item items index d inside legal) follows by room whole (h.word legal) h.inside
          (λ p was. h.shows p was legal) e gapless);
    }

-- the items from there on, if no run shows one more
pub shown_from_there : (start : CheckStart) (clean : Bool) (items : List Item) (count from : ℕ) (c : Checker)
    → count ≤ length items → CheckerFitsFrom start clean items (take count items) c → c.began ≡ Some from
    → (count < length items → IsShownByNoRun start clean (take (count + 1) items))
    → IsLongestShownFrom start clean items from count
shown_from_there start clean items count from c inside h e longest =
    let n : length (take count items) ≡ count = length-take-le count items inside in
    let k : from ≤ count = let below = h.inside from e in omega arith in
    record {
      before = k;
      inside = inside;
      first = subst (λ l. CheckedFrom start l (drop from (take count items))) (take-take from count items k)
          (h.first from e);
      shown = λ legal gapless. subst (λ b. AreShownByRun start b (drop from (take count items))) h.ran.ran.wire
          (shown_by_run start (drop from (take count items)) c (h.shows from e legal gapless));
      longest = longest;
    }

-- the same, if the check began
pub shown_part : (start : CheckStart) (clean : Bool) (items : List Item) (index count : ℕ) (c : Checker)
    (began : Option ℕ) (part : Option ShownPart) → index ≡ count → began ≡ c.began → count ≤ length items
    → CheckerFitsFrom start clean items (take index items) c
    → (count < length items → IsShownByNoRun start clean (take (count + 1) items))
    → IfSome part (λ p. (began ≡ Some p.from) × (p.count ≡ count))
    → IfSome part (λ p. IsLongestShownFrom start clean items p.from p.count)
shown_part start clean items index count c began None end same inside fits longest h = tt
shown_part start clean items index count c began (Some p) end same inside fits longest (is, at) =
    subst (λ k. IsLongestShownFrom start clean items p.from k) (sym at)
    (shown_from_there start clean items count p.from c inside
    (subst (λ k. CheckerFitsFrom start clean items (take k items) c) end fits) (sym same ∙ is) longest)

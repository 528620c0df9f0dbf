-- What a checker that holds worlds stands for, item by item: some run shows the items.
use Rattle.std.proofs.Common.{◌≡◌, ◌≢◌, ◌<◌, ◌+◌, ◌-◌, ◌*◌, ◌^◌, ℕ, zero, suc, Bool, true, false, refl, sym, ap}
use Rattle.std.proofs.Common.{subst, arith, ◌∙◌, inl}
use Rattle.std.proofs.Common.{List, [], ◌∷◌, ◌++◌, length, take, get_or}
use Rattle.std.specs.Prelude.{Option, Some, None, All, ◌==◌, slice_index_or}
use Rattle.swd_bits.specs.declared.tx.Tx.{Tx as Transaction}
use Rattle.swd_bits.specs.declared.tx_bits.TxBits.{TxBits}
use Rattle.swd_bits.specs.Transactions.{IsTx}
use Rattle.swd_trace.specs.declared.item.Item.{Item}
use Rattle.swd_trace.specs.declared.item.Item.TheVariants.{Reset, Switch, Idle, Tx, Junk, Cut}
use Rattle.swd_trace.specs.Listed.{IsLegalItem, AreLegalItems}
use Rattle.swd_port.specs.Registers.{register_bit}
use Rattle.std.proofs.lemmas.List.{take_more}
use Rattle.swd_port.specs.Port.{Port}
use Rattle.swd_port.specs.Made.{port_made}
use Rattle.swd_port.specs.Leading.{port_after_lead}
use Rattle.swd_checker.specs.declared.identification.Identification.{Identification}
use Rattle.swd_checker.specs.declared.near.Near.{Near}
use Rattle.swd_checker.specs.declared.worlds.Kept.{Kept}
use Rattle.swd_checker.specs.declared.worlds.Worlds.{Worlds}
use Rattle.swd_checker.specs.declared.checker.CheckStart.{CheckStart}
use Rattle.swd_checker.specs.declared.checker.CheckStart.TheVariants.{Made}
use Rattle.swd_checker.specs.declared.checker.Checker.{Checker}
use Rattle.swd_checker.specs.declared.opening.Opening.TheVariants.{Over}
use Rattle.swd_checker.specs.Worlds.{World, TarFrom, world_made}
use Rattle.swd_checker.specs.Standing.{CheckedGap, CheckedShows, CheckedShowsIn, CheckedShowsPlainly, CheckedRuns}
use Rattle.swd_checker.specs.Standing.{CheckerStarts, CheckerWatches, IsWordIdentified}
use Rattle.swd_checker.specs.Standing.{checker_gap, checked_gap_at, checked_gap_none, checked_gap_after}
use Rattle.swd_checker.specs.Standing.{checked_gap_over, CheckerKeeps, CheckerKeepsWorlds}
use Rattle.swd_checker.specs.Standing.{checked_stray_after}
use Rattle.swd_checker.specs.Exact.{WorldWords, CheckedAnswers, IsWorldExact, IsWorldPort}
use Rattle.swd_checker.specs.Exact.{IsTarExact}
use Rattle.swd_checker.specs.Reaching.{WorldReaches, WorldsReach, IsReachedBy, AreKeptSound}
use Rattle.swd_checker.specs.Reaching.{checked_link, IsWordSound, IsDpidrWord, IdentificationNarrows}
use Rattle.swd_checker.specs.Fitting.{CheckedBegins, WorldIsShown, CheckerShows, CheckerBegins, CheckerFollows}
use Rattle.swd_checker.specs.Fitting.{CheckerSteps, AreGapless, AreShownByRun}
use Rattle.swd_checker.specs.Fitting.{IsLongestShown}
use Rattle.swd_checker.proofs.NearLemmas.{near_small, near_sound}
use Rattle.swd_checker.proofs.OpenedLemmas.{made_bus}
use Rattle.swd_checker.proofs.SettleLemmas.{world_some}
use Rattle.swd_checker.proofs.WholeLemmas.{checked_gap_over_more, CheckerRuns, checker_begins, checker_ran}

-- RUNS
-- a run, and one item more
pub checked_runs_then : (clean : Bool) (g : CheckedGap) (items : List Item) (item : Item) (s m t : Port)
    → CheckedRuns clean g items s m → CheckedShows clean (checked_gap_over items g) item m t
    → CheckedRuns clean g (items ++ item ∷ []) s t
checked_runs_then clean g [] item s m t run shows =
    (t, subst (λ p. CheckedShows clean g item p t) run shows, refl)
checked_runs_then clean g (first ∷ items) item s m t (p, shown, rest) shows =
    (p, shown, checked_runs_then clean (checked_gap_after first g) items item p m t rest shows)

-- the worlds of a list after an item that is a step of each of them
shown_more : (start : CheckStart) (clean : Bool) (n : ℕ) (items : List Item) (item : Item) (w next : World)
    (v : WorldWords) (answers : CheckedAnswers) → WorldIsShown start clean n items w → (u : WorldWords)
    (before : CheckedAnswers) → IsWorldExact w u → ((s : Port) → IsWorldPort w n u before s
    → (t : Port) × CheckedShows clean (checked_gap_over items checked_gap_none) item s t
    × IsWorldPort next n v answers t)
    → (s : Port) × (t : Port) × CheckedBegins start s
    × CheckedRuns clean checked_gap_none (items ++ item ∷ []) s t × IsWorldPort next n v answers t
shown_more start clean n items item w next v answers h u before exact step =
    let r = h.each u before exact in
    let next = step r.1 r.4 in
    (r.0, next.0, r.2, checked_runs_then clean checked_gap_none items item r.0 r.1 next.0 r.3 next.1, next.2)

-- OUTSIDE OF A GAP
shows_outside : (clean : Bool) (g : CheckedGap) (item : Item) (s t : Port) → g.in_gap ≡ false
    → CheckedShowsPlainly clean g.stray item s t → CheckedShows clean g item s t
shows_outside clean g item s t inside h =
    subst (λ b. CheckedShowsIn b clean g.stray item s t) (sym inside) h

-- ITEMS THAT CHANGE NOTHING
-- an item by which each state remains
remains : (start : CheckStart) (items : List Item) (item : Item) (c now : Checker) → now.opening ≡ c.opening
    → now.worlds ≡ c.worlds → now.identification ≡ c.identification → now.clean ≡ c.clean
    → checker_gap now ≡ checked_gap_after item (checker_gap c) → now.in_gap ≡ false
    → ((w : World) (n : ℕ) (v : WorldWords) (answers : CheckedAnswers) (s : Port) → IsWorldPort w n v answers s
    → (t : Port) × CheckedShowsPlainly c.clean c.stray item s t × IsWorldPort w n v answers t)
    → CheckerShows start items c → CheckerShows start (items ++ item ∷ []) now
remains start items item c now opening worlds known wire gap inside step h = record {
  over = opening ∙ h.over;
  some = subst (λ (v : Worlds). 0 < length v.kept.items) (sym worlds) h.some;
  word = subst (λ (i : Identification). IsWordSound i.word) (sym known) h.word;
  gap = gap ∙ ap (checked_gap_after item) h.gap ∙ sym (checked_gap_over_more items item checked_gap_none);
  inside = inside;
  each = λ n may.
      subst (λ (v : Worlds). All (λ kept. WorldIsShown start now.clean n (items ++ item ∷ []) kept.world) v.kept.items)
      (sym worlds) (λ k d below.
      let w : World = (slice_index_or c.worlds.kept.items k d).world in
      let before : WorldIsShown start c.clean n items w =
      h.each n (subst (λ i. IsDpidrWord i n) known may) k d below in
      subst (λ b. WorldIsShown start b n (items ++ item ∷ []) w) (sym wire) (record {
        sound = before.sound;
        each = λ v answers exact. shown_more start c.clean n items item w w v answers before v answers exact (λ s port.
            let after = step w n v answers s port in (
              after.0,
              subst (λ g. CheckedShows c.clean g item s after.0) h.gap
                  (shows_outside c.clean (checker_gap c) item s after.0 h.inside after.1),
              after.2,
            ));
      }));
}

-- idle cycles
stays_idle : (clean : Bool) (stray count : ℕ) (w : World) (n : ℕ) (v : WorldWords) (answers : CheckedAnswers)
    (s : Port) → IsWorldPort w n v answers s
    → (t : Port) × CheckedShowsPlainly clean stray (Idle count) s t × IsWorldPort w n v answers t
stays_idle clean stray count w n v answers s port = (
  port_after_lead 0 s,
  (s, port_after_lead 0 s, inl refl, record { after = refl }, inl refl),
  record { target = port.target; awaits = port.awaits },
)

-- an item at which nothing is looked
pub follows_nothing : (c : Checker) (item : Item) → ((b : Bool) → item ≡ Junk b → ⊥)
    → ((ones : ℕ) → item ≡ Reset ones → ⊥) → ((tx : Transaction) → item ≡ Tx tx → ⊥)
    → ((bits : TxBits) → item ≡ Cut bits → ⊥) → CheckerFollows item c c
follows_nothing c (Junk b) junk reset tx cut = absurd (junk b refl)
follows_nothing c (Reset ones) junk reset tx cut = absurd (reset ones refl)
follows_nothing c (Tx t1) junk reset tx cut = absurd (tx t1 refl)
follows_nothing c (Cut bits) junk reset tx cut = absurd (cut bits refl)
follows_nothing c (Idle count) junk reset tx cut = record {
  crowded = λ e. e;
  shows = λ legal inside some whole start items h. remains start items (Idle count) c c refl refl refl refl refl
      h.inside (λ w n v answers s port. stays_idle c.clean c.stray count w n v answers s port) h;
}
follows_nothing c Switch junk reset tx cut = record {
  crowded = λ e. e;
  shows = λ legal inside some whole start items h. remains start items Switch c c refl refl refl refl refl h.inside
      (λ w n v answers s port. (s, inl refl, port)) h;
}

-- a junk bit that may follow a lost acknowledgement
pub follows_stray : (c now : Checker) (b : Bool) → 0 < c.stray → now ≡ (record c { stray = c.stray - 1 })
    → CheckerFollows (Junk b) c now
follows_stray c now b more is =
    let some : (c.stray == 0) ≡ false = grind arith in
    subst (CheckerFollows (Junk b) c) (sym is) (record {
      crowded = λ e. e;
      shows = λ legal inside room whole start items h. remains start items (Junk b) c
          (record c { stray = c.stray - 1 }) refl refl refl refl (rw some refl) h.inside
          (λ w n v answers s port. (s, rw some (inl refl), port)) h;
    })

-- an item that begins a gap, or is in one
pub follows_never : (c now : Checker) (item : Item) → (now.crowded ≡ None → c.crowded ≡ None)
    → (checked_gap_after item (checker_gap c)).in_gap ≡ true → CheckerFollows item c now
follows_never c now item crowded gap = record {
  crowded = crowded;
  shows = λ legal inside. absurd (let f : true ≡ false = sym gap ∙ inside in cc);
}

stray_none : (c : Checker) (b : Bool) → c.stray ≡ 0 → (checked_gap_after (Junk b) (checker_gap c)).in_gap ≡ true
stray_none c b none = rw none refl

-- a junk bit that begins a gap
pub follows_gap : (c now : Checker) (b : Bool) → c.stray ≡ 0 → now.crowded ≡ c.crowded → CheckerFollows (Junk b) c now
follows_gap c now b none crowded = follows_never c now (Junk b) (λ e. sym crowded ∙ e) (stray_none c b none)

-- a cut end
pub follows_cut : (c now : Checker) (bits : TxBits) → now.crowded ≡ c.crowded → CheckerFollows (Cut bits) c now
follows_cut c now bits crowded = follows_never c now (Cut bits) (λ e. sym crowded ∙ e) refl

-- a transaction in a gap
pub follows_in_a_gap : (c : Checker) (tx : Transaction) → c.in_gap ≡ true → CheckerFollows (Tx tx) c c
follows_in_a_gap c tx gap = follows_never c c (Tx tx) (λ e. e) (rw gap refl)

-- a checker that found a broken rule
pub follows_broken : (c : Checker) (item : Item) → (c.broken ≡ None → ⊥) → CheckerFollows item c c
follows_broken c item broken = record {
  crowded = λ e. e;
  shows = λ legal inside room whole. absurd (broken whole);
}

-- a list that isn't empty
pub not_empty : (n : ℕ) (b : Bool) → b ≡ (n == 0) → b ≡ false → 0 < n
not_empty n b e f = grind arith

-- TRANSACTIONS AND LINE RESETS
-- a list of worlds that are shown is sound
shown_sound : (start : CheckStart) (items : List Item) (c : Checker) (n : ℕ) → IsDpidrWord c.identification n
    → CheckerShows start items c → AreKeptSound c.worlds.kept.items
shown_sound start items c n may h = λ k d below. (h.each n may k d below).sound

-- a run to a state that an item reaches from a world of the list
shown_by_link : (start : CheckStart) (items : List Item) (item : Item) (from : List Kept) (clean : Bool)
    (g : CheckedGap) (n : ℕ) → g.in_gap ≡ false → g ≡ checked_gap_over items checked_gap_none
    → ((s t : Port) → CheckedShowsPlainly clean 0 item s t → CheckedShowsPlainly clean g.stray item s t)
    → All (λ kept. WorldIsShown start clean n items kept.world) from → (next : World) (v : WorldWords)
    (answers : CheckedAnswers) → IsReachedBy (checked_link from clean n item) next v
    → (s : Port) × (t : Port) × CheckedBegins start s
    × CheckedRuns clean checked_gap_none (items ++ item ∷ []) s t × IsWorldPort next n v answers t
shown_by_link start items item from clean g n inside gap plain all next v answers
    (k, kept, within, is, (u, exact, leads)) =
    let before : WorldIsShown start clean n items kept.world =
    subst (λ (z : Kept). WorldIsShown start clean n items z.world) is (all k kept within) in
    let first = leads answers in
    shown_more start clean n items item kept.world next v answers before u first.0 exact (λ s port.
    let after = first.1 s port in (
      after.0,
      subst (λ z. CheckedShows clean z item s after.0) gap
          (shows_outside clean g item s after.0 inside (plain s after.0 after.1)),
      after.2,
    ))

-- the worlds to which an item leads from those that are shown
pub reached_shown : (start : CheckStart) (items : List Item) (item : Item) (from : List Kept) (clean : Bool)
    (g : CheckedGap) (ws : Worlds) (n : ℕ) → g.in_gap ≡ false → g ≡ checked_gap_over items checked_gap_none
    → ((s t : Port) → CheckedShowsPlainly clean 0 item s t → CheckedShowsPlainly clean g.stray item s t)
    → WorldsReach (checked_link from clean n item) ws → All (λ kept. WorldIsShown start clean n items kept.world) from
    → All (λ kept. WorldIsShown start clean n (items ++ item ∷ []) kept.world) ws.kept.items
reached_shown start items item from clean g ws n inside gap plain reach all = λ k d below.
    let next : World = (slice_index_or ws.kept.items k d).world in
    let r : WorldReaches (checked_link from clean n item) next = reach.each k d below in
    record {
      sound = r.sound;
      each = λ v answers exact.
          shown_by_link start items item from clean g n inside gap plain all next v answers (r.each v exact);
    }

transaction_gap : (c : Checker) (tx : Transaction) (in_gap : Bool) → c.in_gap ≡ in_gap → in_gap ≡ false
    → checked_gap_at (checked_stray_after tx.result) c.in_gap ≡ checked_gap_after (Tx tx) (checker_gap c)
transaction_gap c tx in_gap e inside = rw (e ∙ inside) refl

-- a transaction outside of a gap
pub follows_transaction : (c mid now : Checker) (tx : Transaction) → c.in_gap ≡ false
    → CheckerKeeps (record c { stray = checked_stray_after tx.result }) mid
    → CheckerSteps tx (record c { stray = checked_stray_after tx.result }) mid → now.crowded ≡ mid.crowded
    → (IsTx tx → now.broken ≡ None
    → (mid.broken ≡ None) × IdentificationNarrows tx mid.identification now.identification)
    → CheckerKeepsWorlds mid now → CheckerFollows (Tx tx) c now
follows_transaction c mid now tx outside keeps steps crowded narrows same = record {
  crowded = λ e. steps.stays.crowded (sym crowded ∙ e);
  shows = λ legal inside room whole start items h.
      let k = narrows legal whole in
      let s = steps.over h.over (sym crowded ∙ room) k.0 in
      let gap : checker_gap now ≡ checked_gap_over (items ++ Tx tx ∷ []) checked_gap_none =
      same.gap ∙ keeps.gap ∙ transaction_gap c tx c.in_gap refl outside ∙ ap (checked_gap_after (Tx tx)) h.gap
      ∙ sym (checked_gap_over_more items (Tx tx) checked_gap_none) in
      record {
        over = same.opening ∙ s.0;
        some = subst (λ (v : Worlds). 0 < length v.kept.items) (sym same.worlds) s.1;
        word = k.1.sound (subst (λ (i : Identification). IsWordSound i.word) (sym keeps.identification) h.word);
        gap = gap;
        inside = ap (λ g. g.in_gap) (same.gap ∙ keeps.gap) ∙ outside;
        each = λ n may.
            let both = k.1.each n may in
            let known : IsDpidrWord c.identification n =
            subst (λ i. IsDpidrWord i n) keeps.identification both.0 in
            let reach : WorldsReach (checked_link c.worlds.kept.items c.clean n (Tx tx)) mid.worlds =
            s.2 (checked_link c.worlds.kept.items c.clean n (Tx tx)) refl
            (record { wire = refl; item = refl; legal = legal; word = both.1 }) (shown_sound start items c n known h) in
            subst (λ b. All (λ kept. WorldIsShown start b n (items ++ Tx tx ∷ []) kept.world) now.worlds.kept.items)
            (sym (same.wire ∙ keeps.wire))
            (subst (λ (v : Worlds). All (λ kept. WorldIsShown start c.clean n (items ++ Tx tx ∷ []) kept.world)
            v.kept.items) (sym same.worlds)
            (reached_shown start items (Tx tx) c.worlds.kept.items c.clean (checker_gap c) mid.worlds n h.inside h.gap
            (λ a b x. x) reach (h.each n known)));
      };
}

-- a line reset shows itself, however many ones it has
reset_link : (from : List Kept) (clean : Bool) (n ones : ℕ) (ws : Worlds)
    → WorldsReach (checked_link from clean n (Reset 1)) ws → WorldsReach (checked_link from clean n (Reset ones)) ws
reset_link from clean n ones ws h = record {
  each = λ k d below. let r = h.each k d below in record { sound = r.sound; each = λ v exact. r.each v exact };
}

-- a line reset
pub follows_reset : (c : Checker) (ws : Worlds) (ones : ℕ)
    → ((clean : Bool) (n k : ℕ) → k ≢ 0 → AreKeptSound c.worlds.kept.items
    → WorldsReach (checked_link c.worlds.kept.items clean n (Reset k)) ws)
    → (0 < length c.worlds.kept.items → 0 < length ws.kept.items)
    → CheckerFollows (Reset ones) c (record c { in_gap = false; stray = 0; worlds = ws })
follows_reset c ws ones reach some = record {
  crowded = λ e. e;
  shows = λ legal inside room whole start items h. record {
    over = h.over;
    some = some h.some;
    word = h.word;
    gap = sym (checked_gap_over_more items (Reset ones) checked_gap_none);
    inside = refl;
    each = λ n may. reached_shown start items (Reset ones) c.worlds.kept.items c.clean (checker_gap c) ws n h.inside
        h.gap (λ a b x. x)
        (reset_link c.worlds.kept.items c.clean n ones ws
        (reach c.clean n 1 (λ e. absurd (omega arith)) (shown_sound start items c n may h))) (h.each n may);
  };
}

-- BEFORE THE FIRST ITEM
all_one : (P : Kept → Type 0) (x : Kept) → P x → All P (x ∷ [])
all_one P x h zero d below = h
all_one P x h (suc k) d below = absurd (omega arith)

made_tar : (tar : Option ℕ) → IsTarExact (TarFrom 0 0) tar → Some 0 ≡ tar
made_tar tar (index, within, is) = let none : index ≡ 0 = omega arith in ap (λ i. Some (0 + 4 * i)) (sym none) ∙ sym is

made_is_shown : (clean : Bool) (n : ℕ) → register_bit 0 n ≡ true → WorldIsShown Made clean n [] world_made
made_is_shown clean n odd = record {
  sound = record { tar = (omega arith, omega arith); buffer = tt; last_returned = tt };
  each = λ v answers exact.
      let s : Port = port_made n (made_bus answers) in (
        s,
        s,
        record { odd = odd; first = record { identification = n; bus = made_bus answers; is = refl } },
        refl,
        record {
          target = record {
            now = record {
              reset = refl;
              sticky_error = refl;
              write_error = refl;
              read_ok = refl;
              debug = refl;
              system = refl;
              mem_ap = refl;
              bank0 = refl;
              increments = refl;
              pending = refl;
              tar = (0, omega arith, refl);
              buffer = tt;
              last_returned = tt;
            };
            debug = tt;
            system = tt;
            tar = made_tar v.tar exact.tar;
            buffer = λ free. sym exact.buffer;
            last_returned = sym exact.last_returned;
            identification = refl;
            bus = refl;
          };
          awaits = refl;
        },
      );
}

-- a checker of a target in its reset state
pub checker_begins_shown : (c : Checker) (w : World) → w ≡ world_made → c.opening ≡ Over
    → c.worlds.kept.items ≡ (record { world = w; faults = 0 }) ∷ [] → c.identification.word ≡ None
    → checker_gap c ≡ checked_gap_none → c.crowded ≡ None → CheckerBegins c
checker_begins_shown c w made over kept word gap room = record {
  shows = record {
    over = over;
    some = subst (λ (l : List Kept). 0 < length l) (sym kept) (omega arith);
    word = subst IsWordSound (sym word) tt;
    gap = gap;
    inside = ap (λ g. g.in_gap) gap;
    each = λ n may. subst (λ (l : List Kept). All (λ kept. WorldIsShown Made c.clean n [] kept.world) l) (sym kept)
        (all_one (λ kept. WorldIsShown Made c.clean n [] kept.world) _
        (subst (WorldIsShown Made c.clean n []) (sym made) (made_is_shown c.clean n may.odd)));
  };
  uncrowded = room;
}

-- A WHOLE TRACE
-- DPIDR may return a word
dpidr_word : (word : Option Near) → IsWordSound word → (n : ℕ) × (n < 2 ^ 32) × (register_bit 0 n ≡ true)
    × IsWordIdentified word n
dpidr_word None sound = (1, omega arith, refl, tt)
dpidr_word (Some near) (sound, odd) =
    let n = near_sound near sound in
    (n.0, near_small near n.0 sound.small n.1, odd n.0 n.1, n.1)

-- some run shows the items
pub shown_by_run : (start : CheckStart) (items : List Item) (c : Checker) → CheckerShows start items c
    → AreShownByRun start c.clean items
shown_by_run start items c h =
    let n = dpidr_word c.identification.word h.word in
    let d : Kept = record { world = world_made; faults = 0 } in
    let w = h.each n.0 (record { small = n.1; odd = n.2; may = n.3 }) 0 d h.some in
    let v = world_some (slice_index_or c.worlds.kept.items 0 d).world w.sound in
    let r = w.each v.0 (λ made a. None) v.1 in
    record { first = r.0; last = r.1; starts = r.2; runs = r.3 }

-- an item of a list whose items are in range
pub legal_item : (items : List Item) (index : ℕ) (d : Item) → index < length items → AreLegalItems items
    → IsLegalItem (get_or items index d)
legal_item [] index d inside legal = absurd (omega arith)
legal_item (item ∷ items) zero d inside legal = legal.0
legal_item (item ∷ items) (suc index) d inside legal = legal_item items index d (omega arith) legal.1

-- no gap in items of which one is the last
pub checked_gapless_more : (g : CheckedGap) (items : List Item) (item : Item) → AreGapless g (items ++ item ∷ [])
    → AreGapless g items × ((checked_gap_after item (checked_gap_over items g)).in_gap ≡ false)
checked_gapless_more g [] item h = (h.0, h.1)
checked_gapless_more g (first ∷ items) item h =
    let r = checked_gapless_more (checked_gap_after first g) items item h.1 in ((h.0, r.0), r.1)

-- and none at their end
pub checked_gapless_end : (g : CheckedGap) (items : List Item) → AreGapless g items
    → (checked_gap_over items g).in_gap ≡ false
checked_gapless_end g [] h = h
checked_gapless_end g (first ∷ items) h = checked_gapless_end (checked_gap_after first g) items h.1

-- items in range of which one is the last
pub legal_items_more : (items : List Item) (item : Item) → AreLegalItems (items ++ item ∷ [])
    → AreLegalItems items × IsLegalItem item
legal_items_more [] item h = (tt, h.0)
legal_items_more (first ∷ items) item h =
    let r = legal_items_more items item h.1 in ((h.0, r.0), r.1)

-- what a checker of a target in its reset state stands for after some items
pub record CheckerFits (clean : Bool) (all items : List Item) (c : Checker) : Type 0 where
  pub ran : CheckerRuns Made clean items c
  pub room : c.crowded ≡ None
  pub shows : AreLegalItems all → AreGapless checked_gap_none items → CheckerShows Made items c

-- before the first
pub checker_fits_first : (clean : Bool) (items : List Item) (c : Checker) → CheckerStarts Made clean c
    → CheckerBegins c → CheckerFits clean items (take 0 items) c
checker_fits_first clean items c starts begins = record {
  ran = checker_begins Made clean items c starts;
  room = begins.uncrowded;
  shows = λ legal gapless. begins.shows;
}

-- after one more
pub checker_fits_more : (clean : Bool) (items : List Item) (index : ℕ) (d : Item) (c now : Checker)
    → index < length items → CheckerWatches (get_or items index d) c now → CheckerFollows (get_or items index d) c now
    → now.broken ≡ None → now.crowded ≡ None → CheckerFits clean items (take index items) c
    → CheckerFits clean items (take (index + 1) items) now
checker_fits_more clean items index d c now inside watches follows whole room h = record {
  ran = record { ran = checker_ran Made clean items index d c now inside watches h.ran; unbroken = whole };
  room = room;
  shows = subst (λ l. AreLegalItems items → AreGapless checked_gap_none l → CheckerShows Made l now)
      (sym (take_more items index d inside)) (λ legal gapless.
      let g = checked_gapless_more checked_gap_none (take index items) (get_or items index d) gapless in
      let before : CheckerShows Made (take index items) c = h.shows legal g.0 in
      follows.shows (legal_item items index d inside legal)
      (ap (λ z. (checked_gap_after (get_or items index d) z).in_gap) before.gap ∙ g.1) room whole Made
      (take index items) before);
}

-- some run shows them
pub fits_are_shown : (clean : Bool) (all items : List Item) (c : Checker) → CheckerFits clean all items c
    → AreLegalItems all → AreGapless checked_gap_none items → AreShownByRun Made clean items
fits_are_shown clean all items c h legal gapless =
    subst (λ b. AreShownByRun Made b items) h.ran.ran.wire (shown_by_run Made items c (h.shows legal gapless))

-- after all items
pub all_are_shown : (clean : Bool) (items : List Item) (index : ℕ) (c : Checker) → index ≡ length items
    → CheckerFits clean items (take index items) c → IsLongestShown clean items (length items)
all_are_shown clean items index c end h = record {
  inside = omega arith;
  shown = λ legal gapless. subst (λ n. AreShownByRun Made clean (take n items)) end
      (fits_are_shown clean items (take index items) c h legal
      (subst (λ n. AreGapless checked_gap_none (take n items)) (sym end) gapless));
  longest = λ below. absurd (omega arith);
}

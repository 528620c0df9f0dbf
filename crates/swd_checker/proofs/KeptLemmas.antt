-- Lists of worlds that are reached, while worlds are added and joined.
use Rattle.std.proofs.Common.{◌≡◌, ◌≢◌, ◌<◌, ◌≤◌, ◌+◌, ℕ, Bool, false, refl, sym, subst, arith}
use Rattle.std.proofs.Common.{◌⊎◌, inl, inr, List, [], ◌∷◌, ◌++◌, length, get_or}
use Rattle.std.specs.Prelude.{Option, Some, All, Contains, slice_index_or, ◌==◌, ◌||◌}
use Rattle.std.specs.List.{remove}
use Rattle.std.proofs.lemmas.List.Edits.{get_or-remove_below, get_or-remove_above, length-remove}
use Rattle.std.proofs.lemmas.List.{get_or_append_left, get_or_push, get_or_default, length_push}
use Rattle.swd_trace.specs.declared.item.Item.TheVariants.{Reset}
use Rattle.swd_port.specs.declared.state.Reset.TheVariants.{Fresh}
use Rattle.swd_port.specs.Port.{Port, Target}
use Rattle.swd_port.specs.Leading.{port_after_lead, port_line_awaits}
use Rattle.swd_checker.specs.declared.worlds.Kept.{Kept}
use Rattle.swd_checker.specs.declared.worlds.Worlds.{Worlds}
use Rattle.swd_checker.specs.Worlds.{World, world_after_reset}
use Rattle.swd_checker.specs.Exact.{WorldWords, CheckedAnswers, IsWorldSound, IsWorldTarget, IsWorldPort}
use Rattle.swd_checker.specs.Reaching.{CheckedLink, checked_link, WorldReaches, WorldsReach, WorldLeads, LinkHas}
use Rattle.swd_checker.specs.Reaching.{AreKeptSound, AreReachedJoined, IsReachedJoined}
use Rattle.swd_checker.proofs.DescribedLemmas.{reset_now, not_zero}

-- each of these worlds is reached
abbrev AreReached : CheckedLink → List Kept → Type 0
AreReached link items = All (λ kept. WorldReaches link kept.world) items

-- JOINING
-- what a world of the list and an added one are together
pub kept_reached_joined : (items slice : List Kept) (added : Kept) (place : ℕ) (d : Kept) (result : Option World)
    (joined : World) → slice ≡ items → place < length items
    → AreReachedJoined (get_or slice place d).world added.world result → result ≡ Some joined → (link : CheckedLink)
    → AreReached link items → WorldReaches link added.world → WorldReaches link joined
kept_reached_joined items slice added place d result joined same inside reaches is link all reached =
    subst (AreReachedJoined (get_or slice place d).world added.world) is reaches link
    (subst (λ l. WorldReaches link (get_or l place d).world) (sym same) (all place d inside)) reached

-- ADDING
-- while a world is added, all worlds of the list are reached, and the one that is to be added
pub record AreAddingReached (link : CheckedLink) (items : List Kept) (added : Kept) : Type 0 where
  pub all : AreReached link items
  pub last : WorldReaches link added.world

-- before the first is joined
pub adding_reached_first : (link : CheckedLink) (v : Worlds) (w : World) (added : Kept) → added.world ≡ w
    → WorldsReach link v → WorldReaches link w → AreAddingReached link v.kept.items added
adding_reached_first link v w added is reached world =
    record { all = reached.each; last = subst (WorldReaches link) (sym is) world }

before_or_after : (k place : ℕ) → (k < place) ⊎ (place ≤ k)
before_or_after k place = grind arith

all_removed : (P : Kept → Type 0) (items : List Kept) (place : ℕ) → place < length items → All P items
    → All P (remove items place)
all_removed P items place inside all k d below = elim (before_or_after k place)
    as (λ _. P (slice_index_or (remove items place) k d)) [
      | inl earlier ↦ subst P (sym (get_or-remove_below items place d k earlier inside)) (all k d (omega arith))
      | inr later ↦ subst P (sym (get_or-remove_above items place d k later inside))
          (all (k + 1) d (omega (arith, length-remove items place inside)))
    ]

-- one of the list is joined with the added one
pub adding_reached_joined : (link : CheckedLink) (items left : List Kept) (added joined : Kept) (place : ℕ)
    → left ≡ remove items place → place < length items → IsReachedJoined items added (Some (place, joined))
    → AreAddingReached link items added → AreAddingReached link left joined
adding_reached_joined link items left added joined place is inside reaches before = record {
  all = subst (AreReached link) (sym is)
      (all_removed (λ kept. WorldReaches link kept.world) items place inside before.all);
  last = reaches link before.all before.last;
}

all_pushed : (P : Kept → Type 0) (items : List Kept) (added : Kept) → All P items → P added
    → All P (items ++ added ∷ [])
all_pushed P items added all last k d below = elim (before_or_after k (length items))
    as (λ _. P (slice_index_or (items ++ added ∷ []) k d)) [
      | inl earlier ↦ subst P (sym (get_or_append_left items (added ∷ []) d k earlier)) (all k d earlier)
      | inr later ↦ (let at : length items ≡ k = omega (arith, length_push items added) in
          subst P (sym (get_or_push items added d k at)) last)
    ]

-- it is put at the end
pub adding_reached_last : (link : CheckedLink) (items : List Kept) (last : Worlds) (added : Kept)
    → last.kept.items ≡ items ++ added ∷ [] → AreAddingReached link items added → WorldsReach link last
adding_reached_last link items last added is h = record {
  each = subst (AreReached link) (sym is)
      (all_pushed (λ kept. WorldReaches link kept.world) items added h.all h.last);
}

-- there is no room for it
pub adding_reached_full : (link : CheckedLink) (items : List Kept) (last : Worlds) (added : Kept)
    → last.kept.items ≡ items → AreAddingReached link items added → WorldsReach link last
adding_reached_full link items last added is h = record { each = subst (AreReached link) (sym is) h.all }

-- no world is reached, or isn't
pub none_reached : (link : CheckedLink) (v : Worlds) → v.kept.items ≡ [] → WorldsReach link v
none_reached link v none = record {
  each = subst (AreReached link) (sym none) (λ k d below. absurd (omega arith));
}

-- an element of a list
kept_within : (before : List Kept) (index : ℕ) (d : Kept) → index < length before
    → slice_index_or before index (get_or before index d) ≡ get_or before index d
kept_within before index d inside = get_or_default before index (get_or before index d) d inside

-- a world of the list
pub link_has_next : (link : CheckedLink) (before : List Kept) (index : ℕ) (d : Kept) → link.from ≡ before
    → index < length before → AreKeptSound before → LinkHas link (get_or before index d).world
link_has_next link before index d same inside sound = record {
  kept = get_or before index d;
  within = subst (λ (items : List Kept). Contains items (get_or before index d)) (sym same)
      (index, inside, kept_within before index d inside);
  is = refl;
  sound = sound index d inside;
}

-- LINE RESETS
reset_target : (w : World) (n : ℕ) (v : WorldWords) (answers : CheckedAnswers) (awaits : Bool) (x : Target)
    → awaits ≡ w.awaits → IsWorldTarget w n v answers x → IsWorldTarget (world_after_reset w) n v answers
    (record x { reset = Fresh; write_error = awaits || x.write_error })
reset_target w n v answers awaits x same h = record {
  now = reset_now w awaits x same h.now;
  debug = h.debug;
  system = h.system;
  tar = h.tar;
  buffer = h.buffer;
  last_returned = h.last_returned;
  identification = h.identification;
  bus = h.bus;
}

reset_port : (w : World) (n : ℕ) (v : WorldWords) (answers : CheckedAnswers) (ones : ℕ) (s : Port)
    → (ones == 0) ≡ false → IsWorldPort w n v answers s
    → IsWorldPort (world_after_reset w) n v answers (port_after_lead ones s)
reset_port w n v answers ones s some h = record {
  target = rw some (reset_target w n v answers (port_line_awaits s.link.line) s.target h.awaits h.target);
  awaits = rw some refl;
}

reset_leads : (clean : Bool) (n ones : ℕ) (w : World) (v : WorldWords) → ones ≢ 0
    → WorldLeads clean n (Reset ones) w v (world_after_reset w) v
reset_leads clean n ones w v some = λ after. (
  after,
  λ s h. (
    port_after_lead ones s,
    (ones, some, (s, port_after_lead ones s, inl refl, record { after = refl }, inl refl)),
    reset_port w n v after ones s (not_zero ones some) h,
  ),
)

-- a line reset in a world of the list
pub reset_reaches : (before : List Kept) (clean : Bool) (n ones index : ℕ) (d : Kept) → ones ≢ 0
    → index < length before → AreKeptSound before
    → WorldReaches (checked_link before clean n (Reset ones)) (world_after_reset (get_or before index d).world)
reset_reaches before clean n ones index d some inside sound =
    let w : World = (get_or before index d).world in
    let is_sound : IsWorldSound w = sound index d inside in
    record {
      sound = record {
        tar = is_sound.tar;
        buffer = is_sound.buffer;
        last_returned = is_sound.last_returned;
      };
      each = λ v exact. (
        index,
        get_or before index d,
        inside,
        kept_within before index d inside,
        (
          v,
          record { tar = exact.tar; buffer = exact.buffer; last_returned = exact.last_returned },
          reset_leads clean n ones w v some,
        ),
      );
    }

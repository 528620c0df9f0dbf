-- What the worlds hold once an item was taken in each of a list of worlds.
use Rattle.std.proofs.Common.{◌≡◌, ◌≢◌, ◌<◌, ◌≤◌, ◌+◌, ℕ, refl, sym, subst, arith, ◌∙◌, ◌⊎◌, inl, inr, List, [], length}
use Rattle.std.proofs.Common.{get_or}
use Rattle.std.proofs.Common.{Bool}
use Rattle.std.specs.Prelude.{slice_index_or}
use Rattle.std.proofs.lemmas.List.{get_or_default}
use Rattle.swd_bits.specs.declared.tx.Tx.{Tx as Transaction}
use Rattle.swd_trace.specs.declared.item.Item.TheVariants.{Reset}
use Rattle.swd_port.specs.Port.{Port}
use Rattle.swd_port.specs.Leading.{PortLeads, port_line_awaits}
use Rattle.swd_checker.specs.declared.worlds.Kept.{Kept}
use Rattle.swd_checker.specs.declared.worlds.Worlds.{Worlds}
use Rattle.swd_checker.specs.Worlds.{World, world_after_reset}
use Rattle.swd_checker.specs.Holding.{KeptDescribes, WorldsHold, WorldsKeep, WorldsGrow, WorldsHoldPort, AnyKeptHolds}
use Rattle.swd_checker.specs.Laws.{WorldDescribesPort}
use Rattle.swd_checker.specs.Checked.{CheckedTransacts}
use Rattle.swd_checker.specs.Reaching.{CheckedLink, checked_link, WorldReaches, WorldsReach, LinkSteps, LinkHas}
use Rattle.swd_checker.specs.Reaching.{AreKeptSound}
use Rattle.swd_checker.proofs.AddedLemmas.{WorldIsAdded}
use Rattle.swd_checker.proofs.DescribedLemmas.{world_at_reset}
use Rattle.swd_checker.proofs.KeptLemmas.{none_reached, link_has_next, reset_reaches}
use Rattle.swd_checker.proofs.HoldingLemmas.{worlds_keep_then, worlds_grow_then, worlds_hold_as}

-- the worlds of a list up to an index are stepped by a relation of the states before and after
pub record WorldsStepped (R : Port → Port → Type 0) (before : List Kept) (index : ℕ) (u v : Worlds) : Type 0 where
  pub keeps : WorldsKeep u v
  pub each : (k : ℕ) (kept : Kept) → k < index → slice_index_or before k kept ≡ kept → (s t : Port) → R s t
      → KeptDescribes kept (port_line_awaits s.link.line) s.target → WorldsHoldPort v t

-- none of them
pub stepped_none : (R : Port → Port → Type 0) (before : List Kept) (u : Worlds) → WorldsStepped R before 0 u u
stepped_none R before u = record {
  keeps = record { each = λ awaited x held. held };
  each = λ k kept below is s t r d. absurd (omega arith);
}

last_kept : (k index : ℕ) → k < index + 1 → (k < index) ⊎ (k ≡ index)
last_kept k index h = grind arith

-- one more
pub stepped_more : (R : Port → Port → Type 0) (before : List Kept) (index : ℕ) (u v last : Worlds) (kept : Kept)
    → index < length before → slice_index_or before index kept ≡ kept → WorldsKeep v last
    → ((s t : Port) → R s t → WorldDescribesPort kept.world s → WorldsHoldPort last t)
    → WorldsStepped R before index u v → WorldsStepped R before (index + 1) u last
stepped_more R before index u v last kept inside at keeps steps h = record {
  keeps = worlds_keep_then u v last h.keeps keeps;
  each = λ k other below is s t r d. elim (last_kept k index below) as (λ _. WorldsHoldPort last t) [
    | inl earlier ↦ keeps.each _ _ (h.each k other earlier is s t r d)
    | inr same ↦ (
        let e : slice_index_or before index other ≡ other = subst (λ n. slice_index_or before n other ≡ other) same is
        in
        let f : other ≡ kept = sym e ∙ get_or_default before index other kept inside ∙ at in
        let p : KeptDescribes kept (port_line_awaits s.link.line) s.target =
        subst (λ z. KeptDescribes z (port_line_awaits s.link.line) s.target) f d in
        steps s t r (record { target = p.target; awaits = p.awaits })
        )
  ];
}

-- the next one of the list
pub stepped_next : (R : Port → Port → Type 0) (before : List Kept) (index : ℕ) (u v last : Worlds) (d : Kept)
    → index < length before → WorldsKeep v last
    → ((s t : Port) → R s t → WorldDescribesPort (get_or before index d).world s → WorldsHoldPort last t)
    → WorldsStepped R before index u v → WorldsStepped R before (index + 1) u last
stepped_next R before index u v last d inside keeps steps h =
    stepped_more R before index u v last (get_or before index d) inside
    (get_or_default before index (get_or before index d) d inside) keeps steps h

-- all of them
pub stepped_all : (R : Port → Port → Type 0) (before : List Kept) (index : ℕ) (u v : Worlds) → length before ≤ index
    → WorldsStepped R before index u v → (s t : Port) → R s t → AnyKeptHolds before s → WorldsHoldPort v t
stepped_all R before index u v past h s t r (k, kept, within, is, d) = h.each k kept (omega arith) is s t r d

-- TRANSACTIONS
-- the worlds of a list up to an index after a transaction
pub record WorldsTransacted (clean : Bool) (tx : Transaction) (before : List Kept) (index : ℕ) (u v : Worlds) : Type 0
  where
    pub stepped : WorldsStepped (λ s t. CheckedTransacts clean tx.result tx.request s t) before index u v
    pub reaches : (link : CheckedLink) → link.from ≡ before → LinkSteps link clean tx → AreKeptSound before
        → WorldsReach link u → WorldsReach link v

-- before the first
pub transacted_none : (clean : Bool) (tx : Transaction) (before : List Kept) (u : Worlds)
    → WorldsTransacted clean tx before 0 u u
transacted_none clean tx before u = record {
  stepped = stepped_none (λ s t. CheckedTransacts clean tx.result tx.request s t) before u;
  reaches = λ link same steps sound reached. reached;
}

-- the next one of the list
pub transacted_next : (clean : Bool) (tx : Transaction) (before : List Kept) (index : ℕ) (u v last : Worlds) (d : Kept)
    → index < length before → WorldsKeep v last
    → ((s t : Port) → CheckedTransacts clean tx.result tx.request s t
    → WorldDescribesPort (get_or before index d).world s → WorldsHoldPort last t)
    → ((link : CheckedLink) → WorldsReach link v → LinkSteps link clean tx
    → LinkHas link (get_or before index d).world → WorldsReach link last)
    → WorldsTransacted clean tx before index u v → WorldsTransacted clean tx before (index + 1) u last
transacted_next clean tx before index u v last d inside keeps steps reaches h = record {
  stepped = stepped_next (λ s t. CheckedTransacts clean tx.result tx.request s t) before index u v last d inside keeps
      steps h.stepped;
  reaches = λ link same steps sound reached. reaches link (h.reaches link same steps sound reached) steps
      (link_has_next link before index d same inside sound);
}

-- LINE RESETS
abbrev pub LeadsReset : Port → Port → Type 0
LeadsReset s t = (ones : ℕ) × (ones ≢ 0) × PortLeads s ones t

-- the worlds of a list up to an index after a line reset
pub record WorldsReset (before : List Kept) (index : ℕ) (u v : Worlds) : Type 0 where
  pub stepped : WorldsStepped LeadsReset before index u v
  pub grows : WorldsGrow index u v
  pub some : 0 < index → 0 < length v.kept.items
  pub reaches : (clean : Bool) (n ones : ℕ) → ones ≢ 0 → AreKeptSound before
      → WorldsReach (checked_link before clean n (Reset ones)) u
      → WorldsReach (checked_link before clean n (Reset ones)) v

-- before the first
pub reset_none : (before : List Kept) (u : Worlds) → WorldsReset before 0 u u
reset_none before u = record {
  stepped = stepped_none LeadsReset before u;
  grows = record { few = omega arith; fits = λ room. refl };
  some = λ below. absurd (omega arith);
  reaches = λ clean n ones some sound reached. reached;
}

-- the next one of the list
pub reset_next : (before : List Kept) (index : ℕ) (u v last : Worlds) (d : Kept) (after : World)
    → index < length before → after ≡ world_after_reset (get_or before index d).world → WorldsKeep v last
    → WorldIsAdded after last → WorldsGrow 1 v last → 0 < length last.kept.items
    → ((link : CheckedLink) → WorldsReach link v → WorldReaches link after → WorldsReach link last)
    → WorldsReset before index u v → WorldsReset before (index + 1) u last
reset_next before index u v last d after inside same keeps adds grows kept reaches h = let w = (get_or before index
    d).world in
    record {
      stepped = stepped_next LeadsReset before index u v last d inside keeps (λ s t r k.
          let p : WorldDescribesPort (world_after_reset w) t = world_at_reset w r.0 s t r.1 r.2 k in
          subst (λ b. WorldsHold last b t.target) (sym p.awaits)
          (worlds_hold_as last after (world_after_reset w) (world_after_reset w).awaits t.target adds same refl
          p.target))
          h.stepped;
      grows = worlds_grow_then index 1 u v last h.grows grows;
      some = λ below. kept;
      reaches = λ clean n ones some sound reached. reaches (checked_link before clean n (Reset ones))
          (h.reaches clean n ones some sound reached)
          (subst (WorldReaches (checked_link before clean n (Reset ones))) (sym same)
          (reset_reaches before clean n ones index d some inside sound));
    }

-- all of them
pub reset_all : (before : List Kept) (index : ℕ) (u v : Worlds) → length before ≤ index → WorldsReset before index u v
    → (ones : ℕ) (s t : Port) → ones ≢ 0 → PortLeads s ones t → AnyKeptHolds before s → WorldsHoldPort v t
reset_all before index u v past h ones s t some leads held =
    stepped_all LeadsReset before index u v past h.stepped s t (ones, some, leads) held

-- no more than these are added
pub reset_grows : (before : List Kept) (index : ℕ) (u v : Worlds) → index ≤ length before
    → WorldsReset before index u v → WorldsGrow (length before) u v
reset_grows before index u v inside h = let few = h.grows.few in record {
  few = omega (arith, few, inside);
  fits = λ room. h.grows.fits (omega (arith, room, inside));
}

-- all worlds that were held, and no others
pub reset_kept : (items before : List Kept) (u v : Worlds) (clean : Bool) (n ones : ℕ) → before ≡ items → ones ≢ 0
    → AreKeptSound items → u.kept.items ≡ [] → ((clean : Bool) (n ones : ℕ) → ones ≢ 0 → AreKeptSound before
    → WorldsReach (checked_link before clean n (Reset ones)) u
    → WorldsReach (checked_link before clean n (Reset ones)) v)
    → WorldsReach (checked_link items clean n (Reset ones)) v
reset_kept items before u v clean n ones same some sound none reaches =
    subst (λ (kept : List Kept). WorldsReach (checked_link kept clean n (Reset ones)) v) same
    (reaches clean n ones some (subst AreKeptSound (sym same) sound)
    (none_reached (checked_link before clean n (Reset ones)) u none))

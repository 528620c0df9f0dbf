-- Laws of a read of DRW or RDBUFF in a world: the world after it stands for what the read leads to, and nothing else.
use Rattle.std.proofs.Common.{◌≡◌, ◌<◌, ℕ, zero, suc, ◌^◌, Bool, true, false, List, [], ◌∷◌, length, refl, sym, ap}
use Rattle.std.proofs.Common.{subst, arith, ◌∙◌}
use Rattle.std.proofs.Common.{◌⊎◌, inl, inr}
use Rattle.std.specs.List.{Any, refill}
use Rattle.std.specs.Prelude.{Option, Some, None, IfSome, unwrap_or, if◌then◌else◌, All, Contains}
use Rattle.std.specs.Prelude.{slice_index_or, slice_set}
use Rattle.swd_bits.specs.declared.request.Request.{Request}
use Rattle.swd_bits.specs.declared.tx.Tx.{Tx as Transaction}
use Rattle.swd_bits.specs.declared.tx.TxEnd.TheVariants.{Moved}
use Rattle.swd_bits.specs.Transactions.{IsTxEnd}
use Rattle.swd_port.specs.declared.register.Register.{Register}
use Rattle.swd_port.specs.declared.register.Register.TheVariants.{DrwRead, RdbuffRead}
use Rattle.swd_port.specs.declared.state.Reply.TheVariants.{Okay}
use Rattle.swd_port.specs.Port.{port_register, Port}
use Rattle.swd_port.specs.Answers.{is_exempt_register}
use Rattle.swd_port.specs.Asking.{is_port_posted}
use Rattle.swd_checker.specs.declared.near.Near.{Near}
use Rattle.swd_checker.specs.declared.step.Asked.{Asked}
use Rattle.swd_checker.specs.declared.worlds.Kept.{Kept}
use Rattle.swd_checker.specs.declared.worlds.Worlds.{Worlds}
use Rattle.swd_checker.specs.Worlds.{World, Held, Transfer, world_success_of, world_succeeded, world_confirmed}
use Rattle.swd_checker.specs.Described.{CheckedHeld, IsCheckedNear}
use Rattle.swd_checker.specs.Words.{IsSomeHeld}
use Rattle.swd_checker.specs.Exact.{IsNearSound}
use Rattle.swd_checker.specs.Checked.{CheckedTransacts, CheckedHasMoved}
use Rattle.swd_checker.specs.Laws.{WorldDescribesPort}
use Rattle.swd_checker.specs.Holding.{AnyKeptHolds, KeptDescribes, WorldsHoldPort}
use Rattle.swd_checker.specs.Adding.{WorldsPost, WorldsRead}
use Rattle.swd_checker.specs.Reached.{WorldsMove, WorldsTransfer, WorldsPostHeld, world_accepted}
use Rattle.swd_checker.specs.Reaching.{CheckedLink, LinkSteps, LinkHas, WorldReaches, WorldsReach, AreKeptSound}
use Rattle.swd_checker.specs.Reaching.{HeldNarrows, checked_near_of}
use Rattle.swd_checker.specs.Steps.{world_due, world_posted, world_register}
use Rattle.swd_checker.specs.Alone.{WorldReturns, world_reading}
use Rattle.swd_checker.proofs.AddedLemmas.{WorldIsAdded, accepted_confirmed}
use Rattle.swd_checker.proofs.AddingLemmas.{post_drw, post_rdbuff, read_posted_some}
use Rattle.swd_checker.proofs.LinkLemmas.{link_moves}
use Rattle.swd_checker.proofs.GivenLemmas.{checked_kept_plain}
use Rattle.swd_checker.proofs.DueLemmas.{world_names}
use Rattle.swd_checker.proofs.NearLemmas.{near_of_has}
use Rattle.swd_checker.proofs.ReachLemmas.{near_of_sound}
use Rattle.swd_checker.proofs.TransactLemmas.{moves_read}

-- what is known of the read buffer, from what narrows it
pub alone_returns : (w : World) (q : Request) (word : ℕ) (near : Near) (buffer : Held) (r : Option Held)
    → world_due w q ≡ Okay → near ≡ checked_near_of word → buffer ≡ (world_succeeded w).buffer
    → ((value : Option ℕ) (filler : ℕ) → CheckedHeld buffer value → IsCheckedNear near (unwrap_or value filler)
    → IsSomeHeld r value) → (IsNearSound near → IfSome r (λ held. HeldNarrows buffer near held))
    → IfSome r (λ held. WorldReturns w q word held)
alone_returns w q word near buffer None okay n b all exact = tt
alone_returns w q word near buffer (Some held) okay n b all exact = record {
  okay = okay;
  all = subst (λ (z : Near). (value : Option ℕ) (filler : ℕ) → CheckedHeld (world_succeeded w).buffer value
      → IsCheckedNear z (unwrap_or value filler) → CheckedHeld held value) n
      (subst (λ (z : Held). (value : Option ℕ) (filler : ℕ) → CheckedHeld z value
      → IsCheckedNear near (unwrap_or value filler) → CheckedHeld held value) b all);
  exact = subst (λ (z : Near). IsNearSound z → HeldNarrows (world_succeeded w).buffer z held) n
      (subst (λ (z : Held). IsNearSound near → HeldNarrows z near held) b exact);
}

-- after OK nothing is pending
none_pending : (w : World) (powered : Bool) → (world_confirmed powered w).pending ≡ None
none_pending w powered = by w.pending refl
  where
    by : (transfer : Option Transfer) → w.pending ≡ transfer → (world_success_of transfer w).pending ≡ None
    by None e = e
    by (Some transfer) e = refl

-- so after a read of RDBUFF the same is pending as after OK
rdbuff_same : (w : World) (powered : Bool) (held : Held) → world_reading RdbuffRead powered held w
    ≡ world_posted held (record (world_confirmed powered w) { awaits = false })
rdbuff_same w powered held =
    ap (λ p. record (world_posted held (record (world_confirmed powered w) { awaits = false })) { pending = p })
    (sym (none_pending w powered))

abbrev IsAloneRead : Register → Type 0
IsAloneRead r = (r ≡ DrwRead) ⊎ (r ≡ RdbuffRead)

refusable : (r : Register) → IsAloneRead r → is_exempt_register r ≡ false
refusable r which = elim which [ inl e ↦ ap is_exempt_register e | inr e ↦ ap is_exempt_register e ]

posted_register : (r : Register) → IsAloneRead r → is_port_posted r ≡ true
posted_register r which = elim which [ inl e ↦ ap is_port_posted e | inr e ↦ ap is_port_posted e ]

posts_alone : (w : World) (r : Register) (powered : Bool) (held : Held) (v : Worlds) → IsAloneRead r
    → WorldIsAdded (world_reading r powered held w) v
    → WorldsPost v (record (world_confirmed powered w) { awaits = false }) r held
posts_alone w r powered held v which adds =
    let a : World = record (world_confirmed powered w) { awaits = false } in
    elim which as (λ _. WorldsPost v a r held) [
      | inl e ↦ subst (λ z. WorldsPost v a z held) (sym e) (post_drw v a (world_posted held a) held
          (subst (λ z. WorldIsAdded (world_reading z powered held w) v) e adds) refl)
      | inr e ↦ subst (λ z. WorldsPost v a z held) (sym e) (post_rdbuff v a (world_posted held a) RdbuffRead held
          (subst (λ z. WorldIsAdded z v) (rdbuff_same w powered held)
          (subst (λ z. WorldIsAdded (world_reading z powered held w) v) e adds)) refl
          (λ f. absurd (cc)) (λ f. absurd (cc)) (λ f. absurd (cc)) (λ f. absurd (cc)))
    ]

-- it describes the port after the read
alone_steps : (clean : Bool) (tx : Transaction) (w : World) (r : Register) (word : ℕ) (held : Held) (v : Worlds)
    → tx.request.read ≡ true → tx.result ≡ Moved word true → r ≡ world_register w tx.request → IsAloneRead r
    → WorldReturns w tx.request word held → WorldIsAdded (world_reading r tx.request.ap held w) v → (s t : Port)
    → CheckedTransacts clean tx.result tx.request s t → WorldDescribesPort w s → WorldsHoldPort v t
alone_steps clean tx w r word held v read is same which returns adds s t h d =
    let q : Request = tx.request in
    let a : World = record (world_confirmed q.ap w) { awaits = false } in
    let asked : Asked = record { world = w; request = q; register = r; faults = 0; clean = clean } in
    let now_asked : Asked = record { world = a; request = q; register = r; faults = 0; clean = clean } in
    let plain : is_exempt_register (port_register s.target.select q) ≡ false =
    ap is_exempt_register (world_names w s.target q d.target ∙ sym same) ∙ refusable r which in
    let moved : CheckedHasMoved clean q word true s t = checked_kept_plain clean (Moved word true) q s t plain
    (subst (λ e. CheckedTransacts clean e q s t) is h) in
    let reads : WorldsRead v a r (checked_near_of word) true =
    read_posted_some v a r (checked_near_of word) true held (Some held) refl (posted_register r which) returns.all
    (posts_alone w r q.ap held v which adds) in
    moves_read asked now_asked v (checked_near_of word) word true s t read refl
    (record { request = refl; register = refl; clean = refl }) refl
    (λ c x by described settled okay. accepted_confirmed asked (world_confirmed q.ap w) false c x by refl
    (refusable r which) described settled okay)
    reads (near_of_has word) (record { register = same }) moved d

-- each state that it stands for is one to which the read leads
alone_reaches : (link : CheckedLink) (clean : Bool) (tx : Transaction) (w : World) (r : Register) (word : ℕ)
    (held : Held) → tx.request.read ≡ true → tx.result ≡ Moved word true → r ≡ world_register w tx.request
    → IsAloneRead r → WorldReturns w tx.request word held → LinkSteps link clean tx → LinkHas link w
    → WorldReaches link (world_reading r tx.request.ap held w)
alone_reaches link clean tx w r word held read is same which returns steps has =
    let q : Request = tx.request in
    let a : World = record (world_confirmed q.ap w) { awaits = false } in
    let moves : WorldsMove link w q r clean word true =
    subst (λ z. WorldsMove link w q z clean word true) (sym same) (link_moves link w clean tx word true steps has is) in
    let accepted : world_accepted false r q.ap w ≡ a =
    ap (λ z. record (if z then w else world_confirmed q.ap w) { awaits = false }) (refusable r which) in
    let transfer : WorldsTransfer link a r q.read clean word true =
    subst (λ z. WorldsTransfer link z r q.read clean word true) accepted (moves returns.okay) in
    let small : word < 2 ^ 32 = subst IsTxEnd is steps.legal in
    let post : WorldsPostHeld link a r held = (transfer.whole read refl).posted (posted_register r which) held
    (returns.exact (near_of_sound (checked_near_of word) word refl small)) in
    elim which as (λ _. WorldReaches link (world_reading r q.ap held w)) [
      | inl e ↦ subst (λ z. WorldReaches link (world_reading z q.ap held w)) (sym e) (post.drw e)
      | inr e ↦ subst (λ z. WorldReaches link (world_reading z q.ap held w)) (sym e)
          (subst (WorldReaches link) (sym (rdbuff_same w q.ap held)) (post.rdbuff e))
    ]

-- a list of one world
alone_kept : (items : List Kept) → length items ≡ 1 → (kept : Kept) × (items ≡ kept ∷ [])
alone_kept [] one = absurd (omega arith)
alone_kept (kept ∷ []) one = (kept, refl)
alone_kept (kept ∷ other ∷ items) one = absurd (omega arith)

-- what it holds
describes_alone : (items : List Kept) (kept : Kept) → items ≡ kept ∷ [] → (s : Port) → AnyKeptHolds items s
    → WorldDescribesPort kept.world s
describes_alone items kept is s held = by (subst (λ z. AnyKeptHolds z s) is held)
  where
    by : AnyKeptHolds (kept ∷ []) s → WorldDescribesPort kept.world s
    by (zero, found, within, same, d) = subst (λ (z : Kept). WorldDescribesPort z.world s) (sym same)
        (record { target = d.target; awaits = d.awaits })
    by (suc n, found, within, same, d) = absurd (omega arith)

added_alone : (v : Worlds) (kept : Kept) → v.kept.items ≡ kept ∷ [] → WorldIsAdded kept.world v
added_alone v kept is = λ x d. record {
  held = λ e. subst (λ items. Any (λ k. KeptDescribes k kept.world.awaits x) items) (sym is)
      (0, kept, omega arith, refl, record { awaits = refl; target = d });
}

reached_alone : (link : CheckedLink) (v : Worlds) (kept : Kept) → v.kept.items ≡ kept ∷ []
    → WorldReaches link kept.world → WorldsReach link v
reached_alone link v kept is reaches = record {
  each = subst (λ items. All (λ k. WorldReaches link k.world) items) (sym is) by;
}
  where
    by : All (λ k. WorldReaches link k.world) (kept ∷ [])
    by zero d below = reaches
    by (suc n) d below = absurd (omega arith)

has_alone : (link : CheckedLink) (items : List Kept) (kept : Kept) → link.from ≡ items → items ≡ kept ∷ []
    → AreKeptSound items → LinkHas link kept.world
has_alone link items kept same is sound = record {
  kept = kept;
  within = subst (λ z. Contains z kept) (sym (same ∙ is)) (0, omega arith, refl);
  is = refl;
  sound = subst AreKeptSound is sound 0 kept (omega arith);
}

-- the worlds after a transaction in these ones are all to which it leads
pub record AloneTaken (tx : Transaction) (before : List Kept) (v : Worlds) : Type 0 where
  pub steps : (clean : Bool) (s t : Port) → CheckedTransacts clean tx.result tx.request s t → AnyKeptHolds before s
      → WorldsHoldPort v t
  pub reaches : (link : CheckedLink) (clean : Bool) → link.from ≡ before → LinkSteps link clean tx
      → AreKeptSound before → WorldsReach link v

taken_by : (tx : Transaction) (before : List Kept) (kept next : Kept) (r : Register) (word : ℕ) (held : Held)
    (v : Worlds) → before ≡ kept ∷ [] → v.kept.items ≡ next ∷ [] → tx.request.read ≡ true
    → tx.result ≡ Moved word true → r ≡ world_register kept.world tx.request → IsAloneRead r
    → WorldReturns kept.world tx.request word held → next.world ≡ world_reading r tx.request.ap held kept.world
    → AloneTaken tx before v
taken_by tx before kept next r word held v is left read moved same which returns becomes = record {
  steps = λ clean s t h any. alone_steps clean tx kept.world r word held v read moved same which returns
      (subst (λ z. WorldIsAdded z v) becomes (added_alone v next left)) s t h (describes_alone before kept is s any);
  reaches = λ link clean from steps sound. reached_alone link v next left
      (subst (WorldReaches link) (sym becomes)
      (alone_reaches link clean tx kept.world r word held read moved same which returns steps
      (has_alone link before kept from is sound)));
}

-- the only world takes a read in place
pub alone_taken : (items seen changed : List Kept) (d e : Kept) (tx : Transaction) (word : ℕ) (r : Register)
    (held : Held) (next : World) (faults : ℕ) (v : Worlds) → length items ≡ 1 → seen ≡ items → changed ≡ items
    → tx.request.read ≡ true → tx.result ≡ Moved word true
    → r ≡ world_register (slice_index_or seen 0 d).world tx.request → (r ≡ DrwRead) ⊎ (r ≡ RdbuffRead)
    → WorldReturns (slice_index_or seen 0 d).world tx.request word held
    → next ≡ world_reading r tx.request.ap held (slice_index_or changed 0 e).world
    → v.kept.items ≡ refill (length items) items (slice_set changed 0 (record { world = next; faults = faults }))
    → AloneTaken tx items v
alone_taken items seen changed d e tx word r held next faults v one first second read moved same which returns becomes
    left =
    let k = alone_kept items one in
    let kept : Kept = k.0 in
    let put : Kept = record { world = next; faults = faults } in
    let at_first : slice_index_or seen 0 d ≡ kept = ap (λ z. slice_index_or z 0 d) (first ∙ k.1) in
    let at_then : slice_index_or changed 0 e ≡ kept = ap (λ z. slice_index_or z 0 e) (second ∙ k.1) in
    let is : v.kept.items ≡ put ∷ [] = left ∙ ap (λ z. refill (length items) items (slice_set z 0 put)) (second ∙ k.1)
    ∙ ap (λ z. refill (length z) z (slice_set (kept ∷ []) 0 put)) k.1 in
    taken_by tx items kept put r word held v k.1 is read moved
    (same ∙ ap (λ (z : Kept). world_register z.world tx.request) at_first) which
    (subst (λ (z : Kept). WorldReturns z.world tx.request word held) at_first returns)
    (becomes ∙ ap (λ (z : Kept). world_reading r tx.request.ap held z.world) at_then)

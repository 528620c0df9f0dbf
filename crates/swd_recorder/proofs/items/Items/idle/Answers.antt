use Rattle.std.proofs.Common.{◌≡◌, ◌<◌, ◌-◌, ◌+◌, ◌^◌, ℕ, List, [], ◌∷◌, true, refl, sym, subst, length, ◌∙◌, arith}
use Rattle.std.specs.Prelude.{slice_set}
use Rattle.swd_trace.specs.declared.item.Item.{Item}
use Rattle.swd_trace.specs.declared.item.Item.TheVariants.{Idle}
use Rattle.swd_recorder.specs.Chains.{Clear, is_recorded_chain, recorded_place_of, recorded_may_follow}
use Rattle.swd_recorder.specs.Items.{recorded_with_item, recorded_idle_at_end}
use Rattle.swd_recorder.specs.Kept.{recorder_kept_of}
use Rattle.swd_recorder.proofs.ChainLemmas.{recorded_idle_apart, recorder_both_true, recorded_idle_joined_last}
use Rattle.swd_recorder.proofs.ChainLemmas.{recorded_chain_join}
use Rattle.swd_recorder.proofs.AddLemmas.{recorder_adds_whole}
use Rattle.swd_recorder.proofs.items.Items.idle.Goals as goal

pub append-requires-clause-chained : goal.append-requires-clause-chained
append-requires-clause-chained g c = λ uncut.
    let items = c.args.self.now.list.items in
    recorder_both_true (recorded_may_follow (recorded_place_of items) (Idle c.args.zeros)) true
    (recorded_idle_apart items c.args.zeros c.args.self.now.chained
    (sym c.idle_so_far-so_far.ensures ∙ c.if-so_far-eq0.true) (c.requires uncut) c.ranges.zeros.fits) refl

-- the last item is the idle cycles so far and these
joins : (items : List Item) (len so_far sum more : ℕ) → len ≡ length items → so_far ≡ recorded_idle_at_end items
    → 0 < recorded_idle_at_end items → sum ≡ so_far + more →
    slice_set items (len - 1) (Idle sum) ≡ recorded_with_item items (Idle more)
joins items len so_far sum more l s some e =
    let sum_is : sum ≡ recorded_idle_at_end items + more = omega (arith, s, e) in
    rw (l, sum_is) (recorded_idle_joined_last items more some)

pub invariant_of-self : goal.invariant_of-self
invariant_of-self g c =
    let items = c.args.self.now.list.items in
    let some : 0 < recorded_idle_at_end items = omega (arith, c.idle_so_far-so_far.ensures, c.if-so_far-eq0.false) in
    let fits : recorded_idle_at_end items + c.args.zeros < 2 ^ 64 = omega
    (arith, c.idle_so_far-so_far.ensures, c.in-Some.ensures.0) in
    record {
      chained = subst (λ l. is_recorded_chain Clear l ≡ true)
          (sym (joins items c.len-last.result c.idle_so_far-so_far.result c.in-Some.sum c.args.zeros
          (c.len-last.ensures ∙ c.args.self.now.list.ok.0) c.idle_so_far-so_far.ensures some c.in-Some.ensures.1))
          (recorded_chain_join Clear items c.args.zeros c.args.self.now.chained some fits);
    }

pub returns-in-Some : goal.returns-in-Some
returns-in-Some g c =
    let items = c.args.self.now.list.items in
    let some : 0 < recorded_idle_at_end items = omega (arith, c.idle_so_far-so_far.ensures, c.if-so_far-eq0.false) in
    recorder_adds_whole (Idle c.args.zeros ∷ []) (recorder_kept_of c.args.self.now) _ c.if-self.false c.if-self.false
    (joins items c.len-last.result c.idle_so_far-so_far.result c.in-Some.sum c.args.zeros
    (c.len-last.ensures ∙ c.args.self.now.list.ok.0) c.idle_so_far-so_far.ensures some c.in-Some.ensures.1)

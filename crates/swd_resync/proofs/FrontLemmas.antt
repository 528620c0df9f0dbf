-- Laws of the transaction that a decoder of captures keeps.
use Rattle.std.proofs.Common.{◌≡◌, ℕ, ◌+◌, ◌-◌, ◌*◌, ◌/◌, ◌%◌, ◌^◌, ◌<◌, ◌≤◌, Bool, true, false, List, [], ◌∷◌, ◌++◌}
use Rattle.std.proofs.Common.{length, take, drop, not, bit_and, arith, refl, sym, ap, ◌∙◌, subst}
use Rattle.std.specs.Prelude.{Option, Some, None, unwrap_or}
use Rattle.std.proofs.lemmas.List.{append_assoc, append-nil, length-append, take_at, drop_at}
use Rattle.swd_bits.specs.Bits.{low_bits}
use Rattle.swd_bits.specs.Transactions.{SpellsTx}
use Rattle.swd_bits.proofs.BitsLemmas.{length-low_bits}
use Rattle.swd_bits.specs.declared.tx.Tx.{Tx as Transaction}
use Rattle.swd_bits.specs.declared.tx.TxEnd.{TxEnd}
use Rattle.swd_bits.specs.declared.tx.TxEnd.TheVariants.{Moved, Wait, Fault, NoAck}
use Rattle.swd_trace.specs.declared.mode.Mode.TheVariants.{Synced}
use Rattle.swd_trace.specs.Stands.{Whole, stands}
use Rattle.swd_trace.proofs.NumberLemmas.{decoder_bits_parted, decoder_bits_masked, decoder_bits_mod}
use Rattle.swd_trace.proofs.StandLemmas.{trace_stand_whole_fits}
use Rattle.swd_trace.proofs.SpellingLemmas.{trace_stand_is_spelled, trace_stand_of_spelled_tx}
use Rattle.swd_resync.specs.declared.stage.WholeTx.{WholeTx}
use Rattle.swd_resync.specs.Parts.{resync_first, resync_is_junk, stretch_continues, stretch_after_tx}
use Rattle.swd_resync.specs.Sights.{IsTxSight}
use Rattle.swd_resync.specs.Fronts.{IsResyncFront, resync_is_acknowledged}
use Rattle.swd_resync.specs.Stages.{ResyncMove, ResyncStill, parts_at_stage, resync_with_part, stretch_fate_move}
use Rattle.swd_resync.specs.Stages.{resync_stage_counted, stretch_stage_behind}
use Rattle.swd_resync.specs.declared.judge.TxFate.TheVariants.{Reported}
use Rattle.swd_resync.specs.declared.overrun.Overrun.{Overrun}
use Rattle.swd_resync.specs.declared.part.Part.{Part}
use Rattle.swd_resync.specs.declared.stage.Move.{Move}
use Rattle.swd_resync.specs.declared.stage.RemovalStage.{RemovalStage}
use Rattle.swd_resync.specs.declared.stage.RemovalStage.TheVariants.{Stretch}
use Rattle.swd_resync.proofs.JudgeLemmas.{judged_near_behind, judged_near_of_few, stretch_reports_followed_tx}
use Rattle.swd_resync.proofs.MoveLemmas.{resync_is_idle, resync_not_idle_no_zero, stretch_tx_moves}
use Rattle.swd_resync.proofs.SightLemmas.{sight_plain_tx}

-- a transaction that is seen is seen when bits are appended, too
pub tx_sight_more : (phases : Bool) (tx : Transaction) (len : ℕ) (bits more : List Bool)
    → IsTxSight phases tx len bits → IsTxSight phases tx len (bits ++ more)
tx_sight_more phases tx len bits more seen =
    let l : length (bits ++ more) ≡ length bits + length more = length-append bits more in
    let f : len ≤ length bits = seen.fits in
    record {
      some = seen.some;
      most = seen.most;
      fits = omega arith;
      first = λ rest. ap (resync_first phases Synced) (append_assoc bits more rest) ∙ seen.first (more ++ rest);
    }

-- a transaction at the front stays there when bits are appended
pub resync_front_more : (phases : Bool) (seen : Option WholeTx) (bits more all : List Bool) → all ≡ bits ++ more
    → IsResyncFront phases seen bits → IsResyncFront phases seen all
resync_front_more phases seen bits more all e h = λ w is.
    subst (IsTxSight phases w.tx w.len) (sym e) (tx_sight_more phases w.tx w.len bits more (h w is))

-- nothing was seen
pub resync_front_none : (phases : Bool) (bits : List Bool) → IsResyncFront phases None bits
resync_front_none phases bits = λ w e. absurd cc

-- one that was seen as without overrun detection is kept where the host doesn't use it
pub resync_front_kept : (phases : Bool) (w : WholeTx) (bits : List Bool) → phases ≡ false
    → IsTxSight false w.tx w.len bits → IsResyncFront phases (Some w) bits
resync_front_kept phases w bits p h = λ v e.
    subst (λ v. IsTxSight phases v.tx v.len bits) (ap (λ o. unwrap_or o w) e)
    (subst (λ p. IsTxSight p w.tx w.len bits) (sym p) h)

continues_before_tx : (tx : Transaction) (len : ℕ) (bits more : List Bool) → IsTxSight false tx len bits
    → stretch_continues (bits ++ more) ≡ true
continues_before_tx tx len bits more h =
    ap (λ x. not (resync_is_junk (resync_first false Synced x).item))
    (resync_not_idle_no_zero false (bits ++ more) (ap (λ f. resync_is_idle f.item) (h.first more)))
    ∙ ap (λ f. not (resync_is_junk f.item)) (h.first more)

-- a stretch continues after an acknowledged transaction that another one follows directly
pub stretch_goes_on_before_tx : (result : TxEnd) (tx : Transaction) (len : ℕ) (bits more : List Bool)
    → resync_is_acknowledged result ≡ true → IsTxSight false tx len bits
    → stretch_after_tx result (bits ++ more) ≡ true
stretch_goes_on_before_tx (Moved word ok) tx len bits more e h = continues_before_tx tx len bits more h
stretch_goes_on_before_tx Wait tx len bits more e h = continues_before_tx tx len bits more h
stretch_goes_on_before_tx Fault tx len bits more e h = continues_before_tx tx len bits more h
stretch_goes_on_before_tx (NoAck seen) tx len bits more e h = absurd cc

-- a decoder of captures may wait where fewer than fifty bits are behind a transaction and more may follow
pub stretch_waits_behind : (over : Overrun) (ended : Bool) (stage : RemovalStage) (len : ℕ) (bits : List Bool)
    → len ≤ 46 → ended ≡ false → length (drop len bits) < 50 → ResyncStill over ended stage bits
stretch_waits_behind over ended stage len bits most e few = record {
  near = λ f. judged_near_behind len 0 92 bits (omega arith) (judged_near_of_few (drop len bits) few);
  none = λ f. absurd cc;
}

-- the lowest `n` bits of a number, as a mask keeps them
masked_bits : (n v : ℕ) → n < 64 → low_bits n (bit_and v (1 * 2 ^ n % 2 ^ 64 - 1)) ≡ low_bits n v
masked_bits n v few = ap (low_bits n) (decoder_bits_masked n v few) ∙ decoder_bits_mod n v

-- a whole transaction at their front has no more bits
pub resync_whole_tx_fits : (n len v : ℕ) (tx : Transaction) → n < 64
    → stands (low_bits n (bit_and v (1 * 2 ^ n % 2 ^ 64 - 1))) ≡ Whole tx len → len ≤ n
resync_whole_tx_fits n len v tx few e =
    let fits : len ≤ length (low_bits n v) =
    trace_stand_whole_fits (low_bits n v) tx len (ap stands (sym (masked_bits n v few)) ∙ e) in
    let l : length (low_bits n v) ≡ n = length-low_bits n v in
    omega arith

-- and is one of its own bits alone
pub resync_whole_tx_found : (n len v : ℕ) (tx : Transaction) → n < 64
    → stands (low_bits n (bit_and v (1 * 2 ^ n % 2 ^ 64 - 1))) ≡ Whole tx len → 12 ≤ len
    → IsTxSight false tx len (low_bits len v)
resync_whole_tx_found n len v tx few e some =
    let fits : len ≤ n = resync_whole_tx_fits n len v tx few e in
    let own : length (low_bits len v) ≡ len = length-low_bits len v in
    let front : take len (low_bits n v) ≡ low_bits len v =
    ap (take len) (decoder_bits_parted len n v fits)
    ∙ take_at (low_bits len v) (low_bits (n - len) (v / 2 ^ len)) len own in
    let spelled : SpellsTx tx (low_bits len v) = subst (SpellsTx tx) front
    (trace_stand_is_spelled (low_bits n v) tx len (ap stands (sym (masked_bits n v few)) ∙ e)) in
    let alone : stands (low_bits len v) ≡ Whole tx len =
    ap stands (sym (append-nil (low_bits len v))) ∙ trace_stand_of_spelled_tx tx (low_bits len v) [] spelled
    ∙ ap (Whole tx) own in
    subst (IsTxSight false tx len) (append-nil (low_bits len v))
    (sight_plain_tx false tx len (low_bits len v) alone some refl [])

-- the stage behind a reported transaction counts no bits
pub resync_stage_behind_counts : (end : TxEnd) → resync_stage_counted (stretch_stage_behind end) ≡ 0
resync_stage_behind_counts (Moved word ok) = refl
resync_stage_behind_counts Wait = refl
resync_stage_behind_counts Fault = refl
resync_stage_behind_counts (NoAck seen) = refl

-- in a stretch a transaction that was acknowledged is reported where another one follows directly
followed_tx_moves : (over : Overrun) (front follower : WholeTx) (bits next : List Bool)
    → IsTxSight over.phases front.tx front.len bits → resync_is_acknowledged front.tx.result ≡ true
    → length bits ≡ front.len → IsTxSight false follower.tx follower.len next
    → ResyncMove over false (Stretch 0) (bits ++ next) (stretch_fate_move over front.tx front.len Reported)
followed_tx_moves over front follower bits next seen known whole follows =
    stretch_tx_moves over false front.tx front.len Reported (bits ++ next)
    (tx_sight_more over.phases front.tx front.len bits next seen) tt
    (λ more may. stretch_reports_followed_tx over front.tx front.len ((bits ++ next) ++ more)
    (ap (λ x. stretch_after_tx front.tx.result (drop front.len x)) (append_assoc bits next more)
    ∙ ap (stretch_after_tx front.tx.result) (drop_at bits (next ++ more) front.len whole)
    ∙ stretch_goes_on_before_tx front.tx.result follower.tx follower.len next more known follows))

-- so the reading of both is that part, and the reading of the bits from the other one on
pub resync_followed_tx_told : (over : Overrun) (front follower : WholeTx) (bits next : List Bool) (m : Move)
    (part : Part) → IsTxSight over.phases front.tx front.len bits → resync_is_acknowledged front.tx.result ≡ true
    → length bits ≡ front.len → IsTxSight false follower.tx follower.len next
    → m ≡ stretch_fate_move over front.tx front.len Reported → m.part ≡ Some part → (more : List Bool)
    → parts_at_stage over (Stretch 0) (bits ++ (next ++ more)) ≡ part ∷ parts_at_stage m.over m.stage (next ++ more)
resync_followed_tx_told over front follower bits next m part seen known whole follows same is more =
    let moves : ResyncMove over false (Stretch 0) (bits ++ next) m =
    subst (ResyncMove over false (Stretch 0) (bits ++ next)) (sym same)
    (followed_tx_moves over front follower bits next seen known whole follows) in
    let behind : drop m.count (bits ++ next) ≡ next = ap (λ m. drop m.count (bits ++ next)) same
    ∙ drop_at bits next front.len whole in
    ap (parts_at_stage over (Stretch 0)) (sym (append_assoc bits next more)) ∙ moves.law more (λ e. absurd cc)
    ∙ ap (λ x. resync_with_part m.part (parts_at_stage m.over m.stage (x ++ more))) behind
    ∙ ap (λ p. resync_with_part p (parts_at_stage m.over m.stage (next ++ more))) is

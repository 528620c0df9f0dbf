use Rattle.std.proofs.Common.{◌≡◌, ◌≢◌, ℕ, ◌/◌, ◌%◌, ◌^◌, ◌≤◌, Bool, true, false, not, List, ◌++◌, ap, ◌∙◌}
use Rattle.std.specs.Prelude.{Option, Some, None, IfNone}
use Rattle.std.specs.Option.{is_some}
use Rattle.swd_bits.specs.Bits.{low_bits}
use Rattle.swd_bits.specs.Acks.{bits_of_ack}
use Rattle.swd_bits.specs.declared.ack.Ack.{Ack}
use Rattle.swd_resync.specs.Parts.{pair}
use Rattle.swd_resync.proofs.PlaceLemmas.{no_pair_without_ack}
use Rattle.swd_resync.proofs.judge.lacks_ack.Goals as goal

by_result : (len v : ℕ) (found : Option Ack) (t : Bool) → is_some found ≡ not t → 12 ≤ len
    → IfNone found ((a : Ack) → bits_of_ack a ≢ low_bits 3 (v / 2 ^ 9 % 8)) → t ≡ true
    → (over : Bool) (back : List Bool) → pair over (low_bits len v ++ back) ≡ false
by_result len v None t e some none is over back = no_pair_without_ack over len v back some none
by_result len v (Some a) t e some none is over back = let both_ways : true ≡ false = e ∙ ap not is in absurd cc

pub returns-then-window-ge12 : goal.returns-then-window-ge12
returns-then-window-ge12 c = by_result c.args.window.len c.args.window.bits c.of.result c.is_none.result
    c.is_none.ensures c.if-window-ge12.true c.of.ensures.none

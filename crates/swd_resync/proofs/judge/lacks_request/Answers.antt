use Rattle.std.proofs.Common.{◌≡◌, ◌≢◌, ℕ, ◌%◌, ◌^◌, ◌≤◌, Bool, true, false, not, List, ◌++◌, ap, ◌∙◌}
use Rattle.std.specs.Prelude.{Option, Some, None, IfNone}
use Rattle.std.specs.Option.{is_some}
use Rattle.swd_bits.specs.Bits.{low_bits}
use Rattle.swd_bits.specs.Wire.{bits_of_request}
use Rattle.swd_bits.specs.declared.request.Request.{Request}
use Rattle.swd_resync.specs.Parts.{pair}
use Rattle.swd_resync.proofs.PlaceLemmas.{no_pair_without_request}
use Rattle.swd_resync.proofs.judge.lacks_request.Goals as goal

by_result : (len v : ℕ) (found : Option Request) (t : Bool) → is_some found ≡ not t → 8 ≤ len
    → IfNone found ((q : Request) → bits_of_request q ≢ low_bits 8 (v % 2 ^ 8)) → t ≡ true
    → (over : Bool) (back : List Bool) → pair over (low_bits len v ++ back) ≡ false
by_result len v None t e some none is over back = no_pair_without_request over len v back some none
by_result len v (Some q) t e some none is over back = let both_ways : true ≡ false = e ∙ ap not is in absurd cc

pub returns : goal.returns
returns c = by_result c.args.window.len c.args.window.bits c.of.result c.is_none.result c.is_none.ensures
    c.requires.some c.of.ensures.none

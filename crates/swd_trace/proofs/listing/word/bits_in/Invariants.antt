use Rattle.std.proofs.Common.{◌≡◌, ◌-◌, length, drop}
use Rattle.swd_trace.proofs.WordLemmas.{listing_bits_number}
use Rattle.swd_trace.proofs.listing.word.bits_in.Given as goal

abbrev pub invariant-loop-i : goal.invariant-loop-i
invariant-loop-i l = l.bits ≡ listing_bits_number (drop (length l.digits - l.i) l.digits)

use Rattle.std.proofs.Common.{[], refl, arith}
use Rattle.swd_bits.specs.Bits.{low_bits}
use Rattle.swd_bits.proofs.ScanLemmas.{scan_bits_no_byte}
use Rattle.swd_bits.proofs.gathered.Gathered.new.Goals as goal

pub returns : goal.returns
unfolding low_bits
returns c = record {
  gathers = record { bits = []; reads = scan_bits_no_byte c.new.result c.new.ensures; kept = (omega arith, refl) };
  place = omega arith;
}

-- The messages of the errors in the trace text of one transaction.
use Rattle.std.specs.Prelude.{ℕ, List, ◌++◌, codes}
use Rattle.std.specs.Fmt.{decimal}
use Rattle.swd_bits.specs.declared.one.OneFault.{OneFault}
use Rattle.swd_bits.specs.declared.one.OneFault.TheVariants.{BadChar, NotOne, Read, Write}

abbrev pub one_tx_message : OneFault → List ℕ
one_tx_message (BadChar place) = (codes "trace byte " ++ decimal place) ++ codes ": bad character"
one_tx_message NotOne = codes "not one transaction"
one_tx_message Read = codes "read failed"
one_tx_message Write = codes "write failed"

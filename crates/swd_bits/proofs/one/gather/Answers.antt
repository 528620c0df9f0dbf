use Rattle.std.proofs.Common.{ℕ, List, [], ◌++◌, Option, None, Some, IfSome, sym, subst}
use Rattle.std.specs.Io.KnownBytes.{Consumes}
use Rattle.std.proofs.KnownBytes.{Consumes-whole}
use Rattle.swd_bits.specs.One.{GathersTxBits, ReportsBadScanByte}
use Rattle.swd_bits.proofs.one.gather.Goals as goal

told : (a b : Option (List ℕ)) (place : ℕ) (text : List ℕ) → Consumes a b text
    → ((more : List ℕ) → ReportsBadScanByte place (text ++ more)) → IfSome a (ReportsBadScanByte place)
told None b place text h f = tt
told (Some x) None place text h f = absurd h
told (Some x) (Some rest) place text h f = subst (ReportsBadScanByte place) (sym h) (f rest)

pub returns-in-Ok : goal.returns-in-Ok
returns-in-Ok g c =
    let read = c.in-Ok.ensures in
    Consumes-whole _ _ read.0 (λ bytes. GathersTxBits bytes c.read_pieces.new.consumer) read.1 read.2
    (read.3 tt [] c.new-gathered.ensures).gathers

pub returns-in-Err-Consumer : goal.returns-in-Err-Consumer
returns-in-Err-Consumer g c =
    let read = rw c.in-Err-Consumer.field-0-is at c.in-Err-Consumer.ensures in
    subst (λ place. IfSome (g.R.Read.remaining c.args.reader.now) (ReportsBadScanByte place))
    (sym c.in-Err-Consumer.place-is) (told _ _ _ read.0 read.1 (read.2 tt [] c.new-gathered.ensures))

-- What a decoder of captures keeps of what it saw.
use Rattle.std.specs.Prelude.{Bool, true, false, List, drop, Option, Some, None, IfSome}
use Rattle.std.specs.Option.{ForSome}
use Rattle.swd_bits.specs.declared.tx.TxEnd.{TxEnd}
use Rattle.swd_bits.specs.declared.tx.TxEnd.TheVariants.{Moved, Wait, Fault, NoAck}
use Rattle.swd_resync.specs.declared.stage.Move.{Move}
use Rattle.swd_resync.specs.declared.stage.Step.{Step}
use Rattle.swd_resync.specs.declared.stage.WholeTx.{WholeTx}
use Rattle.swd_resync.specs.Sights.{IsTxSight}

-- the transaction that was seen, if any, is at the front of the bits
abbrev pub IsResyncFront : Bool → Option WholeTx → List Bool → Type 0
IsResyncFront phases seen bits = ForSome seen (λ w. IsTxSight phases w.tx w.len bits)

-- the step without what it saw
abbrev pub resync_step_move : Option Step → Option Move
resync_step_move (Some step) = Some step.next
resync_step_move None = None

-- what a step saw is at the front of the bits behind those that it removes
abbrev pub ResyncSeesBehind : List Bool → Option Step → Type 0
ResyncSeesBehind bits found =
    IfSome found (λ step. IsResyncFront step.next.over.phases step.behind (drop step.next.count bits))

-- OK, WAIT or FAULT was seen
abbrev pub resync_is_acknowledged : TxEnd → Bool
resync_is_acknowledged (Moved word ok) = true
resync_is_acknowledged Wait = true
resync_is_acknowledged Fault = true
resync_is_acknowledged (NoAck seen) = false

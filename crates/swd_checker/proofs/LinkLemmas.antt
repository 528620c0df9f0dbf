-- The worlds that a transaction adds are those to which it leads: what the steps of `Worlds` ask for.
use Rattle.std.proofs.Common.{◌≡◌, ℕ, Bool, true, false}
use Rattle.swd_bits.specs.declared.tx.Tx.{Tx as Transaction}
use Rattle.swd_bits.specs.declared.tx.TxEnd.TheVariants.{Moved, Wait, Fault, NoAck}
use Rattle.swd_checker.specs.Worlds.{World}
use Rattle.swd_checker.specs.Steps.{world_register}
use Rattle.swd_checker.specs.Reaching.{CheckedLink, LinkSteps, LinkHas}
use Rattle.swd_checker.specs.Reached.{WorldsRefuse, WorldsDefer, WorldsMove, WorldsLoseSeen}
use Rattle.swd_checker.proofs.MovedLemmas.{moves_reached}
use Rattle.swd_checker.proofs.GoesLemmas.{link_faults, link_waits, mark_faults, tx_faulted}
use Rattle.swd_checker.proofs.LostLemmas.{link_lost}
use Rattle.swd_checker.proofs.GivenLemmas.{link_keeps}

-- FAULT
pub link_refuses : (link : CheckedLink) (w : World) (clean : Bool) (tx : Transaction) → LinkSteps link clean tx
    → LinkHas link w → tx.result ≡ Fault → WorldsRefuse link w tx.request (world_register w tx.request)
link_refuses link w clean tx steps has is =
    link_faults link w clean tx 4 (mark_faults clean (world_register w tx.request))
    (λ asked. tx_faulted clean tx asked is) (link_keeps false link clean tx w steps has)

-- WAIT
pub link_defers : (link : CheckedLink) (w : World) (clean : Bool) (tx : Transaction) → LinkSteps link clean tx
    → LinkHas link w → tx.result ≡ Wait → WorldsDefer link w tx.request (world_register w tx.request)
link_defers link w clean tx steps has is = link_waits link w clean tx (link_keeps false link clean tx w steps has) is

-- OK and a data phase
pub link_moves : (link : CheckedLink) (w : World) (clean : Bool) (tx : Transaction) (word : ℕ) (ok : Bool)
    → LinkSteps link clean tx → LinkHas link w → tx.result ≡ Moved word ok
    → WorldsMove link w tx.request (world_register w tx.request) clean word ok
link_moves link w clean tx word ok steps has is =
    moves_reached link w clean tx word ok steps (link_keeps true link clean tx w steps has) is

-- no acknowledgement
pub link_loses : (link : CheckedLink) (w : World) (clean : Bool) (tx : Transaction) (seen : ℕ)
    → LinkSteps link clean tx → LinkHas link w → tx.result ≡ NoAck seen
    → WorldsLoseSeen link w tx.request (world_register w tx.request) clean seen
link_loses link w clean tx seen steps has is =
    link_lost link w clean tx seen steps (λ okay. link_keeps okay link clean tx w steps has) is

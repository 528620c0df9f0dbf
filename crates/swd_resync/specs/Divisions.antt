-- Divisions of a capture into parts.
use Rattle.std.specs.Prelude.{◌≡◌, ◌≤◌, ◌<◌, ℕ, Bool, true, false, List, [], ◌∷◌, ◌++◌, length, replicate}
use Rattle.std.specs.Prelude.{if◌then◌else◌, ◌&&◌}
use Rattle.swd_bits.specs.BitLists.{tx_bits_of}
use Rattle.swd_bits.specs.Transactions.{SpellsTx}
use Rattle.swd_bits.specs.declared.tx.TxEnd.{TxEnd}
use Rattle.swd_trace.specs.declared.item.Item.{Item}
use Rattle.swd_trace.specs.declared.item.Item.TheVariants.{Reset, Switch, Idle, Tx, Junk, Cut}
use Rattle.swd_trace.specs.Reading.{switch_item}
use Rattle.swd_resync.specs.declared.part.Part.{Part}
use Rattle.swd_resync.specs.declared.part.Part.TheVariants.{Item as Told, Phased, Skip}
use Rattle.swd_bits.specs.declared.tx.Tx.{Tx as Transaction}
use Rattle.swd_resync.specs.declared.overrun.Overrun.{Overrun}
use Rattle.swd_resync.specs.Parts.{resync_is_refusal, resync_is_sound, overrun_after_item}

-- how many bits follow a transaction as a data phase without meaning
abbrev pub resync_phase_behind : Bool → TxEnd → ℕ
resync_phase_behind over end = if over && resync_is_refusal end then 33 else 0

-- the bits are the item's: for a transaction with overrun detection, any 33 bits follow WAIT and FAULT
abbrev pub StretchShows : Bool → Item → List Bool → Type 0
StretchShows over (Reset n) bits = (50 ≤ n) × (bits ≡ replicate n true)
StretchShows over Switch bits = bits ≡ switch_item
StretchShows over (Idle n) bits = (0 < n) × (bits ≡ replicate n false)
StretchShows over (Tx tx) bits =
    (front : List Bool) × (phase : List Bool) × (bits ≡ front ++ phase) × SpellsTx tx front
    × (length phase ≡ resync_phase_behind over tx.result)
StretchShows over (Junk b) bits = ⊥
StretchShows over (Cut cut) bits = (0 < cut.len) × (bits ≡ tx_bits_of cut)

-- the bits are the part's
abbrev pub ResyncPartHasBits : Part → List Bool → Type 0
ResyncPartHasBits (Told item) bits = StretchShows false item bits
ResyncPartHasBits (Phased tx) bits = (resync_is_refusal tx.result ≡ true) × StretchShows true (Tx tx) bits
ResyncPartHasBits (Skip n) bits = (0 < n) × (length bits ≡ n)

-- every bit belongs to one of the parts, in their order
abbrev pub PartsDivide : List Part → List Bool → Type 0
PartsDivide [] bits = bits ≡ []
PartsDivide (part ∷ parts) bits =
    (front : List Bool) × (rest : List Bool) × (bits ≡ front ++ rest) × ResyncPartHasBits part front
    × PartsDivide parts rest

-- no two skips follow one another
abbrev pub SkipsApart : List Part → Type 0
SkipsApart [] = Unit {0}
SkipsApart (Told item ∷ parts) = SkipsApart parts
SkipsApart (Phased tx ∷ parts) = SkipsApart parts
SkipsApart (Skip n ∷ []) = Unit {0}
SkipsApart (Skip n ∷ Told item ∷ parts) = SkipsApart parts
SkipsApart (Skip n ∷ Phased tx ∷ parts) = SkipsApart parts
SkipsApart (Skip n ∷ Skip m ∷ parts) = ⊥

-- no item is a junk bit: the reading was never lost
abbrev pub ResyncNeverLost : List Item → Type 0
ResyncNeverLost [] = Unit {0}
ResyncNeverLost (Junk b ∷ items) = ⊥
ResyncNeverLost (Reset n ∷ items) = ResyncNeverLost items
ResyncNeverLost (Switch ∷ items) = ResyncNeverLost items
ResyncNeverLost (Idle n ∷ items) = ResyncNeverLost items
ResyncNeverLost (Tx tx ∷ items) = ResyncNeverLost items
ResyncNeverLost (Cut cut ∷ items) = ResyncNeverLost items

-- no write with OK sets ORUNDETECT in CTRL/STAT
abbrev pub LeavesOverrunOff : Overrun → List Item → Type 0
LeavesOverrunOff over [] = Unit {0}
LeavesOverrunOff over (item ∷ items) =
    ((overrun_after_item over item).phases ≡ false) × LeavesOverrunOff (overrun_after_item over item) items

-- the bits begin with two transactions that ended by WAIT, FAULT, or OK with a word of right parity, and at
-- most zeros are between them; of the second the data phase after WAIT and FAULT isn't asked for
abbrev pub IsPair : Bool → List Bool → Type 0
IsPair over bits =
    (one : Transaction) × (other : Transaction) × (front : List Bool) × (n : ℕ) × (next : List Bool)
    × (rest : List Bool) × (bits ≡ front ++ (replicate n false ++ (next ++ rest)))
    × StretchShows over (Tx one) front × (resync_is_sound one.result ≡ true) × StretchShows false (Tx other) next
    × (resync_is_sound other.result ≡ true)

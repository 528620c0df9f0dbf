-- What a list of bits decides, whatever bits may follow.
use Rattle.std.specs.Prelude.{◌≡◌, ◌≢◌, ◌⊎◌, Bool, true, false, List, [], ◌∷◌, ◌++◌, replicate}
use Rattle.swd_trace.specs.declared.item.Item.{Item}
use Rattle.swd_trace.specs.Reading.{switch_item, reading_of}

-- a proper suffix of some bits
abbrev pub IsProperTraceEnd : List Bool → List Bool → Type 0
IsProperTraceEnd end bits = (front : List Bool) × (front ≢ []) × (bits ≡ front ++ end)

-- the continuations that show what is decided: nothing, a zero, a one, fifty ones, and the rest of a switch
abbrev pub ContinuesTrace : List Bool → Type 0
ContinuesTrace more =
    (more ≡ []) ⊎ (more ≡ false ∷ []) ⊎ (more ≡ true ∷ []) ⊎ (more ≡ replicate 50 true)
    ⊎ IsProperTraceEnd more switch_item

-- the first list is a prefix of the second
abbrev pub BeginsItems : List Item → List Item → Type 0
BeginsItems front items = (rest : List Item) × (items ≡ front ++ rest)

-- these items are a prefix of each of the readings
abbrev pub BeginsAllReadings : List Item → (List Bool → List Item) → Type 0
BeginsAllReadings front readings = (more : List Bool) → ContinuesTrace more → BeginsItems front (readings more)

-- the longest common prefix of the readings
pub record IsLongestDecided (items : List Item) (readings : List Bool → List Item) : Type 0 where
  pub common : BeginsAllReadings items readings
  pub longest : (other : List Item) → BeginsAllReadings other readings → BeginsItems other items

-- the items that these bits decide
abbrev pub IsDecided : List Bool → List Item → Type 0
IsDecided bits items = IsLongestDecided items (λ more. reading_of (bits ++ more))

-- no item is the first one of all the readings
abbrev pub DecidesNoItem : (List Bool → List Item) → Type 0
DecidesNoItem readings = (item : Item) → BeginsAllReadings (item ∷ []) readings → ⊥

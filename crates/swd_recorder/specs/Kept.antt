-- What is kept of the items of a wire's calls.
use Rattle.std.specs.Prelude.{◌≡◌, ◌≢◌, Bool, true, false, List, []}
use Rattle.swd_trace.specs.declared.item.Item.{Item}
use Rattle.swd_recorder.specs.declared.items.Items.{Items}
use Rattle.swd_recorder.specs.Items.{recorded_with_items}

-- the items, and whether they are truncated
pub record RecorderKept : Type 0 where
  pub items : List Item
  pub is_cut : Bool

-- no items
abbrev pub recorder_nothing_kept : RecorderKept
recorder_nothing_kept = record { items = []; is_cut = false }

abbrev pub recorder_kept_of : {A : Type 0} → Items A → RecorderKept
recorder_kept_of items = record { items = items.list.items; is_cut = items.is_cut }

-- These items are added, all of them or no item; in the latter case the items are truncated. Truncated items
-- stay unchanged.
pub record RecorderAdds (more : List Item) (old new : RecorderKept) : Type 0 where
  pub whole : new.is_cut ≡ false → (old.is_cut ≡ false) × (new.items ≡ recorded_with_items old.items more)
  pub cut : new.is_cut ≡ true → (new.items ≡ old.items) × (old.is_cut ≡ false → more ≢ [])

-- Lists of worlds, and the targets that they describe.
use Rattle.std.specs.Prelude.{ℕ, ◌≡◌, ◌<◌, ◌≤◌, ◌+◌, Bool, false, length, slice_index_or, List, Option, Some, None}
use Rattle.std.specs.List.{Any}
use Rattle.swd_port.specs.Port.{Port, Target}
use Rattle.swd_port.specs.Leading.{port_line_awaits}
use Rattle.swd_checker.specs.declared.worlds.Kept.{Kept}
use Rattle.swd_checker.specs.declared.worlds.Worlds.{Worlds}
use Rattle.swd_checker.specs.Described.{WorldDescribes}

-- the world describes a target, and whether write data is awaited
pub record KeptDescribes (kept : Kept) (awaited : Bool) (x : Target) : Type 0 where
  pub awaits : awaited ≡ kept.world.awaits
  pub target : WorldDescribes kept.world x

pub record KeptIncludes (kept other : Kept) : Type 0 where
  pub each : (awaited : Bool) (x : Target) → KeptDescribes other awaited x → KeptDescribes kept awaited x

-- one of these worlds describes the port of a state
abbrev pub AnyKeptHolds : List Kept → Port → Type 0
AnyKeptHolds items s = Any (λ kept. KeptDescribes kept (port_line_awaits s.link.line) s.target) items

-- one of the worlds describes it, unless there were more of them than are held
pub record WorldsHold (v : Worlds) (awaited : Bool) (x : Target) : Type 0 where
  pub held : v.crowded ≡ false → Any (λ kept. KeptDescribes kept awaited x) v.kept.items

-- the second holds what the first does
pub record WorldsKeep (v now : Worlds) : Type 0 where
  pub each : (awaited : Bool) (x : Target) → WorldsHold v awaited x → WorldsHold now awaited x

-- the second holds at most so many more, and isn't crowded where they fit
pub record WorldsGrow (most : ℕ) (v now : Worlds) : Type 0 where
  pub few : length now.kept.items ≤ length v.kept.items + most
  pub fits : length v.kept.items + most ≤ 64 → now.crowded ≡ v.crowded

-- a world of the list, and one that includes it and the added one
abbrev pub IsKeptJoined : List Kept → Kept → Option (ℕ × Kept) → Type 0
IsKeptJoined items added None = Unit {0}
IsKeptJoined items added (Some (place, joined)) = (place < length items)
    × ((kept : Kept) → slice_index_or items place kept ≡ kept → KeptIncludes joined kept) × KeptIncludes joined added

-- the port of a state: its target, and whether write data is awaited
abbrev pub WorldsHoldPort : Worlds → Port → Type 0
WorldsHoldPort v s = WorldsHold v (port_line_awaits s.link.line) s.target

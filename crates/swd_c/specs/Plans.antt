-- What a plan leaves in the caller's memory.
use Rattle.std.specs.Prelude.{ℕ, ◌≡◌, ◌++◌, List, drop, length, map, min}
use Rattle.swd_bits.specs.Bits.{bits_number}
use Rattle.swd_bits.specs.Wire.{bits_of_request}
use Rattle.swd_port.specs.declared.coming.Coming.{Coming}
use Rattle.swd_steps.specs.declared.run.Run.{Run}
use Rattle.swd_steps.specs.Plans.{SteppedForesees}
use Rattle.swd_c.specs.declared.access.SwdAccess.{SwdAccess}
use Rattle.swd_c.specs.declared.plan.SwdPlanned.{SwdPlanned}
use Rattle.swd_c.specs.Runs.{c_api_accesses}

-- a transaction as integers
abbrev pub c_api_planned : Coming → SwdPlanned
c_api_planned next = record { word = next.word; request = bits_number (bits_of_request next.request) }

-- The first `count` objects have the transactions that the run asks for next, as many as there is room for, and at most
-- 128. The other objects are unchanged.
pub record CApiPlans (list : List SwdAccess) (run : Run) (before after : List SwdPlanned) (count : ℕ) : Type 0 where
  pub coming : List Coming
  pub foresees : SteppedForesees (min (length before) 128) (c_api_accesses list) run coming
  pub count_is : count ≡ length coming
  pub after_is : after ≡ map c_api_planned coming ++ drop (length coming) before

-- Ones and zeros outside of transactions: line resets and idle cycles.
-- Source: IHI 0031, B4, "Connection and line reset sequence", "Idle cycles".
use Rattle.std.specs.Prelude.{ℕ, ◌≡◌, ◌≢◌, ◌≤◌, ◌⊎◌, ◌||◌, ◌&&◌, ◌==◌, not, Bool, true, false, if◌then◌else◌}
use Rattle.swd_port.specs.declared.wire.Due.{Due}
use Rattle.swd_port.specs.declared.wire.Due.TheVariants.{Nothing}
use Rattle.swd_port.specs.Port.{Port, Fresh, AfterAck, Idle, Awaits}
use Rattle.swd_port.specs.Completion.{PortCompletes}

-- The ones and zeros that a host may send outside of requests.
pub record PortMayLead (due : Due) (ones : ℕ) (switch : Bool) (zeros : ℕ) : Type 0 where
  -- no ones, or a line reset: at least fifty, and then at least two zeros
  pub high : (ones ≡ 0) ⊎ (50 ≤ ones)
  pub low : ones ≢ 0 → 2 ≤ zeros
  -- the switch from JTAG is between two line resets
  pub switched : switch ≡ true → ones ≢ 0
  -- inside a transaction a hundred ones: in 34 of them the rest of a data phase may pass (this project's choice)
  pub inside : due ≢ Nothing → (100 ≤ ones) × (switch ≡ false)

-- How many of these ones, from the first on, a host may leave undriven. Inside a transaction it has to be at least 34,
-- since the target may be driving the line for the rest of a data phase.
pub record MayRelease (due : Due) (ones undriven : ℕ) : Type 0 where
  pub few : undriven ≤ ones
  pub inside : due ≢ Nothing → 34 ≤ undriven

-- write data is awaited
abbrev pub port_line_awaits : AfterAck → Bool
port_line_awaits (Awaits r flip) = true
port_line_awaits line = false

-- The state after ones and zeros. Ones are a line reset, after which the target is fresh; no register and no pending
-- transfer changes, except for WDATAERR. It is set where write data was awaited, which is taken from the line's ones,
-- whose parity is wrong. Read data that was driven is dropped (this project's choice). Zeros alone are idle cycles.
abbrev pub port_after_lead : ℕ → Port → Port
port_after_lead ones s =
    let resets = not (ones == 0) in
    record s {
      link = record { due = Nothing; line = if resets then Idle else s.link.line };
      target = record s.target {
        reset = if resets then Fresh else s.target.reset;
        write_error = (resets && port_line_awaits s.link.line) || s.target.write_error;
      };
    }

-- ones and zeros, and completion before and after
pub record PortLeadsNow (s : Port) (ones : ℕ) (t : Port) : Type 0 where
  pub after : t ≡ port_after_lead ones s

abbrev pub PortLeads : Port → ℕ → Port → Type 0
PortLeads s ones t = (a : Port) × (b : Port) × PortCompletes s a × PortLeadsNow a ones b × PortCompletes b t

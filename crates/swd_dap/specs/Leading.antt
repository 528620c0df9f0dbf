-- Clocks that the host drives or releases, by one packet after the other.
use Rattle.std.specs.Prelude.{ℕ, ◌≡◌, ◌+◌, Bool, true, false, List, [], ◌∷◌, ◌++◌, replicate, Option, Some, None}
use Rattle.std.specs.Prelude.{◌-◌, min, if◌then◌else◌}
use Rattle.swd_dap.specs.Packets.{DapExchange, DapDoes}
use Rattle.swd_dap.specs.Sequences.{dap_drive_request, dap_release_request}

-- these bits are driven, those of each list by a packet
abbrev pub DapDrivesEach : {P : Type 0} → (List DapExchange → P → Type 0) → List (List Bool) → P → P → Type 0
DapDrivesEach Exchanged [] s t = t ≡ s
DapDrivesEach {P} Exchanged (bits ∷ more) s t = (m : P) × (reply : List ℕ)
    × DapDoes Exchanged (dap_drive_request bits) 2 reply s m × DapDrivesEach Exchanged more m t

abbrev pub dap_joined : List (List Bool) → List Bool
dap_joined [] = []
dap_joined (bits ∷ more) = bits ++ dap_joined more

-- Bits are driven behind those that wait, up to those that wait then.
pub record DapQueues {P : Type 0} (Exchanged : List DapExchange → P → Type 0) (more : List Bool) (s : P)
    (waiting : List Bool) (t : P) (left : List Bool) : Type 0 where
  pub pieces : List (List Bool)
  pub drives : DapDrivesEach Exchanged pieces s t
  pub bits : waiting ++ more ≡ dap_joined pieces ++ left

-- these clocks are released, so many by each packet
abbrev pub DapReleasesEach : {P : Type 0} → (List DapExchange → P → Type 0) → List ℕ → P → P → Type 0
DapReleasesEach Exchanged [] s t = t ≡ s
DapReleasesEach {P} Exchanged (clocks ∷ more) s t = (m : P) × (least : ℕ) × (reply : List ℕ)
    × DapDoes Exchanged (dap_release_request clocks) least reply s m × DapReleasesEach Exchanged more m t

abbrev pub dap_total : List ℕ → ℕ
dap_total [] = 0
dap_total (n ∷ more) = n + dap_total more

pub record DapReleases {P : Type 0} (Exchanged : List DapExchange → P → Type 0) (clocks : ℕ) (s t : P) : Type 0 where
  pub pieces : List ℕ
  pub releases : DapReleasesEach Exchanged pieces s t
  pub count : dap_total pieces ≡ clocks

-- the switch from JTAG, in time order (IHI 0031, B5, "Switching from JTAG to SWD")
abbrev pub dap_switch : List Bool
dap_switch = false ∷ true ∷ true ∷ true ∷ true ∷ false ∷ false ∷ true ∷ true ∷ true ∷ true ∷ false ∷ false ∷ true ∷ true
    ∷ true ∷ []

abbrev pub dap_switch_and : Option ℕ → List Bool
dap_switch_and None = []
dap_switch_and (Some ones) = dap_switch ++ replicate ones true

-- the bits of a lead: ones, the switch and more ones, and zeros
abbrev pub dap_lead_bits : ℕ → Option ℕ → ℕ → List Bool
dap_lead_bits ones again zeros = (replicate ones true ++ dap_switch_and again) ++ replicate zeros false

-- the clocks of a lead: the first ones released if the line may be driven, and bits
pub record DapClocksLead {P : Type 0} (Exchanged : List DapExchange → P → Type 0) (ones undriven : ℕ) (switch : Bool)
    (zeros : ℕ) (s t : P) : Type 0 where
  pub released : P
  pub releases : DapReleases Exchanged (min undriven ones) s released
  pub drives : DapQueues Exchanged
      (dap_lead_bits (ones - min undriven ones) (if switch then Some ones else None) zeros) released [] t []

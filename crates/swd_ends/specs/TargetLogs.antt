-- The log of a served target: a line for each transfer, and one with the numbers of cycles and requests. The format is
-- this project's choice.
use Rattle.std.specs.Prelude.{ℕ, ◌-◌, ◌^◌, min, List, [], ◌∷◌, ◌++◌, drop, codes, if◌then◌else◌}
use Rattle.std.specs.Fmt.{decimal}
use Rattle.swd_bits.specs.Listing.{hex8}
use Rattle.swd_port.specs.declared.access.Transfer.{Transfer}
use Rattle.swd_port.specs.Bus.{Bus}
use Rattle.swd_clocked.specs.declared.marked.FaultyClocked.{FaultyClocked}
use Rattle.swd_clocked.specs.Marked.{marked_clocked_state, marked_clocked_tally, marked_clocked_cycles}

-- the line of a transfer, without its line feed
abbrev pub live_log_line : Transfer → List ℕ
live_log_line t = (if t.read then codes "r " else codes "w ") ++ hex8 t.addr ++ codes " " ++ hex8 t.word

-- the last line, without its line feed
abbrev pub live_log_counts_line : ℕ → ℕ → List ℕ
live_log_counts_line cycles requests = codes "cycles " ++ decimal cycles ++ codes " requests " ++ decimal requests

-- the lines of transfers, each with its line feed
abbrev pub live_log_lines : List Transfer → List ℕ
live_log_lines [] = []
live_log_lines (t ∷ transfers) = (live_log_line t ++ 10 ∷ []) ++ live_log_lines transfers

-- the whole output
abbrev pub live_log_text : List Transfer → ℕ → ℕ → List ℕ
live_log_text transfers cycles requests = live_log_lines transfers ++ (live_log_counts_line cycles requests ++ 10 ∷ [])

-- the log of a target, behind so many transfers
abbrev pub live_log_from : {D A : Type 0} → (D → Bus) → ℕ → FaultyClocked D A → List ℕ
live_log_from bus skipped target =
    live_log_text (drop skipped (marked_clocked_state bus target).memory.log) (marked_clocked_cycles target)
    (min (marked_clocked_tally target).asked (2 ^ 64 - 1))

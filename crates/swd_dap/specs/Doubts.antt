-- How many accesses the requests of a packet are of.
use Rattle.std.specs.Prelude.{ℕ, ◌+◌, Bool, ◌&&◌, List, [], ◌∷◌, if◌then◌else◌}
use Rattle.swd_bits.specs.declared.request.Request.{Request}
use Rattle.swd_dap.specs.declared.transfer.Transfer.{Transfer}
use Rattle.swd_dap.specs.Transfers.{dap_fetches}

-- a request for DRW, which is of one access
abbrev pub dap_is_drw : Request → Bool
dap_is_drw q = q.ap && dap_fetches q.addr

abbrev pub dap_drws : List Transfer → ℕ
dap_drws [] = 0
dap_drws (t ∷ ts) = (if dap_is_drw t.request then 1 else 0) + dap_drws ts

-- Requests by number, and their listing.
use Rattle.std.specs.Prelude.{ℕ, ◌/◌, ◌%◌, ◌==◌, List, ◌++◌}
use Rattle.swd_bits.specs.Wire.{request_reg4_of}
use Rattle.swd_bits.specs.Listing.{tx_line_port, tx_line_address, tx_line_direction}
use Rattle.swd_bits.specs.declared.request.Request.{Request}

-- the request whose port, direction and address bits are this number, the port least significant
abbrev pub tx_line_request_at : ℕ → Request
tx_line_request_at n = record { ap = n % 2 == 1; read = n / 2 % 2 == 1; addr = request_reg4_of (n / 4) }

-- the listing of a request
abbrev pub tx_line_request_text : Request → List ℕ
tx_line_request_text q = tx_line_port q.ap ++ tx_line_address q.addr ++ tx_line_direction q.read

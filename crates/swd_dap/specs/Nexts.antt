-- What a request leaves to come.
use Rattle.std.specs.Prelude.{ℕ, ◌==◌, if◌then◌else◌}
use Rattle.swd_dap.specs.declared.replies.Told.{Told}
use Rattle.swd_dap.specs.declared.transport.Next.{Next}
use Rattle.swd_dap.specs.declared.transport.Next.TheVariants.{Nothing, Read, Written, Clocks}

-- what a transaction that was told leaves to come
abbrev pub dap_next_of : Told → Next
dap_next_of told =
    if told.seen == 1 then (if told.transfer.request.read then Read told.bits else Written told.bits) else Nothing

-- what a request by sequences leaves to come
abbrev pub dap_next_by_clocks : ℕ → Next
dap_next_by_clocks seen = if seen == 1 then Clocks else (if seen == 2 then Clocks else (if seen == 4 then Clocks
    else Nothing))

-- How often a register was read and written.
use Rattle.std.specs.Prelude.{◌+◌, ◌-◌, ◌^◌, min}
use Rattle.swd_devices.specs.declared.seen.Seen.{Seen}

-- no access yet
abbrev pub no_access_seen : Seen
no_access_seen = record { reads = 0; writes = 0 }

-- one more read
abbrev pub reads_seen : Seen → Seen
reads_seen s = record s { reads = min (s.reads + 1) (2 ^ 32 - 1) }

-- one more write
abbrev pub writes_seen : Seen → Seen
writes_seen s = record s { writes = min (s.writes + 1) (2 ^ 32 - 1) }

-- What a sight says of the first item; `None` if more bits are needed.
use Rattle.std.specs.Prelude.{ℕ, Bool, true, false, Option, Some, None, if◌then◌else◌}
use Rattle.swd_resync.specs.declared.sight.Sight.{Sight}
use Rattle.swd_resync.specs.declared.sight.Sight.TheVariants.{Wait, End, Zero, Ones, Tx, Junk, Cut}
use Rattle.swd_resync.specs.Parts.{resync_is_sound}

-- the number of bits of a sound transaction
abbrev pub sight_sound_bits : Sight → Option ℕ
sight_sound_bits Wait = None
sight_sound_bits End = Some 0
sight_sound_bits Zero = Some 0
sight_sound_bits Ones = Some 0
sight_sound_bits (Tx tx len) = Some (if resync_is_sound tx.result then len else 0)
sight_sound_bits Junk = Some 0
sight_sound_bits (Cut bits) = Some 0

-- a junk bit
abbrev pub sight_junk_bit : Sight → Option Bool
sight_junk_bit Wait = None
sight_junk_bit End = Some false
sight_junk_bit Zero = Some false
sight_junk_bit Ones = Some false
sight_junk_bit (Tx tx len) = Some false
sight_junk_bit Junk = Some true
sight_junk_bit (Cut bits) = Some false

-- fifty ones
abbrev pub sight_fifty_ones : Sight → Option Bool
sight_fifty_ones Wait = None
sight_fifty_ones End = Some false
sight_fifty_ones Zero = Some false
sight_fifty_ones Ones = Some true
sight_fifty_ones (Tx tx len) = Some false
sight_fifty_ones Junk = Some false
sight_fifty_ones (Cut bits) = Some false

-- no bits, or fifty ones
abbrev pub sight_end_or_reset : Sight → Option Bool
sight_end_or_reset Wait = None
sight_end_or_reset End = Some true
sight_end_or_reset Zero = Some false
sight_end_or_reset Ones = Some true
sight_end_or_reset (Tx tx len) = Some false
sight_end_or_reset Junk = Some false
sight_end_or_reset (Cut bits) = Some false

-- neither a junk bit nor a transaction that isn't sound
abbrev pub sight_sound_item : Sight → Option Bool
sight_sound_item Wait = None
sight_sound_item End = Some true
sight_sound_item Zero = Some true
sight_sound_item Ones = Some true
sight_sound_item (Tx tx len) = Some (resync_is_sound tx.result)
sight_sound_item Junk = Some false
sight_sound_item (Cut bits) = Some true

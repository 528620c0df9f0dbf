-- What a request does in a world: the laws of reads, of writes that arrived, and of ABORT.
use Rattle.std.specs.Prelude.{ℕ, ◌≡◌, ◌⊎◌, ◌==◌, Bool, true, false, None, Some, is_some}
use Rattle.swd_port.specs.declared.register.Register.TheVariants.{DpidrRead, AbortWrite, CtrlStatWrite, SelectWrite}
use Rattle.swd_port.specs.declared.register.Register.TheVariants.{ResendRead, RdbuffRead, CswRead, CswWrite, TarRead}
use Rattle.swd_port.specs.declared.register.Register.TheVariants.{TarWrite, DrwRead, DrwWrite, ApOtherRead}
use Rattle.swd_port.specs.declared.register.Register.TheVariants.{ApOtherWrite, CtrlStatRead}
use Rattle.swd_port.specs.Registers.{register_bit, csw_of}
use Rattle.swd_port.specs.declared.state.PowerUp.{PowerUp}
use Rattle.swd_port.specs.Port.{Target}
use Rattle.swd_port.specs.Choices.{Choice}
use Rattle.swd_port.specs.Asking.{port_after_okay, power_up_after, ctrl_stat_word_in}
use Rattle.swd_port.specs.Moving.{Arrives, port_after_bits}
use Rattle.swd_checker.specs.Worlds.{World, Power, TransferRead, TransferWrite, TarFrom, Held, HeldWord, HeldCsw}
use Rattle.swd_checker.specs.Worlds.{world_failed}
use Rattle.swd_checker.specs.Described.{IsWorldNow, WorldDescribes, CheckedHeld, CheckedPower}
use Rattle.swd_checker.specs.Words.{IsCheckedStatus}
use Rattle.swd_checker.specs.Steps.{WorldAccepts, world_live, world_posted, world_selecting, world_cleared}
use Rattle.swd_checker.specs.Steps.{world_powered}
use Rattle.swd_checker.specs.Steps.{world_written, is_found_late, checked_power_found, PowerFound, IsPowerFound}

-- after a read of DPIDR the target is live
abbrev pub WorldAtDpidr : Type 0
WorldAtDpidr = (w : World) (c : Choice) (x : Target) → WorldAccepts w DpidrRead c x
    → WorldDescribes (world_live w) (port_after_okay c DpidrRead x)

-- RESEND returns the last returned value, of which this is known from then on
abbrev pub WorldAtResend : Type 0
WorldAtResend = (w : World) (held : Held) (c : Choice) (x : Target) → WorldAccepts w ResendRead c x
    → CheckedHeld held x.last_returned
    → WorldDescribes (record w { last_returned = held }) (port_after_okay c ResendRead x)

-- a posted read returns the read buffer, of which this is known from then on, and fetches another word
abbrev pub WorldAtRdbuff : Type 0
WorldAtRdbuff = (w : World) (held : Held) (c : Choice) (x : Target) → WorldAccepts w RdbuffRead c x
    → CheckedHeld held x.buffer → WorldDescribes (world_posted held w) (port_after_okay c RdbuffRead x)

abbrev pub WorldAtCswRead : Type 0
WorldAtCswRead = (w : World) (held : Held) (c : Choice) (x : Target) → WorldAccepts w CswRead c x
    → CheckedHeld held x.buffer
    → WorldDescribes (record (world_posted held w) { buffer = HeldCsw w.increments }) (port_after_okay c CswRead x)

abbrev pub WorldAtTarRead : Type 0
WorldAtTarRead = (w : World) (held : Held) (c : Choice) (x : Target) → WorldAccepts w TarRead c x
    → CheckedHeld held x.buffer → IsWorldNow (world_posted held w) (port_after_okay c TarRead x)

abbrev pub WorldAtDrwRead : Type 0
WorldAtDrwRead = (w : World) (held : Held) (c : Choice) (x : Target) → WorldAccepts w DrwRead c x
    → CheckedHeld held x.buffer
    → WorldDescribes (record (world_posted held w) { pending = Some TransferRead }) (port_after_okay c DrwRead x)

-- a register elsewhere has a word, or is a bus error
abbrev pub WorldAtReadElsewhere : Type 0
WorldAtReadElsewhere = (w : World) (held : Held) (c : Choice) (x : Target) → WorldAccepts w ApOtherRead c x
    → CheckedHeld held x.buffer
    → WorldDescribes (record (world_posted held w) { buffer = HeldWord }) (port_after_okay c ApOtherRead x)
    ⊎ WorldDescribes (record (world_posted held w) { sticky_error = true }) (port_after_okay c ApOtherRead x)

-- a word that arrives at CTRL/STAT or SELECT
abbrev pub WorldAtCtrlStat : Type 0
WorldAtCtrlStat = (w : World) (word : ℕ) (refuses : Bool) (x : Target) → WorldDescribes w x
    → WorldDescribes (world_powered word w) (port_after_bits refuses (Arrives CtrlStatWrite word) x)

abbrev pub WorldAtSelect : Type 0
WorldAtSelect = (w : World) (word : ℕ) (refuses : Bool) (x : Target) → WorldDescribes w x
    → WorldDescribes (world_selecting word w) (port_after_bits refuses (Arrives SelectWrite word) x)

-- or at an access port, where nothing is pending
abbrev pub WorldAtCswWrite : Type 0
WorldAtCswWrite = (w : World) (word : ℕ) (refuses : Bool) (x : Target) → w.pending ≡ None → WorldDescribes w x
    → WorldDescribes (record (world_written w) { increments = (csw_of word).addr_inc == 1 })
    (port_after_bits refuses (Arrives CswWrite word) x)

abbrev pub WorldAtTarWrite : Type 0
WorldAtTarWrite = (w : World) (word : ℕ) (refuses : Bool) (x : Target) → w.pending ≡ None → WorldDescribes w x
    → WorldDescribes (record (world_written w) { tar = TarFrom word 0 })
    (port_after_bits refuses (Arrives TarWrite word) x)

abbrev pub WorldAtDrwWrite : Type 0
WorldAtDrwWrite = (w : World) (word : ℕ) (refuses : Bool) (x : Target) → w.pending ≡ None → WorldDescribes w x
    → WorldDescribes (record (world_written w) { pending = Some TransferWrite })
    (port_after_bits refuses (Arrives DrwWrite word) x)

abbrev pub WorldAtWriteElsewhere : Type 0
WorldAtWriteElsewhere = (w : World) (word : ℕ) (refuses : Bool) (x : Target) → w.pending ≡ None
    → WorldDescribes w x
    → WorldDescribes (world_written w) (port_after_bits refuses (Arrives ApOtherWrite word) x)
    ⊎ WorldDescribes (record (world_written w) { sticky_error = true })
    (port_after_bits refuses (Arrives ApOtherWrite word) x)

-- ABORT clears flags, also that of a bus error that didn't show
abbrev pub WorldAtAbort : Type 0
WorldAtAbort = (w : World) (word : ℕ) (refuses : Bool) (x : Target) → WorldDescribes w x
    → WorldDescribes (world_cleared word w) (port_after_bits refuses (Arrives AbortWrite word) x)
    ⊎ ((is_some w.pending ≡ true) × (register_bit 2 word ≡ true)
    × WorldDescribes (world_cleared word (world_failed w)) (port_after_bits refuses (Arrives AbortWrite word) x))

-- a read of CTRL/STAT finds a power acknowledged, or late
abbrev pub WorldFindsPower : Type 0
WorldFindsPower = (power : Power) (found late on : Bool) (up : PowerUp) → CheckedPower power on up
    → found ≡ is_found_late late on up
    → IsPowerFound (checked_power_found power found) on (power_up_after late CtrlStatRead up)

-- it returns the flags, READOK and the powers as they were found, and changes the powers alone
abbrev pub WorldAtStatus : Type 0
WorldAtStatus = (w : World) (c : Choice) (x : Target) (debug system : Power) → WorldDescribes w x
    → x.sticky_error ≡ w.sticky_error
    → PowerFound debug x.debug_power (power_up_after c.debug_late CtrlStatRead x.debug_up)
    → PowerFound system x.system_power (power_up_after c.system_late CtrlStatRead x.system_up)
    → IsCheckedStatus (record w { debug = debug; system = system }) (ctrl_stat_word_in c x)
    × WorldDescribes (record w { debug = debug; system = system }) (port_after_okay c CtrlStatRead x)

-- a pending transfer that was a bus error already may show in STICKYERR
abbrev pub WorldShowsSticky : World → Target → Type 0
WorldShowsSticky w x = (x.sticky_error ≡ w.sticky_error)
    ⊎ ((is_some w.pending ≡ true) × (w.sticky_error ≡ false) × WorldDescribes (world_failed w) x
    × (x.sticky_error ≡ true))

abbrev pub WorldAtSticky : Type 0
WorldAtSticky = (w : World) (x : Target) → WorldDescribes w x → WorldShowsSticky w x

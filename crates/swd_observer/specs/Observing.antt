-- What the items of a trace show of a target. The rules are those of the port model (`Port` of swd_port),
-- seen from outside. Where they leave a choice open, the value is unknown from there on: this is this
-- project's choice.
pub use Rattle.swd_observer.specs.declared.observer.Class.{Class}
pub use Rattle.swd_observer.specs.declared.observer.Class.TheVariants.{Passes, Aborts, Status, Confirms}
use Rattle.std.specs.Prelude.{ℕ, ◌+◌, ◌%◌, ◌==◌, ◌&&◌, ◌||◌, not, Bool, true, false, if◌then◌else◌}
use Rattle.std.specs.Prelude.{Option, Some, None, is_some, nat_lt}
use Rattle.std.specs.Option.{option_map, option_and_then}
use Rattle.swd_bits.specs.declared.request.Request.{Request}
use Rattle.swd_bits.specs.declared.request.Reg4.{Reg4}
use Rattle.swd_bits.specs.declared.request.Reg4.TheVariants.{R0, R4, R8, RC}
use Rattle.swd_bits.specs.declared.tx.TxEnd.{TxEnd}
use Rattle.swd_bits.specs.declared.tx.TxEnd.TheVariants.{Moved, Wait, Fault, NoAck}
use Rattle.swd_trace.specs.declared.item.Item.{Item}
use Rattle.swd_trace.specs.declared.item.Item.TheVariants.{Tx as TxItem, Junk, Cut}
use Rattle.swd_port.specs.declared.csw.Csw.{Csw}
use Rattle.swd_port.specs.declared.select.Select.{Select}
use Rattle.swd_port.specs.Registers.{register_bit, select_of, port_select_zero, csw_of}
use Rattle.swd_port.specs.Port.{port_selects_mem_ap}
use Rattle.swd_observer.specs.declared.told.ObservedAccess.{ObservedAccess}
use Rattle.swd_observer.specs.declared.told.How.{How}
use Rattle.swd_observer.specs.declared.told.How.TheVariants.{Took, May, Not}
use Rattle.swd_observer.specs.declared.observer.Observer.{Observer}
use Rattle.swd_observer.specs.declared.observer.SentWrite.{SentWrite}
use Rattle.swd_observer.specs.declared.observer.StartedTransfer.{StartedTransfer}
use Rattle.swd_observer.specs.declared.observer.Older.{Older}
use Rattle.swd_observer.specs.declared.observer.Standing.{Standing}
use Rattle.swd_observer.specs.declared.observer.Standing.TheVariants.{Buffer, Returned}
use Rattle.swd_observer.specs.declared.observer.Observations.{Observations}
use Rattle.swd_observer.specs.declared.observer.Written.{Written}
use Rattle.swd_observer.specs.declared.observer.Written.TheVariants.{Select as ToSelect, Csw as ToCsw, Tar as ToTar}
use Rattle.swd_observer.specs.declared.observer.Written.TheVariants.{Drw as ToDrw}
use Rattle.swd_observer.specs.declared.observer.RequestEffect.{RequestEffect}
use Rattle.swd_observer.specs.declared.observer.RequestEffect.TheVariants.{Other, Elsewhere, Reads, Writes, MayRead}
use Rattle.swd_observer.specs.declared.observer.RequestEffect.TheVariants.{MayWrite}

-- nothing is known: a capture that begins anywhere
abbrev pub observer_unknown : Observer
observer_unknown = record {
  select = None;
  increments = None;
  tar = None;
  sent = None;
  begun = None;
  older =
      None;
}

-- a target in its reset state
abbrev pub observer_as_made : Observer
observer_as_made = record {
  select = Some port_select_zero;
  increments = Some false;
  tar = Some 0;
  sent = None;
  begun = None;
  older = None;
}

-- a target at rest: SELECT is 0, nothing is in flight, and all else is unknown
abbrev pub observer_at_rest : Observer
observer_at_rest = record {
  select = Some port_select_zero;
  increments = None;
  tar = None;
  sent = None;
  begun = None;
  older = None;
}

-- the registers once a write arrived: SELECT, AddrInc of CSW, TAR; a DRW write starts its transfer at TAR
abbrev pub observed_select_sent : Written → Option ℕ → Option Select → Option Select
observed_select_sent ToSelect word old = option_map select_of word
observed_select_sent w word old = old

-- whether TAR increments, if CSW says that a transfer is a word and AddrInc is off or single (IHI 0031,
-- MEM-AP, CSW); unknown for every other Size and AddrInc
abbrev pub observed_csw_increments : Csw → Option Bool
observed_csw_increments c = if (c.size == 2) && nat_lt c.addr_inc 2 then Some (c.addr_inc == 1) else None

abbrev pub observed_increments_in : ℕ → Option Bool
observed_increments_in word = observed_csw_increments (csw_of word)

abbrev pub observed_increments_sent : Written → Option ℕ → Option Bool → Option Bool
observed_increments_sent ToCsw word old = option_and_then observed_increments_in word
observed_increments_sent w word old = old

-- the word of a transfer, if its size is known to be a word
abbrev pub observed_whole : Option Bool → Option ℕ → Option ℕ
observed_whole None word = None
observed_whole (Some increments) word = word

abbrev pub observed_tar_sent : Written → Option ℕ → Option ℕ → Option ℕ
observed_tar_sent ToTar word old = word
observed_tar_sent w word old = old

abbrev pub observed_begun_sent : Written → Option Bool → Option ℕ → ℕ → Option StartedTransfer → Option StartedTransfer
observed_begun_sent ToDrw increments word place old =
    Some (record { read = false; word = observed_whole increments word; place = place })
observed_begun_sent w increments word place old = old

-- the write that was sent arrived intact
abbrev pub observer_arrival_of : Option SentWrite → Observer → Observer
observer_arrival_of None o = o
observer_arrival_of (Some s) o = record {
  select = observed_select_sent s.written s.word o.select;
  increments = observed_increments_sent s.written s.word o.increments;
  tar = observed_tar_sent s.written s.word o.tar;
  sent = None;
  begun = observed_begun_sent s.written o.increments s.word s.place o.begun;
  older = o.older;
}

abbrev pub observer_arrival : Observer → Observer
observer_arrival o = observer_arrival_of o.sent o

-- TAR after a transfer that took effect: known if it is known whether it increments, and within a kilobyte
abbrev pub observed_tar_advance : Option Bool → Option ℕ → Option ℕ
observed_tar_advance (Some true) (Some at) = if (at % 4 == 0) && not (at % 1024 == 1020) then Some (at + 4) else None
observed_tar_advance (Some true) None = None
observed_tar_advance (Some false) tar = tar
observed_tar_advance None tar = None

abbrev pub observed_tar_done : Option StartedTransfer → Option Bool → Option ℕ → Option ℕ
observed_tar_done None increments tar = tar
observed_tar_done (Some b) increments tar = observed_tar_advance increments tar

-- the transfer in flight took effect
abbrev pub observer_transfer_done : Observer → Observer
observer_transfer_done o = record o {
  tar = observed_tar_done o.begun o.increments o.tar;
  begun = None;
  older = None;
}

-- OK to a request that isn't exempt: no flag is set, so the write arrived, and the transfer took effect
abbrev pub observer_confirmed : Observer → Observer
observer_confirmed o = observer_transfer_done (observer_arrival o)

-- TAR after a transfer that may have been a bus error
abbrev pub observed_tar_lost : Option StartedTransfer → Option ℕ → Option ℕ
observed_tar_lost None tar = tar
observed_tar_lost (Some b) tar = None

abbrev pub observer_transfer_undone : Observer → Observer
observer_transfer_undone o = record o {
  tar = observed_tar_lost o.begun o.tar;
  begun = None;
  older =
      None;
}

-- a write whose word is unknown
abbrev pub observed_sent_unsure : SentWrite → SentWrite
observed_sent_unsure s = record s { word = None }

abbrev pub observer_unsure : Observer → Observer
observer_unsure o = record o { sent = option_map observed_sent_unsure o.sent }

-- Flags may have changed unseen: no later request shows what happened to the write and the transfer.
abbrev pub observer_doubted : Observer → Observer
observer_doubted o = observer_transfer_undone (observer_arrival (observer_unsure o))

-- what is reported of the transfer in flight: for a read, with the word that was returned
abbrev pub observed_word_of_begun : StartedTransfer → Option ℕ → Option ℕ
observed_word_of_begun b got = if b.read then got else b.word

abbrev pub observed_begun : How → Option ℕ → Option ℕ → Option StartedTransfer → Option ObservedAccess
observed_begun how got tar None = None
observed_begun how got tar (Some b) =
    Some (record { place = b.place; read = b.read; addr = tar; word = observed_word_of_begun b got; how = how })

abbrev pub observed_flight_access : How → Option ℕ → Observer → Option ObservedAccess
observed_flight_access how got o = observed_begun how got (observer_arrival o).tar (observer_arrival o).begun

-- what is reported of the transfer in flight if no later request shows it
abbrev pub observed_doubt : Observer → Option ObservedAccess
observed_doubt o = observed_flight_access May None o

-- what is reported of an earlier read whose word wasn't seen yet
abbrev pub observed_older : Option ℕ → Option Older → Option ObservedAccess
observed_older word None = None
observed_older word (Some h) =
    Some (record { place = h.place; read = true; addr = h.addr; word = word; how = Took })

-- both, at the end of a trace
abbrev pub observed_last_accesses : Observer → Observations
observed_last_accesses o = record { older = observed_older None o.older; before = observed_doubt o; itself = None }

-- CTRL/STAT is at the debug port's address 4: DPBANKSEL is 0, and no write to SELECT is unconfirmed
abbrev pub is_observed_to_select : Written → Bool
is_observed_to_select ToSelect = true
is_observed_to_select w = false

-- the write is to DRW
abbrev pub is_observed_to_drw : Written → Bool
is_observed_to_drw ToDrw = true
is_observed_to_drw w = false

abbrev pub is_observed_select_sent : Option SentWrite → Bool
is_observed_select_sent None = false
is_observed_select_sent (Some s) = is_observed_to_select s.written

abbrev pub is_observed_bank_0 : Option Select → Bool
is_observed_bank_0 None = false
is_observed_bank_0 (Some s) = s.dpbanksel == 0

abbrev pub is_status_observed : Observer → Bool
is_status_observed o = is_observed_bank_0 o.select && not (is_observed_select_sent o.sent)

-- the debug port's address 4 isn't CTRL/STAT: DPBANKSEL isn't 0, and no write to SELECT is unconfirmed
abbrev pub is_observed_other_bank : Option Select → Bool
is_observed_other_bank None = false
is_observed_other_bank (Some s) = not (s.dpbanksel == 0)

abbrev pub is_other_bank_observed : Observer → Bool
is_other_bank_observed o = is_observed_other_bank o.select && not (is_observed_select_sent o.sent)

-- CTRL/STAT was read. WDATAERR: the write didn't arrive. STICKYERR: the transfer was a bus error. Neither:
-- the write arrived.
abbrev pub observer_at_wdataerr : Bool → Observer → Observer
observer_at_wdataerr damaged o = if damaged then record o { sent = None } else observer_arrival o

abbrev pub observed_tar_flagged : Bool → Option StartedTransfer → Option ℕ → Option ℕ
observed_tar_flagged sticky begun tar = if sticky then observed_tar_lost begun tar else tar

abbrev pub observer_flagged : Bool → Bool → Observer → Observer
observer_flagged sticky damaged o =
    if sticky || damaged then
    record (observer_at_wdataerr damaged o) {
      tar = observed_tar_flagged sticky (observer_arrival o).begun (observer_at_wdataerr damaged o).tar;
      begun = None;
    }
    else observer_arrival o

abbrev pub observed_flagged : Bool → Bool → Observer → Option ObservedAccess
observed_flagged sticky damaged o = if sticky || damaged then observed_flight_access Not None o else None

-- what a request does that isn't exempt and is answered OK, by what is known of SELECT
abbrev pub observed_kind_dp : Bool → Reg4 → RequestEffect
observed_kind_dp false R8 = Writes ToSelect
observed_kind_dp read addr = Other

abbrev pub observed_kind_mem : Bool → Reg4 → RequestEffect
observed_kind_mem true RC = Reads
observed_kind_mem true addr = Other
observed_kind_mem false R0 = Writes ToCsw
observed_kind_mem false R4 = Writes ToTar
observed_kind_mem false R8 = Other
observed_kind_mem false RC = Writes ToDrw

abbrev pub is_observed_rc : Reg4 → Bool
is_observed_rc RC = true
is_observed_rc addr = false

-- a data register of another access port, or a banked one (IHI 0031, MEM-AP, "BD0-BD3, Banked Data
-- registers"): in the port model it accesses no memory, and on a chip it may be any access
abbrev pub is_observed_data_register : Select → Reg4 → Bool
is_observed_data_register s addr = (s.apbanksel == 1) || ((s.apbanksel == 0) && is_observed_rc addr)

abbrev pub observed_kind_elsewhere : Select → Bool → Reg4 → RequestEffect
observed_kind_elsewhere s read addr = if is_observed_data_register s addr then Elsewhere read else Other

abbrev pub observed_kind_maybe : RequestEffect → RequestEffect
observed_kind_maybe Reads = MayRead
observed_kind_maybe (Writes w) = MayWrite w
observed_kind_maybe k = k

abbrev pub observed_kind_ap : Option Select → Bool → Reg4 → RequestEffect
observed_kind_ap None read addr = observed_kind_maybe (observed_kind_mem read addr)
observed_kind_ap (Some s) read addr = if port_selects_mem_ap s then observed_kind_mem read addr else
    observed_kind_elsewhere s read addr

abbrev pub observed_kind : Option Select → Request → RequestEffect
observed_kind select q = if q.ap then observed_kind_ap select q.read q.addr else observed_kind_dp q.read q.addr

-- what becomes unknown if a write may have been to this register
abbrev pub observed_increments_maybe : Written → Option Bool → Option Bool
observed_increments_maybe ToCsw old = None
observed_increments_maybe w old = old

abbrev pub observed_tar_maybe : Written → Option ℕ → Option ℕ
observed_tar_maybe ToTar old = None
observed_tar_maybe ToDrw old = None
observed_tar_maybe w old = old

-- the observer after OK to a request; a write's word if its parity was right
abbrev pub observer_accepted : RequestEffect → Option ℕ → ℕ → Observer → Observer
observer_accepted Other word place o = o
observer_accepted Reads word place o = record o { begun = Some (record { read = true; word = None; place = place }) }
observer_accepted (Writes w) word place o =
    record o { sent = Some (record { written = w; word = word; place = place }) }
observer_accepted (Elsewhere read) word place o = o
observer_accepted MayRead word place o = record o { tar = None }
observer_accepted (MayWrite w) word place o =
    record o { increments = observed_increments_maybe w o.increments; tar = observed_tar_maybe w o.tar }

-- what is reported of the request itself
abbrev pub observed_may_access : Bool → Option ℕ → Option ℕ → ℕ → Option ObservedAccess
observed_may_access read tar word place =
    Some (record { place = place; read = read; addr = tar; word = word; how = May })

abbrev pub observed_itself : RequestEffect → Option ℕ → Option ℕ → ℕ → Option ObservedAccess
observed_itself (Elsewhere read) word tar place = observed_may_access read None None place
observed_itself MayRead word tar place = observed_may_access true tar None place
observed_itself (MayWrite ToDrw) word tar place = observed_may_access false tar word place
observed_itself k word tar place = None

-- a request without acknowledgement: a DRW read may have been accepted; a write gets no data
abbrev pub is_observed_read_kind : RequestEffect → Bool
is_observed_read_kind Reads = true
is_observed_read_kind MayRead = true
is_observed_read_kind k = false

abbrev pub observer_unanswered : RequestEffect → Observer → Observer
observer_unanswered k o = if is_observed_read_kind k then record o { tar = None } else o

abbrev pub observed_unanswered_read : RequestEffect → Option ℕ → ℕ → Option ObservedAccess
observed_unanswered_read k tar place = if is_observed_read_kind k then observed_may_access true tar None place else None

-- AP reads and RDBUFF return the read buffer
abbrev pub is_observed_posted_read : Request → Bool
is_observed_posted_read q = q.read && (q.ap || is_observed_rc q.addr)

abbrev pub word_observed : Bool → ℕ → Option ℕ
word_observed ok word = if ok then Some word else None

-- the exempt requests: the DPIDR read, the ABORT write, and the read of the debug port's address 4, unless it
-- is known not to be CTRL/STAT
abbrev pub observed_class_dp : Bool → Bool → Reg4 → Class
observed_class_dp other true R0 = Passes
observed_class_dp other false R0 = Aborts
observed_class_dp other true R4 = if other then Confirms else Status
observed_class_dp other read addr = Confirms

abbrev pub observed_class : Observer → Request → Class
observed_class o q = if q.ap then Confirms else observed_class_dp (is_other_bank_observed o) q.read q.addr

-- RESEND returns the last returned value
abbrev pub is_observed_r8 : Reg4 → Bool
is_observed_r8 R8 = true
is_observed_r8 addr = false

abbrev pub is_observed_resend : Request → Bool
is_observed_resend q = not q.ap && (q.read && is_observed_r8 q.addr)

-- what holds the word of a read that just took effect: the read buffer, or the last returned value if this
-- request returned it with wrong parity; nothing that an observer tracks if the request may be an access
-- itself
abbrev pub is_observed_plain : RequestEffect → Bool
is_observed_plain Other = true
is_observed_plain Reads = true
is_observed_plain k = false

abbrev pub observed_standing_after : Request → Bool → Bool → Option Standing
observed_standing_after q seen plain =
    if is_observed_resend q then Some Buffer else if is_observed_posted_read q && (not seen && plain) then Some Returned
    else None

abbrev pub observed_older_slot : Option StartedTransfer → Option ℕ → Option Standing → Option Older
observed_older_slot None tar s = None
observed_older_slot (Some b) tar None = None
observed_older_slot (Some b) tar (Some s) =
    if b.read then Some (record { place = b.place; addr = tar; standing = s }) else None

-- the word of such a read, if this request returned it
abbrev pub observed_standing_word : Standing → Request → Option ℕ → Option ℕ
observed_standing_word Buffer q word = if is_observed_posted_read q then word else None
observed_standing_word Returned q word = if is_observed_resend q then word else None

abbrev pub observed_older_word : Option Older → Request → Option ℕ → Option ℕ
observed_older_word None q word = None
observed_older_word (Some h) q word = observed_standing_word h.standing q word

abbrev pub unless_observed_older : Option Older → Option ObservedAccess → Option ObservedAccess
unless_observed_older None t = t
unless_observed_older (Some h) t = None

abbrev pub observed_older_slot_at : Request → Option ℕ → Observer → Option Older
observed_older_slot_at q word o = observed_older_slot (observer_arrival o).begun (observer_arrival o).tar
    (observed_standing_after q (is_some word) (is_observed_plain (observed_kind (observer_confirmed o).select q)))

-- OK to a request that isn't exempt
abbrev pub observer_after_confirm : Request → Option ℕ → ℕ → Observer → Observer
observer_after_confirm q word place o = record
    (observer_accepted (observed_kind (observer_confirmed o).select q) word place (observer_confirmed o)) {
      older = observed_older_slot_at q word o;
    }

abbrev pub observed_at_confirm : Request → Option ℕ → ℕ → Observer → Observations
observed_at_confirm q word place o = record {
  older = observed_older (observed_older_word o.older q (observed_whole o.increments word)) o.older;
  before = unless_observed_older (observed_older_slot_at q word o)
      (observed_flight_access Took (observed_whole o.increments (if is_observed_posted_read q then word else None)) o);
  itself = observed_itself (observed_kind (observer_confirmed o).select q)
      (observed_whole (observer_confirmed o).increments word) (observer_confirmed o).tar place;
}

abbrev pub no_observed_access : Observations
no_observed_access = record { older = None; before = None; itself = None }

-- an older read is reported, and this access
abbrev pub observed_older_flush : Option ObservedAccess → Observer → Observations
observed_older_flush t o = record { older = observed_older None o.older; before = t; itself = None }

-- OK, with a word
abbrev pub observer_after_class : Class → Request → ℕ → Bool → ℕ → Observer → Observer
observer_after_class Passes q word ok place o = o
observer_after_class Aborts q word ok place o = observer_doubted o
observer_after_class Status q word ok place o = record (if ok && is_status_observed o then
    observer_flagged (register_bit 5 word) (register_bit 7 word) o else o) { older = None }
observer_after_class Confirms q word ok place o = observer_after_confirm q (word_observed ok word) place o

abbrev pub observed_at_class : Class → Request → ℕ → Bool → ℕ → Observer → Observations
observed_at_class Passes q word ok place o = no_observed_access
observed_at_class Aborts q word ok place o = observed_older_flush (observed_doubt o) o
observed_at_class Status q word ok place o =
    observed_older_flush (if ok && is_status_observed o then observed_flagged (register_bit 5 word)
    (register_bit 7 word) o else None) o
observed_at_class Confirms q word ok place o = observed_at_confirm q (word_observed ok word) place o

-- a transaction
abbrev pub observer_after_tx_end : TxEnd → Request → ℕ → Observer → Observer
observer_after_tx_end (Moved word ok) q place o = observer_after_class (observed_class o q) q word ok place o
observer_after_tx_end Wait q place o = o
observer_after_tx_end Fault q place o = o
observer_after_tx_end (NoAck seen) q place o =
    observer_unanswered (observed_kind (observer_doubted o).select q) (observer_doubted o)

abbrev pub observed_at_tx_end : TxEnd → Request → ℕ → Observer → Observations
observed_at_tx_end (Moved word ok) q place o = observed_at_class (observed_class o q) q word ok place o
observed_at_tx_end Wait q place o = no_observed_access
observed_at_tx_end Fault q place o = no_observed_access
observed_at_tx_end (NoAck seen) q place o = record {
  older = observed_older None o.older;
  before = observed_doubt o;
  itself = observed_unanswered_read (observed_kind (observer_doubted o).select q) (observer_doubted o).tar place;
}

-- an item
abbrev pub observer_after_item : Item → ℕ → Observer → Observer
observer_after_item (TxItem tx) place o = observer_after_tx_end tx.result tx.request place o
observer_after_item (Junk b) place o = observer_unknown
observer_after_item (Cut bits) place o = observer_unknown
observer_after_item item place o = o

abbrev pub observed_at_item : Item → ℕ → Observer → Observations
observed_at_item (TxItem tx) place o = observed_at_tx_end tx.result tx.request place o
observed_at_item (Junk b) place o = observed_older_flush (observed_doubt o) o
observed_at_item (Cut bits) place o = observed_older_flush (observed_doubt o) o
observed_at_item item place o = no_observed_access

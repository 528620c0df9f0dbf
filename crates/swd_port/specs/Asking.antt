-- A request and its acknowledgement: one call of `ask`.
-- Source: IHI 0031, B4, "Packet request", "Acknowledge response", "Data transfer", "Read accesses"; B2, on
-- CTRL/STAT, RDBUFF and RESEND; and MEM-AP, "DRW, Data Read/Write register".
use Rattle.std.specs.Prelude.{ℕ, ◌≡◌, ◌<◌, ◌^◌, ◌+◌, ◌⊎◌, ◌||◌, ◌&&◌, Bool, true, false, if◌then◌else◌, Option, Some}
use Rattle.std.specs.Prelude.{None}
use Rattle.std.specs.Prelude.{unwrap_or}
use Rattle.swd_bits.specs.declared.request.Request.{Request}
use Rattle.swd_port.specs.Registers.{ctrl_stat_read, csw_read}
use Rattle.swd_bits.specs.Phases.{data_phase_number}
use Rattle.swd_port.specs.Choices.{port_flipped, Mark, IsPortMark, port_flip_of, port_disturbs, port_loses, Choice}
use Rattle.swd_port.specs.Choices.{IsPortChoice, PortMayBeLate}
use Rattle.swd_port.specs.Port.{Port, Target, PortTally, Register, DpidrRead, CtrlStatRead, ResendRead, RdbuffRead}
use Rattle.swd_port.specs.Port.{DpOtherRead, CswRead, CswWrite, TarRead, TarWrite, DrwRead, DrwWrite, ApOtherRead}
use Rattle.swd_port.specs.Port.{ApOtherWrite, Live, PowerUp, Late, Seen, AfterAck, Drives, Awaits, Drw, Reads, Writes}
use Rattle.swd_port.specs.Port.{port_register}
use Rattle.swd_port.specs.Answers.{Reply, Okay, Waits, Faults, Silent, is_exempt_register, is_dpidr_register}
use Rattle.swd_port.specs.Answers.{is_port_okay, is_port_power_there, is_port_unpowered, port_answer_by}
use Rattle.swd_port.specs.Answers.{port_reply_under, port_seen_at, PortSees, port_due_after}
use Rattle.swd_port.specs.Completion.{PortCompletes}

-- an AP read or the RDBUFF read: they return the read buffer, and READOK is about them
abbrev pub is_port_posted : Register → Bool
is_port_posted RdbuffRead = true
is_port_posted CswRead = true
is_port_posted TarRead = true
is_port_posted DrwRead = true
is_port_posted ApOtherRead = true
is_port_posted _ = false

-- debug power is on
abbrev pub port_has_power : Target → Bool
port_has_power x = x.debug_power && is_port_power_there x.debug_up

-- the answer in a state where no WAIT is asked for
abbrev pub port_answer : Target → Request → Reply
port_answer x q = port_answer_by x.reset x.sticky_error x.write_error (is_port_unpowered q.ap (port_has_power x))
    (port_register x.select q)

-- the reply in a state under a mark (this project's choice)
abbrev pub port_reply : Mark → Target → Request → Reply
port_reply mark x q = port_reply_under mark (port_register x.select q) (port_answer x q)

-- The word that a read returns, from the words of DPIDR and CTRL/STAT, the last returned value and the read buffer. The
-- choice has the word of another bank of the debug port, and replaces an unknown word. RESEND returns the last returned
-- value again; an AP read and RDBUFF return the read buffer.
abbrev pub port_value_read : Register → ℕ → ℕ → Option ℕ → Option ℕ → Choice → ℕ
port_value_read DpidrRead identification status last_returned buffer c = identification
port_value_read CtrlStatRead identification status last_returned buffer c = status
port_value_read ResendRead identification status last_returned buffer c = unwrap_or last_returned c.filler
port_value_read DpOtherRead identification status last_returned buffer c = c.elsewhere
port_value_read r identification status last_returned buffer c = unwrap_or buffer c.filler

-- a request for a register of an access port
abbrev pub is_access_port_register : Register → Bool
is_access_port_register CswRead = true
is_access_port_register CswWrite = true
is_access_port_register TarRead = true
is_access_port_register TarWrite = true
is_access_port_register DrwRead = true
is_access_port_register DrwWrite = true
is_access_port_register ApOtherRead = true
is_access_port_register ApOtherWrite = true
is_access_port_register r = false

-- The state of one of the powers after an OK. A read of CTRL/STAT finds it acknowledged, unless it is late and wasn't
-- read as acknowledged before (that it may be late: this project's choice).
abbrev pub power_up_after : Bool → Register → PowerUp → PowerUp
power_up_after late CtrlStatRead Seen = Seen
power_up_after late CtrlStatRead u = if late then Late else Seen
power_up_after late r u = u

-- the same of debug power, which an access port that answers shows, too (this project's choice)
abbrev pub debug_up_after : Bool → Register → PowerUp → PowerUp
debug_up_after late r u = if is_access_port_register r then Seen else power_up_after late r u

-- the word that CTRL/STAT returns in a state
abbrev pub ctrl_stat_word_in : Choice → Target → ℕ
ctrl_stat_word_in c x = ctrl_stat_read c.others x.sticky_error x.read_ok x.write_error
    x.debug_power (is_port_power_there (power_up_after c.debug_late CtrlStatRead x.debug_up))
    x.system_power (is_port_power_there (power_up_after c.system_late CtrlStatRead x.system_up))

-- the word that a read returns in a state (that any word replaces an unknown one: this project's choice)
abbrev pub port_value_in : Choice → Register → Target → ℕ
port_value_in c r x = port_value_read r x.identification (ctrl_stat_word_in c x) x.last_returned x.buffer c

-- the data phase after an OK; its 33 bits arrive with this bit changed, if any (the changed bit: this project's choice)
abbrev pub port_phase_after : Bool → Register → Option ℕ → ℕ → AfterAck
port_phase_after read r flip value = if read then Drives (port_flipped flip (data_phase_number value)) else Awaits r
    flip

-- only an OK is followed by a data phase
abbrev pub port_line_after : Reply → AfterAck → AfterAck → AfterAck
port_line_after reply phase line = if is_port_okay reply then phase else line

-- The read buffer after a read returned it. An AP read puts its own result there, DRW when its transfer is done; RDBUFF
-- leaves it unknown (an unknown TAR is an unknown result). A register elsewhere has any word, and a bus error there
-- leaves the buffer unknown (this project's choice).
abbrev pub port_buffer_once_read : Register → Choice → Bool → Option ℕ → Option ℕ → Option ℕ
port_buffer_once_read RdbuffRead c increments tar buffer = None
port_buffer_once_read CswRead c increments tar buffer = Some (csw_read increments c.others)
port_buffer_once_read TarRead c increments tar buffer = tar
port_buffer_once_read ApOtherRead c increments tar buffer = if c.refuses then None else Some c.elsewhere
port_buffer_once_read r c increments tar buffer = buffer

-- a read of an AP register elsewhere may be a bus error, which sets STICKYERR (which are: this project's choice)
abbrev pub stickyerr_once_read : Bool → Register → Bool → Bool
stickyerr_once_read refuses ApOtherRead flag = flag || refuses
stickyerr_once_read refuses r flag = flag

-- a DRW read is pending from its OK on
abbrev pub pending_drw_once_read : Register → Option Drw → Option Drw
pending_drw_once_read DrwRead pending = Some Reads
pending_drw_once_read r pending = pending

-- The target after an OK. A DPIDR read makes a fresh target live, and a read has its effects. A write's effects come
-- with its data phase. READOK is 1 if the last AP read or RDBUFF read that was answered got OK.
abbrev pub port_after_okay : Choice → Register → Target → Target
port_after_okay c r x = record x {
  reset = if is_dpidr_register r then Live else x.reset;
  sticky_error = stickyerr_once_read c.refuses r x.sticky_error;
  read_ok = if is_port_posted r then true else x.read_ok;
  buffer = port_buffer_once_read r c x.increments x.tar x.buffer;
  last_returned = if is_port_posted r then x.buffer else x.last_returned;
  pending = pending_drw_once_read r x.pending;
  debug_up = debug_up_after c.debug_late r x.debug_up;
  system_up = power_up_after c.system_late r x.system_up;
}

-- the target after WAIT: only READOK changes
abbrev pub port_after_wait : Register → Target → Target
port_after_wait r x = record x { read_ok = if is_port_posted r then false else x.read_ok }

-- the target after FAULT: only READOK changes, and STICKYERR for an AP access without power (that FAULT: this project's
-- choice)
abbrev pub port_after_fault : Register → Bool → Target → Target
port_after_fault r ap x = record x {
  read_ok = if is_port_posted r then false else x.read_ok;
  sticky_error = x.sticky_error || is_port_unpowered ap (port_has_power x);
}

-- the target after a reply; silence changes nothing
abbrev pub port_target_after : Choice → Reply → Register → Bool → Target → Target
port_target_after c Okay r ap x = port_after_okay c r x
port_target_after c Waits r ap x = port_after_wait r x
port_target_after c Faults r ap x = port_after_fault r ap x
port_target_after c Silent r ap x = x

-- the counts after one more request, by its mark (this project's choice)
abbrev pub port_tally_after : Mark → PortTally → PortTally
port_tally_after mark n = record {
  asked = n.asked + 1;
  disturbed = n.disturbed + port_disturbs mark;
  lost = n.lost + port_loses mark;
}

-- the state after a reply to a request
abbrev pub port_after_reply : Mark → Reply → Register → Request → Choice → Port → Port
port_after_reply mark reply r q c s = record {
  link = record {
    due = port_due_after q.read (port_seen_at mark reply);
    line = port_line_after reply (port_phase_after q.read r (port_flip_of mark) (port_value_in c r s.target))
        s.link.line;
  };
  target = port_target_after c reply r q.ap s.target;
  tally = port_tally_after mark s.tally;
}

-- The pending transfer has to complete before an OK or FAULT to a request that isn't exempt, so that its error makes
-- that answer FAULT. Before WAIT, silence, and the OK to an exempt request it may still be pending (this project's
-- choice).
abbrev pub IsPendingSettled : Reply → Register → Option Drw → Type 0
IsPendingSettled Okay r pending = is_exempt_register r ≡ false → pending ≡ None
IsPendingSettled Faults r pending = is_exempt_register r ≡ false → pending ≡ None
IsPendingSettled reply r pending = Unit {0}

-- what a read returns at its OK is a word: 32 bits
abbrev pub IsPortWordRead : Reply → Bool → ℕ → Type 0
IsPortWordRead Okay true value = value < 2 ^ 32
IsPortWordRead reply read value = Unit {0}

-- a request with its mark and the target's choice, without completion: what the host sees, and the state after it
pub record PortAsksNow (mark : Mark) (c : Choice) (s : Port) (q : Request) (seen : ℕ) (t : Port) : Type 0 where
  pub legal : IsPortMark mark
  pub choice : IsPortChoice c
  pub late : PortMayBeLate mark c
  pub settled : IsPendingSettled (port_reply mark s.target q) (port_register s.target.select q) s.target.pending
  pub word : IsPortWordRead (port_reply mark s.target q) q.read
      (port_value_in c (port_register s.target.select q) s.target)
  pub sees : PortSees mark (port_reply mark s.target q) seen
  pub after : t ≡ port_after_reply mark (port_reply mark s.target q) (port_register s.target.select q) q c s

-- A port with a write buffer gives up a write that it accepted, where DPIDR or CTRL/STAT is read or ABORT is written:
-- these requests can't wait for it. Nothing reaches the bus, and WDATAERR is set. It counts as a disturbance.
abbrev pub is_pending_write : Option Drw → Bool
is_pending_write (Some (Writes word)) = true
is_pending_write pending = false

abbrev pub port_without_write : Port → Port
port_without_write s = record s {
  target = record s.target { write_error = true; pending = None };
  tally = record s.tally { disturbed = s.tally.disturbed + 1 };
}

-- the target sees an exempt request and gives the pending write up (whether it does: this project's choice)
pub record PortGivesUp (mark : Mark) (q : Request) (s t : Port) : Type 0 where
  pub exempt : is_exempt_register (port_register s.target.select q) ≡ true
  pub seen : port_reply mark s.target q ≡ Okay
  pub write : is_pending_write s.target.pending ≡ true
  pub after : t ≡ port_without_write s

abbrev pub PortKeepsOrGivesUp : Mark → Request → Port → Port → Type 0
PortKeepsOrGivesUp mark q s t = (t ≡ s) ⊎ PortGivesUp mark q s t

-- one call of `ask`: some mark, some choice, a pending write that may be given up, and completion before and after
abbrev pub PortAsks : Port → Request → ℕ → Port → Type 0
PortAsks s q seen t =
    (a : Port) × (d : Port) × (b : Port) × (mark : Mark) × (c : Choice) × PortCompletes s a
    × PortKeepsOrGivesUp mark q a d × PortAsksNow mark c d q seen b × PortCompletes b t

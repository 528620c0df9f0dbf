-- How a report relates to the calls that were made of the wire, whatever the target answers.
use Rattle.std.specs.Prelude.{ℕ, ◌≡◌, ◌+◌, ◌%◌, ◌<◌, ◌≤◌, ◌==◌, ◌&&◌, ◌||◌, ◌⊎◌, Bool, true, false, Some, List, [], ◌∷◌}
use Rattle.std.specs.Prelude.{◌++◌, length, if◌then◌else◌, count_by, slice_index_or as get_or}
use Rattle.swd_bits.specs.declared.request.Reg4.{Reg4}
use Rattle.swd_bits.specs.declared.request.Request.{Request}
use Rattle.swd_bits.specs.declared.request.Reg4.TheVariants.{RC}
use Rattle.swd_bits.specs.Phases.{data_phase_number, data_phase_word}
use Rattle.swd_port.specs.declared.access.Access.{Access}
use Rattle.swd_port.specs.declared.access.Access.TheVariants.{Read, Write}
use Rattle.swd_port.specs.declared.access.Answer.{Answer}
use Rattle.swd_port.specs.declared.access.Answer.TheVariants.{Written, Value, BusFault}
use Rattle.swd_port.specs.declared.call.Call.{Call}
use Rattle.swd_port.specs.declared.cue.Cue.{Cue}
use Rattle.swd_port.specs.declared.cue.Cue.TheVariants.{Lead, Ask, Take, Give}
use Rattle.swd_port.specs.PlainMemory.{plain_address}
use Rattle.swd_port.specs.Registers.{ctrl_stat_holds}
use Rattle.swd_port.specs.declared.register.Register.{Register}
use Rattle.swd_port.specs.declared.register.Register.TheVariants.{AbortWrite, CtrlStatRead, CtrlStatWrite, SelectWrite}
use Rattle.swd_port.specs.declared.register.Register.TheVariants.{ResendRead, RdbuffRead, DpOtherRead, DpIgnoredWrite}
use Rattle.swd_port.specs.declared.register.Register.TheVariants.{CswWrite, TarRead, TarWrite, DrwRead, DrwWrite}
use Rattle.swd_port.specs.declared.register.Register.TheVariants.{ApOtherRead, ApOtherWrite}
use Rattle.swd_port.specs.Port.{port_request_for}
use Rattle.swd_port.specs.Steps.{is_port_ask}
use Rattle.swd_host.specs.declared.outcome.End.TheVariants.{All}
use Rattle.swd_host.specs.Reports.{HostReport}

-- OK was seen at a request for this register, for SELECT 0
abbrev pub host_okay : Register → Call
host_okay r = record { cue = Ask (port_request_for r); seen = 1 }

abbrev pub is_host_result_reg : Reg4 → Bool
is_host_result_reg RC = true
is_host_result_reg r = false

-- a request for DRW, for SELECT 0
abbrev pub host_asks_drw : Cue → Bool
host_asks_drw (Ask q) = q.ap && is_host_result_reg q.addr
host_asks_drw cue = false

-- OK was seen at such a request in the last call: its data phase comes next
abbrev pub host_awaits_drw : List Call → Bool
host_awaits_drw [] = false
host_awaits_drw (call ∷ calls) = host_asks_drw call.cue && (call.seen == 1)

-- the data phase of an access, after the OK to its DRW request
abbrev pub IsHostDataPhase : Access → Call → Call → Type 0
IsHostDataPhase (Read at) asked call = (asked ≡ host_okay DrwRead) × (call.cue ≡ Take)
IsHostDataPhase (Write at word) asked call = (asked ≡ host_okay DrwWrite) × (call.cue ≡ Give (data_phase_number word))

-- a request for DRW, or the RDBUFF read: its OK confirms the transfer before it
abbrev pub host_asks_result : Cue → Bool
host_asks_result (Ask q) = is_host_result_reg q.addr && (q.ap || q.read)
host_asks_result cue = false

abbrev pub is_host_confirmation : Call → Bool
is_host_confirmation call = host_asks_result call.cue && (call.seen == 1)

-- what was seen since the last data phase of DRW: no FAULT, FAULT, or FAULT and then STICKYERR
pub data HostSince : Type 0 where
  Quiet : HostSince
  Refused : HostSince
  Failed : HostSince

abbrev pub host_since_refused : HostSince → HostSince
host_since_refused Quiet = Refused
host_since_refused since = since

abbrev pub host_since_after_call : Call → HostSince → HostSince
host_since_after_call call since = if is_port_ask call.cue && (call.seen == 4) then host_since_refused since else since

-- no access awaits its confirmation: no data phase passed, or a request was refused since
abbrev pub HostAwaitsNone : ℕ → HostSince → Type 0
HostAwaitsNone sent Quiet = sent ≡ 0
HostAwaitsNone sent since = Unit {0}

-- its data phase has the word of the transfer before it; RESEND returns it again
abbrev pub host_register_gives_word : Register → Bool
host_register_gives_word DrwRead = true
host_register_gives_word RdbuffRead = true
host_register_gives_word ResendRead = true
host_register_gives_word r = false

-- a is the access at this place of the list
abbrev pub HostListHasAccess : List Access → ℕ → Access → Type 0
HostListHasAccess list i a = (i < length list) × (get_or list i a ≡ a)

-- These calls, the last one first, have what the answers to the first accesses of the list need. Of the accesses after
-- these, `sent` had their DRW request answered OK and its data phase passed; of them `sure` are confirmed.
pub data HostSent (list : List Access) : List Answer → ℕ → ℕ → HostSince → List Call → Type 0 where
  none : HostSent list [] 0 0 Quiet []
  -- any call but a data phase of DRW, and an OK that would confirm an access or replace the word of one
  other : {answers : List Answer} {sent sure : ℕ} {since : HostSince} {calls : List Call} (call : Call)
      → host_awaits_drw calls ≡ false → (is_host_confirmation call ≡ true → HostAwaitsNone sent since × (sure ≡ 0))
      → HostSent list answers sent sure since calls
      → HostSent list answers sent sure (host_since_after_call call since) (call ∷ calls)
  -- the data phase of the first access that isn't confirmed, for the first time or repeated
  sends : {answers : List Answer} {sent sure : ℕ} {since : HostSince} {calls : List Call} (a : Access)
      (call asked : Call)
      → sent ≤ sure + 1 → HostListHasAccess list (length answers + sure) a → IsHostDataPhase a asked call
      → HostSent list answers sent sure since (asked ∷ calls)
      → HostSent list answers (sure + 1) sure Quiet (call ∷ asked ∷ calls)
  -- an OK confirms all whose data passed, where no request was refused since
  confirms : {answers : List Answer} {sent : ℕ} {calls : List Call} (call : Call) → host_awaits_drw calls ≡ false
      → is_host_confirmation call ≡ true → HostSent list answers sent 0 Quiet calls
      → HostSent list answers sent sent Quiet (call ∷ calls)
  -- CTRL/STAT is read with STICKYERR
  flagged : {answers : List Answer} {sent sure : ℕ} {since : HostSince} {calls : List Call} (call : Call) (word : ℕ)
      → data_phase_word call.seen ≡ Some word → ctrl_stat_holds 0x20 word ≡ true
      → HostSent list answers sent sure since (call ∷ host_okay CtrlStatRead ∷ calls)
      → HostSent list answers sent sure Failed (call ∷ host_okay CtrlStatRead ∷ calls)
  -- the first access after the answered ones was a write that is confirmed
  written : {answers : List Answer} {since : HostSince} {calls : List Call} (at word sent sure : ℕ)
      → HostListHasAccess list (length answers) (Write at word)
      → HostSent list answers (sent + 1) (sure + 1) since calls
      → HostSent list (answers ++ Written ∷ []) sent sure since calls
  -- it was a read that is confirmed, and the last data phase has its word
  value : {answers : List Answer} {since : HostSince} {calls : List Call} (at word sent sure : ℕ) (r : Register)
      (call : Call)
      → HostListHasAccess list (length answers) (Read at) → host_register_gives_word r ≡ true → call.cue ≡ Take
      → data_phase_word call.seen ≡ Some word
      → HostSent list answers (sent + 1) (sure + 1) since (call ∷ host_okay r ∷ calls)
      → HostSent list (answers ++ Value word ∷ []) sent sure since (call ∷ host_okay r ∷ calls)
  -- it was the only access sent, and a bus error
  fault : {answers : List Answer} {calls : List Call} (a : Access) (sure : ℕ)
      → HostListHasAccess list (length answers) a
      → HostSent list answers 1 sure Failed calls → HostSent list (answers ++ BusFault ∷ []) 0 0 Quiet calls

-- The registers of the opening, of an access and of what follows an error, for SELECT 0: DPIDR, ABORT, CTRL/STAT,
-- SELECT, RESEND, RDBUFF; and of AP 0 CSW, TAR, which is written alone, and DRW.
abbrev pub is_host_register : Register → Bool
is_host_register DpOtherRead = false
is_host_register DpIgnoredWrite = false
is_host_register TarRead = false
is_host_register ApOtherRead = false
is_host_register ApOtherWrite = false
is_host_register r = true

-- this is the address of an access of the list
pub record HostListHasAddress (list : List Access) (word : ℕ) : Type 0 where
  pub place : ℕ
  pub access : Access
  pub has : HostListHasAccess list place access
  pub is : word ≡ plain_address access

-- The words that a host writes to a register (IHI 0031, B2 and MEM-AP). ABORT: only bits [4:1], which clear sticky
-- flags, so no DAPABORT. SELECT: AP 0 and the banks 0. CTRL/STAT: CSYSPWRUPREQ and CDBGPWRUPREQ alone, so TRNMODE is
-- normal. CSW: Size word, AddrInc single, 23 in the upper byte. TAR: an address of the list. DRW: `HostSent` says it.
abbrev pub IsHostWord : List Access → Register → ℕ → Type 0
IsHostWord list AbortWrite word = (word < 32) × (word % 2 ≡ 0)
IsHostWord list SelectWrite word = word ≡ 0
IsHostWord list CtrlStatWrite word = word ≡ 0x5000_0000
IsHostWord list CswWrite word = word ≡ 0x2300_0012
IsHostWord list TarWrite word = HostListHasAddress list word
IsHostWord list DrwWrite word = Unit {0}
IsHostWord list r word = ⊥

-- a data phase after these calls: OK was seen at a request for a register, and this is a word for it, with right parity
pub record HostWritesWord (list : List Access) (calls : List Call) (bits : ℕ) : Type 0 where
  pub register : Register
  pub word : ℕ
  pub earlier : List Call
  pub asked : calls ≡ host_okay register ∷ earlier
  pub is : IsHostWord list register word
  pub sends : bits ≡ data_phase_number word

-- a request for a register of the host
pub record HostAsksRegister (q : Request) : Type 0 where
  pub register : Register
  pub known : is_host_register register ≡ true
  pub is : q ≡ port_request_for register

-- the line reset: 56 ones, the switch from JTAG and 56 ones; or within a transaction 100, of which it drives the last
-- 66. Two idle cycles follow.
abbrev pub IsHostReset : Cue → Type 0
IsHostReset cue = (cue ≡ Lead 56 0 true 2) ⊎ (cue ≡ Lead 100 34 false 2)

-- idle cycles, without a line reset
abbrev pub is_host_idle : Cue → Bool
is_host_idle (Lead ones undriven switch zeros) = ones == 0
is_host_idle cue = false

-- the last call clocks idle cycles
abbrev pub host_idles : List Call → Bool
host_idles [] = false
host_idles (call ∷ calls) = is_host_idle call.cue

-- a line reset comes before all other calls, eight idle cycles after them
abbrev pub IsHostLead : List Call → Cue → Type 0
IsHostLead calls cue = ((calls ≡ []) × IsHostReset cue) ⊎ ((host_idles calls ≡ false) × (cue ≡ Lead 0 0 false 8))

-- The cues of a host after these calls. A wire lets it read a data phase or pass a turnaround only where one is due.
abbrev pub HostMayCue : List Access → List Call → Cue → Type 0
HostMayCue list calls (Lead ones undriven switch zeros) = IsHostLead calls (Lead ones undriven switch zeros)
HostMayCue list calls (Ask q) = (host_idles calls ≡ false) × HostAsksRegister q
HostMayCue list calls (Give bits) = HostWritesWord list calls bits
HostMayCue list calls cue = Unit {0}

-- each of these calls, the last one first, is one of a host with this list, after those before it
abbrev pub HostMakes : List Access → List Call → Type 0
HostMakes list [] = Unit {0}
HostMakes list (call ∷ calls) = HostMayCue list calls call.cue × HostMakes list calls

-- The theorem. The reported number of requests is exact. Each answer has its DRW request and what confirmed it among
-- the calls. Each data phase of DRW is that of an answered access or of one counted as begun. All requests, words and
-- leads are those of a host, and at `All` the last call clocks idle cycles.
pub record HostReportsCalls (list : List Access) (told : HostReport) (calls : List Call) : Type 0 where
  pub requests : told.requests ≡ count_by (λ call. is_port_ask call.cue) calls
  pub sent : ℕ
  pub sure : ℕ
  pub since : HostSince
  pub few : sent ≤ told.begun
  pub is : HostSent list told.answers sent sure since calls
  pub makes : HostMakes list calls
  pub idles : told.ended ≡ All → host_idles calls ≡ true

-- Between two states of a wire that records its calls it recorded further ones, the last one first, of which P holds.
abbrev pub HostCalls : {W : Type 0} → (List Call → W → Type 0) → (List Call → Type 0) → W → W → Type 0
HostCalls notes P before after = (calls : List Call) → notes calls before
    → (made : List Call) × notes (made ++ calls) after × P made

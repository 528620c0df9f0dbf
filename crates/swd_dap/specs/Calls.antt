-- The calls of a transport over a probe: what each is answered from, and the packets that it exchanges.
use Rattle.std.specs.Prelude.{ℕ, ◌≡◌, ◌≢◌, ◌<◌, ◌≤◌, ◌+◌, ◌==◌, Bool, true, false, List, [], ◌∷◌}
use Rattle.std.specs.Prelude.{length, take, slice_index_or, if◌then◌else◌, Option, Some, None, Result, Ok, Err, ◌⊎◌}
use Rattle.swd_bits.specs.declared.request.Request.{Request}
use Rattle.swd_bits.specs.declared.request.Reg4.TheVariants.{R0}
use Rattle.swd_port.specs.declared.cue.Cue.{Cue}
use Rattle.swd_port.specs.declared.cue.Cue.TheVariants.{Lead, Ask, Take, Give, Pass}
use Rattle.swd_port.specs.declared.outside.Disconnected.{Disconnected}
use Rattle.swd_port.specs.Transports.{PortAttempt}
use Rattle.swd_dap.specs.declared.packets.DapFault.{DapFault}
use Rattle.swd_dap.specs.declared.replies.Told.{Told}
use Rattle.swd_dap.specs.declared.transport.Next.{Next}
use Rattle.swd_dap.specs.declared.transport.Next.TheVariants.{Nothing, Read, Written, Clocks}
use Rattle.swd_dap.specs.declared.transport.DapTransport.{DapTransport}
use Rattle.swd_dap.specs.Transfers.{IsDapBeginning, DapTells, dap_transfer_request, dap_requests_of, dap_posted_behind}
use Rattle.swd_dap.specs.Transfers.{dap_reading}
use Rattle.swd_dap.specs.Packets.{DapExchange, DapSends, DapDoes, dap_answered, dap_seen_in, dap_bits_in}
use Rattle.swd_dap.specs.Sequences.{dap_ask_request, dap_take_request, dap_give_request}
use Rattle.swd_dap.specs.Opening.{DapOpens}
use Rattle.swd_dap.specs.Nexts.{dap_next_of, dap_next_by_clocks}
use Rattle.swd_dap.specs.Leading.{DapReleases, DapClocksLead}
use Rattle.swd_dap.specs.Doubts.{dap_drws}

-- THE OPENING

-- the commands that open a connection, if it isn't open
abbrev pub DapOpensBy : {P : Type 0} → Bool → (List DapExchange → P → Type 0) → DapTransport P → DapTransport P → Type 0
DapOpensBy true Exchanged s t = t ≡ s
DapOpensBy false Exchanged s t = DapOpens Exchanged s.speed t.size.bytes s.packets t.packets
    × (t ≡ record s { packets = t.packets; opened = true; size = t.size })

-- A REQUEST

-- whether a word wasn't fetched behind a transaction that was answered so
abbrev pub dap_posted_after : ℕ → Bool → Request → Bool
dap_posted_after seen posted q = if seen == 1 then dap_posted_behind posted q else posted

-- the transaction at a place past the end of those that were told
abbrev pub dap_any_told : Told
dap_any_told = record {
  transfer = record { request = record { ap = false; read = false; addr = R0 }; word = 0 };
  seen = 0;
  bits = 0;
}

-- the next of the transactions that were told
abbrev pub dap_next_told : {P : Type 0} → DapTransport P → Told
dap_next_told s = slice_index_or s.told.items s.asked dap_any_told

-- A request is answered from it; nothing is sent.
pub record DapAnswers {P : Type 0} (q : Request) (seen : ℕ) (s t : DapTransport P) : Type 0 where
  pub within : s.asked < length s.told.items
  pub request : (dap_next_told s).transfer.request ≡ q
  pub sees : seen ≡ (dap_next_told s).seen
  pub after : t ≡ record s {
    asked = s.asked + 1;
    next = dap_next_of (dap_next_told s);
    posted = dap_posted_after (dap_next_told s).seen s.posted q;
    idled = (dap_next_told s).seen == 1;
  }

-- what was announced, or the request alone
pub record DapPlans {P : Type 0} (q : Request) (s t : DapTransport P) : Type 0 where
  pub plan : (t.plan ≡ s.plan) ⊎ (t.plan.items ≡ dap_reading q ∷ [])
  pub after : t ≡ record s { plan = t.plan }

-- The probe makes so many transactions of the plan by one packet, and its reply tells what came of them.
pub record DapMakes {P : Type 0} (Exchanged : List DapExchange → P → Type 0) (n : ℕ) (s t : DapTransport P) : Type 0
  where
    pub reply : List ℕ
    pub sends : DapSends Exchanged
        (dap_answered (dap_transfer_request (dap_requests_of false (take n s.plan.items))) reply ∷ [])
        s.packets t.packets
    pub tells : DapTells s.padded (take n s.plan.items) reply t.told.items
    pub after : t ≡ record s { packets = t.packets; told = t.told; asked = 0; plan = t.plan }

-- So many transactions of the plan went by one packet, whose reply tells these.
pub record DapHasSent {P : Type 0} (Exchanged : List DapExchange → P → Type 0) (n : ℕ) (told : List Told)
    (s t : DapTransport P) : Type 0 where
  pub reply : List ℕ
  pub sends : DapSends Exchanged
      (dap_answered (dap_transfer_request (dap_requests_of false (take n s.plan.items))) reply ∷ [])
      s.packets t.packets
  pub tells : DapTells s.padded (take n s.plan.items) reply told

-- A request is sent by sequences.
pub record DapAsksByClocks {P : Type 0} (Exchanged : List DapExchange → P → Type 0) (q : Request) (seen : ℕ)
    (s t : DapTransport P) : Type 0 where
  pub reply : List ℕ
  pub sees : seen ≡ dap_seen_in reply
  pub sends : DapDoes Exchanged (dap_ask_request q) 3 reply s.packets t.packets
  pub after : t ≡ record s {
    packets = t.packets;
    plan = t.plan;
    next = dap_next_by_clocks seen;
    posted = dap_posted_after seen s.posted q;
    idled = false;
  }

-- A request over an open connection: only where no transaction is left that was told, a packet is exchanged, and only
-- one.
pub data DapAsksOpened {P : Type 0} (Exchanged : List DapExchange → P → Type 0) (q : Request) (seen : ℕ)
    (s t : DapTransport P) : Type 0 where
  answers : DapAnswers q seen s t → DapAsksOpened Exchanged q seen s t
  makes : (planned made : DapTransport P) (n : ℕ) → length s.told.items ≤ s.asked → DapPlans q s planned
      → IsDapBeginning planned.plan.items planned.size.bytes planned.padded planned.posted n
      → DapMakes Exchanged n planned made
      → DapAnswers q seen made t → DapAsksOpened Exchanged q seen s t
  clocks : (planned : DapTransport P) → length s.told.items ≤ s.asked → DapPlans q s planned
      → DapAsksByClocks Exchanged q seen planned t → DapAsksOpened Exchanged q seen s t

pub record DapAsks {P : Type 0} (Exchanged : List DapExchange → P → Type 0) (q : Request) (seen : ℕ)
    (s t : DapTransport P) : Type 0 where
  pub opened : DapTransport P
  pub opens : DapOpensBy s.opened Exchanged s opened
  pub asks : DapAsksOpened Exchanged q seen opened t

-- THE OTHER CALLS

-- the data phase of a read
abbrev pub DapTakesBy : {P : Type 0} → Next → (List DapExchange → P → Type 0) → ℕ → DapTransport P → DapTransport P
    → Type 0
DapTakesBy (Read told) Exchanged bits s t = (bits ≡ told) × (t ≡ record s { next = Nothing })
DapTakesBy Clocks Exchanged bits s t = (reply : List ℕ) × (bits ≡ dap_bits_in reply)
    × DapDoes Exchanged dap_take_request 7 reply s.packets t.packets
    × (t ≡ record s { packets = t.packets; next = Nothing })
DapTakesBy next Exchanged bits s t = ⊥

-- the data phase of a write: the probe has sent exactly these bits, or sends them now
abbrev pub DapGivesBy : {P : Type 0} → Next → (List DapExchange → P → Type 0) → ℕ → DapTransport P → DapTransport P
    → Type 0
DapGivesBy (Written sent) Exchanged bits s t = (sent ≡ bits) × (t ≡ record s { next = Nothing })
DapGivesBy Clocks Exchanged bits s t = (reply : List ℕ)
    × DapDoes Exchanged (dap_give_request bits) 3 reply s.packets t.packets
    × (t ≡ record s { packets = t.packets; next = Nothing })
DapGivesBy next Exchanged bits s t = ⊥

-- the turnaround behind WAIT or FAULT
abbrev pub DapPassesBy : {P : Type 0} → Next → (List DapExchange → P → Type 0) → DapTransport P → DapTransport P
    → Type 0
DapPassesBy Clocks Exchanged s t = DapReleases Exchanged 1 s.packets t.packets
    × (t ≡ record s { packets = t.packets; next = Nothing })
DapPassesBy next Exchanged s t = t ≡ record s { next = Nothing }

-- the clocks of a lead, unless they are idle cycles that the probe made behind a transfer
abbrev pub DapLeadsBy : {P : Type 0} → Bool → (List DapExchange → P → Type 0) → ℕ → ℕ → Bool → ℕ → P → P → Type 0
DapLeadsBy true Exchanged ones undriven switch zeros s t = (ones ≡ 0) × (switch ≡ false) × (zeros ≤ 8) × (t ≡ s)
DapLeadsBy false Exchanged ones undriven switch zeros s t = DapClocksLead Exchanged ones undriven switch zeros s t

pub record DapLeads {P : Type 0} (Exchanged : List DapExchange → P → Type 0) (ones undriven : ℕ) (switch : Bool)
    (zeros : ℕ) (s t : DapTransport P) : Type 0 where
  pub opened : DapTransport P
  pub opens : DapOpensBy s.opened Exchanged s opened
  pub none_left : length opened.told.items ≤ opened.asked
  pub made : Bool
  pub idled : made ≡ true → opened.idled ≡ true
  pub leads : DapLeadsBy made Exchanged ones undriven switch zeros opened.packets t.packets
  pub after : t ≡ record opened { packets = t.packets; plan = t.plan; next = Nothing; idled = false }

-- a call that is performed
abbrev pub DapPerforms : {P : Type 0} → (List DapExchange → P → Type 0) → Cue → ℕ → DapTransport P → DapTransport P
    → Type 0
DapPerforms Exchanged (Lead ones undriven switch zeros) seen s t =
    (seen ≡ 0) × DapLeads Exchanged ones undriven switch zeros s t
DapPerforms Exchanged (Ask q) seen s t = DapAsks Exchanged q seen s t
DapPerforms Exchanged Take seen s t = DapTakesBy s.next Exchanged seen s t
DapPerforms Exchanged (Give bits) seen s t = (seen ≡ 0) × DapGivesBy s.next Exchanged bits s t
DapPerforms Exchanged Pass seen s t = (seen ≡ 0) × DapPassesBy s.next Exchanged s t

-- what a call does before an error came; of the packet at which one comes nothing is claimed
abbrev pub DapCallsBy : {P : Type 0} → Result ℕ Disconnected → (List DapExchange → P → Type 0) → Cue → DapTransport P
    → DapTransport P → Type 0
DapCallsBy (Ok seen) Exchanged cue s t = DapPerforms Exchanged cue seen s t
DapCallsBy (Err gone) Exchanged cue s t = t.fault ≢ None

-- and once it came: nothing
abbrev pub DapCallsAt : {P : Type 0} → Option DapFault → Result ℕ Disconnected → (List DapExchange → P → Type 0) → Cue
    → DapTransport P → DapTransport P → Type 0
DapCallsAt None told Exchanged cue s t = DapCallsBy told Exchanged cue s t
DapCallsAt (Some fault) (Ok seen) Exchanged cue s t = ⊥
DapCallsAt (Some fault) (Err gone) Exchanged cue s t = t ≡ s

-- calls, in order; what is announced between them changes the plan alone
abbrev pub DapCalls : {P : Type 0} → (List DapExchange → P → Type 0) → List PortAttempt → DapTransport P
    → DapTransport P → Type 0
DapCalls Exchanged [] s t = t ≡ record s { plan = t.plan }
DapCalls {P} Exchanged (call ∷ calls) s t = (n : DapTransport P) × (m : DapTransport P)
    × (n ≡ record s { plan = n.plan }) × DapCallsAt n.fault call.told Exchanged call.cue n m
    × DapCalls Exchanged calls m t

-- no call was made yet
pub record IsFreshDap {P : Type 0} (Exchanged : List DapExchange → P → Type 0) (s : DapTransport P) : Type 0 where
  pub nothing : Exchanged [] s.packets
  pub closed : s.opened ≡ false
  pub none_told : s.told.items ≡ []
  pub nothing_left : s.next ≡ Nothing
  pub none_posted : s.posted ≡ false
  pub well : s.fault ≡ None

-- exactly these calls were made of a transport
pub record AreDapCallsMade {P : Type 0} (Exchanged : List DapExchange → P → Type 0) (calls : List PortAttempt)
    (t : DapTransport P) : Type 0 where
  pub start : DapTransport P
  pub fresh : IsFreshDap Exchanged start
  pub made : DapCalls Exchanged calls start t

-- The end of a connection: a probe that was told to drive its pins is told once to release them; else, and once an
-- error came, nothing is sent. `told`: the error that ended it.
abbrev pub DapHangsUp : {P : Type 0} → Option DapFault → Bool → (List DapExchange → P → Type 0) → P → P
    → Option DapFault → Type 0
DapHangsUp (Some fault) opened Exchanged s t told = (t ≡ s) × (told ≡ Some fault)
DapHangsUp None false Exchanged s t told = (t ≡ s) × (told ≡ None)
DapHangsUp None true Exchanged s t None = (reply : List ℕ) × DapDoes Exchanged (3 ∷ []) 2 reply s t
DapHangsUp None true Exchanged s t (Some fault) = Unit {0}

-- How many accesses the packet may have made that has no usable reply: each request for DRW is of one, in order.
abbrev pub dap_in_doubt : {P : Type 0} → DapTransport P → ℕ
dap_in_doubt s = dap_drws (take s.unanswered s.plan.items)

-- What a report states about the bus: the theorem of the host.
use Rattle.std.specs.Prelude.{ℕ, ◌≡◌, ◌≢◌, ◌+◌, ◌-◌, ◌*◌, ◌%◌, ◌<◌, ◌≤◌, List, length, take, false, true, None, min}
use Rattle.std.specs.Prelude.{slice_index_or as get_or}
use Rattle.swd_port.specs.declared.access.Access.{Access}
use Rattle.swd_port.specs.declared.access.Access.TheVariants.{Read}
use Rattle.swd_port.specs.declared.access.Answer.{Answer}
use Rattle.swd_port.specs.declared.wire.Due.{Due}
use Rattle.swd_port.specs.declared.wire.Due.TheVariants.{Nothing, Lost as DueLost}
use Rattle.swd_port.specs.Bus.{Bus}
use Rattle.swd_port.specs.declared.state.PowerUp.TheVariants.{Seen}
use Rattle.swd_port.specs.declared.state.Reset.TheVariants.{Live}
use Rattle.swd_port.specs.Port.{Port, Target}
use Rattle.swd_port.specs.Choices.{Choice}
use Rattle.swd_port.specs.Completion.{port_completed}
use Rattle.swd_host.specs.declared.outcome.Report.{Report}
use Rattle.swd_host.specs.declared.outcome.Refused.{Refused}
use Rattle.swd_host.specs.declared.outcome.Refused.TheVariants.{TooMany, Unaligned, Memory}
use Rattle.swd_host.specs.declared.outcome.End.{End}
use Rattle.swd_host.specs.declared.outcome.End.TheVariants.{All, Lost, TriesOut}
use Rattle.swd_host.specs.declared.task.Bursts.{Bursts}
use Rattle.swd_host.specs.declared.task.Bursts.TheVariants.{Writes}
use Rattle.swd_host.specs.Bursts.{bursts_limit, event_requests}
use Rattle.swd_host.specs.Plain.{memory_after, answers_of, AreHostAccesses, host_access_is_aligned}
use Rattle.swd_port.specs.Registers.{port_select_zero}

-- a report: the answers, how many more accesses were begun, how many requests were sent, and how the run ended
pub record HostReport : Type 0 where
  pub answers : List Answer
  pub begun : ℕ
  pub requests : ℕ
  pub ended : End

abbrev pub host_report_of : {A : Type 0} → Report A → HostReport
host_report_of report = record {
  answers = report.answers.items;
  begun = report.begun;
  requests = report.requests;
  ended = report.ended;
}

-- The answers are exactly those to the first k accesses of the list over the bus. The bus `now` is that
-- after these and a prefix of the begun ones, possibly empty. At most `most` accesses are begun. `spent` requests were
-- sent before the list.
pub record FitsFromAt (spent most k : ℕ) (list : List Access) (m : Bus) (told : HostReport) (now : Bus) : Type 0
  where
    pub reported : k ≤ length list
    pub answers : told.answers ≡ answers_of (take k list) m
    pub memory : (j : ℕ) × (j ≤ told.begun) × (now ≡ memory_after (take (k + j) list) m)
    pub few : told.begun ≤ most
    -- Begun accesses are in the list, in a run that isn't whole. A request was sent for each, after those that came
    -- before the list, one for TAR, and one for each access before.
    pub begun : told.begun ≢ 0 → (k + told.begun ≤ length list) × (told.ended ≢ All) ×
        (spent + 1 + k + told.begun ≤ told.requests)
    pub all : told.ended ≡ All → k ≡ length list

abbrev pub FitsFrom : ℕ → ℕ → List Access → Bus → HostReport → Bus → Type 0
FitsFrom spent most list m told now = (k : ℕ) × FitsFromAt spent most k list m told now

-- the same for a run: its opening takes at least nine requests
abbrev pub Fits : ℕ → List Access → Bus → HostReport → Bus → Type 0
Fits most list m told now = FitsFrom 9 most list m told now

-- why a list is refused, in the order of the checks
abbrev pub HostRefusesList : List Access → Refused → Type 0
HostRefusesList list TooMany = 65536 < length list
HostRefusesList list (Unaligned index) =
    (length list ≤ 65536) × (index < length list) × AreHostAccesses (take index list)
    × (host_access_is_aligned (get_or list index (Read 0)) ≡ false)
HostRefusesList list Memory = (length list ≤ 65536) × AreHostAccesses list

-- WHATEVER THE TARGET ANSWERS
-- what has to come next on the wire, by how a call ended
abbrev pub host_due_at_end : End → Due
host_due_at_end Lost = DueLost
host_due_at_end end = Nothing

-- the most requests of n accesses, where each takes six and meets at most `tries` events
abbrev pub host_list_requests : Bursts → ℕ → ℕ → ℕ
host_list_requests kind tries n = n * (6 + event_requests kind * tries)

-- the most requests of an opening, which takes ten, and of n accesses
abbrev pub host_most_requests : Bursts → ℕ → ℕ → ℕ
host_most_requests kind tries n = 10 + event_requests kind * tries + host_list_requests kind tries n

-- What holds of a report whatever the other end did. It has no more answers than the list has accesses, and all of them
-- at `All`. At most `limit` accesses are begun. `next`, what is due on the wire, follows from the end. The number of
-- requests is at most the one that `most` gives for each answered access and one more that the list has.
pub record ClosesWithin (most : ℕ → ℕ) (limit : ℕ) (list : List Access) (told : HostReport) (next : Due) : Type 0
  where
    pub number : length told.answers ≤ length list
    pub whole : told.ended ≡ All → length told.answers ≡ length list
    pub begun : told.begun ≤ limit
    pub due : next ≡ host_due_at_end told.ended
    pub spends : told.requests ≤ most (min (length list) (length told.answers + 1))

-- the same for a call that opens the target first, with `spare` more requests
abbrev pub Closes : ℕ → Bursts → List Access → ℕ → HostReport → Due → Type 0
Closes spare kind list tries told next =
    ClosesWithin (λ n. spare + host_most_requests kind tries n) (bursts_limit kind) list told next

-- WHERE WHAT WAS OBSERVED IS CONSISTENT WITH THE MODEL
-- SELECT is 0 (AP 0, banks 0), and bit 0 of the identification is 1
pub record HostKnowsTarget (s : Target) : Type 0 where
  pub select : s.select ≡ port_select_zero
  pub odd : s.identification % 2 ≡ 1

-- A target at rest, where a call may start. Flags, power, CSW, TAR and all else are arbitrary.
pub record IsAtRest (s : Port) : Type 0 where
  pub due : s.link.due ≡ Nothing
  pub known : HostKnowsTarget s.target
  pub settled : s.target.pending ≡ None

-- No flag is set, and power is requested and was read as acknowledged. The target is live, and TAR increments.
pub record HostLeavesPowered (s : Target) : Type 0 where
  pub sticky_error : s.sticky_error ≡ false
  pub write_error : s.write_error ≡ false
  pub debug : s.debug_power ≡ true
  pub system : s.system_power ≡ true
  pub debug_seen : s.debug_up ≡ Seen
  pub system_seen : s.system_up ≡ Seen
  pub live : s.reset ≡ Live
  pub increments : s.increments ≡ true

-- A target that is open for a list: at rest, powered and without a flag. A call that ends `All` leaves it so.
abbrev pub HostIsOpen : Port → Type 0
HostIsOpen s = IsAtRest s × HostLeavesPowered s.target

-- How a call may end, and the target that it leaves. A whole list leaves a target at rest, powered and without a flag.
-- A lost acknowledgement, or more than `tries` disturbed requests, leaves a known one, whose last transfer may be
-- pending. No call ends with a wrong identification or confused.
abbrev pub HostEndsAt : End → ℕ → Port → Port → Type 0
HostEndsAt All tries s t = HostIsOpen t
HostEndsAt Lost tries s t = (t.link.due ≡ DueLost) × (s.tally.lost < t.tally.lost) × HostKnowsTarget t.target
HostEndsAt TriesOut tries s t = (t.link.due ≡ Nothing) × (s.tally.disturbed + tries < t.tally.disturbed)
    × HostKnowsTarget t.target
HostEndsAt end tries s t = ⊥

-- The theorem of a call over a target with the bus m, which takes `opening` requests at least before its list, and no
-- more where none is disturbed. The report fits the bus at the end, and the bus once a transfer that is still
-- pending has taken effect. The call stops early only at a lost acknowledgement or after more than `tries` disturbed
-- requests. For `kind` see `bursts_limit` and `event_requests`.
pub record RunFitsFrom (opening : ℕ) (kind : Bursts) (list : List Access) (tries : ℕ) (m : Bus) (told : HostReport)
    (s t : Port) : Type 0 where
  pub now : FitsFrom opening (bursts_limit kind) list m told t.target.memory
  pub later : (c : Choice) → FitsFrom opening (bursts_limit kind) list m told (port_completed c t).target.memory
  pub ends : HostEndsAt told.ended tries s t
  pub stops_only : t.tally.lost ≡ s.tally.lost → t.tally.disturbed ≤ s.tally.disturbed + tries → told.ended ≡ All
  pub counted : t.tally.asked ≡ s.tally.asked + told.requests
  pub least : told.ended ≡ All → opening + length list ≤ told.requests
  pub most : told.requests ≤ opening + 6 * length list
      + event_requests kind * (t.tally.disturbed - s.tally.disturbed)

-- the theorem of a run, which opens the target by nine requests
abbrev pub RunFits : Bursts → List Access → ℕ → Bus → HostReport → Port → Port → Type 0
RunFits kind list tries m told s t = RunFitsFrom 9 kind list tries m told s t

-- the same for every target at rest, whatever its memory; a simulated target that was just made is at rest
abbrev pub RunsWithin : Bursts → List Access → ℕ → HostReport → Port → Port → Type 0
RunsWithin kind list tries told s t = IsAtRest s → RunFits kind list tries s.target.memory told s t

-- the same for a run with bursts of writes, in which at most one unanswered access is begun
abbrev pub RunsOver : List Access → ℕ → HostReport → Port → Port → Type 0
RunsOver list tries told s t = RunsWithin Writes list tries told s t

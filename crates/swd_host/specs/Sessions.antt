-- Successive calls over one target.
use Rattle.std.specs.Prelude.{ℕ, ◌≡◌, ◌%◌, List, [], ◌++◌}
use Rattle.swd_port.specs.declared.access.Access.{Access}
use Rattle.swd_port.specs.declared.access.Answer.{Answer}
use Rattle.swd_port.specs.Bus.{Bus}
use Rattle.swd_port.specs.Port.{Port}
use Rattle.swd_port.specs.Made.{port_made}
use Rattle.swd_host.specs.declared.outcome.End.TheVariants.{All}
use Rattle.swd_host.specs.Plain.{memory_after, answers_of}
use Rattle.swd_host.specs.declared.outcome.End.{End}
use Rattle.swd_host.specs.declared.task.Bursts.{Bursts}
use Rattle.swd_host.specs.Reports.{HostIsOpen, HostReport, IsAtRest, RunsWithin}
use Rattle.swd_host.specs.OpenLists.{ListsWithin}

-- a target that was just made is at rest, with its memory, where bit 0 of its identification is 1
pub record HostFindsMadeAtRest : Type 0 where
  pub rests : (identification : ℕ) (m : Bus) → identification % 2 ≡ 1 → IsAtRest (port_made identification m)
  pub memory : (identification : ℕ) (m : Bus) → (port_made identification m).target.memory ≡ m

-- Runs and blocks from the port s to the port t, each of which ended `All`, with all their accesses and all answers.
pub data HostSession (s : Port) : List Access → List Answer → Port → Type 0 where
  none : HostSession s [] [] s
  then : {done : List Access} {answers : List Answer} {t u : Port} → HostSession s done answers t
      → (kind : Bursts) (tries : ℕ) (list : List Access) (told : HostReport) → RunsWithin kind list tries told t u
      → told.ended ≡ All → HostSession s (done ++ list) (answers ++ told.answers) u

-- they are as one list with all accesses over the bus, and the target is at rest again
pub record HostSessionIsAsOne (s : Port) (list : List Access) (answers : List Answer) (t : Port) : Type 0 where
  pub rests : IsAtRest t
  pub answers_are : answers ≡ answers_of list s.target.memory
  pub memory : t.target.memory ≡ memory_after list s.target.memory

-- OVER AN OPEN TARGET
-- an opening of a target at rest that ended `All` leaves it open, with its memory
abbrev pub HostOpens : End → Port → Port → Type 0
HostOpens end s t = IsAtRest s → end ≡ All → HostIsOpen t × (t.target.memory ≡ s.target.memory)

-- Lists and blocks over an open target, from the port s to the port t, each of which ended `All`, with all their
-- accesses and all answers.
pub data HostLists (s : Port) : List Access → List Answer → Port → Type 0 where
  none_yet : HostLists s [] [] s
  and_then : {done : List Access} {answers : List Answer} {t u : Port} → HostLists s done answers t
      → (kind : Bursts) (tries : ℕ) (list : List Access) (told : HostReport) → ListsWithin kind list tries told t u
      → told.ended ≡ All → HostLists s (done ++ list) (answers ++ told.answers) u

-- they are as one list with all accesses over the bus, and the target is open again
pub record HostListsAreAsOne (s : Port) (list : List Access) (answers : List Answer) (t : Port) : Type 0 where
  pub open_again : HostIsOpen t
  pub answers_are : answers ≡ answers_of list s.target.memory
  pub memory : t.target.memory ≡ memory_after list s.target.memory

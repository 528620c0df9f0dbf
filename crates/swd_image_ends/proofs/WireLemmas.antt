-- The calls of images over wires are calls over all that the wires are known by.
use Rattle.std.proofs.Common.{◌≡◌, ℕ, List, Option, None, Some, inl, inr, ◌⊎◌, ap}
use Rattle.std.specs.Prelude.{◌≢◌, length}
use Rattle.swd_port.specs.declared.access.Access.{Access}
use Rattle.swd_port.specs.declared.access.Answer.{Answer}
use Rattle.swd_port.specs.declared.wire.Wire.{Ghosts}
use Rattle.swd_host.specs.declared.outcome.End.{End}
use Rattle.swd_host.specs.declared.outcome.End.TheVariants.{All}
use Rattle.swd_script.specs.Scripts.{ScriptListed}
use Rattle.swd_run.specs.declared.limits.Limits.{Limits}
use Rattle.swd_run.specs.Sessions.{ScriptRun}
use Rattle.swd_run.proofs.EngineLemmas.{goes_by}
use Rattle.swd_image.specs.declared.fault.ImageFault.{ImageFault}
use Rattle.swd_image.specs.declared.fault.ImageFault.TheVariants.{Range, Memory, Stopped, Report, BusFault as FaultAt}
use Rattle.swd_image.specs.declared.verifying.ByteDifference.{ByteDifference}
use Rattle.swd_image.specs.Dumps.{DumpFails, Dumps, VerifiesImage}
use Rattle.swd_image.specs.Lists.{image_dump_list, image_edge_list}
use Rattle.swd_image.specs.Loads.{FailsLate, LoadFails, Loads}
use Rattle.swd_image.specs.Reports.{Reported, ReportsTo, none as no_call, more as call_more}
use Rattle.swd_image.specs.Sessions.{Call, Calls, Fails, FailsAs, FailsNext, MadeAll, ReadsAs}
use Rattle.swd_image.specs.Sessions.{image_first_failed, none, more}
use Rattle.swd_run.specs.Wires.{run_wire_by}

module _ {W V : Type 0} (by : W → V) (wire : Ghosts V) (limits : Limits) where
  abbrev call_by : (batch : ScriptListed) (s : W) (run : ScriptRun) (t : W)
      → Call (run_wire_by by wire) limits batch s run t
      → Call wire limits batch (by s) run (by t)
  call_by batch s run t call = record {
    fits = call.fits;
    goes = goes_by by wire limits batch s run t call.goes;
  }

  calls_by : (s : W) (list : List Access) (answers : List Answer) (t : W)
      → Calls (run_wire_by by wire) limits s list answers t
      → Calls wire limits (by s) list answers (by t)
  calls_by s list answers t none = none
  calls_by s list answers t
      (more {list = before} {answers = earlier} {t = u} {u = v} {batch = batch} {run = run} prior call all done) =
      more (calls_by s before earlier u prior) (call_by batch u run v call) all done

  abbrev reads_by : (list : List Access) (words : List ℕ) (s t : W)
      → ReadsAs (run_wire_by by wire) limits list words s t
      → ReadsAs wire limits list words (by s) (by t)
  reads_by list words s t reads = record {
    answers = reads.answers;
    calls = calls_by s list reads.answers t reads.calls;
    told = reads.told;
  }

  abbrev made_by : (list : List Access) (s t : W)
      → MadeAll (run_wire_by by wire) limits list s t
      → MadeAll wire limits list (by s) (by t)
  made_by list s t made = record {
    answers = made.answers;
    calls = calls_by s list made.answers t made.calls;
  }

  next_by : (list : List Access) (s t : W) → FailsNext (run_wire_by by wire) limits list s t
      → FailsNext wire limits list (by s) (by t)
  next_by list s t fails = record {
    before = fails.before;
    answers = fails.answers;
    calls = calls_by s fails.before fails.answers t fails.calls;
    rest = fails.rest;
    split = fails.split;
  }

  abbrev fails_by : (list : List Access) (s t : W) (P : ScriptListed → ScriptRun → Type 0)
      → Fails (run_wire_by by wire) limits list s t P
      → Fails wire limits list (by s) (by t) P
  fails_by list s t P fails = record {
    before = fails.before;
    answers = fails.answers;
    reached = by fails.reached;
    calls = calls_by s fails.before fails.answers fails.reached fails.calls;
    batch = fails.batch;
    run = fails.run;
    last = call_by fails.batch fails.reached fails.run t fails.last;
    rest = fails.rest;
    split = fails.split;
    ended = fails.ended;
  }

  fails_as_by : (list : List Access) (s t : W) (fault : ImageFault)
      → FailsAs (run_wire_by by wire) limits list s t fault
      → FailsAs wire limits list (by s) (by t) fault
  fails_as_by list s t Range fails = fails
  fails_as_by list s t Memory fails = next_by list s t fails
  fails_as_by list s t (Stopped end) fails =
      fails_by list s t (λ batch run. (run.told.ended ≡ end) × (end ≢ All)) fails
  fails_as_by list s t (FaultAt at) fails =
      fails_by list s t (λ batch run. (run.told.ended ≡ All)
      × (image_first_failed batch.accesses run.told.answers ≡ Some at))
      fails
  fails_as_by list s t Report fails = fails_by list s t (λ batch run. Unit {0}) fails

  -- a load is
  pub loads_by : (addr : ℕ) (bytes : List ℕ) (s t : W)
      → Loads (run_wire_by by wire) limits addr bytes s t
      → Loads wire limits addr bytes (by s) (by t)
  loads_by addr bytes s t loads = record {
    fits = loads.fits;
    head = loads.head;
    tail = loads.tail;
    reached = by loads.reached;
    edges = reads_by _ _ s loads.reached loads.edges;
    writes = made_by _ loads.reached t loads.writes;
    memory = loads.memory;
  }

  late_by : (addr : ℕ) (bytes : List ℕ) (s t : W) (fault : ImageFault)
      → FailsLate (run_wire_by by wire) limits addr bytes s t fault
      → FailsLate wire limits addr bytes (by s) (by t) fault
  late_by addr bytes s t fault fails = record {
    head = fails.head;
    tail = fails.tail;
    reached = by fails.reached;
    edges = reads_by _ _ s fails.reached fails.edges;
    writes = fails_as_by _ fails.reached t fault fails.writes;
  }

  late_or : (addr : ℕ) (bytes : List ℕ) (s t : W) (fault : ImageFault)
      → FailsAs (run_wire_by by wire) limits (image_edge_list addr (length bytes)) s t fault
      ⊎ FailsLate (run_wire_by by wire) limits addr bytes s t fault
      → FailsAs wire limits (image_edge_list addr (length bytes)) (by s) (by t) fault
      ⊎ FailsLate wire limits addr bytes (by s) (by t) fault
  late_or addr bytes s t fault (inl early) =
      inl (fails_as_by (image_edge_list addr (length bytes)) s t fault early)
  late_or addr bytes s t fault (inr late) = inr (late_by addr bytes s t fault late)

  -- and so is its error
  pub load_fails_by : (addr : ℕ) (bytes : List ℕ) (s t : W) (fault : ImageFault)
      → LoadFails (run_wire_by by wire) limits addr bytes s t fault
      → LoadFails wire limits addr bytes (by s) (by t) fault
  load_fails_by addr bytes s t Range fails = (fails.0, ap by fails.1)
  load_fails_by addr bytes s t Memory fails = (fails.0, late_or addr bytes s t Memory fails.1)
  load_fails_by addr bytes s t (Stopped end) fails = (fails.0, late_or addr bytes s t (Stopped end) fails.1)
  load_fails_by addr bytes s t (FaultAt at) fails = (fails.0, late_or addr bytes s t (FaultAt at) fails.1)
  load_fails_by addr bytes s t Report fails = (fails.0, late_or addr bytes s t Report fails.1)

  -- a dump is
  pub dumps_by : (addr count : ℕ) (bytes : List ℕ) (s t : W)
      → Dumps (run_wire_by by wire) limits addr count bytes s t
      → Dumps wire limits addr count bytes (by s) (by t)
  dumps_by addr count bytes s t dumps = record {
    fits = dumps.fits;
    words = dumps.words;
    reads = reads_by _ dumps.words s t dumps.reads;
    are = dumps.are;
    memory = dumps.memory;
    plain = dumps.plain;
    same = dumps.same;
    rests = dumps.rests;
  }

  -- and so is its error
  pub dump_fails_by : (addr count : ℕ) (s t : W) (fault : ImageFault)
      → DumpFails (run_wire_by by wire) limits addr count s t fault
      → DumpFails wire limits addr count (by s) (by t) fault
  dump_fails_by addr count s t Range fails = (fails.0, ap by fails.1)
  dump_fails_by addr count s t Memory fails =
      (fails.0, fails_as_by (image_dump_list addr count) s t Memory fails.1)
  dump_fails_by addr count s t (Stopped end) fails =
      (fails.0, fails_as_by (image_dump_list addr count) s t (Stopped end) fails.1)
  dump_fails_by addr count s t (FaultAt at) fails =
      (fails.0, fails_as_by (image_dump_list addr count) s t (FaultAt at) fails.1)
  dump_fails_by addr count s t Report fails =
      (fails.0, fails_as_by (image_dump_list addr count) s t Report fails.1)

  -- a verification is
  pub verifies_by : (addr : ℕ) (bytes : List ℕ) (difference : Option ByteDifference) (s t : W)
      → VerifiesImage (run_wire_by by wire) limits addr bytes difference s
      t → VerifiesImage wire limits addr bytes difference (by s) (by t)
  verifies_by addr bytes difference s t verifies = record {
    found = verifies.found;
    dumps = dumps_by addr (length bytes) verifies.found s t verifies.dumps;
    tells = verifies.tells;
    memory = verifies.memory;
  }

  reported_by : (s : W) (ended : End) (list : List Access) (text : List ℕ) (t : W)
      → Reported (run_wire_by by wire) limits s ended list text t
      → Reported wire limits (by s) ended list text (by t)
  reported_by s ended list text t no_call = no_call
  reported_by s ended list text t
      (call_more {list = before} {text = earlier} {t = u} {u = v} {batch = batch} {run = run} prior call plain) =
      call_more (reported_by s All before earlier u prior) (call_by batch u run v call) plain

  -- what a writer gets of calls is
  pub reports_by : (list : List Access) (fault : Option ImageFault) (s t : W) (a b : Option (Option (List ℕ)))
      → ReportsTo (run_wire_by by wire) limits list fault s t a b
      → ReportsTo wire limits list fault (by s) (by t) a b
  reports_by list fault s t None b h = h
  reports_by list fault s t (Some start) b h = (
    h.0,
    h.1,
    record {
      ended = h.2.ended;
      made = h.2.made;
      rest = h.2.rest;
      text = h.2.text;
      calls = reported_by s h.2.ended h.2.made h.2.text t h.2.calls;
      split = h.2.split;
      whole = h.2.whole;
      stopped = h.2.stopped;
      writes = h.2.writes;
      fails = λ e. (let f = h.2.fails e in record {
        list = f.list;
        before = f.before;
        reached = by f.reached;
        calls = reported_by s All f.list f.before f.reached f.calls;
        batch = f.batch;
        run = f.run;
        last = call_by f.batch f.reached f.run t f.last;
        is = f.is;
        middle = f.middle;
        gone = f.gone;
        told = f.told;
        stops = f.stops;
      });
    },
  )

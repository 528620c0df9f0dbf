-- What a load, a verification and a dump state of the calls that were made of a wire.
use Rattle.std.specs.Prelude.{ℕ, List, Option, Result, OnOk, IfOk, IfErr}
use Rattle.swd_port.specs.declared.wire.Wire.{Ghosts}
use Rattle.swd_port.specs.PlainBus.{bus_of}
use Rattle.swd_port.specs.PlainMemory.{PlainMemory}
use Rattle.swd_target.specs.declared.bench.Bench.{Bench}
use Rattle.swd_target.specs.Benches.{bench_plan, bench_port}
use Rattle.swd_run.specs.declared.limits.Limits.{Limits}
use Rattle.swd_image.specs.declared.fault.ImageFault.{ImageFault}
use Rattle.swd_image.specs.declared.verifying.ByteDifference.{ByteDifference}
use Rattle.swd_image.specs.Dumps.{DumpFails, Dumps}
use Rattle.swd_image.specs.Reports.{DumpReports, image_fault_of}
use Rattle.swd_image_files.specs.Images.{ImageFileBytes}
use Rattle.swd_image_ends.specs.PieceReports.{LoadsReported, VerifiesReported}
use Rattle.swd_image_ends.specs.Pieces.{LoadFailsAt, LoadsAll, VerifiesAll, VerifyFailsAt}

-- a simulated target with a plain memory, which is always lawful
abbrev pub image_bench_wire : (A : Type 0) → Ghosts (Bench PlainMemory A)
image_bench_wire A = record {
  port = bench_port bus_of;
  plan = bench_plan;
  lawful = λ bench. Unit {0};
  notes = λ noted bench. Unit {0};
}

module _ {W : Type 0} (wire : Ghosts W) (limits : Limits) where
  -- The pieces of an image were loaded, from one state of the wire to another, or not all of them. The writer of the
  -- reports held `before`, if there is one, and holds `after`.
  pub record LoadCame (pieces : List ImageFileBytes) (answer : Result (Unit {0}) ImageFault) (s t : W)
      (before after : Option (Option (List ℕ))) : Type 0 where
    pub loads : OnOk answer (LoadsAll wire limits pieces s t)
    pub fault : IfErr answer (LoadFailsAt wire limits pieces s t)
    pub report : LoadsReported wire limits pieces (image_fault_of answer) s t before after

  -- they were read and compared, up to the first one that differs; or a call failed before that
  pub record VerifyCame (pieces : List ImageFileBytes) (answer : Result (Option ByteDifference) ImageFault) (s t : W)
      (before after : Option (Option (List ℕ))) : Type 0 where
    pub verifies : IfOk answer (λ difference. VerifiesAll wire limits pieces difference s t)
    pub fault : IfErr answer (VerifyFailsAt wire limits pieces s t)
    pub report : VerifiesReported wire limits pieces answer s t before after

  -- `count` bytes were read, or not all of them; `list` gives the bytes of a result
  pub record DumpCame {V : Type 0} (addr count : ℕ) (answer : Result V ImageFault) (list : V → List ℕ) (s t : W)
      (before after : Option (Option (List ℕ))) : Type 0 where
    pub dumps : IfOk answer (λ bytes. Dumps wire limits addr count (list bytes) s t)
    pub fault : IfErr answer (DumpFails wire limits addr count s t)
    pub report : DumpReports wire limits addr count (image_fault_of answer) s t before after

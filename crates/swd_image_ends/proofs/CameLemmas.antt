-- What a load, a verification and a dump state over wires, they state over all that the wires are known by.
use Rattle.std.proofs.Common.{◌≡◌, ℕ, List, [], ◌∷◌, Option, None, Some, Result, inl, inr, length, ap, subst}
use Rattle.std.proofs.lemmas.Result.{IfErr-weaker, IfOk-weaker, on_ok_weaker}
use Rattle.swd_port.specs.declared.wire.Wire.{Ghosts}
use Rattle.swd_run.specs.declared.limits.Limits.{Limits}
use Rattle.swd_image.specs.declared.fault.ImageFault.{ImageFault}
use Rattle.swd_image.specs.declared.verifying.ByteDifference.{ByteDifference}
use Rattle.swd_image.specs.Lists.{image_dump_list}
use Rattle.swd_image.specs.Reports.{image_fault_of}
use Rattle.swd_image_files.specs.Images.{ImageFileBytes}
use Rattle.swd_image_ends.specs.Came.{DumpCame, LoadCame, VerifyCame}
use Rattle.swd_image_ends.specs.PieceReports.{pieces_verify_list}
use Rattle.swd_image_ends.specs.Pieces.{LoadFailsAt, LoadsAll, LoadsEach, VerifiesAll, VerifiesEach, VerifyFailsAt}
use Rattle.swd_image_ends.proofs.WireLemmas.{dump_fails_by, dumps_by, load_fails_by, loads_by}
use Rattle.swd_image_ends.proofs.WireLemmas.{reports_by, verifies_by}
use Rattle.swd_run.specs.Wires.{run_wire_by}

module _ {W V : Type 0} (by : W → V) (wire : Ghosts V) (limits : Limits) where
  each_by : (pieces : List ImageFileBytes) (s u : W)
      → LoadsEach (run_wire_by by wire) limits pieces s u
      → LoadsEach wire limits pieces (by s) (by u)
  each_by [] s u h = ap by h
  each_by (piece ∷ rest) s u h = (
    by h.0,
    loads_by by wire limits piece.addr piece.bytes s h.0 h.1,
    each_by rest h.0 u h.2,
  )

  all_by : (pieces : List ImageFileBytes) (s u : W)
      → LoadsAll (run_wire_by by wire) limits pieces s u
      → LoadsAll wire limits pieces (by s) (by u)
  all_by pieces s u h = record { each = each_by pieces s u h.each; memory = h.memory }

  fails_at_by : (pieces : List ImageFileBytes) (s u : W) (fault : ImageFault)
      → LoadFailsAt (run_wire_by by wire) limits pieces s u fault
      → LoadFailsAt wire limits pieces (by s) (by u) fault
  fails_at_by [] s u fault h = h
  fails_at_by (piece ∷ rest) s u fault (inl here) =
      inl (load_fails_by by wire limits piece.addr piece.bytes s u fault here)
  fails_at_by (piece ∷ rest) s u fault (inr later) = inr (
    by later.0,
    loads_by by wire limits piece.addr piece.bytes s later.0 later.1,
    fails_at_by rest later.0 u fault later.2,
  )

  each_verified_by : (pieces : List ImageFileBytes) (difference : Option ByteDifference) (s u : W)
      → VerifiesEach (run_wire_by by wire) limits pieces difference s u
      → VerifiesEach wire limits pieces difference (by s) (by u)
  each_verified_by [] difference s u h = (h.0, ap by h.1)
  each_verified_by (piece ∷ rest) difference s u (inl here) = inl (
    here.0,
    here.1,
    verifies_by by wire limits piece.addr piece.bytes (Some here.0) s u here.2,
  )
  each_verified_by (piece ∷ rest) difference s u (inr later) = inr (
    by later.0,
    verifies_by by wire limits piece.addr piece.bytes None s later.0 later.1,
    each_verified_by rest difference later.0 u later.2,
  )

  all_verified_by : (pieces : List ImageFileBytes) (difference : Option ByteDifference) (s u : W)
      → VerifiesAll (run_wire_by by wire) limits pieces difference s u
      → VerifiesAll wire limits pieces difference (by s) (by u)
  all_verified_by pieces difference s u h = record {
    each = each_verified_by pieces difference s u h.each;
    memory = h.memory;
  }

  verify_fails_at_by : (pieces : List ImageFileBytes) (s u : W) (fault : ImageFault)
      → VerifyFailsAt (run_wire_by by wire) limits pieces s u fault
      → VerifyFailsAt wire limits pieces (by s) (by u) fault
  verify_fails_at_by [] s u fault h = h
  verify_fails_at_by (piece ∷ rest) s u fault (inl here) =
      inl (dump_fails_by by wire limits piece.addr (length piece.bytes) s u fault here)
  verify_fails_at_by (piece ∷ rest) s u fault (inr later) = inr (
    by later.0,
    verifies_by by wire limits piece.addr piece.bytes None s later.0 later.1,
    verify_fails_at_by rest later.0 u fault later.2,
  )

  -- a load does, from what a wire is known by
  pub load_came_by : (pieces : List ImageFileBytes) (answer : Result (Unit {0}) ImageFault) (s t : W) (known : V)
      (a b : Option (Option (List ℕ))) → by s ≡ known
      → LoadCame (run_wire_by by wire) limits pieces answer s t a b
      → LoadCame wire limits pieces answer known (by t) a b
  load_came_by pieces answer s t known a b is came =
      subst (λ v. LoadCame wire limits pieces answer v (by t) a b) is (record {
        loads = on_ok_weaker answer (all_by pieces s t) came.loads;
        fault = IfErr-weaker answer _ _ (fails_at_by pieces s t) came.fault;
        report = record {
          list = came.report.list;
          is = came.report.is;
          reports = reports_by by wire limits came.report.list (image_fault_of answer) s t a b came.report.reports;
        };
      })

  -- a verification does
  pub verify_came_by : (pieces : List ImageFileBytes) (answer : Result (Option ByteDifference) ImageFault) (s t : W)
      (known : V) (a b : Option (Option (List ℕ))) → by s ≡ known
      → VerifyCame (run_wire_by by wire) limits pieces answer s t a b
      → VerifyCame wire limits pieces answer known (by t) a b
  verify_came_by pieces answer s t known a b is came =
      subst (λ v. VerifyCame wire limits pieces answer v (by t) a b) is (record {
        verifies = IfOk-weaker answer _ _ (λ difference. all_verified_by pieces difference s t) came.verifies;
        fault = IfErr-weaker answer _ _ (verify_fails_at_by pieces s t) came.fault;
        report = record {
          front = came.report.front;
          later = came.report.later;
          split = came.report.split;
          all = came.report.all;
          reports = reports_by by wire limits (pieces_verify_list came.report.front) (image_fault_of answer) s t a b
              came.report.reports;
        };
      })

  -- a dump does
  pub dump_came_by : {X : Type 0} (addr count : ℕ) (answer : Result X ImageFault) (list : X → List ℕ) (s t : W)
      (known : V) (a b : Option (Option (List ℕ))) → by s ≡ known
      → DumpCame (run_wire_by by wire) limits addr count answer list s t a b
      → DumpCame wire limits addr count answer list known (by t) a b
  dump_came_by addr count answer list s t known a b is came =
      subst (λ v. DumpCame wire limits addr count answer list v (by t) a b) is (record {
        dumps = IfOk-weaker answer _ _ (λ bytes. dumps_by by wire limits addr count (list bytes) s t) came.dumps;
        fault = IfErr-weaker answer _ _ (dump_fails_by by wire limits addr count s t) came.fault;
        report = reports_by by wire limits (image_dump_list addr count) (image_fault_of answer) s t a b came.report;
      })

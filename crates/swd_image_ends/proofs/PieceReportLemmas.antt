-- The reports of pieces, one after the other.
use Rattle.std.proofs.Common.{◌≡◌, ℕ, refl, sym, ap, subst, List, [], ◌∷◌, ◌++◌, length, Option, Some, None, Result, Ok}
use Rattle.std.proofs.lemmas.List.{append-nil}
use Rattle.swd_port.specs.declared.access.Access.{Access}
use Rattle.swd_port.specs.declared.wire.Wire.{Ghosts}
use Rattle.swd_run.specs.declared.limits.Limits.{Limits}
use Rattle.swd_image.specs.declared.fault.ImageFault.{ImageFault}
use Rattle.swd_image.specs.declared.verifying.ByteDifference.{ByteDifference}
use Rattle.swd_image.specs.Lists.{image_dump_list, image_edge_list, image_load_list}
use Rattle.swd_image.specs.Reports.{DumpReports, LoadReports, ReportsTo, image_fault_of}
use Rattle.swd_image.proofs.ReportLemmas.{to_after, to_front, to_nothing}
use Rattle.swd_image_files.specs.Images.{ImageFileBytes}
use Rattle.swd_image_ends.specs.PieceReports.{IsPiecesLoadList, LoadsReported, VerifiesReported, pieces_verify_list}

-- the accesses of a load, whatever the words
some_list : (pieces : List ImageFileBytes) → (list : List Access) × IsPiecesLoadList pieces list
some_list [] = ([], refl)
some_list (piece ∷ rest) =
    let left = some_list rest in
    let list = (image_edge_list piece.addr (length piece.bytes) ++ image_load_list piece.addr piece.bytes 0 0)
    ++ left.0 in
    (list, (0, 0, left.0, refl, left.1))

module _ {W : Type 0} (wire : Ghosts W) (limits : Limits) where
  -- What is reported of what is left of a load makes the report of the whole one, from its start.
  abbrev pub LoadsReportedOn : List ImageFileBytes → List ImageFileBytes → W → W → Option (Option (List ℕ))
      → Option (Option (List ℕ)) → Type 0
  LoadsReportedOn left all s now a b =
      (fault : Option ImageFault) (u : W) (c : Option (Option (List ℕ)))
      → LoadsReported wire limits left fault now u b c
      → LoadsReported wire limits all fault s u a c

  -- at its start
  pub load_reported : (all left : List ImageFileBytes) (s : W) (a : Option (Option (List ℕ))) → left ≡ all
      → LoadsReportedOn left all s s a a
  load_reported all left s a is fault u c h =
      subst (λ l. LoadsReported wire limits l fault s u a c) is h

  -- after a further piece
  pub load_reported_next : (left all next : List ImageFileBytes) (piece : ImageFileBytes) (s now t : W)
      (a b c : Option (Option (List ℕ))) → left ≡ piece ∷ next → LoadsReportedOn left all s now a b
      → LoadReports wire limits piece.addr piece.bytes None now t b c
      → LoadsReportedOn next all s t a c
  load_reported_next left all next piece s now t a b c is on here fault u d h =
      let (head, tail, reports) = here in
      let list = image_edge_list piece.addr (length piece.bytes) ++ image_load_list piece.addr piece.bytes head tail in
      on fault u d (subst (λ l. LoadsReported wire limits l fault now u b d) (sym is) (record {
        list = list ++ h.list;
        is = (head, tail, h.list, refl, h.is);
        reports = to_after wire limits now t u list h.list [] (list ++ h.list) fault b c d reports
            h.reports (ap (λ l. list ++ l) (sym (append-nil h.list))) (λ e. refl);
      }))

  -- at a piece that fails
  pub load_reported_failed : (left all next : List ImageFileBytes) (piece : ImageFileBytes) (s now t : W)
      (fault : ImageFault) (a b c : Option (Option (List ℕ))) → left ≡ piece ∷ next → LoadsReportedOn left all s now
      a b
      → LoadReports wire limits piece.addr piece.bytes (Some fault) now t b c
      → LoadsReported wire limits all (Some fault) s t a c
  load_reported_failed left all next piece s now t fault a b c is on here =
      let (head, tail, reports) = here in
      let list = image_edge_list piece.addr (length piece.bytes) ++ image_load_list piece.addr piece.bytes head tail in
      let rest = some_list next in
      on (Some fault) t c (subst (λ l. LoadsReported wire limits l (Some fault) now t b c) (sym is)
      (record {
        list = list ++ rest.0;
        is = (head, tail, rest.0, refl, rest.1);
        reports = to_front wire limits now t list rest.0 (list ++ rest.0) fault b c reports refl;
      }))

  -- at its end
  pub load_reported_all : (left all : List ImageFileBytes) (s now : W) (a b : Option (Option (List ℕ))) → left ≡ []
      → LoadsReportedOn left all s now a b → LoadsReported wire limits all None s now a b
  load_reported_all left all s now a b is on =
      on None now b (subst (λ l. LoadsReported wire limits l None now now b b) (sym is) (record {
        list = [];
        is = refl;
        reports = to_nothing wire limits now [] b refl;
      }))

  -- What is reported of what is left of a verification makes the report of the whole one, from its start.
  abbrev pub VerifiesReportedOn : List ImageFileBytes → List ImageFileBytes → W → W → Option (Option (List ℕ))
      → Option (Option (List ℕ)) → Type 0
  VerifiesReportedOn left all s now a b =
      (result : Result (Option ByteDifference) ImageFault) (u : W) (c : Option (Option (List ℕ)))
      → VerifiesReported wire limits left result now u b c
      → VerifiesReported wire limits all result s u a c

  -- at its start
  pub verify_reported : (all left : List ImageFileBytes) (s : W) (a : Option (Option (List ℕ))) → left ≡ all
      → VerifiesReportedOn left all s s a a
  verify_reported all left s a is result u c h =
      subst (λ l. VerifiesReported wire limits l result s u a c) is h

  -- after a further piece without a difference
  pub verify_reported_next : (left all next : List ImageFileBytes) (piece : ImageFileBytes) (s now t : W)
      (a b c : Option (Option (List ℕ))) → left ≡ piece ∷ next → VerifiesReportedOn left all s now a b
      → DumpReports wire limits piece.addr (length piece.bytes) None now t b c
      → VerifiesReportedOn next all s t a c
  verify_reported_next left all next piece s now t a b c is on here result u d h =
      let list = image_dump_list piece.addr (length piece.bytes) in
      let more = pieces_verify_list h.front in
      on result u d (subst (λ l. VerifiesReported wire limits l result now u b d) (sym is) (record {
        front = piece ∷ h.front;
        later = h.later;
        split = ap (λ l. piece ∷ l) h.split;
        all = h.all;
        reports = to_after wire limits now t u list more [] (list ++ more) (image_fault_of result) b
            c d here h.reports (ap (λ l. list ++ l) (sym (append-nil more))) (λ e. refl);
      }))

  -- at a piece that differs or fails
  pub verify_reported_last : (left all next : List ImageFileBytes) (piece : ImageFileBytes) (s now t : W)
      (result : Result (Option ByteDifference) ImageFault) (a b c : Option (Option (List ℕ))) → left ≡ piece ∷ next
      → (result ≡ Ok None → ⊥) → VerifiesReportedOn left all s now a b
      → DumpReports wire limits piece.addr (length piece.bytes) (image_fault_of result) now t b c
      → VerifiesReported wire limits all result s t a c
  verify_reported_last left all next piece s now t result a b c is other on here =
      let list = image_dump_list piece.addr (length piece.bytes) in
      on result t c (subst (λ l. VerifiesReported wire limits l result now t b c) (sym is) (record {
        front = piece ∷ [];
        later = next;
        split = refl;
        all = λ e. absurd (other e);
        reports = subst (λ l. ReportsTo wire limits l (image_fault_of result) now t b c)
            (sym (append-nil list)) here;
      }))

  -- at its end
  pub verify_reported_all : (left all : List ImageFileBytes) (s now : W) (a b : Option (Option (List ℕ))) → left ≡ []
      → VerifiesReportedOn left all s now a b → VerifiesReported wire limits all (Ok None) s now a b
  verify_reported_all left all s now a b is on =
      on (Ok None) now b (subst (λ l. VerifiesReported wire limits l (Ok None) now now b b) (sym is)
      (record {
        front = [];
        later = [];
        split = refl;
        all = λ e. refl;
        reports = to_nothing wire limits now [] b refl;
      }))

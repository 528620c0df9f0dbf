-- What a writer got of the calls of a load or a verification of pieces.
use Rattle.std.specs.Prelude.{ℕ, ◌≡◌, List, [], ◌∷◌, ◌++◌, length, Option, None, Result, Ok}
use Rattle.swd_port.specs.declared.access.Access.{Access}
use Rattle.swd_port.specs.declared.wire.Wire.{Ghosts}
use Rattle.swd_run.specs.declared.limits.Limits.{Limits}
use Rattle.swd_image.specs.declared.fault.ImageFault.{ImageFault}
use Rattle.swd_image.specs.declared.verifying.ByteDifference.{ByteDifference}
use Rattle.swd_image.specs.Lists.{image_dump_list, image_edge_list, image_load_list}
use Rattle.swd_image.specs.Reports.{ReportsTo, image_fault_of}
use Rattle.swd_image_files.specs.Images.{ImageFileBytes}

-- the accesses of a load of these pieces: of each the reads of its partial words, and then its writes
abbrev pub IsPiecesLoadList : List ImageFileBytes → List Access → Type 0
IsPiecesLoadList [] list = list ≡ []
IsPiecesLoadList (piece ∷ rest) list =
    (head : ℕ) × (tail : ℕ) × (left : List Access)
    × (list ≡ (image_edge_list piece.addr (length piece.bytes) ++ image_load_list piece.addr piece.bytes head tail)
    ++ left)
    × IsPiecesLoadList rest left

-- the accesses of a verification of these pieces
abbrev pub pieces_verify_list : List ImageFileBytes → List Access
pieces_verify_list [] = []
pieces_verify_list (piece ∷ rest) = image_dump_list piece.addr (length piece.bytes) ++ pieces_verify_list rest

module _ {W : Type 0} (wire : Ghosts W) (limits : Limits) where
  -- what a writer got of a load of pieces
  pub record LoadsReported (pieces : List ImageFileBytes) (fault : Option ImageFault) (s t : W)
      (before after : Option (Option (List ℕ))) : Type 0 where
    pub list : List Access
    pub is : IsPiecesLoadList pieces list
    pub reports : ReportsTo wire limits list fault s t before after

  -- What a writer got of a verification of pieces: the calls are for the first pieces, and for all of them if none
  -- differs.
  pub record VerifiesReported (pieces : List ImageFileBytes) (result : Result (Option ByteDifference) ImageFault)
      (s t : W) (before after : Option (Option (List ℕ))) : Type 0 where
    pub front : List ImageFileBytes
    pub later : List ImageFileBytes
    pub split : pieces ≡ front ++ later
    pub all : result ≡ Ok None → later ≡ []
    pub reports : ReportsTo wire limits (pieces_verify_list front) (image_fault_of result) s t before
        after

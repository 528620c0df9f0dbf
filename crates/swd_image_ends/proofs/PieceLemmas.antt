-- Pieces of an image that were loaded, or read and compared, one after the other: what that means for the memory.
use Rattle.std.proofs.Common.{◌≡◌, ◌+◌, ℕ, zero, suc, List, [], ◌∷◌, length, refl, sym, subst, ap, ap₂, ◌∙◌, inl, inr}
use Rattle.std.proofs.Common.{Option, None, Some}
use Rattle.std.specs.Prelude.{unwrap_or}
use Rattle.std.proofs.lemmas.List.Elements.{All-head, All-tail}
use Rattle.std.specs.FinMap.{get}
use Rattle.swd_port.specs.declared.wire.Wire.{Ghosts}
use Rattle.swd_port.specs.PlainMemory.{PlainMemory}
use Rattle.swd_port.specs.PlainBus.{plain_of}
use Rattle.swd_port.specs.PlainBus.{IsPlain, plain_words_of}
use Rattle.swd_host.specs.Reports.{IsAtRest}
use Rattle.swd_run.specs.declared.limits.Limits.{Limits}
use Rattle.swd_image.specs.declared.fault.ImageFault.{ImageFault}
use Rattle.swd_image.specs.declared.verifying.ByteDifference.{ByteDifference}
use Rattle.swd_image.specs.Bytes.{image_byte_at, image_byte_in, image_bytes_at, image_word_of}
use Rattle.swd_image.specs.Dumps.{ComparesImage, DumpFails, VerifiesImage}
use Rattle.swd_image.specs.Lists.{image_dump_list, image_edge_list, image_load_list}
use Rattle.swd_image.specs.Loads.{LoadFails, Loads}
use Rattle.swd_image.proofs.CallLemmas.{calls_law}
use Rattle.swd_image_files.specs.Images.{ImageFileBytes}
use Rattle.swd_image_ends.specs.Pieces.{ArePiecesLoaded, ComparesEachPiece, IsBesideLoadedPiece, LoadFailsAt, LoadsAll}
use Rattle.swd_image_ends.specs.Pieces.{LoadsEach, VerifiesAll, VerifiesEach, VerifyFailsAt, loaded_pieces_byte}

-- memories of the same words have the same bytes
bytes_same : (m n : PlainMemory) → ((q : ℕ) → get n.words q ≡ get m.words q) → (at count : ℕ)
    → image_bytes_at n at count ≡ image_bytes_at m at count
bytes_same m n same at zero = refl
bytes_same m n same at (suc count) =
    ap₂ (λ b l. b ∷ l) (ap (λ o. image_byte_in (unwrap_or o 0) at) (same (image_word_of at)))
    (bytes_same m n same (at + 1) count)

-- and so the same comparisons
compares_same : (m n : PlainMemory) → ((q : ℕ) → get n.words q ≡ get m.words q) → (pieces : List ImageFileBytes)
    (difference : Option ByteDifference) → ComparesEachPiece n pieces difference → ComparesEachPiece m pieces
    difference
compares_same m n same [] difference h = h
compares_same m n same (piece ∷ rest) difference (inl first) = inl (
  first.0,
  first.1,
  subst (λ l. ComparesImage piece.addr piece.bytes l (Some first.0))
      (bytes_same m n same piece.addr (length piece.bytes)) first.2,
)
compares_same m n same (piece ∷ rest) difference (inr both) = inr (
  subst (λ l. ComparesImage piece.addr piece.bytes l None) (bytes_same m n same piece.addr (length piece.bytes))
      both.0,
  compares_same m n same rest difference both.1,
)

module _ {W : Type 0} (wire : Ghosts W) (limits : Limits) where
  -- a wire that is lawful after a load was so before it
  loads_law : (addr : ℕ) (bytes : List ℕ) (s t : W) → Loads wire limits addr bytes s t
      → wire.lawful t → wire.lawful s
  loads_law addr bytes s t h law =
      calls_law wire limits s h.reached (image_edge_list addr (length bytes)) h.edges.answers
      h.edges.calls (calls_law wire limits h.reached t (image_load_list addr bytes h.head h.tail)
      h.writes.answers h.writes.calls law)

  each_law : (pieces : List ImageFileBytes) (s u : W) → LoadsEach wire limits pieces s u → wire.lawful u
      → wire.lawful s
  each_law [] s u h law = subst wire.lawful h law
  each_law (piece ∷ rest) s u h law =
      loads_law piece.addr piece.bytes s h.0 h.1 (each_law rest h.0 u h.2 law)

  -- the memory after such loads
  pub each_memory : (pieces : List ImageFileBytes) (s u : W) → LoadsEach wire limits pieces s u
      → wire.lawful u → IsAtRest (wire.port s) → IsPlain (wire.port s).target.memory
      → ArePiecesLoaded pieces (plain_of (wire.port s).target.memory) (plain_of (wire.port u).target.memory)
      × IsAtRest (wire.port u) × IsPlain (wire.port u).target.memory
  each_memory [] s u h law at_rest plain = (
    record {
      bytes_are = λ at. ap (λ w. image_byte_at (plain_of (wire.port w).target.memory) at) h;
      others = λ at all. ap (λ w. get (plain_words_of (wire.port w).target.memory) at) h;
    },
    subst (λ w. IsAtRest (wire.port w)) (sym h) at_rest,
    subst (λ w. IsPlain (wire.port w).target.memory) (sym h) plain,
  )
  each_memory (piece ∷ rest) s u h law at_rest plain =
      let t = h.0 in
      let first = h.1.memory (each_law rest t u h.2 law) at_rest plain in
      let later = each_memory rest t u h.2 law first.1 first.2 in (
        record {
          bytes_are = λ at. later.0.bytes_are at ∙ ap (λ b. loaded_pieces_byte rest b at) (first.0.bytes_are at);
          others = λ at all. later.0.others at (All-tail (IsBesideLoadedPiece at) piece rest all)
              ∙ first.0.others at (All-head (IsBesideLoadedPiece at) piece rest all);
        },
        later.1,
        later.2,
      )

  -- a wire that is lawful after a verification was so before it
  verifies_law : (addr : ℕ) (bytes : List ℕ) (difference : Option ByteDifference) (s t : W)
      → VerifiesImage wire limits addr bytes difference s t → wire.lawful t → wire.lawful s
  verifies_law addr bytes difference s t h law =
      calls_law wire limits s t (image_dump_list addr (length bytes)) h.dumps.reads.answers
      h.dumps.reads.calls law

  each_verified_law : (pieces : List ImageFileBytes) (difference : Option ByteDifference) (s u : W)
      → VerifiesEach wire limits pieces difference s u → wire.lawful u → wire.lawful s
  each_verified_law [] difference s u h law = subst wire.lawful h.1 law
  each_verified_law (piece ∷ rest) difference s u (inl first) law =
      verifies_law piece.addr piece.bytes (Some first.0) s u first.2 law
  each_verified_law (piece ∷ rest) difference s u (inr later) law =
      verifies_law piece.addr piece.bytes None s later.0 later.1
      (each_verified_law rest difference later.0 u later.2 law)

  -- the result of such verifications holds for the memory
  pub each_compared : (pieces : List ImageFileBytes) (difference : Option ByteDifference) (s u : W)
      → VerifiesEach wire limits pieces difference s u → wire.lawful u → IsAtRest (wire.port s)
      → IsPlain (wire.port s).target.memory → ComparesEachPiece (plain_of (wire.port s).target.memory) pieces
      difference
  each_compared [] difference s u h law at_rest plain = h.0
  each_compared (piece ∷ rest) difference s u (inl first) law at_rest plain =
      inl (first.0, first.1, first.2.memory law at_rest plain)
  each_compared (piece ∷ rest) difference s u (inr later) law at_rest plain =
      let t = later.0 in
      let h = later.1 in
      let back = each_verified_law rest difference t u later.2 law in inr (
        h.memory back at_rest plain,
        compares_same (plain_of (wire.port s).target.memory) (plain_of (wire.port t).target.memory)
            (h.dumps.same back at_rest plain) rest difference
            (each_compared rest difference t u later.2 law (h.dumps.rests back at_rest)
            (h.dumps.plain back at_rest plain)),
      )

  -- What is left of a load, from the state that is reached, makes the whole one, from its start.
  pub record LoadsOn (left all : List ImageFileBytes) (s now : W) : Type 0 where
    pub loads : (u : W) → LoadsEach wire limits left now u
        → LoadsEach wire limits all s u
    pub fails : (u : W) (fault : ImageFault) → LoadFailsAt wire limits left now u fault
        → LoadFailsAt wire limits all s u fault

  -- at its start
  pub load_begins : (all left : List ImageFileBytes) (s : W) → left ≡ all → LoadsOn left all s s
  load_begins all left s is = record {
    loads = λ u h. subst (λ l. LoadsEach wire limits l s u) is h;
    fails = λ u fault h. subst (λ l. LoadFailsAt wire limits l s u fault) is h;
  }

  -- after a further piece
  pub load_next : (left all next : List ImageFileBytes) (piece : ImageFileBytes) (s now t : W) → left ≡ piece ∷ next
      → LoadsOn left all s now → Loads wire limits piece.addr piece.bytes now t
      → LoadsOn next all s t
  load_next left all next piece s now t is on loads = record {
    loads = λ u h. on.loads u
        (subst (λ l. LoadsEach wire limits l now u) (sym is) (t, loads, h));
    fails = λ u fault h. on.fails u fault
        (subst (λ l. LoadFailsAt wire limits l now u fault) (sym is) (inr (t, loads, h)));
  }

  -- at a piece that fails
  pub load_failed : (left all next : List ImageFileBytes) (piece : ImageFileBytes) (s now t : W) (fault : ImageFault)
      → left ≡ piece ∷ next → LoadsOn left all s now
      → LoadFails wire limits piece.addr piece.bytes now t fault
      → LoadFailsAt wire limits all s t fault
  load_failed left all next piece s now t fault is on fails =
      on.fails t fault (subst (λ l. LoadFailsAt wire limits l now t fault) (sym is) (inl fails))

  -- at its end
  pub load_ended : (left all : List ImageFileBytes) (s now : W) → left ≡ [] → LoadsOn left all s now
      → LoadsAll wire limits all s now
  load_ended left all s now is on =
      let each = on.loads now (subst (λ l. LoadsEach wire limits l now now) (sym is) refl) in
      record { each = each; memory = each_memory all s now each }

  -- What is left of a verification, from the state that is reached, makes the whole one, from its start.
  pub record VerifiesOn (left all : List ImageFileBytes) (s now : W) : Type 0 where
    pub verifies : (difference : Option ByteDifference) (u : W)
        → VerifiesEach wire limits left difference now u
        → VerifiesEach wire limits all difference s u
    pub fails : (u : W) (fault : ImageFault) → VerifyFailsAt wire limits left now u fault
        → VerifyFailsAt wire limits all s u fault

  -- at its start
  pub verify_begins : (all left : List ImageFileBytes) (s : W) → left ≡ all → VerifiesOn left all s s
  verify_begins all left s is = record {
    verifies = λ difference u h. subst (λ l. VerifiesEach wire limits l difference s u) is h;
    fails = λ u fault h. subst (λ l. VerifyFailsAt wire limits l s u fault) is h;
  }

  -- after a further piece without a difference
  pub verify_next : (left all next : List ImageFileBytes) (piece : ImageFileBytes) (s now t : W) → left ≡ piece ∷ next
      → VerifiesOn left all s now → VerifiesImage wire limits piece.addr piece.bytes None now t
      → VerifiesOn next all s t
  verify_next left all next piece s now t is on verifies = record {
    verifies = λ difference u h. on.verifies difference u
        (subst (λ l. VerifiesEach wire limits l difference now u) (sym is) (inr (t, verifies, h)));
    fails = λ u fault h. on.fails u fault
        (subst (λ l. VerifyFailsAt wire limits l now u fault) (sym is) (inr (t, verifies, h)));
  }

  -- at a piece that differs
  pub verify_differs : (left all next : List ImageFileBytes) (piece : ImageFileBytes) (s now t : W)
      (found : ByteDifference) → left ≡ piece ∷ next → VerifiesOn left all s now
      → VerifiesImage wire limits piece.addr piece.bytes (Some found) now t
      → VerifiesAll wire limits all (Some found) s t
  verify_differs left all next piece s now t found is on verifies =
      let each = on.verifies (Some found) t
      (subst (λ l. VerifiesEach wire limits l (Some found) now t) (sym is)
      (inl (found, refl, verifies))) in
      record { each = each; memory = each_compared all (Some found) s t each }

  -- at a piece that fails
  pub verify_failed : (left all next : List ImageFileBytes) (piece : ImageFileBytes) (s now t : W) (fault : ImageFault)
      → left ≡ piece ∷ next → VerifiesOn left all s now
      → DumpFails wire limits piece.addr (length piece.bytes) now t fault
      → VerifyFailsAt wire limits all s t fault
  verify_failed left all next piece s now t fault is on fails =
      on.fails t fault (subst (λ l. VerifyFailsAt wire limits l now t fault) (sym is) (inl fails))

  -- at its end
  pub verify_ended : (left all : List ImageFileBytes) (s now : W) → left ≡ [] → VerifiesOn left all s now
      → VerifiesAll wire limits all None s now
  verify_ended left all s now is on =
      let each = on.verifies None now
      (subst (λ l. VerifiesEach wire limits l None now now) (sym is) (refl, refl)) in
      record { each = each; memory = each_compared all None s now each }

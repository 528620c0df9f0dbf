-- No call makes a word of the memory appear or go, at a wire that is always lawful.
use Rattle.std.proofs.Common.{◌≡◌, ◌+◌, ℕ, true, false, refl, sym, ap, subst, ◌∙◌, List, [], ◌∷◌, length, take, drop}
use Rattle.std.proofs.Common.{Option, inl, inr, Bool}
use Rattle.std.specs.Prelude.{◌&&◌, is_some}
use Rattle.std.proofs.lemmas.Bool.{cases_eq}
use Rattle.std.specs.FinMap.{get}
use Rattle.swd_port.specs.declared.access.Access.{Access}
use Rattle.swd_port.specs.declared.access.Access.TheVariants.{Read, Write}
use Rattle.swd_port.specs.declared.access.Answer.{Answer}
use Rattle.swd_port.specs.declared.wire.Wire.{Ghosts}
use Rattle.swd_port.specs.PlainMemory.{PlainMemory, plain_address}
use Rattle.swd_port.specs.PlainAnswers.{plain_done, plain_after, succeeds_at}
use Rattle.swd_port.specs.Bus.{Bus, bus_after}
use Rattle.swd_port.specs.PlainBus.{plain_of}
use Rattle.swd_port.proofs.MapLemmas.{port_map_get_other, port_map_get_same}
use Rattle.swd_host.specs.Chains.{ResumeChain, first, again}
use Rattle.swd_port.specs.PlainBus.{IsPlain, plain_words_of}
use Rattle.swd_host.specs.Plain.{memory_after}
use Rattle.swd_host.proofs.ReadChains.{resume_chain_plain}
use Rattle.swd_port.proofs.PlainBusLaws.{is_plain_next, plain_of_next}
use Rattle.swd_host.specs.Reports.{IsAtRest, HostReport}
use Rattle.swd_host.specs.declared.task.Bursts.{Bursts}
use Rattle.swd_host.specs.Bursts.{bursts_limit}
use Rattle.swd_run.specs.declared.limits.Limits.{Limits}
use Rattle.swd_run.specs.Sessions.{batch_bursts}
use Rattle.swd_run.proofs.WentLemmas.{rests, tell_of}
use Rattle.swd_image.specs.declared.verifying.ByteDifference.{ByteDifference}
use Rattle.swd_image.specs.Lists.{image_edge_list, image_load_list}
use Rattle.swd_image.specs.Loads.{Loads}
use Rattle.swd_image.specs.Sessions.{Calls, none, more}
use Rattle.swd_image_files.specs.Images.{ImageFileBytes}
use Rattle.swd_image_ends.specs.Memories.{ImageEndSameAddresses, ImageEndSameWords, LoadsSimulatedMemory}
use Rattle.swd_image_ends.specs.Memories.{VerifiesSimulatedMemory}
use Rattle.swd_image_ends.specs.Pieces.{LoadsAll, LoadsEach, VerifiesAll, VerifiesEach}

-- ---- one access

and_left : (a b : Bool) → (a && b) ≡ true → a ≡ true
and_left true b e = refl
and_left false b e = absurd cc

changed : (a : Access) (p : PlainMemory) → succeeds_at (plain_address a) p ≡ true → plain_after a p ≡ plain_done a p
changed a p e = rw e refl

unchanged : (a : Access) (p : PlainMemory) → succeeds_at (plain_address a) p ≡ false → plain_after a p ≡ p
unchanged a p e = rw e refl

same_done : (a : Access) (p : PlainMemory) → succeeds_at (plain_address a) p ≡ true
    → ImageEndSameAddresses p (plain_done a p)
same_done (Read at) p e q = refl
same_done (Write at word) p e q = elim (cases_eq q at) [
  | inl here ↦ ap (λ o. is_some o) (port_map_get_same p.words at word q here)
      ∙ sym (ap (λ k. is_some (get p.words k)) here ∙ and_left (is_some (get p.words at)) _ e)
  | inr beside ↦ ap (λ o. is_some o) (port_map_get_other p.words at word q beside)
]

same_after : (a : Access) (p : PlainMemory) → ImageEndSameAddresses p (plain_after a p)
same_after a p q =
    elim (succeeds_at (plain_address a) p) as (λ b. succeeds_at (plain_address a) p ≡ b
    → is_some (get (plain_after a p).words q) ≡ is_some (get p.words q)) [
      | true ↦ λ e. ap (λ m. is_some (get m.words q)) (changed a p e) ∙ same_done a p e q
      | false ↦ λ e. ap (λ m. is_some (get m.words q)) (unchanged a p e)
    ] refl

same_list : (list : List Access) (p : Bus) → IsPlain p
    → ImageEndSameAddresses (plain_of p) (plain_of (memory_after list p))
same_list [] p plain q = refl
same_list (a ∷ list) p plain q =
    same_list list (bus_after a p) (is_plain_next a p plain) q
    ∙ (ap (λ m. is_some (get m.words q)) (plain_of_next a p plain) ∙ same_after a (plain_of p) q)

-- ---- a call, resumed

same_chain : (limit : ℕ) (list : List Access) (m : Bus) (calls : List HostReport) (told : HostReport)
    (now : Bus) → IsPlain m → ResumeChain limit list m calls told now
    → ImageEndSameAddresses (plain_of m) (plain_of now)
same_chain limit list m calls told now plain (first fits) q =
    let k = fits.0 in
    let j = fits.1.memory.0 in
    ap (λ x. is_some (get (plain_words_of x) q)) fits.1.memory.2 ∙ same_list (take (k + j) list) m plain q
same_chain limit list m calls told now plain
    (again {calls = before} {earlier = earlier} {before = left} chain own kept begun fits) q =
    let k = fits.0 in
    let j = fits.1.memory.0 in
    ap (λ x. is_some (get (plain_words_of x) q)) fits.1.memory.2
    ∙ same_list (take (k + j) (drop (length earlier.answers) list)) left
    (resume_chain_plain limit list m before earlier left plain chain) q
    ∙ same_chain limit list m before earlier left plain chain q

-- ---- calls that all succeeded

module _ {W : Type 0} (wire : Ghosts W) (limits : Limits) (always : (w : W) → wire.lawful w) where
  record Keeps (s t : W) : Type 0 where
    at_rest : IsAtRest (wire.port t)
    plain : IsPlain (wire.port t).target.memory
    addresses : ImageEndSameAddresses (plain_of (wire.port s).target.memory) (plain_of (wire.port t).target.memory)

  same_calls : (s t : W) (list : List Access) (answers : List Answer) → IsAtRest (wire.port s) →
      IsPlain (wire.port s).target.memory
      → Calls wire limits s list answers t → Keeps s t
  same_calls s t list answers rest plain none = record { at_rest = rest; plain = plain; addresses = λ q. refl }
  same_calls s t list answers rest plain
      (more {list = xs} {answers = vs} {t = r} {u = v} {batch = batch} {run = run} before call all plain_done) =
      let h = same_calls s r xs vs rest plain before in
      let n : Bursts = batch_bursts limits.bursts batch in
      let went = call.goes.went in
      let turns =
      (tell_of wire n batch.accesses limits.tries r h.at_rest run.stops run.told v went
      (always v)).turns in
      let same = same_chain (bursts_limit n) batch.accesses (wire.port r).target.memory turns.calls run.told
      turns.memory h.plain turns.chain in
      record {
        at_rest = rests wire n batch.accesses limits.tries r h.at_rest run.stops run.told
            v went (always v) all;
        plain = subst IsPlain (turns.left all) (resume_chain_plain (bursts_limit n) batch.accesses
            (wire.port r).target.memory
            turns.calls
            run.told turns.memory h.plain turns.chain);
        addresses = λ q. ap (λ x. is_some (get (plain_words_of x) q)) (sym (turns.left all)) ∙ same q ∙ h.addresses q;
      }

  same_load : (addr : ℕ) (bytes : List ℕ) (s t : W) → IsAtRest (wire.port s) → IsPlain (wire.port s).target.memory
      → Loads wire limits addr bytes s t → Keeps s t
  same_load addr bytes s t rest plain h =
      let edges = same_calls s h.reached (image_edge_list addr (length bytes)) h.edges.answers rest plain
      h.edges.calls in
      let writes = same_calls h.reached t (image_load_list addr bytes h.head h.tail) h.writes.answers edges.at_rest
      edges.plain h.writes.calls in
      record {
        at_rest = writes.at_rest;
        plain = writes.plain;
        addresses = λ q. writes.addresses q ∙ edges.addresses q;
      }

  same_each : (pieces : List ImageFileBytes) (s u : W) → IsAtRest (wire.port s) → IsPlain (wire.port s).target.memory
      → LoadsEach wire limits pieces s u
      → ImageEndSameAddresses (plain_of (wire.port s).target.memory) (plain_of (wire.port u).target.memory)
  same_each [] s u rest plain h q = ap (λ w. is_some (get (plain_words_of (wire.port w).target.memory) q)) h
  same_each (piece ∷ rest) s u at_rest plain h q =
      let one = same_load piece.addr piece.bytes s h.0 at_rest plain h.1 in
      same_each rest h.0 u one.at_rest one.plain h.2 q ∙ one.addresses q

  -- what a load of pieces over such a wire leaves of the memory
  pub loaded_there : (pieces : List ImageFileBytes) (s u : W) → IsAtRest (wire.port s) → IsPlain (wire.port
      s).target.memory
      → LoadsAll wire limits pieces s u
      → LoadsSimulatedMemory pieces (plain_of (wire.port s).target.memory) (plain_of (wire.port u).target.memory)
  loaded_there pieces s u rest plain h = record {
    loaded = (h.memory (always u) rest plain).0;
    addresses = same_each pieces s u rest plain h.each;
  }

  same_words : (pieces : List ImageFileBytes) (difference : Option ByteDifference) (s u : W) → IsAtRest (wire.port s)
      → IsPlain (wire.port s).target.memory
      → VerifiesEach wire limits pieces difference s u
      → ImageEndSameWords (plain_of (wire.port s).target.memory) (plain_of (wire.port u).target.memory)
  same_words [] difference s u rest plain h q = ap (λ w. get (plain_words_of (wire.port w).target.memory) q) h.1
  same_words (piece ∷ rest) difference s u at_rest plain (inl here) q = here.2.dumps.same (always u) at_rest plain q
  same_words (piece ∷ rest) difference s u at_rest plain (inr later) q =
      let h = later.1.dumps in
      same_words rest difference later.0 u (h.rests (always later.0) at_rest) (h.plain (always later.0) at_rest
      plain) later.2 q
      ∙ h.same (always later.0) at_rest plain q

  -- and a verification
  pub verified_there : (pieces : List ImageFileBytes) (difference : Option ByteDifference) (s u : W) → IsAtRest
      (wire.port s)
      → IsPlain (wire.port s).target.memory
      → VerifiesAll wire limits pieces difference s u
      → VerifiesSimulatedMemory pieces difference (plain_of (wire.port s).target.memory)
      (plain_of (wire.port u).target.memory)
  verified_there pieces difference s u rest plain h = record {
    compared = h.memory (always u) rest plain;
    words = same_words pieces difference s u rest plain h.each;
  }

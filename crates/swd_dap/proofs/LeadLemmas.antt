-- Laws of clocks that are driven or released by one packet after the other.
use Rattle.std.proofs.Common.{◌≡◌, ℕ, zero, suc, ◌+◌, Bool, List, [], ◌∷◌, ◌++◌, replicate, refl, sym, ap}
use Rattle.std.proofs.Common.{◌∙◌, subst, append_assoc, append-nil, add-one}
use Rattle.swd_dap.specs.Packets.{DapExchange, DapDoes}
use Rattle.swd_dap.specs.Sequences.{dap_drive_request, dap_release_request}
use Rattle.swd_dap.specs.Leading.{DapDrivesEach, dap_joined, DapQueues, DapReleases}

dap_drives_append : {P : Type 0} (Exchanged : List DapExchange → P → Type 0) (xs ys : List (List Bool)) (s m t : P)
    → DapDrivesEach Exchanged xs s m → DapDrivesEach Exchanged ys m t → DapDrivesEach Exchanged (xs ++ ys) s t
dap_drives_append Exchanged [] ys s m t h k = subst (λ a. DapDrivesEach Exchanged ys a t) h k
dap_drives_append Exchanged (x ∷ xs) ys s m t h k =
    (h.0, h.1, h.2, dap_drives_append Exchanged xs ys h.0 m t h.3 k)

dap_joined_append : (xs ys : List (List Bool)) → dap_joined (xs ++ ys) ≡ dap_joined xs ++ dap_joined ys
dap_joined_append [] ys = refl
dap_joined_append (x ∷ xs) ys = ap (λ l. x ++ l) (dap_joined_append xs ys)
    ∙ sym (append_assoc x (dap_joined xs) (dap_joined ys))

-- bits, and then more
pub dap_queues_more : {P : Type 0} (Exchanged : List DapExchange → P → Type 0) (first second : List Bool) (s m t : P)
    (b c d : List Bool) → DapQueues Exchanged first s b m c → DapQueues Exchanged second m c t d
    → DapQueues Exchanged (first ++ second) s b t d
dap_queues_more Exchanged first second s m t b c d h k = record {
  pieces = h.pieces ++ k.pieces;
  drives = dap_drives_append Exchanged h.pieces k.pieces s m t h.drives k.drives;
  bits = sym (append_assoc b first second) ∙ ap (λ l. l ++ second) h.bits
      ∙ append_assoc (dap_joined h.pieces) c second ∙ ap (λ l. dap_joined h.pieces ++ l) k.bits
      ∙ sym (append_assoc (dap_joined h.pieces) (dap_joined k.pieces) d)
      ∙ ap (λ l. l ++ d) (sym (dap_joined_append h.pieces k.pieces));
}

-- the bits that wait are driven by one packet
pub dap_queues_packet : {P : Type 0} (Exchanged : List DapExchange → P → Type 0) (s t : P) (b : List Bool)
    (reply : List ℕ) → DapDoes Exchanged (dap_drive_request b) 2 reply s t → DapQueues Exchanged [] s b t []
dap_queues_packet Exchanged s t b reply h = record {
  pieces = b ∷ [];
  drives = (t, reply, h, refl);
  bits = append-nil b ∙ sym (append-nil (b ++ []) ∙ append-nil b);
}

-- the first of these clocks are released by one packet
pub dap_releases_first : {P : Type 0} (Exchanged : List DapExchange → P → Type 0) (now left least : ℕ) (s m t : P)
    (reply : List ℕ) → DapDoes Exchanged (dap_release_request now) least reply s m → DapReleases Exchanged left m t
    → DapReleases Exchanged (now + left) s t
dap_releases_first Exchanged now left least s m t reply h k = record {
  pieces = now ∷ k.pieces;
  releases = (m, least, reply, h, k.releases);
  count = ap (λ n. now + n) k.count;
}

-- no clocks
pub dap_releases_none : {P : Type 0} (Exchanged : List DapExchange → P → Type 0) (s : P) → DapReleases Exchanged 0 s s
dap_releases_none Exchanged s = record { pieces = []; releases = refl; count = refl }

dap_replicate_suc : (n : ℕ) (x : Bool) → replicate (suc n) x ≡ replicate n x ++ x ∷ []
dap_replicate_suc zero x = refl
dap_replicate_suc (suc n) x = ap (λ l. x ∷ l) (dap_replicate_suc n x)

-- one more of the same
pub dap_replicate_one_more : (n : ℕ) (x : Bool) → replicate (n + 1) x ≡ replicate n x ++ x ∷ []
dap_replicate_one_more n x = rw add-one (dap_replicate_suc n x)

-- Laws of requests and replies along a list of transactions.
use Rattle.std.proofs.Common.{◌≡◌, ℕ, zero, suc, ◌+◌, ◌-◌, ◌<◌, ◌≤◌, Bool, List, [], ◌∷◌, ◌++◌}
use Rattle.std.proofs.Common.{length, take, drop, get_or, refl, sym, ap, ◌∙◌, subst, arith, append_assoc, min}
use Rattle.std.proofs.Common.{length-append, length-drop, add-one, inl, inr}
use Rattle.std.proofs.Math.Seq.{drop-cons, take-suc, take-length}
use Rattle.std.proofs.Math.ListN.{drop_of_length-le}
use Rattle.std.proofs.lemmas.Grind.{common_steps}
use Rattle.std.proofs.lemmas.Bool.{cases_lt}
use Rattle.swd_port.specs.declared.coming.Coming.{Coming}
use Rattle.swd_dap.specs.declared.transfer.Transfer.{Transfer}
use Rattle.swd_dap.specs.Transfers.{dap_transfer_bytes, dap_all_bytes}
use Rattle.swd_dap.specs.Sequences.{dap_bytes_of, dap_byte_of}

take_all : {A : Type 0} (xs : List A) (i : ℕ) → length xs ≤ i → take i xs ≡ xs
take_all [] zero h = refl
take_all [] (suc i) h = refl
take_all (x ∷ xs) zero h = absurd (omega arith)
take_all (x ∷ xs) (suc i) h = ap (λ l. x ∷ l) (take_all xs i (omega arith))

-- what is left from a place on, with the item there
pub dap_left_from : {A : Type 0} (xs : List A) (i : ℕ) (d : A) → i < length xs
    → drop i xs ≡ get_or xs i d ∷ drop (i + 1) xs
dap_left_from xs i d h = rw add-one (drop-cons xs i d h)

-- one more item of a beginning
pub dap_beginning_one_more : {A : Type 0} (xs : List A) (i : ℕ) (d : A) → i < length xs
    → take (i + 1) xs ≡ take i xs ++ get_or xs i d ∷ []
dap_beginning_one_more xs i d h = rw add-one (take-suc xs i d h)

-- there is room for the next transaction of a packet
pub dap_room_for_transfer : (packet : List ℕ) (t : Transfer) (ts : List Transfer) (all : List ℕ)
    → packet ++ dap_all_bytes (t ∷ ts) ≡ all → length all ≤ 512 → length packet + length (dap_transfer_bytes t) ≤ 512
dap_room_for_transfer packet t ts all e h =
    let n = length-append packet (dap_all_bytes (t ∷ ts)) in
    let m = length-append (dap_transfer_bytes t) (dap_all_bytes ts) in
    let l = ap length e in
    omega arith

-- the same at a place of a list
pub dap_room_at : (packet : List ℕ) (ts : List Transfer) (i : ℕ) (d : Transfer) (all : List ℕ)
    → packet ++ dap_all_bytes (drop i ts) ≡ all → i < length ts → length all ≤ 512
    → length packet + length (dap_transfer_bytes (get_or ts i d)) ≤ 512
dap_room_at packet ts i d all e h n =
    dap_room_for_transfer packet (get_or ts i d) (drop (i + 1) ts) all
    (subst (λ l. packet ++ dap_all_bytes l ≡ all) (dap_left_from ts i d h) e) n

dap_behind_eight_at : (bits : List Bool) (k : ℕ) → k ≡ min (length bits) 8 → drop k bits ≡ drop 8 bits
dap_behind_eight_at bits k e = grind (arith, common_steps, drop_of_length-le {A = Bool})

-- the bits behind the first eight
pub dap_behind_eight : (bits : List Bool) (k : ℕ) → k ≡ min (length bits) 8
    → take (length bits - k) (drop k bits) ≡ drop 8 bits
dap_behind_eight bits k e =
    ap (λ n. take n (drop k bits)) (sym (length-drop k bits)) ∙ take-length (drop k bits)
    ∙ dap_behind_eight_at bits k e

-- the next byte of bits is in the packet
pub dap_byte_is_put : (packet : List ℕ) (bits : List Bool) (all : List ℕ) (n m : ℕ) → n ≡ suc m
    → packet ++ dap_bytes_of n bits ≡ all → (packet ++ dap_byte_of bits ∷ []) ++ dap_bytes_of m (drop 8 bits) ≡ all
dap_byte_is_put packet bits all n m h e =
    append_assoc packet (dap_byte_of bits ∷ []) (dap_bytes_of m (drop 8 bits))
    ∙ subst (λ k. packet ++ dap_bytes_of k bits ≡ all) h e

dap_first_of : (xs : List Coming) (n k : ℕ) → k ≡ min (length xs) n → take k xs ≡ take n xs
dap_first_of xs n k e = elim (cases_lt (length xs) n) [
  | inl h ↦ (let all : length xs ≤ k = omega arith in let more : length xs ≤ n = omega arith in
      take_all xs k all ∙ sym (take_all xs n more))
  | inr h ↦ (let same : k ≡ n = omega arith in ap (λ i. take i xs) same)
]

-- all that is looked at of what is announced
pub dap_all_coming : (xs : List Coming) (k i : ℕ) → k ≡ min (length xs) 160 → length (take k xs) ≤ i
    → take i (take k xs) ≡ take 160 xs
dap_all_coming xs k i e h = take_all (take k xs) i h ∙ dap_first_of xs 160 k e

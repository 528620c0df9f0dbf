-- Laws of the bits of an item.
use Rattle.std.proofs.Common.{◌≡◌, ℕ, zero, suc, ◌+◌, ◌-◌, ◌/◌, ◌^◌, ◌≤◌, List, Bool, ◌++◌, length, replicate}
use Rattle.std.proofs.Common.{append_assoc, sym, ap, ◌∙◌, arith}
use Rattle.std.proofs.lemmas.List.{length-append, length-replicate, replicate-append-replicate}
use Rattle.swd_bits.specs.Bits.{low_bits}
use Rattle.swd_trace.specs.declared.item.Item.{Item}
use Rattle.swd_trace.specs.declared.item.Item.TheVariants.{Reset, Switch, Idle, Tx, Junk, Cut}
use Rattle.swd_trace.specs.Listed.{IsLegalItem, IsEncodableItem}
use Rattle.swd_bits.proofs.BitsLemmas.{length-low_bits}
use Rattle.swd_trace.proofs.NumberLemmas.{decoder_bits_parted}

-- how many bits are left
pub item_bits_left_count : (run len bits : ℕ) (one : Bool) → length (replicate run one ++ low_bits len bits) ≡ run + len
item_bits_left_count run len bits one =
    omega (
      arith,
      length-append (replicate run one) (low_bits len bits),
      length-replicate run one,
      length-low_bits len
          bits,
    )

-- the first of the run, and what is left
pub item_bits_run_split : (n run len bits : ℕ) (one : Bool) (more : List Bool) → n ≤ run →
    replicate n one ++ ((replicate (run - n) one ++ low_bits len bits) ++ more) ≡
    (replicate run one ++ low_bits len bits) ++ more
item_bits_run_split n run len bits one more h =
    let all : n + (run - n) ≡ run = omega arith in
    ap (λ x. replicate n one ++ x) (append_assoc (replicate (run - n) one) (low_bits len bits) more)
    ∙ sym (append_assoc (replicate n one) (replicate (run - n) one) (low_bits len bits ++ more))
    ∙ ap (λ x. x ++ (low_bits len bits ++ more))
    (replicate-append-replicate n (run - n) one ∙ ap (λ k. replicate k one) all)
    ∙ sym (append_assoc (replicate run one) (low_bits len bits) more)

-- the first of the other bits, and what is left
pub item_bits_rest_split : (n run len bits : ℕ) (one : Bool) (more : List Bool) → run ≤ 0 → n ≤ len →
    low_bits n bits ++ ((replicate run one ++ low_bits (len - n) (bits / 2 ^ n)) ++ more) ≡
    (replicate run one ++ low_bits len bits) ++ more
item_bits_rest_split n zero len bits one more r h =
    sym (append_assoc (low_bits n bits) (low_bits (len - n) (bits / 2 ^ n)) more)
    ∙ ap (λ x. x ++ more) (sym (decoder_bits_parted n len bits h))
item_bits_rest_split n (suc run) len bits one more r h = absurd (omega arith)

-- an item that has a line has bits that can be written
pub legal_item_is_encodable : (item : Item) → IsLegalItem item → IsEncodableItem item
legal_item_is_encodable (Reset count) l = tt
legal_item_is_encodable Switch l = tt
legal_item_is_encodable (Idle count) l = tt
legal_item_is_encodable (Tx tx) l = l
legal_item_is_encodable (Junk bit) l = tt
legal_item_is_encodable (Cut bits) l = (l.short, l.spelled)

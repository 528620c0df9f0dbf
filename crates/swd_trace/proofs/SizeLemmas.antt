-- How many bits items have, and how many bytes their lines.
use Rattle.std.proofs.Common.{◌≡◌, ℕ, ◌+◌, ◌^◌, ◌<◌, ◌≤◌, inl, inr, Bool, true, false, List, [], ◌∷◌, ◌++◌, length}
use Rattle.std.proofs.Common.{append_assoc, refl, sym, ap, ◌∙◌, arith}
use Rattle.std.specs.Fmt.{decimal}
use Rattle.std.proofs.lemmas.Fmt.{length-decimal-le}
use Rattle.std.proofs.lemmas.List.{length-append, length-map}
use Rattle.swd_bits.specs.Bits.{low_bits}
use Rattle.swd_bits.specs.Listing.{hex2, hex8, tx_line_port, tx_line_address, tx_line_direction, tx_line_outcome}
use Rattle.swd_bits.specs.Listing.{tx_line_parity, tx_line}
use Rattle.swd_bits.specs.Transactions.{IsTxEnd, IsTx}
use Rattle.swd_bits.specs.declared.request.Reg4.{Reg4}
use Rattle.swd_bits.specs.declared.request.Reg4.TheVariants.{R0, R4, R8, RC}
use Rattle.swd_bits.specs.declared.tx.TxEnd.{TxEnd}
use Rattle.swd_bits.specs.declared.tx.TxEnd.TheVariants.{Moved, Wait, Fault, NoAck}
use Rattle.swd_bits.specs.declared.tx.Tx.{Tx as Transaction}
use Rattle.swd_bits.proofs.BitsLemmas.{length-low_bits}
use Rattle.swd_trace.specs.declared.item.Item.{Item}
use Rattle.swd_trace.specs.declared.item.Item.TheVariants.{Reset, Switch, Idle, Tx, Junk, Cut}
use Rattle.swd_trace.specs.Listed.{IsLegalItem, IsItemLine}
use Rattle.swd_trace.specs.Texts.{trace_digit, item_bits, item_line, bits_of_items}

-- an item's line is short
length-hex8 : (word : ℕ) → length (hex8 word) ≡ 8
unfolding hex8 hex2
length-hex8 word = refl

length-decimal : (n : ℕ) → n < 2 ^ 64 → length (decimal n) ≤ 20
length-decimal n h = length-decimal-le 20 n (omega arith) (omega arith) h

length-port : (b : Bool) → length (tx_line_port b) ≡ 3
length-port true = refl
length-port false = refl

length-address : (r : Reg4) → length (tx_line_address r) ≡ 2
length-address R0 = refl
length-address R4 = refl
length-address R8 = refl
length-address RC = refl

length-direction : (b : Bool) → length (tx_line_direction b) ≤ 6
length-direction true = omega arith
length-direction false = omega arith

length-parity : (b : Bool) → length (tx_line_parity b) ≤ 4
length-parity true = omega arith
length-parity false = omega arith

seen_small : (seen : ℕ) → IsTxEnd (NoAck seen) → seen < 2 ^ 64
seen_small seen h = elim h [
  | inl e ↦ omega arith
  | inr h ↦ elim h [
    | inl e ↦ omega arith
    | inr h ↦ elim h
        [ inl e ↦ omega arith | inr h ↦ elim h [ inl e ↦ omega arith | inr e ↦ omega arith ] ]
  ]
]

length-outcome : (end : TxEnd) → IsTxEnd end → length (tx_line_outcome end) ≤ 25
length-outcome (Moved word ok) h = omega
    (arith, length-append (tx_line_parity ok) (hex8 word), length-parity ok, length-hex8 word)
length-outcome Wait h = omega arith
length-outcome Fault h = omega arith
length-outcome (NoAck seen) h = let n = length-decimal seen (seen_small seen h) in omega (arith, n)

length-tx_line : (tx : Transaction) → IsTx tx → length (tx_line tx) ≤ 36
length-tx_line tx h =
    let p = tx_line_port tx.request.ap in
    let a = tx_line_address tx.request.addr in
    let d = tx_line_direction tx.request.read in
    let o = tx_line_outcome tx.result in
    omega (
      arith,
      length-append ((p ++ a) ++ d) o,
      length-append (p ++ a) d,
      length-append p a,
      length-port
          tx.request.ap,
      length-address tx.request.addr,
      length-direction tx.request.read,
      length-outcome tx.result h,
    )

length-item_line : (item : Item) → IsLegalItem item → length (item_line item) ≤ 64
length-item_line (Reset n) h = omega (arith, length-decimal n h)
length-item_line Switch h = omega arith
length-item_line (Idle n) h = omega (arith, length-decimal n h)
length-item_line (Tx tx) h = omega (arith, length-tx_line tx h)
length-item_line (Junk b) h = omega arith
length-item_line (Cut bits) h =
    let n : bits.len ≤ 49 = h.short in
    omega (arith, length-map (low_bits bits.len bits.bits) trace_digit, length-low_bits bits.len bits.bits)

pub length-line : (line : List ℕ) (item : Item) → IsItemLine line item → length line ≤ 64
length-line line item h = let n = length-item_line item h.legal in let e = ap length h.text in omega (arith, n, e)

-- one item more
pub item_bits_append : (items others : List Item)
    → bits_of_items (items ++ others) ≡ bits_of_items items ++ bits_of_items others
item_bits_append [] others = refl
item_bits_append (item ∷ items) others =
    ap (λ x. item_bits item ++ x) (item_bits_append items others)
    ∙ sym (append_assoc (item_bits item) (bits_of_items items) (bits_of_items others))

-- one more item adds its bits to the number of the bits of the items
pub item_bits_length_more : (items : List Item) (item : Item)
    → length (bits_of_items (items ++ item ∷ [])) ≡ length (bits_of_items items) + length (item_bits item)
item_bits_length_more items item =
    ap length (item_bits_append items (item ∷ [])) ∙ length-append (bits_of_items items) (item_bits item ++ [])
    ∙ ap (λ n. length (bits_of_items items) + n) (length-append (item_bits item) [] ∙ omega arith)

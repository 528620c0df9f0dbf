-- An item of a trace is read back from its integers. For `SwdItem::item`.
use Rattle.std.proofs.Common.{◌≡◌, ◌≢◌, ◌==◌, ◌<◌, ◌≤◌, ◌^◌, ◌∙◌, ap, sym, subst, refl, ℕ, Bool, true, false, Option}
use Rattle.std.proofs.Common.{Some, None, IfSome, if◌then◌else◌, inl, inr}
use Rattle.std.specs.Prelude.{IfNone}
use Rattle.std.proofs.lemmas.Bool.{eqb-true}
use Rattle.swd_bits.specs.Bits.{bits_number, low_bits}
use Rattle.swd_bits.specs.Wire.{bits_of_request}
use Rattle.swd_bits.specs.Transactions.{IsTxEnd}
use Rattle.swd_bits.specs.declared.request.Request.{Request}
use Rattle.swd_bits.specs.declared.tx.Tx.{Tx as TxType}
use Rattle.swd_bits.specs.declared.tx.TxEnd.{TxEnd}
use Rattle.swd_bits.specs.declared.tx.TxEnd.TheVariants.{Moved, Wait, Fault, NoAck}
use Rattle.swd_bits.specs.declared.tx_bits.TxBits.{TxBits}
use Rattle.swd_bits.proofs.BitsLemmas.{low_bits-number}
use Rattle.swd_bits.proofs.TxLemmas.{request_bits_length}
use Rattle.swd_trace.specs.declared.item.Item.{Item}
use Rattle.swd_trace.specs.declared.item.Item.TheVariants.{Reset, Switch, Idle, Tx, Junk, Cut}
use Rattle.swd_trace.specs.Listed.{IsEncodableItem}
use Rattle.swd_c.specs.declared.item.SwdItem.{SwdItem}
use Rattle.swd_c.specs.Items.{c_api_item, c_api_tx_item, c_api_end_from, c_api_no_ack_from, c_api_tx_by, c_api_item_by}
use Rattle.swd_c.specs.Items.{CApiReadsTransaction, CApiReadsCut}

-- the end of a transaction by its struct
abbrev end_in : SwdItem → Option TxEnd
end_in f = c_api_end_from f.ack f.word f.parity_ok

no_ack_back : (q : Request) (seen : ℕ) → IsTxEnd (NoAck seen)
    → end_in (c_api_tx_item q (NoAck seen)) ≡ Some (NoAck seen)
no_ack_back q seen h = elim h [
  | inl e ↦ rw e refl
  | inr h ↦ elim h [
    | inl e ↦ rw e refl
    | inr h ↦ elim h [
      | inl e ↦ rw e refl
      | inr h ↦ elim h [
        | inl e ↦ rw e refl
        | inr e ↦ rw e refl
      ]
    ]
  ]
]

end_back : (q : Request) (end : TxEnd) → IsTxEnd end → end_in (c_api_tx_item q end) ≡ Some end
end_back q (Moved word true) h = refl
end_back q (Moved word false) h = refl
end_back q Wait h = refl
end_back q Fault h = refl
end_back q (NoAck seen) h = no_ack_back q seen h

-- the end of a transaction is read back
pub c_api_end_back : (tx : TxType) (f : SwdItem) (end : Option TxEnd) → IsTxEnd tx.result
    → c_api_tx_item tx.request tx.result ≡ f → end ≡ c_api_end_from f.ack f.word f.parity_ok → end ≡ Some tx.result
c_api_end_back tx f end l e is = is ∙ (ap end_in (sym e) ∙ end_back tx.request tx.result l)

if_end : (b : Bool) (x y : Option TxEnd) → (b ≡ true → IfSome x IsTxEnd) → IfSome y IsTxEnd
    → IfSome (if b then x else y) IsTxEnd
if_end true x y h k = h refl
if_end false x y h k = k

no_ack_sound : (n : ℕ) → IfSome (c_api_no_ack_from n) IsTxEnd
no_ack_sound n =
    if_end (n == 0) _ _ (λ e. inl (eqb-true n 0 e)) (if_end (n == 3) _ _ (λ e. inr (inl (eqb-true n 3 e)))
    (if_end (n == 5) _ _ (λ e. inr (inr (inl (eqb-true n 5 e)))) (if_end (n == 6) _ _
    (λ e. inr (inr (inr (inl (eqb-true n 6 e))))) (if_end (n == 7) _ _ (λ e. inr (inr (inr (inr (eqb-true n 7 e)))))
    tt))))

end_sound : (ack word parity_ok : ℕ) → word < 2 ^ 32 → IfSome (c_api_end_from ack word parity_ok) IsTxEnd
end_sound ack word parity_ok w =
    if_end (ack == 1) _ _ (λ e. w) (if_end (ack == 2) _ _ (λ e. tt)
    (if_end (ack == 4) _ _ (λ e. tt) (no_ack_sound ack)))

tx_sound : (q : Option Request) (end : Option TxEnd) → IfSome end IsTxEnd → IfSome (c_api_tx_by q end) IsEncodableItem
tx_sound (Some q) (Some end) h = h
tx_sound (Some q) None h = tt
tx_sound None (Some end) h = tt
tx_sound None None h = tt

-- a transaction that is read is one
pub c_api_tx_is : (q : Option Request) (end : Option TxEnd) (ack word parity_ok : ℕ) → word < 2 ^ 32
    → end ≡ c_api_end_from ack word parity_ok → IfSome (c_api_tx_by q end) IsEncodableItem
c_api_tx_is q end ack word parity_ok w is =
    tx_sound q end (subst (λ x. IfSome x IsTxEnd) (sym is) (end_sound ack word parity_ok w))

request_of : (q : Request) (end : TxEnd) → (c_api_tx_item q end).request ≡ bits_number (bits_of_request q)
request_of q (Moved word ok) = refl
request_of q Wait = refl
request_of q Fault = refl
request_of q (NoAck seen) = refl

-- the eight bits of a transaction's request
request_bits : (q : Request) (end : TxEnd) (f : SwdItem) → c_api_tx_item q end ≡ f
    → bits_of_request q ≡ low_bits 8 f.request
request_bits q end f e =
    let number : f.request ≡ bits_number (bits_of_request q) =
    ap (λ (i : SwdItem). i.request) (sym e) ∙ request_of q end in
    sym (ap (low_bits 8) number ∙ (ap (λ n. low_bits n (bits_number (bits_of_request q))) (sym (request_bits_length q))
    ∙ low_bits-number (bits_of_request q)))

found_request : (r : Option Request) (byte : ℕ) (q : Request)
    → IfSome r (λ p. (other : Request) → bits_of_request other ≡ low_bits 8 byte → other ≡ p)
    → IfNone r ((p : Request) → bits_of_request p ≢ low_bits 8 byte) → bits_of_request q ≡ low_bits 8 byte → r ≡ Some q
found_request None byte q only none h = absurd (none q h)
found_request (Some p) byte q only none h = ap Some (sym (only q h))

-- a request is read back
pub c_api_request_back : (tx : TxType) (f : SwdItem) (r : Option Request)
    → IfSome r (λ p. (other : Request) → bits_of_request other ≡ low_bits 8 f.request → other ≡ p)
    → IfNone r ((p : Request) → bits_of_request p ≢ low_bits 8 f.request)
    → c_api_tx_item tx.request tx.result ≡ f → r ≡ Some tx.request
c_api_request_back tx f r only none e =
    found_request r f.request tx.request only none (request_bits tx.request tx.result f e)

cut_here : (cut : TxBits) (r : Option Item) → (r ≡ None → cut.len ≤ 49 → cut.bits < 2 ^ cut.len → ⊥)
    → CApiReadsCut cut.len cut.bits r → IsEncodableItem (Cut cut) → r ≡ Some (Cut cut)
cut_here cut None none some l = absurd (none refl l.0 l.1)
cut_here cut (Some item) none some l = ap Some some.0

-- an incomplete item is read back
cut_back : (f : SwdItem) (r : Option Item) → (r ≡ None → f.count ≤ 49 → f.bits < 2 ^ f.count → ⊥)
    → CApiReadsCut f.count f.bits r → (cut : TxBits) → IsEncodableItem (Cut cut) → c_api_item (Cut cut) ≡ f
    → r ≡ Some (Cut cut)
cut_back f r none some cut l e =
    subst (λ (g : SwdItem). (r ≡ None → g.count ≤ 49 → g.bits < 2 ^ g.count → ⊥) → CApiReadsCut g.count g.bits r
    → r ≡ Some (Cut cut)) e (λ n s. cut_here cut r n s l) none some

by_tx : (q : Request) (end : TxEnd) (tx cut : Option Item) → c_api_item_by (c_api_tx_item q end) tx cut ≡ tx
by_tx q (Moved word ok) tx cut = refl
by_tx q Wait tx cut = refl
by_tx q Fault tx cut = refl
by_tx q (NoAck seen) tx cut = refl

-- each item is read back
pub c_api_item_back : (f : SwdItem) (tx cut : Option Item) → CApiReadsTransaction f tx
    → (cut ≡ None → f.count ≤ 49 → f.bits < 2 ^ f.count → ⊥) → CApiReadsCut f.count f.bits cut
    → (item : Item) → IsEncodableItem item → c_api_item item ≡ f → c_api_item_by f tx cut ≡ Some item
c_api_item_back f tx cut t n k (Reset count) l e = ap (λ g. c_api_item_by g tx cut) (sym e)
c_api_item_back f tx cut t n k Switch l e = ap (λ g. c_api_item_by g tx cut) (sym e)
c_api_item_back f tx cut t n k (Idle count) l e = ap (λ g. c_api_item_by g tx cut) (sym e)
c_api_item_back f tx cut t n k (Tx of) l e =
    ap (λ g. c_api_item_by g tx cut) (sym e) ∙ (by_tx of.request of.result tx cut ∙ t of l e)
c_api_item_back f tx cut t n k (Junk true) l e = ap (λ g. c_api_item_by g tx cut) (sym e)
c_api_item_back f tx cut t n k (Junk false) l e = ap (λ g. c_api_item_by g tx cut) (sym e)
c_api_item_back f tx cut t n k (Cut of) l e = ap (λ g. c_api_item_by g tx cut) (sym e) ∙ cut_back f cut n k of l e

cut_sound : (count bits : ℕ) (cut : Option Item) → CApiReadsCut count bits cut → IfSome cut IsEncodableItem
cut_sound count bits None k = tt
cut_sound count bits (Some item) k = subst IsEncodableItem (sym k.0) (k.1, k.2)

if_item : (b : Bool) (x y : Option Item) → IfSome x IsEncodableItem → IfSome y IsEncodableItem
    → IfSome (if b then x else y) IsEncodableItem
if_item true x y h k = h
if_item false x y h k = k

-- and what is read is one
pub c_api_item_is : (f : SwdItem) (tx cut : Option Item) → IfSome tx IsEncodableItem → CApiReadsCut f.count f.bits cut
    → IfSome (c_api_item_by f tx cut) IsEncodableItem
c_api_item_is f tx cut t k =
    if_item (f.kind == 1) _ _ tt (if_item (f.kind == 2) _ _ tt
    (if_item (f.kind == 3) _ _ tt (if_item (f.kind == 4) _ _ t
    (if_item (f.kind == 5) _ _ tt (if_item (f.kind == 6) _ _ (cut_sound f.count f.bits cut k) tt)))))

-- What the test of equality says of two items.
use Rattle.std.proofs.Common.{◌≡◌, ℕ, Bool, true, false, ◌&&◌, refl, ap, rules}
use Rattle.std.specs.Prelude.{◌==◌}
use Rattle.std.proofs.lemmas.Bool.{eqb-true}
use mathlib.Core.Bool.{beq}
use denote.Enum.Bare.{sameb, same_true}
use Rattle.swd_bits.specs.declared.request.Reg4.{Reg4}
use Rattle.swd_bits.specs.contracts.request.Reg4.{the_type}
use Rattle.swd_bits.specs.declared.request.Request.{Request}
use Rattle.swd_bits.specs.declared.tx_bits.TxBits.{TxBits}
use Rattle.swd_bits.specs.declared.tx.TxEnd.{TxEnd}
use Rattle.swd_bits.specs.declared.tx.TxEnd.TheVariants.{Moved, Wait, Fault, NoAck}
use Rattle.swd_bits.specs.declared.tx.Tx.{Tx as Transaction}
use Rattle.swd_bits.specs.contracts.request.RequestPartialEq.TheImpl as request_eq
use Rattle.swd_bits.specs.contracts.tx.TxEndPartialEq.TheImpl as end_eq
use Rattle.swd_bits.specs.contracts.tx.TxPartialEq.TheImpl as tx_eq
use Rattle.swd_trace.specs.declared.item.Item.{Item}
use Rattle.swd_trace.specs.declared.item.Item.TheVariants.{Reset, Switch, Idle, Tx, Junk, Cut}
use Rattle.swd_trace.specs.contracts.item.ItemPartialEq.TheImpl as item_eq

both : (a b : Bool) → (a && b) ≡ true → (a ≡ true) × (b ≡ true)
both true true e = (refl, refl)
both true false e = absurd cc
both false b e = absurd cc

same_bool : (a b : Bool) → beq a b ≡ true → a ≡ b
same_bool true true e = refl
same_bool false false e = refl
same_bool a b e = absurd cc

request_by : (ap read : Bool) (addr : Reg4) (b : Request) → ap ≡ b.ap → read ≡ b.read → addr ≡ b.addr
    → record { ap = ap; read = read; addr = addr } ≡ b
request_by ap read addr b e f g = rw (e, f, g) refl

same_request : (a b : Request) → (request_eq.ghosts).eq a b ≡ true → a ≡ b
same_request a b e =
    let f : (beq a.ap b.ap && (beq a.read b.read && sameb the_type a.addr b.addr)) ≡ true = e in
    let g = both (beq a.ap b.ap) (beq a.read b.read && sameb the_type a.addr b.addr) f in
    let h = both (beq a.read b.read) (sameb the_type a.addr b.addr) g.1 in
    request_by a.ap a.read a.addr b (same_bool a.ap b.ap g.0) (same_bool a.read b.read h.0)
    (same_true the_type (search rules) a.addr b.addr h.1)

moved_by : (w v : ℕ) (p q : Bool) → w ≡ v → p ≡ q → Moved w p ≡ Moved v q
moved_by w v p q e f = rw (e, f) refl

same_end : (a b : TxEnd) → (end_eq.ghosts).eq a b ≡ true → a ≡ b
same_end (Moved w p) (Moved v q) e =
    let f : ((w == v) && beq p q) ≡ true = e in
    let g = both (w == v) (beq p q) f in
    moved_by w v p q (eqb-true w v g.0) (same_bool p q g.1)
same_end Wait Wait e = refl
same_end Fault Fault e = refl
same_end (NoAck m) (NoAck n) e = let f : (m == n) ≡ true = e in ap NoAck (eqb-true m n f)
same_end a b e = absurd cc

tx_by : (request : Request) (result : TxEnd) (b : Transaction) → request ≡ b.request → result ≡ b.result
    → record { request = request; result = result } ≡ b
tx_by request result b e f = rw (e, f) refl

same_tx : (a b : Transaction) → (tx_eq.ghosts).eq a b ≡ true → a ≡ b
same_tx a b e =
    let f : ((request_eq.ghosts).eq a.request b.request && (end_eq.ghosts).eq a.result b.result) ≡ true = e in
    let g = both ((request_eq.ghosts).eq a.request b.request) ((end_eq.ghosts).eq a.result b.result) f in
    tx_by a.request a.result b (same_request a.request b.request g.0) (same_end a.result b.result g.1)

bits_by : (len bits : ℕ) (b : TxBits) → len ≡ b.len → bits ≡ b.bits → record { len = len; bits = bits } ≡ b
bits_by len bits b e f = rw (e, f) refl

same_bits : (a b : TxBits) → ((a.len == b.len) && (a.bits == b.bits)) ≡ true → a ≡ b
same_bits a b e =
    let g = both (a.len == b.len) (a.bits == b.bits) e in
    bits_by a.len a.bits b (eqb-true a.len b.len g.0) (eqb-true a.bits b.bits g.1)

-- items that the test of equality finds equal are the same item
pub item_equality_sound : (a b : Item) → (item_eq.ghosts).eq a b ≡ true → a ≡ b
item_equality_sound (Reset m) (Reset n) e = let f : (m == n) ≡ true = e in ap Reset (eqb-true m n f)
item_equality_sound Switch Switch e = refl
item_equality_sound (Idle m) (Idle n) e = let f : (m == n) ≡ true = e in ap Idle (eqb-true m n f)
item_equality_sound (Tx a) (Tx b) e = let f : (tx_eq.ghosts).eq a b ≡ true = e in ap Tx (same_tx a b f)
item_equality_sound (Junk a) (Junk b) e = let f : beq a b ≡ true = e in ap Junk (same_bool a b f)
item_equality_sound (Cut a) (Cut b) e = let f : ((a.len == b.len) && (a.bits == b.bits)) ≡ true = e in
    ap Cut (same_bits a b f)
item_equality_sound a b e = absurd cc

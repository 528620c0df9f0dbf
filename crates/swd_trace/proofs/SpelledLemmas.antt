-- Laws of bits that are transactions alone.
use Rattle.std.proofs.Common.{◌≡◌, ℕ, zero, suc, ◌+◌, ◌<◌, ◌≤◌, Bool, true, false, List, [], ◌∷◌, ◌++◌, length, map}
use Rattle.std.proofs.Common.{take, drop, replicate, append_assoc, refl, sym, ap, ◌∙◌, subst, arith}
use Rattle.std.proofs.lemmas.List.{length-append, drop_at}
use Rattle.swd_bits.specs.Wire.{bits_of_request}
use Rattle.swd_bits.specs.Transactions.{SpellsTx, tx_ending_bits}
use Rattle.swd_bits.specs.declared.request.Reg4.{Reg4}
use Rattle.swd_bits.specs.declared.request.Reg4.TheVariants.{R0, R4, R8, RC}
use Rattle.swd_bits.specs.declared.tx.TxEnd.{TxEnd}
use Rattle.swd_bits.specs.declared.tx.TxEnd.TheVariants.{Moved, Wait, Fault, NoAck}
use Rattle.swd_bits.specs.declared.tx.Tx.{Tx as Transaction}
use Rattle.swd_bits.proofs.TxLemmas.{tx_bits_at_least_12}
use Rattle.swd_trace.specs.declared.item.Item.{Item}
use Rattle.swd_trace.specs.declared.item.Item.TheVariants.{Tx}
use Rattle.swd_trace.specs.declared.mode.Mode.TheVariants.{Synced}
use Rattle.swd_trace.specs.Stands.{Whole, stands}
use Rattle.swd_trace.specs.Reading.{decoder_mode_after_tx, reading}
use Rattle.swd_trace.specs.Spelled.{AreTraceTransactions, IsTraceTxAcknowledged}
use Rattle.swd_trace.proofs.SpellingLemmas.{trace_stand_of_spelled_tx, trace_tx_len, trace_spelling_length}
use Rattle.swd_trace.proofs.ReadingLemmas.{tx_item_first, reading_no_item}

-- ---- they are read as these transactions

stays_synced : (end : TxEnd) → IsTraceTxAcknowledged end → decoder_mode_after_tx end ≡ Synced
stays_synced (Moved word ok) h = refl
stays_synced Wait h = refl
stays_synced Fault h = refl
stays_synced (NoAck seen) h = absurd h

abbrev pub tx_as_item : Transaction → Item
tx_as_item tx = Tx tx

-- bits that are acknowledged transactions alone are read as these transactions
pub tx_items_read : (txs : List Transaction) (bits : List Bool) → AreTraceTransactions txs bits
    → reading Synced bits ≡ map tx_as_item txs
tx_items_read [] bits h = ap (reading Synced) h ∙ reading_no_item Synced
tx_items_read (tx ∷ txs) bits h =
    let front : List Bool = h.0 in
    let rest : List Bool = h.1 in
    let some : 12 ≤ length front = tx_bits_at_least_12 tx front h.3 in
    let whole : stands (front ++ rest) ≡ Whole tx (length front) = trace_stand_of_spelled_tx tx front rest h.3 in
    ap (reading Synced) h.2 ∙ tx_item_first (front ++ rest) tx (length front) whole (omega arith)
    ∙ ap (λ m. Tx tx ∷ reading m (drop (length front) (front ++ rest))) (stays_synced tx.result h.4)
    ∙ ap (λ x. Tx tx ∷ reading Synced x) (drop_at front rest (length front) refl)
    ∙ ap (λ x. Tx tx ∷ x) (tx_items_read txs rest h.5)

-- ---- no fifty ones stand in them

-- after some ones, no fifty of them come in a row
abbrev Calm : ℕ → List Bool → Type 0
Calm m [] = m < 50
Calm m (true ∷ bits) = Calm (suc m) bits
Calm m (false ∷ bits) = (m < 50) × Calm 0 bits

calm_few : (m : ℕ) (bits : List Bool) → Calm m bits → m < 50
calm_few m [] h = h
calm_few m (true ∷ bits) h = let less : suc m < 50 = calm_few (suc m) bits h in omega arith
calm_few m (false ∷ bits) h = h.0

calm_run : (m n : ℕ) (bits : List Bool) → Calm m (replicate n true ++ bits) → m + n < 50
calm_run m zero bits h = let less : m < 50 = calm_few m bits h in omega arith
calm_run m (suc n) bits h = let less : suc m + n < 50 = calm_run (suc m) n bits h in omega arith

pub trace_no_reset_no_fifty : (m : ℕ) (front back : List Bool) → Calm m (front ++ (replicate 50 true ++ back)) → ⊥
trace_no_reset_no_fifty m [] back h = let less : m + 50 < 50 = calm_run m 50 back h in omega arith
trace_no_reset_no_fifty m (true ∷ front) back h = trace_no_reset_no_fifty (suc m) front back h
trace_no_reset_no_fifty m (false ∷ front) back h = trace_no_reset_no_fifty 0 front back h.1

-- a few bits of any value, and what comes after them
calm_any : (bits rest : List Bool) (m : ℕ) → m + length bits < 50 → ((k : ℕ) → k ≤ m + length bits → Calm k rest)
    → Calm m (bits ++ rest)
calm_any [] rest m h after = after m (omega arith)
calm_any (true ∷ bits) rest m h after = calm_any bits rest (suc m) (omega arith) (λ k l. after k (omega arith))
calm_any (false ∷ bits) rest m h after =
    (omega arith, calm_any bits rest 0 (omega arith) (λ k l. after k (omega arith)))

-- a request has a zero behind six bits
record Stops (front : List Bool) : Type 0 where
  pub six : List Bool
  pub others : List Bool
  pub is : front ≡ six ++ false ∷ others
  pub few : length six ≡ 6
  pub rest : length others ≤ 39

asked_stop : (port read : Bool) (addr : Reg4) (rest : List Bool) →
    (six : List Bool) × (length six ≡ 6)
    × (bits_of_request (record { ap = port; read = read; addr = addr }) ++ rest ≡ six ++ false ∷ true ∷ rest)
asked_stop port read R0 rest = (take 6 (bits_of_request (record { ap = port; read = read; addr = R0 })), refl, refl)
asked_stop port read R4 rest = (take 6 (bits_of_request (record { ap = port; read = read; addr = R4 })), refl, refl)
asked_stop port read R8 rest = (take 6 (bits_of_request (record { ap = port; read = read; addr = R8 })), refl, refl)
asked_stop port read RC rest = (take 6 (bits_of_request (record { ap = port; read = read; addr = RC })), refl, refl)

most : (end : TxEnd) → trace_tx_len end ≤ 46
most (Moved word ok) = omega arith
most Wait = omega arith
most Fault = omega arith
most (NoAck seen) = omega arith

stops : (tx : Transaction) (front : List Bool) → SpellsTx tx front → Stops front
stops tx front h =
    let after : List Bool = h.1 ∷ tx_ending_bits tx.request.read tx.result h.2 in
    let q = asked_stop tx.request.ap tx.request.read tx.request.addr after in
    let is : front ≡ q.0 ++ false ∷ true ∷ after = h.3 ∙ q.2 in
    let l : length front ≡ trace_tx_len tx.result = ap length h.3 ∙ trace_spelling_length tx h.1 h.2 in
    let m : length front ≡ length q.0 + length (false ∷ true ∷ after) = ap length is
    ∙ length-append q.0 (false ∷ true ∷ after) in
    let six : length q.0 ≡ 6 = q.1 in
    let k : trace_tx_len tx.result ≤ 46 = most tx.result in
    record { six = q.0; others = true ∷ after; is = is; few = six; rest = omega arith }

pub trace_txs_no_reset : (txs : List Transaction) (bits : List Bool) (m : ℕ) → m ≤ 39 → AreTraceTransactions txs bits
    → Calm m bits
trace_txs_no_reset [] bits m h e = subst (Calm m) (sym e) (omega arith)
trace_txs_no_reset (tx ∷ txs) bits m h e =
    let rest : List Bool = e.1 in
    let s = stops tx e.0 e.3 in
    let six : length s.six ≡ 6 = s.few in
    let others : length s.others ≤ 39 = s.rest in
    let is : bits ≡ s.six ++ (false ∷ (s.others ++ rest)) = e.2 ∙ ap (λ x. x ++ rest) s.is
    ∙ append_assoc s.six (false ∷ s.others) rest in
    let after : Calm 0 (s.others ++ rest) = calm_any s.others rest 0 (omega arith)
    (λ k l. trace_txs_no_reset txs rest k (omega arith) e.5) in
    subst (Calm m) (sym is) (calm_any s.six (false ∷ (s.others ++ rest)) m (omega arith) (λ k l. (omega arith, after)))

-- bits that are acknowledged transactions alone never have fifty ones in a row
pub trace_txs_never_fifty_ones : (txs : List Transaction) (bits : List Bool) → AreTraceTransactions txs bits
    → (front back : List Bool) → bits ≡ front ++ (replicate 50 true ++ back) → ⊥
trace_txs_never_fifty_ones txs bits h front back e =
    trace_no_reset_no_fifty 0 front back (subst (Calm 0) e (trace_txs_no_reset txs bits 0 (omega arith) h))

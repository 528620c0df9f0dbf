-- Laws of a capture as the items of a trace.
use Rattle.std.proofs.Common.{◌≡◌, ℕ, zero, suc, ◌+◌, Bool, true, false, List, [], ◌∷◌, ◌++◌, length, replicate}
use Rattle.std.proofs.Common.{refl, sym, ap, ◌∙◌, append_assoc, arith}
use Rattle.std.specs.Prelude.{if◌then◌else◌}
use Rattle.std.proofs.lemmas.List.{append-nil, length-append}
use Rattle.swd_trace.specs.declared.item.Item.{Item}
use Rattle.swd_trace.specs.declared.item.Item.TheVariants.{Reset, Switch, Idle, Tx, Junk, Cut}
use Rattle.swd_bits.specs.Transactions.{SpellsTx}
use Rattle.swd_bits.specs.declared.tx.Tx.{Tx as Transaction}
use Rattle.swd_trace.specs.Texts.{item_bits, bits_of_items}
use Rattle.swd_trace.proofs.SizeLemmas.{item_bits_append}
use Rattle.swd_trace.proofs.SpellingLemmas.{trace_spelling_length}
use Rattle.swd_resync.specs.declared.part.Part.{Part}
use Rattle.swd_resync.specs.declared.part.Part.TheVariants.{Item as Told, Phased, Skip}
use Rattle.swd_resync.specs.Divisions.{PartsDivide, ResyncPartHasBits}
use Rattle.swd_resync.specs.AsItems.{resync_part_items, resync_items}

-- the items of one part more
pub resync_items_part_more : (parts : List Part) (part : Part)
    → resync_items (parts ++ part ∷ []) ≡ resync_items parts ++ resync_part_items part
resync_items_part_more [] part = append-nil (resync_part_items part)
resync_items_part_more (p ∷ parts) part =
    ap (λ x. resync_part_items p ++ x) (resync_items_part_more parts part)
    ∙ sym (append_assoc (resync_part_items p) (resync_items parts) (resync_part_items part))

-- how many bits those have that belong to nothing
length_junk : (n : ℕ) → length (bits_of_items (replicate n (Junk false))) ≡ n
length_junk zero = refl
length_junk (suc n) = ap suc (length_junk n)

-- how many bits a skip has
pub resync_skip_items_length : (n : ℕ) → length (bits_of_items (resync_part_items (Skip n))) ≡ n
resync_skip_items_length n = length_junk n

plain : (item : Item) (bits : List Bool) → length (item_bits item) ≡ length bits
    → length (bits_of_items (item ∷ [])) ≡ length bits
plain item bits e = let l = length-append (item_bits item) [] in omega arith

spelled_bits : (tx : Transaction) (front : List Bool) → SpellsTx tx front → length (item_bits (Tx tx)) ≡ length front
spelled_bits tx front s =
    trace_spelling_length tx true true ∙ sym (ap length s.3 ∙ trace_spelling_length tx s.1 s.2)

part_bits : (part : Part) (bits : List Bool) → ResyncPartHasBits part bits
    → length (bits_of_items (resync_part_items part)) ≡ length bits
part_bits (Skip n) bits h = length_junk n ∙ sym h.1
part_bits (Told (Reset n)) bits h = plain (Reset n) bits (ap length (sym h.1))
part_bits (Told Switch) bits h = plain Switch bits (ap length (sym h))
part_bits (Told (Idle n)) bits h = plain (Idle n) bits (ap length (sym h.1))
part_bits (Told (Junk b)) bits h = absurd h
part_bits (Told (Cut cut)) bits h = plain (Cut cut) bits (ap length (sym h.1))
part_bits (Told (Tx tx)) bits h =
    let none : length h.1 ≡ 0 = h.4 in
    let whole : length bits ≡ length h.0 + length h.1 = ap length h.2 ∙ length-append h.0 h.1 in
    plain (Tx tx) bits (spelled_bits tx h.0 h.3 ∙ omega arith)
part_bits (Phased tx) bits h =
    let b = h.1 in
    let phase : length b.1 ≡ 33 = b.4 ∙ ap (λ t. if t then 33 else 0) h.0 in
    let whole : length bits ≡ length b.0 + length b.1 = ap length b.2 ∙ length-append b.0 b.1 in
    let same = spelled_bits tx b.0 b.3 in
    let joined : length (item_bits (Tx tx) ++ bits_of_items (Idle 33 ∷ []))
    ≡ length (item_bits (Tx tx)) + length (bits_of_items (Idle 33 ∷ [])) =
    length-append (item_bits (Tx tx)) (bits_of_items (Idle 33 ∷ [])) in
    let idle : length (bits_of_items (Idle 33 ∷ [])) ≡ 33 = refl in
    omega arith

-- the items of parts have as many bits as these
pub resync_parts_items_length : (parts : List Part) (bits : List Bool) → PartsDivide parts bits
    → length (bits_of_items (resync_items parts)) ≡ length bits
resync_parts_items_length [] bits h = ap length (sym h)
resync_parts_items_length (part ∷ parts) bits h =
    let first = part_bits part h.0 h.3 in
    let others = resync_parts_items_length parts h.1 h.4 in
    let whole : length bits ≡ length h.0 + length h.1 = ap length h.2 ∙ length-append h.0 h.1 in
    ap length (item_bits_append (resync_part_items part) (resync_items parts))
    ∙ length-append (bits_of_items (resync_part_items part)) (bits_of_items (resync_items parts))
    ∙ ap (λ n. n + length (bits_of_items (resync_items parts))) first ∙ ap (λ n. length h.0 + n) others ∙ sym whole

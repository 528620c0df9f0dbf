-- The tests of the reading are what they stand for.
use Rattle.std.proofs.Common.{◌≡◌, ◌≢◌, ℕ, zero, suc, ◌+◌, ◌-◌, ◌<◌, ◌≤◌, Bool, true, false, not, List, [], ◌∷◌, ◌++◌}
use Rattle.std.proofs.Common.{length, take, drop, replicate, nat_le, append_assoc, refl, sym, ap, ◌∙◌, subst, arith}
use Rattle.std.proofs.Common.{inl, inr}
use Rattle.std.specs.Prelude.{if◌then◌else◌}
use Rattle.std.proofs.lemmas.List.{length-append, length-replicate, length-take-le, take-append-drop, take_all}
use Rattle.std.proofs.lemmas.List.{append-nil, append_cancel_left, replicate-append-replicate}
use Rattle.std.proofs.lemmas.Bool.{leb-true, le-leb}
use Rattle.std.proofs.lemmas.Bool.Decides.{leb_tells}
use Rattle.swd_bits.specs.Bits.{odd}
use Rattle.swd_bits.specs.Transactions.{SpellsTx}
use Rattle.swd_bits.specs.declared.request.Request.{Request}
use Rattle.swd_bits.specs.declared.tx.TxEnd.{TxEnd}
use Rattle.swd_bits.specs.declared.tx.TxEnd.TheVariants.{Wait, Fault}
use Rattle.swd_bits.specs.declared.tx.Tx.{Tx}
use Rattle.swd_trace.specs.declared.item.Item.{Item}
use Rattle.swd_trace.specs.Stands.{Stand, Whole, Begun, Broken, stands, stand_after_ok, stand_after_refusal}
use Rattle.swd_trace.specs.Stands.{stand_after_ack}
use Rattle.swd_trace.specs.Stands.{stand_after_request, stand_after_parity, stand_moved_in, stand_phase_in}
use Rattle.swd_trace.specs.Reading.{trace_ones, trace_all_ones, trace_begins_with}
use Rattle.swd_trace.specs.Decided.{BeginsItems, IsDecided}
use Rattle.swd_trace.proofs.StandLemmas.{stand_by_test, trace_len_test_false, trace_stand_is_settled}
use Rattle.swd_trace.proofs.StandLemmas.{trace_stand_whole_fits}
use Rattle.swd_trace.proofs.SpellingLemmas.{trace_odd_with_bit, trace_stand_of_spelled_tx, trace_stand_is_spelled}
use Rattle.swd_trace.proofs.GrammarLemmas.{decoder_request_of_five, decoder_parity_right}
use Rattle.swd_trace.proofs.ReadingLemmas.{trace_all_ones_is_run}

-- ---- a whole transaction

-- where a whole transaction of n bits is found at the front, there are n bits, and the first n spell it
pub trace_whole_stand_spells : (bits : List Bool) (tx : Tx) (n : ℕ) → stands bits ≡ Whole tx n
    → (n ≤ length bits) × SpellsTx tx (take n bits)
trace_whole_stand_spells bits tx n e = (trace_stand_whole_fits bits tx n e, trace_stand_is_spelled bits tx n e)

-- where there are n bits and the first n spell a transaction, it is found whole at the front, with length n
pub trace_spells_whole_stand : (bits : List Bool) (tx : Tx) (n : ℕ) → (n ≤ length bits) × SpellsTx tx (take n bits)
    → stands bits ≡ Whole tx n
trace_spells_whole_stand bits tx n h =
    ap stands (sym (take-append-drop n bits)) ∙ trace_stand_of_spelled_tx tx (take n bits) (drop n bits) h.1
    ∙ ap (Whole tx) (length-take-le n bits h.0)

-- ---- the beginning of one

-- bits that make these a whole transaction, where so many came before
record Completed (s : List Bool → Stand) (before : ℕ) (bits : List Bool) : Type 0 where
  pub more : List Bool
  pub some : more ≢ []
  pub tx : Tx
  pub stands : s (bits ++ more) ≡ Whole tx (before + length (bits ++ more))

not_empty : (b : Bool) (bits : List Bool) → (b ∷ bits) ≢ []
not_empty b bits e = cc

ok_completed : (q : Request) (bits : List Bool) → stand_after_ok q bits ≡ Begun → Completed (stand_after_ok q) 12 bits
ok_completed q bits =
    stand_by_test (nat_le 34 (length bits))
    (Whole (record { request = q; result = stand_moved_in (stand_phase_in q.read bits) }) 46) Begun
    (λ s. s ≡ Begun → Completed (stand_after_ok q) 12 bits) (λ t e. absurd cc) (λ t e. fill t)
  where
    fill : nat_le 34 (length bits) ≡ false → Completed (stand_after_ok q) 12 bits
    fill t =
        let few : length bits < 34 = elim (leb_tells 34 (length bits)) [
          | inl p ↦ (let f : nat_le 34 (length bits) ≡ true = p.0 in absurd cc)
          | inr p ↦
              (let n : length bits < 34 = p.1 in n)
        ] in
        let pad : List Bool = replicate (34 - length bits) false in
        let k : length pad ≡ 34 - length bits = length-replicate (34 - length bits) false in
        let l : length (bits ++ pad) ≡ length bits + length pad = length-append bits pad in
        let all : length (bits ++ pad) ≡ 34 = omega arith in
        let enough : nat_le 34 (length (bits ++ pad)) ≡ true = le-leb 34 (length (bits ++ pad)) (omega arith) in
        record {
          more = pad;
          some = λ e. let none : length pad ≡ 0 = ap length e in omega arith;
          tx = record { request = q; result = stand_moved_in (stand_phase_in q.read (bits ++ pad)) };
          stands = ap (λ t. if t then Whole
              (record { request = q; result = stand_moved_in (stand_phase_in q.read (bits ++ pad)) }) 46 else Begun)
              enough ∙ ap (λ n. Whole (record
              { request = q; result = stand_moved_in (stand_phase_in q.read (bits ++ pad)) }) (12 + n))
              (sym all);
        }

refusal_completed : (q : Request) (end : TxEnd) (bits : List Bool) → stand_after_refusal q end bits ≡ Begun
    → Completed (stand_after_refusal q end) 12 bits
refusal_completed q end [] e =
    record { more = true ∷ []; some = not_empty true []; tx = record { request = q; result = end }; stands = refl }
refusal_completed q end (t ∷ bits) e = absurd cc

ack_completed : (q : Request) (a b c : Bool) (bits : List Bool) → stand_after_ack q a b c bits ≡ Begun
    → Completed (stand_after_ack q a b c) 12 bits
ack_completed q true false false bits e = ok_completed q bits e
ack_completed q false true false bits e = refusal_completed q Wait bits e
ack_completed q false false true bits e = refusal_completed q Fault bits e
ack_completed q true true c bits e = absurd cc
ack_completed q true false true bits e = absurd cc
ack_completed q false true true bits e = absurd cc
ack_completed q false false false bits e = absurd cc

request_completed : (q : Request) (bits : List Bool) → stand_after_request q bits ≡ Begun
    → Completed (stand_after_request q) 8 bits
request_completed q [] e =
    record { more = true ∷ true ∷ true ∷ true ∷ []; some = not_empty true _; tx = _; stands = refl }
request_completed q (t ∷ []) e =
    record { more = true ∷ true ∷ true ∷ []; some = not_empty true _; tx = _; stands = refl }
request_completed q (t ∷ true ∷ []) e =
    record { more = true ∷ true ∷ []; some = not_empty true _; tx = _; stands = refl }
request_completed q (t ∷ false ∷ []) e =
    record { more = true ∷ true ∷ []; some = not_empty true _; tx = _; stands = refl }
request_completed q (t ∷ true ∷ true ∷ []) e =
    record { more = true ∷ []; some = not_empty true _; tx = _; stands = refl }
request_completed q (t ∷ true ∷ false ∷ []) e =
    record { more = true ∷ []; some = not_empty true _; tx = _; stands = refl }
request_completed q (t ∷ false ∷ true ∷ []) e =
    record { more = true ∷ []; some = not_empty true _; tx = _; stands = refl }
request_completed q (t ∷ false ∷ false ∷ []) e =
    record { more = false ∷ []; some = not_empty false _; tx = _; stands = refl }
request_completed q (t ∷ a ∷ b ∷ c ∷ bits) e =
    let r = ack_completed q a b c bits e in
    record { more = r.more; some = r.some; tx = r.tx; stands = r.stands ∙ ap (Whole r.tx) (omega arith) }

parity_completed : (q : Request) (bits : List Bool) → stand_after_parity q bits ≡ Begun
    → Completed (stand_after_parity q) 6 bits
parity_completed q [] e =
    record { more = false ∷ true ∷ true ∷ true ∷ true ∷ true ∷ []; some = not_empty false _; tx = _; stands = refl }
parity_completed q (true ∷ bits) e = absurd cc
parity_completed q (false ∷ []) e =
    record { more = true ∷ true ∷ true ∷ true ∷ true ∷ []; some = not_empty true _; tx = _; stands = refl }
parity_completed q (false ∷ false ∷ bits) e = absurd cc
parity_completed q (false ∷ true ∷ bits) e =
    let r = request_completed q bits e in
    record { more = r.more; some = r.some; tx = r.tx; stands = r.stands ∙ ap (Whole r.tx) (omega arith) }

flip_even : (o : Bool) → (if o then not o else o) ≡ false
flip_even true = refl
flip_even false = refl

even_with : (bits : List Bool) → odd (bits ++ odd bits ∷ []) ≡ false
even_with bits = trace_odd_with_bit bits (odd bits) ∙ flip_even (odd bits)

-- four bits and their parity, and the rest of a transaction
whole_from : (a b c d : Bool)
    → (tx : Tx) × (stands (true ∷ a ∷ b ∷ c ∷ d ∷ odd (a ∷ b ∷ c ∷ d ∷ []) ∷ false ∷ true ∷ true ∷ true ∷ true ∷ true ∷
    []) ≡ Whole tx 12)
whole_from a b c d = (
  _,
  decoder_parity_right (a ∷ b ∷ c ∷ d ∷ odd (a ∷ b ∷ c ∷ d ∷ []) ∷ []) (false ∷ true ∷ true ∷ true ∷ true ∷ true ∷ [])
      refl (even_with (a ∷ b ∷ c ∷ d ∷ [])),
)

choice_begun : (t : Bool) (s : Stand) → (if t then Broken else s) ≡ Begun → (t ≡ false) × (s ≡ Begun)
choice_begun true s e = absurd cc
choice_begun false s e = (refl, e)

abbrev unanswered : List Bool
unanswered = false ∷ true ∷ true ∷ true ∷ true ∷ true ∷ []

completed : (bits : List Bool) → stands bits ≡ Begun → Completed stands 0 bits
completed [] e =
    let w = whole_from false false false false in
    record {
      more = true ∷ false ∷ false ∷ false ∷ false ∷ odd (false ∷ false ∷ false ∷ false ∷ []) ∷ unanswered;
      some =
          not_empty true _;
      tx = w.0;
      stands = w.1;
    }
completed (false ∷ bits) e = absurd cc
completed (true ∷ []) e =
    let w = whole_from false false false false in
    record {
      more = false ∷ false ∷ false ∷ false ∷ odd (false ∷ false ∷ false ∷ false ∷ []) ∷ unanswered;
      some =
          not_empty false _;
      tx = w.0;
      stands = w.1;
    }
completed (true ∷ a ∷ []) e =
    let w = whole_from a false false false in
    record {
      more = false ∷ false ∷ false ∷ odd (a ∷ false ∷ false ∷ false ∷ []) ∷ unanswered;
      some = not_empty false _;
      tx = w.0;
      stands = w.1;
    }
completed (true ∷ a ∷ b ∷ []) e =
    let w = whole_from a b false false in
    record {
      more = false ∷ false ∷ odd (a ∷ b ∷ false ∷ false ∷ []) ∷ unanswered;
      some = not_empty false _;
      tx = w.0;
      stands = w.1;
    }
completed (true ∷ a ∷ b ∷ c ∷ []) e =
    let w = whole_from a b c false in
    record {
      more = false ∷ odd (a ∷ b ∷ c ∷ false ∷ []) ∷ unanswered;
      some = not_empty false _;
      tx = w.0;
      stands = w.1;
    }
completed (true ∷ a ∷ b ∷ c ∷ d ∷ []) e =
    let w = whole_from a b c d in
    record {
      more = odd (a ∷ b ∷ c ∷ d ∷ []) ∷ unanswered;
      some = not_empty (odd (a ∷ b ∷ c ∷ d ∷ [])) _;
      tx = w.0;
      stands = w.1;
    }
completed (true ∷ a ∷ b ∷ c ∷ d ∷ p ∷ bits) e =
    let q = decoder_request_of_five (a ∷ b ∷ c ∷ d ∷ p ∷ []) in
    let h = choice_begun (odd (a ∷ b ∷ c ∷ d ∷ p ∷ [])) (stand_after_parity q bits) e in
    let r = parity_completed q bits h.1 in
    record {
      more = r.more;
      some = r.some;
      tx = r.tx;
      stands = decoder_parity_right (a ∷ b ∷ c ∷ d ∷ p ∷ []) (bits ++ r.more)
          refl h.0 ∙ r.stands ∙ ap (Whole r.tx) (omega arith);
    }

-- where the beginning of a transaction is found, more bits, at least one, make the bits spell one
pub trace_begun_stand_spells : (bits : List Bool) → stands bits ≡ Begun → (tx : Tx) × (more : List Bool) × (more ≢ [])
    × SpellsTx tx (bits ++ more)
trace_begun_stand_spells bits e =
    let r = completed bits e in
    let l : 0 + length (bits ++ r.more) ≡ length (bits ++ r.more) = omega arith in
    let s = trace_stand_is_spelled (bits ++ r.more) r.tx (length (bits ++ r.more)) (r.stands ∙ ap (Whole r.tx) l) in
    let all : take (length (bits ++ r.more)) (bits ++ r.more) ≡ bits ++ r.more = take_all (length (bits ++ r.more))
    (bits ++ r.more) (omega arith) in
    (r.tx, r.more, r.some, subst (SpellsTx r.tx) all s)

nothing_more : (bits : List Bool) → length bits ≡ 0 → bits ≡ []
nothing_more [] h = refl
nothing_more (b ∷ bits) h = absurd (omega arith)

-- where more bits, at least one, make the bits spell a transaction, the beginning of one is found
pub trace_spells_begun_stand : (bits : List Bool) → (tx : Tx) × (more : List Bool) × (more ≢ [])
    × SpellsTx tx (bits ++ more) → stands bits ≡ Begun
trace_spells_begun_stand bits h =
    let more : List Bool = h.1 in
    let w : stands (bits ++ more) ≡ Whole h.0 (length (bits ++ more)) = ap stands (sym (append-nil (bits ++ more)))
    ∙ trace_stand_of_spelled_tx h.0 (bits ++ more) [] h.3 in
    elim (trace_stand_is_settled bits more) [
      | inl e ↦ e
      | inr e ↦
          let fits : length (bits ++ more) ≤ length bits =
          trace_stand_whole_fits bits h.0 (length (bits ++ more)) (sym e ∙ w) in
          let l : length (bits ++ more) ≡ length bits + length more = length-append bits more in
          absurd (h.2 (nothing_more more (omega arith)))
    ]

-- ---- fifty ones

ones_front : (n : ℕ) (bits : List Bool) → n ≤ trace_ones bits → (more : List Bool) × (bits ≡ replicate n true ++ more)
ones_front zero bits h = (bits, refl)
ones_front (suc n) [] h = absurd (omega arith)
ones_front (suc n) (true ∷ bits) h = let less : n ≤ trace_ones bits = omega arith in let r = ones_front n bits less in
    (r.0, ap (λ x. true ∷ x) r.1)
ones_front (suc n) (false ∷ bits) h = absurd (omega arith)

front_ones : (n : ℕ) (more : List Bool) → n ≤ trace_ones (replicate n true ++ more)
front_ones zero more = omega arith
front_ones (suc n) more = let h = front_ones n more in omega arith

-- where fifty ones or more are counted at the front, the bits begin with fifty ones
pub trace_reset_test_sound : (bits : List Bool) → nat_le 50 (trace_ones bits) ≡ true → (more : List Bool)
    × (bits ≡ replicate 50 true ++ more)
trace_reset_test_sound bits e = ones_front 50 bits (leb-true 50 (trace_ones bits) e)

-- where the bits begin with fifty ones, fifty or more are counted at the front
pub trace_reset_test_complete : (bits : List Bool) → (more : List Bool) × (bits ≡ replicate 50 true ++ more)
    → nat_le 50 (trace_ones bits) ≡ true
trace_reset_test_complete bits h = le-leb 50 (trace_ones bits)
    (subst (λ x. 50 ≤ trace_ones x) (sym h.1) (front_ones 50 h.0))

ones_of_all : (bits : List Bool) → trace_all_ones bits ≡ true → trace_ones bits ≡ length bits
ones_of_all [] e = refl
ones_of_all (true ∷ bits) e = ap suc (ones_of_all bits e)
ones_of_all (false ∷ bits) e = absurd cc

-- ones alone, fewer than fifty, are a proper prefix of fifty ones
pub trace_few_ones_begin_reset : (bits : List Bool) → (nat_le 50 (trace_ones bits) ≡ false)
    × (trace_all_ones bits ≡ true) → (more : List Bool) × (more ≢ []) × (replicate 50 true ≡ bits ++ more)
trace_few_ones_begin_reset bits h =
    let few : trace_ones bits < 50 = elim (leb_tells 50 (trace_ones bits)) [
      | inl p ↦ (let f : nat_le 50 (trace_ones bits) ≡ true = p.0 in
          let g : nat_le 50 (trace_ones bits) ≡ false = h.0 in
          absurd cc)
      | inr p ↦ (let n : trace_ones bits < 50 = p.1 in n)
    ] in
    let l : trace_ones bits ≡ length bits = ones_of_all bits h.1 in
    let k : 50 - length bits + length bits ≡ 50 = omega arith in
    let m : length bits + (50 - length bits) ≡ 50 = omega arith in (
      replicate (50 - length bits) true,
      λ e. (let none : length (replicate (50 - length bits) true) ≡ 0 = ap length e in let n = length-replicate
          (50 - length bits) true in omega arith),
      sym (ap (λ x. x ++ replicate (50 - length bits) true) (trace_all_ones_is_run bits h.1)
          ∙ replicate-append-replicate (length bits) (50 - length bits) true ∙ ap (λ n. replicate n true) m),
    )

all_front : (n : ℕ) (bits more : List Bool) → replicate n true ≡ bits ++ more → trace_all_ones bits ≡ true
all_front n [] more e = refl
all_front zero (b ∷ bits) more e = absurd cc
all_front (suc n) (true ∷ bits) more e = let f : replicate n true ≡ bits ++ more = cc in all_front n bits more f
all_front (suc n) (false ∷ bits) more e = absurd cc

-- a proper prefix of fifty ones is ones alone, fewer than fifty
pub trace_reset_prefix_few_ones : (bits : List Bool) → (more : List Bool) × (more ≢ [])
    × (replicate 50 true ≡ bits ++ more) → (nat_le 50 (trace_ones bits) ≡ false) × (trace_all_ones bits ≡ true)
trace_reset_prefix_few_ones bits h =
    let all : trace_all_ones bits ≡ true = all_front 50 bits h.0 h.2 in
    let n : trace_ones bits ≡ length bits = ones_of_all bits all in
    let l : 50 ≡ length (bits ++ h.0) = sym (length-replicate 50 true) ∙ ap length h.2 in
    let m : length (bits ++ h.0) ≡ length bits + length h.0 = length-append bits h.0 in
    let few : trace_ones bits < 50 = shorter bits h.0 h.1 n l m in
    (trace_len_test_false 50 (trace_ones bits) few, all)
  where
    shorter : (bits more : List Bool) → more ≢ [] → trace_ones bits ≡ length bits → 50 ≡ length (bits ++ more)
        → length (bits ++ more) ≡ length bits + length more → trace_ones bits < 50
    shorter bits [] s n l m = absurd (s refl)
    shorter bits (b ∷ more) s n l m = omega arith

-- ---- the switch

-- where the test finds some bits at the front of others, the others are these bits and what follows them
pub trace_prefix_test_sound : (a b : List Bool) → trace_begins_with a b ≡ true → (more : List Bool) × (b ≡ a ++ more)
trace_prefix_test_sound [] b e = (b, refl)
trace_prefix_test_sound (x ∷ a) [] e = absurd cc
trace_prefix_test_sound (true ∷ a) (true ∷ b) e = let r = trace_prefix_test_sound a b e in (r.0, ap (λ x. true ∷ x) r.1)
trace_prefix_test_sound (true ∷ a) (false ∷ b) e = absurd cc
trace_prefix_test_sound (false ∷ a) (true ∷ b) e = absurd cc
trace_prefix_test_sound (false ∷ a) (false ∷ b) e = let r = trace_prefix_test_sound a b e in
    (r.0, ap (λ x. false ∷ x) r.1)

front_with : (a more : List Bool) → trace_begins_with a (a ++ more) ≡ true
front_with [] more = refl
front_with (true ∷ a) more = front_with a more
front_with (false ∷ a) more = front_with a more

-- where bits are some others and what follows them, the test finds these others at the front
pub trace_prefix_test_complete : (a b : List Bool) → (more : List Bool) × (b ≡ a ++ more) → trace_begins_with a b ≡ true
trace_prefix_test_complete a b h = ap (trace_begins_with a) h.1 ∙ front_with a h.0

-- ---- what is decided

-- lists that begin with each other are one
each_other : (a b : List Item) → BeginsItems a b → BeginsItems b a → a ≡ b
each_other a b p q =
    let e : b ≡ b ++ (q.0 ++ p.0) = p.1 ∙ ap (λ x. x ++ p.0) q.1 ∙ append_assoc b q.0 p.0 in
    let n : [] ≡ q.0 ++ p.0 = append_cancel_left b [] (q.0 ++ p.0) (append-nil b ∙ e) in
    let none : q.0 ≡ [] = first_empty q.0 p.0 n in
    q.1 ∙ ap (λ x. b ++ x) none ∙ append-nil b
  where
    first_empty : (x y : List Item) → [] ≡ x ++ y → x ≡ []
    first_empty [] y e = refl
    first_empty (i ∷ x) y e = absurd cc

-- the same bits decide only one list of items
pub decided_items_unique : (bits : List Bool) (a b : List Item) → IsDecided bits a → IsDecided bits b → a ≡ b
decided_items_unique bits a b p q = each_other a b (q.longest a p.common) (p.longest b q.common)

-- Laws of items, one after the other: what is left of them makes all of them whole.
use Rattle.std.proofs.Common.{◌≡◌, ℕ, suc, ◌+◌, ◌-◌, ◌<◌, ◌≤◌, List, [], ◌++◌, length, drop, refl, sym, ap, ◌∙◌}
use Rattle.std.proofs.Common.{subst, arith, append-nil, append_assoc, length-append, length-drop, take, inl, inr}
use Rattle.swd_dap_probe.specs.declared.shape.Shape.{Shape}
use Rattle.std.specs.Prelude.{min}
use Rattle.std.proofs.lemmas.List.{drop_all}
use Rattle.std.proofs.Math.Seq.{take-length}
use Rattle.std.proofs.lemmas.Bool.{cases_lt}
use Rattle.swd_dap_probe.specs.Shapes.{dap_long, dap_most, dap_shape, dap_items_shape}

-- If the items that are left go by from here, all go by from there, and what is told of them is appended. What was
-- appended so far is at most what may be.
pub record ItemsLead {T : Type 0} (Go : ℕ → List ℕ → List ℕ → T → T → Type 0) (one : List ℕ → Shape) (count : ℕ)
    (bytes before : List ℕ) (s0 : T) (left : ℕ) (rest now : List ℕ) (s : T) : Type 0 where
  pub leads : (told : List ℕ) (t : T) → Go left rest told s t
      → (all : List ℕ) × Go count bytes all s0 t × (before ++ all ≡ now ++ told)
  pub whole : dap_long one left rest ≤ length rest
  pub room : length now + dap_most one left rest ≤ length before + dap_most one count bytes

-- before the first item
pub items_first : {T : Type 0} (Go : ℕ → List ℕ → List ℕ → T → T → Type 0) (one : List ℕ → Shape) (count : ℕ)
    (bytes before : List ℕ) (s : T) → dap_long one count bytes ≤ length bytes
    → ItemsLead Go one count bytes before s (count - 0) bytes before s
items_first Go one count bytes before s whole =
    let e : count ≡ count - 0 = omega arith in
    subst (λ k. ItemsLead Go one count bytes before s k bytes before s) e (record {
      leads = λ told t h. (told, h, refl);
      whole = whole;
      room = omega arith;
    })

-- the bytes of the first one, and of those behind it
pub items_whole : (one : List ℕ → Shape) (n : ℕ) (rest : List ℕ) → dap_long one (suc n) rest ≤ length rest
    → ((one rest).request ≤ length rest)
    × (dap_long one n (drop (one rest).request rest) ≤ length (drop (one rest).request rest))
items_whole one n rest h =
    let e : length (drop (one rest).request rest) ≡ length rest - (one rest).request
    = length-drop (one rest).request rest in
    (omega arith, omega (arith, e))

-- one item more
pub items_next : {T : Type 0} (Go : ℕ → List ℕ → List ℕ → T → T → Type 0) (one : List ℕ → Shape) (count : ℕ)
    (bytes before : List ℕ) (s0 : T) (n : ℕ) (rest now : List ℕ) (s : T) (first now1 : List ℕ) (m : T)
    → ((told : List ℕ) (t : T) → Go n (drop (one rest).request rest) told m t → Go (suc n) rest (first ++ told) s t)
    → now1 ≡ now ++ first → length first ≤ (one rest).reply
    → ItemsLead Go one count bytes before s0 (suc n) rest now s
    → ItemsLead Go one count bytes before s0 n (drop (one rest).request rest) now1 m
items_next Go one count bytes before s0 n rest now s first now1 m goes is short lead = record {
  leads = λ told t h.
      let all = lead.leads (first ++ told) t (goes told t h) in
      let e : now ++ (first ++ told) ≡ now1 ++ told =
      sym (append_assoc now first told) ∙ ap (λ x. x ++ told) (sym is) in
      (all.0, all.1, all.2 ∙ e);
  whole = (items_whole one n rest lead.whole).1;
  room =
      let r = lead.room in
      let e : length now1 ≡ length (now ++ first) = ap length is in
      let f : length (now ++ first) ≡ length now + length first = length-append now first in
      omega (arith, r, e, f);
}

-- the count of those that are left
pub items_left : {T : Type 0} (Go : ℕ → List ℕ → List ℕ → T → T → Type 0) (one : List ℕ → Shape) (count : ℕ)
    (bytes before : List ℕ) (s0 : T) (place : ℕ) (rest now : List ℕ) (s : T) → place < count
    → ItemsLead Go one count bytes before s0 (count - place) rest now s
    → ItemsLead Go one count bytes before s0 (suc (count - (place + 1))) rest now s
items_left Go one count bytes before s0 place rest now s l lead =
    let e : count - place ≡ suc (count - (place + 1)) = omega arith in
    subst (λ k. ItemsLead Go one count bytes before s0 k rest now s) e lead

-- once no item is left
pub items_last : {T : Type 0} (Go : ℕ → List ℕ → List ℕ → T → T → Type 0) (one : List ℕ → Shape) (count : ℕ)
    (bytes before : List ℕ) (s0 : T) (place : ℕ) (rest now : List ℕ) (s : T) → count ≤ place → Go 0 rest [] s s
    → ItemsLead Go one count bytes before s0 (count - place) rest now s
    → (all : List ℕ) × Go count bytes all s0 s × (now ≡ before ++ all) × (length all ≤ dap_most one count bytes)
items_last Go one count bytes before s0 place rest now s l none lead =
    let e : 0 ≡ count - place = omega arith in
    let all = lead.leads [] s (subst (λ k. Go k rest [] s s) e none) in
    let is : now ≡ before ++ all.0 = sym (append-nil now) ∙ sym all.2 in
    let long : length now ≡ length before + length all.0 = ap length is ∙ length-append before all.0 in
    let r = lead.room in
    (all.0, all.1, is, omega (arith, long, r))

-- SHAPES

-- how far the shape of some items came
pub record ShapesLead (one : List ℕ → Shape) (before told count : ℕ) (bytes : List ℕ) (left : ℕ) (rest : List ℕ)
    (shape : Shape) : Type 0 where
  pub request : shape.request + dap_long one left rest ≡ before + dap_long one count (drop before bytes)
  pub reply : shape.reply + dap_most one left rest ≡ told + dap_most one count (drop before bytes)

-- before the first item
pub shapes_first : (one : List ℕ → Shape) (before told count : ℕ) (bytes rest : List ℕ) → rest ≡ drop before bytes
    → ShapesLead one before told count bytes (count - 0) rest (dap_shape before told)
shapes_first one before told count bytes rest e =
    let z : count ≡ count - 0 = omega arith in
    subst (λ k. ShapesLead one before told count bytes k rest (dap_shape before told)) z
    (record { request = ap (λ r. before + dap_long one count r) e; reply = ap (λ r. told + dap_most one count r) e })

-- one item more
pub shapes_next : (one : List ℕ → Shape) (before told count : ℕ) (bytes : List ℕ) (place : ℕ) (rest behind : List ℕ)
    (shape next : Shape) → place < count → next ≡ one rest → behind ≡ drop next.request rest
    → ShapesLead one before told count bytes (count - place) rest shape
    → ShapesLead one before told count bytes (count - (place + 1)) behind
    (dap_shape (shape.request + next.request) (shape.reply + next.reply))
shapes_next one before told count bytes place rest behind shape next l is e lead =
    let n = count - (place + 1) in
    let f : count - place ≡ suc n = omega arith in
    let now = subst (λ k. ShapesLead one before told count bytes k rest shape) f lead in
    let a = now.request in
    let b = now.reply in
    let p : next.request ≡ (one rest).request = ap (λ q. q.request) is in
    let q : next.reply ≡ (one rest).reply = ap (λ q. q.reply) is in
    let r : behind ≡ drop (one rest).request rest = e ∙ ap (λ k. drop k rest) p in
    let x : dap_long one n behind ≡ dap_long one n (drop (one rest).request rest) = ap (dap_long one n) r in
    let y : dap_most one n behind ≡ dap_most one n (drop (one rest).request rest) = ap (dap_most one n) r in
    record { request = omega (arith, a, p, x); reply = omega (arith, b, q, y) }

-- once no item is left
pub shapes_last : (one : List ℕ → Shape) (before told count : ℕ) (bytes : List ℕ) (place : ℕ) (rest : List ℕ)
    (shape : Shape) → count ≤ place → ShapesLead one before told count bytes (count - place) rest shape
    → shape ≡ dap_items_shape one before told count bytes
shapes_last one before told count bytes place rest shape l lead =
    let e : count - place ≡ 0 = omega arith in
    let now = subst (λ k. ShapesLead one before told count bytes k rest shape) e lead in
    let a : shape.request ≡ before + dap_long one count (drop before bytes) = let h = now.request in omega (arith, h) in
    let b : shape.reply ≡ told + dap_most one count (drop before bytes) = let h = now.reply in omega (arith, h) in
    ap (λ r. dap_shape r shape.reply) a ∙ ap (λ r. dap_shape (before + dap_long one count (drop before bytes)) r) b

-- what is left of some bytes behind so many; nothing, if there are fewer
pub skipped : (xs : List ℕ) (k n : ℕ) → n ≡ min k (length xs) → take (length xs - n) (drop n xs) ≡ drop k xs
skipped xs k n e =
    let r : take (length xs - n) (drop n xs) ≡ drop n xs
    = ap (λ m. take m (drop n xs)) (sym (length-drop n xs)) ∙ take-length (drop n xs) in
    elim (cases_lt k (length xs)) [
      | inl l ↦ r ∙ ap (λ m. drop m xs) (let f : n ≡ k = omega (arith, e, l) in f)
      | inr l ↦ r ∙ drop_all n xs (omega (arith, e, l)) ∙ sym (drop_all k xs l)
    ]

-- of items that are left, one takes its bytes and has its room
pub items_room_next : (one : List ℕ → Shape) (count place : ℕ) (rest behind : List ℕ) (next : Shape) (was now most : ℕ)
    → place < count → next ≡ one rest → behind ≡ drop next.request rest → now ≤ was + (one rest).reply
    → dap_long one (count - place) rest ≤ length rest → was + dap_most one (count - place) rest ≤ most
    → (dap_long one (count - (place + 1)) behind ≤ length behind)
    × (now + dap_most one (count - (place + 1)) behind ≤ most)
items_room_next one count place rest behind next was now most l is e h whole room =
    let n = count - (place + 1) in
    let f : count - place ≡ suc n = omega arith in
    let w = items_whole one n rest (subst (λ k. dap_long one k rest ≤ length rest) f whole) in
    let a : was + dap_most one (suc n) rest ≤ most = subst (λ k. was + dap_most one k rest ≤ most) f room in
    let r : behind ≡ drop (one rest).request rest = e ∙ ap (λ q. drop q.request rest) is in
    let y : dap_most one n behind ≡ dap_most one n (drop (one rest).request rest) = ap (dap_most one n) r in
    (subst (λ b. dap_long one n b ≤ length b) (sym r) w.1, omega (arith, a, y, h))

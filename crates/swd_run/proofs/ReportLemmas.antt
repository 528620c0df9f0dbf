-- Laws of the text of a report.
use Rattle.std.proofs.lemmas.List.{append-nil, drop_all, drop_min, drop-take, length-take, take_all, take-append-le}
use Rattle.std.proofs.lemmas.List.{take_min}
use Rattle.std.proofs.Math.Seq.{drop-cons}
use Rattle.std.proofs.Common.{◌≡◌, ℕ, zero, suc, ◌+◌, ◌-◌, ◌<◌, ◌≤◌, List, [], ◌∷◌, ◌++◌, length, take, drop, Option}
use Rattle.std.proofs.Common.{None, Result, Ok, Err, get_or, min, refl, sym, ap, ap₂, ◌∙◌, append_assoc, arith, add-one}
use Rattle.std.specs.Prelude.{◌^◌, IfOk, IfErr}
use Rattle.std.specs.Io.KnownBytes.{Appends}
use Rattle.swd_io.specs.Blocks.{OutputStopped}
use Rattle.swd_port.specs.declared.access.Access.{Access}
use Rattle.swd_port.specs.declared.access.Answer.{Answer}
use Rattle.swd_run.specs.declared.going_on.Stop.{Stop}
use Rattle.swd_run.specs.Reporting.{AreResumesWithin}
use Rattle.swd_run.specs.Reports.{report_answer_fed, report_answer_lines, report_lines_between, report_lines_from}
use Rattle.swd_run.specs.Reports.{report_pair_texts, report_resume_line, ReportWritesOn}

-- one text more
pub report_pairs_take_next : {X Y : Type 0} (text : X → Y → List ℕ) (xs : List X) (ys : List Y) (i : ℕ) (d : X) (e : Y)
    → i < length xs → i < length ys
    → report_pair_texts text (take (i + 1) xs) (take (i + 1) ys) ≡ report_pair_texts text (take i xs) (take i ys)
    ++ text (get_or xs i d) (get_or ys i e)
report_pairs_take_next {X} {Y} text xs ys i d e h k =
    ap (λ n. report_pair_texts text (take n xs) (take n ys)) (add-one i) ∙ more xs ys i h k
  where
    more : (xs : List X) (ys : List Y) (i : ℕ) → i < length xs → i < length ys
        → report_pair_texts text (take (suc i) xs) (take (suc i) ys) ≡ report_pair_texts text (take i xs) (take i ys)
        ++ text (get_or xs i d) (get_or ys i e)
    more [] ys i h k = absurd (omega arith)
    more (x ∷ xs) [] i h k = absurd (omega arith)
    more (x ∷ xs) (y ∷ ys) zero h k = append-nil (text x y)
    more (x ∷ xs) (y ∷ ys) (suc i) h k =
        ap (λ t. text x y ++ t) (more xs ys i (omega arith) (omega arith))
        ∙ sym (append_assoc (text x y) (report_pair_texts text (take i xs) (take i ys))
        (text (get_or xs i d) (get_or ys i e)))

-- the texts are all there once one of the lists ends
pub report_pairs_whole : {X Y : Type 0} (text : X → Y → List ℕ) (xs : List X) (ys : List Y) (i : ℕ)
    → i ≡ min (length xs) (length ys)
    → report_pair_texts text (take i xs) (take i ys) ≡ report_pair_texts text xs ys
report_pairs_whole text [] ys zero h = refl
report_pairs_whole text [] ys (suc i) h = absurd (omega arith)
report_pairs_whole text (x ∷ xs) [] zero h = refl
report_pairs_whole text (x ∷ xs) [] (suc i) h = absurd (omega arith)
report_pairs_whole text (x ∷ xs) (y ∷ ys) zero h = absurd (omega arith)
report_pairs_whole text (x ∷ xs) (y ∷ ys) (suc i) h =
    ap (λ t. text x y ++ t) (report_pairs_whole text xs ys i (omega arith))

-- without items of the second list there are no pairs, and no text
pub report_pairs_empty : {X Y : Type 0} (text : X → Y → List ℕ) (xs : List X) → report_pair_texts text xs [] ≡ []
report_pairs_empty text [] = refl
report_pairs_empty text (x ∷ xs) = refl

-- the text of one pair more
pub report_pairs_append : {X Y : Type 0} (text : X → Y → List ℕ) (xs : List X) (ys : List Y) (x : X) (y : Y)
    → length ys ≡ length xs → report_pair_texts text (xs ++ x ∷ []) (ys ++ y ∷ []) ≡ report_pair_texts text xs ys
    ++ text x y
report_pairs_append text [] [] x y same = append-nil (text x y)
report_pairs_append text [] (v ∷ ys) x y same = absurd (omega (arith, same))
report_pairs_append text (u ∷ xs) [] x y same = absurd (omega (arith, same))
report_pairs_append text (u ∷ xs) (v ∷ ys) x y same =
    ap (λ t. text u v ++ t) (report_pairs_append text xs ys x y (omega (arith, same)))
    ∙ sym (append_assoc (text u v) (report_pair_texts text xs ys) (text x y))

-- more items of one list alone add nothing
pub report_pairs_front : {X Y : Type 0} (text : X → Y → List ℕ) (xs : List X) (ys : List Y)
    → report_pair_texts text (take (length ys) xs) ys ≡ report_pair_texts text xs ys
report_pairs_front text [] [] = refl
report_pairs_front text [] (v ∷ ys) = refl
report_pairs_front text (u ∷ xs) [] = refl
report_pairs_front text (u ∷ xs) (v ∷ ys) = ap (λ t. text u v ++ t) (report_pairs_front text xs ys)

-- ---- the parts of a report that was resumed

-- the items from one place to another, as far as there are any
pub report_slice_between : {X : Type 0} (from to : ℕ) (xs : List X) (end start : ℕ) → end ≡ min to (length xs)
    → start ≡ min from end →
    take (end - start) (drop start xs) ≡ drop from (take to xs)
report_slice_between from to xs end start e s =
    let many : length (take to xs) ≡ end = length-take to xs ∙ sym e in
    let sum : min to (length xs) ≡ start + (end - start) = omega (arith, e, s) in
    let part : take to xs ≡ take (start + (end - start)) xs = sym (take_min to xs) ∙ ap (λ n. take n xs) sum in
    let low : min from (length (take to xs)) ≡ start = ap (λ n. min from n) many ∙ sym s in
    sym (drop-take start (end - start) xs) ∙ ap (λ l. drop start l) (sym part)
    ∙ ap (λ n. drop n (take to xs)) (sym low) ∙ drop_min from (take to xs)

-- the items of a list from an index to its end are all those from this index on
pub report_slice_to_end : {X : Type 0} (from : ℕ) (xs : List X) → drop from (take (length xs) xs) ≡ drop from xs
report_slice_to_end from xs = ap (λ l. drop from l) (take_all (length xs) xs (omega arith))

-- a part and a line more
pub report_line_append : (all text part line : List ℕ)
    → ((all ++ text) ++ part) ++ line ≡ all ++ (text ++ (part ++ line))
report_line_append all text part line =
    append_assoc (all ++ text) part line ∙ append_assoc all text (part ++ line)

-- after the lines up to a place where the run was resumed, and the line of this place, the lines from there on are
-- left of the whole text
pub report_lines_after_resume : (reads : Option ℕ) (accesses : List Access) (answers : List Answer) (stops : List Stop)
    (i from : ℕ) (d : Stop) (text whole part line : List ℕ) → i < length stops →
    part ≡ report_lines_between reads from (get_or stops i d).answered accesses answers
    → line ≡ report_resume_line (get_or stops i d) →
    text ++ report_lines_from reads from (drop i stops) accesses answers ≡ whole →
    (text ++ (part ++ (line ++ 10 ∷ []))) ++ report_lines_from reads (get_or stops i d).answered (drop (i + 1) stops)
    accesses answers ≡ whole
report_lines_after_resume reads accesses answers stops i from d text whole part line low part_is line_is e =
    let stop = get_or stops i d in
    let rest = report_lines_from reads stop.answered (drop (i + 1) stops) accesses answers in
    let split : drop i stops ≡ stop ∷ drop (i + 1) stops = drop-cons stops i d low
    ∙ ap (λ n. stop ∷ drop n stops) (sym (add-one i)) in
    append_assoc text (part ++ (line ++ 10 ∷ [])) rest ∙ ap (λ l. text ++ l) (append_assoc part (line ++ 10 ∷ []) rest)
    ∙ ap₂ (λ x y. text ++ (x ++ ((y ++ 10 ∷ []) ++ rest))) part_is line_is
    ∙ ap (λ l. text ++ report_lines_from reads from l accesses answers) (sym split) ∙ e

-- and no line more
pub report_lines_no_resume : (reads : Option ℕ) (accesses : List Access) (answers : List Answer) (stops : List Stop)
    (i from : ℕ) (text whole : List ℕ) → length stops ≤ i →
    text ++ report_lines_from reads from (drop i stops) accesses answers ≡ whole
    → text ++ report_answer_lines reads (drop from accesses) (drop from answers) ≡ whole
report_lines_no_resume reads accesses answers stops i from text whole high e =
    ap (λ l. text ++ report_lines_from reads from l accesses answers) (sym (drop_all i stops high)) ∙ e

-- ---- a report that is written while its run goes on

-- one text more, from an index on, where there is an item for it
pairs_from : {X Y : Type 0} (text : X → Y → List ℕ) (from : ℕ) (xs : List X) (ys : List Y) (d : X) (y : Y)
    → from ≤ length ys → length ys < length xs
    → report_pair_texts text (drop from xs) (drop from (ys ++ y ∷ []))
    ≡ report_pair_texts text (drop from xs) (drop from ys) ++ text (get_or xs (length ys) d) y
pairs_from text zero [] ys d y low high = absurd (omega (arith, high))
pairs_from text zero (x ∷ xs) [] d y low high =
    ap (λ t. text x y ++ t) (report_pairs_empty text xs) ∙ append-nil (text x y)
pairs_from text zero (x ∷ xs) (v ∷ ys) d y low high =
    ap (λ t. text x v ++ t) (pairs_from text zero xs ys d y (omega arith) (omega (arith, high)))
    ∙ sym (append_assoc (text x v) (report_pair_texts text xs ys) (text (get_or xs (length ys) d) y))
pairs_from text (suc from) xs [] d y low high = absurd (omega (arith, low))
pairs_from text (suc from) [] (v ∷ ys) d y low high = absurd (omega (arith, high))
pairs_from text (suc from) (x ∷ xs) (v ∷ ys) d y low high =
    pairs_from text from xs ys d y (omega (arith, low)) (omega (arith, high))

-- from an index on, more items of the first list alone add nothing
front_from : {X Y : Type 0} (text : X → Y → List ℕ) (from : ℕ) (xs : List X) (ys : List Y)
    → report_pair_texts text (drop from (take (length ys) xs)) (drop from ys)
    ≡ report_pair_texts text (drop from xs) (drop from ys)
front_from text zero xs ys = report_pairs_front text xs ys
front_from text (suc from) xs [] =
    report_pairs_empty text (drop (suc from) (take 0 xs)) ∙ sym (report_pairs_empty text (drop (suc from) xs))
front_from text (suc from) [] (v ∷ ys) = refl
front_from text (suc from) (x ∷ xs) (v ∷ ys) = front_from text from xs ys

-- one answer more has one line more
pub report_line_per_answer : (from : ℕ) (stops : List Stop) (accesses : List Access) (answers : List Answer)
    (d : Access) (answer : Answer) → from ≤ length answers → AreResumesWithin (length answers) stops
    → length answers < length accesses → report_lines_from None from stops accesses (answers ++ answer ∷ [])
    ≡ report_lines_from None from stops accesses answers
    ++ report_answer_fed None (get_or accesses (length answers) d) answer
report_line_per_answer from [] accesses answers d answer low within high =
    pairs_from (report_answer_fed None) from accesses answers d answer low high
report_line_per_answer from (stop ∷ stops) accesses answers d answer low within high =
    let part = report_lines_between None from stop.answered accesses answers in
    let line = report_resume_line stop ++ 10 ∷ [] in
    let rest = report_lines_from None stop.answered stops accesses answers in
    let fed = report_answer_fed None (get_or accesses (length answers) d) answer in
    ap₂ (λ (front : List Answer) (t : List ℕ). report_answer_lines None (drop from (take stop.answered accesses))
    (drop from front) ++ (line ++ t))
    (take-append-le stop.answered answers (answer ∷ []) within.0)
    (report_line_per_answer stop.answered stops accesses answers d answer within.0 within.1 high)
    ∙ ap (λ t. part ++ t) (sym (append_assoc line rest fed)) ∙ sym (append_assoc part (line ++ rest) fed)

-- one place more, after all answers so far, has its line more
pub report_line_per_resume : (from : ℕ) (stops : List Stop) (stop : Stop) (accesses : List Access)
    (answers : List Answer) → stop.answered ≡ length answers
    → report_lines_from None from (stops ++ stop ∷ []) accesses answers
    ≡ report_lines_from None from stops accesses answers ++ (report_resume_line stop ++ 10 ∷ [])
report_line_per_resume from [] stop accesses answers at_end =
    let line = report_resume_line stop ++ 10 ∷ [] in
    let none : report_answer_lines None (drop stop.answered accesses) (drop stop.answered answers) ≡ [] =
    ap (λ l. report_answer_lines None (drop stop.answered accesses) l)
    (drop_all stop.answered answers (omega (arith, at_end))) ∙ report_pairs_empty (report_answer_fed None)
    (drop stop.answered accesses) in
    let all : take stop.answered answers ≡ answers = take_all stop.answered answers (omega (arith, at_end)) in
    ap₂ (λ (n : ℕ) (l : List Answer). report_answer_lines None (drop from (take n accesses)) (drop from l)
    ++ (line ++ report_answer_lines None (drop stop.answered accesses) (drop stop.answered answers))) at_end all
    ∙ ap₂ (λ s t. s ++ (line ++ t)) (front_from (report_answer_fed None) from accesses answers) none
    ∙ ap (λ t. report_answer_lines None (drop from accesses) (drop from answers) ++ t) (append-nil line)
report_line_per_resume from (first ∷ stops) stop accesses answers at_end =
    let part = report_lines_between None from first.answered accesses answers in
    let line = report_resume_line first ++ 10 ∷ [] in
    let rest = report_lines_from None first.answered stops accesses answers in
    let last = report_resume_line stop ++ 10 ∷ [] in
    ap (λ t. part ++ (line ++ t)) (report_line_per_resume first.answered stops stop accesses answers at_end)
    ∙ ap (λ t. part ++ t) (sym (append_assoc line rest last)) ∙ sym (append_assoc part (line ++ rest) last)

-- places within fewer answers are within more
pub resume_places_within_more : (n m : ℕ) (stops : List Stop) → n ≤ m → AreResumesWithin n stops
    → AreResumesWithin m stops
resume_places_within_more n m [] less within = tt
resume_places_within_more n m (stop ∷ stops) less within =
    let low = within.0 in (omega (arith, low, less), resume_places_within_more n m stops less within.1)

-- and so is one place more
pub resume_places_within_last : (n : ℕ) (stops : List Stop) (stop : Stop) → AreResumesWithin n stops → stop.answered ≤ n
    → AreResumesWithin n (stops ++ stop ∷ [])
resume_places_within_last n [] stop within low = (low, tt)
resume_places_within_last n (first ∷ stops) stop within low =
    (within.0, resume_places_within_last n stops stop within.1 low)

-- without answers and places there are no lines
pub report_lines_empty : (accesses : List Access) (answers : List Answer) → answers ≡ []
    → report_lines_from None 0 [] accesses answers ≡ []
report_lines_empty accesses answers none =
    ap (λ l. report_answer_lines None accesses l) none ∙ report_pairs_empty (report_answer_fed None) accesses

-- ---- a text that went out

-- what went out, however the last of it was sent
pub report_written_or_stopped : (P : Option (List ℕ) → List ℕ → Type 0) (sent : Result ℕ ℕ)
    (start now : Option (List ℕ)) (text : List ℕ) → P start text
    → IfOk sent (λ told. (s : Option (List ℕ)) (a : List ℕ) → P s a
    → Appends s now a × (told ≡ min (length a) (2 ^ 64 - 1)))
    → IfErr sent (λ told. (s : Option (List ℕ)) (a : List ℕ) → P s a → OutputStopped told s now a)
    → ReportWritesOn sent start now text
report_written_or_stopped P (Ok told) start now text h ok err = let gone = ok start text h in record
    { gone = gone.0; count = gone.1 }
report_written_or_stopped P (Err told) start now text h ok err = err start text h

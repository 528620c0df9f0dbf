-- Files that are written while a session goes on. For `LiveFiles`.
use Rattle.std.proofs.Common.{◌≡◌, ℕ, zero, suc, ◌+◌, ◌-◌, ◌≤◌, List, [], ◌∷◌, ◌++◌, length, take, drop, Option, Ok}
use Rattle.std.proofs.Common.{refl, sym, ap, subst, ◌∙◌, arith, append_assoc}
use Rattle.std.proofs.lemmas.List.{length-append, take-append-le}
use Rattle.swd_port.specs.declared.access.Transfer.{Transfer}
use Rattle.swd_run.specs.declared.growing.GrowingFile.{GrowingFile}
use Rattle.swd_run.specs.GrowingFiles.{GrowingFileAdds, GrowingFileHas}
use Rattle.swd_run.specs.Records.{run_file_held}
use Rattle.swd_run.proofs.GrowingLemmas.{growing_file_new_has, growing_first_next}
use Rattle.swd_ends.specs.TargetLogs.{live_log_line, live_log_lines}
use Rattle.swd_ends.specs.LiveFiles.{LiveFileFinishes, LiveFileKeeps, LiveFileStands, LiveFileWrites, LiveLogGrows}

-- ONE FILE

-- a file to which the rest was appended has the beginning that belongs to later pins
pub live_file_keeps : {M : Type 0} (contents : M → Option (List ℕ)) (text later : ℕ → List ℕ) (size later_size : ℕ)
    (old new : GrowingFile M) → size ≤ later_size → ((n : ℕ) → n ≤ size → text n ≡ later n)
    → LiveFileWrites contents later later_size old new → LiveFileKeeps contents text later size later_size old new
live_file_keeps contents text later size later_size old new l alike w = record {
  stands = λ start h.
      let within = h.within in
      let done = w.done (omega (arith, l, within)) in
      record {
        has = w.has start (subst (GrowingFileHas contents start old) (alike old.done within) h.has);
        within = omega (arith, done);
      };
  current = λ e. w.done (omega (arith, l, e));
}

-- a file to which the rest and a last text were appended has the whole
pub live_file_finishes : {M : Type 0} (contents : M → Option (List ℕ)) (text : ℕ → List ℕ) (size : ℕ)
    (last whole : List ℕ) (old between new : GrowingFile M) → text size ++ last ≡ whole
    → LiveFileWrites contents text size old between → GrowingFileAdds contents last between new
    → LiveFileFinishes contents text size whole old new
live_file_finishes contents text size last whole old between new is w adds = λ start h.
    subst (GrowingFileHas contents start new) (ap (λ n. text n ++ last) (w.done h.within) ∙ is)
    (adds start (text between.done) (w.has start h.has))

-- a new file that was written while a session went on, and to its end, was given the whole
pub live_file_given : {M : Type 0} (contents : M → Option (List ℕ)) (text later : ℕ → List ℕ) (size later_size : ℕ)
    (whole : List ℕ) (writer : Option M) (fresh live last : GrowingFile M) → text 0 ≡ []
    → fresh ≡ record { writer = writer; done = 0; sent = Ok 0 }
    → LiveFileKeeps contents text later size later_size fresh live
    → LiveFileFinishes contents later later_size whole live last
    → GrowingFileHas contents (run_file_held contents writer) last whole
live_file_given {M} contents text later size later_size whole writer fresh live last none is k e =
    let start = run_file_held contents writer in
    let new : GrowingFile M = record { writer = writer; done = 0; sent = Ok 0 } in
    let has : GrowingFileHas contents start new (text 0) =
    subst (GrowingFileHas contents start new) (sym none) (growing_file_new_has contents writer) in
    let stands : LiveFileStands contents start text size new = record { has = has; within = omega arith } in
    e start (k.stands start (subst (LiveFileStands contents start text size) (sym is) stands))

-- LISTS

lines_both : (first next : List Transfer) → live_log_lines (first ++ next) ≡ live_log_lines first ++ live_log_lines next
lines_both [] next = refl
lines_both (t ∷ first) next =
    ap (λ x. (live_log_line t ++ 10 ∷ []) ++ x) (lines_both first next)
    ∙ sym (append_assoc (live_log_line t ++ 10 ∷ []) (live_log_lines first) (live_log_lines next))

-- the lines of the first transfers are those of fewer, and of those behind them
pub live_log_lines_next : (log : List Transfer) (m n : ℕ) → m ≤ n
    → live_log_lines (take m log) ++ live_log_lines (take (n - m) (drop m log)) ≡ live_log_lines (take n log)
live_log_lines_next log m n h =
    sym (lines_both (take m log) (take (n - m) (drop m log))) ∙ ap live_log_lines (growing_first_next log m n h)

-- the first entries of what grew are those that it had
pub live_log_first_alike : {X : Type 0} (xs ys : List X) → LiveLogGrows xs ys → (n : ℕ) → n ≤ length xs
    → take n xs ≡ take n ys
live_log_first_alike xs ys g n l = sym (ap (take n) g.1 ∙ take-append-le n xs g.0 l)

-- what grew is no shorter
pub live_log_no_shorter : {X : Type 0} (xs ys : List X) → LiveLogGrows xs ys → length xs ≤ length ys
live_log_no_shorter xs ys g =
    let len : length ys ≡ length xs + length g.0 = ap length g.1 ∙ length-append xs g.0 in
    omega arith

dropped : {X : Type 0} (n : ℕ) (xs more : List X) → (rest : List X) × (drop n (xs ++ more) ≡ drop n xs ++ rest)
dropped zero xs more = (more, refl)
dropped (suc n) [] more = (drop (suc n) more, refl)
dropped (suc n) (x ∷ xs) more = dropped n xs more

-- and so does what follows its first entries
pub live_log_grows_behind : {X : Type 0} (n : ℕ) (xs ys : List X) → LiveLogGrows xs ys
    → LiveLogGrows (drop n xs) (drop n ys)
live_log_grows_behind n xs ys g = let rest = dropped n xs g.0 in (rest.0, ap (drop n) g.1 ∙ rest.1)

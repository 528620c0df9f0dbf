-- What a list that is done from the first access on that isn't answered says of the whole list.
use Rattle.swd_host.proofs.Words.{◌≡◌, ◌≢◌, ◌+◌, ◌<◌, ◌≤◌, ℕ, refl, sym, ap, subst, inl, inr, arith, ◌∙◌, List, [], ◌∷◌}
use Rattle.swd_host.proofs.Words.{◌++◌, length, take, zero, suc, get_or, length-append, ◌⊎◌, drop, Access, Answer}
use Rattle.swd_host.proofs.Words.{Bus, bus_answer, bus_after, All, memory_after, answers_of, HostReport}
use Rattle.swd_host.proofs.Words.{Fits, FitsFromAt, IsAfterResumeRepeats, ResumePlacesBelow, Again, LogHasRoomForResume}
use Rattle.swd_host.proofs.Words.{resume_report, max, End, Lost, ◌-◌, false}
use Rattle.swd_host.specs.declared.outcome.End.TheVariants.{TriesOut, WrongId, Confused}
use Rattle.std.proofs.lemmas.List.{append-nil, append_assoc, get_or-drop, length-take-le, nil_from_length, take_all}
use Rattle.std.proofs.Math.Seq.{drop-cons}
use Rattle.std.proofs.Common.{length-drop}
use Rattle.swd_host.specs.Again.{AgainAt}
use Rattle.swd_host.specs.Resuming.{host_end_is_all}
use Rattle.swd_host.proofs.Lists.{host_list_memory_next, host_list_answers_next}
use Rattle.swd_host.proofs.Repeats.{resume_after_next, resume_after_again, resume_after_none, resume_repeats_none}
use Rattle.swd_host.proofs.Shadows.{ResumeRoomy, resume_answered_next, resume_answered_again}

-- LISTS
answers_length : (xs : List Access) (m : Bus) → length (answers_of xs m) ≡ length xs
answers_length [] m = refl
answers_length (x ∷ xs) m = let h = answers_length xs (bus_after x m) in omega (arith, h)

-- so many answers there are
pub resumed_take_length : (k : ℕ) (list : List Access) (m : Bus) (answers : List Answer) → k ≤ length list
    → answers ≡ answers_of (take k list) m → length answers ≡ k
resumed_take_length k list m answers few is =
    ap length is ∙ (answers_length (take k list) m ∙ length-take-le k list few)

-- the rest of a list from place k on is k accesses shorter than the list
pub resumed_rest_length : (k : ℕ) (list : List Access) → k ≤ length list → length (drop k list) + k ≡ length list
resumed_rest_length k list few = omega (arith, length-drop k list)

-- the places afterwards: the same, or, where an access was begun, that one's too
abbrev pub ResumedGrows : List ℕ → HostReport → List ℕ → Type 0
ResumedGrows js earlier more = (more ≡ js) ⊎ ((earlier.begun ≡ 1) × (more ≡ js ++ length earlier.answers ∷ []))

-- one more access was repeated at most
pub resumed_grows_few : (js : List ℕ) (earlier : HostReport) (more : List ℕ) → ResumedGrows js earlier more
    → length more ≤ length js + 1
resumed_grows_few js earlier more h = search (arith, length-append)

-- THE ACCESSES FROM i ON, over a memory where earlier ones were repeated
record Walked (js : List ℕ) (i n : ℕ) (list : List Access) (m q : Bus) : Type 0 where
  answers : answers_of (take i list) m ++ answers_of (take n (drop i list)) q ≡ answers_of (take (i + n) list) m
  after : IsAfterResumeRepeats js (i + n) list m (memory_after (take n (drop i list)) q)

-- n accesses more are answered as in the plain memory
walked : (js : List ℕ) (i n : ℕ) (list : List Access) (d : Access) (m q : Bus) → i + n ≤ length list
    → ResumePlacesBelow i js → ResumeRoomy (length js) list m → IsAfterResumeRepeats js i list m q
    → Walked js i n list m q
walked js i zero list d m q few places room h =
    let none : i ≡ i + 0 = omega arith in
    record {
      answers = append-nil (answers_of (take i list) m) ∙ ap (λ k. answers_of (take k list) m) none;
      after = subst (λ k. IsAfterResumeRepeats js k list m q) none h;
    }
walked js i (suc n) list d m q few places room h =
    let rest : List Access = drop i list in
    let a : Access = get_or list (i + n) d in
    let here : Bus = memory_after (take n rest) q in
    let w : Walked js i n list m q = walked js i n list d m q (omega arith) places room h in
    let long = resumed_rest_length i list (omega arith) in
    let low : n < length rest = omega (arith, long) in
    let same : get_or rest n d ≡ a = get_or-drop i list n d in
    let s : n + 1 ≡ suc n = omega arith in
    let t : i + n + 1 ≡ i + suc n = omega arith in
    let below : i + n < length list = omega arith in
    let all : ResumePlacesBelow (i + n) js = w.after.places in
    let told : bus_answer a here ≡ bus_answer a (memory_after (take (i + n) list) m) =
    resume_answered_next js (i + n) list d m here below room w.after in
    let next : answers_of (take (n + 1) rest) q ≡ answers_of (take n rest) q ++ bus_answer a here ∷ [] =
    host_list_answers_next rest n d q low ∙ ap (λ b. answers_of (take n rest) q ++ bus_answer b here ∷ []) same in
    let onward : memory_after (take (n + 1) rest) q ≡ bus_after a here =
    host_list_memory_next rest n d q low ∙ ap (λ b. bus_after b here) same in
    let old : List Answer = answers_of (take i list) m in
    record {
      answers = ap (λ k. old ++ answers_of (take k rest) q) (sym s)
          ∙ (ap (λ l. old ++ l) next
          ∙ (sym (append_assoc old (answers_of (take n rest) q) (bus_answer a here ∷ []))
          ∙ (ap (λ l. l ++ bus_answer a here ∷ []) w.answers
          ∙ (ap (λ y. answers_of (take (i + n) list) m ++ y ∷ []) told
          ∙ (sym (host_list_answers_next list (i + n) d m below) ∙ ap (λ k. answers_of (take k list) m) t)))));
      after = subst (λ k. IsAfterResumeRepeats js (i + suc n) list m (memory_after (take k rest) q)) s
          (subst (λ k. IsAfterResumeRepeats js k list m (memory_after (take (n + 1) rest) q)) t
          (subst (IsAfterResumeRepeats js (i + n + 1) list m) (sym onward)
          (resume_after_next js (i + n) list d m here below all w.after)));
    }

-- THE FIRST ACCESS is answered as in the plain memory, and the memory after it is that after one access more, where it
-- may have been repeated
record Onward (js : List ℕ) (k : ℕ) (list : List Access) (d : Access) (m q : Bus) (earlier : HostReport)
    : Type 0 where
  more : List ℕ
  grows : ResumedGrows js earlier more
  answer : bus_answer (get_or list k d) q ≡ bus_answer (get_or list k d) (memory_after (take k list) m)
  after : IsAfterResumeRepeats more (k + 1) list m (bus_after (get_or list k d) q)
  roomy : ResumeRoomy (length more) list m

-- the memory where an earlier run ended
abbrev StandsAt : List ℕ → ℕ → List Access → Bus → HostReport → Bus → Type 0
StandsAt js k list m earlier q = IsAfterResumeRepeats js k list m q
    ⊎ ((earlier.begun ≡ 1) × IsAfterResumeRepeats js (k + 1) list m q)

goes_onward : (js : List ℕ) (k : ℕ) (list : List Access) (d : Access) (m q : Bus) (earlier : HostReport)
    → k < length list → LogHasRoomForResume js list m → length earlier.answers ≡ k → StandsAt js k list m earlier q
    → Onward js k list d m q earlier
goes_onward js k list d m q earlier l room is (inl h) =
    let roomy : ResumeRoomy (length js) list m =
    record { plain = room.plain; one = omega (arith, room.room); all = omega (arith, room.room) } in
    record {
      more = js;
      grows = inl refl;
      answer = resume_answered_next js k list d m q l roomy h;
      after = resume_after_next js k list d m q l h.places h;
      roomy = roomy;
    }
goes_onward js k list d m q earlier l room is (inr (b, h)) =
    let long = length-append js (k ∷ []) in
    record {
      more = js ++ k ∷ [];
      grows = inr (b, ap (λ n. js ++ n ∷ []) (sym is));
      answer = resume_answered_again js k list d m q l room h;
      after = resume_after_again js k list d m q l h;
      roomy = record { plain = room.plain; one = omega (arith, room.room); all = omega (arith, room.room, long) };
    }

-- n more accesses, of which there is one at least
record Done (js : List ℕ) (k n : ℕ) (list : List Access) (m q : Bus) : Type 0 where
  answers : answers_of (take k list) m ++ answers_of (take n (drop k list)) q ≡ answers_of (take (k + n) list) m
  after : IsAfterResumeRepeats js (k + n) list m (memory_after (take n (drop k list)) q)

done_onward : (js : List ℕ) (k n : ℕ) (list : List Access) (d : Access) (m q : Bus) (earlier : HostReport)
    → k + suc n ≤ length list → (o : Onward js k list d m q earlier) → Done o.more k (suc n) list m q
done_onward js k n list d m q earlier few o =
    let a : Access = get_or list k d in
    let low : k < length list = omega arith in
    let w : Walked o.more (k + 1) n list m (bus_after a q) =
    walked o.more (k + 1) n list d m (bus_after a q) (omega arith) o.after.places o.roomy o.after in
    let next : suc k ≡ k + 1 = omega arith in
    let first : take (suc n) (drop k list) ≡ a ∷ take n (drop (k + 1) list) =
    ap (take (suc n)) (drop-cons list k d low ∙ ap (λ j. a ∷ drop j list) next) in
    let count : k + 1 + n ≡ k + suc n = omega arith in
    let old : List Answer = answers_of (take k list) m in
    let new : List Answer = answers_of (take n (drop (k + 1) list)) (bus_after a q) in
    record {
      answers = ap (λ xs. old ++ answers_of xs q) first
          ∙ (ap (λ y. old ++ y ∷ new) o.answer
          ∙ (sym (append_assoc old (bus_answer a (memory_after (take k list) m) ∷ []) new)
          ∙ (ap (λ l. l ++ new) (sym (host_list_answers_next list k d m low))
          ∙ (w.answers ∙ ap (λ j. answers_of (take j list) m) count))));
      after = subst (λ j. IsAfterResumeRepeats o.more j list m (memory_after (take (suc n) (drop k list)) q)) count
          (subst (IsAfterResumeRepeats o.more (k + 1 + n) list m) (sym (ap (λ xs. memory_after xs q) first)) w.after);
    }

-- THE ACCESS THAT WAS BEGUN BEFORE
some_begun : (n : ℕ) → n ≡ 1 → n ≢ 0
some_begun n one none = absurd (let both : 1 ≡ 0 = sym one ∙ none in omega arith)

at_least : (n : ℕ) → n ≢ 0 → 1 ≤ n
at_least n some = omega arith

-- the test for `All` fails at every other end
pub resumed_not_all : (end : End) → end ≢ All → host_end_is_all end ≡ false
resumed_not_all end never = grind arith

-- what is told as begun in a call that didn't end whole
since_at : (raw earlier : HostReport) → raw.ended ≢ All → (resume_report raw earlier).begun
    ≡ max raw.begun (earlier.begun - (length raw.answers - length earlier.answers))
since_at raw earlier never = rw (resumed_not_all raw.ended never) refl

-- it is open still
pub resumed_open_begun : (raw earlier : HostReport) → length raw.answers ≡ length earlier.answers → raw.ended ≢ All
    → raw.begun ≤ 1 → earlier.begun ≡ 1 → (resume_report raw earlier).begun ≡ 1
resumed_open_begun raw earlier same never few begun =
    let h = since_at raw earlier never in omega (arith, h, same, few, begun)

pub resumed_since_one : (raw earlier : HostReport) → raw.ended ≢ All → earlier.begun ≤ 1 → raw.begun ≡ 1
    → (resume_report raw earlier).begun ≡ 1
resumed_since_one raw earlier never few one = let h = since_at raw earlier never in omega (arith, h, few, one)

pub resumed_since_few : (raw earlier : HostReport) → raw.begun ≤ 1 → earlier.begun ≤ 1
    → (resume_report raw earlier).begun ≤ 1
resumed_since_few raw earlier few was = by raw.ended refl
  where
    by : (end : End) → raw.ended ≡ end → (resume_report raw earlier).begun ≤ 1
    by All is = rw (ap host_end_is_all is) (omega arith)
    by Lost is = let h = since_at raw earlier (λ all. absurd cc) in omega (arith, h, few, was)
    by TriesOut is = let h = since_at raw earlier (λ all. absurd cc) in omega (arith, h, few, was)
    by (WrongId word) is = let h = since_at raw earlier (λ all. absurd cc) in omega (arith, h, few, was)
    by Confused is = let h = since_at raw earlier (λ all. absurd cc) in omega (arith, h, few, was)

pub data ResumedBegun (raw earlier : HostReport) : Type 0 where
  by_earlier : length raw.answers ≡ length earlier.answers → raw.ended ≢ All → earlier.begun ≡ 1
      → ResumedBegun raw earlier
  by_this : raw.begun ≢ 0 → ResumedBegun raw earlier

begun_either : (raw earlier : HostReport) (b : ℕ) → raw.begun ≡ b → length earlier.answers ≤ length raw.answers
    → earlier.begun ≤ 1 → raw.ended ≢ All → (resume_report raw earlier).begun ≢ 0 → ResumedBegun raw earlier
begun_either raw earlier zero none grows few never some =
    let h = since_at raw earlier never in
    let one = at_least (resume_report raw earlier).begun some in
    by_earlier (omega (arith, h, one, none, grows, few)) never (omega (arith, h, one, none, few))
begun_either raw earlier (suc n) is grows few never some =
    by_this (λ none. absurd (let both : suc n ≡ 0 = sym is ∙ none in omega arith))

since_begun : (raw earlier : HostReport) → length earlier.answers ≤ length raw.answers → earlier.begun ≤ 1
    → (resume_report raw earlier).begun ≢ 0 → ResumedBegun raw earlier
since_begun raw earlier grows few some = by raw.ended refl
  where
    by : (end : End) → raw.ended ≡ end → ResumedBegun raw earlier
    by All is = absurd (some (rw (ap host_end_is_all is) refl))
    by Lost is = begun_either raw earlier raw.begun refl grows few (λ all. absurd cc) some
    by TriesOut is = begun_either raw earlier raw.begun refl grows few (λ all. absurd cc) some
    by (WrongId word) is = begun_either raw earlier raw.begun refl grows few (λ all. absurd cc) some
    by Confused is = begun_either raw earlier raw.begun refl grows few (λ all. absurd cc) some

-- THE WHOLE
-- the accesses that took effect are some of the list
few_done : (kk j begun rest : ℕ) → kk ≤ rest → j ≤ begun → (begun ≢ 0 → kk + begun ≤ rest) → kk + j ≤ rest
few_done kk j zero rest few less may = omega arith
few_done kk j (suc begun) rest few less may = let h = may (λ e. absurd (omega arith)) in omega (arith, h)

pub record ResumedReport (js : List ℕ) (list : List Access) (m : Bus) (earlier told : HostReport)
    (now : Bus) : Type 0 where
  pub more : List ℕ
  pub grows : ResumedGrows js earlier more
  pub again : Again more list m told now

module _ (js : List ℕ) (k kk j : ℕ) (list : List Access) (m x now : Bus) (earlier raw : HostReport)
    (part : List Answer) (d : Access) (added : raw.answers ≡ earlier.answers ++ part)
    (a : AgainAt k js list m earlier x) (room : LogHasRoomForResume js list m)
    (fit : FitsFromAt 9 1 kk (drop k list) x (record raw { answers = part }) now) (less : j ≤ raw.begun)
    (left : now ≡ memory_after (take (kk + j) (drop k list)) x) where
  long : length (drop k list) + k ≡ length list
  long = resumed_rest_length k list a.reported

  number : length earlier.answers ≡ k
  number = resumed_take_length k list m earlier.answers a.reported a.answers

  part_number : length part ≡ kk
  part_number = resumed_take_length kk (drop k list) x part fit.reported fit.answers

  raw_number : length raw.answers ≡ k + kk
  raw_number = ap length added ∙ simp length-append (omega (arith, number, part_number))

  few : kk + j ≤ length (drop k list)
  few = few_done kk j raw.begun (length (drop k list)) fit.reported less (λ some. (fit.begun some).0)

  whole : raw.ended ≡ All → k + kk ≡ length list
  whole all = let h = fit.all all in omega (arith, h, long)

  grows_on : length earlier.answers ≤ length raw.answers
  grows_on = omega (arith, number, raw_number)

  begun_of : (resume_report raw earlier).begun ≡ 1 → ResumedBegun raw earlier
  begun_of one = since_begun raw earlier grows_on a.few (some_begun (resume_report raw earlier).begun one)

  -- nothing took effect
  none_memory : kk ≡ 0 → StandsAt js k list m earlier x
      → IsAfterResumeRepeats js k list m x
      ⊎ (((resume_report raw earlier).begun ≡ 1) × IsAfterResumeRepeats js (k + 1) list m x)
  none_memory zero_done (inl h) = inl h
  none_memory zero_done (inr (b, h)) =
      let below = (a.begun b).0 in
      inr (
        resumed_open_begun raw earlier (omega (arith, number, raw_number, zero_done))
            (λ all. let w = whole all in absurd (omega (arith, w, below, zero_done))) fit.few b,
        h,
      )

  none_begun : kk ≡ 0 → ResumedBegun raw earlier → (k < length list) × (raw.ended ≢ All)
  none_begun zero_done (by_earlier same never one) = ((a.begun one).0, never)
  none_begun zero_done (by_this is) =
      let h = fit.begun is in
      let some = at_least raw.begun is in
      let most = h.0 in
      (omega (arith, most, some, long), h.1)

  none_part : kk ≡ 0 → part ≡ []
  none_part zero_done = nil_from_length part (omega (arith, part_number, zero_done))

  none_left : kk ≡ 0 → j ≡ 0 → now ≡ x
  none_left zero_done zero_begun =
      let none : kk + j ≡ 0 = omega (arith, zero_done, zero_begun) in
      left ∙ ap (λ n. memory_after (take n (drop k list)) x) none

  none_again : kk ≡ 0 → j ≡ 0 → ResumedReport js list m earlier (resume_report raw earlier) now
  none_again zero_done zero_begun = record {
    more = js;
    grows = inl refl;
    again = (
      k,
      record {
        reported = a.reported;
        answers = added ∙ (ap (λ l. earlier.answers ++ l) (none_part zero_done)
            ∙ (append-nil earlier.answers ∙ a.answers));
        memory = subst (λ y. IsAfterResumeRepeats js k list m y
            ⊎ (((resume_report raw earlier).begun ≡ 1) × IsAfterResumeRepeats js (k + 1) list m y))
            (sym (none_left zero_done zero_begun)) (none_memory zero_done a.memory);
        few = resumed_since_few raw earlier fit.few a.few;
        begun = λ one. none_begun zero_done (begun_of one);
        all = λ all. let w = whole all in omega (arith, w, zero_done);
      },
    );
  }

  -- something did
  onward : 1 ≤ kk + j → Onward js k list d m x earlier
  onward some = goes_onward js k list d m x earlier (omega (arith, few, long)) room number a.memory

  done_here : (some : 1 ≤ kk + j) (n : ℕ) → 1 ≤ n → n ≤ length (drop k list) → Done (onward some).more k n list m x
  done_here some zero one most = absurd (omega arith)
  done_here some (suc n) one most = done_onward js k n list d m x earlier (omega (arith, long)) (onward some)

  answers_here : (some : 1 ≤ kk + j) (n : ℕ) → n ≡ kk
      → answers_of (take k list) m ++ answers_of (take n (drop k list)) x ≡ answers_of (take (k + n) list) m
  answers_here some zero is =
      let none : k ≡ k + 0 = omega arith in
      append-nil (answers_of (take k list) m) ∙ ap (λ i. answers_of (take i list) m) none
  answers_here some (suc n) is = (done_here some (suc n) (omega arith) (omega (arith, fit.reported))).answers

  some_memory : (some : 1 ≤ kk + j) (i : ℕ) → i ≡ j
      → IsAfterResumeRepeats (onward some).more (k + kk) list m now
      ⊎ (((resume_report raw earlier).begun ≡ 1) × IsAfterResumeRepeats (onward some).more (k + kk + 1) list m now)
  some_memory some zero is =
      let more : List ℕ = (onward some).more in
      let same : kk + j ≡ kk = omega arith in
      let there : now ≡ memory_after (take kk (drop k list)) x =
      left ∙ ap (λ n. memory_after (take n (drop k list)) x) same in
      inl (subst (IsAfterResumeRepeats more (k + kk) list m) (sym there)
      (done_here some kk (omega arith) fit.reported).after)
  some_memory some (suc i) is =
      let more : List ℕ = (onward some).more in
      let one : raw.begun ≡ 1 = (let f = fit.few in omega (arith, f, less)) in
      let count : k + (kk + j) ≡ k + kk + 1 = (let f = fit.few in omega (arith, f, less)) in
      inr (
        resumed_since_one raw earlier (fit.begun (some_begun raw.begun one)).1 a.few one,
        subst (IsAfterResumeRepeats more (k + kk + 1) list m) (sym left)
            (subst (λ n. IsAfterResumeRepeats more n list m (memory_after (take (kk + j) (drop k list)) x)) count
            (done_here some (kk + j) some few).after),
      )

  some_begun_here : 1 ≤ kk + j → ResumedBegun raw earlier → raw.begun ≢ 0
  some_begun_here some h = grind (arith, number, raw_number)

  some_again : 1 ≤ kk + j → ResumedReport js list m earlier (resume_report raw earlier) now
  some_again some = record {
    more = (onward some).more;
    grows = (onward some).grows;
    again = (
      k + kk,
      record {
        reported = (let f = fit.reported in omega (arith, f, long));
        answers = added ∙ (ap (λ l. l ++ part) a.answers
            ∙ (ap (λ l. answers_of (take k list) m ++ l) fit.answers ∙ answers_here some kk refl));
        memory = some_memory some j refl;
        few = resumed_since_few raw earlier fit.few a.few;
        begun = λ one.
            (let is : raw.begun ≢ 0 = some_begun_here some (begun_of one) in
            let h = fit.begun is in
            (omega (arith, h.0, long, at_least raw.begun is), h.1));
        all = whole;
      },
    );
  }

  fit_again : (n : ℕ) → n ≡ kk + j → ResumedReport js list m earlier (resume_report raw earlier) now
  fit_again n is = grind (arith, none_again, some_again)

-- where the log has room, a report of a list with accesses repeated and a run over the rest make such a report again:
-- of the same repetitions, or of these and one more of the access that was in flight
pub resumed_report_again : (js : List ℕ) (list : List Access) (d : Access) (m x now : Bus)
    (earlier raw : HostReport) (part : List Answer) → raw.answers ≡ earlier.answers ++ part → Again js list m earlier x
    → LogHasRoomForResume js list m → Fits 1 (drop (length earlier.answers) list) x (record raw { answers = part }) now
    → ResumedReport js list m earlier (resume_report raw earlier) now
resumed_report_again js list d m x now earlier raw part added (k, a) room fits =
    let number : length earlier.answers ≡ k = resumed_take_length k list m earlier.answers a.reported a.answers in
    let (kk, fit) = subst (λ n. Fits 1 (drop n list) x (record raw { answers = part }) now) number fits in
    let (j, less, left) = fit.memory in
    fit_again js k kk j list m x now earlier raw part d added a room fit less left (kk + j) refl

-- A RUN over a target at rest, as one that goes on with no place repeated, where it left one access begun at most
fits_at_again : (k j : ℕ) (list : List Access) (m : Bus) (told : HostReport) (now : Bus)
    → told.begun ≤ 1 → j ≤ told.begun → now ≡ memory_after (take (k + j) list) m
    → IsAfterResumeRepeats [] k list m now ⊎ ((told.begun ≡ 1) × IsAfterResumeRepeats [] (k + 1) list m now)
fits_at_again k zero list m told now few less is =
    let same : k + 0 ≡ k = omega arith in
    inl (resume_after_none k list m now (is ∙ ap (λ n. memory_after (take n list) m) same))
fits_at_again k (suc zero) list m told now few less is =
    let same : k + suc zero ≡ k + 1 = omega arith in
    inr (
      omega (arith, few, less),
      resume_after_none (k + 1) list m now
          (is ∙ ap (λ n. memory_after (take n list) m) same),
    )
fits_at_again k (suc (suc j)) list m told now few less is = absurd (omega (arith, few, less))

-- a report that fits the memory, with at most one access in flight, is that of its list with no access repeated
pub resumed_fits_list : (limit : ℕ) (list : List Access) (m : Bus) (told : HostReport) (now : Bus)
    → told.begun ≤ 1 → Fits limit list m told now → Again [] list m told now
resumed_fits_list limit list m told now few (k, f) =
    let (j, less, is) = f.memory in (
      k,
      record {
        reported = f.reported;
        answers = f.answers;
        memory = fits_at_again k j list m told now few less is;
        few = few;
        begun = λ one. (let h = f.begun (some_begun told.begun one) in (omega (arith, h.0, one), h.1));
        all = f.all;
      },
    )

-- a whole list without a repeated access leaves what it leaves
pub resumed_whole_list : (list : List Access) (m : Bus) (told : HostReport) (now : Bus)
    → told.ended ≡ All → Again [] list m told now → now ≡ memory_after list m
resumed_whole_list list m told now all (k, a) =
    let is : take k list ≡ list = (let e = a.all all in take_all k list (omega (arith, e))) in
    elim a.memory [
      | inl h ↦ h.memory ∙ ap (λ xs. memory_after xs m) (resume_repeats_none 0 (take k list) ∙ is)
      | inr h ↦ absurd ((a.begun h.0).1 all)
    ]

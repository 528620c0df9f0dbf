-- A call and the calls of `resume` after it: from the ports to the memories, and which accesses were done. For the law
-- `resumptions`.
use Rattle.swd_host.proofs.Words.{◌≡◌, ◌+◌, ◌-◌, ◌<◌, ◌≤◌, ℕ, refl, sym, ap, subst, inl, inr, arith, ◌∙◌, List, [], ◌∷◌}
use Rattle.swd_host.proofs.Words.{◌++◌}
use Rattle.swd_host.proofs.Words.{length, take, drop, zero, suc, length-append, ◌==◌, Bool, true, false, max, ◌≢◌}
use Rattle.swd_host.proofs.Words.{Access, Bus, Port, MayBecome, End, All, Lost, HostEndsAt, HostKnowsTarget}
use Rattle.swd_host.proofs.Words.{IsAtRest, HostReport, Fits, FitsFromAt, memory_after, resume_repeats_of}
use Rattle.swd_host.proofs.Words.{ResumePlacesBelow, Again, LogHasRoomForResume, Bursts, bursts_limit}
use Rattle.std.proofs.lemmas.Bool.{eqb-true}
use Rattle.std.proofs.lemmas.List.{append_assoc}
use Rattle.swd_port.specs.declared.access.Access.TheVariants.{Read}
use Rattle.swd_host.specs.declared.outcome.End.TheVariants.{TriesOut, WrongId, Confused}
use Rattle.swd_host.specs.Again.{resume_own_report, resume_added}
use Rattle.swd_host.specs.Resuming.{resume_begun, host_end_is_all}
use Rattle.swd_host.specs.Chains.{ResumedCalls, ran, resumed, ResumeChain, first, again, ResumedCallsAreChained}
use Rattle.swd_host.specs.Chains.{resume_places_from, resume_accesses_at, resume_chain_places, ResumeChainHasDone}
use Rattle.swd_host.specs.Chains.{ResumeChainDoes, resume_chain_first_begun, ResumeChainHasRepeated, ResumeChainRepeats}
use Rattle.swd_host.proofs.Lists.{host_list_memory_append}
use Rattle.swd_host.proofs.GoingOn.{ResumedReport, resumed_take_length, resumed_rest_length, resumed_report_again}
use Rattle.swd_host.proofs.GoingOn.{resumed_grows_few, resumed_fits_list, resumed_not_all, resumed_whole_list}
use Rattle.swd_port.specs.PlainBus.{plain_words_of}
use Rattle.swd_host.proofs.Shadows.{resume_again_words}

-- FROM PORTS TO MEMORIES
-- SELECT and the identification are known after each call, however it ended
pub resume_target_known : (ended : End) (tries : ℕ) (s t : Port) → HostEndsAt ended tries s t → HostKnowsTarget t.target
resume_target_known All tries s t e = e.0.known
resume_target_known Lost tries s t e = e.2
resume_target_known TriesOut tries s t e = e.2
resume_target_known (WrongId word) tries s t e = absurd e
resume_target_known Confused tries s t e = absurd e

module _ (kind : Bursts) (list : List Access) (s : Port) (rest : IsAtRest s) where
  known : (calls : List HostReport) (told : HostReport) (t : Port) → ResumedCalls kind list s calls told t
      → HostKnowsTarget t.target
  known calls told t (ran {told = a} {t = u} tries runs) = resume_target_known a.ended tries s u (runs rest).ends
  known calls told t (resumed {calls = before} {earlier = e} {told = a} {t = u} {u = v} went next tries kept over) =
      resume_target_known a.ended tries u v (over (known before e u went)).ends

  -- over a target at rest a call and the calls of `resume` after it are a chain over memories, from the target's to
  -- each that the last port may become
  pub chained : (calls : List HostReport) (told : HostReport) (t : Port) → ResumedCalls kind list s calls told t
      → (now : Bus) → MayBecome t now → ResumeChain (bursts_limit kind) list s.target.memory calls told now
  unfolding MayBecome
  chained calls told t (ran {told = a} {t = u} tries runs) now (inl given) =
      first (subst (Fits (bursts_limit kind) list s.target.memory a) (sym given.1) ((runs rest).now))
  chained calls told t (ran {told = a} {t = u} tries runs) now (inr (c, i, is)) =
      first (subst (Fits (bursts_limit kind) list s.target.memory a) (sym is) ((runs rest).later c))
  chained calls told t (resumed {calls = before} {earlier = e} {told = a} {t = u} {u = v} went next tries kept over) now
      may =
      let fits = over (known before e u went) in
      let from = fits.goes now may in
      again (chained before e u went from.before from.comes) fits.own kept fits.begun from.fits

-- the same for every list, kind of bursts and target at rest
pub resume_calls_chained : ResumedCallsAreChained
resume_calls_chained kind list s calls told t rest went now may = chained kind list s rest calls told t went now may

-- PLACES
take_one : (i n : ℕ) (list : List Access) → take 1 (drop i list) ++ take n (drop (suc i) list)
    ≡ take (suc n) (drop i list)
take_one zero zero [] = refl
take_one zero (suc n) [] = refl
take_one zero n (x ∷ list) = refl
take_one (suc i) zero [] = refl
take_one (suc i) (suc n) [] = refl
take_one (suc i) n (x ∷ list) = take_one i n list

-- the accesses at so many places in a row
at_row : (i n : ℕ) (list : List Access) → resume_accesses_at (resume_places_from i n) list ≡ take n (drop i list)
at_row i zero list = refl
at_row i (suc n) list =
    ap (λ l. take 1 (drop i list) ++ l) (at_row (suc i) n list) ∙ take_one i n list

at_append : (ps qs : List ℕ) (list : List Access)
    → resume_accesses_at (ps ++ qs) list ≡ resume_accesses_at ps list ++ resume_accesses_at qs list
at_append [] qs list = refl
at_append (p ∷ ps) qs list =
    ap (λ l. take 1 (drop p list) ++ l) (at_append ps qs list)
    ∙ sym (append_assoc (take 1 (drop p list)) (resume_accesses_at ps list) (resume_accesses_at qs list))

times_both : (i : ℕ) (ps qs : List ℕ) → resume_repeats_of i (ps ++ qs) ≡ resume_repeats_of i ps + resume_repeats_of i qs
times_both i [] qs = omega arith
times_both i (p ∷ ps) qs = let h = times_both i ps qs in omega (arith, h)

other : (i j : ℕ) → i < j → (i == j) ≡ false
other i j l = grind arith

times_before : (i a n : ℕ) → i < a → resume_repeats_of i (resume_places_from a n) ≡ 0
times_before i a zero l = refl
times_before i a (suc n) l = rw (other i a l) (let h = times_before i (suc a) n (omega (arith, l)) in omega (arith, h))

-- a place stands once in a row at most
row_by : (i a n : ℕ) (b : Bool) → (i == a) ≡ b → resume_repeats_of i (resume_places_from (suc a) n) ≤ 1
    → resume_repeats_of i (resume_places_from a (suc n)) ≤ 1
row_by i a n true is h =
    let same : i ≡ a = eqb-true i a is in
    let none = times_before i (suc a) n (omega (arith, same)) in
    rw is (omega (arith, none))
row_by i a n false is h = rw is (omega (arith, h))

times_row : (i a n : ℕ) → resume_repeats_of i (resume_places_from a n) ≤ 1
times_row i a zero = omega arith
times_row i a (suc n) = row_by i a n (i == a) refl (times_row i (suc a) n)

row_below : (a n most : ℕ) → a + n ≤ most → ResumePlacesBelow most (resume_places_from a n)
row_below a zero most l = tt
row_below a (suc n) most l = (omega (arith, l), row_below (suc a) n most (omega (arith, l)))

below_further : (n most : ℕ) (ps : List ℕ) → n ≤ most → ResumePlacesBelow n ps → ResumePlacesBelow most ps
below_further n most [] l h = tt
below_further n most (p ∷ ps) l h = (let low = h.0 in omega (arith, l, low), below_further n most ps l h.1)

below_both : (n : ℕ) (ps qs : List ℕ) → ResumePlacesBelow n ps → ResumePlacesBelow n qs → ResumePlacesBelow n (ps ++ qs)
below_both n [] qs h g = g
below_both n (p ∷ ps) qs h g = (h.0, below_both n ps qs h.1 g)

row_length : (a n : ℕ) → length (resume_places_from a n) ≡ n
row_length a zero = refl
row_length a (suc n) = let h = row_length (suc a) n in omega (arith, h)

-- WHAT A CHAIN DID
-- and that the list has what is told as begun
record Reaches (limit : ℕ) (list : List Access) (m : Bus) (calls : List HostReport) (told : HostReport)
    (now : Bus) (places : List ℕ) : Type 0 where
  done : ResumeChainHasDone limit list m calls told now places
  reach : length told.answers + told.begun ≤ length list

-- a call that began some accesses didn't end whole, and the list has them
begun_within : (n k begun : ℕ) → k ≤ n → (begun ≢ 0 → k + begun ≤ n) → k + begun ≤ n
begun_within n k zero low may = omega (arith, low)
begun_within n k (suc b) low may = may (λ none. absurd (omega (arith, none)))

first_done : (limit : ℕ) (list : List Access) (m : Bus) (told : HostReport) (now : Bus)
    → (fits : Fits limit list m told now)
    → Reaches limit list m [] told now (resume_places_from 0 (fits.0 + fits.1.memory.0))
first_done limit list m told now (k, fit) =
    let j : ℕ = fit.memory.0 in
    let less = fit.memory.1 in
    let few = fit.few in
    let many : length told.answers ≡ k = resumed_take_length k list m told.answers fit.reported fit.answers in
    let row = row_length 0 (k + j) in
    record {
      done = record {
        memory = fit.memory.2 ∙ ap (λ l. memory_after l m) (sym (at_row 0 (k + j) list));
        copies = λ i. (let h = times_row i 0 (k + j) in omega (arith, h));
        within = row_below 0 (k + j) (length told.answers + told.begun) (omega (arith, many, less));
        few = omega (arith, row, less, few, many);
      };
      reach = begun_within (length list) (length told.answers) told.begun
          (let low = fit.reported in omega (arith, many, low))
          (λ some. let h = (fit.begun some).0 in omega (arith, h, many));
    }

module _ (limit : ℕ) (list : List Access) (m : Bus) (calls : List HostReport) (earlier told : HostReport)
    (before now : Bus) (places : List ℕ) (was : Reaches limit list m calls earlier before places) (own : ℕ)
    (kept : told.answers ≡ earlier.answers ++ resume_added earlier told)
    (begun : told.begun ≡ resume_begun earlier told own)
    (k : ℕ)
    (fit : FitsFromAt 9 1 k (drop (length earlier.answers) list) before (resume_own_report earlier told own) now)
  where
    abbrev at : ℕ
    at = length earlier.answers

    abbrev j : ℕ
    j = fit.memory.0

    abbrev more : List ℕ
    more = resume_places_from at (k + j)

    low : at ≤ length list
    low = let h = was.reach in omega (arith, h)

    long : length (drop at list) + at ≡ length list
    long = resumed_rest_length at list low

    many : length told.answers ≡ at + k
    many = ap length kept ∙ length-append earlier.answers (resume_added earlier told)
        ∙ ap (λ n. at + n) (resumed_take_length k (drop at list) before (resume_added earlier told) fit.reported
        fit.answers)

    -- what is told as begun bounds both what this call began and what earlier ones did
    record Bounds : Type 0 where
      this : at + k + own ≤ length told.answers + told.begun
      old : at + earlier.begun ≤ length told.answers + told.begun
      reach : length told.answers + told.begun ≤ length list

    never_bounds : told.ended ≢ All → Bounds
    never_bounds never =
        let is : told.begun ≡ max own (earlier.begun - (length told.answers - at)) =
        begun ∙ rw (resumed_not_all told.ended never) refl in
        let reach = was.reach in
        let fewer : k + own ≤ length (drop at list) =
        begun_within (length (drop at list)) k own fit.reported (λ some. (fit.begun some).0) in
        record {
          this = omega (arith, is, many);
          old = omega (arith, is, many);
          reach = omega (arith, is, many, reach, fewer, long);
        }

    all_bounds : told.ended ≡ All → Bounds
    all_bounds all =
        let is : told.begun ≡ 0 = begun ∙ rw (ap host_end_is_all all) refl in
        let whole : k ≡ length (drop at list) = fit.all all in
        let none : own ≤ 0 = none_own own refl in
        let reach = was.reach in
        record {
          this = omega (arith, is, many, none);
          old = omega (arith, is, many, reach, whole, long);
          reach = omega (arith, is, many, whole, long);
        }
      where
        none_own : (n : ℕ) → own ≡ n → n ≤ 0
        none_own zero is = omega arith
        none_own (suc n) is = absurd ((fit.begun (λ none. absurd (let both : suc n ≡ 0 = sym is ∙ none in
            omega (arith, both)))).1 all)

    bounds : Bounds
    bounds = by told.ended refl
      where
        by : (end : End) → told.ended ≡ end → Bounds
        by All is = all_bounds is
        by Lost is = never_bounds (λ all. absurd cc)
        by TriesOut is = never_bounds (λ all. absurd cc)
        by (WrongId word) is = never_bounds (λ all. absurd cc)
        by Confused is = never_bounds (λ all. absurd cc)

    again_done : Reaches limit list m (calls ++ earlier ∷ []) told now (places ++ more)
    again_done =
        let less = fit.memory.1 in
        let this = bounds.this in
        let old = bounds.old in
        let one = length-append calls (earlier ∷ []) in
        let both = length-append places more in
        let row = row_length at (k + j) in
        let few = was.done.few in
        let own_few = fit.few in
        record {
          done = record {
            memory = fit.memory.2
                ∙ (ap (memory_after (take (k + j) (drop at list))) was.done.memory
                ∙ (sym (host_list_memory_append (resume_accesses_at places list) (take (k + j) (drop at list)) m)
                ∙ ap (λ l. memory_after l m)
                (ap (λ l. resume_accesses_at places list ++ l) (sym (at_row at (k + j) list)) ∙ sym
                (at_append places more list))));
            copies = λ i. (let h = was.done.copies i in let g = times_row i at (k + j) in
                let t = times_both i places more in
                omega (arith, h, g, t, one));
            within = below_both (length told.answers + told.begun) places more
                (below_further (at + earlier.begun) (length told.answers + told.begun) places old was.done.within)
                (row_below at (k + j) (length told.answers + told.begun) (omega (arith, this, less)));
            few = omega (arith, both, row, few, less, own_few, one, many);
          };
          reach = bounds.reach;
        }

reaches : (limit : ℕ) (list : List Access) (m : Bus) (calls : List HostReport) (told : HostReport)
    (now : Bus) → (chain : ResumeChain limit list m calls told now)
    → Reaches limit list m calls told now (resume_chain_places limit list m calls told now chain)
reaches limit list m calls told now (first {told = a} {now = n} fits) = first_done limit list m a n fits
reaches limit list m calls told now
    (again {calls = c} {earlier = e} {told = a} {before = left} {now = n} chain own kept begun (k, fit)) =
    again_done limit list m c e a left n (resume_chain_places limit list m c e left chain)
    (reaches limit list m c e left chain) own kept begun k fit

-- the memory after a chain of calls is that after the accesses at its places, each of them at most once a call
pub resume_chain_does : ResumeChainDoes
resume_chain_does limit list m calls told now chain = (reaches limit list m calls told now chain).done

-- WHERE ONE ACCESS AT MOST WAS LEFT BEGUN, also with writes
first_same : (calls : List HostReport) (earlier told : HostReport)
    → resume_chain_first_begun (calls ++ earlier ∷ []) told ≡ resume_chain_first_begun calls earlier
first_same [] earlier told = refl
first_same (one ∷ calls) earlier told = refl

-- if the first call left at most one access in flight and the log has room, the report is that of the list with at
-- most one access repeated for each call of `resume`, and a whole list leaves the same words as without repetitions
pub resume_chain_repeats : ResumeChainRepeats
resume_chain_repeats limit list m calls told now few room (first {told = a} {now = n} fits) =
    let none = resumed_fits_list limit list m a n few fits in
    record {
      places = [];
      few = omega arith;
      again = none;
      words = λ all. ap plain_words_of (resumed_whole_list list m a n all none);
    }
resume_chain_repeats limit list m calls told now few room
    (again {calls = c} {earlier = e} {told = a} {before = left} {now = n} chain own kept begun fits) =
    let one = length-append c (e ∷ []) in
    let same = first_same c e a in
    let was : ResumeChainHasRepeated list m c e left =
    resume_chain_repeats limit list m c e left (omega (arith, few, same))
    (record { plain = room.plain; room = omega (arith, room.room, one) }) chain in
    let has : LogHasRoomForResume was.places list m =
    (let f = was.few in record { plain = room.plain; room = omega (arith, room.room, one, f) }) in
    let raw : HostReport = record a { begun = own } in
    let g : ResumedReport was.places list m e (record a { begun = resume_begun e a own }) n =
    resumed_report_again was.places list (Read 0) m left n e raw (resume_added e a) kept was.again has fits in
    let is_again : Again g.more list m a n =
    subst (λ b. Again g.more list m (record a { begun = b }) n) (sym begun) g.again in
    let more = resumed_grows_few was.places e g.more g.grows in
    let f = was.few in
    record {
      places = g.more;
      few = omega (arith, more, f, one);
      again = is_again;
      words = λ all. resume_again_words g.more was.places list m a n (Read 0) more has all is_again;
    }

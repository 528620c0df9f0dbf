-- A chain of calls over a list of reads, as blocks are: no word changes, and where the log has room the answers are the
-- plain memory's. For the law `resumptions`.
use Rattle.swd_host.proofs.Words.{◌≡◌, ◌+◌, ◌-◌, ◌<◌, ◌≤◌, ℕ, refl, sym, ap, subst, arith, ◌∙◌, List, []}
use Rattle.swd_host.proofs.Words.{◌∷◌, ◌++◌, length, take, drop, zero, suc, get_or, length-append, Access, Bus}
use Rattle.swd_host.proofs.Words.{HostReport, Fits, FitsFromAt, bus_after, bus_answer, memory_after, answers_of}
use Rattle.std.proofs.lemmas.List.{length-take}
use Rattle.std.proofs.Math.Seq.{drop-cons, take-add}
use Rattle.swd_port.specs.declared.access.Access.TheVariants.{Read, Write}
use Rattle.swd_port.specs.PlainBus.{plain_of}
use Rattle.swd_host.specs.Again.{resume_own_report, resume_added}
use Rattle.swd_host.specs.Chains.{ResumeChain, first, again, AreBlockReads, ResumeChainReads}
use Rattle.swd_host.proofs.Lists.{host_list_memory_append, host_list_answers_append, host_list_memory_next}
use Rattle.swd_host.proofs.GoingOn.{resumed_take_length, resumed_rest_length}
use Rattle.swd_port.specs.PlainBus.{IsPlain, plain_words_of}
use Rattle.swd_host.specs.PlainRuns.{IsPlainWithRoom}
use Rattle.swd_host.proofs.PlainShadows.{PlainShadow, plain_read_shadow}
use Rattle.swd_host.proofs.Shadows.{ResumeShadow, ResumeHasRoom, ResumeRoomy, resume_shadow_answer, resume_shadow_next}
use Rattle.swd_port.proofs.PlainBusLaws.{is_plain_next, plain_of_next}
use Rattle.swd_host.proofs.Shadows.{resume_room_at, is_plain_list, shadow_few}
use Rattle.swd_host.proofs.Shadows.{shadow_self}

-- READS
reads_take : (n : ℕ) (list : List Access) → AreBlockReads list → AreBlockReads (take n list)
reads_take zero list h = tt
reads_take (suc n) [] h = tt
reads_take (suc n) (Read at ∷ list) h = reads_take n list h
reads_take (suc n) (Write at word ∷ list) h = absurd h

reads_drop : (n : ℕ) (list : List Access) → AreBlockReads list → AreBlockReads (drop n list)
reads_drop zero list h = h
reads_drop (suc n) [] h = tt
reads_drop (suc n) (Read at ∷ list) h = reads_drop n list h
reads_drop (suc n) (Write at word ∷ list) h = absurd h

-- a read leaves one transfer more at most, and all else as it was
read_shadow : (at : ℕ) (p : Bus) → IsPlain p → ResumeShadow 1 p (bus_after (Read at) p)
read_shadow at p h = record {
  first = h;
  second = is_plain_next (Read at) p h;
  same = subst (PlainShadow 1 (plain_of p)) (sym (plain_of_next (Read at) p h)) (plain_read_shadow at (plain_of p));
}

shadow_then : (b c : ℕ) (p q r : Bus) → ResumeShadow b p q → ResumeShadow c q r → ResumeShadow (b + c) p r
shadow_then b c p q r h g =
    let hm = h.same.most in let hl = h.same.least in let gm = g.same.most in let gl = g.same.least in
    record {
      first = h.first;
      second = g.second;
      same = record {
        words = g.same.words ∙ h.same.words;
        room = g.same.room ∙ h.same.room;
        most = omega (arith, hm, gm);
        least = omega (arith, hl, gl);
      };
    }

reads_shadow : (list : List Access) (p : Bus) → IsPlain p → AreBlockReads list
    → ResumeShadow (length list) p (memory_after list p)
reads_shadow [] p is h = shadow_self p is
reads_shadow (Read at ∷ list) p is h =
    shadow_few (1 + length list) (suc (length list)) p (memory_after list (bus_after (Read at) p)) (omega arith)
    (shadow_then 1 (length list) p (bus_after (Read at) p) (memory_after list (bus_after (Read at) p))
    (read_shadow at p is) (reads_shadow list (bus_after (Read at) p) (is_plain_next (Read at) p is) h))
reads_shadow (Write at word ∷ list) p is h = absurd h

-- j reads more than k of a list of reads
reads_more : (k j : ℕ) (list : List Access) (p : Bus) → IsPlain p → AreBlockReads list
    → ResumeShadow j (memory_after (take k list) p) (memory_after (take (k + j) list) p)
reads_more k j list p plain h =
    let more : List Access = take j (drop k list) in
    let is : memory_after (take (k + j) list) p ≡ memory_after more (memory_after (take k list) p) =
    ap (λ l. memory_after l p) (take-add k j list) ∙ host_list_memory_append (take k list) more p in
    subst (λ x. ResumeShadow j (memory_after (take k list) p) x) (sym is)
    (shadow_few (length more) j (memory_after (take k list) p) (memory_after more (memory_after (take k list) p))
    (omega (arith, length-take j (drop k list)))
    (reads_shadow more (memory_after (take k list) p) (is_plain_list (take k list) p plain)
    (reads_take j (drop k list) (reads_drop k list h))))

-- ACCESSES OVER A SHADOW of the plain memory
record Shown (x k n : ℕ) (list : List Access) (m q : Bus) : Type 0 where
  answers : answers_of (take n (drop k list)) q ≡ answers_of (take n (drop k list)) (memory_after (take k list) m)
  shadow : ResumeShadow x (memory_after (take (k + n) list) m) (memory_after (take n (drop k list)) q)

shown : (x k n : ℕ) (list : List Access) (m q : Bus) → k + n ≤ length list → ResumeRoomy x list m
    → ResumeShadow x (memory_after (take k list) m) q → Shown x k n list m q
shown x k zero list m q few room h =
    let e : k + zero ≡ k = omega arith in
    record { answers = refl; shadow = subst (λ i. ResumeShadow x (memory_after (take i list) m) q) (sym e) h }
shown x k (suc n) list m q few room h =
    let d : Access = Read 0 in
    let a : Access = get_or list k d in
    let p : Bus = memory_after (take k list) m in
    let low : k < length list = omega (arith, few) in
    let place : ResumeHasRoom x a p = resume_room_at list k x d m low room in
    let s : k + 1 ≡ suc k = omega arith in
    let next : memory_after (take (suc k) list) m ≡ bus_after a p =
    ap (λ i. memory_after (take i list) m) (sym s) ∙ host_list_memory_next list k d m low in
    let one : ResumeShadow x (memory_after (take (suc k) list) m) (bus_after a q) =
    subst (λ y. ResumeShadow x y (bus_after a q)) (sym next) (resume_shadow_next x a p q place h) in
    let w : Shown x (suc k) n list m (bus_after a q) =
    shown x (suc k) n list m (bus_after a q) (omega (arith, few)) room one in
    let is : take (suc n) (drop k list) ≡ a ∷ take n (drop (suc k) list) =
    ap (take (suc n)) (drop-cons list k d low) in
    let count : suc k + n ≡ k + suc n = omega arith in
    let rest : List Access = take n (drop (suc k) list) in
    record {
      answers = ap (λ l. answers_of l q) is
          ∙ (ap (λ y. y ∷ answers_of rest (bus_after a q)) (resume_shadow_answer x a p q place h)
          ∙ (ap (λ l. bus_answer a p ∷ l) (w.answers ∙ ap (answers_of rest) next)
          ∙ sym (ap (λ l. answers_of l p) is)));
      shadow = subst (λ l. ResumeShadow x (memory_after (take (k + suc n) list) m) (memory_after l q)) (sym is)
          (subst (λ i. ResumeShadow x (memory_after (take i list) m) (memory_after rest (bus_after a q))) count
          w.shadow);
    }

-- A CHAIN OF READS
-- a plain memory stays one
pub resume_chain_plain : (limit : ℕ) (list : List Access) (m : Bus) (calls : List HostReport) (told : HostReport)
    (now : Bus) → IsPlain m → ResumeChain limit list m calls told now → IsPlain now
resume_chain_plain limit list m calls told now plain (first {told = a} {now = n} (k, fit)) =
    subst IsPlain (sym fit.memory.2) (is_plain_list (take (k + fit.memory.0) list) m plain)
resume_chain_plain limit list m calls told now plain
    (again {calls = c} {earlier = e} {told = a} {before = left} {now = n} chain own kept begun (k, fit)) =
    subst IsPlain (sym fit.memory.2) (is_plain_list (take (k + fit.memory.0) (drop (length e.answers) list)) left
    (resume_chain_plain limit list m c e left plain chain))

words_kept : (limit : ℕ) (list : List Access) (m : Bus) (calls : List HostReport) (told : HostReport)
    (now : Bus) → AreBlockReads list → ResumeChain limit list m calls told now → IsPlain m
    → plain_words_of now ≡ plain_words_of m
words_kept limit list m calls told now reads (first {told = a} {now = n} (k, fit)) plain =
    ap plain_words_of fit.memory.2
    ∙ (reads_shadow (take (k + fit.memory.0) list) m plain (reads_take (k + fit.memory.0) list reads)).same.words
words_kept limit list m calls told now reads
    (again {calls = c} {earlier = e} {told = a} {before = left} {now = n} chain own kept begun (k, fit)) plain =
    let rest : List Access = drop (length e.answers) list in
    ap plain_words_of fit.memory.2
    ∙ ((reads_shadow (take (k + fit.memory.0) rest) left (resume_chain_plain limit list m c e left plain chain)
    (reads_take (k + fit.memory.0) rest (reads_drop (length e.answers) list reads))).same.words
    ∙ words_kept limit list m c e left reads chain plain)

-- the answers are the plain memory's, and the memory has some transfers more
record Plainly (limit : ℕ) (list : List Access) (m : Bus) (calls : List HostReport) (told : HostReport)
    (now : Bus) : Type 0 where
  extra : ℕ
  few : extra ≤ limit + length calls
  reported : length told.answers ≤ length list
  answers : told.answers ≡ answers_of (take (length told.answers) list) m
  shadow : ResumeShadow extra (memory_after (take (length told.answers) list) m) now

first_plainly : (limit : ℕ) (list : List Access) (m : Bus) (told : HostReport) (now : Bus)
    → IsPlain m → AreBlockReads list → Fits limit list m told now → Plainly limit list m [] told now
first_plainly limit list m told now plain reads (k, fit) =
    let j : ℕ = fit.memory.0 in
    let many : length told.answers ≡ k = resumed_take_length k list m told.answers fit.reported fit.answers in
    let less = fit.memory.1 in
    let most = fit.few in
    let low = fit.reported in
    record {
      extra = j;
      few = omega (arith, less, most);
      reported = omega (arith, many, low);
      answers = fit.answers ∙ ap (λ i. answers_of (take i list) m) (sym many);
      shadow = subst (λ i. ResumeShadow j (memory_after (take i list) m) now) (sym many)
          (subst (ResumeShadow j (memory_after (take k list) m)) (sym fit.memory.2)
          (reads_more k j list m plain reads));
    }

again_plainly : (limit : ℕ) (list : List Access) (m : Bus) (calls : List HostReport) (earlier told : HostReport)
    (before now : Bus) (own k : ℕ) → 1 ≤ limit → AreBlockReads list → Plainly limit list m calls earlier before
    → IsPlainWithRoom (limit + length calls) list m
    → told.answers ≡ earlier.answers ++ resume_added earlier told
    → FitsFromAt 9 1 k (drop (length earlier.answers) list) before (resume_own_report earlier told own) now
    → Plainly limit list m (calls ++ earlier ∷ []) told now
again_plainly limit list m calls earlier told before now own k some reads was room kept fit =
    let at : ℕ = length earlier.answers in
    let rest : List Access = drop at list in
    let j : ℕ = fit.memory.0 in
    let less = fit.memory.1 in
    let most = fit.few in
    let low = fit.reported in
    let x : ℕ = was.extra in
    let x_few = was.few in
    let long = resumed_rest_length at list was.reported in
    let added : length (resume_added earlier told) ≡ k =
    resumed_take_length k rest before (resume_added earlier told) fit.reported fit.answers in
    let many : length told.answers ≡ at + k =
    ap length kept ∙ length-append earlier.answers (resume_added earlier told) ∙ ap (λ n. at + n) added in
    let one = length-append calls (earlier ∷ []) in
    let roomy : ResumeRoomy x list m =
    record { plain = room.plain; one = omega (arith, room.room, some); all = omega (arith, room.room, x_few) } in
    let w : Shown x at k list m before = shown x at k list m before (omega (arith, long, low)) roomy was.shadow in
    let here : Bus = memory_after (take k rest) before in
    let onward : ResumeShadow j here now =
    subst (ResumeShadow j here) (sym fit.memory.2)
    (reads_more k j rest before was.shadow.second (reads_drop at list reads)) in
    let told_is : told.answers ≡ answers_of (take (at + k) list) m =
    kept ∙ (ap (λ l. earlier.answers ++ l) (fit.answers ∙ w.answers)
    ∙ (ap (λ l. l ++ answers_of (take k rest) (memory_after (take at list) m)) was.answers
    ∙ (sym (host_list_answers_append (take at list) (take k rest) m)
    ∙ ap (λ l. answers_of l m) (sym (take-add at k list))))) in
    record {
      extra = x + j;
      few = omega (arith, x_few, less, most, one);
      reported = omega (arith, many, long, low);
      answers = told_is ∙ ap (λ i. answers_of (take i list) m) (sym many);
      shadow = subst (λ i. ResumeShadow (x + j) (memory_after (take i list) m) now) (sym many)
          (shadow_then x j (memory_after (take (at + k) list) m) here now w.shadow onward);
    }

plainly : (limit : ℕ) (list : List Access) (m : Bus) (calls : List HostReport) (told : HostReport)
    (now : Bus)
    → 1 ≤ limit → AreBlockReads list → IsPlainWithRoom (limit + (length calls - 1)) list m
    → ResumeChain limit list m calls told now → Plainly limit list m calls told now
plainly limit list m calls told now some reads room (first {told = a} {now = n} fits) =
    first_plainly limit list m a n room.plain reads fits
plainly limit list m calls told now some reads room
    (again {calls = c} {earlier = e} {told = a} {before = left} {now = n} chain own kept begun (k, fit)) =
    let one = length-append c (e ∷ []) in
    again_plainly limit list m c e a left n own k some reads
    (plainly limit list m c e left some reads (record { plain = room.plain; room = omega (arith, room.room, one) })
    chain)
    (record { plain = room.plain; room = omega (arith, room.room, one) }) kept fit

-- a chain of calls over a list of reads changes no word, and where the log has room it answers as the plain memory
pub resume_chain_reads : ResumeChainReads
resume_chain_reads limit list m calls told now some reads chain = record {
  words = words_kept limit list m calls told now reads chain;
  answers = λ room. (plainly limit list m calls told now some reads room chain).answers;
}

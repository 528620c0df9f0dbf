-- Laws of steps: what some make and others behind them.
use Rattle.std.proofs.Common.{◌≡◌, ℕ, zero, suc, Bool, true, false, List, [], ◌∷◌, ◌++◌, Option, Some, None, refl, sym}
use Rattle.std.proofs.Common.{ap, ◌∙◌, subst, arith, append-nil, add-one, ◌+◌, ◌-◌, ◌<◌, ◌≤◌, drop}
use Rattle.std.specs.Prelude.{◌==◌, if◌then◌else◌}
use Rattle.std.proofs.lemmas.Bool.{eq-eqb, ne_eqb}
use Rattle.std.specs.Int.RustNames.{bit_and}
use Rattle.std.specs.Int.{w32, to_le_bytes}
use Rattle.swd_bits.specs.declared.request.Request.{Request}
use Rattle.swd_bits.specs.Phases.{data_phase_word}
use Rattle.swd_sequences.specs.Going.{SequenceClock}
use Rattle.swd_dap_probe.specs.declared.settings.Settings.{Settings}
use Rattle.swd_dap_probe.specs.declared.transaction.Answer.{Answer}
use Rattle.swd_dap_probe.specs.declared.transaction.Answer.TheVariants.{Okay, Damaged, Wait, Fault, Missing}
use Rattle.swd_dap_probe.specs.Transactions.{dap_value, dap_word_answer, DapBehind, reads}
use Rattle.swd_dap_probe.specs.Transactions.{writes, waits, faults, misses}
use Rattle.swd_dap_probe.specs.Transactions.{DapPersists, DapMade, DapMadeGo}
use Rattle.swd_dap_probe.specs.Transfers.{DapStep, Makes, Tells, Seeks, Masks}
use Rattle.swd_dap_probe.specs.Transfers.{Counts, DapRun, dap_run, dap_made_by, dap_told}
use Rattle.swd_dap_probe.specs.Transfers.{dap_post, DapStops, DapByAnswer}
use Rattle.swd_dap_probe.specs.Transfers.{DapByMatch, DapSeeks, DapStepsGo, DapStepsMade}
use Rattle.swd_dap_probe.specs.Transfers.{dap_asked, dap_asked_list, dap_next, dap_next_pending, dap_finish, dap_steps}
use Rattle.swd_dap_probe.specs.Transfers.{dap_transfer_value, dap_block_by, dap_block_reads, dap_block_writes}
use Rattle.swd_dap_probe.specs.declared.transfers.Asked.{Asked}
use Rattle.swd_dap_probe.specs.declared.transfers.Pending.{Pending}
use Rattle.swd_dap_probe.specs.declared.shape.Items.TheVariants.{Transfers}
use Rattle.swd_dap_probe.specs.Shapes.{dap_item_shape}
use Rattle.swd_dap_probe.proofs.TransactionLemmas.{made_append}

-- BY HOW A TRANSACTION WAS ANSWERED

by_answer : (answer : Answer) (P Q : ℕ → Type 0) (S T : Type 0) → ((word : ℕ) → P word → Q word) → (S → T)
    → DapByAnswer answer P S → DapByAnswer answer Q T
by_answer (Okay word) P Q S T f g h = f word h
by_answer Damaged P Q S T f g h = g h
by_answer Wait P Q S T f g h = g h
by_answer Fault P Q S T f g h = g h
by_answer (Missing seen) P Q S T f g h = g h

by_match : (b : Bool) (A B C D : Type 0) → (A → C) → (B → D) → DapByMatch b A B → DapByMatch b C D
by_match true A B C D f g h = f h
by_match false A B C D f g h = g h

-- STEPS BEHIND OTHERS

-- where all were OK
seeks_then : (n : ℕ) (request : Request) (wanted : ℕ) (run mid to : DapRun) (P Q : List DapMade → Type 0)
    (made more : List DapMade) (value v : ℕ) → value ≡ 1 → ((rest : List DapMade) → P rest → Q (rest ++ more))
    → DapSeeks n request wanted run P made value mid → DapSeeks n request wanted run Q (made ++ more) v to
seeks_then zero request wanted run mid to P Q made more value v one f h = absurd (omega (arith, one, h.1))
seeks_then (suc n) request wanted run mid to P Q made more value v one f (answer, rest, e, h) = (
  answer,
  rest ++ more,
  ap (λ x. x ++ more) e,
  by_answer answer _ _ _ _
      (λ word k. by_match _ _ _ _ _ (f rest)
      (seeks_then n request wanted run mid to P Q rest more value v one f) k)
      (λ k. absurd (k.told one)) h,
)

pub performs_then : (settings : Settings) (from mid to : DapRun) (a b : List DapStep) (made more : List DapMade)
    (value v : ℕ) → value ≡ 1 → DapStepsGo settings from a made value mid → DapStepsGo settings mid b more v to
    → DapStepsGo settings from (a ++ b) (made ++ more) v to
performs_then settings from mid to [] b made more value v one h k =
    subst (λ x. DapStepsGo settings from b (x ++ more) v to) (sym h.0)
    (subst (λ x. DapStepsGo settings x b more v to) h.2 k)
performs_then settings from mid to (Counts ∷ a) b made more value v one h k =
    performs_then settings (dap_run (suc from.count) from.words from.mask) mid to a b made more value v one h k
performs_then settings from mid to (Masks word ∷ a) b made more value v one h k =
    performs_then settings (dap_run from.count from.words word) mid to a b made more value v one h k
performs_then settings from mid to (Makes request word ∷ a) b made more value v one (answer, rest, e, h) k = (
  answer,
  rest ++ more,
  ap (λ x. x ++ more) e,
  by_answer answer _ _ _ _ (λ _ j. performs_then settings from mid to a b rest more value v one j k)
      (λ j. absurd (j.told one)) h,
)
performs_then settings from mid to (Tells request ∷ a) b made more value v one (answer, rest, e, h) k = (
  answer,
  rest ++ more,
  ap (λ x. x ++ more) e,
  by_answer answer _ _ _ _
      (λ word j. performs_then settings (dap_run from.count (from.words ++ to_le_bytes w32 word) from.mask) mid to a b
      rest more value v one j k)
      (λ j. absurd (j.told one)) h,
)
performs_then settings from mid to (Seeks request wanted ∷ a) b made more value v one h k =
    seeks_then (suc settings.matches) request wanted from mid to _ _ made more value v one
    (λ rest j. performs_then settings from mid to a b rest more value v one j k) h

-- where one wasn't
seeks_stop : (n : ℕ) (request : Request) (wanted : ℕ) (run to : DapRun) (P Q : List DapMade → Type 0)
    (made : List DapMade) (value : ℕ) → ((rest : List DapMade) → P rest → Q rest)
    → DapSeeks n request wanted run P made value to → DapSeeks n request wanted run Q made value to
seeks_stop zero request wanted run to P Q made value f h = h
seeks_stop (suc n) request wanted run to P Q made value f (answer, rest, e, h) = (
  answer,
  rest,
  e,
  by_answer answer _ _ _ _
      (λ word k. by_match _ _ _ _ _ (f rest) (seeks_stop n request wanted run to P Q rest value f) k) (λ k. k) h,
)

pub performs_stop : (settings : Settings) (from to : DapRun) (a b : List DapStep) (made : List DapMade) (value : ℕ)
    → (value ≡ 1 → ⊥) → DapStepsGo settings from a made value to → DapStepsGo settings from (a ++ b) made value to
performs_stop settings from to [] b made value not h = absurd (not h.1)
performs_stop settings from to (Counts ∷ a) b made value not h =
    performs_stop settings (dap_run (suc from.count) from.words from.mask) to a b made value not h
performs_stop settings from to (Masks word ∷ a) b made value not h =
    performs_stop settings (dap_run from.count from.words word) to a b made value not h
performs_stop settings from to (Makes request word ∷ a) b made value not (answer, rest, e, h) = (
  answer,
  rest,
  e,
  by_answer answer _ _ _ _ (λ _ j. performs_stop settings from to a b rest value not j) (λ j. j) h,
)
performs_stop settings from to (Tells request ∷ a) b made value not (answer, rest, e, h) = (
  answer,
  rest,
  e,
  by_answer answer _ _ _ _
      (λ word j. performs_stop settings (dap_run from.count (from.words ++ to_le_bytes w32 word) from.mask) to a b rest
      value not j)
      (λ j. j) h,
)
performs_stop settings from to (Seeks request wanted ∷ a) b made value not h =
    seeks_stop (suc settings.matches) request wanted from to _ _ made value
    (λ rest j. performs_stop settings from to a b rest value not j) h

-- OVER A LINE

equals : (a b : ℕ) → a ≡ b → (a == b) ≡ true
equals a b e = eq-eqb a b e

differs : (a b : ℕ) → (a ≡ b → ⊥) → (a == b) ≡ false
differs a b e = ne_eqb a b e

-- the number of the result where there is a request
pub transfer_value : (count value : ℕ) → 0 < count → value ≡ dap_transfer_value count value
transfer_value count value some =
    let not : count ≡ 0 → ⊥ = λ e. absurd (omega (arith, some, e)) in
    subst (λ b. value ≡ (if b then 0 else value)) (sym (differs count 0 not)) refl

word_isn't : (word : Option ℕ) (bits : ℕ) → dap_word_answer word ≡ Missing bits → ⊥
word_isn't None bits e = absurd (cc)
word_isn't (Some word) bits e = absurd (cc)

-- the steps of a block that is not empty and reads
pub block_reads : (request : Request) (bytes : List ℕ) (n : ℕ) → 0 < n → request.read ≡ true
    → dap_block_by request bytes n ≡ dap_post request ++ dap_block_reads request n
block_reads request bytes zero some e = absurd (omega (arith, some))
block_reads request bytes (suc n) some e = ap (λ b. if b then dap_post request ++ dap_block_reads request (suc n)
    else dap_block_writes request (drop 5 bytes) 0 (suc n)) e

-- and of one that writes
pub block_writes : (request : Request) (bytes : List ℕ) (n : ℕ) → 0 < n → request.read ≡ false
    → dap_block_by request bytes n ≡ dap_block_writes request (drop 5 bytes) 0 n
block_writes request bytes zero some e = absurd (omega (arith, some))
block_writes request bytes (suc n) some e = ap (λ b. if b then dap_post request ++ dap_block_reads request (suc n)
    else dap_block_writes request (drop 5 bytes) 0 (suc n)) e

module _ {L : Type 0} (clock : SequenceClock L) (settings : Settings) where
  -- no step
  pub does_none : (run : DapRun) (s : L) → DapStepsMade clock settings [] 1 run run s s
  does_none run s = record { made = []; go = refl; performs = (refl, refl, refl) }

  -- steps that were all OK, and others behind them
  pub does_then : (a b : List DapStep) (value v : ℕ) (from mid to : DapRun) (s m t : L) → value ≡ 1
      → DapStepsMade clock settings a value from mid s m → DapStepsMade clock settings b v mid to m t
      → DapStepsMade clock settings (a ++ b) v from to s t
  does_then a b value v from mid to s m t one h k = record {
    made = h.made ++ k.made;
    go = made_append clock settings h.made k.made s m t h.go k.go;
    performs = performs_then settings from mid to a b h.made k.made value v one h.performs k.performs;
  }

  -- steps of which one wasn't OK: those behind them make nothing
  pub does_stop : (a b : List DapStep) (value : ℕ) (from to : DapRun) (s t : L) → (value ≡ 1 → ⊥)
      → DapStepsMade clock settings a value from to s t → DapStepsMade clock settings (a ++ b) value from to s t
  does_stop a b value from to s t not h = record {
    made = h.made;
    go = h.go;
    performs = performs_stop settings from to a b h.made value not h.performs;
  }

  -- What isn't OK has another number: three bits that are no acknowledgement aren't 1.
  seen_behind : (request : Request) (word seen bits : ℕ) (answer : Answer) (s t : L) → answer ≡ Missing bits
      → bits ≡ 1 → DapBehind clock settings request word seen answer s t → ⊥
  seen_behind request word seen bits answer s t is one (reads a b sent h c) =
      word_isn't (data_phase_word sent) bits (sym c ∙ is)
  seen_behind request word seen bits answer s t is one (writes a b h c) = absurd (cc)
  seen_behind request word seen bits answer s t is one (waits a h c) = absurd (cc)
  seen_behind request word seen bits answer s t is one (faults a h c) = absurd (cc)
  seen_behind request word seen bits answer s t is one (misses a b c h d) =
      a (sym (ap dap_value (sym is ∙ d)) ∙ one)

  missing_isn't : (request : Request) (word bits : ℕ) (s t : L)
      → DapPersists clock settings request word (Missing bits) s t → bits ≡ 1 → ⊥
  missing_isn't request word bits s t h one =
      seen_behind request word h.last.seen bits (Missing bits) h.last.m t refl one h.last.behind

  -- One request is made: this holds of its word, or it stops.
  pub answered : (answer : Answer) (request : Request) (word value : ℕ) (P : ℕ → Type 0) (run to : DapRun) (s t : L)
      → value ≡ dap_value answer → DapPersists clock settings request word answer s t
      → ((read : ℕ) → answer ≡ Okay read → P read) → (dap_told answer ≡ [] → to ≡ run)
      → DapByAnswer answer P (DapStops answer [] value run to)
  answered (Okay read) request word value P run to s t is h f e = f read refl
  answered Damaged request word value P run to s t is h f e =
      record { none = refl; is = is; told = λ one. absurd (omega (arith, one, is)); run = e refl }
  answered Wait request word value P run to s t is h f e =
      record { none = refl; is = is; told = λ one. absurd (omega (arith, one, is)); run = e refl }
  answered Fault request word value P run to s t is h f e =
      record { none = refl; is = is; told = λ one. absurd (omega (arith, one, is)); run = e refl }
  answered (Missing bits) request word value P run to s t is h f e = record {
    none = refl;
    is = is;
    told = λ one. missing_isn't request word bits s t h (sym is ∙ one);
    run = e refl;
  }

  -- a transaction, whose word is not told
  pub does_make : (request : Request) (word : ℕ) (answer : Answer) (value : ℕ) (run : DapRun) (s t : L)
      → value ≡ dap_value answer → DapPersists clock settings request word answer s t
      → DapStepsMade clock settings (Makes request word ∷ []) value run run s t
  does_make request word answer value run s t is h = record {
    made = dap_made_by request word answer ∷ [];
    go = (t, h, refl);
    performs = (
      answer,
      [],
      refl,
      answered answer request word value _ run run s t is h (λ read e. (refl, is ∙ ap dap_value e, refl)) (λ _. refl),
    );
  }

  -- a read, whose word is told
  pub does_tell : (request : Request) (answer : Answer) (value count : ℕ) (words told : List ℕ) (mask : ℕ) (s t : L)
      → value ≡ dap_value answer → told ≡ words ++ dap_told answer
      → DapPersists clock settings request 0 answer s t
      → DapStepsMade clock settings (Tells request ∷ []) value (dap_run count words mask) (dap_run count told mask) s t
  does_tell request answer value count words told mask s t is e h = record {
    made = dap_made_by request 0 answer ∷ [];
    go = (t, h, refl);
    performs = (
      answer,
      [],
      refl,
      answered answer request 0 value _ (dap_run count words mask) (dap_run count told mask) s t is h
          (λ read k. (
            refl,
            is ∙ ap dap_value k,
            ap (λ x. dap_run count x mask) (e ∙ ap (λ a. words ++ dap_told a) k),
          ))
          (λ k. ap (λ x. dap_run count x mask) (e ∙ ap (λ x. words ++ x) k ∙ append-nil words)),
    );
  }

  -- a read that is made again, at most so many times, and nothing else
  pub record SeeksGo (n : ℕ) (request : Request) (wanted : ℕ) (run : DapRun) (value : ℕ) (s t : L) : Type 0 where
    pub made : List DapMade
    pub go : DapMadeGo clock settings made s t
    pub seeks : DapSeeks n request wanted run (λ rest. DapStepsGo settings run [] rest value run) made value run

  -- If the reads that are left go by from here, all of them did.
  abbrev pub SeeksLead : Request → ℕ → ℕ → ℕ → L → L → Type 0
  SeeksLead request wanted mask n s0 s = (count : ℕ) (words : List ℕ) (value : ℕ) (t : L)
      → SeeksGo n request wanted (dap_run count words mask) value s t
      → DapStepsMade clock settings (dap_post request ++ Seeks request wanted ∷ []) value (dap_run count words mask)
      (dap_run count words mask) s0 t

  -- before the first read
  pub seeks_first : (request : Request) (wanted mask n value : ℕ) (s0 s : L) → n ≡ suc settings.matches → value ≡ 1
      → ((run : DapRun) → DapStepsMade clock settings (dap_post request) value run run s0 s)
      → SeeksLead request wanted mask n s0 s
  seeks_first request wanted mask n value s0 s e one h = λ count words v t k.
      let run = dap_run count words mask in
      let all = subst (λ x. SeeksGo x request wanted run v s t) e k in
      does_then (dap_post request) (Seeks request wanted ∷ []) value v run run run s0 s t one (h run)
      (record { made = all.made; go = all.go; performs = all.seeks })

  -- a word that doesn't match
  pub seeks_next : (request : Request) (wanted mask n m word : ℕ) (answer : Answer) (s0 s t : L) → m ≡ suc n
      → answer ≡ Okay word → (bit_and word mask ≡ wanted → ⊥)
      → DapPersists clock settings request 0 answer s t → SeeksLead request wanted mask m s0 s
      → SeeksLead request wanted mask n s0 t
  seeks_next request wanted mask n m word answer s0 s t e is other h lead = λ count words v u k.
      let run = dap_run count words mask in
      lead count words v u (subst (λ x. SeeksGo x request wanted run v s u) (sym e) (record {
        made = dap_made_by request 0 (Okay word) ∷ k.made;
        go = (t, subst (λ x. DapPersists clock settings request 0 x s t) is h, k.go);
        seeks = (
          Okay word,
          k.made,
          refl,
          subst (λ b. DapByMatch b (DapStepsGo settings run [] k.made v run)
              (DapSeeks n request wanted run (λ rest. DapStepsGo settings run [] rest v run) k.made v run))
              (sym (differs _ _ other)) k.seeks,
        );
      }))

  -- the word that matches
  pub seeks_found : (request : Request) (wanted mask n m word : ℕ) (answer : Answer) (s0 s t : L) → m ≡ suc n
      → answer ≡ Okay word → bit_and word mask ≡ wanted
      → DapPersists clock settings request 0 answer s t → SeeksLead request wanted mask m s0 s
      → (count : ℕ) (words : List ℕ)
      → DapStepsMade clock settings (dap_post request ++ Seeks request wanted ∷ []) 1 (dap_run count words mask)
      (dap_run count words mask) s0 t
  seeks_found request wanted mask n m word answer s0 s t e is same h lead count words =
      let run = dap_run count words mask in
      lead count words 1 t (subst (λ x. SeeksGo x request wanted run 1 s t) (sym e) (record {
        made = dap_made_by request 0 (Okay word) ∷ [];
        go = (t, subst (λ x. DapPersists clock settings request 0 x s t) is h, refl);
        seeks = (
          Okay word,
          [],
          refl,
          subst (λ b. DapByMatch b (DapStepsGo settings run [] [] 1 run)
              (DapSeeks n request wanted run (λ rest. DapStepsGo settings run [] rest 1 run) [] 1 run))
              (sym (equals _ _ same)) (refl, refl, refl),
        );
      }))

  -- a read that isn't OK
  pub seeks_fail : (request : Request) (wanted mask n m value : ℕ) (answer : Answer) (s0 s t : L) → m ≡ suc n
      → value ≡ dap_value answer → ((word : ℕ) → answer ≡ Okay word → ⊥)
      → DapPersists clock settings request 0 answer s t → SeeksLead request wanted mask m s0 s
      → (count : ℕ) (words : List ℕ)
      → DapStepsMade clock settings (dap_post request ++ Seeks request wanted ∷ []) value (dap_run count words mask)
      (dap_run count words mask) s0 t
  seeks_fail request wanted mask n m value answer s0 s t e is not h lead count words =
      let run = dap_run count words mask in
      lead count words value t (subst (λ x. SeeksGo x request wanted run value s t) (sym e) (record {
        made = dap_made_by request 0 answer ∷ [];
        go = (t, h, refl);
        seeks = (
          answer,
          [],
          refl,
          answered answer request 0 value _ run run s t is h (λ read k. absurd (not read k)) (λ _. refl),
        );
      }))

  pub seeks_last : (request : Request) (wanted mask m : ℕ) (s0 s : L) → m ≡ 0 → SeeksLead request wanted mask m s0 s
      → (count : ℕ) (words : List ℕ)
      → DapStepsMade clock settings (dap_post request ++ Seeks request wanted ∷ []) 17 (dap_run count words mask)
      (dap_run count words mask) s0 s
  seeks_last request wanted mask m s0 s e lead count words =
      let run = dap_run count words mask in
      lead count words 17 s (subst (λ x. SeeksGo x request wanted run 17 s s) (sym e) (record {
        made = [];
        go = refl;
        seeks = (refl, refl, refl);
      }))

  -- If the steps that are left are performed from here, all of them are from there.
  abbrev pub StepsLead : List DapStep → DapRun → List DapStep → DapRun → L → L → Type 0
  StepsLead steps from left run s0 s = (value : ℕ) (to : DapRun) (t : L)
      → DapStepsMade clock settings left value run to s t → DapStepsMade clock settings steps value from to s0 t

  -- one more request is done
  pub counts_next : (steps : List DapStep) (from : DapRun) (a tail : List DapStep) (value place : ℕ)
      (words told : List ℕ) (mask masked : ℕ) (s0 s m : L) → value ≡ 1
      → DapStepsMade clock settings a value (dap_run place words mask) (dap_run place told masked) s m
      → StepsLead steps from (a ++ Counts ∷ tail) (dap_run place words mask) s0 s
      → StepsLead steps from tail (dap_run (place + 1) told masked) s0 m
  counts_next steps from a tail value place words told mask masked s0 s m one h lead = λ v to t k.
      let c = subst (λ x. DapStepsMade clock settings tail v (dap_run x told masked) to m t) (add-one place) k in
      lead v to t (does_then a (Counts ∷ tail) value v (dap_run place words mask) (dap_run place told masked) to s m t
      one
      h (record { made = c.made; go = c.go; performs = c.performs }))

  -- one isn't
  pub counts_stop : (steps : List DapStep) (from : DapRun) (a tail : List DapStep) (value : ℕ) (run to : DapRun)
      (s0 s m : L) → (value ≡ 1 → ⊥) → DapStepsMade clock settings a value run to s m
      → StepsLead steps from (a ++ Counts ∷ tail) run s0 s → DapStepsMade clock settings steps value from to s0 m
  counts_stop steps from a tail value run to s0 s m not h lead =
      lead value to m (does_stop a (Counts ∷ tail) value run to s m not h)

  -- of a list: the steps that are left begin with those of its first request
  list_lead : (steps : List DapStep) (from run : DapRun) (p : Pending) (asked : Asked) (count place : ℕ)
      (rest : List ℕ) (s0 s : L) → place < count → asked ≡ dap_asked rest
      → StepsLead steps from (dap_steps p (dap_asked_list (count - place) rest)) run s0 s
      → StepsLead steps from (dap_next p asked ++ Counts ∷ dap_steps (dap_next_pending p asked)
      (dap_asked_list (count - (place + 1)) (drop (dap_item_shape Transfers rest).request rest))) run s0 s
  list_lead steps from run p asked count place rest s0 s l e lead =
      let n = count - (place + 1) in
      let left : count - place ≡ suc n = omega (arith, l) in
      subst (λ a. StepsLead steps from (dap_next p a ++ Counts ∷ dap_steps (dap_next_pending p a)
      (dap_asked_list n (drop (dap_item_shape Transfers rest).request rest))) run s0 s) (sym e)
      (subst (λ k. StepsLead steps from (dap_steps p (dap_asked_list k rest)) run s0 s) left lead)

  -- a request of a list is done
  pub transfers_next : (steps : List DapStep) (from : DapRun) (p becomes : Pending) (asked : Asked)
      (count place : ℕ) (rest behind words told : List ℕ) (mask masked value : ℕ) (s0 s m : L) → place < count
      → asked ≡ dap_asked rest → behind ≡ drop (dap_item_shape Transfers rest).request rest → value ≡ 1
      → becomes ≡ dap_next_pending p asked
      → DapStepsMade clock settings (dap_next p asked) value (dap_run place words mask) (dap_run place told masked) s m
      → StepsLead steps from (dap_steps p (dap_asked_list (count - place) rest)) (dap_run place words mask) s0 s
      → StepsLead steps from (dap_steps becomes (dap_asked_list (count - (place + 1)) behind))
      (dap_run (place + 1) told masked) s0 m
  transfers_next steps from p becomes asked count place rest behind words told mask masked value s0 s m l ea eb one ep
      h lead =
      let n = count - (place + 1) in
      let to = dap_run (place + 1) told masked in
      let pending = dap_next_pending p asked in
      let more = drop (dap_item_shape Transfers rest).request rest in
      subst (λ x. StepsLead steps from (dap_steps x (dap_asked_list n behind)) to s0 m) (sym ep)
      (subst (λ x. StepsLead steps from (dap_steps pending (dap_asked_list n x)) to s0 m) (sym eb)
      (counts_next steps from (dap_next p asked) (dap_steps pending (dap_asked_list n more)) value place words told mask
      masked s0 s m one h (list_lead steps from (dap_run place words mask) p asked count place rest s0 s l ea lead)))

  -- one isn't
  pub transfers_stop : (steps : List DapStep) (from run to : DapRun) (p : Pending) (asked : Asked) (count place : ℕ)
      (rest : List ℕ) (value : ℕ) (s0 s m : L) → place < count → asked ≡ dap_asked rest → (value ≡ 1 → ⊥)
      → DapStepsMade clock settings (dap_next p asked) value run to s m
      → StepsLead steps from (dap_steps p (dap_asked_list (count - place) rest)) run s0 s
      → DapStepsMade clock settings steps value from to s0 m
  transfers_stop steps from run to p asked count place rest value s0 s m l e not h lead =
      counts_stop steps from (dap_next p asked) (dap_steps (dap_next_pending p asked)
      (dap_asked_list (count - (place + 1)) (drop (dap_item_shape Transfers rest).request rest))) value run to s0 s m
      not
      h (list_lead steps from run p asked count place rest s0 s l e lead)

  -- behind the last
  pub transfers_last : (steps : List DapStep) (from : DapRun) (p : Pending) (count place : ℕ)
      (rest words told : List ℕ) (mask value : ℕ) (s0 s m : L) → count ≤ place
      → DapStepsMade clock settings (dap_finish p) value (dap_run place words mask) (dap_run place told mask) s m
      → StepsLead steps from (dap_steps p (dap_asked_list (count - place) rest)) (dap_run place words mask) s0 s
      → DapStepsMade clock settings steps value from (dap_run place told mask) s0 m
  transfers_last steps from p count place rest words told mask value s0 s m l h lead =
      let left : count - place ≡ 0 = omega (arith, l) in
      lead value (dap_run place told mask) m
      (subst (λ x. DapStepsMade clock settings (dap_steps p (dap_asked_list x rest)) value
      (dap_run place words mask) (dap_run place told mask) s m) (sym left) h)

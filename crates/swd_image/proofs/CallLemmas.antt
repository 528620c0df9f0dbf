-- Calls one after the other: what they are together, and what they leave.
use Rattle.std.proofs.Common.{◌≡◌, ◌+◌, ◌<◌, ◌≤◌, ℕ, true, false, refl, sym, ap, subst, arith, ◌∙◌, List, [], add-one}
use Rattle.std.proofs.Common.{get_or, ◌∷◌, ◌++◌, length, drop, append_assoc, Some, None, inl}
use Rattle.std.specs.Prelude.{if◌then◌else◌, Option, Bool}
use Rattle.std.proofs.Math.Seq.{drop-cons}
use Rattle.std.proofs.lemmas.List.{append-nil, drop_all, length-append, length-drop}
use Rattle.std.specs.Ordering.{nat_cmp}
use Rattle.std.specs.FinMap.{FinMap}
use Rattle.swd_port.specs.declared.access.Access.{Access}
use Rattle.swd_port.specs.declared.access.Answer.{Answer}
use Rattle.swd_port.specs.PlainMemory.{plain_address}
use Rattle.swd_host.specs.declared.outcome.End.TheVariants.{All}
use Rattle.swd_host.specs.Again.{resume_added}
use Rattle.swd_port.specs.PlainBus.{IsPlain, plain_words_of}
use Rattle.swd_host.proofs.ReadChains.{resume_chain_plain}
use Rattle.swd_host.specs.Reports.{HostReport, IsAtRest}
use Rattle.swd_script.specs.Scripts.{ScriptListed}
use Rattle.swd_host.specs.declared.task.Bursts.{Bursts}
use Rattle.swd_host.specs.Bursts.{bursts_limit}
use Rattle.swd_run.specs.GoingOn.{ScriptCalls, ran, resumed}
use Rattle.swd_run.specs.Sessions.{ScriptRun, batch_bursts}
use Rattle.swd_run.specs.declared.going_on.Stop.{Stop}
use Rattle.swd_run.proofs.WentLemmas.{law_before, rests, tell_of}
use Rattle.swd_run.specs.declared.limits.Limits.{Limits}
use Rattle.swd_port.specs.declared.wire.Wire.{Ghosts}
use Rattle.swd_image.specs.Sessions.{AreImageDone, Call, Calls, Fails, FailsAs, FailsNext, MadeAll, ReadsAs}
use Rattle.swd_image.specs.Sessions.{image_first_failed, is_image_done, none, more, image_words_read}
use Rattle.swd_image.specs.declared.fault.ImageFault.{ImageFault}
use Rattle.swd_image.specs.declared.fault.ImageFault.TheVariants.{Range, Memory, Stopped, Report, BusFault as FaultAt}
use Rattle.swd_image.proofs.ChainLemmas.{AllIn, AllTell, Held, Kept, chain_keeps, all_later}

-- ---- answers

-- where none failed, and there is an answer for each, all are done
pub image_accesses_all_done : (list : List Access) (answers : List Answer) → length answers ≡ length list
    → image_first_failed list answers ≡ None → AreImageDone list answers
image_accesses_all_done [] [] l f = tt
image_accesses_all_done [] (x ∷ answers) l f = absurd (omega arith)
image_accesses_all_done (a ∷ list) [] l f = absurd (omega arith)
image_accesses_all_done (a ∷ list) (x ∷ answers) l f =
    let test : Bool → Option ℕ = λ b. if b then image_first_failed list answers else Some (plain_address a) in
    elim (is_image_done a x) as (λ b. is_image_done a x ≡ b → (is_image_done a x ≡ true) × AreImageDone list answers) [
      | true ↦ λ e. (e, image_accesses_all_done list answers (omega arith) (sym (ap test e) ∙ f))
      | false ↦ λ e. absurd (let g : Some (plain_address a) ≡ None = sym (ap test e) ∙ f in cc)
    ] refl

-- the first access that failed is the first one of those from here on, or among those after it
failed_left : (list : List Access) (answers : List Answer) (i : ℕ) (d : Access) (e : Answer) → i < length list
    → i < length answers
    → image_first_failed (drop i list) (drop i answers) ≡ (if is_image_done (get_or list i d) (get_or answers i e)
    then image_first_failed (drop (i + 1) list) (drop (i + 1) answers) else Some (plain_address (get_or list i d)))
failed_left list answers i d e low few =
    ap (λ l. image_first_failed l (drop i answers))
    (drop-cons list i d low ∙ ap (λ n. get_or list i d ∷ drop n list) (sym (add-one i)))
    ∙ ap (λ l. image_first_failed (get_or list i d ∷ drop (i + 1) list) l)
    (drop-cons answers i e few ∙ ap (λ n. get_or answers i e ∷ drop n answers) (sym (add-one i)))

-- of the accesses from an index on, that at the index is the first that failed, if it wasn't done
pub image_first_failed_here : (list : List Access) (answers : List Answer) (i : ℕ) (d : Access) (e : Answer)
    → i < length list → i < length answers → is_image_done (get_or list i d) (get_or answers i e) ≡ false
    → image_first_failed (drop i list) (drop i answers) ≡ Some (plain_address (get_or list i d))
image_first_failed_here list answers i d e low few is =
    failed_left list answers i d e low few
    ∙ ap (λ b. if b then image_first_failed (drop (i + 1) list) (drop (i + 1) answers)
    else Some (plain_address (get_or list i d))) is

-- if it was done, the first that failed is the first of those after it
pub image_first_failed_later : (list : List Access) (answers : List Answer) (i : ℕ) (d : Access) (e : Answer)
    → i < length list → i < length answers → is_image_done (get_or list i d) (get_or answers i e) ≡ true
    → image_first_failed (drop i list) (drop i answers) ≡ image_first_failed (drop (i + 1) list) (drop (i + 1) answers)
image_first_failed_later list answers i d e low few is =
    failed_left list answers i d e low few
    ∙ ap (λ b. if b then image_first_failed (drop (i + 1) list) (drop (i + 1) answers)
    else Some (plain_address (get_or list i d))) is

-- of no accesses, none failed
pub image_none_failed_left : (list : List Access) (answers : List Answer) (i : ℕ) → length list ≤ i
    → image_first_failed (drop i list) (drop i answers) ≡ None
image_none_failed_left list answers i high = ap (λ l. image_first_failed l (drop i answers)) (drop_all i list high)

done_append : (xs ys : List Access) (vs ws : List Answer) → AreImageDone xs vs → AreImageDone ys ws
    → AreImageDone (xs ++ ys) (vs ++ ws)
done_append [] ys [] ws h g = g
done_append [] ys (v ∷ vs) ws h g = absurd h
done_append (x ∷ xs) ys [] ws h g = absurd h
done_append (x ∷ xs) ys (v ∷ vs) ws h g = (h.0, done_append xs ys vs ws h.1 g)

pub image_words_append : (xs ys : List Answer)
    → image_words_read (xs ++ ys) ≡ image_words_read xs ++ image_words_read ys
image_words_append [] ys = refl
image_words_append (x ∷ xs) ys = grind (arith, image_words_append xs ys)

-- ---- lists that are as they have to be

module _ (want : ℕ → ℕ) (P : ℕ → Type 0) (words : FinMap nat_cmp ℕ) where
  all_front : (xs ys : List Access) → AllIn want P words (xs ++ ys) → AllIn want P words xs
  all_front [] ys h = tt
  all_front (x ∷ xs) ys h = (h.0, all_front xs ys h.1)

  all_back : (xs ys : List Access) → AllIn want P words (xs ++ ys) → AllIn want P words ys
  all_back [] ys h = h
  all_back (x ∷ xs) ys h = all_back xs ys h.1

  tells_both : (now : FinMap nat_cmp ℕ) (xs ys : List Access) (vs ws : List Answer) → AreImageDone xs vs
      → AllTell want P words now xs vs → AllTell want P words now ys ws
      → AllTell want P words now (xs ++ ys) (vs ++ ws)
  tells_both now [] ys [] ws d h g = g
  tells_both now [] ys (v ∷ vs) ws d h g = absurd d
  tells_both now (x ∷ xs) ys [] ws d h g = absurd d
  tells_both now (x ∷ xs) ys (v ∷ vs) ws d h g = (h.0, tells_both now xs ys vs ws d.1 h.1 g)

-- ---- one call

module _ {W : Type 0} (wire : Ghosts W) (kind : Bursts) (list : List Access)
    (tries : ℕ) (s : W) where
  -- a run that ended all answered each access
  pub answered_all : (stops : List Stop) (told : HostReport) (t : W)
      → ScriptCalls wire kind list tries s stops told t
      → told.ended ≡ All → length told.answers ≡ length list
  answered_all stops told t (ran same closes over says) all = closes.whole all
  answered_all stops told t (resumed {earlier = e} {told = a} went lost same goes over says) all =
      let h = goes.closes.whole all in
      let kept = ap length goes.kept ∙ length-append e.answers (resume_added e a) in
      let rest = length-drop (length e.answers) list in
      let number = goes.number in
      omega (arith, h, kept, rest, number)

-- ---- calls one after the other

module _ {W : Type 0} (wire : Ghosts W) (limits : Limits) where
  pub one_call : (s t : W) (batch : ScriptListed) (run : ScriptRun) → Call wire limits batch s run t
      → run.told.ended ≡ All → AreImageDone batch.accesses run.told.answers
      → Calls wire limits s batch.accesses run.told.answers t
  one_call s t batch run call all done = more none call all done

  pub calls_append : (s t u : W) (xs ys : List Access) (vs ws : List Answer)
      → Calls wire limits s xs vs t → Calls wire limits t ys ws u
      → Calls wire limits s (xs ++ ys) (vs ++ ws) u
  calls_append s t u xs ys vs ws h none =
      subst (λ l. Calls wire limits s l (vs ++ []) t) (sym (append-nil xs))
      (subst (λ l. Calls wire limits s xs l t) (sym (append-nil vs)) h)
  calls_append s t u xs ys vs ws h
      (more {list = list} {answers = answers} {t = r} {u = v} {batch = batch} {run = run} before call all done) =
      subst (λ l. Calls wire limits s l (vs ++ (answers ++ run.told.answers)) v)
      (append_assoc xs list batch.accesses)
      (subst (λ l. Calls wire limits s ((xs ++ list) ++ batch.accesses) l v)
      (append_assoc vs answers run.told.answers)
      (more (calls_append s t r xs list vs answers h before) call all done))

  after : (s t u : W) (xs ys : List Access) (vs : List Answer) (P : ScriptListed → ScriptRun → Type 0)
      → Calls wire limits s xs vs t → Fails wire limits ys t u P
      → Fails wire limits (xs ++ ys) s u P
  after s t u xs ys vs P h f = record {
    before = xs ++ f.before;
    answers = vs ++ f.answers;
    reached = f.reached;
    calls = calls_append s t f.reached xs f.before vs f.answers h f.calls;
    batch = f.batch;
    run = f.run;
    last = f.last;
    rest = f.rest;
    split = ap (λ l. xs ++ l) f.split ∙ sym (append_assoc xs f.before (f.batch.accesses ++ f.rest));
    ended = f.ended;
  }

  sooner : (s u : W) (xs ys : List Access) (P : ScriptListed → ScriptRun → Type 0)
      → Fails wire limits xs s u P → Fails wire limits (xs ++ ys) s u P
  sooner s u xs ys P f = record {
    before = f.before;
    answers = f.answers;
    reached = f.reached;
    calls = f.calls;
    batch = f.batch;
    run = f.run;
    last = f.last;
    rest = f.rest ++ ys;
    split = ap (λ l. l ++ ys) f.split ∙ append_assoc f.before (f.batch.accesses ++ f.rest) ys
        ∙ ap (λ l. f.before ++ l) (append_assoc f.batch.accesses f.rest ys);
    ended = f.ended;
  }

  -- a call that failed
  pub call_fails : (s u : W) (batch : ScriptListed) (run : ScriptRun) (P : ScriptListed → ScriptRun → Type 0)
      → Call wire limits batch s run u → P batch run
      → Fails wire limits batch.accesses s u P
  call_fails s u batch run P call ended = record {
    before = [];
    answers = [];
    reached = s;
    calls = none;
    batch = batch;
    run = run;
    last = call;
    rest = [];
    split = sym (append-nil batch.accesses);
    ended = ended;
  }

  -- calls of which a next one wasn't made, after others
  next_after : (s t u : W) (xs ys : List Access) (vs : List Answer) → Calls wire limits s xs vs t
      → FailsNext wire limits ys t u → FailsNext wire limits (xs ++ ys) s u
  next_after s t u xs ys vs h f = record {
    before = xs ++ f.before;
    answers = vs ++ f.answers;
    calls = calls_append s t u xs f.before vs f.answers h f.calls;
    rest = f.rest;
    split = ap (λ l. xs ++ l) f.split ∙ sym (append_assoc xs f.before f.rest);
  }

  -- and where more was to come
  next_sooner : (s u : W) (xs ys : List Access) → FailsNext wire limits xs s u → FailsNext wire limits (xs ++ ys) s u
  next_sooner s u xs ys f = record {
    before = f.before;
    answers = f.answers;
    calls = f.calls;
    rest = f.rest ++ ys;
    split = ap (λ l. l ++ ys) f.split ∙ append_assoc f.before f.rest ys;
  }

  -- calls for the first part of a list, and then no more
  pub stops_next : (s t : W) (xs ys list : List Access) (vs : List Answer) → Calls wire limits s xs vs t
      → list ≡ xs ++ ys → FailsNext wire limits list s t
  stops_next s t xs ys list vs h is = record { before = xs; answers = vs; calls = h; rest = ys; split = is }

  -- calls that failed, after others
  pub fails_after : (s t u : W) (xs ys : List Access) (vs : List Answer) (fault : ImageFault)
      → Calls wire limits s xs vs t → FailsAs wire limits ys t u fault
      → FailsAs wire limits (xs ++ ys) s u fault
  fails_after s t u xs ys vs Range h f = absurd f
  fails_after s t u xs ys vs Memory h f = next_after s t u xs ys vs h f
  fails_after s t u xs ys vs (Stopped end) h f = after s t u xs ys vs _ h f
  fails_after s t u xs ys vs (FaultAt at) h f = after s t u xs ys vs _ h f
  fails_after s t u xs ys vs Report h f = after s t u xs ys vs _ h f

  -- and where more was to come
  pub fails_before : (s u : W) (xs ys : List Access) (fault : ImageFault)
      → FailsAs wire limits xs s u fault
      → FailsAs wire limits (xs ++ ys) s u fault
  fails_before s u xs ys Range f = absurd f
  fails_before s u xs ys Memory f = next_sooner s u xs ys f
  fails_before s u xs ys (Stopped end) f = sooner s u xs ys _ f
  fails_before s u xs ys (FaultAt at) f = sooner s u xs ys _ f
  fails_before s u xs ys Report f = sooner s u xs ys _ f

  -- a call more, of a list and its words
  pub reads_more : (s t u : W) (list : List Access) (words now : List ℕ) (batch : ScriptListed) (run : ScriptRun)
      (next : List Access)
      → ReadsAs wire limits list words s t → Call wire limits batch t run u
      → run.told.ended ≡ All → AreImageDone batch.accesses run.told.answers
      → now ≡ words ++ image_words_read run.told.answers
      → next ≡ list ++ batch.accesses → ReadsAs wire limits next now s u
  reads_more s t u list words now batch run next h call all done pushed longer = record {
    answers = h.answers ++ run.told.answers;
    calls = subst (λ l. Calls wire limits s l (h.answers ++ run.told.answers) u) (sym longer)
        (more h.calls call all done);
    told = pushed ∙ ap (λ l. l ++ image_words_read run.told.answers) h.told ∙ sym
        (image_words_append h.answers run.told.answers);
  }

  -- one call more in which each access was done, after consecutive calls in which each was
  pub made_more : (s t u : W) (list : List Access) (batch : ScriptListed) (run : ScriptRun) (next : List Access)
      → MadeAll wire limits list s t → Call wire limits batch t run u
      → run.told.ended ≡ All → AreImageDone batch.accesses run.told.answers → next ≡ list ++ batch.accesses
      → MadeAll wire limits next s u
  made_more s t u list batch run next h call all done longer = record {
    answers = h.answers ++ run.told.answers;
    calls = subst (λ l. Calls wire limits s l (h.answers ++ run.told.answers) u) (sym longer)
        (more h.calls call all done);
  }

  -- calls that read some words, and then calls that read others, read the ones and then the others
  pub reads_append : (s t u : W) (xs ys : List Access) (vs ws : List ℕ)
      → ReadsAs wire limits xs vs s t → ReadsAs wire limits ys ws t u
      → ReadsAs wire limits (xs ++ ys) (vs ++ ws) s u
  reads_append s t u xs ys vs ws h g = record {
    answers = h.answers ++ g.answers;
    calls = calls_append s t u xs ys h.answers g.answers h.calls g.calls;
    told = ap (λ l. l ++ ws) h.told ∙ ap (λ l. image_words_read h.answers ++ l) g.told
        ∙ sym (image_words_append h.answers g.answers);
  }

  -- each access was done
  pub calls_done : (s t : W) (list : List Access) (answers : List Answer)
      → Calls wire limits s list answers t → AreImageDone list answers
  calls_done s t list answers none = tt
  calls_done s t list answers
      (more {list = xs} {answers = vs} {t = r} {batch = batch} {run = run} before call all done) =
      done_append xs batch.accesses vs run.told.answers (calls_done s r xs vs before) done

  -- so it was lawful from the start
  pub calls_law : (s t : W) (list : List Access) (answers : List Answer)
      → Calls wire limits s list answers t → wire.lawful t → wire.lawful s
  calls_law s t list answers none law = law
  calls_law s t list answers
      (more {list = xs} {answers = vs} {t = r} {u = v} {batch = batch} {run = run} before call all done) law =
      calls_law s r xs vs before
      (law_before wire (batch_bursts limits.bursts batch) batch.accesses limits.tries r run.stops
      run.told v call.goes.went law)

  -- a call that failed in a list, after those before it
  pub fails_in : (s t u : W) (xs ys zs list : List Access) (vs : List Answer) (fault : ImageFault)
      → Calls wire limits s xs vs t → FailsAs wire limits ys t u fault
      → list ≡ xs ++ (ys ++ zs) → FailsAs wire limits list s u fault
  fails_in s t u xs ys zs list vs fault h f is =
      subst (λ l. FailsAs wire limits l s u fault) (sym is)
      (fails_after s t u xs (ys ++ zs) vs fault h (fails_before t u ys zs fault f))

  -- ---- what they leave, from a target at rest

  pub record Leaves (want : ℕ → ℕ) (P : ℕ → Type 0) (s : W) (list : List Access) (answers : List Answer) (t : W)
      : Type 0 where
    pub at_rest : IsAtRest (wire.port t)
    pub plain : IsPlain (wire.port t).target.memory
    pub held : Held want P (plain_words_of (wire.port s).target.memory) (plain_words_of (wire.port t).target.memory)
    pub tells : AllTell want P (plain_words_of (wire.port s).target.memory) (plain_words_of (wire.port
        t).target.memory) list
        answers

  -- over a lawful wire, from a target at rest, consecutive calls leave it at rest
  pub calls_rest : (s t : W) (list : List Access) (answers : List Answer)
      → Calls wire limits s list answers t → wire.lawful t → IsAtRest (wire.port s) → IsAtRest (wire.port t)
  calls_rest s t list answers none law rest = rest
  calls_rest s t list answers
      (more {list = xs} {answers = vs} {t = r} {u = v} {batch = batch} {run = run} before call all done) law rest =
      let n : Bursts = batch_bursts limits.bursts batch in
      let went = call.goes.went in
      let back : wire.lawful r = law_before wire n batch.accesses limits.tries r
      run.stops run.told v went law in
      rests wire n batch.accesses limits.tries r (calls_rest s r xs vs before back rest)
      run.stops run.told v went
      law all

  module _ (want : ℕ → ℕ) (P : ℕ → Type 0) (s : W) (rest : IsAtRest (wire.port s)) (plain : IsPlain (wire.port
      s).target.memory)
    where
      -- over a lawful wire, from a target at rest, consecutive calls leave it at rest; each word is the one before or
      -- the one to write there; a read word is the one before, unless its address is written; a written word is there
      pub leaves : (t : W) (list : List Access) (answers : List Answer)
          → Calls wire limits s list answers t
          → AllIn want P (plain_words_of (wire.port s).target.memory) list → wire.lawful t → Leaves want P s list
          answers t
      leaves t list answers none i law =
          record { at_rest = rest; plain = plain; held = λ q. inl refl; tells = tt }
      leaves t list answers
          (more {list = xs} {answers = vs} {t = r} {u = v} {batch = batch} {run = run} before call all done) i law =
          let words = (plain_words_of (wire.port s).target.memory) in
          let n : Bursts = batch_bursts limits.bursts batch in
          let went = call.goes.went in
          let back : wire.lawful r = law_before wire n batch.accesses limits.tries r
          run.stops run.told v went law in
          let h = leaves r xs vs before (all_front want P words xs batch.accesses i) back in
          let turns =
          (tell_of wire n batch.accesses limits.tries r h.at_rest run.stops run.told v
          went law).turns in
          let kept = chain_keeps want P words (bursts_limit n) batch.accesses
          (wire.port r).target.memory turns.calls run.told
          turns.memory
          h.plain
          (all_back want P words xs batch.accesses i) h.held turns.chain in
          let there : Kept want P words batch.accesses (plain_words_of (wire.port r).target.memory)
          (plain_words_of (wire.port v).target.memory)
          run.told.answers =
          subst (λ m. Kept want P words batch.accesses (plain_words_of (wire.port r).target.memory) (plain_words_of m)
          run.told.answers)
          (turns.left all) kept in
          record {
            plain = subst IsPlain (turns.left all)
                (resume_chain_plain (bursts_limit n) batch.accesses (wire.port r).target.memory turns.calls
                run.told turns.memory h.plain turns.chain);
            at_rest = rests wire n batch.accesses limits.tries r h.at_rest run.stops
                run.told v went law all;
            held = there.held;
            tells = tells_both want P words (plain_words_of (wire.port v).target.memory) xs batch.accesses vs
                run.told.answers
                (calls_done s r xs vs before)
                (all_later want P words (plain_words_of (wire.port r).target.memory) (plain_words_of (wire.port
                v).target.memory)
                xs vs there.later
                h.tells) there.tells;
          }

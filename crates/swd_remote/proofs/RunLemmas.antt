-- Laws of the calls of a wire, one after the other, over remote_bitbang characters.
use Rattle.std.proofs.Common.{◌≡◌, ℕ, ◌+◌, Bool, true, false, List, [], ◌∷◌, ◌++◌, Option, Some, None, Result}
use Rattle.std.proofs.Common.{Ok, Err, refl, sym, ap, ◌∙◌, subst, arith, append_assoc}
use Rattle.std.specs.Prelude.{nat_le}
use Rattle.std.specs.Io.KnownBytes.{Appends, Consumes}
use Rattle.std.proofs.lemmas.Result.{IfOk-from_err}
use Rattle.std.proofs.KnownBytes.{Consumes-trans, Consumes-nil}
use Rattle.swd_port.specs.declared.outside.Disconnected.{Disconnected}
use Rattle.swd_bits.specs.Bits.{low_bits}
use Rattle.swd_port.specs.declared.cue.Cue.{Cue}
use Rattle.swd_port.specs.declared.cue.Cue.TheVariants.{Lead, Ask, Take, Give, Pass}
use Rattle.swd_port.specs.CueKinds.{is_port_send}
use Rattle.swd_port.specs.Transports.{PortAttempt}
use Rattle.swd_sequences.specs.declared.sequence.Sequence.{Sequence}
use Rattle.swd_remote.specs.declared.remote.Fault.{Fault}
use Rattle.swd_remote.specs.declared.remote.Remote.{Remote}
use Rattle.swd_remote.specs.declared.outgoing.Outgoing.{Outgoing}
use Rattle.swd_sequences.specs.Clocks.{all_sequence_characters, sequence_characters, is_driven_sequence, sequence_looks}
use Rattle.swd_sequences.specs.Clocks.{sequence_levels}
use Rattle.swd_remote.specs.Packets.{probe_sequences, probe_turnaround, probe_has_clocks, ProbeQueues, ProbeQueuesBy}
use Rattle.swd_remote.specs.Packets.{ProbeAnswersBy}
use Rattle.swd_remote.specs.Remotes.{RemoteQueuesAt, RemoteQueuesWithin, RemoteQueued, RemoteExchangesAt, RemoteFailsAs}
use Rattle.swd_remote.specs.Remotes.{RemoteQuitsAt}
use Rattle.swd_remote.specs.Ways.{IsOnRemoteWay, RemoteLengthens}
use Rattle.swd_remote.proofs.WayLemmas.{remote_outgoing_no_more, remote_outgoing_twice}
use Rattle.swd_remote.specs.Runs.{remote_all_sequences, remote_kept_sequences, remote_with_clocks, remote_characters_of}
use Rattle.swd_remote.specs.Runs.{remote_level_count, remote_levels_returned, remote_all_levels}
use Rattle.swd_remote.specs.Runs.{RemoteQueuesTo, RemoteExchangesWith, IsRemoteCallMade, AreRemoteCallsMade}
use Rattle.swd_remote.specs.Runs.{RemoteExact, RemoteEndsAtFault, RemoteExactUpTo, RemoteQuitsExactly}

-- a fault that is there
pub remote_fault_not_none : {A : Type 0} {x : A} → Some x ≡ None → ⊥
remote_fault_not_none e = grind arith

-- whether the host drives after sequences, and how many levels they ask for
abbrev driven_after : Bool → List Sequence → Bool
driven_after drives [] = drives
driven_after drives (sequence ∷ more) = driven_after (is_driven_sequence sequence) more

abbrev all_looks : List Sequence → ℕ
all_looks [] = 0
all_looks (sequence ∷ more) = sequence_looks sequence + all_looks more

-- THE CHARACTERS OF ONE LIST OF SEQUENCES AFTER ANOTHER

kept_append : (b : Bool) (sequence : Sequence) (xs ys : List Sequence)
    → remote_kept_sequences b sequence (xs ++ ys) ≡ remote_kept_sequences b sequence xs ++ ys
kept_append true sequence xs ys = refl
kept_append false sequence xs ys = refl

clocks_append : (xs ys : List Sequence) → remote_with_clocks (xs ++ ys) ≡ remote_with_clocks xs ++ remote_with_clocks ys
clocks_append [] ys = refl
clocks_append (sequence ∷ xs) ys =
    ap (remote_kept_sequences (probe_has_clocks sequence) sequence) (clocks_append xs ys)
    ∙ kept_append (probe_has_clocks sequence) sequence (remote_with_clocks xs) (remote_with_clocks ys)

characters_append : (drives : Bool) (xs ys : List Sequence)
    → all_sequence_characters drives (xs ++ ys) ≡ all_sequence_characters drives xs
    ++ all_sequence_characters (driven_after drives xs) ys
characters_append drives [] ys = refl
characters_append drives (sequence ∷ xs) ys =
    ap (λ l. sequence_characters drives sequence ++ l) (characters_append (is_driven_sequence sequence) xs ys)
    ∙ sym (append_assoc (sequence_characters drives sequence) (all_sequence_characters (is_driven_sequence sequence) xs)
    (all_sequence_characters (driven_after (is_driven_sequence sequence) xs) ys))

driven_append : (drives : Bool) (xs ys : List Sequence)
    → driven_after drives (xs ++ ys) ≡ driven_after (driven_after drives xs) ys
driven_append drives [] ys = refl
driven_append drives (sequence ∷ xs) ys = driven_append (is_driven_sequence sequence) xs ys

no_levels_read : (left : Option (List ℕ)) → Consumes left left (sequence_levels 0 0)
unfolding low_bits
no_levels_read left = Consumes-nil left

-- ONCE THE OTHER END IS GONE

gone_one : {R W : Type 0} (contents : W → Option (List ℕ)) (b : Bool) (sequence : Sequence) (f : Fault)
    (s t : Remote R W)
    → s.fault ≡ Some f → ProbeQueuesBy b (RemoteQueuesTo contents) sequence s t → t ≡ s
gone_one contents true sequence f s t e q = subst (λ o. RemoteQueuesAt o contents sequence s t) e q
gone_one contents false sequence f s t e q = q

gone_queues : {R W : Type 0} (contents : W → Option (List ℕ)) (xs : List Sequence) (f : Fault) (s t : Remote R W)
    → s.fault ≡ Some f → ProbeQueues (RemoteQueuesTo contents) xs s t → t ≡ s
gone_queues contents [] f s t e q = q
gone_queues {R} {W} contents (sequence ∷ xs) f s t e q =
    let same = gone_one contents (probe_has_clocks sequence) sequence f s q.0 e q.1 in
    gone_queues contents xs f q.0 t (ap (λ (r : Remote R W). r.fault) same ∙ e) q.2 ∙ same

-- what is so after, where a fault stays, was so before
well_at : {R W : Type 0} (o : Option Fault) (s t : Remote R W) → s.fault ≡ o → ((f : Fault) → s.fault ≡ Some f → t ≡ s)
    → t.fault ≡ None
    → s.fault ≡ None
well_at None s t e stays w = e
well_at {R} {W} (Some f) s t e stays w =
    absurd (remote_fault_not_none (sym (ap (λ (r : Remote R W). r.fault) (stays f e) ∙ e) ∙ w))

well_queues : {R W : Type 0} (contents : W → Option (List ℕ)) (xs : List Sequence) (s t : Remote R W)
    → ProbeQueues (RemoteQueuesTo contents) xs s t → t.fault ≡ None → s.fault ≡ None
well_queues contents xs s t q w = well_at s.fault s t refl (λ f e. gone_queues contents xs f s t e q) w

gone_answer : {R W : Type 0} (remaining : R → Option (List ℕ)) (contents : W → Option (List ℕ)) (b : Bool)
    (told : Result ℕ Disconnected) (f : Fault) (s t : Remote R W) → s.fault ≡ Some f
    → ProbeAnswersBy b (RemoteExchangesWith remaining contents) told s t → t ≡ s
gone_answer remaining contents true told f s t e h = h.1
gone_answer remaining contents false told f s t e h =
    (subst (λ o. RemoteExchangesAt o remaining contents told s t) e h).1

gone_call : {R W : Type 0} (remaining : R → Option (List ℕ)) (contents : W → Option (List ℕ)) (call : PortAttempt)
    (f : Fault) (s t : Remote R W) → s.fault ≡ Some f → IsRemoteCallMade remaining contents call s t → t ≡ s
gone_call {R} {W} remaining contents call f s t e h =
    let one = gone_queues contents (probe_sequences call.cue) f s h.queued e h.queues in
    let two = gone_answer remaining contents (is_port_send call.cue) call.told f h.queued h.answered
    (ap (λ (r : Remote R W). r.fault) one ∙ e) h.answers ∙ one in
    gone_queues contents (probe_turnaround call.cue) f h.answered t (ap (λ (r : Remote R W). r.fault) two ∙ e) h.turns ∙
    two

gone_calls : {R W : Type 0} (remaining : R → Option (List ℕ)) (contents : W → Option (List ℕ))
    (calls : List PortAttempt) (f : Fault) (s t : Remote R W) → s.fault ≡ Some f
    → AreRemoteCallsMade remaining contents calls s t → t ≡ s
gone_calls remaining contents [] f s t e h = h
gone_calls {R} {W} remaining contents (call ∷ calls) f s t e h =
    let same = gone_call remaining contents call f s h.0 e h.1 in
    gone_calls remaining contents calls f h.0 t (ap (λ (r : Remote R W). r.fault) same ∙ e) h.2 ∙ same

well_answer : {R W : Type 0} (remaining : R → Option (List ℕ)) (contents : W → Option (List ℕ)) (b : Bool)
    (told : Result ℕ Disconnected) (s t : Remote R W)
    → ProbeAnswersBy b (RemoteExchangesWith remaining contents) told s t → t.fault ≡ None → s.fault ≡ None
well_answer remaining contents b told s t h w = well_at s.fault s t refl
    (λ f e. gone_answer remaining contents b told f s t e h) w

-- SEQUENCES THAT ARE QUEUED

-- what sequences did, all of which have clocks
record QueuedAll {R W : Type 0} (contents : W → Option (List ℕ)) (xs : List Sequence) (s t : Remote R W) : Type 0 where
  out : RemoteLengthens contents (all_sequence_characters s.drives xs) s.outgoing t.outgoing
  reader : t.reader ≡ s.reader
  drives : t.drives ≡ driven_after s.drives xs
  asked : t.asked ≡ s.asked + all_looks xs

within : {R W : Type 0} (contents : W → Option (List ℕ)) (b : Bool) (sequence : Sequence) (s t : Remote R W)
    → RemoteQueuesWithin b contents sequence s t → t.fault ≡ None → RemoteQueued contents sequence s t
within contents true sequence s t q w = q
within {R} {W} contents false sequence s t q w =
    absurd (remote_fault_not_none (sym (ap (λ (r : Remote R W). r.fault) q) ∙ w))

one_queued : {R W : Type 0} (contents : W → Option (List ℕ)) (b : Bool) (sequence : Sequence) (xs : List Sequence)
    (s m t : Remote R W)
    → ProbeQueuesBy b (RemoteQueuesTo contents) sequence s m → s.fault ≡ None → m.fault ≡ None
    → QueuedAll contents xs m t
    → QueuedAll contents (remote_kept_sequences b sequence xs) s t
one_queued contents true sequence xs s m t q e w h =
    let x = within contents (nat_le (s.asked + sequence_looks sequence) 64) sequence s m
    (subst (λ o. RemoteQueuesAt o contents sequence s m) e q) w in
    let first = x.asked in
    let then = h.asked in
    record {
      out = remote_outgoing_twice contents _ _ s.outgoing m.outgoing t.outgoing x.out
          (subst (λ d. RemoteLengthens contents (all_sequence_characters d xs) m.outgoing t.outgoing) x.drives h.out);
      reader = h.reader ∙ x.reader;
      drives = h.drives ∙ ap (λ d. driven_after d xs) x.drives;
      asked = omega arith;
    }
one_queued contents false sequence xs s m t q e w h = subst (λ r. QueuedAll contents xs r t) q h

all_queued : {R W : Type 0} (contents : W → Option (List ℕ)) (xs : List Sequence) (s t : Remote R W)
    → ProbeQueues (RemoteQueuesTo contents) xs s t → s.fault ≡ None → t.fault ≡ None
    → QueuedAll contents (remote_with_clocks xs) s t
all_queued {R} {W} contents [] s t q e w =
    subst (λ (r : Remote R W). QueuedAll contents [] s r) (sym q)
    (record {
      out = λ start text h. remote_outgoing_no_more contents start s.outgoing text h;
      reader = refl;
      drives = refl;
      asked =
          omega arith;
    })
all_queued contents (sequence ∷ xs) s t q e w =
    let well = well_queues contents xs q.0 t q.2 w in
    one_queued contents (probe_has_clocks sequence) sequence (remote_with_clocks xs) s q.0 t q.1 e well
    (all_queued contents xs q.0 t q.2 well w)

-- AN ANSWER

-- what an answer of so many levels did: what was on its way is still, or went out
record Answers {R W : Type 0} (remaining : R → Option (List ℕ)) (contents : W → Option (List ℕ)) (count : ℕ)
    (told : Result ℕ Disconnected) (s t : Remote R W) : Type 0 where
  out : (way : Outgoing W) (text : List ℕ) → RemoteLengthens contents text way s.outgoing
      → RemoteLengthens contents text way t.outgoing
  reads : Consumes (remaining s.reader) (remaining t.reader) (remote_levels_returned count told)
  drives : t.drives ≡ s.drives
  asked : t.asked ≡ 0

exchanged : {R W : Type 0} (remaining : R → Option (List ℕ)) (contents : W → Option (List ℕ)) (count : ℕ)
    (told : Result ℕ Disconnected) (s t : Remote R W) → s.asked ≡ count
    → RemoteExchangesAt None remaining contents told s t → t.fault ≡ None → Answers remaining contents count told s t
exchanged remaining contents count (Ok number) s t n h w = record {
  out = λ way text p start was is. (h.out start (was ++ text) (p start was is)).1;
  reads = subst (λ n. Consumes (remaining s.reader) (remaining t.reader) (sequence_levels n number)) n h.reads.0;
  drives = h.drives;
  asked = h.asked;
}
exchanged remaining contents count (Err gone) s t n h w =
    absurd (subst (λ o. RemoteFailsAs o remaining contents s t) w h)

answered : {R W : Type 0} (remaining : R → Option (List ℕ)) (contents : W → Option (List ℕ)) (b : Bool) (count : ℕ)
    (told : Result ℕ Disconnected) (s t : Remote R W) → (b ≡ true → count ≡ 0) → s.asked ≡ count
    → ProbeAnswersBy b (RemoteExchangesWith remaining contents) told s t → s.fault ≡ None → t.fault ≡ None
    → Answers remaining contents count told s t
answered remaining contents true count told s t none n h e w =
    subst (λ r. Answers remaining contents count told s r) (sym h.1)
    (subst (λ o. Answers remaining contents count o s s) (sym h.0)
    (subst (λ k. Answers remaining contents k (Ok 0) s s) (sym (none refl)) (record {
      out = λ way text p. p;
      reads = no_levels_read (remaining s.reader);
      drives = refl;
      asked = n ∙ none refl;
    })))
answered remaining contents false count told s t none n h e w =
    exchanged remaining contents count told s t n (subst (λ o. RemoteExchangesAt o remaining contents told s t) e h) w

-- A CALL

kept_quiet : (b : Bool) (sequence : Sequence) (xs : List Sequence) → sequence_looks sequence ≡ 0 → all_looks xs ≡ 0
    → all_looks (remote_kept_sequences b sequence xs) ≡ 0
kept_quiet true sequence xs e h = omega arith
kept_quiet false sequence xs e h = h

clocks_quiet : (xs : List Sequence) → all_looks xs ≡ 0 → all_looks (remote_with_clocks xs) ≡ 0
clocks_quiet [] h = h
clocks_quiet (sequence ∷ xs) h =
    kept_quiet (probe_has_clocks sequence) sequence (remote_with_clocks xs) (omega arith)
    (clocks_quiet xs (omega arith))

-- the sequences of a cue ask for as many levels as it does, and its turnaround asks for none
cue_looks : (cue : Cue) → all_looks (remote_with_clocks (probe_sequences cue)) ≡ remote_level_count cue
cue_looks (Lead ones undriven switch zeros) = clocks_quiet (probe_sequences (Lead ones undriven switch zeros)) refl
cue_looks (Ask request) = refl
cue_looks Take = refl
cue_looks (Give bits) = refl
cue_looks Pass = refl

turnaround_quiet : (cue : Cue) → all_looks (remote_with_clocks (probe_turnaround cue)) ≡ 0
turnaround_quiet (Lead ones undriven switch zeros) = refl
turnaround_quiet (Ask request) = refl
turnaround_quiet Take = refl
turnaround_quiet (Give bits) = refl
turnaround_quiet Pass = refl

send_quiet : (cue : Cue) → is_port_send cue ≡ true → remote_level_count cue ≡ 0
send_quiet (Lead ones undriven switch zeros) e = refl
send_quiet (Ask request) e = grind arith
send_quiet Take e = grind arith
send_quiet (Give bits) e = refl
send_quiet Pass e = refl

-- the sequences of a cue, its turnaround with them
abbrev cue_clocks : Cue → List Sequence
cue_clocks cue = remote_with_clocks (probe_sequences cue) ++ remote_with_clocks (probe_turnaround cue)

record Steps {R W : Type 0} (remaining : R → Option (List ℕ)) (contents : W → Option (List ℕ)) (call : PortAttempt)
    (s t : Remote R W) : Type 0 where
  out : RemoteLengthens contents (all_sequence_characters s.drives (cue_clocks call.cue)) s.outgoing t.outgoing
  reads : Consumes (remaining s.reader) (remaining t.reader)
      (remote_levels_returned (remote_level_count call.cue) call.told)
  drives : t.drives ≡ driven_after s.drives (cue_clocks call.cue)
  asked : t.asked ≡ 0

step : {R W : Type 0} (remaining : R → Option (List ℕ)) (contents : W → Option (List ℕ)) (call : PortAttempt)
    (s t : Remote R W) → IsRemoteCallMade remaining contents call s t → s.fault ≡ None → s.asked ≡ 0 → t.fault ≡ None
    → Steps remaining contents call s t
step remaining contents call s t h e z w =
    let first = remote_with_clocks (probe_sequences call.cue) in
    let last = remote_with_clocks (probe_turnaround call.cue) in
    let after = well_queues contents (probe_turnaround call.cue) h.answered t h.turns w in
    let before = well_answer remaining contents (is_port_send call.cue) call.told h.queued h.answered h.answers after in
    let a = all_queued contents (probe_sequences call.cue) s h.queued h.queues e before in
    let more = a.asked in
    let looks = cue_looks call.cue in
    let asked : h.queued.asked ≡ remote_level_count call.cue = omega arith in
    let x = answered remaining contents (is_port_send call.cue) (remote_level_count call.cue) call.told h.queued
    h.answered (send_quiet call.cue) asked h.answers before after in
    let b = all_queued contents (probe_turnaround call.cue) h.answered t h.turns after w in
    let drove = x.drives ∙ a.drives in
    let turned = subst (λ d. RemoteLengthens contents (all_sequence_characters d last) h.answered.outgoing t.outgoing)
    drove b.out in
    let quiet = turnaround_quiet call.cue in
    let asks = b.asked in
    let none = x.asked in
    record {
      out = subst (λ l. RemoteLengthens contents l s.outgoing t.outgoing) (sym (characters_append s.drives first last))
          (remote_outgoing_twice contents _ _ s.outgoing h.answered.outgoing t.outgoing (x.out s.outgoing _ a.out)
          turned);
      reads = subst (λ r. Consumes (remaining s.reader) (remaining r)
          (remote_levels_returned (remote_level_count call.cue) call.told))
          (sym b.reader)
          (subst (λ r. Consumes (remaining r) (remaining h.answered.reader)
          (remote_levels_returned (remote_level_count call.cue) call.told))
          a.reader x.reads);
      drives = b.drives ∙ ap (λ d. driven_after d last) drove ∙ sym (driven_append s.drives first last);
      asked = omega arith;
    }

-- CALLS ONE AFTER THE OTHER

none_exact : {R W : Type 0} (remaining : R → Option (List ℕ)) (contents : W → Option (List ℕ)) (s : Remote R W)
    → RemoteExact remaining contents [] s s
none_exact remaining contents s = record {
  out = λ start text h. remote_outgoing_no_more contents start s.outgoing text h;
  reads = Consumes-nil (remaining s.reader);
}

-- the text of a call and of those behind it
text_next : (drives : Bool) (call : PortAttempt) (calls : List PortAttempt)
    → remote_characters_of drives (call ∷ calls) ≡ all_sequence_characters drives (cue_clocks call.cue)
    ++ remote_characters_of (driven_after drives (cue_clocks call.cue)) calls
text_next drives call calls =
    let first = probe_sequences call.cue in
    let last = probe_turnaround call.cue in
    let more = remote_all_sequences calls in
    ap (all_sequence_characters drives) (clocks_append (first ++ last) more
    ∙ ap (λ l. l ++ remote_with_clocks more) (clocks_append first last))
    ∙ characters_append drives (cue_clocks call.cue) (remote_with_clocks more)

exact_next : {R W : Type 0} (remaining : R → Option (List ℕ)) (contents : W → Option (List ℕ)) (call : PortAttempt)
    (calls : List PortAttempt) (s m t : Remote R W) → Steps remaining contents call s m
    → RemoteExact remaining contents calls m t → RemoteExact remaining contents (call ∷ calls) s t
exact_next remaining contents call calls s m t h x =
    let next = subst (λ d. RemoteLengthens contents (remote_characters_of d calls) m.outgoing t.outgoing) h.drives x.out
    in
    record {
      out = subst (λ l. RemoteLengthens contents l s.outgoing t.outgoing) (sym (text_next s.drives call calls))
          (remote_outgoing_twice contents _ _ s.outgoing m.outgoing t.outgoing h.out next);
      reads = Consumes-trans (remaining s.reader) (remaining m.reader) (remaining t.reader) _ _ h.reads x.reads;
    }

up_to_next : {R W : Type 0} (remaining : R → Option (List ℕ)) (contents : W → Option (List ℕ)) (o : Option Fault)
    (call : PortAttempt) (calls : List PortAttempt) (s m t : Remote R W) → Steps remaining contents call s m
    → RemoteExactUpTo remaining contents o calls m t → RemoteExactUpTo remaining contents o (call ∷ calls) s t
up_to_next remaining contents None call calls s m t h x = exact_next remaining contents call calls s m t h x
up_to_next remaining contents (Some f) call calls s m t h x =
    record {
      done = call ∷ x.done;
      last = x.last;
      rest = x.rest;
      all = ap (λ l. call ∷ l) x.all;
      before = x.before;
      exact = exact_next remaining contents call x.done s m x.before h x.exact;
      well = x.well;
      after = x.after;
      made = x.made;
      ended = x.ended;
      nothing = x.nothing;
    }

-- by whether the other end is gone after the first call
run_at : {R W : Type 0} (remaining : R → Option (List ℕ)) (contents : W → Option (List ℕ)) (o : Option Fault)
    (call : PortAttempt) (calls : List PortAttempt) (s m t : Remote R W) → m.fault ≡ o
    → IsRemoteCallMade remaining contents call s m
    → AreRemoteCallsMade remaining contents calls m t → s.fault ≡ None → s.asked ≡ 0
    → (m.fault ≡ None → m.asked ≡ 0 → RemoteExactUpTo remaining contents t.fault calls m t)
    → RemoteExactUpTo remaining contents t.fault (call ∷ calls) s t
run_at remaining contents None call calls s m t is made more e z next =
    let h = step remaining contents call s m made e z is in
    up_to_next remaining contents t.fault call calls s m t h (next is h.asked)
run_at {R} {W} remaining contents (Some f) call calls s m t is made more e z next =
    let same = gone_calls remaining contents calls f m t is more in
    let ended : RemoteEndsAtFault remaining contents f (call ∷ calls) s t = record {
      done = [];
      last = call;
      rest = calls;
      all = refl;
      before = s;
      exact = none_exact remaining contents s;
      well = e;
      after = m;
      made = made;
      ended = is;
      nothing = same;
    } in
    subst (λ o. RemoteExactUpTo remaining contents o (call ∷ calls) s t)
    (sym (ap (λ (r : Remote R W). r.fault) same ∙ is)) ended

-- for `laws::runs_exactly`, and for the end of a line
pub remote_runs_exactly : {R W : Type 0} (remaining : R → Option (List ℕ)) (contents : W → Option (List ℕ))
    (calls : List PortAttempt) (s t : Remote R W) → AreRemoteCallsMade remaining contents calls s t → s.fault ≡ None
    → s.asked ≡ 0 → RemoteExactUpTo remaining contents t.fault calls s t
remote_runs_exactly {R} {W} remaining contents [] s t h e z =
    subst (λ (r : Remote R W). RemoteExactUpTo remaining contents r.fault [] s r) (sym h)
    (subst (λ o. RemoteExactUpTo remaining contents o [] s s) (sym e) (none_exact remaining contents s))
remote_runs_exactly remaining contents (call ∷ calls) s t h e z =
    run_at remaining contents h.0.fault call calls s h.0 t refl h.1 h.2 e z
    (λ w n. remote_runs_exactly remaining contents calls h.0 t h.2 w n)

-- the end, where Q went out
quit_at : {R W : Type 0} (remaining : R → Option (List ℕ)) (contents : W → Option (List ℕ)) (o : Option Fault)
    (calls : List PortAttempt) (start : Option (List ℕ)) (text : List ℕ) (s t u : Remote R W) (told : Unit {0})
    → RemoteExactUpTo remaining contents o calls s t → IsOnRemoteWay contents start s.outgoing text
    → RemoteQuitsAt o contents (Ok told) t u
    → Appends start (contents u.outgoing.writer) ((text ++ remote_characters_of s.drives calls) ++ 81 ∷ [])
    × Consumes (remaining s.reader) (remaining u.reader) (remote_all_levels calls)
quit_at remaining contents None calls start text s t u told x h q = (
  q.1 start (text ++ remote_characters_of s.drives calls) (x.out start text h),
  subst (λ r. Consumes (remaining s.reader) (remaining r) (remote_all_levels calls)) (sym q.0) x.reads,
)
quit_at remaining contents (Some f) calls start text s t u told x h q =
    absurd (IfOk-from_err {E = Disconnected} (Ok told) (λ (_ : Unit {0}). ⊥) q.0)

-- for `laws::runs_exactly`, and for the end of a line
pub remote_quits_exactly : {R W : Type 0} (remaining : R → Option (List ℕ)) (contents : W → Option (List ℕ))
    → RemoteQuitsExactly remaining contents
remote_quits_exactly remaining contents = λ calls start text s t u told made e z h q.
    quit_at remaining contents t.fault calls start text s t u told
    (remote_runs_exactly remaining contents calls s t made e z) h q

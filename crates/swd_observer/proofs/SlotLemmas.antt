-- OK to a request that isn't exempt, and the read before it whose word it gives or doesn't.
use Rattle.std.proofs.Common.{◌≡◌, ◌<◌, ◌^◌, ℕ, Bool, true, false, List, [], ◌++◌, refl, sym, ap, subst, inl, inr, ◌∙◌}
use Rattle.std.proofs.Common.{◌⊎◌, append-nil}
use Rattle.std.specs.Prelude.{Option, Some, None, IfSome, is_some, unwrap_or, ◌||◌, ◌&&◌, ◌==◌, if◌then◌else◌}
use Rattle.std.specs.Prelude.{not as no}
use Rattle.swd_bits.specs.declared.request.Request.{Request}
use Rattle.swd_bits.specs.declared.request.Reg4.{Reg4}
use Rattle.swd_bits.specs.declared.request.Reg4.TheVariants.{R0, R4, R8, RC}
use Rattle.swd_bits.specs.Phases.{data_phase_word, data_phase_number}
use Rattle.swd_port.specs.declared.access.Transfer.{Transfer}
use Rattle.swd_port.specs.declared.register.Register.{Register}
use Rattle.swd_port.specs.declared.register.Register.TheVariants.{DrwRead, ResendRead}
use Rattle.swd_port.specs.declared.select.Select.{Select}
use Rattle.swd_port.specs.declared.state.AfterAck.TheVariants.{Drives}
use Rattle.swd_port.specs.Choices.{port_flipped}
use Rattle.swd_port.specs.Port.{Port, Target, port_register, port_register_where, mem_ap_register}
use Rattle.swd_port.specs.Choices.{Choice}
use Rattle.swd_port.specs.Port.{port_other_ap_register, port_selects_mem_ap}
use Rattle.swd_port.specs.Answers.{is_exempt_register, is_port_unpowered}
use Rattle.swd_port.specs.Completion.{PortCompletes}
use Rattle.swd_port.specs.Asking.{PortAsks, port_after_okay, port_has_power, is_port_posted, port_value_in}
use Rattle.swd_port.specs.Moving.{PortTakes}
use Rattle.swd_port.specs.Moves.{PortPhaseGot}
use Rattle.swd_port.proofs.CompletionLaws.{port_kept}
use Rattle.swd_port.proofs.MovingLaws.{port_data_taken}
use Rattle.swd_observer.specs.declared.told.ObservedAccess.{ObservedAccess}
use Rattle.swd_observer.specs.declared.told.How.TheVariants.{Took}
use Rattle.swd_observer.specs.declared.observer.Observer.{Observer}
use Rattle.swd_observer.specs.declared.observer.StartedTransfer.{StartedTransfer}
use Rattle.swd_observer.specs.declared.observer.Older.{Older}
use Rattle.swd_observer.specs.declared.observer.Standing.{Standing}
use Rattle.swd_observer.specs.declared.observer.Standing.TheVariants.{Buffer, Returned}
use Rattle.swd_observer.specs.declared.observer.RequestEffect.{RequestEffect}
use Rattle.swd_observer.specs.declared.observer.RequestEffect.TheVariants.{Other, Elsewhere, Reads, Writes, MayRead}
use Rattle.swd_observer.specs.declared.observer.RequestEffect.TheVariants.{MayWrite}
use Rattle.swd_observer.specs.Observing.{observer_arrival, observer_confirmed, observed_flight_access, observed_older}
use Rattle.swd_observer.specs.Observing.{word_observed, observed_standing_word, observed_older_word, observer_accepted}
use Rattle.swd_observer.specs.Observing.{observed_kind, observed_kind_ap, observed_kind_dp, observed_itself}
use Rattle.swd_observer.specs.Observing.{observed_tar_done, observed_whole, unless_observed_older}
use Rattle.swd_observer.specs.Observing.{is_observed_posted_read, is_observed_resend, is_observed_rc, is_observed_r8}
use Rattle.swd_observer.specs.Observing.{is_observed_plain, observed_older_slot, observed_older_slot_at, observed_class}
use Rattle.swd_observer.specs.Observing.{Confirms}
use Rattle.swd_observer.specs.Explained.{ObservedSince, one_observed}
use Rattle.swd_observer.specs.Knows.{ObservedFlying, owed, gone, failed, given_up, ObservedFlight, ObserverKnows}
use Rattle.swd_observer.specs.Knows.{here, spoiled}
use Rattle.swd_observer.specs.Knows.{IsObservedOlder, ObservedStands, ObserverAwaits}
use Rattle.swd_observer.specs.Laws.{ObserverAtOkay}
use Rattle.swd_observer.specs.Transacts.{ObservedHasMoved, ObservedMoves}
use Rattle.swd_observer.proofs.KnownLemmas.{observer_knows_stays}
use Rattle.swd_observer.proofs.AskLemmas.{ObservedOkayed, observed_ask_okayed, observed_not_exempt, ObservedKindFits}
use Rattle.swd_observer.proofs.AskLemmas.{observed_kind_fits, observed_posted_value, observed_drw_is_ap}
use Rattle.swd_observer.proofs.OkayLemmas.{ObservedSettled, observed_tar_range_done, observed_same_settled}
use Rattle.swd_observer.proofs.OkayLemmas.{observer_settled_knows, observed_same_at_okay, observer_knows_drw_read}
use Rattle.swd_observer.proofs.OkayLemmas.{observed_whole_word_has}
use Rattle.swd_observer.proofs.StepLemmas.{observed_first_clear, observed_second_clear, observer_confirmed_unsent}
use Rattle.swd_observer.proofs.StepLemmas.{observed_read_word, observed_line_at_read, observed_ap_power}
use Rattle.swd_observer.proofs.StepLemmas.{observed_read_phase_keeps, observed_other_bank}
use Rattle.swd_observer.proofs.NotedLemmas.{observer_older_noted}
use Rattle.swd_observer.proofs.OlderLemmas.{observer_older_flushed, observed_stands_stays, observed_stands_taken}
use Rattle.swd_observer.proofs.OlderLemmas.{observed_stands_before}
use Rattle.swd_observer.proofs.GivenUpLemmas.{ObservedBefore, observer_knows_before}
use Rattle.swd_observer.proofs.AnyLemmas.{observer_okay_moved}

-- which request it is
posted_mem : (m : Bool) (addr : Reg4)
    → is_port_posted (if m then mem_ap_register true addr else port_other_ap_register true) ≡ true
posted_mem true R0 = refl
posted_mem true R4 = refl
posted_mem true R8 = refl
posted_mem true RC = refl
posted_mem false addr = refl

posted_by : (ap : Bool) (s : Select) (read : Bool) (addr : Reg4) → (read && (ap || is_observed_rc addr)) ≡ true
    → (is_port_posted (port_register_where (port_selects_mem_ap s) (s.dpbanksel == 0) ap read addr)
    ≡ true)
    × (read ≡ true)
posted_by true s true addr e = (posted_mem (port_selects_mem_ap s) addr, refl)
posted_by true s false addr e = absurd (cc)
posted_by false s false addr e = absurd (cc)
posted_by false s true R0 e = absurd (cc)
posted_by false s true R4 e = absurd (cc)
posted_by false s true R8 e = absurd (cc)
posted_by false s true RC e = (refl, refl)

posted_is : (s : Select) (q : Request) → is_observed_posted_read q ≡ true
    → (is_port_posted (port_register s q) ≡ true) × (q.read ≡ true)
posted_is s q e = posted_by q.ap s q.read q.addr e

resend_by : (ap : Bool) (s : Select) (read : Bool) (addr : Reg4) → (no ap && (read && is_observed_r8 addr)) ≡ true
    → (port_register_where (port_selects_mem_ap s) (s.dpbanksel == 0) ap read addr ≡ ResendRead)
    × (read ≡ true)
resend_by true s read addr e = absurd (cc)
resend_by false s false addr e = absurd (cc)
resend_by false s true R0 e = absurd (cc)
resend_by false s true R4 e = absurd (cc)
resend_by false s true R8 e = (refl, refl)
resend_by false s true RC e = absurd (cc)

resend_is : (s : Select) (q : Request) → is_observed_resend q ≡ true → (port_register s q ≡ ResendRead)
    × (q.read ≡ true)
resend_is s q e = resend_by q.ap s q.read q.addr e

resend_plain : (ap : Bool) (known : Option Select) (read : Bool) (addr : Reg4)
    → (no ap && (read && is_observed_r8 addr)) ≡ true
    → is_observed_plain (if ap then observed_kind_ap known read addr else observed_kind_dp read addr) ≡ true
resend_plain true known read addr e = absurd (cc)
resend_plain false known false addr e = absurd (cc)
resend_plain false known true R0 e = absurd (cc)
resend_plain false known true R4 e = absurd (cc)
resend_plain false known true R8 e = refl
resend_plain false known true RC e = absurd (cc)

-- where a word stands
abbrev StandsBy : Request → Bool → Bool → Standing → Type 0
StandsBy q seen is s = ((is_observed_resend q ≡ true) × (s ≡ Buffer))
    ⊎ ((is_observed_posted_read q ≡ true) × (is ≡ true) × (s ≡ Returned))

standing_if : (resends posts seen is : Bool) (s : Standing)
    → (if resends then Some Buffer else if posts && (no seen && is) then Some Returned else None) ≡ Some s
    → ((resends ≡ true) × (s ≡ Buffer)) ⊎ ((posts ≡ true) × (is ≡ true) × (s ≡ Returned))
standing_if true posts seen is Buffer e = inl (refl, refl)
standing_if true posts seen is Returned e = absurd (cc)
standing_if false true false true Returned e = inr (refl, refl, refl)
standing_if false true false true Buffer e = absurd (cc)
standing_if false false seen is s e = absurd (cc)
standing_if false true true is s e = absurd (cc)
standing_if false true false false s e = absurd (cc)

record Filled (b : Option StartedTransfer) (tar : Option ℕ) (s : Option Standing) (h : Older) : Type 0 where
  begun : StartedTransfer
  standing : Standing
  is_begun : b ≡ Some begun
  reads : begun.read ≡ true
  stands : s ≡ Some standing
  addr : h.addr ≡ tar
  at : h.standing ≡ standing

filled_if : (reads : Bool) (b : StartedTransfer) (tar : Option ℕ) (s : Standing) (h : Older) → b.read ≡ reads
    → (if reads then Some (record { place = b.place; addr = tar; standing = s }) else None) ≡ Some h
    → Filled (Some b) tar (Some s) h
filled_if true b tar s h r e =
    let is : record { place = b.place; addr = tar; standing = s } ≡ h = some_is _ h e in
    record {
      begun = b;
      standing = s;
      is_begun = refl;
      reads = r;
      stands = refl;
      addr = sym (ap (λ z. z.addr) is);
      at = sym (ap (λ z. z.standing) is);
    } where
      some_is : (a c : Older) → Some a ≡ Some c → a ≡ c
      some_is a c e = ap (λ z. unwrap_or z a) e
filled_if false b tar s h r e = absurd (cc)

filled : (b : Option StartedTransfer) (tar : Option ℕ) (s : Option Standing) (h : Older)
    → observed_older_slot b tar s ≡ Some h → Filled b tar s h
filled None tar s h e = absurd (cc)
filled (Some b) tar None h e = absurd (cc)
filled (Some b) tar (Some s) h e = filled_if b.read b tar s h refl e

-- the word that a read gave
if_word : (b : Bool) (known : Option ℕ) (P : ℕ → Type 0) → (b ≡ true → IfSome known P)
    → IfSome (if b then known else None) P
if_word true known P f = f refl
if_word false known P f = tt

word_is : (known : Option ℕ) (word value : ℕ) → value ≡ word → IfSome known (λ v. value ≡ v)
    → IfSome known (λ v. word ≡ v)
word_is None word value e h = tt
word_is (Some v) word value e h = sym e ∙ h

record ReadBy (q : Request) (word : ℕ) (ok : Bool) (s d : Port) : Type 0 where
  at : Port
  after : Port
  choice : Choice
  first : ObservedBefore q s at
  last : PortCompletes after d
  gave : IfSome (word_observed ok word) (λ v. port_value_in choice (port_register at.target.select q) at.target
      ≡ v)
  target : after.target ≡ port_after_okay choice (port_register at.target.select q) at.target
  settled : is_exempt_register (port_register at.target.select q) ≡ false → at.target.pending ≡ None
  clear : is_exempt_register (port_register at.target.select q) ≡ false →
      (at.target.sticky_error || at.target.write_error || is_port_unpowered q.ap (port_has_power at.target)) ≡ false

read_by : (q : Request) (word : ℕ) (ok : Bool) (s d t : Port) (bits : ℕ) → q.read ≡ true → PortAsks s q 1 d
    → bits < 2 ^ 33 → data_phase_word bits ≡ word_observed ok word → PortTakes d bits t → ReadBy q word ok s d
read_by q word ok s d t bits reads (e, a, b, mark, c, first, kept, now, last) range carries takes =
    let h : ObservedOkayed a q b = observed_ask_okayed mark c a q b now in
    let value = port_value_in h.choice (port_register a.target.select q) a.target in
    let line : d.link.line ≡ Drives (port_flipped h.flip (data_phase_number value)) =
    ap (λ l. l.line) (port_kept b d last).link ∙ h.line ∙ observed_line_at_read q.read (port_register a.target.select q)
    h.flip _ reads in
    let got : PortPhaseGot h.flip value bits = port_data_taken h.flip value bits d t line (h.value reads) range takes in
    record {
      at = a;
      after = b;
      choice = h.choice;
      first = (e, mark, first, kept);
      last = last;
      gave = observed_read_word h.flip value bits word ok got carries;
      target = h.target;
      settled = h.settled;
      clear = h.clear;
    }

takes_of : (read : Bool) (a : Port) (bits : ℕ) (t : Port) → read ≡ true → ObservedMoves read a bits t
    → PortTakes a bits t
takes_of true a bits t e m = m
takes_of false a bits t e m = absurd (cc)

right_posted : (q : Request) (word : ℕ) (ok : Bool) (s t : Port) (held : ℕ) → ObservedHasMoved q word ok s t
    → ObservedStands Buffer held s.target → is_observed_posted_read q ≡ true
    → IfSome (word_observed ok word) (λ v. held ≡ v)
right_posted q word ok s t held h stands e =
    let reads = (posted_is s.target.select q e).1 in
    let r = read_by q word ok s h.asked t h.bits reads h.asks h.range h.carries
    (takes_of q.read h.asked h.bits t reads h.moves) in
    let there : ObservedStands Buffer held r.at.target = observed_stands_before Buffer held q s r.at r.first stands in
    word_is (word_observed ok word) held _
    (observed_posted_value r.at.target.select q r.choice r.at.target e ∙ ap (λ b. unwrap_or b r.choice.filler) there.0)
    r.gave

right_resent : (q : Request) (word : ℕ) (ok : Bool) (s t : Port) (held : ℕ) → ObservedHasMoved q word ok s t
    → ObservedStands Returned held s.target → is_observed_resend q ≡ true
    → IfSome (word_observed ok word) (λ v. held ≡ v)
right_resent q word ok s t held h stands e =
    let reads = (resend_is s.target.select q e).1 in
    let r = read_by q word ok s h.asked t h.bits reads h.asks h.range h.carries
    (takes_of q.read h.asked h.bits t reads h.moves) in
    let there : ObservedStands Returned held r.at.target =
    observed_stands_before Returned held q s r.at r.first stands in
    word_is (word_observed ok word) held _
    (ap (λ z. port_value_in r.choice z r.at.target) (resend_is r.at.target.select q e).0
    ∙ ap (λ b. unwrap_or b r.choice.filler) there) r.gave

right_at : (z : Standing) (q : Request) (word : ℕ) (ok : Bool) (increments : Option Bool) (s t : Port) (held : ℕ)
    → ObservedHasMoved q word ok s t → ObservedStands z held s.target
    → IfSome (observed_standing_word z q (observed_whole increments (word_observed ok word))) (λ v. held ≡ v)
right_at Buffer q word ok increments s t held h stands = if_word (is_observed_posted_read q) _ (λ v. held ≡ v)
    (λ e. observed_whole_word_has increments (word_observed ok word) (λ v. held ≡ v)
    (right_posted q word ok s t held h stands e))
right_at Returned q word ok increments s t held h stands = if_word (is_observed_resend q) _ (λ v. held ≡ v)
    (λ e. observed_whole_word_has increments (word_observed ok word) (λ v. held ≡ v)
    (right_resent q word ok s t held h stands e))

right_for : (h : Option Older) (q : Request) (word : ℕ) (ok : Bool) (increments : Option Bool) (s t : Port)
    → ObservedHasMoved q word ok s t → (z : Standing) (held : ℕ) → IfSome h (λ y. y.standing ≡ z)
    → ObservedStands z held s.target
    → IfSome (observed_older_word h q (observed_whole increments (word_observed ok word))) (λ v. held ≡ v)
right_for None q word ok increments s t m z held e stands = tt
right_for (Some h) q word ok increments s t m z held e stands =
    right_at h.standing q word ok increments s t held m (subst (λ y. ObservedStands y held s.target) (sym e) stands)

-- the transfer in flight was a read, and its word stands in the read buffer
settle_into : (E : List Transfer → Type 0) (h : Older) (b : StartedTransfer) (o : Observer) (x : Target)
    → (observer_arrival o).begun ≡ Some b → b.read ≡ true → h.addr ≡ (observer_arrival o).tar → x.sticky_error ≡ false
    → x.write_error ≡ false → x.pending ≡ None → ObserverKnows E o x
    → (word : ℕ) × (x.buffer ≡ Some word) × ObservedSettled (IsObservedOlder E h word) (observer_confirmed o) x
settle_into E h b o x is reads addr quiet intact none (spoiled error rest k) =
    absurd (let clash : true ≡ false = sym error ∙ intact in cc)
settle_into E h b o x is reads addr quiet intact none (here clean k) =
    landed (subst (λ z. ObservedFlight E z (observer_arrival o).increments (observer_arrival o).tar x) is k.flight)
  where
    landed : ObservedFlying E b (observer_arrival o).increments (observer_arrival o).tar x
        → (word : ℕ) × (x.buffer ≡ Some word) × ObservedSettled (IsObservedOlder E h word) (observer_confirmed o) x
    landed (owed calm drw pending of at e) = absurd (let clash : Some drw ≡ None = sym pending ∙ none in cc)
    landed (failed rest error e) = absurd (let clash : true ≡ false = sym error ∙ quiet in cc)
    landed (given_up rest error at e) = absurd (let clash : true ≡ false = sym error ∙ intact in cc)
    landed (gone calm rest t log fits is_log e buffer next) = (
      t.word,
      buffer reads,
      record {
        select = k.select;
        increments = k.increments;
        range = observed_tar_range_done (observer_arrival o).begun (observer_arrival o).increments
            (observer_arrival o).tar k.range;
        aimed = subst (λ z. IfSome (observed_tar_done z (observer_arrival o).increments (observer_arrival o).tar)
            (λ a. x.tar ≡ Some a)) (sym is) next;
        now = record {
          read = t;
          front = log;
          is = is_log;
          explains = e;
          reads = fits.read ∙ reads;
          addr = subst (λ z. IfSome z (λ a. t.addr ≡ a)) (sym addr) fits.addr;
          word_of = refl;
        };
        none = none;
      },
    )

plain_goes : (E : List Transfer → Type 0) (k : RequestEffect) (r : Register) (chosen : Choice) (word : Option ℕ)
    (place : ℕ)
    (o : Observer) (x : Target) → is_observed_plain k ≡ true → ObservedKindFits k r → o.sent ≡ None → o.begun ≡ None
    → x.sticky_error ≡ false → x.write_error ≡ false → (r ≡ DrwRead → x.debug_power ≡ true) → ObservedSettled E o x
    → ObserverKnows E (observer_accepted k word place o) (port_after_okay chosen r x)
plain_goes E Other r chosen word place o x is fits sent rest quiet intact power h =
    observer_settled_knows E o (port_after_okay chosen r x) sent rest
    (observed_same_settled E o x (port_after_okay chosen r x) (observed_same_at_okay chosen r x fits) h)
plain_goes E Reads r chosen word place o x is fits sent rest quiet intact power h =
    subst (λ z. ObserverKnows E (observer_accepted Reads word place o) (port_after_okay chosen z x)) (sym fits)
    (observer_knows_drw_read E o x chosen word place sent quiet intact (power fits) h)
plain_goes E (Elsewhere e) r chosen word place o x is fits sent rest quiet intact power h = absurd (cc)
plain_goes E (Writes w) r chosen word place o x is fits sent rest quiet intact power h = absurd (cc)
plain_goes E MayRead r chosen word place o x is fits sent rest quiet intact power h = absurd (cc)
plain_goes E (MayWrite w) r chosen word place o x is fits sent rest quiet intact power h = absurd (cc)

plain_untold : (k : RequestEffect) (word tar : Option ℕ) (place : ℕ) → is_observed_plain k ≡ true
    → observed_itself k word tar place ≡ None
plain_untold Other word tar place e = refl
plain_untold Reads word tar place e = refl
plain_untold (Elsewhere r) word tar place e = absurd (cc)
plain_untold (Writes w) word tar place e = refl
plain_untold MayRead word tar place e = absurd (cc)
plain_untold (MayWrite w) word tar place e = absurd (cc)

-- where the word stands behind the request
stands_okay : (q : Request) (is : Bool) (s : Standing) (chosen : Choice) (x : Target) (word : ℕ) → x.buffer ≡ Some word
    → x.pending ≡ None → StandsBy q false is s
    → ObservedStands s word (port_after_okay chosen (port_register x.select q) x)
stands_okay q is s chosen x word buffer none (inl (e, at)) =
    subst (λ z. ObservedStands z word (port_after_okay chosen (port_register x.select q) x)) (sym at)
    (subst (λ r. ObservedStands Buffer word (port_after_okay chosen r x)) (sym (resend_is x.select q e).0)
    (buffer, none))
stands_okay q is s chosen x word buffer none (inr (e, plainly, at)) =
    subst (λ z. ObservedStands z word (port_after_okay chosen (port_register x.select q) x)) (sym at)
    (ap (λ b. if b then x.buffer else x.last_returned) (posted_is x.select q e).0 ∙ buffer)

reads_by : (q : Request) (is : Bool) (s : Standing) (select : Select) → StandsBy q false is s → q.read ≡ true
reads_by q is s select (inl (e, at)) = (resend_is select q e).1
reads_by q is s select (inr (e, plainly, at)) = (posted_is select q e).1

plain_by : (q : Request) (known : Option Select) (s : Standing)
    → StandsBy q false (is_observed_plain (observed_kind known q)) s → is_observed_plain (observed_kind known q) ≡ true
plain_by q known s (inl (e, at)) = resend_plain q.ap known q.read q.addr e
plain_by q known s (inr (e, plainly, at)) = plainly

fill : (E : List Transfer → Type 0) (h : Older) (o : Observer) (q : Request) (word : ℕ) (ok : Bool) (place : ℕ)
    (s t : Port) → observed_older_slot_at q (word_observed ok word) o ≡ Some h → observed_class o q ≡ Confirms
    → ObservedHasMoved q word ok s t → ObserverKnows E o s.target
    → ObserverAwaits E (Some h) (observer_accepted (observed_kind (observer_confirmed o).select q)
    (word_observed ok word) place (observer_confirmed o)) t.target
fill E h o q word ok place s t is tells m k =
    let f = filled (observer_arrival o).begun (observer_arrival o).tar _ h is in
    let by : StandsBy q false (is_observed_plain (observed_kind (observer_confirmed o).select q)) f.standing =
    standing_if (is_observed_resend q) (is_observed_posted_read q) (is_some (word_observed ok word)) _ f.standing
    f.stands in
    let reads : q.read ≡ true = reads_by q _ f.standing s.target.select by in
    let takes : PortTakes m.asked m.bits t = takes_of q.read m.asked m.bits t reads m.moves in
    let r = read_by q word ok s m.asked t m.bits reads m.asks m.range m.carries takes in
    let known = observer_knows_before E o q s r.at r.first k in
    let plainly : is_exempt_register (port_register r.at.target.select q) ≡ false =
    observed_not_exempt o r.at.target.select q tells (observed_other_bank E o r.at.target known) in
    let clear = r.clear plainly in
    let quiet : r.at.target.sticky_error ≡ false = observed_first_clear _ _ _ clear in
    let intact : r.at.target.write_error ≡ false = observed_second_clear r.at.target.sticky_error _ _ clear in
    let landed = settle_into E h f.begun o r.at.target f.is_begun f.reads f.addr quiet intact
    (r.settled plainly) known in
    let held = landed.0 in
    let goes = plain_goes (IsObservedOlder E h held) (observed_kind (observer_confirmed o).select q)
    (port_register r.at.target.select q) r.choice (word_observed ok word) place (observer_confirmed o) r.at.target
    (plain_by q (observer_confirmed o).select f.standing by)
    (observed_kind_fits (observer_confirmed o).select r.at.target.select q landed.2.select)
    (observer_confirmed_unsent o) refl quiet intact
    (λ e. observed_ap_power q r.at.target clear (observed_drw_is_ap r.at.target.select q (inl e))) landed.2 in
    let stands : ObservedStands h.standing held r.after.target =
    subst (ObservedStands h.standing held) (sym r.target) (subst (λ z. ObservedStands z held
    (port_after_okay r.choice (port_register r.at.target.select q) r.at.target)) (sym f.at)
    (stands_okay q _ f.standing r.choice r.at.target held landed.1 (r.settled plainly) by)) in (
      held,
      observed_stands_taken h.standing held m.asked t m.bits takes
          (observed_stands_stays h.standing held r.after m.asked r.last stands),
      observed_read_phase_keeps (ObserverKnows (IsObservedOlder E h held)
          (observer_accepted (observed_kind (observer_confirmed o).select q) (word_observed ok word) place
          (observer_confirmed o))) (λ x y e z. observer_knows_stays _ _ x y e z) m.asked t m.bits takes
          (observer_knows_stays _ _ r.after m.asked r.last (subst (ObserverKnows (IsObservedOlder E h held)
          (observer_accepted (observed_kind (observer_confirmed o).select q) (word_observed ok word) place
          (observer_confirmed o))) (sym r.target) goes)),
    )

-- a held read is none of what a step keeps
awaits_hold : (E : List Transfer → Type 0) (h : Older) (o : Observer) (x : Target) → ObserverAwaits E (Some h) o x
    → ObserverAwaits E (Some h) (record o { older = Some h }) x
awaits_hold E h o x (word, stands, k) = (word, stands, observer_older_noted (IsObservedOlder E h word) (Some h) o x k)

plain_of : (h : Older) (o : Observer) (q : Request) (word : Option ℕ) → observed_older_slot_at q word o ≡ Some h
    → is_observed_plain (observed_kind (observer_confirmed o).select q) ≡ true
plain_of h o q word e =
    let f = filled (observer_arrival o).begun (observer_arrival o).tar _ h e in
    plain_by q (observer_confirmed o).select f.standing
    (standing_if (is_observed_resend q) (is_observed_posted_read q) (is_some word) _ f.standing f.stands)

okay_slot : (slot : Option Older) (before : List Transfer) (told : List ObservedAccess) (o : Observer) (q : Request)
    (word : ℕ) (ok : Bool) (place : ℕ) (s t : Port) → observed_older_slot_at q (word_observed ok word) o ≡ slot
    → observed_class o q ≡ Confirms
    → ObservedHasMoved q word ok s t → ObserverKnows (ObservedSince before told) o s.target
    → ObserverAwaits (ObservedSince before ((told ++ one_observed (unless_observed_older slot
    (observed_flight_access Took (observed_whole o.increments
    (if is_observed_posted_read q then word_observed ok word else None)) o)))
    ++ one_observed (observed_itself (observed_kind (observer_confirmed o).select q)
    (observed_whole (observer_confirmed o).increments (word_observed ok word)) (observer_confirmed o).tar place))) slot
    (record (observer_accepted (observed_kind (observer_confirmed o).select q) (word_observed ok word) place
    (observer_confirmed o)) { older = slot }) t.target
okay_slot None before told o q word ok place s t is tells h k = observer_older_noted _ None _ t.target
    (observer_okay_moved q.read before told o q word ok place s t refl tells h.asked h.bits h.asks h.range h.small
    h.carries h.moves k)
okay_slot (Some z) before told o q word ok place s t is tells h k =
    let itself = observed_itself (observed_kind (observer_confirmed o).select q)
    (observed_whole (observer_confirmed o).increments (word_observed ok word)) (observer_confirmed o).tar place in
    let untold : itself ≡ None = plain_untold (observed_kind (observer_confirmed o).select q) _
    (observer_confirmed o).tar place (plain_of z o q (word_observed ok word) is) in
    let same : told ≡ (told ++ []) ++ one_observed itself =
    sym (ap (λ u. (told ++ []) ++ one_observed u) untold ∙ append-nil (told ++ []) ∙ append-nil told) in
    awaits_hold _ z _ t.target (fill (ObservedSince before ((told ++ []) ++ one_observed itself)) z o q word ok place s
    t is tells h (subst (λ l. ObserverKnows (ObservedSince before l) o s.target) same k))

-- after OK to a request that isn't exempt what is known is true: an older read is reported, the transfer in flight is
-- reported as `Took` or kept as the older read, and the request itself is reported if it may be an access
pub observer_knows_okay : ObserverAtOkay
observer_knows_okay before told o q word ok place s t tells h k =
    okay_slot (observed_older_slot_at q (word_observed ok word) o) before
    (told ++ one_observed (observed_older
    (observed_older_word o.older q (observed_whole o.increments (word_observed ok word))) o.older)) o q word ok
    place s t refl tells h (observer_older_flushed before told o.older
    (observed_older_word o.older q (observed_whole o.increments (word_observed ok word))) o s.target
    (right_for o.older q word ok o.increments s t h) k)

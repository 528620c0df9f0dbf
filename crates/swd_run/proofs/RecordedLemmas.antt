-- What the items of a recorded run show: the accesses explain the log of the target's memory.
use Rattle.std.proofs.Common.{◌≡◌, ℕ, ◌+◌, ◌≤◌, ◌<◌, ◌%◌, ◌^◌, Bool, true, false, List, [], ◌∷◌, ◌++◌, Option, Some}
use Rattle.std.proofs.Common.{None, refl, sym, ap, ap₂, subst, ◌∙◌, arith}
use Rattle.std.proofs.lemmas.List.{append-nil}
use Rattle.std.proofs.lemmas.Bool.Decides.{nat_tests}
use Rattle.std.specs.Prelude.{◌==◌, ◌||◌, ◌&&◌, not, count_ones, if◌then◌else◌}
use Rattle.swd_bits.specs.Bits.{bit}
use Rattle.swd_bits.specs.declared.ack.Ack.{Ack}
use Rattle.swd_bits.specs.declared.ack.Ack.TheVariants.{Ok as AckOk, Wait as AckWait, Fault as AckFault}
use Rattle.swd_bits.specs.declared.request.Request.{Request}
use Rattle.swd_bits.specs.declared.tx.Tx.{Tx as Transaction}
use Rattle.swd_bits.specs.declared.tx.TxEnd.{TxEnd}
use Rattle.swd_bits.specs.declared.tx.TxEnd.TheVariants.{Moved, NoAck}
use Rattle.swd_trace.specs.declared.item.Item.{Item}
use Rattle.swd_trace.specs.declared.item.Item.TheVariants.{Reset, Switch, Idle, Tx, Junk, Cut}
use Rattle.swd_port.specs.declared.call.Call.{Call}
use Rattle.swd_port.specs.declared.cue.Cue.{Cue}
use Rattle.swd_port.specs.declared.cue.Cue.TheVariants.{Lead, Ask, Take as CueTake, Give as CueGive, Pass as CuePass}
use Rattle.swd_port.specs.declared.wire.Due.{Due}
use Rattle.swd_port.specs.declared.wire.Due.TheVariants.{Nothing, Take, Give, Pass, Lost}
use Rattle.swd_port.specs.Answers.{IsPortNoAck, port_due_after}
use Rattle.swd_port.specs.Asking.{PortAsks}
use Rattle.swd_port.specs.Leading.{PortLeads}
use Rattle.swd_port.specs.Port.{Port}
use Rattle.swd_port.specs.Made.{port_made}
use Rattle.swd_port.specs.Steps.{IsPortSeen, IsPortStep, PortMayStep, port_due_once, is_port_ask}
use Rattle.swd_recorder.specs.declared.in_hand.InHand.{InHand}
use Rattle.swd_recorder.specs.Items.{recorded_ack_seen, recorded_answered, recorded_high_items, recorded_in_hand_by}
use Rattle.swd_recorder.specs.Items.{recorded_in_hand_once, recorded_items_by, recorded_items_of, recorded_joined}
use Rattle.swd_recorder.specs.Items.{recorded_low_items, recorded_moved, recorded_refused, recorded_tx_item}
use Rattle.swd_recorder.specs.Items.{recorded_unanswered, recorded_with_item, recorded_with_items}
use Rattle.swd_recorder.specs.Steps.{recorder_ask_count, recorded_in_hand_count, is_recorded_inside, recorded_due_count}
use Rattle.swd_recorder.specs.Steps.{recorded_transactions}
use Rattle.swd_recorder.proofs.AckLemmas.{recorded_phase_moved}
use Rattle.swd_recorder.proofs.ChainLemmas.{recorded_count_appended}
use Rattle.swd_observer.specs.Runs.{ObservedEvent, ObservedHappens, Lifts, Moves, ObservedRuns}
use Rattle.swd_observer.specs.Traces.{is_observed_gap, is_observed_gapless, observed_event_at, observed_moves_in}
use Rattle.swd_observer.specs.Traces.{observed_moves_of, observed_place_after}
use Rattle.swd_observer.specs.Transacts.{ObservedMoves as MovesData, ObservedTransacts}
use Rattle.swd_observer.proofs.TraceLemmas.{observed_any_trace_accounted, observed_trace_accounted}
use Rattle.swd_run.specs.Recorded.{AnyRunTraceIsAccounted, RunTraceIsAccounted, RunCallsStepped, at_start, further}

-- ---- the transactions of items, and of one more

moved_before : (first : Item) (place : ℕ) (a b : List ObservedEvent)
    → observed_event_at first place (a ++ b) ≡ observed_event_at first place a ++ b
moved_before (Tx tx) place a b = refl
moved_before (Reset n) place a b = refl
moved_before Switch place a b = refl
moved_before (Idle n) place a b = refl
moved_before (Junk bit) place a b = refl
moved_before (Cut bits) place a b = refl

moves_joined : (last item : Item) (place : ℕ)
    → (at : ℕ) × (observed_moves_in (recorded_joined last item) place ≡ observed_moves_in (last ∷ []) place
    ++ observed_event_at item at [])
moves_joined (Idle m) (Idle n) place = (place, refl)
moves_joined (Idle m) (Reset n) place = (place, refl)
moves_joined (Idle m) Switch place = (place, refl)
moves_joined (Idle m) (Tx tx) place = (observed_place_after (Idle m) place, refl)
moves_joined (Idle m) (Junk b) place = (place, refl)
moves_joined (Idle m) (Cut bits) place = (place, refl)
moves_joined (Reset n) item place = (observed_place_after (Reset n) place, refl)
moves_joined Switch item place = (observed_place_after Switch place, refl)
moves_joined (Tx tx) item place = (observed_place_after (Tx tx) place, refl)
moves_joined (Junk b) item place = (observed_place_after (Junk b) place, refl)
moves_joined (Cut bits) item place = (observed_place_after (Cut bits) place, refl)

moves_with : (items : List Item) (item : Item) (place : ℕ)
    → (at : ℕ) × (observed_moves_in (recorded_with_item items item) place ≡ observed_moves_in items place
    ++ observed_event_at item at [])
moves_with [] item place = (place, refl)
moves_with (last ∷ []) item place = moves_joined last item place
moves_with (first ∷ second ∷ items) item place =
    let next = observed_place_after first place in
    let rest = moves_with (second ∷ items) item next in (
      rest.0,
      ap (observed_event_at first place) rest.1
          ∙ moved_before first place (observed_moves_in (second ∷ items) next) (observed_event_at item rest.0 []),
    )

-- ---- items without junk bits and cut ends, and one more

ungapped : (gap rest : Bool) → (not gap && rest) ≡ true → (gap ≡ false) × (rest ≡ true)
ungapped false true e = (refl, refl)
ungapped false false e = absurd cc
ungapped true rest e = absurd cc

gapless : (gap rest : Bool) → gap ≡ false → rest ≡ true → (not gap && rest) ≡ true
gapless gap rest e h = ap₂ (λ g r. not g && r) e h

whole_joined : (last item : Item) → is_observed_gap last ≡ false → is_observed_gap item ≡ false
    → is_observed_gapless (recorded_joined last item) ≡ true
whole_joined (Idle m) (Idle n) e h = refl
whole_joined (Idle m) (Reset n) e h = refl
whole_joined (Idle m) Switch e h = refl
whole_joined (Idle m) (Tx tx) e h = refl
whole_joined (Idle m) (Junk b) e h = absurd cc
whole_joined (Idle m) (Cut bits) e h = absurd cc
whole_joined (Reset n) item e h = gapless (is_observed_gap item) true h refl
whole_joined Switch item e h = gapless (is_observed_gap item) true h refl
whole_joined (Tx tx) item e h = gapless (is_observed_gap item) true h refl
whole_joined (Junk b) item e h = absurd cc
whole_joined (Cut bits) item e h = absurd cc

whole_with : (items : List Item) (item : Item) → is_observed_gapless items ≡ true → is_observed_gap item ≡ false
    → is_observed_gapless (recorded_with_item items item) ≡ true
whole_with [] item e h = gapless (is_observed_gap item) true h refl
whole_with (last ∷ []) item e h = whole_joined last item (ungapped (is_observed_gap last) true e).0 h
whole_with (first ∷ second ∷ items) item e h =
    let parts = ungapped (is_observed_gap first) (is_observed_gapless (second ∷ items)) e in
    gapless (is_observed_gap first) (is_observed_gapless (recorded_with_item (second ∷ items) item)) parts.0
    (whole_with (second ∷ items) item parts.1 h)

-- ---- line resets, switches and idle cycles

abbrev is_quiet : Item → Bool
is_quiet (Reset n) = true
is_quiet Switch = true
is_quiet (Idle n) = true
is_quiet (Tx tx) = false
is_quiet (Junk b) = false
is_quiet (Cut bits) = false

abbrev AreQuiet : List Item → Type 0
AreQuiet [] = Unit {0}
AreQuiet (item ∷ items) = (is_quiet item ≡ true) × AreQuiet items

quiet_moves : (item : Item) (at : ℕ) → is_quiet item ≡ true → observed_event_at item at [] ≡ []
quiet_moves (Reset n) at e = refl
quiet_moves Switch at e = refl
quiet_moves (Idle n) at e = refl
quiet_moves (Tx tx) at e = absurd cc
quiet_moves (Junk b) at e = absurd cc
quiet_moves (Cut bits) at e = absurd cc

quiet_gap : (item : Item) → is_quiet item ≡ true → is_observed_gap item ≡ false
quiet_gap (Reset n) e = refl
quiet_gap Switch e = refl
quiet_gap (Idle n) e = refl
quiet_gap (Tx tx) e = absurd cc
quiet_gap (Junk b) e = absurd cc
quiet_gap (Cut bits) e = absurd cc

quiet_count : (items : List Item) → AreQuiet items → recorded_transactions items ≡ 0
quiet_count [] h = refl
quiet_count (Reset n ∷ items) h = quiet_count items h.1
quiet_count (Switch ∷ items) h = quiet_count items h.1
quiet_count (Idle n ∷ items) h = quiet_count items h.1
quiet_count (Tx tx ∷ items) h = let never = h.0 in absurd cc
quiet_count (Junk b ∷ items) h = let never = h.0 in absurd cc
quiet_count (Cut bits ∷ items) h = let never = h.0 in absurd cc

quiet_with : (items more : List Item) (place : ℕ) → AreQuiet more
    → observed_moves_in (recorded_with_items items more) place ≡ observed_moves_in items place
quiet_with items [] place h = refl
quiet_with items (item ∷ more) place h =
    let one = moves_with items item place in
    quiet_with (recorded_with_item items item) more place h.1 ∙ one.1
    ∙ ap (λ x. observed_moves_in items place ++ x) (quiet_moves item one.0 h.0) ∙ append-nil
    (observed_moves_in items place)

quiet_whole : (items more : List Item) → AreQuiet more → is_observed_gapless items ≡ true
    → is_observed_gapless (recorded_with_items items more) ≡ true
quiet_whole items [] h e = e
quiet_whole items (item ∷ more) h e =
    quiet_whole (recorded_with_item items item) more h.1 (whole_with items item e (quiet_gap item h.0))

quiet_both : (a b : List Item) → AreQuiet a → AreQuiet b → AreQuiet (a ++ b)
quiet_both [] b h k = k
quiet_both (item ∷ a) b h k = (h.0, quiet_both a b h.1 k)

quiet_high : (ones : ℕ) (none switches : Bool)
    → AreQuiet (if none then [] else Reset ones ∷ (if switches then Switch ∷ Reset ones ∷ [] else []))
quiet_high ones true switches = tt
quiet_high ones false true = (refl, (refl, (refl, tt)))
quiet_high ones false false = (refl, tt)

quiet_low : (lows : ℕ) (none : Bool) → AreQuiet (if none then [] else Idle lows ∷ [])
quiet_low lows true = tt
quiet_low lows false = (refl, tt)

quiet_lead : (ones zeros : ℕ) (switches : Bool)
    → AreQuiet (recorded_high_items ones switches ++ recorded_low_items zeros)
quiet_lead ones zeros switches =
    quiet_both (recorded_high_items ones switches) (recorded_low_items zeros) (quiet_high ones (ones == 0) switches)
    (quiet_low zeros (zeros == 0))

-- ---- runs, and one event more

runs_more : (events : List ObservedEvent) (s m t : Port) (event : ObservedEvent) → ObservedRuns events s m
    → ObservedHappens event m t → ObservedRuns (events ++ event ∷ []) s t
runs_more [] s m t event r h = (t, subst (λ x. ObservedHappens event x t) r h, refl)
runs_more (first ∷ events) s m t event r h = (r.0, r.1, runs_more events r.0 m t event r.2 h)

moves_more : (events : List ObservedEvent) (event : ObservedEvent)
    → observed_moves_of (events ++ event ∷ []) ≡ observed_moves_of events ++ observed_moves_of (event ∷ [])
moves_more [] event = refl
moves_more (Moves tx place ∷ events) event = ap (λ l. Moves tx place ∷ l) (moves_more events event)
moves_more (Lifts ones ∷ events) event = moves_more events event

-- ---- acknowledgements that were seen

equals : (a b : ℕ) → (a == b) ≡ true → a ≡ b
equals a b e = grind (arith, nat_tests)

abbrev IsFound : Option Ack → ℕ → Type 0
IsFound (Some AckOk) seen = seen ≡ 1
IsFound (Some AckWait) seen = seen ≡ 2
IsFound (Some AckFault) seen = seen ≡ 4
IsFound None seen = IsPortNoAck seen

found_by : (seen : ℕ) (one two four : Bool) → (seen == 1) ≡ one → (seen == 2) ≡ two → (seen == 4) ≡ four
    → IsFound (if one then Some AckOk else (if two then Some AckWait else (if four then Some AckFault else None))) seen
found_by seen true two four e f g = equals seen 1 e
found_by seen false true four e f g = equals seen 2 f
found_by seen false false true e f g = equals seen 4 g
found_by seen false false false e f g = record { not_okay = e; not_wait = f; not_fault = g }

found : (seen : ℕ) (o : Option Ack) → recorded_ack_seen seen ≡ o → IsFound o seen
found seen o is =
    subst (λ x. IsFound x seen) is (found_by seen (seen == 1) (seen == 2) (seen == 4) refl refl refl)

-- what is due then
lost_by : (read one two four : Bool) → one ≡ false → two ≡ false → four ≡ false
    → (if one then (if read then Take else Give) else (if two || four then Pass else Lost)) ≡ Lost
lost_by read false false false e f g = refl
lost_by read true two four e f g = absurd cc
lost_by read false true four e f g = absurd cc
lost_by read false false true e f g = absurd cc

took : (read : Bool) (a : Ack) (seen : ℕ) → IsFound (Some a) seen → Take ≡ port_due_after read seen
    → (seen ≡ 1) × (read ≡ true)
took true AckOk seen is e = (is, refl)
took false AckOk seen is e = let never : Take ≡ Give = e ∙ ap (port_due_after false) is in absurd cc
took read AckWait seen is e = let never : Take ≡ Pass = e ∙ ap (port_due_after read) is in absurd cc
took read AckFault seen is e = let never : Take ≡ Pass = e ∙ ap (port_due_after read) is in absurd cc

gave : (read : Bool) (a : Ack) (seen : ℕ) → IsFound (Some a) seen → Give ≡ port_due_after read seen
    → (seen ≡ 1) × (read ≡ false)
gave false AckOk seen is e = (is, refl)
gave true AckOk seen is e = let never : Give ≡ Take = e ∙ ap (port_due_after true) is in absurd cc
gave read AckWait seen is e = let never : Give ≡ Pass = e ∙ ap (port_due_after read) is in absurd cc
gave read AckFault seen is e = let never : Give ≡ Pass = e ∙ ap (port_due_after read) is in absurd cc

not_passed : (read : Bool) (seen : ℕ) → seen ≡ 1 → Pass ≡ port_due_after read seen → ⊥
not_passed true seen is e = let never : Pass ≡ Take = e ∙ ap (port_due_after true) is in absurd cc
not_passed false seen is e = let never : Pass ≡ Give = e ∙ ap (port_due_after false) is in absurd cc

not_idle : (read : Bool) (a : Ack) (seen : ℕ) → IsFound (Some a) seen → Nothing ≡ port_due_after read seen → ⊥
not_idle true AckOk seen is e = let never : Nothing ≡ Take = e ∙ ap (port_due_after true) is in absurd cc
not_idle false AckOk seen is e = let never : Nothing ≡ Give = e ∙ ap (port_due_after false) is in absurd cc
not_idle read AckWait seen is e = let never : Nothing ≡ Pass = e ∙ ap (port_due_after read) is in absurd cc
not_idle read AckFault seen is e = let never : Nothing ≡ Pass = e ∙ ap (port_due_after read) is in absurd cc

-- ---- the run behind the items

-- The model stands at the end of the last whole transaction, or behind the acknowledgement of one that isn't whole yet.
abbrev Stands : Option InHand → Port → Port → Type 0
Stands None last s = (s ≡ last) × (recorded_due_count s.link.due ≡ 0)
Stands (Some asked) last s =
    (seen : ℕ) × IsFound (Some asked.ack) seen × PortAsks last asked.request seen s
    × (s.link.due ≡ port_due_after asked.request.read seen)

-- items, and a run of the model that has their transactions
record Tracked (start : Port) (items : List Item) (in_hand : Option InHand) (s : Port) : Type 0 where
  events : List ObservedEvent
  last : Port
  runs : ObservedRuns events start last
  moves : observed_moves_in items 0 ≡ observed_moves_of events
  whole : is_observed_gapless items ≡ true
  stands : Stands in_hand last s

module _ (start s t : Port) (items : List Item) where
  -- one more whole transaction
  with_tx : (in_hand : Option InHand) (h : Tracked start items in_hand s) (q : Request) (end : TxEnd)
      → ObservedTransacts end q h.last t → recorded_due_count t.link.due ≡ 0
      → Tracked start (recorded_with_items items (recorded_tx_item q end)) None t
  with_tx in_hand h q end transacts rests =
      let tx : Transaction = record { request = q; result = end } in
      let one = moves_with items (Tx tx) 0 in
      record {
        events = h.events ++ Moves tx one.0 ∷ [];
        last = t;
        runs = runs_more h.events start h.last t (Moves tx one.0) h.runs transacts;
        moves = one.1 ∙ ap (λ l. l ++ Moves tx one.0 ∷ []) h.moves ∙ sym (moves_more h.events (Moves tx one.0));
        whole = whole_with items (Tx tx) h.whole refl;
        stands = (refl, rests);
      }

  -- ones and zeros
  lead_on : (h : Tracked start items None s) (ones : ℕ) (more : List Item) → AreQuiet more → PortLeads s ones t
      → recorded_due_count t.link.due ≡ 0 → Tracked start (recorded_with_items items more) None t
  lead_on h ones more quiet leads rests = record {
    events = h.events ++ Lifts ones ∷ [];
    last = t;
    runs = runs_more h.events start h.last t (Lifts ones) h.runs (subst (λ x. PortLeads x ones t) h.stands.0 leads);
    moves = quiet_with items more 0 quiet ∙ h.moves
        ∙ sym (moves_more h.events (Lifts ones) ∙ append-nil (observed_moves_of h.events));
    whole = quiet_whole items more quiet h.whole;
    stands = (refl, rests);
  }

  -- a request
  ask_on : (h : Tracked start items None s) (q : Request) (seen : ℕ) → PortAsks s q seen t
      → t.link.due ≡ port_due_after q.read seen → (o : Option Ack) → IsFound o seen
      → Tracked start (recorded_with_items items (recorded_unanswered q seen o)) (recorded_answered q o) t
  ask_on h q seen asks due (Some a) is = record {
    events = h.events;
    last = h.last;
    runs = h.runs;
    moves = h.moves;
    whole = h.whole;
    stands = (seen, is, subst (λ x. PortAsks x q seen t) h.stands.0 asks, due);
  }
  ask_on h q seen asks due None is =
      with_tx None h q (NoAck seen) (record { none = is; asks = subst (λ x. PortAsks x q seen t) h.stands.0 asks })
      (ap recorded_due_count (due ∙ lost_by q.read (seen == 1) (seen == 2) (seen == 4) is.not_okay is.not_wait
      is.not_fault))

  -- a data phase
  data_on : (asked : InHand) (h : Tracked start items (Some asked) s) (bits : ℕ) → bits < 2 ^ 33
      → h.stands.0 ≡ 1 → MovesData asked.request.read s bits t → t.link.due ≡ Nothing
      → Tracked start (recorded_with_items items (recorded_tx_item asked.request (recorded_moved bits))) None t
  data_on asked h bits range okay moves due =
      let q = asked.request in
      let asks : PortAsks h.last q 1 s = subst (λ n. PortAsks h.last q n s) okay h.stands.2 in
      let whole : ObservedTransacts (Moved (bits % 2 ^ 32) (count_ones bits % 2 == 0)) q h.last t =
      record {
        asked = s;
        bits = bits;
        asks = asks;
        range = range;
        small = omega arith;
        carries = refl;
        moves = moves;
      } in
      with_tx (Some asked) h q (recorded_moved bits)
      (subst (λ end. ObservedTransacts end q h.last t) (recorded_phase_moved bits range) whole)
      (ap recorded_due_count due)

  -- the turnaround after a refusal
  pass_on : (q : Request) (a : Ack) (h : Tracked start items (Some (record { request = q; ack = a })) s)
      → Pass ≡ s.link.due → IsPortStep CuePass 0 s t → t.link.due ≡ Nothing
      → Tracked start (recorded_with_items items (recorded_tx_item q (recorded_refused a))) None t
  pass_on q AckOk h m passes due = absurd (not_passed q.read h.stands.0 h.stands.1 (m ∙ h.stands.3))
  pass_on q AckWait h m passes due =
      with_tx (Some (record { request = q; ack = AckWait })) h q (recorded_refused AckWait)
      (record { asked = s; asks = subst (λ n. PortAsks h.last q n s) h.stands.1 h.stands.2; passes = passes })
      (ap recorded_due_count due)
  pass_on q AckFault h m passes due =
      with_tx (Some (record { request = q; ack = AckFault })) h q (recorded_refused AckFault)
      (record { asked = s; asks = subst (λ n. PortAsks h.last q n s) h.stands.1 h.stands.2; passes = passes })
      (ap recorded_due_count due)

  -- nothing is due of a transaction where none is in hand
  undue : (h : Tracked start items None s) (due : Due) → recorded_due_count due ≡ 1 → s.link.due ≡ due → ⊥
  undue h due one is =
      let rests = h.stands.1 in
      let same = ap recorded_due_count is in
      absurd (omega (arith, rests, same, one))

  -- any call outside a transaction or of one
  one_more : (in_hand : Option InHand) (cue : Cue) (seen : ℕ) → Tracked start items in_hand s
      → PortMayStep s.link.due cue
      → IsPortSeen cue seen → IsPortStep cue seen s t → t.link.due ≡ port_due_once cue seen
      → is_recorded_inside in_hand cue ≡ false
      → Tracked start (recorded_with_items items (recorded_items_of in_hand cue seen)) (recorded_in_hand_once cue seen)
      t
  one_more None (Lead ones undriven switch zeros) seen h may is step due out =
      lead_on h ones (recorded_high_items ones switch ++ recorded_low_items zeros) (quiet_lead ones zeros switch) step
      (ap recorded_due_count due)
  one_more (Some asked) (Lead ones undriven switch zeros) seen h may is step due out = absurd cc
  one_more None (Ask q) seen h may is step due out =
      ask_on h q seen step due (recorded_ack_seen seen) (found seen (recorded_ack_seen seen) refl)
  one_more (Some asked) (Ask q) seen h may is step due out =
      absurd (not_idle asked.request.read asked.ack h.stands.0 h.stands.1 (sym may ∙ h.stands.3))
  one_more None CueTake seen h may is step due out = absurd (undue h Take refl may)
  one_more (Some asked) CueTake seen h may is step due out =
      let by = took asked.request.read asked.ack h.stands.0 h.stands.1 (sym may ∙ h.stands.3) in
      data_on asked h seen is by.0 (subst (λ read. MovesData read s seen t) (sym by.1) step) due
  one_more None (CueGive bits) seen h may is step due out = absurd (undue h Give refl may.0)
  one_more (Some asked) (CueGive bits) seen h may is step due out =
      let by = gave asked.request.read asked.ack h.stands.0 h.stands.1 (sym may.0 ∙ h.stands.3) in
      data_on asked h bits may.1 by.0 (subst (λ read. MovesData read s bits t) (sym by.1) step) due
  one_more None CuePass seen h may is step due out = absurd (undue h Pass refl may)
  one_more (Some asked) CuePass seen h may is step due out =
      pass_on asked.request asked.ack h (sym may) step due

-- no line reset inside a transaction
abbrev AreOutside : List Call → Type 0
AreOutside [] = Unit {0}
AreOutside (call ∷ calls) = (is_recorded_inside (recorded_in_hand_by calls) call.cue ≡ false) × AreOutside calls

tracked : (start : Port) (calls : List Call) (t : Port) → start.link.due ≡ Nothing → RunCallsStepped start calls t
    → AreOutside calls → Tracked start (recorded_items_by calls) (recorded_in_hand_by calls) t
tracked start calls t begins at_start out = record {
  events = [];
  last = start;
  runs = refl;
  moves = refl;
  whole = refl;
  stands = (refl, ap recorded_due_count begins);
}
tracked start calls t begins (further {calls = before} {call = call} {s = s} prior may seen step due) out =
    one_more start s t (recorded_items_by before) (recorded_in_hand_by before) call.cue call.seen
    (tracked start before s begins prior out.1) may seen step due out.0

-- ---- the number of transactions

asked_once : (q : Request) (seen : ℕ) (o : Option Ack)
    → recorded_transactions (recorded_unanswered q seen o) + recorded_in_hand_count (recorded_answered q o) ≡ 1
asked_once q seen (Some a) = refl
asked_once q seen None = refl

added_most : (in_hand : Option InHand) (cue : Cue) (seen : ℕ)
    → recorded_transactions (recorded_items_of in_hand cue seen)
    + recorded_in_hand_count (recorded_in_hand_once cue seen) + bit (is_recorded_inside in_hand cue)
    ≤ recorded_in_hand_count in_hand + bit (is_port_ask cue)
added_most None (Lead ones undriven switch zeros) seen =
    let quiet = quiet_count (recorded_high_items ones switch ++ recorded_low_items zeros) (quiet_lead ones zeros switch)
    in
    omega (arith, quiet)
added_most (Some asked) (Lead ones undriven switch zeros) seen =
    let quiet = quiet_count (recorded_high_items ones switch ++ recorded_low_items zeros) (quiet_lead ones zeros switch)
    in
    omega (arith, quiet)
added_most None (Ask q) seen = let one = asked_once q seen (recorded_ack_seen seen) in omega (arith, one)
added_most (Some asked) (Ask q) seen = let one = asked_once q seen (recorded_ack_seen seen) in omega (arith, one)
added_most None CueTake seen = omega arith
added_most (Some asked) CueTake seen = omega arith
added_most None (CueGive bits) seen = omega arith
added_most (Some asked) (CueGive bits) seen = omega arith
added_most None CuePass seen = omega arith
added_most (Some asked) CuePass seen = omega arith

counted_most : (calls : List Call) → recorded_transactions (recorded_items_by calls)
    + recorded_in_hand_count (recorded_in_hand_by calls) ≤ recorder_ask_count calls
counted_most [] = omega arith
counted_most (call ∷ calls) =
    let most = counted_most calls in
    let more = added_most (recorded_in_hand_by calls) call.cue call.seen in
    let sum = recorded_count_appended (recorded_items_by calls)
    (recorded_items_of (recorded_in_hand_by calls) call.cue call.seen) in
    omega (arith, most, more, sum)

is_clear : (b : Bool) → bit b ≡ 0 → b ≡ false
is_clear false e = refl
is_clear true e = absurd (omega arith)

outside : (calls : List Call) → recorder_ask_count calls ≤ recorded_transactions (recorded_items_by calls)
    + recorded_in_hand_count (recorded_in_hand_by calls) → AreOutside calls
outside [] all = tt
outside (call ∷ calls) all =
    let most = counted_most calls in
    let more = added_most (recorded_in_hand_by calls) call.cue call.seen in
    let sum = recorded_count_appended (recorded_items_by calls)
    (recorded_items_of (recorded_in_hand_by calls) call.cue call.seen) in (
      is_clear (is_recorded_inside (recorded_in_hand_by calls) call.cue) (omega (arith, all, most, more, sum)),
      outside calls (omega (arith, all, most, more, sum)),
    )

at_end : (in_hand : Option InHand) (last t : Port) → recorded_in_hand_count in_hand ≡ 0 → Stands in_hand last t
    → t ≡ last
at_end None last t empty h = h.0
at_end (Some asked) last t empty h = absurd (omega arith)

-- calls whose requests led to whole transactions are a run of the model
run_of : (start : Port) (calls : List Call) (t : Port) → start.link.due ≡ Nothing → RunCallsStepped start calls t
    → recorder_ask_count calls ≤ recorded_transactions (recorded_items_by calls) → (events : List ObservedEvent)
    × ObservedRuns events start t × (is_observed_gapless (recorded_items_by calls) ≡ true)
    × (observed_moves_in (recorded_items_by calls) 0 ≡ observed_moves_of events)
run_of start calls t begins steps all =
    let most = counted_most calls in
    let h = tracked start calls t begins steps (outside calls (omega (arith, all))) in
    let rests : t ≡ h.last = at_end (recorded_in_hand_by calls) h.last t (omega (arith, all, most)) h.stands in
    (h.events, subst (ObservedRuns h.events start) (sym rests) h.runs, h.whole, h.moves)

-- THE THEOREM
pub run_trace_accounted : RunTraceIsAccounted
run_trace_accounted identification m calls t steps all =
    let run = run_of (port_made identification m) calls t refl steps all in
    observed_trace_accounted identification m (recorded_items_by calls) run.0 t run.1 run.2 run.3

-- the theorem from any state in which nothing is due or pending and no write data is awaited, for an observer that
-- knows nothing at first
pub any_run_trace_accounted : AnyRunTraceIsAccounted
any_run_trace_accounted calls s t begins settled idle steps all =
    let run = run_of s calls t begins steps all in
    observed_any_trace_accounted (recorded_items_by calls) run.0 s t settled idle run.1 run.2 run.3

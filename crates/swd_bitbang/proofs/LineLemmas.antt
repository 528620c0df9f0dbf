-- What the characters of sequences of clocks do to the pins, for `laws::sequences_are_read`.
use Rattle.std.proofs.Common.{◌≡◌, ℕ, zero, suc, Bool, true, false, List, [], ◌∷◌, ◌++◌, Option, Some, None, map}
use Rattle.std.proofs.Common.{refl, sym, ap, ◌∙◌, subst, append_assoc, get_or, drop}
use Rattle.std.specs.Io.KnownBytes.{Appends}
use Rattle.std.specs.Prelude.{if◌then◌else◌, replicate, All}
use Rattle.std.proofs.lemmas.List.Elements.{All-append, All-nil, All-cons, All-head, All-tail}
use Rattle.swd_port.specs.Bus.{Bus}
use Rattle.swd_bits.specs.Bits.{low_bits}
use Rattle.swd_clocked.specs.Giving.{BufferedCycles}
use Rattle.swd_sequences.specs.declared.character.Character.TheVariants.{Moves, Looks, Drives, Quits}
use Rattle.swd_sequences.specs.declared.sequence.Sequence.{Sequence}
use Rattle.swd_sequences.specs.declared.sequence.Sequence.TheVariants.{Drive, Hold, Release, Sample}
use Rattle.swd_sequences.specs.Alphabet.{alphabet_byte, alphabet_level, alphabet_character}
use Rattle.swd_sequences.specs.Clocks.{sequence_drives, sequence_driven_clock, sequence_sampled_clock, sequence_joined}
use Rattle.swd_sequences.specs.Clocks.{sequence_turn, is_driven_sequence, sequence_clocks}
use Rattle.swd_sequences.specs.Clocks.{sequence_characters, all_sequence_characters}
use Rattle.swd_sequences.specs.Going.{SequenceClocksGoBy, sequence_sampled}
use Rattle.swd_bitbang.specs.declared.pins.Pins.{Pins}
use Rattle.swd_bitbang.specs.Steps.{pins_driven, pins_fallen, PinsCyclePasses, PinsShowBy, PinsShow, PinsSeenBy}
use Rattle.swd_bitbang.specs.Steps.{PinsStep}
use Rattle.swd_bitbang.specs.declared.serving.Served.TheVariants as ends
use Rattle.swd_bitbang.specs.Sessions.{bitbang_answer_to_sign, IsBitbangOpen, PinsAnswer, PinsSession, BitbangEndsAs}
use Rattle.swd_bitbang.specs.Lines.{ArePinsBetweenClocks, PinsWentBy, KeepsBitbangOpen}

-- a session of two texts
record Parts {D A : Type 0} (bus : D → Bus) (front back answers : List ℕ) (s t : Pins D A) : Type 0 where
  middle : Pins D A
  first : List ℕ
  rest : List ℕ
  goes : PinsSession bus front first s middle
  after : PinsSession bus back rest middle t
  is : answers ≡ first ++ rest

parted : {D A : Type 0} (bus : D → Bus) (front back answers : List ℕ) (s t : Pins D A) → PinsSession bus (front ++ back)
    answers s t
    → Parts bus front back answers s t
parted bus [] back answers s t h =
    record { middle = s; first = []; rest = answers; goes = (refl, refl); after = h; is = refl }
parted bus (byte ∷ front) back answers s t h =
    let more = parted bus front back h.2 h.0 t h.4 in
    record {
      middle = more.middle;
      first = h.1 ++ more.first;
      rest = more.rest;
      goes = (h.0, h.1, more.first, h.3, more.goes, refl);
      after = more.after;
      is = h.5 ∙ ap (λ l. h.1 ++ l) more.is ∙ sym (append_assoc h.1 more.first more.rest);
    }

-- ONE CLOCK

-- what is answered of a level, where the host looks
abbrev answered : Bool → List Bool → List ℕ
answered true levels = map alphabet_level levels
answered false levels = []

answered_none : (looks : Bool) → answered looks [] ≡ []
answered_none true = refl
answered_none false = refl

answered_next : (looks level : Bool) (rest : List ℕ) (levels : List Bool) → rest ≡ answered looks levels
    → answered looks (level ∷ []) ++ rest ≡ answered looks (level ∷ levels)
answered_next true level rest levels e = ap (λ l. alphabet_level level ∷ l) e
answered_next false level rest levels e = e

-- a clock went by: what the host drove, and whether it looked
record WentOnce {D A : Type 0} (bus : D → Bus) (looks : Bool) (drive : Option Bool) (answers : List ℕ)
    (s t : Pins D A) : Type 0 where
  level : Bool
  cycle : BufferedCycles bus drive level s.target t.target
  answers_are : answers ≡ answered looks (level ∷ [])
  between : ArePinsBetweenClocks t
  drives : t.drives ≡ s.drives

-- the clock falls, and rises where no bit was seen
fell : {D A : Type 0} (bus : D → Bus) (level : Bool) (first : List ℕ) (s m : Pins D A)
    → PinsAnswer bus (alphabet_byte (Moves false level)) first s m → (m ≡ pins_fallen level s) × (first ≡ [])
fell bus true first s m h = (h.steps.1, h.tells ∙ ap bitbang_answer_to_sign h.steps.0)
fell bus false first s m h = (h.steps.1, h.tells ∙ ap bitbang_answer_to_sign h.steps.0)

-- the bit of a clock in which none was seen
passes : {D A : Type 0} (bus : D → Bus) (o : Option Bool) (bit : Bool) (s t : Pins D A) → o ≡ None → PinsShowBy bus o
    bit s t
    → PinsCyclePasses bus bit s t
passes bus o bit s t e h = subst (λ x. PinsShowBy bus x bit s t) e h

rose : {D A : Type 0} (bus : D → Bus) (level : Bool) (first : List ℕ) (m t : Pins D A)
    → PinsAnswer bus (alphabet_byte (Moves true level)) first m t
    → (bit : Bool) × PinsShow bus bit (record m { clock = true; level = level }) t × (first ≡ [])
rose bus true first m t h = (h.steps.1.0, h.steps.1.1, h.tells ∙ ap bitbang_answer_to_sign h.steps.0)
rose bus false first m t h = (h.steps.1.0, h.steps.1.1, h.tells ∙ ap bitbang_answer_to_sign h.steps.0)

-- the bit that is driven where a clock fell
fallen_drive : {D A : Type 0} (level : Bool) (s : Pins D A) (d : Bool) → s.drives ≡ d
    → pins_driven (record (pins_fallen level s) { clock = true; level = level }) ≡ (if d then Some level else None)
fallen_drive level s d e = ap (λ x. if x then Some level else None) e

-- a clock at which the host doesn't look
moves : {D A : Type 0} (bus : D → Bus) (level d : Bool) (answers : List ℕ) (s t : Pins D A) → s.drives ≡ d
    → ArePinsBetweenClocks s
    → PinsSession bus (sequence_driven_clock level) answers s t
    → WentOnce bus false (if d then Some level else None) answers s t
moves {D} {A} bus level d answers s t e between h =
    let low = fell bus level h.1 s h.0 h.3 in
    let up = h.4 in
    let rise = rose bus level up.1 h.0 up.0 up.3 in
    let high = subst (λ (m : Pins D A). PinsShow bus rise.0 (record m { clock = true; level = level }) up.0) low.0
    rise.1 in
    let bit = passes bus _ rise.0 (record (pins_fallen level s) { clock = true; level = level }) up.0 between high in
    let same : t ≡ up.0 = up.4.1 in
    let went : WentOnce bus false (if d then Some level else None) answers s up.0 = record {
      level = rise.0;
      cycle = subst (λ x. BufferedCycles bus x rise.0 s.target up.0.target) (fallen_drive level s d e) bit.cycle;
      answers_are = h.5 ∙ ap (λ l. l ++ h.2) low.1 ∙ up.5 ∙ ap (λ l. l ++ up.2) rise.2 ∙ up.4.0;
      between = subst (λ x. (if x then None else up.0.seen) ≡ None) (sym bit.clock) refl;
      drives = bit.drives;
    } in
    subst (λ (r : Pins D A). WentOnce bus false (if d then Some level else None) answers s r) (sym same) went

-- a clock at which it does
looked : {D A : Type 0} (bus : D → Bus) (answers : List ℕ) (s t : Pins D A) → s.drives ≡ false → ArePinsBetweenClocks s
    → PinsSession bus sequence_sampled_clock answers s t → WentOnce bus true None answers s t
looked {D} {A} bus answers s t e between h =
    let low = fell bus false h.1 s h.0 h.3 in
    let at = h.4 in
    let sees = at.3.steps in
    let here = subst (λ d. PinsSeenBy bus d sees.0 h.0 at.0) (ap (λ (m : Pins D A). m.drives) low.0 ∙ e) sees.2 in
    let shows = subst (λ (m : Pins D A). PinsShow bus sees.0 m at.0) low.0 here in
    let bit = passes bus _ sees.0 (pins_fallen false s) at.0 between shows in
    let up = at.4 in
    let rise = rose bus false up.1 at.0 up.0 up.3 in
    let high = subst (λ o. PinsShowBy bus o rise.0 (record at.0 { clock = true; level = false }) up.0) bit.seen rise.1
    in
    let same : t ≡ record at.0 { clock = true; level = false } = up.4.1 ∙ high.1 in
    let first : at.1 ≡ alphabet_level sees.0 ∷ [] = at.3.tells ∙ ap bitbang_answer_to_sign sees.1 in
    let went : WentOnce bus true None answers s (record at.0 { clock = true; level = false }) = record {
      level = sees.0;
      cycle = subst (λ x. BufferedCycles bus x sees.0 s.target at.0.target) (ap (λ x. if x then Some false else None) e)
          bit.cycle;
      answers_are = h.5 ∙ ap (λ l. l ++ h.2) low.1 ∙ at.5 ∙ ap (λ l. l ++ at.2) first
          ∙ ap (λ l. alphabet_level sees.0 ∷ l) (up.5 ∙ ap (λ l. l ++ up.2) rise.2 ∙ up.4.0);
      between = refl;
      drives = bit.drives;
    } in
    subst (λ (r : Pins D A). WentOnce bus true None answers s r) (sym same) went

-- CLOCKS ONE AFTER THE OTHER

-- clocks went by: what the host drove in each, and whether it looked
record WentOn {D A : Type 0} (bus : D → Bus) (looks : Bool) (drives : List (Option Bool)) (answers : List ℕ)
    (s t : Pins D A) : Type 0 where
  levels : List Bool
  clocks : SequenceClocksGoBy (BufferedCycles bus) drives levels s.target t.target
  answers_are : answers ≡ answered looks levels
  between : ArePinsBetweenClocks t
  keeps : t.drives ≡ s.drives

none_on : {D A : Type 0} (bus : D → Bus) (looks : Bool) (answers : List ℕ) (s t : Pins D A) → ArePinsBetweenClocks s
    → (answers ≡ [])
    × (t ≡ s) → WentOn bus looks [] answers s t
none_on {D} {A} bus looks answers s t between h = subst (λ (r : Pins D A). WentOn bus looks [] answers s r) (sym h.1)
    (record {
      levels = [];
      clocks = refl;
      answers_are = h.0 ∙ sym (answered_none looks);
      between = between;
      keeps = refl;
    })

-- clocks that are alike but for what they carry
several : {D A X : Type 0} (bus : D → Bus) (looks d : Bool) (text : X → List ℕ) (drive : X → Option Bool)
    → ((x : X) (answers : List ℕ) (s t : Pins D A) → s.drives ≡ d → ArePinsBetweenClocks s
    → PinsSession bus (text x) answers s t → WentOnce bus looks (drive x) answers s t)
    → (xs : List X) (answers : List ℕ) (s t : Pins D A) → s.drives ≡ d → ArePinsBetweenClocks s
    → PinsSession bus (sequence_joined (map text xs)) answers s t → WentOn bus looks (map drive xs) answers s t
several bus looks d text drive each [] answers s t e between h = none_on bus looks answers s t between h
several bus looks d text drive each (x ∷ xs) answers s t e between h =
    let p = parted bus (text x) (sequence_joined (map text xs)) answers s t h in
    let one = each x p.first s p.middle e between p.goes in
    let more = several bus looks d text drive each xs p.rest p.middle t (one.drives ∙ e) one.between p.after in
    record {
      levels = one.level ∷ more.levels;
      clocks = (p.middle.target, one.cycle, more.clocks);
      answers_are = p.is ∙ ap (λ l. l ++ p.rest) one.answers_are ∙ answered_next looks one.level p.rest more.levels
          more.answers_are;
      between = more.between;
      keeps = more.keeps ∙ one.drives;
    }

-- A SEQUENCE

map_alike : {X Y : Type 0} (f : X → Y) (n : ℕ) (x : X) → map f (replicate n x) ≡ replicate n (f x)
map_alike f zero x = refl
map_alike f (suc n) x = ap (λ l. f x ∷ l) (map_alike f n x)

-- the clocks of a sequence that are alike
alike : {D A X : Type 0} (bus : D → Bus) (looks d : Bool) (text : X → List ℕ) (drive : X → Option Bool)
    → ((x : X) (answers : List ℕ) (s t : Pins D A) → s.drives ≡ d → ArePinsBetweenClocks s
    → PinsSession bus (text x) answers s t → WentOnce bus looks (drive x) answers s t)
    → (n : ℕ) (x : X) (answers : List ℕ) (s t : Pins D A) → s.drives ≡ d → ArePinsBetweenClocks s
    → PinsSession bus (sequence_joined (replicate n (text x))) answers s t
    → WentOn bus looks (replicate n (drive x)) answers s t
alike bus looks d text drive each n x answers s t e between h =
    subst (λ l. WentOn bus looks l answers s t) (map_alike drive n x)
    (several bus looks d text drive each (replicate n x) answers s t e between
    (subst (λ l. PinsSession bus (sequence_joined l) answers s t) (sym (map_alike text n x)) h))

-- whether the host looks
abbrev looks_in : Sequence → Bool
looks_in (Sample count) = true
looks_in sequence = false

clocks_on : {D A : Type 0} (bus : D → Bus) (sequence : Sequence) (answers : List ℕ) (s t : Pins D A)
    → s.drives ≡ is_driven_sequence sequence
    → ArePinsBetweenClocks s → PinsSession bus (sequence_clocks sequence) answers s t
    → WentOn bus (looks_in sequence) (sequence_drives sequence) answers s t
clocks_on bus (Drive bits count) answers s t e between h =
    several bus false true sequence_driven_clock Some (λ level. moves bus level true) (low_bits count bits) answers s t
    e
    between h
clocks_on bus (Hold level count) answers s t e between h =
    alike bus false true sequence_driven_clock Some (λ level. moves bus level true) count level answers s t e between h
clocks_on bus (Release count) answers s t e between h =
    alike bus false false sequence_driven_clock (λ _. None) (λ level. moves bus level false) count false answers s t e
    between h
clocks_on bus (Sample count) answers s t e between h =
    alike bus true false (λ (_ : Bool). sequence_sampled_clock) (λ _. None) (λ _. looked bus) count false answers s t e
    between
    h

-- what was answered are the sampled levels
samples : (sequence : Sequence) (answers : List ℕ) (levels : List Bool) → answers ≡ answered (looks_in sequence) levels
    → answers ≡ map alphabet_level (sequence_sampled sequence levels)
samples (Drive bits count) answers levels e = e
samples (Hold level count) answers levels e = e
samples (Release count) answers levels e = e
samples (Sample count) answers levels e = e

-- the host takes the line, or leaves it alone
record Turned {D A : Type 0} (wanted : Bool) (answers : List ℕ) (s t : Pins D A) : Type 0 where
  drives : t.drives ≡ wanted
  target : t.target ≡ s.target
  between : ArePinsBetweenClocks s → ArePinsBetweenClocks t
  answers_are : answers ≡ []

turned_now : {D A : Type 0} (wanted : Bool) (answers : List ℕ) (s t : Pins D A)
    → (answers ≡ []) × (t ≡ record s { drives = wanted })
    → Turned wanted answers s t
turned_now {D} {A} wanted answers s t h = subst (λ (r : Pins D A). Turned wanted answers s r) (sym h.1) (record {
  drives = refl;
  target = refl;
  between = λ between. between;
  answers_are = h.0;
})

turns : {D A : Type 0} (bus : D → Bus) (drives wanted : Bool) (answers : List ℕ) (s t : Pins D A) → s.drives ≡ drives
    → PinsSession bus (sequence_turn drives wanted) answers s t → Turned wanted answers s t
turns {D} {A} bus true true answers s t e h = subst (λ (r : Pins D A). Turned true answers s r) (sym h.1) (record {
  drives = e;
  target = refl;
  between = λ between. between;
  answers_are = h.0;
})
turns {D} {A} bus false false answers s t e h = subst (λ (r : Pins D A). Turned false answers s r) (sym h.1) (record {
  drives = e;
  target = refl;
  between = λ between. between;
  answers_are = h.0;
})
turns bus true false answers s t e h =
    turned_now false answers s t
    (h.5 ∙ ap (λ l. l ++ h.2) (h.3.tells ∙ ap bitbang_answer_to_sign h.3.steps.0) ∙ h.4.0, h.4.1 ∙ h.3.steps.1)
turns bus false true answers s t e h =
    turned_now true answers s t
    (h.5 ∙ ap (λ l. l ++ h.2) (h.3.tells ∙ ap bitbang_answer_to_sign h.3.steps.0) ∙ h.4.0, h.4.1 ∙ h.3.steps.1)

map_both : {X Y : Type 0} (f : X → Y) (xs ys : List X) → map f (xs ++ ys) ≡ map f xs ++ map f ys
map_both f [] ys = refl
map_both f (x ∷ xs) ys = ap (λ l. f x ∷ l) (map_both f xs ys)

-- the characters of sequences, taken by pins between two clocks, are read as these sequences, and their answers are
-- the sampled levels
pub pins_read_sequences : {D A : Type 0} (bus : D → Bus) (sequences : List Sequence) (drives : Bool) (answers : List ℕ)
    (s t : Pins D A)
    → s.drives ≡ drives → ArePinsBetweenClocks s → PinsSession bus (all_sequence_characters drives sequences) answers s
    t
    → PinsWentBy bus sequences answers s t
pins_read_sequences bus [] drives answers s t e between h = subst (λ r. PinsWentBy bus [] answers s r) (sym h.1)
    (record {
      levels = [];
      goes = (refl, refl);
      answered = h.0;
      between = between;
    })
pins_read_sequences bus (sequence ∷ more) drives answers s t e between h =
    let p = parted bus (sequence_characters drives sequence)
    (all_sequence_characters (is_driven_sequence sequence) more)
    answers s t h in
    let q = parted bus (sequence_turn drives (is_driven_sequence sequence)) (sequence_clocks sequence) p.first s
    p.middle
    p.goes in
    let turn = turns bus drives (is_driven_sequence sequence) q.first s q.middle e q.goes in
    let one = clocks_on bus sequence q.rest q.middle p.middle turn.drives (turn.between between) q.after in
    let rest = pins_read_sequences bus more (is_driven_sequence sequence) p.rest p.middle t (one.keeps ∙ turn.drives)
    one.between p.after in
    let first = sequence_sampled sequence one.levels in
    let told_first : p.first ≡ map alphabet_level first = q.is ∙ ap (λ l. l ++ q.rest) turn.answers_are
    ∙ samples sequence q.rest one.levels one.answers_are in
    record {
      levels = first ++ rest.levels;
      goes = (
        p.middle.target,
        first,
        rest.levels,
        record {
          seen = one.levels;
          clocks = subst (λ x. SequenceClocksGoBy (BufferedCycles bus) (sequence_drives sequence) one.levels x
              p.middle.target)
              turn.target one.clocks;
          samples = refl;
        },
        rest.goes,
        refl,
      );
      answered = p.is ∙ ap (λ l. l ++ p.rest) told_first
          ∙ ap (λ l. map alphabet_level first ++ l) rest.answered ∙ sym (map_both alphabet_level first rest.levels);
      between = rest.between;
    }

-- NO CHARACTER ENDS THE SESSION

joined_on : {X : Type 0} (text : X → List ℕ) → ((x : X) → All KeepsBitbangOpen (text x)) → (xs : List X)
    → All KeepsBitbangOpen (sequence_joined (map text xs))
joined_on text each [] = All-nil KeepsBitbangOpen
joined_on text each (x ∷ xs) = All-append KeepsBitbangOpen (text x) (sequence_joined (map text xs)) (each x)
    (joined_on text each xs)

alike_on : (text : List ℕ) → All KeepsBitbangOpen text → (n : ℕ)
    → All KeepsBitbangOpen (sequence_joined (replicate n text))
alike_on text each zero = All-nil KeepsBitbangOpen
alike_on text each (suc n) = All-append KeepsBitbangOpen text (sequence_joined (replicate n text)) each
    (alike_on text each n)

moves_on : (high level : Bool) → KeepsBitbangOpen (alphabet_byte (Moves high level))
moves_on true true = (λ e. cc, λ e. cc)
moves_on true false = (λ e. cc, λ e. cc)
moves_on false true = (λ e. cc, λ e. cc)
moves_on false false = (λ e. cc, λ e. cc)

turn_on : (drives : Bool) → KeepsBitbangOpen (alphabet_byte (Drives drives))
turn_on true = (λ e. cc, λ e. cc)
turn_on false = (λ e. cc, λ e. cc)

look_on : KeepsBitbangOpen (alphabet_byte Looks)
look_on = (λ e. cc, λ e. cc)

ends_on : (byte : ℕ) → KeepsBitbangOpen byte → All KeepsBitbangOpen (byte ∷ [])
ends_on byte one = All-cons KeepsBitbangOpen byte [] one (All-nil KeepsBitbangOpen)

driven_on : (level : Bool) → All KeepsBitbangOpen (sequence_driven_clock level)
driven_on level =
    let high = alphabet_byte (Moves true level) in
    All-cons KeepsBitbangOpen (alphabet_byte (Moves false level)) (high ∷ []) (moves_on false level)
    (ends_on high (moves_on true level))

seen_on : All KeepsBitbangOpen sequence_sampled_clock
seen_on =
    let look = alphabet_byte Looks in
    let high = alphabet_byte (Moves true false) in
    All-cons KeepsBitbangOpen (alphabet_byte (Moves false false)) (look ∷ high ∷ []) (moves_on false false)
    (All-cons KeepsBitbangOpen look (high ∷ []) look_on (ends_on high (moves_on true false)))

turned_on : (drives wanted : Bool) → All KeepsBitbangOpen (sequence_turn drives wanted)
turned_on true false = ends_on (alphabet_byte (Drives false)) (turn_on false)
turned_on false true = ends_on (alphabet_byte (Drives true)) (turn_on true)
turned_on true true = All-nil KeepsBitbangOpen
turned_on false false = All-nil KeepsBitbangOpen

clocks_go_on : (sequence : Sequence) → All KeepsBitbangOpen (sequence_clocks sequence)
clocks_go_on (Drive bits count) = joined_on sequence_driven_clock driven_on (low_bits count bits)
clocks_go_on (Hold level count) = alike_on (sequence_driven_clock level) (driven_on level) count
clocks_go_on (Release count) = alike_on (sequence_driven_clock false) (driven_on false) count
clocks_go_on (Sample count) = alike_on sequence_sampled_clock seen_on count

-- no character of a sequence ends the session
pub bitbang_sequences_stay_open : (drives : Bool) (sequences : List Sequence)
    → All KeepsBitbangOpen (all_sequence_characters drives sequences)
bitbang_sequences_stay_open drives [] = All-nil KeepsBitbangOpen
bitbang_sequences_stay_open drives (sequence ∷ more) =
    All-append KeepsBitbangOpen (sequence_characters drives sequence)
    (all_sequence_characters (is_driven_sequence sequence) more)
    (All-append KeepsBitbangOpen (sequence_turn drives (is_driven_sequence sequence)) (sequence_clocks sequence)
    (turned_on drives (is_driven_sequence sequence))
    (clocks_go_on sequence)) (bitbang_sequences_stay_open (is_driven_sequence sequence) more)

-- UP TO Q

-- a character that ends the session is taken by no session
no_quit : {D A : Type 0} (bus : D → Bus) (byte : ℕ) (first : List ℕ) (s t : Pins D A) → byte ≡ alphabet_byte Quits
    → PinsAnswer bus byte first s t → ⊥
no_quit bus byte first s t e h =
    let steps = subst (λ b. PinsStep bus (alphabet_character b) s h.sign t) e h.steps in subst IsBitbangOpen steps.0
    h.goes_on

-- what was taken before the first of them
taken_whole : {D A : Type 0} (bus : D → Bus) (text taken levels : List ℕ) (byte : ℕ) (more left : List ℕ)
    (s t : Pins D A)
    → All KeepsBitbangOpen text → PinsSession bus taken levels s t → alphabet_character byte ≡ Some Quits
    → text ++ alphabet_byte Quits ∷ more ≡ taken ++ byte ∷ left → taken ≡ text
taken_whole bus [] [] levels byte more left s t on h quits is = refl
taken_whole bus [] (b ∷ taken) levels byte more left s t on h quits is =
    absurd (no_quit bus b h.1 s h.0 (sym (ap (λ l. get_or l 0 0) is)) h.3)
taken_whole bus (c ∷ text) [] levels byte more left s t on h quits is =
    absurd ((All-head KeepsBitbangOpen c text on).1 (ap alphabet_character (ap (λ l. get_or l 0 0) is) ∙ quits))
taken_whole bus (c ∷ text) (b ∷ taken) levels byte more left s t on h quits is =
    let rest = taken_whole bus text taken h.2 byte more left h.0 t (All-tail KeepsBitbangOpen c text on) h.4 quits
    (ap (drop 1) is) in
    ap (λ x. x ∷ taken) (sym (ap (λ l. get_or l 0 0) is)) ∙ ap (λ l. c ∷ l) rest

-- the same for a host that is served up to its `Q`: exactly the sampled levels were written
pub pins_served_up_to_quit : {D A : Type 0} (bus : D → Bus) (sequences : List Sequence) (more : List ℕ)
    (old new : Option (List ℕ))
    (s t : Pins D A)
    → ArePinsBetweenClocks s → BitbangEndsAs bus ends.Quit old new
    (all_sequence_characters s.drives sequences ++ alphabet_byte Quits ∷ more) s t
    → (answers : List ℕ) × PinsWentBy bus sequences answers s t × Appends old new answers
pins_served_up_to_quit bus sequences more old new s t between h =
    let text = all_sequence_characters s.drives sequences in
    let whole = taken_whole bus text h.taken h.goes.answers h.byte more h.more s t
    (bitbang_sequences_stay_open s.drives sequences) h.goes.session
    h.ends h.is in (
      h.goes.answers,
      pins_read_sequences bus sequences s.drives h.goes.answers s t refl between
          (subst (λ x. PinsSession bus x h.goes.answers s t) whole h.goes.session),
      h.goes.gone,
    )

-- The same for a host whose first character says that it drives SWDIO, whatever the pins began with.
pub pins_served_once_driven : {D A : Type 0} (bus : D → Bus) (sequences : List Sequence) (more : List ℕ)
    (old new : Option (List ℕ)) (s t : Pins D A)
    → ArePinsBetweenClocks s → BitbangEndsAs bus ends.Quit old new
    ((alphabet_byte (Drives true) ∷ all_sequence_characters true sequences) ++ alphabet_byte Quits ∷ more) s t
    → (answers : List ℕ) × PinsWentBy bus sequences answers s t × Appends old new answers
pins_served_once_driven bus sequences more old new s t between h =
    let text = all_sequence_characters true sequences in
    let stays = All-cons KeepsBitbangOpen (alphabet_byte (Drives true)) text (turn_on true)
    (bitbang_sequences_stay_open true sequences) in
    let whole = taken_whole bus (alphabet_byte (Drives true) ∷ text) h.taken h.goes.answers h.byte more h.more s t stays
    h.goes.session h.ends h.is in
    let all = subst (λ x. PinsSession bus x h.goes.answers s t) whole h.goes.session in
    let driven = subst (λ m. PinsSession bus text all.2 m t) all.3.steps.1 all.4 in
    let went = pins_read_sequences bus sequences true all.2 (record s { drives = true }) t refl between driven in
    let silent = all.3.tells ∙ ap bitbang_answer_to_sign all.3.steps.0 in (
      h.goes.answers,
      record {
        levels = went.levels;
        goes = went.goes;
        answered = all.5 ∙ ap (λ first. first ++ all.2) silent ∙ went.answered;
        between = went.between;
      },
      h.goes.gone,
    )

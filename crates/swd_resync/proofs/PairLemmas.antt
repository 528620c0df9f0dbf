-- The test for a pair is what it stands for.
use Rattle.std.proofs.Common.{◌≡◌, ℕ, ◌+◌, ◌≤◌, Bool, true, false, List, [], ◌∷◌, ◌++◌, length, take, drop, replicate}
use Rattle.std.proofs.Common.{nat_le, arith, refl, sym, ap, ◌∙◌}
use Rattle.std.specs.Prelude.{◌&&◌, if◌then◌else◌}
use Rattle.std.proofs.lemmas.List.{append_assoc, append-nil, length-append, take-append-drop, drop_at}
use Rattle.std.proofs.lemmas.Bool.{le-leb, and_parts}
use Rattle.swd_bits.specs.Transactions.{SpellsTx}
use Rattle.swd_bits.specs.declared.tx.Tx.{Tx as Transaction}
use Rattle.swd_trace.specs.declared.item.Item.{Item}
use Rattle.swd_trace.specs.declared.item.Item.TheVariants.{Reset, Switch, Idle, Tx, Junk, Cut}
use Rattle.swd_trace.specs.declared.mode.Mode.TheVariants.{Synced}
use Rattle.swd_trace.specs.Stands.{Whole, stands}
use Rattle.swd_trace.specs.Reading.{FirstItem, whole_tx_item, cut_first_item, trace_zeros}
use Rattle.swd_trace.proofs.StandLemmas.{stand_by_test}
use Rattle.swd_trace.proofs.SpellingLemmas.{trace_stand_of_spelled_tx, trace_tx_len, trace_spelling_length}
use Rattle.swd_resync.specs.Parts.{resync_first, past_zeros, resync_is_refusal, resync_is_sound, resync_is_junk}
use Rattle.swd_resync.specs.Parts.{resync_sound, resync_sound_bits, resync_sound_next, pair}
use Rattle.swd_resync.specs.Divisions.{StretchShows, IsPair}
use Rattle.swd_resync.proofs.FirstLemmas.{ResyncTakes, resync_first_takes_bits, resync_refused_tx_len}
use Rattle.swd_resync.proofs.FirstLemmas.{resync_tx_len_least}
use Rattle.swd_resync.proofs.MoveLemmas.{resync_not_idle_no_zero, resync_is_idle}
use Rattle.swd_resync.proofs.SightLemmas.{sight_whole_tx_first, sight_overrun_first, sight_tx_some_bits}
use Rattle.swd_resync.proofs.QueueLemmas.{resync_past_run}

-- ---- what is found

-- a sound transaction is read first
record SoundTx (over : Bool) (bits : List Bool) (n : ℕ) : Type 0 where
  tx : Transaction
  shows : StretchShows over (Tx tx) (take n bits)
  right : resync_is_sound tx.result ≡ true

sound_item : (over : Bool) (bits : List Bool) (f : FirstItem) → ResyncTakes over bits f
    → nat_le 1 (resync_sound_bits f.item f.taken) ≡ true → SoundTx over bits (resync_sound_bits f.item f.taken)
sound_item over bits f t e = by f.item t.shows e
  where
    by : (item : Item) → (resync_is_junk item ≡ false → StretchShows over item (take f.taken bits))
        → nat_le 1 (resync_sound_bits item f.taken) ≡ true → SoundTx over bits (resync_sound_bits item f.taken)
    by (Tx tx) s e =
        stand_by_test (resync_is_sound tx.result) f.taken 0 (λ n. nat_le 1 n ≡ true → SoundTx over bits n)
        (λ r e. record { tx = tx; shows = s refl; right = r }) (λ r e. absurd cc) e
    by (Reset n) s e = absurd cc
    by Switch s e = absurd cc
    by (Idle n) s e = absurd cc
    by (Junk b) s e = absurd cc
    by (Cut off) s e = absurd cc

sound_at : (over : Bool) (bits : List Bool) → nat_le 1 (resync_sound over bits) ≡ true
    → SoundTx over bits (resync_sound over bits)
sound_at over [] e = absurd cc
sound_at over (b ∷ bits) e = sound_item over (b ∷ bits) (resync_first over Synced (b ∷ bits))
    (resync_first_takes_bits over Synced b bits) e

split_zeros : (bits : List Bool) → bits ≡ replicate (trace_zeros bits) false ++ past_zeros bits
split_zeros [] = refl
split_zeros (true ∷ bits) = refl
split_zeros (false ∷ bits) = ap (λ x. false ∷ x) (split_zeros bits)

-- where the test finds a pair, the bits begin with two sound transactions and at most zeros between them
pub pair_found : (over : Bool) (bits : List Bool) → pair over bits ≡ true → IsPair over bits
pair_found over bits e =
    let n : ℕ = resync_sound over bits in
    let behind : List Bool = drop n bits in
    let p = and_parts (nat_le 1 (resync_sound over bits)) (resync_sound_next behind) e in
    let a : SoundTx over bits n = sound_at over bits p.0 in
    let next : List Bool = past_zeros behind in
    let b : SoundTx false next (resync_sound false next) = sound_at false next p.1 in
    let m : ℕ = resync_sound false next in
    let split : bits ≡ take n bits ++ (replicate (trace_zeros behind) false ++ (take m next ++ drop m next)) =
    sym (take-append-drop n bits)
    ∙ ap (λ x. take n bits ++ x) (split_zeros behind
    ∙ ap (λ x. replicate (trace_zeros behind) false ++ x) (sym (take-append-drop m next))) in
    (a.tx, b.tx, take n bits, trace_zeros behind, take m next, drop m next, split, a.shows, a.right, b.shows, b.right)

-- ---- what stands

none_left : (bits : List Bool) → length bits ≡ 0 → bits ≡ []
none_left [] h = refl
none_left (b ∷ bits) h = absurd (omega arith)

-- without a data phase behind it
plain_first : (tx : Transaction) (front phase more : List Bool) → SpellsTx tx front → length phase ≡ 0
    → resync_first false Synced ((front ++ phase) ++ more) ≡ whole_tx_item tx (length (front ++ phase))
plain_first tx front phase more s h =
    let e : front ++ phase ≡ front = ap (λ x. front ++ x) (none_left phase h) ∙ append-nil front in
    ap (λ x. resync_first false Synced (x ++ more)) e
    ∙ sight_whole_tx_first (front ++ more) tx (length front) (trace_stand_of_spelled_tx tx front more s)
    ∙ ap (λ x. whole_tx_item tx (length x)) (sym e)

phased_first : (tx : Transaction) (front phase more : List Bool) (t : Bool) → resync_is_refusal tx.result ≡ t
    → SpellsTx tx front → length phase ≡ (if t then 33 else 0)
    → resync_first true Synced ((front ++ phase) ++ more) ≡ whole_tx_item tx (length (front ++ phase))
phased_first tx front phase more false r s h =
    let all : List Bool = (front ++ phase) ++ more in
    let joined : all ≡ front ++ (phase ++ more) = append_assoc front phase more in
    let at : stands all ≡ Whole tx (length front) =
    ap stands joined ∙ trace_stand_of_spelled_tx tx front (phase ++ more) s in
    sight_overrun_first all (whole_tx_item tx (length (front ++ phase))) (sight_tx_some_bits all tx (length front) at)
    (plain_first tx front phase more s h)
    ∙ ap (λ t. if t then (if nat_le 46 (length all) then record (whole_tx_item tx (length (front ++ phase)))
    { taken = 46 } else cut_first_item all) else whole_tx_item tx (length (front ++ phase))) r
phased_first tx front phase more true r s h =
    let all : List Bool = (front ++ phase) ++ more in
    let joined : all ≡ front ++ (phase ++ more) = append_assoc front phase more in
    let at : stands all ≡ Whole tx (length front) =
    ap stands joined ∙ trace_stand_of_spelled_tx tx front (phase ++ more) s in
    let f : length front ≡ 13 = resync_refused_tx_len tx front r s in
    let both : length (front ++ phase) ≡ length front + length phase = length-append front phase in
    let whole_len : length (front ++ phase) ≡ 46 = omega arith in
    let total : length all ≡ length (front ++ phase) + length more = length-append (front ++ phase) more in
    let many : nat_le 46 (length all) ≡ true = le-leb 46 (length all) (omega arith) in
    sight_overrun_first all (whole_tx_item tx (length front)) (sight_tx_some_bits all tx (length front) at)
    (sight_whole_tx_first all tx (length front) at)
    ∙ ap (λ t. if t then (if nat_le 46 (length all) then whole_tx_item tx 46 else cut_first_item all) else whole_tx_item
    tx (length front)) r
    ∙ ap (λ t. if t then whole_tx_item tx 46 else cut_first_item all) many ∙ ap (whole_tx_item tx) (sym whole_len)

shown_first : (over : Bool) (tx : Transaction) (front more : List Bool) → StretchShows over (Tx tx) front
    → resync_first over Synced (front ++ more) ≡ whole_tx_item tx (length front)
shown_first false tx front more s =
    ap (λ x. resync_first false Synced (x ++ more)) s.2 ∙ plain_first tx s.0 s.1 more s.3 s.4
    ∙ ap (λ x. whole_tx_item tx (length x)) (sym s.2)
shown_first true tx front more s =
    ap (λ x. resync_first true Synced (x ++ more)) s.2
    ∙ phased_first tx s.0 s.1 more (resync_is_refusal tx.result) refl s.3 s.4 ∙ ap (λ x. whole_tx_item tx (length x))
    (sym s.2)

some_length : (over : Bool) (tx : Transaction) (front : List Bool) → StretchShows over (Tx tx) front → 1 ≤ length front
some_length over tx front s =
    let f : length s.0 ≡ trace_tx_len tx.result = ap length s.3.3 ∙ trace_spelling_length tx s.3.1 s.3.2 in
    let some = resync_tx_len_least tx.result in
    let both : length front ≡ length s.0 + length s.1 = ap length s.2 ∙ length-append s.0 s.1 in
    omega arith

shown_sound : (over : Bool) (tx : Transaction) (front more : List Bool) → StretchShows over (Tx tx) front
    → resync_is_sound tx.result ≡ true → resync_sound over (front ++ more) ≡ length front
shown_sound over tx front more s r =
    ap (λ f. resync_sound_bits f.item f.taken) (shown_first over tx front more s)
    ∙ ap (λ t. if t then length front else 0) r

-- where the bits begin with two sound transactions and at most zeros between them, the test finds a pair
pub pair_test_complete : (over : Bool) (bits : List Bool) → IsPair over bits → pair over bits ≡ true
pair_test_complete over bits h =
    let one : Transaction = h.0 in
    let other : Transaction = h.1 in
    let front : List Bool = h.2 in
    let next : List Bool = h.4 in
    let rest : List Bool = h.5 in
    let behind : List Bool = replicate h.3 false ++ (next ++ rest) in
    let a : resync_sound over (front ++ behind) ≡ length front = shown_sound over one front behind h.7 h.8 in
    let b : resync_sound false (next ++ rest) ≡ length next = shown_sound false other next rest h.9 h.10 in
    let past : past_zeros behind ≡ next ++ rest =
    resync_past_run h.3 (next ++ rest) ∙ resync_not_idle_no_zero false (next ++ rest)
    (ap (λ f. resync_is_idle f.item) (shown_first false other next rest h.9)) in
    ap (pair over) h.6
    ∙ ap (λ m. nat_le 1 m && resync_sound_next (drop m (front ++ behind))) a
    ∙ ap (λ t. t && resync_sound_next (drop (length front) (front ++ behind)))
    (le-leb 1 (length front) (some_length over one front h.7))
    ∙ ap resync_sound_next (drop_at front behind (length front) refl) ∙ ap (λ x. nat_le 1 (resync_sound false x))
    past ∙ ap (nat_le 1) b ∙ le-leb 1 (length next) (some_length false other next h.9)

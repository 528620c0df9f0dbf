-- Marks of requests that are answered OK: which bit of a data phase they change, on the way to the word that is seen,
-- or that arrives.
use Rattle.std.proofs.Common.{◌≡◌, ◌<◌, ◌^◌, ℕ, Bool, true, false, refl, sym, ap, subst, arith, ◌∙◌, inl}
use Rattle.std.specs.Prelude.{Option, Some, None}
use Rattle.swd_bits.specs.declared.request.Request.{Request}
use Rattle.swd_bits.specs.Phases.{data_phase_number, data_phase_word}
use Rattle.swd_bits.proofs.PhaseLemmas.{data_phase_gives_word, flipped_data_phase_no_word}
use Rattle.swd_port.specs.Choices.{port_flipped}
use Rattle.swd_port.specs.declared.register.Register.{Register}
use Rattle.swd_port.specs.declared.mark.Mark.{Mark}
use Rattle.swd_port.specs.declared.mark.Mark.TheVariants.{Clean, Wait, Flip}
use Rattle.swd_port.specs.declared.state.Reply.TheVariants.{Okay}
use Rattle.swd_port.specs.Port.{Port, port_register}
use Rattle.swd_port.specs.Choices.{Choice, IsPortChoice, IsPortMark, PortMayBeLate, port_flip_of}
use Rattle.swd_port.specs.Answers.{is_exempt_register, port_reply_under, PortSees}
use Rattle.swd_port.specs.Asking.{IsPendingSettled, IsPortWordRead, port_answer, port_reply}
use Rattle.swd_port.specs.Asking.{port_value_in, port_after_reply}
use Rattle.swd_port.specs.Completion.{PortCompletes}
use Rattle.swd_port.specs.Moving.{PortTakes, PortGives, port_after_take, port_after_arrival, port_arrival}
use Rattle.swd_port.specs.Moving.{port_arrival_of, port_bits_driven}
use Rattle.swd_observer.specs.Transacts.{ObservedMoves}
use Rattle.swd_checker.specs.Described.{IsCheckedNear, checked_changed_at}
use Rattle.swd_checker.specs.Adding.{IsCheckedPrompt}
use Rattle.swd_checker.specs.Checked.{CheckedAsks, CheckedHasMoved, checked_phase, is_checked_clean}
use Rattle.swd_checker.specs.Reaching.{checked_near_seen}
use Rattle.swd_checker.proofs.NearLemmas.{near_of_is, near_small, all_places}
use Rattle.swd_checker.proofs.PhaseLemmas.{sent_cured, seen_back}
use Rattle.swd_checker.proofs.TransactLemmas.{phase_read, phase_written}
use Rattle.swd_checker.proofs.SettleLemmas.{checked_choice_plain, checked_plain_legal}

-- a mark under which an OK is answered, and seen
pub record OkayMark (clean : Bool) (r : Register) (c : Choice) (mark : Mark) : Type 0 where
  pub legal : IsPortMark mark
  pub late : PortMayBeLate mark c
  pub undamaged : clean ≡ true → is_checked_clean mark ≡ true
  pub replies : port_reply_under mark r Okay ≡ Okay
  pub sees : PortSees mark Okay 1

-- a mark that changes no bit,
pub mark_clean : (clean : Bool) (r : Register) (c : Choice) → IsCheckedPrompt c → OkayMark clean r c Clean
mark_clean clean r c prompt = record {
  legal = tt;
  late = λ e. (prompt.debug, prompt.system);
  undamaged = λ e. refl;
  replies = refl;
  sees = refl;
}

-- one at which a power may be found late,
pub mark_wait : (clean : Bool) (r : Register) (c : Choice) → is_exempt_register r ≡ true → OkayMark clean r c Wait
mark_wait clean r c exempt = record {
  legal = tt;
  late = λ e. absurd (cc);
  undamaged = λ e. refl;
  replies = rw exempt refl;
  sees = refl;
}

-- and one that changes a bit
pub mark_flip : (clean : Bool) (r : Register) (c : Choice) (place : ℕ) → IsCheckedPrompt c → clean ≡ false → place < 33
    → OkayMark clean r c (Flip place)
mark_flip clean r c place prompt may inside = record {
  legal = inside;
  late = λ e. (prompt.debug, prompt.system);
  undamaged = λ e. absurd (let f : false ≡ true = sym may ∙ e in cc);
  replies = refl;
  sees = refl;
}

-- a request that is answered OK
pub asked_okay : (clean : Bool) (mark : Mark) (c : Choice) (s a : Port) (q : Request) (r : Register)
    → OkayMark clean r c mark → IsPortChoice c → port_register a.target.select q ≡ r → port_answer a.target q ≡ Okay
    → (is_exempt_register r ≡ false → a.target.pending ≡ None)
    → IsPortWordRead Okay q.read (port_value_in c r a.target) → PortCompletes s a
    → CheckedAsks clean s q 1 (port_after_reply mark Okay r q c a)
asked_okay clean mark c s a q r k legal names answer settled word completes =
    let reply : port_reply mark a.target q ≡ Okay = ap (λ z. port_reply_under mark z (port_answer a.target q)) names
    ∙ ap (port_reply_under mark r) answer ∙ k.replies in
    record {
      before = a;
      after = port_after_reply mark Okay r q c a;
      mark = mark;
      choice = c;
      undamaged = k.undamaged;
      completes = completes;
      asks = record {
        legal = k.legal;
        choice = legal;
        late = k.late;
        settled = subst (λ z. IsPendingSettled z (port_register a.target.select q) a.target.pending) (sym reply)
            (subst (λ z. IsPendingSettled Okay z a.target.pending) (sym names) settled);
        word = subst (λ z. IsPortWordRead z q.read (port_value_in c (port_register a.target.select q) a.target))
            (sym reply) (subst (λ z. IsPortWordRead Okay q.read (port_value_in c z a.target)) (sym names) word);
        sees = subst (λ z. PortSees mark z 1) (sym reply) k.sees;
        after = ap (λ z. port_after_reply mark Okay z q c a) (sym names)
            ∙ ap (λ z. port_after_reply mark z (port_register a.target.select q) q c a) (sym reply);
      };
      then = inl refl;
    }

-- READS
-- a read's mark, where this word was seen and this value was returned
pub record ReadMark (clean ok : Bool) (word : ℕ) (r : Register) (c : Choice) (value : ℕ) : Type 0 where
  pub mark : Mark
  pub okay : OkayMark clean r c mark
  pub small : value < 2 ^ 32
  pub bits : checked_phase ok word ≡ port_flipped (port_flip_of mark) (data_phase_number value)

mark_changed : (clean : Bool) (word : ℕ) (r : Register) (c : Choice) (value : ℕ) → IsCheckedPrompt c → word < 2 ^ 32
    → clean ≡ false → IsCheckedNear (checked_near_seen word false) value → ReadMark clean false word r c value
mark_changed clean word r c value prompt small may (place, inside, set, is) = record {
  mark = Flip place;
  okay = mark_flip clean r c place prompt may inside;
  small = near_small (checked_near_seen word false) value small (place, inside, set, is);
  bits = seen_back word place small inside
      ∙ ap (λ z. port_flipped (Some place) (data_phase_number z)) (sym is);
}

-- a value near to the word that was seen, where no power is found late
pub mark_read : (clean ok : Bool) (word : ℕ) (r : Register) (c : Choice) (value : ℕ) → IsCheckedPrompt c
    → word < 2 ^ 32 → (ok ≡ false → clean ≡ false) → IsCheckedNear (checked_near_seen word ok) value
    → ReadMark clean ok word r c value
mark_read clean false word r c value prompt small may near =
    mark_changed clean word r c value prompt small (may refl) near
mark_read clean true word r c value prompt small may near =
    let is : value ≡ word = near_of_is word value near in
    record {
      mark = Clean;
      okay = mark_clean clean r c prompt;
      small = subst (λ z. z < 2 ^ 32) (sym is) small;
      bits = ap data_phase_number (sym is);
    }

-- the same where the request is never refused, and a power may be found late
pub mark_read_late : (clean ok : Bool) (word : ℕ) (r : Register) (c : Choice) (value : ℕ)
    → (ok ≡ false → IsCheckedPrompt c) → is_exempt_register r ≡ true → word < 2 ^ 32 → (ok ≡ false → clean ≡ false)
    → IsCheckedNear (checked_near_seen word ok) value → ReadMark clean ok word r c value
mark_read_late clean false word r c value prompt exempt small may near =
    mark_changed clean word r c value (prompt refl) small (may refl) near
mark_read_late clean true word r c value prompt exempt small may near =
    let is : value ≡ word = near_of_is word value near in
    record {
      mark = Wait;
      okay = mark_wait clean r c exempt;
      small = subst (λ z. z < 2 ^ 32) (sym is) small;
      bits = ap data_phase_number (sym is);
    }

takes_by : (read : Bool) (a t : Port) (bits : ℕ) → read ≡ true → PortTakes a bits t → ObservedMoves read a bits t
takes_by true a t bits e h = h
takes_by false a t bits e h = absurd (cc)

-- what is returned is a word, where it is read
pub word_read_by : (read : Bool) (value : ℕ) → value < 2 ^ 32 → IsPortWordRead Okay read value
word_read_by true value h = h
word_read_by false value h = tt

-- a read that is answered OK
pub read_moved : (clean ok : Bool) (word : ℕ) (c : Choice) (value : ℕ) (s a : Port) (q : Request) (r : Register)
    → (k : ReadMark clean ok word r c value) → q.read ≡ true → word < 2 ^ 32 → IsPortChoice c
    → port_register a.target.select q ≡ r → port_answer a.target q ≡ Okay
    → (is_exempt_register r ≡ false → a.target.pending ≡ None) → port_value_in c r a.target ≡ value
    → PortCompletes s a
    → CheckedHasMoved clean q word ok s (port_after_take (port_after_reply k.mark Okay r q c a))
read_moved clean ok word c value s a q r k read small legal names answer settled returns completes = record {
  asked = port_after_reply k.mark Okay r q c a;
  asks = asked_okay clean k.mark c s a q r k.okay legal names answer settled
      (word_read_by q.read _ (subst (λ z. z < 2 ^ 32) (sym returns) k.small)) completes;
  small = small;
  moves = takes_by q.read _ _ (checked_phase ok word) read (
    port_after_reply k.mark Okay r q c a,
    port_after_take (port_after_reply k.mark Okay r q c a),
    inl refl,
    record {
      gets = k.bits ∙ ap (λ z. port_flipped (port_flip_of k.mark) (data_phase_number z)) (sym returns)
          ∙ sym (ap port_bits_driven (phase_read q.read r (port_flip_of k.mark) (port_value_in c r a.target) read));
      after = refl;
    },
    inl refl,
  );
}

-- WRITES
-- a write's mark, where this word was sent, and this one arrives
pub record WriteMark (clean ok : Bool) (word : ℕ) (r : Register) (found : Option ℕ) : Type 0 where
  pub mark : Mark
  pub okay : OkayMark clean r checked_choice_plain mark
  pub arrives : data_phase_word (port_flipped (port_flip_of mark) (checked_phase ok word)) ≡ found

plain_prompt : IsCheckedPrompt checked_choice_plain
plain_prompt = record { debug = refl; system = refl }

-- a word of which a bit was changed has 32 bits
pub changed_word_small : (word place : ℕ) → word < 2 ^ 32 → place < 33 → checked_changed_at word place < 2 ^ 32
changed_word_small word place small inside =
    near_small (checked_near_seen word false) (checked_changed_at word place) small
    (place, inside, all_places place inside, refl)

-- the word arrives,
pub mark_written : (clean : Bool) (word : ℕ) (r : Register) → word < 2 ^ 32 → WriteMark clean true word r (Some word)
mark_written clean word r small = record {
  mark = Clean;
  okay = mark_clean clean r checked_choice_plain plain_prompt;
  arrives = data_phase_gives_word word small;
}

-- or another one than was sent,
pub mark_cured : (clean : Bool) (word : ℕ) (r : Register) (place : ℕ) → word < 2 ^ 32 → clean ≡ false → place < 33
    → WriteMark clean false word r (Some (checked_changed_at word place))
mark_cured clean word r place small may inside = record {
  mark = Flip place;
  okay = mark_flip clean r checked_choice_plain place plain_prompt may inside;
  arrives = sent_cured word place small inside;
}

-- or none
pub mark_damaged : (clean ok : Bool) (word : ℕ) (r : Register) → word < 2 ^ 32 → (ok ≡ true → clean ≡ false)
    → WriteMark clean ok word r None
mark_damaged clean true word r small may = record {
  mark = Flip 0;
  okay = mark_flip clean r checked_choice_plain 0 plain_prompt (may refl) (omega arith);
  arrives = flipped_data_phase_no_word word 0 small;
}
mark_damaged clean false word r small may = record {
  mark = Clean;
  okay = mark_clean clean r checked_choice_plain plain_prompt;
  arrives = flipped_data_phase_no_word word 32 small;
}

gives_by : (read : Bool) (a t : Port) (bits : ℕ) → read ≡ false → PortGives a bits t → ObservedMoves read a bits t
gives_by true a t bits e h = absurd (cc)
gives_by false a t bits e h = h

-- or nothing is read
pub unread_by : (read : Bool) (value : ℕ) → read ≡ false → IsPortWordRead Okay read value
unread_by true value e = absurd (cc)
unread_by false value e = tt

-- a write that is answered OK
pub write_moved : (clean ok : Bool) (word : ℕ) (found : Option ℕ) (refuses : Bool) (s a : Port) (q : Request)
    (r : Register) → (k : WriteMark clean ok word r found) → q.read ≡ false → word < 2 ^ 32
    → port_register a.target.select q ≡ r → port_answer a.target q ≡ Okay
    → (is_exempt_register r ≡ false → a.target.pending ≡ None) → PortCompletes s a
    → CheckedHasMoved clean q word ok s (port_after_arrival refuses (port_arrival_of r found)
    (port_after_reply k.mark Okay r q checked_choice_plain a))
write_moved clean ok word found refuses s a q r k write small names answer settled completes =
    let asked = port_after_reply k.mark Okay r q checked_choice_plain a in
    record {
      asked = asked;
      asks = asked_okay clean k.mark checked_choice_plain s a q r k.okay checked_plain_legal names answer settled
          (unread_by q.read _ write) completes;
      small = small;
      moves = gives_by q.read _ _ (checked_phase ok word) write (
        asked,
        port_after_arrival refuses (port_arrival_of r found) asked,
        inl refl,
        record {
          refuses = refuses;
          after = ap (λ o. port_after_arrival refuses (port_arrival_of r o) asked) (sym k.arrives)
              ∙ ap (λ l. port_after_arrival refuses (port_arrival l (checked_phase ok word)) asked)
              (sym (phase_written q.read r (port_flip_of k.mark) (port_value_in checked_choice_plain r a.target)
              write));
        },
        inl refl,
      );
    }

-- Steps of the engine's own: the bounds and the facts that they keep. For the methods of `Engine`.
use Rattle.swd_host.proofs.Words.{event_requests, Bursts, Task, Target, WriteTar, EngineBefore, EnginePlaceIsSure}
use Rattle.swd_host.proofs.Words.{inl, subst, if◌then◌else◌, engine_confirmed}
use Rattle.std.specs.Prelude.{unwrap_or}
use Rattle.swd_host.proofs.Words.{◌≡◌, ◌+◌, ◌-◌, ◌≤◌, ℕ, Bool, true, false, not, refl, sym, arith, ◌∙◌, Some, BusFault}
use Rattle.swd_host.proofs.Words.{Port, Flags, HostStep, Select, Job, At, Clear, Check, Status, Ask, Data, State, Doing}
use Rattle.swd_host.proofs.Words.{Engine}
use Rattle.swd_host.proofs.Words.{engine_place_is_behind, engine_word_is_ignored, engine_left_at_place, engine_left_for}
use Rattle.swd_host.proofs.Words.{engine_least_for, engine_state_is_of, EngineLands, host_flags_in}
use Rattle.swd_host.proofs.Words.{ResumeReadFlags, ResumedBefore, ResumedOpeningReadWord, EngineHand, EngineBase}
use Rattle.swd_host.proofs.Words.{EngineChecksFlags, EngineSawResult, EngineStateTracks, engine_state_after_ack}
use Rattle.swd_host.proofs.Words.{EngineMetBusError, own_error, next_error, EngineTookAtPlace, Unsent}
use Rattle.swd_host.specs.Requests.{engine_reread_job, engine_repeats_tar, engine_repeat_place}
use Rattle.swd_host.specs.Progress.{engine_least_at, engine_place_is_of}
use Rattle.swd_host.specs.Turns.{EngineLandsFromJob}
use Rattle.swd_host.specs.Tracks.{EngineBeforeDamage, EngineFlagCause, EngineLacksTar, EnginePlaceHas, cleared, kept}
use Rattle.swd_host.specs.Tracks.{TaskEarnsAnswer, by_fault, EngineErrorCleared, EngineTookWordAt}

-- with more requests open and sent, and from a state of the same sequence
pub engine_lands_within : (n n' m m' : ℕ) (x y : State) (e f : Engine) → n ≤ n' → m ≤ m'
    → ((opening : Bool) → engine_state_is_of opening y ≡ true → engine_state_is_of opening x ≡ true)
    → EngineLands n m x e f → EngineLands n' m' y e f
engine_lands_within n n' m m' x y e f a b part h = grind arith

-- the request that gives a place's word again
record IsAgain (kind : Bursts) (aims : Bool) (p : HostStep) : Type 0 where
  left : engine_left_for kind (engine_reread_job p) - event_requests kind ≤ engine_left_at_place p - 1
  least : engine_least_for aims (engine_reread_job p) ≤ engine_least_at aims p + 1
  part : (opening : Bool) → engine_state_is_of opening (Doing (At p) Data) ≡ true
      → engine_state_is_of opening (Doing (engine_reread_job p) Ask) ≡ true

is_again : (kind : Bursts) (aims : Bool) (p : HostStep) → IsAgain kind aims p
is_again kind aims p = record { left = grind arith; least = grind arith; part = λ opening h. grind arith }

-- a step to the request that reads a place's word again keeps the bounds of a step from that place's data phase
pub engine_resend_lands : (p : HostStep) (e f : Engine)
    → EngineLands (engine_left_for e.bursts (engine_reread_job p) - event_requests e.bursts)
    (engine_least_for e.aims (engine_reread_job p))
    (Doing (engine_reread_job p) Ask) e f → EngineLands (engine_left_at_place p - 1) (engine_least_at e.aims p + 1)
    (Doing (At p) Data) e f
engine_resend_lands p e f h = grind (arith, is_again, engine_lands_within)

-- flags that are owed now, in place of those that were
pub engine_owed_lands : (p : HostStep) (old_error old_damaged error damaged : Bool) (e f : Engine) → error ≡ old_error
    → EngineLands (engine_left_for e.bursts (Clear p (record { error = error; damaged = damaged }))
    - event_requests e.bursts)
    (engine_least_for e.aims (Clear p (record { error = error; damaged = damaged })))
    (Doing (Clear p (record { error = error; damaged = damaged })) Ask) e f
    → EngineLands (engine_left_for e.bursts (Check p (record { error = old_error; damaged = old_damaged })) - 1)
    (engine_least_for e.aims (Check p (record { error = old_error; damaged = old_damaged })) + 1)
    (Doing (Check p (record { error = old_error; damaged = old_damaged })) Data) e f
engine_owed_lands p old_error old_damaged error damaged e f is h = grind arith

-- from the place to continue from once WDATAERR is cleared, no more requests are left than the event covers
pub engine_repeat_left : (p : HostStep) (task : Task) (aims : Bool) (kind : Bursts)
    → engine_left_at_place (engine_repeat_place p task aims kind) + 4 ≤ engine_left_at_place p + event_requests kind
engine_repeat_left p task aims kind = grind arith

repeat_least : (p : HostStep) (task : Task) (aims : Bool) (kind : Bursts)
    → engine_least_at aims (engine_repeat_place p task aims kind) ≤ engine_least_at aims p + 2
repeat_least p task aims kind = grind arith

repeat_part : (opening : Bool) (p : HostStep) (task : Task) (aims : Bool) (kind : Bursts)
    → engine_place_is_of opening p ≡ true → engine_place_is_of opening (engine_repeat_place p task aims kind) ≡ true
repeat_part opening p task aims kind h = grind arith

-- a step to the place to continue from, once WDATAERR is cleared, keeps the bounds
pub engine_repeat_lands : (p q : HostStep) (error damaged : Bool) (e : Engine) → error ≡ false
    → q ≡ engine_repeat_place p e.task e.aims e.bursts
    → EngineLandsFromJob (Check p (record { error = error; damaged = damaged })) Data e
    (record e { state = Doing (At q) Ask })
engine_repeat_lands p q true damaged e none is = absurd (cc)
engine_repeat_lands p q false damaged e none is =
    subst (λ q. EngineLandsFromJob (Check p (record { error = false; damaged = damaged })) Data e
    (record e { state = Doing (At q) Ask })) (sym is) (record {
      task = refl;
      aims = refl;
      tries = refl;
      requests = refl;
      bursts = refl;
      begun = refl;
      never = refl;
      left = omega (arith, engine_repeat_left p e.task e.aims e.bursts);
      least = omega (arith, repeat_least p e.task e.aims e.bursts);
      part = λ opening h. repeat_part opening p e.task e.aims e.bursts h;
      quiet = refl;
    })

-- TAR's write is sent again only where it was sent for the access, whose data is what was corrupted
repeats_tar : (kind : Bursts) (p : HostStep) (b : ℕ) (k : EngineHand) (s : Target)
    → engine_repeats_tar p k.aims kind ≡ true → EngineBeforeDamage p b k s → EngineLacksTar k s
repeats_tar kind p b k s again h = grind arith

repeat_has : (again : Bool) (kind : Bursts) (p : HostStep) (n b : ℕ) (k : EngineHand) (t : Port)
    → engine_repeats_tar p k.aims kind ≡ again → EngineBeforeDamage p b k t.target → t.target.write_error ≡ false
    → n ≤ t.tally.disturbed
    → EnginePlaceIsSure (if again then WriteTar else unwrap_or (engine_confirmed p k.task k.aims) p) n b k t
repeat_has true kind p n b k t again h flag paid =
    record { has = repeats_tar kind p b k t.target again h; flag = λ w. flag; paid = paid }
repeat_has false kind p n b k t again h flag paid = record {
  has = subst (λ o. EnginePlaceHas (unwrap_or o p) b k t.target) (sym h.confirms) h.has;
  flag = λ w. flag;
  paid = paid;
}

-- once WDATAERR is cleared, what the place to continue from needs holds
pub engine_repeat_before : (kind : Bursts) (p : HostStep) (owed : Flags) (n b : ℕ) (k : EngineHand) (t : Port)
    → owed.error ≡ false → t.target.write_error ≡ false → EngineChecksFlags p owed n b k t
    → EngineBefore (At (engine_repeat_place p k.task k.aims kind)) n b k t
engine_repeat_before kind p owed n b k t none clear (cleared facts sticky flag paid) =
    inl (repeat_has (engine_repeats_tar p k.aims kind) kind p n b k t refl
    (subst (λ x. EngineFlagCause x p b k t.target) none facts) flag paid)
engine_repeat_before kind p owed n b k t none clear (kept facts sticky flag paid) =
    absurd (let both : true ≡ false = sym flag ∙ clear in cc)

-- CTRL/STAT says that the flags are gone
pub engine_checks_cleared : (p : HostStep) (owed : Flags) (damaged : Bool) (n b : ℕ) (k : EngineHand) (t : Port)
    → owed.error ≡ true
    → not damaged ≡ true → damaged ≡ t.target.write_error → EngineChecksFlags p owed n b k t
    → EngineErrorCleared p n b k t
engine_checks_cleared p owed damaged n b k t is none same h = grind arith

-- the answer to a bus error that was met and cleared
own_earns : (p : HostStep) (n b : ℕ) (k : EngineHand) (t : Port) → engine_place_is_behind p ≡ false
    → EngineMetBusError p b k t.target
    → t.target.sticky_error ≡ false → t.target.write_error ≡ false → n ≤ t.tally.disturbed
    → TaskEarnsAnswer BusFault Unsent n b k t
own_earns p n b k t own (own_error h) error write paid = by_fault p refl h refl error write paid
own_earns p n b k t own (next_error h) error write paid = absurd (let both : true ≡ false = sym h.place ∙ own in cc)

-- once the flag of the access's own bus error is cleared, the access has earned the answer of a bus error
pub engine_own_error_cleared : (p : HostStep) (n b : ℕ) (k : EngineHand) (t : Port) → engine_place_is_behind p ≡ false
    → EngineErrorCleared p n b k t → TaskEarnsAnswer BusFault Unsent n b k t
engine_own_error_cleared p n b k t own h = own_earns p n b k t own h.error h.sticky h.flag h.paid

-- an acknowledgement
pub engine_saw_tracks : (job : Job) (seen n tries : ℕ) (base : EngineBase) (b : ℕ) (k : EngineHand) (t : Port)
    → EngineSawResult job seen n base b k t → EngineStateTracks (engine_state_after_ack job seen) n tries base b k t
engine_saw_tracks job seen n tries base b k t h = grind arith

-- a word that is looked at, as what was taken
pub engine_took_taken : (p : HostStep) (word n b : ℕ) (k : EngineHand) (t : Port)
    → engine_word_is_ignored p k.task ≡ false
    → EngineTookAtPlace p (Some word) n b k t → EngineTookWordAt p word n b k t
engine_took_taken p word n b k t read h = grind arith

-- the word that was read after FAULT, early: only SELECT's write is answered so then
pub opening_status_read : (p : HostStep) (word n : ℕ) (stray : Bool) (start s : Port)
    → ResumedOpeningReadWord (Status p) word n stray start s
    → ResumeReadFlags (host_flags_in word) s.target × ResumedBefore (Status p) n stray start s
opening_status_read Select word n x start s h = h
opening_status_read p word n x start s h = elim h [ ]

-- the word that was read after ABORT, early: only the flag that SELECT's write met is cleared then
pub opening_abort_check : (p : HostStep) (owed : Flags) (word n : ℕ) (stray : Bool) (start s : Port)
    → ResumedOpeningReadWord (Check p owed) word n stray start s
    → ResumeReadFlags (host_flags_in word) s.target × ResumedBefore (Check p owed) n stray start s
opening_abort_check Select owed word n x start s h = h
opening_abort_check p owed word n x start s h = elim h [ ]

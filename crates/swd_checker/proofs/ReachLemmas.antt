-- Small facts of the worlds that a part of a transaction adds, where each of them is reached.
use Rattle.std.proofs.Common.{◌≡◌, ◌<◌, ◌≤◌, ◌+◌, ◌*◌, ◌%◌, ◌^◌, ℕ, Bool, true, false, refl, sym, subst, arith, ◌∙◌}
use Rattle.std.specs.Prelude.{Option, Some, None, is_some, IfSome, not, ◌&&◌}
use Rattle.swd_port.specs.declared.register.Register.{Register}
use Rattle.swd_checker.specs.declared.near.Near.{Near}
use Rattle.swd_checker.specs.declared.step.Asked.{Asked}
use Rattle.swd_checker.specs.Asking.{IsAskedAlike}
use Rattle.swd_checker.specs.Worlds.{World, Tar, TarUnknown, TarFrom}
use Rattle.swd_checker.specs.Described.{IsCheckedNear, checked_near_at, checked_changed_at}
use Rattle.swd_checker.specs.Words.{Words, IsCheckedWord}
use Rattle.swd_checker.specs.Exact.{IsNearSound, IsTarSound}
use Rattle.swd_checker.specs.Reaching.{CheckedLink, NearNarrows, checked_near_of, checked_near_changed}
use Rattle.swd_checker.specs.Reached.{WorldsArriveAt}

-- a word that is left of those that were seen
pub found_word : (seen : Near) (words : Words) (left : Option Near) → is_some left ≡ true
    → IfSome left (λ near. NearNarrows seen words near) → IsNearSound seen
    → (word : ℕ) × IsCheckedNear seen word × IsCheckedWord words word
found_word seen words None e h sound = absurd (cc)
found_word seen words (Some near) e h sound =
    let k : IsNearSound near = h.sound sound in
    let both = h.each (checked_near_at near k.place) (k.place, k.inside, k.is, refl) in
    (checked_near_at near k.place, both.0, both.1)

-- TAR that is no interval is unknown
pub tar_unknown : (tar : Tar) → ((first more : ℕ) → tar ≡ TarFrom first more → ⊥) → tar ≡ TarUnknown
tar_unknown TarUnknown h = refl
tar_unknown (TarFrom first more) h = absurd (h first more refl)

small_within : (first more index : ℕ) → index ≤ more → first < 2 ^ 32 → first % 1024 + 4 * more < 1024
    → first + 4 * index < 2 ^ 32
small_within first more index within small inside = grind arith

-- the addresses of an interval are words
pub tar_small : (tar : Tar) (first more index : ℕ) → tar ≡ TarFrom first more → index ≤ more → IsTarSound tar
    → first + 4 * index < 2 ^ 32
tar_small tar first more index is within sound =
    let h : IsTarSound (TarFrom first more) = subst IsTarSound is sound in
    small_within first more index within h.0 h.1

-- what is not true is false
pub not_true : (b : Bool) → not b ≡ true → b ≡ false
not_true false e = refl
not_true true e = absurd (cc)

-- two facts that hold, and their conjunction
pub both_true : (result a b : Bool) → result ≡ (a && b) → a ≡ true → b ≡ true → result ≡ true
both_true result a b e f g = e ∙ rw (f, g) refl

-- exactly one word
pub near_of_sound : (near : Near) (word : ℕ) → near ≡ checked_near_of word → word < 2 ^ 32 → IsNearSound near
near_of_sound near word is small = subst IsNearSound (sym is)
    (record { small = small; place = 32; inside = omega arith; is = refl })

-- a write that was sent with wrong parity, and arrives as one of the near words
pub reach_cured : (link : CheckedLink) (now faulty : Asked) (word place : ℕ) (seen : Near) → IsAskedAlike faulty now
    → faulty.world ≡ now.world → seen ≡ checked_near_changed word
    → WorldsArriveAt link now.world now.register (checked_changed_at word place)
    → WorldsArriveAt link faulty.world faulty.register (checked_near_at seen place)
reach_cured link now faulty word place seen same world is h =
    subst (λ (w : World). WorldsArriveAt link w faulty.register (checked_near_at seen place)) (sym world)
    (subst (λ (r : Register). WorldsArriveAt link now.world r (checked_near_at seen place)) (sym same.register)
    (subst (λ (n : Near). WorldsArriveAt link now.world now.register (checked_near_at n place)) (sym is) h))

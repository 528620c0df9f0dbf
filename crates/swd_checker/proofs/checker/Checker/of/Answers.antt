use Rattle.std.proofs.Common.{◌≡◌, ap, subst, ◌∙◌, sym}
use Rattle.swd_checker.specs.declared.checker.CheckStart.TheVariants.{Made, Rest, Any}
use Rattle.swd_checker.specs.declared.worlds.Worlds.{Worlds}
use Rattle.swd_checker.specs.Standing.{CheckedStartsAt}
use Rattle.swd_checker.proofs.FittingLemmas.{checker_begins_shown}
use Rattle.swd_checker.proofs.StandingLemmas.{made_holds, one_is_added}
use Rattle.swd_checker.proofs.BeginsLemmas.{first_made, first_later}
use Rattle.swd_checker.proofs.checker.Checker.of.Goals as goal

pub returns-in-Made-clause-starts : goal.returns-in-Made-clause-starts
returns-in-Made-clause-starts c = record {
  holds = λ s starts. c.at.ensures.holds s starts.odd (
    c.one-worlds.ensures.crowded,
    made_holds c.one-worlds.result c.made.result s c.made.ensures
        (one_is_added c.one-worlds.result c.made.result c.one-worlds.ensures.kept)
        (subst (λ z. CheckedStartsAt z s) c.in-Made.is starts.first),
  );
  unbroken = c.at.ensures.unbroken;
  wire = c.at.ensures.wire;
  gapless = c.at.ensures.gapless;
}

pub returns-in-Made-clause-begins : goal.returns-in-Made-clause-begins
returns-in-Made-clause-begins c = λ is. checker_begins_shown c.at.result c.made.result c.made.ensures
    c.at.ensures.opening (ap (λ (v : Worlds). v.kept.items) c.at.ensures.worlds ∙ c.one-worlds.ensures.kept)
    c.at.ensures.word c.at.ensures.gapless c.at.ensures.crowded

pub returns-in-Rest-clause-starts : goal.returns-in-Rest-clause-starts
returns-in-Rest-clause-starts c = record {
  holds = λ s starts. c.at-in-Rest.ensures.holds s starts.odd
      (subst (λ z. CheckedStartsAt z s) c.in-Rest.is starts.first).0;
  unbroken = c.at-in-Rest.ensures.unbroken;
  wire = c.at-in-Rest.ensures.wire;
  gapless = c.at-in-Rest.ensures.gapless;
}

pub returns-in-Rest-clause-begins : goal.returns-in-Rest-clause-begins
returns-in-Rest-clause-begins c = λ is. absurd (let f : Rest ≡ Made = sym c.in-Rest.is ∙ is in cc)

pub returns-in-Any-clause-starts : goal.returns-in-Any-clause-starts
returns-in-Any-clause-starts c = record {
  holds = λ s starts. c.at-in-Any.ensures.holds s starts.odd tt;
  unbroken = c.at-in-Any.ensures.unbroken;
  wire = c.at-in-Any.ensures.wire;
  gapless = c.at-in-Any.ensures.gapless;
}

pub returns-in-Any-clause-begins : goal.returns-in-Any-clause-begins
returns-in-Any-clause-begins c = λ is. absurd (let f : Any ≡ Made = sym c.in-Any.is ∙ is in cc)

pub returns-in-Made-clause-first : goal.returns-in-Made-clause-first
returns-in-Made-clause-first c = first_made c.args.start c.at.result c.in-Made.is c.at.ensures.began
    (checker_begins_shown c.at.result c.made.result c.made.ensures c.at.ensures.opening
    (ap (λ (v : Worlds). v.kept.items) c.at.ensures.worlds ∙ c.one-worlds.ensures.kept)
    c.at.ensures.word c.at.ensures.gapless c.at.ensures.crowded)

pub returns-in-Rest-clause-first : goal.returns-in-Rest-clause-first
returns-in-Rest-clause-first c = first_later c.args.start c.at-in-Rest.result
    (λ is. let f : Rest ≡ Made = sym c.in-Rest.is ∙ is in cc) c.at-in-Rest.ensures.began c.at-in-Rest.ensures.word
    c.at-in-Rest.ensures.crowded

pub returns-in-Any-clause-first : goal.returns-in-Any-clause-first
returns-in-Any-clause-first c = first_later c.args.start c.at-in-Any.result
    (λ is. let f : Any ≡ Made = sym c.in-Any.is ∙ is in cc) c.at-in-Any.ensures.began c.at-in-Any.ensures.word
    c.at-in-Any.ensures.crowded

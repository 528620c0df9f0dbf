use Rattle.std.proofs.Common.{◌≡◌, List, [], true, map, subst}
use Rattle.std.proofs.lemmas.Result.{IfOk-weaker}
use Rattle.clap.specs.Words.{App, HasKind, HasMatchesOf, Text, fault_of, is_simple_and_free}
use Rattle.swd_words.specs.Commands.{IsLineOfArguments, swd_app}
use Rattle.swd_words.proofs.CommandLemmas.{arguments_refused_alike, arguments_refused_memory, swd_app_simple}
use Rattle.swd_words.proofs.CommandLemmas.{swd_app_simple_and_free}
use Rattle.swd_words.proofs.words.parsed.Goals as goal

pub returns-in-Ok-try_get_matches_from-clause-line : goal.returns-in-Ok-try_get_matches_from-clause-line
returns-in-Ok-try_get_matches_from-clause-line c =
    let words : List Text = map (λ w. w.now) c.args.words.now in
    let matches = subst (λ (app : App). HasMatchesOf app words c.in-Ok-try_get_matches_from.matches) c.in-Ok.ensures.app
    c.in-Ok-try_get_matches_from.ensures.matches in
    IfOk-weaker c.line_of.result _ _ (λ l h. subst (IsLineOfArguments l) ((matches swd_app_simple).1) h)
    c.line_of.ensures

pub returns-in-Ok-try_get_matches_from-clause-right : goal.returns-in-Ok-try_get_matches_from-clause-right
returns-in-Ok-try_get_matches_from-clause-right c =
    let words : List Text = map (λ w. w.now) c.args.words.now in
    let kinds = subst (λ (app : App). is_simple_and_free app ≡ true → fault_of app words ≡ []) c.in-Ok.ensures.app
    c.in-Ok-try_get_matches_from.ensures.kinds in
    IfOk-weaker c.line_of.result _ _ (λ l h. kinds swd_app_simple_and_free) c.line_of.ensures

pub returns-in-Ok-try_get_matches_from-clause-wrong : goal.returns-in-Ok-try_get_matches_from-clause-wrong
returns-in-Ok-try_get_matches_from-clause-wrong c =
    let words : List Text = map (λ w. w.now) c.args.words.now in
    let kinds = subst (λ (app : App). is_simple_and_free app ≡ true → fault_of app words ≡ []) c.in-Ok.ensures.app
    c.in-Ok-try_get_matches_from.ensures.kinds in
    arguments_refused_memory (fault_of swd_app words) c.line_of.result (kinds swd_app_simple_and_free)

pub returns-in-Err-clause-wrong : goal.returns-in-Err-clause-wrong
returns-in-Err-clause-wrong c =
    let words : List Text = map (λ w. w.now) c.args.words.now in
    let kinds = subst (λ (app : App). is_simple_and_free app ≡ true → HasKind (fault_of app words) c.in-Err.fault)
    c.in-Ok.ensures.app
    c.in-Err.ensures.kinds in
    arguments_refused_alike (fault_of swd_app words) c.in-Err.fault c.line_fault.result (kinds swd_app_simple_and_free)
    c.line_fault.ensures

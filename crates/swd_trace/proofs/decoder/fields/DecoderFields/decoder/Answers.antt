use Rattle.std.proofs.Common.{◌≡◌, ◌==◌, true, sym, subst, ap, ◌∙◌, rules}
use Rattle.swd_trace.specs.declared.mode.Mode.{Mode}
use Rattle.swd_trace.specs.Holding.{DecoderHolds}
use Rattle.swd_trace.specs.DecoderNumbers.{rest_in}
use Rattle.swd_trace.proofs.DecoderNumberLemmas.{decoder_holds_as_numbers}
use Rattle.swd_trace.proofs.decoder.fields.DecoderFields.decoder.Goals as goal

pub returns-then-not-is_sound-clause-found : goal.returns-then-not-is_sound-clause-found
returns-then-not-is_sound-clause-found c = λ is.
    let d = is.0 in
    let has = is.1 in
    let f = c.args.self.now in
    let holds : DecoderHolds c.mode_with-mode.result (f.one == 1) f.run f.len f.bits d.next f.fed =
    subst (λ (mode : Mode). DecoderHolds mode (f.one == 1) f.run f.len f.bits d.next f.fed)
    (sym c.mode_with-mode.ensures) (decoder_holds_as_numbers d f has) in
    let sound : c.is_sound.result ≡ true = c.is_sound.ensures.all d.next holds in
    let unsound = c.if-not-is_sound.true in
    first_of (cc, grind (sound, unsound))

pub returns-then-eq-clause-rest : goal.returns-then-eq-clause-rest
returns-then-eq-clause-rest c = λ more.
    let same : c.fields.result ≡ c.args.self.now = search rules in
    sym (c.fields.ensures.rest more) ∙ ap (λ f. rest_in f more) same

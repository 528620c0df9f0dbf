use Rattle.std.proofs.Common.{◌∷◌, ◌++◌, ap, sym, ◌∙◌}
use Rattle.swd_trace.specs.declared.decoder.fields.DecoderFields.{DecoderFields}
use Rattle.swd_trace.specs.DecoderNumbers.{rest_in}
use Rattle.swd_trace.specs.Held.{decoder_rest}
use Rattle.swd_trace.proofs.HoldingLemmas.{same_readings_decide_no_item}
use Rattle.swd_c.proofs.decoder.swd_decoder_due.Goals as goal

pub returns-in_default-due-clause-none : goal.returns-in_default-due-clause-none
returns-in_default-due-clause-none c = λ no is.
    same_readings_decide_no_item (decoder_rest c.due.new.self) (rest_in c.args.decoder.now)
    (λ more. sym (c.in_default-due.ensures.none more) ∙ c.in-Some.ensures.rest more) c.in_default-due.ensures.undecided

pub returns-in_default-due-clause-decided : goal.returns-in_default-due-clause-decided
returns-in_default-due-clause-decided c = λ no is bits items read.
    (c.in_default-due.ensures.decided bits items
    (λ more. ap (λ x. items ++ x) (c.in-Some.ensures.rest more) ∙ read more)).1

pub returns-clause-item : goal.returns-clause-item
returns-clause-item c = λ yes. record {
  item = c.in-Some-due.due;
  tells = sym c.of.ensures;
  law = λ more. sym (c.in-Some.ensures.rest more) ∙ (c.in-Some-due.ensures.item more
      ∙ ap (λ x. c.in-Some-due.due ∷ x) (sym (c.fields.ensures.rest more)));
  is = (c.due.new.self, sym c.fields.ensures.fields);
  fed = ap (λ (f : DecoderFields). f.fed) c.fields.ensures.fields
      ∙ (c.in-Some-due.ensures.fed ∙ ap (λ (f : DecoderFields). f.fed) c.in-Some.ensures.same);
}

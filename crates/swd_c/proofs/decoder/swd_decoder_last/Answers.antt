use Rattle.std.proofs.Common.{◌∷◌, [], ap, sym, ◌∙◌}
use Rattle.swd_trace.specs.declared.decoder.fields.DecoderFields.{DecoderFields}
use Rattle.swd_c.proofs.decoder.swd_decoder_last.Goals as goal

pub returns-clause-item : goal.returns-clause-item
returns-clause-item c = λ yes. record {
  item = c.in-Some-last.last;
  tells = sym c.of.ensures;
  law = sym (c.in-Some.ensures.rest []) ∙ (c.in-Some-last.ensures.item
      ∙ ap (λ x. c.in-Some-last.last ∷ x) (sym (c.fields.ensures.rest [])));
  is = (c.last.new.self, sym c.fields.ensures.fields);
  fed = ap (λ (f : DecoderFields). f.fed) c.fields.ensures.fields
      ∙ (c.in-Some-last.ensures.fed ∙ ap (λ (f : DecoderFields). f.fed) c.in-Some.ensures.same);
}

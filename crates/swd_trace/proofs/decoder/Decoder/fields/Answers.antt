use Rattle.std.proofs.Common.{◌≡◌, sym, rules}
use Rattle.swd_trace.specs.declared.decoder.fields.DecoderFields.{DecoderFields}
use Rattle.swd_trace.specs.DecoderNumbers.{decoder_fields}
use Rattle.swd_trace.proofs.DecoderNumberLemmas.{decoder_rest_as_numbers}
use Rattle.swd_trace.proofs.decoder.Decoder.fields.Goals as goal

pub returns-clause-rest : goal.returns-clause-rest
returns-clause-rest c = λ more.
    let d = c.args.self.now in
    let fields : DecoderFields = record {
      fed = d.fed;
      run = d.run;
      bits = d.bits;
      mode = c.number_of_mode.result;
      one = c.from.result;
      len = d.len;
    } in
    let has : decoder_fields c.args.self.now ≡ fields = search rules in
    sym (decoder_rest_as_numbers d fields has more)

use Rattle.std.proofs.Common.{◌<◌, ◌≤◌, ◌^◌, rules, arith}
use Rattle.std.proofs.lemmas.Grind.{common_steps}
use Rattle.swd_trace.proofs.HoldingLemmas.{decoder_holds_bits}
use Rattle.swd_trace.proofs.decoder.fields.DecoderFields.is_sound.Goals as goal

pub returns-then-self-eq0-clause-sound : goal.returns-then-self-eq0-clause-sound
returns-then-self-eq0-clause-sound c = λ h.
    let fields = c.args.self.now in
    let whole : c.args.self.now.bits < 2 ^ c.args.self.now.len = search rules in
    let counted : c.args.self.now.len ≤ c.args.self.now.fed = grind (arith, common_steps, h) in
    let bits = decoder_holds_bits c.args.mode c.args.one fields.len fields.bits fields.fed whole c.if-self-gt50.false
    counted in
    rw c.if-self-eq0.true bits

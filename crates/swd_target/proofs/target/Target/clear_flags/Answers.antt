use Rattle.std.proofs.Common.{◌≡◌, ap, ◌∙◌, refl}
use Rattle.std.specs.Prelude.{◌==◌}
use Rattle.std.specs.Int.RustNames.{bit_and}
use Rattle.swd_port.specs.Registers.{register_bit}
use Rattle.swd_target.proofs.FlagLemmas.{target_flag_is_bit}
use Rattle.swd_target.proofs.target.Target.clear_flags.Goals as goal

pub returns : goal.returns
returns g c =
    let two : c.contains.result ≡ register_bit 2 c.args.word = c.contains.ensures tt
    ∙ (ap (λ n. bit_and n 4 == 4) c.of-abort.ensures ∙ target_flag_is_bit c.args.word 2 31 refl) in
    let three : c.contains-2.result ≡ register_bit 3 c.args.word = c.contains-2.ensures tt
    ∙ (ap (λ n. bit_and n 8 == 8) c.of-abort.ensures ∙ target_flag_is_bit c.args.word 3 31 refl) in
    record { state = rw (two, three) refl; exact = rw (two, three) refl; device = refl }

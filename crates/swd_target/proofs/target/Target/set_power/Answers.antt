use Rattle.std.proofs.Common.{◌≡◌, ap, ◌∙◌, refl}
use Rattle.std.specs.Prelude.{◌==◌}
use Rattle.std.specs.Int.RustNames.{bit_and}
use Rattle.swd_port.specs.Registers.{register_bit, ctrl_stat_mask}
use Rattle.swd_target.proofs.FlagLemmas.{target_flag_is_bit}
use Rattle.swd_target.proofs.target.Target.set_power.Goals as goal

pub returns : goal.returns
returns g c =
    let debug : c.contains-self.result ≡ register_bit 28 c.args.word = c.contains-self.ensures tt
    ∙ (ap (λ n. bit_and n 0x1000_0000 == 0x1000_0000) c.of-control.ensures
    ∙ target_flag_is_bit c.args.word 28 ctrl_stat_mask refl) in
    let system : c.contains-self-2.result ≡ register_bit 30 c.args.word = c.contains-self-2.ensures tt
    ∙ (ap (λ n. bit_and n 0x4000_0000 == 0x4000_0000) c.of-control.ensures
    ∙ target_flag_is_bit c.args.word 30 ctrl_stat_mask refl) in
    record { state = rw (debug, system) refl; exact = rw (debug, system) refl; device = refl }

use Rattle.std.proofs.Common.{◌∙◌, false, ap, subst}
use Rattle.std.specs.Prelude.{unwrap_or}
use Rattle.swd_bitbang.specs.Steps.{PinsShow, pins_fallen}
use Rattle.swd_bitbang.proofs.ClockLemmas.{pins_clock_made, pins_clock_reaches}
use Rattle.swd_bitbang.proofs.pins.Pins.clock.Goals as goal

pub returns-clause-made : goal.returns-clause-made
returns-clause-made g c = λ between.
    let s = c.args.self.now in
    let drive = c.args.drive in
    let begun = c.fall.ensures
    ∙ ap (λ l. pins_fallen l (record s { drives = c.is_some-drives.result })) c.unwrap_or-level.ensures
    ∙ ap (λ d. pins_fallen (unwrap_or drive false) (record s { drives = d })) c.is_some-drives.ensures in
    pins_clock_made g.D.Device.bus drive c.bit-bit.result s c.bit-bit.new.self between
    (subst (λ p. PinsShow g.D.Device.bus c.bit-bit.result p c.bit-bit.new.self) begun c.bit-bit.ensures)

pub returns-clause-reached : goal.returns-clause-reached
returns-clause-reached g c =
    let s = c.args.self.now in
    let drive = c.args.drive in
    let begun = c.fall.ensures
    ∙ ap (λ l. pins_fallen l (record s { drives = c.is_some-drives.result })) c.unwrap_or-level.ensures
    ∙ ap (λ d. pins_fallen (unwrap_or drive false) (record s { drives = d })) c.is_some-drives.ensures in
    pins_clock_reaches g.D.Device.bus drive c.bit-bit.result s c.bit-bit.new.self
    (subst (λ p. PinsShow g.D.Device.bus c.bit-bit.result p c.bit-bit.new.self) begun c.bit-bit.ensures)

use Rattle.std.proofs.Common.{ap, refl}
use Rattle.swd_packets.specs.Packets.{pins_of_line}
use Rattle.swd_packets.proofs.packets.SimulatedProbe.new.Goals as goal

pub returns : goal.returns
returns g c =
    let made = c.new.ensures in
    record {
      over = ap pins_of_line made.over;
      begun = record {
        over = refl;
        sized = made.sized;
        settings = made.settings;
        mask = made.mask;
        reset = made.reset;
      };
      empty = c.new-2.ensures;
    }

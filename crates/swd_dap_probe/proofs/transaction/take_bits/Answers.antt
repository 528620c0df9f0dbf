use Rattle.std.proofs.Common.{[], refl, sym, append-nil}
use Rattle.swd_dap_probe.proofs.transaction.take_bits.Goals as goal

pub returns-clause-takes : goal.returns-clause-takes
returns-clause-takes g c =
    let h = c.sample-sent.ensures.levels in
    record {
      levels = h.levels;
      goes = (
        c.sample-sent.new.line,
        h.levels,
        [],
        record { seen = h.levels; clocks = h.goes; samples = refl },
        (
          c.release.new.line,
          [],
          [],
          c.release.ensures,
          (c.hold.new.line, [], [], c.hold.ensures, (refl, refl), refl),
          refl,
        ),
        sym (append-nil h.levels),
      );
      is = h.is;
    }

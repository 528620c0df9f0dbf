use Rattle.std.proofs.Common.{[], refl}
use Rattle.swd_remote.proofs.opening.Opening.new.Goals as goal

pub returns : goal.returns
returns c = record {
  calls = [];
  are = refl;
  knows = record {
    dpidr = refl;
    status = refl;
    asked = refl;
    is_open = refl;
    last = refl;
    due = refl;
    zero = refl;
    one = refl;
  };
}

use Rattle.std.proofs.Common.{refl}
use Rattle.swd_image_ends.specs.Came.{image_bench_wire}
use Rattle.swd_image_ends.proofs.AddressLemmas.{loaded_there, verified_there}
use Rattle.swd_image_ends.proofs.laws.words_stay.Goals as goal

pub returns : goal.returns
returns g c limits s t rest = record {
  loads = λ pieces h. loaded_there (image_bench_wire _) limits (λ w. tt) pieces s t rest refl h;
  verifies = λ pieces difference h.
      verified_there (image_bench_wire _) limits (λ w. tt) pieces difference s t rest refl h;
  dumps = λ addr count bytes h. record { fits = h.fits; are = h.memory tt rest refl; words = h.same tt rest refl };
}

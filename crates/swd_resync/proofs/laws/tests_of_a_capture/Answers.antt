use Rattle.swd_resync.proofs.PairLemmas.{pair_found, pair_test_complete}
use Rattle.swd_resync.proofs.laws.tests_of_a_capture.Goals as goal

pub returns : goal.returns
returns c = λ over bits. (pair_found over bits, pair_test_complete over bits)

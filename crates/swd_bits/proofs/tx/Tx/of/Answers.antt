use Rattle.std.proofs.Common.{◌≡◌, ◌≤◌, ◌∷◌, length, sym, ap, ◌∙◌, arith}
use Rattle.swd_bits.specs.Bits.{low_bits}
use Rattle.swd_bits.specs.BitLists.{tx_bits_of}
use Rattle.swd_bits.specs.Wire.{bits_of_request}
use Rattle.swd_bits.specs.Transactions.{tx_tail_bits, tx_ending_bits}
use Rattle.swd_bits.proofs.BitsLemmas.{length-low_bits}
use Rattle.swd_bits.proofs.TxLemmas.{tx_spelled_by_parts, tx_spelling_split, request_bits_same_direction}
use Rattle.swd_bits.proofs.TxLemmas.{tx_bits_injective, tx_bits_at_least_12, tx_bits_split_same, request_bits_length}
use Rattle.swd_bits.proofs.tx.Tx.of.Goals as goal

pub returns-then-spelled-lt-UNACKNOWLEDGED_BITS-clause-none :
    goal.returns-then-spelled-lt-UNACKNOWLEDGED_BITS-clause-none
returns-then-spelled-lt-UNACKNOWLEDGED_BITS-clause-none c = λ tx p.
    let n : 12 ≤ length (tx_bits_of c.args.spelled) = tx_bits_at_least_12 tx (tx_bits_of c.args.spelled) p in
    let m : length (tx_bits_of c.args.spelled) ≡ c.args.spelled.len = length-low_bits c.args.spelled.len
    c.args.spelled.bits in
    omega arith

pub returns-in_default-clause-none : goal.returns-in_default-clause-none
returns-in_default-clause-none c = λ tx p.
    let first = tx_bits_split_same (bits_of_request tx.request) (low_bits 8 c.split-asked.result.0)
    (p.1 ∷ tx_ending_bits tx.request.read tx.result p.2) (tx_bits_of c.split-asked.result.1)
    (request_bits_length tx.request ∙ sym (length-low_bits 8 c.split-asked.result.0))
    (sym p.3 ∙ c.split-asked.ensures.bits) in
    c.in_default.ensures.none tx.request first.0

pub returns-in-Some-end_of-clause-found : goal.returns-in-Some-end_of-clause-found
returns-in-Some-end_of-clause-found c =
    let f = c.in-Some-end_of.ensures.found in
    tx_spelled_by_parts c.in-Some.request c.in-Some-end_of.result (tx_bits_of c.args.spelled)
    (low_bits 8 c.split-asked.result.0) (tx_bits_of c.split-asked.result.1)
    (low_bits 1 c.split.result.0) (tx_bits_of c.split.result.1) (low_bits 3 c.split-seen.result.0)
    (tx_bits_of c.split-seen.result.1)
    (length-low_bits 1 c.split.result.0) c.in-Some.ensures.found f.1 c.split-asked.ensures.bits c.split.ensures.bits
    c.split-seen.ensures.bits f.0 f.2 f.3

pub returns-in-None-clause-none : goal.returns-in-None-clause-none
returns-in-None-clause-none c = λ tx p.
    let q = tx_spelling_split tx (tx_bits_of c.args.spelled) (low_bits 8 c.split-asked.result.0)
    (tx_bits_of c.split-asked.result.1)
    (low_bits 1 c.split.result.0) (tx_bits_of c.split.result.1) (low_bits 3 c.split-seen.result.0)
    (tx_bits_of c.split-seen.result.1) (length-low_bits 8 c.split-asked.result.0) (length-low_bits 1 c.split.result.0)
    (length-low_bits 3 c.split-seen.result.0)
    c.split-asked.ensures.bits c.split.ensures.bits c.split-seen.ensures.bits p in
    let e : c.in-Some.request.read ≡ tx.request.read = request_bits_same_direction c.in-Some.request tx.request
    (c.in-Some.ensures.found ∙ sym q.asked) in
    c.in-None.ensures.none tx.result q.last p.0 q.seen (q.rest ∙ ap (λ r. tx_tail_bits r tx.result q.last) (sym e))

pub returns-in-Some-end_of-clause-only : goal.returns-in-Some-end_of-clause-only
returns-in-Some-end_of-clause-only c = λ other p. tx_bits_injective other _ (tx_bits_of c.args.spelled) p
    (returns-in-Some-end_of-clause-found c)

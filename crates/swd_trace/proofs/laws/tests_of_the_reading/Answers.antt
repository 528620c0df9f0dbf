use Rattle.swd_trace.specs.Reading.{switch_item}
use Rattle.swd_trace.proofs.LawLemmas.{trace_whole_stand_spells, trace_spells_whole_stand, trace_begun_stand_spells}
use Rattle.swd_trace.proofs.LawLemmas.{trace_spells_begun_stand, trace_reset_test_sound, trace_reset_test_complete}
use Rattle.swd_trace.proofs.LawLemmas.{trace_few_ones_begin_reset, trace_reset_prefix_few_ones, trace_prefix_test_sound}
use Rattle.swd_trace.proofs.LawLemmas.{trace_prefix_test_complete}
use Rattle.swd_trace.proofs.laws.tests_of_the_reading.Goals as goal

pub returns-clause-transaction : goal.returns-clause-transaction
returns-clause-transaction c = λ bits tx n. (trace_whole_stand_spells bits tx n, trace_spells_whole_stand bits tx n)

pub returns-clause-begun : goal.returns-clause-begun
returns-clause-begun c = λ bits. (trace_begun_stand_spells bits, trace_spells_begun_stand bits)

pub returns-clause-fifty : goal.returns-clause-fifty
returns-clause-fifty c = λ bits. (trace_reset_test_sound bits, trace_reset_test_complete bits)

pub returns-clause-fewer : goal.returns-clause-fewer
returns-clause-fewer c = λ bits. (trace_few_ones_begin_reset bits, trace_reset_prefix_few_ones bits)

pub returns-clause-switch : goal.returns-clause-switch
returns-clause-switch c = λ bits. (
  trace_prefix_test_sound switch_item bits,
  trace_prefix_test_complete switch_item bits,
)

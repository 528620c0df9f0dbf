-- The theorem of a run where the bus is a plain memory. For the law `plain_runs`.
use Rattle.swd_host.proofs.Words.{◌≡◌, ◌+◌, refl, sym, ap, ◌∙◌, List, [], ◌∷◌, take, Access, memory_after}
use Rattle.swd_host.proofs.Words.{answers_of, bursts_limit}
use Rattle.swd_port.specs.PlainMemory.{PlainMemory}
use Rattle.swd_port.specs.PlainAnswers.{plain_answer, plain_after}
use Rattle.swd_port.specs.Bus.{bus_after}
use Rattle.swd_port.specs.PlainBus.{bus_of, plain_of, plain_after_all}
use Rattle.swd_port.proofs.PlainLaws.{bus_of_after, bus_of_answer}
use Rattle.swd_host.specs.PlainRuns.{plain_answers_to, FitsOverPlain, RunsOverPlain}

after_list : (list : List Access) (m : PlainMemory) → memory_after list (bus_of m) ≡ bus_of (plain_after_all list m)
after_list [] m = refl
after_list (a ∷ list) m = ap (memory_after list) (bus_of_after a m) ∙ after_list list (plain_after a m)

answers_list : (list : List Access) (m : PlainMemory) → answers_of list (bus_of m) ≡ plain_answers_to list m
answers_list [] m = refl
answers_list (a ∷ list) m =
    ap (λ x. x ∷ answers_of list (bus_after a (bus_of m))) (bus_of_answer a m)
    ∙ ap (λ l. plain_answer a m ∷ l) (ap (answers_of list) (bus_of_after a m) ∙ answers_list list (plain_after a m))

-- what a report states over a bus that is a plain memory, as what it states over the memory
pub host_fits_over_plain : FitsOverPlain
host_fits_over_plain limit list b told now plain (k, fit) =
    let m : PlainMemory = plain_of b in
    let j = fit.memory.0 in
    let is : now ≡ bus_of (plain_after_all (take (k + j) list) m) =
    fit.memory.2 ∙ ap (memory_after (take (k + j) list)) plain ∙ after_list (take (k + j) list) m in
    record {
      plain = is ∙ ap bus_of (sym (ap plain_of is));
      fits = (
        k,
        record {
          reported = fit.reported;
          answers = fit.answers ∙ ap (answers_of (take k list)) plain ∙ answers_list (take k list) m;
          memory = (j, fit.memory.1, ap plain_of is);
          few = fit.few;
          begun = fit.begun;
          all = fit.all;
        },
      );
    }

-- the same of a run over a target at rest
pub host_runs_over_plain : RunsOverPlain
host_runs_over_plain kind list tries told s t rest plain runs = record {
  now = host_fits_over_plain (bursts_limit kind) list s.target.memory told t.target.memory plain (runs rest).now;
  later = λ c. host_fits_over_plain (bursts_limit kind) list s.target.memory told _ plain ((runs rest).later c);
}

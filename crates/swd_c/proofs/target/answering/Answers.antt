use Rattle.std.proofs.Common.{◌≡◌, ℕ, Option, Some, None, ap, sym, ◌∙◌, refl}
use Rattle.swd_port.specs.Bus.{bus_answer}
use Rattle.swd_port.specs.PlainBus.{bus_of}
use Rattle.swd_port.specs.PlainMemory.{PlainMemory}
use Rattle.swd_port.specs.PlainAnswers.{plain_answer}
use Rattle.swd_port.specs.declared.access.Access.{Access}
use Rattle.swd_port.specs.declared.access.Access.TheVariants.{Read, Write}
use Rattle.swd_port.specs.declared.access.Answer.{Answer}
use Rattle.swd_port.proofs.PlainLaws.{bus_of_answer}
use Rattle.swd_target.specs.MemoryWords.{target_window}
use Rattle.swd_target.proofs.WordLemmas.{window-failed, window-read, window-written}
use Rattle.swd_c.proofs.target.answering.Goals as goal

-- what a window answers is what the bus answers that it is
answered : (a : Access) (told : Answer) (at : ℕ) (word : Option ℕ) (m : PlainMemory) → m ≡ target_window at word
    → told ≡ plain_answer a (target_window at word) → Some told ≡ Some (bus_answer a (bus_of m))
answered a told at word m is e = ap Some
    (e ∙ (sym (bus_of_answer a (target_window at word)) ∙ ap (λ n. bus_answer a (bus_of n)) (sym is)))

pub returns-in-1-eq2 : goal.returns-in-1-eq2
returns-in-1-eq2 c = (
  Read c.args.addr,
  record {
    access = rw c.in-1-eq2.is-0 refl;
    answer = rw c.in-1-eq2.is-1
        (answered (Read c.args.addr) _ c.args.addr (Some c.args.word) _ c.window.ensures
        (window-read c.args.addr c.args.word));
  },
)

pub returns-in-1-eq4 : goal.returns-in-1-eq4
returns-in-1-eq4 c = (
  Read c.args.addr,
  record {
    access = rw c.in-1-eq4.is-0 refl;
    answer = rw c.in-1-eq4.is-1
        (answered (Read c.args.addr) _ c.args.addr None _ c.window-in-1-eq4.ensures
        (window-failed (Read c.args.addr)));
  },
)

pub returns-in-2-eq3 : goal.returns-in-2-eq3
returns-in-2-eq3 c =
    let a = Write c.args.addr c.args.pending.word in (
      a,
      record {
        access = rw c.in-2-eq3.is-0 refl;
        answer = rw c.in-2-eq3.is-1
            (answered a _ c.args.addr (Some 0) _ c.window-in-2-eq3.ensures
            (window-written c.args.addr 0 c.args.pending.word));
      },
    )

pub returns-in-2-eq4 : goal.returns-in-2-eq4
returns-in-2-eq4 c =
    let a = Write c.args.addr c.args.pending.word in (
      a,
      record {
        access = rw c.in-2-eq4.is-0 refl;
        answer = rw c.in-2-eq4.is-1
            (answered a _ c.args.addr None _ c.window-in-2-eq4.ensures (window-failed a));
      },
    )

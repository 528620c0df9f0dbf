-- Calls one after the other over one target are as one list. For the laws `sessions` and `made_is_at_rest`.
use Rattle.swd_host.proofs.Words.{Bursts, bursts_limit}
use Rattle.swd_host.proofs.Words.{◌≡◌, ◌%◌, ℕ, refl, sym, ap, subst, arith, ◌∙◌, List, ◌++◌, length, take, Access}
use Rattle.swd_host.proofs.Words.{Answer, Bus, Port, All, memory_after, answers_of, HostReport, FitsFromAt}
use Rattle.swd_host.proofs.Words.{HostEndsAt, HostIsOpen, IsAtRest, RunFits, RunFitsFrom}
use Rattle.std.proofs.lemmas.List.{take_all}
use Rattle.swd_port.specs.Made.{port_made}
use Rattle.swd_host.specs.Sessions.{HostSession, none, then, HostSessionIsAsOne, HostLists, none_yet, and_then}
use Rattle.swd_host.specs.Sessions.{HostListsAreAsOne}
use Rattle.swd_host.proofs.Lists.{host_list_memory_append, host_list_answers_append}

-- a target that was just made is at rest, if bit 0 of its identification is 1
pub host_session_made_rests : (identification : ℕ) (m : Bus) → identification % 2 ≡ 1
    → IsAtRest (port_made identification m)
host_session_made_rests identification m odd =
    record { due = refl; known = record { select = refl; odd = odd }; settled = refl }

-- A CALL THAT ENDED WHOLE
module _ (opening : ℕ) (kind : Bursts) (tries : ℕ) (list : List Access) (told : HostReport) (s t : Port)
    (runs : RunFitsFrom opening kind list tries s.target.memory told s t) (all : told.ended ≡ All) where
  whole_fit : FitsFromAt opening (bursts_limit kind) runs.now.0 list s.target.memory told t.target.memory
  whole_fit = runs.now.1

  whole_list : take runs.now.0 list ≡ list
  whole_list = ap (λ n. take n list) (whole_fit.all all) ∙ take_all (length list) list (omega arith)

  pub whole_answers : told.answers ≡ answers_of list s.target.memory
  whole_answers = whole_fit.answers ∙ ap (λ xs. answers_of xs s.target.memory) whole_list

  pub whole_open : HostIsOpen t
  whole_open = subst (λ end. HostEndsAt end tries s t) all runs.ends

  -- no access is begun beside
  unbegun : (b : ℕ) → told.begun ≡ b → b ≡ 0
  unbegun b is = grind (arith, whole_fit)

  pub whole_memory : t.target.memory ≡ memory_after list s.target.memory
  whole_memory = grind (arith, unbegun, whole_fit, whole_list)

-- a session, as one run over the list of all its accesses
pub host_session_as_one : (s : Port) (list : List Access) (answers : List Answer) (t : Port) → IsAtRest s
    → HostSession s list answers t → HostSessionIsAsOne s list answers t
host_session_as_one s list answers t rest none = record { rests = rest; answers_are = refl; memory = refl }
host_session_as_one s list answers t rest
    (then {done = done} {answers = old} {t = u} {u = v} before kind tries more told runs all) =
    let b : HostSessionIsAsOne s done old u = host_session_as_one s done old u rest before in
    let r : RunFits kind more tries u.target.memory told u t = runs b.rests in
    let m : Bus = s.target.memory in
    record {
      rests = (whole_open 9 kind tries more told u v r all).0;
      answers_are = ap (λ l. l ++ told.answers) b.answers_are
          ∙ (ap (λ l. answers_of done m ++ l) (whole_answers 9 kind tries more told u v r all
          ∙ ap (answers_of more) b.memory) ∙ sym (host_list_answers_append done more m));
      memory = whole_memory 9 kind tries more told u v r all
          ∙ (ap (memory_after more) b.memory ∙ sym (host_list_memory_append done more m));
    }

-- lists over an open target, as one list
pub host_lists_as_one : (s : Port) (list : List Access) (answers : List Answer) (t : Port) → HostIsOpen s
    → HostLists s list answers t → HostListsAreAsOne s list answers t
host_lists_as_one s list answers t ready none_yet = record { open_again = ready; answers_are = refl; memory = refl }
host_lists_as_one s list answers t ready
    (and_then {done = done} {answers = old} {t = u} {u = v} before kind tries more told runs all) =
    let b : HostListsAreAsOne s done old u = host_lists_as_one s done old u ready before in
    let r : RunFitsFrom 0 kind more tries u.target.memory told u t = runs b.open_again in
    let m : Bus = s.target.memory in
    record {
      open_again = whole_open 0 kind tries more told u v r all;
      answers_are = ap (λ l. l ++ told.answers) b.answers_are
          ∙ (ap (λ l. answers_of done m ++ l) (whole_answers 0 kind tries more told u v r all
          ∙ ap (answers_of more) b.memory) ∙ sym (host_list_answers_append done more m));
      memory = whole_memory 0 kind tries more told u v r all
          ∙ (ap (memory_after more) b.memory ∙ sym (host_list_memory_append done more m));
    }

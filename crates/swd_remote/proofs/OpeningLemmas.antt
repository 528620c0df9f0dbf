-- What is known of an opening that takes one call more.
use Rattle.std.proofs.Common.{◌≡◌, ◌∙◌, ℕ, Bool, true, false, ◌||◌, List, [], ◌∷◌, ◌++◌, Option, None, Some, refl}
use Rattle.std.proofs.Common.{Result, ap, if◌then◌else◌, subst, sym}
use Rattle.std.proofs.lemmas.List.{reverse-append}
use Rattle.std.specs.List.{cons_option}
use Rattle.swd_bits.specs.declared.tx.Tx.{Tx}
use Rattle.swd_port.specs.declared.cue.Cue.{Cue}
use Rattle.swd_port.specs.declared.outside.Disconnected.{Disconnected}
use Rattle.swd_port.specs.Transports.{PortAttempt, port_attempt}
use Rattle.swd_remote.specs.declared.opening.Opening.{Opening}
use Rattle.swd_remote.specs.Openings.{OpeningKnows, OpeningShows, is_opening_transfer, opening_answered, opening_asked}
use Rattle.swd_remote.specs.Openings.{opening_asked_by, opening_calls, opening_differs, opening_dpidr, opening_dpidr_by}
use Rattle.swd_remote.specs.Openings.{opening_ended, opening_is_open, opening_last, opening_status, opening_status_by}
use Rattle.swd_remote.specs.Openings.{opening_txs}

or_false : (b : Bool) → (b || false) ≡ b
or_false true = refl
or_false false = refl

-- an opening after a call that ended this transaction, or none
abbrev pub OpeningTook : Option Tx → Opening → Opening → Type 0
OpeningTook None s t = (t.dpidr ≡ s.dpidr) × (t.status ≡ s.status) × (t.asked ≡ s.asked) × (t.is_open ≡ s.is_open)
    × (t.last ≡ s.last)
OpeningTook (Some tx) s t = (t.dpidr ≡ opening_dpidr_by tx s.dpidr) × (t.status ≡ opening_status_by tx s.status)
    × (t.asked ≡ opening_asked_by tx s.asked) × (t.is_open ≡ is_opening_transfer tx) × (t.last ≡ Some tx.result)

-- what it knows of the transactions
pub record KnowsTxs (txs : List Tx) (t : Opening) : Type 0 where
  pub dpidr : t.dpidr ≡ opening_dpidr txs
  pub status : t.status ≡ opening_status txs
  pub asked : t.asked ≡ opening_asked txs
  pub is_open : t.is_open ≡ opening_is_open txs
  pub last : t.last ≡ opening_last txs

knows_txs : (ended : Option Tx) (txs : List Tx) (s t : Opening) → KnowsTxs txs s → s.is_open ≡ false
    → OpeningTook ended s t → KnowsTxs (cons_option ended txs) t
knows_txs None txs s t h closed took = record {
  dpidr = took.0 ∙ h.dpidr;
  status = took.1 ∙ h.status;
  asked = took.2 ∙ h.asked;
  is_open = took.3 ∙ h.is_open;
  last = took.4 ∙ h.last;
}
knows_txs (Some tx) txs s t h closed took = record {
  dpidr = took.0 ∙ ap (opening_dpidr_by tx) h.dpidr;
  status = took.1 ∙ ap (opening_status_by tx) h.status;
  asked = took.2 ∙ ap (opening_asked_by tx) h.asked;
  is_open = took.3 ∙ sym (or_false (is_opening_transfer tx))
      ∙ ap (λ b. is_opening_transfer tx || b) (sym closed ∙ h.is_open);
  last = took.4;
}

-- one that isn't open yet
pub opening_goes : (cue : Cue) (told : Result ℕ Disconnected) (ended : Option Tx) (s t : Opening)
    → s.is_open ≡ false → opening_ended s.due cue told ≡ ended → t.due ≡ opening_answered cue told
    → t.zero ≡ (opening_differs 7 cue told || s.zero) → t.one ≡ (opening_differs 0 cue told || s.one)
    → OpeningTook ended s t → (made : List PortAttempt) → OpeningShows made s
    → OpeningShows (made ++ port_attempt cue told ∷ []) t
opening_goes cue told ended s t closed ends due zero one took made h =
    let call = port_attempt cue told in
    let calls = opening_calls h.calls in
    let known = h.knows in
    let before : KnowsTxs (opening_txs calls) s = record {
      dpidr = known.dpidr;
      status = known.status;
      asked = known.asked;
      is_open = known.is_open;
      last = known.last;
    } in
    let same = ap (λ due. opening_ended due cue told) (sym known.due) ∙ ends in
    let txs = subst (λ ended. KnowsTxs (cons_option ended (opening_txs calls)) t) (sym same)
    (knows_txs ended (opening_txs calls) s t before closed took) in
    record {
      calls = call ∷ h.calls;
      are = reverse-append (call ∷ []) h.calls ∙ ap (λ l. l ++ call ∷ []) h.are;
      knows = subst (λ calls. OpeningKnows calls t)
          (sym (ap (λ b. if b then calls else call ∷ calls) (sym known.is_open ∙ closed))) (record {
            dpidr = txs.dpidr;
            status = txs.status;
            asked = txs.asked;
            is_open = txs.is_open;
            last = txs.last;
            due = due;
            zero = zero ∙ ap (λ b. opening_differs 7 cue told || b) known.zero;
            one = one ∙ ap (λ b. opening_differs 0 cue told || b) known.one;
          });
    }

-- an open one stays as it is
pub opening_stays : (call : PortAttempt) (s : Opening) → s.is_open ≡ true → (made : List PortAttempt)
    → OpeningShows made s → OpeningShows (made ++ call ∷ []) s
opening_stays call s opened made h =
    let calls = opening_calls h.calls in
    record {
      calls = call ∷ h.calls;
      are = reverse-append (call ∷ []) h.calls ∙ ap (λ l. l ++ call ∷ []) h.are;
      knows = subst (λ calls. OpeningKnows calls s)
          (sym (ap (λ b. if b then calls else call ∷ calls) (sym h.knows.is_open ∙ opened))) h.knows;
    }

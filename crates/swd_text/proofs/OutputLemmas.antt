-- From how a text was read to what was written of it.
use Rattle.std.proofs.Common.{◌≡◌, ℕ, List, Bool, [], ◌++◌, Option, None, Some, Result, Ok, Err, inl, inr, sym, subst}
use Rattle.std.proofs.Common.{append-nil}
use Rattle.std.specs.Prelude.{IfSome}
use Rattle.std.specs.Io.KnownBytes.{Consumes}
use Rattle.std.proofs.KnownBytes.{Consumes-whole}
use Rattle.swd_io.specs.Blocks.{BlockBufferSends, OutputStopped}
use Rattle.swd_io.specs.declared.block.Block.{Block}
use Rattle.swd_text.specs.Sinks.{LeadsSinkOn, LeadsSinkToStop, SinkStopsAfter, TextGoesTo}
use Rattle.swd_text.specs.Outputs.{OutputStart, TextWrites, TextQueues, TextOutputEnds}
use Rattle.swd_text.specs.TextBits.{TextBitsAre, TextBitsBefore, TextBitsSoFar}
use Rattle.swd_text.specs.declared.fault.DecodeFault.{DecodeFault}
use Rattle.swd_text.specs.declared.fault.DecodeFault.TheVariants.{Text, Read, Write}

-- what holds of what was read, whatever follows, holds of the text if it is known
pub text_fault_found : (P : List ℕ → Type 0) (text left : Option (List ℕ)) (read : List ℕ) → Consumes text left read
    → ((more : List ℕ) → P (read ++ more)) → IfSome text P
text_fault_found P None left read h f = tt
text_fault_found P (Some x) None read h f = absurd h
text_fault_found P (Some x) (Some rest) read h f = subst P (sym h) (f rest)

module _ {A : Type 0} (Decides ReadsAs : List Bool → A → Type 0) (out whole : A → List ℕ) where
  -- the end of the output
  pub text_output_ends : {W : Type 0} (contents : W → Option (List ℕ)) (read result : Result (Unit {0}) DecodeFault)
      (text left start : Option (List ℕ)) (old new : Block W) → TextQueues Decides ReadsAs out whole contents read text
      left start old → TextOutputEnds contents read old result new
      → TextWrites Decides ReadsAs out whole result text left start (contents new.writer.now)
  text_output_ends contents (Ok u) result text left start old new q (inl e) =
      subst (λ r. TextWrites Decides ReadsAs out whole r text left start (contents new.writer.now)) (sym e.0) (
        q.1,
        q.3,
        Consumes-whole text left q.0 (TextBitsAre (λ bits. ReadsAs bits q.1)) q.2 q.3 q.4,
        e.1 start (whole q.1) q.5,
      )
  text_output_ends contents (Ok u) result text left start old new q (inr e) =
      subst (λ r. TextWrites Decides ReadsAs out whole r text left start (contents new.writer.now)) (sym e.1)
      (q.0, q.1, q.2, inr (q.3, q.4, e.2 start (whole q.1) q.5))
  text_output_ends contents (Err (Text fault)) result text left start old new q (inl e) =
      subst (λ r. TextWrites Decides ReadsAs out whole r text left start (contents new.writer.now)) (sym e.0)
      (q.1, text_fault_found _ text left q.0 q.2 q.3, e.1 start (out q.1) q.4)
  text_output_ends contents (Err (Text fault)) result text left start old new q (inr e) =
      subst (λ r. TextWrites Decides ReadsAs out whole r text left start (contents new.writer.now)) (sym e.1) (
        q.0,
        q.1,
        q.2,
        inl (
          inr (
            fault,
            subst (TextBitsBefore (λ bits. Decides bits q.1) fault) (append-nil q.0)
                (q.3 []),
          ),
          e.2 start (out q.1) q.4,
        ),
      )
  text_output_ends contents (Err Read) result text left start old new q (inl e) =
      subst (λ r. TextWrites Decides ReadsAs out whole r text left start (contents new.writer.now)) (sym e.0)
      (q.0, q.1, q.2, q.3, e.1 start (out q.1) q.4)
  text_output_ends contents (Err Read) result text left start old new q (inr e) =
      subst (λ r. TextWrites Decides ReadsAs out whole r text left start (contents new.writer.now)) (sym e.1)
      (q.0, q.1, q.2, inl (inl q.3, e.2 start (out q.1) q.4))
  text_output_ends contents (Err (Write told)) result text left start old new q e =
      subst (λ r. TextWrites Decides ReadsAs out whole r text left start (contents new.writer.now)) (sym e.0) (
        q.0,
        q.1,
        q.2,
        inl (
          q.3,
          subst (λ (b : Block _). OutputStopped told start (contents b.writer.now) (out q.1))
              (sym e.1) q.4,
        ),
      )

  -- a text that was not read to its end: what its sink has taken says what is queued
  pub text_queues_unread : {I S W : Type 0} (contents : W → Option (List ℕ))
      (HasTaken : I → S × Block W → List Bool → Type 0) (Stops : I → S × Block W → ℕ → List Bool → Type 0) (i : I)
      (start : OutputStart) → ((state : S × Block W) (bits : List Bool) → HasTaken i state bits → (x : A)
      × Decides bits x × BlockBufferSends contents start.from state.1 (out x)
      × (state.1.writer.ghost_name ≡ start.name)) → ((state : S × Block W) (told : ℕ) (bits : List Bool)
      → Stops i state told bits → (x : A) × Decides bits x
      × OutputStopped told start.from (contents state.1.writer.now) (out x) × (state.1.writer.ghost_name ≡ start.name))
      → (fault : DecodeFault) (text left : Option (List ℕ)) (before : S × Block W) (block : Block W)
      → HasTaken i before [] → TextGoesTo (LeadsSinkOn HasTaken) (LeadsSinkToStop HasTaken Stops) (Err fault) text left
      before block → TextQueues Decides ReadsAs out whole contents (Err fault) text left start.from block
      × (block.writer.ghost_name ≡ start.name)
  text_queues_unread contents HasTaken Stops i start has stops (Text fault) text left before block none r =
      let x = has (r.1, block) r.3.bits (r.3.goes i [] none) in
      ((r.0, x.0, r.2, (λ more. (r.3.bits, r.3.stops more, x.1)), x.2), x.3)
  text_queues_unread contents HasTaken Stops i start has stops Read text left before block none r =
      let x = has (r.1, block) r.3.0 (r.3.2 i [] none) in
      ((r.0, x.0, r.2, (r.3.0, r.3.1, x.1), x.2), x.3)
  text_queues_unread contents HasTaken Stops i start has stops (Write told) text left before block none r =
      stopped r.3
    where
      stopped : TextBitsSoFar (SinkStopsAfter (LeadsSinkOn HasTaken) (LeadsSinkToStop HasTaken Stops) before told
          (r.1, block)) r.0
          → TextQueues Decides ReadsAs out whole contents (Err (Write told)) text left start.from block
          × (block.writer.ghost_name ≡ start.name)
      stopped (inl s) =
          let x = stops (r.1, block) told s.0 (s.2.2 i s.0 (s.2.1 i [] none)) in
          ((r.0, x.0, r.2, inl (s.0, s.1, x.1), x.2), x.3)
      stopped (inr s) =
          let x = stops (r.1, block) told s.1.0 (s.1.2.2 i s.1.0 (s.1.2.1 i [] none)) in
          ((r.0, x.0, r.2, inr (s.0, (s.1.0, s.1.1, x.1)), x.2), x.3)

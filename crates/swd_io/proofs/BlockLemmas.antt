-- How much of the output a writer has after a block wrote what it buffered, or failed: for `Block`, and its callers.
use Rattle.std.proofs.Common.{◌≡◌, ℕ, ◌+◌, ◌-◌, ◌^◌, ◌<◌, min, Bool, false, List, [], ◌++◌, length, take, Option, sym}
use Rattle.std.proofs.Common.{ap, ◌∙◌, subst, arith}
use Rattle.std.specs.Io.KnownBytes.{Appends}
use Rattle.std.proofs.KnownBytes.{Appends-trans}
use Rattle.std.proofs.lemmas.List.{length-append, append-nil, take-append-le}
use Rattle.std.proofs.Math.Seq.{take-append-add}
use Rattle.swd_io.specs.Blocks.{BlockBufferCarries, OutputStopped, BlockBufferSendsBy}
use Rattle.swd_io.specs.Helds.{block_buffer_bytes}
use Rattle.swd_io.specs.declared.block.Block.{Block}

-- what was held went out
pub block_buffer_flushed : {W : Type 0} (contents : W → Option (List ℕ)) (start : Option (List ℕ))
    (block after : Block W) (all text : List ℕ) →
    text ≡ block_buffer_bytes block.held → Appends (contents block.writer.now) (contents after.writer.now) text
    → block_buffer_bytes after.held ≡ [] →
    after.written ≡ min (block.written + length text) (2 ^ 64 - 1) → BlockBufferCarries contents start block all
    → BlockBufferCarries contents start after all
block_buffer_flushed contents start block after all text e a n m h =
    let whole : all ≡ h.sent ++ text = h.whole ∙ ap (λ x. h.sent ++ x) (sym e) in
    let gone : Appends start (contents after.writer.now) (h.sent ++ text) = Appends-trans _ _ _ _ _ h.gone a in
    let len : length (h.sent ++ text) ≡ length h.sent + length text = length-append h.sent text in
    let count = h.count in
    record {
      sent = h.sent ++ text;
      gone = gone;
      whole = whole ∙ sym (append-nil (h.sent ++ text)) ∙ ap (λ x. (h.sent ++ text) ++ x) (sym n);
      count = omega arith;
    }

-- a beginning of what was held went out
pub block_buffer_cut_short : {W : Type 0} (contents : W → Option (List ℕ)) (start new : Option (List ℕ))
    (block : Block W) (all text : List ℕ) (k told : ℕ) →
    text ≡ block_buffer_bytes block.held → k < length text → Appends (contents block.writer.now) new (take k text)
    → told ≡ min (block.written + k) (2 ^ 64 - 1) →
    BlockBufferCarries contents start block all → OutputStopped told start new all
block_buffer_cut_short contents start new block all text k told e l a m h =
    let whole : all ≡ h.sent ++ text = h.whole ∙ ap (λ x. h.sent ++ x) (sym e) in
    let gone : Appends start new (h.sent ++ take k text) = Appends-trans _ _ _ _ _ h.gone a in
    let len : length (h.sent ++ text) ≡ length h.sent + length text = length-append h.sent text in
    let all_len : length all ≡ length (h.sent ++ text) = ap length whole in
    let count = h.count in
    record {
      sent = length h.sent + k;
      short = omega arith;
      gone = subst (Appends start new) (sym (ap (take (length h.sent + k)) whole ∙ take-append-add h.sent text k)) gone;
      count = omega arith;
    }

-- a text in which the writer failed may be longer
pub output_stopped_more : (told : ℕ) (start now : Option (List ℕ)) (all more : List ℕ)
    → OutputStopped told start now all → OutputStopped told start now (all ++ more)
output_stopped_more told start now all more h =
    let len : length (all ++ more) ≡ length all + length more = length-append all more in
    let short = h.short in
    record {
      sent = h.sent;
      short = omega arith;
      gone = subst (Appends start now) (sym (take-append-le h.sent all more (omega arith))) h.gone;
      count = h.count;
    }

-- whether the writer failed is told by the flag
pub block_buffer_unfailed : {W : Type 0} (contents : W → Option (List ℕ)) (flag : Bool) (start : Option (List ℕ))
    (block : Block W) (all : List ℕ) →
    flag ≡ false → BlockBufferSendsBy flag contents start block all → BlockBufferCarries contents start block all
block_buffer_unfailed contents flag start block all e h = rw e at h

-- where the flag says that the writer didn't fail, it has to hold the output except for the buffered bytes
pub carried_block_buffer_sends : {W : Type 0} (contents : W → Option (List ℕ)) (flag : Bool) (start : Option (List ℕ))
    (block : Block W) (all : List ℕ) →
    flag ≡ false → BlockBufferCarries contents start block all → BlockBufferSendsBy flag contents start block all
carried_block_buffer_sends contents flag start block all e h = rw e h

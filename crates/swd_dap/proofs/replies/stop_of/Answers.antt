use Rattle.std.proofs.Common.{◌+◌, ◌<◌, true, false, length, take, get_or, sym, ap, ◌∙◌, arith}
use Rattle.swd_dap.specs.Transfers.{dap_has_word}
use Rattle.swd_dap.proofs.TransferLemmas.{dap_beginning_one_more}
use Rattle.swd_dap.proofs.BeginningLemmas.{dap_any_transfer, dap_posts_after, dap_posts_one_more, dap_requests_up_to}
use Rattle.swd_dap.proofs.BeginningLemmas.{dap_word_short, dap_words_up_to}
use Rattle.swd_dap.proofs.replies.stop_of.Goals as goal
use Rattle.swd_dap.proofs.replies.stop_of.Goals.{then-not-is_hidden, else-not-is_hidden}

pub loop-place-preserved : goal.loop-place-preserved
loop-place-preserved c =
    let ts = c.args.transactions.now in
    let place = c.loop-place.place in
    let v = c.loop-place.invariant in
    let within : place < length ts = c.loop-place-test.true in
    let t = get_or ts place dap_any_transfer in
    let posts = c.loop-place.posts in
    let more = dap_beginning_one_more ts place dap_any_transfer within in
    let words = dap_words_up_to ts place t posts v.posts more in
    let short = dap_word_short (dap_has_word posts t.request) in
    let told = c.word_bytes-told.ensures in
    let has = c.is_hidden.ensures in
    record {
      requests = elim c.if-not-is_hidden.branch [
        | then-not-is_hidden w ↦ dap_requests_up_to ts place t posts false v.posts more
            (sym has ∙ w.if-not-is_hidden.true) ∙ ap (λ n. n + 1) v.requests ∙ sym w.requests-is
        | else-not-is_hidden w ↦ dap_requests_up_to ts place t posts true v.posts more
            (sym has ∙ w.if-not-is_hidden.false) ∙ ap (λ n. n + 0) v.requests ∙ omega (arith, w.requests-is)
      ];
      told = omega (arith, words, told, v.told);
      posts = c.posts-posts.ensures ∙ dap_posts_one_more (take place ts) t
          ∙ ap (dap_posts_after false) (sym more);
      few = elim c.if-not-is_hidden.branch [
        | then-not-is_hidden w ↦ omega (arith, w.requests-is, v.few)
        | else-not-is_hidden w ↦ omega (arith, w.requests-is, v.few)
      ];
      short = omega (arith, told, short, v.short);
    }

use Rattle.std.proofs.Common.{◌≡◌, ◌≤◌, ◌*◌, take, false, length}
use Rattle.swd_dap.specs.Transfers.{dap_requests_of, dap_words_length}
use Rattle.swd_dap.proofs.BeginningLemmas.{dap_posts_after}
use Rattle.swd_dap.proofs.replies.stop_of.Given as goal

abbrev pub invariant-loop-place : goal.invariant-loop-place
invariant-loop-place l = record {
  requests : length (dap_requests_of false (take l.place l.transactions)) ≡ l.requests;
  told : dap_words_length false (take l.place l.transactions) ≡ l.told;
  posts : l.posts ≡ dap_posts_after false (take l.place l.transactions);
  few : l.requests ≤ l.place;
  short : l.told ≤ 4 * l.place;
}

use Rattle.std.proofs.Common.{◌≡◌, true, sym, ◌∙◌}
use Rattle.swd_text.proofs.CommentLemmas.{decode_text_comment_read}
use Rattle.swd_text.proofs.reader.take_many.Goals as goal

pub returns-then-in_comment-clause-taken : goal.returns-then-in_comment-clause-taken
returns-then-in_comment-clause-taken g c = λ start seen h.
    let comment : c.args.reader.now.scan ≡ true = sym c.in_comment.ensures ∙ c.if-in_comment.true in
    record {
      bits = h.bits;
      reads = decode_text_comment_read c.args.reader.now.scan c.comment_len.result c.args.text.now seen h.bits comment
          c.comment_len.ensures.within c.comment_len.ensures.before h.reads;
      goes = h.goes;
      count = h.count;
      counted = h.counted;
    }

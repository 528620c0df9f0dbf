use Rattle.std.proofs.Common.{◌∙◌, ◌≡◌, ◌+◌, ◌*◌, ◌<◌, ℕ, List, Some, length, get_or, set, replicate, refl, sym, ap}
use Rattle.std.proofs.Common.{arith, add-one}
use Rattle.std.specs.FinMap.{get, insert}
use Rattle.swd_target.specs.MemoryWords.{target_words_from}
use Rattle.swd_target.proofs.WordLemmas.{get-words_from, words_from-set}
use Rattle.swd_image_ends.specs.Memories.{image_end_words_in}
use Rattle.swd_image_ends.proofs.MemoryLemmas.{image_end_mixed, image_end_mixed_all, image_end_mixed_length}
use Rattle.swd_image_ends.proofs.MemoryLemmas.{image_end_mixed_next, image_end_mixed_none, image_end_mixed_zero}
use Rattle.swd_image_ends.proofs.MemoryLemmas.{image_end_word_at, image_end_words_length}
use Rattle.swd_image_ends.proofs.memory.memory_with.Goals as goal

pub loop-index-init : goal.loop-index-init
loop-index-init g c =
    let ws : List ℕ = image_end_words_in c.args.bytes.now in
    let log = ap (λ m. length m.log) c.in-Ok.ensures.made in
    let room = ap (λ m. m.room) c.in-Ok.ensures.made in
    let sum = c.saturating_add.ensures in
    record {
      words = ap (λ m. m.words) c.in-Ok.ensures.made
          ∙ ap (target_words_from c.args.base)
          (ap (λ n. replicate n 0) (sym (image_end_words_length c.args.bytes.now)) ∙ image_end_mixed_none ws);
      log = omega (arith, log);
      room = omega (arith, room, sum);
      spare = λ few. omega (arith, room, sum, few);
      count = refl;
    }

pub put_word-requires-clause-zero : goal.put_word-requires-clause-zero
put_word-requires-clause-zero g c =
    let ws : List ℕ = image_end_words_in c.args.bytes.now in
    let i : ℕ = c.loop-index.index in
    let count = image_end_words_length c.args.bytes.now in
    let test = c.loop-index-test.true in
    let low : i < length ws = omega (arith, count, test) in
    let many = image_end_mixed_length i ws in
    ap (λ m. get m (c.args.base + 4 * i)) c.loop-index.invariant.words
    ∙ get-words_from c.args.base (image_end_mixed i ws) i (c.args.base + 4 * i) 0 (omega (arith, many, low)) refl
    ∙ ap (λ w. Some w) (image_end_mixed_zero i ws low)

pub loop-index-preserved : goal.loop-index-preserved
loop-index-preserved g c =
    let ws : List ℕ = image_end_words_in c.args.bytes.now in
    let i : ℕ = c.loop-index.index in
    let at : ℕ = c.args.base + 4 * i in
    let word : ℕ = c.from_le_bytes-word.result in
    let count = image_end_words_length c.args.bytes.now in
    let test = c.loop-index-test.true in
    let low : i < length ws = omega (arith, count, test) in
    let many = image_end_mixed_length i ws in
    let is : word ≡ get_or ws i 0 = c.from_le_bytes-word.ensures ∙ sym (image_end_word_at c.args.bytes.now i low) in
    let put = c.put_word.ensures in
    let log = put.log in
    let room = put.room in
    let inv = c.loop-index.invariant in
    let was_log = inv.log in
    let was_room = inv.room in
    let was_spare = inv.spare in
    record {
      words = put.words ∙ ap (λ m. insert m at word) inv.words
          ∙ sym (words_from-set c.args.base (image_end_mixed i ws) i word at (omega (arith, many, low)) refl)
          ∙ ap (target_words_from c.args.base)
          (ap (set (image_end_mixed i ws) i) is ∙ image_end_mixed_next i ws low ∙ ap (λ n. image_end_mixed n ws)
          (sym (add-one i)));
      log = omega (arith, log, was_log);
      room = omega (arith, room, was_room);
      spare = λ few. let enough = was_spare few in omega (arith, room, enough);
      count = refl;
    }

pub returns-clause-words : goal.returns-clause-words
returns-clause-words g c =
    let ws : List ℕ = image_end_words_in c.args.bytes.now in
    let i : ℕ = c.loop-index.index in
    let count = image_end_words_length c.args.bytes.now in
    let test = c.loop-index-test.false in
    c.loop-index.invariant.words
    ∙ ap (target_words_from c.args.base) (image_end_mixed_all i ws (omega (arith, count, test)))

pub returns-clause-room : goal.returns-clause-room
returns-clause-room g c = λ some few.
    let inv = c.loop-index.invariant in
    let log = inv.log in
    let enough = inv.spare few in
    omega (arith, log, enough)

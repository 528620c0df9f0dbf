use Rattle.std.proofs.Common.{rules, ◌≡◌, ◌∷◌, Bool, true, List, Option, Some, None, IfSome, is_some, sym}
use Rattle.swd_trace.specs.declared.item.Item.{Item}
use Rattle.swd_trace.specs.Decided.{DecidesNoItem}
use Rattle.swd_trace.specs.DecoderNumbers.{rest_in}
use Rattle.swd_trace.specs.Held.{decoder_rest}
use Rattle.swd_trace.proofs.HoldingLemmas.{same_readings_decide_no_item}
use Rattle.swd_c.proofs.decoder.swd_decoder_take.Goals as goal

-- where an item comes whatever follows, it is decided
due_is_decided : (readings after : List Bool → List Item) (found : Option Item) → is_some found ≡ true →
    IfSome found (λ item. (more : List Bool) → readings more ≡ item ∷ after more) → DecidesNoItem readings → ⊥
due_is_decided readings after None some gives undecided = absurd cc
due_is_decided readings after (Some item) some gives undecided = undecided item (λ more c. (after more, gives more))

pub returns-then-is_some-clause-takes : goal.returns-then-is_some-clause-takes
returns-then-is_some-clause-takes c = λ is undecided some most room.
    let d = c.in-Some.now in
    absurd (due_is_decided (decoder_rest d) (decoder_rest c.due.new.self) c.due.result
    (search (rules, c.if-is_some.true)) c.due.ensures.item
    (same_readings_decide_no_item (rest_in c.args.decoder.now) (decoder_rest d)
    (λ more. sym (c.in-Some.ensures.rest more)) undecided))

pub returns-clause-is : goal.returns-clause-is
returns-clause-is c = λ some. (c.take_bits-taken.new.self, sym c.fields.ensures.fields)

use Rattle.std.proofs.Common.{◌++◌, List, Bool, Option, Some, None, ap, sym, ◌∙◌}
use Rattle.std.specs.Prelude.{IfNone}
use Rattle.swd_trace.specs.declared.item.Item.{Item}
use Rattle.swd_trace.specs.declared.decoder.Decoder.{Decoder}
use Rattle.swd_trace.specs.Decided.{DecidesNoItem, IsDecided}
use Rattle.swd_trace.specs.Held.{decoder_rest, DecidesItem, DecoderHasRead}
use Rattle.swd_trace.proofs.HeldLemmas.{decoder_settled_undecided}
use Rattle.swd_trace.proofs.RunLemmas.{decoder_items_decided}
use Rattle.swd_trace.proofs.decoder.Decoder.due.Goals as goal

pub returns-then-self-clause-undecided : goal.returns-then-self-clause-undecided
returns-then-self-clause-undecided c = decoder_settled_undecided c.args.self.now c.if-self.true

pub returns-then-self-clause-decided : goal.returns-then-self-clause-decided
returns-then-self-clause-decided c = λ bits items h.
    (h, decoder_items_decided c.args.self.now bits items h (decoder_settled_undecided c.args.self.now c.if-self.true))

nothing : (old new : Decoder) (result : Option Item) → DecidesItem old new result
    → IfNone result (DecidesNoItem (decoder_rest new))
nothing old new (Some item) d = tt
nothing old new None d = decoder_settled_undecided new d.settled

pub returns-clause-undecided : goal.returns-clause-undecided
returns-clause-undecided c = nothing c.args.self.now c.decide.new.self c.decide.result c.decide.ensures

all_read : (old new : Decoder) (result : Option Item) → DecidesItem old new result →
    IfNone result ((bits : List Bool) (items : List Item) → DecoderHasRead old bits items
    → DecoderHasRead new bits items × IsDecided bits items)
all_read old new (Some item) d = tt
all_read old new None d = λ bits items h.
    let kept : DecoderHasRead new bits items = λ more. ap (λ x. items ++ x) (sym (d.law more)) ∙ h more in
    (kept, decoder_items_decided new bits items kept (decoder_settled_undecided new d.settled))

pub returns-clause-decided : goal.returns-clause-decided
returns-clause-decided c = all_read c.args.self.now c.decide.new.self c.decide.result c.decide.ensures

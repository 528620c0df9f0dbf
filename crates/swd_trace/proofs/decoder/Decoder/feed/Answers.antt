use Rattle.std.proofs.Common.{◌≡◌, ◌∷◌, [], ◌++◌, List, Bool, ap, ◌∙◌}
use Rattle.swd_trace.specs.Held.{decoder_rest}
use Rattle.swd_trace.proofs.RunLemmas.{decoder_items_decided, decoder_items_more}
use Rattle.swd_trace.proofs.decoder.Decoder.feed.Goals as goal

fed_law : (c : goal.After-drain-2) → (more : List Bool)
    → c.drain-2.new.items.items ++ decoder_rest c.drain-2.new.self more
    ≡ decoder_rest c.args.self.now (c.args.bit ∷ more)
fed_law c more =
    c.drain-2.ensures.law more ∙ ap (λ x. c.drain.new.items.items ++ x) (c.take.ensures.law more)
    ∙ c.drain.ensures.law (c.args.bit ∷ more)
    ∙ ap (λ x. x ++ decoder_rest c.args.self.now (c.args.bit ∷ more)) c.new-items.ensures

pub returns-clause-law : goal.returns-clause-law
returns-clause-law c = fed_law c

pub returns-clause-read : goal.returns-clause-read
returns-clause-read c = λ bits items h.
    decoder_items_more c.args.self.now c.drain-2.new.self bits (c.args.bit ∷ []) items c.drain-2.new.items.items
    (fed_law c) h

pub returns-clause-decided : goal.returns-clause-decided
returns-clause-decided c = λ bits items h.
    decoder_items_decided c.drain-2.new.self (bits ++ c.args.bit ∷ []) (items ++ c.drain-2.new.items.items)
    (decoder_items_more c.args.self.now c.drain-2.new.self bits (c.args.bit ∷ []) items c.drain-2.new.items.items
    (fed_law c) h) c.drain-2.ensures.undecided

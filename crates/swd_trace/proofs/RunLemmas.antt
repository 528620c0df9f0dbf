-- Laws of a decoder over a whole run.
use Rattle.std.proofs.Common.{◌≡◌, List, Bool, [], ◌++◌, append_assoc, sym, ap, ◌∙◌}
use Rattle.swd_trace.specs.declared.item.Item.{Item}
use Rattle.swd_trace.specs.declared.decoder.Decoder.{Decoder}
use Rattle.swd_trace.specs.Reading.{reading_of}
use Rattle.swd_trace.specs.Decided.{DecidesNoItem, IsDecided}
use Rattle.swd_trace.specs.Held.{decoder_rest, DecoderHasRead}
use Rattle.swd_trace.specs.Texts.{bits_of_items}
use Rattle.swd_trace.specs.declared.mode.Mode.TheVariants.{Synced}
use Rattle.swd_trace.proofs.DecidedLemmas.{decided_items_are_longest}
use Rattle.swd_trace.proofs.RereadLemmas.{item_reread_same_reading}
use Rattle.std.proofs.lemmas.List.{append-nil}

-- the items given so far are those that the bits so far decide
pub decoder_items_decided : (d : Decoder) (bits : List Bool) (items : List Item) → DecoderHasRead d bits items
    → DecidesNoItem (decoder_rest d) → IsDecided bits items
decoder_items_decided d bits items h u = decided_items_are_longest items (λ more. reading_of (bits ++ more))
    (decoder_rest d) h u

-- some bits more, which give some items more
pub decoder_items_more : (old new : Decoder) (bits next : List Bool) (items given : List Item)
    → ((more : List Bool) → given ++ decoder_rest new more ≡ decoder_rest old (next ++ more)) →
    DecoderHasRead old bits items → DecoderHasRead new (bits ++ next) (items ++ given)
decoder_items_more old new bits next items given law h = λ more.
    append_assoc items given (decoder_rest new more) ∙ ap (λ x. items ++ x) (law more) ∙ h (next ++ more)
    ∙ ap reading_of (sym (append_assoc bits next more))

-- where bits are taken and no item is returned, the items so far and what is now held are the reading with them
pub decoder_bits_no_item : (old new : List Bool → List Item) (bits next : List Bool) (items : List Item)
    → ((more : List Bool) → new more ≡ old (next ++ more)) →
    ((more : List Bool) → items ++ old more ≡ reading_of (bits ++ more)) → (more : List Bool)
    → items ++ new more ≡ reading_of ((bits ++ next) ++ more)
decoder_bits_no_item old new bits next items law h more =
    ap (λ x. items ++ x) (law more) ∙ h (next ++ more) ∙ ap reading_of (sym (append_assoc bits next more))

-- all items of a run are the reading of all bits
pub decoder_items_whole_reading : (d last : Decoder) (bits : List Bool) (items given : List Item)
    → given ++ decoder_rest last [] ≡ decoder_rest d [] → decoder_rest last [] ≡ [] → DecoderHasRead d bits items →
    items ++ given ≡ reading_of bits
decoder_items_whole_reading d last bits items given law none h =
    ap (λ x. items ++ x) (sym (append-nil given) ∙ ap (λ x. given ++ x) (sym none) ∙ law) ∙ h []
    ∙ ap reading_of (append-nil bits)

-- items that are the reading of some bits are the reading of their own bits
pub reading_items_are_normal : (bits : List Bool) (items : List Item) → items ≡ reading_of bits
    → reading_of (bits_of_items items) ≡ items
reading_items_are_normal bits items e = ap (λ x. reading_of (bits_of_items x)) e ∙ item_reread_same_reading Synced bits
    ∙ sym e

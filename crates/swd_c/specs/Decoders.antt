-- What the calls of a decoder leave in the caller's memory.
use Rattle.std.specs.Prelude.{◌≡◌, ◌∷◌, List, Bool, []}
use Rattle.swd_trace.specs.declared.decoder.fields.DecoderFields.{DecoderFields}
use Rattle.swd_trace.specs.declared.item.Item.{Item}
use Rattle.swd_trace.specs.DecoderNumbers.{IsDecoder, rest_in}
use Rattle.swd_c.specs.declared.item.SwdItem.{SwdItem}
use Rattle.swd_c.specs.Items.{c_api_item}

-- an item was returned that no later bits can change
pub record CApiDecoderGaveItem (old new : DecoderFields) (told : SwdItem) : Type 0 where
  pub item : Item
  pub tells : c_api_item item ≡ told
  pub law : (more : List Bool) → rest_in old more ≡ item ∷ rest_in new more
  pub is : IsDecoder new
  pub fed : new.fed ≡ old.fed

-- an item was returned, if the trace ends here
pub record CApiDecoderGaveLast (old new : DecoderFields) (told : SwdItem) : Type 0 where
  pub item : Item
  pub tells : c_api_item item ≡ told
  pub law : rest_in old [] ≡ item ∷ rest_in new []
  pub is : IsDecoder new
  pub fed : new.fed ≡ old.fed

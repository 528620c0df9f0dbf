-- A trace text that is listed as it is read.
use Rattle.std.specs.Prelude.{◌≡◌, ℕ, ◌+◌, ◌^◌, ◌<◌, Bool, List, ◌++◌, length, Option}
use Rattle.swd_bits.specs.Bits.{low_bits}
use Rattle.swd_io.specs.Blocks.{BlockBufferSends, OutputStopped}
use Rattle.swd_io.specs.declared.block.Block.{Block}
use Rattle.swd_trace.specs.declared.item.Item.{Item}
use Rattle.swd_trace.specs.declared.decoder.Decoder.{Decoder}
use Rattle.swd_trace.specs.Reading.{reading_of}
use Rattle.swd_trace.specs.Decided.{IsDecided, DecidesNoItem}
use Rattle.swd_trace.specs.Texts.{listing}
use Rattle.swd_trace.specs.Held.{decoder_rest, decoder_fed, IsDecoderSettled}
use Rattle.swd_text.specs.Outputs.{OutputStart}
use Rattle.swd_text.specs.declared.lister.Lister.{Lister}

-- With any later bits, the items so far and the reading of what the decoder holds are the reading of the
-- bits. The items' lines are queued or written.
pub record DecodeTextLists {W : Type 0} (contents : W → Option (List ℕ)) (start : Option (List ℕ)) (decoder : Decoder)
    (block : Block W) (bits : List Bool) (items : List Item) : Type 0 where
  pub law : (more : List Bool) → items ++ decoder_rest decoder more ≡ reading_of (bits ++ more)
  pub count : decoder_fed decoder ≡ length bits
  pub counted : length bits < 2 ^ 64
  pub sends : BlockBufferSends contents start block (listing items)

-- The lines of items that are due are queued, and no bit is taken: what the lister had listed it has listed still.
pub record ListerPuts {W : Type 0} (contents : W → Option (List ℕ)) (old new : Decoder)
    (before after : Block W) : Type 0 where
  pub lists : (start : Option (List ℕ)) (bits : List Bool) (items : List Item)
      → DecodeTextLists contents start old before bits items
      → (more : List Item) × DecodeTextLists contents start new after bits more
  pub fed : decoder_fed new ≡ decoder_fed old
  pub same : after.writer.ghost_name ≡ before.writer.ghost_name

-- The lowest `n` bits of a number are taken, and the lines of the items that are due are queued.
pub record ListerTakes {W : Type 0} (contents : W → Option (List ℕ)) (n number : ℕ) (old new : Decoder)
    (before after : Block W) : Type 0 where
  pub lists : (start : Option (List ℕ)) (bits : List Bool) (items : List Item)
      → DecodeTextLists contents start old before bits items
      → (more : List Item) × DecodeTextLists contents start new after (bits ++ low_bits n number) more
  pub settled : IsDecoderSettled new
  pub fed : decoder_fed new ≡ decoder_fed old + n
  pub same : after.writer.ghost_name ≡ before.writer.ghost_name

-- a lister was given these bits; the lines of the items that they decide are queued or written
pub record ListerHasTaken {W : Type 0} (contents : W → Option (List ℕ)) (start : OutputStart) (state : Lister × Block W)
    (bits : List Bool) : Type 0 where
  pub items : List Item
  pub lists : DecodeTextLists contents start.from state.0.decoder state.1 bits items
  pub undecided : DecidesNoItem (decoder_rest state.0.decoder)
  pub same : state.1.writer.ghost_name ≡ start.name

-- a lister was given these bits; exactly the first bytes of the lines of the items that they decide were written
pub record ListerStops {W : Type 0} (contents : W → Option (List ℕ)) (start : OutputStart) (state : Lister × Block W)
    (told : ℕ) (bits : List Bool) : Type 0 where
  pub items : List Item
  pub decided : IsDecided bits items
  pub cut : OutputStopped told start.from (contents state.1.writer.now) (listing items)
  pub same : state.1.writer.ghost_name ≡ start.name

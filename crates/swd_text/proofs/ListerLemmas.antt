-- Laws of a trace text that is listed as it is read.
use Rattle.std.proofs.Common.{◌≡◌, ℕ, zero, suc, ◌+◌, ◌-◌, ◌*◌, ◌/◌, ◌%◌, ◌<◌, ◌≤◌, ◌^◌, Bool, true, false, List, []}
use Rattle.std.proofs.Common.{◌∷◌, ◌++◌, length, map, take, Option, refl, sym, ap, ◌∙◌, subst}
use Rattle.std.proofs.Common.{append_assoc, arith, inl}
use Rattle.std.proofs.Math.Seq.{take-append_seam}
use Rattle.std.proofs.lemmas.List.{length-append, append-nil, map-append}
use Rattle.swd_io.specs.Blocks.{BlockBufferSends, BlockQueues}
use Rattle.swd_io.specs.declared.block.Block.{Block}
use Rattle.swd_bits.specs.Bits.{low_bits}
use Rattle.swd_bits.proofs.BitsLemmas.{length-low_bits}
use Rattle.swd_bits.specs.Listing.{tx_line}
use Rattle.swd_bits.specs.declared.tx.Tx.{Tx as Transaction}
use Rattle.swd_trace.specs.declared.item.Item.{Item}
use Rattle.swd_trace.specs.declared.item.Item.TheVariants.{Tx, Idle, Junk}
use Rattle.swd_trace.specs.declared.decoder.Decoder.{Decoder}
use Rattle.swd_trace.specs.Reading.{items_after, reading_of}
use Rattle.swd_trace.specs.Decided.{IsDecided, DecidesNoItem}
use Rattle.swd_trace.proofs.DecidedLemmas.{decided_items_are_longest}
use Rattle.swd_trace.specs.Texts.{item_line, listing}
use Rattle.swd_trace.specs.Held.{decoder_rest, decoder_fed, idle_items}
use Rattle.swd_trace.proofs.NumberLemmas.{decoder_bits_mod, decoder_bits_parted}
use Rattle.swd_text.specs.Listers.{DecodeTextLists, ListerHasTaken, ListerPuts}
use Rattle.swd_text.specs.Outputs.{OutputStart}
use Rattle.swd_text.specs.declared.lister.Lister.{Lister}

-- nothing at all decides nothing
none_undecided : (readings : List Bool → List Item) → readings [] ≡ reading_of [] → DecidesNoItem readings
unfolding items_after
none_undecided readings e = λ item h.
    let p = h [] (inl refl) in
    let bad : [] ≡ item ∷ p.0 = sym e ∙ p.1 in
    absurd cc

-- a lister that has taken nothing
pub lister_takes_nothing : {W : Type 0} (contents : W → Option (List ℕ)) (start : Option (List ℕ)) (lister : Lister)
    (block : Block W) → ((more : List Bool) → decoder_rest lister.decoder more ≡ reading_of more)
    → decoder_fed lister.decoder ≡ 0 → BlockBufferSends contents start block []
    → ListerHasTaken contents (record { from = start; name = block.writer.ghost_name }) (lister, block) []
lister_takes_nothing contents start lister block law fed sends = record {
  items = [];
  lists = record { law = law; count = fed; counted = omega arith; sends = sends };
  undecided = none_undecided _ (law []);
  same = refl;
}

-- what a lister was given decides the items
pub lister_decides : {W : Type 0} (contents : W → Option (List ℕ)) (start : OutputStart) (state : Lister × Block W)
    (bits : List Bool) → (h : ListerHasTaken contents start state bits) → IsDecided bits h.items
lister_decides contents start state bits h =
    decided_items_are_longest h.items (λ more. reading_of (bits ++ more)) (decoder_rest state.0.decoder) h.lists.law
    h.undecided

-- the lines of some items and one more
pub decode_text_listing_more : (items : List Item) (item : Item)
    → listing (items ++ item ∷ []) ≡ listing items ++ (item_line item ++ 10 ∷ [])
decode_text_listing_more [] item = append-nil (item_line item ++ 10 ∷ [])
decode_text_listing_more (i ∷ items) item =
    ap (λ x. (item_line i ++ 10 ∷ []) ++ x) (decode_text_listing_more items item)
    ∙ sym (append_assoc (item_line i ++ 10 ∷ []) (listing items) (item_line item ++ 10 ∷ []))

-- more bits are taken
pub decode_text_takes_bits : {W : Type 0} (contents : W → Option (List ℕ)) (start : Option (List ℕ))
    (before after : Decoder) (block : Block W) (bits : List Bool) (items : List Item) (next : List Bool) →
    ((more : List Bool) → decoder_rest after more ≡ decoder_rest before (next ++ more))
    → decoder_fed after ≡ decoder_fed before + length next
    → decoder_fed before + length next < 2 ^ 64 → DecodeTextLists contents start before block bits items
    → DecodeTextLists contents start after block (bits ++ next) items
decode_text_takes_bits contents start before after block bits items next law fed few h =
    let count = h.count in
    let len : length (bits ++ next) ≡ length bits + length next = length-append bits next in
    record {
      law = λ more. ap (λ x. items ++ x) (law more) ∙ h.law (next ++ more)
          ∙ ap reading_of (sym (append_assoc bits next more));
      count = omega arith;
      counted = omega arith;
      sends = h.sends;
    }

-- the lines of some items, and of others after them
pub decode_text_listing_append : (a b : List Item) → listing (a ++ b) ≡ listing a ++ listing b
decode_text_listing_append [] b = refl
decode_text_listing_append (i ∷ a) b = ap (λ x. (item_line i ++ 10 ∷ []) ++ x) (decode_text_listing_append a b)
    ∙ sym (append_assoc (item_line i ++ 10 ∷ []) (listing a) (listing b))

-- the line of idle cycles
pub decode_text_idle_line : (all : List ℕ) (n : ℕ) → 0 < n
    → all ++ (item_line (Idle n) ++ 10 ∷ []) ≡ all ++ listing (idle_items n)
decode_text_idle_line all zero h = absurd (omega arith)
decode_text_idle_line all (suc n) h = ap (λ x. all ++ x) (sym (append-nil (item_line (Idle (suc n)) ++ 10 ∷ [])))

-- 0 idle cycles add no line
pub decode_text_no_idle_line : (all : List ℕ) (n : ℕ) → n ≡ 0 → all ≡ all ++ listing (idle_items n)
decode_text_no_idle_line all n e = sym (ap (λ k. all ++ listing (idle_items k)) e ∙ append-nil all)

-- a transaction is found after any idle cycles, and their lines are queued
pub decode_text_lists_found_tx : {W : Type 0} (contents : W → Option (List ℕ)) (start : Option (List ℕ))
    (before after : Decoder) (old new : Block W) (bits : List Bool) (items : List Item) (next : List Bool) (n idle : ℕ)
    (tx : Transaction) → ((more : List Bool) → (items ++ (idle_items idle ++ Tx tx ∷ []))
    ++ decoder_rest after more ≡ reading_of ((bits ++ next) ++ more))
    → decoder_fed after ≡ decoder_fed before + n → length next ≡ n → decoder_fed before + n < 2 ^ 64 →
    ((all : List ℕ) → BlockBufferSends contents start old all
    → BlockBufferSends contents start new ((all ++ listing (idle_items idle)) ++ (tx_line tx ++ 10 ∷ []))) →
    DecodeTextLists contents start before old bits items →
    DecodeTextLists contents start after new (bits ++ next) (items ++ (idle_items idle ++ Tx tx ∷ []))
decode_text_lists_found_tx contents start before after old new bits items next n idle tx law fed long few sends h =
    let count = h.count in
    let len : length (bits ++ next) ≡ length bits + length next = length-append bits next in
    let lines : listing (items ++ (idle_items idle ++ Tx tx ∷ []))
    ≡ (listing items ++ listing (idle_items idle)) ++ (tx_line tx ++ 10 ∷ []) =
    decode_text_listing_append items (idle_items idle ++ Tx tx ∷ [])
    ∙ ap (λ x. listing items ++ x) (decode_text_listing_more (idle_items idle) (Tx tx))
    ∙ sym (append_assoc (listing items) (listing (idle_items idle)) (tx_line tx ++ 10 ∷ [])) in
    record {
      law = law;
      count = omega arith;
      counted = omega arith;
      sends = subst (λ all. BlockBufferSends contents start new all) (sym lines) (sends (listing items) h.sends);
    }

-- ---- bits that belong to nothing

pub decode_text_junk_length : (bits : List Bool) → length (listing (map Junk bits)) ≡ 7 * length bits
decode_text_junk_length [] = refl
decode_text_junk_length (true ∷ bits) = let more = decode_text_junk_length bits in omega arith
decode_text_junk_length (false ∷ bits) = let more = decode_text_junk_length bits in omega arith

-- the lines of some of four bits stand first
pub decode_text_junk_taken : (k v : ℕ) → k ≤ 4
    → take (7 * k) (listing (map Junk (low_bits 4 (v % 16)))) ≡ listing (map Junk (low_bits k v))
decode_text_junk_taken k v h =
    let first = listing (map Junk (low_bits k v)) in
    let others = listing (map Junk (low_bits (4 - k) (v / 2 ^ k))) in
    let long : length first ≡ 7 * k = decode_text_junk_length (low_bits k v) ∙ ap (λ n. 7 * n) (length-low_bits k v) in
    ap (λ bits. take (7 * k) (listing (map Junk bits))) (decoder_bits_mod 4 v ∙ decoder_bits_parted k 4 v h)
    ∙ ap (λ items. take (7 * k) (listing items)) (map-append Junk (low_bits k v) (low_bits (4 - k) (v / 2 ^ k)))
    ∙ ap (take (7 * k)) (decode_text_listing_append (map Junk (low_bits k v)) (map Junk (low_bits (4 - k) (v / 2 ^ k))))
    ∙ ap (λ n. take n (first ++ others)) (sym long)
    ∙ take-append_seam first others

-- the lines of the first bits, and those of the others
pub decode_text_junk_split : (k n v : ℕ) → k ≤ n → listing (map Junk (low_bits n v))
    ≡ listing (map Junk (low_bits k v)) ++ listing (map Junk (low_bits (n - k) (v / 2 ^ k)))
decode_text_junk_split k n v h =
    ap (λ bits. listing (map Junk bits)) (decoder_bits_parted k n v h)
    ∙ ap listing (map-append Junk (low_bits k v) (low_bits (n - k) (v / 2 ^ k)))
    ∙ decode_text_listing_append (map Junk (low_bits k v)) (map Junk (low_bits (n - k) (v / 2 ^ k)))

-- nothing is due
pub lister_puts_nothing : {W : Type 0} (contents : W → Option (List ℕ)) (decoder : Decoder) (block : Block W)
    → ListerPuts contents decoder decoder block block
lister_puts_nothing contents decoder block = record {
  lists = λ start bits items h. (items, h);
  fed = refl;
  same = refl;
}

-- what is due then, too
pub lister_puts_join : {W : Type 0} (contents : W → Option (List ℕ)) (d e f : Decoder) (a b c : Block W)
    → ListerPuts contents d e a b → ListerPuts contents e f b c → ListerPuts contents d f a c
lister_puts_join contents d e f a b c first then = record {
  lists = λ start bits items h. let m = first.lists start bits items h in then.lists start bits m.0 m.1;
  fed = then.fed ∙ first.fed;
  same = then.same ∙ first.same;
}

-- items are returned, and their lines are queued
pub lister_puts_items : {W : Type 0} (contents : W → Option (List ℕ)) (old new : Decoder) (before after : Block W)
    (next : List Item) → ((more : List Bool) → decoder_rest old more ≡ next ++ decoder_rest new more)
    → decoder_fed new ≡ decoder_fed old → BlockQueues contents (listing next) before after
    → after.writer.ghost_name ≡ before.writer.ghost_name → ListerPuts contents old new before after
lister_puts_items contents old new before after next law fed sends same = record {
  lists = λ start bits items h. (
    items ++ next,
    record {
      law = λ more. append_assoc items next (decoder_rest new more) ∙ ap (λ x. items ++ x) (sym (law more))
          ∙ h.law more;
      count = fed ∙ h.count;
      counted = h.counted;
      sends = subst (λ all. BlockBufferSends contents start after all) (sym (decode_text_listing_append items next))
          (sends start (listing items) h.sends);
    },
  );
  fed = fed;
  same = same;
}

-- one more item is returned, and its line is queued
pub lister_puts_item : {W : Type 0} (contents : W → Option (List ℕ)) (old now new : Decoder)
    (first before after : Block W)
    (item : Item) → ListerPuts contents old now first before
    → ((more : List Bool) → decoder_rest now more ≡ item ∷ decoder_rest new more) → decoder_fed new ≡ decoder_fed now
    → BlockQueues contents (item_line item ++ 10 ∷ []) before after
    → after.writer.ghost_name ≡ before.writer.ghost_name → ListerPuts contents old new first after
lister_puts_item contents old now new first before after item h law fed sends same =
    lister_puts_join contents old now new first before after h
    (lister_puts_items contents now new before after (item ∷ []) law fed
    (subst (λ x. BlockQueues contents x before after) (sym (append-nil (item_line item ++ 10 ∷ []))) sends) same)

-- A trace file's bits, byte by byte, up to its first bad byte: for each consumer of a trace file.
use Rattle.std.proofs.Common.{◌≡◌, ℕ, suc, ◌+◌, ◌<◌, drop, get_or, drop-cons, take-append-drop, Bool, false, List, []}
use Rattle.std.proofs.Common.{◌∷◌, ◌++◌, length, take, Option, None, Some, refl, sym, ap, ◌∙◌, append_assoc, is_some}
use Rattle.std.specs.Option.{option_map}
use Rattle.std.proofs.lemmas.List.{take_at, length-append, append-nil}
use Rattle.swd_bits.specs.TraceText.{scan_bits_from, scan_bits_of_text, scan_bits_sign_of, scan_bits_comment_after}
use Rattle.swd_bits.specs.TraceText.{scan_bits_add_sign}
use Rattle.swd_bits.specs.declared.scan.Sign.TheVariants.{Bit, Passed, Bad}
use Rattle.swd_bits.specs.One.{Reads, IsFirstBadScanByte}

map_id : (o : Option (List Bool)) → o ≡ option_map (λ rest. [] ++ rest) o
map_id None = refl
map_id (Some x) = refl

-- before its first byte a trace file has no bits so far and no comment is open
pub scan_bits_no_byte : (comment : Bool) → comment ≡ false → Reads [] [] comment
unfolding Reads
scan_bits_no_byte comment e = λ more. ap (λ c. scan_bits_from c more) (sym e) ∙ map_id (scan_bits_from comment more)

-- a byte that is neither a bit nor bad adds no bit to those of the input so far
pub scan_bits_passed_byte : (seen : List ℕ) (bits : List Bool) (c d : Bool) (b : ℕ) → Passed ≡ scan_bits_sign_of c b
    → d ≡ scan_bits_comment_after c b → Reads seen bits c → Reads (seen ++ b ∷ []) bits d
unfolding Reads
scan_bits_passed_byte seen bits c d b e f h = λ more.
    ap (scan_bits_from false) (append_assoc seen (b ∷ []) more) ∙ h (b ∷ more)
    ∙ ap (λ s. option_map (λ rest. bits ++ rest)
    (scan_bits_add_sign s (scan_bits_from (scan_bits_comment_after c b) more))) (sym e)
    ∙ ap (λ x. option_map (λ rest. bits ++ rest) (scan_bits_from x more)) (sym f)

map_more : (bits : List Bool) (bit : Bool) (o : Option (List Bool)) →
    option_map (λ rest. bits ++ rest) (option_map (λ rest. bit ∷ rest) o) ≡ option_map
    (λ rest. (bits ++ bit ∷ []) ++ rest) o
map_more bits bit None = refl
map_more bits bit (Some x) = ap Some (sym (append_assoc bits (bit ∷ []) x))

-- a digit adds its bit after those of the input so far
pub scan_bits_one_more : (seen : List ℕ) (bits : List Bool) (c d bit : Bool) (b : ℕ) → Bit bit ≡ scan_bits_sign_of c b
    → d ≡ scan_bits_comment_after c b → Reads seen bits c → Reads (seen ++ b ∷ []) (bits ++ bit ∷ []) d
unfolding Reads
scan_bits_one_more seen bits c d bit b e f h = λ more.
    ap (scan_bits_from false) (append_assoc seen (b ∷ []) more) ∙ h (b ∷ more)
    ∙ ap (λ s. option_map (λ rest. bits ++ rest)
    (scan_bits_add_sign s (scan_bits_from (scan_bits_comment_after c b) more))) (sym e)
    ∙ ap (λ x. option_map (λ rest. bits ++ rest) (option_map (λ rest. bit ∷ rest) (scan_bits_from x more))) (sym f)
    ∙ map_more bits bit (scan_bits_from d more)

-- what was read so far is good
pub scan_bits_read_all : (seen : List ℕ) (bits : List Bool) (c : Bool) → Reads seen bits c
    → scan_bits_of_text seen ≡ Some bits
unfolding Reads
scan_bits_read_all seen bits c h = ap scan_bits_of_text (sym (append-nil seen)) ∙ h [] ∙ ap Some (append-nil bits)

-- a bad byte after an input without one is the first bad byte, at the place that is that input's length
pub scan_bits_first_bad_byte : (seen more : List ℕ) (bits : List Bool) (c : Bool) (b : ℕ) → Bad ≡ scan_bits_sign_of c b
    → Reads seen bits c → IsFirstBadScanByte (seen ++ b ∷ more) (length seen)
unfolding Reads
scan_bits_first_bad_byte seen more bits c b e h =
    let front : take (length seen) (seen ++ b ∷ more) ≡ seen = take_at seen (b ∷ more) (length seen) refl in
    let n : length (seen ++ b ∷ []) ≡ length seen + 1 = length-append seen (b ∷ []) in
    let next : take (length seen + 1) (seen ++ b ∷ more) ≡ seen ++ b ∷ [] =
    ap (take (length seen + 1)) (sym (append_assoc seen (b ∷ []) more))
    ∙ take_at (seen ++ b ∷ []) more (length seen + 1) n in
    let whole : scan_bits_of_text seen ≡ Some bits = scan_bits_read_all seen bits c h in
    record {
      good = ap (λ x. is_some (scan_bits_of_text x)) front ∙ ap is_some whole;
      bad = ap scan_bits_of_text next ∙ h (b ∷ [])
          ∙ ap (λ s. option_map (λ rest. bits ++ rest)
          (scan_bits_add_sign s (scan_bits_from (scan_bits_comment_after c b) []))) (sym e);
    }

-- a text that is cut at a byte of its second piece
pub scan_bits_parted : (seen piece more : List ℕ) (i : ℕ) → i < length piece
    → (seen ++ take i piece) ++ (get_or piece i 0 ∷ (drop (suc i) piece ++ more)) ≡ (seen ++ piece) ++ more
scan_bits_parted seen piece more i h =
    append_assoc seen (take i piece) _
    ∙ ap (λ x. seen ++ x) (ap (λ x. take i piece ++ (x ++ more)) (sym (drop-cons piece i 0 h))
    ∙ sym (append_assoc (take i piece) (drop i piece) more) ∙ ap (λ x. x ++ more) (take-append-drop i piece))
    ∙ sym (append_assoc seen piece more)

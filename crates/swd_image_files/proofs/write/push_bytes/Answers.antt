use Rattle.std.proofs.Common.{◌≡◌, ℕ, List, ◌+◌, ◌/◌, ◌%◌, ◌∷◌, [], ◌++◌, take, get_or, sym, ap, ap₂, ◌∙◌, arith}
use Rattle.std.proofs.lemmas.List.{take_more}
use Rattle.swd_image_files.specs.Texts.{image_file_hex_digits, image_file_hex_digit}
use Rattle.swd_image_files.proofs.TextLemmas.{digits_of-append, image_file_two_more_digits}
use Rattle.swd_image_files.proofs.write.push_bytes.Goals as goal

pub loop-byte-preserved : goal.loop-byte-preserved
loop-byte-preserved c =
    let bytes = c.args.bytes.now in
    let i = c.loop-byte.byte-index in
    let byte = get_or bytes i 0 in
    let before = c.loop-byte.invariant.0 in
    let start : List ℕ = c.args.line.now.items in
    let taken = take_more bytes i 0 (omega arith) in
    let digits : image_file_hex_digits (take (i + 1) bytes)
    ≡ image_file_hex_digits (take i bytes)
    ++ (image_file_hex_digit (byte / 16) ∷ image_file_hex_digit (byte % 16) ∷ []) =
    ap image_file_hex_digits taken ∙ digits_of-append (take i bytes) (byte ∷ []) in (
      image_file_two_more_digits start (image_file_hex_digits (take i bytes)) c.loop-byte.line.items
          c.push.new.self.items
          c.push-in-loop-byte.new.self.items c.hex_digit.result c.hex_digit-in-loop-byte.result before
          c.push.ensures.items
          c.push-in-loop-byte.ensures.items
          ∙ ap (λ l. start ++ l)
          (ap₂ (λ a b. image_file_hex_digits (take i bytes) ++ a ∷ b ∷ []) c.hex_digit.ensures
          c.hex_digit-in-loop-byte.ensures ∙ sym digits),
      omega arith,
    )

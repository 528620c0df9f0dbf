-- The records that are written are read back.
use Rattle.std.proofs.Common.{◌≡◌, ℕ, ◌+◌, ◌-◌, ◌*◌, ◌/◌, ◌%◌, ◌<◌, ◌≤◌, List, [], ◌∷◌, ◌++◌, length, All, ap, refl}
use Rattle.std.proofs.Common.{sym, ◌∙◌, false, arith, cond, Ok, Err, get_or, eqb, take, subst, ◌^◌}
use Rattle.std.specs.Prelude.{Result, map, sum}
use Rattle.std.proofs.lemmas.Bool.{eq-eqb, ne_eqb}
use Rattle.std.proofs.lemmas.List.{length-append}
use Rattle.std.proofs.lemmas.List.Elements.{All-get_or, All-cons, All-append, All-nil}
use Rattle.std.proofs.lemmas.List.Splits.{slice_split_at}
use Rattle.std.proofs.lemmas.List.Sums.{sum_by-append}
use Rattle.swd_image_files.specs.declared.fault.LineFlaw.{LineFlaw}
use Rattle.swd_image_files.specs.declared.fault.LineFlaw.TheVariants.{BadChecksum, BadDigit, BadLength}
use Rattle.swd_image_files.specs.Digits.{image_file_digit_bytes}
use Rattle.swd_image_files.specs.Lines.{is_image_file_feed, image_file_lines, image_file_without_return}
use Rattle.swd_image_files.specs.Records.{hex_bytes, hex_record_checked, srec_bytes, srec_checked}
use Rattle.swd_image_files.specs.Texts.{image_file_hex_digits, hex_record_head, hex_record_line, srec_head, srec_line}
use Rattle.swd_image_files.proofs.DigitLemmas.{IsImageFileByte, IsAboveImageLineEnd, image_file_bytes_read_back}
use Rattle.swd_image_files.proofs.DigitLemmas.{image_file_digits_valid, image_file_digits_high, length-digits_of}
use Rattle.swd_image_files.proofs.TextLemmas.{digits_of-append}

no_return : (line : List ℕ) → All IsAboveImageLineEnd line → 0 < length line → image_file_without_return line ≡ line
no_return line high some =
    let last = All-get_or IsAboveImageLineEnd line (length line - 1) 0 (omega arith) high in
    ap (λ b. cond b (take (length line - 1) line) line)
    (ne_eqb (get_or line (length line - 1) 0) 13 (λ e. omega (arith, last, e)))

-- the first line of a file
pub image_file_first_line : (line rest : List ℕ) → All IsAboveImageLineEnd line → 0 < length line
    → image_file_lines (line ++ 10 ∷ rest) ≡ line ∷ image_file_lines rest
image_file_first_line line rest high some =
    let plain : All (λ byte. is_image_file_feed byte ≡ false) line =
    λ k d within. (let h = high k d within in ne_eqb (get_or line k d) 10 (λ e. omega (arith, h, e))) in
    ap (map image_file_without_return) (slice_split_at is_image_file_feed line 10 rest plain refl)
    ∙ ap (λ l. l ∷ image_file_lines rest) (no_return line high some)

-- the bytes of an Intel HEX record, and its line
abbrev pub hex_record_all : ℕ → ℕ → List ℕ → List ℕ
hex_record_all offset kind bytes =
    length bytes ∷ offset / 256 ∷ offset % 256 ∷ kind
    ∷ (bytes ++ (256 - (sum (hex_record_head offset kind bytes) + sum bytes) % 256) % 256 ∷ [])

hex_line_is : (offset kind : ℕ) (bytes : List ℕ)
    → hex_record_line offset kind bytes ≡ 58 ∷ image_file_hex_digits (hex_record_all offset kind bytes)
hex_line_is offset kind bytes =
    ap (λ l. 58 ∷ (image_file_hex_digits (hex_record_head offset kind bytes) ++ l))
    (sym (digits_of-append bytes ((256 - (sum (hex_record_head offset kind bytes) + sum bytes) % 256) % 256 ∷ [])))

hex_all_bytes : (offset kind : ℕ) (bytes : List ℕ) → offset < 65536 → kind < 256 → length bytes ≤ 16
    → All IsImageFileByte bytes → All IsImageFileByte (hex_record_all offset kind bytes)
hex_all_bytes offset kind bytes within small short all =
    All-append IsImageFileByte (hex_record_head offset kind bytes)
    (bytes ++ (256 - (sum (hex_record_head offset kind bytes) + sum bytes) % 256) % 256 ∷ [])
    (All-cons IsImageFileByte (length bytes) (offset / 256 ∷ offset % 256 ∷ kind ∷ []) (omega arith)
    (All-cons IsImageFileByte (offset / 256) (offset % 256 ∷ kind ∷ []) (omega arith)
    (All-cons IsImageFileByte (offset % 256) (kind ∷ []) (omega arith)
    (All-cons IsImageFileByte kind [] small (All-nil IsImageFileByte)))))
    (All-append IsImageFileByte bytes ((256 - (sum (hex_record_head offset kind bytes) + sum bytes) % 256) % 256 ∷ [])
    all (All-cons IsImageFileByte ((256 - (sum (hex_record_head offset kind bytes) + sum bytes) % 256) % 256) []
    (omega arith) (All-nil IsImageFileByte)))

complete : (total : ℕ) → (total + (256 - total % 256) % 256) % 256 ≡ 0
complete total = omega arith

hex_sum : (offset kind : ℕ) (bytes : List ℕ) → sum (hex_record_all offset kind bytes) % 256 ≡ 0
hex_sum offset kind bytes =
    let head = hex_record_head offset kind bytes in
    let total = sum head + sum bytes in
    let check = (256 - total % 256) % 256 in
    let outer = sum_by-append (λ x. x) head (bytes ++ check ∷ []) in
    let inner = sum_by-append (λ x. x) bytes (check ∷ []) in
    let e : sum (hex_record_all offset kind bytes) ≡ total + check = omega (arith, outer, inner) in
    ap (λ s. s % 256) e ∙ complete total

-- an Intel HEX record that is written has its bytes
pub hex_record_read_back : (offset kind : ℕ) (bytes : List ℕ) → offset < 65536 → kind < 256 → length bytes ≤ 16
    → All IsImageFileByte bytes → hex_bytes (hex_record_line offset kind bytes) ≡ Ok (hex_record_all offset kind bytes)
hex_record_read_back offset kind bytes within small short all =
    let bytes_all : List ℕ = hex_record_all offset kind bytes in
    let bad : Result (List ℕ) LineFlaw = Err BadDigit in
    let wrong : Result (List ℕ) LineFlaw = Err BadLength in
    let unsummed : Result (List ℕ) LineFlaw = Err BadChecksum in
    let good : Result (List ℕ) LineFlaw = Ok bytes_all in
    let are = hex_all_bytes offset kind bytes within small short all in
    let size = length-digits_of bytes_all in
    let tail = length-append bytes ((256 - (sum (hex_record_head offset kind bytes) + sum bytes) % 256) % 256 ∷ []) in
    ap hex_bytes (hex_line_is offset kind bytes)
    ∙ ap (λ b. cond b (hex_record_checked (image_file_hex_digits bytes_all)
    (image_file_digit_bytes (image_file_hex_digits bytes_all))) bad) (image_file_digits_valid bytes_all are)
    ∙ ap (hex_record_checked (image_file_hex_digits bytes_all)) (image_file_bytes_read_back bytes_all are)
    ∙ ap (λ b. cond b (cond (eqb (sum bytes_all % 256) 0) good unsummed) wrong)
    (eq-eqb (length (image_file_hex_digits bytes_all)) (2 * (length bytes + 5)) (omega (arith, size, tail)))
    ∙ ap (λ b. cond b good unsummed) (eq-eqb (sum bytes_all % 256) 0 (hex_sum offset kind bytes))

-- the line of an Intel HEX record can't end early, and isn't empty
pub hex_record_line_high : (offset kind : ℕ) (bytes : List ℕ) → offset < 65536 → kind < 256 → length bytes ≤ 16
    → All IsImageFileByte bytes → All IsAboveImageLineEnd (hex_record_line offset kind bytes)
hex_record_line_high offset kind bytes within small short all =
    subst (All IsAboveImageLineEnd) (sym (hex_line_is offset kind bytes))
    (All-cons IsAboveImageLineEnd 58 (image_file_hex_digits (hex_record_all offset kind bytes)) (omega arith)
    (image_file_digits_high (hex_record_all offset kind bytes)
    (hex_all_bytes offset kind bytes within small short all)))

-- the bytes of an S3 record, and its line
abbrev pub srec_all : ℕ → List ℕ → List ℕ
srec_all addr bytes =
    (length bytes + 5) ∷ addr / 16777216 ∷ addr / 65536 % 256 ∷ addr / 256 % 256 ∷ addr % 256
    ∷ (bytes ++ (255 - (sum (srec_head addr bytes) + sum bytes) % 256) ∷ [])

srec_line_is : (addr : ℕ) (bytes : List ℕ)
    → srec_line addr bytes ≡ 83 ∷ 51 ∷ image_file_hex_digits (srec_all addr bytes)
srec_line_is addr bytes =
    ap (λ l. 83 ∷ 51 ∷ (image_file_hex_digits (srec_head addr bytes) ++ l))
    (sym (digits_of-append bytes ((255 - (sum (srec_head addr bytes) + sum bytes) % 256) ∷ [])))

srec_all_bytes : (addr : ℕ) (bytes : List ℕ) → addr < 2 ^ 32 → length bytes ≤ 16 → All IsImageFileByte bytes
    → All IsImageFileByte (srec_all addr bytes)
srec_all_bytes addr bytes within short all =
    All-append IsImageFileByte (srec_head addr bytes)
    (bytes ++ (255 - (sum (srec_head addr bytes) + sum bytes) % 256) ∷ []) (All-cons IsImageFileByte (length bytes + 5)
    (addr / 16777216 ∷ addr / 65536 % 256 ∷ addr / 256 % 256 ∷ addr % 256 ∷ []) (omega arith)
    (All-cons IsImageFileByte (addr / 16777216) (addr / 65536 % 256 ∷ addr / 256 % 256 ∷ addr % 256 ∷ []) (omega arith)
    (All-cons IsImageFileByte (addr / 65536 % 256) (addr / 256 % 256 ∷ addr % 256 ∷ []) (omega arith)
    (All-cons IsImageFileByte (addr / 256 % 256) (addr % 256 ∷ []) (omega arith)
    (All-cons IsImageFileByte (addr % 256) [] (omega arith) (All-nil IsImageFileByte))))))
    (All-append IsImageFileByte bytes ((255 - (sum (srec_head addr bytes) + sum bytes) % 256) ∷ []) all
    (All-cons IsImageFileByte (255 - (sum (srec_head addr bytes) + sum bytes) % 256) [] (omega arith)
    (All-nil IsImageFileByte)))

filled : (total : ℕ) → (total + (255 - total % 256)) % 256 ≡ 255
filled total = omega arith

srec_sum : (addr : ℕ) (bytes : List ℕ) → sum (srec_all addr bytes) % 256 ≡ 255
srec_sum addr bytes =
    let head = srec_head addr bytes in
    let total = sum head + sum bytes in
    let check = 255 - total % 256 in
    let outer = sum_by-append (λ x. x) head (bytes ++ check ∷ []) in
    let inner = sum_by-append (λ x. x) bytes (check ∷ []) in
    let e : sum (srec_all addr bytes) ≡ total + check = omega (arith, outer, inner) in
    ap (λ s. s % 256) e ∙ filled total

-- an S3 record that is written has its bytes, behind its type
pub srec_read_back : (addr : ℕ) (bytes : List ℕ) → addr < 2 ^ 32 → length bytes ≤ 16 → All IsImageFileByte bytes
    → srec_bytes (srec_line addr bytes) ≡ Ok (3 ∷ srec_all addr bytes)
srec_read_back addr bytes within short all =
    let bytes_all : List ℕ = srec_all addr bytes in
    let bad : Result (List ℕ) LineFlaw = Err BadDigit in
    let wrong : Result (List ℕ) LineFlaw = Err BadLength in
    let unsummed : Result (List ℕ) LineFlaw = Err BadChecksum in
    let good : Result (List ℕ) LineFlaw = Ok (3 ∷ bytes_all) in
    let are = srec_all_bytes addr bytes within short all in
    let size = length-digits_of bytes_all in
    let tail = length-append bytes ((255 - (sum (srec_head addr bytes) + sum bytes) % 256) ∷ []) in
    ap srec_bytes (srec_line_is addr bytes)
    ∙ ap (λ b. cond b (srec_checked 3 (image_file_hex_digits bytes_all)
    (image_file_digit_bytes (image_file_hex_digits bytes_all))) bad) (image_file_digits_valid bytes_all are)
    ∙ ap (srec_checked 3 (image_file_hex_digits bytes_all)) (image_file_bytes_read_back bytes_all are)
    ∙ ap (λ b. cond b (cond (eqb (sum bytes_all % 256) 255) good unsummed) wrong)
    (eq-eqb (length (image_file_hex_digits bytes_all)) (2 * (length bytes + 5 + 1)) (omega (arith, size, tail)))
    ∙ ap (λ b. cond b good unsummed) (eq-eqb (sum bytes_all % 256) 255 (srec_sum addr bytes))

-- its line can't end early
pub srec_line_high : (addr : ℕ) (bytes : List ℕ) → addr < 2 ^ 32 → length bytes ≤ 16 → All IsImageFileByte bytes
    → All IsAboveImageLineEnd (srec_line addr bytes)
srec_line_high addr bytes within short all =
    subst (All IsAboveImageLineEnd) (sym (srec_line_is addr bytes))
    (All-cons IsAboveImageLineEnd 83 (51 ∷ image_file_hex_digits (srec_all addr bytes)) (omega arith)
    (All-cons IsAboveImageLineEnd 51 (image_file_hex_digits (srec_all addr bytes)) (omega arith)
    (image_file_digits_high (srec_all addr bytes) (srec_all_bytes addr bytes within short all))))

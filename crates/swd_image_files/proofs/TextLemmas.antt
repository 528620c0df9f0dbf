-- The digits of written bytes, and the lines of written records: for `write.rt`, and for reading files back.
use Rattle.std.proofs.Common.{◌≡◌, ℕ, zero, suc, ◌+◌, ◌-◌, ◌/◌, ◌%◌, ◌<◌, ◌≤◌, List, [], ◌∷◌, ◌++◌, ap, refl, ◌∙◌}
use Rattle.std.proofs.Common.{append_assoc, cond, arith, length, take, drop}
use Rattle.std.proofs.lemmas.Bool.{eq-eqb, ne_eqb}
use Rattle.swd_image_files.specs.declared.kind.RecordFormat.{RecordFormat}
use Rattle.swd_image_files.specs.Texts.{image_file_base_lines, image_file_data_count, image_file_data_line}
use Rattle.swd_image_files.specs.Texts.{image_file_data_lines, image_file_hex_digits, image_file_hex_digit}

-- the digits of bytes, and then of more
pub digits_of-append : (first rest : List ℕ)
    → image_file_hex_digits (first ++ rest) ≡ image_file_hex_digits first ++ image_file_hex_digits rest
digits_of-append [] rest = refl
digits_of-append (byte ∷ first) rest =
    ap (λ l. image_file_hex_digit (byte / 16) ∷ image_file_hex_digit (byte % 16) ∷ l) (digits_of-append first rest)

-- two digits more of a line
pub image_file_two_more_digits : (start done line one both : List ℕ) (a b : ℕ) → line ≡ start ++ done
    → one ≡ line ++ a ∷ [] → both ≡ one ++ b ∷ [] → both ≡ start ++ (done ++ a ∷ b ∷ [])
image_file_two_more_digits start done line one both a b p q r =
    r ∙ ap (λ l. l ++ b ∷ []) (q ∙ ap (λ l. l ++ a ∷ []) p)
    ∙ append_assoc (start ++ done) (a ∷ []) (b ∷ []) ∙ append_assoc start done (a ∷ b ∷ [])

-- the lines of some bytes: those of the first record, and the others
pub image_file_next_data_line : (records : RecordFormat) (most upper addr : ℕ) (bytes : List ℕ) → 0 < length bytes
    → image_file_data_lines records (suc most) upper addr bytes ≡ image_file_base_lines records upper (addr / 65536)
    ++ (image_file_data_line records addr (take (image_file_data_count records addr bytes) bytes) ++ 10 ∷ [])
    ++ image_file_data_lines records most (addr / 65536) (addr + image_file_data_count records addr bytes)
    (drop (image_file_data_count records addr bytes) bytes)
image_file_next_data_line records most upper addr bytes some =
    ap (λ b. cond b [] (image_file_base_lines records upper (addr / 65536)
    ++ (image_file_data_line records addr (take (image_file_data_count records addr bytes) bytes) ++ 10 ∷ [])
    ++ image_file_data_lines records most (addr / 65536) (addr + image_file_data_count records addr bytes)
    (drop (image_file_data_count records addr bytes) bytes))) (ne_eqb (length bytes) 0 (λ e. omega arith))

-- the same for a positive number of records
pub image_file_next_data_line_of : (records : RecordFormat) (most upper addr : ℕ) (bytes : List ℕ) → 0 < length bytes
    → length bytes ≤ most
    → image_file_data_lines records most upper addr bytes ≡ image_file_base_lines records upper (addr / 65536)
    ++ (image_file_data_line records addr (take (image_file_data_count records addr bytes) bytes) ++ 10 ∷ [])
    ++ image_file_data_lines records (most - 1) (addr / 65536) (addr + image_file_data_count records addr bytes)
    (drop (image_file_data_count records addr bytes) bytes)
image_file_next_data_line_of records zero upper addr bytes some enough = absurd (omega arith)
image_file_next_data_line_of records (suc most) upper addr bytes some enough =
    let less : most ≡ suc most - 1 = omega arith in
    image_file_next_data_line records most upper addr bytes some
    ∙ ap (λ n. image_file_base_lines records upper (addr / 65536)
    ++ (image_file_data_line records addr (take (image_file_data_count records addr bytes) bytes) ++ 10 ∷ [])
    ++ image_file_data_lines records n (addr / 65536) (addr + image_file_data_count records addr bytes)
    (drop (image_file_data_count records addr bytes) bytes)) less

-- no bytes have no lines
pub image_file_no_data_line : (records : RecordFormat) (most upper addr : ℕ) (bytes : List ℕ) → length bytes ≡ 0
    → image_file_data_lines records most upper addr bytes ≡ []
image_file_no_data_line records zero upper addr bytes none = refl
image_file_no_data_line records (suc most) upper addr bytes none =
    ap (λ b. cond b [] (image_file_base_lines records upper (addr / 65536)
    ++ (image_file_data_line records addr (take (image_file_data_count records addr bytes) bytes) ++ 10 ∷ [])
    ++ image_file_data_lines records most (addr / 65536) (addr + image_file_data_count records addr bytes)
    (drop (image_file_data_count records addr bytes) bytes))) (eq-eqb (length bytes) 0 none)

-- two parts that follow a text
pub image_file_text_append : (all text part fed : List ℕ)
    → ((all ++ text) ++ part) ++ fed ≡ all ++ (text ++ (part ++ fed))
image_file_text_append all text part fed =
    append_assoc (all ++ text) part fed ∙ append_assoc all text (part ++ fed)

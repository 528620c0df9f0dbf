-- What the written records say.
use Rattle.std.proofs.Common.{◌≡◌, ℕ, ◌+◌, ◌-◌, ◌*◌, ◌/◌, ◌%◌, List, [], ◌∷◌, ◌++◌, length, ap}
use Rattle.std.proofs.Common.{◌∙◌, false, arith, cond, Ok, Err, take}
use Rattle.std.specs.Prelude.{Result, sum}
use Rattle.std.proofs.lemmas.Bool.{le-leb}
use Rattle.std.proofs.lemmas.List.{length-append}
use Rattle.std.proofs.Math.Seq.{take-append_seam}
use Rattle.swd_image_files.specs.declared.fault.LineFlaw.{LineFlaw}
use Rattle.swd_image_files.specs.declared.fault.LineFlaw.TheVariants.{BadLength}
use Rattle.swd_image_files.specs.declared.kind.RecordKind.{RecordKind}
use Rattle.swd_image_files.specs.declared.kind.RecordKind.TheVariants.{Data, Base}
use Rattle.swd_image_files.specs.Records.{image_file_record_field, hex_record_kind, hex_record_typed, srec_kind}
use Rattle.swd_image_files.specs.Texts.{hex_record_head, srec_head}
use Rattle.swd_image_files.proofs.WrittenLemmas.{hex_record_all, srec_all}

-- the data of an Intel HEX record
pub hex_record_data_kind : (offset : ℕ) (bytes : List ℕ)
    → hex_record_kind (hex_record_all offset 0 bytes) ≡ Ok (Data offset 4)
hex_record_data_kind offset bytes =
    let all : List ℕ = hex_record_all offset 0 bytes in
    let tail = length-append bytes ((256 - (sum (hex_record_head offset 0 bytes) + sum bytes) % 256) % 256 ∷ []) in
    let wrong : Result RecordKind LineFlaw = Err BadLength in
    let joined : 256 * (offset / 256) + offset % 256 ≡ offset = omega arith in
    ap (λ b. cond b (hex_record_typed all 0) wrong) (le-leb 5 (length all) (omega (arith, tail)))
    ∙ ap (λ a. let kind : Result RecordKind LineFlaw = Ok (Data a 4) in kind) joined

-- the data field of an Intel HEX data record that was written for some bytes is these bytes
pub hex_record_field : (offset : ℕ) (bytes : List ℕ) → image_file_record_field (hex_record_all offset 0 bytes) 4 ≡ bytes
hex_record_field offset bytes =
    let check = (256 - (sum (hex_record_head offset 0 bytes) + sum bytes) % 256) % 256 in
    let tail = length-append bytes (check ∷ []) in
    let size : length (hex_record_all offset 0 bytes) - 1 - 4 ≡ length bytes = omega (arith, tail) in
    ap (λ n. take n (bytes ++ check ∷ [])) size ∙ take-append_seam bytes (check ∷ [])

-- the base of an extended linear address record
pub hex_record_base_kind : (upper : ℕ)
    → hex_record_kind (hex_record_all 0 4 (upper / 256 ∷ upper % 256 ∷ [])) ≡ Ok (Base (65536 * upper) false)
hex_record_base_kind upper =
    let joined : 65536 * (256 * (upper / 256) + upper % 256) ≡ 65536 * upper = omega arith in
    ap (λ a. let kind : Result RecordKind LineFlaw = Ok (Base a false) in kind) joined

-- the data of an S3 record
pub srec_data_kind : (addr : ℕ) (bytes : List ℕ) → srec_kind (3 ∷ srec_all addr bytes) ≡ Ok (Data addr 6)
srec_data_kind addr bytes =
    let all : List ℕ = 3 ∷ srec_all addr bytes in
    let tail = length-append bytes ((255 - (sum (srec_head addr bytes) + sum bytes) % 256) ∷ []) in
    let wrong : Result RecordKind LineFlaw = Err BadLength in
    let high = 256 * (addr / 16777216) + addr / 65536 % 256 in
    let low = 256 * (addr / 256 % 256) + addr % 256 in
    let joined : 65536 * high + low ≡ addr = omega arith in
    let made : Result RecordKind LineFlaw = Ok (Data (65536 * high + low) 6) in
    ap (λ b. cond b made wrong) (le-leb 7 (length all) (omega (arith, tail)))
    ∙ ap (λ a. let kind : Result RecordKind LineFlaw = Ok (Data a 6) in kind) joined

-- the data field of an S3 record that was written for some bytes is these bytes
pub srec_field : (addr : ℕ) (bytes : List ℕ) → image_file_record_field (3 ∷ srec_all addr bytes) 6 ≡ bytes
srec_field addr bytes =
    let check = 255 - (sum (srec_head addr bytes) + sum bytes) % 256 in
    let tail = length-append bytes (check ∷ []) in
    let size : length (3 ∷ srec_all addr bytes) - 1 - 6 ≡ length bytes = omega (arith, tail) in
    ap (λ n. take n (bytes ++ check ∷ [])) size ∙ take-append_seam bytes (check ∷ [])

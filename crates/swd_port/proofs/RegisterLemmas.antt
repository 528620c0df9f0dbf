-- The fields of SELECT and CSW, and the bits of the words that carry them.
use Rattle.std.proofs.Common.{◌≡◌, ℕ, true, false, zero, suc, ◌+◌, ◌*◌, ◌/◌, ◌%◌, ◌^◌, ◌<◌, refl, sym, ap, ◌∙◌, arith}
use Rattle.std.specs.Prelude.{◌==◌}
use Rattle.std.specs.Int.RustNames.{bit_and, bit_or}
use Rattle.std.proofs.lemmas.Nat.{and_mask, and_block, or_shifted, shr_split, pow_pos, mod_below}
use Rattle.swd_bits.specs.Bits.{bit}
use Rattle.swd_port.specs.declared.select.Select.{Select}
use Rattle.swd_port.specs.Registers.{select_of, csw_of}
use Rattle.swd_port.specs.Words.{select_word, select_mask, IsSelect, csw_word, csw_mask}
use Rattle.swd_port.specs.Registers.{csw_read}
use Rattle.swd_port.specs.Laws.Registers.{PortCswReads}

-- a digit as a bit, and back
digit : (r : ℕ) → r < 2 → bit (r == 1) ≡ r
digit zero h = refl
digit (suc zero) h = refl
digit (suc (suc n)) h = absurd (omega arith)

-- a mask of a high and a low block
two_blocks : (w k high low : ℕ) → low < 2 ^ k → w % 2 ^ k < 2 ^ k
    → bit_and w (high * 2 ^ k + low) ≡ bit_and (w / 2 ^ k) high * 2 ^ k + bit_and (w % 2 ^ k) low
two_blocks w k high low h j = ap (λ x. bit_and x (high * 2 ^ k + low)) (sym (shr_split w k))
    ∙ and_block k (w / 2 ^ k) high (w % 2 ^ k) low j h

-- one bit of a word
pub register_bit_masked : (w k : ℕ) → bit_and w (2 ^ k) ≡ w / 2 ^ k % 2 * 2 ^ k
register_bit_masked w k =
    let some = pow_pos k in
    let parts : bit_and w (1 * 2 ^ k + 0) ≡ bit_and (w / 2 ^ k) 1 * 2 ^ k + bit_and (w % 2 ^ k) 0 = two_blocks w k 1 0
    (omega arith) (mod_below w (2 ^ k) some) in
    let high : bit_and (w / 2 ^ k) 1 ≡ w / 2 ^ k % 2 = and_mask (w / 2 ^ k) 1 in
    let low : bit_and (w % 2 ^ k) 0 ≡ w % 2 ^ k % 1 = and_mask (w % 2 ^ k) 0 in
    let one : 1 * 2 ^ k + 0 ≡ 2 ^ k = omega arith in
    ap (bit_and w) (sym one) ∙ parts ∙ (rw (high, low) (omega arith))

-- the bits that SELECT names
pub select_mask_bits : (w : ℕ) → bit_and w select_mask ≡ w / 2 ^ 24 % 2 ^ 8 * 2 ^ 24 + w % 2 ^ 8
select_mask_bits w =
    let parts : bit_and w select_mask ≡ bit_and (w / 2 ^ 24) 255 * 2 ^ 24 + bit_and (w % 2 ^ 24) 255 = two_blocks w 24
    255 255 (omega arith) (omega arith) in
    let high : bit_and (w / 2 ^ 24) 255 ≡ w / 2 ^ 24 % 2 ^ 8 = and_mask (w / 2 ^ 24) 8 in
    let low : bit_and (w % 2 ^ 24) 255 ≡ w % 2 ^ 24 % 2 ^ 8 = and_mask (w % 2 ^ 24) 8 in
    omega arith

pub port_select_kept : (w : ℕ) → select_word (select_of w) ≡ bit_and w select_mask
port_select_kept w = let e = select_mask_bits w in omega arith

-- the bits that CSW names
pub csw_mask_bits : (w : ℕ) → bit_and w csw_mask ≡ w / 2 ^ 24 % 2 ^ 7 * 2 ^ 24 + w / 2 ^ 4 % 2 ^ 4 * 2 ^ 4 + w % 2 ^ 3
csw_mask_bits w =
    let parts : bit_and w csw_mask ≡ bit_and (w / 2 ^ 24) 127 * 2 ^ 24 + bit_and (w % 2 ^ 24) 247 = two_blocks w 24 127
    247 (omega arith) (omega arith) in
    let more : bit_and (w % 2 ^ 24) 247 ≡ bit_and (w % 2 ^ 24 / 2 ^ 4) 15 * 2 ^ 4 + bit_and (w % 2 ^ 24 % 2 ^ 4) 7 =
    two_blocks (w % 2 ^ 24) 4 15 7 (omega arith) (omega arith) in
    let high : bit_and (w / 2 ^ 24) 127 ≡ w / 2 ^ 24 % 2 ^ 7 = and_mask (w / 2 ^ 24) 7 in
    let middle : bit_and (w % 2 ^ 24 / 2 ^ 4) 15 ≡ w % 2 ^ 24 / 2 ^ 4 % 2 ^ 4 = and_mask (w % 2 ^ 24 / 2 ^ 4) 4 in
    let low : bit_and (w % 2 ^ 24 % 2 ^ 4) 7 ≡ w % 2 ^ 24 % 2 ^ 4 % 2 ^ 3 = and_mask (w % 2 ^ 24 % 2 ^ 4) 3 in
    omega arith

pub port_csw_kept : (w : ℕ) → csw_word (csw_of w) ≡ bit_and w csw_mask
port_csw_kept w =
    let e = csw_mask_bits w in
    let six : bit (w / 64 % 2 == 1) ≡ w / 64 % 2 = digit (w / 64 % 2) (omega arith) in
    let seven : bit (w / 128 % 2 == 1) ≡ w / 128 % 2 = digit (w / 128 % 2) (omega arith) in
    omega arith

-- the word that CSW reads
pub port_csw_reads : PortCswReads
port_csw_reads true others =
    let low : csw_read true others / 64 % 2 ≡ 1 = omega arith in
    record { size = omega arith; addr_inc = omega arith; device_en = ap (λ x. x == 1) low; range = omega arith }
port_csw_reads false others =
    let low : csw_read false others / 64 % 2 ≡ 1 = omega arith in
    record { size = omega arith; addr_inc = omega arith; device_en = ap (λ x. x == 1) low; range = omega arith }

-- the word that the code joins from a SELECT's fields
pub select_word_joined : (s : Select) (a b d : ℕ) → a ≡ s.apsel → b ≡ bit_and s.apbanksel 15
    → d ≡ bit_and s.dpbanksel 15 → bit_or (bit_or (a * 16777216 % 4294967296) (b * 16 % 4294967296)) d ≡ select_word s
select_word_joined s a b d e f g =
    let middle : b ≡ s.apbanksel % 2 ^ 4 = f ∙ and_mask s.apbanksel 4 in
    let low : d ≡ s.dpbanksel % 2 ^ 4 = g ∙ and_mask s.dpbanksel 4 in
    let top : a * 16777216 % 4294967296 ≡ a % 256 * 2 ^ 24 = omega arith in
    let place : b * 16 % 4294967296 ≡ b * 16 = omega arith in
    let one : bit_or (a % 256 * 2 ^ 24) (b * 16) ≡ a % 256 * 2 ^ 24 + b * 16 = or_shifted (a % 256) 24 (b * 16)
    (omega arith) in
    let two : bit_or ((a % 256 * 2 ^ 20 + b) * 2 ^ 4) d ≡ (a % 256 * 2 ^ 20 + b) * 2 ^ 4 + d = or_shifted
    (a % 256 * 2 ^ 20 + b) 4 d (omega arith) in
    let same : a % 256 * 2 ^ 24 + b * 16 ≡ (a % 256 * 2 ^ 20 + b) * 2 ^ 4 = omega arith in
    rw (top, place, one, same, two) (omega arith)

-- what fits its fields is read back
pub select_word_read_back : (s : Select) → IsSelect s → select_of (select_word s) ≡ s
select_word_read_back s fits =
    let a : select_word s / 2 ^ 24 % 256 ≡ s.apsel = omega arith in
    let b : select_word s / 16 % 16 ≡ s.apbanksel = omega arith in
    let d : select_word s % 16 ≡ s.dpbanksel = omega arith in
    rw (a, b, d) refl

pub ruleset register_laws = (port_select_kept, port_csw_kept, port_csw_reads)

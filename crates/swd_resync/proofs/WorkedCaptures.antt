-- The reading of captures at worked examples. What each is read as comes of a program that has the rules apart from
-- these definitions, and searches backwards.
use Rattle.std.proofs.Common.{◌≡◌, ◌==◌, ℕ, Bool, true, false, List, [], ◌∷◌, ◌++◌, map, codes, refl}
use Rattle.swd_bits.specs.declared.request.Reg4.{Reg4}
use Rattle.swd_bits.specs.declared.request.Reg4.TheVariants.{R0, R4, R8, RC}
use Rattle.swd_bits.specs.declared.tx.TxEnd.{TxEnd}
use Rattle.swd_bits.specs.declared.tx.TxEnd.TheVariants.{Moved, Wait, Fault, NoAck}
use Rattle.swd_trace.specs.declared.item.Item.TheVariants.{Reset, Switch, Idle, Tx, Cut}
use Rattle.swd_resync.specs.declared.part.Part.{Part}
use Rattle.swd_resync.specs.declared.part.Part.TheVariants.{Item as Told, Phased, Skip}
use Rattle.swd_resync.specs.Parts.{resync_parts_of, parts_after}

-- the bits that are written so
abbrev bits : List ℕ → List Bool
bits text = map (λ digit. digit == 49) text

abbrev dp_read : Reg4 → TxEnd → Part
dp_read reg end = Told (Tx (record { request = record { ap = false; read = true; addr = reg }; result = end }))

abbrev dp_write : Reg4 → TxEnd → Part
dp_write reg end = Told (Tx (record { request = record { ap = false; read = false; addr = reg }; result = end }))

abbrev ap_read : Reg4 → TxEnd → Part
ap_read reg end = Told (Tx (record { request = record { ap = true; read = true; addr = reg }; result = end }))

abbrev ap_write : Reg4 → TxEnd → Part
ap_write reg end = Told (Tx (record { request = record { ap = true; read = false; addr = reg }; result = end }))

-- with the data phase after it
abbrev phased : Part → Part
phased (Told (Tx tx)) = Phased tx
phased other = other

nothing : resync_parts_of false (bits []) ≡
    []
unfolding parts_after
nothing = refl

cut_at_three_hundred_bits : resync_parts_of false (bits (
    codes "0000000000001111010000000010001101110010000000000000000000000000000000001100010111001010"
    ++ codes "0101000000000000000001100010000000000011010001110010000000000000000000000000000010011111"
    ++ codes "100111001111011101111101101101010111101101000")) ≡
    Skip 26
    ∷ dp_write R8 (Moved 0 true)
    ∷ ap_write R0 (Moved 587202642 true)
    ∷ Told (Idle 8)
    ∷ ap_write R4 (Moved 536870912 true)
    ∷ ap_read RC (Moved 3735928559 true)
    ∷ Told (Idle 3)
    ∷ []
unfolding parts_after
cut_at_three_hundred_bits = refl

a_bit_dropped_inside_of_data : resync_parts_of false (bits (
    codes "1010010111001110111000101000000001011101010001101100011100000000100000000000000000000111"
    ++ codes "1111010010111001110111000101000000001011101010001000001111100111000001111001101010001011"
    ++ codes "000100100011")) ≡
    dp_read R0 (Moved 731911287 true)
    ∷ Skip 45
    ∷ dp_read R0 (Moved 731911287 true)
    ∷ Told (Idle 5)
    ∷ ap_read RC (Moved 305419896 true)
    ∷ []
unfolding parts_after
a_bit_dropped_inside_of_data = refl

a_bit_dropped_inside_of_a_request : resync_parts_of false (bits (
    codes "1010010111001110111000101000000001011101010001101000111000000001000000000000000000000111"
    ++ codes "1111010010111001110111000101000000001011101010001000001111100111000001111001101010001011"
    ++ codes "000100100011")) ≡
    Skip 91
    ∷ dp_read R0 (Moved 731911287 true)
    ∷ Told (Idle 5)
    ∷ ap_read RC (Moved 305419896 true)
    ∷ []
unfolding parts_after
a_bit_dropped_inside_of_a_request = refl

a_bit_dropped_at_the_last_turnaround : resync_parts_of false (bits (
    codes "1010010111001110111000101000000001011101010001101001011100100000000000000000000000000000"
    ++ codes "0011001010111001101000000000000000000000000000000101001011100111011100010100000000101110"
    ++ codes "1010001")) ≡
    dp_read R0 (Moved 731911287 true)
    ∷ Skip 45
    ∷ dp_write R4 (Moved 5 true)
    ∷ dp_read R0 (Moved 731911287 true)
    ∷ []
unfolding parts_after
a_bit_dropped_at_the_last_turnaround = refl

a_bit_doubled_inside_of_data : resync_parts_of false (bits (
    codes "1010010111001110111000101000000001011101010001101100011100000000100000000000000000000001"
    ++ codes "1111110100101110011101110001010000000010111010100010000011111001110000011110011010100010"
    ++ codes "11000100100011")) ≡
    dp_read R0 (Moved 731911287 true)
    ∷ dp_read R4 (Moved 3758096448 false)
    ∷ Skip 1
    ∷ dp_read R0 (Moved 731911287 true)
    ∷ Told (Idle 5)
    ∷ ap_read RC (Moved 305419896 true)
    ∷ []
unfolding parts_after
a_bit_doubled_inside_of_data = refl

a_bit_doubled_inside_of_an_acknowledgement : resync_parts_of false (bits (
    codes "1010010111001110111000101000000001011101010001101100011110000000010000000000000000000001"
    ++ codes "1111110100101110011101110001010000000010111010100010000011111001110000011110011010100010"
    ++ codes "11000100100011")) ≡
    dp_read R0 (Moved 731911287 true)
    ∷ dp_read R4 (NoAck 3)
    ∷ Skip 35
    ∷ dp_read R0 (Moved 731911287 true)
    ∷ Told (Idle 5)
    ∷ ap_read RC (Moved 305419896 true)
    ∷ []
unfolding parts_after
a_bit_doubled_inside_of_an_acknowledgement = refl

a_bit_changed_inside_of_data : resync_parts_of false (bits (
    codes "1010010111001110111000101000000001011101010001101100011100000000100000000000100000000011"
    ++ codes "1111101001011100111011100010100000000101110101000100000111110011100000111100110101000101"
    ++ codes "1000100100011")) ≡
    dp_read R0 (Moved 731911287 true)
    ∷ dp_read R4 (Moved 4026794048 false)
    ∷ dp_read R0 (Moved 731911287 true)
    ∷ Told (Idle 5)
    ∷ ap_read RC (Moved 305419896 true)
    ∷ []
unfolding parts_after
a_bit_changed_inside_of_data = refl

a_bit_changed_inside_of_an_acknowledgement : resync_parts_of false (bits (
    codes "1010010111001110111000101000000001011101010001101100011000000000100000000000000000000011"
    ++ codes "1111101001011100111011100010100000000101110101000100000111110011100000111100110101000101"
    ++ codes "1000100100011")) ≡
    dp_read R0 (Moved 731911287 true)
    ∷ dp_read R4 (NoAck 0)
    ∷ Skip 34
    ∷ dp_read R0 (Moved 731911287 true)
    ∷ Told (Idle 5)
    ∷ ap_read RC (Moved 305419896 true)
    ∷ []
unfolding parts_after
a_bit_changed_inside_of_an_acknowledgement = refl

a_bit_changed_inside_of_a_request : resync_parts_of false (bits (
    codes "1010010111001110111000101000000001011101010001101100111100000000100000000000000000000011"
    ++ codes "1111101001011100111011100010100000000101110101000100000111110011100000111100110101000101"
    ++ codes "1000100100011")) ≡
    Skip 92
    ∷ dp_read R0 (Moved 731911287 true)
    ∷ Told (Idle 5)
    ∷ ap_read RC (Moved 305419896 true)
    ∷ []
unfolding parts_after
a_bit_changed_inside_of_a_request = refl

seven_and_a_reset : resync_parts_of false (bits (
    codes "1010010111001110111000101000000001011101010001101001011100111011100010100000000101110101"
    ++ codes "0001101001011111111111111111111111111111111111111111111111111111111111111111001010010111"
    ++ codes "001110111000101000000001011101010001")) ≡
    dp_read R0 (Moved 731911287 true)
    ∷ dp_read R0 (Moved 731911287 true)
    ∷ dp_read R0 (NoAck 7)
    ∷ Told (Reset 60)
    ∷ Told (Idle 2)
    ∷ dp_read R0 (Moved 731911287 true)
    ∷ []
unfolding parts_after
seven_and_a_reset = refl

seven_and_a_pair : resync_parts_of false (bits (
    codes "1010010111001110111000101000000001011101010001101001011100111011100010100000000101110101"
    ++ codes "0001101001011111111111111111111111111111111111111010100101110011101110001010000000010111"
    ++ codes "010100011001010111001100000000000000000000000000000001")) ≡
    dp_read R0 (Moved 731911287 true)
    ∷ dp_read R0 (Moved 731911287 true)
    ∷ dp_read R0 (NoAck 7)
    ∷ Skip 34
    ∷ dp_read R0 (Moved 731911287 true)
    ∷ dp_write R4 (Moved 1 true)
    ∷ []
unfolding parts_after
seven_and_a_pair = refl

seven_at_the_end : resync_parts_of false (bits (
    codes "1010010111001110111000101000000001011101010001101001011100111011100010100000000101110101"
    ++ codes "0001101001011111")) ≡
    dp_read R0 (Moved 731911287 true)
    ∷ dp_read R0 (Moved 731911287 true)
    ∷ dp_read R0 (NoAck 7)
    ∷ []
unfolding parts_after
seven_at_the_end = refl

fifty_ones_inside_of_a_phase : resync_parts_of false (bits (
    codes "1010010111001110111000101000000001011101010001101001011100111011100010100000000101110101"
    ++ codes "0001101001011100111011101111111111111111111111111111111111111111111111111111111010100101"
    ++ codes "11001110111000101000000001011101010001")) ≡
    dp_read R0 (Moved 731911287 true)
    ∷ dp_read R0 (Moved 731911287 true)
    ∷ dp_read R0 (Moved 4294967159 false)
    ∷ Skip 76
    ∷ []
unfolding parts_after
fifty_ones_inside_of_a_phase = refl

waits_from_bit_five : resync_parts_of false
    (bits (codes "001101011111100110101111110011010111111001101011111100110101")) ≡ Skip 8
    ∷ ap_read RC Wait
    ∷ ap_read RC Wait
    ∷ ap_read RC Wait
    ∷ ap_read RC Wait
    ∷ []
unfolding parts_after
waits_from_bit_five = refl

two_reads_from_bit_five : resync_parts_of false (bits (
    codes "0011100111111001110000000000010101010001111111001110011111100111000000000001010101000111"
    ++ codes "1111001110011111100111000000000001010101000111111100111001111110011100000000000101010100"
    ++ codes "011")) ≡
    Skip 8
    ∷ ap_read RC (Moved 1945676288 true)
    ∷ ap_read RC (Moved 1945676288 true)
    ∷ ap_read RC (Moved 1945676288 true)
    ∷ Told (Cut (record { len = 33; bits = 6620709791 }))
    ∷ []
unfolding parts_after
two_reads_from_bit_five = refl

zeros : resync_parts_of false (bits (codes "0000000000000000000000000000000000000000000000000000000000000000000000")) ≡
    Told (Idle 70)
    ∷ []
unfolding parts_after
zeros = refl

forty_nine_ones_and_a_zero : resync_parts_of false (bits (codes "11111111111111111111111111111111111111111111111110")) ≡
    Skip 50
    ∷ []
unfolding parts_after
forty_nine_ones_and_a_zero = refl

fifty_ones_and_a_zero : resync_parts_of false (bits (codes "111111111111111111111111111111111111111111111111110")) ≡
    Told (Reset 50)
    ∷ Told (Idle 1)
    ∷ []
unfolding parts_after
fifty_ones_and_a_zero = refl

one_transaction : resync_parts_of false (bits (codes "1010010111001110111000101000000001011101010001")) ≡
    dp_read R0 (Moved 731911287 true)
    ∷ []
unfolding parts_after
one_transaction = refl

one_transaction_and_what_is_none : resync_parts_of false
    (bits (codes "101001011100111011100010100000000101110101000111111110")) ≡ Skip 54
    ∷ []
unfolding parts_after
one_transaction_and_what_is_none = refl

one_transaction_behind_the_gap : resync_parts_of false
    (bits (codes "11010100101110011101110001010000000010111010100011111111")) ≡ Skip 56
    ∷ []
unfolding parts_after
one_transaction_behind_the_gap = refl

a_pair_behind_the_gap : resync_parts_of false (bits (
    codes "1010100101110011101110001010000000010111010100010000000000000000000000000000000000000000"
    ++ codes "0000000000000000000010010101101010000")) ≡
    Skip 2
    ∷ dp_read R0 (Moved 731911287 true)
    ∷ Told (Idle 60)
    ∷ dp_write R4 Wait
    ∷ Told (Idle 4)
    ∷ []
unfolding parts_after
a_pair_behind_the_gap = refl

parity_that_is_wrong_makes_no_pair : resync_parts_of false (bits (
    codes "1010100101110011101110001010000000010111010100011010010111001010000000000000000000000000"
    ++ codes "000011110")) ≡
    Skip 97
    ∷ []
unfolding parts_after
parity_that_is_wrong_makes_no_pair = refl

a_pair_behind_the_switch : resync_parts_of false (bits (
    codes "1111111111111111111111111111111111111111111111111101111001111001111010010111001110111000"
    ++ codes "1010000000010111010100011010010111001110111000101000000001011101010001")) ≡
    Told (Reset 50)
    ∷ Told Switch
    ∷ dp_read R0 (Moved 731911287 true)
    ∷ dp_read R0 (Moved 731911287 true)
    ∷ []
unfolding parts_after
a_pair_behind_the_switch = refl

two_losses : resync_parts_of false (bits (
    codes "1010010111001110111000101000000001011101010001101001011100111011100010100000000101110101"
    ++ codes "0001111111101010010111001110111000101000000001011101010001101001011100111011100010100000"
    ++ codes "0001011101010001111111101010010111001110111000101000000001011101010001100101011100111000"
    ++ codes "0000000000000000000000000000")) ≡
    dp_read R0 (Moved 731911287 true)
    ∷ dp_read R0 (Moved 731911287 true)
    ∷ Skip 8
    ∷ dp_read R0 (Moved 731911287 true)
    ∷ dp_read R0 (Moved 731911287 true)
    ∷ Skip 8
    ∷ dp_read R0 (Moved 731911287 true)
    ∷ dp_write R4 (Moved 3 true)
    ∷ []
unfolding parts_after
two_losses = refl

withdrawn_for_the_pair_inside : resync_parts_of false (bits (
    codes "1010010111001110111000101000000001011101010001101001011100111011100010100000000101110101"
    ++ codes "0001101001011100101001011100111011100010100000000101110101000110100101110011101110001010"
    ++ codes "00000001011101010001")) ≡
    dp_read R0 (Moved 731911287 true)
    ∷ dp_read R0 (Moved 731911287 true)
    ∷ Skip 12
    ∷ dp_read R0 (Moved 731911287 true)
    ∷ dp_read R0 (Moved 731911287 true)
    ∷ []
unfolding parts_after
withdrawn_for_the_pair_inside = refl

a_session_that_is_whole : resync_parts_of false (bits (
    codes "1111111111111111111111111111111111111111111111111110111100111100111111111111111111111111"
    ++ codes "1111111111111111111111111111110000000010100101110011101110001010000000010111010100010000"
    ++ codes "0000100011011100100000000000000000000000000000000010010101110010000000000000000000000000"
    ++ codes "0001010010110001110000000000000000000000000000001111010000000010001101110010000000000000"
    ++ codes "0000000000000000000011000101110010100101000000000000000001100010000000000011010001110010"
    ++ codes "000000000000000000000000000010011111100111001111011101111101101101010111101101000")) ≡
    Told (Reset 51)
    ∷ Told Switch
    ∷ Told (Reset 51)
    ∷ Told (Idle 8)
    ∷ dp_read R0 (Moved 731911287 true)
    ∷ Told (Idle 8)
    ∷ dp_write R8 (Moved 0 true)
    ∷ dp_write R4 (Moved 1342177280 true)
    ∷ dp_read R4 (Moved 4026531840 true)
    ∷ Told (Idle 8)
    ∷ dp_write R8 (Moved 0 true)
    ∷ ap_write R0 (Moved 587202642 true)
    ∷ Told (Idle 8)
    ∷ ap_write R4 (Moved 536870912 true)
    ∷ ap_read RC (Moved 3735928559 true)
    ∷ Told (Idle 3)
    ∷ []
unfolding parts_after
a_session_that_is_whole = refl

data_phases_behind_a_refusal : resync_parts_of true (bits (
    codes "1010010111001110111000101000000001011101010001111110011010111111111111111111111111111111"
    ++ codes "1111100000011001110101010101010101010101010101010110100101110011101110001010000000010111"
    ++ codes "01010001")) ≡
    dp_read R0 (Moved 731911287 true)
    ∷ phased (ap_read RC Wait)
    ∷ phased (dp_write R0 Fault)
    ∷ dp_read R0 (Moved 731911287 true)
    ∷ []
unfolding parts_after
data_phases_behind_a_refusal = refl

data_phases_without_the_option : resync_parts_of false (bits (
    codes "1010010111001110111000101000000001011101010001111110011010111111111111111111111111111111"
    ++ codes "1111101001011100111011100010100000000101110101000110100101110011101110001010000000010111"
    ++ codes "01010001")) ≡
    dp_read R0 (Moved 731911287 true)
    ∷ ap_read RC Wait
    ∷ Skip 33
    ∷ dp_read R0 (Moved 731911287 true)
    ∷ dp_read R0 (Moved 731911287 true)
    ∷ []
unfolding parts_after
data_phases_without_the_option = refl

a_data_phase_that_is_cut_off : resync_parts_of true
    (bits (codes "1010010111001110111000101000000001011101010001111110011010111111111111111111111"))
    ≡ dp_read R0 (Moved 731911287 true) ∷ Told (Cut (record { len = 33; bits = 8589931935 }))
    ∷ []
unfolding parts_after
a_data_phase_that_is_cut_off = refl

overrun_detection_is_followed : resync_parts_of false (bits (
    codes "1010010111001110111000101000000001011101010001100101011100110000000000000000000000000001"
    ++ codes "0101111110011010111010011101011011000101111101001111111001110010100000000000000000000000"
    ++ codes "0000000110010101110010000000000000000000000000000101001111100110101101001011100111011100"
    ++ codes "0101000000001011101010001")) ≡
    dp_read R0 (Moved 731911287 true)
    ∷ dp_write R4 (Moved 1342177281 true)
    ∷ phased (ap_read RC Wait)
    ∷ ap_read RC (Moved 5 true)
    ∷ dp_write R4 (Moved 1342177280 true)
    ∷ ap_read RC Wait
    ∷ dp_read R0 (Moved 731911287 true)
    ∷ []
unfolding parts_after
overrun_detection_is_followed = refl

a_write_in_another_bank_is_not_followed : resync_parts_of false (bits (
    codes "1010010111001110111000101000000001011101010001100011011100110000000000000000000000000000"
    ++ codes "0001100101011100110000000000000000000000000000000111111001101011010010111001110111000101"
    ++ codes "0000000010111010100011010010111001110111000101000000001011101010001")) ≡
    dp_read R0 (Moved 731911287 true)
    ∷ dp_write R8 (Moved 1 true)
    ∷ dp_write R4 (Moved 1 true)
    ∷ ap_read RC Wait
    ∷ dp_read R0 (Moved 731911287 true)
    ∷ dp_read R0 (Moved 731911287 true)
    ∷ []
unfolding parts_after
a_write_in_another_bank_is_not_followed = refl

a_data_phase_is_inferred_once : resync_parts_of false (bits (
    codes "1010010111001110111000101000000001011101010001110111011001111010011101011011000101111101"
    ++ codes "0011101001011100111011100010100000000101110101000100011011101101010000000000001010110001"
    ++ codes "100001010111010010111001110111000101000000001011101010001")) ≡
    dp_read R0 (Moved 731911287 true)
    ∷ ap_write RC Fault
    ∷ Skip 33
    ∷ dp_read R0 (Moved 731911287 true)
    ∷ Told (Idle 3)
    ∷ phased (ap_write RC Wait)
    ∷ dp_read R0 (Moved 731911287 true)
    ∷ []
unfolding parts_after
a_data_phase_is_inferred_once = refl

no_data_phase_where_one_was_foreseen : resync_parts_of true (bits (
    codes "1010010111001110111000101000000001011101010001111110011010110100101110011101110001010000"
    ++ codes "0000101110101000111111001101011010010111001110111000101000000001011101010001")) ≡
    dp_read R0 (Moved 731911287 true)
    ∷ ap_read RC Wait
    ∷ dp_read R0 (Moved 731911287 true)
    ∷ ap_read RC Wait
    ∷ dp_read R0 (Moved 731911287 true)
    ∷ []
unfolding parts_after
no_data_phase_where_one_was_foreseen = refl

a_capture_begins_with_a_data_phase : resync_parts_of false (bits (
    codes "1111100110101110100111010110110001011111010011101001011100111011100010100000000101110101"
    ++ codes "00011010010111001110111000101000000001011101010001")) ≡
    ap_read RC Wait
    ∷ Skip 33
    ∷ dp_read R0 (Moved 731911287 true)
    ∷ dp_read R0 (Moved 731911287 true)
    ∷ []
unfolding parts_after
a_capture_begins_with_a_data_phase = refl

skipped_bits_join_a_data_phase : resync_parts_of false (bits (
    codes "1010010111001110111000101000000001011101010001111110011010100110101001100101001000001000"
    ++ codes "0111101001011100111011100010100000000101101010001101001011100111011100010100000000101110"
    ++ codes "1010001000001010010111001110111000101000000001011101010001")) ≡
    dp_read R0 (Moved 731911287 true)
    ∷ ap_read RC Wait
    ∷ Skip 78
    ∷ dp_read R0 (Moved 731911287 true)
    ∷ Told (Idle 5)
    ∷ dp_read R0 (Moved 731911287 true)
    ∷ []
unfolding parts_after
skipped_bits_join_a_data_phase = refl

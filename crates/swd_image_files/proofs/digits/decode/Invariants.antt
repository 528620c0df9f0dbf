use Rattle.std.proofs.Common.{◌≡◌, ◌*◌, ◌+◌, ◌≤◌, ◌++◌, length}
use Rattle.arrayvec.specs.ArrayVec.{array_vec_len}
use Rattle.swd_image_files.specs.Digits.{image_file_digit_bytes}
use Rattle.swd_image_files.proofs.digits.decode.Given as goal

abbrev pub invariant-loop-rest : goal.invariant-loop-rest
invariant-loop-rest l =
    (l.bytes.items ++ image_file_digit_bytes l.rest ≡ l.initial.bytes.items ++ image_file_digit_bytes l.initial.rest)
    × (2 * array_vec_len l.bytes + length l.rest ≤ 520)

abbrev pub decreases-loop-rest : goal.decreases-loop-rest
decreases-loop-rest l = length l.rest

use Rattle.std.proofs.Common.{◌≡◌, ◌*◌, ◌+◌, ◌++◌, take}
use Rattle.arrayvec.specs.ArrayVec.{array_vec_len}
use Rattle.swd_image_files.specs.Texts.{image_file_hex_digits}
use Rattle.swd_image_files.proofs.write.push_bytes.Given as goal

abbrev pub invariant-loop-byte : goal.invariant-loop-byte
invariant-loop-byte l =
    (l.line.items ≡ l.initial.line.items ++ image_file_hex_digits (take l.byte-index l.bytes))
    × (array_vec_len l.line ≡ array_vec_len l.initial.line + 2 * l.byte-index)

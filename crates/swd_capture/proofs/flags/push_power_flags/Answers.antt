use Rattle.swd_capture.proofs.TextLemmas.{capture_prints_joined}
use Rattle.swd_capture.proofs.flags.push_power_flags.Goals as goal

pub returns-clause-bytes : goal.returns-clause-bytes
returns-clause-bytes g c =
    let to_2 = capture_prints_joined _ _ _ _ _ c.push_flag.ensures.bytes c.push_flag-2.ensures.bytes in
    let to_3 = capture_prints_joined _ _ _ _ _ to_2 c.push_flag-3.ensures.bytes in
    let to_4 = capture_prints_joined _ _ _ _ _ to_3 c.push_flag-4.ensures.bytes in
    let to_5 = capture_prints_joined _ _ _ _ _ to_4 c.push_flag-5.ensures.bytes in
    capture_prints_joined _ _ _ _ _ to_5 c.push_flag-6.ensures.bytes

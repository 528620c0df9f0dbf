use Rattle.std.proofs.Common.{inr}
use Rattle.swd_image_commands.proofs.image_file.write_bytes.Goals as goal

pub returns-in-Err : goal.returns-in-Err
returns-in-Err g c =
    let stopped = c.in-Err.ensures in
    inr (c.tell_failure_or.ensures, stopped.sent, stopped.short, stopped.gone)

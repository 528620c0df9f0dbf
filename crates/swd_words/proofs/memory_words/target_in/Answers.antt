use Rattle.swd_words.proofs.memory_words.target_in.Goals as goal

pub returns-in-Ok : goal.returns-in-Ok
returns-in-Ok c =
    let none = c.is_local.ensures.local c.if-is_local.true in
    (none.0, none.1, c.in-Ok.ensures)

pub returns : goal.returns
returns c = (
  c.is_local.ensures.remote c.if-is_local.false,
  c.is_missing.ensures.0 c.if-not-is_missing.false,
  c.is_missing-2.ensures.0 c.if-not-is_missing-2.false,
  c.is_missing-3.ensures.0 c.if-not-is_missing-3.false,
)

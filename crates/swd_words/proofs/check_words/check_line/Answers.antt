use Rattle.std.proofs.Common.{◌≡◌, ◌⊎◌, Bool, false, inl, inr, true}
use Rattle.swd_words.proofs.check_words.check_line.Goals as goal

-- of two starts one at most is asked for
no_other : (made rest : Bool) → ((made ≡ true) × (rest ≡ false)) ⊎ (made ≡ false) → made ≡ true → rest ≡ false
no_other made rest (inl p) h = p.1
no_other made rest (inr e) h = absurd cc

pub returns : goal.returns
returns c = record {
  file = c.in_ok-file.ensures;
  plain = c.in_ok-plain.ensures;
  made = c.is_set-made.ensures;
  rest = c.is_set-rest.ensures;
  clean = c.is_set-clean.ensures;
  exact_registers = c.is_set-exact_registers.ensures;
  resync = c.is_set-resync.ensures;
  overrun = c.is_set-overrun.ensures;
  one_start = no_other c.is_set-made.result c.is_set-rest.result c.else-made.either;
}

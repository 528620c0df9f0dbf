use Rattle.std.proofs.Common.{◌≡◌, ℕ, Bool, true, false, refl}
use Rattle.std.proofs.lemmas.List.{append-nil}
use Rattle.swd_bits.specs.Bits.{low_bits}
use Rattle.swd_trace.specs.ItemBits.{item_bits_left}
use Rattle.swd_trace.specs.Texts.{item_bits}
use Rattle.swd_trace.specs.declared.item.Item.TheVariants.{Reset, Idle, Switch, Junk}
use Rattle.swd_trace.specs.declared.item_bits.ItemBits.{ItemBits}
use Rattle.swd_trace.proofs.item_bits.ItemBits.of.Goals as goal

abbrev whole : Bool → ℕ → ℕ → ℕ → ItemBits
whole one run len bits = record { one = one; run = run; len = len; bits = bits }

resets : (n : ℕ) → item_bits_left (whole true n 0 0) ≡ item_bits (Reset n)
unfolding low_bits
resets n = append-nil (item_bits (Reset n))

idles : (n : ℕ) → item_bits_left (whole false n 0 0) ≡ item_bits (Idle n)
unfolding low_bits
idles n = append-nil (item_bits (Idle n))

junks : (b : Bool) → item_bits_left (whole b 1 0 0) ≡ item_bits (Junk b)
unfolding low_bits
junks b = refl

switches : item_bits_left (whole false 0 16 0xe79e) ≡ item_bits Switch
unfolding low_bits
switches = refl

pub returns-in-Reset-clause-bits : goal.returns-in-Reset-clause-bits
returns-in-Reset-clause-bits c = rw (c.of_run.ensures, c.in-Reset.is) (resets c.in-Reset.count)

pub returns-in-Idle-clause-bits : goal.returns-in-Idle-clause-bits
returns-in-Idle-clause-bits c = rw (c.of_run-in-Idle.ensures, c.in-Idle.is) (idles c.in-Idle.count)

pub returns-in-Junk-clause-bits : goal.returns-in-Junk-clause-bits
returns-in-Junk-clause-bits c = rw (c.of_run-in-Junk.ensures, c.in-Junk.is) (junks c.in-Junk.bit)

pub returns-in-Switch-clause-bits : goal.returns-in-Switch-clause-bits
returns-in-Switch-clause-bits c = rw (c.of_bits.ensures, c.in-Switch.is) switches

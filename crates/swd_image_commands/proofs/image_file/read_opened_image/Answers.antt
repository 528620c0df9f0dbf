use Rattle.std.proofs.Common.{◌≡◌, ◌<◌, ◌∙◌, ℕ, suc, zero, false, arith, refl, sym, subst, List, length}
use Rattle.std.specs.Prelude.{◌==◌}
use Rattle.swd_image_files.specs.declared.image.Range.{Range}
use Rattle.swd_image_files.specs.Images.{contents_of_image}
use Rattle.swd_image_commands.proofs.image_file.read_opened_image.Goals as goal

some_of : (n : ℕ) → (n == 0) ≡ false → 0 < n
some_of zero h = absurd (cc)
some_of (suc n) h = omega arith

pub returns-in-Ok-read_image_or_elf-clause-pieces : goal.returns-in-Ok-read_image_or_elf-clause-pieces
returns-in-Ok-read_image_or_elf-clause-pieces g c = record {
  file = c.as_slice-2.result.now;
  whole = contents_of_image c.in-Ok-read_image_or_elf.whole;
  is = c.in-Ok-read_image_or_elf.ensures.ok;
  some = subst (λ (ranges : List Range). 0 < length ranges) c.as_slice-ranges.ensures.value
      (some_of _ (sym c.is_empty.ensures ∙ c.if-is_empty.false));
  are = refl;
}

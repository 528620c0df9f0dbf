use Rattle.std.proofs.Common.{◌≡◌, ◌+◌, arith, sym, ◌∙◌, true}
use Rattle.swd_image_files.specs.Elf.{is_elf_loaded}
use Rattle.swd_image_files.specs.Images.{image_file_add_data}
use Rattle.swd_image_files.proofs.ElfLemmas.{elf_loaded_step}
use Rattle.swd_image_files.proofs.segments.take_segment.Goals as goal

pub returns-clause-ok : goal.returns-clause-ok
returns-clause-ok g c = λ old holds.
    let header = c.args.header in
    let part = c.between.result.now in
    let loaded : is_elf_loaded header ≡ true =
    sym c.is_loaded.ensures ∙ c.if-not-is_loaded.false in (
      image_file_add_data old (c.args.base + header.p_paddr) part,
      c.add_kept.ensures old holds,
      elf_loaded_step c.args.bytes.now c.args.base c.args.number header old part loaded (omega arith) (omega arith)
          c.between.ensures,
    )

use Rattle.std.proofs.Common.{◌≡◌, ◌+◌, ◌-◌, arith, suc, ap, ap₂, sym, ◌∙◌, drop, length}
use Rattle.std.proofs.lemmas.List.{length-drop}
use Rattle.swd_image_files.specs.declared.elf.ProgramTable.{ProgramTable}
use Rattle.swd_image_files.specs.Elf.{elf_program_headers, elf_then, elf_with_segments}
use Rattle.swd_image_files.specs.Files.{image_file_elf_result}
use Rattle.swd_image_files.specs.Images.{image_file_nothing}
use Rattle.swd_image_files.proofs.ElfLemmas.{elf_flaw_step, elf_next_header, elf_valid_step, image_file_held}
use Rattle.swd_image_files.proofs.segments.hold_segments.Goals as goal

pub loop-number-init : goal.loop-number-init
loop-number-init g c =
    let bytes = c.args.bytes.now in
    let base = c.args.base in
    let table = c.in-Ok.table in
    let within = c.in-Ok.ensures.within in
    let behind = c.behind-rest.ensures in
    let len : length c.behind-rest.result.now ≡ length bytes - table.start =
    ap length behind ∙ length-drop table.start bytes in
    let all : table.count ≡ table.count - 0 = omega arith in
    record {
      image = image_file_nothing;
      holds = image_file_held c.args.kept image_file_nothing c.new-held.result c.new-held.ensures;
      some = omega arith;
      within = omega (arith, within, len);
      meaning = ap (elf_then (λ (t : ProgramTable). elf_with_segments bytes base 0
          (elf_program_headers t.count (drop t.start bytes)) image_file_nothing)) (sym c.in-Ok.ensures.value)
          ∙ ap₂ (λ n r. elf_with_segments bytes base 0 (elf_program_headers n r) image_file_nothing) all (sym behind);
    }

pub returns-in-Err-take_segment-clause-err : goal.returns-in-Err-take_segment-clause-err
returns-in-Err-take_segment-clause-err g c =
    let bytes = c.args.bytes.now in
    let base = c.args.base in
    let number = c.loop-number.number in
    let image = c.loop-number.invariant.image in
    let rest = c.loop-number.rest.now in
    let header = c.program_header.result in
    let more = c.in-Ok.table.count - (number + 1) in
    let left : c.in-Ok.table.count - number ≡ suc more = omega (arith, c.loop-number-test.true) in
    ap image_file_elf_result (c.loop-number.invariant.meaning
    ∙ elf_next_header bytes base number (c.in-Ok.table.count - number) more rest header image left
    c.program_header.ensures
    ∙ elf_flaw_step bytes base number header (elf_program_headers more (drop 32 rest)) image c.in-Err-take_segment.flaw
    (c.in-Err-take_segment.ensures.err image))

pub loop-number-preserved : goal.loop-number-preserved
loop-number-preserved g c =
    let bytes = c.args.bytes.now in
    let base = c.args.base in
    let number = c.loop-number.number in
    let image = c.loop-number.invariant.image in
    let rest = c.loop-number.rest.now in
    let header = c.program_header.result in
    let count = c.in-Ok.table.count in
    let more = count - (number + 1) in
    let left : count - number ≡ suc more = omega (arith, c.loop-number-test.true) in
    let new = c.in-Ok-take_segment.ensures.ok image c.loop-number.invariant.holds in
    let behind = c.behind-rest-in-loop-number.ensures in
    let len : length c.behind-rest-in-loop-number.result.now ≡ length rest - 32 =
    ap length behind ∙ length-drop 32 rest in
    let within = c.loop-number.invariant.within in
    record {
      image = new.0;
      holds = new.1;
      some = omega (arith, c.loop-number-test.true);
      within = omega (arith, c.loop-number-test.true, within, len);
      meaning = c.loop-number.invariant.meaning
          ∙ elf_next_header bytes base number (count - number) more rest header image left c.program_header.ensures
          ∙ elf_valid_step bytes base number header (elf_program_headers more (drop 32 rest)) image new.0 new.2
          ∙ ap (λ r. elf_with_segments bytes base (number + 1) (elf_program_headers more r) new.0) (sym behind);
    }

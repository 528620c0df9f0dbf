use Rattle.std.proofs.Common.{◌+◌, ◌^◌, length, All, Ok, Err, cond, ap, sym, ◌∙◌, arith, subst}
use Rattle.std.proofs.lemmas.Bool.{le-leb}
use Rattle.swd_image_files.specs.declared.fault.ImageFileFault.{ImageFileFault}
use Rattle.swd_image_files.specs.declared.fault.ImageFileFault.TheVariants.{Range}
use Rattle.swd_image_files.specs.Images.{ImageFileContents, image_file_add_data, image_file_nothing}
use Rattle.swd_image_files.specs.Overlaps.{IsSoundImageRange}
use Rattle.std.specs.Prelude.{Result}
use Rattle.swd_image_files.proofs.read.read_binary.Goals as goal

pub returns-clause-ok : goal.returns-clause-ok
returns-clause-ok g c =
    let image = image_file_add_data image_file_nothing c.args.base c.args.bytes.now in
    let some : Result ImageFileContents ImageFileFault = Ok image in
    let none : Result ImageFileContents ImageFileFault = Err Range in
    let stored = (c.add.ensures image_file_nothing c.new-held.ensures).stored c.if-held.false in
    ap (λ b. cond b some none) (le-leb (c.args.base + length c.args.bytes.now) (2 ^ 32) (omega arith))
    ∙ ap (λ (i : ImageFileContents). let r : Result ImageFileContents ImageFileFault = Ok i in r) (sym stored)

pub returns-clause-sound : goal.returns-clause-sound
returns-clause-sound g c =
    let holds = c.add.ensures image_file_nothing c.new-held.ensures in
    subst (λ (i : ImageFileContents). All IsSoundImageRange i.ranges) (sym (holds.stored c.if-held.false)) holds.sound

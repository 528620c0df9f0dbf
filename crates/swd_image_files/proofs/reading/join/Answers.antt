use Rattle.std.proofs.Common.{◌≢◌, List, ◌+◌, ◌∷◌, [], ◌++◌, sym, ap, ◌∙◌, arith}
use Rattle.swd_image_files.specs.Images.{image_file_ranges_joined, image_file_range}
use Rattle.swd_image_files.specs.declared.image.Range.{Range}
use Rattle.swd_image_files.proofs.ImageLemmas.{image_file_range_extends, image_file_range_appended}
use Rattle.swd_image_files.proofs.reading.join.Goals as goal
use Rattle.swd_image_files.proofs.reading.join.Goals.{else-last-addr-via-then-last-addr+else-addr-last}
use Rattle.swd_image_files.proofs.reading.join.Goals.{else-last-addr-via-else-last-addr}

pub returns-then-addr-last : goal.returns-then-addr-last
returns-then-addr-last g c =
    let last = c.in-Some.last in
    c.in_ok-push-2.ensures.items
    ∙ sym (image_file_range_extends c.pop.new.self.items last c.args.addr c.args.len (omega arith))
    ∙ ap (λ l. image_file_ranges_joined l c.args.addr c.args.len) (sym c.in-Some.ensures.items)

pub returns : goal.returns
returns g c =
    let last = c.in-Some.last in
    let new : List Range = image_file_range c.args.addr c.args.len ∷ [] in
    let n : last.addr + last.len ≢ c.args.addr = elim c.else-last-addr.branch [
      | else-last-addr-via-then-last-addr+else-addr-last w ↦ (λ e. omega arith)
      | else-last-addr-via-else-last-addr w ↦ (λ e. omega arith)
    ] in
    c.in_ok-push-4.ensures.items
    ∙ ap (λ (l : List Range). l ++ new) c.in_ok-push-3.ensures.items
    ∙ sym (image_file_range_appended c.pop.new.self.items last c.args.addr c.args.len n)
    ∙ ap (λ l. image_file_ranges_joined l c.args.addr c.args.len) (sym c.in-Some.ensures.items)

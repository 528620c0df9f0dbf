-- What both lines add to a block without output is written by the flush.
use Rattle.std.proofs.Common.{rules, [], ◌∷◌, ◌++◌, Result, Ok, Err, IfOk, OnOk, refl}
use Rattle.std.specs.Io.KnownBytes.{Appends}
use Rattle.swd_io.specs.Blocks.{BlockBufferSends}
use Rattle.swd_pages.proofs.io.write_pair.Goals as goal

on_ok : {A E P : Type 0} {Q : A → Type 0} (r : Result A E) → ((x : A) → Q x → P) → IfOk r Q → OnOk r P
on_ok (Ok x) f q = f x q
on_ok (Err e) f q = tt

pub returns : goal.returns
returns g c =
    let start = g.W.Write.contents c.args.writer.now in
    let text = (c.args.name.now ++ 10 ∷ []) ++ (c.args.value.now ++ 10 ∷ []) in
    let none : BlockBufferSends g.W.Write.contents start c.new-block.result [] =
    c.new-block.ensures.sends start [] (search rules) refl in
    let one : BlockBufferSends g.W.Write.contents start c.put_line.new.self (c.args.name.now ++ 10 ∷ []) =
    c.put_line.ensures.sends start [] none in
    let both : BlockBufferSends g.W.Write.contents start c.put_line-2.new.self text =
    c.put_line-2.ensures.sends start (c.args.name.now ++ 10 ∷ []) one in
    let gone : OnOk c.flush.result (Appends start (g.W.Write.contents c.flush.new.self.writer.now) text) =
    on_ok c.flush.result (λ told h. (h start text both).0) c.flush.ensures.ok in
    search rules

use Rattle.std.proofs.Common.{rules, ◌≡◌, ◌∙◌, ◌++◌, ◌∷◌, [], List, ℕ, refl, subst}
use Rattle.std.proofs.KnownBytes.{Appends-nil}
use Rattle.std.specs.Io.KnownBytes.{Appends}
use Rattle.swd_io.specs.Blocks.{BlockBufferSends, OutputStopped}
use Rattle.swd_check.specs.Lines.{check_line}
use Rattle.swd_check.proofs.text.write_line.Goals as goal

pub returns-in-Ok : goal.returns-in-Ok
returns-in-Ok g c =
    let start = g.W.Write.contents c.args.writer.now in
    let why = c.line-line.ensures.bytes.0 in
    let line = check_line c.args.checked.now why in
    let text : c.as_bytes.result.now ≡ line =
    c.as_bytes.ensures.value ∙ c.as_str.ensures.value ∙ c.line-line.ensures.bytes.1 in
    let put : BlockBufferSends g.W.Write.contents start c.put_line.new.self (line ++ 10 ∷ []) =
    subst (λ (l : List ℕ). BlockBufferSends g.W.Write.contents start c.put_line.new.self (l ++ 10 ∷ [])) text
    (c.put_line.ensures.sends start [] (c.new-block.ensures.sends start [] (Appends-nil start) refl)) in
    let gone : Appends start (g.W.Write.contents c.flush.new.self.writer.now) (line ++ 10 ∷ []) =
    (c.in-Ok.ensures.ok start (line ++ 10 ∷ []) put).0 in
    (why, search rules)

pub returns-in-Err : goal.returns-in-Err
returns-in-Err g c =
    let start = g.W.Write.contents c.args.writer.now in
    let why = c.line-line.ensures.bytes.0 in
    let line = check_line c.args.checked.now why in
    let text : c.as_bytes.result.now ≡ line =
    c.as_bytes.ensures.value ∙ c.as_str.ensures.value ∙ c.line-line.ensures.bytes.1 in
    let put : BlockBufferSends g.W.Write.contents start c.put_line.new.self (line ++ 10 ∷ []) =
    subst (λ (l : List ℕ). BlockBufferSends g.W.Write.contents start c.put_line.new.self (l ++ 10 ∷ [])) text
    (c.put_line.ensures.sends start [] (c.new-block.ensures.sends start [] (Appends-nil start) refl)) in
    let stopped : OutputStopped c.in-Err.written start (g.W.Write.contents c.flush.new.self.writer.now)
    (line ++ 10 ∷ []) =
    c.in-Err.ensures.err start (line ++ 10 ∷ []) put in
    (why, search rules)

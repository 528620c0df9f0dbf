use Rattle.std.proofs.Common.{◌≡◌, ℕ, [], ◌∷◌, List, ap, arith, get_or, length, refl, subst, sym}
use Rattle.swd_port.specs.PlainAnswers.{plain_reads}
use Rattle.swd_image.specs.Lists.{image_read_if, image_word_if}
use Rattle.swd_image.specs.Sessions.{ReadsAs, none}
use Rattle.swd_image.proofs.LoadLemmas.{reads_many}
use Rattle.swd_image.proofs.ReportLemmas.{to_nothing}
use Rattle.swd_image.proofs.loading.read_word.Goals as goal

one_item : (xs : List ℕ) (x : ℕ) → length xs ≡ 1 → x ≡ get_or xs 0 x → xs ≡ x ∷ []
one_item [] x l e = absurd (omega (arith, l))
one_item (y ∷ []) x l e = ap (λ z. z ∷ []) (sym e)
one_item (y ∷ z ∷ xs) x l e = absurd (omega (arith, l))

pub returns-then-not-needed-clause-read : goal.returns-then-not-needed-clause-read
returns-then-not-needed-clause-read g c =
    let s = c.args.wire.now in
    subst (λ b. ReadsAs g.W.Wire c.args.limits
    (image_read_if b c.args.at)
    (image_word_if b 0) s s) (sym c.if-not-needed.true) (record { answers = []; calls = none; told = refl })

pub index-requires : goal.index-requires
index-requires g c =
    let l : length c.in_ok-words.words.items ≡ 1 =
    reads_many g.W.Wire c.args.limits c.args.wire.now
    c.read_words.new.wire (plain_reads c.args.at 1) c.in_ok-words.words.items c.in_ok-words.ensures.read in
    omega (arith, l)

pub returns-clause-read : goal.returns-clause-read
returns-clause-read g c =
    let s = c.args.wire.now in
    let t = c.read_words.new.wire in
    let word = c.index.result.now in
    let l : length c.in_ok-words.words.items ≡ 1 =
    reads_many g.W.Wire c.args.limits s t (plain_reads c.args.at 1)
    c.in_ok-words.words.items c.in_ok-words.ensures.read in
    subst (λ b. ReadsAs g.W.Wire c.args.limits
    (image_read_if b c.args.at) (image_word_if b word) s t) (sym c.if-not-needed.false)
    (subst (λ l. ReadsAs g.W.Wire c.args.limits
    (plain_reads c.args.at 1) l s t)
    (one_item c.in_ok-words.words.items word l c.index.ensures) c.in_ok-words.ensures.read)

pub returns-then-not-needed-clause-report : goal.returns-then-not-needed-clause-report
returns-then-not-needed-clause-report g c =
    to_nothing g.W.Wire c.args.limits c.args.wire.now
    (image_read_if c.args.needed c.args.at) (g.S.CallReports.held c.args.report.now)
    (ap (λ b. image_read_if b c.args.at) c.if-not-needed.true)

-- Lists of reads and writes of consecutive words, one after the other.
use Rattle.std.proofs.Common.{◌≡◌, ◌+◌, ◌-◌, ◌*◌, ◌%◌, ◌≤◌, ◌^◌, ℕ, zero, suc, true, refl, sym, ap, ◌∙◌, arith}
use Rattle.std.proofs.Common.{[], ◌∷◌, ◌++◌, length, None, Some}
use Rattle.std.specs.Prelude.{◌==◌, ◌&&◌, Bool, false}
use Rattle.std.specs.List.{list_all}
use Rattle.std.proofs.lemmas.Bool.{eq-eqb}
use Rattle.swd_port.specs.declared.access.Access.TheVariants.{Read, Write}
use Rattle.swd_port.specs.PlainAnswers.{plain_reads}
use Rattle.swd_port.proofs.ReadLists.{plain_reads_length}
use Rattle.swd_script.specs.Laws.{IsScriptBatch, IsScriptBlock, is_script_word_access}
use Rattle.swd_image.specs.Lists.{image_writes}

-- reads of some words, and then of more
pub image_reads_split : (at m n : ℕ) → plain_reads at (m + n) ≡ plain_reads at m ++ plain_reads (at + 4 * m) n
image_reads_split at zero n = let e : zero + n ≡ n = omega arith in let f : at + 4 * zero ≡ at = omega arith in
    ap (plain_reads at) e ∙ ap (λ a. plain_reads a n) (sym f)
image_reads_split at (suc m) n =
    let e : suc m + n ≡ suc (m + n) = omega arith in
    let f : (at + 4) + 4 * m ≡ at + 4 * suc m = omega arith in
    ap (plain_reads at) e ∙ ap (λ l. Read at ∷ l)
    (image_reads_split (at + 4) m n ∙ ap (λ a. plain_reads (at + 4) m ++ plain_reads a n) f)

-- and so of writes
pub image_writes_split : (word : ℕ → ℕ) (at m n : ℕ)
    → image_writes word at (m + n) ≡ image_writes word at m ++ image_writes word (at + 4 * m) n
image_writes_split word at zero n = let e : zero + n ≡ n = omega arith in let f : at + 4 * zero ≡ at = omega arith in
    ap (image_writes word at) e ∙ ap (λ a. image_writes word a n) (sym f)
image_writes_split word at (suc m) n =
    let e : suc m + n ≡ suc (m + n) = omega arith in
    let f : (at + 4) + 4 * m ≡ at + 4 * suc m = omega arith in
    ap (image_writes word at) e ∙ ap (λ l. Write at (word at) ∷ l)
    (image_writes_split word (at + 4) m n ∙ ap (λ a. image_writes word (at + 4) m ++ image_writes word a n) f)

pub image_writes_length : (word : ℕ → ℕ) (at count : ℕ) → length (image_writes word at count) ≡ count
image_writes_length word at zero = refl
image_writes_length word at (suc count) = ap suc (image_writes_length word (at + 4) count)

-- one write more
pub image_writes_next : (word : ℕ → ℕ) (at count : ℕ)
    → image_writes word at (count + 1) ≡ image_writes word at count ++ Write (at + 4 * count) (word (at + 4 * count))
    ∷ []
image_writes_next word at count = image_writes_split word at count 1

both : (a b : Bool) → a ≡ true → b ≡ true → (a && b) ≡ true
both true b e f = f
both false b e f = absurd cc

-- each is of a word
pub image_reads_aligned : (at count : ℕ) → at % 4 ≡ 0 → list_all is_script_word_access (plain_reads at count) ≡ true
image_reads_aligned at zero h = refl
image_reads_aligned at (suc count) h =
    let here : (at % 4 == 0) ≡ true = eq-eqb (at % 4) 0 h in
    both (at % 4 == 0) (list_all is_script_word_access (plain_reads (at + 4) count)) here
    (image_reads_aligned (at + 4) count (omega arith))

pub image_writes_aligned : (word : ℕ → ℕ) (at count : ℕ) → at % 4 ≡ 0
    → list_all is_script_word_access (image_writes word at count) ≡ true
image_writes_aligned word at zero h = refl
image_writes_aligned word at (suc count) h =
    let here : (at % 4 == 0) ≡ true = eq-eqb (at % 4) 0 h in
    both (at % 4 == 0) (list_all is_script_word_access (image_writes word (at + 4) count)) here
    (image_writes_aligned word (at + 4) count (omega arith))

-- reads of so many words are one block
pub image_reads_are_block : (at count : ℕ) → at + 4 * count ≤ 2 ^ 32 → IsScriptBlock at (plain_reads at count)
image_reads_are_block at count end = record {
  same = ap (plain_reads at) (sym (plain_reads_length at count));
  end = let l = plain_reads_length at count in omega (arith, end, l);
}

-- the call that reads them is one that a host takes
pub image_block_is_batch : (at count : ℕ) → at % 4 ≡ 0 → count ≤ 65536 → at + 4 * count ≤ 2 ^ 32
    → IsScriptBatch (record { accesses = plain_reads at count; block = Some at; expected = []; until = None })
image_block_is_batch at count aligned few end = record {
  few = let l = plain_reads_length at count in omega (arith, few, l);
  accesses = image_reads_aligned at count aligned;
  block = image_reads_are_block at count end;
  waits = tt;
}

-- the words from the first that aren't read yet: those of the next call, and the others
pub image_reads_left : (at done many count : ℕ) → done + many ≤ count
    → plain_reads at count ≡ plain_reads at done
    ++ (plain_reads (at + 4 * done) many ++ plain_reads (at + 4 * done + 4 * many) (count - (done + many)))
image_reads_left at done many count l =
    let e : count ≡ done + (many + (count - (done + many))) = omega (arith, l) in
    ap (plain_reads at) e ∙ image_reads_split at done (many + (count - (done + many)))
    ∙ ap (λ l. plain_reads at done ++ l) (image_reads_split (at + 4 * done) many (count - (done + many)))

-- the call that writes them is one that a host takes
pub image_writes_are_batch : (word : ℕ → ℕ) (at count : ℕ) → at % 4 ≡ 0 → count ≤ 65536
    → IsScriptBatch (record { accesses = image_writes word at count; block = None; expected = []; until = None })
image_writes_are_batch word at count aligned few = record {
  few = let l = image_writes_length word at count in omega (arith, few, l);
  accesses = image_writes_aligned word at count aligned;
  block = tt;
  waits = tt;
}

-- the words from the first that aren't written yet: those of the next call, and the others
pub image_writes_left : (word : ℕ → ℕ) (at done many count : ℕ) → done + many ≤ count
    → image_writes word at count ≡ image_writes word at done
    ++ (image_writes word (at + 4 * done) many ++ image_writes word (at + 4 * done + 4 * many) (count - (done + many)))
image_writes_left word at done many count l =
    let e : count ≡ done + (many + (count - (done + many))) = omega (arith, l) in
    ap (image_writes word at) e ∙ image_writes_split word at done (many + (count - (done + many)))
    ∙ ap (λ l. image_writes word at done ++ l) (image_writes_split word (at + 4 * done) many (count - (done + many)))

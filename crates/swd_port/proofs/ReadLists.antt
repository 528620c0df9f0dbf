-- Lists of reads of words one after the other.
use Rattle.std.proofs.Common.{◌≡◌, ◌+◌, ◌*◌, ℕ, zero, suc, refl, ap, ◌∙◌, arith, add-one, [], ◌∷◌, ◌++◌, length}
use Rattle.swd_port.specs.declared.access.Access.TheVariants.{Read}
use Rattle.swd_port.specs.PlainAnswers.{plain_reads}

pub plain_reads_more : (addr count : ℕ) → plain_reads addr (suc count) ≡ plain_reads addr count
    ++ Read (addr + 4 * count) ∷ []
plain_reads_more addr zero = ap (λ a. Read a ∷ []) (omega arith)
plain_reads_more addr (suc count) =
    ap (λ x. Read addr ∷ x) (plain_reads_more (addr + 4) count
    ∙ ap (λ a. plain_reads (addr + 4) count ++ Read a ∷ []) (omega arith))

-- one read more is at the address after the last
pub plain_reads_next : (addr count : ℕ) → plain_reads addr (count + 1) ≡ plain_reads addr count
    ++ Read (addr + 4 * count) ∷ []
plain_reads_next addr count = ap (plain_reads addr) (add-one count) ∙ plain_reads_more addr count

-- the list of `count` reads has this length
pub plain_reads_length : (addr count : ℕ) → length (plain_reads addr count) ≡ count
plain_reads_length addr zero = refl
plain_reads_length addr (suc count) = ap suc (plain_reads_length (addr + 4) count)

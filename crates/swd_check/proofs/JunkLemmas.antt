-- Junk bits that a check takes one by one.
use Rattle.std.proofs.Common.{◌≡◌, ◌<◌, ◌+◌, ◌-◌, ◌/◌, ◌%◌, ℕ, suc, Bool, refl, sym, ap, subst, ◌∙◌, arith}
use Rattle.std.proofs.Common.{List, [], ◌∷◌, ◌++◌, map, append_assoc, append-nil}
use Rattle.std.specs.Prelude.{◌==◌}
use Rattle.std.proofs.lemmas.List.{map-append}
use Rattle.swd_bits.specs.Bits.{low_bits}
use Rattle.swd_bits.specs.BitLists.{tx_bits_of}
use Rattle.swd_bits.specs.declared.tx_bits.TxBits.{TxBits}
use Rattle.swd_trace.specs.declared.item.Item.TheVariants.{Junk}
use Rattle.swd_resync.specs.declared.part.Part.{Part}
use Rattle.swd_resync.specs.AsItems.{resync_items, resync_part_items}
use Rattle.swd_capture.specs.Printing.{capture_junk_parts}
use Rattle.swd_text.specs.Sinks.{sink_leads_join}
use Rattle.swd_check.specs.declared.check.Check.{Check}
use Rattle.swd_check.specs.Watched.{CheckHolds, CheckTakes}

-- the first of these bits were taken, of which this holds, and the others are left in a number
pub record JunkTaken (Led : List Bool → Type 0) (junk : TxBits) (index bits : ℕ) : Type 0 where
  pub done : List Bool
  pub all : done ++ low_bits (junk.len - index) bits ≡ tx_bits_of junk
  pub led : Led done

-- none is taken at first
pub check_junk_begins : (Led : List Bool → Type 0) (junk : TxBits) → Led [] → JunkTaken Led junk 0 junk.bits
check_junk_begins Led junk led = record {
  done = [];
  all = let size : junk.len - 0 ≡ junk.len = omega arith in ap (λ n. low_bits n junk.bits) size;
  led = led;
}

low_bits_next : (n rest bits : ℕ) → n ≡ suc rest → low_bits n bits ≡ (bits % 2 == 1) ∷ low_bits rest (bits / 2)
unfolding low_bits
low_bits_next n rest bits e = rw e refl

-- one bit more
pub check_junk_goes_on : (Led Now : List Bool → Type 0) (junk : TxBits) (index bits : ℕ) → index < junk.len
    → JunkTaken Led junk index bits → ((done : List Bool) → Led done → Now (done ++ (bits % 2 == 1) ∷ []))
    → JunkTaken Now junk (index + 1) (bits / 2)
check_junk_goes_on Led Now junk index bits inside h next =
    let b : Bool = bits % 2 == 1 in
    let size : junk.len - index ≡ suc (junk.len - (index + 1)) = omega (arith, inside) in record {
      done = h.done ++ b ∷ [];
      all = append_assoc h.done (b ∷ []) (low_bits (junk.len - (index + 1)) (bits / 2))
          ∙ ap (λ l. h.done ++ l) (sym (low_bits_next (junk.len - index) (junk.len - (index + 1)) bits size)) ∙ h.all;
      led = next h.done h.led;
    }

no_bits : (n bits : ℕ) → n ≡ 0 → low_bits n bits ≡ []
unfolding low_bits
no_bits n bits e = rw e refl

-- all are taken
pub check_junk_ends : (Led : List Bool → Type 0) (junk : TxBits) (index bits : ℕ) → index ≡ junk.len
    → JunkTaken Led junk index bits → Led (tx_bits_of junk)
check_junk_ends Led junk index bits end h =
    let none : junk.len - index ≡ 0 = omega (arith, end) in
    subst Led (sym (append-nil h.done)
    ∙ ap (λ l. h.done ++ l) (sym (no_bits (junk.len - index) bits none)) ∙ h.all) h.led

-- a check takes one junk bit more
pub check_junk_more : {A : Type 0} (check mid now : Check A) (b : Bool) → CheckTakes (Junk b ∷ []) mid now
    → (done : List Bool) → CheckTakes (map Junk done) check mid → CheckTakes (map Junk (done ++ b ∷ [])) check now
check_junk_more check mid now b next done taken = subst (λ l. CheckTakes l check now)
    (sym (map-append Junk done (b ∷ [])))
    (sink_leads_join CheckHolds check mid now (map Junk done) (Junk b ∷ []) taken next)

junk_as_items : (bits : List Bool) → resync_items (capture_junk_parts bits) ≡ map Junk bits
junk_as_items [] = refl
junk_as_items (b ∷ bits) = ap (λ l. Junk b ∷ l) (junk_as_items bits)

-- the items of parts, and of the junk bits behind them
pub check_junk_items : (seen : List Part) (bits : List Bool)
    → resync_items (seen ++ capture_junk_parts bits) ≡ resync_items seen ++ map Junk bits
check_junk_items [] bits = junk_as_items bits
check_junk_items (part ∷ seen) bits = ap (λ l. resync_part_items part ++ l) (check_junk_items seen bits)
    ∙ sym (append_assoc (resync_part_items part) (resync_items seen) (map Junk bits))

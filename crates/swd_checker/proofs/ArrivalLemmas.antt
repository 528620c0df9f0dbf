-- What the worlds hold to which those after a write were added.
use Rattle.std.proofs.Common.{◌≡◌, ◌<◌, ◌≤◌, ◌+◌, ℕ, Bool, true, false, refl, sym, ap, subst, arith, ◌∙◌, ◌⊎◌, inl, inr}
use Rattle.std.specs.Prelude.{Option, Some, None, not, ◌==◌}
use Rattle.swd_port.specs.declared.register.Register.{Register}
use Rattle.swd_port.specs.declared.register.Register.TheVariants.{AbortWrite, CtrlStatWrite, SelectWrite, CswWrite}
use Rattle.swd_port.specs.declared.register.Register.TheVariants.{TarWrite, DrwWrite, ApOtherWrite}
use Rattle.swd_port.specs.declared.csw.Csw.{Csw}
use Rattle.swd_port.specs.Registers.{register_bit, csw_of}
use Rattle.swd_port.specs.Port.{Target}
use Rattle.swd_port.specs.Moving.{Arrives, Damaged, port_after_bits}
use Rattle.swd_checker.specs.declared.worlds.Worlds.{Worlds}
use Rattle.swd_checker.specs.Worlds.{World, Tar, TransferWrite, TarFrom, world_after_damage}
use Rattle.swd_checker.specs.declared.near.Near.{Near}
use Rattle.swd_checker.specs.Described.{WorldDescribes, IsCheckedNear, checked_near_at}
use Rattle.swd_checker.specs.Holding.{WorldsHold, WorldsKeep}
use Rattle.swd_checker.specs.declared.step.Asked.{Asked}
use Rattle.swd_checker.specs.Asking.{IsAskedAlike}
use Rattle.swd_checker.specs.Steps.{world_powered, world_selecting, world_written}
use Rattle.swd_checker.specs.Adding.{WorldsArrive, WorldsDamage}
use Rattle.swd_checker.proofs.AddedLemmas.{WorldIsAdded}
use Rattle.swd_checker.proofs.HoldingLemmas.{worlds_hold_as, worlds_keep_then}
use Rattle.swd_checker.proofs.DescribedLemmas.{world_at_damage}
use Rattle.swd_checker.proofs.WriteLemmas.{world_at_ctrl_stat, world_at_select, world_at_csw_write}
use Rattle.swd_checker.proofs.WriteLemmas.{world_at_tar_write, world_at_drw_write, world_at_write_elsewhere}

-- the debug port's registers
pub arrive_ctrl_stat : (v : Worlds) (w u : World) (word : ℕ) → WorldIsAdded u v → u ≡ world_powered word w
    → WorldsArrive v w CtrlStatWrite word
arrive_ctrl_stat v w u word adds same = λ refuses x none h. worlds_hold_as v u (world_powered word w) w.awaits
    (port_after_bits refuses (Arrives CtrlStatWrite word) x) adds same refl (world_at_ctrl_stat w word refuses x h)

-- SELECT
pub arrive_select : (v : Worlds) (w u : World) (word : ℕ) → WorldIsAdded u v → u ≡ world_selecting word w
    → WorldsArrive v w SelectWrite word
arrive_select v w u word adds same = λ refuses x none h. worlds_hold_as v u (world_selecting word w) w.awaits
    (port_after_bits refuses (Arrives SelectWrite word) x) adds same refl (world_at_select w word refuses x h)

-- the access port's
pub arrive_csw : (v : Worlds) (w u : World) (csw : Csw) (single : Bool) (word : ℕ)
    → WorldIsAdded (record u { increments = single }) v → u ≡ world_written w → csw ≡ csw_of word
    → single ≡ (csw.addr_inc == 1) → WorldsArrive v w CswWrite word
arrive_csw v w u csw single word adds same is one = λ refuses x none h.
    worlds_hold_as v (record u { increments = single })
    (record (world_written w) { increments = (csw_of word).addr_inc == 1 }) w.awaits
    (port_after_bits refuses (Arrives CswWrite word) x) adds
    (ap (λ (z : World). record z { increments = single }) same
    ∙ ap (λ b. record (world_written w) { increments = b }) (one ∙ ap (λ (f : Csw). f.addr_inc == 1) is)) refl
    (world_at_csw_write w word refuses x (none refl) h)

-- TAR
pub arrive_tar : (v : Worlds) (w u : World) (tar : Tar) (word : ℕ) → WorldIsAdded (record u { tar = tar }) v
    → u ≡ world_written w → tar ≡ TarFrom word 0 → WorldsArrive v w TarWrite word
arrive_tar v w u tar word adds same is = λ refuses x none h. worlds_hold_as v (record u { tar = tar })
    (record (world_written w) { tar = TarFrom word 0 }) w.awaits
    (port_after_bits refuses (Arrives TarWrite word) x) adds
    (ap (λ (z : World). record z { tar = tar }) same ∙ ap (λ z. record (world_written w) { tar = z }) is) refl
    (world_at_tar_write w word refuses x (none refl) h)

-- DRW: a transfer is pending
pub arrive_drw : (v : Worlds) (w u : World) (word : ℕ) → WorldIsAdded (record u { pending = Some TransferWrite }) v
    → u ≡ world_written w → WorldsArrive v w DrwWrite word
arrive_drw v w u word adds same = λ refuses x none h. worlds_hold_as v (record u { pending = Some TransferWrite })
    (record (world_written w) { pending = Some TransferWrite }) w.awaits
    (port_after_bits refuses (Arrives DrwWrite word) x) adds
    (ap (λ (z : World). record z { pending = Some TransferWrite }) same) refl
    (world_at_drw_write w word refuses x (none refl) h)

-- a register elsewhere: nothing, or a bus error
pub arrive_other : (v : Worlds) (w u : World) (word : ℕ) → WorldIsAdded u v
    → ((x : Target) → WorldDescribes (record u { sticky_error = true }) x → WorldsHold v u.awaits x)
    → u ≡ world_written w → WorldsArrive v w ApOtherWrite word
arrive_other v w u word nothing error same = λ refuses x none h.
    elim (world_at_write_elsewhere w word refuses x (none refl) h)
    as (λ _. WorldsHold v w.awaits (port_after_bits refuses (Arrives ApOtherWrite word) x)) [
      | inl d ↦ subst (λ (z : World). (y : Target) → WorldDescribes z y → WorldsHold v z.awaits y) same nothing
          (port_after_bits refuses (Arrives ApOtherWrite word) x) d
      | inr d ↦ subst (λ (z : World). (y : Target) → WorldDescribes (record z { sticky_error = true }) y
          → WorldsHold v z.awaits y) same error (port_after_bits refuses (Arrives ApOtherWrite word) x) d
    ]

-- a register that no word changes
nothing_arrives : (r : Register) (refuses : Bool) (word : ℕ) (w : World) (x : Target) → (r ≡ AbortWrite → ⊥)
    → (r ≡ CtrlStatWrite → ⊥) → (r ≡ SelectWrite → ⊥) → (r ≡ CswWrite → ⊥) → (r ≡ TarWrite → ⊥)
    → (r ≡ DrwWrite → ⊥) → (r ≡ ApOtherWrite → ⊥) → WorldDescribes w x
    → WorldDescribes w (port_after_bits refuses (Arrives r word) x)
nothing_arrives AbortWrite refuses word w x a b d e f g k h = absurd (a refl)
nothing_arrives CtrlStatWrite refuses word w x a b d e f g k h = absurd (b refl)
nothing_arrives SelectWrite refuses word w x a b d e f g k h = absurd (d refl)
nothing_arrives CswWrite refuses word w x a b d e f g k h = absurd (e refl)
nothing_arrives TarWrite refuses word w x a b d e f g k h = absurd (f refl)
nothing_arrives DrwWrite refuses word w x a b d e f g k h = absurd (g refl)
nothing_arrives ApOtherWrite refuses word w x a b d e f g k h = absurd (k refl)
nothing_arrives r refuses word w x a b d e f g k h = h

-- the worlds after a word that changes nothing
pub arrive_nowhere : (v : Worlds) (w : World) (r : Register) (word : ℕ) → WorldIsAdded w v → (r ≡ AbortWrite → ⊥)
    → (r ≡ CtrlStatWrite → ⊥) → (r ≡ SelectWrite → ⊥) → (r ≡ CswWrite → ⊥) → (r ≡ TarWrite → ⊥)
    → (r ≡ DrwWrite → ⊥) → (r ≡ ApOtherWrite → ⊥) → WorldsArrive v w r word
arrive_nowhere v w r word adds a b d e f g k = λ refuses x none h.
    adds (port_after_bits refuses (Arrives r word) x) (nothing_arrives r refuses word w x a b d e f g k h)

-- data that arrives damaged
pub damage_added : (v : Worlds) (w u : World) → WorldIsAdded u v → u ≡ world_after_damage w → WorldsDamage v w
damage_added v w u adds same = λ refuses x h. worlds_hold_as v u (world_after_damage w) w.awaits
    (port_after_bits refuses Damaged x) adds same refl (world_at_damage w refuses x h)

-- the same where it may arrive so, and more worlds are added
pub damage_kept : (u v : Worlds) (w after : World) (clean : Bool) → clean ≡ false
    → (not clean ≡ true → WorldIsAdded after u) → after ≡ world_after_damage w → WorldsKeep u v → WorldsDamage v w
damage_kept u v w after clean dirty adds same keeps = λ refuses x h.
    keeps.each _ _ (damage_added u w after (adds (ap not dirty)) same refuses x h)

-- more worlds are added
pub damage_later : (u v : Worlds) (w after : World) → WorldIsAdded after u → after ≡ world_after_damage w
    → WorldsKeep u v → WorldsDamage v w
damage_later u v w after adds same keeps = λ refuses x h.
    keeps.each _ _ (damage_added u w after adds same refuses x h)

-- what the same request, of which one more is damaged, adds
pub cured_as : (asked again : Asked) (v : Worlds) (word : ℕ) → IsAskedAlike again asked → again.world ≡ asked.world
    → WorldsArrive v again.world again.register word → WorldsArrive v asked.world asked.register word
cured_as asked again v word same world arrives = subst (λ w. WorldsArrive v w asked.register word) world
    (subst (λ r. WorldsArrive v again.world r word) same.register arrives)

-- what was added stays added
arrive_kept : (u v : Worlds) (w : World) (r : Register) (word : ℕ) → WorldsKeep u v → WorldsArrive u w r word
    → WorldsArrive v w r word
arrive_kept u v w r word keeps arrives = λ refuses x none h. keeps.each _ _ (arrives refuses x none h)

-- the words up to a place of a damaged one arrived
pub record WorldsCuring (u v : Worlds) (w : World) (r : Register) (sent : Near) (place : ℕ) : Type 0 where
  pub keeps : WorldsKeep u v
  pub cures : (k : ℕ) → k < place → register_bit k sent.places ≡ true → WorldsArrive v w r (checked_near_at sent k)

below_or_last : (k place : ℕ) → k < place + 1 → (k < place) ⊎ (k ≡ place)
below_or_last k place h = grind arith

-- the word at a place that is one of the set
pub cured_word : (sent : Near) (place word : ℕ) (found : Option ℕ)
    → (register_bit place sent.places ≡ true → found ≡ Some (checked_near_at sent place)) → found ≡ Some word
    → register_bit place sent.places ≡ true → word ≡ checked_near_at sent place
cured_word sent place word found some is set =
    let e : Some (checked_near_at sent place) ≡ Some word = sym (some set) ∙ is in cc

-- a place that is none of the set
pub cured_none : (P : Type 0) (sent : Near) (place : ℕ) (found : Option ℕ)
    → (register_bit place sent.places ≡ true → found ≡ Some (checked_near_at sent place)) → found ≡ None
    → register_bit place sent.places ≡ true → P
cured_none P sent place found some none set =
    absurd (let e : Some (checked_near_at sent place) ≡ None = sym (some set) ∙ none in cc)

-- the word at one place more arrived
pub curing_more : (u v last : Worlds) (w : World) (r : Register) (sent : Near) (place : ℕ) → WorldsKeep v last
    → (register_bit place sent.places ≡ true → WorldsArrive last w r (checked_near_at sent place))
    → WorldsCuring u v w r sent place → WorldsCuring u last w r sent (place + 1)
curing_more u v last w r sent place keeps arrives before = record {
  keeps = worlds_keep_then u v last before.keeps keeps;
  cures = λ k below set. elim (below_or_last k place below) as (λ _. WorldsArrive last w r (checked_near_at sent k)) [
    | inl earlier ↦ arrive_kept v last w r (checked_near_at sent k) keeps (before.cures k earlier set)
    | inr same ↦ subst (λ p. WorldsArrive last w r (checked_near_at sent p)) (sym same)
        (arrives (subst (λ p. register_bit p sent.places ≡ true) same set))
  ];
}

-- all of them
pub curing_done : (u v : Worlds) (w : World) (r : Register) (sent : Near) (place word : ℕ) → 33 ≤ place
    → WorldsCuring u v w r sent place → IsCheckedNear sent word → WorldsArrive v w r word
curing_done u v w r sent place word past h (k, inside, set, is) =
    subst (WorldsArrive v w r) (sym is) (h.cures k (omega arith) set)

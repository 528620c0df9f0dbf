-- DPIDR's word: it never changes, and a read returns it.
use Rattle.std.proofs.Common.{◌≡◌, ℕ, Bool, true, false, refl, sym, ap, subst, ◌∙◌, inl, inr}
use Rattle.std.specs.Prelude.{Option, Some, None, IfSome}
use Rattle.swd_bits.specs.declared.request.Request.{Request}
use Rattle.swd_bits.specs.declared.request.Reg4.{Reg4}
use Rattle.swd_bits.specs.declared.request.Reg4.TheVariants.{R0, R4, R8, RC}
use Rattle.swd_bits.specs.declared.tx.TxEnd.{TxEnd}
use Rattle.swd_bits.specs.declared.tx.TxEnd.TheVariants.{Moved, Wait, Fault, NoAck}
use Rattle.swd_port.specs.declared.register.Register.TheVariants.{DpidrRead}
use Rattle.swd_port.specs.Port.{Port, Target, port_register_where}
use Rattle.swd_port.proofs.RequestLaws.{port_steady_after}
use Rattle.swd_checker.specs.declared.near.Near.{Near}
use Rattle.swd_checker.specs.Described.{IsCheckedNear}
use Rattle.swd_checker.specs.Checked.{CheckedTransacts, CheckedTransactsKept}
use Rattle.swd_checker.specs.Standing.{IsSeenIn, checked_reads_dpidr}
use Rattle.swd_checker.specs.Words.{IsSomeNear}
use Rattle.swd_checker.proofs.KeepingLemmas.{KeepsFact, transact_keeps}
use Rattle.swd_checker.proofs.TransactLemmas.{dpidr_whole, dpidr_changed}

abbrev IsIdentifiedBy : ℕ → Target → Type 0
IsIdentifiedBy n x = x.identification ≡ n

identification_keeps : (n : ℕ) (q : Request) → KeepsFact (IsIdentifiedBy n) (λ r. Unit {0}) q
identification_keeps n q = record {
  completes = λ c x e. e;
  names = λ x e. tt;
  replies = λ c a r x named e. (port_steady_after c a r q.ap x).identification ∙ e;
  writes = λ refuses r word x read named e. e;
}

-- a transaction keeps DPIDR's word
pub same_identification : (clean : Bool) (end : TxEnd) (q : Request) (s t : Port) → CheckedTransacts clean end q s t
    → t.target.identification ≡ s.target.identification
same_identification clean end q s t (inl h) = transact_keeps (IsIdentifiedBy s.target.identification) (λ r. Unit {0})
    clean q end s t (identification_keeps s.target.identification q) h refl
same_identification clean end q s t (inr g) = transact_keeps (IsIdentifiedBy s.target.identification) (λ r. Unit {0})
    clean q end g.given t (identification_keeps s.target.identification q) g.transacts
    (ap (λ d. d.target.identification) g.gives.after)

dpidr_by : (ap m b read : Bool) (addr : Reg4) → checked_reads_dpidr addr ap read ≡ true
    → (read ≡ true) × (port_register_where m b ap read addr ≡ DpidrRead)
dpidr_by false m b true R0 e = (refl, refl)
dpidr_by false m b false R0 e = absurd (cc)
dpidr_by true m b read R0 e = absurd (cc)
dpidr_by ap m b read R4 e = absurd (cc)
dpidr_by ap m b read R8 e = absurd (cc)
dpidr_by ap m b read RC e = absurd (cc)

dpidr_read : (q : Request) → checked_reads_dpidr q.addr q.ap q.read ≡ true → q.read ≡ true
dpidr_read q e = (dpidr_by q.ap true true q.read q.addr e).0

dpidr_named : (q : Request) → checked_reads_dpidr q.addr q.ap q.read ≡ true → (mem_ap bank0 : Bool)
    → port_register_where mem_ap bank0 q.ap q.read q.addr ≡ DpidrRead
dpidr_named q e mem_ap bank0 = (dpidr_by q.ap mem_ap bank0 q.read q.addr e).1

unseen : (n : ℕ) (seen : Option Near) → seen ≡ None → IfSome seen (λ near. IsCheckedNear near n)
unseen n seen none = subst (λ o. IfSome o (λ near. IsCheckedNear near n)) (sym none) tt

kept_seen : (clean : Bool) (end : TxEnd) (q : Request) (seen : Option Near) (s t : Port)
    → IsSeenIn end seen → checked_reads_dpidr q.addr q.ap q.read ≡ true → CheckedTransactsKept clean end q s t
    → IfSome seen (λ near. IsCheckedNear near s.target.identification)
kept_seen clean (Moved word ok) q None s t seen reads h = tt
kept_seen clean (Moved word true) q (Some near) s t seen reads h =
    subst (IsCheckedNear near) (dpidr_whole clean q word s t (dpidr_read q reads) (dpidr_named q reads) h) (seen.0 refl)
kept_seen clean (Moved word false) q (Some near) s t seen reads h =
    let k = dpidr_changed clean q word s t (dpidr_read q reads) (dpidr_named q reads) h in
    subst (IsCheckedNear near) (sym k.2) (seen.1 refl k.0 k.1)
kept_seen clean Wait q seen s t none reads h = unseen s.target.identification seen none
kept_seen clean Fault q seen s t none reads h = unseen s.target.identification seen none
kept_seen clean (NoAck end) q seen s t none reads h = unseen s.target.identification seen none

-- the words that a read of DPIDR may have returned have its word
pub identification_seen : (clean : Bool) (end : TxEnd) (q : Request) (seen : Option Near) (s t : Port)
    → IsSeenIn end seen → checked_reads_dpidr q.addr q.ap q.read ≡ true → CheckedTransacts clean end q s t
    → IfSome seen (λ near. IsCheckedNear near s.target.identification)
identification_seen clean end q seen s t is reads (inl h) = kept_seen clean end q seen s t is reads h
identification_seen clean end q seen s t is reads (inr g) =
    subst (λ d. IfSome seen (λ near. IsCheckedNear near d.target.identification)) g.gives.after
    (kept_seen clean end q seen g.given t is reads g.transacts)

-- what is left of them
pub identification_some : (odd : Option Near) (near : Near) (n : ℕ) → odd ≡ Some near → IsSomeNear odd n
    → IsCheckedNear near n
identification_some odd near n is h = subst (λ o. IsSomeNear o n) is h

-- nothing is left
pub identification_none : (odd : Option Near) (n : ℕ) (P : Type 0) → odd ≡ None → IsSomeNear odd n → P
identification_none odd n P is h = absurd (subst (λ o. IsSomeNear o n) is h)

-- there was no data phase
pub seen_in_none : (end : TxEnd) → IsSeenIn end None
seen_in_none (Moved word ok) = tt
seen_in_none Wait = refl
seen_in_none Fault = refl
seen_in_none (NoAck seen) = refl

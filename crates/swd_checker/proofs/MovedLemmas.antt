-- What OK and a data phase add is reached.
use Rattle.std.proofs.Common.{◌≡◌, ◌<◌, ◌^◌, ℕ, Bool, true, false, refl, sym, ap, subst, ◌∙◌}
use Rattle.std.specs.Prelude.{Some, None, is_some, if◌then◌else◌}
use Rattle.swd_bits.specs.declared.tx.Tx.{Tx as Transaction}
use Rattle.swd_bits.specs.declared.tx.TxEnd.TheVariants.{Moved}
use Rattle.swd_bits.specs.Transactions.{IsTxEnd}
use Rattle.swd_port.specs.declared.register.Register.{Register}
use Rattle.swd_port.specs.declared.state.Reply.TheVariants.{Okay}
use Rattle.swd_port.specs.Answers.{is_exempt_register}
use Rattle.swd_checker.specs.Worlds.{World, world_succeeded, world_failed, world_confirmed}
use Rattle.swd_checker.specs.Described.{checked_changed_at}
use Rattle.swd_checker.specs.Steps.{world_register, world_due, world_cleared}
use Rattle.swd_checker.specs.Reaching.{CheckedLink, LinkSteps, LinkLeads, WorldReaches, IsLinkWord, checked_near_seen}
use Rattle.swd_checker.specs.Reached.{WorldsFindAll, WorldsReadSeen, WorldsArriveAt, WorldsTransfer, WorldsMove}
use Rattle.swd_checker.specs.Reached.{world_accepted}
use Rattle.swd_checker.proofs.MarkLemmas.{WriteMark, mark_written, mark_cured, mark_damaged, changed_word_small}
use Rattle.swd_checker.proofs.MovesLemmas.{LinkBase, base_okayed, world_okayed, world_okayed_pending, write_reaches}
use Rattle.swd_checker.proofs.MovesLemmas.{base_exempt, base_failed, base_settled}
use Rattle.swd_checker.proofs.WrittenLemmas.{arrivals_reached, abort_reached, damage_writes}
use Rattle.swd_checker.proofs.SeenLemmas.{reads_reached, status_reached}

-- the base in which the pending transfer was a bus error, for a request that is never refused
abbrev BaseFails : CheckedLink → Bool → Transaction → World → Register → Type 0
BaseFails link clean tx b r = is_exempt_register r ≡ true → is_some (base_okayed tx r b).pending ≡ true
    → (failed : World) × LinkBase link clean tx failed r
    × (base_okayed tx r failed ≡ world_failed (base_okayed tx r b))

arrives : (link : CheckedLink) (clean : Bool) (tx : Transaction) (b : World) (r : Register) (word : ℕ) (ok : Bool)
    (found : ℕ) → LinkBase link clean tx b r → BaseFails link clean tx b r → tx.request.read ≡ false
    → tx.result ≡ Moved word ok → word < 2 ^ 32 → found < 2 ^ 32 → WriteMark clean ok word r (Some found)
    → WorldsArriveAt link (base_okayed tx r b) r found
arrives link clean tx b r word ok found k fails write is small within mark =
    arrivals_reached link clean tx b r word ok found k write is small within mark (λ e pends.
    let f = fails (ap is_exempt_register e) pends in
    subst (λ z. WorldReaches link (world_cleared found z)) f.2
    (abort_reached link clean tx f.0 r word ok found f.1 write is small mark e))

reads : (link : CheckedLink) (clean : Bool) (tx : Transaction) (b : World) (r : Register) (word : ℕ) (ok : Bool)
    → LinkBase link clean tx b r → BaseFails link clean tx b r → tx.request.read ≡ true → tx.result ≡ Moved word ok
    → word < 2 ^ 32 → (ok ≡ false → clean ≡ false) → IsLinkWord link.identification tx
    → WorldsReadSeen link (base_okayed tx r b) r (checked_near_seen word ok) ok
reads link clean tx b r word ok k fails read is small may known =
    reads_reached link clean tx b r word ok k read is small may known (λ e pends.
    let f = fails (ap is_exempt_register e) pends in
    subst (λ z. WorldsFindAll link z (checked_near_seen word ok) ok) f.2
    (status_reached link clean tx f.0 r word ok f.1 read is small may e))

transfer_reached : (link : CheckedLink) (clean : Bool) (tx : Transaction) (b : World) (r : Register) (word : ℕ)
    (ok : Bool) → LinkBase link clean tx b r → BaseFails link clean tx b r → tx.result ≡ Moved word ok
    → word < 2 ^ 32 → IsLinkWord link.identification tx
    → WorldsTransfer link (base_okayed tx r b) r tx.request.read clean word ok
transfer_reached link clean tx b r word ok k fails is small known = record {
  written = λ write right. arrives link clean tx b r word ok word k fails write is small small
      (subst (λ o. WriteMark clean o word r (Some word)) (sym right) (mark_written clean word r small));
  damaged = λ write may. write_reaches link clean tx b _ r word ok None k write is small
      (mark_damaged clean ok word r small may) (damage_writes link.identification r (base_okayed tx r b));
  cured = λ write wrong may place inside. arrives link clean tx b r word ok (checked_changed_at word place) k fails
      write is small (changed_word_small word place small inside)
      (subst (λ o. WriteMark clean o word r (Some (checked_changed_at word place))) (sym wrong)
      (mark_cured clean word r place small may inside));
  whole = λ read right. subst (λ o. WorldsReadSeen link (base_okayed tx r b) r (checked_near_seen word o) o) right
      (reads link clean tx b r word ok k fails read is small
      (λ e. absurd (let f : true ≡ false = sym right ∙ e in cc)) known);
  changed = λ read wrong may. subst (λ o. WorldsReadSeen link (base_okayed tx r b) r (checked_near_seen word o) o) wrong
      (reads link clean tx b r word ok k fails read is small (λ e. may) known);
}

-- THE WORLD AFTER OK
okayed_exempt : (exempt ap : Bool) (w : World) → exempt ≡ true
    → world_okayed exempt ap w ≡ (record (if exempt then w else world_confirmed ap w) { awaits = false })
okayed_exempt true ap w e = refl
okayed_exempt false ap w e = absurd (cc)

okayed_failed : (exempt ap : Bool) (w : World) → exempt ≡ true
    → world_okayed exempt ap (world_failed w) ≡ world_failed (world_okayed exempt ap w)
okayed_failed true ap w e = refl
okayed_failed false ap w e = absurd (cc)

okayed_plain : (exempt ap : Bool) (w : World) → exempt ≡ false
    → world_okayed exempt ap (world_succeeded w)
    ≡ (record (if exempt then w else world_confirmed ap w) { awaits = false })
okayed_plain false ap w e = refl
okayed_plain true ap w e = absurd (cc)

moves_by : (exempt : Bool) (link : CheckedLink) (w : World) (clean : Bool) (tx : Transaction) (r : Register) (word : ℕ)
    (ok : Bool) → is_exempt_register r ≡ exempt → world_register w tx.request ≡ r → LinkSteps link clean tx
    → LinkLeads true link clean tx w → tx.result ≡ Moved word ok → world_due w tx.request ≡ Okay
    → WorldsTransfer link (world_accepted false r tx.request.ap w) r tx.request.read clean word ok
moves_by true link w clean tx r word ok e names steps leads is due =
    subst (λ m. WorldsTransfer link m r tx.request.read clean word ok)
    (okayed_exempt (is_exempt_register r) tx.request.ap w e)
    (transfer_reached link clean tx w r word ok (base_exempt link clean tx w r leads names e due)
    (λ exempt pends. (
      world_failed w,
      base_failed link clean tx w r leads names e due
          (sym (ap is_some (world_okayed_pending (is_exempt_register r) tx.request.ap w)) ∙ pends),
      okayed_failed (is_exempt_register r) tx.request.ap w e,
    )) is (subst IsTxEnd is steps.legal) steps.word)
moves_by false link w clean tx r word ok e names steps leads is due =
    subst (λ m. WorldsTransfer link m r tx.request.read clean word ok)
    (okayed_plain (is_exempt_register r) tx.request.ap w e)
    (transfer_reached link clean tx (world_succeeded w) r word ok
    (base_settled link clean tx w r leads names e due)
    (λ exempt pends. absurd (let f : true ≡ false = sym exempt ∙ e in cc)) is (subst IsTxEnd is steps.legal) steps.word)

-- the worlds after OK and a data phase are reached
pub moves_reached : (link : CheckedLink) (w : World) (clean : Bool) (tx : Transaction) (word : ℕ) (ok : Bool)
    → LinkSteps link clean tx → LinkLeads true link clean tx w → tx.result ≡ Moved word ok
    → WorldsMove link w tx.request (world_register w tx.request) clean word ok
moves_reached link w clean tx word ok steps leads is = λ due.
    moves_by (is_exempt_register (world_register w tx.request)) link w clean tx (world_register w tx.request) word ok
    refl refl steps leads is due

use Rattle.std.proofs.Common.{◌≡◌, ◌∙◌, ◌∷◌, ◌++◌, [], ap, arith, sym, false, true}
use Rattle.std.specs.Prelude.{is_some}
use Rattle.swd_port.specs.declared.access.Access.TheVariants.{Write}
use Rattle.swd_port.specs.declared.access.Transfer.{Transfer}
use Rattle.swd_devices.specs.declared.core_target.CoreTarget.{CoreTarget}
use Rattle.swd_devices.specs.CoreTargets.{core_target_after}
use Rattle.swd_devices.specs.LoggedCores.{core_target_parts, logged_core_state}
use Rattle.swd_devices.proofs.LoggedLemmas.{logged_full_after, logged_full_answer, logged_parts_after}
use Rattle.swd_devices.proofs.LoggedLemmas.{logged_parts_answer, logged_room_answer, logged_write_after}
use Rattle.swd_devices.proofs.logged_core.LoggedCore.log_write.Goals as goal

pub returns-then-not-has_room-clause-done : goal.returns-then-not-has_room-clause-done
returns-then-not-has_room-clause-done g c = ap is_some (sym (logged_full_answer (Write c.args.addr c.args.word)
    (logged_core_state c.args.self.now) (sym c.has_room.ensures ∙ c.if-not-has_room.true)))

pub returns-then-not-has_room-clause-after : goal.returns-then-not-has_room-clause-after
returns-then-not-has_room-clause-after g c = sym (logged_full_after (Write c.args.addr c.args.word)
    (logged_core_state c.args.self.now) (sym c.has_room.ensures ∙ c.if-not-has_room.true))

pub returns-then-not-write-clause-done : goal.returns-then-not-write-clause-done
returns-then-not-write-clause-done g c =
    let a = Write c.args.addr c.args.word in
    sym (ap is_some (logged_room_answer a (logged_core_state c.args.self.now)
    (sym c.has_room.ensures ∙ c.if-not-has_room.false)
    ∙ sym (logged_parts_answer a c.args.self.now.target)) ∙ sym c.write.ensures.answer ∙ c.if-not-write.true)

pub returns-then-not-write-clause-after : goal.returns-then-not-write-clause-after
returns-then-not-write-clause-after g c =
    let a = Write c.args.addr c.args.word in
    let s = logged_core_state c.args.self.now in
    let room = sym c.has_room.ensures ∙ c.if-not-has_room.false in
    ap (λ (t : CoreTarget (Unit {0})). record s { target = t })
    (ap core_target_parts c.write.ensures.after ∙ logged_parts_after a c.args.self.now.target)
    ∙ sym (logged_write_after c.args.addr c.args.word s false room
    (ap is_some (sym (logged_parts_answer a c.args.self.now.target)) ∙ sym c.write.ensures.answer
    ∙ c.if-not-write.true))

pub returns-clause-done : goal.returns-clause-done
returns-clause-done g c =
    let a = Write c.args.addr c.args.word in
    sym (ap is_some (logged_room_answer a (logged_core_state c.args.self.now)
    (sym c.has_room.ensures ∙ c.if-not-has_room.false)
    ∙ sym (logged_parts_answer a c.args.self.now.target)) ∙ sym c.write.ensures.answer ∙ c.if-not-write.false)

pub returns-clause-after : goal.returns-clause-after
returns-clause-after g c =
    let a = Write c.args.addr c.args.word in
    let s = logged_core_state c.args.self.now in
    let room = sym c.has_room.ensures ∙ c.if-not-has_room.false in
    let line : Transfer = record { read = false; addr = c.args.addr; word = c.args.word } in
    let log : c.push.new.self.items ≡ s.log ++ line ∷ [] =
    grind (arith, c.push.ensures.items, c.push.ensures.succeeds) in
    ap (λ (t : CoreTarget (Unit {0})). record s { target = t; log = c.push.new.self.items })
    (ap core_target_parts c.write.ensures.after ∙ logged_parts_after a c.args.self.now.target)
    ∙ ap (λ l. record s { target = core_target_after a s.target; log = l }) log
    ∙ sym (logged_write_after c.args.addr c.args.word s true room
    (ap is_some (sym (logged_parts_answer a c.args.self.now.target)) ∙ sym c.write.ensures.answer
    ∙ c.if-not-write.false))

use Rattle.std.proofs.Common.{◌≡◌, ◌∙◌, ◌∷◌, ◌++◌, [], None, Some, ap, arith, sym, true}
use Rattle.swd_port.specs.declared.access.Access.TheVariants.{Read}
use Rattle.swd_port.specs.declared.access.Transfer.{Transfer}
use Rattle.swd_devices.specs.declared.core_target.CoreTarget.{CoreTarget}
use Rattle.swd_devices.specs.CoreTargets.{core_target_after}
use Rattle.swd_devices.specs.LoggedCores.{core_target_parts, logged_core_state}
use Rattle.swd_devices.proofs.LoggedLemmas.{logged_full_after, logged_full_answer, logged_parts_after}
use Rattle.swd_devices.proofs.LoggedLemmas.{logged_parts_answer, logged_read_after, logged_room_answer}
use Rattle.swd_devices.proofs.logged_core.LoggedCore.log_read.Goals as goal

pub returns-then-not-has_room-clause-word : goal.returns-then-not-has_room-clause-word
returns-then-not-has_room-clause-word g c = sym (logged_full_answer (Read c.args.addr)
    (logged_core_state c.args.self.now) (sym c.has_room.ensures ∙ c.if-not-has_room.true))

pub returns-then-not-has_room-clause-after : goal.returns-then-not-has_room-clause-after
returns-then-not-has_room-clause-after g c = sym (logged_full_after (Read c.args.addr)
    (logged_core_state c.args.self.now) (sym c.has_room.ensures ∙ c.if-not-has_room.true))

pub returns-in_default-clause-word : goal.returns-in_default-clause-word
returns-in_default-clause-word g c =
    let a = Read c.args.addr in
    sym (logged_room_answer a (logged_core_state c.args.self.now) (sym c.has_room.ensures ∙ c.if-not-has_room.false)
    ∙ sym (logged_parts_answer a c.args.self.now.target) ∙ sym c.read.ensures.answer ∙ c.in_default.is)

pub returns-in_default-clause-after : goal.returns-in_default-clause-after
returns-in_default-clause-after g c =
    let a = Read c.args.addr in
    let s = logged_core_state c.args.self.now in
    let room = sym c.has_room.ensures ∙ c.if-not-has_room.false in
    ap (λ (t : CoreTarget (Unit {0})). record s { target = t })
    (ap core_target_parts c.read.ensures.after ∙ logged_parts_after a c.args.self.now.target)
    ∙ sym (logged_read_after c.args.addr s None room
    (sym (logged_parts_answer a c.args.self.now.target) ∙ sym c.read.ensures.answer ∙ c.in_default.is))

pub returns-clause-word : goal.returns-clause-word
returns-clause-word g c =
    let a = Read c.args.addr in
    sym (logged_room_answer a (logged_core_state c.args.self.now) (sym c.has_room.ensures ∙ c.if-not-has_room.false)
    ∙ sym (logged_parts_answer a c.args.self.now.target) ∙ sym c.read.ensures.answer ∙ c.in-Some.is)

pub returns-clause-after : goal.returns-clause-after
returns-clause-after g c =
    let a = Read c.args.addr in
    let s = logged_core_state c.args.self.now in
    let room = sym c.has_room.ensures ∙ c.if-not-has_room.false in
    let line : Transfer = record { read = true; addr = c.args.addr; word = c.in-Some.word } in
    let log : c.push.new.self.items ≡ s.log ++ line ∷ [] =
    grind (arith, c.push.ensures.items, c.push.ensures.succeeds) in
    ap (λ (t : CoreTarget (Unit {0})). record s { target = t; log = c.push.new.self.items })
    (ap core_target_parts c.read.ensures.after ∙ logged_parts_after a c.args.self.now.target)
    ∙ ap (λ l. record s { target = core_target_after a s.target; log = l }) log
    ∙ sym (logged_read_after c.args.addr s (Some c.in-Some.word) room
    (sym (logged_parts_answer a c.args.self.now.target) ∙ sym c.read.ensures.answer ∙ c.in-Some.is))

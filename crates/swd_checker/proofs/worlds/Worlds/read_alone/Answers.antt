use Rattle.std.proofs.Common.{◌≡◌, length, refl, ap, ◌∙◌, arith}
use Rattle.swd_bits.specs.declared.tx.TxEnd.TheVariants.{Moved}
use Rattle.swd_checker.proofs.AloneLemmas.{alone_taken}
use Rattle.swd_checker.proofs.worlds.Worlds.read_alone.Goals as goal

pub returns-clause-steps : goal.returns-clause-steps
returns-clause-steps c = λ e.
    let items = c.args.self.now.kept.items in
    let count = c.len.ensures.value in
    let one : length items ≡ 1 = omega arith in
    let p = c.in-Moved in
    (alone_taken items c.deref.result.now c.deref_mut.result.now _ _ c.args.tx.now p.word c.register-register.result
    c.in-Some.held c.take_read.new.self _ _ one c.deref.ensures.0 c.deref_mut.ensures.value c.if-not-tx.false
    (p.is ∙ ap (Moved p.word) c.if-not-parity_ok.false) c.register-register.ensures c.in-Some.ensures.read
    c.in-Some.ensures.returns c.take_read.ensures refl).steps

pub returns-clause-reaches : goal.returns-clause-reaches
returns-clause-reaches c = λ e.
    let items = c.args.self.now.kept.items in
    let count = c.len.ensures.value in
    let one : length items ≡ 1 = omega arith in
    let p = c.in-Moved in
    (alone_taken items c.deref.result.now c.deref_mut.result.now _ _ c.args.tx.now p.word c.register-register.result
    c.in-Some.held c.take_read.new.self _ _ one c.deref.ensures.0 c.deref_mut.ensures.value c.if-not-tx.false
    (p.is ∙ ap (Moved p.word) c.if-not-parity_ok.false) c.register-register.ensures c.in-Some.ensures.read
    c.in-Some.ensures.returns c.take_read.ensures refl).reaches

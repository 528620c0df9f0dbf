use Rattle.std.proofs.Common.{◌≡◌, ◌++◌, ◌-◌, ◌+◌, ◌∷◌, [], drop, suc, subst, sym, ap, ◌∙◌, arith, length}
use Rattle.std.proofs.Common.{length-append}
use Rattle.swd_dap.specs.Sequences.{dap_bytes_of, dap_byte_of, dap_drive_request}
use Rattle.swd_dap.proofs.TransferLemmas.{dap_behind_eight, dap_byte_is_put}
use Rattle.swd_dap.proofs.requests.drive_request.Goals as goal

pub loop-preserved : goal.loop-preserved
loop-preserved c =
    let bits = c.loop.rest.now in
    let before = c.loop.packet.items in
    let after = c.put-in-loop.new.packet.items in
    let all = dap_drive_request c.args.bits.now in
    let n = c.div_ceil-end.result - c.loop.counter in
    let m = c.div_ceil-end.result - (c.loop.counter + 1) in
    let one_less : n ≡ suc m = omega arith in
    let put : after ≡ before ++ dap_byte_of bits ∷ [] =
    c.put-in-loop.ensures ∙ ap (λ byte. before ++ byte ∷ []) c.byte_of.ensures in
    let more = length-append before (dap_byte_of bits ∷ []) in
    let counted = ap length put in
    let count = c.loop.invariant.count in
    record {
      bytes = subst (λ l. after ++ dap_bytes_of m l ≡ all) (sym (dap_behind_eight bits c.min.result c.min.ensures))
          (subst (λ x. x ++ dap_bytes_of m (drop 8 bits) ≡ all) (sym put)
          (dap_byte_is_put before bits all n m one_less c.loop.invariant.bytes));
      count = omega arith;
    }

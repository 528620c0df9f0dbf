use Rattle.std.proofs.Common.{◌≡◌, ◌+◌, ◌-◌, ◌<◌, length, take, get_or, sym, ap, ◌∙◌, subst, arith}
use Rattle.swd_dap.specs.Transfers.{IsDapBeginning}
use Rattle.swd_dap.proofs.TransferLemmas.{dap_beginning_one_more}
use Rattle.swd_dap.proofs.BeginningLemmas.{DapGoesSoFar, dap_any_transfer, dap_one_more, dap_ends_behind_read}
use Rattle.swd_dap.proofs.beginning.longest_beginning.Goals as goal
use Rattle.swd_dap.proofs.beginning.longest_beginning.Goals.{then-reads_dp, else-reads_dp}

pub loop-place-preserved : goal.loop-place-preserved
loop-place-preserved c =
    let a = c.args in
    let plan = a.plan.now in
    let place = c.loop-place.place in
    let f = c.loop-place.filled in
    let within : place < length plan = omega arith in
    let t = get_or plan place dap_any_transfer in
    let more = dap_beginning_one_more plan place dap_any_transfer within in
    let so_far = c.loop-place.invariant.so_far in
    let back : place + 1 - 1 ≡ place = omega arith in
    record {
      so_far = subst (λ l. DapGoesSoFar l a.size a.padded a.posted c.in-Some.more) (sym more)
          (dap_one_more (take place plan) t a.size a.padded a.posted f c.in-Some.more so_far c.in-Some.ensures);
      longest = elim c.if-reads_dp.branch [
        | then-reads_dp w ↦ subst (IsDapBeginning plan a.size a.padded a.posted) (sym w.longest-is)
            (dap_ends_behind_read plan (take place plan) t (place + 1) a.size a.padded a.posted f c.in-Some.more so_far
            c.in-Some.ensures (sym c.reads_dp.ensures ∙ w.if-reads_dp.true) more (ap (λ k. take k plan) back)
            (omega arith) (omega arith))
        | else-reads_dp w ↦ subst (IsDapBeginning plan a.size a.padded a.posted) (sym w.longest-is)
            c.loop-place.invariant.longest
      ];
    }

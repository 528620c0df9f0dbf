use Rattle.std.proofs.Common.{◌≡◌, ◌+◌, ◌-◌, subst, arith}
use Rattle.swd_dap.specs.Leading.{DapReleases}
use Rattle.swd_dap.proofs.LeadLemmas.{dap_releases_first, dap_releases_none}
use Rattle.swd_dap.proofs.sequences.release.Goals as goal

pub loop-left-init : goal.loop-left-init
loop-left-init g c = λ t h. h

pub loop-left-preserved : goal.loop-left-preserved
loop-left-preserved g c = λ t h.
    let done = c.in_ok-release_some.ensures in
    let now = c.min-now.result in
    let all : now + (c.loop-left.left - now) ≡ c.loop-left.left = omega arith in
    c.loop-left.invariant t (subst (λ n. DapReleases g.P.Packets.exchanged n c.loop-left.packets t) all
    (dap_releases_first g.P.Packets.exchanged now (c.loop-left.left - now) done.1 c.loop-left.packets
    c.release_some.new.packets t done.0 done.2 h))

pub returns : goal.returns
returns g c =
    let none : 0 ≡ c.loop-left.left = omega arith in
    c.loop-left.invariant c.loop-left.packets (subst
    (λ n. DapReleases g.P.Packets.exchanged n c.loop-left.packets c.loop-left.packets) none
    (dap_releases_none g.P.Packets.exchanged c.loop-left.packets))

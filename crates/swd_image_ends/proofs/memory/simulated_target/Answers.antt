use Rattle.std.proofs.Common.{◌∙◌, ◌/◌, ap, sym, subst, length}
use Rattle.swd_port.specs.PlainBus.{plain_of}
use Rattle.swd_port.specs.Port.{Port}
use Rattle.swd_run.proofs.RunLemmas.{script_target_at_rest}
use Rattle.swd_target.specs.Simulations.{Simulation}
use Rattle.swd_image_ends.specs.Memories.{ImageEndHasRoom}
use Rattle.swd_image_ends.proofs.memory.simulated_target.Goals as goal

pub returns-clause-words : goal.returns-clause-words
returns-clause-words g c = ap (λ x. (plain_of x.target.memory).words) c.new.ensures.port ∙ c.in_ok-memory.ensures.words

pub returns-clause-room : goal.returns-clause-room
returns-clause-room g c =
    subst (λ (x : Port). ImageEndHasRoom (length c.args.bytes.now / 4) c.args.spare (plain_of x.target.memory))
    (sym c.new.ensures.port) c.in_ok-memory.ensures.room

pub returns-clause-quirks : goal.returns-clause-quirks
returns-clause-quirks g c = ap (λ (x : Simulation). x.quirks) c.new.ensures.exact

pub returns-clause-rests : goal.returns-clause-rests
returns-clause-rests g c = script_target_at_rest _ _ c.new.ensures.port

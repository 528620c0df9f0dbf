-- Marks that are counted.
use Rattle.std.specs.Prelude.{ℕ, List}
use Rattle.swd_port.specs.declared.mark.Mark.{Mark}
use Rattle.std.specs.List.{sum_by}
use Rattle.swd_port.specs.Choices.{port_disturbs, port_loses}

-- how many of these marks disturb, and how many lose, a request
abbrev pub port_disturbed_among : List Mark → ℕ
port_disturbed_among marks = sum_by port_disturbs marks

abbrev pub port_lost_among : List Mark → ℕ
port_lost_among marks = sum_by port_loses marks

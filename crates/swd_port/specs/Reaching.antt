-- Whether a SELECT reaches a register.
use Rattle.std.specs.Prelude.{◌==◌, not, Bool, true}
use Rattle.swd_port.specs.declared.register.Register.{Register}
use Rattle.swd_port.specs.declared.register.Register.TheVariants.{CtrlStatRead}
use Rattle.swd_port.specs.declared.register.Register.TheVariants.{CtrlStatWrite}
use Rattle.swd_port.specs.declared.register.Register.TheVariants.{DpOtherRead, CswRead}
use Rattle.swd_port.specs.declared.register.Register.TheVariants.{CswWrite, TarRead, TarWrite, DrwRead, DrwWrite}
use Rattle.swd_port.specs.declared.select.Select.{Select}
use Rattle.swd_port.specs.Port.{port_selects_mem_ap}

-- a SELECT that reaches this register: bank 0 for CTRL/STAT, another bank for the debug port's other register at its
-- address, and bank 0 of AP 0 for its registers
abbrev pub is_port_register_reached : Select → Register → Bool
is_port_register_reached s CtrlStatRead = s.dpbanksel == 0
is_port_register_reached s CtrlStatWrite = s.dpbanksel == 0
is_port_register_reached s DpOtherRead = not (s.dpbanksel == 0)
is_port_register_reached s CswRead = port_selects_mem_ap s
is_port_register_reached s CswWrite = port_selects_mem_ap s
is_port_register_reached s TarRead = port_selects_mem_ap s
is_port_register_reached s TarWrite = port_selects_mem_ap s
is_port_register_reached s DrwRead = port_selects_mem_ap s
is_port_register_reached s DrwWrite = port_selects_mem_ap s
is_port_register_reached s r = true

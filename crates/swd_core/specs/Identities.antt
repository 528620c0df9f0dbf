-- CPUID by its fields (DDI 0403, B3.2.3, "CPUID base register").
use Rattle.std.specs.Prelude.{ℕ, ◌/◌, ◌%◌}
use Rattle.swd_core.specs.declared.identity.Identity.{Identity}

abbrev pub core_identity_of : ℕ → Identity
core_identity_of word = record {
  implementer = word / 0x100_0000;
  part = word / 0x10 % 0x1000;
  variant = word / 0x10_0000 % 0x10;
  revision = word % 0x10;
}

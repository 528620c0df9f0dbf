use Rattle.std.proofs.Common.{subst, sym}
use Rattle.std.specs.Prelude.{IfSome}
use Rattle.std.specs.String.{string_bytes}
use Rattle.swd_console.specs.Roles.{WritesConsoleFile}
use Rattle.swd_console.proofs.in_use.InUse.open_named.Goals as goal

pub returns-in-Ok-clause-used : goal.returns-in-Ok-clause-used
returns-in-Ok-clause-used g c =
    let makes = g.F.Files.makes c.args.console.now.files.now in
    let new = c.open_write.new.self in
    let opened = c.in-Ok.opened in
    subst (λ name. IfSome name (λ n. WritesConsoleFile (makes (string_bytes n)) c.args.role c.new.result.stream
    c.args.self.now new)) (sym c.in-Some.is)
    (subst (λ file. WritesConsoleFile (makes (string_bytes c.in-Some.name)) c.args.role file c.args.self.now new)
    (sym c.new.ensures.stream) (
      opened.identity,
      subst (λ bytes. makes bytes opened) c.as_str.ensures.value c.in-Ok.ensures.makes,
      c.in-Ok.ensures.file,
      c.in-Ok.ensures.used,
    ))

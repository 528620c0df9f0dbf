use Rattle.std.proofs.Common.{sym, ap, ◌∙◌, subst}
use Rattle.std.specs.Prelude.{option_copied}
use Rattle.std.proofs.lemmas.Result.{on_ok_weaker, IfErr-weaker}
use Rattle.swd_script.specs.Readers.{script_draft_sayings, IsScriptLineFault, IsScriptFault, ScriptLineStops}
use Rattle.swd_script.specs.Readers.{TookScriptLines}
use Rattle.swd_script.specs.Scripts.{script_nothing_said, script_line, script_of, whole_script}
use Rattle.swd_script.specs.Words.{texts_of}
use Rattle.swd_script.proofs.ReadLemmas.{script_lines_after_line, script_line_fault_of_text}
use Rattle.swd_script.proofs.ScriptLemmas.{script_line_of_first_words}
use Rattle.swd_script.proofs.script.DraftLineSink.add_line.Goals as goal

pub returns-clause-ok : goal.returns-clause-ok
returns-clause-ok g c =
    let old = script_draft_sayings c.args.self.now in
    let number = c.args.number in
    on_ok_weaker c.line.result
    (λ e ended line n h t. script_lines_after_line script_line script_nothing_said old
    (script_draft_sayings c.line.new.self) ended line number n t
    (sym (script_line_of_first_words number old line (option_copied c.args.words) h) ∙ e))
    c.line.ensures.ok

pub returns-clause-err : goal.returns-clause-err
returns-clause-err g c =
    let old = script_draft_sayings c.args.self.now in
    let number = c.args.number in
    IfErr-weaker c.line.result (λ fault. IsScriptLineFault fault
    (script_line number old (texts_of (option_copied c.args.words))))
    (ScriptLineStops TookScriptLines IsScriptFault number (option_copied c.args.words) c.args.self.now)
    (λ fault e text ended line l n h t.
    script_line_fault_of_text script_of script_line script_nothing_said old (λ text at e. ap whole_script e) text ended
    line number fault l n t
    (subst (IsScriptLineFault fault) (script_line_of_first_words number old line (option_copied c.args.words) h) e))
    c.line.ensures.err

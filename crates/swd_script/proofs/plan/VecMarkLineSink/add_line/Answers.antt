use Rattle.std.proofs.Common.{[], sym, ◌∙◌, subst}
use Rattle.std.specs.Prelude.{option_copied}
use Rattle.std.proofs.lemmas.Result.{on_ok_weaker, IfErr-weaker}
use Rattle.swd_script.specs.Plans.{plan_file_line, plan_of}
use Rattle.swd_script.specs.Readers.{IsScriptLineFault, IsPlanFileFault, ScriptLineStops, TookPlanFileLines}
use Rattle.swd_script.specs.Words.{texts_of}
use Rattle.swd_script.proofs.ReadLemmas.{script_lines_after_line, script_line_fault_of_text}
use Rattle.swd_script.proofs.ScriptLemmas.{plan_file_line_of_words}
use Rattle.swd_script.proofs.plan.VecMarkLineSink.add_line.Goals as goal

pub returns-clause-ok : goal.returns-clause-ok
returns-clause-ok g c =
    let old = c.args.self.now.items in
    on_ok_weaker c.add_mark.result
    (λ e ended line n h t. script_lines_after_line (λ number. plan_file_line) [] old c.add_mark.new.marks.items ended
    line c.args._number n t (sym (plan_file_line_of_words old line (option_copied c.args.words) h) ∙ e))
    c.add_mark.ensures.ok

pub returns-clause-err : goal.returns-clause-err
returns-clause-err g c =
    let old = c.args.self.now.items in
    IfErr-weaker c.add_mark.result (λ fault. IsScriptLineFault fault
    (plan_file_line old (texts_of (option_copied c.args.words))))
    (ScriptLineStops TookPlanFileLines IsPlanFileFault c.args._number (option_copied c.args.words) c.args.self.now)
    (λ fault e text ended line l n h t.
    script_line_fault_of_text plan_of (λ number. plan_file_line) [] old (λ text at e. e) text ended line c.args._number
    fault l n t (subst (IsScriptLineFault fault) (plan_file_line_of_words old line (option_copied c.args.words) h) e))
    c.add_mark.ensures.err

use Rattle.swd_script.proofs.ScanLemmas.{script_scanned_at_end, script_invalid_at_end}
use Rattle.swd_script.proofs.WordLemmas.{script_first_words_at_end}
use Rattle.swd_script.proofs.line_scan.LineScan.finish.Goals as goal

pub returns-in-Code : goal.returns-in-Code
returns-in-Code c = λ line h. script_scanned_at_end line c.args.self.now.place c.args.self.now.words c.end_word.new.self
    (λ l. script_first_words_at_end l c.args.self.now.words _ c.end_word.ensures.ended) c.in-Code.is h

pub returns-in-Return : goal.returns-in-Return
returns-in-Return c = λ line h. script_invalid_at_end line c.args.self.now.place c.args.self.now.words c.in-Return.is h

use Rattle.swd_script.proofs.ScanLemmas.{script_scanned_at_feed}
use Rattle.swd_script.proofs.WordLemmas.{script_first_words_at_end}
use Rattle.swd_script.proofs.line_scan.LineScan.feed.Goals as goal

pub returns : goal.returns
returns c = λ line h. script_scanned_at_feed line c.args.self.now.place c.args.self.now.words c.end_word.new.self
    (λ l. script_first_words_at_end l c.args.self.now.words _ c.end_word.ensures.ended) h

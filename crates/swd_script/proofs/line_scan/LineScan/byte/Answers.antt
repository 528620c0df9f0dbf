use Rattle.swd_script.proofs.ScanLemmas.{script_spoiled_after_return, script_comment_byte_ignored}
use Rattle.swd_script.proofs.line_scan.LineScan.byte.Goals as goal

pub returns-in-Return : goal.returns-in-Return
returns-in-Return c = λ line h. script_spoiled_after_return line c.args.byte c.args.self.now.place c.args.self.now.words
    c.in-Return.is h

pub returns-in-Comment : goal.returns-in-Comment
returns-in-Comment c = λ line h. script_comment_byte_ignored line c.args.byte c.args.self.now.place
    c.args.self.now.words c.in-Comment.is h

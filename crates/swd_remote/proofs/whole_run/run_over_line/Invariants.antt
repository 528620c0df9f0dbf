use Rattle.swd_remote.proofs.whole_run.run_over_line.Given as goal

abbrev pub ghosts-run_begun : goal.ghosts-run_begun
ghosts-run_begun g a = record
    { way = a.line.way; sent = g.W.Write.contents a.line.writer; left = g.R.Read.remaining a.line.reader }

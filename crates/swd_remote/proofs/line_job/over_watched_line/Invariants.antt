use Rattle.swd_remote.proofs.line_job.over_watched_line.Given as goal

abbrev pub ghosts-over_begun : goal.ghosts-over_begun
ghosts-over_begun g a = record
    { way = a.line.way; sent = g.W.Write.contents a.line.writer; left = g.R.Read.remaining a.line.reader }

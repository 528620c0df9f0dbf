use Rattle.swd_checker.proofs.ReadLemmas.{world_at_dpidr, world_at_resend, world_at_rdbuff, world_at_csw_read}
use Rattle.swd_checker.proofs.ReadLemmas.{world_at_tar_read, world_at_drw_read, world_at_elsewhere}
use Rattle.swd_checker.proofs.laws.reads.Goals as goal

pub returns : goal.returns
returns c = record {
  dpidr = world_at_dpidr;
  resend = world_at_resend;
  rdbuff = world_at_rdbuff;
  csw = world_at_csw_read;
  tar = world_at_tar_read;
  drw = world_at_drw_read;
  elsewhere = world_at_elsewhere;
}

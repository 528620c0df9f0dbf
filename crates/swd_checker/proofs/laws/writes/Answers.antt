use Rattle.swd_checker.proofs.WriteLemmas.{world_at_ctrl_stat, world_at_select, world_at_csw_write, world_at_tar_write}
use Rattle.swd_checker.proofs.WriteLemmas.{world_at_drw_write, world_at_write_elsewhere, world_at_abort}
use Rattle.swd_checker.proofs.laws.writes.Goals as goal

pub returns : goal.returns
returns c = record {
  ctrl_stat = world_at_ctrl_stat;
  select = world_at_select;
  csw = world_at_csw_write;
  tar = world_at_tar_write;
  drw = world_at_drw_write;
  elsewhere = world_at_write_elsewhere;
  abort = world_at_abort;
}

use Rattle.std.proofs.Common.{◌++◌, take}
use Rattle.std.proofs.KnownBytes.{Consumes-trans}
use Rattle.swd_io.proofs.pieces.read_pieces.Goals as goal

pub returns-in-Err : goal.returns-in-Err
returns-in-Err g c =
    let read = c.loop.invariant.reads in
    let piece = take c.in-Ok.count c.read.new.buf in (
      read.0 ++ piece,
      Consumes-trans _ _ _ _ _ read.1 c.in-Ok.ensures.bytes.0,
      g.met.C.Consumer.stops_later _ _ _ read.0 piece c.in-Err.fault read.2 c.in-Err.ensures.err,
    )

pub loop-preserved : goal.loop-preserved
loop-preserved g c = record {
  can_take = c.in_default-take.ensures.again;
  reads =
      let read = c.loop.invariant.reads in
      let piece = take c.in-Ok.count c.read.new.buf in (
        read.0 ++ piece,
        Consumes-trans _ _ _ _ _ read.1 c.in-Ok.ensures.bytes.0,
        g.met.C.Consumer.takes_on _ _ _ read.0 piece read.2 c.in_default-take.ensures.ok,
      );
}

use Rattle.std.proofs.Common.{◌≡◌, ◌≤◌, List, [], length, refl, sym, subst, arith}
use Rattle.swd_io.specs.Pieces.{LeadsConsumerToEnd}
use Rattle.swd_io.proofs.PieceLemmas.{consumer_input_at_end, consumer_input_unread}
use Rattle.swd_image_ends.specs.Files.{ImageEndRefusesFile}
use Rattle.swd_image_ends.specs.Gathered.{ImageEndReadEndsWith, ImageEndHasRead}
use Rattle.swd_image_ends.proofs.file.read_file.Goals as goal

pub returns-in-Ok-clause-bytes : goal.returns-in-Ok-clause-bytes
returns-in-Ok-clause-bytes g c =
    consumer_input_at_end ImageEndHasRead (LeadsConsumerToEnd ImageEndHasRead ImageEndReadEndsWith) c.args.most
    (g.R.Read.remaining c.args.reader.now) (g.R.Read.remaining c.read_pieces.new.reader)
    (record { bytes = c.new.result; most = c.args.most }, tt)
    (c.read_pieces.new.consumer, tt) (λ text. text ≡ c.read_pieces.new.consumer.bytes.items)
    (c.new.ensures.items, refl, omega arith)
    (λ text read. sym read.0) c.in-Ok.ensures

pub returns-in-Ok-clause-few : goal.returns-in-Ok-clause-few
returns-in-Ok-clause-few g c =
    let read = c.in-Ok.ensures.3 c.args.most [] (c.new.ensures.items, refl, omega arith) in
    subst (λ (l : List _). length l ≤ c.args.most) (sym read.0) read.2

pub returns-in-Err-clause-fault : goal.returns-in-Err-clause-fault
returns-in-Err-clause-fault g c =
    consumer_input_unread ImageEndHasRead ImageEndReadEndsWith (ImageEndRefusesFile c.args.most) c.args.most
    (g.R.Read.remaining c.args.reader.now) (g.R.Read.remaining c.read_pieces.new.reader)
    (record { bytes = c.new.result; most = c.args.most }, tt)
    (c.read_pieces.new.consumer, tt) c.in-Err.unread (c.new.ensures.items, refl, omega arith)
    (λ fault text more f. f more) c.in-Err.ensures

use Rattle.std.proofs.Common.{◌≡◌, ℕ, List, [], Option, None, Some, Err, refl, sym, subst, append-nil}
use Rattle.std.specs.Io.KnownBytes.{Appends}
use Rattle.swd_io.specs.Pieces.{ConsumerReads, LeadsConsumerOn, LeadsConsumerToEnd, consumer_fault_or}
use Rattle.swd_io.specs.declared.pieces.Unread.{Unread}
use Rattle.swd_io.specs.declared.pieces.Unread.TheVariants.{Reader, Consumer}
use Rattle.swd_bitbang.specs.declared.serving.Served.{Served}
use Rattle.swd_bitbang.specs.declared.serving.Served.TheVariants as ends
use Rattle.swd_bitbang.specs.declared.serving.Server.{Server}
use Rattle.swd_bitbang.specs.declared.pins.Pins.{Pins}
use Rattle.swd_bitbang.specs.Protocols.{ProtocolEnd, ProtocolServes, ProtocolStep}
use Rattle.swd_bitbang.specs.Serving.{ServingBegin, ServingEnds, ServingHasTaken}
use Rattle.swd_bitbang.specs.Watching.{PinsLeadOnWatched, PinsLeadToEndWatched, pins_watched}
use Rattle.swd_bitbang.proofs.SessionLemmas.{serving_cut_off_is_whole}
use Rattle.swd_bitbang.proofs.serving.serve_watched.Goals as goal
use Rattle.swd_bitbang.proofs.serving.serve_watched.Goals.{in-Ok, in-Err}

unchanged : (known : Option (List ℕ)) → Appends known known []
unchanged None = tt
unchanged (Some xs) = sym (append-nil xs)

-- nothing was taken yet
nothing : {D A S V W : Type 0} (step : ProtocolStep S) (contents : W → Option (List ℕ)) (server : Server D A S V)
    (writer : W) → server.place ≡ 0 → server.written ≡ 0
    → ServingHasTaken step contents (server.protocol, contents writer) (server, writer) []
nothing step contents server writer place written =
    record {
      answers = [];
      session = (refl, refl);
      gone = unchanged (contents writer);
      written = written;
      place = place;
    }

-- a session that ended before its input did
unread : {D A S V W : Type 0} (step : ProtocolStep S) (end : ProtocolEnd S) (pins_of : S → Pins D A)
    (follows : V × Pins D A → V × Pins D A → Type 0) (contents : W → Option (List ℕ)) (fault : Unread Served)
    (text left : Option (List ℕ)) (begin : ServingBegin S) (before after : Server D A S V × W) →
    ServingHasTaken step contents begin before [] →
    ConsumerReads (PinsLeadOnWatched pins_of follows (LeadsConsumerOn (ServingHasTaken step contents)))
    (PinsLeadToEndWatched pins_of follows
    (LeadsConsumerToEnd (ServingHasTaken step contents) (ServingEnds step end contents))) (Err fault) text left before
    after →
    ProtocolServes step end (consumer_fault_or fault ends.Read) text left begin.1 (contents after.1) begin.0
    after.0.protocol
unread step end pins_of follows contents Reader text left begin before after h r =
    let read = r.2.leads_on begin [] h in
    record {
      read = r.0;
      consumed = r.1;
      whole = tt;
      ends = record { answers = read.answers; session = read.session; gone = read.gone };
    }
unread step end pins_of follows contents (Consumer served) text left begin before after h r =
    let stops = r.2.leads_to_end begin [] h in
    record { read = r.0; consumed = r.1; whole = serving_cut_off_is_whole served left stops.0; ends = stops.1 }

-- its watch followed
followed : {D A S V W : Type 0} (pins_of : S → Pins D A) (follows : V × Pins D A → V × Pins D A → Type 0)
    (leads : Server D A S V × W → List ℕ → Server D A S V × W → Type 0)
    (stops : Server D A S V × W → List ℕ → Served → Server D A S V × W → Type 0) (fault : Unread Served)
    (text left : Option (List ℕ)) (before after : Server D A S V × W) →
    ConsumerReads (PinsLeadOnWatched pins_of follows leads) (PinsLeadToEndWatched pins_of follows stops) (Err fault)
    text left before after → follows (pins_watched pins_of before) (pins_watched pins_of after)
followed pins_of follows leads stops Reader text left before after r = r.2.followed
followed pins_of follows leads stops (Consumer served) text left before after r = r.2.followed

pub returns-clause-session : goal.returns-clause-session
returns-clause-session g c =
    let contents = g.W.Write.contents in
    let step = g.P.Protocol.step in
    let end = g.P.Protocol.end in
    let protocol = c.args.protocol in
    let begin : ServingBegin g.row.P.Denot = (protocol, contents c.args.writer.now) in
    let before : Server g.row.D.Denot g.row.A.Denot g.row.P.Denot g.row.V.Denot =
    record { protocol = protocol; place = 0; written = 0; watch = c.args.watch; pins = record {} } in
    let none = nothing step contents before c.args.writer.now refl refl in
    let text = g.R.Read.remaining c.args.reader.now in
    let left = g.R.Read.remaining c.read_pieces.new.reader in
    let after = c.read_pieces.new.consumer.protocol in
    let now = contents c.read_pieces.new.writer in
    elim c.match-read_pieces.branch [
      | in-Ok w ↦
          let r = w.in-Ok.ensures in
          let read = r.3.leads_on begin [] none in
          subst (λ (x : Served). ProtocolServes step end x text left begin.1 now protocol after) (sym w.served-is)
          (record {
            read = r.0;
            consumed = r.1;
            whole = r.2;
            ends = record { answers = read.answers; session = read.session; gone = read.gone };
          })
      | in-Err w ↦
          subst (λ (x : Served). ProtocolServes step end x text left begin.1 now protocol after) (sym w.served-is)
          (subst (λ (x : Served). ProtocolServes step end x text left begin.1 now protocol after)
          (sym w.fault_or-served.ensures)
          (unread step end g.P.Protocol.pins_of g.V.Watch.follows contents w.in-Err.unread text left begin
          (before, c.args.writer.now) (c.read_pieces.new.consumer, c.read_pieces.new.writer) none w.in-Err.ensures))
    ]

pub returns-clause-watched : goal.returns-clause-watched
returns-clause-watched g c =
    elim c.match-read_pieces.branch [
      | in-Ok w ↦ w.in-Ok.ensures.3.followed
      | in-Err w ↦ followed g.P.Protocol.pins_of g.V.Watch.follows _ _ w.in-Err.unread _ _ _ _ w.in-Err.ensures
    ]

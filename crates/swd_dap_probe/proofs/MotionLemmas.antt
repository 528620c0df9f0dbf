-- What holds of a line at two times, however clocks and nRESET moved it between them, holds of it before and behind a
-- packet. A server of packets over a line rests on it.
use Rattle.std.proofs.Common.{◌≡◌, ℕ, zero, suc, Bool, true, false, List, [], ◌∷◌, Option, Some, sym, ap, subst, map}
use Rattle.std.specs.Prelude.{slice_index, nat_le, drop}
use Rattle.swd_bits.specs.declared.request.Request.{Request}
use Rattle.swd_sequences.specs.declared.sequence.Sequence.{Sequence}
use Rattle.swd_sequences.specs.declared.sequence.Sequence.TheVariants.{Drive, Release, Sample}
use Rattle.swd_sequences.specs.Clocks.{sequence_drives}
use Rattle.swd_sequences.specs.Going.{SequenceClock, SequenceClocksGoBy, SequencesGoBy}
use Rattle.swd_dap_probe.specs.declared.command.Command.{Command}
use Rattle.swd_dap_probe.specs.declared.command.Command.TheVariants.{Info, HostStatus, Connect, Disconnect}
use Rattle.swd_dap_probe.specs.declared.command.Command.TheVariants.{TransferConfigure, Transfer, TransferBlock}
use Rattle.swd_dap_probe.specs.declared.command.Command.TheVariants.{TransferAbort, WriteAbort, Delay, ResetTarget}
use Rattle.swd_dap_probe.specs.declared.command.Command.TheVariants.{Pins, Clock, DriveSequence, WireConfigure}
use Rattle.swd_dap_probe.specs.declared.command.Command.TheVariants.{WireSequence, Execute, Unknown}
use Rattle.swd_dap_probe.specs.declared.processor.Processor.{Processor}
use Rattle.swd_dap_probe.specs.declared.settings.Settings.{Settings}
use Rattle.swd_dap_probe.specs.declared.transaction.Answer.{Answer}
use Rattle.swd_dap_probe.specs.declared.transaction.Answer.TheVariants.{Wait}
use Rattle.swd_dap_probe.specs.Commands.{dap_command_of}
use Rattle.swd_dap_probe.specs.Moves.{IsDapMotion}
use Rattle.swd_dap_probe.specs.Plain.{dap_word}
use Rattle.swd_dap_probe.specs.Shapes.{dap_command_shape, dap_drive_clocks}
use Rattle.swd_dap_probe.specs.Sequences.{DapSequence, DapSequencesGo, dap_bits, dap_sequences, dap_sequence_drives}
use Rattle.swd_dap_probe.specs.Transactions.{DapBehind, reads, writes, waits, faults, misses, DapTransaction, DapWaits}
use Rattle.swd_dap_probe.specs.Transactions.{DapPersists, DapMade, DapMadeGo, dap_abort, dap_take, dap_give, dap_pass}
use Rattle.swd_dap_probe.specs.Transactions.{dap_back_off}
use Rattle.swd_dap_probe.specs.Packets.{ProbeDoes, DapResets, DapCommandsGo, DapPacketGoes, DapTakes, performs, refuses}
use Rattle.swd_dap_probe.specs.Packets.{processor_line}

module _ {L : Type 0} (clock : SequenceClock L) (resets : Bool → L → L → Type 0) (R : L → L → Type 0)
    (motion : IsDapMotion clock resets R) where
  -- nothing happened
  stays_at : (s t : L) → t ≡ s → R s t
  stays_at s t e = subst (λ x. R s x) (sym e) (motion.stays s)

  clocks_move : (drives : List (Option Bool)) (levels : List Bool) (s t : L)
      → SequenceClocksGoBy clock drives levels s t → R s t
  clocks_move [] [] s t h = stays_at s t h
  clocks_move [] (l ∷ levels) s t h = absurd h
  clocks_move (d ∷ drives) [] s t h = absurd h
  clocks_move (d ∷ drives) (l ∷ levels) s t h =
      motion.goes_on s h.0 t (motion.clocked d l s h.0 h.1) (clocks_move drives levels h.0 t h.2)

  sequences_move : (sequences : List Sequence) (levels : List Bool) (s t : L)
      → SequencesGoBy clock sequences levels s t → R s t
  sequences_move [] levels s t h = stays_at s t h.1
  sequences_move (q ∷ more) levels s t (m, first, rest, one, next, e) =
      motion.goes_on s m t (clocks_move (sequence_drives q) one.seen s m one.clocks) (sequences_move more rest m t next)

  told_sequences_move : (sequences : List DapSequence) (told : List ℕ) (s t : L)
      → DapSequencesGo clock sequences told s t → R s t
  told_sequences_move [] told s t h = stays_at s t h.1
  told_sequences_move (q ∷ more) told s t (m, levels, rest, one, next, e) =
      motion.goes_on s m t (clocks_move (dap_sequence_drives q) levels s m one) (told_sequences_move more rest m t next)

  behind_moves : (settings : Settings) (request : Request) (word seen : ℕ) (answer : Answer) (s t : L)
      → DapBehind clock settings request word seen answer s t → R s t
  behind_moves settings request word seen answer s t (reads a b sent h c) =
      sequences_move (dap_take settings) h.levels s t h.goes
  behind_moves settings request word seen answer s t (writes a b h c) =
      sequences_move (dap_give settings word) [] s t h
  behind_moves settings request word seen answer s t (waits a h c) =
      sequences_move (dap_pass settings settings.data_phase request.read) [] s t h
  behind_moves settings request word seen answer s t (faults a h c) =
      sequences_move (dap_pass settings settings.data_phase request.read) [] s t h
  behind_moves settings request word seen answer s t (misses a b c h d) =
      sequences_move (dap_back_off settings) [] s t h

  transaction_moves : (settings : Settings) (request : Request) (word : ℕ) (answer : Answer) (s t : L)
      → DapTransaction clock settings request word answer s t → R s t
  transaction_moves settings request word answer s t h = motion.goes_on s h.m t
      (sequences_move (Drive h.asks.bits 8 ∷ Release settings.turnaround ∷ Sample 3 ∷ []) h.asks.goes.levels s h.m
      h.asks.goes.goes)
      (behind_moves settings request word h.seen answer h.m t h.behind)

  waits_move : (settings : Settings) (request : Request) (word n : ℕ) (s t : L)
      → DapWaits clock settings request word n s t → R s t
  waits_move settings request word zero s t h = stays_at s t h
  waits_move settings request word (suc n) s t (m, before, one) = motion.goes_on s m t
      (waits_move settings request word n s m before) (transaction_moves settings request word Wait m t one)

  persists_moves : (settings : Settings) (request : Request) (word : ℕ) (answer : Answer) (s t : L)
      → DapPersists clock settings request word answer s t → R s t
  persists_moves settings request word answer s t h = motion.goes_on s h.m t
      (waits_move settings request word h.waits s h.m h.waited)
      (transaction_moves settings request word answer h.m t h.last)

  made_moves : (settings : Settings) (made : List DapMade) (s t : L) → DapMadeGo clock settings made s t → R s t
  made_moves settings [] s t h = stays_at s t h
  made_moves settings (one ∷ more) s t (m, first, next) = motion.goes_on s m t
      (persists_moves settings one.request one.word one.answer s m first) (made_moves settings more m t next)

  reset_moves : (selects level : Bool) (s t : Processor L) → DapResets resets selects level s t → R s.line t.line
  reset_moves true level s t h = motion.reset level s.line t.line h.0
  reset_moves false level s t h = stays_at s.line t.line (ap processor_line h)

  does_move : (c : Command) (bytes told : List ℕ) (s t : Processor L) → ProbeDoes clock resets c bytes told s t
      → R s.line t.line
  does_move Info bytes told s t h = stays_at s.line t.line (ap processor_line h.after)
  does_move HostStatus bytes told s t h = stays_at s.line t.line (ap processor_line h.after)
  does_move Connect bytes told s t h = stays_at s.line t.line (ap processor_line h.after)
  does_move Disconnect bytes told s t h = stays_at s.line t.line (ap processor_line h.after)
  does_move TransferConfigure bytes told s t h = stays_at s.line t.line (ap processor_line h.after)
  does_move Transfer bytes told s t h =
      made_moves s.settings h.transfers.does.made s.line t.line h.transfers.does.go
  does_move TransferBlock bytes told s t h =
      let does = h.block.does 0 in
      made_moves s.settings does.made s.line t.line does.go
  does_move TransferAbort bytes told s t h = stays_at s.line t.line (ap processor_line h.after)
  does_move WriteAbort bytes told s t h = transaction_moves s.settings dap_abort (dap_word bytes 2) h.answer
      s.line t.line h.makes
  does_move Delay bytes told s t h = stays_at s.line t.line (ap processor_line h.after)
  does_move ResetTarget bytes told s t h = stays_at s.line t.line (ap processor_line h.after)
  does_move Pins bytes told s t h =
      reset_moves (nat_le 128 (slice_index bytes 2)) (nat_le 128 (slice_index bytes 1)) s t h.sets
  does_move Clock bytes told s t h = stays_at s.line t.line (ap processor_line h.after)
  does_move DriveSequence bytes told s t h = clocks_move
      (map Some (dap_bits (drop 2 bytes) 0 (dap_drive_clocks (slice_index bytes 1)))) h.levels s.line t.line h.clocks
  does_move WireConfigure bytes told s t h = stays_at s.line t.line (ap processor_line h.after)
  does_move WireSequence bytes told s t h = told_sequences_move
      (dap_sequences (slice_index bytes 1) (drop 2 bytes)) h.levels s.line t.line h.go
  does_move Execute bytes told s t h = stays_at s.line t.line (ap processor_line h.after)
  does_move Unknown bytes told s t h = stays_at s.line t.line (ap processor_line h.after)

  commands_move : (n : ℕ) (bytes told : List ℕ) (s t : Processor L) → DapCommandsGo clock resets n bytes told s t
      → R s.line t.line
  commands_move zero bytes told s t h = stays_at s.line t.line (ap processor_line h.1)
  commands_move (suc n) bytes told s t (m, first, rest, one, next, e) = motion.goes_on s.line m.line t.line
      (does_move (dap_command_of (slice_index bytes 0)) bytes first s m one)
      (commands_move n (drop (dap_command_shape bytes).request bytes) rest m t next)

  packet_moves : (c : Command) (bytes told : List ℕ) (s t : Processor L)
      → DapPacketGoes clock resets c bytes told s t → R s.line t.line
  packet_moves Execute bytes told s t (replies, h, e) =
      commands_move (slice_index bytes 1) (drop 2 bytes) replies s t h
  packet_moves c bytes told s t h = does_move c bytes told s t h

  -- a packet that is performed, or refused
  pub takes_move : (bytes told : List ℕ) (s t : Processor L) → DapTakes clock resets bytes told s t → R s.line t.line
  takes_move bytes told s t (performs taken h) = packet_moves
      (dap_command_of (slice_index bytes 0)) bytes told s t h
  takes_move bytes told s t (refuses refused e is) = stays_at s.line t.line (ap processor_line e)

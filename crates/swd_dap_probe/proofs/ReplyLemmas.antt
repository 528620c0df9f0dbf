-- A reply begins with its command or ff.
use Rattle.std.proofs.Common.{◌≡◌, ℕ, Bool, true, false, List, [], ◌∷◌, refl, sym, ap, ◌∙◌, inl, inr, arith}
use Rattle.std.proofs.Common.{◌%◌, ◌/◌, ◌++◌, take, length}
use Rattle.std.proofs.Math.Seq.{take-append_seam}
use Rattle.std.specs.Prelude.{slice_index, ◌⊎◌, ◌==◌, if◌then◌else◌}
use Rattle.std.proofs.lemmas.Bool.{eqb-true}
use Rattle.swd_sequences.specs.Going.{SequenceClock}
use Rattle.swd_dap_probe.specs.declared.command.Command.{Command}
use Rattle.swd_dap_probe.specs.declared.command.Command.TheVariants.{Info, HostStatus, Connect, Disconnect}
use Rattle.swd_dap_probe.specs.declared.command.Command.TheVariants.{TransferConfigure, Transfer, TransferBlock}
use Rattle.swd_dap_probe.specs.declared.command.Command.TheVariants.{TransferAbort, WriteAbort, Delay, ResetTarget}
use Rattle.swd_dap_probe.specs.declared.command.Command.TheVariants.{Pins, Clock, DriveSequence, WireConfigure}
use Rattle.swd_dap_probe.specs.declared.command.Command.TheVariants.{WireSequence, Execute, Unknown}
use Rattle.swd_dap_probe.specs.declared.processor.Processor.{Processor}
use Rattle.swd_dap_probe.specs.Commands.{dap_command_of, dap_command_among, dap_command_number, dap_commands}
use Rattle.swd_dap_probe.specs.Packets.{ProbeDoes, DapPacketGoes, DapTakes}
use Rattle.swd_dap_probe.specs.Packets.{IsDapReplyTo, dap_refusal, performs, refuses}

-- one command of the list
among_by : (c other : Command) (n : ℕ) (b : Bool) → (n == dap_command_number c) ≡ b
    → (dap_command_number other ≡ n) ⊎ (other ≡ Unknown)
    → (dap_command_number (if b then c else other) ≡ n) ⊎ ((if b then c else other) ≡ Unknown)
among_by c other n true e h = inl (sym (eqb-true n (dap_command_number c) e))
among_by c other n false e h = h

-- the command that is found has the number, or is unknown
among : (list : List Command) (n : ℕ)
    → (dap_command_number (dap_command_among list n) ≡ n) ⊎ (dap_command_among list n ≡ Unknown)
among [] n = inr refl
among (c ∷ more) n = among_by c (dap_command_among more n) n (n == dap_command_number c) refl (among more n)

-- a reply with this first byte
told_first : (number k : ℕ) (told more : List ℕ) → told ≡ k ∷ more → (k ≡ number) ⊎ (k ≡ 255) → IsDapReplyTo number told
told_first number k told more e h = record {
  none = λ n. absurd (let f : k ∷ more ≡ [] = sym e ∙ n in cc);
  first = λ byte rest n.
      let f : byte ∷ rest ≡ k ∷ more = sym n ∙ e in
      let g : byte ≡ k = ap (λ x. slice_index x 0) f in
      elim h [ inl a ↦ inl (g ∙ a) | inr a ↦ inr (g ∙ a) ];
}

-- a reply with the number of the command
known : (number : ℕ) (c : Command) (told more : List ℕ) → told ≡ dap_command_number c ∷ more
    → (dap_command_number c ≡ number) ⊎ (c ≡ Unknown) → IsDapReplyTo number told
known number c told more e h = told_first number (dap_command_number c) told more e
    (elim h [ inl a ↦ inl a | inr u ↦ inr (ap dap_command_number u) ])

-- that to DAP_Info
info_first_by : (a b c d : Bool) (size : ℕ) → (more : List ℕ)
    × ((if a then 0 ∷ 6 ∷ 0x31 ∷ 0x2e ∷ 0x32 ∷ 0x2e ∷ 0x30 ∷ 0 ∷ []
    else (if b then 0 ∷ 1 ∷ 0x11 ∷ [] else (if c then 0 ∷ 1 ∷ 1 ∷ []
    else (if d then 0 ∷ 2 ∷ size % 256 ∷ size / 256 ∷ [] else 0 ∷ 0 ∷ [])))) ≡ 0 ∷ more)
info_first_by true b c d size = (_, refl)
info_first_by false true c d size = (_, refl)
info_first_by false false true d size = (_, refl)
info_first_by false false false true size = (_, refl)
info_first_by false false false false size = (_, refl)

-- no reply
aborted : (number : ℕ) (told : List ℕ) → told ≡ [] → (7 ≡ number) ⊎ (TransferAbort ≡ Unknown) → IsDapReplyTo number told
aborted number told e h = record {
  none = λ n. elim h [ inl a ↦ sym a | inr u ↦ absurd (let f : 7 ≡ 255 = ap dap_command_number u in omega (arith, f)) ];
  first = λ byte rest n. absurd (let f : byte ∷ rest ≡ [] = sym n ∙ e in cc);
}

-- that to each command
does_reply : {L : Type 0} (clock : SequenceClock L) (resets : Bool → L → L → Type 0) (number : ℕ) (c : Command)
    (bytes told : List ℕ) (s t : Processor L) → (dap_command_number c ≡ number) ⊎ (c ≡ Unknown)
    → ProbeDoes clock resets c bytes told s t → IsDapReplyTo number told
does_reply clock resets number Info bytes told s t k h =
    let i = info_first_by (slice_index bytes 1 == 0x04) (slice_index bytes 1 == 0xf0) (slice_index bytes 1 == 0xfe)
    (slice_index bytes 1 == 0xff) s.size.bytes in
    known number Info told i.0 (h.is ∙ i.1) k
does_reply clock resets number HostStatus bytes told s t k h = known number HostStatus told _ h.is k
does_reply clock resets number Connect bytes told s t k h = known number Connect told _ h.is k
does_reply clock resets number Disconnect bytes told s t k h = known number Disconnect told _ h.is k
does_reply clock resets number TransferConfigure bytes told s t k h = known number TransferConfigure told _ h.is k
does_reply clock resets number Transfer bytes told s t k h = known number Transfer told _ h.transfers.is k
does_reply clock resets number TransferBlock bytes told s t k h = known number TransferBlock told _ h.block.is k
does_reply clock resets number TransferAbort bytes told s t k h = aborted number told h.is k
does_reply clock resets number WriteAbort bytes told s t k h = known number WriteAbort told _ h.is k
does_reply clock resets number Delay bytes told s t k h = known number Delay told _ h.is k
does_reply clock resets number ResetTarget bytes told s t k h = known number ResetTarget told _ h.is k
does_reply clock resets number Pins bytes told s t k h = known number Pins told _ h.is k
does_reply clock resets number Clock bytes told s t k h = known number Clock told _ h.is k
does_reply clock resets number DriveSequence bytes told s t k h = known number DriveSequence told _ h.is k
does_reply clock resets number WireConfigure bytes told s t k h = known number WireConfigure told _ h.is k
does_reply clock resets number WireSequence bytes told s t k h = known number WireSequence told _ h.is k
does_reply clock resets number Execute bytes told s t k h = told_first number 255 told [] h.is (inr refl)
does_reply clock resets number Unknown bytes told s t k h = told_first number 255 told [] h.is (inr refl)

-- that to a packet that is performed
performs_reply : {L : Type 0} (clock : SequenceClock L) (resets : Bool → L → L → Type 0) (number : ℕ) (c : Command)
    (bytes told : List ℕ) (s t : Processor L) → (dap_command_number c ≡ number) ⊎ (c ≡ Unknown)
    → DapPacketGoes clock resets c bytes told s t → IsDapReplyTo number told
performs_reply clock resets number Execute bytes told s t k h = known number Execute told _ h.2 k
performs_reply clock resets number c bytes told s t k h = does_reply clock resets number c bytes told s t k h

-- and to one that is refused
refusal_reply : (bytes told : List ℕ) → told ≡ dap_refusal bytes → IsDapReplyTo (slice_index bytes 0) told
refusal_reply [] told e = told_first 0 255 told [] e (inr refl)
refusal_reply (command ∷ rest) told e = told_first command command told (255 ∷ []) e (inl refl)

-- so of each packet
pub takes_reply : {L : Type 0} (clock : SequenceClock L) (resets : Bool → L → L → Type 0)
    (bytes told : List ℕ) (s t : Processor L) → DapTakes clock resets bytes told s t
    → IsDapReplyTo (slice_index bytes 0) told
takes_reply clock resets bytes told s t (performs taken h) = performs_reply clock resets (slice_index bytes 0)
    (dap_command_of (slice_index bytes 0)) bytes told s t (among dap_commands (slice_index bytes 0)) h
takes_reply clock resets bytes told s t (refuses refused e is) = refusal_reply bytes told is

-- the bytes that were copied into the beginning of others
pub copied_first : (copied items rest : List ℕ) (n : ℕ) → copied ≡ items → n ≡ length items
    → take n (copied ++ rest) ≡ items
copied_first copied items rest n is e =
    ap (λ x. take n (x ++ rest)) is ∙ ap (λ k. take k (items ++ rest)) e ∙ take-append_seam items rest

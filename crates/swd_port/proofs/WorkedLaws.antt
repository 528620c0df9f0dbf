-- Calls that meet the premises of the laws: each law speaks of something that can happen.
use Rattle.std.proofs.Common.{◌≡◌, true, false, [], refl, inl, inr, arith}
use Rattle.std.specs.Prelude.{Some}
use Rattle.std.specs.FinMap.{insert, empty, gets}
use Rattle.swd_bits.specs.declared.request.Request.{Request}
use Rattle.swd_bits.specs.declared.request.Reg4.{Reg4}
use Rattle.swd_bits.specs.declared.request.Reg4.TheVariants.{R0, R4, RC}
use Rattle.swd_port.specs.declared.access.Access.TheVariants.{Write}
use Rattle.swd_port.specs.Bus.{Bus, bus_succeeds}
use Rattle.swd_port.specs.PlainBus.{bus_of}
use Rattle.swd_bits.specs.Phases.{data_phase_number}
use Rattle.swd_port.specs.Port.{Port, Live, DrwWrite, port_register}
use Rattle.swd_port.specs.Made.{port_made_target, port_made}
use Rattle.swd_port.specs.Choices.{Mark, Clean, Wait, Flip, Deaf, Mute, IsPortMark, Choice, IsPortChoice}
use Rattle.swd_port.specs.Answers.{Okay, port_seen_at}
use Rattle.swd_port.specs.Completion.{port_completed}
use Rattle.swd_port.specs.Asking.{PortAsks, port_reply, port_after_reply, port_value_in, IsPendingSettled}
use Rattle.swd_port.specs.Asking.{IsPortWordRead}
use Rattle.swd_port.specs.Moving.{PortGives, Arrives, Damaged, port_after_arrival}
use Rattle.swd_port.specs.Leading.{PortLeads, port_after_lead}
use Rattle.swd_port.specs.Transfers.{PortSent, owed, PortAimed}
use Rattle.swd_port.specs.Laws.Accesses.{PortReady}
use Rattle.swd_bits.proofs.PhaseLemmas.{data_phase_gives_word, flipped_data_phase_no_word}
use Rattle.swd_port.proofs.AnswerLaws.{port_sees_seen_at, port_deaf_silent}

-- a target's choice: 0 for an unknown address, an unknown word, the bits that the model leaves open, and a register
-- elsewhere, which is no bus error; and no power is late
abbrev pub port_case_choice : Choice
port_case_choice = record {
  address = 0;
  filler = 0;
  others = 0;
  elsewhere = 0;
  refuses = false;
  debug_late = false;
  system_late = false;
}

-- its address and its words are below 2^32
pub port_case_choice_fits : IsPortChoice port_case_choice
port_case_choice_fits = record {
  address = omega arith;
  filler = omega arith;
  others = omega arith;
  elsewhere = omega arith;
}

abbrev dp_read : Reg4 → Request
dp_read addr = record { ap = false; read = true; addr = addr }

abbrev ap_write : Reg4 → Request
ap_write addr = record { ap = true; read = false; addr = addr }

-- the state after a request under a mark
abbrev after : Mark → Request → Port → Port
after mark q s = port_after_reply mark (port_reply mark s.target q) (port_register s.target.select q) q port_case_choice
    s

-- such a request is a call of `ask`
asks : (mark : Mark) (q : Request) (s : Port) → IsPortMark mark
    → IsPendingSettled (port_reply mark s.target q) (port_register s.target.select q) s.target.pending →
    IsPortWordRead (port_reply mark s.target q) q.read
    (port_value_in port_case_choice (port_register s.target.select q) s.target)
    → PortAsks s q (port_seen_at mark (port_reply mark s.target q)) (after mark q s)
asks mark q s legal settled word = (
  s,
  s,
  after mark q s,
  mark,
  port_case_choice,
  inl refl,
  inl refl,
  record {
    legal = legal;
    choice = port_case_choice_fits;
    late = λ e. (refl, refl);
    settled = settled;
    word = word;
    sees = port_sees_seen_at mark
        (port_reply mark s.target q) legal (port_deaf_silent mark _ _);
    after = refl;
  },
  inl refl,
)

-- a memory of one word
abbrev memory : Bus
memory = bus_of (record { words = insert empty 0x2000_0000 0; log = []; room = 1 })

one_word : bus_succeeds (Write 0x2000_0000 0xdead_beef) memory ≡ true
one_word = grind (arith, gets)

-- a target that is ready for a transfer at that word
abbrev start : Port
start = record (port_made 0x2ba0_1477 memory) {
  target = record (port_made_target 0x2ba0_1477 memory) {
    reset = Live;
    debug_power = true;
    system_power = true;
    increments = true;
    tar = Some
        0x2000_0000;
  };
}

ready : PortReady start.target
ready = record { live = refl; power = refl; select = refl; increments = refl; write_error = refl }

aimed : PortAimed 0x2000_0000 memory start.target
aimed = record { tar = refl; memory = refl; pending = refl; sticky_error = refl }

-- each way that a free request may go
free_okay : PortAsks start (dp_read RC) 1 (after Clean (dp_read RC) start)
free_okay = asks Clean (dp_read RC) start tt (λ e. refl) (omega arith)

free_wait : PortAsks start (dp_read RC) 2 (after Wait (dp_read RC) start)
free_wait = asks Wait (dp_read RC) start tt tt tt

free_flipped : PortAsks start (dp_read RC) 1 (after (Flip 32) (dp_read RC) start)
free_flipped = asks (Flip 32) (dp_read RC) start (omega arith) (λ e. refl) (omega arith)

free_deaf : PortAsks start (dp_read RC) 7 (after Deaf (dp_read RC) start)
free_deaf = asks Deaf (dp_read RC) start tt tt tt

free_mute : PortAsks start (dp_read RC) 0 (after (Mute 0) (dp_read RC) start)
free_mute = asks (Mute 0) (dp_read RC) start (omega arith) (λ e. refl) (omega arith)

-- an exempt one, one that meets a flag, one without power, and the first of all
exempt_okay : PortAsks start (dp_read R4) 1 (after Clean (dp_read R4) start)
exempt_okay = asks Clean (dp_read R4) start tt (λ e. refl) (omega arith)

abbrev flagged : Port
flagged = record start { target = record start.target { write_error = true } }

flagged_fault : PortAsks flagged (dp_read RC) 4 (after Clean (dp_read RC) flagged)
flagged_fault = asks Clean (dp_read RC) flagged tt (λ e. refl) tt

abbrev unpowered : Port
unpowered = record start { target = record start.target { debug_power = false } }

unpowered_fault : PortAsks unpowered (ap_write R4) 4 (after Clean (ap_write R4) unpowered)
unpowered_fault = asks Clean (ap_write R4) unpowered tt (λ e. refl) tt

abbrev fresh : Port
fresh = port_after_lead 56 (port_made 0x2ba0_1477 memory)

first_lead : PortLeads (port_made 0x2ba0_1477 memory) 56 fresh
first_lead = (port_made 0x2ba0_1477 memory, fresh, inl refl, record { after = refl }, inl refl)

identified : PortAsks fresh (dp_read R0) 1 (after Clean (dp_read R0) fresh)
identified = asks Clean (dp_read R0) fresh tt (λ e. refl) (omega arith)

-- the write of a word, whole
abbrev writing : Port
writing = after Clean (ap_write RC) start

write_asked : PortAsks start (ap_write RC) 1 writing
write_asked = asks Clean (ap_write RC) start tt (λ e. refl) tt

abbrev given : Port
given = port_after_arrival false (Arrives DrwWrite 0xdead_beef) writing

write_given : PortGives writing (data_phase_number 0xdead_beef) given
write_given = (
  writing,
  given,
  inl refl,
  record { refuses = false; after = rw (data_phase_gives_word 0xdead_beef (omega arith)) refl },
  inl refl,
)

write_owed : PortSent (Write 0x2000_0000 0xdead_beef) memory given.target
write_owed = owed refl refl refl refl

abbrev written : Port
written = port_completed port_case_choice given

written_answers : port_reply Clean written.target (dp_read RC) ≡ Okay
written_answers = rw one_word refl

confirmed : PortAsks given (dp_read RC) 1 (after Clean (dp_read RC) written)
confirmed = (
  written,
  written,
  after Clean (dp_read RC) written,
  Clean,
  port_case_choice,
  inr (port_case_choice, port_case_choice_fits, refl),
  inl refl,
  record {
    legal = tt;
    choice = port_case_choice_fits;
    late = λ e. (refl, refl);
    settled = rw one_word (λ e. refl);
    word = rw one_word (omega arith);
    sees =
        rw one_word refl;
    after = refl;
  },
  inl refl,
)

-- a write whose data is damaged, and one whose OK isn't seen
abbrev damaged : Port
damaged = after (Flip 0) (ap_write RC) start

write_damaged : PortAsks start (ap_write RC) 1 damaged
write_damaged = asks (Flip 0) (ap_write RC) start (omega arith) (λ e. refl) tt

damaged_given : PortGives damaged (data_phase_number 1) (port_after_arrival false Damaged damaged)
damaged_given = (
  damaged,
  port_after_arrival false Damaged damaged,
  inl refl,
  record { refuses = false; after = rw (flipped_data_phase_no_word 1 0 (omega arith)) refl },
  inl refl,
)

damaged_is_flagged : (port_after_arrival false Damaged damaged).target.write_error ≡ true
damaged_is_flagged = refl

abbrev unseen : Port
unseen = after (Mute 1) (ap_write RC) start

write_unseen : PortAsks start (ap_write RC) 3 unseen
write_unseen = asks (Mute 1) (ap_write RC) start (omega arith) (λ e. refl) tt

-- after it write data is awaited, and a line reset sets WDATAERR
reset_while_awaited : PortLeads unseen 100 (port_after_lead 100 unseen)
reset_while_awaited = (unseen, port_after_lead 100 unseen, inl refl, record { after = refl }, inl refl)

awaited_is_flagged : (port_after_lead 100 unseen).target.write_error ≡ true
awaited_is_flagged = refl

-- Laws of the words that are read, and of returned values.
use Rattle.std.proofs.Common.{◌≡◌, ◌<◌, ◌^◌, ℕ, Bool, true, false, refl, sym, ap, subst, inl, inr, arith, ◌∙◌}
use Rattle.std.specs.Prelude.{Option, Some, ◌&&◌, not, if◌then◌else◌, unwrap_or, ◌==◌, ◌≢◌, ◌*◌, ◌/◌, ◌%◌}
use Rattle.std.specs.Int.RustNames.{bit_and}
use Rattle.std.proofs.lemmas.Nat.{and_assoc}
use Rattle.swd_bits.specs.Bits.{bit}
use Rattle.swd_port.specs.Registers.{register_bit, ctrl_stat_read, ctrl_stat_mask, ctrl_stat_holds}
use Rattle.swd_port.specs.Choices.{Choice}
use Rattle.swd_bits.specs.Phases.{data_phase_number}
use Rattle.swd_port.specs.Choices.{port_flipped}
use Rattle.swd_port.specs.Port.{Target, Register, Drives, Drw}
use Rattle.swd_port.specs.Asking.{is_port_posted, port_value_read, port_value_in, ctrl_stat_word_in}
use Rattle.swd_port.specs.Asking.{port_buffer_once_read, stickyerr_once_read, pending_drw_once_read}
use Rattle.swd_port.specs.Asking.{port_after_okay}
use Rattle.swd_port.specs.Answers.{is_exempt_register}
use Rattle.swd_port.specs.Transfers.{PortCarries}
use Rattle.swd_port.specs.Laws.WordsRead.{CtrlStatWordReads, PortIdentificationReturned}
use Rattle.swd_port.specs.Laws.WordsRead.{CtrlStatReturned, PortBufferReturned, PortValueResent, PortCarriedByRequest}
use Rattle.swd_port.specs.Laws.WordsRead.{PortCarriedWhereHeld, PortCarriedWhereRefused, PortCarriedWherePassed}
use Rattle.swd_port.specs.Laws.WordsRead.{PortCarriedByReset, PortAbortClears, PortAbortClearsFlags}
use Rattle.swd_port.proofs.RegisterLemmas.{register_bit_masked}

-- CTRL/STAT
-- one bit of a word that has these bits, whatever its other parts are
record Parts (others : ℕ) (a b d e f g h : Bool) (word : ℕ) : Type 0 where
  pub five : word / 2 ^ 5 % 2 ≡ bit a
  pub six : word / 2 ^ 6 % 2 ≡ bit b
  pub seven : word / 2 ^ 7 % 2 ≡ bit d
  pub debug : word / 2 ^ 29 % 2 ≡ bit (e && f)
  pub system : word / 2 ^ 31 % 2 ≡ bit (g && h)
  pub range : word < 2 ^ 32

bit_small : (b : Bool) → bit b < 2
bit_small true = omega arith
bit_small false = omega arith

parts : (others : ℕ) (a b d e f g h : Bool) → Parts others a b d e f g h (ctrl_stat_read others a b d e f g h)
parts others a b d e f g h =
    let p5 = bit_small a in
    let p6 = bit_small b in
    let p7 = bit_small d in
    let p28 = bit_small e in
    let p29 = bit_small (e && f) in
    let p30 = bit_small g in
    let p31 = bit_small (g && h) in
    record {
      five = omega arith;
      six = omega arith;
      seven = omega arith;
      debug = omega arith;
      system = omega arith;
      range = omega arith;
    }

bit_is_one : (b : Bool) → (bit b == 1) ≡ b
bit_is_one true = refl
bit_is_one false = refl

-- a bit of a word, by its digit
bit_read : (n word : ℕ) (b : Bool) → word / 2 ^ n % 2 ≡ bit b → register_bit n word ≡ b
bit_read n word b e = ap (λ x. x == 1) e ∙ bit_is_one b

mask_is : (b : Bool) (mask : ℕ) → mask ≢ 0 → (bit b * mask == mask) ≡ b
mask_is true mask some = grind arith
mask_is false mask some = grind arith

-- a bit that CTRL/STAT names, by its digit
holds : (n word : ℕ) (b : Bool) → bit_and ctrl_stat_mask (2 ^ n) ≡ 2 ^ n → 2 ^ n ≢ 0 → word / 2 ^ n % 2 ≡ bit b
    → ctrl_stat_holds (2 ^ n) word ≡ b
holds n word b named some e =
    let all : bit_and (bit_and word ctrl_stat_mask) (2 ^ n) ≡ bit b * 2 ^ n =
    and_assoc (2 ^ n) word ctrl_stat_mask ∙ ap (bit_and word) named ∙ register_bit_masked word n
    ∙ ap (λ x. x * 2 ^ n) e in
    ap (λ x. x == 2 ^ n) all ∙ mask_is b (2 ^ n) some

-- the word of CTRL/STAT has 32 bits
pub ctrl_stat_word_range : (others : ℕ) (a b d e f g h : Bool) → ctrl_stat_read others a b d e f g h < 2 ^ 32
ctrl_stat_word_range others a b d e f g h = (parts others a b d e f g h).range

-- from the word of CTRL/STAT the flags, READOK and both power acknowledgements are read back, each whatever the
-- other bits are
pub ctrl_stat_word_reads : CtrlStatWordReads
ctrl_stat_word_reads others a b d e f g h =
    let word = ctrl_stat_read others a b d e f g h in
    let p : Parts others a b d e f g h word = parts others a b d e f g h in
    record {
      sticky_held = holds 5 word a refl (omega arith) p.five;
      ok_held = holds 6 word b refl (omega arith) p.six;
      write_held = holds 7 word d refl (omega arith) p.seven;
      debug_held = holds 29 word (e && f) refl (omega arith) p.debug;
      system_held = holds 31 word (g && h) refl (omega arith) p.system;
      sticky_bit = bit_read 5 word a p.five;
      ok_bit = bit_read 6 word b p.six;
      write_bit = bit_read 7 word d p.seven;
      debug_bit = bit_read 29 word (e && f) p.debug;
      system_bit = bit_read 31 word (g && h) p.system;
      range = p.range;
    }

-- the read buffer and the last returned value
returned : (value filler : ℕ) (known : Option ℕ) → known ≡ Some value → unwrap_or known filler ≡ value
returned value filler known e = rw e refl

taken_by : (b : Bool) (x y : Option ℕ) → b ≡ true → (if b then x else y) ≡ x
taken_by b x y e = rw e refl

-- a posted read's value is the buffer's
posted_value : (r : Register) (identification status : ℕ) (last_returned buffer : Option ℕ) (c : Choice)
    → is_port_posted r ≡ true →
    port_value_read r identification status last_returned buffer c ≡ unwrap_or buffer c.filler
posted_value r identification status last_returned buffer c e = grind arith

-- a DPIDR read that is answered OK puts the identification's data phase on the line, with the changed bit, if any
pub port_identification_returned : PortIdentificationReturned
port_identification_returned flip s t h = record { line = h.line; range = h.value_range refl }

-- a CTRL/STAT read that is answered OK puts a word on the line that has the flags and the power acknowledgements as
-- they were then
pub ctrl_stat_returned : CtrlStatReturned
ctrl_stat_returned flip s t h = (
  record { line = h.line; range = h.value_range refl },
  ctrl_stat_word_reads h.choice.others s.target.sticky_error s.target.read_ok s.target.write_error s.target.debug_power
      _ s.target.system_power _,
)

-- an AP read or an RDBUFF read that is answered OK puts the read buffer's word, if known, on the line, and makes it
-- the last returned value
pub port_buffer_returned : PortBufferReturned
port_buffer_returned r flip value s t posted known h =
    let is : port_value_in h.choice r s.target ≡ value = posted_value r s.target.identification
    (ctrl_stat_word_in h.choice s.target) s.target.last_returned s.target.buffer h.choice posted
    ∙ returned value h.choice.filler s.target.buffer known in (
      record {
        line = h.line ∙ ap (λ n. Drives (port_flipped flip (data_phase_number n))) is;
        range = subst (λ n. n < 2 ^ 32) is
            (h.value_range refl);
      },
      ap (λ x. x.last_returned) h.target ∙ taken_by (is_port_posted r) s.target.buffer s.target.last_returned posted ∙
          known,
    )

-- a RESEND read that is answered OK puts the last returned value, if known, on the line, and keeps it
pub port_value_resent : PortValueResent
port_value_resent flip value s t known h =
    let is : unwrap_or s.target.last_returned h.choice.filler ≡ value =
    returned value h.choice.filler s.target.last_returned known in (
      record {
        line = h.line ∙ ap (λ n. Drives (port_flipped flip (data_phase_number n))) is;
        range = subst (λ n. n < 2 ^ 32) is
            (h.value_range refl);
      },
      ap (λ x. x.last_returned) h.target ∙ known,
    )

-- requests that leave a transfer alone
moves_none : (r : Register) (c : Choice) (increments : Bool) (tar buffer : Option ℕ) → is_exempt_register r ≡ true
    → port_buffer_once_read r c increments tar buffer ≡ buffer
moves_none r c increments tar buffer e = grind arith

sets_none : (refuses : Bool) (r : Register) (flag : Bool) → is_exempt_register r ≡ true
    → stickyerr_once_read refuses r flag ≡ flag
sets_none refuses r flag e = grind arith

starts_none : (r : Register) (pending : Option Drw) → is_exempt_register r ≡ true
    → pending_drw_once_read r pending ≡ pending
starts_none r pending e = grind arith

posts_none : (r : Register) → is_exempt_register r ≡ true → is_port_posted r ≡ false
posts_none r e = grind arith

chosen : {A : Type 0} (b : Bool) (x y : A) → b ≡ false → (if b then x else y) ≡ y
chosen b x y e = rw e refl

-- what leaves a sent transfer as it was, and the last returned value
abbrev Leaves : Target → Target → Type 0
Leaves x y = PortCarries x y × (y.last_returned ≡ x.last_returned)

exempt_carries : (c : Choice) (r : Register) (x : Target) → is_exempt_register r ≡ true
    → Leaves x (port_after_okay c r x)
exempt_carries c r x e = (
  record {
    pending = starts_none r x.pending e;
    tar = refl;
    memory = refl;
    sticky_error = sets_none c.refuses r x.sticky_error e;
    buffer = moves_none r c x.increments x.tar x.buffer e;
    increments = refl;
  },
  chosen (is_port_posted r) x.buffer x.last_returned (posts_none r e),
)

-- an exempt request or a RESEND read, answered OK, keeps a sent transfer and the last returned value
pub port_carried_by_request : PortCarriedByRequest
port_carried_by_request r read flip s t (inl e) h = subst (Leaves s.target) (sym h.target)
    (exempt_carries h.choice r s.target e)
port_carried_by_request r read flip s t (inr e) h = subst (Leaves s.target)
    (sym (h.target ∙ ap (λ x. port_after_okay h.choice x s.target) e))
    (record { pending = refl; tar = refl; memory = refl; sticky_error = refl; buffer = refl; increments = refl }, refl)

-- a request that had no effect, or got WAIT, keeps a sent transfer
pub port_carried_where_held : PortCarriedWhereHeld
port_carried_where_held r s t (inl h) = subst (PortCarries s.target) (sym h.target)
    (record { pending = refl; tar = refl; memory = refl; sticky_error = refl; buffer = refl; increments = refl })
port_carried_where_held r s t (inr h) = subst (PortCarries s.target) (sym h.target)
    (record { pending = refl; tar = refl; memory = refl; sticky_error = refl; buffer = refl; increments = refl })

-- one that got FAULT keeps a sent transfer, where STICKYERR is unchanged
pub port_carried_where_refused : PortCarriedWhereRefused
port_carried_where_refused r access s t h e = record {
  pending = ap (λ x. x.pending) h.target;
  tar = ap (λ x. x.tar) h.target;
  memory = ap (λ x. x.memory) h.target;
  sticky_error = e;
  buffer = ap (λ x. x.buffer) h.target;
  increments = ap (λ x. x.increments) h.target;
}

-- a call that leaves the target unchanged keeps a sent transfer
pub port_carried_where_passed : PortCarriedWherePassed
port_carried_where_passed s t h = subst (PortCarries s.target) (sym h.target)
    (record { pending = refl; tar = refl; memory = refl; sticky_error = refl; buffer = refl; increments = refl })

-- a line reset keeps a sent transfer
pub port_carried_by_reset : PortCarriedByReset
port_carried_by_reset s t h = subst (PortCarries s.target) (sym h.target)
    (record { pending = refl; tar = refl; memory = refl; sticky_error = refl; buffer = refl; increments = refl })

-- ABORT
cleared : (flag bit : Bool) → bit ≡ true → (flag && not bit) ≡ false
cleared flag bit e = grind arith

uncleared : (flag bit : Bool) → bit ≡ false → (flag && not bit) ≡ flag
uncleared flag bit e = grind arith

-- ABORT's bits 2 and 3 clear STICKYERR and WDATAERR; the flag of a clear bit, the last returned value, the read
-- buffer, TAR, the memory and the pending transfer are unchanged
pub port_abort_clears_flags : PortAbortClearsFlags
port_abort_clears_flags word s t h = subst (PortAbortClears word s.target) (sym h.target) (record {
  sticky_cleared = cleared s.target.sticky_error (register_bit 2 word);
  sticky_kept = uncleared s.target.sticky_error (register_bit 2 word);
  write_cleared = cleared s.target.write_error (register_bit 3 word);
  write_kept = uncleared s.target.write_error (register_bit 3 word);
  last_returned = refl;
  buffer = refl;
  tar = refl;
  memory = refl;
  pending = refl;
})

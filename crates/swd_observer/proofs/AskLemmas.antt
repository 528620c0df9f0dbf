-- What OK tells that was seen, and what a request does by what is known of SELECT.
use Rattle.std.proofs.Common.{◌≡◌, ◌<◌, ◌^◌, ℕ, Bool, true, false, refl, sym, ap, subst, inl, inr, ◌∙◌, ◌⊎◌}
use Rattle.std.specs.Prelude.{Option, Some, None, IfSome, unwrap_or, ◌||◌, ◌&&◌, ◌==◌, if◌then◌else◌, not as no}
use Rattle.swd_bits.specs.declared.request.Request.{Request}
use Rattle.swd_bits.specs.declared.request.Reg4.{Reg4}
use Rattle.swd_bits.specs.declared.request.Reg4.TheVariants.{R0, R4, R8, RC}
use Rattle.swd_port.specs.declared.select.Select.{Select}
use Rattle.swd_port.specs.declared.register.Register.{Register}
use Rattle.swd_port.specs.declared.register.Register.TheVariants.{SelectWrite, CswWrite, TarWrite, DrwRead, DrwWrite}
use Rattle.swd_port.specs.declared.state.Reply.{Reply}
use Rattle.swd_port.specs.declared.state.Reply.TheVariants.{Okay, Waits, Faults, Silent}
use Rattle.swd_port.specs.declared.mark.Mark.{Mark}
use Rattle.swd_port.specs.declared.mark.Mark.TheVariants.{Clean, Wait, Flip, Deaf, Mute}
use Rattle.swd_port.specs.Port.{Port, Target, port_register, port_dp_register, port_register_where, mem_ap_register}
use Rattle.swd_port.specs.Port.{port_other_ap_register, port_selects_mem_ap}
use Rattle.swd_port.specs.Choices.{Choice, port_flip_of}
use Rattle.swd_port.specs.Answers.{is_exempt_register, port_may_wait, port_reply_under, PortSees, is_port_unpowered}
use Rattle.swd_port.specs.Answers.{IsPortNoAck, port_ack_driven, port_is_answered}
use Rattle.swd_port.specs.Asking.{PortAsksNow, port_reply, port_answer, port_after_okay, port_value_in}
use Rattle.swd_port.specs.Asking.{port_phase_after, port_has_power, IsPortWordRead}
use Rattle.swd_port.proofs.RequestLaws.{PortReplied, port_replied}
use Rattle.swd_observer.specs.declared.observer.Observer.{Observer}
use Rattle.swd_observer.specs.declared.observer.Written.{Written}
use Rattle.swd_observer.specs.declared.observer.Written.TheVariants.{Select as ToSelect, Csw as ToCsw, Tar as ToTar}
use Rattle.swd_observer.specs.declared.observer.Written.TheVariants.{Drw as ToDrw}
use Rattle.swd_observer.specs.declared.observer.RequestEffect.{RequestEffect}
use Rattle.swd_observer.specs.declared.observer.RequestEffect.TheVariants.{Other, Elsewhere, Reads, Writes, MayRead}
use Rattle.swd_observer.specs.declared.observer.RequestEffect.TheVariants.{MayWrite}
use Rattle.swd_observer.specs.Observing.{Confirms, observed_class_dp, observed_class, observed_kind_dp}
use Rattle.swd_observer.specs.Observing.{observed_kind_mem, observed_kind_maybe, observed_kind_ap, observed_kind}
use Rattle.swd_observer.specs.Observing.{is_observed_data_register, is_observed_posted_read, is_observed_rc}
use Rattle.swd_observer.specs.Observing.{is_other_bank_observed}

-- the acknowledgement by its number
abbrev pub observed_reply_of : ℕ → Reply
observed_reply_of seen = if seen == 1 then Okay else if seen == 2 then Waits else if seen == 4 then Faults else Silent

driven : (reply : Reply) (seen : ℕ) → seen ≡ port_ack_driven reply → reply ≡ observed_reply_of seen
driven Okay seen e = ap observed_reply_of (sym e)
driven Waits seen e = ap observed_reply_of (sym e)
driven Faults seen e = ap observed_reply_of (sym e)
driven Silent seen e = ap observed_reply_of (sym e)

-- an acknowledgement that the host sees is the one that the target answered
pub observed_reply_seen : (mark : Mark) (reply : Reply) (seen : ℕ) → PortSees mark reply seen
    → (IsPortNoAck seen → ⊥) → reply ≡ observed_reply_of seen
observed_reply_seen Deaf reply seen h some = absurd (some h)
observed_reply_seen (Mute place) reply seen h some = absurd (some h)
observed_reply_seen Clean reply seen h some = driven reply seen h
observed_reply_seen Wait reply seen h some = driven reply seen h
observed_reply_seen (Flip place) reply seen h some = driven reply seen h

seen_okay : (mark : Mark) (reply : Reply) → PortSees mark reply 1 → reply ≡ Okay
seen_okay mark reply h = observed_reply_seen mark reply 1 h (λ none. let e : true ≡ false = none.not_okay in cc)

waited : (b : Bool) (a : Reply) → (if b then Waits else a) ≡ Okay → a ≡ Okay
waited true a e = absurd (cc)
waited false a e = e

under_okay : (mark : Mark) (r : Register) (a : Reply) → port_reply_under mark r a ≡ Okay → a ≡ Okay
under_okay Clean r a e = e
under_okay Wait r a e = waited (port_may_wait r a) a e
under_okay (Flip place) r a e = e
under_okay Deaf r a e = absurd (cc)
under_okay (Mute place) r a e = e

clear_by : (a b c : Bool) → (if no a then Silent else if b then Okay else if c then Faults else Okay) ≡ Okay → b ≡ false
    → c ≡ false
clear_by a b false e f = refl
clear_by a true true e f = absurd (cc)
clear_by true false true e f = absurd (cc)
clear_by false false true e f = absurd (cc)

-- an OK that was seen, whatever the mark
pub record ObservedOkayed (s : Port) (q : Request) (t : Port) : Type 0 where
  pub choice : Choice
  pub flip : Option ℕ
  pub target : t.target ≡ port_after_okay choice (port_register s.target.select q) s.target
  pub line : t.link.line ≡ port_phase_after q.read (port_register s.target.select q) flip
      (port_value_in choice (port_register s.target.select q) s.target)
  pub value : q.read ≡ true → port_value_in choice (port_register s.target.select q) s.target < 2 ^ 32
  pub settled : is_exempt_register (port_register s.target.select q) ≡ false → s.target.pending ≡ None
  pub clear : is_exempt_register (port_register s.target.select q) ≡ false →
      (s.target.sticky_error || s.target.write_error || is_port_unpowered q.ap (port_has_power s.target)) ≡ false

word_read : (read : Bool) (value : ℕ) → IsPortWordRead Okay read value → read ≡ true → value < 2 ^ 32
word_read true value h e = h
word_read false value h e = absurd (cc)

-- where the host sees OK the target answered OK, whatever the mark
pub observed_ask_okayed : (mark : Mark) (c : Choice) (s : Port) (q : Request) (t : Port) → PortAsksNow mark c s q 1 t
    → ObservedOkayed s q t
observed_ask_okayed mark c s q t h =
    let is : port_reply mark s.target q ≡ Okay = seen_okay mark (port_reply mark s.target q) h.sees in
    let k : PortReplied mark c Okay (port_register s.target.select q) s q 1 t =
    port_replied mark c Okay (port_register s.target.select q) s q 1 t is refl h in
    record {
      choice = c;
      flip = port_flip_of mark;
      target = ap (λ p. p.target) k.after;
      line = ap (λ p. p.link.line) k.after;
      value = word_read q.read _ k.word;
      settled = k.settled;
      clear = clear_by (port_is_answered s.target.reset (port_register s.target.select q)) (is_exempt_register
          (port_register s.target.select q)) _
          (under_okay mark (port_register s.target.select q) (port_answer s.target q) is);
    }

-- the requests that tell: none of them is exempt
plain_dp : (other read : Bool) (addr : Reg4) (bank0 : Bool) → observed_class_dp other read addr ≡ Confirms
    → (other ≡ true → bank0 ≡ false) → is_exempt_register (port_dp_register read addr bank0) ≡ false
plain_dp other true R0 b e f = absurd (cc)
plain_dp other false R0 b e f = absurd (cc)
plain_dp true true R4 b e f = rw (f refl) refl
plain_dp false true R4 b e f = absurd (cc)
plain_dp other false R4 true e f = refl
plain_dp other false R4 false e f = refl
plain_dp other true R8 b e f = refl
plain_dp other false R8 b e f = refl
plain_dp other true RC b e f = refl
plain_dp other false RC b e f = refl

plain_ap : (m read : Bool) (addr : Reg4)
    → is_exempt_register (if m then mem_ap_register read addr else port_other_ap_register read) ≡ false
plain_ap true true R0 = refl
plain_ap true true R4 = refl
plain_ap true true R8 = refl
plain_ap true true RC = refl
plain_ap true false R0 = refl
plain_ap true false R4 = refl
plain_ap true false R8 = refl
plain_ap true false RC = refl
plain_ap false true addr = refl
plain_ap false false addr = refl

plain_by : (ap other : Bool) (s : Select) (read : Bool) (addr : Reg4)
    → (if ap then Confirms else observed_class_dp other read addr) ≡ Confirms
    → (other ≡ true → (s.dpbanksel == 0) ≡ false)
    → is_exempt_register (port_register_where (port_selects_mem_ap s) (s.dpbanksel == 0) ap read addr)
    ≡ false
plain_by true other s read addr e f = plain_ap (port_selects_mem_ap s) read addr
plain_by false other s read addr e f = plain_dp other read addr (s.dpbanksel == 0) e f

-- a request whose OK confirms isn't exempt, if DPBANKSEL isn't 0 where it is known not to be
pub observed_not_exempt : (o : Observer) (s : Select) (q : Request) → observed_class o q ≡ Confirms
    → (is_other_bank_observed o ≡ true → (s.dpbanksel == 0) ≡ false) → is_exempt_register (port_register s q) ≡ false
observed_not_exempt o s q e f = plain_by q.ap (is_other_bank_observed o) s q.read q.addr e f

-- registers of which an observer keeps nothing
abbrev pub is_observed_harmless : Register → Bool
is_observed_harmless SelectWrite = false
is_observed_harmless CswWrite = false
is_observed_harmless TarWrite = false
is_observed_harmless DrwWrite = false
is_observed_harmless DrwRead = false
is_observed_harmless r = true

-- the register of each kind of write that an observer tracks
abbrev pub observed_register_for : Written → Register
observed_register_for ToSelect = SelectWrite
observed_register_for ToCsw = CswWrite
observed_register_for ToTar = TarWrite
observed_register_for ToDrw = DrwWrite

abbrev pub ObservedKindFits : RequestEffect → Register → Type 0
ObservedKindFits Other r = is_observed_harmless r ≡ true
ObservedKindFits (Elsewhere read) r = is_observed_harmless r ≡ true
ObservedKindFits Reads r = r ≡ DrwRead
ObservedKindFits (Writes w) r = r ≡ observed_register_for w
ObservedKindFits MayRead r = (r ≡ DrwRead) ⊎ (is_observed_harmless r ≡ true)
ObservedKindFits (MayWrite w) r = (r ≡ observed_register_for w) ⊎ (is_observed_harmless r ≡ true)

fits_dp : (read : Bool) (addr : Reg4) (b : Bool)
    → ObservedKindFits (observed_kind_dp read addr) (port_dp_register read addr b)
fits_dp true R0 b = refl
fits_dp false R0 b = refl
fits_dp true R4 true = refl
fits_dp true R4 false = refl
fits_dp false R4 true = refl
fits_dp false R4 false = refl
fits_dp true R8 b = refl
fits_dp false R8 b = refl
fits_dp true RC b = refl
fits_dp false RC b = refl

fits_mem : (read : Bool) (addr : Reg4) → ObservedKindFits (observed_kind_mem read addr) (mem_ap_register read addr)
fits_mem true R0 = refl
fits_mem true R4 = refl
fits_mem true R8 = refl
fits_mem true RC = refl
fits_mem false R0 = refl
fits_mem false R4 = refl
fits_mem false R8 = refl
fits_mem false RC = refl

harmless_no : (read : Bool) → is_observed_harmless (port_other_ap_register read) ≡ true
harmless_no true = refl
harmless_no false = refl

maybe_fits : (k : RequestEffect) (r : Register) → ObservedKindFits k r → ObservedKindFits (observed_kind_maybe k) r
maybe_fits Other r h = h
maybe_fits (Elsewhere read) r h = h
maybe_fits Reads r h = inl h
maybe_fits (Writes w) r h = inl h
maybe_fits MayRead r h = h
maybe_fits (MayWrite w) r h = h

maybe_harmless : (k : RequestEffect) (r : Register) → is_observed_harmless r ≡ true
    → ObservedKindFits (observed_kind_maybe k) r
maybe_harmless Other r h = h
maybe_harmless (Elsewhere read) r h = h
maybe_harmless Reads r h = inr h
maybe_harmless (Writes w) r h = inr h
maybe_harmless MayRead r h = inr h
maybe_harmless (MayWrite w) r h = inr h

fits_none : (m read : Bool) (addr : Reg4)
    → ObservedKindFits (observed_kind_maybe (observed_kind_mem read addr))
    (if m then mem_ap_register read addr else port_other_ap_register read)
fits_none true read addr = maybe_fits (observed_kind_mem read addr) (mem_ap_register read addr) (fits_mem read addr)
fits_none false read addr = maybe_harmless (observed_kind_mem read addr) (port_other_ap_register read)
    (harmless_no read)

fits_some : (m d read : Bool) (addr : Reg4)
    → ObservedKindFits (if m then observed_kind_mem read addr else if d then Elsewhere read else Other)
    (if m then mem_ap_register read addr else port_other_ap_register read)
fits_some true d read addr = fits_mem read addr
fits_some false true read addr = harmless_no read
fits_some false false read addr = harmless_no read

fits_ap : (known : Option Select) (s : Select) (read : Bool) (addr : Reg4) → IfSome known (λ v. s ≡ v)
    → ObservedKindFits (observed_kind_ap known read addr)
    (if port_selects_mem_ap s then mem_ap_register read addr else port_other_ap_register read)
fits_ap None s read addr h = fits_none (port_selects_mem_ap s) read addr
fits_ap (Some v) s read addr h =
    subst (λ z. ObservedKindFits (observed_kind_ap (Some v) read addr)
    (if port_selects_mem_ap z then mem_ap_register read addr else port_other_ap_register read)) (sym h)
    (fits_some (port_selects_mem_ap v) (is_observed_data_register v addr) read addr)

fits_by : (ap : Bool) (known : Option Select) (s : Select) (read : Bool) (addr : Reg4) → IfSome known (λ v. s ≡ v)
    → ObservedKindFits (if ap then observed_kind_ap known read addr else observed_kind_dp read addr)
    (port_register_where (port_selects_mem_ap s) (s.dpbanksel == 0) ap read addr)
fits_by true known s read addr h = fits_ap known s read addr h
fits_by false known s read addr h = fits_dp read addr (s.dpbanksel == 0)

-- what a request is taken for fits the register that it names, if what is known of SELECT is true
pub observed_kind_fits : (known : Option Select) (s : Select) (q : Request) → IfSome known (λ v. s ≡ v)
    → ObservedKindFits (observed_kind known q) (port_register s q)
observed_kind_fits known s q h = fits_by q.ap known s q.read q.addr h

-- the reads that give the read buffer
posted_mem : (m : Bool) (addr : Reg4) (chosen : Choice) (x : Target)
    → port_value_in chosen (if m then mem_ap_register true addr else port_other_ap_register true) x
    ≡ unwrap_or x.buffer chosen.filler
posted_mem true R0 chosen x = refl
posted_mem true R4 chosen x = refl
posted_mem true R8 chosen x = refl
posted_mem true RC chosen x = refl
posted_mem false addr chosen x = refl

posted_by : (ap : Bool) (s : Select) (read : Bool) (addr : Reg4) (chosen : Choice) (x : Target)
    → (read && (ap || is_observed_rc addr)) ≡ true
    → port_value_in chosen (port_register_where (port_selects_mem_ap s) (s.dpbanksel == 0) ap read addr)
    x ≡ unwrap_or x.buffer chosen.filler
posted_by true s true addr chosen x e = posted_mem (port_selects_mem_ap s) addr chosen x
posted_by true s false addr chosen x e = absurd (cc)
posted_by false s false addr chosen x e = absurd (cc)
posted_by false s true R0 chosen x e = absurd (cc)
posted_by false s true R4 chosen x e = absurd (cc)
posted_by false s true R8 chosen x e = absurd (cc)
posted_by false s true RC chosen x e = refl

-- an AP read or an RDBUFF read gives the word of the read buffer, or the filler where that is unknown
pub observed_posted_value : (s : Select) (q : Request) (chosen : Choice) (x : Target)
    → is_observed_posted_read q ≡ true → port_value_in chosen (port_register s q) x ≡ unwrap_or x.buffer chosen.filler
observed_posted_value s q chosen x e = posted_by q.ap s q.read q.addr chosen x e

-- a read writes nothing, and a write reads nothing
abbrev pub is_observed_writing : RequestEffect → Bool
is_observed_writing (Writes w) = true
is_observed_writing (MayWrite w) = true
is_observed_writing k = false

-- the request reads DRW, or may
abbrev pub is_observed_reading : RequestEffect → Bool
is_observed_reading Reads = true
is_observed_reading MayRead = true
is_observed_reading k = false

-- the request is taken for one of the other direction, or for one that may be
abbrev is_observed_against : Bool → RequestEffect → Bool
is_observed_against true k = is_observed_writing k
is_observed_against false k = is_observed_reading k

-- a request for a register of a MEM-AP or of the debug port isn't
along_each : (read : Bool) (addr : Reg4) → (is_observed_against read (observed_kind_mem read addr) ≡ false)
    × (is_observed_against read (observed_kind_maybe (observed_kind_mem read addr)) ≡ false)
    × (is_observed_against read (observed_kind_dp read addr) ≡ false)
along_each true R0 = (refl, refl, refl)
along_each true R4 = (refl, refl, refl)
along_each true R8 = (refl, refl, refl)
along_each true RC = (refl, refl, refl)
along_each false R0 = (refl, refl, refl)
along_each false R4 = (refl, refl, refl)
along_each false R8 = (refl, refl, refl)
along_each false RC = (refl, refl, refl)

along_if : (m d read : Bool) (addr : Reg4) → is_observed_against read
    (if m then observed_kind_mem read addr else if d then Elsewhere read else Other) ≡ false
along_if true d read addr = (along_each read addr).0
along_if false true true addr = refl
along_if false true false addr = refl
along_if false false true addr = refl
along_if false false false addr = refl

along : (ap : Bool) (known : Option Select) (read : Bool) (addr : Reg4) → is_observed_against read
    (if ap then observed_kind_ap known read addr else observed_kind_dp read addr) ≡ false
along true None read addr = (along_each read addr).1
along true (Some s) read addr = along_if (port_selects_mem_ap s) (is_observed_data_register s addr) read addr
along false known read addr = (along_each read addr).2

-- a read isn't taken for a write, nor for a possible one
pub observed_reads_only : (known : Option Select) (q : Request) → q.read ≡ true
    → is_observed_writing (observed_kind known q) ≡ false
observed_reads_only known q e =
    subst (λ r. is_observed_against r (observed_kind known q) ≡ false) e (along q.ap known q.read q.addr)

-- a write isn't taken for a read of DRW, nor for a possible one
pub observed_writes_only : (known : Option Select) (q : Request) → q.read ≡ false
    → is_observed_reading (observed_kind known q) ≡ false
observed_writes_only known q e =
    subst (λ r. is_observed_against r (observed_kind known q) ≡ false) e (along q.ap known q.read q.addr)

-- a request for a register of the access port is one of it
ap_drw_read : (b read : Bool) (addr : Reg4) → port_dp_register read addr b ≡ DrwRead → ⊥
ap_drw_read b true R0 e = cc
ap_drw_read true true R4 e = cc
ap_drw_read false true R4 e = cc
ap_drw_read b true R8 e = cc
ap_drw_read b true RC e = cc
ap_drw_read b false R0 e = cc
ap_drw_read true false R4 e = cc
ap_drw_read false false R4 e = cc
ap_drw_read b false R8 e = cc
ap_drw_read b false RC e = cc

ap_drw_write : (b read : Bool) (addr : Reg4) → port_dp_register read addr b ≡ DrwWrite → ⊥
ap_drw_write b true R0 e = cc
ap_drw_write true true R4 e = cc
ap_drw_write false true R4 e = cc
ap_drw_write b true R8 e = cc
ap_drw_write b true RC e = cc
ap_drw_write b false R0 e = cc
ap_drw_write true false R4 e = cc
ap_drw_write false false R4 e = cc
ap_drw_write b false R8 e = cc
ap_drw_write b false RC e = cc

drw_by : (ap : Bool) (s : Select) (read : Bool) (addr : Reg4) (r : Register)
    → (r ≡ DrwRead) ⊎ (r ≡ DrwWrite)
    → port_register_where (port_selects_mem_ap s) (s.dpbanksel == 0) ap read addr ≡ r → ap ≡ true
drw_by true s read addr r h e = refl
drw_by false s read addr r (inl h) e = absurd (ap_drw_read (s.dpbanksel == 0) read addr (e ∙ h))
drw_by false s read addr r (inr h) e = absurd (ap_drw_write (s.dpbanksel == 0) read addr (e ∙ h))

-- a request that reads or writes DRW is an AP access
pub observed_drw_is_ap : (s : Select) (q : Request) → (port_register s q ≡ DrwRead) ⊎ (port_register s q ≡ DrwWrite)
    → q.ap ≡ true
observed_drw_is_ap s q h = drw_by q.ap s q.read q.addr (port_register s q) h refl

-- Each request that the engine sends keeps what it knows.
use Rattle.swd_host.proofs.Words.{◌≡◌, ◌≢◌, ◌+◌, ◌%◌, ◌≤◌, ℕ, Bool, true, false, refl, sym, ap, subst, inl, arith, ◌∙◌}
use Rattle.swd_host.proofs.Words.{Option, Some, None, ◌⊎◌, Task, Bus, Port, port_register, Register, DpidrRead}
use Rattle.swd_host.proofs.Words.{ResendRead, RdbuffRead, DrwRead, is_exempt_register, PortAsks, port_has_power}
use Rattle.swd_host.proofs.Words.{is_port_posted, PortIgnores, PortAccepts, okay, lost, PortOnLine, HostStep, Identify}
use Rattle.swd_host.proofs.Words.{WriteAbort, Select, Power, Configure, ReadCsw, Configured, WriteTar, Transfer, At}
use Rattle.swd_host.proofs.Words.{Resend, engine_request_for, engine_confirmed, EngineHand, EngineBase}
use Rattle.swd_host.proofs.Words.{EngineTargetCalm, EnginePlaceHas, port_select_zero, EnginePlaceIsSure}
use Rattle.swd_host.proofs.Words.{EngineWriteDamaged, by_damage, EngineResendWord, EngineDuring, EngineMemoryWithin}
use Rattle.swd_host.proofs.Words.{EngineReads, EngineWrites, OpeningIsAwake}
use Rattle.swd_port.specs.declared.register.Register.TheVariants.{CswRead}
use Rattle.swd_port.proofs.RequestLaws.{port_identification_at_rest}
use Rattle.swd_port.proofs.StatusLaws.{port_identification_returned, port_buffer_returned, port_value_resent}
use Rattle.swd_host.specs.Requests.{engine_register_at, engine_place_is_exempt}
use Rattle.swd_host.specs.Tracks.{OpeningIsReachable, engine_place_is_abort, EngineBeforeDamage}
use Rattle.swd_host.specs.Flags.{host_csw_is_configured}
use Rattle.swd_port.specs.Registers.{csw_read}
use Rattle.swd_port.specs.Laws.Registers.{PortCswFields}
use Rattle.swd_port.proofs.RegisterLemmas.{port_csw_reads}
use Rattle.swd_host.proofs.Frames.{HostFrame, HostSameFlags, host_frame_okay, host_flags_okay, host_place_framed}
use Rattle.swd_host.proofs.Frames.{sure_framed, resent_framed, host_job_in_flight, host_place_in_flight}
use Rattle.swd_host.proofs.Frames.{host_in_flight_idle, host_lost_in_flight, host_debug_power}
use Rattle.swd_host.proofs.Asked.{HostAskOutcome, came_okay, came_lost, host_data_read_due, host_data_write_due}
use Rattle.swd_host.proofs.Asked.{host_ask_unflagged, host_ask_write_error, host_ask_abort}

-- THE WRITE BEFORE
abbrev is_written : HostStep → Bool
is_written WriteAbort = true
is_written Select = true
is_written Power = true
is_written Configure = true
is_written WriteTar = true
is_written Transfer = true
is_written _ = false

-- a write leaves a target at rest to be confirmed
written_calm : (p : HostStep) (b : ℕ) (k : EngineHand) (s : Port) → is_written p ≡ true → EnginePlaceHas p b k s.target
    → EngineTargetCalm k.memory s.target
written_calm p b k s e h = grind arith

-- what a request confirms is a write
back_written : (p back : HostStep) (task : Task) (aims : Bool) → engine_confirmed p task aims ≡ Some back
    → is_written back ≡ true
back_written p back task aims e = grind arith

-- after a damaged write the target is at rest
pub host_damaged_calm : (p : HostStep) (n b : ℕ) (k : EngineHand) (s : Port) → EngineWriteDamaged p n b k s
    → EngineTargetCalm k.memory s.target
host_damaged_calm p n b k s h = written_calm h.back b k s (back_written p h.back k.task k.aims h.confirms) h.has

-- where what held before a corrupted write still holds, the target is live and at rest, with STICKYERR clear
pub host_spoilt_calm : (p : HostStep) (b : ℕ) (k : EngineHand) (s : Port) → EngineBeforeDamage p b k s.target
    → EngineTargetCalm k.memory s.target
host_spoilt_calm p b k s h = written_calm h.back b k s (back_written p h.back k.task k.aims h.confirms) h.has

-- AN ACCESS PORT'S REQUESTS HAVE POWER
hurt_power : (p : HostStep) (n b : ℕ) (k : EngineHand) (s : Port) → EngineWriteDamaged p n b k s
    → (engine_request_for (At p) k.task).ap ≡ true → port_has_power s.target ≡ true
hurt_power p n b k s h e = grind arith

-- REGISTERS
there : (p : HostStep) (a : Task) → port_register port_select_zero (engine_request_for (At p) a)
    ≡ engine_register_at p a
there p a = grind arith

-- the register that the request of a place reaches
pub engine_place_register : (p : HostStep) (a : Task) (s : Port) → s.target.select ≡ port_select_zero
    → port_register s.target.select (engine_request_for (At p) a) ≡ engine_register_at p a
engine_place_register p a s e = ap (λ x. port_register x (engine_request_for (At p) a)) e ∙ there p a

-- a place that may be answered WAIT or FAULT asks for a register that may be
pub engine_place_not_exempt : (p : HostStep) (a : Task) → engine_place_is_exempt p ≡ false
    → is_exempt_register (engine_register_at p a) ≡ false
engine_place_not_exempt p a e = grind arith

-- WHAT WAS DAMAGED
pub host_ask_damaged : (p : HostStep) (n : ℕ) (base : EngineBase) (b c : ℕ) (k : EngineHand) (v : ℕ) (s t : Port)
    → engine_place_is_exempt p ≡ false → b ≤ c → base.lost ≤ s.tally.lost → EngineWriteDamaged p n b k s
    → PortAsks s (engine_request_for (At p) k.task) v t → HostAskOutcome (At p) n base c k v t
host_ask_damaged p n base b c k v s t plain g l h asks =
    let calm : EngineTargetCalm k.memory s.target = host_damaged_calm p n b k s h in
    host_ask_write_error (At p) (engine_register_at p k.task) n base b c k v s t (engine_request_for (At p) k.task)
    (engine_place_register p k.task s calm.select) (engine_place_not_exempt p k.task plain) calm.live calm.pending
    h.flag (hurt_power p n b k s h) l g (host_place_in_flight h.back b k s h.has) (omega (arith, h.paid)) asks
    (λ f e more. record {
      free = plain;
      refused = by_damage
          (record {
            back = h.back;
            confirms = h.confirms;
            has = host_place_framed h.back b c k s t g f e.sticky h.has;
            flag = e.write ∙ h.flag;
            paid = omega (arith, h.paid);
          });
    })

-- SURE WRITES
module _ (p : HostStep) (n : ℕ) (base : EngineBase) (b c : ℕ) (k : EngineHand) (v : ℕ) (s t : Port) where
  -- what came of the request of a write, other than ABORT's, where the write before it wasn't corrupted
  pub write_asked : (r : Register) → engine_register_at p k.task ≡ r → (engine_request_for (At p) k.task).read ≡ false
      → is_exempt_register r ≡ false → is_port_posted r ≡ false → engine_place_is_exempt p ≡ false
      → engine_place_is_abort p ≡ false → r ≢ DrwRead → b ≤ c
      → EngineTargetCalm k.memory s.target
      → ((engine_request_for (At p) k.task).ap ≡ true → port_has_power s.target ≡ true)
      → base.lost ≤ s.tally.lost → EnginePlaceIsSure p n b k s → PortAsks s (engine_request_for (At p) k.task) v t
      → (EngineWrites r n (λ x. EnginePlaceIsSure p x c k t) t → EngineDuring (At p) n c k t)
      → HostAskOutcome (At p) n base c k v t
  write_asked r reg writes ex posted plain wipe nodrw g calm power l h asks go =
      let sure : (n' : ℕ) → HostFrame s t → HostSameFlags s t → n' + s.tally.disturbed ≤ n + t.tally.disturbed
      → EnginePlaceIsSure p n' c k t =
      (λ n' f e more. record {
        has = host_place_framed p b c k s t g f e.sticky h.has;
        flag = λ w. e.write ∙ h.flag w;
        paid = omega (arith, h.paid);
      }) in
      host_ask_unflagged (At p) r n base b c k v s t (engine_request_for (At p) k.task)
      (engine_place_register p k.task s calm.select ∙ reg) ex nodrw calm.live calm.pending
      (h.flag wipe) calm.sticky power l g (host_place_in_flight p b k s h.has) h.paid asks
      (λ flip sp a more.
      (let w : PortAccepts r false flip s t = subst (λ x. PortAccepts r x flip s t) writes a in
      let f : HostFrame s t = host_frame_okay r false flip s t posted calm.live w in
      let e : HostSameFlags s t = host_flags_okay r false flip s t posted w in
      go (host_data_write_due r n (λ x. EnginePlaceIsSure p x c k t) flip s t w.line sp (sure n f e (omega arith))
      (λ d. sure (n + 1) f e (omega arith)))))
      plain (λ f e d. inl (sure (n + 1) f e (omega arith)))

identify_lost : (b : ℕ) (k : EngineHand) (s t : Port) → OpeningIsReachable k.memory s.target
    → PortIgnores s t ⊎ PortAccepts DpidrRead true None s t → EngineMemoryWithin b k t.target
identify_lost b k s t h w = host_lost_in_flight DpidrRead true b b k s t (omega arith) (λ e. absurd (cc)) w
    (host_in_flight_idle b k s h.pending h.memory)

-- ABORT is written, whatever the flags
pub opening_ask_abort : (n : ℕ) (base : EngineBase) (b : ℕ) (k : EngineHand) (v : ℕ) (s t : Port)
    → base.lost ≤ s.tally.lost
    → EnginePlaceIsSure WriteAbort n b k s → PortAsks s (engine_request_for (At WriteAbort) k.task) v t
    → HostAskOutcome (At WriteAbort) n base b k v t
opening_ask_abort n base b k v s t l h asks =
    host_ask_abort (At WriteAbort) n base b k v s t (λ c. EnginePlaceIsSure WriteAbort c b k t)
    h.has.select h.has.live h.has.pending l (inl h) asks
    (λ n' f e more. sure_framed n n' b k s t f e more WriteAbort h) (λ w. w)

-- DPIDR is read
pub opening_ask_dpidr : (n : ℕ) (base : EngineBase) (b : ℕ) (k : EngineHand) (v : ℕ) (s t : Port)
    → base.lost ≤ s.tally.lost
    → EnginePlaceIsSure Identify n b k s → PortAsks s (engine_request_for (At Identify) k.task) v t
    → HostAskOutcome (At Identify) n base b k v t
opening_ask_dpidr n base b k v s t l h asks =
    elim (port_identification_at_rest (engine_request_for (At Identify) k.task) v s t
    (engine_place_register Identify k.task s h.has.select) h.has.reset h.has.pending asks) [
      | okay a ↦
          (let x : PortAccepts DpidrRead true a.flip s t = a.accepts in
          let awake : (n' : ℕ) → n' + s.tally.disturbed ≤ n + t.tally.disturbed → OpeningIsAwake n' k t =
          (λ n' more. record {
            calm = record {
              live = x.live;
              select = (ap (λ i. i.select) x.target) ∙ h.has.select;
              pending = ap (λ i. i.pending) x.target ∙ h.has.pending;
              memory = (ap (λ i. i.memory) x.target) ∙ h.has.memory;
              sticky = ap (λ i. i.sticky_error) x.target ∙ h.has.sticky;
            };
            odd = ap (λ w. w % 2) (ap (λ i. i.identification) x.target) ∙ h.has.odd;
            flag = (ap (λ i. i.write_error) x.target) ∙ h.flag refl;
            paid = omega (arith, h.paid);
          }) in
          let line : PortOnLine s.target.identification a.flip t = port_identification_returned a.flip s t x in
          came_okay a.is (subst (λ w. EngineReads w n (λ c. OpeningIsAwake c k t) t)
          (sym (ap (λ i. i.identification) x.target))
          (host_data_read_due s.target.identification n (λ c. OpeningIsAwake c k t) a.flip s t line a.spares
          (awake n (omega (arith, a.heard.disturbed_least))) (λ d. awake (n + 1) (omega arith)))))
      | lost a w ↦ came_lost a.none (identify_lost b k s t h.has w) (omega (arith, a.lost))
          (omega (arith, a.disturbed, h.paid))
    ]

-- the fields that the host checks
opening_csw_configured : (word : ℕ) → PortCswFields true word → host_csw_is_configured word ≡ true
opening_csw_configured word h = rw (h.size, h.addr_inc, h.device_en) refl

-- CSW is read: its word goes to the read buffer
csw_was_read : (n b : ℕ) (k : EngineHand) (s t : Port) (flip : Option ℕ) → EnginePlaceIsSure ReadCsw n b k s
    → PortAccepts CswRead true flip s t → s.tally.disturbed ≤ t.tally.disturbed → EnginePlaceIsSure Configured n b k t
csw_was_read n b k s t flip h a more =
    let c : PortCswFields true (csw_read true a.choice.others) = port_csw_reads true a.choice.others in
    let read : t.target.buffer ≡ Some (csw_read true a.choice.others) = ap (λ x. x.buffer) a.target
    ∙ ap (λ i. Some (csw_read i a.choice.others)) h.has.increments in
    let calm = h.has.calm in
    record {
      has = record {
        up = record {
          calm = record {
            live = a.live;
            select = ap (λ x. x.select) a.target ∙ calm.select;
            pending = ap (λ x. x.pending) a.target ∙ calm.pending;
            memory = ap (λ x. x.memory) a.target ∙ calm.memory;
            sticky = ap (λ x. x.sticky_error) a.target ∙ calm.sticky;
          };
          debug = ap (λ x. x.debug_power) a.target ∙ h.has.debug;
          system = ap (λ x. x.system_power) a.target ∙ h.has.system;
          debug_seen = ap (λ x. x.debug_up) a.target;
          system_seen = ap (λ x. x.system_up) a.target ∙ h.has.system_seen;
          increments = ap (λ x. x.increments) a.target ∙ h.has.increments;
        };
        word = csw_read true a.choice.others;
        buffer = read;
        configured = opening_csw_configured (csw_read true a.choice.others) c;
      };
      flag = λ e. ap (λ x. x.write_error) a.target ∙ h.flag refl;
      paid = omega (arith, h.paid);
    }

-- what came of the posted read of CSW, where the write of CSW before it wasn't corrupted
pub opening_ask_csw : (n : ℕ) (base : EngineBase) (b : ℕ) (k : EngineHand) (v : ℕ) (s t : Port)
    → base.lost ≤ s.tally.lost
    → EnginePlaceIsSure ReadCsw n b k s → PortAsks s (engine_request_for (At ReadCsw) k.task) v t
    → HostAskOutcome (At ReadCsw) n base b k v t
opening_ask_csw n base b k v s t l h asks =
    let calm : EngineTargetCalm k.memory s.target = h.has.calm in
    host_ask_unflagged (At ReadCsw) CswRead n base b b k v s t (engine_request_for (At ReadCsw) k.task)
    (engine_place_register ReadCsw k.task s calm.select) refl (λ e. absurd (cc)) calm.live calm.pending
    (h.flag refl) calm.sticky (λ e. host_debug_power s.target h.has.debug h.has.debug_seen) l (omega arith)
    (host_place_in_flight ReadCsw b k s h.has) h.paid asks (λ flip sp a more. csw_was_read n b k s t flip h a more)
    refl (λ f e d. inl (sure_framed n (n + 1) b k s t f e (omega arith) ReadCsw h))

-- CSW is read back
configured_word : (n n' : ℕ) (b : ℕ) (k : EngineHand) (s t : Port) (flip : Option ℕ)
    → n' + s.tally.disturbed ≤ n + t.tally.disturbed → (h : EnginePlaceIsSure Configured n b k s)
    → PortAccepts RdbuffRead true flip s t → EngineResendWord Configured h.has.word n' b k t
configured_word n n' b k s t flip more h a = grind arith

-- what came of the read of RDBUFF that returns the word of CSW
pub opening_ask_csw_word : (n : ℕ) (base : EngineBase) (b : ℕ) (k : EngineHand) (v : ℕ) (s t : Port)
    → base.lost ≤ s.tally.lost
    → EnginePlaceIsSure Configured n b k s → PortAsks s (engine_request_for (At Configured) k.task) v t
    → HostAskOutcome (At Configured) n base b k v t
opening_ask_csw_word n base b k v s t l h asks =
    let calm : EngineTargetCalm k.memory s.target = h.has.up.calm in
    host_ask_unflagged (At Configured) RdbuffRead n base b b k v s t (engine_request_for (At Configured) k.task)
    (engine_place_register Configured k.task s calm.select) refl (λ e. absurd (cc)) calm.live calm.pending
    (h.flag refl) calm.sticky (λ e. absurd (cc)) l (omega arith) (host_place_in_flight Configured b k s h.has) h.paid
    asks (λ flip sp a more. (
      h.has.word,
      host_data_read_due h.has.word n
          (λ c. EngineResendWord Configured h.has.word c b k t) flip s t
          (port_buffer_returned RdbuffRead flip h.has.word s t refl h.has.buffer a).0 sp
          (configured_word n n b k s t flip (omega arith) h a) (λ d. configured_word n (n + 1) b k s t flip
          (omega arith) h a),
    ))
    refl (λ f e d. inl (sure_framed n (n + 1) b k s t f e (omega arith) Configured h))

-- RESEND, where no transfer is in flight
pub host_resend_at_rest : (p : HostStep) (word n : ℕ) (base : EngineBase) (b : ℕ) (k : EngineHand) (v : ℕ)
    (m : Bus) (s t : Port)
    → base.lost ≤ s.tally.lost → EngineTargetCalm m s.target → EngineResendWord p word n b k s
    → PortAsks s (engine_request_for (Resend p) k.task) v t
    → HostAskOutcome (Resend p) n base b k v t
host_resend_at_rest p word n base b k v m s t l calm r asks =
    host_ask_unflagged (Resend p) ResendRead n base b b k v s t (engine_request_for (Resend p) k.task)
    (ap (λ x. port_register x (engine_request_for (Resend p) k.task)) calm.select) refl
    (λ e. absurd (cc)) calm.live calm.pending r.flag calm.sticky (λ e. absurd (cc)) l (omega arith)
    (host_job_in_flight (Resend p) n b k s (word, r)) r.paid asks
    (λ flip sp a more.
    (let f : HostFrame s t = host_frame_okay ResendRead true flip s t refl calm.live a in
    let e : HostSameFlags s t = host_flags_okay ResendRead true flip s t refl a in (
      word,
      host_data_read_due word n (λ c. EngineResendWord p word c b k t) flip s t
          (port_value_resent flip word s t r.last a).0 sp (resent_framed n n b k s t f e (omega arith) p word r)
          (λ d. resent_framed n (n + 1) b k s t f e (omega arith) p word r),
    )))
    refl (λ f e d. (word, resent_framed n (n + 1) b k s t f e (omega arith) p word r))

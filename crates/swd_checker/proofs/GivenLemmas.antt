-- A write that is given up before a transaction: what the worlds hold after it, and that each of them is reached.
use Rattle.std.proofs.Common.{◌≡◌, ℕ, Bool, true, false, refl, sym, ap, subst, ◌∙◌, inl, inr}
use Rattle.std.specs.Prelude.{Option, Some, None}
use Rattle.std.specs.Option.{option_map}
use Rattle.swd_bits.specs.declared.request.Request.{Request}
use Rattle.swd_bits.specs.declared.tx.Tx.{Tx as Transaction}
use Rattle.swd_bits.specs.declared.tx.TxEnd.{TxEnd}
use Rattle.swd_trace.specs.declared.item.Item.{Item}
use Rattle.swd_trace.specs.declared.item.Item.TheVariants.{Tx}
use Rattle.swd_port.specs.declared.state.Drw.{Drw}
use Rattle.swd_port.specs.declared.state.Drw.TheVariants.{Reads, Writes}
use Rattle.swd_port.specs.Port.{Port, Target, port_register}
use Rattle.swd_port.specs.Answers.{is_exempt_register}
use Rattle.swd_port.specs.Asking.{is_pending_write, port_without_write}
use Rattle.swd_port.specs.GivingUp.{PortGaveUp}
use Rattle.swd_checker.specs.declared.worlds.Worlds.{Worlds}
use Rattle.swd_checker.specs.Worlds.{World, TransferRead, TransferWrite, world_given_up}
use Rattle.swd_checker.specs.Described.{IsWorldNow, WorldDescribes, now, done, failed, checked_transfer_of}
use Rattle.swd_checker.specs.Holding.{WorldsKeep, WorldsHoldPort}
use Rattle.swd_checker.specs.Laws.{WorldDescribesPort}
use Rattle.swd_checker.specs.Steps.{world_register, MayGiveUp}
use Rattle.swd_checker.specs.Checked.{CheckedTransacts, CheckedTransactsKept, IsCheckedOkay}
use Rattle.swd_checker.specs.Standing.{CheckedShowsPlainly}
use Rattle.swd_checker.specs.Exact.{WorldWords, CheckedAnswers, IsWorldSound, IsWorldTarget}
use Rattle.swd_checker.specs.Reaching.{WorldGoes, WorldTransacts, CheckedLink, LinkSteps, LinkHas, LinkLeads}
use Rattle.swd_checker.specs.Reaching.{WorldReaches}
use Rattle.swd_checker.proofs.DescribedLemmas.{world_success_pends_nothing}
use Rattle.swd_checker.proofs.DueLemmas.{world_names, register_now}

-- TRANSACTIONS BEFORE WHICH NOTHING IS GIVEN UP
-- where the request isn't exempt,
pub checked_kept_plain : (clean : Bool) (end : TxEnd) (q : Request) (s t : Port)
    → is_exempt_register (port_register s.target.select q) ≡ false → CheckedTransacts clean end q s t
    → CheckedTransactsKept clean end q s t
checked_kept_plain clean end q s t plain (inl h) = h
checked_kept_plain clean end q s t plain (inr g) =
    absurd (let e : true ≡ false = sym g.gives.exempt ∙ plain in cc)

-- and where nothing is pending
pub checked_kept_at_rest : (clean : Bool) (end : TxEnd) (q : Request) (s t : Port) → s.target.pending ≡ None
    → CheckedTransacts clean end q s t → CheckedTransactsKept clean end q s t
checked_kept_at_rest clean end q s t none (inl h) = h
checked_kept_at_rest clean end q s t none (inr g) =
    absurd (let e : true ≡ false = sym g.gives.write ∙ ap is_pending_write none in cc)

-- THE WORLD
pending_is_write : (p : Option Drw) → option_map checked_transfer_of p ≡ Some TransferWrite
    → is_pending_write p ≡ true
pending_is_write None e = absurd (cc)
pending_is_write (Some Reads) e = absurd (let f : TransferRead ≡ TransferWrite = cc in cc)
pending_is_write (Some (Writes word)) e = refl

write_is_pending : (p : Option Drw) → is_pending_write p ≡ true → option_map checked_transfer_of p ≡ Some TransferWrite
write_is_pending None e = absurd (cc)
write_is_pending (Some Reads) e = absurd (cc)
write_is_pending (Some (Writes word)) e = refl

described_pending : (w : World) (x : Target) → is_pending_write x.pending ≡ true → WorldDescribes w x → IsWorldNow w x
described_pending w x write (now h) = h
described_pending w x write (done pends h) =
    absurd (let e : Some TransferWrite ≡ None = sym (write_is_pending x.pending write) ∙ h.pending
    ∙ world_success_pends_nothing w.pending w refl in cc)
described_pending w x write (failed pends h) =
    absurd (let e : Some TransferWrite ≡ None = sym (write_is_pending x.pending write) ∙ h.pending in cc)

given_now : (w : World) (x : Target) → IsWorldNow w x
    → IsWorldNow (world_given_up w) (record x { write_error = true; pending = None })
given_now w x h = record {
  reset = h.reset;
  sticky_error = h.sticky_error;
  write_error = refl;
  read_ok = h.read_ok;
  debug = h.debug;
  system = h.system;
  mem_ap = h.mem_ap;
  bank0 = h.bank0;
  increments = h.increments;
  pending = refl;
  tar = h.tar;
  buffer = h.buffer;
  last_returned = h.last_returned;
}

-- what a world describes, it describes once the pending write was given up
record WorldGivesUp (w : World) (q : Request) (d : Port) : Type 0 where
  may : MayGiveUp w q
  described : WorldDescribesPort (world_given_up w) d

world_gives_up : (w : World) (q : Request) (s d : Port) → WorldDescribesPort w s → PortGaveUp q s d
    → WorldGivesUp w q d
world_gives_up w q s d h gave = let k : IsWorldNow w s.target = described_pending w s.target gave.write h.target in
    record {
      may = record {
        write = sym k.pending ∙ write_is_pending s.target.pending gave.write;
        exempt = ap is_exempt_register (sym (world_names w s.target q h.target)) ∙ gave.exempt;
      };
      described = subst (WorldDescribesPort (world_given_up w)) (sym gave.after) (record {
        target = now (given_now w s.target k);
        awaits = h.awaits;
      });
    }

-- WHAT THE WORLDS HOLD
-- after a transaction in a world, and in the one in which the pending write was given up
pub given_steps : (w given_up : World) (clean : Bool) (end : TxEnd) (q : Request) (u v : Worlds)
    → given_up ≡ world_given_up w → WorldsKeep u v
    → ((s t : Port) → CheckedTransactsKept clean end q s t → WorldDescribesPort w s → WorldsHoldPort u t)
    → ((s t : Port) → is_exempt_register (world_register given_up q) ≡ true
    → (h : CheckedTransactsKept clean end q s t) → IsCheckedOkay clean end q s t h
    → WorldDescribesPort given_up s → WorldsHoldPort v t)
    → (s t : Port) → CheckedTransacts clean end q s t → WorldDescribesPort w s → WorldsHoldPort v t
given_steps w given_up clean end q u v same keeps kept given s t (inl h) d = keeps.each _ _ (kept s t h d)
given_steps w given_up clean end q u v same keeps kept given s t (inr g) d =
    let k : WorldGivesUp w q g.given = world_gives_up w q s g.given d g.gives in
    given g.given t (ap (λ z. is_exempt_register (world_register z q)) same ∙ k.may.exempt) g.transacts g.okay
    (subst (λ z. WorldDescribesPort z g.given) (sym same) k.described)

-- where none is given up
pub given_never : (w : World) (clean : Bool) (end : TxEnd) (q : Request) (v : Worlds) → (MayGiveUp w q → ⊥)
    → ((s t : Port) → CheckedTransactsKept clean end q s t → WorldDescribesPort w s → WorldsHoldPort v t)
    → (s t : Port) → CheckedTransacts clean end q s t → WorldDescribesPort w s → WorldsHoldPort v t
given_never w clean end q v never kept s t (inl h) d = kept s t h d
given_never w clean end q v never kept s t (inr g) d =
    absurd (never (world_gives_up w q s g.given d g.gives).may)

-- WHAT IS REACHED
goes_as : (R S : Port → Port → Type 0) (n : ℕ) (w next : World) → ((s t : Port) → R s t → S s t)
    → WorldGoes R n w next → WorldGoes S n w next
goes_as R S n w next as_other h = record {
  sound = h.sound;
  each = λ sound v exact. let k = h.each sound v exact in (
    k.0,
    k.1,
    λ after. let b = k.2 after in (b.0, λ s is. let t = b.1 s is in (t.0, as_other s t.0 t.1, t.2)),
  );
}

-- what a transaction leads to from a world of the list is reached
link_reaches : (link : CheckedLink) (clean : Bool) (tx : Transaction) (w next : World) → LinkSteps link clean tx
    → LinkHas link w → WorldGoes (CheckedTransacts clean tx.result tx.request) link.identification w next
    → WorldReaches link next
link_reaches link clean tx w next steps has goes =
    let shows = λ (b : Bool) (i : Item) (s t : Port). CheckedShowsPlainly b 0 i s t in
    let again : WorldGoes (shows link.clean link.item) link.identification has.kept.world next =
    subst (λ v. WorldGoes (shows link.clean link.item) link.identification v next) (sym has.is)
    (subst (λ i. WorldGoes (shows link.clean i) link.identification w next) (sym steps.item)
    (subst (λ b. WorldGoes (shows b (Tx tx)) link.identification w next) (sym steps.wire) goes)) in
    let sound : IsWorldSound has.kept.world = subst IsWorldSound (sym has.is) has.sound in
    record {
      sound = again.sound sound;
      each = λ v exact. (has.within.0, has.kept, has.within.1, has.within.2, again.each sound v exact);
    }

-- where nothing is given up,
pub link_keeps : (okay : Bool) (link : CheckedLink) (clean : Bool) (tx : Transaction) (w : World)
    → LinkSteps link clean tx → LinkHas link w → LinkLeads okay link clean tx w
link_keeps okay link clean tx w steps has = record {
  sound = has.sound;
  goes = λ next h. link_reaches link clean tx w next steps has
      (goes_as (WorldTransacts okay clean tx.result tx.request) (CheckedTransacts clean tx.result tx.request)
      link.identification w next (λ s t k. inl k.0) h);
}

given_target : (w : World) (n : ℕ) (u : WorldWords) (answers : CheckedAnswers) (x : Target)
    → w.pending ≡ Some TransferWrite → IsWorldTarget w n u answers x
    → IsWorldTarget (world_given_up w) n u answers (record x { write_error = true; pending = None })
given_target w n u answers x write h = record {
  now = given_now w x h.now;
  debug = h.debug;
  system = h.system;
  tar = h.tar;
  buffer = λ free. h.buffer (λ e. let f : Some TransferWrite ≡ Some TransferRead = sym write ∙ e in cc);
  last_returned = h.last_returned;
  identification = h.identification;
  bus = h.bus;
}

-- there are words that such a world allows
given_sound : (w : World) → IsWorldSound w → IsWorldSound (world_given_up w)
given_sound w sound = record { tar = sound.tar; buffer = sound.buffer; last_returned = sound.last_returned }

given_goes : (clean : Bool) (tx : Transaction) (n : ℕ) (w next : World) → MayGiveUp w tx.request
    → WorldGoes (WorldTransacts true clean tx.result tx.request) n (world_given_up w) next
    → WorldGoes (CheckedTransacts clean tx.result tx.request) n w next
given_goes clean tx n w next may h = record {
  sound = λ sound. h.sound (given_sound w sound);
  each = λ sound v exact.
      let k = h.each (given_sound w sound) v exact in (
        k.0,
        record { tar = k.1.tar; buffer = k.1.buffer; last_returned = k.1.last_returned },
        λ after. let b = k.2 after in (
          b.0,
          λ s is.
              let d : Port = port_without_write s in
              let t = b.1 d (record {
                target = given_target w n k.0 b.0 s.target may.write is.target;
                awaits = is.awaits;
              }) in (
                t.0,
                inr (record {
                  given = d;
                  gives = record {
                    exempt = ap is_exempt_register (register_now w s.target tx.request is.target.now) ∙ may.exempt;
                    write = pending_is_write s.target.pending (is.target.now.pending ∙ may.write);
                    after = refl;
                  };
                  transacts = t.1.0;
                  okay = t.1.1 refl;
                }),
                t.2,
              ),
        ),
      );
}

-- and where the pending write is
pub link_gives_up : (link : CheckedLink) (clean : Bool) (tx : Transaction) (w : World) → LinkSteps link clean tx
    → LinkHas link w → MayGiveUp w tx.request → LinkLeads true link clean tx (world_given_up w)
link_gives_up link clean tx w steps has may = record {
  sound = given_sound w has.sound;
  goes = λ next h. link_reaches link clean tx w next steps has
      (given_goes clean tx link.identification w next may h);
}

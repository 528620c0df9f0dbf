-- A write that is given up before a request, apart from the request.
use Rattle.std.proofs.Common.{◌≡◌, ℕ, true, false, refl, sym, ap, subst, inl, inr, ◌∙◌, arith}
use Rattle.std.specs.Prelude.{None, ◌⊎◌}
use Rattle.swd_bits.specs.declared.request.Request.{Request}
use Rattle.swd_port.specs.Port.{Port, Register, port_register}
use Rattle.swd_port.specs.Choices.{Mark, Choice}
use Rattle.swd_port.specs.Answers.{is_exempt_register}
use Rattle.swd_port.specs.Completion.{PortCompletes, port_completed}
use Rattle.swd_port.specs.Asking.{PortAsks, PortAsksNow, PortKeepsOrGivesUp, is_pending_write, port_without_write}
use Rattle.swd_port.specs.GivingUp.{PortAsksKept, PortGaveUp, PortAsksSplit}

-- nothing is pending once the pending transfer took effect
no_write_done : (c : Choice) (s a : Port) → a ≡ port_completed c s → is_pending_write a.target.pending ≡ false
no_write_done c s a e = ap (λ p. is_pending_write p.target.pending) e

kept_or_gave : (mark : Mark) (c : Choice) (q : Request) (seen : ℕ) (s t a d b : Port) → PortCompletes s a
    → PortKeepsOrGivesUp mark q a d → PortAsksNow mark c d q seen b → PortCompletes b t
    → PortAsksKept s q seen t ⊎ ((d : Port) × PortGaveUp q s d × PortAsksKept d q seen t)
kept_or_gave mark c q seen s t a d b first (inl e) now last =
    inl (a, b, mark, c, first, subst (λ x. PortAsksNow mark c x q seen b) e now, last)
kept_or_gave mark c q seen s t a d b (inl e) (inr g) now last =
    inr (
      d,
      record {
        exempt = ap (λ p. is_exempt_register (port_register p.target.select q)) (sym e) ∙ g.exempt;
        write = ap (λ p. is_pending_write p.target.pending) (sym e) ∙ g.write;
        after = g.after ∙ ap port_without_write e;
      },
      (d, b, mark, c, inl refl, now, last),
    )
kept_or_gave mark c q seen s t a d b (inr done) (inr g) now last =
    absurd (let e : is_pending_write a.target.pending ≡ false = no_write_done done.0 s a done.2 in
    let f : is_pending_write a.target.pending ≡ true = g.write in cc)

-- in each call of `ask` no write is given up, or it is before the rest of the call
pub port_asks_split : PortAsksSplit
port_asks_split q seen s t (a, d, b, mark, c, first, kept, now, last) =
    kept_or_gave mark c q seen s t a d b first kept now last

-- before a request that isn't exempt no write is given up
pub asks_kept_plain : (r : Register) (q : Request) (seen : ℕ) (s t : Port) → port_register s.target.select q ≡ r
    → is_exempt_register r ≡ false → PortAsks s q seen t → PortAsksKept s q seen t
asks_kept_plain r q seen s t named plain h = elim (port_asks_split q seen s t h) [
  | inl kept ↦ kept
  | inr gave ↦ absurd (let e : is_exempt_register (port_register s.target.select q) ≡ true = gave.1.exempt in cc)
]

-- nor where nothing is pending
pub asks_kept_at_rest : (q : Request) (seen : ℕ) (s t : Port) → s.target.pending ≡ None → PortAsks s q seen t
    → PortAsksKept s q seen t
asks_kept_at_rest q seen s t none h = elim (port_asks_split q seen s t h) [
  | inl kept ↦ kept
  | inr gave ↦ absurd (let e : is_pending_write s.target.pending ≡ true = gave.1.write in grind arith)
]

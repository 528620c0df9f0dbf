-- What a call of a wire makes of its transport: for the calls of `TransportWire`.
use Rattle.std.proofs.Common.{◌≡◌, ℕ, Bool, true, false, List, [], ◌∷◌, ◌++◌, refl, sym, ap, ◌∙◌, subst, Result, Ok}
use Rattle.std.proofs.Common.{arith, append_assoc}
use Rattle.swd_bits.specs.declared.request.Request.{Request}
use Rattle.swd_port.specs.declared.cue.Cue.{Cue}
use Rattle.swd_port.specs.declared.cue.Cue.TheVariants.{Lead, Ask, Take, Give, Pass}
use Rattle.swd_port.specs.declared.call.Call.{Call}
use Rattle.swd_port.specs.declared.outside.Disconnected.{Disconnected}
use Rattle.swd_port.specs.declared.outside.Met.{Met}
use Rattle.swd_port.specs.CueKinds.{is_port_send}
use Rattle.swd_port.specs.Transports.{PortAttempt, port_attempt, PortTransportSends, PortTransportMakes}
use Rattle.swd_port.specs.Transports.{PortTransportMakesBy, PortTransportMade, PortTransportHas, PortTransportSteps}
use Rattle.swd_port.specs.Transports.{PortTransportFetches}

-- the calls of the transport are those of the wire, one more of which was made
pub port_transport_has_next : {T : Type 0} (Tells : List PortAttempt → T → Type 0) (calls after : List Call) (cue : Cue)
    (was : Bool) (had : ℕ) (met : Met) (s t : T) → after ≡ record { cue = cue; seen = met.seen } ∷ calls
    → PortTransportSteps Tells cue was had met s t
    → PortTransportHas Tells calls was had s → PortTransportHas Tells after met.gone met.fetched t
port_transport_has_next Tells calls after cue was had met s t is goes h = record {
  made = h.made ++ goes.more;
  told = goes.tells h.made h.told;
  of = subst (λ l. PortTransportMade l (h.made ++ goes.more) met.gone met.fetched) (sym is)
      (h.made, goes.more, was, had, refl, h.of, goes.makes);
}

two_more : {T : Type 0} (Tells : List PortAttempt → T → Type 0) (one two : PortAttempt) (s m t : T)
    → ((made : List PortAttempt) → Tells made s → Tells (made ++ one ∷ []) m)
    → ((made : List PortAttempt) → Tells made m → Tells (made ++ two ∷ []) t)
    → (made : List PortAttempt) → Tells made s → Tells (made ++ one ∷ two ∷ []) t
two_more Tells one two s m t p q = λ made h.
    subst (λ l. Tells l t) (append_assoc made (one ∷ []) (two ∷ [])) (q (made ++ one ∷ []) (p made h))

-- a transport that hasn't failed is called
pub port_transport_steps : {T : Type 0} (Tells : List PortAttempt → T → Type 0) (cue : Cue) (was : Bool) (had : ℕ)
    (met : Met) (more : List PortAttempt) (s t : T) → was ≡ false
    → ((made : List PortAttempt) → Tells made s → Tells (made ++ more) t)
    → PortTransportMakes cue more had met → PortTransportSteps Tells cue was had met s t
port_transport_steps Tells cue was had met more s t e tells makes = record {
  more = more;
  tells = tells;
  makes = subst (λ b. PortTransportMakesBy b cue more had met) (sym e) makes;
}

-- a call at which nothing is seen
pub port_transport_makes_sent : (cue : Cue) (made : List PortAttempt) (had : ℕ) (met : Met) → is_port_send cue ≡ true
    → PortTransportSends cue made had met → PortTransportMakes cue made had met
port_transport_makes_sent (Lead ones undriven switch zeros) made had met sends h = h
port_transport_makes_sent (Ask request) made had met sends h = grind arith
port_transport_makes_sent Take made had met sends h = grind arith
port_transport_makes_sent (Give bits) made had met sends h = h
port_transport_makes_sent Pass made had met sends h = h

-- a read that was answered OK, and its data phase
pub port_transport_fetches : {T : Type 0} (Tells : List PortAttempt → T → Type 0) (was : Bool) (request : Request)
    (seen had : ℕ) (met : Met) (result : Result ℕ Disconnected) (s m t : T) → was ≡ false → request.read ≡ true
    → result ≡ Ok seen → seen ≡ 1
    → ((made : List PortAttempt) → Tells made s → Tells (made ++ port_attempt (Ask request) result ∷ []) m)
    → PortTransportFetches Tells request had met m t → PortTransportSteps Tells (Ask request) was had met s t
port_transport_fetches Tells was request seen had met result s m t e read is one first h =
    let first' = subst (λ x. (made : List PortAttempt) → Tells made s
    → Tells (made ++ port_attempt (Ask request) x ∷ []) m) (is ∙ ap Ok one) first in
    port_transport_steps Tells (Ask request) was had met
    (port_attempt (Ask request) (Ok 1) ∷ port_attempt Take h.told ∷ []) s t e
    (two_more Tells (port_attempt (Ask request) (Ok 1)) (port_attempt Take h.told) s m t first' h.tells) (h.makes read)

-- Laws of the calls of a transport over a probe, one after the other.
use Rattle.std.proofs.Common.{◌≡◌, ◌≢◌, ℕ, ◌+◌, ◌<◌, ◌==◌, Bool, List, [], ◌∷◌, ◌++◌, Some, None, length, refl}
use Rattle.std.proofs.Common.{ap, ◌∙◌, subst}
use Rattle.std.proofs.Math.Logic.{∥∥₁_map}
use Rattle.swd_bits.specs.declared.request.Request.{Request}
use Rattle.swd_port.specs.Transports.{PortAttempt}
use Rattle.swd_dap.specs.declared.replies.Told.{Told}
use Rattle.swd_dap.specs.declared.transport.Next.{Next}
use Rattle.swd_dap.specs.declared.transport.DapTransport.{DapTransport}
use Rattle.swd_dap.specs.Packets.{DapExchange}
use Rattle.swd_dap.specs.Nexts.{dap_next_of}
use Rattle.swd_dap.specs.Calls.{DapAnswers, DapCalls, DapCallsAt, AreDapCallsMade, dap_next_told, dap_posted_after}

-- an error is one
pub dap_fault_not_none : {A : Type 0} (x : A) → Some x ≢ None
dap_fault_not_none x e = cc

-- a request is answered from the next transaction that was told
pub dap_answers_by : {P : Type 0} (q : Request) (seen : ℕ) (s : DapTransport P) (told : Told) (next : Next)
    (posted : Bool) → s.asked < length s.told.items → told ≡ dap_next_told s → told.transfer.request ≡ q
    → seen ≡ told.seen → next ≡ dap_next_of told → posted ≡ dap_posted_after told.seen s.posted told.transfer.request
    → DapAnswers q seen s
    (record s { asked = s.asked + 1; next = next; posted = posted; idled = told.seen == 1 })
dap_answers_by {P} q seen s told next posted within is request sees goes waits = record {
  within = within;
  request = subst (λ (x : Told). x.transfer.request ≡ q) is request;
  sees = subst (λ (x : Told). seen ≡ x.seen) is sees;
  after = ap (λ (n : Next). record s { asked = s.asked + 1; next = n; posted = posted; idled = told.seen == 1 }) goes
      ∙ ap (λ (b : Bool). record s {
        asked = s.asked + 1;
        next = dap_next_of told;
        posted = b;
        idled = told.seen == 1;
      }) waits
      ∙ ap (λ (r : Request). record s {
        asked = s.asked + 1;
        next = dap_next_of told;
        posted = dap_posted_after told.seen s.posted r;
        idled = told.seen == 1;
      }) request
      ∙ ap (λ (x : Told). record s {
        asked = s.asked + 1;
        next = dap_next_of x;
        posted = dap_posted_after x.seen s.posted q;
        idled = x.seen == 1;
      }) is;
}

-- a call behind calls
pub dap_call_more : {P : Type 0} (Exchanged : List DapExchange → P → Type 0) (calls : List PortAttempt)
    (call : PortAttempt) (s m t : DapTransport P) → DapCalls Exchanged calls s m
    → DapCallsAt m.fault call.told Exchanged call.cue m t
    → DapCalls Exchanged (calls ++ call ∷ []) s t
dap_call_more Exchanged [] call s m t h one = (m, t, h, one, refl)
dap_call_more Exchanged (first ∷ calls) call s m t h one =
    (h.0, h.1, h.2, h.3, dap_call_more Exchanged calls call h.1 m t h.4 one)

-- one call more
pub dap_calls_one_more : {P : Type 0} (Exchanged : List DapExchange → P → Type 0) (calls : List PortAttempt)
    (call : PortAttempt) (s t : DapTransport P) → DapCallsAt s.fault call.told Exchanged call.cue s t
    → ∥ AreDapCallsMade Exchanged calls s ∥₁ → ∥ AreDapCallsMade Exchanged (calls ++ call ∷ []) t ∥₁
dap_calls_one_more Exchanged calls call s t one h = ∥∥₁_map h (λ h. record {
  start = h.start;
  fresh = h.fresh;
  made = dap_call_more Exchanged calls call h.start s t h.made one;
})

-- what is announced behind calls
pub dap_announce_after : {P : Type 0} (Exchanged : List DapExchange → P → Type 0) (calls : List PortAttempt)
    (s m t : DapTransport P) → DapCalls Exchanged calls s m → t ≡ record m { plan = t.plan }
    → DapCalls Exchanged calls s t
dap_announce_after {P} Exchanged [] s m t h e = e ∙ ap (λ (r : DapTransport P). record r { plan = t.plan }) h
dap_announce_after Exchanged (first ∷ calls) s m t h e =
    (h.0, h.1, h.2, h.3, dap_announce_after Exchanged calls h.1 m t h.4 e)

-- what is announced is no call
pub dap_calls_announced : {P : Type 0} (Exchanged : List DapExchange → P → Type 0) (calls : List PortAttempt)
    (s t : DapTransport P) → t ≡ record s { plan = t.plan } → ∥ AreDapCallsMade Exchanged calls s ∥₁
    → ∥ AreDapCallsMade Exchanged calls t ∥₁
dap_calls_announced Exchanged calls s t e h = ∥∥₁_map h (λ h. record {
  start = h.start;
  fresh = h.fresh;
  made = dap_announce_after Exchanged calls h.start s t h.made e;
})

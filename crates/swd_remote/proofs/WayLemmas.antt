-- Laws of a text on its way to a writer.
use Rattle.std.proofs.Common.{◌≡◌, ℕ, ◌+◌, ◌<◌, Bool, false, List, [], ◌++◌, length, take, Option, sym, ap, ◌∙◌, subst}
use Rattle.std.proofs.Common.{arith, append_assoc, append-nil}
use Rattle.std.specs.Io.KnownBytes.{Appends}
use Rattle.std.proofs.KnownBytes.{Appends-trans}
use Rattle.std.proofs.lemmas.List.{length-append, take-append-le}
use Rattle.std.proofs.Math.Seq.{take-append-add}
use Rattle.swd_remote.specs.declared.outgoing.Outgoing.{Outgoing}
use Rattle.swd_remote.specs.Ways.{RemoteCarries, RemoteBreaks, RemoteOnItsWayBy, IsOnRemoteWay, RemoteLengthens}

-- what was held went out
pub remote_outgoing_sent : {W : Type 0} (contents : W → Option (List ℕ)) (start : Option (List ℕ)) (s t : Outgoing W)
    (text : List ℕ)
    → Appends (contents s.writer) (contents t.writer) s.held.items → t.held.items ≡ []
    → RemoteCarries contents start s text
    → Appends start (contents t.writer) text × RemoteCarries contents start t text
remote_outgoing_sent contents start s t text a n h =
    let gone : Appends start (contents t.writer) (h.sent ++ s.held.items) = Appends-trans _ _ _ _ _ h.gone a in
    let all : Appends start (contents t.writer) text = subst (Appends start (contents t.writer)) (sym h.whole) gone in (
      all,
      record {
        sent = text;
        gone = all;
        whole = sym (append-nil text) ∙ ap (λ x. text ++ x) (sym n);
      },
    )

-- a beginning of what was held went out
pub remote_outgoing_cut_short : {W : Type 0} (contents : W → Option (List ℕ)) (start now : Option (List ℕ))
    (s : Outgoing W) (text : List ℕ) (k : ℕ)
    → k < length s.held.items → Appends (contents s.writer) now (take k s.held.items)
    → RemoteCarries contents start s text
    → RemoteBreaks start now text
remote_outgoing_cut_short contents start now s text k l a h =
    let held = s.held.items in
    let gone : Appends start now (h.sent ++ take k held) = Appends-trans _ _ _ _ _ h.gone a in
    let len : length (h.sent ++ held) ≡ length h.sent + length held = length-append h.sent held in
    let all : length text ≡ length (h.sent ++ held) = ap length h.whole in
    record {
      sent = length h.sent + k;
      short = omega arith;
      gone = subst (Appends start now) (sym (ap (take (length h.sent + k)) h.whole ∙ take-append-add h.sent held k))
          gone;
    }

-- a text in which the writer failed may be longer
pub remote_outgoing_broken : (start now : Option (List ℕ)) (text more : List ℕ) → RemoteBreaks start now text
    → RemoteBreaks start now (text ++ more)
remote_outgoing_broken start now text more h =
    let len : length (text ++ more) ≡ length text + length more = length-append text more in
    let short = h.short in
    record {
      sent = h.sent;
      short = omega arith;
      gone = subst (Appends start now) (sym (take-append-le h.sent text more (omega arith))) h.gone;
    }

-- whether the writer failed is told by the flag
pub remote_outgoing_to_carries : {W : Type 0} (contents : W → Option (List ℕ)) (flag : Bool) (start : Option (List ℕ))
    (s : Outgoing W) (text : List ℕ)
    → flag ≡ false → RemoteOnItsWayBy flag contents start s text → RemoteCarries contents start s text
remote_outgoing_to_carries contents flag start s text e h = rw e at h

-- where the writer hasn't failed, characters that it and the buffer hold are on their way
pub remote_outgoing_of_carries : {W : Type 0} (contents : W → Option (List ℕ)) (flag : Bool) (start : Option (List ℕ))
    (s : Outgoing W) (text : List ℕ)
    → flag ≡ false → RemoteCarries contents start s text → RemoteOnItsWayBy flag contents start s text
remote_outgoing_of_carries contents flag start s text e h = rw e h

-- nothing more
pub remote_outgoing_no_more : {W : Type 0} (contents : W → Option (List ℕ)) (start : Option (List ℕ)) (s : Outgoing W)
    (text : List ℕ) → IsOnRemoteWay contents start s text → IsOnRemoteWay contents start s (text ++ [])
remote_outgoing_no_more contents start s text h =
    subst (λ x. IsOnRemoteWay contents start s x) (sym (append-nil text)) h

-- one piece after the other
pub remote_outgoing_twice : {W : Type 0} (contents : W → Option (List ℕ)) (a b : List ℕ) (s m t : Outgoing W)
    → RemoteLengthens contents a s m → RemoteLengthens contents b m t → RemoteLengthens contents (a ++ b) s t
remote_outgoing_twice contents a b s m t p q = λ start text h.
    subst (λ x. IsOnRemoteWay contents start t x) (append_assoc text a b) (q start (text ++ a) (p start text h))

-- what was put and what is left are all, and nothing is left
pub remote_outgoing_all_put : {W : Type 0} (contents : W → Option (List ℕ)) (done left all : List ℕ) (s t : Outgoing W)
    → RemoteLengthens contents done s t → done ++ left ≡ all → left ≡ [] → RemoteLengthens contents all s t
remote_outgoing_all_put contents done left all s t h e n =
    let same : done ≡ all = sym (append-nil done) ∙ ap (λ x. done ++ x) (sym n) ∙ e in
    subst (λ x. RemoteLengthens contents x s t) same h

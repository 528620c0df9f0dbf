-- Pieces that were read in turn are one input: for each `Consumer`, and for the callers of `read_pieces`.
use Rattle.std.proofs.Common.{◌≡◌, refl, ℕ, List, [], ◌++◌, Option, None, Some, IfSome, Ok, Err, sym, subst}
use Rattle.std.proofs.Common.{append_assoc, append-nil}
use Rattle.std.specs.Io.KnownBytes.{Consumes}
use Rattle.std.proofs.KnownBytes.{Consumes-whole}
use Rattle.swd_io.specs.Pieces.{ConsumerReads, LeadsConsumerOn, LeadsConsumerToEnd, IsReaderText, IsUnreadByConsumer}
use Rattle.swd_io.specs.declared.pieces.Unread.{Unread}
use Rattle.swd_io.specs.declared.pieces.Unread.TheVariants.{Reader, Consumer}

-- without a byte a consumer stays in its state
pub consumer_reads_no_byte : {I C : Type 0} (HasRead : I → C → List ℕ → Type 0) (a : C) → LeadsConsumerOn HasRead a [] a
consumer_reads_no_byte HasRead a = λ i seen h. subst (HasRead i a) (sym (append-nil seen)) h

-- if some bytes lead a consumer to a second state and more lead it on to a third, all of them lead it to the third
pub consumer_pieces_join : {I C : Type 0} (HasRead : I → C → List ℕ → Type 0) (a b c : C) (first next : List ℕ) →
    LeadsConsumerOn HasRead a first b → LeadsConsumerOn HasRead b next c → LeadsConsumerOn HasRead a (first ++ next) c
consumer_pieces_join HasRead a b c first next f g = λ i seen h.
    subst (HasRead i c) (append_assoc seen first next) (g i (seen ++ first) (f i seen h))

-- if some bytes lead a consumer to a second state and more end it there with a fault, all of them end it
-- with that fault
pub consumer_pieces_fault : {I C F : Type 0} (HasRead : I → C → List ℕ → Type 0) (Ends : I → C → F → List ℕ → Type 0)
    (a b c : C) (first next : List ℕ) (fault : F) →
    LeadsConsumerOn HasRead a first b → LeadsConsumerToEnd HasRead Ends b next fault c
    → LeadsConsumerToEnd HasRead Ends a (first ++ next) fault c
consumer_pieces_fault HasRead Ends a b c first next fault f g = λ i seen h.
    subst (Ends i c fault) (append_assoc seen first next) (g i (seen ++ first) (f i seen h))

-- what holds of the bytes that were read, whatever follows, holds of the reader's text
pub consumer_input_property : (old new : Option (List ℕ)) (text : List ℕ) (P : List ℕ → Type 0)
    → Consumes old new text → ((more : List ℕ) → P (text ++ more)) → IfSome old P
consumer_input_property None new text P h f = tt
consumer_input_property (Some x) None text P h f = absurd h
consumer_input_property (Some x) (Some rest) text P h f = subst P (sym h) (f rest)

-- what holds of each text that was read to its end, holds of the reader's
pub consumer_input_at_end : {I C F : Type 0} (HasRead : I → C → List ℕ → Type 0) (stops : C → List ℕ → F → C → Type 0)
    (i : I) (old new : Option (List ℕ)) (a b : C) (P : List ℕ → Type 0) →
    HasRead i a [] → ((text : List ℕ) → HasRead i b text → P text)
    → ConsumerReads (LeadsConsumerOn HasRead) stops (Ok tt) old new a b
    → IfSome old P
consumer_input_at_end HasRead stops i old new a b P h f r = Consumes-whole old new r.0 P r.1 r.2 (f r.0 (r.3 i [] h))

-- so some text is the reader's
pub consumer_input_exists : {I C F : Type 0} (HasRead : I → C → List ℕ → Type 0) (stops : C → List ℕ → F → C → Type 0)
    (i : I) (old new : Option (List ℕ)) (a b : C) (P : List ℕ → Type 0) →
    HasRead i a [] → ((text : List ℕ) → HasRead i b text → P text)
    → ConsumerReads (LeadsConsumerOn HasRead) stops (Ok tt) old new a b
    → (text : List ℕ) × IsReaderText old text × P text
consumer_input_exists HasRead stops i old new a b P h f r =
    (r.0, Consumes-whole old new r.0 (λ x. x ≡ r.0) r.1 r.2 refl, f r.0 (r.3 i [] h))

-- what a fault says, whatever follows, it says of the reader's text
pub consumer_input_unread : {I C F : Type 0} (HasRead : I → C → List ℕ → Type 0) (Ends : I → C → F → List ℕ → Type 0)
    (Refuses : F → List ℕ → Type 0) (i : I) (old new : Option (List ℕ)) (a b : C) (unread : Unread F) →
    HasRead i a [] → ((fault : F) (text more : List ℕ) → Ends i b fault text → Refuses fault (text ++ more)) →
    ConsumerReads (LeadsConsumerOn HasRead) (LeadsConsumerToEnd HasRead Ends) (Err unread) old new a b
    → IfSome old (IsUnreadByConsumer Refuses unread)
consumer_input_unread HasRead Ends Refuses i None new a b unread h f r = tt
consumer_input_unread HasRead Ends Refuses i (Some x) new a b Reader h f r = tt
consumer_input_unread HasRead Ends Refuses i (Some x) new a b (Consumer fault) h f r =
    consumer_input_property (Some x) new r.0 (Refuses fault) r.1 (λ more. f fault r.0 more (r.2 i [] h))

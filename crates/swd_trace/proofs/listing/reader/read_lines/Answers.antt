use Rattle.std.proofs.Common.{ℕ, List, [], ◌++◌, Option, None, Some, IfSome, Result, Ok, Err, sym, subst}
use Rattle.std.specs.Prelude.{IfErr}
use Rattle.std.specs.Io.KnownBytes.{Consumes, IsAtEnd}
use Rattle.std.proofs.KnownBytes.{Consumes-whole}
use Rattle.std.proofs.lemmas.Result.{IfOk-weaker}
use Rattle.swd_io.specs.Pieces.{ConsumerReads, LeadsConsumerOn, LeadsConsumerToEnd, consumer_fault_or}
use Rattle.swd_io.specs.declared.pieces.Unread.{Unread}
use Rattle.swd_io.specs.declared.pieces.Unread.TheVariants.{Reader, Consumer}
use Rattle.swd_trace.specs.Listed.{listing_lines, ListsItems, RefusesListing}
use Rattle.swd_trace.specs.ListReader.{ListingHasRead, RefusesListingLater}
use Rattle.swd_trace.specs.declared.listing.fault.ListFault.{ListFault}
use Rattle.swd_trace.specs.declared.listing.fault.ListFault.TheVariants.{Read}
use Rattle.swd_trace.specs.declared.listing.lines.ListingLines.{ListingLines}
use Rattle.swd_trace.proofs.listing.reader.read_lines.Goals as goal

-- a fault that was found, whatever follows
found : (a b : Option (List ℕ)) (text : List ℕ) (fault : ListFault) → Consumes a b text →
    ((more : List ℕ) → RefusesListing fault (listing_lines (text ++ more)))
    → IfSome a (λ x. RefusesListing fault (listing_lines x))
found None b text fault h f = tt
found (Some x) None text fault h f = absurd h
found (Some x) (Some rest) text fault h f = subst (λ y. RefusesListing fault (listing_lines y)) (sym h) (f rest)

-- a reader that failed says nothing of its text
unread : (a : Option (List ℕ)) → IfSome a (λ x. RefusesListing Read (listing_lines x))
unread None = tt
unread (Some x) = tt

refused : {A : Type 0} (old new : Option (List ℕ)) (before after : ListingLines A × Unit {0}) (fault : Unread ListFault)
    → ListingHasRead tt before [] →
    ConsumerReads (LeadsConsumerOn ListingHasRead) (LeadsConsumerToEnd ListingHasRead RefusesListingLater) (Err fault)
    old new before after → IfSome old (λ x. RefusesListing (consumer_fault_or fault Read) (listing_lines x))
refused old new before after Reader h r = unread old
refused old new before after (Consumer fault) h r = found old new r.0 fault r.1 (r.2 tt [] h)

-- what is said of each text that was read, is said of the reader's
of_text : (old new : Option (List ℕ)) (text : List ℕ) (P : List ℕ → Type 0) → Consumes old new text → IsAtEnd new
    → P text → IfSome old P
of_text old new text P = Consumes-whole old new text P

err_of_text : (old new : Option (List ℕ)) (text : List ℕ) {V : Type 0} (r : Result V ListFault) → Consumes old new text
    → IsAtEnd new → IfErr r (λ fault. RefusesListing fault (listing_lines text))
    → IfErr r (λ fault. IfSome old (λ x. RefusesListing fault (listing_lines x)))
err_of_text old new text (Ok v) h e p = tt
err_of_text old new text (Err fault) h e p =
    Consumes-whole old new text (λ x. RefusesListing fault (listing_lines x)) h e p

pub returns-in-Ok-clause-legal : goal.returns-in-Ok-clause-legal
returns-in-Ok-clause-legal g c =
    let read = c.in-Ok.ensures in
    IfOk-weaker c.finish.result _ _ (λ items f. f read.0 (read.3 tt [] c.new-lines.ensures)) c.finish.ensures.legal

pub returns-in-Ok-clause-counted : goal.returns-in-Ok-clause-counted
returns-in-Ok-clause-counted g c =
    let read = c.in-Ok.ensures in
    IfOk-weaker c.finish.result _ _ (λ items f. f read.0 (read.3 tt [] c.new-lines.ensures)) c.finish.ensures.counted

pub returns-in-Ok-clause-ok : goal.returns-in-Ok-clause-ok
returns-in-Ok-clause-ok g c =
    let read = c.in-Ok.ensures in
    IfOk-weaker c.finish.result _ _
    (λ items f. of_text _ _ read.0 (λ x. ListsItems (listing_lines x) items.items) read.1 read.2
    (f read.0 (read.3 tt [] c.new-lines.ensures))) c.finish.ensures.ok

pub returns-in-Ok-clause-err : goal.returns-in-Ok-clause-err
returns-in-Ok-clause-err g c =
    let read = c.in-Ok.ensures in
    err_of_text _ _ read.0 c.finish.result read.1 read.2
    (err_then c.finish.result (λ fault f. f read.0 (read.3 tt [] c.new-lines.ensures)) c.finish.ensures.err)
  where
    err_then : {A E : Type 0} {P Q : E → Type 0} (r : Result A E) → ((e : E) → P e → Q e) → IfErr r P → IfErr r Q
    err_then (Ok x) f p = tt
    err_then (Err e) f p = f e p

pub returns-in-Err-clause-err : goal.returns-in-Err-clause-err
returns-in-Err-clause-err g c =
    subst (λ fault. IfSome (g.R.Read.remaining c.args.reader.now) (λ x. RefusesListing fault (listing_lines x)))
    (sym c.fault_or.ensures)
    (refused _ (g.R.Read.remaining c.read_pieces.new.reader) (c.new-lines.result, tt) (c.read_pieces.new.consumer, tt)
    c.in-Err.unread c.new-lines.ensures c.in-Err.ensures)

-- The text of what a trace shows, one line for each access.
use Rattle.std.specs.Prelude.{ℕ, Bool, true, false, List, [], ◌∷◌, ◌++◌, Option, None, Some, codes}
use Rattle.std.specs.Fmt.{decimal}
use Rattle.swd_bits.specs.Listing.{hex8}
use Rattle.swd_trace.specs.declared.item.Item.{Item}
use Rattle.swd_observer.specs.declared.told.ObservedAccess.{ObservedAccess}
use Rattle.swd_observer.specs.declared.told.How.{How}
use Rattle.swd_observer.specs.declared.told.How.TheVariants.{Took, May, Not}
use Rattle.swd_observer.specs.declared.observer.Observations.{Observations}
use Rattle.swd_observer.specs.declared.trace.ShownItem.{ShownItem}
use Rattle.swd_observer.specs.declared.trace.TraceObserver.{TraceObserver}
use Rattle.swd_observer.specs.Traces.{observed_shown_at, trace_observer_step}

abbrev pub observer_text_direction : Bool → List ℕ
observer_text_direction true = codes " r "
observer_text_direction false = codes " w "

-- eight hexadecimal digits, or eight question marks for an unknown word
abbrev pub observer_text_word : Option ℕ → List ℕ
observer_text_word None = codes "????????"
observer_text_word (Some word) = hex8 word

abbrev pub observer_text_suffix : How → List ℕ
observer_text_suffix Took = []
observer_text_suffix May = codes " may"
observer_text_suffix Not = codes " not"

-- the lines of an access and of a gap, without the line feed
abbrev pub observer_text_access : ObservedAccess → List ℕ
observer_text_access t =
    (64 ∷ decimal t.place) ++ observer_text_direction t.read ++ observer_text_word t.addr ++ codes " "
    ++ observer_text_word t.word ++ observer_text_suffix t.how

abbrev pub observer_text_gap : ℕ → List ℕ
observer_text_gap place = (64 ∷ decimal place) ++ codes " gap"

abbrev pub observer_text_of_access : Option ObservedAccess → List ℕ
observer_text_of_access None = []
observer_text_of_access (Some t) = observer_text_access t ++ 10 ∷ []

abbrev pub observer_text_of_gap : Option ℕ → List ℕ
observer_text_of_gap None = []
observer_text_of_gap (Some place) = observer_text_gap place ++ 10 ∷ []

abbrev pub observer_text_reported : Observations → List ℕ
observer_text_reported t = (observer_text_of_access t.older ++ observer_text_of_access t.before)
    ++ observer_text_of_access t.itself

-- the lines of what an item shows
abbrev pub observer_text_shown : ShownItem → List ℕ
observer_text_shown s = observer_text_reported s.tells ++ observer_text_of_gap s.gap

-- the lines of what some items show to an observer that begins as `t`
abbrev pub observer_text_of_items : List Item → TraceObserver → List ℕ
observer_text_of_items [] t = []
observer_text_of_items (item ∷ items) t = observer_text_shown (observed_shown_at item t)
    ++ observer_text_of_items items (trace_observer_step item t)

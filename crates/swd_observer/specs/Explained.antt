-- The accesses that are reported, and the log of the memory that they are of.
use Rattle.std.specs.Prelude.{◌≡◌, ◌⊎◌, List, [], ◌∷◌, ◌++◌, Option, Some, None, IfSome}
use Rattle.swd_port.specs.declared.access.Transfer.{Transfer}
use Rattle.swd_observer.specs.declared.told.ObservedAccess.{ObservedAccess}
use Rattle.swd_observer.specs.declared.told.How.{How}
use Rattle.swd_observer.specs.declared.told.How.TheVariants.{Took, May, Not}
use Rattle.swd_observer.specs.declared.observer.Observations.{Observations}

-- a reported access is this transfer
pub record ObservedMatches (t : ObservedAccess) (x : Transfer) : Type 0 where
  pub read : x.read ≡ t.read
  pub addr : IfSome t.addr (λ a. x.addr ≡ a)
  pub word : IfSome t.word (λ w. x.word ≡ w)

-- it is the first one of the log, and the others explain the rest
abbrev pub ObservedTakenFrom : ObservedAccess → (List Transfer → Type 0) → List Transfer → Type 0
ObservedTakenFrom t rest log = (x : Transfer) × (xs : List Transfer) × (log ≡ x ∷ xs) × ObservedMatches t x × rest xs

abbrev pub ObservedByHow : How → ObservedAccess → (List Transfer → Type 0) → List Transfer → Type 0
ObservedByHow Took t rest log = ObservedTakenFrom t rest log
ObservedByHow May t rest log = ObservedTakenFrom t rest log ⊎ rest log
ObservedByHow Not t rest log = rest log

-- The log is what is reported, in order: one transfer for each access that took effect, one or no transfer
-- for each that may have, and no transfer for each that is reported as `Not`.
abbrev pub ObservedLog : List ObservedAccess → List Transfer → Type 0
ObservedLog [] log = log ≡ []
ObservedLog (t ∷ told) log = ObservedByHow t.how t (λ xs. ObservedLog told xs) log

-- what was logged since `before`
pub record ObservedSince (before : List Transfer) (told : List ObservedAccess) (log : List Transfer) : Type 0 where
  pub more : List Transfer
  pub is : log ≡ before ++ more
  pub explains : ObservedLog told more

abbrev pub one_observed : Option ObservedAccess → List ObservedAccess
one_observed None = []
one_observed (Some t) = t ∷ []

-- and the accesses that an item reports
abbrev pub and_observed : List ObservedAccess → Observations → List ObservedAccess
and_observed told tells = ((told ++ one_observed tells.older) ++ one_observed tells.before) ++ one_observed tells.itself

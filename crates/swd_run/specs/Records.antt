-- The files that a run writes beside its report.
use Rattle.std.specs.Prelude.{◌≡◌, ◌⊎◌, ◌||◌, ℕ, Bool, true, false, List, [], Option, None, Some, is_some}
use Rattle.std.specs.Io.KnownBytes.{Appends}
use Rattle.swd_io.specs.Blocks.{OutputStopped}
use Rattle.swd_trace.specs.declared.item.Item.{Item}
use Rattle.swd_trace.specs.Texts.{trace_text}
use Rattle.swd_run.specs.declared.records.Records.{Records}

-- the contents of a file's writer, if there is one
abbrev pub run_file_held : {T : Type 0} → (T → Option (List ℕ)) → Option T → Option (Option (List ℕ))
run_file_held contents None = None
run_file_held contents (Some writer) = Some (contents writer)

-- the contents of both writers, and what is printed of items as their accesses
pub record RunFiles : Type 0 where
  pub trace : Option (Option (List ℕ))
  pub accesses : Option (Option (List ℕ))
  pub shown : List Item → List ℕ

abbrev pub run_files_from : Option (Option (List ℕ)) → Option (Option (List ℕ)) → (List Item → List ℕ) → RunFiles
run_files_from trace accesses shown = record { trace = trace; accesses = accesses; shown = shown }

abbrev pub run_files_of : {T I G : Type 0} → (T → Option (List ℕ)) → (I → List Item → List ℕ) → Records T I G
    → RunFiles
run_files_of contents text records = run_files_from (run_file_held contents records.trace)
    (run_file_held contents records.accesses) (text records.printer)

-- no files
abbrev pub no_run_files : RunFiles
no_run_files = record { trace = None; accesses = None; shown = λ items. [] }

-- whether a file is to be written
abbrev pub wants_run_files : RunFiles → Bool
wants_run_files files = is_some files.trace || is_some files.accesses

-- P holds of the contents of a file's writer before and after, if there is one
abbrev pub ForRunFile : (Option (List ℕ) → Option (List ℕ) → Type 0) → Option (Option (List ℕ))
    → Option (Option (List ℕ)) → Type 0
ForRunFile P None after = after ≡ None
ForRunFile P (Some old) after = (new : Option (List ℕ)) × (after ≡ Some new) × P old new

-- nothing was written
abbrev pub IsRunFileLeft : Option (List ℕ) → Option (List ℕ) → Type 0
IsRunFileLeft old new = Appends old new []

pub record AreRunFilesLeft (before after : RunFiles) : Type 0 where
  pub trace : ForRunFile IsRunFileLeft before.trace after.trace
  pub accesses : ForRunFile IsRunFileLeft before.accesses after.accesses

-- the trace of these items and the accesses that are printed of them were written, each if there is a writer for it
pub record AreRunFilesWritten (items : List Item) (before after : RunFiles) : Type 0 where
  pub trace : ForRunFile (λ old new. Appends old new (trace_text items)) before.trace after.trace
  pub accesses : ForRunFile (λ old new. Appends old new (before.shown items)) before.accesses
      after.accesses

-- exactly the first bytes of the trace were written, as many as `written` says, and nothing of the accesses
pub record RunTraceStops (written : ℕ) (items : List Item) (before after : RunFiles) : Type 0 where
  pub wanted : is_some before.trace ≡ true
  pub trace : ForRunFile (λ old new. ∥ OutputStopped written old new (trace_text items) ∥₁) before.trace after.trace
  pub accesses : ForRunFile IsRunFileLeft before.accesses after.accesses

-- the trace was written, and exactly the first bytes of the accesses
pub record RunAccessesStop (written : ℕ) (items : List Item) (before after : RunFiles) : Type 0 where
  pub wanted : is_some before.accesses ≡ true
  pub trace : ForRunFile (λ old new. Appends old new (trace_text items)) before.trace after.trace
  pub accesses : ForRunFile (λ old new. OutputStopped written old new (before.shown items))
      before.accesses after.accesses

-- the whole text was written, or exactly its first bytes
abbrev pub IsRunFileStarted : List ℕ → Option (List ℕ) → Option (List ℕ) → Type 0
IsRunFileStarted text old new = ∥ Appends old new text ⊎ ((written : ℕ) × OutputStopped written old new text) ∥₁

-- The trace of these items was written, or exactly its first bytes if its writer failed. Nothing of the accesses was.
pub record AreRunFilesStarted (items : List Item) (before after : RunFiles) : Type 0 where
  pub trace : ForRunFile (IsRunFileStarted (trace_text items)) before.trace after.trace
  pub accesses : ForRunFile IsRunFileLeft before.accesses after.accesses

-- Q without files, and else P of some items
abbrev pub IfRunFiles : Bool → (List Item → Type 0) → Type 0 → Type 0
IfRunFiles true P Q = (items : List Item) × P items
IfRunFiles false P Q = Q

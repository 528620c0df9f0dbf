-- A file that is written while what it is about still grows. When it is written is this project's choice.
use Rattle.std.specs.Prelude.{ℕ, ◌≡◌, ◌++◌, List, take, Option, None, Some, Result, Ok}
use Rattle.swd_trace.specs.declared.item.Item.{Item}
use Rattle.swd_trace.specs.Texts.{trace_text}
use Rattle.swd_run.specs.declared.growing.GrowingFile.{GrowingFile}
use Rattle.swd_run.specs.Reports.{HasReportWritten, ReportWritesOn}

-- Behind an output of which `written` counts the bytes this text was written, or exactly the first bytes of it.
abbrev pub GrowingTextSent : ℕ → Result ℕ ℕ → Option (List ℕ) → Option (List ℕ) → List ℕ → Type 0
GrowingTextSent written sent old new more = (start : Option (List ℕ)) (text : List ℕ)
    → HasReportWritten start old text written → ReportWritesOn sent start new (text ++ more)

-- The writer held `start` first, if there is one. It has this text behind it, or exactly the first bytes of it if it
-- failed.
abbrev pub GrowingWriterHas : {T : Type 0} → (T → Option (List ℕ)) → Option (Option (List ℕ)) → Option T → Result ℕ ℕ
    → List ℕ → Type 0
GrowingWriterHas contents None None sent text = sent ≡ Ok 0
GrowingWriterHas contents (Some start) (Some writer) sent text = ReportWritesOn sent start (contents writer) text
GrowingWriterHas contents start writer sent text = ⊥

abbrev pub GrowingFileHas : {T : Type 0} → (T → Option (List ℕ)) → Option (Option (List ℕ)) → GrowingFile T → List ℕ
    → Type 0
GrowingFileHas contents start file text = GrowingWriterHas contents start file.writer file.sent text

-- `more` was appended, as far as the file's writer takes it
abbrev pub GrowingFileAdds : {T : Type 0} → (T → Option (List ℕ)) → List ℕ → GrowingFile T → GrowingFile T → Type 0
GrowingFileAdds contents more old new = (start : Option (Option (List ℕ))) (text : List ℕ)
    → GrowingFileHas contents start old text → GrowingFileHas contents start new (text ++ more)

-- the file of a trace has the lines of the items that are done
abbrev pub RunTraceHasDone : {T : Type 0} → (T → Option (List ℕ)) → Option (Option (List ℕ)) → List Item
    → GrowingFile T → Type 0
RunTraceHasDone contents start items file = GrowingFileHas contents start file (trace_text (take file.done items))

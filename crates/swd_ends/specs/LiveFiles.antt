-- The files of a served target, written while the session goes on: its log and its trace. When they are written is this
-- project's choice.
use Rattle.std.specs.Prelude.{ℕ, ◌≡◌, ◌≤◌, List, [], ◌∷◌, ◌++◌, length, take, drop, Option}
use Rattle.std.proofs.Common.{◌∙◌, refl}
use Rattle.swd_port.specs.declared.access.Transfer.{Transfer}
use Rattle.swd_port.specs.Bus.{Bus}
use Rattle.swd_clocked.specs.declared.frame.Frame.{Frame}
use Rattle.swd_clocked.specs.declared.frame.Frame.TheVariants.{Switches}
use Rattle.swd_clocked.specs.Marked.{marked_clocked_state, marked_clocked_frame}
use Rattle.swd_bitbang.specs.declared.pins.Pins.{Pins}
use Rattle.swd_bitbang.specs.Traces.{pins_kept_trace}
use Rattle.swd_run.specs.declared.growing.GrowingFile.{GrowingFile}
use Rattle.swd_run.specs.GrowingFiles.{GrowingFileHas}
use Rattle.swd_ends.specs.declared.live_files.LiveFiles.{LiveFiles}
use Rattle.swd_ends.specs.TargetLogs.{live_log_lines, live_log_from}

-- The file has the first entries of something of this size; `text` gives the text of so many.
pub record LiveFileStands {M : Type 0} (contents : M → Option (List ℕ)) (start : Option (Option (List ℕ)))
    (text : ℕ → List ℕ) (size : ℕ) (file : GrowingFile M) : Type 0 where
  pub has : GrowingFileHas contents start file (text file.done)
  pub within : file.done ≤ size

-- the transfers of the target at these pins; those behind so many first ones; and the characters of the pins' trace
abbrev pub live_transfers_at : {D A : Type 0} → (D → Bus) → Pins D A → List Transfer
live_transfers_at bus pins = (marked_clocked_state bus pins.target).memory.log

abbrev pub live_log_at : {D A : Type 0} → (D → Bus) → ℕ → Pins D A → List Transfer
live_log_at bus skipped pins = drop skipped (live_transfers_at bus pins)

abbrev pub live_trace_at : {D A : Type 0} → Pins D A → List ℕ
live_trace_at pins = pins_kept_trace pins.trace

-- the text of the first transfers, and of the first characters
abbrev pub live_log_first : {D A : Type 0} → (D → Bus) → ℕ → Pins D A → ℕ → List ℕ
live_log_first bus skipped pins n = live_log_lines (take n (live_log_at bus skipped pins))

abbrev pub live_trace_first : {D A : Type 0} → Pins D A → ℕ → List ℕ
live_trace_first pins n = take n (live_trace_at pins)

-- a list, and maybe more after it
abbrev pub LiveLogGrows : {X : Type 0} → List X → List X → Type 0
LiveLogGrows {X} xs ys = (more : List X) × (ys ≡ xs ++ more)

-- a frame that cycles lead to: at the place of a switch a bit of it came
abbrev pub IsLiveFrameSound : Frame → Type 0
IsLiveFrameSound (Switches place) = place ≡ 0 → ⊥
IsLiveFrameSound frame = Unit {0}

abbrev pub live_pins_sound : {D A : Type 0} → Pins D A → Type 0
live_pins_sound pins = IsLiveFrameSound (marked_clocked_frame pins.target)

-- A file that has the first entries of something has those of what it grew to, and all of them if it had all.
pub record LiveFileKeeps {M : Type 0} (contents : M → Option (List ℕ)) (text later : ℕ → List ℕ) (size later_size : ℕ)
    (old new : GrowingFile M) : Type 0 where
  pub stands : (start : Option (Option (List ℕ))) → LiveFileStands contents start text size old
      → LiveFileStands contents start later later_size new
  pub current : old.done ≡ size → new.done ≡ later_size

-- At later pins of a session each file has the beginning of the log or the trace that belongs to these pins.
pub record LiveFilesFollowed {D A M : Type 0} (bus : D → Bus) (contents : M → Option (List ℕ))
    (before after : LiveFiles M × Pins D A) : Type 0 where
  pub sound : live_pins_sound after.1
  pub skipped : after.0.skipped ≡ before.0.skipped
  pub log : LiveFileKeeps contents (live_log_first bus before.0.skipped before.1)
      (live_log_first bus after.0.skipped after.1) (length (live_log_at bus before.0.skipped before.1))
      (length (live_log_at bus after.0.skipped after.1)) before.0.log after.0.log
  pub trace : LiveFileKeeps contents (live_trace_first before.1) (live_trace_first after.1)
      (length (live_trace_at before.1)) (length (live_trace_at after.1)) before.0.trace after.0.trace

abbrev pub LiveFilesFollow : {D A M : Type 0} → (D → Bus) → (M → Option (List ℕ)) → LiveFiles M × Pins D A → LiveFiles M
    × Pins D A
    → Type 0
LiveFilesFollow bus contents before after = live_pins_sound before.1 → LiveFilesFollowed bus contents before after

-- A file that has the first entries of something of this size has all of them, as far as its writer takes them; `text`
-- gives the text of so many.
pub record LiveFileWrites {M : Type 0} (contents : M → Option (List ℕ)) (text : ℕ → List ℕ) (size : ℕ)
    (old new : GrowingFile M) : Type 0 where
  pub has : (start : Option (Option (List ℕ))) → GrowingFileHas contents start old (text old.done)
      → GrowingFileHas contents start new (text new.done)
  pub done : old.done ≤ size → new.done ≡ size

-- the whole log behind so many transfers, and the whole trace, which ends with a line feed
abbrev pub live_log_whole : {D A : Type 0} → (D → Bus) → ℕ → Pins D A → List ℕ
live_log_whole bus skipped pins = live_log_from bus skipped pins.target

abbrev pub live_trace_whole : {D A : Type 0} → Pins D A → List ℕ
live_trace_whole pins = live_trace_at pins ++ 10 ∷ []

-- a file that had the first entries of a text has the whole of it, as far as its writer took it
abbrev pub LiveFileFinishes : {M : Type 0} → (M → Option (List ℕ)) → (ℕ → List ℕ) → ℕ → List ℕ → GrowingFile M
    → GrowingFile M → Type 0
LiveFileFinishes contents text size whole old new = (start : Option (Option (List ℕ)))
    → LiveFileStands contents start text size old → GrowingFileHas contents start new whole

-- LAWS

-- without a character nothing changes
pub live_files_follow_nowhere : {D A M : Type 0} (bus : D → Bus) (contents : M → Option (List ℕ)) (a : LiveFiles M
    × Pins D A)
    → LiveFilesFollow bus contents a a
live_files_follow_nowhere bus contents a = λ sound. record {
  sound = sound;
  skipped = refl;
  log = record { stands = λ start h. h; current = λ h. h };
  trace = record { stands = λ start h. h; current = λ h. h };
}

-- some characters and then more
pub live_files_follow_further : {D A M : Type 0} (bus : D → Bus) (contents : M → Option (List ℕ))
    (a b c : LiveFiles M × Pins D A)
    → LiveFilesFollow bus contents a b → LiveFilesFollow bus contents b c → LiveFilesFollow bus contents a c
live_files_follow_further bus contents a b c f g = λ sound.
    let first = f sound in
    let next = g first.sound in
    record {
      sound = next.sound;
      skipped = next.skipped ∙ first.skipped;
      log = record {
        stands = λ start h. next.log.stands start (first.log.stands start h);
        current = λ h. next.log.current (first.log.current h);
      };
      trace = record {
        stands = λ start h. next.trace.stands start (first.trace.stands start h);
        current = λ h. next.trace.current (first.trace.current h);
      };
    }

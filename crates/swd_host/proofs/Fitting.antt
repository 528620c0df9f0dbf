-- What is known of the memory, as what a report says of it.
use Rattle.swd_host.proofs.Words.{◌≡◌, ◌≢◌, ◌+◌, ◌≤◌, ℕ, arith, List, length, take, Access, Answer, Bus, End}
use Rattle.swd_host.proofs.Words.{All, Engine, memory_after, answers_of, engine_begun, FitsFrom, HostReport}
use Rattle.swd_host.proofs.Words.{engine_report}

-- the memory is that after the accesses that are answered, and after some of those that are begun besides
pub record IsLeftByEngine (i : ℕ) (list : List Access) (m : Bus) (begun : ℕ) (now : Bus) : Type 0 where
  pub more : ℕ
  pub few : more ≤ begun
  pub memory : now ≡ memory_after (take (i + more) list) m

-- no access that was begun took effect
pub engine_none_in_flight : (i : ℕ) (list : List Access) (m : Bus) (begun : ℕ) (now : Bus)
    → now ≡ memory_after (take i list) m → IsLeftByEngine i list m begun now
engine_none_in_flight i list m begun now h = grind arith

-- accesses are begun that the list has, in a run that isn't whole, once a request was sent for each and each before
abbrev pub EngineMayBegin : ℕ → ℕ → List Access → ℕ → ℕ → End → Type 0
EngineMayBegin spent i list begun requests end = (i + begun ≤ length list) × (end ≢ All)
    × (spent + 1 + i + begun ≤ requests)

-- the parts of what a report says of the memory
pub engine_fits_by : (spent most i : ℕ) (list : List Access) (m : Bus) (answers : List Answer) (f : Engine)
    (end : End) (now : Bus) → i ≤ length list → answers ≡ answers_of (take i list) m → engine_begun f ≤ most
    → (engine_begun f ≢ 0 → EngineMayBegin spent i list (engine_begun f) f.requests end) → (end ≡ All → i ≡ length list)
    → IsLeftByEngine i list m (engine_begun f) now → FitsFrom spent most list m (engine_report answers f end) now
engine_fits_by spent most i list m answers f end now reported answered few may all left = grind arith

-- it fits too where fewer requests came before the list
pub fits_from_fewer : (spent fewer most : ℕ) (list : List Access) (m : Bus) (told : HostReport) (now : Bus)
    → fewer ≤ spent → FitsFrom spent most list m told now → FitsFrom fewer most list m told now
fits_from_fewer spent fewer most list m told now less (k, f) = (
  k,
  record {
    reported = f.reported;
    answers = f.answers;
    memory = f.memory;
    few = f.few;
    begun = λ some. (let b = f.begun some in (b.0, b.1, omega (arith, b.2, less)));
    all = f.all;
  },
)

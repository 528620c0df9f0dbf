-- What has numbers is read back from them: an engine, and its parts. For `EngineFields::engine`.
use Rattle.swd_host.proofs.Words.{arith, ◌≡◌, ◌==◌, ℕ, Bool, Option, bit, Bursts, Task, Ahead, State, Engine}
use Rattle.swd_host.proofs.Words.{fields_of_engine, engine_at}
use Rattle.swd_host.specs.Fields.{engine_ahead_number, bursts_number, engine_state_fields, engine_tar_fields}
use Rattle.swd_host.specs.Fields.{task_fields}
use Rattle.swd_host.specs.FieldsRead.{engine_ahead_from, bursts_at, engine_state_from, engine_tar_from}
use Rattle.swd_host.specs.FieldsRead.{engine_task_from}

flag_back : (b : Bool) → (bit b == 1) ≡ b
flag_back b = grind arith

ahead_back : (a : Ahead) → engine_ahead_from (engine_ahead_number a) ≡ a
ahead_back a = grind arith

bursts_back : (b : Bursts) → bursts_at (bursts_number b) ≡ b
bursts_back b = grind arith

state_back : (s : State) → engine_state_from (engine_state_fields s) ≡ s
state_back s = grind arith

task_back : (t : Task) → engine_task_from (task_fields t) ≡ t
task_back t = grind arith

tar_back : (tar : Option ℕ) → engine_tar_from (engine_tar_fields tar) ≡ tar
tar_back tar = grind arith

-- the engine that is read from the fields of an engine is that engine
pub engine_back : (e : Engine) → engine_at (fields_of_engine e) ≡ e
engine_back e = grind (arith, ahead_back, bursts_back, flag_back, state_back, tar_back, task_back)

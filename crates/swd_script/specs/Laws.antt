-- What holds for every script and every plan.
use Rattle.std.specs.Prelude.{ℕ, ◌≡◌, ◌≢◌, ◌+◌, ◌*◌, ◌%◌, ◌^◌, ◌≤◌, ◌==◌, Bool, true, List, [], ◌∷◌, length, None}
use Rattle.std.specs.Prelude.{All, IfSome}
use Rattle.std.specs.List.{list_all}
use Rattle.swd_port.specs.declared.access.Access.{Access}
use Rattle.swd_port.specs.declared.access.Access.TheVariants.{Read}
use Rattle.swd_port.specs.PlainMemory.{plain_address}
use Rattle.swd_port.specs.PlainAnswers.{plain_reads}
use Rattle.swd_script.specs.declared.batch.Until.{Until}
use Rattle.swd_script.specs.Scripts.{ScriptListed, ScriptMeaning}

-- its address is a multiple of 4
abbrev pub is_script_word_access : Access → Bool
is_script_word_access access = plain_address access % 4 == 0

-- the accesses are the reads of the words from this address on, within 32 bits
pub record IsScriptBlock (at : ℕ) (accesses : List Access) : Type 0 where
  pub same : accesses ≡ plain_reads at (length accesses)
  pub end : at + 4 * length accesses ≤ 2 ^ 32

-- the call of an `until` is its read, which is made 1 to 1,000,000 times
pub record IsScriptUntil (until : Until) (listed : ScriptListed) : Type 0 where
  pub only : listed.accesses ≡ Read until.addr ∷ []
  pub single : listed.block ≡ None
  pub nothing_expected : listed.expected ≡ []
  pub some : 1 ≤ until.most
  pub most : until.most ≤ 1000000

-- a host takes the accesses of a call, and if they are a block, as a block
pub record IsScriptBatch (listed : ScriptListed) : Type 0 where
  pub few : length listed.accesses ≤ 65536
  pub accesses : list_all is_script_word_access listed.accesses ≡ true
  pub block : IfSome listed.block (λ at. IsScriptBlock at listed.accesses)
  pub waits : IfSome listed.until (λ until. IsScriptUntil until listed)

-- a memory can be made as the script says, and a host takes its calls
pub record IsScriptRunnable (script : ScriptMeaning) : Type 0 where
  pub aligned : script.base % 4 ≡ 0
  pub some : script.words ≢ 0
  pub end : script.base + 4 * script.words ≤ 2 ^ 32
  pub batches : All IsScriptBatch script.batches

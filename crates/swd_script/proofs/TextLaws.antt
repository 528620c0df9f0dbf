-- What a script means, a run takes; and the marks of a plan are legal.
use Rattle.std.proofs.Common.{◌≡◌, ◌≢◌, ℕ, suc, zero, ◌+◌, ◌*◌, ◌%◌, ◌^◌, ◌<◌, ◌≤◌, Bool, true, false, List, [], ◌∷◌}
use Rattle.std.proofs.Common.{◌++◌, length, refl, sym, ap, ◌∙◌, subst, arith, Option, Some, None, IfSome, Result, Ok}
use Rattle.std.proofs.Common.{Err}
use Rattle.std.specs.Prelude.{if◌then◌else◌, ◌&&◌, ◌==◌, nat_le, nat_lt, All, bit_and, codes, is_some, unwrap_or}
use Rattle.std.specs.Prelude.{get_or}
use Rattle.std.specs.List.{list_all}
use Rattle.std.specs.Str.{bytes_eq}
use Rattle.std.proofs.lemmas.Bool.Decides.{nat_tests}
use Rattle.std.proofs.lemmas.List.{length-append}
use Rattle.std.proofs.lemmas.List.Elements.{All-append}
use Rattle.std.proofs.lemmas.List.Folds.{list_all-append}
use Rattle.swd_port.specs.declared.access.Access.{Access}
use Rattle.swd_port.specs.declared.access.Access.TheVariants.{Read as ReadAccess, Write as WriteAccess}
use Rattle.swd_port.specs.declared.mark.Mark.{Mark}
use Rattle.swd_port.specs.declared.mark.Mark.TheVariants.{Clean, Wait, Flip, Deaf, Mute}
use Rattle.swd_port.specs.Choices.{IsPortMark}
use Rattle.swd_script.specs.declared.command.Command.{Command}
use Rattle.swd_script.specs.declared.command.Command.TheVariants.{Memory, Room, Core, Read, Write, ReadMany, Block}
use Rattle.swd_script.specs.declared.command.Command.TheVariants.{Next, Until as UntilLine, Verify}
use Rattle.swd_script.specs.declared.draft.Extent.{Extent}
use Rattle.swd_script.specs.declared.fault.LineFault.{LineFault}
use Rattle.swd_script.specs.declared.fault.LineFault.TheVariants.{Word, Range}
use Rattle.swd_script.specs.declared.fault.ScriptFault.{ScriptFault}
use Rattle.swd_script.specs.Faults.{script_after_lines, script_then_lines, script_line_number}
use Rattle.swd_script.specs.Lines.{script_lines, script_line_words}
use Rattle.swd_script.specs.Numerals.{script_decimal_number}
use Rattle.swd_script.specs.Plans.{plan_file_mark, plan_file_marked, plan_file_place, plan_file_line, plan_of}
use Rattle.swd_script.specs.Plans.{plan_file_with_mark}
use Rattle.swd_port.specs.PlainAnswers.{plain_reads}
use Rattle.swd_port.proofs.ReadLists.{plain_reads_length}
use Rattle.swd_script.specs.declared.batch.Expected.{Expected}
use Rattle.swd_script.specs.declared.batch.Until.{Until}
use Rattle.swd_script.specs.Scripts.{ScriptListed, ScriptMeaning, ScriptSayings, script_after_command, are_script_words}
use Rattle.swd_script.specs.Scripts.{script_as_block, script_as_expected, script_beside_block, script_call_ended}
use Rattle.swd_script.specs.Scripts.{script_until_can_match, script_further, script_until_listed, script_with_until}
use Rattle.swd_script.specs.Scripts.{script_command_added, script_command_of, script_fault_before, is_some_script_list}
use Rattle.swd_script.specs.Scripts.{misplaced_script_command, script_nothing_listed, script_nothing_said, script_line}
use Rattle.swd_script.specs.Scripts.{script_meaning, script_of, whole_script, script_with_accesses, script_with_memory}
use Rattle.swd_script.specs.Scripts.{script_with_next, script_with_number, script_with_room, script_with_verified}
use Rattle.swd_script.specs.Scripts.{script_with_core, script_without_memory}
use Rattle.swd_script.specs.Laws.{IsScriptBatch, IsScriptBlock, IsScriptRunnable, IsScriptUntil, is_script_word_access}

and_left : (a b : Bool) → (a && b) ≡ true → a ≡ true
and_left true b e = refl
and_left false b e = absurd cc

and_right : (a b : Bool) → (a && b) ≡ true → b ≡ true
and_right true b e = e
and_right false b e = absurd cc

both : (a b : Bool) → a ≡ true → b ≡ true → (a && b) ≡ true
both true b e f = f
both false b e f = absurd cc

-- what a test that passed answers
if_ok : {S E : Type 0} (test : Bool) (value : S) (fault : E) (next : S)
    → (let r : Result S E = if test then Ok value else Err fault in r ≡ Ok next) → (test ≡ true) × (value ≡ next)
if_ok true value fault next e = (refl, cc)
if_ok false value fault next e = absurd cc

if_number : (n : Option ℕ) (f : ℕ → Result ScriptSayings LineFault) (next : ScriptSayings)
    → script_with_number n f ≡ Ok next → (v : ℕ) × (f v ≡ Ok next)
if_number None f next e = absurd cc
if_number (Some v) f next e = (v, e)

-- words of a memory
record AreWords (base words : ℕ) : Type 0 where
  pub aligned : base % 4 ≡ 0
  pub some : words ≢ 0
  pub end : base + 4 * words ≤ 2 ^ 32

are_words_so : (base words : ℕ) → are_script_words base words ≡ true → AreWords base words
are_words_so base words e =
    let whole = nat_le (base + 4 * words) (2 ^ 32) in
    let front : ((base % 4 == 0) && nat_le 1 words) ≡ true = and_left ((base % 4 == 0) && nat_le 1 words) whole e in
    let a : (base % 4 == 0) ≡ true = and_left (base % 4 == 0) (nat_le 1 words) front in
    let s : nat_le 1 words ≡ true = and_right (base % 4 == 0) (nat_le 1 words) front in
    let t : nat_le (base + 4 * words) (2 ^ 32) ≡ true = and_right ((base % 4 == 0) && nat_le 1 words) whole e in
    record {
      aligned = grind (arith, nat_tests);
      some = grind (arith, nat_tests);
      end = grind (arith, nat_tests);
    }

-- what the lines so far say, a run takes
record IsSound (said : ScriptSayings) : Type 0 where
  pub memory : IfSome said.memory (λ extent. AreWords extent.base extent.words)
  pub earlier : All IsScriptBatch said.earlier
  pub batch : IsScriptBatch said.batch

aligned_reads : (addr count : ℕ) → addr % 4 ≡ 0 → list_all is_script_word_access (plain_reads addr count) ≡ true
aligned_reads addr zero h = refl
aligned_reads addr (suc count) h =
    let a : (addr % 4 == 0) ≡ true = grind (arith, nat_tests) in
    both (addr % 4 == 0) (list_all is_script_word_access (plain_reads (addr + 4) count)) a
    (aligned_reads (addr + 4) count (omega arith))

sound_memory : (said next : ScriptSayings) (base words : ℕ) → script_with_memory said base words ≡ Ok next
    → IsSound said → IsSound next
sound_memory said next base words e s =
    let test = are_script_words base words && nat_le words 65536 in
    let ok = if_ok test (record said { memory = Some (record { base = base; words = words }) }) Range next e in
    subst IsSound ok.1 (record {
      memory = are_words_so base words (and_left (are_script_words base words) (nat_le words 65536) ok.0);
      earlier = s.earlier;
      batch = s.batch;
    })

sound_room : (said next : ScriptSayings) (count : ℕ) → script_with_room said count ≡ Ok next → IsSound said
    → IsSound next
sound_room said next count e s =
    let ok = if_ok (nat_le count 65536) (record said { room = Some count }) Range next e in
    subst IsSound ok.1 (record { memory = s.memory; earlier = s.earlier; batch = s.batch })

sound_core : (said next : ScriptSayings) (table : ℕ) → script_with_core said table ≡ Ok next → IsSound said
    → IsSound next
sound_core said next table e s =
    let ok = if_ok (table % 4 == 0) (record said { core = Some table }) Range next e in
    subst IsSound ok.1 (record { memory = s.memory; earlier = s.earlier; batch = s.batch })

-- no block is there yet
no_block : (said : ScriptSayings) → script_beside_block said ≡ None → (more : List Access)
    → IfSome said.batch.block (λ at. IsScriptBlock at more)
no_block said free more = none_there said.batch.block (script_without_memory said) free
  where
    none_there : (block : Option ℕ) (rest : Option LineFault) → (if is_some block then Some Word else rest) ≡ None
        → IfSome block (λ at. IsScriptBlock at more)
    none_there (Some at) rest e = absurd cc
    none_there None rest e = tt

-- no access is there yet
no_access : (accesses : List Access) (rest : Option LineFault)
    → (if is_some_script_list accesses then Some Word else rest) ≡ None → accesses ≡ []
no_access [] rest e = refl
no_access (access ∷ accesses) rest e = absurd cc

if_block : (addr : ℕ) (r : Result ScriptSayings LineFault) (next : ScriptSayings) → script_as_block addr r ≡ Ok next
    → (said : ScriptSayings) × (r ≡ Ok said) × (record said { batch = record said.batch { block = Some addr } } ≡ next)
if_block addr (Ok said) next e = (said, refl, cc)
if_block addr (Err fault) next e = absurd cc

room_few : (n count : ℕ) → nat_le (n + count) 65536 ≡ true → n + count ≤ 65536
room_few n count e = grind (arith, nat_tests)

one_batch : (batch : ScriptListed) → IsScriptBatch batch → All IsScriptBatch (batch ∷ [])
one_batch batch h = at
  where
    at : (k : ℕ) (d : ScriptListed) → k < 1 → IsScriptBatch (get_or (batch ∷ []) k d)
    at zero d l = h
    at (suc k) d l = absurd (omega arith)

nothing_sound : IsScriptBatch script_nothing_listed
nothing_sound = record { few = omega arith; accesses = refl; block = tt; waits = tt }

-- a call that ends is one of those before
sound_next : (said : ScriptSayings) → IsSound said → IsSound (script_with_next said)
sound_next said s = record {
  memory = s.memory;
  earlier = All-append IsScriptBatch said.earlier (said.batch ∷ []) s.earlier (one_batch said.batch s.batch);
  batch = nothing_sound;
}

-- the call of an access isn't that of an `until`
no_until : (said : ScriptSayings) → (script_further said).batch.until ≡ None
no_until said = free said.batch.until refl
  where
    free : (until : Option Until) → said.batch.until ≡ until
        → (if is_some until then script_with_next said else said).batch.until ≡ None
    free None e = e
    free (Some until) e = refl

-- a call that waits for nothing
no_wait : (until : Option Until) (listed : ScriptListed) → until ≡ None
    → IfSome until (λ until. IsScriptUntil until listed)
no_wait None listed e = tt
no_wait (Some until) listed e = absurd cc

-- an `until` before it leaves what a run takes, and no block
sound_further : (said : ScriptSayings) → IsSound said → IsSound (script_further said)
sound_further said s = free (is_some said.batch.until)
  where
    free : (ended : Bool) → IsSound (if ended then script_with_next said else said)
    free true = sound_next said s
    free false = s

free_further : (said : ScriptSayings) → script_beside_block said ≡ None
    → script_beside_block (script_further said) ≡ None
free_further said e = free (is_some said.batch.until)
  where
    none_there : (block : Option ℕ) (rest : Option LineFault) → (if is_some block then Some Word else rest) ≡ None
        → rest ≡ None
    none_there (Some at) rest e = absurd cc
    none_there None rest e = e

    free : (ended : Bool) → script_beside_block (if ended then script_with_next said else said) ≡ None
    free true = none_there said.batch.block (script_without_memory said) e
    free false = e

-- accesses are added where no block is
sound_accesses : (said next : ScriptSayings) (addr count : ℕ) (more : List Access)
    → script_with_accesses said addr count more ≡ Ok next → length more ≡ count
    → (addr % 4 ≡ 0 → list_all is_script_word_access more ≡ true) → script_beside_block said ≡ None
    → said.batch.until ≡ None
    → IsSound said → IsSound next
sound_accesses said next addr count more e n a free plain s =
    let old : List Access = said.batch.accesses in
    let room = nat_le (length old + count) 65536 in
    let ok = if_ok (are_script_words addr count && room)
    (record said { batch = record said.batch { accesses = old ++ more } })
    Range next e in
    let few : room ≡ true = and_right (are_script_words addr count) room ok.0 in
    let words = are_words_so addr count (and_left (are_script_words addr count) room ok.0) in
    let len : length (old ++ more) ≡ length old + length more = length-append old more in
    let r : length old + count ≤ 65536 = room_few (length old) count few in
    subst IsSound ok.1 (record {
      memory = s.memory;
      earlier = s.earlier;
      batch = record {
        few = omega (arith, len, n, r);
        accesses = list_all-append is_script_word_access old more
            ∙ both (list_all is_script_word_access old) (list_all is_script_word_access more) s.batch.accesses
            (a words.aligned);
        block = no_block said free (old ++ more);
        waits = no_wait said.batch.until (record said.batch { accesses = old ++ more }) plain;
      };
    })

-- a block is the first that is added
sound_block : (said next : ScriptSayings) (addr count : ℕ)
    → script_as_block addr (script_with_accesses said addr count (plain_reads addr count)) ≡ Ok next
    → (if is_some_script_list said.batch.accesses then Some Word else script_without_memory said) ≡ None
    → said.batch.until ≡ None
    → IsSound said → IsSound next
sound_block said next addr count e free plain s =
    let more : List Access = plain_reads addr count in
    let old : List Access = said.batch.accesses in
    let room = nat_le (length old + count) 65536 in
    let b = if_block addr (script_with_accesses said addr count more) next e in
    let ok = if_ok (are_script_words addr count && room)
    (record said { batch = record said.batch { accesses = old ++ more } })
    Range b.0 b.1 in
    let few : room ≡ true = and_right (are_script_words addr count) room ok.0 in
    let words = are_words_so addr count (and_left (are_script_words addr count) room ok.0) in
    let only : old ≡ [] = no_access old (script_without_memory said) free in
    let whole : old ++ more ≡ more = ap (λ x. x ++ more) only in
    let len : length more ≡ count = plain_reads_length addr count in
    let same : length (old ++ more) ≡ count = ap length whole ∙ len in
    subst IsSound (ap (λ (x : ScriptSayings). record x { batch = record x.batch { block = Some addr } }) ok.1 ∙ b.2)
    (record {
      memory = s.memory;
      earlier = s.earlier;
      batch = record {
        few = omega (arith, same, room_few (length old) count few, ap length only);
        accesses = ap (list_all is_script_word_access) whole ∙ aligned_reads addr count words.aligned;
        block = record {
          same = whole ∙ ap (plain_reads addr) (sym same);
          end = omega (arith, words.end, same);
        };
        waits = no_wait said.batch.until (record said.batch { accesses = old ++ more; block = Some addr }) plain;
      };
    })

if_expected : (read : Expected) (r : Result ScriptSayings LineFault) (next : ScriptSayings)
    → script_as_expected read r ≡ Ok next → (said : ScriptSayings) × (r ≡ Ok said)
    × (record said { batch = record said.batch { expected = said.batch.expected ++ read ∷ [] } } ≡ next)
if_expected read (Ok said) next e = (said, refl, cc)
if_expected read (Err fault) next e = absurd cc

one_aligned : (addr : ℕ) → addr % 4 ≡ 0 → ((addr % 4 == 0) && true) ≡ true
one_aligned addr h = let a : (addr % 4 == 0) ≡ true = grind (arith, nat_tests) in both (addr % 4 == 0) true a refl

-- added accesses leave what the call waits for
if_accesses : (said next : ScriptSayings) (addr count : ℕ) (more : List Access)
    → script_with_accesses said addr count more ≡ Ok next → next.batch.until ≡ said.batch.until
if_accesses said next addr count more e =
    let added = record said { batch = record said.batch { accesses = said.batch.accesses ++ more } } in
    let ok = if_ok (are_script_words addr count && nat_le (length said.batch.accesses + count) 65536) added Range next e
    in
    ap (λ (x : ScriptSayings). x.batch.until) (sym ok.1)

-- the call of an `until`
sound_until : (said next : ScriptSayings) (until : Until) → script_with_until said until ≡ Ok next → IsSound said
    → IsSound next
sound_until said next until e s =
    let called : ScriptSayings = record (script_call_ended said) { batch = script_until_listed until } in
    let ok = if_ok (are_script_words until.addr 1 && script_until_can_match until) called Range next e in
    let words = are_words_so until.addr 1 (and_left (are_script_words until.addr 1) (script_until_can_match until) ok.0)
    in
    let can : script_until_can_match until ≡ true =
    and_right (are_script_words until.addr 1) (script_until_can_match until) ok.0 in
    let inside = bit_and until.value until.mask == until.value in
    let front = and_left (inside && nat_le 1 until.most) (nat_le until.most 1000000) can in
    let some : nat_le 1 until.most ≡ true = and_right inside (nat_le 1 until.most) front in
    let most : nat_le until.most 1000000 ≡ true =
    and_right (inside && nat_le 1 until.most) (nat_le until.most 1000000) can in
    let before : IsSound (script_call_ended said) = ended (is_some_script_list said.batch.accesses) in
    subst IsSound ok.1 (record {
      memory = before.memory;
      earlier = before.earlier;
      batch = record {
        few = omega arith;
        accesses = one_aligned until.addr words.aligned;
        block = tt;
        waits = record {
          only = refl;
          single = refl;
          nothing_expected = refl;
          some = grind (arith, nat_tests);
          most = grind (arith, nat_tests);
        };
      };
    })
  where
    ended : (has : Bool) → IsSound (if has then script_with_next said else said)
    ended true = sound_next said s
    ended false = s

-- a read whose word is told is an access
sound_verified : (line : ℕ) (said next : ScriptSayings) (addr word : ℕ)
    → script_with_verified line said addr word ≡ Ok next
    → script_beside_block said ≡ None → said.batch.until ≡ None → IsSound said → IsSound next
sound_verified line said next addr word e free plain s =
    let read : Expected = record { line = line; place = length said.batch.accesses; addr = addr; word = word } in
    let more : List Access = ReadAccess addr ∷ [] in
    let x = if_expected read (script_with_accesses said addr 1 more) next e in
    let mid : IsSound x.0 = sound_accesses said x.0 addr 1 more x.1 refl (one_aligned addr) free plain s in
    subst IsSound x.2 (record {
      memory = mid.memory;
      earlier = mid.earlier;
      batch = record {
        few = mid.batch.few;
        accesses = mid.batch.accesses;
        block = mid.batch.block;
        waits = no_wait x.0.batch.until (record x.0.batch { expected = x.0.batch.expected ++ read ∷ [] })
            (if_accesses said x.0 addr 1 more x.1 ∙ plain);
      };
    })

same_value : {S E : Type 0} (a b : S) → (let left : Result S E = Ok a in left ≡ Ok b) → a ≡ b
same_value a b e = cc

sound_command : (line : ℕ) (said next : ScriptSayings) (command : Command)
    → script_command_added line said command ≡ Ok next
    → misplaced_script_command said command ≡ None → IsSound said → IsSound next
sound_command line said next (Memory base words) e free s =
    let b = if_number base (λ base. script_with_number words (λ words. script_with_memory said base words)) next e in
    let w = if_number words (λ words. script_with_memory said b.0 words) next b.1 in
    sound_memory said next b.0 w.0 w.1 s
sound_command line said next (Room count) e free s =
    let c = if_number count (λ count. script_with_room said count) next e in
    sound_room said next c.0 c.1 s
sound_command line said next (Core table) e free s =
    let t = if_number table (λ table. script_with_core said table) next e in
    sound_core said next t.0 t.1 s
sound_command line said next (Read addr) e free s =
    let now = script_further said in
    let a = if_number addr (λ addr. script_with_accesses now addr 1 (ReadAccess addr ∷ [])) next e in
    sound_accesses now next a.0 1 (ReadAccess a.0 ∷ []) a.1 refl (one_aligned a.0) (free_further said free)
    (no_until said) (sound_further said s)
sound_command line said next (Write addr value) e free s =
    let now = script_further said in
    let a = if_number addr (λ addr. script_with_number value
    (λ value. script_with_accesses now addr 1 (WriteAccess addr value ∷ []))) next e in
    let v = if_number value (λ value. script_with_accesses now a.0 1 (WriteAccess a.0 value ∷ [])) next a.1 in
    sound_accesses now next a.0 1 (WriteAccess a.0 v.0 ∷ []) v.1 refl (one_aligned a.0) (free_further said free)
    (no_until said) (sound_further said s)
sound_command line said next (ReadMany addr count) e free s =
    let now = script_further said in
    let a = if_number addr (λ addr. script_with_number count
    (λ count. script_with_accesses now addr count (plain_reads addr count))) next
    e in
    let c = if_number count (λ count. script_with_accesses now a.0 count (plain_reads a.0 count)) next a.1 in
    sound_accesses now next a.0 c.0 (plain_reads a.0 c.0) c.1 (plain_reads_length a.0 c.0) (aligned_reads a.0 c.0)
    (free_further said free) (no_until said) (sound_further said s)
sound_command line said next (Block addr count) e free s =
    let now = script_further said in
    let a = if_number addr (λ addr. script_with_number count (λ count.
    script_as_block addr (script_with_accesses now addr count (plain_reads addr count)))) next e in
    let c = if_number count (λ count. script_as_block a.0 (script_with_accesses now a.0 count (plain_reads a.0 count)))
    next a.1 in
    sound_block now next a.0 c.0 c.1 (kept (is_some said.batch.until) free) (no_until said) (sound_further said s)
  where
    kept : (ended : Bool) → (if is_some_script_list (if ended then script_with_next said else said).batch.accesses
        then Some Word else script_without_memory said) ≡ None
        → (if is_some_script_list (if ended then script_with_next said else said).batch.accesses then Some Word else
        script_without_memory (if ended then script_with_next said else said)) ≡ None
    kept true h = h
    kept false h = h
sound_command line said next (Verify addr value) e free s =
    let now = script_further said in
    let a = if_number addr (λ addr. script_with_number value (λ value. script_with_verified line now addr value)) next e
    in
    let v = if_number value (λ value. script_with_verified line now a.0 value) next a.1 in
    sound_verified line now next a.0 v.0 v.1 (free_further said free) (no_until said) (sound_further said s)
sound_command line said next (UntilLine addr mask value most) e free s =
    let until = λ (a m v n : ℕ). script_with_until said (record { addr = a; mask = m; value = v; most = n }) in
    let a = if_number addr (λ a. script_with_number mask
    (λ m. script_with_number value (λ v. script_with_number most (λ n.
    until a m v n)))) next e in
    let m = if_number mask (λ m. script_with_number value (λ v. script_with_number most (λ n. until a.0 m v n))) next
    a.1 in
    let v = if_number value (λ v. script_with_number most (λ n. until a.0 m.0 v n)) next m.1 in
    let n = if_number most (λ n. until a.0 m.0 v.0 n) next v.1 in
    sound_until said next (record { addr = a.0; mask = m.0; value = v.0; most = n.0 }) n.1 s
sound_command line said next Next e free s =
    subst IsSound (same_value (script_with_next said) next e) (sound_next said s)

none_before : (fault : Option LineFault) (result : Result ScriptSayings LineFault) (next : ScriptSayings)
    → script_fault_before fault result ≡ Ok next → fault ≡ None
none_before (Some fault) result next e = absurd cc
none_before None result next e = refl

no_fault : (fault : Option LineFault) (result : Result ScriptSayings LineFault) (next : ScriptSayings)
    → script_fault_before fault result ≡ Ok next → result ≡ Ok next
no_fault (Some fault) result next e = absurd cc
no_fault None result next e = e

sound_after : (line : ℕ) (said next : ScriptSayings) (command : Option Command)
    → script_after_command line said command ≡ Ok next → IsSound said → IsSound next
sound_after line said next None e s = absurd cc
sound_after line said next (Some command) e s = sound_command line said next command
    (no_fault (misplaced_script_command said command) (script_command_added line said command) next e)
    (none_before (misplaced_script_command said command) (script_command_added line said command) next e) s

sound_line : (line : ℕ) (said next : ScriptSayings) (words : Option (List (List ℕ)))
    → script_line line said words ≡ Ok next → IsSound said → IsSound next
sound_line line said next None e s = absurd cc
sound_line line said next (Some []) e s = subst IsSound (same_value said next e) s
sound_line line said next (Some (name ∷ arguments)) e s =
    sound_after line said next (script_command_of (name ∷ arguments)) e s

after_one : {S : Type 0} (line : ℕ → S → Option (List (List ℕ)) → Result S LineFault) (P : S → Type 0)
    (words : Option (List (List ℕ))) (old new : S) (before : ℕ) (rest : List (List ℕ)) (r : Result S LineFault)
    → line (script_line_number before) old words ≡ r
    → ((state : S) → line (script_line_number before) old words ≡ Ok state → P state)
    → ((state : S) → script_after_lines line state (suc before) rest ≡ Ok new → P state → P new)
    → script_then_lines before (λ state. script_after_lines line state (suc before) rest) r ≡ Ok new → P new
after_one line P words old new before rest (Ok state) k f g e = g state e (f state k)
after_one line P words old new before rest (Err fault) k f g e = absurd cc

-- what each line keeps, all lines keep
after_all : {S : Type 0} (line : ℕ → S → Option (List (List ℕ)) → Result S LineFault) (P : S → Type 0)
    → ((number : ℕ) (old new : S) (words : Option (List (List ℕ))) → line number old words ≡ Ok new → P old → P new)
    → (texts : List (List ℕ)) (old new : S) (before : ℕ) → script_after_lines line old before texts ≡ Ok new → P old
    → P new
after_all line P f [] old new before e h = subst P (same_value old new e) h
after_all line P f (text ∷ rest) old new before e h =
    after_one line P (script_line_words text) old new before rest
    (line (script_line_number before) old (script_line_words text)) refl
    (λ state k. f (script_line_number before) old state (script_line_words text) k h)
    (λ state k p. after_all line P f rest state new (suc before) k p) e

meaning_runs : (memory : Option Extent) (said : ScriptSayings) (m : ScriptMeaning)
    → IfSome memory (λ extent. AreWords extent.base extent.words) → IsSound said
    → script_meaning memory said ≡ Ok m → IsScriptRunnable m
meaning_runs None said m w s e = absurd cc
meaning_runs (Some extent) said m w s e =
    subst IsScriptRunnable (same_value (record {
      base = extent.base;
      words = extent.words;
      room = unwrap_or said.room 65536;
      core = said.core;
      batches = said.earlier ++ said.batch ∷ [];
    }) m e)
    (record {
      aligned = w.aligned;
      some = w.some;
      end = w.end;
      batches = All-append IsScriptBatch said.earlier (said.batch ∷ []) s.earlier (one_batch said.batch s.batch);
    })

whole_runs : (r : Result ScriptSayings ScriptFault) (m : ScriptMeaning)
    → ((said : ScriptSayings) → r ≡ Ok said → IsSound said) → whole_script r ≡ Ok m → IsScriptRunnable m
whole_runs (Err fault) m f e = absurd cc
whole_runs (Ok said) m f e = let s = f said refl in meaning_runs said.memory said m s.memory s e

none : (k : ℕ) (d : ScriptListed) → k < 0 → IsScriptBatch (get_or [] k d)
none k d l = absurd (omega arith)

-- a script without an error can be run: its memory can be made, and a host takes its calls
pub script_is_runnable : (text : List ℕ) (m : ScriptMeaning) → script_of text ≡ Ok m → IsScriptRunnable m
script_is_runnable text m e =
    whole_runs (script_after_lines script_line script_nothing_said 0 (script_lines text)) m
    (λ said f. after_all script_line IsSound sound_line (script_lines text) script_nothing_said said 0 f
    (record { memory = tt; earlier = none; batch = nothing_sound })) e

legal_flip : (place : ℕ) (r : Option ℕ) (mark : Mark)
    → plan_file_marked (λ bit. Flip bit) (plan_file_place 33 r) ≡ Ok mark → IsPortMark mark
legal_flip place None mark e = absurd cc
legal_flip place (Some bit) mark e = flip (nat_lt bit 33) refl e
  where
    flip : (test : Bool) → nat_lt bit 33 ≡ test
        → plan_file_marked (λ bit. Flip bit) (if test then Ok bit else Err Range) ≡ Ok mark → IsPortMark mark
    flip true t e = let small : bit < 33 = grind (arith, nat_tests) in
        subst IsPortMark (same_value (Flip bit) mark e) small
    flip false t e = absurd cc

legal_mute : (place : ℕ) (r : Option ℕ) (mark : Mark)
    → plan_file_marked (λ bit. Mute bit) (plan_file_place 3 r) ≡ Ok mark → IsPortMark mark
legal_mute place None mark e = absurd cc
legal_mute place (Some bit) mark e = mute (nat_lt bit 3) refl e
  where
    mute : (test : Bool) → nat_lt bit 3 ≡ test
        → plan_file_marked (λ bit. Mute bit) (if test then Ok bit else Err Range) ≡ Ok mark → IsPortMark mark
    mute true t e = let small : bit < 3 = grind (arith, nat_tests) in
        subst IsPortMark (same_value (Mute bit) mark e) small
    mute false t e = absurd cc

abbrev bare_shape : Bool → Bool → Bool → Result Mark LineFault
bare_shape clean wait deaf = if clean then Ok Clean else
    (if wait then Ok Wait else (if deaf then Ok Deaf else Err Word))

legal_bare : (clean wait deaf : Bool) (mark : Mark) → bare_shape clean wait deaf ≡ Ok mark → IsPortMark mark
legal_bare true wait deaf mark e = subst IsPortMark (same_value Clean mark e) tt
legal_bare false true deaf mark e = subst IsPortMark (same_value Wait mark e) tt
legal_bare false false true mark e = subst IsPortMark (same_value Deaf mark e) tt
legal_bare false false false mark e = absurd cc

legal_placed : (flip mute : Bool) (place : List ℕ) (mark : Mark) →
    (if flip then plan_file_marked (λ bit. Flip bit) (plan_file_place 33 (script_decimal_number place)) else
    (if mute then plan_file_marked (λ bit. Mute bit) (plan_file_place 3 (script_decimal_number place)) else Err Word))
    ≡ Ok mark
    → IsPortMark mark
legal_placed true mute place mark e = legal_flip 0 (script_decimal_number place) mark e
legal_placed false true place mark e = legal_mute 0 (script_decimal_number place) mark e
legal_placed false false place mark e = absurd cc

legal_mark : (words : List (List ℕ)) (mark : Mark) → plan_file_mark words ≡ Ok mark → IsPortMark mark
legal_mark [] mark e = absurd cc
legal_mark (name ∷ []) mark e = legal_bare (bytes_eq name (codes ".")) (bytes_eq name (codes "wait"))
    (bytes_eq name (codes "deaf")) mark e
legal_mark (name ∷ place ∷ []) mark e = legal_placed (bytes_eq name (codes "flip")) (bytes_eq name (codes "mute")) place
    mark e
legal_mark (name ∷ place ∷ third ∷ more) mark e = absurd cc

one_legal : (mark : Mark) → IsPortMark mark → All IsPortMark (mark ∷ [])
one_legal mark h = at
  where
    at : (k : ℕ) (d : Mark) → k < 1 → IsPortMark (get_or (mark ∷ []) k d)
    at zero d l = h
    at (suc k) d l = absurd (omega arith)

legal_line : (old new : List Mark) (words : Option (List (List ℕ))) → plan_file_line old words ≡ Ok new
    → All IsPortMark old → All IsPortMark new
legal_line old new None e h = absurd cc
legal_line old new (Some []) e h = subst (All IsPortMark) (same_value old new e) h
legal_line old new (Some (name ∷ arguments)) e h = with_one (plan_file_mark (name ∷ arguments)) refl e
  where
    with_one : (r : Result Mark LineFault) → plan_file_mark (name ∷ arguments) ≡ r → plan_file_with_mark old r ≡ Ok new
        → All IsPortMark new
    with_one (Ok mark) k e = subst (All IsPortMark) (same_value (old ++ mark ∷ []) new e)
        (All-append IsPortMark old (mark ∷ []) h (one_legal mark (legal_mark (name ∷ arguments) mark k)))
    with_one (Err fault) k e = absurd cc

-- the marks of a plan without an error are legal
pub plan_file_is_plan : (text : List ℕ) (marks : List Mark) → plan_of text ≡ Ok marks → All IsPortMark marks
plan_file_is_plan text marks e = after_all (λ number. plan_file_line) (All IsPortMark) (λ number. legal_line)
    (script_lines text) [] marks 0 e (λ k d l. absurd (omega arith))

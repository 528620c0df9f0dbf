-- The definitions at worked texts.
use Rattle.std.proofs.Common.{◌≡◌, ℕ, List, [], ◌∷◌, ◌++◌, refl, Ok, Err, Some, None}
use Rattle.std.specs.Prelude.{codes}
use Rattle.swd_port.specs.declared.access.Access.{Access}
use Rattle.swd_port.specs.declared.access.Access.TheVariants.{Read, Write}
use Rattle.swd_port.specs.declared.mark.Mark.TheVariants.{Clean, Wait, Flip, Deaf, Mute}
use Rattle.swd_script.specs.declared.fault.ScriptFault.TheVariants.{Word, Number, Range, NoMemoryLine}
use Rattle.swd_script.specs.Plans.{plan_of}
use Rattle.swd_script.specs.Scripts.{ScriptListed, script_of}

-- a line and its line feed
fed : List ℕ → List ℕ
fed line = line ++ 10 ∷ []

-- single accesses
single : List Access → ScriptListed
single accesses = record { accesses = accesses; block = None; expected = []; until = None }

-- three reads as a block
of_block : ScriptListed
of_block = record {
  accesses = Read 536870912 ∷ Read 536870916 ∷ Read 536870920 ∷ [];
  block = Some 536870912;
  expected = [];
  until = None;
}

script : script_of (fed (codes "memory 20000000 16") ++ fed (codes "w 20000000 deadbeef") ++ fed (codes "rn 20000000 2")
    ++ codes "r 30000000") ≡
    Ok (record {
      base = 536870912;
      words = 16;
      room = 65536;
      core = None;
      batches = single (Write 536870912 3735928559 ∷ Read 536870912 ∷ Read 536870916 ∷ Read 805306368 ∷ []) ∷ [];
    })
unfolding fed single
script = refl

memory_alone : script_of (codes "memory 20000000 1")
    ≡ Ok (record { base = 536870912; words = 1; room = 65536; core = None; batches = single [] ∷ [] })
unfolding single
memory_alone = refl

-- blanks, a comment at a word's end, carriage returns before line feeds
laid_out : script_of (fed (codes "# a script" ++ 13 ∷ []) ++ fed (9 ∷ codes "memory  20000000 1#6" ++ 13 ∷ []) ++ fed []
    ++ codes "room 7 ") ≡
    Ok (record { base = 536870912; words = 1; room = 7; core = None; batches = single [] ∷ [] })
unfolding fed single
laid_out = refl

return_at_the_end : script_of (codes "memory 20000000 1" ++ 13 ∷ []) ≡ Err (Word 1)
return_at_the_end = refl

return_within : script_of (fed (codes "memory" ++ 13 ∷ codes " 20000000 1")) ≡ Err (Word 1)
unfolding fed
return_within = refl

no_memory : script_of (codes "r 20000000") ≡ Err (NoMemoryLine 1)
no_memory = refl

nothing : script_of [] ≡ Err (NoMemoryLine 1)
nothing = refl

unaligned_memory : script_of (codes "memory 20000002 1") ≡ Err (Range 1)
unaligned_memory = refl

no_digit : script_of (fed (codes "memory 20000000 1") ++ codes "r 2000000g") ≡ Err (Number 2)
unfolding fed
no_digit = refl

past_the_end : script_of (fed (codes "memory 20000000 1") ++ codes "rn fffffffc 2") ≡ Err (Range 2)
unfolding fed
past_the_end = refl

late_room : script_of (fed (codes "memory 20000000 1") ++ fed (codes "r 20000000") ++ codes "room 3") ≡ Err (Word 3)
unfolding fed
late_room = refl

block : script_of (fed (codes "memory 20000000 2") ++ codes "block 20000000 3") ≡
    Ok (record {
      base = 536870912;
      words = 2;
      room = 65536;
      core = None;
      batches = of_block ∷ [];
    })
unfolding fed of_block
block = refl

read_after_a_block :
    script_of (fed (codes "memory 20000000 2") ++ fed (codes "block 20000000 3") ++ codes "r 20000000") ≡ Err (Word 3)
unfolding fed
read_after_a_block = refl

block_after_a_write :
    script_of (fed (codes "memory 20000000 2") ++ fed (codes "w 20000000 1") ++ codes "block 20000000 1") ≡ Err (Word 3)
unfolding fed
block_after_a_write = refl

second_block :
    script_of (fed (codes "memory 20000000 2") ++ fed (codes "block 20000000 1") ++ codes "block 20000004 1") ≡ Err
    (Word 3)
unfolding fed
second_block = refl

block_past_the_end : script_of (fed (codes "memory 20000000 1") ++ codes "block fffffffc 2") ≡ Err (Range 2)
unfolding fed
block_past_the_end = refl

block_before_the_memory : script_of (codes "block 20000000 1") ≡ Err (NoMemoryLine 1)
block_before_the_memory = refl

-- a further call, a block beside single accesses, and reads whose words are told
calls : script_of (fed (codes "memory 20000000 4") ++ fed (codes "w 20000000 5") ++ fed (codes "next")
    ++ fed (codes "block 20000000 3")
    ++ fed (codes "next # and at the end") ++ fed (codes "r 20000004") ++ codes "verify 20000000 00000005") ≡
    Ok (record {
      base = 536870912;
      words = 4;
      room = 65536;
      core = None;
      batches = single (Write 536870912 5 ∷ []) ∷ of_block ∷ record {
        accesses = Read 536870916 ∷ Read 536870912 ∷ [];
        block = None;
        expected = record { line = 7; place = 1; addr = 536870912; word = 5 } ∷ [];
        until = None;
      } ∷ [];
    })
unfolding fed single of_block
calls = refl

-- the call of an `until`
waits : ℕ → ℕ → ℕ → ℕ → ScriptListed
waits addr mask value most = record {
  accesses = Read addr ∷ [];
  block = None;
  expected = [];
  until = Some (record { addr = addr; mask = mask; value = value; most = most });
}

-- an `until` after accesses, one directly after it, and accesses after that
untils : script_of (fed (codes "memory 20000000 4") ++ fed (codes "w 20000000 5")
    ++ fed (codes "until 0x20000004 0X0000000F 7 1000000") ++ fed (codes "until 20000008 0 0 1")
    ++ codes "r 20000000") ≡
    Ok (record {
      base = 536870912;
      words = 4;
      room = 65536;
      core = None;
      batches = single (Write 536870912 5 ∷ []) ∷ waits 536870916 15 7 1000000 ∷ waits 536870920 0 0 1
          ∷ single (Read 536870912 ∷ []) ∷ [];
    })
unfolding fed single waits
untils = refl

-- first and last: no call is added
until_alone : script_of (fed (codes "memory 20000000 4") ++ codes "until 20000004 1 1 2") ≡
    Ok (record { base = 536870912; words = 4; room = 65536; core = None; batches = waits 536870916 1 1 2 ∷ [] })
unfolding fed waits
until_alone = refl

value_outside_the_mask : script_of (fed (codes "memory 20000000 1") ++ codes "until 20000000 1 3 1") ≡ Err (Range 2)
unfolding fed
value_outside_the_mask = refl

no_read : script_of (fed (codes "memory 20000000 1") ++ codes "until 20000000 1 1 0") ≡ Err (Range 2)
unfolding fed
no_read = refl

next_before_the_memory : script_of (codes "next") ≡ Err (NoMemoryLine 1)
next_before_the_memory = refl

next_with_a_number : script_of (fed (codes "memory 20000000 1") ++ codes "next 1") ≡ Err (Word 2)
unfolding fed
next_with_a_number = refl

room_after_next : script_of (fed (codes "memory 20000000 1") ++ fed (codes "next") ++ codes "room 3") ≡ Err (Word 3)
unfolding fed
room_after_next = refl

verify_without_a_word : script_of (fed (codes "memory 20000000 1") ++ codes "verify 20000000") ≡ Err (Word 2)
unfolding fed
verify_without_a_word = refl

verify_beside_a_block :
    script_of (fed (codes "memory 20000000 1") ++ fed (codes "block 20000000 1") ++ codes "verify 20000000 0") ≡ Err
    (Word 3)
unfolding fed
verify_beside_a_block = refl

unaligned_verify : script_of (fed (codes "memory 20000000 1") ++ codes "verify 20000002 0") ≡ Err (Range 2)
unfolding fed
unaligned_verify = refl

-- the first line at fault, and in it the word before the number
first_fault : script_of (fed (codes "memory 20000000 1") ++ fed (codes "r g g") ++ codes "r 1") ≡ Err (Word 2)
unfolding fed
first_fault = refl

greatest_decimal : script_of (fed (codes "memory 0 1") ++ codes "rn 0 4294967295") ≡ Err (Range 2)
unfolding fed
greatest_decimal = refl

past_decimals : script_of (fed (codes "memory 0 1") ++ codes "rn 0 4294967296") ≡ Err (Number 2)
unfolding fed
past_decimals = refl

-- a core beside the memory
core : script_of (fed (codes "memory 20000000 2") ++ fed (codes "core 20000000") ++ codes "r e000ed00") ≡
    Ok (record {
      base = 536870912;
      words = 2;
      room = 65536;
      core = Some 536870912;
      batches = single (Read 3758157056 ∷ []) ∷ [];
    })
unfolding fed single
core = refl

second_core : script_of (fed (codes "memory 0 1") ++ fed (codes "core 0") ++ codes "core 0") ≡ Err (Word 3)
unfolding fed
second_core = refl

late_core : script_of (fed (codes "memory 0 1") ++ fed (codes "r 0") ++ codes "core 0") ≡ Err (Word 3)
unfolding fed
late_core = refl

core_before_the_memory : script_of (codes "core 0") ≡ Err (NoMemoryLine 1)
core_before_the_memory = refl

unaligned_core : script_of (fed (codes "memory 0 1") ++ codes "core 2") ≡ Err (Range 2)
unfolding fed
unaligned_core = refl

plan : plan_of (fed (codes ".") ++ fed (codes "wait # not now") ++ fed (codes "flip 32") ++ fed (codes "deaf")
    ++ codes "mute 2") ≡ Ok (Clean ∷ Wait ∷ Flip 32 ∷ Deaf ∷ Mute 2 ∷ [])
unfolding fed
plan = refl

no_plan : plan_of [] ≡ Ok []
no_plan = refl

place_past_the_phase : plan_of (codes "flip 33") ≡ Err (Range 1)
place_past_the_phase = refl

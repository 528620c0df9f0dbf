-- The text of a report at a worked one.
use Rattle.std.proofs.Common.{◌≡◌, ℕ, List, [], ◌∷◌, ◌++◌, refl}
use Rattle.std.specs.Prelude.{Some, None, true, false, codes}
use Rattle.std.specs.Fmt.{decimal}
use Rattle.swd_bits.specs.Listing.{hex2, hex8}
use Rattle.swd_port.specs.declared.access.Access.TheVariants.{Read, Write}
use Rattle.swd_port.specs.declared.access.Answer.TheVariants.{Value, Written, BusFault}
use Rattle.swd_host.specs.declared.outcome.End.TheVariants.{All, WrongId}
use Rattle.swd_run.specs.Reports.{report_lines_from, report_text}

-- a line and its line feed
fed : List ℕ → List ℕ
fed line = line ++ 10 ∷ []

report : report_text None false (Write 536870912 3735928559 ∷ Read 536870912 ∷ Read 805306368 ∷ []) []
    (record {
      answers = Written ∷ Value 3735928559 ∷ BusFault ∷ [];
      begun = 0;
      requests = 9;
      ended = WrongId 731911286;
    }) ≡
    fed (codes "w 20000000 written") ++ fed (codes "r 20000000 deadbeef") ++ fed (codes "r 30000000 busfault")
    ++ fed (codes "end id 2ba01476")
unfolding fed hex8 hex2
report = refl

-- the lines of one that was resumed twice
again : List ℕ
again = codes "resume " ++ (decimal 1 ++ codes " begun " ++ decimal 1)

resumed : report_lines_from None 0 (record { answered = 1; begun = 1; requests = 14 } ∷
    record { answered = 1; begun = 1; requests = 1 } ∷ [])
    (Write 536870912 3735928559 ∷ Read 536870912 ∷ Read 805306368 ∷ []) (Written ∷ Value 3735928559 ∷ BusFault ∷ []) ≡
    fed (codes "w 20000000 written")
    ++ (fed again ++ (fed again ++ (fed (codes "r 20000000 deadbeef") ++ fed (codes "r 30000000 busfault"))))
unfolding fed again hex8 hex2
resumed = refl

-- of the seventh read of an `until`, and of one whose word never came
seventh : List ℕ
seventh = codes "r 40022000 00000001" ++ (codes " reads " ++ decimal 7)

awaited : report_text (Some 7) false (Read 1073881088 ∷ []) []
    (record { answers = Value 1 ∷ []; begun = 0; requests = 11; ended = All })
    ≡ (fed seventh ++ []) ++ fed (codes "end all " ++ decimal 1)
unfolding fed seventh hex8 hex2
awaited = refl

missed : report_text (Some 7) true (Read 1073881088 ∷ []) []
    (record { answers = Value 1 ∷ []; begun = 0; requests = 11; ended = All })
    ≡ (fed seventh ++ []) ++ fed (codes "end until " ++ decimal 1)
unfolding fed seventh hex8 hex2
missed = refl

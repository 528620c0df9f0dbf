-- Laws of the text of a target's log.
use Rattle.std.proofs.lemmas.List.{append-nil}
use Rattle.std.proofs.Common.{◌≡◌, ℕ, zero, suc, ◌+◌, ◌<◌, List, [], ◌∷◌, ◌++◌, length, take, get_or, sym, ap, ◌∙◌}
use Rattle.std.proofs.Common.{append_assoc, arith, add-one}
use Rattle.swd_port.specs.declared.access.Transfer.{Transfer}
use Rattle.swd_ends.specs.TargetLogs.{live_log_line, live_log_lines}

-- one line more
pub live_log_line_next : (transfers : List Transfer) (i : ℕ) (d : Transfer) → i < length transfers →
    live_log_lines (take (i + 1) transfers) ≡ live_log_lines (take i transfers)
    ++ (live_log_line (get_or transfers i d) ++ 10 ∷ [])
live_log_line_next transfers i d h = ap (λ n. live_log_lines (take n transfers)) (add-one i) ∙ more transfers i h
  where
    more : (transfers : List Transfer) (i : ℕ) → i < length transfers →
        live_log_lines (take (suc i) transfers) ≡ live_log_lines (take i transfers)
        ++ (live_log_line (get_or transfers i d) ++ 10 ∷ [])
    more [] i h = absurd (omega arith)
    more (t ∷ transfers) zero h = append-nil (live_log_line t ++ 10 ∷ [])
    more (t ∷ transfers) (suc i) h =
        ap (λ x. (live_log_line t ++ 10 ∷ []) ++ x) (more transfers i (omega arith))
        ∙ sym (append_assoc (live_log_line t ++ 10 ∷ []) (live_log_lines (take i transfers))
        (live_log_line (get_or transfers i d) ++ 10 ∷ []))

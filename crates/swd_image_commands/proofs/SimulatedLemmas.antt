-- What a command over an image does at a simulated target, from what its call states.
use Rattle.std.proofs.Common.{◌≡◌, ℕ, List, Option, None, Result, Ok, Err, refl, subst, sym}
use Rattle.std.proofs.lemmas.Result.{IfOk-weaker}
use Rattle.std.specs.Prelude.{IfOk, is_some}
use Rattle.swd_port.specs.PlainBus.{bus_of, plain_of}
use Rattle.swd_port.specs.PlainMemory.{PlainMemory}
use Rattle.swd_host.specs.Reports.{IsAtRest}
use Rattle.swd_target.specs.declared.bench.Bench.{Bench}
use Rattle.swd_target.specs.Benches.{bench_port}
use Rattle.swd_run.specs.declared.limits.Limits.{Limits}
use Rattle.swd_image.specs.declared.fault.ImageFault.{ImageFault}
use Rattle.swd_image_files.specs.Images.{ImageFileBytes}
use Rattle.swd_image_ends.specs.Came.{DumpCame, image_bench_wire}
use Rattle.swd_image_ends.specs.Memories.{DumpsSimulatedMemory}
use Rattle.swd_image_ends.proofs.AddressLemmas.{loaded_there, verified_there}
use Rattle.swd_command_line.specs.declared.command.ImageLine.{ImageLine}
use Rattle.swd_image_commands.specs.Images.{IsCommandDumped, command_bytes_of, command_limits}
use Rattle.swd_image_commands.specs.Images.{command_result_reached}
use Rattle.swd_image.specs.declared.verifying.ByteDifference.{ByteDifference}
use Rattle.swd_image_commands.specs.declared.pieces.PiecesAction.{PiecesAction}
use Rattle.swd_image_commands.specs.declared.pieces.PiecesAction.TheVariants.{Load, Verify}
use Rattle.swd_image_commands.specs.Pieces.{PiecesCame}
use Rattle.swd_image_commands.specs.Images.{command_status_compared, command_status_of_image}
use Rattle.swd_image_commands.specs.Simulated.{DumpCommandSimulated, IsSimulatedCommandStatus, IsWrittenBackFor}
use Rattle.swd_image_commands.specs.Simulated.{PiecesCommandSimulated, PiecesSimulated}
use Rattle.swd_image_commands.proofs.ImageLemmas.{dump_command_came_list, dump_command_reached}

-- what is known of the bytes of a result, is known of them as a list
simulated_ok_list : {V : Type 0} (list : V → List ℕ) (answer : Result V ImageFault) (P : List ℕ → Type 0)
    → IfOk answer (λ value. P (list value)) → IfOk (command_bytes_of list answer) P
simulated_ok_list list (Ok value) P h = h
simulated_ok_list list (Err fault) P h = tt

-- what the calls for the pieces mean for the memory of a target at rest
pub pieces_command_memory : {A : Type 0} (limits : Limits) (action : PiecesAction) (pieces : List ImageFileBytes)
    (answer : Result (Option ByteDifference) ImageFault) (s t : Bench PlainMemory A)
    (before after : Option (Option (List ℕ))) → IsAtRest (bench_port bus_of s)
    → PiecesCame (image_bench_wire A) limits action pieces answer s t before after
    → PiecesSimulated action pieces answer (plain_of (bench_port bus_of s).target.memory)
    (plain_of (bench_port bus_of t).target.memory)
pieces_command_memory {A} limits Load pieces answer s t before after rest (Ok done, is, came) =
    subst (λ own. PiecesSimulated Load pieces own (plain_of (bench_port bus_of s).target.memory)
    (plain_of (bench_port bus_of t).target.memory)) (sym is)
    (loaded_there (image_bench_wire A) limits (λ w. tt) pieces s t rest refl came.loads)
pieces_command_memory {A} limits Load pieces answer s t before after rest (Err fault, is, came) =
    subst (λ own. PiecesSimulated Load pieces own (plain_of (bench_port bus_of s).target.memory)
    (plain_of (bench_port bus_of t).target.memory)) (sym is) tt
pieces_command_memory {A} limits Verify pieces answer s t before after rest came =
    IfOk-weaker answer _ _ (λ difference. verified_there (image_bench_wire A) limits (λ w. tt) pieces difference s t
    rest refl) came.verifies

-- the calls for the pieces, and what became of the memory's file behind them
pub pieces_command_simulated : {A : Type 0} (image : ImageLine) (limits : Limits) (own action : PiecesAction)
    (pieces : List ImageFileBytes) (s t : Bench PlainMemory A) (answer : Result (Option ByteDifference) ImageFault)
    (blank filled : Option (Option (List ℕ)))
    → limits ≡ command_limits image → own ≡ action → IsAtRest (bench_port bus_of s)
    → is_some blank ≡ is_some image.report
    → PiecesCame (image_bench_wire A) limits own pieces answer s t blank filled
    → (base count status : ℕ) (wrote : Result (Unit {0}) ℕ) (old new : Option (Option (List ℕ)))
    → IsWrittenBackFor action (plain_of (bench_port bus_of t).target.memory) base count wrote old new
    → IsSimulatedCommandStatus (command_status_of_image command_status_compared None answer) wrote status
    → PiecesCommandSimulated image action pieces s base count status old new
pieces_command_simulated {A} image limits own action pieces s t answer blank filled within same rest named came base
    count status wrote old new written is =
    let done = subst (λ a. PiecesCame (image_bench_wire A) limits a pieces answer s t blank filled) same came in
    record {
      answer = answer;
      after = t;
      memory = pieces_command_memory limits action pieces answer s t blank filled rest done;
      blank = blank;
      filled = filled;
      named = named;
      came = subst (λ l. PiecesCame (image_bench_wire A) l action pieces answer s t blank filled) within done;
      wrote = wrote;
      written = written;
      is = is;
    }

-- a dump, and what became of its file
pub dump_command_simulated : {A V : Type 0} (list : V → List ℕ) (image : ImageLine) (limits : Limits) (count : ℕ)
    (s t : Bench PlainMemory A) (answer : Result V ImageFault) (blank filled : Option (Option (List ℕ)))
    → limits ≡ command_limits image → IsAtRest (bench_port bus_of s) → is_some blank ≡ is_some image.report
    → DumpCame (image_bench_wire A) limits image.addr count answer list s t blank filled → (status : ℕ)
    → IsCommandDumped image.format image.addr (command_bytes_of list (command_result_reached None answer)) status
    → DumpCommandSimulated image count s status
dump_command_simulated {A} {V} list image limits count s t answer blank filled same rest named came status dumped =
    record {
      answer = command_bytes_of list answer;
      after = t;
      memory = simulated_ok_list list answer
          (λ bytes. DumpsSimulatedMemory image.addr count bytes (plain_of (bench_port bus_of s).target.memory)
          (plain_of (bench_port bus_of t).target.memory))
          (IfOk-weaker answer _ _ (λ value h. record {
            fits = h.fits;
            are = h.memory tt rest refl;
            words = h.same tt rest refl;
          }) came.dumps);
      blank = blank;
      filled = filled;
      named = named;
      came = subst (λ own. DumpCame (image_bench_wire A) own image.addr count (command_bytes_of list answer)
          (λ bytes. bytes) s t blank filled) same
          (dump_command_came_list list (image_bench_wire A) limits image.addr count answer s t blank filled came);
      dumped = subst (λ bytes. IsCommandDumped image.format image.addr bytes status)
          (sym (dump_command_reached list None answer)) dumped;
    }

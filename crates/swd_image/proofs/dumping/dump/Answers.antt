use Rattle.std.proofs.Common.{◌≡◌, ℕ, ◌∙◌, ◌%◌, List, [], Some, ap, arith, length, subst, sym}
use Rattle.std.proofs.lemmas.List.{append-nil}
use Rattle.std.proofs.lemmas.Result.{IfErr-weaker, IfOk-weaker}
use Rattle.swd_port.specs.declared.wire.Wire.{Ghosts}
use Rattle.swd_port.specs.PlainAnswers.{plain_reads}
use Rattle.swd_port.proofs.ReadLists.{plain_reads_length}
use Rattle.swd_run.specs.declared.limits.Limits.{Limits}
use Rattle.swd_image.specs.declared.fault.ImageFault.TheVariants.{Range}
use Rattle.swd_image.specs.Bytes.{image_bytes_of, image_word_of}
use Rattle.swd_image.specs.Dumps.{DumpFails}
use Rattle.swd_image.specs.Lists.{image_dump_list}
use Rattle.swd_image.specs.Sessions.{ReadsAs}
use Rattle.swd_image.proofs.CallLemmas.{stops_next}
use Rattle.swd_image.proofs.DumpLemmas.{dumped, dump_words_enough}
use Rattle.swd_image.proofs.LoadLemmas.{reads_many}
use Rattle.swd_image.proofs.ReportLemmas.{to_none}
use Rattle.swd_image.proofs.dumping.dump.Goals as goal

-- the reads of a range, by the first word and the number of words that were computed
range_read : {W : Type 0} (wire : Ghosts W) (limits : Limits) (addr first many count : ℕ) (words : List ℕ) (s t : W)
    → first ≡ image_word_of addr → many ≡ count → ReadsAs wire limits (plain_reads first many) words s t
    → ReadsAs wire limits (plain_reads (image_word_of addr) count) words s t
range_read wire limits addr first many count words s t e f h =
    subst (λ n. ReadsAs wire limits (plain_reads (image_word_of addr) n) words s t) f
    (subst (λ a. ReadsAs wire limits (plain_reads a many) words s t) e h)

pub bytes_of-requires : goal.bytes_of-requires
bytes_of-requires g c = λ some.
    (let l = ap length c.as_slice.ensures.value
    ∙ reads_many g.W.Wire c.args.limits c.args.wire.now
    c.read_words.new.wire (plain_reads c.word_of-first.result c.word_count-many.result) c.in_ok-words.words.items
    c.in_ok-words.ensures.read
    ∙ plain_reads_length c.word_of-first.result c.word_count-many.result ∙ c.word_count-many.ensures in
    let e = dump_words_enough c.args.addr c.args.count some in
    omega (arith, l, e))

pub returns-clause-dumps : goal.returns-clause-dumps
returns-clause-dumps g c =
    let all = range_read g.W.Wire _ _ _ _ _ _ _ _ c.word_of-first.ensures c.word_count-many.ensures
    c.in_ok-words.ensures.read in
    IfOk-weaker c.bytes_of.result _ _ (λ bytes is.
    dumped g.W.Wire c.args.limits c.args.addr c.args.count c.args.wire.now c.read_words.new.wire
    bytes.items c.in_ok-words.words.items (omega arith) all
    (is ∙ ap (λ l. image_bytes_of l (c.args.addr % 4) c.args.count) c.as_slice.ensures.value)) c.bytes_of.ensures.bytes

pub returns-then-addr-count-clause-report : goal.returns-then-addr-count-clause-report
returns-then-addr-count-clause-report g c =
    to_none g.W.Wire c.args.limits c.args.wire.now _ (Some Range)
    (g.S.CallReports.held c.args.report.now) (λ e. absurd cc) (λ end e. cc) (λ e. cc)

pub returns-clause-fault : goal.returns-clause-fault
returns-clause-fault g c =
    let s = c.args.wire.now in
    let t = c.read_words.new.wire in
    let all = range_read g.W.Wire _ _ _ _ _ _ _ _ c.word_of-first.ensures c.word_count-many.ensures
    c.in_ok-words.ensures.read in
    let list = image_dump_list c.args.addr c.args.count in
    IfErr-weaker c.bytes_of.result _ _ (λ fault is.
    subst (DumpFails g.W.Wire c.args.limits c.args.addr c.args.count s t) (sym is) (
      omega arith,
      stops_next g.W.Wire c.args.limits s t list [] list all.answers all.calls (sym (append-nil list)),
    )) c.bytes_of.ensures.fault

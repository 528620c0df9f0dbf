use Rattle.std.proofs.Common.{sym, ap, ◌∙◌, subst}
use Rattle.std.specs.Result.{result_ok}
use Rattle.std.specs.Str.{IsUtf8}
use Rattle.std.proofs.lemmas.Str.{IsUtf8-from_ascii}
use Rattle.swd_bits.specs.Listing.{hex8}
use Rattle.swd_trace.proofs.WordLemmas.{IsAscii-hex8, parse-hex8}
use Rattle.swd_trace.proofs.listing.word.word_in.Goals as goal

pub returns-in-Ok : goal.returns-in-Ok
returns-in-Ok c = λ word h e.
    c.ok.ensures.value ∙ ap result_ok
    (parse-hex8 word c.in-Ok.text.now c.from_str_radix.result h (c.in-Ok.ensures.cases.0 ∙ e)
    c.from_str_radix.ensures.value)

pub returns-in-Err : goal.returns-in-Err
returns-in-Err c = λ word h e.
    absurd (c.in-Err.ensures.cases.0 (subst IsUtf8 (sym e) (IsUtf8-from_ascii (hex8 word) (IsAscii-hex8 word h))))

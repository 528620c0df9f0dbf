use Rattle.std.proofs.Common.{rules, ◌<◌, ◌≤◌, length, refl}
use Rattle.swd_script.proofs.WordLemmas.{script_gathers_byte, script_last_word_more, script_last_word_full}
use Rattle.swd_script.proofs.words.LineWords.push.Goals as goal

pub returns-then-not-is_full : goal.returns-then-not-is_full
returns-then-not-is_full c = λ line g.
    let old = c.args.self.now in
    let h : length old.last.items < 11 = search rules in
    script_gathers_byte line old (record { ended = old.ended; last = c.push.new.self }) c.args.byte c.requires refl
    (λ word e. script_last_word_more word old.last.items c.push.new.self.items c.args.byte h e c.push.ensures.items) g

pub returns-else-not-is_full : goal.returns-else-not-is_full
returns-else-not-is_full c = λ line g.
    let old = c.args.self.now in
    let h : 11 ≤ length old.last.items = search rules in
    script_gathers_byte line old (record { ended = old.ended; last = old.last }) c.args.byte c.requires refl
    (λ word e. script_last_word_full word old.last.items c.args.byte h e) g

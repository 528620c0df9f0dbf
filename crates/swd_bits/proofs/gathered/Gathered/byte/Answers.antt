use Rattle.std.proofs.Common.{◌≡◌, ◌+◌, ◌<◌, ◌≤◌, Bool, true, false, List, [], ◌∷◌, ◌++◌, length, sym, ap, ◌∙◌, arith}
use Rattle.std.proofs.lemmas.List.{length-append}
use Rattle.swd_bits.specs.BitLists.{tx_bits_of}
use Rattle.swd_bits.specs.One.{HoldsGatheredBits}
use Rattle.swd_bits.specs.declared.tx_bits.TxBits.{TxBits}
use Rattle.swd_bits.proofs.BitsLemmas.{length-low_bits}
use Rattle.swd_bits.proofs.ScanLemmas.{scan_bits_passed_byte, scan_bits_one_more, scan_bits_first_bad_byte}
use Rattle.swd_bits.proofs.gathered.Gathered.byte.Goals as goal

-- one bit more, where there is room
held_more : (long : Bool) (held new : TxBits) (bits : List Bool) (bit : Bool) → held.len < 46 → new.len ≤ held.len + 1
    → tx_bits_of new ≡ tx_bits_of held ++ bit ∷ [] →
    HoldsGatheredBits long held bits → HoldsGatheredBits long new (bits ++ bit ∷ [])
held_more true held new bits bit h l e k = absurd (omega arith)
held_more false held new bits bit h l e k = (omega arith, e ∙ ap (λ x. x ++ bit ∷ []) k.1)

-- one bit more, where there is none
held_long : (long : Bool) (held : TxBits) (bits : List Bool) (bit : Bool) → (held.len < 46 → ⊥)
    → HoldsGatheredBits long held bits → HoldsGatheredBits true held (bits ++ bit ∷ [])
held_long true held bits bit h k =
    let n : length (bits ++ bit ∷ []) ≡ length bits + 1 = length-append bits (bit ∷ []) in
    (k.0, omega arith)
held_long false held bits bit h k =
    let n : length (bits ++ bit ∷ []) ≡ length bits + 1 = length-append bits (bit ∷ []) in
    let m : length bits ≡ held.len = ap length (sym k.1) ∙ length-low_bits held.len held.bits in
    (omega arith, omega arith)

pub returns-in-Passed-clause-good : goal.returns-in-Passed-clause-good
returns-in-Passed-clause-good c = λ _ seen g. record {
  bits = g.bits;
  reads = scan_bits_passed_byte seen g.bits c.args.self.now.scan c.byte.new.self c.args.byte c.in-Passed.ensures.sign
      c.in-Passed.ensures.comment g.reads;
  kept = g.kept;
}

pub returns-in-Bad-clause-bad : goal.returns-in-Bad-clause-bad
returns-in-Bad-clause-bad c = λ _ seen g more. scan_bits_first_bad_byte seen more g.bits c.args.self.now.scan
    c.args.byte c.in-Bad.ensures.sign g.reads

pub returns-then-self-lt-MOVED_BITS-clause-good : goal.returns-then-self-lt-MOVED_BITS-clause-good
returns-then-self-lt-MOVED_BITS-clause-good c = λ _ seen g. record {
  bits = g.bits ++ c.in-Bit.bit ∷ [];
  reads = scan_bits_one_more seen g.bits c.args.self.now.scan c.byte.new.self c.in-Bit.bit c.args.byte
      c.in-Bit.ensures.sign c.in-Bit.ensures.comment g.reads;
  kept = held_more c.args.self.now.long c.args.self.now.held c.then-self.result g.bits c.in-Bit.bit
      c.if-self-lt-MOVED_BITS.true (omega arith)
      (c.then-self.ensures.bits ∙ ap (λ x. tx_bits_of c.args.self.now.held ++ x) c.one.ensures.bits) g.kept;
}

pub returns-else-self-lt-MOVED_BITS-clause-good : goal.returns-else-self-lt-MOVED_BITS-clause-good
returns-else-self-lt-MOVED_BITS-clause-good c = λ _ seen g. record {
  bits = g.bits ++ c.in-Bit.bit ∷ [];
  reads = scan_bits_one_more seen g.bits c.args.self.now.scan c.byte.new.self c.in-Bit.bit c.args.byte
      c.in-Bit.ensures.sign c.in-Bit.ensures.comment g.reads;
  kept = held_long c.args.self.now.long c.args.self.now.held g.bits c.in-Bit.bit (omega arith) g.kept;
}

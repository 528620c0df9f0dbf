-- What the calls of a load and of a dump leave, and what they read.
use Rattle.std.proofs.Common.{◌≡◌, ◌+◌, ◌*◌, ◌<◌, ◌≤◌, ◌^◌, ℕ, zero, suc, Bool, true, false, refl, ap, subst, arith}
use Rattle.std.proofs.Common.{◌∙◌, List, [], ◌∷◌, ◌++◌, length, map, get_or, Some, inl, inr, ◌⊎◌}
use Rattle.std.specs.Ordering.{nat_cmp}
use Rattle.std.specs.FinMap.{FinMap, get}
use Rattle.swd_port.specs.declared.access.Access.{Access}
use Rattle.swd_port.specs.declared.access.Access.TheVariants.{Read, Write}
use Rattle.swd_port.specs.declared.access.Answer.{Answer}
use Rattle.swd_port.specs.declared.access.Answer.TheVariants.{Value, Written, BusFault}
use Rattle.swd_port.specs.PlainMemory.{plain_address}
use Rattle.swd_port.specs.PlainAnswers.{plain_reads}
use Rattle.swd_port.specs.PlainBus.{plain_of}
use Rattle.swd_port.specs.PlainBus.{IsPlain, plain_words_of}
use Rattle.swd_host.specs.Chains.{AreBlockReads}
use Rattle.swd_host.specs.Reports.{IsAtRest}
use Rattle.swd_run.specs.declared.limits.Limits.{Limits}
use Rattle.swd_port.specs.declared.wire.Wire.{Ghosts}
use Rattle.swd_image.specs.declared.fault.ImageFault.{ImageFault}
use Rattle.swd_image.specs.declared.fault.ImageFault.TheVariants.{Range, Memory, Stopped, Report, BusFault as FaultAt}
use Rattle.swd_image.specs.Bytes.{image_word_in, image_word_of, image_words_at}
use Rattle.swd_image.specs.Images.{IsImageLoaded}
use Rattle.swd_image.specs.Lists.{image_edge_list, image_edge_words, image_last_word, image_load_list}
use Rattle.swd_image.specs.Lists.{image_loaded_word, image_needs_head, image_needs_tail, image_read_if}
use Rattle.swd_image.specs.Lists.{image_word_count, image_word_if, image_writes}
use Rattle.swd_image.specs.Loads.{LoadFails}
use Rattle.swd_image.specs.Sessions.{AreImageDone, FailsAs, MadeAll, ReadsAs, image_words_read}
use Rattle.swd_image.proofs.ChainLemmas.{AllIn, AllTell}
use Rattle.swd_image.proofs.CallLemmas.{calls_done, calls_law, leaves}
use Rattle.swd_image.proofs.ImageLemmas.{InImageWords, bytes_are, others}

-- ---- lists of reads

abbrev Never : ℕ → Type 0
Never q = ⊥

abbrev no_word : ℕ → ℕ
no_word q = 0

all_reads : (words : FinMap nat_cmp ℕ) (list : List Access) → AreBlockReads list → AllIn no_word Never words list
all_reads words [] h = tt
all_reads words (Read at ∷ list) h = (tt, all_reads words list h)
all_reads words (Write at word ∷ list) h = absurd h

-- they are answered by the words that were there
told_words : (words now : FinMap nat_cmp ℕ) (list : List Access) (answers : List Answer) → AreBlockReads list
    → AreImageDone list answers → AllTell no_word Never words now list answers
    → image_words_read answers ≡ map (λ a. image_word_in words (plain_address a)) list
told_words words now [] [] r d h = refl
told_words words now [] (x ∷ answers) r d h = absurd d
told_words words now (a ∷ list) [] r d h = absurd d
told_words words now (Write at word ∷ list) (x ∷ answers) r d h = absurd r
told_words words now (Read at ∷ list) (Written ∷ answers) r d h = absurd (let e = d.0 in cc)
told_words words now (Read at ∷ list) (BusFault ∷ answers) r d h = absurd (let e = d.0 in cc)
told_words words now (Read at ∷ list) (Value word ∷ answers) r d h =
    let rest = told_words words now list answers r d.1 h.1 in
    elim h.0 [
      | inl is ↦ ap (λ w. w ∷ image_words_read answers) is ∙ ap (λ l. image_word_in words at ∷ l) rest
      | inr never ↦ absurd never
    ]

-- the reads of consecutive words are reads
pub image_reads_are_reads : (at count : ℕ) → AreBlockReads (plain_reads at count)
image_reads_are_reads at zero = tt
image_reads_are_reads at (suc count) = image_reads_are_reads (at + 4) count

-- the memory's words at the addresses of consecutive reads are its consecutive words
pub image_reads_from_memory : (words : FinMap nat_cmp ℕ) (at count : ℕ)
    → map (λ a. image_word_in words (plain_address a)) (plain_reads at count) ≡ image_words_at words at count
image_reads_from_memory words at zero = refl
image_reads_from_memory words at (suc count) =
    ap (λ l. image_word_in words at ∷ l) (image_reads_from_memory words (at + 4) count)

edge_reads : (h t : Bool) (x y : ℕ) → AreBlockReads (image_read_if h x ++ image_read_if t y)
edge_reads true true x y = tt
edge_reads true false x y = tt
edge_reads false true x y = tt
edge_reads false false x y = tt

-- the words of the edges, from what was read
record Edged (f : Access → ℕ) (h t : Bool) (x y head tail : ℕ) : Type 0 where
  is_head : h ≡ true → head ≡ f (Read x)
  is_tail : t ≡ true → tail ≡ f (Read y)

edged : (f : Access → ℕ) (h t : Bool) (x y head tail : ℕ)
    → image_word_if h head ++ image_word_if t tail ≡ map f (image_read_if h x ++ image_read_if t y)
    → Edged f h t x y head tail
edged f true true x y head tail e = record { is_head = λ h. cc; is_tail = λ t. cc }
edged f true false x y head tail e = record { is_head = λ h. cc; is_tail = λ t. absurd cc }
edged f false true x y head tail e = record { is_head = λ h. absurd cc; is_tail = λ t. cc }
edged f false false x y head tail e = record { is_head = λ h. absurd cc; is_tail = λ t. absurd cc }

-- ---- lists of writes

all_writes : (word : ℕ → ℕ) (P : ℕ → Type 0) (words : FinMap nat_cmp ℕ) (at count : ℕ)
    → ((k : ℕ) → k < count → P (at + 4 * k)) → AllIn word P words (image_writes word at count)
all_writes word P words at zero h = tt
all_writes word P words at (suc count) h =
    let here : at + 4 * 0 ≡ at = omega arith in (
      (refl, subst P here (h 0 (omega arith))),
      all_writes word P words (at + 4) count (λ k low.
          (let e : at + 4 * (k + 1) ≡ at + 4 + 4 * k = omega arith in subst P e (h (k + 1) (omega arith)))),
    )

-- each of their words is there
written_at : (word : ℕ → ℕ) (P : ℕ → Type 0) (words now : FinMap nat_cmp ℕ) (at count k : ℕ) (answers : List Answer)
    → AreImageDone (image_writes word at count) answers → AllTell word P words now (image_writes word at count) answers
    → k < count → get now (at + 4 * k) ≡ Some (word (at + 4 * k))
written_at word P words now at zero k answers d h low = absurd (omega arith)
written_at word P words now at (suc count) k [] d h low = absurd d
written_at word P words now at (suc count) k (Value other ∷ answers) d h low = absurd (let e = d.0 in cc)
written_at word P words now at (suc count) k (BusFault ∷ answers) d h low = absurd (let e = d.0 in cc)
written_at word P words now at (suc count) zero (Written ∷ answers) d h low =
    let e : at ≡ at + 4 * zero = omega arith in subst (λ q. get now q ≡ Some (word q)) e h.0
written_at word P words now at (suc count) (suc k) (Written ∷ answers) d h low =
    let e : at + 4 + 4 * k ≡ at + 4 * suc k = omega arith in
    subst (λ q. get now q ≡ Some (word q)) e
    (written_at word P words now (at + 4) count k answers d.1 h.1 (omega arith))

-- ---- over a wire

module _ {W : Type 0} (wire : Ghosts W) (limits : Limits) where
  -- what some reads leave and gave, from a target at rest
  pub record HasRead (list : List Access) (words : List ℕ) (s t : W) : Type 0 where
    pub at_rest : IsAtRest (wire.port t)
    pub plain : IsPlain (wire.port t).target.memory
    pub same : (q : ℕ) → get (plain_words_of (wire.port t).target.memory) q ≡ get (plain_words_of (wire.port
        s).target.memory) q
    pub words_are : words ≡ map (λ a. image_word_in (plain_words_of (wire.port s).target.memory) (plain_address a))
        list

  -- over a lawful wire, from a target at rest, calls that only read return the memory's words, change none and leave
  -- the target at rest
  pub has_read : (s t : W) (list : List Access) (words : List ℕ) → AreBlockReads list
      → ReadsAs wire limits list words s t → wire.lawful t → IsAtRest (wire.port s)
      → IsPlain (wire.port s).target.memory → HasRead list words s t
  has_read s t list words r h law rest plain =
      let before = (plain_words_of (wire.port s).target.memory) in
      let l = leaves wire limits no_word Never s rest plain t list h.answers h.calls
      (all_reads before list r) law in
      record {
        at_rest = l.at_rest;
        plain = l.plain;
        same = λ q. elim (l.held q) [ inl e ↦ e | inr both ↦ absurd both.0 ];
        words_are = h.told ∙ told_words before (plain_words_of (wire.port t).target.memory) list h.answers r
            (calls_done wire limits s t list h.answers h.calls) l.tells;
      }

  -- how many words were read
  pub reads_many : (s t : W) (list : List Access) (words : List ℕ)
      → ReadsAs wire limits list words s t → length words ≡ length list
  reads_many s t list words h =
      ap length h.told ∙ many list h.answers (calls_done wire limits s t list h.answers h.calls)
    where
      many : (xs : List Access) (vs : List Answer) → AreImageDone xs vs → length (image_words_read vs) ≡ length xs
      many [] [] d = refl
      many [] (v ∷ vs) d = absurd d
      many (x ∷ xs) [] d = absurd d
      many (x ∷ xs) (v ∷ vs) d = ap suc (many xs vs d.1)

  module _ (addr : ℕ) (bytes : List ℕ) (s t : W) where
    -- over a lawful wire, from a target at rest, the calls of a load leave the image in the memory, all else
    -- unchanged, and the target at rest
    pub loaded : ((k : ℕ) → get_or bytes k 0 < 256) → (head tail : ℕ) (reached : W)
        → ReadsAs wire limits (image_edge_list addr (length bytes))
        (image_edge_words addr (length bytes) head tail) s reached
        → MadeAll wire limits (image_load_list addr bytes head tail) reached t
        → wire.lawful t → IsAtRest (wire.port s) → IsPlain (wire.port s).target.memory
        → IsImageLoaded addr bytes (plain_of (wire.port s).target.memory) (plain_of (wire.port t).target.memory)
        × IsAtRest (wire.port t) × IsPlain (wire.port t).target.memory
    loaded small head tail reached edges made law rest plain =
        let len : ℕ = length bytes in
        let word : ℕ → ℕ = image_loaded_word addr bytes head tail in
        let list : List Access = image_load_list addr bytes head tail in
        let old : FinMap nat_cmp ℕ = (plain_words_of (wire.port s).target.memory) in
        let middle : FinMap nat_cmp ℕ = (plain_words_of (wire.port reached).target.memory) in
        let now : FinMap nat_cmp ℕ = (plain_words_of (wire.port t).target.memory) in
        let back : wire.lawful reached = calls_law wire limits reached t list made.answers made.calls law
        in
        let r = has_read s reached (image_edge_list addr len) (image_edge_words addr len head tail)
        (edge_reads (image_needs_head addr len) (image_needs_tail addr len) (image_word_of addr)
        (image_last_word addr len)) edges back rest plain in
        let e = edged (λ a. image_word_in old (plain_address a)) (image_needs_head addr len) (image_needs_tail addr
        len)
        (image_word_of addr) (image_last_word addr len) head tail r.words_are in
        let l = leaves wire limits word (InImageWords addr len) reached r.at_rest r.plain t list
        made.answers
        made.calls (all_writes word (InImageWords addr len) middle (image_word_of addr) (image_word_count addr len)
        (λ k low. record { low = omega arith; high = omega arith; aligned = omega arith })) law in
        let written : (k : ℕ) → k < image_word_count addr len
        → get now (image_word_of addr + 4 * k) ≡ Some (word (image_word_of addr + 4 * k))
        = λ k low. written_at word (InImageWords addr len) middle now (image_word_of addr) (image_word_count addr
        len) k
        made.answers (calls_done wire limits reached t list made.answers made.calls) l.tells low in
        let held : (q : ℕ) → (get now q ≡ get old q) ⊎ InImageWords addr len q =
        λ q. elim (l.held q) [ inl same ↦ inl (same ∙ r.same q) | inr both ↦ inr both.0 ] in (
          record {
            bytes_are = bytes_are addr bytes head tail old now small e.is_head e.is_tail written held;
            others = others addr bytes head tail old now small e.is_head e.is_tail written held;
          },
          l.at_rest,
          l.plain,
        )

    -- why a load failed among its reads
    pub fails_early : (fault : ImageFault) → addr + length bytes ≤ 2 ^ 32
        → FailsAs wire limits (image_edge_list addr (length bytes)) s t fault
        → LoadFails wire limits addr bytes s t fault
    fails_early Range fits f = absurd f
    fails_early Memory fits f = (fits, inl f)
    fails_early (Stopped end) fits f = (fits, inl f)
    fails_early (FaultAt at) fits f = (fits, inl f)
    fails_early Report fits f = (fits, inl f)

    -- why it failed among its writes
    pub fails_late : (fault : ImageFault) → addr + length bytes ≤ 2 ^ 32 → (head tail : ℕ) (reached : W)
        → ReadsAs wire limits (image_edge_list addr (length bytes))
        (image_edge_words addr (length bytes) head tail) s reached
        → FailsAs wire limits (image_load_list addr bytes head tail) reached t fault
        → LoadFails wire limits addr bytes s t fault
    fails_late Range fits head tail reached edges f = absurd f
    fails_late Memory fits head tail reached edges f =
        (fits, inr (record { head = head; tail = tail; reached = reached; edges = edges; writes = f }))
    fails_late (Stopped end) fits head tail reached edges f =
        (fits, inr (record { head = head; tail = tail; reached = reached; edges = edges; writes = f }))
    fails_late (FaultAt at) fits head tail reached edges f =
        (fits, inr (record { head = head; tail = tail; reached = reached; edges = edges; writes = f }))
    fails_late Report fits head tail reached edges f =
        (fits, inr (record { head = head; tail = tail; reached = reached; edges = edges; writes = f }))

-- Laws of beginnings of a plan, one transaction after the other.
use Rattle.std.proofs.Common.{◌≡◌, ℕ, ◌+◌, ◌-◌, ◌≤◌, Bool, true, false, not, ◌&&◌, ◌||◌, List, [], ◌∷◌, ◌++◌}
use Rattle.std.proofs.Common.{Option, Some, None, length, take, map, refl, sym, ap, ◌∙◌, subst, arith}
use Rattle.std.proofs.Common.{append_assoc, length-append, append-nil, if◌then◌else◌}
use Rattle.std.proofs.lemmas.List.{length-take-le, map-append}
use Rattle.swd_bits.specs.declared.request.Request.{Request}
use Rattle.swd_bits.specs.declared.request.Reg4.{Reg4}
use Rattle.swd_bits.specs.declared.request.Reg4.TheVariants.{R0, R4, R8, RC}
use Rattle.swd_dap.specs.declared.transfer.Transfer.{Transfer}
use Rattle.swd_dap.specs.declared.beginning.Filled.{Filled}
use Rattle.swd_dap.specs.Transfers.{dap_transfer_bytes, dap_all_bytes, dap_transfer_request, dap_made, dap_made_behind}
use Rattle.swd_dap.specs.Transfers.{dap_posts, dap_reads_dp, dap_rdbuff, dap_fetches, dap_hides, dap_shown}
use Rattle.swd_dap.specs.Transfers.{dap_requests_of, dap_reply_room, dap_has_word, dap_word_length, dap_words_length}
use Rattle.swd_dap.specs.Transfers.{dap_request_of, dap_drops_word, dap_posted_behind, DapFilledWith}
use Rattle.swd_dap.specs.Transfers.{IsDapBeginning}

-- the transaction at a place past the end of a list
abbrev pub dap_any_transfer : Transfer
dap_any_transfer = record { request = record { ap = false; read = false; addr = R0 }; word = 0 }

-- whether the last of these transactions is a read of the access port
abbrev pub dap_posts_after : Bool → List Transfer → Bool
dap_posts_after posts [] = posts
dap_posts_after posts (t ∷ ts) = dap_posts_after (dap_posts t.request) ts

-- what the probe makes of more requests, behind the last one of those before; none behind a read of RDBUFF that it made
-- by itself
abbrev pub dap_goes_on : Option Request → List Request → List Request
dap_goes_on None more = dap_made more
dap_goes_on (Some p) more = dap_made_behind p more

abbrev pub dap_last_posts : Option Request → Bool
dap_last_posts None = false
dap_last_posts (Some p) = dap_posts p

-- behind a read of RDBUFF that is no request, the first of more requests is no read of the access port
abbrev pub DapMayFollow : Bool → List Request → Type 0
DapMayFollow hides [] = Unit {0}
DapMayFollow hides (q ∷ more) = hides ≡ true → dap_posts q ≡ false

-- A packet of these transactions: so far the probe makes these and no other.
pub record DapGoesSoFar (ts : List Transfer) (size : ℕ) (padded posted : Bool) (f : Filled) : Type 0 where
  pub bytes : f.bytes ≡ length (dap_transfer_request (dap_requests_of false ts))
  pub fits : f.bytes ≤ size
  pub reply : f.reply ≡ 3 + dap_words_length false ts + dap_word_length f.posts
  pub replies : f.reply ≤ size
  pub at : f.posts ≡ dap_posts_after false ts
  pub apart : (f.posts && f.hides) ≡ false
  pub fetched : (f.posted && f.hides) ≡ false
  pub last : Option Request
  pub posts : f.posts ≡ dap_last_posts last
  pub makes : (more : List Request) → DapMayFollow f.hides more
      → dap_made (map dap_request_of (dap_requests_of false ts) ++ more)
      ≡ map dap_request_of ts ++ dap_goes_on last more
  pub drops : (more : List Request)
      → dap_drops_word posted false (map dap_request_of ts ++ more) ≡ dap_drops_word f.posted f.posts more
  pub tells : padded ≡ true → f.hides ≡ false → dap_requests_of false ts ≡ ts

-- THE REQUESTS AND WORDS OF ONE MORE TRANSACTION

dap_requests_more : (p : Bool) (ts : List Transfer) (t : Transfer)
    → dap_requests_of p (ts ++ t ∷ []) ≡ dap_requests_of p ts ++ dap_shown (dap_posts_after p ts) t
dap_requests_more p [] t = append-nil (dap_shown p t)
dap_requests_more p (u ∷ ts) t =
    ap (λ l. dap_shown p u ++ l) (dap_requests_more (dap_posts u.request) ts t)
    ∙ sym (append_assoc (dap_shown p u) (dap_requests_of (dap_posts u.request) ts)
    (dap_shown (dap_posts_after (dap_posts u.request) ts) t))

-- the requests of one more transaction
pub dap_requests_one_more : (ts : List Transfer) (t : Transfer) (posts : Bool) → posts ≡ dap_posts_after false ts
    → dap_requests_of false (ts ++ t ∷ []) ≡ dap_requests_of false ts ++ dap_shown posts t
dap_requests_one_more ts t posts e =
    dap_requests_more false ts t ∙ ap (λ p. dap_requests_of false ts ++ dap_shown p t) (sym e)

dap_words_more : (p : Bool) (ts : List Transfer) (t : Transfer)
    → dap_words_length p (ts ++ t ∷ [])
    ≡ dap_words_length p ts + dap_word_length (dap_has_word (dap_posts_after p ts) t.request)
dap_words_more p [] t = omega arith
dap_words_more p (u ∷ ts) t =
    let e = dap_words_more (dap_posts u.request) ts t in
    omega arith

-- and its words
pub dap_words_one_more : (ts : List Transfer) (t : Transfer) (posts : Bool) → posts ≡ dap_posts_after false ts
    → dap_words_length false (ts ++ t ∷ [])
    ≡ dap_words_length false ts + dap_word_length (dap_has_word posts t.request)
dap_words_one_more ts t posts e =
    dap_words_more false ts t
    ∙ ap (λ p. dap_words_length false ts + dap_word_length (dap_has_word p t.request)) (sym e)

dap_posts_more : (p : Bool) (ts : List Transfer) (t : Transfer)
    → dap_posts t.request ≡ dap_posts_after p (ts ++ t ∷ [])
dap_posts_more p [] t = refl
dap_posts_more p (u ∷ ts) t = dap_posts_more (dap_posts u.request) ts t

-- whether it is a read of the access port
pub dap_posts_one_more : (ts : List Transfer) (t : Transfer)
    → dap_posts t.request ≡ dap_posts_after false (ts ++ t ∷ [])
dap_posts_one_more ts t = dap_posts_more false ts t

dap_all_bytes_append : (ts us : List Transfer)
    → length (dap_all_bytes (ts ++ us)) ≡ length (dap_all_bytes ts) + length (dap_all_bytes us)
dap_all_bytes_append [] us = omega arith
dap_all_bytes_append (t ∷ ts) us =
    let e = dap_all_bytes_append ts us in
    let a = length-append (dap_transfer_bytes t) (dap_all_bytes (ts ++ us)) in
    let b = length-append (dap_transfer_bytes t) (dap_all_bytes ts) in
    omega arith

dap_request_append : (ts us : List Transfer)
    → length (dap_transfer_request (ts ++ us)) ≡ length (dap_transfer_request ts) + length (dap_all_bytes us)
dap_request_append ts us =
    let e = dap_all_bytes_append ts us in
    omega arith

dap_shown_few : (h : Bool) (t : Transfer) → length (if h then [] else t ∷ []) ≤ 1
dap_shown_few true t = omega arith
dap_shown_few false t = omega arith

dap_shown_count : (h : Bool) (t : Transfer) → length (if h then [] else t ∷ []) ≡ (if h then 0 else 1)
dap_shown_count true t = refl
dap_shown_count false t = refl

dap_shown_short : (p : Bool) (t : Transfer) → length (dap_shown p t) ≤ 1
dap_shown_short p t = dap_shown_few (dap_hides p t.request) t

-- there are no more requests than transactions
pub dap_requests_few : (p : Bool) (ts : List Transfer) → length (dap_requests_of p ts) ≤ length ts
dap_requests_few p [] = omega arith
dap_requests_few p (t ∷ ts) =
    let e = dap_requests_few (dap_posts t.request) ts in
    let a = length-append (dap_shown p t) (dap_requests_of (dap_posts t.request) ts) in
    let b = dap_shown_short p t in
    omega arith

-- how many requests there are up to a place, with one more transaction
pub dap_requests_up_to : (ts : List Transfer) (place : ℕ) (t : Transfer) (posts h : Bool)
    → posts ≡ dap_posts_after false (take place ts) → take (place + 1) ts ≡ take place ts ++ t ∷ []
    → dap_hides posts t.request ≡ h
    → length (dap_requests_of false (take (place + 1) ts))
    ≡ length (dap_requests_of false (take place ts)) + (if h then 0 else 1)
dap_requests_up_to ts place t posts h at more hides =
    ap (λ l. length (dap_requests_of false l)) more
    ∙ ap length (dap_requests_one_more (take place ts) t posts at)
    ∙ length-append (dap_requests_of false (take place ts)) (dap_shown posts t)
    ∙ ap (λ n. length (dap_requests_of false (take place ts)) + n)
    (dap_shown_count (dap_hides posts t.request) t ∙ ap (λ b. if b then 0 else 1) hides)

-- and how many bytes their words have
pub dap_words_up_to : (ts : List Transfer) (place : ℕ) (t : Transfer) (posts : Bool)
    → posts ≡ dap_posts_after false (take place ts) → take (place + 1) ts ≡ take place ts ++ t ∷ []
    → dap_words_length false (take (place + 1) ts)
    ≡ dap_words_length false (take place ts) + dap_word_length (dap_has_word posts t.request)
dap_words_up_to ts place t posts at more =
    ap (dap_words_length false) more ∙ dap_words_one_more (take place ts) t posts at

-- at most four each
pub dap_word_short : (has : Bool) → dap_word_length has ≤ 4
dap_word_short true = omega arith
dap_word_short false = omega arith

-- WHAT A TRANSACTION THAT MAY FOLLOW LEAVES OUT

-- a hidden read but itself
dap_admits_none_hidden : (hides posts posted padded b r : Bool) → (posts && hides) ≡ false
    → (if hides then not padded && not b else (if b then posts || not posted else not posts || r)) ≡ true
    → (posts && r) ≡ false → (posts && not b) ≡ false
dap_admits_none_hidden hides false posted padded b r a h n = refl
dap_admits_none_hidden true true posted padded b r a h n = cc
dap_admits_none_hidden false true posted padded true r a h n = refl
dap_admits_none_hidden false true posted padded false r a h n = cc

-- a read of the access port behind a hidden read
dap_admits_behind_hidden : (hides posts posted padded b r : Bool)
    → (if hides then not padded && not b else (if b then posts || not posted else not posts || r)) ≡ true
    → hides ≡ true → b ≡ false
dap_admits_behind_hidden hides posts posted padded false r h e = refl
dap_admits_behind_hidden true posts posted true true r h e = cc
dap_admits_behind_hidden true posts posted false true r h e = cc
dap_admits_behind_hidden false posts posted padded true r h e = cc

-- anything behind a hidden read, where replies are padded
dap_admits_padded : (hides posts posted padded b r : Bool)
    → (if hides then not padded && not b else (if b then posts || not posted else not posts || r)) ≡ true
    → padded ≡ true → hides ≡ false
dap_admits_padded false posts posted padded b r h e = refl
dap_admits_padded true posts posted true b r h e = cc
dap_admits_padded true posts posted false b r h e = cc

-- a word that is dropped
dap_admits_none_dropped : (hides posts posted padded b r : Bool) → (posted && hides) ≡ false
    → (if hides then not padded && not b else (if b then posts || not posted else not posts || r)) ≡ true
    → (posted && not posts && b) ≡ false
dap_admits_none_dropped hides posts false padded b r f h = refl
dap_admits_none_dropped hides true true padded b r f h = refl
dap_admits_none_dropped hides false true padded false r f h = refl
dap_admits_none_dropped true false true padded true r f h = cc
dap_admits_none_dropped false false true padded true r f h = cc

-- what may follow a read of the access port
dap_admits_behind_posting : (hides posts posted padded b r : Bool) → (posts && hides) ≡ false
    → (if hides then not padded && not b else (if b then posts || not posted else not posts || r)) ≡ true
    → posts ≡ true → (b || r) ≡ true
dap_admits_behind_posting hides false posted padded b r a h e = cc
dap_admits_behind_posting true true posted padded b r a h e = cc
dap_admits_behind_posting false true posted padded true r a h e = refl
dap_admits_behind_posting false true posted padded false r a h e = h

-- the room for its word, in the reply
dap_reply_more : (posts a r x : Bool) → (posts ≡ true → ((a && r) || ((not a && r) && x)) ≡ true)
    → dap_word_length posts + (if r && not (posts && ((not a && r) && x)) then 4 else 0)
    ≡ dap_word_length (posts || (not a && r)) + dap_word_length (a && r)
dap_reply_more false true false x h = refl
dap_reply_more false false false x h = refl
dap_reply_more false true true x h = refl
dap_reply_more false false true x h = refl
dap_reply_more true true true x h = refl
dap_reply_more true false true true h = refl
dap_reply_more true false true false h = let no : false ≡ true = h refl in absurd (cc)
dap_reply_more true true false x h = let no : false ≡ true = h refl in absurd (cc)
dap_reply_more true false false x h = let no : false ≡ true = h refl in absurd (cc)

dap_is_rdbuff : (a r : Bool) (x : Reg4) → (not a && r && dap_fetches x) ≡ true
    → ◌≡◌ {A = Request} (record { ap = a; read = r; addr = x }) dap_rdbuff
dap_is_rdbuff true r x h = cc
dap_is_rdbuff false false x h = cc
dap_is_rdbuff false true RC h = refl
dap_is_rdbuff false true R0 h = cc
dap_is_rdbuff false true R4 h = cc
dap_is_rdbuff false true R8 h = cc

dap_and_first : (a b : Bool) → (a && b) ≡ true → a ≡ true
dap_and_first true b h = refl
dap_and_first false b h = cc

dap_and_second : (a b : Bool) → (a && b) ≡ true → b ≡ true
dap_and_second true b h = h
dap_and_second false b h = cc

dap_posts_no_dp : (a r : Bool) → (a && r) ≡ true → (not a && r) ≡ false
dap_posts_no_dp true r h = refl
dap_posts_no_dp false r h = cc

dap_dp_posts_not : (a r : Bool) → (not a && r) ≡ true → (a && r) ≡ false
dap_dp_posts_not true r h = cc
dap_dp_posts_not false r h = refl

-- WHAT THE PROBE MAKES OF ONE MORE REQUEST

dap_none_between : (p : Option Request) (q : Request) (more : List Request)
    → (dap_last_posts p && not (dap_posts q)) ≡ false → dap_goes_on p (q ∷ more) ≡ q ∷ dap_made_behind q more
dap_none_between None q more h = refl
dap_none_between (Some p) q more h =
    ap (λ b. (if b then dap_rdbuff ∷ [] else []) ++ q ∷ dap_made_behind q more) h

-- behind a read of the access port it reads RDBUFF first
dap_behind_posting : (last : Option Request) (more : List Request) → dap_last_posts last ≡ true
    → DapMayFollow true more → dap_goes_on last more ≡ dap_rdbuff ∷ dap_made more
dap_behind_posting None more h m = cc
dap_behind_posting (Some p) [] h m = ap (λ b. if b then [] else dap_rdbuff ∷ []) (dap_posts_no_dp p.ap p.read h)
dap_behind_posting (Some p) (q ∷ more) h m =
    ap (λ b. (if b then dap_rdbuff ∷ [] else []) ++ q ∷ dap_made_behind q more)
    (ap (λ b. b && not (dap_posts q)) h ∙ ap not (m refl))

dap_made_with : (h : Bool) (last : Option Request) (q : Request) (more : List Request)
    → (h ≡ true → dap_last_posts last ≡ true) → (h ≡ true → q ≡ dap_rdbuff)
    → (h ≡ false → (dap_last_posts last && not (dap_posts q)) ≡ false) → DapMayFollow h more
    → dap_goes_on last (if h then more else q ∷ more) ≡ q ∷ dap_goes_on (if h then None else Some q) more
dap_made_with true last q more posts is none m =
    dap_behind_posting last more (posts refl) m ∙ ap (λ r. r ∷ dap_made more) (sym (is refl))
dap_made_with false last q more posts is none m = dap_none_between last q more (none refl)

dap_requests_with : (h : Bool) (ts : List Transfer) (t : Transfer) (more : List Request)
    → map dap_request_of (ts ++ (if h then [] else t ∷ [])) ++ more
    ≡ map dap_request_of ts ++ (if h then more else t.request ∷ more)
dap_requests_with true ts t more = ap (λ l. map dap_request_of l ++ more) (append-nil ts)
dap_requests_with false ts t more =
    ap (λ l. l ++ more) (map-append dap_request_of ts (t ∷ []))
    ∙ append_assoc (map dap_request_of ts) (t.request ∷ []) more

dap_may_follow : (h hides : Bool) (q : Request) (more : List Request) → (h ≡ true → hides ≡ false)
    → (hides ≡ true → dap_posts q ≡ false) → DapMayFollow hides (if h then more else q ∷ more)
dap_may_follow true hides q [] n p = tt
dap_may_follow true true q (r ∷ more) n p = let no : true ≡ false = n refl in absurd (cc)
dap_may_follow true false q (r ∷ more) n p = λ e. cc
dap_may_follow false hides q more n p = p

dap_not_both : (a b : Bool) → (a && b) ≡ false → a ≡ true → b ≡ false
dap_not_both true b h e = h
dap_not_both false b h e = cc

-- the last request, where a transaction was hidden or not
abbrev dap_last_with : Bool → Request → Option Request
dap_last_with h q = if h then None else Some q

dap_append_one : (xs ys : List Request) (q : Request) → xs ++ q ∷ ys ≡ (xs ++ q ∷ []) ++ ys
dap_append_one xs ys q = sym (append_assoc xs (q ∷ []) ys)

dap_makes_more : (ts : List Transfer) (t : Transfer) (size : ℕ) (padded posted : Bool) (f g : Filled)
    → DapGoesSoFar ts size padded posted f → DapFilledWith padded f t size g → (more : List Request)
    → DapMayFollow (dap_hides f.posts t.request) more
    → dap_made (map dap_request_of (dap_requests_of false (ts ++ t ∷ [])) ++ more)
    ≡ map dap_request_of (ts ++ t ∷ []) ++ dap_goes_on (dap_last_with (dap_hides f.posts t.request) t.request) more
dap_makes_more ts t size padded posted f g s w more m =
    let q = t.request in
    let h = dap_hides f.posts q in
    let rdbuff = dap_reads_dp q && dap_fetches q.addr in
    let made = map dap_request_of ts in
    let none = λ (n : h ≡ false). subst (λ b. (b && not (dap_posts q)) ≡ false) s.posts
    (dap_admits_none_hidden f.hides f.posts f.posted padded (dap_posts q) rdbuff s.apart w.admits n) in
    let may = dap_may_follow h f.hides q more
    (λ n. dap_not_both f.posts f.hides s.apart (dap_and_first f.posts rdbuff n))
    (dap_admits_behind_hidden f.hides f.posts f.posted padded (dap_posts q) rdbuff w.admits) in
    ap (λ l. dap_made (map dap_request_of l ++ more)) (dap_requests_one_more ts t f.posts s.at)
    ∙ ap dap_made (dap_requests_with h (dap_requests_of false ts) t more)
    ∙ s.makes (if h then more else q ∷ more) may
    ∙ ap (λ l. made ++ l)
    (dap_made_with h s.last q more (λ n. sym s.posts ∙ dap_and_first f.posts rdbuff n)
    (λ n. dap_is_rdbuff q.ap q.read q.addr (dap_and_second f.posts rdbuff n)) none m)
    ∙ dap_append_one made (dap_goes_on (dap_last_with h q) more) q
    ∙ ap (λ l. l ++ dap_goes_on (dap_last_with h q) more) (sym (map-append dap_request_of ts (t ∷ [])))

-- ONE MORE TRANSACTION

dap_and_false : (a : Bool) → (a && false) ≡ false
dap_and_false true = refl
dap_and_false false = refl

dap_hidden_apart : (p a r x : Bool) → ((a && r) && (p && ((not a && r) && x))) ≡ false
dap_hidden_apart p false r x = refl
dap_hidden_apart p true false x = refl
dap_hidden_apart true true true x = refl
dap_hidden_apart false true true x = refl

dap_hidden_fetched : (p posted a r x : Bool)
    → ((if a then r else posted && not (r && x)) && (p && ((not a && r) && x))) ≡ false
dap_hidden_fetched false posted a r x = dap_and_false (if a then r else posted && not (r && x))
dap_hidden_fetched true posted true r x = dap_and_false r
dap_hidden_fetched true posted false false x = dap_and_false (posted && not (false && x))
dap_hidden_fetched true posted false true false = dap_and_false (posted && not (true && false))
dap_hidden_fetched true true false true true = refl
dap_hidden_fetched true false false true true = refl

dap_last_posts_with : (h : Bool) (q : Request) → (h ≡ true → dap_posts q ≡ false)
    → dap_posts q ≡ dap_last_posts (dap_last_with h q)
dap_last_posts_with true q n = n refl
dap_last_posts_with false q n = refl

dap_tells_more : (h : Bool) (ts us : List Transfer) (t : Transfer) → us ≡ ts → h ≡ false
    → us ++ (if h then [] else t ∷ []) ≡ ts ++ t ∷ []
dap_tells_more true ts us t e n = cc
dap_tells_more false ts us t e n = ap (λ l. l ++ t ∷ []) e

-- one more transaction
pub dap_one_more : (ts : List Transfer) (t : Transfer) (size : ℕ) (padded posted : Bool) (f g : Filled)
    → DapGoesSoFar ts size padded posted f → DapFilledWith padded f t size g
    → DapGoesSoFar (ts ++ t ∷ []) size padded posted g
dap_one_more ts t size padded posted f g s w =
    let q = t.request in
    let h = dap_hides f.posts q in
    let rdbuff = dap_reads_dp q && dap_fetches q.addr in
    let made = map dap_request_of ts in
    let kept = dap_admits_none_dropped f.hides f.posts f.posted padded (dap_posts q) rdbuff s.fetched w.admits in
    let shown = dap_requests_one_more ts t f.posts s.at in
    let words = dap_words_one_more ts t f.posts s.at in
    let room : dap_word_length f.posts + dap_reply_room f.posts t.request
    ≡ dap_word_length (dap_has_word f.posts t.request) + dap_word_length (dap_posts t.request)
    = dap_reply_more f.posts q.ap q.read (dap_fetches q.addr)
    (dap_admits_behind_posting f.hides f.posts f.posted padded (dap_posts q) rdbuff s.apart w.admits) in
    let waits = ap dap_word_length w.posts in
    record {
      bytes = w.bytes ∙ ap (λ n. n + length (dap_all_bytes (dap_shown f.posts t))) s.bytes
          ∙ sym (dap_request_append (dap_requests_of false ts) (dap_shown f.posts t))
          ∙ ap (λ l. length (dap_transfer_request l)) (sym shown);
      fits = w.fits;
      reply = omega (arith, w.reply, s.reply, words, room, waits);
      replies = w.replies;
      at = w.posts ∙ dap_posts_one_more ts t;
      apart = ap (λ b. b && g.hides) w.posts ∙ ap (λ b. dap_posts q && b) w.hides
          ∙ dap_hidden_apart f.posts q.ap q.read (dap_fetches q.addr);
      fetched = ap (λ b. b && g.hides) w.posted ∙ ap (λ b. dap_posted_behind f.posted q && b) w.hides
          ∙ dap_hidden_fetched f.posts f.posted q.ap q.read (dap_fetches q.addr);
      last = dap_last_with h q;
      posts = w.posts ∙ dap_last_posts_with h q
          (λ n. dap_dp_posts_not q.ap q.read
          (dap_and_first (dap_reads_dp q) (dap_fetches q.addr) (dap_and_second f.posts rdbuff n)));
      makes = λ more m. dap_makes_more ts t size padded posted f g s w more
          (subst (λ b. DapMayFollow b more) w.hides m);
      drops = λ more. subst (λ l. dap_drops_word posted false (l ++ more) ≡ dap_drops_word g.posted g.posts more)
          (sym (map-append dap_request_of ts (t ∷ [])))
          (ap (dap_drops_word posted false) (append_assoc made (q ∷ []) more) ∙ s.drops (q ∷ more)
          ∙ ap (λ b. b || dap_drops_word (dap_posted_behind f.posted q) (dap_posts q) more) kept
          ∙ ap (λ b. dap_drops_word b (dap_posts q) more) (sym w.posted)
          ∙ ap (λ b. dap_drops_word g.posted b more) (sym w.posts));
      tells = λ p n. shown ∙ dap_tells_more h ts (dap_requests_of false ts) t
          (s.tells p (dap_admits_padded f.hides f.posts f.posted padded (dap_posts q) rdbuff w.admits p))
          (sym w.hides ∙ n);
    }

dap_ends_with : (h : Bool) (q : Request) → dap_reads_dp q ≡ true → dap_goes_on (dap_last_with h q) [] ≡ []
dap_ends_with true q e = refl
dap_ends_with false q e = ap (λ b. if b then [] else dap_rdbuff ∷ []) e

dap_may_end : (h : Bool) → DapMayFollow h []
dap_may_end h = tt

-- a packet may end behind a read of the debug port
pub dap_ends_behind_read : (plan ts : List Transfer) (t : Transfer) (n size : ℕ) (padded posted : Bool) (f g : Filled)
    → DapGoesSoFar ts size padded posted f → DapFilledWith padded f t size g → dap_reads_dp t.request ≡ true
    → take n plan ≡ ts ++ t ∷ [] → take (n - 1) plan ≡ ts → n ≤ length plan → n ≤ 255
    → IsDapBeginning plan size padded posted n
dap_ends_behind_read plan ts t n size padded posted f g s w e all before within few =
    let q = t.request in
    let h = dap_hides f.posts q in
    let rdbuff = dap_reads_dp q && dap_fetches q.addr in
    let more = dap_one_more ts t size padded posted f g s w in
    let made = map dap_request_of (ts ++ t ∷ []) in
    let reqs = dap_requests_of false (ts ++ t ∷ []) in
    let none = dap_requests_few false (take n plan) in
    let long = length-take-le n plan within in
    record {
      planned = within;
      few = omega arith;
      fits = subst (λ l. length (dap_transfer_request (dap_requests_of false l)) ≤ size) (sym all)
          (subst (λ k. k ≤ size) more.bytes w.fits);
      replies = subst (λ l. 3 + dap_words_length false l ≤ size) (sym all)
          (omega (arith, more.reply, more.replies));
      exact = subst (λ l. dap_made (map dap_request_of (dap_requests_of false l)) ≡ map dap_request_of l) (sym all)
          (ap dap_made (sym (append-nil (map dap_request_of reqs)))
          ∙ dap_makes_more ts t size padded posted f g s w [] (dap_may_end h)
          ∙ ap (λ l. made ++ l) (dap_ends_with h q e) ∙ append-nil made);
      keeps = subst (λ l. dap_drops_word posted false (map dap_request_of l) ≡ false) (sym all)
          (ap (dap_drops_word posted false) (sym (append-nil made)) ∙ more.drops []);
      tells = λ p. subst (λ l. dap_requests_of false l ≡ l) (sym before)
          (s.tells p (dap_admits_padded f.hides f.posts f.posted padded (dap_posts q) rdbuff w.admits p));
    }

-- Two texts that are equal up to a token at one place and equal behind another token: the same words stand before, and the same behind.
use mathlib.Core.Path.{◌≡◌, refl, sym, ap, ◌∙◌, subst}
use Prim.Native.Nat.{ℕ, zero, suc, ◌+◌, ◌≤◌, ◌<◌}
use native.Mathlib.Omega.{arith}
use mathlib.Core.Bool.{Bool, true, false, ◌&&◌}
use mathlib.Core.List.{List, [], ◌∷◌, ◌++◌}
use lib.ListN.{length, take, drop}
use lib.Seq.{drop-drop}
use lib.Dec.{eqb}
use Rattle.tokens.specs.Written.{bytes, same, starts, cases}
use Rattle.tokens.specs.Bytes.{allowed, blank, wordy}
use Rattle.tokens.specs.Tokens.{Tok, Toks, stop, tok, Mode, plain, inword, line, closing, opened, block, Act, go, token, bad, run, outside, in_mode, act, ended, done, lex, toks}
use Rattle.tokens.proofs.Allowed.{wordy_allowed}
use Rattle.tokens.proofs.Reading.{word_does}
use Rattle.tokens.proofs.Stream.{in_word, behind_word, Ahead, First, first_of}
use Rattle.tokens.proofs.Laws.{unfolds}
use Rattle.meaning.specs.Reader.{is_word}
use Rattle.meaning.specs.Document.{over}
use Rattle.meaning.specs.Edited.{from_token, from_brace}
use Rattle.meaning.proofs.Alike.{Border, Like}

-- a stream that has stopped has no token
none_stopped : {n p : ℕ} {t : Tok} {ts : Toks} → stop n p ≡ tok t ts → ⊥
none_stopped e = let z : ◌≡◌ {A = ℕ} 0 1 = cc in omega arith

none_ended : (m : Mode) (p : ℕ) {t : Tok} {ts : Toks} → ended m p ≡ tok t ts → ⊥
unfolding ended
none_ended plain p e = none_stopped e
none_ended inword p e = none_stopped e
none_ended line p e = none_stopped e
none_ended closing p e = none_stopped e
none_ended (opened q) p e = none_stopped e
none_ended (block q) p e = none_stopped e

-- ---- a token begins where it stands: reading from its place on gives it too

no_token : {m n : Mode} {w : List ℕ} → go m ≡ token w n → ⊥
no_token e = let z : ◌≡◌ {A = ℕ} 0 1 = cc in omega arith

-- in a comment none begins
comment_token : (c d : Bool) (m n o : Mode) (w : List ℕ) → cases ((c, cases ((d, go m) ∷ []) (go n)) ∷ []) bad ≡ token w o → ⊥
unfolding cases
comment_token true true m n o w e = no_token e
comment_token true false m n o w e = no_token e
comment_token false d m n o w e = let z : ◌≡◌ {A = ℕ} 0 1 = cc in omega arith

plain_token : (m : Mode) (p b : ℕ) (s w : List ℕ) (n : Mode) → act m p b s ≡ token w n → act plain p b s ≡ token w n
unfolding act in_mode cases
plain_token plain p b s w n e = e
plain_token inword p b s w n e = by (wordy b) refl
  where
    by : (c : Bool) → wordy b ≡ c → act plain p b s ≡ token w n
    by true q = absurd (no_token (sym (in_word p b s q) ∙ e))
    by false q = sym (behind_word p b s q) ∙ e
plain_token line p b s w n e = absurd (comment_token (allowed b) (eqb b 10) plain line n w e)
plain_token closing p b s w n e = absurd (comment_token (allowed b) true plain plain n w e)
plain_token (opened q) p b s w n e = absurd (comment_token (allowed b) true (block q) plain n w e)
plain_token (block q) p b s w n e = absurd (comment_token (allowed b) (eqb b 42 && starts 47 s) closing (block q) n w e)

record There (p : ℕ) (s : List ℕ) (t : Tok) (ts : Toks) : Type 0 where
  pub skip : ℕ
  pub place : t.at ≡ p + skip
  pub again : lex plain t.at (drop skip s) ≡ tok t ts

there : (m : Mode) (p : ℕ) (s : List ℕ) (t : Tok) (ts : Toks) → lex m p s ≡ tok t ts → There p s t ts
unfolding lex done
there m p [] t ts e = absurd (none_ended m p e)
there m p (b ∷ s) t ts e = by (act m p b s) refl e (λ n. there n (suc p) s t ts)
  where
    by : (a : Act) → act m p b s ≡ a → done a p (λ m'. lex m' (suc p) s) ≡ tok t ts → ((n : Mode) → lex n (suc p) s ≡ tok t ts → There (suc p) s t ts) → There p (b ∷ s) t ts
    by (go n) q e ih = let x = ih n e in record { skip = suc x.skip; place = omega (arith, x.place); again = x.again }
    by bad q e ih = absurd (none_stopped e)
    by (token w n) q e ih =
        let i : record { at = p; word = w } ≡ t = cc in
        let j : p ≡ t.at = ap (λ (x : Tok). x.at) i in
        let k : lex plain p (b ∷ s) ≡ tok t ts = ap (λ (a : Act). done a p (λ m'. lex m' (suc p) s)) (plain_token m p b s w n q) ∙ e in
        record { skip = 0; place = omega arith; again = subst (λ (x : ℕ). lex plain x (b ∷ s) ≡ tok t ts) j k }

-- ---- the streams of a text from its places

pub record Stands (text : List ℕ) (ts : Toks) : Type 0 where
  pub at : ℕ
  pub is : ts ≡ toks text at

stands_behind : (text : List ℕ) (t : Tok) (ts : Toks) → Stands text (tok t ts) → ts ≡ toks text (t.at + length t.word)
stands_behind text t ts h = (unfolds text h.at t ts (sym h.is)).rest

pub stands_on : (text : List ℕ) (t : Tok) (ts : Toks) → Stands text (tok t ts) → Stands text ts
stands_on text t ts h = record { at = t.at + length t.word; is = stands_behind text t ts h }

pub stands_there : (text : List ℕ) (t : Tok) (ts : Toks) → Stands text (tok t ts) → toks text t.at ≡ tok t ts
unfolding toks
stands_there text t ts h =
    let x = there plain h.at (drop h.at text) t ts (sym h.is) in
    ap (lex plain t.at) (ap (λ (n : ℕ). drop n text) x.place ∙ sym (drop-drop x.skip h.at text)) ∙ x.again

pub stands_token : (text : List ℕ) (k : ℕ) (ts : Toks) → Stands text ts → Stands text (from_token k ts)
unfolding from_token
stands_token text zero ts h = h
stands_token text (suc k) (stop n p) h = h
stands_token text (suc k) (tok t ts) h = stands_token text k ts (stands_on text t ts h)

stands_brace : (text : List ℕ) (d : ℕ) (ts : Toks) → Stands text ts → Stands text (from_brace d ts)
unfolding from_brace
stands_brace text d (stop n p) h = h
stands_brace text d (tok t ts) h = by (same t.word (bytes "{")) (same t.word (bytes "}")) d (λ d. stands_brace text d ts (stands_on text t ts h))
  where
    by : (p q : Bool) (d : ℕ) → ((d : ℕ) → Stands text (from_brace d ts))
        → Stands text (elim p [ true ↦ from_brace (suc d) ts | false ↦ elim q [ true ↦ elim d as (λ n. Toks) [ zero ↦ tok t ts | suc e ↦ from_brace e ts ] | false ↦ from_brace d ts ] ])
    by true q d ih = ih (suc d)
    by false false d ih = ih d
    by false true zero ih = h
    by false true (suc d) ih = ih d

-- behind the matching brace the text is read from the brace's end on
pub behind_matching : (text : List ℕ) (ts : Toks) → Stands text ts → (x : Tok) (us : Toks) → from_brace 0 ts ≡ tok x us → x.word ≡ bytes "}" → us ≡ toks text (x.at + 1)
unfolding bytes
behind_matching text ts h x us e f =
    stands_behind text x us (subst (Stands text) e (stands_brace text 0 ts h)) ∙ ap (λ (w : List ℕ). toks text (x.at + length w)) f

-- ---- a word is the longest run there

first_byte : (w : List ℕ) (b : ℕ) (s : List ℕ) → w ≡ take (length w) (b ∷ s) → is_word w ≡ true → wordy b ≡ true
unfolding is_word
first_byte [] b s e h = let z : ◌≡◌ {A = ℕ} 0 1 = cc in absurd (omega arith)
first_byte (c ∷ w) b s e h = let q : c ≡ b = cc in ap wordy (sym q) ∙ h

pub word_run : (p : ℕ) (s : List ℕ) (t : Tok) (ts : Toks) → lex plain p s ≡ tok t ts → t.at ≡ p → is_word t.word ≡ true → run s ≡ t.word
unfolding lex ended done run
word_run p [] t ts e q h = absurd (none_stopped e)
word_run p (b ∷ s) t ts e q h =
    let x : Ahead p (b ∷ s) t ts = subst (First p (b ∷ s)) e (first_of plain p (b ∷ s)) in
    let z : x.skip ≡ 0 = omega (arith, x.place) in
    let k : wordy b ≡ true = first_byte t.word b s (x.begins.bytes ∙ ap (λ (n : ℕ). take (length t.word) (drop n (b ∷ s))) z) h in
    let i : tok (record { at = p; word = b ∷ run s }) (lex inword (suc p) s) ≡ tok t ts =
    sym (ap (λ (a : Act). done a p (λ m'. lex m' (suc p) s)) (word_does p b s (wordy_allowed b k) k)) ∙ e in
    let j : record { at = p; word = b ∷ run s } ≡ t = cc in
    rw (k, run) (ap (λ (u : Tok). u.word) j)

-- ---- the front: the same bytes up to a word

-- what a byte does, by the run and the byte behind it
module _ (s u : List ℕ) (r : run s ≡ run u) (i : starts 47 s ≡ starts 47 u) (j : starts 42 s ≡ starts 42 u) where
  same_act : (m : Mode) (p b : ℕ) → act m p b s ≡ act m p b u
  unfolding act in_mode outside
  same_act plain p b = rw (r, i, j)
  same_act inword p b = rw (r, i, j)
  same_act line p b = refl
  same_act closing p b = refl
  same_act (opened q) p b = refl
  same_act (block q) p b = rw i

  same_run : (f : List ℕ) → run (f ++ s) ≡ run (f ++ u)
  unfolding run
  same_run [] = r
  same_run (b ∷ f) = ap (λ (l : List ℕ). elim (wordy b) as (λ c. List ℕ) [ true ↦ b ∷ l | false ↦ [] ]) (same_run f)

  same_starts : (c : ℕ) → starts c s ≡ starts c u → (f : List ℕ) → starts c (f ++ s) ≡ starts c (f ++ u)
  unfolding starts
  same_starts c h [] = h
  same_starts c h (b ∷ f) = refl

-- tokens stand one behind the other
no_from : (k n p : ℕ) {t : Tok} {ts : Toks} → from_token k (stop n p) ≡ tok t ts → ⊥
unfolding from_token
no_from zero n p e = none_stopped e
no_from (suc k) n p e = none_stopped e

no_from_ended : (k : ℕ) (m : Mode) (p : ℕ) {t : Tok} {ts : Toks} → from_token k (ended m p) ≡ tok t ts → ⊥
unfolding ended
no_from_ended k plain p e = no_from k _ _ e
no_from_ended k inword p e = no_from k _ _ e
no_from_ended k line p e = no_from k _ _ e
no_from_ended k closing p e = no_from k _ _ e
no_from_ended k (opened q) p e = no_from k _ _ e
no_from_ended k (block q) p e = no_from k _ _ e

places : (k : ℕ) (m : Mode) (p : ℕ) (s : List ℕ) (w : Tok) (r : Toks) → from_token k (lex m p s) ≡ tok w r → p ≤ w.at
unfolding lex done from_token
places k m p [] w r e = absurd (no_from_ended k m p e)
places k m p (b ∷ s) w r e = by k (act m p b s) e (λ k n. places k n (suc p) s w r)
  where
    by : (k : ℕ) (a : Act) → from_token k (done a p (λ m'. lex m' (suc p) s)) ≡ tok w r → ((k : ℕ) (n : Mode) → from_token k (lex n (suc p) s) ≡ tok w r → suc p ≤ w.at) → p ≤ w.at
    by k (go n) e ih = omega (arith, ih k n e)
    by k bad e ih = absurd (no_from k _ _ e)
    by zero (token v n) e ih = let i : record { at = p; word = v } ≡ w = cc in let j : p ≡ w.at = ap (λ (x : Tok). x.at) i in omega arith
    by (suc k) (token v n) e ih = omega (arith, ih k n e)

later : (k : ℕ) (m : Mode) (p : ℕ) (s : List ℕ) (w : Tok) (r : Toks) → from_token (suc k) (lex m p s) ≡ tok w r → p < w.at
unfolding lex done from_token
later k m p [] w r e = absurd (no_from_ended (suc k) m p e)
later k m p (b ∷ s) w r e = by (act m p b s) e (λ n. later k n (suc p) s w r)
  where
    by : (a : Act) → from_token (suc k) (done a p (λ m'. lex m' (suc p) s)) ≡ tok w r → ((n : Mode) → from_token (suc k) (lex n (suc p) s) ≡ tok w r → suc p < w.at) → p < w.at
    by (go n) e ih = omega (arith, ih n e)
    by bad e ih = absurd (no_from (suc k) _ _ e)
    by (token v n) e ih = places k n (suc p) s w r e

module _ (B : Border) (w v : Tok) (r q : Toks) (is_first : B.first ≡ tok w r) (is-second : B.second ≡ tok v q) (s u : List ℕ)
    (h : run s ≡ run u) (i : starts 47 s ≡ starts 47 u) (j : starts 42 s ≡ starts 42 u) where
  -- THE LAW: up to two words that stand behind the same bytes, the same words stand
  pub same_front : (f : List ℕ) (m : Mode) (p k l : ℕ) → from_token k (lex m p (f ++ s)) ≡ tok w r → from_token l (lex m p (f ++ u)) ≡ tok v q
      → w.at ≡ p + length f → v.at ≡ p + length f → (n : ℕ) × Like B n (lex m p (f ++ s)) (lex m p (f ++ u))
  unfolding lex done from_token
  same_front [] m p zero zero e d x y = (0, (e ∙ sym is_first, d ∙ sym is-second))
  same_front [] m p (suc k) l e d x y = let z = later k m p s w r e in absurd (omega arith)
  same_front [] m p zero (suc l) e d x y = let z = later l m p u v q d in absurd (omega arith)
  same_front (b ∷ f) m p k l e d x y =
      let c : act m p b (f ++ u) ≡ act m p b (f ++ s) =
      sym (same_act (f ++ s) (f ++ u) (same_run s u h i j f) (same_starts s u h i j 47 i f) (same_starts s u h i j 42 j f) m p b) in
      rw c (by k l (act m p b (f ++ s)) e (subst (λ (a : Act). from_token l (done a p (λ m'. lex m' (suc p) (f ++ u))) ≡ tok v q) c d)
      λ k l n e d. same_front f n (suc p) k l e d (omega arith) (omega arith))
    where
      by : (k l : ℕ) (a : Act) → from_token k (done a p (λ m'. lex m' (suc p) (f ++ s))) ≡ tok w r → from_token l (done a p (λ m'. lex m' (suc p) (f ++ u))) ≡ tok v q
          → ((k l : ℕ) (o : Mode) → from_token k (lex o (suc p) (f ++ s)) ≡ tok w r → from_token l (lex o (suc p) (f ++ u)) ≡ tok v q
          → (n : ℕ) × Like B n (lex o (suc p) (f ++ s)) (lex o (suc p) (f ++ u)))
          → (n : ℕ) × Like B n (done a p (λ m'. lex m' (suc p) (f ++ s))) (done a p (λ m'. lex m' (suc p) (f ++ u)))
      by k l (go o) e d ih = ih k l o e d
      by k l bad e d ih = absurd (no_from k _ _ e)
      by zero l (token z o) e d ih = let i : record { at = p; word = z } ≡ w = cc in let j : p ≡ w.at = ap (λ (x : Tok). x.at) i in absurd (omega arith)
      by (suc k) zero (token z o) e d ih = let i : record { at = p; word = z } ≡ v = cc in let j : p ≡ v.at = ap (λ (x : Tok). x.at) i in absurd (omega arith)
      by (suc k) (suc l) (token z o) e d ih = let x = ih k l o e d in (suc x.0, (refl, x.1))

-- ---- the back: the same bytes from two places on

data TwinModes : Mode → Mode → Type 0 where
  both_plain : TwinModes plain plain
  both_inword : TwinModes inword inword
  both_line : TwinModes line line
  both_closing : TwinModes closing closing
  both_opened : {p q : ℕ} → TwinModes (opened p) (opened q)
  both_block : {p q : ℕ} → TwinModes (block p) (block q)

data TwinActs : Act → Act → Type 0 where
  both_go : {m n : Mode} → TwinModes m n → TwinActs (go m) (go n)
  both_token : {w : List ℕ} {m n : Mode} → TwinModes m n → TwinActs (token w m) (token w n)
  both_bad : TwinActs bad bad

twin_cases : (c : Bool) {a b x y : Act} → TwinActs a b → TwinActs x y → TwinActs (cases ((c, a) ∷ []) x) (cases ((c, b) ∷ []) y)
unfolding cases
twin_cases true h k = h
twin_cases false h k = k

twin_outside : (w : Bool) (p q b : ℕ) (s : List ℕ) → TwinActs (outside w p b s) (outside w q b s)
unfolding outside cases
twin_outside w p q b s =
    twin_cases (wordy b && w) (both_go both_inword) (twin_cases (wordy b) (both_token both_inword) (twin_cases (blank b) (both_go both_plain)
    (twin_cases (eqb b 47 && starts 47 s) (both_go both_line) (twin_cases (eqb b 47 && starts 42 s) (both_go both_opened) (both_token both_plain)))))

twin_act : (p q b : ℕ) (s : List ℕ) (m n : Mode) → TwinModes m n → TwinActs (act m p b s) (act n q b s)
unfolding act in_mode
twin_act p q b s m n both_plain = twin_cases (allowed b) (twin_outside false p q b s) both_bad
twin_act p q b s m n both_inword = twin_cases (allowed b) (twin_outside true p q b s) both_bad
twin_act p q b s m n both_line = twin_cases (allowed b) (twin_cases (eqb b 10) (both_go both_plain) (both_go both_line)) both_bad
twin_act p q b s m n both_closing = twin_cases (allowed b) (both_go both_plain) both_bad
twin_act p q b s m n both_opened = twin_cases (allowed b) (both_go both_block) both_bad
twin_act p q b s m n both_block = twin_cases (allowed b) (twin_cases (eqb b 42 && starts 47 s) (both_go both_closing) (both_go both_block)) both_bad

-- two streams with the same words to their ends
pub record SameToEnd (ts us : Toks) : Type 0 where
  pub border : Border
  pub ended : over border.first ≡ true
  pub count : ℕ
  pub like : Like border count ts us

stopped : (n p m q : ℕ) → SameToEnd (stop n p) (stop m q)
unfolding over
stopped n p m q = record {
  border = record { first = stop n p; second = stop m q; at_first = tt; at_second = tt; level = refl };
  ended = refl;
  count = 0;
  like = (refl, refl);
}

one_more_lem : {t u : Tok} {ts us : Toks} → t.word ≡ u.word → SameToEnd ts us → SameToEnd (tok t ts) (tok u us)
one_more_lem e h = record { border = h.border; ended = h.ended; count = suc h.count; like = (e, h.like) }

twin_ended : (p q : ℕ) (m n : Mode) → TwinModes m n → SameToEnd (ended m p) (ended n q)
unfolding ended
twin_ended p q m n both_plain = stopped _ _ _ _
twin_ended p q m n both_inword = stopped _ _ _ _
twin_ended p q m n both_line = stopped _ _ _ _
twin_ended p q m n both_closing = stopped _ _ _ _
twin_ended p q m n both_opened = stopped _ _ _ _
twin_ended p q m n both_block = stopped _ _ _ _

same_lex : (s : List ℕ) (p q : ℕ) (m n : Mode) → TwinModes m n → SameToEnd (lex m p s) (lex n q s)
unfolding lex done
same_lex [] p q m n h = twin_ended p q m n h
same_lex (b ∷ s) p q m n h = by (twin_act p q b s m n h) (λ m n. same_lex s (suc p) (suc q) m n)
  where
    by : {a c : Act} → TwinActs a c → ((m n : Mode) → TwinModes m n → SameToEnd (lex m (suc p) s) (lex n (suc q) s))
        → SameToEnd (done a p (λ o. lex o (suc p) s)) (done c q (λ o. lex o (suc q) s))
    by (both_go {m} {n} k) ih = ih m n k
    by (both_token {m = m} {n = n} k) ih = one_more_lem refl (ih m n k)
    by both_bad ih = stopped _ _ _ _

-- THE LAW: the same bytes have the same words, wherever they stand
pub same_back : (s : List ℕ) (p q : ℕ) → SameToEnd (lex plain p s) (lex plain q s)
same_back s p q = same_lex s p q plain plain both_plain

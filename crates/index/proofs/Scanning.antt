-- The Pattern keywords, token by token and name by name.
use Prim.Native.Nat.{ℕ, ◌+◌, ◌*◌, ◌-◌, ◌≤◌, ◌<◌}
use native.Mathlib.Omega.{arith}
use native.Mathlib.Numerals.{add-one}
use mathlib.Core.Path.{◌≡◌, refl, sym, ap, ◌∙◌}
use mathlib.Core.Bool.{Bool, true, false, ◌&&◌}
use mathlib.Core.List.{List, [], ◌∷◌, ◌++◌, append_assoc, append-nil}
use lib.Dec.{eqb, ltb}
use lib.ListN.{length, get_or, take, set}
use lib.Seq.{take-suc-set}
use borrow.Author.Tests.{lt-ltb, le-ltb}
use Rattle.tokens.specs.Tokens.{Toks, stop, tok, toks, left}
use Rattle.meaning.specs.Meaning.{firsts}
use Rattle.words.specs.Table.{names as names_of}
use Rattle.words.specs.Cursor.{ahead, stop_no, stream, Stands}
use Rattle.words.specs.declared.Cursor.{Cursor}
use Rattle.words.proofs.Flow.{stream_on, stream_stop}
use Rattle.texts.proofs.Runs.{list_from, list_cut, list_end}
use Rattle.index.specs.Index.{stands_at, keyword_before, keywords}

-- the code's test of the next token
stands_at_lem : (text : List ℕ) (d : Cursor) (p : ℕ) → stands_at p (stream text d) ≡ (ltb d.at d.end && eqb d.at p)
unfolding stands_at stream
stands_at_lem text d p = by (ltb d.at d.end)
  where
    by : (b : Bool) → stands_at p (elim b [ true ↦ tok (ahead text d) (toks text d.end) | false ↦ stop (stop_no d) d.at ]) ≡ (b && eqb d.at p)
    by true = refl
    by false = refl

module _ (text : List ℕ) (c d : Cursor) (h : c.at < c.end) (s : Stands text c.end d) where
  on : stream text c ≡ tok (ahead text c) (stream text d)
  on = stream_on text c (lt-ltb c.at c.end h) ∙ ap (tok (ahead text c)) (sym s.there)

  -- one token on
  pub fewer : left (stream text d) < left (stream text c)
  unfolding left
  fewer = rw on (omega arith)

  module _ (p : ℕ) where
    pub keyword_here : (ltb d.at d.end && eqb d.at p) ≡ true → keyword_before (stream text c) p ≡ (c.at, stream text d)
    unfolding keyword_before
    keyword_here e = rw (on, keyword_before) (rw (stands_at_lem text d p ∙ e))

    pub keyword_later : (ltb d.at d.end && eqb d.at p) ≡ false → keyword_before (stream text c) p ≡ keyword_before (stream text d) p
    unfolding keyword_before
    keyword_later e = rw (on, keyword_before) (rw (stands_at_lem text d p ∙ e))

-- no token is left
pub keyword_none : (text : List ℕ) (c : Cursor) (p : ℕ) → c.end ≤ c.at → keyword_before (stream text c) p ≡ (0, stream text c)
unfolding keyword_before
keyword_none text c p h = rw (stream_stop text c (le-ltb c.at c.end h))

-- one name more
pub keys_next : (text names keys : List ℕ) {all : List ℕ} (patterns i : ℕ) {at : ℕ} (c d : Cursor) → i < patterns → i < length keys
    → all ≡ take i keys ++ keywords (stream text c) (list_from text names patterns i)
    → keyword_before (stream text c) (get_or names (i * 2) 0) ≡ (at, stream text d)
    → all ≡ take (i + 1) (set keys i at) ++ keywords (stream text d) (list_from text names patterns (i + 1))
unfolding keywords
keys_next text names keys patterns i {at} c d h l e k =
    let rest = list_from text names patterns (i + 1) in
    let cut : keywords (stream text c) (list_from text names patterns i) ≡ at ∷ keywords (stream text d) rest =
    rw (list_cut text names patterns i h, keywords) (ap (λ (x : ℕ × Toks). x.0 ∷ keywords x.1 rest) k) in
    let grown : take i keys ++ (at ∷ []) ≡ take (i + 1) (set keys i at) = sym (take-suc-set keys i at l) ∙ ap (λ (n : ℕ). take n (set keys i at)) (sym (add-one i)) in
    e ∙ ap (λ (z : List ℕ). take i keys ++ z) cut ∙ sym (append_assoc (take i keys) (at ∷ []) (keywords (stream text d) rest))
    ∙ ap (λ (z : List ℕ). z ++ keywords (stream text d) rest) grown

-- none yet
pub keys_begin : (text names keys : List ℕ) (patterns : ℕ) (c : Cursor) → Stands text 0 c
    → keywords (toks text 0) (list_from text names patterns 0) ≡ take 0 keys ++ keywords (stream text c) (list_from text names patterns 0)
keys_begin text names keys patterns c s = ap (λ (ts : Toks). keywords ts (list_from text names patterns 0)) (sym s.there)

-- all of them
pub keys_all : (text names keys : List ℕ) (patterns i : ℕ) (c : Cursor) → i ≡ patterns
    → keywords (toks text 0) (list_from text names patterns 0) ≡ take i keys ++ keywords (stream text c) (list_from text names patterns i)
    → take patterns keys ≡ keywords (toks text 0) (firsts (names_of text names patterns))
unfolding keywords
keys_all text names keys patterns i c q e =
    let none : keywords (stream text c) (list_from text names patterns i) ≡ [] = rw (list_end text names patterns i (omega arith), keywords) in
    let all : patterns - 0 ≡ patterns = omega arith in
    sym (append-nil (take patterns keys)) ∙ ap (λ (n : ℕ). take n keys ++ []) (sym q) ∙ ap (λ (l : List ℕ). take i keys ++ l) (sym none) ∙ sym e ∙ (rw all)

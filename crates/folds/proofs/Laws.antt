-- The parts of a folded text, put together from what was written.
use Prim.Native.Nat.{ℕ, zero, suc, ◌+◌, ◌-◌, ◌*◌, ◌≤◌}
use native.Mathlib.Omega.{arith}
use native.Mathlib.Nat.{add-zero, zero-add}
use mathlib.Core.Path.{◌≡◌, refl, sym, ap, ap₂, ◌∙◌, subst}
use mathlib.Core.Bool.{Bool, true, false}
use mathlib.Core.List.{List, [], ◌∷◌, ◌++◌, append_assoc, append-nil}
use lib.Dec.{ltb}
use lib.ListN.{length, get_or, drop, length-drop, length-take}
use borrow.Author.Tests.{ltb-false}
use Rattle.tokens.specs.Written.{bytes}
use Rattle.tokens.specs.Tokens.{Tok, Toks, stop, tok, toks}
use Rattle.meaning.specs.Meaning.{firsts}
use Rattle.words.specs.Cursor.{span, ahead, stop_no, stream, Stands}
use Rattle.words.specs.Table.{name_of, names_from as table_from, names}
use Rattle.words.specs.declared.Cursor.{Cursor}
use Rattle.words.proofs.Names.{names_more, firsts_append}
use Rattle.words.proofs.Words.{span_none}
use Rattle.pages.specs.Pages.{decimal}
use Rattle.folded.specs.Pieces.{Piece, only, laid, each, lf, closing}
use Rattle.folded.specs.Flat.{first_word, direction, directed}
use Rattle.folded.specs.Layout.{signal_put, signals_put, pattern_name, burst_name, names_from, listed_put, burst_put, exec_put}
use Rattle.pens.specs.Pens.{Holds, Writes}
use Rattle.pens.proofs.Laws.{writes_both, writes_same}
use Rattle.pens.specs.declared.Pen.{Pen}

-- ---- directions

-- the token that a cursor stands at
first_of : (text : List ℕ) (c : Cursor) → first_word (stream text c) ≡ span text c.at c.end
unfolding stream first_word
first_of text c = by (ltb c.at c.end) refl
  where
    by : (b : Bool) → ltb c.at c.end ≡ b
        → first_word (elim b as (λ x. Toks) [ true ↦ tok (ahead text c) (toks text c.end) | false ↦ stop (stop_no c) c.at ]) ≡ span text c.at c.end
    by true e = refl
    by false e = sym (span_none text c.at c.end (ltb-false c.at c.end e))

-- a name lies in the text, or is empty
pub name_long : (text : List ℕ) (at end : ℕ) {w : List ℕ} → w ≡ span text at end → length w ≤ length text - at
name_long text at end e = omega (arith, ap length e, length-take (end - at) (drop at text), length-drop at text)

pub direction_is : (text places : List ℕ) (i : ℕ) {c : Cursor} {r w : List ℕ} {at : ℕ} → w ≡ (name_of text places i).word → at ≡ get_or places (i * 2) 0 → Stands text (at + length w) c
    → r ≡ span text c.at c.end → r ≡ direction text (name_of text places i)
unfolding direction
direction_is text places i {c} e f s q = q ∙ sym (first_of text c) ∙ ap first_word s.there ∙ ap₂ (λ (a : ℕ) (w : List ℕ). first_word (toks text (a + length w))) f e

-- ---- NAME DIRECTION;

module _ {a b d e f : List ℕ} {p q s t r : Pen} {n w : List ℕ} {x : List ℕ × List ℕ} where
  pub signal_writes : n ≡ x.0 → w ≡ x.1 → Writes a p n b q → Writes b q (32 ∷ []) d s → Writes d s w e t → Writes e t (59 ∷ []) f r → Writes a p (laid (signal_put x [])) f r
  unfolding laid signal_put
  signal_writes i j g h k l = writes_same (rw (i, j) (simp append_assoc)) (writes_both (writes_both (writes_both g h) k) l)

-- ---- the first signals

-- nothing yet
pub writes_nothing : (page : List ℕ) (pen : Pen) → Writes page pen [] page pen
writes_nothing page pen = record { kept = refl; on = λ before front h. subst (λ (l : List ℕ). Holds before l pen page) (sym (append-nil front)) h }

-- pieces one behind the other, where each thing's are its own and then those behind
module _ {X : Type 0} (put : X → List Piece → List Piece) (own : (x : X) (k : List Piece) → laid (put x k) ≡ laid (put x []) ++ laid k) where
  pub laid_behind : (xs : List X) (k : List Piece) → laid (each put xs k) ≡ laid (each put xs []) ++ laid k
  unfolding each laid
  laid_behind [] k = refl
  laid_behind (x ∷ xs) k =
      own x (each put xs k) ∙ ap (λ (l : List ℕ). laid (put x []) ++ l) (laid_behind xs k)
      ∙ sym (append_assoc (laid (put x [])) (laid (each put xs [])) (laid k)) ∙ ap (λ (l : List ℕ). l ++ laid k) (sym (own x (each put xs [])))

  pub laid_more : (xs : List X) (x : X) → laid (each put (xs ++ x ∷ []) []) ≡ laid (each put xs []) ++ laid (put x [])
  unfolding each laid
  laid_more [] x = refl
  laid_more (y ∷ xs) x =
      own y (each put (xs ++ x ∷ []) []) ∙ ap (λ (l : List ℕ). laid (put y []) ++ l) (laid_more xs x)
      ∙ sym (append_assoc (laid (put y [])) (laid (each put xs [])) (laid (put x []))) ∙ ap (λ (l : List ℕ). l ++ laid (put x [])) (sym (own y (each put xs [])))

own_signal : (x : List ℕ × List ℕ) (k : List Piece) → laid (signal_put x k) ≡ laid (signal_put x []) ++ laid k
unfolding laid signal_put
own_signal x k = simp append_assoc

own_listed : (x : List ℕ) (k : List Piece) → laid (listed_put x k) ≡ laid (listed_put x []) ++ laid k
unfolding laid listed_put
own_listed x k = simp append_assoc

directed_append : (text : List ℕ) (ts : List Tok) (t : Tok) → directed text (ts ++ t ∷ []) ≡ directed text ts ++ (t.word, direction text t) ∷ []
unfolding directed
directed_append text [] t = refl
directed_append text (u ∷ ts) t = ap (λ (l : List (List ℕ × List ℕ)). (u.word, direction text u) ∷ l) (directed_append text ts t)

module _ (text places : List ℕ) where
  -- those up to number i
  abbrev pub signals_to : ℕ → List ℕ
  signals_to i = laid (each signal_put (directed text (firsts (names text places i))) [])

  signals_next : (i : ℕ) → signals_to i ++ laid (signal_put ((name_of text places i).word, direction text (name_of text places i)) []) ≡ signals_to (i + 1)
  signals_next i =
      sym (ap (λ (l : List (Tok × ℕ)). laid (each signal_put (directed text (firsts l)) [])) (names_more text places i)
      ∙ ap (λ (l : List Tok). laid (each signal_put (directed text l) [])) (firsts_append (names text places i) (name_of text places i, i))
      ∙ ap (λ (l : List (List ℕ × List ℕ)). laid (each signal_put l [])) (directed_append text (firsts (names text places i)) (name_of text places i))
      ∙ laid_more signal_put own_signal (directed text (firsts (names text places i))) ((name_of text places i).word, direction text (name_of text places i)))

  pub signals_more : {a b d : List ℕ} {p q r : Pen} (i : ℕ) → Writes a p (signals_to i) b q
      → Writes b q (laid (signal_put ((name_of text places i).word, direction text (name_of text places i)) [])) d r → Writes a p (signals_to (i + 1)) d r
  signals_more i f g = writes_same (signals_next i) (writes_both f g)

  pub no_signals : (page : List ℕ) (pen : Pen) → Writes page pen (signals_to 0) page pen
  unfolding laid each directed firsts table_from
  no_signals page pen = writes_nothing page pen

  -- with the line's beginning and end
  signals_line : (xs : List (List ℕ × List ℕ)) → (bytes "Signals{" ++ laid (each signal_put xs [])) ++ (125 ∷ 10 ∷ []) ≡ laid (signals_put xs [])
  unfolding laid signals_put bytes
  signals_line xs = sym (ap (λ (l : List ℕ). bytes "Signals{" ++ l) (laid_behind signal_put own_signal xs (only closing ∷ only lf ∷ [])) ∙ sym (append_assoc (bytes "Signals{") (laid (each signal_put xs [])) (125 ∷ 10 ∷ [])))

  pub signals_write : {a b d e : List ℕ} {p q s r : Pen} (count : ℕ) → Writes a p (bytes "Signals{") b q → Writes b q (signals_to count) d s → Writes d s (125 ∷ 10 ∷ []) e r
      → Writes a p (laid (signals_put (directed text (firsts (names text places count))) [])) e r
  signals_write count f g h = writes_same (signals_line (directed text (firsts (names text places count)))) (writes_both (writes_both f g) h)

-- ---- the listed names

pub listed_writes : {a b d e : List ℕ} {p q s r : Pen} (i : ℕ) → Writes a p (112 ∷ []) b q → Writes b q (decimal i) d s → Writes d s (59 ∷ []) e r
    → Writes a p (laid (listed_put (pattern_name i) [])) e r
unfolding laid listed_put pattern_name
listed_writes i f g h = writes_both (writes_both f g) h

names_next : (i n : ℕ) → names_from i n ++ pattern_name (i + n) ∷ [] ≡ names_from i (suc n)
unfolding names_from
names_next i zero = rw (add-zero i)
names_next i (suc n) = let e : i + suc n ≡ suc i + n = omega arith in rw e (ap (λ (l : List (List ℕ)). pattern_name i ∷ l) (names_next (suc i) n))

-- those up to number i
abbrev pub listed_to : ℕ → List ℕ
listed_to i = laid (each listed_put (names_from 0 i) [])

listed_next : (i : ℕ) → listed_to i ++ laid (listed_put (pattern_name i) []) ≡ listed_to (i + 1)
listed_next i =
    let e : suc i ≡ i + 1 = omega arith in
    sym (laid_more listed_put own_listed (names_from 0 i) (pattern_name i))
    ∙ ap (λ (k : ℕ). laid (each listed_put (names_from 0 i ++ pattern_name k ∷ []) [])) (sym (zero-add i))
    ∙ ap (λ (l : List (List ℕ)). laid (each listed_put l [])) (names_next 0 i) ∙ ap listed_to e

pub listed_more : {a b d : List ℕ} {p q r : Pen} (i : ℕ) → Writes a p (listed_to i) b q → Writes b q (laid (listed_put (pattern_name i) [])) d r → Writes a p (listed_to (i + 1)) d r
listed_more i f g = writes_same (listed_next i) (writes_both f g)

pub no_listed : (page : List ℕ) (pen : Pen) → Writes page pen (listed_to 0) page pen
unfolding laid each names_from
no_listed page pen = writes_nothing page pen

burst_line : (ns : List (List ℕ)) → (bytes "PatternBurst b{PatList{" ++ laid (each listed_put ns [])) ++ (125 ∷ 125 ∷ 10 ∷ []) ≡ laid (burst_put ns [])
unfolding laid burst_put burst_name bytes
burst_line ns =
    sym (ap (λ (l : List ℕ). bytes "PatternBurst b{PatList{" ++ l) (laid_behind listed_put own_listed ns (only closing ∷ only closing ∷ only lf ∷ []))
    ∙ sym (append_assoc (bytes "PatternBurst b{PatList{") (laid (each listed_put ns [])) (125 ∷ 125 ∷ 10 ∷ [])))

pub burst_writes : {a b d e : List ℕ} {p q s r : Pen} (count : ℕ) → Writes a p (bytes "PatternBurst b{PatList{") b q → Writes b q (listed_to count) d s → Writes d s (125 ∷ 125 ∷ 10 ∷ []) e r
    → Writes a p (laid (burst_put (names_from 0 count) [])) e r
burst_writes count f g h = writes_same (burst_line (names_from 0 count)) (writes_both (writes_both f g) h)

pub exec_line : bytes "PatternExec{PatternBurst b;}\n" ≡ laid (exec_put [])
unfolding laid exec_put burst_name bytes
exec_line = refl

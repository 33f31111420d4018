-- The labels of a folded text are the names of its Patterns, which differ: where something begins in it stands a fixed word or a signal's name, and that is neither `Pattern` nor `X`.
use Prim.Native.Nat.{ℕ}
use native.Mathlib.Omega.{arith}
use mathlib.Core.Path.{◌≡◌, refl, sym, ap, ◌∙◌, subst}
use mathlib.Core.Bool.{Bool, true, false}
use mathlib.Core.Option.{Option, none, some}
use mathlib.Core.List.{List, [], ◌∷◌, ◌++◌}
use lib.Dec.{leb}
use Rattle.tokens.specs.Written.{bytes, same, cases}
use Rattle.tokens.specs.Bytes.{between, blank, digit, letter, wordy}
use Rattle.tokens.specs.Tokens.{Toks, stop, tok}
use Rattle.meaning.specs.Lists.{has}
use Rattle.meaning.specs.Reader.{Reader, is_word}
use Rattle.meaning.specs.Names.{reserved, among, is_name}
use Rattle.meaning.specs.Labels.{Here, begins, due, within, beginning, parting, labelling, behind, labelled, labels_from, labels, taken, repeated, used_twice, each_once}
use Rattle.meaning.specs.Timing.{Table}
use Rattle.meaning.specs.Body.{Assigns, Body}
use Rattle.meaning.specs.Document.{over}
use Rattle.meaning.proofs.Once.{once_none}
use Rattle.meaning.proofs.Others.{same_eq}
use Rattle.folded.specs.Pieces.{Piece, each, only, word, closing, opening, lf, space}
use Rattle.folded.specs.Flat.{Line, chooses, repeats}
use Rattle.folded.specs.Layout.{burst_name, name_at, value_put, vector_put, line_put, pattern_put}
use Rattle.pages.specs.Pages.{decimal}
use Rattle.folded.proofs.Words.{Before, sign, words}
use Rattle.folded.proofs.Reading.{Reads, AllFit, SomeFit, find_in}
use Rattle.folded.proofs.Leaves.{decimal_word}
use Rattle.folded.proofs.SignalsBack.{proper_word}
use Rattle.folded.proofs.TimingBack.{char_wordy}
use Rattle.folded.proofs.StatementsBack.{NewValue, GoodLine, GoodLines}
use Rattle.folded.proofs.PatternsBack.{Named, bodies_of, bodies_of_more, NewPattern}

-- ---- of words

-- no label of these words is one of those used, or an earlier one
unfoldable pub Fresh : Here → List (List ℕ) → List (List ℕ) → Type 0
Fresh h vs [] = Unit {0}
Fresh begins vs (w ∷ ws) = Fresh (behind begins w) vs ws
Fresh due vs (w ∷ ws) = (taken vs w ≡ false) × Fresh (behind due w) (w ∷ vs) ws
Fresh within vs (w ∷ ws) = Fresh (behind within w) vs ws

none_over : (h : Here) (vs : List (List ℕ)) (ts : Toks) → over ts ≡ true → repeated vs (labels_from h ts) ≡ none
unfolding over labels_from repeated
none_over h vs (stop n p) e = refl
none_over h vs (tok t ts) e = let z : ◌≡◌ {A = ℕ} 0 1 = cc in absurd (omega arith)

fresh_none : (ws : List (List ℕ)) (h : Here) (vs : List (List ℕ)) → Fresh h vs ws → (ts us : Toks) → Before ws ts us → repeated vs (labels_from h ts) ≡ none
unfolding Fresh labels_from labelled repeated
fresh_none [] h vs f ts us b = ap (λ (l : Toks). repeated vs (labels_from h l)) b.0 ∙ none_over h vs us b.1
fresh_none (w ∷ ws) begins vs f ts us b = rw (b.2, labels_from, b.3) (fresh_none ws (behind begins w) vs f b.1 us b.4)
fresh_none (w ∷ ws) within vs f ts us b = rw (b.2, labels_from, b.3) (fresh_none ws (behind within w) vs f b.1 us b.4)
fresh_none (w ∷ ws) due vs f ts us b = rw (b.2, labels_from, b.3, f.0, repeated, b.3) (fresh_none ws (behind due w) (w ∷ vs) f.1 b.1 us b.4)

pub reads_once : {A : Type 0} {P : A → Type 0} {m : Reader A} {ws vs : List (List ℕ)} (burst : List ℕ) → Fresh begins (burst ∷ []) ws → Reads m ws vs P → Reads (each_once burst m) ws vs P
unfolding used_twice labels
reads_once {A} {P} {m} {ws} burst f r = record {
  all = λ ts us h. (
      let i = r.all ts us h in
      (i.0, i.1, once_none burst m ts (fresh_none ws begins (burst ∷ []) f ts us h) ∙ i.2, i.3, i.4));
}

-- ---- words that begin nothing, and are no label's

unlike : (P : List ℕ → Bool) (w v : List ℕ) → P v ≡ false → P w ≡ true → same w v ≡ false
unlike P w v e f = by (same w v) refl
  where
    by : (b : Bool) → same w v ≡ b → b ≡ false
    by false q = refl
    by true q = let z : true ≡ false = sym f ∙ ap P (same_eq w v q) ∙ e in z

no_parting : (w : List ℕ) → is_word w ≡ true → parting w ≡ false
unfolding parting bytes is_word wordy letter digit between
no_parting w h = rw (unlike is_word w (bytes "{") refl h, unlike is_word w (bytes "}") refl h, unlike is_word w (bytes ";") refl h)

no_labelling : (w : List ℕ) → is_name w ≡ true → labelling w ≡ false
unfolding labelling bytes is_name among reserved same has digit between
no_labelling w h = rw (unlike is_name w (bytes "Pattern") refl h, unlike is_name w (bytes "X") refl h)

inside : (h : Here) (w : List ℕ) → is_word w ≡ true → beginning h ≡ false → behind h w ≡ within
unfolding behind cases
inside h w e f = rw (no_parting w e, f, cases)

named : (w : List ℕ) → is_word w ≡ true → is_name w ≡ true → behind begins w ≡ within
unfolding behind beginning cases
named w e f = rw (no_parting w e, no_labelling w f, cases)

module _ (vs ws : List (List ℕ)) where
  -- behind a word where nothing begins
  past : (w : List ℕ) → is_word w ≡ true → Fresh within vs ws → Fresh within vs (w ∷ ws)
  unfolding Fresh beginning
  past w e f = subst (λ (h : Here). Fresh h vs ws) (sym (inside within w e refl)) f

  past_name : (w : List ℕ) → is_word w ≡ true → is_name w ≡ true → Fresh within vs ws → Fresh begins vs (w ∷ ws)
  unfolding Fresh
  past_name w e n f = subst (λ (h : Here). Fresh h vs ws) (sym (named w e n)) f

  past_label : (w : List ℕ) → is_word w ≡ true → taken vs w ≡ false → Fresh within (w ∷ vs) ws → Fresh due vs (w ∷ ws)
  unfolding Fresh beginning
  past_label w e n f = (n, subst (λ (h : Here). Fresh h (w ∷ vs) ws) (sym (inside due w e refl)) f)

-- ---- statements

module _ (signals tables : List (List ℕ)) (names : List (List ℕ × List ℕ)) (sheets : List (List ℕ × Table)) (vs : List (List ℕ)) where
  fresh_values : (before xs : Assigns) (k : List Piece) → AllFit (NewValue signals tables names sheets) before xs → Fresh begins vs (words k)
      → Fresh begins vs (words (each (value_put signals) xs k))
  unfolding each value_put words sign blank Fresh behind parting labelling beginning cases bytes same is_word
  fresh_values before [] k f g = g
  fresh_values before (x ∷ xs) k f g =
      let n = name_at signals x.0 in
      let rest = bytes ";" ∷ words (each (value_put signals) xs k) in
      past_name vs (bytes "=" ∷ (x.1 ∷ []) ∷ rest) n (proper_word n f.0.proper) f.0.is_name_lem
      (past vs rest (x.1 ∷ []) (char_wordy x.1 f.0.char) (fresh_values (before ++ x ∷ []) xs k f.1 g))

  fresh_vector : (xs : Assigns) (k : List Piece) → AllFit (NewValue signals tables names sheets) [] xs → Fresh begins vs (words k) → Fresh begins vs (words (vector_put signals xs k))
  unfolding vector_put words sign blank Fresh behind parting labelling beginning cases bytes same
  fresh_vector xs k f g = fresh_values [] xs (only closing ∷ k) f g

  fresh_line : (l : Line) (k : List Piece) → GoodLine signals tables names sheets l → Fresh begins vs (words k) → Fresh begins vs (words (line_put signals tables l k))
  unfolding line_put words sign blank Fresh behind parting labelling beginning cases bytes same
  fresh_line (chooses j) k f g = past vs (bytes ";" ∷ words k) (name_at tables j) (proper_word (name_at tables j) f.0) g
  fresh_line (repeats n xs) k f g = by (leb 2 n)
    where
      by : (b : Bool)
          → Fresh begins vs (words (elim b [ true ↦ word (bytes "Loop") space ∷ word (decimal n) opening ∷ vector_put signals xs (only closing ∷ only lf ∷ k) | false ↦ vector_put signals xs (only lf ∷ k) ]))
      by true = past vs (bytes "{" ∷ words (vector_put signals xs (only closing ∷ only lf ∷ k))) (decimal n) (decimal_word n) (fresh_vector xs (only closing ∷ only lf ∷ k) f.2 g)
      by false = fresh_vector xs (only lf ∷ k) f.2 g

  fresh_lines : (ls : List Line) (k : List Piece) → GoodLines signals tables names sheets ls → Fresh begins vs (words k) → Fresh begins vs (words (each (line_put signals tables) ls k))
  unfolding each
  fresh_lines [] k f g = g
  fresh_lines (l ∷ ls) k f g = fresh_line l (each (line_put signals tables) ls k) f.0 (fresh_lines ls k f.1 g)

-- ---- Patterns

-- a name that none of these has, the last one neither
none_more : (l : List (List ℕ × Body)) (y : List ℕ × Body) (w : List ℕ) → find_in (l ++ y ∷ []) w ≡ none → (find_in l w ≡ none) × (same y.0 w ≡ false)
unfolding find_in
none_more [] y w e = (refl, by (same y.0 w) e)
  where
    by : (b : Bool) → ◌≡◌ {A = Option Body} (elim b [ true ↦ some y.1 | false ↦ none ]) none → b ≡ false
    by false e = refl
    by true e = let z : ◌≡◌ {A = ℕ} 0 1 = cc in absurd (omega arith)
none_more (x ∷ l) y w e = by (same x.0 w) e (none_more l y w)
  where
    by : (b : Bool) → ◌≡◌ {A = Option Body} (elim b [ true ↦ some x.1 | false ↦ find_in (l ++ y ∷ []) w ]) none → (find_in (l ++ y ∷ []) w ≡ none → (find_in l w ≡ none) × (same y.0 w ≡ false))
        → (◌≡◌ {A = Option Body} (elim b [ true ↦ some x.1 | false ↦ find_in l w ]) none) × (same y.0 w ≡ false)
    by false e ih = ih e
    by true e ih = let z : ◌≡◌ {A = ℕ} 0 1 = cc in absurd (omega arith)

-- the names used are the burst's and those of the Patterns before
abbrev Unused : List (List ℕ) → List Named → Type 0
Unused vs before = (w : List ℕ) → same burst_name w ≡ false → find_in (bodies_of before) w ≡ none → taken vs w ≡ false

unused_more : (vs : List (List ℕ)) (before : List Named) (x : Named) → Unused vs before → Unused (x.0 ∷ vs) (before ++ x ∷ [])
unfolding taken
unused_more vs before x u w b e =
    let n = none_more (bodies_of before) _ w (ap (λ l. find_in l w) (sym (bodies_of_more before x)) ∙ e) in
    rw n.1 (u w b n.0)

module _ (signals tables : List (List ℕ)) (names : List (List ℕ × List ℕ)) (sheets : List (List ℕ × Table)) where
  fresh_patterns : (before xs : List Named) (vs : List (List ℕ)) → Unused vs before → AllFit (NewPattern signals tables names sheets) before xs
      → Fresh begins vs (words (each (pattern_put signals tables) xs []))
  unfolding each pattern_put words sign blank Fresh behind parting labelling beginning cases bytes same
  fresh_patterns before [] vs u f = tt
  fresh_patterns before (x ∷ xs) vs u f =
      let rest = only closing ∷ only lf ∷ each (pattern_put signals tables) xs [] in
      past_label vs (bytes "{" ∷ words (each (line_put signals tables) x.1 rest)) x.0 (proper_word x.0 f.0.proper) (u x.0 f.0.no_burst f.0.new)
      (fresh_lines signals tables names sheets (x.0 ∷ vs) x.1 rest f.0.lines
      (fresh_patterns (before ++ x ∷ []) xs (x.0 ∷ vs) (unused_more vs before x u) f.1))

  -- THE LAW
  pub fresh_all : (b : List ℕ) → b ≡ burst_name → (xs : List Named) → SomeFit (NewPattern signals tables names sheets) xs
      → Fresh begins (b ∷ []) (words (each (pattern_put signals tables) xs []))
  unfolding taken
  fresh_all b i [] f = absurd f
  fresh_all b i (x ∷ xs) f = fresh_patterns [] (x ∷ xs) (b ∷ []) first f
    where
      first : Unused (b ∷ []) []
      first w h e = rw (i, h)

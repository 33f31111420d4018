-- Labels that differ, differ from any place on behind which something begins: a pass that begins there finds none that is used twice.
use Prim.Native.Nat.{ℕ, ◌<◌}
use native.Mathlib.Omega.{arith}
use mathlib.Core.Path.{◌≡◌, refl, sym, ◌∙◌, subst}
use mathlib.Core.Bool.{Bool, true, false, ◌||◌}
use mathlib.Core.Option.{none, some}
use mathlib.Core.List.{List, [], ◌∷◌}
use lib.ListN.{length}
use Rattle.tokens.specs.Written.{same}
use Rattle.tokens.specs.Tokens.{Tok, Toks, stop, tok, toks}
use Rattle.tokens.proofs.Laws.{unfolds}
use Rattle.meaning.specs.Labels.{Here, begins, due, within, behind, labelled, labels_from, labels, taken, repeated, used_twice}
use Rattle.labels.proofs.Laws.{repeated_here, repeated_later}
use Rattle.labels.proofs.Scanning.{behind_parting}
use Rattle.references.proofs.Parted.{Parted, here, later}

-- their words are none of these, and no two are the same
abbrev Apart : List (List ℕ) → List Tok → Type 0
Apart vs [] = Unit {0}
Apart vs (t ∷ l) = (taken vs t.word ≡ false) × Apart (t.word ∷ vs) l

-- each of their words has P
abbrev Each : (List ℕ → Type 0) → List Tok → Type 0
Each P [] = Unit {0}
Each P (t ∷ l) = P t.word × Each P l

abbrev Any : List ℕ → Type 0
Any w = Unit {0}

-- it has bytes
abbrev Some : List ℕ → Type 0
Some w = 0 < length w

any_all : (l : List Tok) → Each Any l
any_all [] = tt
any_all (t ∷ l) = (tt, any_all l)

repeated_apart : (vs : List (List ℕ)) (l : List Tok) → repeated vs l ≡ none → Apart vs l
repeated_apart vs [] e = tt
repeated_apart vs (t ∷ l) e = by (taken vs t.word) refl (repeated_apart (t.word ∷ vs) l)
  where
    by : (b : Bool) → taken vs t.word ≡ b → (repeated (t.word ∷ vs) l ≡ none → Apart (t.word ∷ vs) l) → (taken vs t.word ≡ false) × Apart (t.word ∷ vs) l
    by true q ih = let f : some t.at ≡ none = sym (repeated_here vs t l q) ∙ e in let z : ◌≡◌ {A = ℕ} 0 1 = cc in absurd (omega arith)
    by false q ih = (q, ih (sym (repeated_later vs t l q) ∙ e))

apart_repeated : (vs : List (List ℕ)) (l : List Tok) → Apart vs l → repeated vs l ≡ none
unfolding repeated
apart_repeated vs [] h = refl
apart_repeated vs (t ∷ l) h = repeated_later vs t l h.0 ∙ apart_repeated (t.word ∷ vs) l h.1

module _ (P : List ℕ → Type 0) where
  -- what is not among some words is not among others
  abbrev Fewer : List (List ℕ) → List (List ℕ) → Type 0
  Fewer vs ws = (w : List ℕ) → P w → taken vs w ≡ false → taken ws w ≡ false

  fewer_both : (v : List ℕ) (vs ws : List (List ℕ)) → Fewer vs ws → Fewer (v ∷ vs) (v ∷ ws)
  unfolding taken
  fewer_both v vs ws h w z e = by (same v w) e
    where
      by : (b : Bool) → (b || taken vs w) ≡ false → (b || taken ws w) ≡ false
      by true e = e
      by false e = h w z e

  apart_fewer : (vs ws : List (List ℕ)) (l : List Tok) → Fewer vs ws → Each P l → Apart vs l → Apart ws l
  apart_fewer vs ws [] f k h = tt
  apart_fewer vs ws (t ∷ l) f k h = (f t.word k.0 h.0, apart_fewer (t.word ∷ vs) (t.word ∷ ws) l (fewer_both t.word vs ws f) k.1 h.1)

apart_none : (vs : List (List ℕ)) (l : List Tok) → Apart vs l → Apart [] l
unfolding taken
apart_none vs l h = apart_fewer Any vs [] l (λ w z e. refl) (any_all l) h

-- the empty word is none of them
apart_empty : (l : List Tok) → Each Some l → Apart [] l → Apart ([] ∷ []) l
unfolding taken same
apart_empty l k h = apart_fewer Some [] ([] ∷ []) l by k h
  where
    by : (w : List ℕ) → 0 < length w → taken [] w ≡ false → taken ([] ∷ []) w ≡ false
    by [] z e = absurd (omega arith)
    by (b ∷ w) z e = refl

-- ---- labels behind others

some_labelled : (h : Here) (t : Tok) (l : List Tok) → 0 < length t.word → Each Some l → Each Some (labelled h t l)
unfolding labelled
some_labelled begins t l z k = k
some_labelled due t l z k = (z, k)
some_labelled within t l z k = k

-- a text's tokens have bytes
some_from : (text : List ℕ) (h : Here) (at : ℕ) (ts : Toks) → toks text at ≡ ts → Each Some (labels_from h ts)
unfolding labels_from
some_from text h at (stop n p) e = tt
some_from text h at (tok t ts) e =
    let u = unfolds text at t ts e in
    some_labelled h t _ u.some (some_from text (behind h t.word) _ ts (sym u.rest))

apart_labelled : (h : Here) (t : Tok) (l : List Tok) → Apart [] (labelled h t l) → Apart [] l
unfolding labelled
apart_labelled begins t l a = a
apart_labelled due t l a = apart_none (t.word ∷ []) l a.1
apart_labelled within t l a = a

apart_behind : {us ts : Toks} → Parted us ts → (h : Here) → Apart [] (labels_from h ts) → Apart [] (labels_from begins us)
unfolding labels_from
apart_behind (here {t = t} {ts = ts} e) h a = subst (λ (k : Here). Apart [] (labels_from k ts)) (sym (behind_parting h t.word e)) (apart_labelled h t _ a)
apart_behind (later {t = t} p) h a = apart_behind p (behind h t.word) (apart_labelled h t _ a)

-- THE LAW
pub none_twice : (text burst : List ℕ) (at : ℕ) (us ts : Toks) → used_twice burst ts ≡ none → Parted us ts → toks text at ≡ us → used_twice [] us ≡ none
unfolding used_twice labels
none_twice text burst at us ts e p q =
    let a = apart_none (burst ∷ []) (labels_from begins ts) (repeated_apart (burst ∷ []) (labels_from begins ts) e) in
    apart_repeated ([] ∷ []) (labels_from begins us) (apart_empty (labels_from begins us) (some_from text begins at us q) (apart_behind p begins a))

-- Samples at the edges, as one statement: what a text's labels are, and the first that is used already, where the burst is b. The definitions compute them.
use Prim.Native.Nat.{ℕ}
use Prim.Native.String.{String}
use mathlib.Core.Path.{◌≡◌, refl}
use mathlib.Core.Option.{Option, none, some}
use mathlib.Core.List.{List, [], ◌∷◌}
use Rattle.tokens.specs.Written.{bytes}
use Rattle.tokens.specs.Tokens.{Tok, stop, toks}
use Rattle.meaning.specs.Open.{everything}
use Rattle.meaning.specs.Reader.{Res, ok, refuse}
use Rattle.meaning.specs.Labels.{labels, used_twice, earlier}

unfoldable pub words_in : List Tok → List (List ℕ)
words_in [] = []
words_in (t ∷ l) = t.word ∷ words_in l

unfoldable pub answers : List String → List (List (List ℕ) × Option ℕ)
answers [] = []
answers (s ∷ l) = (words_in (labels (toks (bytes s) 0)), used_twice (bytes "b") (toks (bytes s) 0)) ∷ answers l

-- some words, and no place or one
abbrev told : List String → Option ℕ → List (List ℕ) × Option ℕ
told ws o = (listed ws, o)
  where
    listed : List String → List (List ℕ)
    listed [] = []
    listed (w ∷ l) = bytes w ∷ listed l

pub edges : answers (
    -- none
    ""
    -- patterns, and X in them and in Loops
    ∷ "Pattern p { X a; W t; Loop 2 { X c; } X d; } Pattern q { V { } X e; }"
    -- an X in DATA is none, nor is one behind a word or in a comment
    ∷ "Pattern p { V { A = X; B = 0 X; } C { A = XX; } /* X b; */ }"
    -- the burst's name, for a pattern and for an X
    ∷ "Pattern b { }"
    ∷ "Pattern p { X b; }"
    -- its own pattern's, an earlier pattern's, a later pattern with an X's name
    ∷ "Pattern p { X p; }"
    ∷ "Pattern p { } Pattern q { X p; }"
    ∷ "Pattern p { X q; } Pattern q { }"
    -- twice in one pattern, and in two; the first place is given
    ∷ "Pattern p { X a; Loop 2 { X a; X a; } }"
    ∷ "Pattern p { X a; } Pattern q { X c; X a; }"
    -- whatever stands there
    ∷ "X ; X 1.0; X ;"
    -- names that only begin alike, and case
    ∷ "Pattern p { X a; X aa; X A; X B; }"
    ∷ [])
    ≡ told [] none
    ∷ told ("p" ∷ "a" ∷ "c" ∷ "d" ∷ "q" ∷ "e" ∷ []) none
    ∷ told ("p" ∷ []) none
    ∷ told ("b" ∷ []) (some 8)
    ∷ told ("p" ∷ "b" ∷ []) (some 14)
    ∷ told ("p" ∷ "p" ∷ []) (some 14)
    ∷ told ("p" ∷ "q" ∷ "p" ∷ []) (some 28)
    ∷ told ("p" ∷ "q" ∷ "q" ∷ []) (some 27)
    ∷ told ("p" ∷ "a" ∷ "a" ∷ "a" ∷ []) (some 28)
    ∷ told ("p" ∷ "a" ∷ "q" ∷ "c" ∷ "a" ∷ []) (some 38)
    ∷ told (";" ∷ "1.0" ∷ ";" ∷ []) (some 13)
    ∷ told ("p" ∷ "a" ∷ "aa" ∷ "A" ∷ "B" ∷ []) none
    ∷ []
unfolding everything answers words_in
edges = refl

-- a name used already at 20, where a reader of numbers refused before it, at it, behind it, or answered; and no name used twice
pub further_left : ◌≡◌ {A = List (Res ℕ)}
    (earlier (some 20) (refuse 12 19)
    ∷ earlier (some 20) (refuse 5 20)
    ∷ earlier (some 20) (refuse 4 21)
    ∷ earlier (some 20) (ok 1 (stop 4 30))
    ∷ earlier none (refuse 4 21)
    ∷ [])
    (refuse 12 19 ∷ refuse 5 20 ∷ refuse 7 20 ∷ refuse 7 20 ∷ refuse 4 21 ∷ [])
unfolding everything
further_left = refl

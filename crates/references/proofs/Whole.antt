-- For callers: behind the pass over a pattern's body, with a table that was empty, a look-up gives the cycles before a reference as they are defined.
use Prim.Native.Nat.{ℕ}
use mathlib.Core.Path.{◌≡◌, refl, sym, ap, ◌∙◌}
use mathlib.Core.Bool.{Bool, true, false}
use mathlib.Core.Option.{Option, none, some, or_else}
use mathlib.Core.List.{List}
use lib.ListN.{get_or}
use Rattle.tokens.specs.Written.{same}
use Rattle.tokens.specs.Tokens.{Tok, Toks}
use Rattle.meaning.specs.Names.{find}
use Rattle.meaning.specs.Body.{Body}
use Rattle.meaning.specs.Statements.{Env}
use Rattle.labels.specs.Table.{words_of, number_of}
use Rattle.references.specs.References.{referred, past_by, past}
use Rattle.references.specs.Filled.{counted, noted, Filled}

-- an X name has a label, or: what has no label is no X name
pub record Labelled (text labels : List ℕ) (count : ℕ) (xs : List (Tok × ℕ)) : Type 0 where
  pub only : (w : List ℕ) → number_of (words_of text labels count) w ≡ none → find xs w ≡ none

module _ {text labels : List ℕ} {count : ℕ} {table table' : List ℕ} (empty : (i : ℕ) → get_or table i 0 ≡ 0) where
  noted_all_lem : {xs : List (Tok × ℕ)} → Filled text labels count table xs table' → Labelled text labels count xs → (w : List ℕ)
      → noted text labels count table' w ≡ find xs w
  unfolding noted or_else
  noted_all_lem {xs} f l w = by (number_of (words_of text labels count) w) refl
    where
      by : (o : Option ℕ) → number_of (words_of text labels count) w ≡ o
          → ◌≡◌ {A = Option ℕ} (elim o [ none ↦ none | some k ↦ counted (get_or table' k 0) ]) (find xs w)
      by none e = sym (l.only w e)
      by (some k) e = f.each w k e ∙ ap (λ (x : ℕ). or_else (counted x) (find xs w)) (empty k)

  -- THE LAW
  pub past_is : (E : Env) (ts : Toks) (b : Body) → Filled text labels count table (referred E ts 0 b) table' → Labelled text labels count (referred E ts 0 b)
      → (p w : List ℕ) → past_by p (noted text labels count table') w ≡ past E ts b p w
  unfolding past past_by
  past_is E ts b f l p w = by (same p w)
    where
      by : (x : Bool) → ◌≡◌ {A = Option ℕ} (elim x [ true ↦ some 0 | false ↦ noted text labels count table' w ]) (elim x [ true ↦ some 0 | false ↦ find (referred E ts 0 b) w ])
      by true = refl
      by false = noted_all_lem f l w

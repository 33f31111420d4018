-- A name by its number among those of a table: its place and the length of its word, or that there is none.
use Prim.Native.Nat.{ℕ, zero, suc, ◌+◌, ◌*◌, ◌≤◌, ◌<◌}
use native.Mathlib.Omega.{arith}
use native.Mathlib.Nat.{add-zero}
use mathlib.Core.Path.{◌≡◌, refl, sym, ap, ◌∙◌}
use mathlib.Core.List.{List}
use lib.ListN.{length, get_or}
use Rattle.tokens.specs.Tokens.{Tok}
use Rattle.meaning.specs.Refusals.{no_such}
use Rattle.meaning.specs.Meaning.{Answer, given, refused, firsts}
use Rattle.meaning.specs.Services.{name_at}
use Rattle.words.specs.Table.{name_of, names_from, names}

-- what is told of a name
abbrev told : Tok → Answer (ℕ × ℕ)
told t = given (t.at, length t.word)

module _ (text places : List ℕ) where
  numbered_from : (i k n : ℕ) → n < k → name_at (firsts (names_from text places i k)) n ≡ told (name_of text places (i + n))
  unfolding name_at firsts names_from
  numbered_from i zero n h = absurd (omega arith)
  numbered_from i (suc k) zero h = ap (λ (j : ℕ). told (name_of text places j)) (sym (add-zero i))
  numbered_from i (suc k) (suc n) h =
      let e : suc i + n ≡ i + suc n = omega arith in
      numbered_from (suc i) k n (omega arith) ∙ ap (λ (j : ℕ). told (name_of text places j)) e

  past_from : (i k n : ℕ) → k ≤ n → name_at (firsts (names_from text places i k)) n ≡ refused no_such 0
  unfolding name_at firsts names_from
  past_from i zero n h = refl
  past_from i (suc k) zero h = absurd (omega arith)
  past_from i (suc k) (suc n) h = past_from (suc i) k n (omega arith)

  module _ {count n : ℕ} where
    pub name_there : {at : ℕ} {w : List ℕ} → n < count → at ≡ get_or places (n * 2) 0 → w ≡ (name_of text places n).word
        → name_at (firsts (names text places count)) n ≡ given (at, length w)
    name_there h p q = numbered_from 0 count n h ∙ rw (p, q) (ap (λ (j : ℕ). told (name_of text places j)) (let e : 0 + n ≡ n = omega arith in e))

    pub name_missing : count ≤ n → name_at (firsts (names text places count)) n ≡ refused no_such 0
    name_missing h = past_from 0 count n h

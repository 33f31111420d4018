-- Expressions: what one more term does to the signals so far, and what a bracket holds.
use Prim.Native.Nat.{ℕ, zero, suc, ◌+◌, ◌-◌, ◌≤◌}
use Prim.Native.String.{String}
use native.Mathlib.Omega.{arith}
use mathlib.Core.Path.{◌≡◌, refl}
use mathlib.Core.Bool.{Bool, true, false, not, ◌&&◌, ◌||◌}
use mathlib.Core.List.{List, [], ◌∷◌}
use lib.ListN.{length}
use Rattle.tokens.specs.Written.{bytes, same}
use Rattle.tokens.specs.Refusals.{not_here}
use Rattle.tokens.specs.Tokens.{Toks, stop, tok}
use Rattle.meaning.specs.Bounds.{signals_most}
use Rattle.meaning.specs.Lists.{meets}
use Rattle.meaning.specs.Reader.{ok, refuse, after, ◌>>=◌, give, any, refuse_if, due_of, due, one_of, choose}
use Rattle.meaning.specs.Signals.{Names}
use Rattle.meaning.specs.Groups.{term, sign, joined, more, terms, bracket}
use Rattle.meaning.proofs.Takes.{Takes}
use Rattle.meaning.proofs.Gives.{Gives}
use Rattle.sets.proofs.Tidy.{Tidy, join_fits}
use Rattle.words.specs.Cursor.{alive, Goes}
use Rattle.words.specs.declared.Cursor.{Cursor}
use Rattle.words.proofs.Flow.{then, given, alike, alive_before}
use Rattle.signals.specs.Names.{AllTidy}
use Rattle.signals.proofs.Taking.{takes_term, takes_more, keeps_bracket}
use Rattle.signals.proofs.Tidy.{gave, tidy_term, tidy_turn, tidy_bracket}

-- ---- signs

-- a choice with one entry left, which has no more to read
pub only_choice : {A : Type 0} {text : List ℕ} {c r : Cursor} {p : ℕ} (v : String) (a : A) → Goes text c (due v) r p
    → Goes text c (choose ((v, λ q. give a) ∷ [])) r a
unfolding choose one_of due_of any refuse_if give after ◌>>=◌
only_choice {A} v a g = alike (then (λ p. give a) g given) by
  where
    by : (ts : Toks) → (due v >>= λ p. give a) ts ≡ choose ((v, λ q. give a) ∷ []) ts
    by (stop n p) = refl
    by (tok t ts) = at (same t.word (bytes v))
      where
        at : (b : Bool) → after (after (refuse_if (not b) not_here t.at ts) (λ u. give t.at)) (λ p. give a) ≡ elim b [ true ↦ ok a ts | false ↦ refuse not_here t.at ]
        at true = refl
        at false = refl

pub or_and : (x a b : Bool) → (x && a || x && b) ≡ (x && (a || b))
or_and true a b = refl
or_and false a b = refl

-- ---- terms

module _ (ns : Names) (d : ℕ) where
  pub bracket_in : (p : ℕ) → (d ≡ 0 → ⊥) → bracket d ns p ≡ terms (bracket (d - 1) ns) ns
  unfolding bracket
  bracket_in p h = by d h
    where
      by : (d : ℕ) → (d ≡ 0 → ⊥) → bracket d ns p ≡ terms (bracket (d - 1) ns) ns
      by zero h = absurd (h refl)
      by (suc d) h = let e : suc d - 1 ≡ d = omega arith in rw e

  pub term_takes : Takes (term (bracket d ns) ns)
  term_takes = takes_term (bracket d ns) ns (keeps_bracket d ns)

  pub turn_takes : (g : List ℕ) → Takes (more (bracket d ns) ns g)
  turn_takes = takes_more (bracket d ns) ns (keeps_bracket d ns)

  module _ (all : AllTidy signals_most ns) where
    pub term_tidy : Gives (λ x. Tidy x.0) (term (bracket d ns) ns)
    term_tidy = tidy_term signals_most ns all (bracket d ns) (tidy_bracket signals_most ns all d)

    pub turn_tidy : (g : List ℕ) → Tidy g → Gives Tidy (more (bracket d ns) ns g)
    turn_tidy = tidy_turn signals_most ns all (bracket d ns) (tidy_bracket signals_most ns all d)

    -- a sign, a term, and both sets in one, for which there is room
    pub turn_goes : {text : List ℕ} {c a b r : Cursor} {plus : Bool} {g x l : List ℕ} {q : ℕ} → (alive c ≡ true → Tidy g) → Goes text c sign a plus
        → Goes text a (term (bracket d ns) ns) b (x, q)
        → ((alive b ≡ true → meets x g ≡ false → length g + length x ≤ signals_most) → Goes text b (joined plus g x q) r l)
        → Goes text c (more (bracket d ns) ns g) r l
    unfolding more
    turn_goes tidy s t j =
        then _ s (then _ t (j (λ on e. join_fits (tidy (alive_before s (alive_before t on))) (gave term_tidy t on) e)))

-- What is known of bodies by their marks.
use Prim.Native.Nat.{ℕ, ◌<◌, ◌≤◌}
use native.Mathlib.Omega.{arith}
use mathlib.Core.Path.{◌≡◌, refl}
use mathlib.Core.Bool.{Bool, true, false, not, ◌||◌, ◌&&◌}
use mathlib.Core.List.{List, []}
use lib.ListN.{get_or}
use lib.Dec.{eqb}
use borrow.Author.Tests.{eqb-true, eqb-false, not-true}
use Rattle.tokens.specs.Tokens.{Toks, toks}
use Rattle.tokens.proofs.Bools.{both}
use Rattle.meaning.specs.Lists.{count}
use Rattle.meaning.specs.Body.{Args, Body, shifting}
use Rattle.meaning.specs.Statements.{Env}
use Rattle.held.specs.Held.{Holds}
use Rattle.measures.specs.Book.{bodies, start_at}
use Rattle.sums.specs.Sums.{Sums}
use Rattle.sums.specs.Parts.{Exact}
use Rattle.tallies.specs.Rows.{sum_at, is_summed, is_shifted}
use Rattle.plays.specs.Plays.{Ground, SumOf, Summed}

-- nothing, where no mark is set
pub summed_none : (g : Ground) (E : Env) (marks sums : List ℕ) → ((i : ℕ) → get_or marks i 0 ≡ 0) → Summed g marks sums E
summed_none g E marks sums h = record { each = λ i b e. absurd (omega (arith, h i)); shifted_each = λ i b e. absurd (omega (arith, h i)) }

pub summed_empty : (g : Ground) (E : Env) → Summed g [] [] E
summed_empty g E = summed_none g E [] [] (λ i. refl)

-- is the sum of the body of number i known, with its Shift played t times?
abbrev pub usable : List ℕ → (i t : ℕ) → Bool
usable marks i t = eqb (get_or marks i 0) is_summed || (eqb (get_or marks i 0) is_shifted && not (eqb t 0))

-- where it is, the body that is held there has it, and of its arguments nothing is left
pub known_sum : {g : Ground} {E : Env} {marks sums : List ℕ} (i t : ℕ) (b : Body) (us : Toks) {a : Args} → Summed g marks sums E → i < bodies
    → Holds E (toks g.text (start_at g.book i)) b us → (((s : ℕ) → count s (shifting b) ≤ 1) → Exact t b a) → usable marks i t ≡ true
    → Sums E.tables g.signals t b (sum_at sums i) × Exact t b a
known_sum {g} {E} {marks} {sums} i t b us {a} u l h exact e = by (eqb (get_or marks i 0) is_summed) refl e
  where
    held : (least : ℕ) → least ≤ t → SumOf g E sums i least → Sums E.tables g.signals t b (sum_at sums i) × Exact t b a
    held least l s = (s.sums_are b us h t l, exact (s.once b us h))

    by : (w : Bool) → eqb (get_or marks i 0) is_summed ≡ w → (w || (eqb (get_or marks i 0) is_shifted && not (eqb t 0))) ≡ true
        → Sums E.tables g.signals t b (sum_at sums i) × Exact t b a
    by true q e = held 0 (omega arith) (u.each i l (eqb-true _ _ q))
    by false q e =
        let d = both (eqb (get_or marks i 0) is_shifted) (not (eqb t 0)) e in
        held 1 (omega (arith, eqb-false t 0 (not-true _ d.1))) (u.shifted_each i l (eqb-true _ _ d.0))

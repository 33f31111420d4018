-- What a player needs of a Loop: two turns, and the first cycle of the second once more behind its last; for that is how the third begins, and no later turn
-- has a pair that is new. One turn and its first cycle are enough where it leaves what it found.
use mathlib.Core.Path.{◌≡◌, refl, sym, ap, ap₂, ◌∙◌}
use Prim.Native.Nat.{ℕ, zero, suc}
use native.Mathlib.Omega.{arith}
use mathlib.Core.Bool.{Bool, true, false}
use mathlib.Core.Option.{Option, none, some, or_else}
use mathlib.Core.List.{List, [], ◌∷◌, ◌++◌}
use lib.ListN.{length, take}
use Rattle.meaning.specs.Timing.{Tables}
use Rattle.meaning.specs.Body.{Body}
use Rattle.meaning.specs.Run.{State, Cycle, Played, cycles, follow, again, play}
use Rattle.meaning.proofs.Options.{or_alike}
use Rattle.meaning.proofs.Turns.{Plain, plain_twice, copies, steady, turns_repeat}
use Rattle.meaning.proofs.Rows.{length_play}
use Rattle.meaning.specs.Edges.{last_behind, fine_behind, failing_behind}
use Rattle.edges.proofs.Behind.{last-++, last_copies, failing-++, failing_copies}

-- ---- the first cycle

-- none, or one cycle
abbrev pub opening : List Cycle → List Cycle
opening l = take 1 l

pub opening-++ : (a b : List Cycle) → opening (a ++ b) ≡ elim a [ [] ↦ opening b | c ∷ l ↦ c ∷ [] ]
opening-++ [] b = refl
opening-++ (c ∷ a) b = refl

-- of any number of turns it is the first turn's, as all have as many cycles
pub opening_loop : (t : ℕ) (b : Body) (n : ℕ) (s : State) → opening (again (suc n) (play t b) s).1 ≡ opening (play t b s).1
unfolding again follow
opening_loop t b n s = by (play t b s).1 (length_play t b s)
  where
    none_more : (n : ℕ) (s : State) → cycles t b ≡ 0 → (again n (play t b) s).1 ≡ []
    none_more zero s e = refl
    none_more (suc n) s e = ap₂ (λ (x y : List Cycle). x ++ y) (empty (play t b s).1 (length_play t b s ∙ e)) (none_more n (play t b s).0 e)
      where
        empty : (l : List Cycle) → length l ≡ 0 → l ≡ []
        empty [] e = refl
        empty (c ∷ l) e = absurd (omega arith)

    by : (l : List Cycle) → length l ≡ cycles t b → opening (l ++ (again n (play t b) (play t b s).0).1) ≡ opening l
    by [] e = ap opening (none_more n (play t b s).0 (sym e))
    by (c ∷ l) e = refl

module _ (tabs : Tables) where
  -- a row that passed behind one cycle can fail behind another only with its first cycle
  pub passed_opening : (o q : Option Cycle) (m : List Cycle) → failing_behind tabs o m ≡ none → failing_behind tabs q m ≡ failing_behind tabs q (opening m)
  unfolding failing_behind
  passed_opening o q [] f = refl
  passed_opening o q (d ∷ m) f = by (fine_behind tabs o d) f
    where
      by : (w : Bool) → ◌≡◌ {A = Option ℕ} (elim w [ true ↦ failing_behind tabs (some d) m | false ↦ some d.at ]) none
          → failing_behind tabs q (d ∷ m) ≡ failing_behind tabs q (d ∷ [])
      by true f = ap (λ (x : Option ℕ). elim (fine_behind tabs q d) [ true ↦ x | false ↦ some d.at ]) f
      by false f = let z : ◌≡◌ {A = ℕ} 0 1 = cc in absurd (omega arith)

  -- a row at least twice
  pub twice_failing : (o : Option Cycle) (m : List Cycle) (n : ℕ)
      → failing_behind tabs o (copies (suc (suc n)) m) ≡ or_else (failing_behind tabs o m) (failing_behind tabs (last_behind o m) (opening m))
  twice_failing o m n = failing_copies tabs o m n ∙ or_alike _ _ _ (passed_opening o (last_behind o m) m)

  module _ (t : ℕ) (b : Body) (plain : Plain b) (s : State) (o : Option Cycle) where
    abbrev first : List Cycle
    first = (play t b s).1

    abbrev second : List Cycle
    second = (play t b (play t b s).0).1

    -- THE LAWS of a Loop of three turns or more
    pub loop_failing : (n : ℕ) → failing_behind tabs o (again (suc (suc (suc n))) (play t b) s).1
        ≡ or_else (failing_behind tabs o first)
        (or_else (failing_behind tabs (last_behind o first) second) (failing_behind tabs (last_behind (last_behind o first) second) (opening second)))
    loop_failing n =
        ap (λ (x : Played). failing_behind tabs o x.1) (turns_repeat (play t b) (plain_twice t b plain) (suc (suc n)) s)
        ∙ failing-++ tabs o first (copies (suc (suc n)) second)
        ∙ ap (or_else (failing_behind tabs o first)) (twice_failing (last_behind o first) second n)

    -- of two turns or more: what comes last
    pub loop_last : (n : ℕ) → last_behind o (again (suc (suc n)) (play t b) s).1 ≡ last_behind (last_behind o first) second
    loop_last n =
        ap (λ (x : Played). last_behind o x.1) (turns_repeat (play t b) (plain_twice t b plain) (suc n) s)
        ∙ last-++ o first (copies (suc n) second)
        ∙ last_copies (last_behind o first) second n

  -- a Loop whose turn leaves what it found
  module _ (t : ℕ) (b : Body) (s : State) (same : (play t b s).0 ≡ s) (o : Option Cycle) where
    pub steady_failing : (n : ℕ) → failing_behind tabs o (again (suc (suc n)) (play t b) s).1
        ≡ or_else (failing_behind tabs o (play t b s).1) (failing_behind tabs (last_behind o (play t b s).1) (opening (play t b s).1))
    steady_failing n =
        ap (λ (x : Played). failing_behind tabs o x.1) (steady (play t b) s same (suc (suc n))) ∙ twice_failing o (play t b s).1 n

    pub steady_last : (n : ℕ) → last_behind o (again (suc n) (play t b) s).1 ≡ last_behind o (play t b s).1
    steady_last n = ap (λ (x : Played). last_behind o x.1) (steady (play t b) s same (suc n)) ∙ last_copies o (play t b s).1 n

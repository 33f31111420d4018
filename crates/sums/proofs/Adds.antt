-- One statement more, behind those of which the sum is known: what has to be shown of it alone.
use Prim.Native.Nat.{ℕ}
use native.Mathlib.Omega.{arith}
use mathlib.Core.Path.{◌≡◌, sym, ap, ap₂, ◌∙◌, subst}
use mathlib.Core.Bool.{true, true≢false}
use mathlib.Core.Option.{none, or_else}
use lib.ListN.{length, drop, length-drop}
use lib.Seq.{drop-drop}
use Rattle.meaning.specs.Timing.{Tables}
use Rattle.meaning.specs.Body.{Body, arg_of}
use Rattle.meaning.specs.Run.{State, Played, follow, play}
use Rattle.meaning.specs.Meaning.{first_failing}
use Rattle.meaning.proofs.Turns.{fails-++}
use Rattle.measures.specs.Measures.{joined}
use Rattle.sums.specs.Sums.{Sum, Asks, Leaves, due, Enough, Sums}
use Rattle.sums.specs.Parts.{Kept}
use Rattle.sums.proofs.Taken.{play_joined, due_joined}
use Rattle.sums.proofs.Asked.{asks_kept}

-- what a play p, from s₁, may have: no cycle of it fails, and it leaves what R says, seen from s
abbrev pub Plays : Tables → ℕ → Sum → State → Played → Type 0
Plays tabs n R s p = (first_failing tabs p.1 ≡ none) × Leaves n R s p.0

-- it takes what is due of each argument
abbrev pub Takes : ℕ → Body → Type 0
Takes t b = (s : State) (i : ℕ) → arg_of i (play t b s).0.args ≡ drop (due t b i) (arg_of i s.args)

module _ (tabs : Tables) (n : ℕ) where
  -- one play and then another
  pub fails_none : (x : Played) (f : State → Played) → first_failing tabs x.1 ≡ none → first_failing tabs (f x.0).1 ≡ none
      → first_failing tabs (follow x f).1 ≡ none
  unfolding follow or_else
  fails_none x f p q = fails-++ tabs x.1 (f x.0).1 ∙ ap₂ or_else p q

  pub record Adds (t : ℕ) (one : Body) (S R : Sum) : Type 0 where
    pub used : Takes t one
    pub kept : Kept n S R
    pub each : (s s₁ : State) → Leaves n S s s₁ → Enough t one s₁.args → Asks tabs n R s → Plays tabs n R s (play t one s₁)

  -- both take what they take
  used_both : (t : ℕ) (front one : Body) → Takes t front → Takes t one → Takes t (joined front one)
  unfolding follow
  used_both t front one x y s i =
      ap (λ (z : Played). arg_of i z.0.args) (play_joined t front one s)
      ∙ y (play t front s).0 i
      ∙ ap (drop (due t one i)) (x s i)
      ∙ drop-drop (due t one i) (due t front i) (arg_of i s.args)
      ∙ ap (λ (k : ℕ). drop k (arg_of i s.args)) (sym (due_joined t front one i))

  -- a sum that asks for what can't be asks for enough
  pub spoilt : {t : ℕ} {front : Body} {S R : Sum} → Sums tabs n t front S → (one : Body) → Takes t one → R.bad ≡ true → Sums tabs n t (joined front one) R
  spoilt {t} {front} x one y e = record { used = used_both t front one x.used y; each = λ s w f h. absurd (true≢false (sym e ∙ h.good)) }

  pub added : {t : ℕ} {front one : Body} {S R : Sum} → Sums tabs n t front S → Adds t one S R → Sums tabs n t (joined front one) R
  unfolding follow
  added {t} {front} {one} {S} {R} x y = record {
    used = used_both t front one x.used y.used;
    each = λ s w e h. (
        let s₁ = (play t front s).0 in
        let a = x.each s w (λ i. omega (arith, e i, due_joined t front one i)) (asks_kept y.kept h) in
        let rest : Enough t one s₁.args = λ i.
        omega (arith, e i, due_joined t front one i, ap length (x.used s i) ∙ length-drop (due t front i) (arg_of i s.args)) in
        let b = y.each s s₁ a.1 rest h in
        subst (Plays tabs n R s) (sym (play_joined t front one s)) (fails_none (play t front s) (play t one) a.0 b.0, b.1)
        );
  }

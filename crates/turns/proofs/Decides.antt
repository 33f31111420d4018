-- THE THEOREM: the first turn of each Loop, and the second where at most two second turns are open at once, find the first cycle that
-- cannot be played.
use mathlib.Core.Path.{◌≡◌, refl, sym, ap, ◌∙◌}
use Prim.Native.Nat.{ℕ, suc}
use mathlib.Core.Option.{none, or_else}
use mathlib.Core.List.{[]}
use lib.ListN.{length}
use lib.Seq.{ext_get_or}
use Rattle.meaning.specs.Timing.{Tables}
use Rattle.meaning.specs.Body.{Args, Body}
use Rattle.meaning.specs.Run.{unassigned, State, follow, play}
use Rattle.meaning.specs.Meaning.{first_failing}
use Rattle.meaning.proofs.Turns.{keeps, Plain, Good, fails-++}
use Rattle.turns.specs.Few.{loop_few, play_few, open_most}
use Rattle.turns.proofs.Known.{Known}
use Rattle.turns.proofs.Thins.{most_forgive, or_first}
use Rattle.turns.proofs.Shows.{seen, Leaves, With}
use Rattle.turns.proofs.Thinned.{Thinned, thinning}

-- one state is left
left_one : (n : ℕ) {A : Args} {e : Known} {s s' s'' : State} → With n A s' → With n A s'' → Leaves e s s' → Leaves e s s'' → s' ≡ s''
left_one n {s'} {s''} w w' h h' =
    let p = ext_get_or unassigned s'.pins s''.pins (w.width ∙ sym w'.width) (λ i _. h.pins i ∙ sym (h'.pins i)) in
    let k = h.table ∙ sym h'.table in
    let a = w.args ∙ sym w'.args in
    λ i. record { pins = p i; table = k i; args = a i }

module _ (t : ℕ) (b : Body) (good : Good b) (s : State) where
  thinned : (tabs : Tables) → Thinned (length s.pins) tabs (play t b) (λ k. play_few k t b) s.args
  thinned tabs = thinning (length s.pins) tabs b good t s.args

  given : With (length s.pins) s.args s
  given = record { args = refl; width = refl }

  pub few_left : (k : ℕ) → (play_few k t b s).0 ≡ (play t b s).0
  few_left k =
      let x = ((thinned []).shows_few k).moves in
      let y = (thinned []).shows.moves in
      left_one (length s.pins) (x.to s given) (y.to s given) (x.leaves s given) (y.leaves s given)

  module _ (tabs : Tables) where
    pub few_decides : ((play_few open_most t b s).0 ≡ (play t b s).0) × (first_failing tabs (play_few open_most t b s).1 ≡ first_failing tabs (play t b s).1)
    few_decides = (
      few_left open_most,
      ((thinned tabs).shows_few open_most).fails s given ∙ sym ((thinned tabs).thins.same (seen tabs s) open_most (most_forgive _)) ∙ sym ((thinned tabs).shows.fails s given),
    )

    -- with one less open no other cycle fails
    pub fewer_fail : (k : ℕ) → first_failing tabs (play_few (suc k) t b s).1 ≡ none → first_failing tabs (play_few k t b s).1 ≡ none
    fewer_fail k h = ((thinned tabs).shows_few k).fails s given ∙ (thinned tabs).thins.fewer (seen tabs s) k (sym (((thinned tabs).shows_few (suc k)).fails s given) ∙ h)

    -- a Loop whose turn leaves signals and table as they were needs no second
    pub second_skipped : Plain b → (n k : ℕ) → (play_few (suc k) t b s).0.pins ≡ s.pins → (play_few (suc k) t b s).0.table ≡ s.table
        → ((loop_few (suc (suc n)) (suc k) (λ j. play_few j t b) s).0 ≡ (play_few (suc k) t b s).0)
        × (first_failing tabs (loop_few (suc (suc n)) (suc k) (λ j. play_few j t b) s).1 ≡ first_failing tabs (play_few (suc k) t b s).1)
    unfolding loop_few follow
    second_skipped plain n k p q =
        let a : (play_few (suc k) t b s).0.args ≡ s.args = ap (λ (x : State). x.args) (few_left (suc k)) ∙ keeps t b plain s in
        let one : (play_few (suc k) t b s).0 ≡ s = λ i. record { pins = p i; table = q i; args = a i } in
        let l = (play_few (suc k) t b s).1 in (
          ap (λ (x : State). (play_few k t b x).0) one ∙ few_left k ∙ sym (few_left (suc k)),
          fails-++ tabs l (play_few k t b (play_few (suc k) t b s).0).1
              ∙ ap (λ (x : State). or_else (first_failing tabs l) (first_failing tabs (play_few k t b x).1)) one
              ∙ or_first _ _ (fewer_fail k),
        )

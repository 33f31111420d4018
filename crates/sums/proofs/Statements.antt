-- Nothing played, and behind a front of known sum a C, a W, a V or a Shift.
use Prim.Native.Nat.{ℕ, zero, suc, ◌+◌, ◌*◌, ◌<◌, ◌≤◌}
use native.Mathlib.Nat.{mul-zero, suc-mul, add-zero, zero-add}
use native.Mathlib.Omega.{arith}
use mathlib.Core.Path.{◌≡◌, refl, sym, ap, ◌∙◌}
use mathlib.Core.Logic.{◌⊎◌, inl, inr, ⊎_elim}
use mathlib.Core.Bool.{Bool, true, false}
use mathlib.Core.Option.{Option, none, some}
use mathlib.Core.List.{[], ◌∷◌, append-nil}
use lib.ListN.{length, length-drop}
use lib.Dec.{eqb}
use Rattle.meaning.specs.Lists.{count}
use Rattle.meaning.specs.Timing.{Tables}
use Rattle.meaning.specs.Body.{Assigns, mark, assigning, choosing, shifted, Body, done, vec, set', inner, marked, outside, in_shift, shifting, arg_of}
use Rattle.meaning.specs.Run.{State, puts, changed, cycle_at, follow, again, playing, play}
use Rattle.meaning.specs.Meaning.{first_failing}
use Rattle.walks.specs.Turns.{vector}
use Rattle.measures.specs.Measures.{joined}
use Rattle.sums.specs.Sums.{Shown, argument, char, Sum, or_table, Asks, Stands, Leaves, due, Sums}
use Rattle.sums.specs.Parts.{Nothing, Kept, shown_one, shown_by, Assigned, Chosen, Cycled}
use Rattle.sums.proofs.Taken.{arg_puts, arg_turns}
use Rattle.sums.proofs.Asked.{judged}
use Rattle.sums.proofs.Left.{leaves_alike, leaves_chosen, leaves_puts}
use Rattle.sums.proofs.Cycles.{passes}
use Rattle.sums.proofs.Adds.{Plays, fails_none, added}

pub kept_both : {n : ℕ} {S A R : Sum} → Kept n S A → Kept n A R → Kept n S R
kept_both x y = record {
  good = λ h. x.good (y.good h);
  needs = λ h. y.needs (x.needs h);
  fine = λ k h. x.fine k (y.fine k h);
  under = λ i t b h. y.under i t b (x.under i t b h);
  given = λ i t b h. y.given i t b (x.given i t b h);
}

-- assigned again, a signal has the same
module _ (i : ℕ) where
  shown_kind : (a : Assigns) → ((x : Shown) → shown_by a i x ≡ x) ⊎ ((x y : Shown) → shown_by a i x ≡ shown_by a i y)
  unfolding shown_by shown_one
  shown_kind [] = inl (λ x. refl)
  shown_kind (y ∷ a) = by (eqb y.0 i) (shown_kind a)
    where
      c : Shown
      c = elim (eqb y.1 mark) [ true ↦ argument | false ↦ char y.1 ]

      by : (w : Bool) → (((x : Shown) → shown_by a i x ≡ x) ⊎ ((x y : Shown) → shown_by a i x ≡ shown_by a i y))
          → ((x : Shown) → shown_by a i (elim w [ true ↦ c | false ↦ x ]) ≡ x)
          ⊎ ((x y : Shown) → shown_by a i (elim w [ true ↦ c | false ↦ x ]) ≡ shown_by a i (elim w [ true ↦ c | false ↦ y ]))
      by true ih = inr (λ x y. refl)
      by false ih = ih

shown_again : (a : Assigns) (i : ℕ) (x : Shown) → shown_by a i (shown_by a i x) ≡ shown_by a i x
shown_again a i x = ⊎_elim (λ same. same (shown_by a i x)) (λ set. set (shown_by a i x) x) (shown_kind i a)

module _ {tabs : Tables} {n t : ℕ} where
  pub nothing_sums : {S : Sum} → Nothing n S → Sums tabs n t done S
  unfolding play due outside shifting count Stands or_table first_failing
  nothing_sums x = record {
    used = λ s i. rw mul-zero;
    each = λ s w e h. (
      refl,
      record {
        wide = w;
        table_is = rw x.table_is;
        pins_are = λ i b. rw (x.pins_are i b);
        args_are = λ i. ([], refl);
      },
    );
  }

  module _ {front : Body} {S : Sum} (x : Sums tabs n t front S) where
    pub assigned_sums : {a : Assigns} {R : Sum} → marked a ≡ [] → Assigned n a S R → Sums tabs n t (joined front (set' (assigning a) done)) R
    unfolding play changed due outside shifting count first_failing
    assigned_sums {a} {R} m y = added tabs n x (record {
      used = λ s i. arg_puts i a s ∙ rw (m, mul-zero);
      kept = y.kept;
      each = λ s s₁ l e h. (refl, leaves_puts l a (λ i. rw m (omega arith)) y.pins_are y.table_is);
    })

    pub chosen_sums : {k : ℕ} {R : Sum} → Chosen n k S R → Sums tabs n t (joined front (set' (choosing k) done)) R
    unfolding play changed due outside shifting count first_failing
    chosen_sums {k} {R} y = added tabs n x (record {
      used = λ s i. rw mul-zero;
      kept = y.kept;
      each = λ s s₁ l e h. (refl, leaves_chosen l k y.pins_are y.table_is);
    })

    -- ---- a V, and a Shift of one

    module _ {a : Assigns} {A R : Sum} (y : Assigned n a S A) (z : Cycled tabs n A R) where
      -- a cycle of the state that A leaves can be played
      cycle_passes : {s s₁ : State} (p : ℕ) → Leaves n A s s₁ → Asks tabs n R s → first_failing tabs (cycle_at p s₁ ∷ []) ≡ none
      unfolding or_table
      cycle_passes {s} {s₁} p l h =
          let k = by A.table refl in
          passes tabs p s₁ k.0 k.1 λ i b.
          rw l.table_is (judged h i (rw l.wide at b) (A.pin i) A.table s₁ (z.shows i (rw l.wide at b)) (l.pins_are i (rw l.wide at b)))
        where
          by : (k : Option ℕ) → A.table ≡ k → (k : ℕ) × (s₁.table ≡ some k)
          by (some k) e = (k, l.table_is ∙ ap (λ (k : Option ℕ). or_table k s.table) e)
          by none e = let g = h.tabled (z.tabled e) in (g.0, l.table_is ∙ ap (λ (k : Option ℕ). or_table k s.table) e ∙ g.1)

      both_kept : Kept n S R
      both_kept = kept_both y.kept z.kept

      pub vector_sums : (p : ℕ) → Sums tabs n t (joined front (vec p a done)) R
      unfolding play follow due outside shifting count
      vector_sums p = added tabs n x (record {
        used = λ s i. arg_puts i a s ∙ rw (append-nil, mul-zero, add-zero);
        kept = both_kept;
        each = λ s s₁ l e h. (
            let m = leaves_puts l a (λ i. omega (arith, rw (append-nil, mul-zero, add-zero) at (e i))) y.pins_are y.table_is in
            (cycle_passes p m h, leaves_alike m z.pins_are z.table_is)
            );
      })

      module _ (p : ℕ) {s : State} (h : Asks tabs n R s) where
        -- characters left for k turns
        abbrev For : ℕ → State → Type 0
        For k s₁ = (i : ℕ) → k * count i (marked a) ≤ length (arg_of i s₁.args)

        -- one turn from where B was left, and those behind it
        turn_then : {B : Sum} (k : ℕ) (s₁ : State) → Leaves n B s s₁ → ((i : ℕ) → i < n → A.pin i ≡ shown_by a i (B.pin i)) → A.table ≡ B.table → For (suc k) s₁
            → ((s₂ : State) → Leaves n A s s₂ → For k s₂ → Plays tabs n A s (again k (vector p a) s₂)) → Plays tabs n A s (again (suc k) (vector p a) s₁)
        unfolding again follow
        turn_then k s₁ l pins table e more =
            let m : (i : ℕ) → ℕ = λ i. count i (marked a) in
            let enough : (i : ℕ) → m i + k * m i ≤ length (arg_of i s₁.args) = λ i. omega (arith, e i, suc-mul k (m i)) in
            let left = leaves_puts l a (λ i. omega (arith, enough i)) pins table in
            let r = more (puts a s₁) left (λ i. omega (arith, enough i, ap length (arg_puts i a s₁) ∙ length-drop (m i) (arg_of i s₁.args))) in
            (fails_none tabs n (vector p a s₁) (again k (vector p a)) (cycle_passes p left h) r.0, r.1)

        -- turns behind the first leave what it left
        more_turns : (k : ℕ) (s₁ : State) → Leaves n A s s₁ → For k s₁ → Plays tabs n A s (again k (vector p a) s₁)
        unfolding again first_failing
        more_turns zero s₁ l e = (refl, l)
        more_turns (suc k) s₁ l e =
            turn_then k s₁ l (λ i b. y.pins_are i b ∙ sym (shown_again a i (S.pin i)) ∙ ap (shown_by a i) (sym (y.pins_are i b))) refl e (more_turns k)

        all_turns : (k : ℕ) (s₁ : State) → 1 ≤ k → Leaves n S s s₁ → For k s₁ → Plays tabs n A s (again k (vector p a) s₁)
        all_turns zero s₁ one l e = absurd (omega arith)
        all_turns (suc k) s₁ one l e = turn_then k s₁ l y.pins_are y.table_is e (more_turns k)

      pub shift_sums : (p : ℕ) → 1 ≤ t → Sums tabs n t (joined front (inner shifted (vec p a done) done)) R
      unfolding play playing follow due outside shifting in_shift count
      shift_sums p one = added tabs n x (record {
        used = λ s i. arg_turns i p a t s ∙ simp (append-nil, zero-add);
        kept = both_kept;
        each = λ s s₁ l e h. (
            let r = all_turns p h t s₁ one l (λ i. simp (append-nil, zero-add) at (e i)) in
            (rw append-nil r.0, leaves_alike r.1 z.pins_are z.table_is)
            );
      })

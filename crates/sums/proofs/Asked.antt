-- What is asked where a body begins is asked of what stands behind it: of each part the state that is left in front of it.
use Prim.Native.Nat.{ℕ, ◌<◌}
use mathlib.Core.Path.{◌≡◌, refl, ap, ◌∙◌}
use mathlib.Core.Bool.{true}
use mathlib.Core.Option.{Option, none, some}
use mathlib.Core.List.{List, ◌∷◌, ◌++◌}
use lib.ListN.{length, get_or, get_or-replicate}
use borrow.Author.Tests.{eq-eqb}
use Rattle.meaning.specs.Lists.{has}
use Rattle.meaning.specs.Timing.{Tables}
use Rattle.meaning.specs.Body.{Args, arg_of}
use Rattle.meaning.specs.Run.{State, bare}
use Rattle.arguments.proofs.Lists.{has_behind}
use Rattle.sums.specs.Sums.{Shown, before, argument, char, Sum, ok_at, or_table, Asks, Stands, Leaves}
use Rattle.sums.specs.Parts.{Kept, Shows, Entered, InPlace, Called}

pub or_assoc : (a b c : Option ℕ) → or_table a (or_table b c) ≡ or_table (or_table a b) c
unfolding or_table
or_assoc none b c = refl
or_assoc (some k) b c = refl

-- the character that an argument gave last is one of it
has_middle : (c : ℕ) (l m : List ℕ) → has c (l ++ c ∷ m) ≡ true
unfolding has
has_middle c l m = has_behind c l (c ∷ m) (rw (eq-eqb c c refl))

module _ {tabs : Tables} {n : ℕ} where
  pub asks_kept : {S R : Sum} {s : State} → Kept n S R → Asks tabs n R s → Asks tabs n S s
  asks_kept k h = record {
    good = k.good h.good;
    tabled = λ e. let x = h.tabled (k.needs e) in (x.0, x.1, k.fine x.0 x.2);
    shown = λ i t b e. h.shown i t b (k.under i t b e);
    fed = λ i t b e. h.fed i t b (k.given i t b e);
  }

  module _ {R : Sum} {s : State} (h : Asks tabs n R s) where
    -- ---- a character shown

    -- one that is known
    pub judged_char : (i c : ℕ) (t : Option ℕ) → Shows tabs i (char c) t R → ok_at tabs (or_table t s.table) i c ≡ true
    unfolding or_table
    judged_char i c (some k) x = x.chosen c k refl refl h.good
    judged_char i c none x =
        let y = x.inherited c refl refl in
        let z = h.tabled y.0 in
        rw z.1 (y.1 z.0 z.2)

    -- THE LAW: what stands on a signal can be shown
    pub judged : (i : ℕ) → i < n → (x : Shown) (t : Option ℕ) (s₁ : State) → Shows tabs i x t R → Stands x i s s₁
        → ok_at tabs (or_table t s.table) i (get_or s₁.pins i 0) ≡ true
    unfolding Stands
    judged i b before t s₁ x e = rw e (h.shown i t b (x.held refl))
    judged i b argument t s₁ x e = rw e.3 (h.fed i t b (x.fed refl) e.1 (rw e.2 (has_middle e.1 e.0 (arg_of i s₁.args))))
    judged i b (char c) t s₁ x e = rw e (judged_char i c t x)

    -- ---- a body entered behind S

    module _ {S U : Sum} {args : ℕ → List ℕ} (x : Entered tabs n S U args R) {s₁ : State} (l : Leaves n S s s₁) where
      table_entered : U.needs ≡ true → (k : ℕ) × (s₁.table ≡ some k) × (U.fine k ≡ true)
      unfolding or_table
      table_entered e = by S.table refl
        where
          by : (t : Option ℕ) → S.table ≡ t → (k : ℕ) × (s₁.table ≡ some k) × (U.fine k ≡ true)
          by (some k) q = (k, l.table_is ∙ ap (λ (t : Option ℕ). or_table t s.table) q, x.chosen k e q h.good)
          by none q =
              let y = x.inherited e q in
              let z = h.tabled y.0 in
              (z.0, l.table_is ∙ ap (λ (t : Option ℕ). or_table t s.table) q ∙ z.1, y.1 z.0 z.2)

      -- as under the table before
      under_left : (t : Option ℕ) → or_table t s₁.table ≡ or_table (or_table t S.table) s.table
      under_left t = ap (or_table t) l.table_is ∙ or_assoc t S.table s.table

      fed_entered : (i : ℕ) (t : Option ℕ) → i < n → U.given i t ≡ true → (c : ℕ) → has c (args i) ≡ true → ok_at tabs (or_table t s₁.table) i c ≡ true
      fed_entered i t b e c g = rw under_left (judged_char i c (or_table t S.table) (x.fed i t b e c g))

    -- in place, with arguments of which none is shown that isn't known
    pub asks_placed : {S U : Sum} {args : ℕ → List ℕ} {s₁ : State} → InPlace tabs n S U args R → Leaves n S s s₁ → (a : Args)
        → ((i : ℕ) (t : Option ℕ) → i < n → U.given i t ≡ true → (c : ℕ) → has c (arg_of i a) ≡ true → has c (args i) ≡ true)
        → Asks tabs n U (record { pins = s₁.pins; table = s₁.table; args = a })
    asks_placed {S} {U} {s₁} x l a g = record {
      good = x.entered.good h.good;
      tabled = table_entered x.entered l;
      shown = λ i t b e. rw (under_left x.entered l t) (judged i b (S.pin i) (or_table t S.table) s₁ (x.shows i t b e) (l.pins_are i b));
      fed = λ i t b e c q. fed_entered x.entered l i t b e c (g i t b e c q);
    }

    -- with every signal unassigned
    module _ {S U : Sum} {s₁ : State} (a : Args) (x : Called tabs n S U (λ i. arg_of i a) R) (l : Leaves n S s s₁) where
      -- that can be shown under any table
      bare_shown : (i : ℕ) (t : Option ℕ) → i < n → U.under i t ≡ true → ok_at tabs (or_table t s₁.table) i 0 ≡ true
      unfolding or_table ok_at
      bare_shown i t b e = rw (under_left x.entered l t) (by (or_table t S.table) refl)
        where
          by : (q : Option ℕ) → or_table t S.table ≡ q → ok_at tabs (or_table q s.table) i 0 ≡ true
          by (some k) g = refl
          by none g = rw (h.tabled (x.tabled i t b e g)).1

      pub asks_called : Asks tabs n U (record { pins = bare s₁.pins; table = s₁.table; args = a })
      unfolding bare
      asks_called = record {
        good = x.entered.good h.good;
        tabled = table_entered x.entered l;
        shown = λ i t b e. rw (get_or-replicate {A = ℕ} (length s₁.pins) i 0 0 (rw l.wide b)) (bare_shown i t b e);
        fed = λ i t b e c q. fed_entered x.entered l i t b e c q;
      }

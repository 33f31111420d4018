-- What statements leave: signal by signal, and the table.
use Prim.Native.Nat.{ℕ, ◌+◌, ◌<◌, ◌≤◌}
use native.Mathlib.Omega.{arith}
use mathlib.Core.Path.{◌≡◌, refl, sym, ap, ◌∙◌}
use mathlib.Core.Bool.{Bool, true, false}
use mathlib.Core.Option.{some}
use mathlib.Core.List.{List, [], ◌∷◌, ◌++◌, append_assoc}
use lib.ListN.{length, get_or, set, take, drop, length-drop, take-append-drop}
use lib.Seq.{get_or-set_same, get_or-set_other}
use lib.Dec.{eqb}
use borrow.Author.Tests.{eqb-true, eqb-false}
use Rattle.meaning.specs.Lists.{count}
use Rattle.meaning.specs.Body.{Assigns, Args, mark, marked, arg_of}
use Rattle.meaning.specs.Run.{State, next, put, puts}
use Rattle.meaning.proofs.Rows.{puts_table, puts_long}
use Rattle.measures.proofs.Counting.{count_append}
use Rattle.sums.specs.Sums.{Shown, before, argument, char, Sum, or_table, Stands, Leaves}
use Rattle.sums.specs.Parts.{shown_one, shown_by, last_of, behind}
use Rattle.sums.proofs.Taken.{arg_puts}
use Rattle.sums.proofs.Asked.{or_assoc}

-- ---- one signal

-- of its argument the front is gone
abbrev pub Gone : ℕ → State → State → Type 0
Gone i s s' = (front : List ℕ) × (arg_of i s.args ≡ front ++ arg_of i s'.args)

module _ (i : ℕ) (s : State) where
  -- some more of it
  pub gone_more : (k : ℕ) (s₁ s₂ : State) → arg_of i s₂.args ≡ drop k (arg_of i s₁.args) → Gone i s s₁ → Gone i s s₂
  gone_more k s₁ s₂ e g =
      let l = arg_of i s₁.args in (
        g.0 ++ take k l,
        g.1 ∙ ap (λ (m : List ℕ). g.0 ++ m) (sym (take-append-drop k l)) ∙ sym (append_assoc g.0 (take k l) (drop k l))
            ∙ ap (λ (m : List ℕ). (g.0 ++ take k l) ++ m) (sym e),
      )

  -- where neither it nor its argument changes
  pub stands_same : (x : Shown) (s₁ s₂ : State) → get_or s₂.pins i 0 ≡ get_or s₁.pins i 0 → arg_of i s₂.args ≡ arg_of i s₁.args → Stands x i s s₁
      → Stands x i s s₂
  unfolding Stands
  stands_same before s₁ s₂ p q e = p ∙ e
  stands_same argument s₁ s₂ p q e = (e.0, e.1, e.2 ∙ ap (λ (l : List ℕ). e.0 ++ e.1 ∷ l) (sym q), p ∙ e.3)
  stands_same (char c) s₁ s₂ p q e = p ∙ e

  -- its next character
  stands_next : (s₁ s₂ : State) (l : List ℕ) → arg_of i s₁.args ≡ l → 1 ≤ length l → arg_of i s₂.args ≡ drop 1 l → get_or s₂.pins i 0 ≡ next l
      → Gone i s s₁ → Stands argument i s s₂
  unfolding Stands next
  stands_next s₁ s₂ [] e h q p g = absurd (omega arith)
  stands_next s₁ s₂ (c ∷ l) e h q p g = (g.0, c, g.1 ∙ ap (λ (m : List ℕ). g.0 ++ m) (e ∙ ap (λ (m : List ℕ). c ∷ m) (sym q)), p)

-- ---- assignments

module _ (i : ℕ) where
  marked_first : (y : ℕ × ℕ) (a : Assigns) → count i (marked (y ∷ a)) ≡ count i (marked (y ∷ [])) + count i (marked a)
  unfolding marked count
  marked_first y a = by (eqb y.1 mark)
    where
      by : (w : Bool) → count i (elim w [ true ↦ y.0 ∷ marked a | false ↦ marked a ]) ≡ count i (elim w [ true ↦ y.0 ∷ [] | false ↦ [] ]) + count i (marked a)
      by true = count_append i (y.0 ∷ []) (marked a)
      by false = omega arith

module _ (i : ℕ) (s : State) where
  -- one of them
  stands_put : (y : ℕ × ℕ) (x : Shown) (s₁ : State) → i < length s₁.pins → count i (marked (y ∷ [])) ≤ length (arg_of i s₁.args) → Gone i s s₁ → Stands x i s s₁
      → Stands (shown_one y i x) i s (put y s₁)
  unfolding shown_one marked count put puts Stands
  stands_put y x s₁ b h g e = by (eqb y.0 i) refl (eqb y.1 mark) refl
    where
      l : List ℕ
      l = arg_of i s₁.args

      left : (k : ℕ) → count i (marked (y ∷ [])) ≡ k → arg_of i (put y s₁).args ≡ drop k l
      left k c = arg_puts i (y ∷ []) s₁ ∙ ap (λ (k : ℕ). drop k l) c

      -- another signal
      other : (c : ℕ) → (put y s₁).pins ≡ set s₁.pins y.0 c → eqb y.0 i ≡ false → count i (marked (y ∷ [])) ≡ 0 → Stands x i s (put y s₁)
      other c q p z =
          stands_same i s x s₁ (put y s₁) (ap (λ (v : List ℕ). get_or v i 0) q ∙ get_or-set_other s₁.pins y.0 i c 0 (λ r. eqb-false y.0 i p (sym r))) (left 0 z) e

      by : (v : Bool) → eqb y.0 i ≡ v → (w : Bool) → eqb y.1 mark ≡ w → Stands (shown_one y i x) i s (put y s₁)
      by true p true q =
          let same : y.0 ≡ i = eqb-true y.0 i p in
          let one : count i (marked (y ∷ [])) ≡ 1 = simp (q, marked, p, count) in
          let pin : get_or (put y s₁).pins i 0 ≡ next l = simp (q, put, same) (get_or-set_same s₁.pins i (next l) 0 b) in
          simp (p, q, shown_one) (stands_next i s s₁ (put y s₁) l refl (omega arith) (left 1 one) pin g)
      by true p false q =
          let same : y.0 ≡ i = eqb-true y.0 i p in
          let pin : get_or (put y s₁).pins i 0 ≡ y.1 = simp (q, put, same) (get_or-set_same s₁.pins i y.1 0 b) in
          simp (p, q, shown_one) pin
      by false p true q = simp (p, shown_one) (other (next (arg_of y.0 s₁.args)) (simp (q, put)) p (simp (q, marked, p, count)))
      by false p false q = simp (p, shown_one) (other y.1 (simp (q, put)) p (simp (q, marked)))

  pub stands_puts : (a : Assigns) (x : Shown) (s₁ : State) → i < length s₁.pins → count i (marked a) ≤ length (arg_of i s₁.args) → Gone i s s₁ → Stands x i s s₁
      → Stands (shown_by a i x) i s (puts a s₁)
  unfolding shown_by puts
  stands_puts [] x s₁ b h g e = e
  stands_puts (y ∷ a) x s₁ b h g e =
      let left = arg_puts i (y ∷ []) s₁ in
      let parts = marked_first i y a in
      let long = ap length left ∙ length-drop (count i (marked (y ∷ []))) (arg_of i s₁.args) in
      stands_puts a (shown_one y i x) (put y s₁) (omega (arith, puts_long (y ∷ []) s₁)) (omega arith)
      (gone_more i s (count i (marked (y ∷ []))) s₁ (put y s₁) left g)
      (stands_put y x s₁ b (omega arith) g e)

-- ---- all signals

module _ {n : ℕ} {S : Sum} {s s₁ : State} (l : Leaves n S s s₁) {R : Sum} where
  pub leaves_alike : ((i : ℕ) → i < n → R.pin i ≡ S.pin i) → R.table ≡ S.table → Leaves n R s s₁
  leaves_alike p q = record {
    wide = l.wide;
    table_is = rw q l.table_is;
    pins_are = λ i b. rw (p i b) (l.pins_are i b);
    args_are = l.args_are;
  }

  pub leaves_chosen : (k : ℕ) → ((i : ℕ) → i < n → R.pin i ≡ S.pin i) → R.table ≡ some k → Leaves n R s (record { pins = s₁.pins; table = some k; args = s₁.args })
  unfolding or_table
  leaves_chosen k p q = record {
    wide = l.wide;
    table_is = rw q;
    pins_are = λ i b. rw (p i b) (stands_same i s (S.pin i) s₁ _ refl refl (l.pins_are i b));
    args_are = l.args_are;
  }

  pub leaves_puts : (a : Assigns) → ((i : ℕ) → count i (marked a) ≤ length (arg_of i s₁.args)) → ((i : ℕ) → i < n → R.pin i ≡ shown_by a i (S.pin i)) → R.table ≡ S.table
      → Leaves n R s (puts a s₁)
  leaves_puts a h p q = record {
    wide = puts_long a s₁ ∙ l.wide;
    table_is = puts_table a s₁ ∙ rw q l.table_is;
    pins_are = λ i b. rw (p i b) (stands_puts i s a (S.pin i) s₁ (rw l.wide b) (h i) (l.args_are i) (l.pins_are i b));
    args_are = λ i. gone_more i s (count i (marked a)) s₁ (puts a s₁) (arg_puts i a s₁) (l.args_are i);
  }

-- ---- a body in place

pub last_at : (front : List ℕ) (c d : ℕ) → last_of (front ++ c ∷ []) d ≡ c
unfolding last_of
last_at [] c d = refl
last_at (x ∷ front) c d = last_at front c x

module _ {n : ℕ} {S : Sum} {s s₁ : State} (l : Leaves n S s s₁) {U : Sum} {a : Args} {s₃ : State}
    (m : Leaves n U (record { pins = s₁.pins; table = s₁.table; args = a }) s₃) (args : ℕ → List ℕ) where
  -- where the caller goes on
  after : State
  after = record { pins = s₃.pins; table = s₃.table; args = s₁.args }

  stands_placed : (i : ℕ) (x y : Shown) → Stands x i s s₁ → Stands y i (record { pins = s₁.pins; table = s₁.table; args = a }) s₃
      → (y ≡ argument → (arg_of i a ≡ args i) × (arg_of i s₃.args ≡ [])) → Stands (behind x y (args i)) i s after
  unfolding Stands behind after
  stands_placed i x before p q u = stands_same i s x s₁ after q refl p
  stands_placed i x (char c) p q u = q
  stands_placed i x argument p q u =
      let w = u refl in
      q.3 ∙ sym (last_at q.0 q.1 0) ∙ ap (λ (k : List ℕ). last_of k 0) (ap (λ (k : List ℕ). q.0 ++ q.1 ∷ k) (sym w.1) ∙ sym q.2 ∙ w.0)

  pub leaves_placed : {R : Sum} → ((i : ℕ) → i < n → U.pin i ≡ argument → (arg_of i a ≡ args i) × (arg_of i s₃.args ≡ []))
      → ((i : ℕ) → i < n → R.pin i ≡ behind (S.pin i) (U.pin i) (args i)) → R.table ≡ or_table U.table S.table
      → Leaves n R s (record { pins = s₃.pins; table = s₃.table; args = s₁.args })
  unfolding after
  leaves_placed u p q = record {
    wide = m.wide;
    table_is = m.table_is ∙ ap (or_table U.table) l.table_is ∙ rw q (or_assoc U.table S.table s.table);
    pins_are = λ i b. rw (p i b) (stands_placed i (S.pin i) (U.pin i) (l.pins_are i b) (m.pins_are i b) (u i b));
    args_are = l.args_are;
  }

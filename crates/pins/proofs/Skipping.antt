-- The loop over the signals of a Shift's V: of each `#` n characters are passed, as the definition's `skipped` has it.
use Prim.Native.Nat.{ℕ, ◌+◌, ◌≤◌, ◌<◌}
use native.Mathlib.Omega.{arith}
use mathlib.Core.Path.{◌≡◌, refl, sym, ap, ◌∙◌, subst}
use mathlib.Core.Bool.{Bool, true, false, true≢false}
use mathlib.Core.Option.{none}
use mathlib.Core.List.{List, [], ◌∷◌}
use lib.Dec.{eqb}
use lib.ListN.{length, get_or, drop}
use borrow.Author.Tests.{eq-eqb, eqb-true, eqb-false}
use Rattle.meaning.specs.Bounds.{signals_most}
use Rattle.meaning.specs.Lists.{has, repeats}
use Rattle.meaning.specs.Body.{Assigns, mark, arg_of, marked}
use Rattle.meaning.specs.Data.{assigned}
use Rattle.meaning.specs.Run.{State, puts, behind}
use Rattle.walks.specs.Turns.{skipped}
use Rattle.walks.proofs.Shifts.{puts_args, skipped_arg, kept_arg, skipped_supplied}
use Rattle.assigns.specs.Given.{char_of}
use Rattle.feeds.specs.declared.Feed.{Feed}
use Rattle.feeds.specs.Feeds.{Feeds, Skips}
use Rattle.measures.specs.Uses.{Given}
use Rattle.pins.specs.Shown.{feed_at, Fills, Shows, Playable, Others}
use Rattle.pins.proofs.Puts.{puts_arg, arg_unmoved, char_marked}

-- ---- a signal with `#` is assigned it

module _ (k : ℕ) (a : Assigns) (once : repeats (assigned a) ≡ false) (m : has k (marked a) ≡ true) where
  -- an argument of one character
  abbrev fed : State
  fed = record { pins = []; table = none; args = (k, 0 ∷ []) ∷ [] }

  fed_arg : arg_of k fed.args ≡ 0 ∷ []
  unfolding arg_of
  fed_arg = rw (eq-eqb k k refl, arg_of)

  fed_takes : arg_of k (puts a fed).args ≡ []
  unfolding skipped
  fed_takes = ap (arg_of k) (puts_args a fed) ∙ skipped_arg 1 a fed k once m ∙ ap (drop 1) fed_arg

  marked_char : char_of k a ≡ mark
  marked_char = by (eqb (char_of k a) mark) refl (sym fed_takes ∙ puts_arg k a fed once)
    where
      by : (b : Bool) → eqb (char_of k a) mark ≡ b → ◌≡◌ {A = List ℕ} [] (elim b [ true ↦ behind (arg_of k fed.args) | false ↦ arg_of k fed.args ])
          → char_of k a ≡ mark
      by true e h = eqb-true _ _ e
      by false e h = let o = h ∙ fed_arg in let z : ◌≡◌ {A = ℕ} 0 1 = cc in absurd (omega arith)

  marked_assigned : has k (assigned a) ≡ true
  marked_assigned = by (has k (assigned a)) refl
    where
      by : (b : Bool) → has k (assigned a) ≡ b → b ≡ true
      by true e = refl
      by false e = let o = sym fed_takes ∙ arg_unmoved k a e fed ∙ fed_arg in let z : ◌≡◌ {A = ℕ} 0 1 = cc in absurd (omega arith)

-- ---- the signals one by one

-- of the first s signals, those with `#` are n characters further; all other feeds are as they were
pub record Skipped (text given before : List ℕ) (level n s : ℕ) (feeds : List ℕ) : Type 0 where
  pub long : length feeds ≡ length before
  pub further : (k : ℕ) → k < s → get_or given k 0 ≡ mark → (cs : List ℕ) → Feeds text (feed_at before level k) cs → Feeds text (feed_at feeds level k) (drop n cs)
  pub kept : (l k : ℕ) → k < signals_most → (l ≡ level → k < s → get_or given k 0 ≡ mark → ⊥) → feed_at feeds l k ≡ feed_at before l k

module _ {text given before : List ℕ} {level n : ℕ} where
  module _ {s : ℕ} {feeds : List ℕ} (x : Skipped text given before level n s feeds) (below : s < signals_most) where
    -- `#`
    pub skipped_mark : {f r : Feed} {feeds' : List ℕ} → get_or given s 0 ≡ mark → f ≡ feed_at feeds level s → Skips text f n r → Fills feeds level s r feeds'
        → Skipped text given before level n (s + 1) feeds'
    skipped_mark {f} {r} {feeds'} e is past w =
        record {
          long = w.long ∙ x.long;
          further = λ k h m cs c. by k h m cs c (eqb s k) refl;
          kept = λ l k b o. w.others l k (λ z. o (omega arith) (omega arith) (subst (λ (j : ℕ). get_or given j 0 ≡ mark) (omega arith) e)) ∙ x.kept l k b (λ i h m. o i (omega arith) m);
        }
      where
        by : (k : ℕ) → k < s + 1 → get_or given k 0 ≡ mark → (cs : List ℕ) → Feeds text (feed_at before level k) cs → (b : Bool) → eqb s k ≡ b
            → Feeds text (feed_at feeds' level k) (drop n cs)
        by k h m cs c true z =
            let i : s ≡ k = eqb-true s k z in
            let from = is ∙ x.kept level s below (λ j l d. omega arith) in
            subst (λ (j : ℕ). Feeds text (feed_at feeds' level j) (drop n cs)) i
            (subst (λ (v : Feed). Feeds text v (drop n cs)) (sym w.here) (past.left cs (subst (λ (v : Feed). Feeds text v cs) (sym from) (rw i c))))
        by k h m cs c false z =
            let o = eqb-false s k z in
            subst (λ (v : Feed). Feeds text v (drop n cs)) (sym (w.others level k (λ q. omega arith))) (x.further k (omega arith) m cs c)

    -- none
    pub skipped_other : (get_or given s 0 ≡ mark → ⊥) → Skipped text given before level n (s + 1) feeds
    skipped_other o =
        record {
          long = x.long;
          further = λ k h m cs c.
              let d : k ≡ s → ⊥ = λ q. o (subst (λ (j : ℕ). get_or given j 0 ≡ mark) q m) in
              x.further k (omega arith) m cs c;
          kept = λ l k b p. x.kept l k b (λ i h m. p i (omega arith) m);
        }

-- ---- all of them

module _ {text given before feeds values : List ℕ} {level n s : ℕ} (x : Skipped text given before level n s feeds) where
  pub skipped_others : Others level values values before feeds
  skipped_others = record { rows = λ i h. refl; feeds_kept = λ l k b o. x.kept l k b (λ e h m. o e); values_long = refl; feeds_long = x.long }

  module _ {a : Assigns} {u : State} {table signals : ℕ} (all : signals ≤ s) (g : Given a given) (p : Playable signals a u.args)
      (h : Shows text signals values table before level u) where
    arg : (k : ℕ) → k < signals_most → Feeds text (feed_at before level k) (arg_of k u.args) → Feeds text (feed_at feeds level k) (arg_of k (skipped n a u).args)
    arg k b e = by (has k (marked a)) refl
      where
        by : (z : Bool) → has k (marked a) ≡ z → Feeds text (feed_at feeds level k) (arg_of k (skipped n a u).args)
        by true m =
            let under = p.below k (marked_assigned k a g.once m) in
            subst (Feeds text (feed_at feeds level k)) (sym (skipped_arg n a u k g.once m))
            (x.further k (omega arith) (g.gave.each k b ∙ marked_char k a g.once m) (arg_of k u.args) e)
        by false m =
            let same = x.kept level k b (λ i l c. true≢false (sym (char_marked k a (eq-eqb _ _ (sym (g.gave.each k b) ∙ c))) ∙ m)) in
            subst (Feeds text (feed_at feeds level k)) (sym (kept_arg n a u k m)) (subst (λ (f : Feed). Feeds text f (arg_of k u.args)) (sym same) e)

    pub skipped_shows : Shows text signals values table feeds level (skipped n a u)
    unfolding skipped
    skipped_shows =
        record {
          pins_are = h.pins_are;
          table_is = h.table_is;
          args_are = record {
            each = λ k t. let e = h.args_are.each k (ap (has k) (sym (skipped_supplied n a u)) ∙ t) in (e.0, arg k e.0 e.1);
          };
        }

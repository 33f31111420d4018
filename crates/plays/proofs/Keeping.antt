-- What is kept while a body is played at a level: lengths, the rows of callers' pins, and callers' arguments.
use Prim.Native.Nat.{ℕ, ◌+◌, ◌*◌, ◌<◌, ◌≤◌}
use native.Mathlib.Omega.{arith}
use mathlib.Core.Path.{◌≡◌, refl, sym, ap, ◌∙◌}
use mathlib.Core.List.{List}
use lib.ListN.{length, get_or, take}
use Rattle.meaning.specs.Bounds.{signals_most}
use Rattle.meaning.specs.Body.{Args}
use Rattle.meaning.specs.Run.{State}
use Rattle.pins.specs.Shown.{Shows, Others, Feeding, feeds_length, feed_at, levels}
use Rattle.plays.specs.Plays.{Ground, Arrays, arrays, Sized, Kept}

pub kept_none : {level : ℕ} {x : Arrays} → Kept level x x
kept_none = record { rows = λ i l h. refl; arguments = λ l s h k. refl; values_long = refl; feeds_long = refl; args_long = refl }

pub kept_then : {level : ℕ} {x y z : Arrays} → Kept level x y → Kept level y z → Kept level x z
kept_then a b = record {
  rows = λ i l h. b.rows i l h ∙ a.rows i l h;
  arguments = λ l s h k. b.arguments l s h k ∙ a.arguments l s h k;
  values_long = b.values_long ∙ a.values_long;
  feeds_long = b.feeds_long ∙ a.feeds_long;
  args_long = b.args_long ∙ a.args_long;
}

module _ {g : Ground} {level : ℕ} {values feeds args : List ℕ} (s : Sized g level (arrays values feeds args)) where
  -- only room for arguments was used
  pub kept_args : {args' : List ℕ} → length args' ≡ signals_most * 2 → Kept level (arrays values feeds args) (arrays values feeds args')
  kept_args e = record { rows = λ i l h. refl; arguments = λ l s h k. refl; values_long = refl; feeds_long = refl; args_long = e ∙ sym s.args_long }

  -- a statement that changes no other level
  pub kept_others : {values' feeds' args' : List ℕ} → Others level values values' feeds feeds' → length args' ≡ signals_most * 2
      → Kept level (arrays values feeds args) (arrays values' feeds' args')
  kept_others o e = record {
    rows = λ i l h. o.rows i l;
    arguments = λ l s h k. o.feeds_kept l s h (λ q. omega arith);
    values_long = o.values_long;
    feeds_long = o.feeds_long;
    args_long = e ∙ sym s.args_long;
  }

  -- room for arguments was used, and the pins were written
  pub kept_passed : {values' args' : List ℕ} → length args' ≡ signals_most * 2 → length values' ≡ length values
      → ((i : ℕ) → signals_most ≤ i → get_or values' i 0 ≡ get_or values i 0) → Kept level (arrays values feeds args) (arrays values' feeds args')
  kept_passed e l h = record { rows = λ i m q. h i m; arguments = λ l s q k. refl; values_long = l; feeds_long = refl; args_long = e ∙ sym s.args_long }

  -- the same, and the arguments of the next level were written
  pub kept_used : {values' feeds' args' : List ℕ} → length args' ≡ signals_most * 2 → length values' ≡ length values → ((i : ℕ) → signals_most ≤ i → get_or values' i 0 ≡ get_or values i 0)
      → length feeds' ≡ feeds_length → ((l s : ℕ) → s < signals_most → (l ≡ level + 1 → ⊥) → feed_at feeds' l s ≡ feed_at feeds l s)
      → Kept level (arrays values feeds args) (arrays values' feeds' args')
  kept_used e l r f h = record {
    rows = λ i m q. r i m;
    arguments = λ l s q k. h l s q (λ z. omega arith);
    values_long = l;
    feeds_long = f ∙ sym s.roomy.feeds_long;
    args_long = e ∙ sym s.args_long;
  }

  -- without pins
  pub kept_supplied : {feeds' args' : List ℕ} → length args' ≡ signals_most * 2 → length feeds' ≡ feeds_length
      → ((l s : ℕ) → s < signals_most → (l ≡ level + 1 → ⊥) → feed_at feeds' l s ≡ feed_at feeds l s) → Kept level (arrays values feeds args) (arrays values feeds' args')
  kept_supplied e f h = kept_used e refl (λ i l. refl) f h

module _ {g : Ground} {x y : Arrays} where
  pub sized_kept : {level : ℕ} → Sized g level x → Kept level x y → Sized g level y
  sized_kept s k = record {
    roomy = record {
      few = s.roomy.few;
      values_long = k.values_long ∙ s.roomy.values_long;
      feeds_long = k.feeds_long ∙ s.roomy.feeds_long;
      inside_levels = s.roomy.inside_levels;
    };
    args_long = k.args_long ∙ s.args_long;
    waves_long = s.waves_long;
  }

pub sized_at : {g : Ground} {x : Arrays} {level : ℕ} → Sized g level x → (other : ℕ) → other < levels → Sized g other x
sized_at s other h = record {
  roomy = record { few = s.roomy.few; values_long = s.roomy.values_long; feeds_long = s.roomy.feeds_long; inside_levels = h };
  args_long = s.args_long;
  waves_long = s.waves_long;
}

-- arguments whose feeds are as they were
pub feeding_kept : {text feeds feeds' : List ℕ} {level : ℕ} {a : Args} → Feeding text feeds level a
    → ((s : ℕ) → s < signals_most → feed_at feeds' level s ≡ feed_at feeds level s) → Feeding text feeds' level a
feeding_kept {text} {feeds} {feeds'} {level} {a} f h = record { each = λ s k. ((f.each s k).0, rw (h s (f.each s k).0) (f.each s k).1) }

-- pins that are as they were
pub shows_untouched : {text values values' feeds : List ℕ} {n table level : ℕ} {s : State} → Shows text n values table feeds level s → values' ≡ values
    → Shows text n values' table feeds level s
shows_untouched {n = n} h e = record { pins_are = h.pins_are ∙ ap (take n) (sym e); table_is = h.table_is; args_are = h.args_are }

-- the state of a level below the one whose arguments were written
pub shows_supplied : {text values feeds feeds' : List ℕ} {n table level : ℕ} {s : State} → Shows text n values table feeds level s
    → ((l j : ℕ) → j < signals_most → (l ≡ level + 1 → ⊥) → feed_at feeds' l j ≡ feed_at feeds l j) → Shows text n values table feeds' level s
shows_supplied {level = level} h k =
    record { pins_are = h.pins_are; table_is = h.table_is; args_are = feeding_kept h.args_are (λ j l. k level j l (λ q. omega arith)) }

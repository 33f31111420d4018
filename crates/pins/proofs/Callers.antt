-- For callers: tables, assignments that can be made, a V once, and what is kept at other levels.
use Prim.Native.Nat.{ℕ, zero, suc, ◌≤◌, ◌<◌}
use mathlib.Core.Path.{◌≡◌, refl, ◌∙◌}
use mathlib.Core.Option.{none, some}
use mathlib.Core.List.{List}
use borrow.Author.Tests.{lt-ltb, le-ltb}
use Rattle.meaning.specs.Bounds.{tables_most}
use Rattle.meaning.specs.Body.{Assigns}
use Rattle.meaning.specs.Run.{State, puts, follow, again}
use Rattle.pins.specs.Shown.{table_of, Roomy, Playable, Others, vector}
use Rattle.pins.proofs.Puts.{puts_supplied}

-- ---- tables

pub table_some : (k : ℕ) → k < tables_most → table_of k ≡ some k
unfolding table_of
table_some k h = rw (lt-ltb k tables_most h, table_of)

pub table_none : (k : ℕ) → tables_most ≤ k → table_of k ≡ none
unfolding table_of
table_none k h = rw (le-ltb k tables_most h, table_of)

-- ---- assignments that can be made

module _ {signals : ℕ} {a : Assigns} where
  -- an assignment takes characters of arguments, and no argument
  pub playable_puts : (b : Assigns) (s : State) → Playable signals a s.args → Playable signals a (puts b s).args
  playable_puts b s p = record { below = p.below; fed = rw (puts_supplied b s) p.fed }

  -- so it can be made in every turn
  pub playable_turns : (t p : ℕ) (b : Assigns) (s : State) → Playable signals a s.args → Playable signals a (again t (vector p b) s).0.args
  unfolding again follow
  playable_turns zero p b s h = h
  playable_turns (suc t) p b s h = playable_turns t p b (puts b s) (playable_puts b s h)

-- ---- a V once

module _ (p : ℕ) (a : Assigns) (s : State) where
  pub vector_once : again 1 (vector p a) s ≡ vector p a s
  unfolding again follow
  vector_once = refl

-- ---- other levels

pub others_none : {level : ℕ} {values feeds : List ℕ} → Others level values values feeds feeds
others_none = record { rows = λ i h. refl; feeds_kept = λ l s h o. refl; values_long = refl; feeds_long = refl }

pub others_then : {level : ℕ} {values values' values'' feeds feeds' feeds'' : List ℕ} → Others level values values' feeds feeds'
    → Others level values' values'' feeds' feeds'' → Others level values values'' feeds feeds''
others_then x y =
    record {
      rows = λ i h. y.rows i h ∙ x.rows i h;
      feeds_kept = λ l s h o. y.feeds_kept l s h o ∙ x.feeds_kept l s h o;
      values_long = y.values_long ∙ x.values_long;
      feeds_long = y.feeds_long ∙ x.feeds_long;
    }

pub roomy_kept : {signals level level' : ℕ} {values values' feeds feeds' : List ℕ} → Roomy signals values feeds level → Others level' values values' feeds feeds'
    → Roomy signals values' feeds' level
roomy_kept r o =
    record { few = r.few; values_long = o.values_long ∙ r.values_long; feeds_long = o.feeds_long ∙ r.feeds_long; inside_levels = r.inside_levels }

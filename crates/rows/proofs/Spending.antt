-- What a step leaves to be spent: less on the way to the cycle, and all of it behind.
use Prim.Native.Nat.{ℕ, ◌-◌}
use native.Mathlib.Nat.{sub-zero}
use mathlib.Core.Path.{◌≡◌, sym, ap, ◌∙◌}
use mathlib.Core.Bool.{Bool, true, false}
use Rattle.rows.specs.Went.{spends, spent}
use Rattle.rows.specs.declared.Walk.{Walk}

module _ (w : Walk) (cost : ℕ) where
  abbrev left_to_spend : ℕ → Walk
  left_to_spend n = record { pass = w.pass; row = w.row; show = w.show; budget = n; walking = w.walking; mark = w.mark }

  pub spent_walking : w.walking ≡ true → left_to_spend (w.budget - cost) ≡ spent w cost
  spent_walking e = ap (λ (k : Bool). left_to_spend (w.budget - spends k cost)) (sym e)

  pub spent_none : w.walking ≡ false → w ≡ spent w cost
  spent_none e = ap left_to_spend (sym (sub-zero w.budget) ∙ ap (λ (k : Bool). w.budget - spends k cost) (sym e))

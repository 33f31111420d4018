-- Marks that a table's own marks cover are characters that have their waveforms.
use Prim.Native.Nat.{ℕ, ◌+◌, ◌*◌, ◌≤◌, ◌<◌}
use native.Mathlib.Omega.{arith}
use mathlib.Core.Path.{◌≡◌, sym, ap, ◌∙◌}
use mathlib.Core.Bool.{true}
use mathlib.Core.List.{List}
use lib.Dec.{ltb, eqb}
use lib.ListN.{get_or}
use borrow.Author.Tests.{ltb-true, eqb-true, eq-eqb}
use Rattle.tokens.proofs.Bools.{both}
use Rattle.meaning.specs.Bounds.{signals_most, tables_most}
use Rattle.meaning.specs.Timing.{Tables}
use Rattle.meaning.specs.Meaning.{has_wave, table_at}
use Rattle.timing.specs.Marks.{chars_most, table_size, mark}
use Rattle.timing.specs.Held.{Held}
use Rattle.noted.specs.Noted.{Covered, Fine}

pub fine_all : {tables : ℕ} {used waves : List ℕ} → tables ≤ tables_most → ((k : ℕ) → k < tables → Covered used waves k table_size)
    → (text tplaces : List ℕ) (count : ℕ) (tabs : Tables) → Held text tplaces waves count tabs → Fine tables used tabs
fine_all {tables} {used} {waves} few x text tplaces count tabs held = record { each = each }
  where
    each : (k s c : ℕ) → k < tables → s < signals_most → mark used s c ≡ true → has_wave s c (table_at tabs k) ≡ true
    each k s c h b m =
        let p = both (ltb c chars_most) (eqb (get_or used (s * chars_most + c) 0) 1) m in
        let low = ltb-true c chars_most p.0 in
        let there : k * table_size + (s * chars_most + c) ≡ (k * signals_most + s) * chars_most + c = omega arith in
        sym (held.marks k s c (omega arith) b low) ∙ eq-eqb _ 1 (ap (λ (j : ℕ). get_or waves j 0) (sym there) ∙ (x k h).each (s * chars_most + c) (omega arith) (eqb-true _ 1 p.1))

-- What a body asks by itself, asked behind a row.
use Prim.Native.Nat.{ℕ, ◌≤◌, ◌<◌}
use native.Mathlib.Omega.{arith}
use mathlib.Core.Path.{◌≡◌, sym, ◌∙◌, subst}
use mathlib.Core.Bool.{true, false}
use mathlib.Core.Option.{none, some}
use mathlib.Core.List.{List}
use Rattle.meaning.specs.Bounds.{tables_most}
use Rattle.pins.specs.Shown.{table_of}
use Rattle.pins.proofs.Callers.{table_some, table_none}
use Rattle.sums.specs.Sums.{Sum}
use Rattle.tallies.specs.Rows.{sum_at, More, Needed, Tabled}
use Rattle.tallies.proofs.Others.{Alike}

module _ {t r : ℕ} {U : Sum} {sums sums' sums'' : List ℕ} (n : Needed t sums sums' r) (k : More r sums' sums'') where
  -- there is no table yet: the one before is asked to be fine for the body too
  pub tabled_before : tables_most ≤ t → ((j : ℕ) → (sum_at sums'' r).fine j ≡ true → U.fine j ≡ true) → Tabled (sum_at sums r) U (sum_at sums'' r)
  tabled_before l f =
      let e : (sum_at sums r).table ≡ none = sym n.is ∙ table_none t l in
      record {
        chosen = λ j q b. let z : ◌≡◌ {A = ℕ} 0 1 = cc in absurd (omega arith);
        inherited = λ q. ((k.kept 0).needs (n.needs q), f);
      }

  -- there is one
  pub tabled_by : t < tables_most → ((sum_at sums'' r).bad ≡ false → U.fine t ≡ true) → Tabled (sum_at sums r) U (sum_at sums'' r)
  tabled_by l f =
      let e : (sum_at sums r).table ≡ some t = sym n.is ∙ table_some t l in
      record {
        chosen = λ j q b. let o : t ≡ j = cc in subst (λ (m : ℕ). U.fine m ≡ true) o (f b);
        inherited = λ q. let z : ◌≡◌ {A = ℕ} 0 1 = cc in absurd (omega arith);
      }

-- a table that is there
pub needed_one : {t r : ℕ} {sums : List ℕ} → t < tables_most → table_of t ≡ (sum_at sums r).table → Needed t sums sums r
needed_one {t} l e =
    record {
      slot = omega arith;
      is = e;
      needs = λ q. let o = table_some t l in let z : ◌≡◌ {A = ℕ} 0 1 = cc in absurd (omega arith);
    }

-- ---- a step before

pub tabled_later : {S U R S' U' : Sum} → S'.table ≡ S.table → Alike U U' → Tabled S' U' R → Tabled S U R
tabled_later e u x =
    record {
      chosen = λ k q b. sym (u.fine k) ∙ x.chosen k (e ∙ q) b;
      inherited = λ q. let w = x.inherited (e ∙ q) in (w.0, λ k f. sym (u.fine k) ∙ w.1 k f);
    }

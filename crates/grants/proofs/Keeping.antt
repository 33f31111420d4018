-- What summing up keeps: marks of which something is known, and rows that stand for what is around.
use Prim.Native.Nat.{ℕ, ◌+◌, ◌*◌, ◌-◌, ◌<◌, ◌≤◌}
use native.Mathlib.Omega.{arith}
use mathlib.Core.Path.{◌≡◌, refl, sym, ◌∙◌}
use mathlib.Core.List.{List}
use lib.ListN.{length, get_or, set, length-set}
use lib.Seq.{get_or-set_same, get_or-set_other}
use Rattle.meaning.specs.Bounds.{depth_most}
use Rattle.measures.specs.Book.{bodies}
use Rattle.plays.specs.Plays.{Ground}
use Rattle.tallies.specs.Rows.{row_size, sum_at, Only}
use Rattle.tallies.proofs.Stored.{other_row}
use Rattle.grants.specs.Grants.{loop_row, is_begun, Fixed, Open, Kept, Sized}
use Rattle.grants.proofs.Same.{same_sum}

-- ---- rows that are fixed

pub open_fixed : {more q : ℕ} {marks : List ℕ} → Open more marks q → Fixed more marks q
open_fixed o = record { within = o.within; known = λ b e. omega (arith, o.begun b) }

-- at a deeper place there are more of them
fixed_deeper : {more q : ℕ} {marks : List ℕ} → Fixed more marks q → Fixed (more - 1) marks q
fixed_deeper f = record { within = omega (arith, f.within); known = f.known }

module _ {more r : ℕ} {marks marks' sums sums' : List ℕ} (k : Kept more r marks marks' sums sums') where
  fixed_kept : {q : ℕ} → Fixed more marks q → Fixed more marks' q
  fixed_kept {q} f = record { within = f.within; known = λ b e. f.known b (sym (k.marks_kept q (f.known b)) ∙ e) }

  pub open_kept : {q : ℕ} → Open more marks q → Open more marks' q
  open_kept {q} o = record { within = o.within; begun = λ b. k.marks_kept q (λ e. omega (arith, o.begun b)) ∙ o.begun b }

  pub sized_kept : {g : Ground} {q : ℕ} → Sized g more q marks sums → Sized g more q marks' sums'
  sized_kept s = record {
    marks_long = k.marks_long ∙ s.marks_long;
    sums_long = k.sums_long ∙ s.sums_long;
    waves_long = s.waves_long;
    few = s.few;
    row = open_kept s.row;
  }

  -- another row that is fixed holds the same sum
  pub kept_sum : {q : ℕ} → Fixed more marks q → (q ≡ r → ⊥) → sum_at sums' q ≡ sum_at sums q
  kept_sum {q} f d = same_sum q sums sums' (λ p h. k.rows_kept q f d p h)

  pub kept_then : {marks'' sums'' : List ℕ} → Kept more r marks' marks'' sums' sums'' → Kept more r marks marks'' sums sums''
  kept_then l = record {
    marks_long = l.marks_long ∙ k.marks_long;
    sums_long = l.sums_long ∙ k.sums_long;
    marks_kept = λ q h. (let e = k.marks_kept q h in l.marks_kept q (λ z. h (sym e ∙ z)) ∙ e);
    rows_kept = λ q f d p h. l.rows_kept q (fixed_kept f) d p h ∙ k.rows_kept q f d p h;
  }

module _ {more r : ℕ} {marks sums : List ℕ} where
  pub kept_none : Kept more r marks marks sums sums
  kept_none = record { marks_long = refl; sums_long = refl; marks_kept = λ q h. refl; rows_kept = λ q f d p h. refl }

  pub kept_only : {sums' : List ℕ} → Only r sums sums' → Kept more r marks marks sums sums'
  kept_only o = record { marks_long = refl; sums_long = o.long; marks_kept = λ q h. refl; rows_kept = λ q f d p h. other_row o q p d h }

  -- what is kept at a deeper place is kept
  pub kept_deeper : {marks' sums' : List ℕ} → Kept (more - 1) r marks marks' sums sums' → Kept more r marks marks' sums sums'
  kept_deeper k = record {
    marks_long = k.marks_long;
    sums_long = k.sums_long;
    marks_kept = k.marks_kept;
    rows_kept = λ q f d p h. k.rows_kept q (fixed_deeper f) d p h;
  }

-- ---- a Loop's row

module _ {more row : ℕ} {marks : List ℕ} (is : row ≡ loop_row more) (some : 0 < more) (levels : more ≤ depth_most) where
  pub open_loop : Open (more - 1) marks row
  open_loop = record { within = omega (arith, is, some, levels); begun = λ b. absurd (omega (arith, is, levels)) }

  pub sized_loop : {g : Ground} {r : ℕ} {sums sums₁ : List ℕ} → Sized g more r marks sums → Only row sums sums₁ → Sized g (more - 1) row marks sums₁
  sized_loop s o = record { marks_long = s.marks_long; sums_long = o.long ∙ s.sums_long; waves_long = s.waves_long; few = s.few; row = open_loop }

  pub below_loop : {q : ℕ} → Fixed more marks q → q ≡ row → ⊥
  below_loop f e = omega (arith, f.within, is)

  pub kept_loop : {sums sums₁ sums₂ marks₂ : List ℕ} (r : ℕ) → Only row sums sums₁ → Kept (more - 1) row marks marks₂ sums₁ sums₂ → Kept more r marks marks₂ sums sums₂
  kept_loop r o k = record {
    marks_long = k.marks_long;
    sums_long = k.sums_long ∙ o.long;
    marks_kept = k.marks_kept;
    rows_kept = λ q f d p h. k.rows_kept q (fixed_deeper f) (below_loop f) p h ∙ other_row o q p (below_loop f) h;
  }

-- ---- a body of which nothing was known

module _ {more : ℕ} (i : ℕ) (marks : List ℕ) (within : i < bodies) (unknown : get_or marks i 0 ≡ 0) where
  unfixed : {q : ℕ} → Fixed more marks q → q ≡ i → ⊥
  unfixed f e = f.known (omega arith) (rw e unknown)

  module _ {marks' sums sums' : List ℕ} (k : Kept more i marks marks' sums sums') (r : ℕ) where
    pub kept_body : Kept more r marks marks' sums sums'
    kept_body = record {
      marks_long = k.marks_long;
      sums_long = k.sums_long;
      marks_kept = k.marks_kept;
      rows_kept = λ q f d p h. k.rows_kept q f (unfixed f) p h;
    }

    -- it is marked
    pub kept_marked : (v : ℕ) → Kept more r marks (set marks' i v) sums sums'
    kept_marked v = record {
      marks_long = length-set marks' i v ∙ k.marks_long;
      sums_long = k.sums_long;
      marks_kept = λ q h. get_or-set_other marks' i q v 0 (λ e. h (rw e unknown)) ∙ k.marks_kept q h;
      rows_kept = kept_body.rows_kept;
    }

  -- it is begun
  pub kept_begun : (sums : List ℕ) → Kept more i marks (set marks i is_begun) sums sums
  kept_begun sums = kept_marked kept_none i is_begun

  pub open_begun : length marks ≡ bodies → more ≤ depth_most → Open more (set marks i is_begun) i
  open_begun long levels = record { within = omega arith; begun = λ b. get_or-set_same marks i is_begun 0 (omega arith) }

-- ---- room for a row

pub room : {g : Ground} {more r : ℕ} {marks sums : List ℕ} → Sized g more r marks sums → r * row_size + row_size ≤ length sums
room s = omega (arith, s.sums_long, s.row.within)

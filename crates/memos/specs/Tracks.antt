-- What is tracked of a signal while a use is played: a mark for each table under which what stood on it before was shown, and one where it was assigned since.
-- So it is known from which other pins the use could have been played as well, and what it would have left.
use Rattle.std.specs.Prelude.{ℕ, zero, suc, ◌+◌, ◌*◌, ◌/◌, ◌%◌, ◌<◌, ◌≤◌, ◌≡◌, Bool, true, false, ◌||◌, ◌⊎◌, List, length, get_or, eqb, ltb}
use Rattle.std.proofs.Math.Option.{none}
use Rattle.meaning.specs.Bounds.{signals_most, tables_most, depth_most}
use Rattle.meaning.specs.Timing.{Tables}
use Rattle.meaning.specs.Run.{State, Played, unassigned, follow}
use Rattle.meaning.specs.Meaning.{has_wave, table_at, first_failing}

-- ---- marks, as a number

unfoldable pub bit_of : ℕ → ℕ
bit_of zero = 1
bit_of (suc t) = 2 * bit_of t

unfoldable pub is_marked : ℕ → ℕ → Bool
is_marked m t = eqb (m / bit_of t % 2) 1

-- the mark of a signal that was assigned stands behind those of the tables
abbrev pub assigned_mark : ℕ
assigned_mark = tables_most

abbrev pub marks_most : ℕ
marks_most = 512

-- r has one mark more than m
pub record Marks (m t r : ℕ) : Type 0 where
  pub few : r < marks_most
  pub each : (u : ℕ) → u ≤ assigned_mark → is_marked r u ≡ (eqb t u || is_marked m u)

-- r has the marks of a, and of b where a has not that of an assigned signal
pub record Joins (a b r : ℕ) : Type 0 where
  pub kept : (u : ℕ) → u ≤ assigned_mark → is_marked a u ≡ true → is_marked r u ≡ true
  pub more : is_marked a assigned_mark ≡ false → (u : ℕ) → u ≤ assigned_mark → is_marked b u ≡ true → is_marked r u ≡ true
  pub only : is_marked r assigned_mark ≡ true → (is_marked a assigned_mark ≡ true) ⊎ (is_marked b assigned_mark ≡ true)

-- what a V under a table marks on a signal that it gives g, 0 for nothing; under none it marks what is assigned alone
unfoldable pub shown_marks : ℕ → ℕ → ℕ
shown_marks g t = elim (eqb g 0) [ true ↦ elim (ltb t tables_most) [ true ↦ bit_of t | false ↦ 0 ] | false ↦ bit_of assigned_mark ]

-- ---- the row of a level

-- for each level of bodies in each other, and each signal
abbrev pub tracks_length : ℕ
tracks_length = (depth_most + 1) * signals_most

-- a signal's marks, from a place on
abbrev pub marks_from : List ℕ → ℕ → ℕ → ℕ
marks_from memo o s = get_or memo (o + s) 0 % marks_most

abbrev pub marks_at : List ℕ → ℕ → ℕ → ℕ
marks_at memo level = marks_from memo (level * signals_most)

-- ---- what they mean

-- c can be shown on signal i under each table that m marks
pub record Granted (tabs : Tables) (m i c : ℕ) : Type 0 where
  pub each : (k : ℕ) → k < tables_most → is_marked m k ≡ true → (eqb c unassigned || has_wave i c (table_at tabs k)) ≡ true

-- z has the table and the arguments of s, and on each signal its character or one that is granted
pub record Like (tabs : Tables) (n : ℕ) (m : ℕ → ℕ) (s z : State) : Type 0 where
  pub wide : length z.pins ≡ n
  pub table_same : z.table ≡ s.table
  pub args_same : z.args ≡ s.args
  pub pins_are : (i : ℕ) → i < n → (get_or z.pins i 0 ≡ get_or s.pins i 0) ⊎ Granted tabs (m i) i (get_or z.pins i 0)

-- where y is left from some state, w is left from z: what was assigned is there, all else is as in z
pub record Lands (n : ℕ) (m : ℕ → ℕ) (z y w : State) : Type 0 where
  pub wide : length w.pins ≡ n
  pub table_same : w.table ≡ y.table
  pub args_same : w.args ≡ y.args
  pub put : (i : ℕ) → i < n → is_marked (m i) assigned_mark ≡ true → get_or w.pins i 0 ≡ get_or y.pins i 0
  pub kept : (i : ℕ) → i < n → is_marked (m i) assigned_mark ≡ false → get_or w.pins i 0 ≡ get_or z.pins i 0

-- THE PROMISE: h, played from s or from any state like it, has no cycle that fails, and leaves what the marks say
pub record Tracked (tabs : Tables) (n : ℕ) (m : ℕ → ℕ) (s : State) (h : State → Played) : Type 0 where
  pub each : (z : State) → Like tabs n m s z → (first_failing tabs (h z).1 ≡ none) × Lands n m z (h s).0 (h z).0

-- whatever was tracked up to the state s, f is tracked too
pub record Tracking (tabs : Tables) (n level : ℕ) (memo memo' : List ℕ) (s : State) (f : State → Played) : Type 0 where
  pub on : 0 < level → tracks_length ≤ length memo → (s₀ : State) (h : State → Played) → length s₀.pins ≡ n → (h s₀).0 ≡ s
      → Tracked tabs n (marks_at memo level) s₀ h → Tracked tabs n (marks_at memo' level) s₀ (λ z. follow (h z) f)

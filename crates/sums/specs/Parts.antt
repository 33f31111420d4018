-- What must hold of a sum that is made of others, so that its promise is kept. It may ask for more than is needed: a text that asks too much is played.
use Rattle.std.specs.Prelude.{ℕ, ◌<◌, ◌≤◌, ◌≡◌, true, false, List, [], ◌∷◌, length, eqb}
use Rattle.std.proofs.Math.Option.{Option, none, some}
use Rattle.meaning.specs.Lists.{has}
use Rattle.meaning.specs.Timing.{Tables}
use Rattle.meaning.specs.Body.{Assigns, Args, mark, Body, outside, arg_of}
use Rattle.sums.specs.Sums.{Shown, before, argument, char, Sum, ok_at, or_table, due, Sums}

-- nothing was played
pub record Nothing (n : ℕ) (S : Sum) : Type 0 where
  pub pins_are : (i : ℕ) → i < n → S.pin i ≡ before
  pub table_is : S.table ≡ none

-- ---- behind S

-- what a sum asks, another asks too
pub record Kept (n : ℕ) (S R : Sum) : Type 0 where
  pub good : R.bad ≡ false → S.bad ≡ false
  pub needs : S.needs ≡ true → R.needs ≡ true
  pub fine : (k : ℕ) → R.fine k ≡ true → S.fine k ≡ true
  pub under : (i : ℕ) (t : Option ℕ) → i < n → S.under i t ≡ true → R.under i t ≡ true
  pub given : (i : ℕ) (t : Option ℕ) → i < n → S.given i t ≡ true → R.given i t ≡ true

-- assignments: each signal has its character, or the next of its argument
unfoldable pub shown_one : ℕ × ℕ → ℕ → Shown → Shown
shown_one y i x = elim (eqb y.0 i) [ true ↦ elim (eqb y.1 mark) [ true ↦ argument | false ↦ char y.1 ] | false ↦ x ]

unfoldable pub shown_by : Assigns → ℕ → Shown → Shown
shown_by [] i x = x
shown_by (y ∷ r) i x = shown_by r i (shown_one y i x)

pub record Assigned (n : ℕ) (a : Assigns) (S R : Sum) : Type 0 where
  pub kept : Kept n S R
  pub pins_are : (i : ℕ) → i < n → R.pin i ≡ shown_by a i (S.pin i)
  pub table_is : R.table ≡ S.table

pub record Chosen (n k : ℕ) (S R : Sum) : Type 0 where
  pub kept : Kept n S R
  pub pins_are : (i : ℕ) → i < n → R.pin i ≡ S.pin i
  pub table_is : R.table ≡ some k

-- what x, that S has on signal i, asks where it is shown under the table t: R asks it
pub record Shows (tabs : Tables) (i : ℕ) (x : Shown) (t : Option ℕ) (R : Sum) : Type 0 where
  pub held : x ≡ before → R.under i t ≡ true
  pub fed : x ≡ argument → R.given i t ≡ true
  pub chosen : (c k : ℕ) → x ≡ char c → t ≡ some k → R.bad ≡ false → ok_at tabs (some k) i c ≡ true
  pub inherited : (c : ℕ) → x ≡ char c → t ≡ none → (R.needs ≡ true) × ((k : ℕ) → R.fine k ≡ true → ok_at tabs (some k) i c ≡ true)

-- a cycle: all that stands on the n signals is shown under the table in force
pub record Cycled (tabs : Tables) (n : ℕ) (S R : Sum) : Type 0 where
  pub kept : Kept n S R
  pub shows : (i : ℕ) → i < n → Shows tabs i (S.pin i) S.table R
  pub tabled : S.table ≡ none → R.needs ≡ true
  pub pins_are : (i : ℕ) → i < n → R.pin i ≡ S.pin i
  pub table_is : R.table ≡ S.table

-- ---- a body of sum U, entered behind S with these arguments of each signal: R asks what U asks

pub record Entered (tabs : Tables) (n : ℕ) (S U : Sum) (args : ℕ → List ℕ) (R : Sum) : Type 0 where
  pub kept : Kept n S R
  pub good : R.bad ≡ false → U.bad ≡ false
  -- what it shows by itself under the table before it
  pub chosen : (k : ℕ) → U.needs ≡ true → S.table ≡ some k → R.bad ≡ false → U.fine k ≡ true
  pub inherited : U.needs ≡ true → S.table ≡ none → (R.needs ≡ true) × ((k : ℕ) → R.fine k ≡ true → U.fine k ≡ true)
  -- its arguments
  pub fed : (i : ℕ) (t : Option ℕ) → i < n → U.given i t ≡ true → (c : ℕ) → has c (args i) ≡ true → Shows tabs i (char c) (or_table t S.table) R

-- arguments just as long as is due for u turns of the body's Shift, so that none is left
pub record Exact (u : ℕ) (b : Body) (a : Args) : Type 0 where
  pub lengths : (i : ℕ) → length (arg_of i a) ≡ due u b i

-- a macro shows what stands on the signals before it, and leaves what it assigns: of an argument its last character
unfoldable pub last_of : List ℕ → ℕ → ℕ
last_of [] c = c
last_of (x ∷ xs) c = last_of xs x

unfoldable pub behind : Shown → Shown → List ℕ → Shown
behind x before l = x
behind x (char c) l = char c
behind x argument l = char (last_of l 0)

pub record InPlace (tabs : Tables) (n : ℕ) (S U : Sum) (args : ℕ → List ℕ) (R : Sum) : Type 0 where
  pub entered : Entered tabs n S U args R
  pub shows : (i : ℕ) (t : Option ℕ) → i < n → U.under i t ≡ true → Shows tabs i (S.pin i) (or_table t S.table) R
  pub pins_are : (i : ℕ) → i < n → R.pin i ≡ behind (S.pin i) (U.pin i) (args i)
  pub table_is : R.table ≡ or_table U.table S.table

-- a procedure begins with every signal unassigned, and leaves nothing
pub record Called (tabs : Tables) (n : ℕ) (S U : Sum) (args : ℕ → List ℕ) (R : Sum) : Type 0 where
  pub entered : Entered tabs n S U args R
  -- an unassigned signal needs a table too: one that is there, or is asked for
  pub tabled : (i : ℕ) (t : Option ℕ) → i < n → U.under i t ≡ true → or_table t S.table ≡ none → R.needs ≡ true
  pub pins_are : (i : ℕ) → i < n → R.pin i ≡ S.pin i
  pub table_is : R.table ≡ S.table

-- ---- a Loop of m turns whose body has sum U

-- it has no `#`
abbrev pub no_args : ℕ → List ℕ
no_args i = []

-- from so many turns on it is entered twice: the second turn begins where the first ended, and all behind it are like it
abbrev pub several : ℕ
several = 2

pub record Looped (tabs : Tables) (n m : ℕ) (S U R : Sum) : Type 0 where
  pub some_turn : 1 ≤ m
  pub once : m < several → InPlace tabs n S U no_args R
  pub twice : several ≤ m → (A : Sum) × InPlace tabs n S U no_args A × InPlace tabs n A U no_args R

-- ---- the run

-- asked of no table and every signal unassigned: nothing that isn't there
pub record Alone (n : ℕ) (S : Sum) : Type 0 where
  pub good : S.bad ≡ false
  pub untabled : S.needs ≡ false
  pub unshown : (i : ℕ) → i < n → S.under i none ≡ false

-- a listed pattern that is known to play
pub record Cleared (tabs : Tables) (n : ℕ) (b : Body) : Type 0 where
  pub sum : Sum
  pub unmarked : outside b ≡ []
  pub sums : Sums tabs n 0 b sum
  pub alone : Alone n sum

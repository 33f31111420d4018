-- What a body asks of the state in which it begins, so that no cycle of it fails, and what it makes of that state: summed up once, and asked wherever the body is used.
use Rattle.std.specs.Prelude.{ℕ, ◌+◌, ◌*◌, ◌<◌, ◌≤◌, ◌≡◌, Bool, true, false, ◌||◌, List, ◌∷◌, ◌++◌, length, get_or, drop, eqb}
use Rattle.std.proofs.Math.Option.{Option, none, some}
use Rattle.meaning.specs.Lists.{has, count}
use Rattle.meaning.specs.Timing.{Tables}
use Rattle.meaning.specs.Body.{Args, Body, arg_of, outside, shifting}
use Rattle.meaning.specs.Run.{State, unassigned, play}
use Rattle.meaning.specs.Meaning.{has_wave, table_at, first_failing}

-- what stands on a signal: what stood there before, a character, or the one that its argument gave last
pub data Shown : Type 0 where
  before argument : Shown
  char : ℕ → Shown

pub record Sum : Type 0 where
  -- a cycle of it may fail, whatever stood before
  pub bad : Bool
  -- a cycle of it shows a character by itself under the table before
  pub needs : Bool
  -- those tables before under which every such character has its waveform
  pub fine : ℕ → Bool
  -- under a table (none: the one before) it shows what stood on a signal before
  pub under : ℕ → Option ℕ → Bool
  -- under a table it shows characters of a signal's argument
  pub given : ℕ → Option ℕ → Bool
  -- what it leaves: on each signal, and the table where it chooses one
  pub pin : ℕ → Shown
  pub table : Option ℕ

-- ---- what is asked

-- the character c can be shown on signal i under a table
unfoldable pub ok_at : Tables → Option ℕ → ℕ → ℕ → Bool
ok_at tabs none i c = false
ok_at tabs (some k) i c = eqb c unassigned || has_wave i c (table_at tabs k)

-- the table of a cycle: one that was chosen, or that before
unfoldable pub or_table : Option ℕ → Option ℕ → Option ℕ
or_table none t = t
or_table (some k) t = some k

pub record Asks (tabs : Tables) (n : ℕ) (S : Sum) (s : State) : Type 0 where
  pub good : S.bad ≡ false
  pub tabled : S.needs ≡ true → (k : ℕ) × (s.table ≡ some k) × (S.fine k ≡ true)
  pub shown : (i : ℕ) (t : Option ℕ) → i < n → S.under i t ≡ true → ok_at tabs (or_table t s.table) i (get_or s.pins i 0) ≡ true
  pub fed : (i : ℕ) (t : Option ℕ) → i < n → S.given i t ≡ true → (c : ℕ) → has c (arg_of i s.args) ≡ true → ok_at tabs (or_table t s.table) i c ≡ true

-- ---- what is left

-- signal i behind it, where s was before and s' is behind
unfoldable pub Stands : Shown → ℕ → State → State → Type 0
Stands before i s s' = get_or s'.pins i 0 ≡ get_or s.pins i 0
Stands (char c) i s s' = get_or s'.pins i 0 ≡ c
Stands argument i s s' = (front : List ℕ) × (c : ℕ) × (arg_of i s.args ≡ front ++ c ∷ arg_of i s'.args) × (get_or s'.pins i 0 ≡ c)

pub record Leaves (n : ℕ) (S : Sum) (s s' : State) : Type 0 where
  pub wide : length s'.pins ≡ n
  pub table_is : s'.table ≡ or_table S.table s.table
  pub pins_are : (i : ℕ) → i < n → Stands (S.pin i) i s s'
  -- of an argument only its front is gone
  pub args_are : (i : ℕ) → (front : List ℕ) × (arg_of i s.args ≡ front ++ arg_of i s'.args)

-- ---- THE PROMISE

-- how many characters of signal i's argument a body takes, with t turns of its Shift
unfoldable pub due : ℕ → Body → ℕ → ℕ
due t b i = count i (outside b) + t * count i (shifting b)

-- enough are left for every `#`
abbrev pub Enough : ℕ → Body → Args → Type 0
Enough t b args = (i : ℕ) → due t b i ≤ length (arg_of i args)

pub record Sums (tabs : Tables) (n t : ℕ) (b : Body) (S : Sum) : Type 0 where
  -- it takes so many, in whatever state it begins
  pub used : (s : State) (i : ℕ) → arg_of i (play t b s).0.args ≡ drop (due t b i) (arg_of i s.args)
  pub each : (s : State) → length s.pins ≡ n → Enough t b s.args → Asks tabs n S s
      → (first_failing tabs (play t b s).1 ≡ none) × Leaves n S s (play t b s).0

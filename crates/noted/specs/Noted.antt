-- What a text assigns at all: a mark for each signal and character that one of its V's, C's or arguments gives it. Where every table has a waveform for each
-- mark, and a table is in force, no cycle can fail.
use Rattle.std.specs.Prelude.{ℕ, ◌+◌, ◌*◌, ◌<◌, ◌≡◌, true, false, List, [], ◌∷◌, length, get_or, eqb}
use Rattle.meaning.specs.Bounds.{signals_most}
use Rattle.meaning.specs.Lists.{has}
use Rattle.meaning.specs.Timing.{Tables}
use Rattle.meaning.specs.Meaning.{has_wave, table_at}
use Rattle.meaning.specs.Body as body
use Rattle.meaning.specs.Body.{Assigns, Args, Setting, assigning, choosing, Kind, macro, procedure, listed, Way, looped, shifted, entered, Body, done, vec, set', inner}
use Rattle.timing.specs.Marks.{chars_most, table_size, mark}

-- no mark is lost
pub record Grows (before behind : List ℕ) : Type 0 where
  pub long : length behind ≡ length before
  pub more : (s c : ℕ) → mark before s c ≡ true → mark behind s c ≡ true

-- signal s has a mark for c, if there can be one
pub record CharNoted (used : List ℕ) (s c : ℕ) : Type 0 where
  pub is : c < chars_most → mark used s c ≡ true

-- so it has for each of these characters
pub record CharsNoted (used : List ℕ) (s : ℕ) (cs : List ℕ) : Type 0 where
  pub each : (c : ℕ) → has c cs ≡ true → CharNoted used s c

-- each character given is marked; `#` is one of an argument, which is marked where that stands
unfoldable pub Gives : List ℕ → Assigns → Type 0
Gives used [] = Unit {0}
Gives used (x ∷ xs) = (eqb x.1 body.mark ≡ false → mark used x.0 x.1 ≡ true) × Gives used xs

unfoldable pub Supplies : List ℕ → Args → Type 0
Supplies used [] = Unit {0}
Supplies used (x ∷ xs) = ((c : ℕ) → has c x.1 ≡ true → mark used x.0 c ≡ true) × Supplies used xs

-- `tables` is how many tables there are
unfoldable pub Sets : ℕ → List ℕ → Setting → Type 0
Sets tables used (assigning a) = Gives used a
Sets tables used (choosing k) = k < tables

-- a statement plays no listed pattern, which would begin without a table
abbrev pub Stated : Kind → Type 0
Stated macro = Unit {0}
Stated procedure = Unit {0}
Stated listed = ⊥

unfoldable pub Enters : List ℕ → Way → Type 0
Enters used (looped n) = Unit {0}
Enters used shifted = Unit {0}
Enters used (entered k t a) = Stated k × Supplies used a

-- all that a body assigns, and the bodies in it, is marked
unfoldable pub Noted : ℕ → List ℕ → Body → Type 0
Noted tables used done = Unit {0}
Noted tables used (vec p a r) = Gives used a × Noted tables used r
Noted tables used (set' x r) = Sets tables used x × Noted tables used r
Noted tables used (inner w b r) = Enters used w × Noted tables used b × Noted tables used r

-- ---- waveforms for the marks

-- of the first n marks, the table of number k has each that is used
pub record Covered (used waves : List ℕ) (k n : ℕ) : Type 0 where
  pub each : (i : ℕ) → i < n → get_or used i 0 ≡ 1 → get_or waves (k * table_size + i) 0 ≡ 1

-- each of the first tables has a waveform for each mark
pub record Fine (tables : ℕ) (used : List ℕ) (tabs : Tables) : Type 0 where
  pub each : (k s c : ℕ) → k < tables → s < signals_most → mark used s c ≡ true → has_wave s c (table_at tabs k) ≡ true

-- What the code has of a statement's assignments: for each signal the character that it is given, 0 where it is given none.
use Rattle.std.specs.Prelude.{ℕ, ◌*◌, ◌≤◌, ◌<◌, ◌≡◌, true, false, List, [], ◌∷◌, length, get_or, set, eqb}
use Rattle.meaning.specs.Bounds.{signals_most}
use Rattle.meaning.specs.Body.{Assigns}
use Rattle.meaning.specs.Lists.{has}
use Rattle.meaning.specs.Reader.{Reader}
use Rattle.sets.proofs.Tidy.{TidyBelow}
use Rattle.words.specs.declared.Cursor.{Cursor}
use Rattle.words.specs.Cursor.{alive, Goes}
use Rattle.signals.specs.Names.{names_most, row_length, list_at, Usable}

-- the character that signal s is given
unfoldable pub char_of : ℕ → Assigns → ℕ
char_of s [] = 0
char_of s (x ∷ xs) = elim (eqb x.0 s) [ true ↦ x.1 | false ↦ char_of s xs ]

-- all characters that are given
unfoldable pub chars : Assigns → List ℕ
chars [] = []
chars (x ∷ xs) = x.1 ∷ chars xs

-- the assignments xs, as the code has them: none gives 0
pub record Gave (xs : Assigns) (given : List ℕ) : Type 0 where
  pub long : length given ≡ signals_most
  pub real : has 0 (chars xs) ≡ false
  pub each : (s : ℕ) → s < signals_most → get_or given s 0 ≡ char_of s xs

-- THE PROMISE: the reader m, which answers assignments, goes from c to r; where it goes on, `given` has them
pub record Gives (text : List ℕ) (c : Cursor) (m : Reader Assigns) (r : Cursor) (given : List ℕ) : Type 0 where
  pub it : Assigns
  pub goes : Goes text c m r it
  pub long : length given ≡ signals_most
  pub gave : alive r ≡ true → Gave it given

-- each character to its signal
unfoldable pub placed : List ℕ → List ℕ → List ℕ → List ℕ
placed [] cs given = given
placed (s ∷ ss) [] given = given
placed (s ∷ ss) (c ∷ cs) given = placed ss cs (set given s c)

-- the name of number i has a row, and every signal of it a place in `given`
pub record Row (lists : List ℕ) (i : ℕ) (given : List ℕ) : Type 0 where
  pub rows : length lists ≡ names_most * row_length
  pub below : i < names_most
  pub tidy : TidyBelow signals_most (list_at lists i)
  pub long : length given ≡ signals_most

-- names that assignments may use
pub record Ready (text places lists : List ℕ) (names : ℕ) : Type 0 where
  pub usable : Usable text places lists names
  pub fits : names ≤ names_most

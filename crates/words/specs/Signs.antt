-- Times with a sign as the code has them: counted.
use Rattle.std.specs.Prelude.{ℕ, ◌≡◌, Bool, true, false, List}
use Rattle.meaning.specs.Reader.{Reader, ◌>>◌, due, if_ahead}
use Rattle.meaning.specs.Timing.{Signed, plus, minus, counted, time_of}
use Rattle.words.specs.Cursor.{alive, Goes}
use Rattle.words.specs.declared.Cursor.{Cursor}

abbrev pub sign_of : Bool → ℕ → Signed
sign_of true = minus
sign_of false = plus

-- what stands between the quotes
abbrev pub signed_due : Reader Signed
signed_due = if_ahead "-" (do due "-"; time_of minus) (time_of plus)

-- there is an answer, and where reading goes on the code has its count
pub record Counts (text : List ℕ) (c : Cursor) (m : Reader Signed) (r : Cursor) (n : ℕ) : Type 0 where
  pub it : Signed
  pub goes : Goes text c m r it
  pub held : alive r ≡ true → n ≡ counted it

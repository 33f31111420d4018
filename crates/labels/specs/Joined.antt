-- How the pass over the labels joins a reader of the code: the cursor behind both.
use Rattle.std.specs.Prelude.{ℕ, ◌≤◌, ◌≡◌, true, false, cond, ◌||◌, List, ltb, length}
use Rattle.std.proofs.Math.Option.{Option, none, some}
use Rattle.tokens.specs.Refusals.{text_most}
use Rattle.tokens.specs.Tokens.{toks}
use Rattle.meaning.specs.Refusals.{used_name}
use Rattle.words.specs.Cursor.{stream, alive}
use Rattle.words.specs.declared.Cursor.{Cursor}
use Rattle.meaning.specs.Labels.{used_twice}

-- a name at q is used already
abbrev pub used_at : ℕ → Cursor
used_at q = record { no = used_name; fault = 0; at = q; end = 0 }

-- where that comes before what was refused
abbrev pub sooner : Option ℕ → Cursor → Cursor
sooner none c = c
sooner (some q) c = cond (alive c || ltb q c.at) (used_at q) c

-- THE PROMISE: a reader went from s, which stands among the text's tokens, to c, and r is where it goes if each name is used once
pub record Joins (text burst : List ℕ) (s c r : Cursor) : Type 0 where
  pub off : alive s ≡ false → r ≡ c
  pub on : length text ≤ text_most → alive s ≡ true → (p : ℕ) → stream text s ≡ toks text p → r ≡ sooner (used_twice burst (stream text s)) c

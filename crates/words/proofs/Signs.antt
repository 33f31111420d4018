-- Times with a sign are read as the definition reads them, and counted.
use Prim.Native.Nat.{ℕ, ◌+◌, ◌-◌, ◌≤◌}
use native.Mathlib.Omega.{arith}
use mathlib.Core.Path.{◌≡◌, refl, sym}
use mathlib.Core.Bool.{Bool, true, false, ◌&&◌}
use mathlib.Core.List.{List}
use Rattle.tokens.specs.Written.{bytes}
use Rattle.tokens.specs.Tokens.{Tok}
use Rattle.meaning.specs.Bounds.{time_most}
use Rattle.meaning.specs.Reader.{ahead_of, due, word}
use Rattle.meaning.specs.Names.{within}
use Rattle.meaning.specs.Timing.{Signed, plus, minus, counted, picoseconds, time_of, signed_quoted}
use Rattle.meaning.proofs.Gives.{gives_within}
use Rattle.words.specs.Cursor.{alive, stream, Goes}
use Rattle.words.specs.Signs.{sign_of, signed_due, Counts}
use Rattle.words.specs.declared.Cursor.{Cursor}
use Rattle.words.proofs.Flow.{then, given, valued, read, alive_before}
use Rattle.words.proofs.Choice.{ahead_yes, ahead_no}

pub counted_before : (b : Bool) (n : ℕ) → b ≡ true → time_most - n ≡ counted (sign_of b n)
unfolding counted
counted_before true n e = refl
counted_before false n e = let z : ◌≡◌ {A = ℕ} 0 1 = cc in absurd (omega arith)

pub counted_behind : (b : Bool) (n : ℕ) → b ≡ false → time_most + n ≡ counted (sign_of b n)
unfolding counted
counted_behind false n e = refl
counted_behind true n e = let z : ◌≡◌ {A = ℕ} 0 1 = cc in absurd (omega arith)

-- a word, and the bounds on its time
pub time_counts : {text : List ℕ} {c d r : Cursor} {t : Tok} {m n : ℕ} (sign : ℕ → Signed) → Goes text c word d t
    → Goes text d (within 0 time_most (picoseconds t.word) t.at) r m → (m ≤ time_most → n ≡ counted (sign m)) → Counts text c (time_of sign) r n
unfolding time_of
time_counts {m = m} sign e f k =
    record { it = sign m; goes = then _ e (then _ f given); held = λ h. k ((gives_within 0 time_most _ _).all _ _ _ (read f h).gave) }

module _ {text : List ℕ} {c r : Cursor} {b : Bool} {n : ℕ} (e : b ≡ (alive c && ahead_of (bytes "-") (stream text c))) where
  pub minus_counts : {d : Cursor} {p : ℕ} → b ≡ true → Goes text c (due "-") d p → Counts text d (time_of minus) r n → Counts text c signed_due r n
  minus_counts h f k = record { it = k.it; goes = ahead_yes "-" _ _ e h (then _ f k.goes); held = k.held }

  pub plus_counts : b ≡ false → Counts text c (time_of plus) r n → Counts text c signed_due r n
  plus_counts h k = record { it = k.it; goes = ahead_no "-" _ _ e h k.goes; held = k.held }

-- between quotes
pub quoted_counts : {text : List ℕ} {c d e r : Cursor} {p q n : ℕ} → Goes text c (due "'") d p → Counts text d signed_due e n → Goes text e (due "'") r q
    → Goes text c signed_quoted r n
unfolding signed_quoted
quoted_counts f k g = valued (then _ f (then _ k.goes (then _ g given))) λ h. sym (k.held (alive_before g h))

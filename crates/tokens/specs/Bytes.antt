-- What each byte is (document 01, "Bytes and tokens").
use Rattle.std.specs.Prelude.{ℕ, Bool, ◌&&◌, ◌||◌, leb, eqb}

unfoldable pub between : ℕ → ℕ → ℕ → Bool
between a b x = leb a x && leb x b

-- space, tab, LF, CR
unfoldable pub blank : ℕ → Bool
blank b = eqb b 32 || eqb b 9 || eqb b 10 || eqb b 13

-- tab, LF, CR and 32 to 126
unfoldable pub allowed : ℕ → Bool
allowed b = blank b || between 32 126 b

unfoldable pub digit : ℕ → Bool
digit b = between 48 57 b

unfoldable pub letter : ℕ → Bool
letter b = between 65 90 b || between 97 122 b

-- a byte of a word: a letter, a digit, `_` or `.`
unfoldable pub wordy : ℕ → Bool
wordy b = letter b || digit b || eqb b 95 || eqb b 46

-- A sample, computed from the definitions: comments and blanks are passed with the token behind them, and the end is met again and again.
use mathlib.Core.Path.{◌≡◌, refl}
use mathlib.Core.List.{[], ◌∷◌}
use Rattle.tokens.specs.Written.{bytes, starts, cases}
use Rattle.tokens.specs.Bytes.{between, blank, allowed, digit, letter, wordy}
use Rattle.tokens.specs.Tokens.{run, outside, in_mode, act, ended, done, lex, toks, found, nothing, refused, first, next_token}
use Rattle.reader.specs.Pass.{behind, passes}

passed_over :
    (passes 5 (bytes "w_1 /*;*/ = L/H//") 0 ≡ found 0 3 ∷ found 10 1 ∷ found 12 1 ∷ found 13 1 ∷ found 14 1 ∷ [])
    × (passes 3 (bytes "L/H//") 2 ≡ found 2 1 ∷ nothing ∷ nothing ∷ [])
    × (passes 3 (bytes "w /*") 0 ≡ found 0 1 ∷ refused 3 2 ∷ refused 3 2 ∷ [])
unfolding bytes starts cases between blank allowed digit letter wordy run outside in_mode act ended done lex toks first next_token behind passes
passed_over = (refl, refl, refl)

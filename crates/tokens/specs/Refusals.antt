-- The refusals that bytes and tokens give, by their numbers in document 01, and the text's bound.
use Rattle.std.specs.Prelude.{ℕ}

abbrev pub text_most : ℕ
text_most = 65_536

-- text too long
abbrev pub too_long : ℕ
too_long = 1

-- byte not allowed
abbrev pub bad_byte : ℕ
bad_byte = 2

-- `/*` not closed
abbrev pub open_comment : ℕ
open_comment = 3

-- token not allowed here, or text ended
abbrev pub not_here : ℕ
not_here = 4

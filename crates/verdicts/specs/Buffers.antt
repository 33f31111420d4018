-- Lent buffers behind an answer, and 19 where there is no room for what else is handed out.
use Rattle.std.specs.Prelude.{ℕ, Bool, true, false, List}
use Rattle.meaning.specs.Refusals.{no_room}
use Rattle.meaning.specs.Meaning.{Answer, given, refused, answering}

-- a buffer afterwards: what the answer has for it; a refused call leaves it as it was
unfoldable pub afterwards : {A : Type 0} → (A → List ℕ) → Answer A → List ℕ → List ℕ
afterwards f (given x) buffer = f x
afterwards f (refused n p) buffer = buffer

-- 19 where there is no room for what else is handed out
abbrev pub spared : {A : Type 0} → Bool → Answer A → Answer A
spared spare a = answering a λ x. elim spare [ true ↦ given x | false ↦ refused no_room 0 ]

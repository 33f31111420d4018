-- What holds of each of a list's elements.
use mathlib.Core.List.{List, [], ◌∷◌, ◌++◌}
use Rattle.quiet.specs.Quiet.{Each}

pub each-++ : {A : Type 0} (P : A → Type 0) (a b : List A) → Each P a → Each P b → Each P (a ++ b)
unfolding Each
each-++ P [] b h k = k
each-++ P (x ∷ a) b h k = (h.0, each-++ P a b h.1 k)

-- one more behind
pub each_more : {A : Type 0} (P : A → Type 0) (a : List A) (x : A) → Each P a → P x → Each P (a ++ x ∷ [])
unfolding Each
each_more P a x h k = each-++ P a (x ∷ []) h (k, tt)

-- A word as a number: what the code's reader of digits tells is what the commands' definition says.
use Prim.Native.Nat.{ℕ, ◌+◌, ◌*◌, ◌-◌}
use mathlib.Core.Path.{◌≡◌, refl, ap, ◌∙◌}
use mathlib.Core.Bool.{true, false, ◌&&◌}
use mathlib.Core.Option.{Option, none, some}
use mathlib.Core.List.{List, [], ◌∷◌}
use lib.Dec.{leb}
use Rattle.std.specs.Prelude.{Option as Maybe, Some, None}
use Rattle.tokens.specs.Bytes.{between, digit}
use Rattle.pages.specs.Pages.{value as page_value}
use Rattle.meaning.specs.Names.{value, number}
use Rattle.words.specs.Values.{up_to, value_of}
use Rattle.lines.specs.Numbers.{number_most, at_most, number_of, told}

value_is : (m : ℕ) (s : List ℕ) → value m s ≡ page_value m s
unfolding value page_value digit between
value_is m [] = refl
value_is m (b ∷ s) = ap (λ (o : Option ℕ). elim (leb 48 b && leb b 57) as (λ x. Option ℕ) [ true ↦ o | false ↦ none ]) (value_is (m * 10 + (b - 48)) s)

at_most_is : (o : Option ℕ) → up_to number_most o ≡ at_most o
unfolding up_to at_most
at_most_is none = refl
at_most_is (some n) = refl

number_is : (w : List ℕ) → up_to number_most (number w) ≡ number_of w
unfolding number number_of up_to
number_is [] = refl
number_is (b ∷ s) = at_most_is (value 0 (b ∷ s)) ∙ ap at_most (value_is 0 (b ∷ s))

told_again : (v : Maybe ℕ) → v ≡ told (value_of v)
told_again None = refl
told_again (Some n) = refl

pub read_is : (v : Maybe ℕ) (w : List ℕ) → value_of v ≡ up_to number_most (number w) → v ≡ told (number_of w)
read_is v w e = told_again v ∙ ap told (e ∙ number_is w)

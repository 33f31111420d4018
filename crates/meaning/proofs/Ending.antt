-- Two plays that end alike: in the same state, with cycles that are the same to whoever sees of them what `seen` tells.
use mathlib.Core.Path.{◌≡◌, refl, ap, ◌∙◌}
use Prim.Native.Nat.{ℕ, zero, suc}
use mathlib.Core.List.{List, ◌++◌}
use Rattle.meaning.specs.Body.{macro, procedure, listed, Way, looped, shifted, entered}
use Rattle.meaning.specs.Run.{State, Cycle, Played, follow, again, entering, playing}

-- what is seen of two parts is what is seen of the whole
module _ {X : Type 0} (seen : List Cycle → X) (joined : (a b c d : List Cycle) → seen a ≡ seen b → seen c ≡ seen d → seen (a ++ c) ≡ seen (b ++ d)) where
  abbrev pub Alike : Played → Played → Type 0
  Alike x y = (x.0 ≡ y.0) × (seen x.1 ≡ seen y.1)

  pub alike_follow : (x y : Played) (f g : State → Played) → Alike x y → ((s : State) → Alike (f s) (g s)) → Alike (follow x f) (follow y g)
  unfolding follow
  alike_follow x y f g h k = (
    (k x.0).0 ∙ ap (λ (s : State). (g s).0) h.0,
    joined _ _ _ _ h.1 ((k x.0).1 ∙ ap (λ (s : State). seen (g s).1) h.0),
  )

  pub alike_again : (n : ℕ) (f g : State → Played) → ((s : State) → Alike (f s) (g s)) → (s : State) → Alike (again n f s) (again n g s)
  unfolding again
  alike_again zero f g h s = (refl, refl)
  alike_again (suc n) f g h s = alike_follow (f s) (g s) (again n f) (again n g) (h s) (alike_again n f g h)

  pub alike_playing : (t : ℕ) (w : Way) (f g : State → Played) → ((s : State) → Alike (f s) (g s)) → (s : State) → Alike (playing t w f s) (playing t w g s)
  unfolding playing entering
  alike_playing t (looped n) f g h s = alike_again n f g h s
  alike_playing t shifted f g h s = alike_again t f g h s
  alike_playing t (entered macro u a) f g h s = (ap (λ (x : State). record { pins = x.pins; table = x.table; args = s.args }) (h _).0, (h _).1)
  alike_playing t (entered procedure u a) f g h s = (refl, (h _).1)
  alike_playing t (entered listed u a) f g h s = (refl, (h _).1)

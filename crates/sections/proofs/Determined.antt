-- One page only, and one content of it afterwards: where the bytes at its front are known, and what is told of it but for their number.
use Prim.Native.Nat.{ℕ}
use mathlib.Core.Path.{◌≡◌, sym, ap, ◌∙◌}
use mathlib.Core.List.{List}
use Rattle.sections.specs.Listing.{Fronts}
use Rattle.sections.specs.declared.Page.{Page}

pub page_determined : {xs before x y : List ℕ} {r s : Page} (told : ℕ → Page) → Fronts xs before r.length x × (r ≡ told r.length)
    → Fronts xs before s.length y × (s ≡ told s.length) → (r ≡ s) × (x ≡ y)
page_determined told h k = (h.1 ∙ ap told (h.0.length_is ∙ sym k.0.length_is) ∙ sym k.1, h.0.page_is ∙ sym k.0.page_is)

-- How a text's listing is written page by page.
use Rattle.std.specs.Prelude.{ℕ, ◌+◌, ◌*◌, ◌-◌, ◌/◌, ◌<◌, ◌≤◌, min, ◌≡◌, true, false, List, [], ◌∷◌, ◌++◌, length, take}
use Rattle.meaning.specs.Run.{cycles}
use Rattle.meaning.specs.Meaning.{Answer, given, refused, Meaning, meaning}
use Rattle.meaning.specs.Services.{dot, Window, window}
use Rattle.verdicts.specs.Buffers.{afterwards}
use Rattle.sections.specs.Listing.{front_most, front, refusal, first_of, last_of, Fronts}
use Rattle.sections.specs.declared.Page.{Page}

-- ---- the first page

-- it has no room for the front
abbrev pub too_small : Page
too_small = record { room = false; length = 0; first = 0; left = 0; width = 0 }

-- THE PROMISE of the first page
pub record Begins (text before : List ℕ) (r : Page) (after : List ℕ) : Type 0 where
  pub small : length before < front_most → (r ≡ too_small) × (after ≡ before)
  pub refuses : front_most ≤ length before → (n p : ℕ) → meaning text ≡ refused n p → Fronts (refusal text n p) before r.length after × (r ≡ last_of r.length)
  pub accepts : front_most ≤ length before → (m : Meaning) → meaning text ≡ given m
      → Fronts (front m) before r.length after × (r ≡ first_of (length m.signals) (cycles 0 m.run) r.length)

-- ---- the pages behind it

-- the rows on a page: as many as are left, and fit
abbrev pub fitting : Page → ℕ → ℕ
fitting p room = min p.left (room / p.width)

-- what the service Window answers for them
abbrev pub asked : List ℕ → Page → List ℕ → Answer Window
asked text p page = window text p.first (fitting p (length page)) dot page

-- the page with that answer's rows; behind a refusal there is nothing
unfoldable pub page_of : Page → Answer Window → Page
page_of p (given w) = record { room = true; length = w.count * p.width; first = p.first + w.count; left = p.left - w.count; width = p.width }
page_of p (refused n q) = last_of 0

-- THE PROMISE of a later page, whatever the page before
pub record GoesOn (text before : List ℕ) (p r : Page) (after : List ℕ) : Type 0 where
  pub page_is : r ≡ page_of p (asked text p before)
  pub bytes_are : after ≡ afterwards (λ w. w.buffer) (asked text p before) before

-- ---- all pages

-- one more page: its bytes before and after, and what is told of it
pub record Turned : Type 0 where
  pub before : List ℕ
  pub after : List ℕ
  pub page : Page

-- each keeps the promise, the first behind the page p, each of the others behind the one before
unfoldable pub Follow : List ℕ → Page → List Turned → Type 0
Follow text p [] = Unit {0}
Follow text p (t ∷ ts) = GoesOn text t.before p t.page t.after × Follow text t.page ts

-- each has room for a row of so many bytes at least
unfoldable pub Roomy : ℕ → List Turned → Type 0
Roomy width [] = Unit {0}
Roomy width (t ∷ ts) = (width ≤ length t.before) × Roomy width ts

-- the rows that are left behind them
unfoldable pub left_behind : Page → List Turned → ℕ
left_behind p [] = p.left
left_behind p (t ∷ ts) = left_behind t.page ts

-- their bytes, joined
unfoldable pub written : List Turned → List ℕ
written [] = []
written (t ∷ ts) = take t.page.length t.after ++ written ts

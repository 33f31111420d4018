-- A later page from the service's answer: the rows that were given are at most those that were asked for, and fit.
use Prim.Native.Nat.{ℕ, ◌+◌, ◌*◌, ◌-◌, ◌/◌, ◌≤◌, max}
use native.Mathlib.Nat.{le_refl, le_trans, mul-le-mul, div-mul-le_self}
use native.Mathlib.Omega.{arith}
use mathlib.Core.Path.{◌≡◌, refl, ap, ◌∙◌}
use mathlib.Core.Bool.{true}
use mathlib.Core.List.{List}
use lib.Dec.{leb}
use lib.ListN.{length}
use borrow.Author.Tests.{leb-true}
use Rattle.std.specs.Prelude.{Result, Ok, Err}
use Rattle.tokens.specs.declared.Refusal.{Refusal}
use Rattle.tokens.proofs.Bools.{both}
use Rattle.meaning.specs.Bounds.{size_most, cycles_most}
use Rattle.meaning.specs.Run.{size, cycles}
use Rattle.meaning.specs.Meaning.{Answer, given, refused, answering, fitting as fits, Meaning, meaning}
use Rattle.meaning.specs.Services.{dot, rows_due, window_of, window}
use Rattle.meaning.proofs.Accepted.{accepted}
use Rattle.verdicts.specs.Buffers.{afterwards}
use Rattle.views.specs.Views.{shown_of, Views}
use Rattle.views.specs.declared.Rows.{Rows}
use Rattle.views.proofs.Theorems.{visits_told}
use Rattle.sections.specs.Listing.{last_of}
use Rattle.sections.specs.declared.Page.{Page}
use Rattle.listing.specs.Pages.{fitting, asked, page_of, GoesOn}

-- an accepted text has few cycles
pub few_cycles : (text : List ℕ) (m : Meaning) → meaning text ≡ given m → cycles 0 m.run ≤ cycles_most
unfolding fits
few_cycles text m e =
    leb-true (cycles 0 m.run) cycles_most (both (leb (size m.run) size_most) (leb (cycles 0 m.run) cycles_most) (accepted text m e).fits).1

-- ---- rows that were given

module _ (text : List ℕ) (first wanted mark : ℕ) {before after : List ℕ} {s : Result Rows Refusal} {x : Rows} (h : Views (window text first wanted mark before) before after s) (rows : s ≡ Ok x) where
  told : Views (window text first wanted mark before) before after (Ok x)
  told = rw rows at h

  -- the text was not refused
  rows_meant : (a : Answer Meaning) → meaning text ≡ a → (x.count ≤ wanted) × (first + x.count ≤ max first cycles_most)
  unfolding window answering rows_due
  rows_meant (given m) e =
      let k = (visits_told text m e first wanted mark told).rows_are in
      omega (arith, few_cycles text m e)
  rows_meant (refused n p) e =
      let k = told.answers ∙ ap (λ (a : Answer Meaning). answering a (λ m. window_of m first wanted mark before)) e in
      let z : ◌≡◌ {A = ℕ} 0 1 = cc in
      absurd (omega arith)

  pub rows_few : (x.count ≤ wanted) × (first + x.count ≤ max first cycles_most)
  rows_few = rows_meant (meaning text) refl

-- their bytes fit
pub bytes_few : (p : Page) (room : ℕ) {n wanted : ℕ} → wanted ≡ fitting p room → n ≤ wanted → n * p.width ≤ room
bytes_few p room {n} e h =
    let k : n ≤ room / p.width = omega arith in
    le_trans (mul-le-mul k (le_refl p.width)) (div-mul-le_self room p.width)

-- ---- the page with them

module _ (text : List ℕ) (p : Page) (before : List ℕ) {after : List ℕ} {wanted : ℕ} {s : Result Rows Refusal} (e : wanted ≡ fitting p (length before))
    (h : Views (window text p.first wanted dot before) before after s) where
  answered : shown_of s after ≡ asked text p before
  answered = h.answers ∙ ap (λ (k : ℕ). window text p.first k dot before) e

  goes_on : {r : Page} → r ≡ page_of p (shown_of s after) → GoesOn text before p r after
  goes_on k =
      record {
        page_is = k ∙ ap (page_of p) answered;
        bytes_are = h.buffer_is ∙ ap (λ (k : ℕ). afterwards (λ w. w.buffer) (window text p.first k dot before) before) e;
      }

  pub goes_on_rows : {x : Rows} → s ≡ Ok x → GoesOn text before p (record { room = true; length = x.count * p.width; first = p.first + x.count; left = p.left - x.count; width = p.width }) after
  unfolding page_of
  goes_on_rows k = goes_on (rw k)

  pub goes_on_none : {x : Refusal} {r : Page} → s ≡ Err x → r ≡ last_of 0 → GoesOn text before p r after
  unfolding page_of
  goes_on_none k z = goes_on (z ∙ rw k)

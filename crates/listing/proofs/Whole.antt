-- All pages of a text join to its listing, whatever keeps the promises and however long each page is; pages with room for a row come to an end; and every promise
-- leaves one answer only.
use Prim.Native.Nat.{ℕ, ◌+◌, ◌*◌, ◌-◌, ◌/◌, ◌≤◌, ◌<◌}
use native.Mathlib.Nat.{one-mul, le-div_iff_mul-le}
use native.Mathlib.Omega.{arith}
use mathlib.Core.Path.{◌≡◌, refl, sym, ap, ap₂, ◌∙◌, subst}
use mathlib.Core.Bool.{Bool, true, false}
use mathlib.Core.List.{List, [], ◌∷◌, ◌++◌, append-nil}
use lib.Dec.{leb}
use lib.ListN.{length, take, drop}
use lib.Seq.{take_at, take-add, drop-drop}
use borrow.Author.Tests.{le-leb, leb-true, leb-false}
use Rattle.tokens.specs.Bytes.{between, letter, digit}
use Rattle.meaning.specs.Run.{Cycle, cycles, cycles_of, visits}
use Rattle.meaning.specs.Meaning.{Answer, given, refused, answering, Meaning, meaning}
use Rattle.meaning.specs.Services.{dot, bad_mark, rows, row_width, Window, rows_due, width_of, window_rows, rows_out, window_of, window}
use Rattle.meaning.proofs.Windows.{rows-++, window_rows_lem, window_width}
use Rattle.walks.specs.Seen.{seen}
use Rattle.verdicts.specs.Buffers.{afterwards}
use Rattle.sections.specs.Listing.{front_most, listed_most, listed_of, rows_listed, refusal, listing, first_of, last_of, Fronts}
use Rattle.sections.specs.declared.Page.{Page}
use Rattle.sections.proofs.Determined.{page_determined}
use Rattle.listing.specs.Pages.{Begins, fitting, asked, page_of, GoesOn, Turned, Follow, Roomy, left_behind, written}
use Rattle.listing.proofs.Going.{bytes_few}

-- the bytes at a page's front
front_taken : {xs before after : List ℕ} {n : ℕ} → Fronts xs before n after → take n after ≡ xs
front_taken {xs} {before} {after} {n} f = ap (take n) f.page_is ∙ take_at xs (drop (length xs) before) n (sym f.length_is)

listed_few : (n : ℕ) → listed_of n ≤ n
unfolding listed_of
listed_few n = by (leb n listed_most)
  where
    by : (b : Bool) → elim b [ true ↦ n | false ↦ 0 ] ≤ n
    by true = omega arith
    by false = omega arith

-- ---- an accepted text

-- the dot is a mark
dot_marks : bad_mark dot ≡ false
unfolding bad_mark letter digit between
dot_marks = refl

-- what is told of a page: rows as wide as the text's, and not more left than there are
pub record Stands (m : Meaning) (p : Page) : Type 0 where
  pub width_is : p.width ≡ width_of m
  pub rows_there : p.first + p.left ≤ cycles 0 m.run

module _ (text : List ℕ) (m : Meaning) (e : meaning text ≡ given m) where
  abbrev all : List Cycle
  all = cycles_of (length m.signals) m.run

  -- one page more
  module _ {p : Page} (s : Stands m p) (before : List ℕ) where
    abbrev n : ℕ
    n = fitting p (length before)

    rows_due_lem : rows_due m p.first n ≡ n
    unfolding rows_due
    rows_due_lem = omega (arith, s.rows_there)

    -- the service's answer with so many rows
    abbrev rows_given : ℕ → Answer Window
    rows_given k = given (record { count = k; visits = visits 0 m.run p.first; buffer = window_rows m p.first n dot ++ drop (k * width_of m) before })

    asked_given : asked text p before ≡ rows_given n
    unfolding window answering window_of rows_out
    asked_given =
        let due = rows_due m p.first n in
        let fits : due * width_of m ≤ length before = rw (rows_due_lem, ← s.width_is) (bytes_few p (length before) refl (omega arith)) in
        ap (λ (a : Answer Meaning). answering a (λ m. window_of m p.first n dot before)) e
        ∙ rw (dot_marks, le-leb (due * width_of m) (length before) fits, window_of, rows_out) (ap rows_given rows_due_lem)

    module _ {r : Page} {after : List ℕ} (g : GoesOn text before p r after) where
      pub page_told : r ≡ record { room = true; length = n * p.width; first = p.first + n; left = p.left - n; width = p.width }
      unfolding page_of
      page_told = g.page_is ∙ ap (page_of p) asked_given

      -- the next rows, as many as are left and fit, at its front; its rest stays
      pub page_rows : Fronts (rows dot (seen p.first n all)) before r.length after
      unfolding afterwards
      page_rows =
          let xs = rows dot (seen p.first n all) in
          let long : length xs ≡ n * width_of m = ap length (sym (window_rows_lem m dot p.first n)) ∙ window_width m dot p.first n ∙ ap (λ (k : ℕ). k * width_of m) rows_due_lem in
          record {
            length_is = ap (λ (q : Page). q.length) page_told ∙ ap (λ (k : ℕ). n * k) s.width_is ∙ sym long;
            page_is = g.bytes_are ∙ ap (λ (a : Answer Window). afterwards (λ w. w.buffer) a before) asked_given
                ∙ ap₂ (λ (x : List ℕ) (k : ℕ). x ++ drop k before) (window_rows_lem m dot p.first n) (sym long);
          }

      pub stands_on : Stands m r
      stands_on = rw page_told (record { width_is = s.width_is; rows_there = omega (arith, s.rows_there) })

      -- a row less is left, where there is room for one
      pub fewer_left : p.width ≤ length before → r.left ≤ p.left - 1
      unfolding width_of row_width
      fewer_left h =
          let some : 0 < p.width = omega (arith, s.width_is) in
          let one : 1 ≤ length before / p.width = (le-div_iff_mul-le some).1 (rw one-mul h) in
          omega (arith, ap (λ (q : Page). q.left) page_told)

  -- the rows that are left, on pages to the last
  rows_join : (ts : List Turned) {p : Page} → Stands m p → Follow text p ts → left_behind p ts ≡ 0 → written ts ≡ rows dot (seen p.first p.left all)
  unfolding Follow left_behind written rows
  rows_join [] {p} s f z = rw z
  rows_join (t ∷ ts) {p} s f z =
      let k = n s t.before in
      let told = page_told s t.before f.0 in
      let l = drop p.first all in
      let rest : rows dot (seen t.page.first t.page.left all) ≡ rows dot (take (p.left - k) (drop k l)) =
      ap (λ (q : Page). rows dot (seen q.first q.left all)) told ∙ ap (λ (d : List Cycle). rows dot (take (p.left - k) d)) (sym (drop-drop k p.first all)) in
      let both : k + (p.left - k) ≡ p.left = omega arith in
      ap₂ (λ (a b : List ℕ). a ++ b) (front_taken (page_rows s t.before f.0)) (rows_join ts (stands_on s t.before f.0) f.1 z ∙ rest)
      ∙ sym (rows-++ dot (take k l) (take (p.left - k) (drop k l)))
      ∙ ap (rows dot) (sym (take-add k (p.left - k) l) ∙ ap (λ (j : ℕ). take j l) both)

  rows_end : (ts : List Turned) {p : Page} → Stands m p → Follow text p ts → Roomy p.width ts → left_behind p ts ≤ p.left - length ts
  unfolding Follow Roomy left_behind
  rows_end [] {p} s f h = omega arith
  rows_end (t ∷ ts) {p} s f h =
      let on = stands_on s t.before f.0 in
      let same : p.width ≡ t.page.width = s.width_is ∙ sym on.width_is in
      omega (arith, fewer_left s t.before f.0 h.0, rows_end ts on f.1 (subst (λ (w : ℕ). Roomy w ts) same h.1))

  -- its first page
  module _ {before after : List ℕ} {r : Page} (h : front_most ≤ length before) (b : Begins text before r after) where
    pub stands_first : Stands m r
    unfolding width_of
    stands_first = rw (b.accepts h m e).1 (record { width_is = refl; rows_there = omega (arith, listed_few (cycles 0 m.run)) })

    given_whole : (ts : List Turned) → Follow text r ts → left_behind r ts ≡ 0 → take r.length after ++ written ts ≡ listing text
    unfolding listing
    given_whole ts f z =
        let first = b.accepts h m e in
        let last : rows dot (seen r.first r.left all) ≡ rows dot (seen 0 (rows_listed m) all) = ap (λ (q : Page). rows dot (seen q.first q.left all)) first.1 in
        ap₂ (λ (x y : List ℕ). x ++ y) (front_taken first.0) (rows_join ts stands_first f z ∙ last) ∙ rw (e, listing)

-- ---- a refused text

module _ (text : List ℕ) {n p : ℕ} (e : meaning text ≡ refused n p) where
  asked_refused : (q : Page) (before : List ℕ) → asked text q before ≡ refused n p
  unfolding window answering
  asked_refused q before = ap (λ (a : Answer Meaning). answering a (λ m. window_of m q.first (fitting q (length before)) dot before)) e

  page_none : {q r : Page} {before after : List ℕ} → GoesOn text before q r after → r ≡ last_of 0
  unfolding page_of
  page_none {q} {r} {before} g = g.page_is ∙ ap (page_of q) (asked_refused q before)

  -- nothing is behind its first page
  none_written : (ts : List Turned) (q : Page) → Follow text q ts → written ts ≡ []
  unfolding Follow written
  none_written [] q f = refl
  none_written (t ∷ ts) q f = ap₂ (λ (a b : List ℕ). a ++ b) (ap (λ (q : Page). take q.length t.after) (page_none f.0)) (none_written ts t.page f.1)

  none_left : (ts : List Turned) (q : Page) → q.left ≡ 0 → Follow text q ts → left_behind q ts ≡ 0
  unfolding Follow left_behind
  none_left [] q z f = z
  none_left (t ∷ ts) q z f = none_left ts t.page (ap (λ (q : Page). q.left) (page_none f.0)) f.1

-- ---- any text

module _ (text : List ℕ) {before after : List ℕ} {r : Page} (h : front_most ≤ length before) (b : Begins text before r after) where
  -- THE LAW: where no row is left, all pages are the listing
  pub whole : (ts : List Turned) → Follow text r ts → left_behind r ts ≡ 0 → take r.length after ++ written ts ≡ listing text
  unfolding listing
  whole ts f z = by (meaning text) refl
    where
      by : (a : Answer Meaning) → meaning text ≡ a → take r.length after ++ written ts ≡ listing text
      by (given m) e = given_whole text m e h b ts f z
      by (refused n p) e = ap₂ (λ (x y : List ℕ). x ++ y) (front_taken (b.refuses h n p e).0) (none_written text e ts r f) ∙ append-nil (refusal text n p) ∙ rw (e, listing)

  -- and none is left after as many pages as there are rows, each with room for one
  pub ends : (ts : List Turned) → Follow text r ts → Roomy r.width ts → r.left ≤ length ts → left_behind r ts ≡ 0
  ends ts f w l = by (meaning text) refl
    where
      by : (a : Answer Meaning) → meaning text ≡ a → left_behind r ts ≡ 0
      by (given m) e = omega (arith, rows_end text m e ts (stands_first text m e h b) f w)
      by (refused n p) e = none_left text e ts r (ap (λ (q : Page). q.left) (b.refuses h n p e).1) f

  -- a refused text: the first page is all
  pub refused_whole : {n p : ℕ} → meaning text ≡ refused n p → (take r.length after ≡ listing text) × (r.left ≡ 0)
  unfolding listing
  refused_whole {n} {p} e = (front_taken (b.refuses h n p e).0 ∙ rw (e, listing), ap (λ (q : Page). q.left) (b.refuses h n p e).1)

-- ---- one answer only, and one content of the page afterwards

pub begins_determined : {text before x y : List ℕ} {r s : Page} → Begins text before r x → Begins text before s y → (r ≡ s) × (x ≡ y)
begins_determined {text} {before} {x} {y} {r} {s} h k = room (leb front_most (length before)) refl
  where
    by : front_most ≤ length before → (a : Answer Meaning) → meaning text ≡ a → (r ≡ s) × (x ≡ y)
    by l (given m) e = page_determined (first_of (length m.signals) (cycles 0 m.run)) (h.accepts l m e) (k.accepts l m e)
    by l (refused n p) e = page_determined last_of (h.refuses l n p e) (k.refuses l n p e)

    room : (b : Bool) → leb front_most (length before) ≡ b → (r ≡ s) × (x ≡ y)
    room true e = by (leb-true front_most (length before) e) (meaning text) refl
    room false e = let l = leb-false front_most (length before) e in ((h.small l).0 ∙ sym (k.small l).0, (h.small l).1 ∙ sym (k.small l).1)

pub goes_on_determined : {text before x y : List ℕ} {p r s : Page} → GoesOn text before p r x → GoesOn text before p s y → (r ≡ s) × (x ≡ y)
goes_on_determined h k = (h.page_is ∙ sym k.page_is, h.bytes_are ∙ sym k.bytes_are)

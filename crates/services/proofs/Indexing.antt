-- The index services from what was decided, played and rebuilt: refused as the text is, 21 for other bytes, 19 without room, or the index.
use Prim.Native.Nat.{ℕ, ◌+◌, ◌-◌, ◌≤◌}
use native.Mathlib.Omega.{arith}
use native.Mathlib.Nat.{zero-add}
use mathlib.Core.Path.{◌≡◌, refl, sym, ap, ◌∙◌}
use mathlib.Core.Bool.{Bool, true, false, not, ◌&&◌, ◌||◌}
use mathlib.Core.Option.{Option, none, some}
use mathlib.Core.List.{List, ◌++◌}
use lib.Dec.{leb, ltb}
use lib.ListN.{length, take, drop, length-take}
use lib.Seq.{take_at}
use borrow.Author.Tests.{ltb-false, not-true, not-false}
use Rattle.std.specs.Prelude.{Ok, Err}
use Rattle.tokens.specs.declared.Refusal.{Refusal}
use Rattle.tokens.specs.Written.{same}
use Rattle.tokens.proofs.Bools.{neither}
use Rattle.meaning.specs.Refusals.{no_room}
use Rattle.meaning.specs.Meaning.{Answer, given, refused, answering, Meaning, meaning}
use Rattle.timing.specs.declared.Watch.{Watch}
use Rattle.texts.specs.Tables.{Found}
use Rattle.texts.specs.declared.Verdict.{Verdict}
use Rattle.texts.proofs.Sounds.{sound_runs}
use Rattle.pages.specs.Pages.{Puts}
use Rattle.sections.specs.Listing.{Fronts}
use Rattle.index.specs.Index.{Index, lines_of, index_of, written, holder, rebuilt_in, index, not_the_index, taken_as, taken, belongs, holds, Rebuilt as Bytes}
use Rattle.index.specs.Lines.{index_in, held_of}
use Rattle.verdicts.specs.Found.{meant_by}
use Rattle.verdicts.specs.Buffers.{afterwards, spared}
use Rattle.services.specs.Indexes.{Stands, Rebuilds, Indexes}
use Rattle.services.specs.declared.Rebuilt.{Rebuilt}
use Rattle.verdicts.proofs.Sparing.{room, spared_room}

-- ---- a text that 1 to 16 leave

module _ {w : Watch} {text places lists tplaces waves book rows list : List ℕ} {v : Verdict} (f : Found text w places lists tplaces waves book rows list v) where
  -- and its index
  index_is : index_of text (meant_by f.it) ≡ index_in text list tplaces v.parts.listed v.parts.known.tables f.it.read.patterns
  unfolding index_of lines_of
  index_is = rw ((sound_runs text f.is).read, f.tabled.listed_are, f.tabled.held.named)

  pub rebuild_stands : {r : Rebuilt} {cycle : ℕ} {page before : List ℕ} → meaning text ≡ given (meant_by f.it)
      → Fronts (written (index_in text list tplaces v.parts.listed v.parts.known.tables f.it.read.patterns)) before r.length page
      → held_of r.holder ≡ holder cycle 0 (index_in text list tplaces v.parts.listed v.parts.known.tables f.it.read.patterns).patterns
      → Rebuilds text cycle (Ok r) page
  rebuild_stands {r} {cycle} m e q = (
    meant_by f.it,
    m,
    record {
      front_is = ap (take r.length) e.page_is ∙ take_at _ _ r.length (sym e.length_is) ∙ ap written (sym index_is);
      length_is = e.length_is ∙ ap (λ (x : Index). length (written x)) (sym index_is);
      holder_is = q ∙ ap (λ (x : Index). holder cycle 0 x.patterns) (sym index_is);
    },
  )

-- ---- as the service Index answers it

module _ {a : Answer Bytes} {buffer : List ℕ} where
  indexes_refused : {x : Refusal} → a ≡ refused x.no x.place → Indexes a buffer buffer (Err x)
  unfolding afterwards
  indexes_refused e = rw e (record { answers = refl; buffer_is = refl })

  indexes_given : {n : ℕ} {after : List ℕ} → a ≡ given (record { size = n; buffer = after }) → Indexes a buffer after (Ok n)
  unfolding afterwards
  indexes_given e = rw e (record { answers = refl; buffer_is = refl })

pub index_refused : (text : List ℕ) {x : Refusal} (spare : Bool) (buffer : List ℕ) → meaning text ≡ refused x.no x.place
    → Indexes (spared spare (index text buffer)) buffer buffer (Err x)
unfolding index answering
index_refused text spare buffer e = indexes_refused (rw (e, index))

pub holds_refused : (text : List ℕ) {x : Refusal} (bytes : List ℕ) (cycle : ℕ) → meaning text ≡ refused x.no x.place → refused x.no x.place ≡ holds text bytes cycle
unfolding holds taken answering
holds_refused text bytes cycle e = sym (rw (e, taken, holds))

module _ {text page : List ℕ} {cycle : ℕ} {r : Rebuilt} (h : Rebuilds text cycle (Ok r) page) where
  abbrev it : Meaning
  it = h.0

  abbrev stands : Stands text cycle r page it
  stands = h.2

  module _ (spare : Bool) (buffer : List ℕ) {y : Bool} (e : (not spare || ltb (length buffer) r.length) ≡ y) where
    enough : (spare && leb (length (written (index_of text it))) (length buffer)) ≡ not y
    enough = ap (λ (n : ℕ). spare && leb n (length buffer)) (sym stands.length_is) ∙ room spare r.length (length buffer) ∙ ap not e

    answered : spared spare (index text buffer) ≡ elim (not y) [
      | false ↦ refused no_room 0
      | true ↦ given (record { size = length (written (index_of text it)); buffer = written (index_of text it) ++ drop (length (written (index_of text it))) buffer })
    ]
    unfolding index answering rebuilt_in
    answered =
        ap (λ (x : Answer Meaning). spared spare (answering x (λ m. rebuilt_in (written (index_of text m)) buffer))) h.1
        ∙ spared_room spare (leb (length (written (index_of text it))) (length buffer)) _
        ∙ rw enough

    pub index_full : y ≡ true → Indexes (spared spare (index text buffer)) buffer buffer (Err (record { no = no_room; place = 0 }))
    index_full z = indexes_refused (rw z at answered)

    pub index_given : {bytes after : List ℕ} {s : ℕ} → y ≡ false → bytes ≡ take r.length page → Puts buffer 0 bytes s after → Indexes (spared spare (index text buffer)) buffer after (Ok r.length)
    index_given {bytes} {after} z b p =
        let xs = written (index_of text it) in
        let q : bytes ≡ xs = b ∙ stands.front_is in
        let is : after ≡ xs ++ drop (length xs) buffer = p.page ∙ (rw (q, zero-add (length xs))) in
        indexes_given ((rw z at answered) ∙ rw (← is, ← stands.length_is))

  -- ---- and of bytes that are lent as an index

  module _ (bytes : List ℕ) {page-front : List ℕ} (front : page-front ≡ take r.length page) {y : Bool} (e : y ≡ same page-front bytes) where
    tested : same (written (index_of text it)) bytes ≡ y
    tested = sym (e ∙ ap (λ (l : List ℕ). same l bytes) (front ∙ stands.front_is))

    pub holds_other : not y ≡ true → refused not_the_index 0 ≡ holds text bytes cycle
    unfolding holds taken taken_as answering
    holds_other z = sym (rw (h.1, taken, holds) (rw (tested ∙ not-true y z, taken_as)))

    pub holds_told : not y ≡ false → given (held_of r.holder) ≡ holds text bytes cycle
    unfolding holds taken taken_as answering
    holds_told z = sym (rw (h.1, taken, holds) (rw (tested ∙ not-false y z, taken_as) (ap given (sym stands.holder_is))))

-- ---- belonging

-- an index belongs whatever cycle is asked for
abbrev pub forgotten : {A : Type 0} → Answer A → Answer (Unit {0})
forgotten (given x) = given tt
forgotten (refused n p) = refused n p

pub belongs_by : (text bytes : List ℕ) (n : ℕ) {a : Answer (Option ℕ)} → a ≡ holds text bytes n → forgotten a ≡ belongs text bytes
unfolding holds belongs answering
belongs_by text bytes n e = ap forgotten e ∙ by (taken text bytes)
  where
    by : (x : Answer Index) → forgotten (answering x λ i. given (holder n 0 i.patterns)) ≡ answering x (λ i. given tt)
    by (given i) = refl
    by (refused m p) = refl

-- ---- the page's front, as the code has it

pub span_front : (page : List ℕ) (n : ℕ) {bytes : List ℕ} → bytes ≡ take (n - 0) (drop 0 page) → bytes ≡ take n page
span_front page n e = let z : n - 0 ≡ n = omega arith in e ∙ (rw z)

pub front_fits : (page buffer : List ℕ) (n : ℕ) (spare : Bool) {bytes : List ℕ} → bytes ≡ take (n - 0) (drop 0 page) → (not spare || ltb (length buffer) n) ≡ false
    → 0 + length bytes ≤ length buffer
front_fits page buffer n spare e f =
    omega (arith, ap length (span_front page n e), length-take n page, ltb-false (length buffer) n (neither (not spare) (ltb (length buffer) n) f).1)

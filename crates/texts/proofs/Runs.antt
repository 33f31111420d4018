-- The run from the front: behind the patterns that were found, what is left of the list; and a run fits if its measure does.
use Prim.Native.Nat.{ℕ, suc, ◌+◌, ◌*◌, ◌-◌, ◌≤◌, ◌<◌}
use native.Mathlib.Omega.{arith}
use native.Mathlib.Numerals.{add-one}
use mathlib.Core.Path.{◌≡◌, refl, sym, ap, ap₂, ◌∙◌}
use mathlib.Core.Bool.{Bool, ◌&&◌}
use mathlib.Core.Option.{none, some}
use mathlib.Core.List.{List, [], ◌∷◌}
use lib.ListN.{length, get_or, drop}
use lib.Dec.{leb, ltb}
use borrow.Author.Tests.{le-ltb, lt-ltb}
use Rattle.tokens.specs.Tokens.{Tok}
use Rattle.meaning.specs.Bounds.{size_most, cycles_most}
use Rattle.meaning.specs.Refusals.{not_defined}
use Rattle.meaning.specs.Names.{find}
use Rattle.meaning.specs.Body.{listed, entered, Body, done, inner}
use Rattle.meaning.specs.Statements.{Decl, Decls}
use Rattle.meaning.specs.Meaning.{Answer, given, refused, answering, run_of, firsts, fitting}
use Rattle.words.specs.Table.{name_of, names_from, names, seconds}
use Rattle.words.specs.Values.{told}
use Rattle.words.proofs.Names.{over, found_by_number}
use Rattle.measures.specs.declared.Measure.{Measure}
use Rattle.measures.specs.Measures.{Measures, joined}
use Rattle.measures.specs.Book.{first_pattern, Entry, Listed}
use Rattle.measures.proofs.Book.{listed_decl, part_listed}
use Rattle.measures.proofs.Within.{size_test, cycles_test}
use Rattle.measures.proofs.Joined.{joined_done, joined_inner}
use Rattle.bursts.specs.Listed.{listed_in}
use Rattle.heads.proofs.ByNumber.{nothing}

-- ---- the list from number k on

abbrev pub list_from : List ℕ → List ℕ → ℕ → ℕ → List Tok
list_from text list count k = firsts (names_from text list k (count - k))

pub list_cut : (text list : List ℕ) (count k : ℕ) → k < count → list_from text list count k ≡ name_of text list k ∷ list_from text list count (k + 1)
unfolding firsts names_from
list_cut text list count k h =
    let e : count - k ≡ suc (count - (k + 1)) = omega arith in
    ap (λ (n : ℕ). firsts (names_from text list k n)) e ∙ (rw (add-one k))

pub list_end : (text list : List ℕ) (count k : ℕ) → count ≤ k → list_from text list count k ≡ []
unfolding firsts names_from
list_end text list count k h = let e : count - k ≡ 0 = omega arith in rw e

-- ---- the run

-- a listed pattern's statement, and others behind it
abbrev entry : Decl → Body → Body
entry d r = inner (entered listed 0 []) d.body r

-- the run is `front`, and behind it the patterns that are left; x is the measure of `front`
pub record Running (ps : Decls) (all left : List Tok) (x : Measure) : Type 0 where
  pub front : Body
  pub measured : Measures front x
  pub same : run_of ps all ≡ answering (run_of ps left) (λ r. given (joined front r))

answered : (a : Answer Body) → a ≡ answering a (λ r. given (joined done r))
unfolding answering joined
answered (given b) = refl
answered (refused n p) = refl

pub running : (ps : Decls) (text list : List ℕ) (count : ℕ) {x : Measure} → Measures done x
    → Running ps (listed_in text list count) (list_from text list count 0) x
running ps text list count m =
    let e : count - 0 ≡ count = omega arith in
    record { front = done; measured = m; same = answered (run_of ps (listed_in text list count)) ∙ rw e }

module _ {ps : Decls} {all : List Tok} {x : Measure} (text list : List ℕ) (count k : ℕ) (l : Running ps all (list_from text list count k) x) where
  -- no pattern is left
  pub run_whole : count ≤ k → run_of ps all ≡ given l.front
  unfolding run_of answering
  run_whole h = l.same ∙ (rw (list_end text list count k h)) ∙ ap given (joined_done l.front)

  module _ (h : k < count) where
    -- the next one is not defined
    pub run_undefined : find ps (name_of text list k).word ≡ none → run_of ps all ≡ refused not_defined (name_of text list k).at
    unfolding run_of answering
    run_undefined e = l.same ∙ (rw (list_cut text list count k h) (rw (e, run_of)))

    -- or is played behind those before it
    next_same : {d : Decl} → find ps (name_of text list k).word ≡ some d
        → run_of ps all ≡ answering (run_of ps (list_from text list count (k + 1))) (λ r. given (joined (joined l.front (entry d done)) r))
    unfolding run_of answering
    next_same {d} e = l.same ∙ (rw (list_cut text list count k h) (rw (e, run_of) (by (run_of ps (list_from text list count (k + 1))))))
      where
        by : (a : Answer Body) → answering (answering a (λ r. given (entry d r))) (λ r. given (joined l.front r))
            ≡ answering a (λ r. given (joined (joined l.front (entry d done)) r))
        by (given r) = ap given (sym (joined_inner l.front r (entered listed 0 []) d.body))
        by (refused n p) = refl

    pub run_next : {d : Decl} {y : Measure} → find ps (name_of text list k).word ≡ some d
        → ((a : Body) → Measures a x → Measures (joined a (entry d done)) y) → Running ps all (list_from text list count (k + 1)) y
    run_next {d} e f = record { front = joined l.front (entry d done); measured = f l.front l.measured; same = next_same e }

-- ---- a listed name among the patterns of the book

module _ (text book : List ℕ) (ps : Decls) (l : Listed (Entry text book) first_pattern ps) {part v w : List ℕ} {count : ℕ} (i : ℕ)
    (part_is : part ≡ drop (first_pattern * 2) book) (word_is : v ≡ w) (f : told (ltb i count) i ≡ find (names text part count) v)
    (counted : length ps ≡ count) where
  abbrev standing : ℕ → Decl
  standing k = get_or (seconds ps) k nothing

  by_number : find ps w ≡ over standing (told (ltb i count) i)
  by_number =
      let g : told (ltb i count) i ≡ find (names text (drop (first_pattern * 2) book) (length ps)) w = f ∙ (rw (part_is, word_is, counted)) in
      found_by_number text (drop (first_pattern * 2) book) nothing (length ps) ps (part_listed text book first_pattern ps l) w
      ∙ ap (over standing) (sym g)

  pub found_none : count ≤ i → find ps w ≡ none
  found_none h = by_number ∙ rw (le-ltb i count h)

  pub found_pattern : i < count → (d : Decl) × (find ps w ≡ some d) × (t : Tok) × Entry text book (first_pattern + i) (t, d)
  found_pattern h = (
    get_or (seconds ps) i nothing,
    by_number ∙ rw (lt-ltb i count h),
    _,
    listed_decl (Entry text book) first_pattern ps l i (omega arith) (record { at = 0; word = [] }) nothing,
  )

-- ---- a run fits where its measure does

abbrev pub within : Measure → Bool
within x = leb x.size size_most && leb x.cycles cycles_most

pub fits_measured : {b : Body} {x : Measure} → Measures b x → fitting b ≡ within x
unfolding fitting
fits_measured m = sym (ap₂ ◌&&◌ (size_test m) (cycles_test m))

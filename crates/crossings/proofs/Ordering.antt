-- A pair signal by signal, from the front: what is left to look at.
use Prim.Native.Nat.{ℕ, suc, ◌+◌, ◌<◌, ◌≤◌}
use native.Mathlib.Omega.{arith}
use native.Mathlib.Numerals.{add-one}
use mathlib.Core.Path.{◌≡◌, refl, sym, ap, ap₂, ◌∙◌}
use mathlib.Core.Bool.{Bool, true, false, not, ◌&&◌, not-not}
use mathlib.Core.Option.{Option, none, some}
use mathlib.Core.List.{List}
use lib.ListN.{length, get_or, take, drop, length-drop, drop_of_length-le}
use lib.Seq.{get_or-take, get_or-drop, length-take-le}
use Rattle.meaning.specs.Bounds.{tables_most}
use Rattle.meaning.specs.Timing.{Tables}
use Rattle.meaning.specs.Run.{Cycle}
use Rattle.meaning.specs.Meaning.{table_at}
use Rattle.words.proofs.Words.{cut}
use Rattle.meaning.specs.Edges.{follows, events_of, all_follow, period_at, in_order}
use Rattle.pins.specs.Shown.{table_of}
use Rattle.pins.proofs.Callers.{table_some, table_none}
use Rattle.crossings.specs.Rows.{cycle_in}

module _ (tabs : Tables) (n p j : ℕ) (first : List ℕ) (a q k : ℕ) (second : List ℕ) (b : ℕ) where
  abbrev earlier : Cycle
  earlier = cycle_in n p j first a

  abbrev later : Cycle
  later = cycle_in n q k second b

  abbrev judged : Option ℕ → Option ℕ → Bool
  judged x y = elim x [
    | none ↦ true
    | some i ↦ elim y [ none ↦ true | some l ↦ all_follow (period_at tabs i) (table_at tabs i) (table_at tabs l) 0 (take n (drop a first)) (take n (drop b second)) ]
  ]

  order_at : (x y : Option ℕ) → table_of j ≡ x → table_of k ≡ y → in_order tabs earlier later ≡ judged x y
  unfolding in_order
  order_at x y d e = ap₂ judged d e

  judged_none : (x : Option ℕ) → judged x none ≡ true
  judged_none none = refl
  judged_none (some i) = refl

  -- one of them has no table
  pub first_none : tables_most ≤ j → in_order tabs earlier later ≡ true
  first_none h = order_at none (table_of k) (table_none j h) refl

  pub second_none : tables_most ≤ k → in_order tabs earlier later ≡ true
  second_none h = order_at (table_of j) none refl (table_none k h) ∙ judged_none (table_of j)

  -- from signal s on
  abbrev from : ℕ → Bool
  from s = all_follow (period_at tabs j) (table_at tabs j) (table_at tabs k) s (drop s (take n (drop a first))) (drop s (take n (drop b second)))

  pub record Looked (s : ℕ) : Type 0 where
    pub is : in_order tabs earlier later ≡ from s

  module _ (jt : j < tables_most) (kt : k < tables_most) where
    pub looked_none : Looked 0
    looked_none = record { is = order_at (some j) (some k) (table_some j jt) (table_some k kt) }

  module _ (room : a + n ≤ length first) (space : b + n ≤ length second) where
    -- this signal, and those behind it
    abbrev this : ℕ → Bool
    this s = follows (period_at tabs j) (events_of s (get_or first (a + s) 0) (table_at tabs j)) (events_of s (get_or second (b + s) 0) (table_at tabs k))

    parted : (s : ℕ) → s < n → from s ≡ (this s && from (s + 1))
    unfolding all_follow
    parted s h =
        let l = length-take-le n (drop a first) (omega (arith, length-drop a first)) in
        let m = length-take-le n (drop b second) (omega (arith, length-drop b second)) in
        let c = cut (take n (drop a first)) s (omega arith) in
        let d = cut (take n (drop b second)) s (omega arith) in
        let e : get_or (take n (drop a first)) s 0 ≡ get_or first (a + s) 0 = get_or-take n (drop a first) s 0 h ∙ get_or-drop a first s 0 in
        let f : get_or (take n (drop b second)) s 0 ≡ get_or second (b + s) 0 = get_or-take n (drop b second) s 0 h ∙ get_or-drop b second s 0 in
        ap₂ (λ (v w : List ℕ). all_follow (period_at tabs j) (table_at tabs j) (table_at tabs k) s v w) c d
        ∙ ap₂ (λ (x y : ℕ). follows (period_at tabs j) (events_of s x (table_at tabs j)) (events_of s y (table_at tabs k)) && all_follow (period_at tabs j) (table_at tabs j) (table_at tabs k) (suc s) (drop (s + 1) (take n (drop a first))) (drop (s + 1) (take n (drop b second)))) e f
        ∙ ap (λ (i : ℕ). this s && all_follow (period_at tabs j) (table_at tabs j) (table_at tabs k) i (drop (s + 1) (take n (drop a first))) (drop (s + 1) (take n (drop b second)))) (sym (add-one s))

module _ {tabs : Tables} {n p j : ℕ} {first : List ℕ} {a q k : ℕ} {second : List ℕ} {b s : ℕ} (h : Looked tabs n p j first a q k second b s) (room : a + n ≤ length first) (space : b + n ≤ length second)
  where
    abbrev whole : Bool
    whole = in_order tabs (cycle_in n p j first a) (cycle_in n q k second b)

    abbrev rest : ℕ → Bool
    rest = from tabs n p j first a q k second b

    judgment : {r : Bool} → s < n → r ≡ this tabs n p j first a q k second b room space s → (v : Bool) → not r ≡ v → whole ≡ (not v && rest (s + 1))
    judgment {r} l e v o =
        h.is ∙ parted tabs n p j first a q k second b room space s l ∙ ap (λ (x : Bool). x && rest (s + 1)) (sym e ∙ sym (not-not r) ∙ ap not o)

    pub looked_next : {r : Bool} → s < n → r ≡ this tabs n p j first a q k second b room space s → not r ≡ false → Looked tabs n p j first a q k second b (s + 1)
    looked_next l e o = record { is = judgment l e false o }

    pub looked_fails : {r : Bool} → s < n → r ≡ this tabs n p j first a q k second b room space s → not r ≡ true → whole ≡ false
    looked_fails l e o = judgment l e true o

    pub looked_all : n ≤ s → whole ≡ true
    unfolding all_follow
    looked_all l =
        let m = length-take-le n (drop a first) (omega (arith, length-drop a first)) in
        h.is ∙ ap (λ (v : List ℕ). all_follow (period_at tabs j) (table_at tabs j) (table_at tabs k) s v (drop s (take n (drop b second)))) (drop_of_length-le (take n (drop a first)) {i = s} (omega arith))

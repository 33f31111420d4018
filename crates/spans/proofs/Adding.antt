-- One event more: what it makes of the first and the last time of a category, and so all of a character.
use Prim.Native.Nat.{ℕ, zero, suc, ◌+◌, ◌<◌}
use native.Mathlib.Omega.{arith}
use mathlib.Core.Path.{◌≡◌, refl, sym, ap, ◌∙◌, subst}
use mathlib.Core.Bool.{Bool, true, false, cond, ◌&&◌}
use mathlib.Core.Option.{none}
use mathlib.Core.List.{List, [], ◌∷◌, ◌++◌, append-nil}
use lib.ListN.{length, get_or, take}
use lib.Dec.{eqb}
use borrow.Author.Tests.{ne_eqb}
use Rattle.meaning.specs.Bounds.{entry_most}
use Rattle.meaning.specs.Timing.{Event}
use Rattle.meaning.specs.Edges.{Category, belongs, times_in, first_of, last_behind, first_time, last_time}
use Rattle.edges.proofs.Behind.{last-++}
use Rattle.waves.specs.Waves.{Reads}
use Rattle.spots.proofs.Joined.{joined, joined_next, joined_read}
use Rattle.spans.specs.Spans.{coded}
use Rattle.spans.specs.Parts.{times_below, Timely, Spanned}
use Rattle.spans.specs.declared.Both.{Both}

-- ---- times of events one behind the other

times_one : (k : Category) (es : List Event) (x : Event) (b : Bool) → belongs k x.letter ≡ b → times_in k (es ++ x ∷ []) ≡ times_in k es ++ cond b (x.time ∷ []) []
unfolding times_in
times_one k [] x b q = by (belongs k x.letter) b q
  where
    by : (c b : Bool) → c ≡ b → ◌≡◌ {A = List ℕ} (elim c [ true ↦ x.time ∷ [] | false ↦ [] ]) (cond b (x.time ∷ []) [])
    by true true q = refl
    by true false q = absurd (let z : ◌≡◌ {A = ℕ} 0 1 = cc in omega arith)
    by false true q = absurd (let z : ◌≡◌ {A = ℕ} 0 1 = cc in omega arith)
    by false false q = refl
times_one k (e ∷ es) x b q = by (belongs k e.letter) (times_one k es x b q)
  where
    by : (c : Bool) → times_in k (es ++ x ∷ []) ≡ times_in k es ++ cond b (x.time ∷ []) []
        → ◌≡◌ {A = List ℕ} (elim c [ true ↦ e.time ∷ times_in k (es ++ x ∷ []) | false ↦ times_in k (es ++ x ∷ []) ]) (elim c [ true ↦ e.time ∷ times_in k es | false ↦ times_in k es ] ++ cond b (x.time ∷ []) [])
    by true h = ap (λ (l : List ℕ). e.time ∷ l) h
    by false h = h

-- ---- the first

first_other : (l : List ℕ) {o : ℕ} → o ≡ coded (first_of l) → o ≡ coded (first_of (l ++ []))
first_other l e = rw (append-nil l) e

first_here : (l : List ℕ) (t : ℕ) {o n : ℕ} → o ≡ coded (first_of l) → n ≡ suc t → cond (eqb o 0) n o ≡ coded (first_of (l ++ t ∷ []))
unfolding first_of
first_here [] t {o} {n} e g = rw e g
first_here (x ∷ l) t {o} {n} e g = let q : eqb o 0 ≡ false = ne_eqb o 0 (λ z. omega arith) in rw q e

pub first_more : (k : Category) (t e : ℕ) (es : List Event) {here : Bool} {o n r : ℕ} → here ≡ belongs k e → n ≡ suc t → o ≡ coded (first_time k es) → r ≡ cond (here && eqb o 0) n o
    → r ≡ coded (first_time k (es ++ record { time = t; letter = e } ∷ []))
unfolding first_time
first_more k t e es {here} {o} {n} {r} b g h q =
    q ∙ by here (sym b) ∙ sym (ap (λ (l : List ℕ). coded (first_of l)) (times_one k es (record { time = t; letter = e }) here (sym b)))
  where
    by : (y : Bool) → belongs k e ≡ y → cond (y && eqb o 0) n o ≡ coded (first_of (times_in k es ++ cond y (t ∷ []) []))
    by true p = first_here (times_in k es) t h g
    by false p = first_other (times_in k es) h

-- ---- the last

pub last_more : (k : Category) (t e : ℕ) (es : List Event) {here : Bool} {o n r : ℕ} → here ≡ belongs k e → n ≡ suc t → o ≡ coded (last_time k es) → r ≡ cond here n o
    → r ≡ coded (last_time k (es ++ record { time = t; letter = e } ∷ []))
unfolding last_time last_behind
last_more k t e es {here} {o} {n} {r} b g h q =
    q ∙ by here ∙ sym (ap (λ (l : List ℕ). coded (last_behind none l)) (times_one k es (record { time = t; letter = e }) here (sym b)) ∙ ap coded (last-++ none (times_in k es) (cond here (t ∷ []) [])))
  where
    by : (y : Bool) → cond y n o ≡ coded (last_behind (last_behind none (times_in k es)) (cond y (t ∷ []) []))
    by true = g
    by false = h

-- ---- events in two arrays

timely_at : (ts ls : List ℕ) (n i : ℕ) → Timely (joined (take n ts) (take n ls)) → i < n → i < length ts → i < length ls → get_or ts i 0 < times_below
unfolding joined
timely_at [] ls n i h a b d = absurd (omega arith)
timely_at (t ∷ ts) [] n i h a b d = absurd (omega arith)
timely_at (t ∷ ts) (l ∷ ls) zero i h a b d = absurd (omega arith)
timely_at (t ∷ ts) (l ∷ ls) (suc n) zero h a b d = h.0
timely_at (t ∷ ts) (l ∷ ls) (suc n) (suc i) h a b d = timely_at ts ls n i h.1 (omega arith) (omega arith) (omega arith)

-- the numbers of those up to number i, of n in all
abbrev pub Through : List ℕ → List ℕ → ℕ → ℕ → Both → Type 0
Through ts ls n i x = Timely (joined (take n ts) (take n ls)) → Spanned x (joined (take i ts) (take i ls))

pub through_more : (ts ls : List ℕ) (n i : ℕ) {x r : Both} → i < n → i < length ts → i < length ls → Through ts ls n i x
    → ((es : List Event) → get_or ts i 0 < times_below → Spanned x es → Spanned r (es ++ record { time = get_or ts i 0; letter = get_or ls i 0 } ∷ [])) → Through ts ls n (i + 1) r
through_more ts ls n i a b d x f t = rw (joined_next ts ls i b d) (f _ (timely_at ts ls n i t a b d) (x t))

pub through_all : {n i : ℕ} {es : List Event} {ts₀ ts ls₀ ls : List ℕ} {x : Both} → Reads es n ts₀ ts ls₀ ls → length ts₀ ≡ entry_most → length ls₀ ≡ entry_most → i ≡ n → Through ts ls n i x
    → Timely es → Spanned x es
through_all {n} {i} {es} {ts = ts} {ls = ls} {x = x} r h k e f t =
    let q : joined (take n ts) (take n ls) ≡ es = joined_read r h k in
    subst (Spanned x) (ap (λ (m : ℕ). joined (take m ts) (take m ls)) e ∙ q) (f (subst Timely (sym q) t))

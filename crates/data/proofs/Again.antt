-- A word several times: once, and then a run behind it that repeats it, as far as there is room.
use Prim.Native.Nat.{ℕ, zero, suc, ◌+◌, ◌*◌, ◌-◌, ◌≤◌, ◌<◌, min}
use native.Mathlib.Omega.{arith}
use native.Mathlib.Nat.{suc-mul}
use mathlib.Core.Path.{◌≡◌, refl, sym, ap, ap₂, ◌∙◌}
use mathlib.Core.Bool.{true, false, ◌||◌}
use mathlib.Core.List.{List, [], ◌∷◌, ◌++◌, append_assoc}
use lib.Dec.{eqb}
use lib.ListN.{length, take, drop, length-append, take-append-drop}
use lib.Seq.{take-append-add, drop-drop, length-take-le}
use borrow.Author.Tests.{ne_eqb, eqb-false}
use Rattle.tokens.proofs.Bools.{neither}
use Rattle.meaning.specs.Data.{stretched}
use Rattle.repeats.specs.Copied.{Extends}
use Rattle.repeats.proofs.Repeating.{front_kept, rest_kept, run_is}
use Rattle.data.specs.Filled.{count_most, over, Holds, Adds}
use Rattle.data.proofs.Over.{over_length, over_front, over_fits, over_rest, Wrote, wrote_all, adds_none, adds_same, adds_past}
use Rattle.data.proofs.Stretched.{length_stretched, stretched_turn, stretched_empty}

-- ---- is there anything to say?

pub adds_nothing : {before : List ℕ} {n : ℕ} (k : ℕ) (w : List ℕ) → (eqb k 0 || eqb (length w) 0) ≡ true → Adds before n (stretched k w) before n
unfolding stretched
adds_nothing zero w h = adds_none
adds_nothing (suc k) [] h = adds_same adds_none (sym (stretched_empty k))
adds_nothing (suc k) (x ∷ w) h =
    let some-k = ne_eqb (suc k) 0 (λ e. omega arith) in
    let some-w = ne_eqb (length (x ∷ w)) 0 (λ e. omega arith) in
    let z : ◌≡◌ {A = ℕ} 0 1 = cc in
    absurd (omega arith)

pub something : (k l : ℕ) → (eqb k 0 || eqb l 0) ≡ false → (0 < k) × (0 < l)
something k l h =
    let p = neither (eqb k 0) (eqb l 0) h in
    let no-k = eqb-false k 0 p.0 in
    let no-l = eqb-false l 0 p.1 in
    (omega arith, omega arith)

-- ---- the first time and the others

first_time_lem : (k : ℕ) (w : List ℕ) → 0 < k → stretched k w ≡ w ++ stretched (k - 1) w
unfolding stretched
first_time_lem zero w h = absurd (omega arith)
first_time_lem (suc k) w h = let e : k ≡ suc k - 1 = omega arith in ap (λ (n : ℕ). w ++ stretched n w) e

pub times_all : (k l : ℕ) → 0 < k → k * l ≡ l + (k - 1) * l
times_all zero l h = absurd (omega arith)
times_all (suc k) l h = let e : k ≡ suc k - 1 = omega arith in rw (← e) (omega (arith, suc-mul k l))

-- ---- as many as fit

module _ (n l j m room most : ℕ) (inside : m < room) (few : room < most) where
  place_exact : m ≡ min most (n + l) → m ≡ n + l
  place_exact e = omega arith

  run_fits : {all run : ℕ} → m ≡ n + l → all ≡ min most (n + (l + j)) → run ≡ min (all - m) (room - m) → run ≡ min j (room - m)
  run_fits e f g = omega arith

  all_fit : {run : ℕ} → m ≡ n + l → run ≡ min j (room - m) → l + run ≡ min (l + j) (room - n)
  all_fit e g = omega arith

-- ---- once, and the others behind it

module _ {before middle : List ℕ} {n m all : ℕ} (k : ℕ) (w : List ℕ) (first : 0 < k) (once : Adds before n w middle m) (few : length before < count_most)
    (place : m ≡ min count_most (n + length w)) (count : all ≡ min count_most (n + k * length w)) where
  abbrev others : List ℕ
  others = stretched (k - 1) w

  abbrev many : ℕ
  many = (k - 1) * length w

  counted : all ≡ min count_most (n + (length w + many))
  counted = count ∙ ap (λ (i : ℕ). min count_most (n + i)) (times_all k (length w) first)

  -- the others have no room
  pub adds_once : length middle ≤ m → Adds before n (stretched k w) middle all
  adds_once full =
      adds_same (adds_past others once full few (rw (length_stretched (k - 1) w) (omega (arith, counted)))) (sym (first_time_lem k w first))

  module _ {run : ℕ} {behind : List ℕ} (room : m < length middle) (some : 0 < length w) (fits : run ≡ min (all - m) (length middle - m))
      (x : Extends middle m (length w) run behind) where
    below : length middle < count_most
    below = omega (arith, once.kept)

    at : m ≡ n + length w
    at = place_exact n (length w) many m (length middle) count_most room below place

    runs : run ≡ min many (length middle - m)
    runs = run_fits n (length w) many m (length middle) count_most room below at counted fits

    inside : m + run ≤ length middle
    inside = omega (arith, runs)

    long : run ≤ length others
    long = omega (arith, runs, length_stretched (k - 1) w)

    module _ (entry cs : List ℕ) (z : Holds entry before n cs) where
      held : Holds entry middle m (cs ++ w)
      held = once.adds entry cs z

      as_long : length middle ≡ length entry
      as_long = ap length held.front ∙ over_length (cs ++ w) entry

      exact : length (cs ++ w) ≡ m
      exact = omega (arith, held.count, below)

      front : take m middle ≡ cs ++ w
      front =
          ap (λ (i : ℕ). take i middle) (sym exact) ∙ ap (take (length (cs ++ w))) held.front
          ∙ over_front (cs ++ w) entry (omega (arith, exact, as_long))

      said : take run (drop m behind) ≡ take run others
      said = run_is x inside cs w front refl some others (stretched_turn (k - 1) w) long

      rest : drop run (drop m behind) ≡ drop (m + run) entry
      rest =
          drop-drop run m behind ∙ rest_kept x inside ∙ ap (drop (m + run)) held.front ∙ over_rest (m + run) (cs ++ w) entry (omega (arith, exact))

      parts : behind ≡ (cs ++ w) ++ (take run others ++ drop (m + run) entry)
      parts =
          sym (take-append-drop m behind)
          ∙ ap₂ (λ (a b : List ℕ). a ++ b) (front_kept x inside ∙ front)
          (sym (take-append-drop run (drop m behind)) ∙ ap₂ (λ (a b : List ℕ). a ++ b) said rest)

      run_over : behind ≡ over ((cs ++ w) ++ take run others) entry
      run_over =
          let ds = (cs ++ w) ++ take run others in
          let l : length ds ≡ m + run = length-append (cs ++ w) (take run others) ∙ ap₂ (λ (a b : ℕ). a + b) exact (length-take-le run others long) in
          parts ∙ sym (append_assoc (cs ++ w) (take run others) (drop (m + run) entry))
          ∙ sym (over_fits ds entry (omega (arith, as_long, inside)) ∙ ap (λ (i : ℕ). ds ++ drop i entry) l)

    wrote_run : Wrote before n (w ++ others) (length w + run) behind
    wrote_run =
        record {
          kept = x.long ∙ once.kept;
          wrote = λ entry cs z.
              run_over entry cs z
              ∙ ap (λ (l : List ℕ). over l entry) (append_assoc cs w (take run others) ∙ ap (λ (l : List ℕ). cs ++ l) (sym (take-append-add w others run)));
        }

    -- as far as there is room
    pub adds_run : Adds before n (stretched k w) behind all
    adds_run =
        let l : length (w ++ others) ≡ length w + many = length-append w others ∙ ap (λ (i : ℕ). length w + i) (length_stretched (k - 1) w) in
        let as_many : length w + run ≡ min (length w + many) (length before - n) =
        all_fit n (length w) many m (length middle) count_most room below at runs ∙ ap (λ (i : ℕ). min (length w + many) (i - n)) once.kept in
        adds_same
        (wrote_all wrote_run (as_many ∙ ap (λ (i : ℕ). min i (length before - n)) (sym l)) few (counted ∙ ap (λ (i : ℕ). min count_most (n + i)) (sym l)))
        (sym (first_time_lem k w first))

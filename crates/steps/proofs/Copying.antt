-- Behind a turn that was shown whole, and left what it found: every turn left begins where it began, so that its rows are theirs.
use Prim.Native.Nat.{ℕ, zero, suc, ◌+◌, ◌*◌, ◌-◌, ◌≤◌, ◌<◌, min}
use native.Mathlib.Nat.{eq-zero-or-pos}
use native.Mathlib.Omega.{arith}
use mathlib.Core.Path.{◌≡◌, refl, sym, ap, ap₂, ◌∙◌, subst}
use mathlib.Core.Logic.{◌⊎◌, inl, inr}
use mathlib.Core.Bool.{Bool, true, false, not, ◌&&◌, and-false}
use mathlib.Core.List.{List, [], ◌∷◌, ◌++◌, append_assoc}
use lib.Dec.{leb, eqb}
use lib.ListN.{length, get_or, take, length-append}
use lib.Seq.{ext_get_or, get_or-take, length-take-le}
use borrow.Author.Tests.{lt-leb, leb-true, eqb-true, eqb-false}
use Rattle.tokens.proofs.Bools.{both}
use Rattle.meaning.specs.Body.{Body}
use Rattle.meaning.specs.Run.{State, Cycle, play}
use Rattle.meaning.proofs.Rows.{AllWide}
use Rattle.meaning.proofs.Turns.{Plain, keeps, copies}
use Rattle.walks.specs.Seen.{seen}
use Rattle.walks.specs.Written.{Written}
use Rattle.walks.proofs.Seen.{length_seen, seen_all}
use Rattle.walks.proofs.Loops.{length_copies, seen_copies}
use Rattle.pins.specs.Shown.{table_of}
use Rattle.plays.specs.Plays.{Ground, Arrays, Showing}
use Rattle.rows.specs.declared.Walk.{Walk}
use Rattle.rows.specs.Again.{Again}
use Rattle.rows.specs.Went.{over, spends, Went}
use Rattle.steps.specs.Walks.{Alike, Repeated}

-- ---- a turn that leaves the pins and the table that it found

pub alike_taken : (n : ℕ) (v w : List ℕ) → take n v ≡ take n w → Alike n v w
alike_taken n v w e =
    record { each = λ i h. sym (get_or-take n v i 0 h) ∙ ap (λ (l : List ℕ). get_or l i 0) e ∙ get_or-take n w i 0 h }

alike_front : (n : ℕ) (v w : List ℕ) → n ≤ length v → n ≤ length w → Alike n v w → take n v ≡ take n w
alike_front n v w l m x =
    let a = length-take-le n v l in
    let b = length-take-le n w m in
    ext_get_or 0 (take n v) (take n w) (a ∙ sym b) λ i q.
    let j : i < n = omega (arith, a) in
    get_or-take n v i 0 j ∙ x.each i j ∙ sym (get_or-take n w i 0 j)

module _ (t : ℕ) (b : Body) (plain : Plain b) (g : Ground) {level table table' : ℕ} (x y : Arrays) {s : State} where
  pub turn_steady : {kept : List ℕ} → g.signals ≤ length x.values → g.signals ≤ length y.values → g.signals ≤ length kept
      → Showing g level table x s → Showing g level table' y (play t b s).0 → Alike g.signals y.values kept → Alike g.signals kept x.values → table' ≡ table
      → (play t b s).0 ≡ s
  turn_steady {kept} l m o before behind p q same =
      let pins : (play t b s).0.pins ≡ s.pins =
      behind.pins_are ∙ alike_front g.signals y.values kept m o p ∙ alike_front g.signals kept x.values o l q ∙ sym before.pins_are in
      let tables : (play t b s).0.table ≡ s.table = behind.table_is ∙ ap table_of same ∙ sym before.table_is in
      let args = keeps t b plain s in
      λ i. record { pins = pins i; table = tables i; args = args i }

-- the code's tests
pub all_told : (p a b : ℕ) (k : Bool) → ((eqb p 0 && eqb a b) && k) ≡ true → (p ≡ 0) × (a ≡ b) × (k ≡ true)
all_told p a b k h =
    let x = both (eqb p 0 && eqb a b) k h in
    let y = both (eqb p 0) (eqb a b) x.0 in
    (eqb-true p 0 y.0, eqb-true a b y.1, x.1)

-- ---- one part was shown whole

still_none : (k : Bool) (a n : ℕ) → n < a → (k && leb a n) ≡ false
still_none k a n h = ap (λ (c : Bool). k && c) (lt-leb a n h) ∙ and-false k

module _ {signals : ℕ} {l : List Cycle} {v : ℕ} {w w' : Walk} {x y : List ℕ} (p : Went signals l v w w' x y) (some : 0 < length l) (whole : w'.row ≡ w.row + length l) where
  from_first_lem : w.pass ≡ 0
  from_first_lem = omega (arith, p.rows, length_seen w.pass w.show l)

  pub whole_reached : w'.walking ≡ false
  whole_reached = p.walking ∙ still_none w.walking (length l) w.pass (omega (arith, from_first_lem))

  enough : length l ≤ w.show
  enough = omega (arith, p.rows, length_seen w.pass w.show l)

  shown : seen w.pass w.show l ≡ l
  shown = ap (λ (i : ℕ). seen i w.show l) from_first_lem ∙ seen_all w.show l enough

  shown_all_lem : (n : ℕ) → seen w.pass w.show (copies (suc n) l) ≡ l ++ seen 0 w'.show (copies n l)
  shown_all_lem n =
      let left : w.show - (length l - w.pass) ≡ w'.show = omega (arith, p.show, length_seen w.pass w.show l) in
      seen_copies w.pass w.show n l (omega (arith, from_first_lem))
      ∙ ap₂ (λ (a : List Cycle) (m : ℕ). a ++ seen 0 m (copies n l)) shown left

  -- THE LAW: it was gone through, and its rows again are those of as many more
  pub went_again : {k n : ℕ} {w'' : Walk} {z : List ℕ} → length l ≡ k → AllWide signals l → Again signals k n w' w'' y z → Went signals (copies (suc n) l) v w w'' x z
  unfolding copies
  went_again {k} {n} {w''} {z} even wide a =
      let more = seen 0 w'.show (copies n l) in
      let long : length (copies n l) ≡ n * k = length_copies n l ∙ ap (λ (i : ℕ). n * i) even in
      let count : length (seen w.pass w.show (l ++ copies n l)) ≡ length l + min w'.show (n * k) =
      ap length (shown_all_lem n) ∙ length-append l more ∙ omega (arith, length_seen 0 w'.show (copies n l)) in
      record {
        rows = omega (arith, a.row);
        show = omega (arith, a.show, p.show, ap length shown);
        pass = λ h. omega (arith, a.pass, from_first_lem);
        walking = a.walking ∙ sym (still_none w.walking (length (l ++ copies n l)) w.pass (omega (arith, from_first_lem, length-append l (copies n l))));
        spending = p.spending ∙ ap (λ (m : ℕ). m + spends w.walking v) (sym a.budget);
        marked = a.marked ∙ p.marked;
        written = λ entry cs h q. (
            let one : Written w'.mark signals entry y (cs ++ l) =
            subst (λ (m : List Cycle). Written w'.mark signals entry y (cs ++ m)) shown (p.written entry cs h q) in
            subst (Written w''.mark signals entry z) (append_assoc cs l more ∙ ap (λ (m : List Cycle). cs ++ m) (sym (shown_all_lem n)))
            (a.written entry cs l even wide (length-append cs l ∙ omega (arith, whole)) one));
        long = a.long ∙ p.long;
      }

-- ---- nothing was to be passed, and there is more to do: it was shown whole

still_shows : (k : Bool) (n : ℕ) → k ≡ false → (not k && eqb n 0) ≡ false → n ≡ 0 → ⊥
still_shows false n e h = eqb-false n 0 h
still_shows true n e h = let z : ◌≡◌ {A = ℕ} 0 1 = cc in absurd (omega arith)

-- turns without cycles
empty_copies : (n : ℕ) (l : List Cycle) → length l ≡ 0 → copies (suc n) l ≡ l
unfolding copies
empty_copies n [] e = none n
  where
    none : (n : ℕ) → copies n [] ≡ []
    none zero = refl
    none (suc n) = none n
empty_copies n (c ∷ l) e = absurd (omega arith)

module _ {signals : ℕ} {l : List Cycle} {v : ℕ} {w w' : Walk} {x y : List ℕ} (p : Went signals l v w w' x y) (first : w.pass ≡ 0) (more : over w' ≡ false) where
  pub shown_whole : w'.row ≡ w.row + length l
  shown_whole = by w'.walking refl
    where
      by : (k : Bool) → w'.walking ≡ k → w'.row ≡ w.row + length l
      by true e =
          omega (arith, p.rows, length_seen w.pass w.show l, leb-true (length l) w.pass (both w.walking (leb (length l) w.pass) (sym p.walking ∙ e)).1)
      by false e =
          let left = still_shows w'.walking w'.show e more in
          omega (arith, p.rows, p.show, length_seen w.pass w.show l, left)

  -- THE LAW: its rows were shown again for n more turns
  pub went_repeated : {n : ℕ} {w'' : Walk} {z : List ℕ} → AllWide signals l → Repeated signals w.row n w' w'' y z → Went signals (copies (suc n) l) v w w'' x z
  went_repeated {n} {w''} {z} wide r = by (eq-zero-or-pos (length l))
    where
      by : (length l ≡ 0) ⊎ (0 < length l) → Went signals (copies (suc n) l) v w w'' x z
      by (inl e) = let q = r.none (omega (arith, shown_whole)) in rw (q.0, q.1, empty_copies n l e) p
      by (inr h) = went_again p h shown_whole (omega (arith, shown_whole)) wide (r.again (omega (arith, shown_whole)))

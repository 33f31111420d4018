-- Marks as the digits of a number: there are few enough to look at all.
use Prim.Native.Nat.{ℕ, zero, suc, ◌+◌, ◌*◌, ◌/◌, ◌%◌, ◌^◌, ◌<◌, ◌≤◌}
use native.Mathlib.Nat.{mul_comm, one-mul, mod-lt, pow-suc, pos_of_ne-zero}
use native.Mathlib.Omega.{arith}
use mathlib.Core.Path.{◌≡◌, refl, sym, ap, ap₂, ◌∙◌}
use mathlib.Core.Bool.{Bool, true, false, not, ◌&&◌, ◌||◌}
use mathlib.Core.Logic.{◌⊎◌, inl, inr}
use mathlib.Core.List.{List}
use lib.Dec.{eqb, ltb, leb, lit<}
use lib.Bits.{bit_or, or_shr, or_mod, or_lt}
use lib.Pow.{shl_exact}
use lib.ListN.{length, get_or, set, replicate}
use lib.Seq.{get_or-set_same, get_or-set_other}
use borrow.Rule.Slice.PartMut.{put_mid}
use Rattle.std.proofs.lemmas.List.{places}
use borrow.Author.Tests.{eq-eqb, eqb-true, eqb-false, ltb-true, ltb-false, le-leb, leb-true, ne_eqb, not-true, lt-ltb}
use Rattle.tokens.proofs.Bools.{both, neither, or_right, true_false}
use Rattle.meaning.specs.Bounds.{signals_most, tables_most}
use Rattle.memos.specs.Tracks.{bit_of, is_marked, assigned_mark, marks_most, Marks, Joins, shown_marks, tracks_length, marks_from}
use Rattle.memos.specs.Memo.{Writes}
use Rattle.memos.proofs.Rows.{writes_next, outside}

-- ---- all of them

all_below : ℕ → (ℕ → Bool) → Bool
all_below zero p = true
all_below (suc n) p = p n && all_below n p

-- what holds of all holds of each
below_all : (n : ℕ) (p : ℕ → Bool) → all_below n p ≡ true → (k : ℕ) → k < n → p k ≡ true
unfolding all_below
below_all zero p h k l = absurd (omega arith)
below_all (suc n) p h k l = by (eqb k n) refl (below_all n p (both (p n) (all_below n p) h).1 k)
  where
    by : (z : Bool) → eqb k n ≡ z → (k < n → p k ≡ true) → p k ≡ true
    by true e ih = rw (eqb-true k n e) (both (p n) (all_below n p) h).0
    by false e ih = let d = eqb-false k n e in ih (omega arith)

same : Bool → Bool → Bool
same a b = elim a [ true ↦ b | false ↦ not b ]

same_is : (a b : Bool) → same a b ≡ true → a ≡ b
unfolding same
same_is true true h = refl
same_is true false h = sym h
same_is false true h = h
same_is false false h = refl

all_bits : all_below 9 (λ t. all_below 9 (λ u. same (is_marked (bit_of t) u) (eqb t u))) ≡ true
unfolding bit_of is_marked all_below same
all_bits = refl

pub bit_marked : (t u : ℕ) → t ≤ assigned_mark → u ≤ assigned_mark → is_marked (bit_of t) u ≡ eqb t u
bit_marked t u l h =
    same_is _ _ (below_all 9 (λ u. same (is_marked (bit_of t) u) (eqb t u)) (below_all 9 (λ t. all_below 9 (λ u. same (is_marked (bit_of t) u) (eqb t u))) all_bits t (omega arith)) u (omega arith))

all_zero : all_below 9 (λ u. same (is_marked 0 u) false) ≡ true
unfolding bit_of is_marked all_below same
all_zero = refl

pub zero_marked : (u : ℕ) → u ≤ assigned_mark → is_marked 0 u ≡ false
zero_marked u h = same_is _ _ (below_all 9 (λ u. same (is_marked 0 u) false) all_zero u (omega arith))

all_high : all_below 512 (λ m. same (is_marked m 8) (leb 256 m)) ≡ true
unfolding bit_of is_marked all_below same
all_high = refl

high_marked : (m : ℕ) → m < marks_most → 256 ≤ m → is_marked m assigned_mark ≡ true
high_marked m l h = same_is _ _ (below_all 512 (λ m. same (is_marked m 8) (leb 256 m)) all_high m l) ∙ le-leb 256 m h

-- ---- as shifts and as digits joined by `|`

bit_power : (t : ℕ) → bit_of t ≡ 2 ^ t
unfolding bit_of
bit_power zero = refl
bit_power (suc t) = ap (λ (k : ℕ). 2 * k) (bit_power t) ∙ mul_comm 2 (2 ^ t) ∙ sym (pow-suc 2 t)

pub bit_shifted : (t : ℕ) → t ≤ assigned_mark → (1 * 2 ^ t) % 2 ^ 16 ≡ bit_of t
bit_shifted t h = shl_exact 1 t 16 (lit< tt) (omega arith) ∙ one-mul (2 ^ t) ∙ sym (bit_power t)

all_few : all_below 9 (λ t. ltb 0 (bit_of t) && leb (bit_of t) 256) ≡ true
unfolding bit_of all_below
all_few = refl

pub bit_few : (t : ℕ) → t ≤ assigned_mark → (0 < bit_of t) × (bit_of t ≤ 256)
bit_few t h = let b = both _ _ (below_all 9 (λ t. ltb 0 (bit_of t) && leb (bit_of t) 256) all_few t (omega arith)) in (ltb-true _ _ b.0, leb-true _ _ b.1)

-- the code's shift is the digit
pub marked_shifted : (m t : ℕ) → eqb (m / 2 ^ t % 2) 1 ≡ is_marked m t
unfolding is_marked
marked_shifted m t = ap (λ (k : ℕ). eqb (m / k % 2) 1) (sym (bit_power t))

digit_or : (x y : ℕ) → x < 2 → y < 2 → eqb (bit_or x y) 1 ≡ (eqb x 1 || eqb y 1)
digit_or zero y h l = refl
digit_or (suc zero) zero h l = refl
digit_or (suc zero) (suc zero) h l = refl
digit_or (suc zero) (suc (suc y)) h l = absurd (omega arith)
digit_or (suc (suc x)) y h l = absurd (omega arith)

or_marked : (a b u : ℕ) → is_marked (bit_or a b) u ≡ (is_marked a u || is_marked b u)
or_marked a b u =
    sym (marked_shifted (bit_or a b) u) ∙ ap (λ (k : ℕ). eqb (k % 2) 1) (or_shr a b u) ∙ ap (λ (k : ℕ). eqb k 1) (or_mod (a / 2 ^ u) (b / 2 ^ u) 1)
    ∙ digit_or (a / 2 ^ u % 2) (b / 2 ^ u % 2) (mod-lt _ (lit< tt)) (mod-lt _ (lit< tt))
    ∙ ap₂ (λ (x y : Bool). x || y) (marked_shifted a u) (marked_shifted b u)

or_swap : (a b : Bool) → (a || b) ≡ (b || a)
or_swap true true = refl
or_swap true false = refl
or_swap false true = refl
or_swap false false = refl

pub or_few : (a b : ℕ) → a < marks_most → b < marks_most → bit_or a b < marks_most
or_few a b = or_lt 9 a b

pub mark_more : (m t : ℕ) → m < marks_most → t ≤ assigned_mark → Marks m t (bit_or m (bit_of t))
mark_more m t l h = record {
  few = or_few m (bit_of t) l (omega (arith, (bit_few t h).1));
  each = λ u q. or_marked m (bit_of t) u ∙ ap (λ (w : Bool). is_marked m u || w) (bit_marked t u h q) ∙ or_swap (is_marked m u) (eqb t u);
}

-- ---- the last mark of a table

-- behind a table with no mark from it on there is none
none_behind : (m t k : ℕ) → Bool
none_behind m t k = not (eqb (m % 256 / 2 ^ t) 0 && leb t k) || not (is_marked m k)

all_none : all_below 512 (λ m. all_below 9 (λ t. all_below 8 (none_behind m t))) ≡ true
unfolding bit_of is_marked all_below none_behind
all_none = refl

pub unmarked_behind : (m t k : ℕ) → m < marks_most → t ≤ tables_most → m % 256 / 2 ^ t ≡ 0 → t ≤ k → k < tables_most → is_marked m k ≡ false
unfolding none_behind
unmarked_behind m t k few l none after h =
    let r = below_all 8 (none_behind m t) (below_all 9 (λ t. all_below 8 (none_behind m t)) (below_all 512 (λ m. all_below 9 (λ t. all_below 8 (none_behind m t))) all_none m few) t (omega arith)) k h in
    not-true _ (rw (eq-eqb (m % 256 / 2 ^ t) 0 none, le-leb t k after) at r)

-- no table has a mark behind the last
pub some_mark : (m t : ℕ) → t ≤ tables_most → (m % 256 / 2 ^ t ≡ 0 → ⊥) → t < tables_most
some_mark m t l some = by (eqb t tables_most) refl
  where
    by : (w : Bool) → eqb t tables_most ≡ w → t < tables_most
    by true e = let q : m % 256 / 2 ^ t ≡ 0 = ap (λ (k : ℕ). m % 256 / 2 ^ k) (eqb-true t tables_most e) ∙ omega arith in absurd (some q)
    by false e = let d = eqb-false t tables_most e in omega arith

-- ---- joined

pub joins_high : (a b : ℕ) → a < marks_most → 256 ≤ a → Joins a b a
joins_high a b l h = record { kept = λ u q e. e; more = λ z. true_false (high_marked a l h) z; only = λ e. inl e }

pub joins_zero : (a b : ℕ) → b ≡ 0 → Joins a b a
joins_zero a b z = record {
  kept = λ u q e. e;
  more = λ f u q e. true_false e (ap (λ (k : ℕ). is_marked k u) z ∙ zero_marked u q);
  only = λ e. inl e;
}

pub joins_same : (a b : ℕ) → a ≡ b → Joins a b a
joins_same a b z = record { kept = λ u q e. e; more = λ f u q e. rw z e; only = λ e. inl e }

pub joins_or : (a b : ℕ) → Joins a b (bit_or a b)
joins_or a b = record {
  kept = λ u q e. or_marked a b u ∙ ap (λ (w : Bool). w || is_marked b u) e;
  more = λ f u q e. or_marked a b u ∙ or_right (is_marked a u) (is_marked b u) e;
  only = λ e. by (is_marked a assigned_mark) refl (sym (or_marked a b assigned_mark) ∙ e);
}
  where
    by : (w : Bool) → is_marked a assigned_mark ≡ w → (is_marked a assigned_mark || is_marked b assigned_mark) ≡ true → (is_marked a assigned_mark ≡ true) ⊎ (is_marked b assigned_mark ≡ true)
    by true g z = inl g
    by false g z = inr (rw g at z)

-- ---- one signal after the other, from a place o on

pub record Joined (o n : ℕ) (b : ℕ → ℕ) (memo memo' : List ℕ) : Type 0 where
  pub writes : Writes memo memo' o (o + signals_most)
  pub each : (s : ℕ) → s < n → Joins (marks_from memo o s) (b s) (marks_from memo' o s)
  pub rest : (i : ℕ) → o + n ≤ i → get_or memo' i 0 ≡ get_or memo i 0

small : (r : ℕ) → r < marks_most → r % marks_most ≡ r
small r h = omega arith

pub joined_next : {o n : ℕ} {b : ℕ → ℕ} {memo memo' : List ℕ} (r : ℕ) → Joined o n b memo memo' → n < signals_most → o + n < length memo' → r < marks_most
    → Joins (marks_from memo' o n) (b n) r → Joined o (n + 1) b memo (set memo' (o + n) r)
joined_next {o} {n} {b} {memo} {memo'} r x few room l j = record {
  writes = writes_next x.writes (o + n) r (omega arith) (omega arith);
  each = λ s h. by s h (eqb s n) refl;
  rest = λ i h. get_or-set_other memo' (o + n) i r 0 (λ z. omega arith) ∙ x.rest i (omega arith);
}
  where
    here : Joins (marks_from memo o n) (b n) r
    here = rw (← x.rest (o + n) (omega arith)) j

    by : (s : ℕ) → s < n + 1 → (w : Bool) → eqb s n ≡ w → Joins (marks_from memo o s) (b s) (marks_from (set memo' (o + n) r) o s)
    by s h true e =
        let q : get_or (set memo' (o + n) r) (o + n) 0 % marks_most ≡ r = ap (λ (k : ℕ). k % marks_most) (get_or-set_same memo' (o + n) r 0 room) ∙ small r l in
        rw (eqb-true s n e, q) here
    by s h false e =
        let d = eqb-false s n e in
        rw (get_or-set_other memo' (o + n) (o + s) r 0 λ z. omega arith) (x.each s (omega arith))

-- ---- nothing is marked yet

-- zeros are written over the first n signals from a place o on
pub freshened : {m ys : List ℕ} {o k w : ℕ} (n : ℕ) → k ≡ n → w ≡ n → o + n ≤ length m → n ≤ signals_most → ys ≡ replicate w 0
    → Writes m (put_mid o k m ys) o (o + signals_most) × ((s : ℕ) → s < n → marks_from (put_mid o k m ys) o s ≡ 0)
freshened {m} {ys} {o} {k} n e l room few z = rw (e, z, l) (
  record { long = grind (arith, places); others = λ i h. others i (outside h) },
  λ s h. ap (λ (v : ℕ). v % marks_most) (here s h),
)
  where
    here : (s : ℕ) → s < n → get_or (put_mid o n m (replicate n 0)) (o + s) 0 ≡ 0
    here s h = grind (arith, places)

    others : (i : ℕ) → (i < o) ⊎ (o + signals_most ≤ i) → get_or (put_mid o n m (replicate n 0)) i 0 ≡ get_or m i 0
    others i (inl h) = grind (arith, places)
    others i (inr h) = grind (arith, places)

-- ---- where something is tracked at all

pub untracked : {A : Type 0} (level long : ℕ) → (eqb level 0 || ltb long tracks_length) ≡ true → 0 < level → tracks_length ≤ long → A
untracked {A} level long h some room = by (eqb level 0) refl (ltb long tracks_length) refl h
  where
    by : (x : Bool) → eqb level 0 ≡ x → (y : Bool) → ltb long tracks_length ≡ y → (x || y) ≡ true → A
    by true p y q h = absurd (omega (arith, eqb-true level 0 p))
    by false p true q h = absurd (omega (arith, ltb-true long tracks_length q))
    by false p false q h = true_false refl (sym h)

pub tracked_room : (level long : ℕ) → (eqb level 0 || ltb long tracks_length) ≡ false → (level ≡ 0 → ⊥) × (tracks_length ≤ long)
tracked_room level long h = let n = neither (eqb level 0) (ltb long tracks_length) h in (eqb-false level 0 n.0, ltb-false long tracks_length n.1)

pub tracks_told : (level long : ℕ) → ((not (eqb level 0) && leb tracks_length long) ≡ true → (0 < level) × (tracks_length ≤ long))
    × ((not (eqb level 0) && leb tracks_length long) ≡ false → 0 < level → tracks_length ≤ long → ⊥)
tracks_told level long = (
  λ h. (let b = both (not (eqb level 0)) (leb tracks_length long) h in (pos_of_ne-zero (eqb-false level 0 (not-true _ b.0)), leb-true tracks_length long b.1)),
  λ h some room. true_false (both_true (ne_eqb level 0 (λ z. omega arith)) (le-leb tracks_length long room)) h,
)
  where
    both_true : {a b : Bool} → a ≡ false → b ≡ true → (not a && b) ≡ true
    both_true {a} {b} p q = rw (p, q)

-- ---- what a V marks

-- a signal that it gives a character is assigned
pub shown_put : (g t : ℕ) → (g ≡ 0 → ⊥) → is_marked (shown_marks g t) assigned_mark ≡ true
unfolding shown_marks
shown_put g t h = rw (ne_eqb g 0 h, shown_marks) (bit_marked assigned_mark assigned_mark (omega arith) (omega arith))

-- any other is not, and is shown under the table
pub shown_kept : (g t : ℕ) → g ≡ 0 → is_marked (shown_marks g t) assigned_mark ≡ false
unfolding shown_marks
shown_kept g t h = by (ltb t tables_most) refl
  where
    by : (w : Bool) → ltb t tables_most ≡ w → is_marked (shown_marks g t) assigned_mark ≡ false
    by true e = rw (eq-eqb g 0 h, shown_marks, e) (bit_marked t assigned_mark (omega (arith, ltb-true t tables_most e)) (omega arith) ∙ ne_eqb t assigned_mark (λ z. omega (arith, ltb-true t tables_most e)))
    by false e = rw (eq-eqb g 0 h, shown_marks, e) (zero_marked assigned_mark (omega arith))

pub shown_under : (g t : ℕ) → g ≡ 0 → t < tables_most → is_marked (shown_marks g t) t ≡ true
unfolding shown_marks
shown_under g t h l = rw (eq-eqb g 0 h, shown_marks, lt-ltb t tables_most l) (bit_marked t t (omega arith) (omega arith) ∙ eq-eqb t t refl)

-- ---- a mark that is added if it is asked for

-- r is m, with the mark t if b
abbrev pub MarkedIf : Bool → (m t r : ℕ) → Type 0
MarkedIf b m t r = (b ≡ true → Marks m t r) × (b ≡ false → r ≡ m)

module _ (b : Bool) (m t r : ℕ) (x : MarkedIf b m t r) where
  pub marked_kept : (u : ℕ) → u ≤ assigned_mark → is_marked m u ≡ true → is_marked r u ≡ true
  marked_kept u l h = by b refl
    where
      by : (w : Bool) → b ≡ w → is_marked r u ≡ true
      by true e = (x.0 e).each u l ∙ or_right (eqb t u) (is_marked m u) h
      by false e = rw (x.1 e) h

  pub marked_here : b ≡ true → t ≤ assigned_mark → is_marked r t ≡ true
  marked_here e l = (x.0 e).each t l ∙ ap (λ (w : Bool). w || is_marked m t) (eq-eqb t t refl)

  pub marked_other : (u : ℕ) → u ≤ assigned_mark → (t ≡ u → ⊥) → is_marked r u ≡ is_marked m u
  marked_other u l d = by b refl
    where
      by : (w : Bool) → b ≡ w → is_marked r u ≡ is_marked m u
      by true e = (x.0 e).each u l ∙ ap (λ (w : Bool). w || is_marked m u) (ne_eqb t u d)
      by false e = ap (λ (k : ℕ). is_marked k u) (x.1 e)

pub marked_alone : (b : Bool) (t r : ℕ) → t ≤ assigned_mark → MarkedIf b 0 t r → is_marked r t ≡ b
marked_alone true t r l x = marked_here true 0 t r x refl l
marked_alone false t r l x = ap (λ (k : ℕ). is_marked k t) (x.1 refl) ∙ zero_marked t l

-- ---- the same, where of what each is joined to it only a property is known

pub record JoinedSome (P : ℕ → ℕ → Type 0) (o n : ℕ) (memo memo' : List ℕ) : Type 0 where
  pub writes : Writes memo memo' o (o + signals_most)
  pub each : (s : ℕ) → (b : ℕ) × (s < n → P s b × Joins (marks_from memo o s) b (marks_from memo' o s))
  pub rest : (i : ℕ) → o + n ≤ i → get_or memo' i 0 ≡ get_or memo i 0

pub joined_some_none : {P : ℕ → ℕ → Type 0} {o : ℕ} {memo : List ℕ} → JoinedSome P o 0 memo memo
joined_some_none = record { writes = record { long = refl; others = λ i h. refl }; each = λ s. (0, λ h. absurd (omega arith)); rest = λ i h. refl }

pub joined_some_next : {P : ℕ → ℕ → Type 0} {o n : ℕ} {memo memo' memo'' : List ℕ} (b r : ℕ) → JoinedSome P o n memo memo' → n < signals_most → o + n < length memo' → memo'' ≡ set memo' (o + n) r
    → r < marks_most → P n b → Joins (marks_from memo' o n) b r → JoinedSome P o (n + 1) memo memo''
joined_some_next {P} {o} {n} {memo} {memo'} {memo''} b r x few room is l p j = rw is (record {
  writes = writes_next x.writes (o + n) r (omega arith) (omega arith);
  each = λ s. by s (eqb s n) refl;
  rest = λ i h. get_or-set_other memo' (o + n) i r 0 (λ z. omega arith) ∙ x.rest i (omega arith);
})
  where
    here : Joins (marks_from memo o n) b r
    here = rw (← x.rest (o + n) (omega arith)) j

    by : (s : ℕ) (w : Bool) → eqb s n ≡ w → (c : ℕ) × (s < n + 1 → P s c × Joins (marks_from memo o s) c (marks_from (set memo' (o + n) r) o s))
    by s true e =
        let q : get_or (set memo' (o + n) r) (o + n) 0 % marks_most ≡ r = ap (λ (k : ℕ). k % marks_most) (get_or-set_same memo' (o + n) r 0 room) ∙ small r l in
        (b, λ h. rw (eqb-true s n e) (p, rw q here))
    by s false e =
        let d = eqb-false s n e in
        ((x.each s).0, λ h. (let y = (x.each s).1 (omega arith) in (y.0, rw (get_or-set_other memo' (o + n) (o + s) r 0 λ z. omega arith) y.1)))

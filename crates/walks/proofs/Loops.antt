-- A Loop entered at cycle n, in its turn n / c where a turn has c cycles: that turn from n % c on, and then the turns left. The first turn begins where the Loop begins, every other where
-- the first ended, so that all of those show the same cycles.
use mathlib.Core.Path.{◌≡◌, refl, sym, ap, ap₂, ◌∙◌, subst}
use Prim.Native.Nat.{ℕ, zero, suc, ◌+◌, ◌*◌, ◌-◌, ◌/◌, ◌%◌, ◌≤◌, ◌<◌}
use native.Mathlib.Nat.{eq-zero-or-pos, zero-add, add-zero, suc-add, zero-mul, mul-zero, suc-mul, mul-le-mul_right, mod-lt, mod-eq-sub-div-mul, div-mul-le_self, div-lt_iff_lt-mul}
use native.Mathlib.Numerals.{add-one}
use native.Mathlib.Omega.{arith}
use mathlib.Core.Logic.{◌⊎◌, inl, inr}
use mathlib.Core.List.{List, ◌++◌, append_assoc, append-nil}
use lib.ListN.{length, length-append}
use lib.Seq.{take-append-add}
use Rattle.meaning.specs.Body.{Body}
use Rattle.meaning.specs.Run.{State, Cycle, Played, cycles, follow, again, play}
use Rattle.meaning.proofs.Rows.{length_play, length_again}
use Rattle.meaning.proofs.Turns.{Plain, plain_twice, copies, loop_turns_lem, loop_left}
use Rattle.walks.specs.Seen.{seen, Through}
use Rattle.walks.specs.Turns.{begins}
use Rattle.walks.proofs.Seen.{seen_behind, seen_from, through_both}

-- a cycle in some turns of c cycles: c is not 0
pub some_cycles : (k c n : ℕ) → n < k * c → 0 < c
some_cycles k c n h = by (eq-zero-or-pos c)
  where
    by : (c ≡ 0) ⊎ (0 < c) → 0 < c
    by (inl e) = absurd (omega (arith, mul-zero k, ap (λ (i : ℕ). k * i) e))
    by (inr g) = g

-- it lies in one of them
pub turn_below : (k c n : ℕ) → n < k * c → n / c < k
turn_below k c n h = (div-lt_iff_lt-mul (some_cycles k c n h)).1 h

-- ---- turns of any kind

module _ (f : State → Played) where
  -- so many turns, and then some more
  pub again_add : (i k : ℕ) (s : State) → again (i + k) f s ≡ follow (again i f s) (again k f)
  unfolding again follow
  again_add zero k s = rw zero-add
  again_add (suc i) k s =
      rw suc-add (
      ap (λ (y : Played). (y.0, (f s).1 ++ y.1)) (again_add i k (f s).0)
      ∙ ap (λ (l : List Cycle). ((again k f (again i f (f s).0).0).0, l)) (sym (append_assoc (f s).1 (again i f (f s).0).1 _))
      )

  -- a turn, and those behind it
  pub through_turn : (k : ℕ) (s : State) {n m : ℕ} {cs ds : List Cycle} {n₁ m₁ n₂ m₂ : ℕ} → Through (f s).1 n m cs n₁ m₁
      → Through (again k f (f s).0).1 n₁ m₁ ds n₂ m₂ → Through (again (suc k) f s).1 n m (cs ++ ds) n₂ m₂
  unfolding again follow
  through_turn k s x y = through_both x y

  -- one turn more
  again_one : (k : ℕ) (s : State) → again (suc k) f s ≡ follow (again k f s) f
  unfolding again follow
  again_one k s =
      ap (λ (i : ℕ). again i f s) (sym (add-one k)) ∙ again_add k 1 s
      ∙ ap (λ (l : List Cycle). ((f (again k f s).0).0, (again k f s).1 ++ l)) (append-nil (f (again k f s).0).1)

  pub again_next : (k : ℕ) (s : State) → (again (suc k) f s).0 ≡ (f (again k f s).0).0
  unfolding follow
  again_next k s = ap (λ (y : Played). y.0) (again_one k s)

  pub through_next : (k : ℕ) (s : State) {n m : ℕ} {cs ds : List Cycle} {n₁ m₁ n₂ m₂ : ℕ} → Through (again k f s).1 n m cs n₁ m₁
      → Through (f (again k f s).0).1 n₁ m₁ ds n₂ m₂ → Through (again (suc k) f s).1 n m (cs ++ ds) n₂ m₂
  unfolding follow
  through_next k s {n} {m} {cs} {ds} {n₂ = n₂} {m₂ = m₂} x y =
      subst (λ (l : List Cycle). Through l n m (cs ++ ds) n₂ m₂) (sym (ap (λ (y : Played). y.1) (again_one k s))) (through_both x y)

  module _ (c : ℕ) (even : (s : State) → length (f s).1 ≡ c) where
    -- j turns lie before n
    pub turns_passed : (j k n m : ℕ) (s : State) → j ≤ k → j * c ≤ n
        → seen n m (again k f s).1 ≡ seen (n - j * c) m (again (k - j) f (again j f s).0).1
    unfolding follow
    turns_passed j k n m s h g =
        let e : k ≡ j + (k - j) = omega arith in
        let l : length (again j f s).1 ≡ j * c = length_again j c f s even in
        ap (λ (i : ℕ). seen n m (again i f s).1) e
        ∙ ap (λ (y : Played). seen n m y.1) (again_add j (k - j) s)
        ∙ seen_behind n m (again j f s).1 (again (k - j) f (again j f s).0).1 (omega arith)
        ∙ ap (λ (i : ℕ). seen (n - i) m (again (k - j) f (again j f s).0).1) l

    -- the turn that holds n
    module _ (k n : ℕ) (h : n < k * c) where
      -- the cycles of it and of the turns left
      room : n % c < (k - n / c) * c
      room =
          let g : n / c < k = turn_below k c n h in
          let i : 1 * c ≤ (k - n / c) * c = mul-le-mul_right c (omega arith) in
          omega (arith, mod-lt n (some_cycles k c n h))

      pub turn_entered : (m : ℕ) (s : State) → seen n m (again k f s).1 ≡ seen (n % c) m (again (k - n / c) f (again (n / c) f s).0).1
      turn_entered m s =
          let g : n / c < k = turn_below k c n h in
          turns_passed (n / c) k n m s (omega arith) (div-mul-le_self n c)
          ∙ ap (λ (i : ℕ). seen i m (again (k - n / c) f (again (n / c) f s).0).1) (sym (mod-eq-sub-div-mul n c))

      -- whoever goes through the turns left from there has gone through all
      pub through_turns : (s : State) {m : ℕ} {cs : List Cycle} {n' m' : ℕ} → Through (again (k - n / c) f (again (n / c) f s).0).1 (n % c) m cs n' m'
          → Through (again k f s).1 n m cs n' m'
      through_turns s {m} x =
          let u = (again (n / c) f s).0 in
          record {
            shown = x.shown ∙ sym (turn_entered m s);
            show = x.show;
            pass = λ g. x.pass g ∙ omega (arith, room, length_again k c f s even, length_again (k - n / c) c f u even);
          }

-- ---- the turns of a Loop

module _ (t : ℕ) (b : Body) (plain : Plain b) (s : State) where
  pub loop_begins : (j : ℕ) → (again j (play t b) s).0 ≡ begins t b j s
  unfolding begins again
  loop_begins zero = refl
  loop_begins (suc j) = loop_left t b plain s j

  -- the state behind the Loop, from any turn on
  pub loop_behind : (j k : ℕ) → j ≤ k → (again (k - j) (play t b) (begins t b j s)).0 ≡ (again k (play t b) s).0
  unfolding follow
  loop_behind j k h =
      let e : j + (k - j) ≡ k = omega arith in
      ap (λ (u : State). (again (k - j) (play t b) u).0) (sym (loop_begins j))
      ∙ sym (ap (λ (y : Played). y.0) (again_add (play t b) j (k - j) s))
      ∙ ap (λ (i : ℕ). (again i (play t b) s).0) e

  -- a turn, whichever, and those behind it
  pub loop_from : (j k : ℕ) → (again (suc k) (play t b) (begins t b j s)).1
      ≡ (play t b (begins t b j s)).1 ++ copies k (play t b (play t b s).0).1
  unfolding begins
  loop_from zero k = ap (λ (y : Played). y.1) (loop_turns_lem t b plain k s)
  loop_from (suc j) k =
      ap (λ (y : Played). y.1) (loop_turns_lem t b plain k (play t b s).0)
      ∙ ap (λ (u : State). (play t b (play t b s).0).1 ++ copies k (play t b u).1) (plain_twice t b plain s)

  module _ (k n : ℕ) (h : n < k * cycles t b) where
    -- the state in the turn that holds n
    abbrev there : State
    there = begins t b (n / cycles t b) s

    pub loop_entered : (m : ℕ) → seen n m (again k (play t b) s).1
        ≡ seen (n % cycles t b) m (again (k - n / cycles t b) (play t b) (begins t b (n / cycles t b) s)).1
    loop_entered m =
        turn_entered (play t b) (cycles t b) (length_play t b) k n h m s
        ∙ ap (λ (u : State). seen (n % cycles t b) m (again (k - n / cycles t b) (play t b) u).1) (loop_begins (n / cycles t b))

    -- THE LAW: that turn from n % c on, and then second turns
    pub loop_shown : (m : ℕ) → seen n m (again k (play t b) s).1
        ≡ seen (n % cycles t b) m (play t b (begins t b (n / cycles t b) s)).1
        ++ seen 0 (m - (cycles t b - n % cycles t b)) (copies (k - 1 - n / cycles t b) (play t b (play t b s).0).1)
    loop_shown m =
        let c = cycles t b in
        let g : n / c < k = turn_below k c n h in
        let i : n % c < c = mod-lt n (some_cycles k c n h) in
        let e : k - n / c ≡ suc (k - 1 - n / c) = omega arith in
        let l : length (play t b there).1 ≡ c = length_play t b there in
        let later = copies (k - 1 - n / c) (play t b (play t b s).0).1 in
        loop_entered m
        ∙ ap (λ (i : ℕ). seen (n % c) m (again i (play t b) there).1) e
        ∙ ap (seen (n % c) m) (loop_from (n / c) (k - 1 - n / c))
        ∙ seen_from (n % c) m (play t b there).1 later (omega arith)
        ∙ ap (λ (i : ℕ). seen (n % c) m (play t b there).1 ++ seen 0 (m - (i - n % c)) later) l

    pub through_loop : {m : ℕ} {cs : List Cycle} {n' m' : ℕ}
        → Through (again (k - n / cycles t b) (play t b) (begins t b (n / cycles t b) s)).1 (n % cycles t b) m cs n' m'
        → Through (again k (play t b) s).1 n m cs n' m'
    through_loop {m} {cs} {n'} {m'} x =
        through_turns (play t b) (cycles t b) (length_play t b) k n h s
        (subst (λ (u : State). Through (again (k - n / cycles t b) (play t b) u).1 (n % cycles t b) m cs n' m') (sym (loop_begins (n / cycles t b))) x)

-- ---- copies of one turn's cycles

pub length_copies : (k : ℕ) (l : List Cycle) → length (copies k l) ≡ k * length l
unfolding copies
length_copies zero l = sym (zero-mul (length l))
length_copies (suc k) l = length-append l (copies k l) ∙ omega (arith, length_copies k l, suc-mul k (length l))

pub copies_add : (q k : ℕ) (l : List Cycle) → copies (q + k) l ≡ copies q l ++ copies k l
unfolding copies
copies_add zero k l = rw zero-add
copies_add (suc q) k l = rw suc-add (ap (λ (x : List Cycle). l ++ x) (copies_add q k l) ∙ sym (append_assoc l (copies q l) (copies k l)))

pub seen_copies : (i m k : ℕ) (l : List Cycle) → i ≤ length l → seen i m (copies (suc k) l) ≡ seen i m l ++ seen 0 (m - (length l - i)) (copies k l)
unfolding copies
seen_copies i m k l h = seen_from i m l (copies k l) h

-- whole turns are whole copies, and then the turns left are shown
pub whole_copies : (q k c i : ℕ) (l : List Cycle) → q ≤ k → length l ≡ c → seen 0 (q * c + i) (copies k l) ≡ copies q l ++ seen 0 i (copies (k - q) l)
whole_copies q k c i l h e =
    let p : k ≡ q + (k - q) = omega arith in
    let o : q * c ≡ length (copies q l) = ap (λ (x : ℕ). q * x) (sym e) ∙ sym (length_copies q l) in
    ap₂ (λ (x : List Cycle) (j : ℕ). seen 0 (j + i) x) (ap (λ (j : ℕ). copies j l) p ∙ copies_add q (k - q) l) o
    ∙ take-append-add (copies q l) (copies (k - q) l) i

pub only_copies : (q k c : ℕ) (l : List Cycle) → q ≤ k → length l ≡ c → seen 0 (q * c) (copies k l) ≡ copies q l
only_copies q k c l h e = ap (λ (j : ℕ). seen 0 j (copies k l)) (sym (add-zero (q * c))) ∙ whole_copies q k c 0 l h e ∙ append-nil (copies q l)

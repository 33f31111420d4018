-- The table of characters: 0 says that a signal is assigned none, and characters put there one by one are assignments one by one.
use Prim.Native.Nat.{ℕ, ◌<◌}
use native.Mathlib.Omega.{arith}
use mathlib.Core.Path.{◌≡◌, refl, sym, ap, ◌∙◌, subst}
use mathlib.Core.Bool.{Bool, true, false, not, ◌||◌, true≢false}
use mathlib.Core.List.{List, [], ◌∷◌, ◌++◌, append_assoc, append-nil}
use lib.Dec.{eqb}
use lib.ListN.{length, get_or, take, set, replicate, length-set, length-replicate, get_or-replicate}
use lib.Seq.{get_or-set_same, get_or-set_other}
use borrow.Author.Tests.{eq-eqb, ne_eqb, eqb-true, eqb-false}
use Rattle.tokens.proofs.Bools.{neither, neither_or}
use Rattle.meaning.specs.Bounds.{signals_most}
use Rattle.meaning.specs.Body.{Assigns}
use Rattle.meaning.specs.Lists.{has, meets}
use Rattle.meaning.specs.Data.{paired, assigned}
use Rattle.sets.proofs.Tidy.{TidyBelow, bare, next}
use Rattle.assigns.specs.Given.{char_of, chars, Gave, placed}

-- ---- is a signal assigned

char_zero : (s : ℕ) (xs : Assigns) → has 0 (chars xs) ≡ false → eqb (char_of s xs) 0 ≡ not (has s (assigned xs))
unfolding char_of chars assigned has
char_zero s [] h = refl
char_zero s (x ∷ xs) h = let p = neither (eqb x.1 0) (has 0 (chars xs)) h in by (eqb x.0 s) p.0 (char_zero s xs p.1)
  where
    by : (b : Bool) → eqb x.1 0 ≡ false → eqb (char_of s xs) 0 ≡ not (has s (assigned xs))
        → eqb (elim b [ true ↦ x.1 | false ↦ char_of s xs ]) 0 ≡ not (b || has s (assigned xs))
    by true e ih = e
    by false e ih = ih

module _ {xs : Assigns} {given : List ℕ} (g : Gave xs given) (s : ℕ) (below : s < signals_most) where
  told : eqb (get_or given s 0) 0 ≡ not (has s (assigned xs))
  told = ap (λ (n : ℕ). eqb n 0) (g.each s below) ∙ char_zero s xs g.real

  pub given_some : (get_or given s 0 ≡ 0 → ⊥) → has s (assigned xs) ≡ true
  given_some h = by (has s (assigned xs)) (sym (ne_eqb _ _ h) ∙ told)
    where
      by : (b : Bool) → false ≡ not b → b ≡ true
      by true e = refl
      by false e = absurd (true≢false (sym e))

  pub given_none : get_or given s 0 ≡ 0 → has s (assigned xs) ≡ false
  given_none h = by (has s (assigned xs)) (sym (eq-eqb _ _ h) ∙ told)
    where
      by : (b : Bool) → true ≡ not b → b ≡ false
      by true e = absurd (true≢false e)
      by false e = refl

-- ---- one assignment more

char_new : (s c : ℕ) (xs : Assigns) → has s (assigned xs) ≡ false → char_of s (xs ++ (s, c) ∷ []) ≡ c
unfolding char_of assigned has
char_new s c [] h = rw (eq-eqb s s refl, char_of)
char_new s c (x ∷ xs) h = let p = neither (eqb x.0 s) (has s (assigned xs)) h in rw (p.0, char_of) (char_new s c xs p.1)

char_old : (t s c : ℕ) (xs : Assigns) → (s ≡ t → ⊥) → char_of t (xs ++ (s, c) ∷ []) ≡ char_of t xs
unfolding char_of
char_old t s c [] h = rw (ne_eqb s t h, char_of)
char_old t s c (x ∷ xs) h = by (eqb x.0 t) (char_old t s c xs h)
  where
    by : (b : Bool) → char_of t (xs ++ (s, c) ∷ []) ≡ char_of t xs
        → ◌≡◌ {A = ℕ} (elim b [ true ↦ x.1 | false ↦ char_of t (xs ++ (s, c) ∷ []) ]) (elim b [ true ↦ x.1 | false ↦ char_of t xs ])
    by true ih = refl
    by false ih = ih

pub chars_append : (b : ℕ) (xs ys : Assigns) → has b (chars xs) ≡ false → has b (chars ys) ≡ false → has b (chars (xs ++ ys)) ≡ false
unfolding chars has
chars_append b [] ys h k = k
chars_append b (x ∷ xs) ys h k = let p = neither (eqb x.1 b) (has b (chars xs)) h in neither_or p.0 (chars_append b xs ys p.1 k)

pub chars_paired : (b : ℕ) (ss cs : List ℕ) → has b cs ≡ false → has b (chars (paired ss cs)) ≡ false
unfolding chars has paired
chars_paired b [] cs h = refl
chars_paired b (s ∷ ss) [] h = refl
chars_paired b (s ∷ ss) (c ∷ cs) h = let p = neither (eqb c b) (has b cs) h in neither_or p.0 (chars_paired b ss cs p.1)

assigned_more : (t s c : ℕ) (xs : Assigns) → eqb s t ≡ false → has t (assigned xs) ≡ false → has t (assigned (xs ++ (s, c) ∷ [])) ≡ false
unfolding assigned has
assigned_more t s c [] e h = rw e
assigned_more t s c (x ∷ xs) e h = let p = neither (eqb x.0 t) (has t (assigned xs)) h in neither_or p.0 (assigned_more t s c xs e p.1)

meets_more : (ss : List ℕ) (s c : ℕ) (xs : Assigns) → has s ss ≡ false → meets ss (assigned xs) ≡ false → meets ss (assigned (xs ++ (s, c) ∷ [])) ≡ false
unfolding meets has
meets_more [] s c xs e h = refl
meets_more (t ∷ ss) s c xs e h =
    let p = neither (has t (assigned xs)) (meets ss (assigned xs)) h in
    let q = neither (eqb t s) (has s ss) e in
    neither_or (assigned_more t s c xs (ne_eqb s t (λ z. eqb-false t s q.0 (sym z))) p.0) (meets_more ss s c xs q.1 p.1)

gave_one : {xs : Assigns} {given : List ℕ} (s c : ℕ) → s < signals_most → has s (assigned xs) ≡ false → eqb c 0 ≡ false → Gave xs given
    → Gave (xs ++ (s, c) ∷ []) (set given s c)
unfolding chars has
gave_one {xs} {given} s c b n r g =
    record {
      long = length-set given s c ∙ g.long;
      real = chars_append 0 xs ((s, c) ∷ []) g.real (neither_or r refl);
      each = λ t l. by t l (eqb s t) refl;
    }
  where
    by : (t : ℕ) → t < signals_most → (z : Bool) → eqb s t ≡ z → get_or (set given s c) t 0 ≡ char_of t (xs ++ (s, c) ∷ [])
    by t l true e =
        let q : s ≡ t = eqb-true s t e in
        let f : s < length given = omega (arith, g.long) in
        subst (λ (t : ℕ). get_or (set given s c) t 0 ≡ char_of t (xs ++ (s, c) ∷ [])) q (get_or-set_same given s c 0 f ∙ sym (char_new s c xs n))
    by t l false e =
        let q : s ≡ t → ⊥ = eqb-false s t e in
        get_or-set_other given s t c 0 (λ z. q (omega arith)) ∙ g.each t l ∙ sym (char_old t s c xs q)

-- ---- a name's characters

-- signals that true≢false and are assigned nothing yet are assigned what is put there
pub gave_more : {ss : List ℕ} (xs : Assigns) (cs given : List ℕ) → TidyBelow signals_most ss → meets ss (assigned xs) ≡ false → has 0 cs ≡ false
    → Gave xs given → Gave (xs ++ paired ss cs) (placed ss cs given)
unfolding paired placed meets has
gave_more xs cs given bare m r g = rw append-nil g
gave_more xs [] given (next b e t) m r g = rw append-nil g
gave_more xs (c ∷ cs) given (next {x = s} {l = ss} b e t) m r g =
    let p = neither (has s (assigned xs)) (meets ss (assigned xs)) m in
    let q = neither (eqb c 0) (has 0 cs) r in
    subst (λ (ys : Assigns). Gave ys (placed ss cs (set given s c))) (append_assoc xs ((s, c) ∷ []) (paired ss cs))
    (gave_more (xs ++ (s, c) ∷ []) cs (set given s c) t (meets_more ss s c xs e p.1) q.1 (gave_one s c b p.0 q.0 g))

-- only as many characters count as there are signals
pub placed_take : (ss cs given : List ℕ) → placed ss (take (length ss) cs) given ≡ placed ss cs given
unfolding placed
placed_take [] cs given = refl
placed_take (s ∷ ss) [] given = refl
placed_take (s ∷ ss) (c ∷ cs) given = placed_take ss cs (set given s c)

-- ---- a table that has no assignment yet

pub gave_none : (given : List ℕ) → length given ≡ signals_most → ((s : ℕ) → s < signals_most → get_or given s 0 ≡ 0) → Gave [] given
unfolding char_of chars has
gave_none given l z = record { long = l; real = refl; each = z }

pub gave_zeros : Gave [] (replicate signals_most 0)
gave_zeros = gave_none (replicate signals_most 0) (length-replicate {A = ℕ} signals_most 0) (λ s l. get_or-replicate {A = ℕ} signals_most s 0 0 l)

-- Times of events: the least time that the next event of a character and category may have, after each event. What is kept is what it tells:
-- whether any time rises.
use Prim.Native.Nat.{ℕ, zero, suc, ◌+◌, ◌*◌, ◌≤◌, ◌<◌, min}
use native.Mathlib.Omega.{arith}
use native.Mathlib.Numerals.{add-one}
use mathlib.Core.Path.{◌≡◌, refl, sym, ap, ◌∙◌, subst}
use mathlib.Core.Logic.{◌⊎◌, inl, inr, ⊎_elim}
use mathlib.Core.Bool.{Bool, true, false, cond, not, ◌&&◌, ◌||◌, and-true, and-false, and_assoc}
use mathlib.Core.Option.{Option, none, some}
use mathlib.Core.List.{List, [], ◌∷◌, ◌++◌}
use lib.ListN.{length, get_or, set, replicate, length-set}
use lib.Seq.{get_or-set_same, get_or-set_other}
use lib.Dec.{eqb, ltb, leb}
use borrow.Author.Tests.{eqb-true, eqb-false, ltb-true, ltb-false, le-leb, lt-leb}
use Rattle.tokens.specs.Written.{bytes}
use Rattle.meaning.specs.Bounds.{entry_most}
use Rattle.meaning.specs.Lists.{has, meets}
use Rattle.meaning.specs.Timing.{Event, Events, drives, compares, alike, rises, add_events, blanks, spread}
use Rattle.words.proofs.Words.{zeros}
use Rattle.timing.specs.Events.{is_event, all_events, Lettered, slot, Timed, Adding}
use Rattle.std.proofs.Common.{Some}
use Rattle.timing.proofs.EventLetters.{spread_many, spread_real}

-- ---- no events

pub blank : (cs : List ℕ) (i : ℕ) → get_or (blanks cs) i [] ≡ []
unfolding blanks
blank [] i = refl
blank (c ∷ cs) zero = refl
blank (c ∷ cs) (suc i) = blank cs i

pub as_many : (cs : List ℕ) → length (blanks cs) ≡ length cs
unfolding blanks
as_many [] = refl
as_many (c ∷ cs) = ap suc (as_many cs)

pub no_times : (cs : List ℕ) → Timed (length cs) 0 (replicate (entry_most * 2) 0) (blanks cs, 0)
unfolding rises
no_times cs =
    record {
      sized = refl;
      chars = as_many cs;
      events = refl;
      each = λ i e t h k. rw (blank cs i, zeros (entry_most * 2) (slot e i)) (sym (le-leb 0 t (omega arith)));
    }

-- ---- the two categories

-- letters of one list are not in another that it doesn't meet
apart : (e : ℕ) (xs ys : List ℕ) → meets xs ys ≡ false → has e xs ≡ true → has e ys ≡ false
unfolding meets has
apart e [] ys h k = let z : ◌≡◌ {A = ℕ} 0 1 = cc in absurd (omega arith)
apart e (x ∷ xs) ys h k = by (has x ys) refl (eqb x e) refl h k (apart e xs ys)
  where
    by : (p : Bool) → has x ys ≡ p → (q : Bool) → eqb x e ≡ q → (p || meets xs ys) ≡ false → (q || has e xs) ≡ true
        → (meets xs ys ≡ false → has e xs ≡ true → has e ys ≡ false) → has e ys ≡ false
    by true f q g h k ih = let z : ◌≡◌ {A = ℕ} 0 1 = cc in absurd (omega arith)
    by false f true g h k ih = sym (ap (λ (n : ℕ). has n ys) (eqb-true x e g)) ∙ f
    by false f false g h k ih = ih h k

-- a letter of an event is of one category
one_category : (e : ℕ) → is_event e ≡ true → compares e ≡ not (drives e)
unfolding drives compares meets has bytes
one_category e h = by (drives e) refl (compares e) refl h
  where
    by : (x : Bool) → drives e ≡ x → (y : Bool) → compares e ≡ y → (x || y) ≡ true → y ≡ not x
    by true p y q h = sym q ∙ apart e (bytes "DUZP") (bytes "LHXTlhx") refl p
    by false p y q h = h

-- two letters are alike where they stand in the same slots
slots : (e f i : ℕ) → is_event e ≡ true → is_event f ≡ true
    → ((alike e f ≡ true) × (slot e i ≡ slot f i)) ⊎ ((alike e f ≡ false) × (slot e i ≡ slot f i → ⊥))
unfolding alike
slots e f i h k = rw (one_category e h, one_category f k) (by (drives e) (drives f))
  where
    by : (x y : Bool) → (((x && y || not x && not y) ≡ true) × (cond x 0 entry_most + i ≡ cond y 0 entry_most + i))
        ⊎ (((x && y || not x && not y) ≡ false) × (cond x 0 entry_most + i ≡ cond y 0 entry_most + i → ⊥))
    by true true = inl (refl, refl)
    by true false = inr (refl, λ e. omega arith)
    by false true = inr (refl, λ e. omega arith)
    by false false = inl (refl, refl)

-- ---- one event more

abbrev pub at : ℕ → ℕ → Event
at t e = record { time = t; letter = e }

rises_more : (u f t e : ℕ) (c : List Event) → rises u f (c ++ at t e ∷ []) ≡ (rises u f c && (not (alike f e) || ltb t u))
unfolding rises
rises_more u f t e [] = and-true (not (alike f e) || ltb t u)
rises_more u f t e (x ∷ c) =
    ap (λ (b : Bool). (not (alike f x.letter) || ltb x.time u) && b) (rises_more u f t e c)
    ∙ sym (and_assoc (not (alike f x.letter) || ltb x.time u) (rises u f c) (not (alike f e) || ltb t u))

-- of two bounds the larger
above_both : (l t u : ℕ) → l ≤ t → (leb l u && ltb t u) ≡ leb (t + 1) u
above_both l t u h = by (ltb t u) refl
  where
    by : (b : Bool) → ltb t u ≡ b → (leb l u && ltb t u) ≡ leb (t + 1) u
    by true k = let o : t < u = ltb-true t u k in rw (k, le-leb l u (omega arith), le-leb (t + 1) u (omega arith))
    by false k = let o : u ≤ t = ltb-false t u k in rw (k, lt-leb (t + 1) u (omega arith)) (and-false (leb l u))

-- the first i characters have the event already
abbrev pub added : ℕ → ℕ → List ℕ → List (List Event) → List (List Event)
added zero t es cs = cs
added (suc i) t [] cs = cs
added (suc i) t (e ∷ es) [] = []
added (suc i) t (e ∷ es) (c ∷ cs) = (c ++ at t e ∷ []) ∷ added i t es cs

added_length : (i t : ℕ) (es : List ℕ) (cs : List (List Event)) → length (added i t es cs) ≡ length cs
added_length zero t es cs = refl
added_length (suc i) t [] cs = refl
added_length (suc i) t (e ∷ es) [] = refl
added_length (suc i) t (e ∷ es) (c ∷ cs) = ap suc (added_length i t es cs)

-- from i on they are as they were
added_not : (i j t : ℕ) (es : List ℕ) (cs : List (List Event)) → i ≤ j → get_or (added i t es cs) j [] ≡ get_or cs j []
added_not zero j t es cs h = refl
added_not (suc i) j t [] cs h = refl
added_not (suc i) j t (e ∷ es) [] h = refl
added_not (suc i) zero t (e ∷ es) (c ∷ cs) h = absurd (omega arith)
added_not (suc i) (suc j) t (e ∷ es) (c ∷ cs) h = added_not i j t es cs (omega arith)

-- one character more: that one has the event, and the others are as they were
added_here : (i t : ℕ) (es : List ℕ) (cs : List (List Event)) → i < length es → i < length cs
    → get_or (added (suc i) t es cs) i [] ≡ get_or cs i [] ++ at t (get_or es i 0) ∷ []
added_here zero t (e ∷ es) (c ∷ cs) h k = refl
added_here (suc i) t (e ∷ es) (c ∷ cs) h k = added_here i t es cs (omega arith) (omega arith)
added_here i t [] cs h k = absurd (omega arith)
added_here i t (e ∷ es) [] h k = absurd (omega arith)

added_other : (i j t : ℕ) (es : List ℕ) (cs : List (List Event)) → (j ≡ i → ⊥) → i < length es → i < length cs
    → get_or (added (suc i) t es cs) j [] ≡ get_or (added i t es cs) j []
added_other i j t [] cs n h k = absurd (omega arith)
added_other i j t (e ∷ es) [] n h k = absurd (omega arith)
added_other zero zero t (e ∷ es) (c ∷ cs) n h k = absurd (n refl)
added_other zero (suc j) t (e ∷ es) (c ∷ cs) n h k = refl
added_other (suc i) zero t (e ∷ es) (c ∷ cs) n h k = refl
added_other (suc i) (suc j) t (e ∷ es) (c ∷ cs) n h k = added_other i j t es cs (λ q. n (ap suc q)) (omega arith) (omega arith)

-- a time that does not rise: there is no answer
pub add_none : (t i : ℕ) (es : List ℕ) (cs : List (List Event)) → i < length es → length es ≡ length cs → rises t (get_or es i 0) (get_or cs i []) ≡ false
    → add_events t es cs ≡ none
unfolding add_events
add_none t i [] cs h l r = absurd (omega arith)
add_none t i (e ∷ es) [] h l r = absurd (omega arith)
add_none t zero (e ∷ es) (c ∷ cs) h l r = rw (r, add_events)
add_none t (suc i) (e ∷ es) (c ∷ cs) h l r = by (rises t e c) (add_none t i es cs (omega arith) (omega arith) r)
  where
    by : (b : Bool) → add_events t es cs ≡ none
        → ◌≡◌ {A = Option (List (List Event))} (elim b [ false ↦ none | true ↦ elim (add_events t es cs) [ none ↦ none | some r ↦ some ((c ++ at t e ∷ []) ∷ r) ] ]) none
    by false q = refl
    by true q = rw q

-- all rise: every character has the event
add_some : (t : ℕ) (es : List ℕ) (cs : List (List Event)) → length es ≡ length cs
    → ((i : ℕ) → i < length cs → rises t (get_or es i 0) (get_or cs i []) ≡ true) → add_events t es cs ≡ some (added (length cs) t es cs)
unfolding add_events
add_some t [] [] l r = refl
add_some t [] (c ∷ cs) l r = absurd (omega arith)
add_some t (e ∷ es) [] l r = absurd (omega arith)
add_some t (e ∷ es) (c ∷ cs) l r =
    rw (r 0 (omega arith), add_some t es cs (omega arith) (λ i h. r (suc i) (omega arith)), add_events)

-- what the loop keeps at character i
pub record Upto (n t : ℕ) (es : List ℕ) (s : Events) (i : ℕ) (least : List ℕ) : Type 0 where
  pub sized : length least ≡ entry_most * 2
  pub rose : (j : ℕ) → j < i → rises t (get_or es j 0) (get_or s.0 j []) ≡ true
  pub each : (j f u : ℕ) → j < n → is_event f ≡ true → rises u f (get_or (added i t es s.0) j []) ≡ leb (get_or least (slot f j) 0) u

slot_apart : (e f i j : ℕ) → i < entry_most → j < entry_most → slot e i ≡ slot f j → i ≡ j
slot_apart e f i j h k = by (drives e) (drives f)
  where
    by : (x y : Bool) → cond x 0 entry_most + i ≡ cond y 0 entry_most + j → i ≡ j
    by true true q = omega arith
    by true false q = omega arith
    by false true q = omega arith
    by false false q = omega arith

pub slot_most : (e i : ℕ) → i < entry_most → slot e i < entry_most * 2
slot_most e i h = by (drives e)
  where
    by : (x : Bool) → cond x 0 entry_most + i < entry_most * 2
    by true = omega arith
    by false = omega arith

module _ {n t : ℕ} {es : List ℕ} {s : Events} {i : ℕ} {least : List ℕ} (small : n ≤ entry_most) (chars : length s.0 ≡ n) (many : length es ≡ n)
    (a : Upto n t es s i least) (h : i < n) (k : is_event (get_or es i 0) ≡ true) where
  -- does a time rise for the next character
  was : (f u : ℕ) → is_event f ≡ true → rises u f (get_or s.0 i []) ≡ leb (get_or least (slot f i) 0) u
  was f u v = ap (λ (c : List Event). rises u f c) (sym (added_not i i t es s.0 (omega arith))) ∙ a.each i f u h v

  here : rises t (get_or es i 0) (get_or s.0 i []) ≡ leb (get_or least (slot (get_or es i 0) i) 0) t
  here = was (get_or es i 0) t k

  pub upto_fails : t < get_or least (slot (get_or es i 0) i) 0 → add_events t es s.0 ≡ none
  upto_fails q = add_none t i es s.0 (omega arith) (omega arith) (here ∙ lt-leb _ _ q)

  pub upto_next : get_or least (slot (get_or es i 0) i) 0 ≤ t → Upto n t es s (i + 1) (set least (slot (get_or es i 0) i) (t + 1))
  upto_next q =
      record {
        sized = length-set least at' (t + 1) ∙ a.sized;
        rose = λ j g. rose j (omega arith) (ltb j i) refl;
        each = λ j f u g v. rw (add-one i) (each j f u g v (eqb j i) refl);
      }
    where
      e : ℕ
      e = get_or es i 0

      at' : ℕ
      at' = slot (get_or es i 0) i

      now : (f u : ℕ) → is_event f ≡ true
          → rises u f (get_or (added (suc i) t es s.0) i []) ≡ (leb (get_or least (slot f i) 0) u && (not (alike f e) || ltb t u))
      now f u v =
          ap (λ (c : List Event). rises u f c) (added_here i t es s.0 (omega arith) (omega arith))
          ∙ rises_more u f t e (get_or s.0 i [])
          ∙ ap (λ (b : Bool). b && (not (alike f e) || ltb t u)) (was f u v)

      alike_here : (f u : ℕ) → is_event f ≡ true → (alike f e ≡ true) × (slot f i ≡ slot e i)
          → rises u f (get_or (added (suc i) t es s.0) i []) ≡ leb (get_or (set least at' (t + 1)) (slot f i) 0) u
      alike_here f u v w =
          now f u v ∙ ap (λ (b : Bool). leb (get_or least (slot f i) 0) u && (not b || ltb t u)) w.0
          ∙ ap (λ (x : ℕ). leb (get_or least x 0) u && ltb t u) w.1 ∙ above_both (get_or least at' 0) t u q
          ∙ ap (λ (x : ℕ). leb x u) (sym (get_or-set_same least at' (t + 1) 0 (omega (arith, a.sized, slot_most e i (omega arith)))))
          ∙ ap (λ (x : ℕ). leb (get_or (set least at' (t + 1)) x 0) u) (sym w.1)

      unlike_here : (f u : ℕ) → is_event f ≡ true → (alike f e ≡ false) × (slot f i ≡ slot e i → ⊥)
          → rises u f (get_or (added (suc i) t es s.0) i []) ≡ leb (get_or (set least at' (t + 1)) (slot f i) 0) u
      unlike_here f u v w =
          now f u v ∙ ap (λ (b : Bool). leb (get_or least (slot f i) 0) u && (not b || ltb t u)) w.0
          ∙ and-true (leb (get_or least (slot f i) 0) u)
          ∙ ap (λ (x : ℕ). leb x u) (sym (get_or-set_other least at' (slot f i) (t + 1) 0 w.1))

      rose : (j : ℕ) → j < i + 1 → (b : Bool) → ltb j i ≡ b → rises t (get_or es j 0) (get_or s.0 j []) ≡ true
      rose j g true o = a.rose j (ltb-true j i o)
      rose j g false o =
          let p : j ≡ i = omega (arith, ltb-false j i o) in
          rw p (here ∙ le-leb _ _ q)

      each : (j f u : ℕ) → j < n → is_event f ≡ true → (b : Bool) → eqb j i ≡ b
          → rises u f (get_or (added (suc i) t es s.0) j []) ≡ leb (get_or (set least at' (t + 1)) (slot f j) 0) u
      each j f u g v false o =
          ap (λ (c : List Event). rises u f c) (added_other i j t es s.0 (eqb-false j i o) (omega arith) (omega arith))
          ∙ a.each j f u g v
          ∙ ap (λ (x : ℕ). leb x u)
          (sym (get_or-set_other least at' (slot f j) (t + 1) 0 λ z. eqb-false j i o (slot_apart f e j i (omega arith) (omega arith) z)))
      each j f u g v true o = let p : j ≡ i = eqb-true j i o in rw p (⊎_elim (alike_here f u v) (unlike_here f u v) (slots f e i v k))

-- all characters have it
pub upto_all : {n t count count' : ℕ} {es : List ℕ} {s : Events} {i : ℕ} {least least' : List ℕ} → Timed n count least s → length es ≡ n
    → Upto n t es s i least' → i ≡ n → count' ≡ min entry_most (count + 1) → Adding n t es s (Some (record { count = count'; least = least' }))
upto_all {n} {t} {count} {count'} {es} {s} {i} {least} {least'} a l u q m = (
  added (length s.0) t es s.0,
  add_some t es s.0 (omega (arith, a.chars)) (λ j g. u.rose j (omega (arith, a.chars))),
  record {
    sized = u.sized;
    chars = added_length (length s.0) t es s.0 ∙ a.chars;
    events = omega (arith, a.events);
    each = rw a.chars (subst (λ (x : ℕ). (j f w : ℕ) → j < n → is_event f ≡ true → rises w f (get_or (added x t es s.0) j []) ≡ leb (get_or least' (slot f j) 0) w) q u.each);
  },
)

-- ---- a turn of the code's loop

module _ {n t k e i m count : ℕ} {l es : List ℕ} {s : Events} {first least : List ℕ} (small : n ≤ entry_most) (a : Timed n count first s) (b : Lettered m l es)
    (p : (not (eqb m 1) && not (eqb m n)) ≡ false) (v : all_events es ≡ true) (u : Upto n t (spread n es) s i least) (h : i < n)
    (q : e ≡ get_or (spread n es) i 0) (r : k ≡ slot e i) where
  there : k ≡ slot (get_or (spread n es) i 0) i
  there = r ∙ ap (λ (x : ℕ). slot x i) q

  pub add_turn : get_or least k 0 ≤ t → Upto n t (spread n es) s (i + 1) (set least k (t + 1))
  add_turn z = rw there (upto_next small a.chars (spread_many small b p) u h (spread_real small b p v h) (rw there at z))

  pub add_fails : t < get_or least k 0 → add_events t (spread n es) s.0 ≡ none
  add_fails z = upto_fails small a.chars (spread_many small b p) u h (spread_real small b p v h) (rw there at z)

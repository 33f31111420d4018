-- Letters of events: what a word says, and which letter each character gets.
use Prim.Native.Nat.{ℕ, zero, suc, ◌+◌, ◌≤◌, ◌<◌}
use native.Mathlib.Omega.{arith}
use mathlib.Core.Path.{◌≡◌, refl, sym, ap, ◌∙◌}
use mathlib.Core.Logic.{◌⊎◌, inl, inr, ⊎_elim}
use mathlib.Core.Bool.{Bool, true, false, not, ◌&&◌}
use mathlib.Core.Option.{Option, none, some}
use mathlib.Core.List.{List, [], ◌∷◌, ◌++◌}
use lib.ListN.{length, get_or, set, length-set, length-append, get_or-append}
use lib.Seq.{get_or-set_same, get_or-set_other, get_or-append_seam}
use lib.Dec.{eqb, ltb}
use borrow.Author.Tests.{eqb-true, ne_eqb, ltb-true, ltb-false, not-false}
use Rattle.meaning.specs.Bounds.{entry_most}
use Rattle.meaning.specs.Timing.{event_letter, letter_due, alternative, letters, spread}
use Rattle.meaning.proofs.Takes.{Takes}
use Rattle.meaning.proofs.Taking.{takes_keeps, takes_any, takes_due, takes_bind, keeps_bind, keeps_known, keeps_give, keeps_while}
use Rattle.meaning.proofs.Gives.{Gives, gives_bind, gives_after, gives_give, gives_while, known_ok}
use Rattle.std.proofs.Common.{Option as Maybe, None, Some}
use Rattle.std.specs.Option.{is_some, unwrap_or}
use Rattle.words.specs.Values.{value_of}
use Rattle.timing.specs.Events.{is_event, all_events, Lettered}

-- ---- a word

pub letter_not : (w : List ℕ) → (length w ≡ 1 → ⊥) → none ≡ event_letter w
unfolding event_letter
letter_not [] h = refl
letter_not (e ∷ []) h = absurd (h refl)
letter_not (e ∷ f ∷ s) h = refl

pub letter_is : (w : List ℕ) → length w ≡ 1 → is_event (get_or w 0 0) ≡ true → some (get_or w 0 0) ≡ event_letter w
unfolding event_letter
letter_is [] l h = absurd (omega arith)
letter_is (e ∷ []) l h = rw (h, event_letter)
letter_is (e ∷ f ∷ s) l h = absurd (omega arith)

pub letter_other : (w : List ℕ) → length w ≡ 1 → is_event (get_or w 0 0) ≡ false → none ≡ event_letter w
unfolding event_letter
letter_other [] l h = absurd (omega arith)
letter_other (e ∷ []) l h = rw (h, event_letter)
letter_other (e ∷ f ∷ s) l h = absurd (omega arith)

-- what the code tells of a letter
pub told_none : (r : Maybe ℕ) {b : Bool} {o : Option ℕ} → is_some r ≡ not b → value_of r ≡ o → b ≡ true → o ≡ none
told_none None q t h = sym t
told_none (Some e) q t h = let o : true ≡ false = q ∙ ap not h in let z : ◌≡◌ {A = ℕ} 0 1 = cc in absurd (omega arith)

pub told_some : (r : Maybe ℕ) {b : Bool} {e : ℕ} {o : Option ℕ} → is_some r ≡ not b → e ≡ unwrap_or r 0 → value_of r ≡ o → b ≡ false → o ≡ some e
told_some (Some e) q v t h = sym t ∙ ap some (sym v)
told_some None q v t h = let o : true ≡ false = sym (q ∙ ap not h) in let z : ◌≡◌ {A = ℕ} 0 1 = cc in absurd (omega arith)

-- ---- the readers take tokens, and give letters of events

pub takes_letter : Takes letter_due
unfolding letter_due
takes_letter = takes_bind _ _ takes_any λ t. keeps_known _ _ _

pub takes_alternative : (es : List ℕ) → Takes (alternative es)
unfolding alternative
takes_alternative es = takes_bind _ _ (takes_due _) λ p. keeps_bind _ _ (takes_keeps takes_letter) λ e. keeps_give _

pub takes_letters : Takes letters
unfolding letters
takes_letters = takes_bind _ _ takes_letter λ e. keeps_while _ _ takes_alternative _

letter_gives : (w : List ℕ) (e : ℕ) → event_letter w ≡ some e → is_event e ≡ true
unfolding event_letter
letter_gives [] e h = let z : ◌≡◌ {A = ℕ} 0 1 = cc in absurd (omega arith)
letter_gives (x ∷ []) e h = by (is_event x) refl h
  where
    by : (b : Bool) → is_event x ≡ b → ◌≡◌ {A = Option ℕ} (elim b [ true ↦ some x | false ↦ none ]) (some e) → is_event e ≡ true
    by true q h = let k : x ≡ e = cc in rw k at q
    by false q h = let z : ◌≡◌ {A = ℕ} 0 1 = cc in absurd (omega arith)
letter_gives (x ∷ y ∷ s) e h = let z : ◌≡◌ {A = ℕ} 0 1 = cc in absurd (omega arith)

gives_letter : Gives (λ e. is_event e ≡ true) letter_due
unfolding letter_due
gives_letter = gives_after _ _ _ λ t. record { all = λ ts a us e. letter_gives t.word a (known_ok _ _ _ ts e) }

all_more : (es : List ℕ) (e : ℕ) → all_events es ≡ true → is_event e ≡ true → all_events (es ++ e ∷ []) ≡ true
unfolding all_events
all_more [] e h k = rw k
all_more (x ∷ es) e h k = by (is_event x) h (λ q. all_more es e q k)
  where
    by : (b : Bool) → (b && all_events es) ≡ true → (all_events es ≡ true → all_events (es ++ e ∷ []) ≡ true) → (b && all_events (es ++ e ∷ [])) ≡ true
    by true h ih = ih h
    by false h ih = h

pub gives_letters : Gives (λ es. all_events es ≡ true) letters
unfolding letters alternative all_events
gives_letters =
    gives_bind (λ e. is_event e ≡ true) _ _ _ gives_letter λ e h.
    gives_while (λ es. all_events es ≡ true) _ _ (λ es k. gives_after _ _ _ λ p. gives_bind (λ f. is_event f ≡ true) _ _ _ gives_letter λ f q. gives_give _ _ (all_more es f k q)) _
    (rw h)

-- ---- what the code has of them

pub lettered_more : {n : ℕ} {l es : List ℕ} (e : ℕ) → n < entry_most → Lettered n l es → Lettered (n + 1) (set l n e) (es ++ e ∷ [])
lettered_more {n} {l} {es} e h a =
    let q : length es ≡ n = omega (arith, a.count) in
    record {
      sized = length-set l n e ∙ a.sized;
      count = rw length-append (omega arith);
      each = λ i f g. by i f (omega (arith, length-append es (e ∷ []))) (ltb i n) refl;
    }
  where
    by : (i : ℕ) → i < entry_most → i < length es + 1 → (b : Bool) → ltb i n ≡ b → get_or (set l n e) i 0 ≡ get_or (es ++ e ∷ []) i 0
    by i f g true k =
        let q : length es ≡ n = omega (arith, a.count) in
        let o : i < n = ltb-true i n k in
        get_or-set_other l n i e 0 (λ z. omega arith) ∙ a.each i f (omega arith) ∙ sym (get_or-append es (e ∷ []) 0 i (omega arith))
    by i f g false k =
        let q : length es ≡ n = omega (arith, a.count) in
        let o : n ≤ i = ltb-false i n k in
        let p : i ≡ n = omega arith in
        let u : i ≡ length es = omega arith in
        ap (λ (x : ℕ). get_or (set l n e) x 0) p ∙ get_or-set_same l n e 0 (omega (arith, a.sized))
        ∙ sym (ap (λ (x : ℕ). get_or (es ++ e ∷ []) x 0) u ∙ get_or-append_seam es e [] 0)

pub lettered_full : {n : ℕ} {l es : List ℕ} (e : ℕ) → entry_most ≤ n → Lettered n l es → Lettered (entry_most + 1) l (es ++ e ∷ [])
lettered_full {n} {l} {es} e h a =
    let q : entry_most ≤ length es = omega (arith, a.count) in
    record {
      sized = a.sized;
      count = rw length-append (omega arith);
      each = λ i f g. a.each i f (omega arith) ∙ sym (get_or-append es (e ∷ []) 0 i (omega arith));
    }

-- ---- one letter for all characters, or one for each

spread_one : (n i e : ℕ) → i < n → get_or (spread n (e ∷ [])) i 0 ≡ e
unfolding spread
spread_one zero i e h = absurd (omega arith)
spread_one (suc n) zero e h = refl
spread_one (suc n) (suc i) e h = spread_one n i e (omega arith)

spread_each : (n : ℕ) (es : List ℕ) → length es ≡ n → spread n es ≡ es
unfolding spread
spread_each zero [] h = refl
spread_each zero (e ∷ es) h = absurd (omega arith)
spread_each (suc n) [] h = refl
spread_each (suc zero) (e ∷ []) h = refl
spread_each (suc (suc n)) (e ∷ []) h = absurd (omega arith)
spread_each (suc n) (e ∷ f ∷ es) h = ap (λ (l : List ℕ). e ∷ l) (spread_each n (f ∷ es) (omega arith))

module _ {n k i : ℕ} {l es : List ℕ} (h : n ≤ entry_most) (a : Lettered k l es) (r : i < n) where
  pub letter_all : k ≡ 1 → get_or l 0 0 ≡ get_or (spread n es) i 0
  letter_all q = let o : length es ≡ 1 = omega (arith, a.count) in a.each 0 (omega arith) (omega arith) ∙ by es o
    where
      by : (es : List ℕ) → length es ≡ 1 → get_or es 0 0 ≡ get_or (spread n es) i 0
      by [] o = absurd (omega arith)
      by (e ∷ []) o = sym (spread_one n i e r)
      by (e ∷ f ∷ es) o = absurd (omega arith)

  pub letter_own : (k ≡ 1 → ⊥) → (not (eqb k 1) && not (eqb k n)) ≡ false → get_or l i 0 ≡ get_or (spread n es) i 0
  letter_own q p =
      let s : (true && not (eqb k n)) ≡ false = rw (ne_eqb k 1 q) at p in
      let t : k ≡ n = eqb-true k n (not-false (eqb k n) s) in
      let o : length es ≡ n = omega (arith, a.count) in
      a.each i (omega arith) (omega arith) ∙ ap (λ (xs : List ℕ). get_or xs i 0) (sym (spread_each n es o))

spread_length : (n e : ℕ) → length (spread n (e ∷ [])) ≡ n
unfolding spread
spread_length zero e = refl
spread_length (suc n) e = ap suc (spread_length n e)

-- one alternative, or as many as there are characters
counted : {n k : ℕ} {l es : List ℕ} → n ≤ entry_most → Lettered k l es → (not (eqb k 1) && not (eqb k n)) ≡ false
    → ((e : ℕ) × (es ≡ e ∷ [])) ⊎ (length es ≡ n)
counted {n} {k} {l} {es} h a p = by (eqb k 1) refl p
  where
    only : (es : List ℕ) → length es ≡ 1 → (e : ℕ) × (es ≡ e ∷ [])
    only [] o = absurd (omega arith)
    only (e ∷ []) o = (e, refl)
    only (e ∷ f ∷ es) o = absurd (omega arith)

    by : (b : Bool) → eqb k 1 ≡ b → (not b && not (eqb k n)) ≡ false → ((e : ℕ) × (es ≡ e ∷ [])) ⊎ (length es ≡ n)
    by true q p = inl (only es (omega (arith, a.count, eqb-true k 1 q)))
    by false q p = let t : k ≡ n = eqb-true k n (not-false (eqb k n) p) in inr (omega (arith, a.count))

all_at : (es : List ℕ) (i : ℕ) → all_events es ≡ true → i < length es → is_event (get_or es i 0) ≡ true
unfolding all_events
all_at [] i h k = absurd (omega arith)
all_at (e ∷ es) i h k = by (is_event e) refl h i k (λ q j z. all_at es j q z)
  where
    by : (b : Bool) → is_event e ≡ b → (b && all_events es) ≡ true → (i : ℕ) → i < length (e ∷ es)
        → (all_events es ≡ true → (j : ℕ) → j < length es → is_event (get_or es j 0) ≡ true) → is_event (get_or (e ∷ es) i 0) ≡ true
    by true p h zero k ih = p
    by true p h (suc i) k ih = ih h i (omega arith)
    by false p h i k ih = let z : ◌≡◌ {A = ℕ} 0 1 = cc in absurd (omega arith)

module _ {n k : ℕ} {l es : List ℕ} (h : n ≤ entry_most) (a : Lettered k l es) (p : (not (eqb k 1) && not (eqb k n)) ≡ false) where
  pub spread_many : length (spread n es) ≡ n
  spread_many = ⊎_elim (λ w. ap (λ (xs : List ℕ). length (spread n xs)) w.1 ∙ spread_length n w.0) (λ w. ap length (spread_each n es w) ∙ w) (counted h a p)

  pub spread_real : {i : ℕ} → all_events es ≡ true → i < n → is_event (get_or (spread n es) i 0) ≡ true
  spread_real {i} v r = ⊎_elim one each (counted h a p)
    where
      one : (e : ℕ) × (es ≡ e ∷ []) → is_event (get_or (spread n es) i 0) ≡ true
      one w =
          ap (λ (xs : List ℕ). is_event (get_or (spread n xs) i 0)) w.1 ∙ ap is_event (spread_one n i w.0 r)
          ∙ all_at (w.0 ∷ []) 0 (rw w.1 at v) (omega arith)

      each : length es ≡ n → is_event (get_or (spread n es) i 0) ≡ true
      each w = ap (λ (xs : List ℕ). is_event (get_or xs i 0)) (spread_each n es w) ∙ all_at es i v (omega arith)

-- Spots: stored one by one, and those of an entry more.
use Prim.Native.Nat.{ℕ, zero, suc, ◌+◌, ◌*◌, ◌≤◌, ◌<◌, min}
use native.Mathlib.Omega.{arith}
use mathlib.Core.Path.{◌≡◌, refl, sym, ap, ◌∙◌}
use Rattle.std.proofs.Common.{None, Some}
use native.Mathlib.Numerals.{add-one}
use mathlib.Core.Bool.{Bool, true, false, cond, ◌&&◌, ◌||◌}
use mathlib.Core.Option.{Option, some}
use mathlib.Core.List.{List, [], ◌∷◌, ◌++◌}
use lib.Dec.{eqb, leb}
use lib.ListN.{length, get_or, replicate, take, set}
use lib.Seq.{get_or-set_same, get_or-set_other, take_all}
use borrow.Author.Tests.{eqb-true, eqb-false, leb-true, leb-false}
use Rattle.tokens.specs.Tokens.{Toks, toks}
use Rattle.meaning.specs.Bounds.{entry_most, signals_most}
use Rattle.meaning.specs.Lists.{has}
use Rattle.meaning.specs.Reader.{ok}
use Rattle.meaning.specs.Timing.{Event, Wave, Events, taken, waves_for}
use Rattle.meaning.specs.Services.{wave_of}
use Rattle.words.proofs.Words.{zeros}
use Rattle.timing.specs.Watch.{chars_events, Watched}
use Rattle.timing.specs.Marks.{Below}
use Rattle.timing.proofs.Watching.{watched_more, watched_none}
use Rattle.timing.proofs.Marking.{has_taken}
use Rattle.spots.specs.Spots.{bytes_most, spots_most, spot_at, watch_of, sight_of, Spots, Stored}

-- ---- one spot more

spot_set : (t : List ℕ) (s b v s' b' : ℕ) → length t ≡ spots_most → s < signals_most → b < bytes_most → b' < bytes_most
    → spot_at (set t (s * bytes_most + b) v) s' b' ≡ cond (eqb s s' && eqb b b') v (spot_at t s' b')
spot_set t s b v s' b' l h k g = by (eqb s s') refl (eqb b b') refl
  where
    at : ℕ
    at = s * bytes_most + b

    by : (x : Bool) → eqb s s' ≡ x → (y : Bool) → eqb b b' ≡ y → spot_at (set t at v) s' b' ≡ cond (x && y) v (spot_at t s' b')
    by true e true f =
        let p : s' * bytes_most + b' ≡ at = omega (arith, eqb-true s s' e, eqb-true b b' f) in
        ap (λ (x : ℕ). get_or (set t at v) x 0) p ∙ get_or-set_same t at v 0 (omega arith)
    by true e false f = get_or-set_other t at (s' * bytes_most + b') v 0 (λ p. eqb-false b b' f (omega (arith, eqb-true s s' e)))
    by false e y f = get_or-set_other t at (s' * bytes_most + b') v 0 (λ p. eqb-false s s' e (omega arith))

pub stored_no_chars : (t sigs : List ℕ) (v : ℕ) → Stored t sigs [] v t
unfolding has
stored_no_chars t sigs v = record { each = λ s b q. by (has s sigs) (spot_at t s b) }
  where
    by : (x : Bool) (o : ℕ) → o ≡ cond (x && false) v o
    by true o = refl
    by false o = refl

pub stored_no_signals : (t w : List ℕ) (v : ℕ) → Stored t [] w v t
unfolding has
stored_no_signals t w v = record { each = λ s b q. refl }

pub stored_char : {t₀ t : List ℕ} {v : ℕ} (w : List ℕ) (s i : ℕ) → length t ≡ spots_most → s < signals_most → i < length w → get_or w i 0 < bytes_most
    → Stored t₀ (s ∷ []) (take i w) v t → Stored t₀ (s ∷ []) (take (i + 1) w) v (set t (s * bytes_most + get_or w i 0) v)
unfolding has
stored_char {t₀} {t} {v} w s i l h k c a =
    record {
      each = λ s' b' q.
          spot_set t s (get_or w i 0) v s' b' l h c q ∙ ap (cond (eqb s s' && eqb (get_or w i 0) b') v) (a.each s' b' q)
          ∙ by (eqb s s') (has b' (take i w)) (eqb (get_or w i 0) b') (spot_at t₀ s' b')
          ∙ ap (λ (x : Bool). cond ((eqb s s' || false) && x) v (spot_at t₀ s' b')) (sym (has_taken b' w i k));
    }
  where
    by : (x y z : Bool) (o : ℕ) → cond (x && z) v (cond ((x || false) && y) v o) ≡ cond ((x || false) && (y || z)) v o
    by true true true o = refl
    by true true false o = refl
    by true false z o = refl
    by false y z o = refl

pub stored_signal : {t₀ t t' : List ℕ} {v : ℕ} (sigs : List ℕ) {w : List ℕ} (i : ℕ) → i < length sigs → Stored t₀ (take i sigs) w v t → Stored t (get_or sigs i 0 ∷ []) w v t'
    → Stored t₀ (take (i + 1) sigs) w v t'
unfolding has
stored_signal {t₀} {t} {t'} {v} sigs {w} i h a b =
    record {
      each = λ s c q.
          b.each s c q ∙ ap (cond ((eqb (get_or sigs i 0) s || false) && has c w) v) (a.each s c q)
          ∙ by (eqb (get_or sigs i 0) s) (has s (take i sigs)) (has c w) (spot_at t₀ s c)
          ∙ ap (λ (x : Bool). cond (x && has c w) v (spot_at t₀ s c)) (sym (has_taken s sigs i h));
    }
  where
    by : (x y z : Bool) (o : ℕ) → cond ((x || false) && z) v (cond (y && z) v o) ≡ cond ((y || x) && z) v o
    by true true true o = refl
    by true true false o = refl
    by true false z o = by_one z o
      where
        by_one : (z : Bool) (o : ℕ) → cond z v o ≡ cond z v o
        by_one z o = refl
    by false true z o = refl
    by false false z o = refl

pub stored_word : {t₀ t : List ℕ} {v i : ℕ} (sigs w : List ℕ) → length w ≤ i → Stored t₀ sigs (take i w) v t → Stored t₀ sigs w v t
stored_word {t₀} {t} {v} {i} sigs w h a = rw (take_all i w h) at a

-- all of a row that has room for as many as there may be
take_fewer : (n : ℕ) (l : List ℕ) → length l ≡ signals_most → take (min n signals_most) l ≡ take n l
take_fewer n l h = by (leb n signals_most) refl
  where
    by : (b : Bool) → leb n signals_most ≡ b → take (min n signals_most) l ≡ take n l
    by true e = let q : min n signals_most ≡ n = omega (arith, leb-true n signals_most e) in rw q
    by false e =
        let q : min n signals_most ≡ signals_most = omega (arith, leb-false n signals_most e) in
        rw q (take_all signals_most l (omega arith) ∙ sym (take_all n l (omega (arith, leb-false n signals_most e))))

pub set_front : {most : ℕ} (n : ℕ) (l : List ℕ) → length l ≡ signals_most → most ≡ min n signals_most → take most l ≡ take n l
set_front n l h e = ap (λ (k : ℕ). take k l) e ∙ take_fewer n l h

pub stored_set : {t₀ t w : List ℕ} {v i : ℕ} (sigs : List ℕ) {l : List ℕ} → l ≡ sigs → length l ≤ i → Stored t₀ (take i l) w v t → Stored t₀ sigs w v t
stored_set {i = i} sigs {l} e h a = rw (take_all i l h ∙ e) at a

-- a signal of a row lies below the bound
pub below_at : (sigs : List ℕ) {l : List ℕ} → l ≡ sigs → Below sigs → (i : ℕ) → i < length l → get_or l i 0 < signals_most
below_at sigs e b i h = rw e (b i (rw e at h))

-- ---- an entry more

taken_there : (s b : ℕ) (sigs cs : List ℕ) (ws : List Wave) {es : List Event} → taken sigs cs ws ≡ false → has s sigs ≡ true → has b cs ≡ true → wave_of s b ws ≡ some es → ⊥
unfolding taken wave_of
taken_there s b sigs cs [] t p q w = let z : ◌≡◌ {A = ℕ} 0 1 = cc in omega arith
taken_there s b sigs cs (x ∷ ws) {es} t p q w =
    by (eqb x.signal s) refl (eqb x.char b) refl w (has x.signal sigs && has x.char cs) refl t (λ t w. taken_there s b sigs cs ws t p q w)
  where
    rest : (u : Bool) → (u || taken sigs cs ws) ≡ false → taken sigs cs ws ≡ false
    rest true e = let z : ◌≡◌ {A = ℕ} 0 1 = cc in absurd (omega arith)
    rest false e = e

    by : (d : Bool) → eqb x.signal s ≡ d → (e : Bool) → eqb x.char b ≡ e
        → ◌≡◌ {A = Option (List Event)} (elim (d && e) [ true ↦ some x.events | false ↦ wave_of s b ws ]) (some es)
        → (u : Bool) → (has x.signal sigs && has x.char cs) ≡ u → (u || taken sigs cs ws) ≡ false → (taken sigs cs ws ≡ false → wave_of s b ws ≡ some es → ⊥) → ⊥
    by true f true g w true h t ih = let z : ◌≡◌ {A = ℕ} 0 1 = cc in omega arith
    by true f true g w false h t ih =
        let i : has x.signal sigs ≡ true = ap (λ (y : ℕ). has y sigs) (eqb-true x.signal s f) ∙ p in
        let j : has x.char cs ≡ true = ap (λ (y : ℕ). has y cs) (eqb-true x.char b g) ∙ q in
        let k : true ≡ false = sym (rw (i, j)) ∙ h in
        let z : ◌≡◌ {A = ℕ} 0 1 = cc in
        omega arith
    by true f false g w u h t ih = ih (rest u t) w
    by false f e g w u h t ih = ih (rest u t) w

spots_none : (text spots : List ℕ) → ((i : ℕ) → get_or spots i 0 ≡ 0) → Spots text spots []
spots_none text spots z = record { each = λ s b q. rw (z (s * bytes_most + b)) (watched_none text (watch_of s b)) }

-- spots before any entry is read
pub blank_spots : (text : List ℕ) → Spots text (replicate spots_most 0) []
blank_spots text = spots_none text (replicate spots_most 0) (zeros spots_most)

module _ {text spots spots' : List ℕ} {ws : List Wave} {us : Toks} (sigs cs : List ℕ) (es : Events) (place : ℕ) where
  pub spots_more : Spots text spots ws → Stored spots sigs cs (place + 1) spots' → taken sigs cs ws ≡ false → length es.0 ≡ length cs → length cs ≤ entry_most
      → chars_events (toks text place) ≡ ok (record { at = place; word = cs }, es) us → Spots text spots' (ws ++ waves_for sigs cs es.0)
  spots_more a st free sized few there = record {
    each = λ s b q. rw (st.each s b q) (by s b (spot_at spots s b) (a.each s b q) (has s sigs) (has b cs) refl refl);
  }
    where
      all : List Wave
      all = ws ++ waves_for sigs cs es.0

      -- it was found before
      before : {s b : ℕ} (v : ℕ) → Watched text (watch_of s b) (Some v) ws → Watched text (watch_of s b) (Some v) all
      before {s} {b} v o = watched_more {w = watch_of s b} {s = Some v} sigs cs es place sized few there refl o

      -- it was not: it is found here, or not at all
      here : {s b : ℕ} → Watched text (watch_of s b) None ws → Watched text (watch_of s b) (cond (has b cs && has s sigs) (Some place) None) all
      here {s} {b} o = watched_more {w = watch_of s b} {s = None} sigs cs es place sized few there refl o

      by : (s b v : ℕ) → Watched text (watch_of s b) (sight_of v) ws → (x y : Bool) → has s sigs ≡ x → has b cs ≡ y
          → Watched text (watch_of s b) (sight_of (cond (x && y) (place + 1) v)) all
      by s b (suc v) o true true p q = absurd (taken_there s b sigs cs ws free p q (o.yes v refl).wave)
      by s b (suc v) o true false p q = before v o
      by s b (suc v) o false y p q = before v o
      by s b zero o true true p q = rw add-one (rw (q, p) at (here o))
      by s b zero o true false p q = rw q at (here o)
      by s b zero o false true p q = rw (q, p) at (here o)
      by s b zero o false false p q = rw q at (here o)

-- Marks: loops over characters and signals, and that the marks of a table are those of the waveforms of an entry more.
use Prim.Native.Nat.{ℕ, zero, suc, ◌+◌, ◌*◌, ◌-◌, ◌≤◌, ◌<◌, min}
use native.Mathlib.Omega.{arith}
use native.Mathlib.Numerals.{add-one}
use mathlib.Core.Path.{◌≡◌, refl, sym, ap, ◌∙◌}
use mathlib.Core.Bool.{Bool, true, false, ◌&&◌, ◌||◌, and-false, or-true, or-false}
use mathlib.Core.List.{List, [], ◌∷◌, ◌++◌}
use lib.ListN.{length, get_or, take, drop, set, length-take}
use lib.Seq.{get_or-set_same, get_or-set_other, take-suc, take_all, take-take, drop-drop}
use lib.Dec.{eqb, ltb, leb}
use borrow.Author.Tests.{eqb-true, eqb-false, ltb-true, lt-ltb, leb-true, leb-false}
use Rattle.std.specs.List.{list_any, enumerate_from}
use Rattle.tokens.specs.Bytes.{digit, letter, between}
use Rattle.tokens.proofs.Bools.{both, eqb_comm}
use Rattle.meaning.specs.Bounds.{signals_most}
use Rattle.meaning.specs.Lists.{has, repeats}
use Rattle.meaning.specs.Timing.{Event, Wave, wave_char, all_chars, taken, waves_of, waves_for}
use Rattle.meaning.specs.Meaning.{has_wave}
use Rattle.meaning.proofs.Lists.{has_append}
use Rattle.timing.specs.Marks.{chars_most, table_size, mark, Marks, mark_among, Marked, Below}

-- ---- loops over characters and signals

pub has_any : (x : ℕ) (l : List ℕ) → list_any (λ y. eqb y x) l ≡ has x l
unfolding has
has_any x [] = refl
has_any x (y ∷ l) = ap (λ (b : Bool). eqb y x || b) (has_any x l)

-- each byte is looked for behind its own place
pub repeats_any : (w : List ℕ) (n : ℕ) (rest : List ℕ) → drop n w ≡ rest → list_any (λ (p : ℕ × ℕ). has p.1 (drop (p.0 + 1) w)) (enumerate_from n rest) ≡ repeats rest
unfolding repeats
repeats_any w n [] e = refl
repeats_any w n (b ∷ rest) e =
    let f : drop (n + 1) w ≡ rest = sym (drop-drop 1 n w) ∙ ap (drop 1) e in
    rw f (ap (λ (x : Bool). has b rest || x) (repeats_any w (n + 1) rest f))

-- ---- letters and digits can have a mark

char_below : (b : ℕ) → wave_char b ≡ true → b < chars_most
unfolding wave_char letter digit between
char_below b = by (leb 65 b) (leb b 90) refl (leb 97 b) (leb b 122) refl (leb 48 b) (leb b 57) refl
  where
    by : (x y : Bool) → leb b 90 ≡ y → (u v : Bool) → leb b 122 ≡ v → (p q : Bool) → leb b 57 ≡ q → ((x && y || u && v) || p && q) ≡ true → b < chars_most
    by x true e u v f p q g h = omega (arith, leb-true b 90 e)
    by x false e u true f p q g h = omega (arith, leb-true b 122 f)
    by x false e u false f p true g h = omega (arith, leb-true b 57 g)
    by true false e true false f true false g h = let z : ◌≡◌ {A = ℕ} 0 1 = cc in absurd (omega arith)
    by true false e true false f false false g h = let z : ◌≡◌ {A = ℕ} 0 1 = cc in absurd (omega arith)
    by true false e false false f true false g h = let z : ◌≡◌ {A = ℕ} 0 1 = cc in absurd (omega arith)
    by true false e false false f false false g h = let z : ◌≡◌ {A = ℕ} 0 1 = cc in absurd (omega arith)
    by false false e true false f true false g h = let z : ◌≡◌ {A = ℕ} 0 1 = cc in absurd (omega arith)
    by false false e true false f false false g h = let z : ◌≡◌ {A = ℕ} 0 1 = cc in absurd (omega arith)
    by false false e false false f true false g h = let z : ◌≡◌ {A = ℕ} 0 1 = cc in absurd (omega arith)
    by false false e false false f false false g h = let z : ◌≡◌ {A = ℕ} 0 1 = cc in absurd (omega arith)

pub chars_below : (w : List ℕ) (i : ℕ) → all_chars w ≡ true → i < length w → get_or w i 0 < chars_most
unfolding all_chars
chars_below [] i h k = absurd (omega arith)
chars_below (b ∷ w) zero h k = char_below b (both (wave_char b) (all_chars w) h).0
chars_below (b ∷ w) (suc i) h k = chars_below w i (both (wave_char b) (all_chars w) h).1 (omega arith)

-- ---- one mark more

mark_set : (t : List ℕ) (s b s' b' : ℕ) → length t ≡ table_size → s < signals_most → b < chars_most
    → mark (set t (s * chars_most + b) 1) s' b' ≡ (mark t s' b' || eqb s s' && eqb b b')
mark_set t s b s' b' l h k = by (ltb b' chars_most) refl (eqb s s') refl (eqb b b') refl
  where
    at : ℕ
    at = s * chars_most + b

    apart : b' < chars_most → (s' * chars_most + b' ≡ at → ⊥) → eqb (get_or (set t at 1) (s' * chars_most + b') 0) 1 ≡ eqb (get_or t (s' * chars_most + b') 0) 1
    apart g n = ap (λ (x : ℕ). eqb x 1) (get_or-set_other t at (s' * chars_most + b') 1 0 n)

    by : (x : Bool) → ltb b' chars_most ≡ x → (y : Bool) → eqb s s' ≡ y → (z : Bool) → eqb b b' ≡ z
        → (x && eqb (get_or (set t at 1) (s' * chars_most + b') 0) 1) ≡ ((x && eqb (get_or t (s' * chars_most + b') 0) 1) || y && z)
    by true e true f true g =
        let p : s' * chars_most + b' ≡ at = omega (arith, eqb-true s s' f, eqb-true b b' g) in
        ap (λ (x : ℕ). eqb (get_or (set t at 1) x 0) 1) p ∙ ap (λ (x : ℕ). eqb x 1) (get_or-set_same t at 1 0 (omega arith)) ∙ sym (or-true (eqb (get_or t (s' * chars_most + b') 0) 1))
    by true e true f false g =
        apart (ltb-true b' chars_most e) (λ p. eqb-false b b' g (omega (arith, eqb-true s s' f))) ∙ sym (or-false (eqb (get_or t (s' * chars_most + b') 0) 1))
    by true e false f z g =
        apart (ltb-true b' chars_most e) (λ p. eqb-false s s' f (omega (arith, ltb-true b' chars_most e))) ∙ sym (or-false (eqb (get_or t (s' * chars_most + b') 0) 1))
    by false e true f true g =
        let o : true ≡ false = sym (lt-ltb b' chars_most (omega (arith, eqb-true b b' g))) ∙ e in
        let z : ◌≡◌ {A = ℕ} 0 1 = cc in
        absurd (omega arith)
    by false e true f false g = refl
    by false e false f z g = refl

-- ---- marks of characters and signals one by one

has_more : (x : ℕ) (xs : List ℕ) (y : ℕ) → has x (xs ++ y ∷ []) ≡ (has x xs || eqb y x)
unfolding has
has_more x xs y = has_append x xs (y ∷ []) ∙ ap (λ (b : Bool). has x xs || b) (or-false (eqb y x))

pub has_taken : (x : ℕ) (xs : List ℕ) (i : ℕ) → i < length xs → has x (take (i + 1) xs) ≡ (has x (take i xs) || eqb (get_or xs i 0) x)
has_taken x xs i h = rw (add-one, take-suc xs i 0 h) (has_more x (take i xs) (get_or xs i 0))

or_none : (x y : Bool) → x ≡ (x || y && false)
or_none true y = refl
or_none false true = refl
or_none false false = refl

pub marked_no_chars : (t sigs : List ℕ) → Marked t sigs [] t
unfolding has
marked_no_chars t sigs = record { each = λ s b h. or_none (mark t s b) (has s sigs) }

pub marked_no_signals : (t w : List ℕ) → Marked t [] w t
unfolding has
marked_no_signals t w = record { each = λ s b h. sym (or-false (mark t s b)) }

pub marked_char : {t₀ t : List ℕ} (w : List ℕ) (s i : ℕ) → length t ≡ table_size → s < signals_most → i < length w → get_or w i 0 < chars_most
    → Marked t₀ (s ∷ []) (take i w) t → Marked t₀ (s ∷ []) (take (i + 1) w) (set t (s * chars_most + get_or w i 0) 1)
unfolding has
marked_char {t₀} {t} w s i l h k c a =
    record {
      each = λ s' b' q.
          mark_set t s (get_or w i 0) s' b' l h c ∙ ap (λ (x : Bool). x || eqb s s' && eqb (get_or w i 0) b') (a.each s' b' q)
          ∙ by (mark t₀ s' b') (eqb s s') (has b' (take i w)) (eqb (get_or w i 0) b')
          ∙ ap (λ (x : Bool). mark t₀ s' b' || (eqb s s' || false) && x) (sym (has_taken b' w i k));
    }
  where
    by : (x y z v : Bool) → ((x || (y || false) && z) || y && v) ≡ (x || (y || false) && (z || v))
    by true y z v = refl
    by false true z v = refl
    by false false z v = refl

pub marked_signal : {t₀ t t' : List ℕ} (sigs : List ℕ) {w : List ℕ} (i : ℕ) → i < length sigs → Marked t₀ (take i sigs) w t → Marked t (get_or sigs i 0 ∷ []) w t'
    → Marked t₀ (take (i + 1) sigs) w t'
unfolding has
marked_signal {t₀} {t} {t'} sigs {w} i h a b =
    record {
      each = λ s c q.
          b.each s c q ∙ ap (λ (x : Bool). x || (eqb (get_or sigs i 0) s || false) && has c w) (a.each s c q)
          ∙ by (mark t₀ s c) (has s (take i sigs)) (eqb (get_or sigs i 0) s) (has c w)
          ∙ ap (λ (x : Bool). mark t₀ s c || x && has c w) (sym (has_taken s sigs i h));
    }
  where
    by : (x y z v : Bool) → ((x || y && v) || (z || false) && v) ≡ (x || (y || z) && v)
    by true y z v = refl
    by false true z true = refl
    by false true true false = refl
    by false true false false = refl
    by false false true v = refl
    by false false false v = refl

pub marked_all : {t₀ t : List ℕ} {i : ℕ} (sigs w : List ℕ) → length sigs ≤ i → Marked t₀ (take i sigs) w t → Marked t₀ sigs w t
marked_all {t₀} {t} {i} sigs w h a = rw (take_all i sigs h) at a

pub marked_word : {t₀ t : List ℕ} {i : ℕ} (sigs w : List ℕ) → length w ≤ i → Marked t₀ sigs (take i w) t → Marked t₀ sigs w t
marked_word {t₀} {t} {i} sigs w h a = rw (take_all i w h) at a

-- ---- a row of signals

pub row_part : (n : ℕ) (at : ℕ) (xs : List ℕ) → take (at + min n signals_most - at) (drop at xs) ≡ take n (take signals_most (drop at xs))
row_part n at xs = by (leb n signals_most) refl
  where
    by : (b : Bool) → leb n signals_most ≡ b → take (at + min n signals_most - at) (drop at xs) ≡ take n (take signals_most (drop at xs))
    by true e =
        let o : n ≤ signals_most = leb-true n signals_most e in
        let q : at + min n signals_most - at ≡ n = omega arith in
        rw (q, take-take n signals_most (drop at xs) o)
    by false e =
        let o : signals_most < n = leb-false n signals_most e in
        let q : at + min n signals_most - at ≡ signals_most = omega arith in
        rw (q, take_all n (take signals_most (drop at xs)) (omega (arith, length-take signals_most (drop at xs))))

-- past the last name there are no signals
pub row_none : (n : ℕ) (xs : List ℕ) → n ≡ 0 → [] ≡ take n (take signals_most xs)
row_none n xs h = rw h

-- ---- waveforms more

wave_append : (s b : ℕ) (ws vs : List Wave) → has_wave s b (ws ++ vs) ≡ (has_wave s b ws || has_wave s b vs)
unfolding has_wave
wave_append s b [] vs = refl
wave_append s b (w ∷ ws) vs = ap (λ (x : Bool). eqb w.signal s && eqb w.char b || x) (wave_append s b ws vs) ∙ by (eqb w.signal s && eqb w.char b)
  where
    by : (x : Bool) → (x || (has_wave s b ws || has_wave s b vs)) ≡ ((x || has_wave s b ws) || has_wave s b vs)
    by true = refl
    by false = refl

wave_one : (s b s₀ : ℕ) (cs : List ℕ) (es : List (List Event)) → length es ≡ length cs → has_wave s b (waves_of s₀ cs es) ≡ (eqb s₀ s && has b cs)
unfolding has_wave waves_of has
wave_one s b s₀ [] es h = sym (and-false (eqb s₀ s))
wave_one s b s₀ (c ∷ cs) [] h = absurd (omega arith)
wave_one s b s₀ (c ∷ cs) (e ∷ es) h = ap (λ (x : Bool). eqb s₀ s && eqb c b || x) (wave_one s b s₀ cs es (omega arith)) ∙ by (eqb s₀ s)
  where
    by : (x : Bool) → (x && eqb c b || x && has b cs) ≡ (x && (eqb c b || has b cs))
    by true = refl
    by false = refl

wave_all : (s b : ℕ) (sigs cs : List ℕ) (es : List (List Event)) → length es ≡ length cs → has_wave s b (waves_for sigs cs es) ≡ (has s sigs && has b cs)
unfolding has_wave waves_for has
wave_all s b [] cs es h = refl
wave_all s b (s₀ ∷ sigs) cs es h =
    wave_append s b (waves_of s₀ cs es) (waves_for sigs cs es) ∙ ap (λ (x : Bool). x || has_wave s b (waves_for sigs cs es)) (wave_one s b s₀ cs es h)
    ∙ ap (λ (x : Bool). eqb s₀ s && has b cs || x) (wave_all s b sigs cs es h) ∙ by (eqb s₀ s) (has s sigs) (has b cs)
  where
    by : (x y z : Bool) → (x && z || y && z) ≡ ((x || y) && z)
    by true y true = refl
    by true true false = refl
    by true false false = refl
    by false y z = refl

-- the marks of an entry more
pub marks_more : {t t' : List ℕ} {ws : List Wave} {sigs cs : List ℕ} (es : List (List Event)) → Marks t ws → Marked t sigs cs t' → length es ≡ length cs
    → Marks t' (ws ++ waves_for sigs cs es)
marks_more {t} {t'} {ws} {sigs} {cs} es a m h =
    record {
      each = λ s b k.
          m.each s b k ∙ ap (λ (x : Bool). x || has s sigs && has b cs) (a.each s b k)
          ∙ ap (λ (x : Bool). has_wave s b ws || x) (sym (wave_all s b sigs cs es h)) ∙ sym (wave_append s b ws (waves_for sigs cs es));
    }

-- ---- characters that are taken

any_same : (f g : ℕ → Bool) (xs : List ℕ) → ((i : ℕ) → i < length xs → f (get_or xs i 0) ≡ g (get_or xs i 0)) → list_any f xs ≡ list_any g xs
any_same f g [] h = refl
any_same f g (x ∷ xs) h =
    ap (λ (b : Bool). b || list_any f xs) (h 0 (omega arith)) ∙ ap (λ (b : Bool). g x || b) (any_same f g xs (λ i k. h (suc i) (omega arith)))

any_not : (xs : List ℕ) → list_any (λ x. false) xs ≡ false
any_not [] = refl
any_not (x ∷ xs) = any_not xs

-- one waveform more in front
any_inner : (a : Bool) (q : ℕ) (g : ℕ → Bool) (cs : List ℕ) → list_any (λ b. a && eqb q b || g b) cs ≡ (a && has q cs || list_any g cs)
unfolding has
any_inner a q g [] = by a
  where
    by : (x : Bool) → false ≡ (x && false || false)
    by true = refl
    by false = refl
any_inner a q g (c ∷ cs) =
    ap (λ (x : Bool). (a && eqb q c || g c) || x) (any_inner a q g cs) ∙ ap (λ (x : Bool). (a && x || g c) || (a && has q cs || list_any g cs)) (eqb_comm q c)
    ∙ by a (eqb c q) (g c) (has q cs)
  where
    by : (x y z v : Bool) → ((x && y || z) || (x && v || list_any g cs)) ≡ (x && (y || v) || (z || list_any g cs))
    by true true z v = refl
    by true false true true = refl
    by true false true false = refl
    by true false false v = refl
    by false y z v = refl

any_outer : (p : ℕ) (h : Bool) (g : ℕ → Bool) (sigs : List ℕ) → list_any (λ s. eqb p s && h || g s) sigs ≡ (has p sigs && h || list_any g sigs)
unfolding has
any_outer p h g [] = refl
any_outer p h g (s ∷ sigs) =
    ap (λ (x : Bool). (eqb p s && h || g s) || x) (any_outer p h g sigs) ∙ ap (λ (x : Bool). (x && h || g s) || (has p sigs && h || list_any g sigs)) (eqb_comm p s)
    ∙ by (eqb s p) h (g s) (has p sigs)
  where
    by : (x y z v : Bool) → ((x && y || z) || (v && y || list_any g sigs)) ≡ ((x || v) && y || (z || list_any g sigs))
    by true true z v = refl
    by true false z true = refl
    by true false z false = refl
    by false true true true = refl
    by false true true false = refl
    by false true false v = refl
    by false false true true = refl
    by false false true false = refl
    by false false false true = refl
    by false false false false = refl

taken_any : (sigs cs : List ℕ) (ws : List Wave) → list_any (λ s. list_any (λ b. has_wave s b ws) cs) sigs ≡ taken sigs cs ws
unfolding taken has_wave
taken_any sigs cs [] = any_same _ (λ s. false) sigs (λ i k. any_not cs) ∙ any_not sigs
taken_any sigs cs (w ∷ ws) =
    any_same _ (λ s. eqb w.signal s && has w.char cs || list_any (λ b. has_wave s b ws) cs) sigs
    (λ i k. any_inner (eqb w.signal (get_or sigs i 0)) w.char (λ b. has_wave (get_or sigs i 0) b ws) cs)
    ∙ any_outer w.signal (has w.char cs) (λ s. list_any (λ b. has_wave s b ws) cs) sigs
    ∙ ap (λ (x : Bool). has w.signal sigs && has w.char cs || x) (taken_any sigs cs ws)

pub taken_marks : {t : List ℕ} {ws : List Wave} (sigs cs : List ℕ) → Marks t ws → Below sigs → mark_among t sigs cs ≡ taken sigs cs ws
taken_marks {t} {ws} sigs cs a below =
    any_same _ (λ s. list_any (λ b. has_wave s b ws) cs) sigs (λ i k. any_same _ (λ b. has_wave (get_or sigs i 0) b ws) cs λ j q. a.each (get_or sigs i 0) (get_or cs j 0) (below i k))
    ∙ taken_any sigs cs ws

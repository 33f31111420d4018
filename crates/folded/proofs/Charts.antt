-- The charts of a table: they may be written, and they have the same waveforms as the table.
use Prim.Native.Nat.{ℕ, zero, suc, ◌+◌, ◌≤◌, ◌<◌}
use native.Mathlib.Nat.{add-suc, suc-add, add-zero}
use native.Mathlib.Omega.{arith}
use mathlib.Core.Path.{◌≡◌, refl, sym, ap, ap₂, ◌∙◌, subst}
use mathlib.Core.Bool.{Bool, true, false, ◌&&◌, ◌||◌, or-true, or-false}
use mathlib.Core.Option.{Option, none, some, or_else}
use mathlib.Core.List.{List, [], ◌∷◌, ◌++◌}
use lib.Dec.{leb, eqb}
use lib.ListN.{length, get_or}
use borrow.Author.Tests.{leb-true, leb-false, eqb-true, eqb-false, eq-eqb, ne_eqb, le-leb, lt-leb}
use Rattle.tokens.specs.Bytes.{between, digit, letter}
use Rattle.tokens.specs.Tokens.{Tok}
use Rattle.meaning.specs.Lists.{has, repeats}
use Rattle.meaning.specs.Names.{is_name, is_some}
use Rattle.meaning.specs.Timing.{Event, Wave, wave_char}
use Rattle.meaning.specs.Meaning.{has_wave}
use Rattle.meaning.specs.Services.{wave_of}
use Rattle.meaning.proofs.Options.{or_none}
use Rattle.meaning.proofs.Lists.{has_append, wave_append}
use Rattle.folded.specs.Flat.{up_from, characters, Entries, entries_of, Chart, chart, charts_from}
use Rattle.folded.proofs.Words.{Proper}
use Rattle.folded.proofs.Reading.{AllFit, find_in}
use Rattle.folded.proofs.TimingBack.{FirstFits, waves_in, NewEntry, waves_all, NewChart}
use Rattle.folded.specs.Same.{words_of}
use Rattle.folded.proofs.SourceTiming.{AllSound}

-- ---- numbers one behind the other

has_up : (x a n : ℕ) → has x (up_from a n) ≡ (leb a x && leb (suc x) (a + n))
unfolding has up_from
has_up x a zero = sym (by (leb a x) refl)
  where
    by : (t : Bool) → leb a x ≡ t → (t && leb (suc x) (a + 0)) ≡ false
    by true e = lt-leb (suc x) (a + 0) (omega (arith, leb-true a x e))
    by false e = refl
has_up x a (suc n) = rw (has_up x (suc a) n) (by (eqb a x) refl (leb a x) refl)
  where
    by : (t : Bool) → eqb a x ≡ t → (u : Bool) → leb a x ≡ u → (t || (leb (suc a) x && leb (suc x) (suc a + n))) ≡ (u && leb (suc x) (a + suc n))
    by true e true f = sym (le-leb (suc x) (a + suc n) (omega (arith, eqb-true a x e)))
    by true e false f = absurd (omega (arith, eqb-true a x e, leb-false a x f))
    by false e true f = rw (le-leb (suc a) x (omega (arith, eqb-false a x e, leb-true a x f))) (let k : suc a + n ≡ a + suc n = omega arith in rw k)
    by false e false f = rw (lt-leb (suc a) x (omega (arith, leb-false a x f)))

has_to : (x a n : ℕ) → has x (up_from a (suc n)) ≡ (leb a x && leb x (a + n))
has_to x a n = has_up x a (suc n) ∙ ap (λ (b : Bool). leb a x && b) (by (leb x (a + n)) refl)
  where
    by : (t : Bool) → leb x (a + n) ≡ t → leb (suc x) (a + suc n) ≡ t
    by true e = le-leb (suc x) (a + suc n) (omega (arith, leb-true x (a + n) e))
    by false e = lt-leb (suc x) (a + suc n) (omega (arith, leb-false x (a + n) e))

-- all waveform characters, and no others
pub is_character : (c : ℕ) → has c characters ≡ wave_char c
unfolding characters wave_char letter digit between up_from
is_character c =
    has_append c (up_from 48 10) (up_from 65 26 ++ up_from 97 26)
    ∙ ap₂ (λ (a b : Bool). a || b) (has_to c 48 9) (has_append c (up_from 65 26) (up_from 97 26) ∙ ap₂ (λ (a b : Bool). a || b) (has_to c 65 25) (has_to c 97 25))
    ∙ turned (leb 48 c && leb c 57) (leb 65 c && leb c 90) (leb 97 c && leb c 122)
  where
    turned : (a b d : Bool) → (a || (b || d)) ≡ ((b || d) || a)
    turned true true d = refl
    turned true false true = refl
    turned true false false = refl
    turned false b d = sym (or-false (b || d))

no_repeats : repeats characters ≡ false
unfolding repeats has characters up_from
no_repeats = refl

-- ---- waveforms one behind the other

-- a character has a waveform where one is found
pub has_wave_lem : (s c : ℕ) (ws : List Wave) → has_wave s c ws ≡ is_some (wave_of s c ws)
unfolding wave_of has_wave is_some
has_wave_lem s c [] = refl
has_wave_lem s c (w ∷ ws) = by (eqb w.signal s && eqb w.char c) (has_wave_lem s c ws)
  where
    by : (b : Bool) → has_wave s c ws ≡ is_some (wave_of s c ws) → (b || has_wave s c ws) ≡ is_some {A = List Event} (elim b as (λ x. Option (List Event)) [ true ↦ some w.events | false ↦ wave_of s c ws ])
    by true ih = refl
    by false ih = ih

-- what is found is sound
pub wave_sound : (n s c : ℕ) (ws : List Wave) → AllSound n ws → (es : List Event) → wave_of s c ws ≡ some es → (s < n) × (wave_char c ≡ true) × FirstFits es
unfolding wave_of
wave_sound n s c [] g es e = absurd (let z : ◌≡◌ {A = ℕ} 0 1 = cc in omega arith)
wave_sound n s c (w ∷ ws) g es e = by (eqb w.signal s) refl (eqb w.char c) refl e (wave_sound n s c ws g.1 es)
  where
    by : (a : Bool) → eqb w.signal s ≡ a → (b : Bool) → eqb w.char c ≡ b → ◌≡◌ {A = Option (List Event)} (elim (a && b) [ true ↦ some w.events | false ↦ wave_of s c ws ]) (some es)
        → (wave_of s c ws ≡ some es → (s < n) × (wave_char c ≡ true) × FirstFits es) → (s < n) × (wave_char c ≡ true) × FirstFits es
    by true p true q e ih =
        let z : w.events ≡ es = cc in
        (subst (λ (x : ℕ). x < n) (eqb-true w.signal s p) g.0.below, subst (λ (x : ℕ). wave_char x ≡ true) (eqb-true w.char c q) g.0.char, subst FirstFits z g.0.events)
    by true p false q e ih = ih e
    by false p b q e ih = ih e

-- ---- a signal's entries

lookup : ℕ → Entries → Option (List Event)
lookup c [] = none
lookup c (x ∷ xs) = elim (eqb x.0 c) [ true ↦ some x.1 | false ↦ lookup c xs ]

wave_in : (s c : ℕ) (xs : Entries) → wave_of s c (waves_in s xs) ≡ lookup c xs
unfolding wave_of waves_in lookup
wave_in s c [] = refl
wave_in s c (x ∷ xs) = rw (eq-eqb s s refl, wave_of) (ap (λ (o : Option (List Event)). elim (eqb x.0 c) as (λ b. Option (List Event)) [ true ↦ some x.1 | false ↦ o ]) (wave_in s c xs))

wave_other : (s t c : ℕ) (xs : Entries) → (t ≡ s → ⊥) → wave_of s c (waves_in t xs) ≡ none
unfolding wave_of waves_in
wave_other s t c [] h = refl
wave_other s t c (x ∷ xs) h = rw (ne_eqb t s h, wave_of) (wave_other s t c xs h)

-- those of the characters cs
abbrev among : Bool → Option (List Event) → Option (List Event)
among true o = o
among false o = none

among_none : (b : Bool) → among b none ≡ none
among_none true = refl
among_none false = refl

lookup_of : (s c : ℕ) (ws : List Wave) (cs : List ℕ) → lookup c (entries_of s ws cs) ≡ among (has c cs) (wave_of s c ws)
unfolding lookup entries_of has
lookup_of s c ws [] = refl
lookup_of s c ws (d ∷ cs) = by (wave_of s d ws) refl (eqb d c) refl (lookup_of s c ws cs)
  where
    by : (o : Option (List Event)) → wave_of s d ws ≡ o → (b : Bool) → eqb d c ≡ b → lookup c (entries_of s ws cs) ≡ among (has c cs) (wave_of s c ws)
        → lookup c (elim o as (λ x. Entries) [ none ↦ entries_of s ws cs | some es ↦ (d, es) ∷ entries_of s ws cs ]) ≡ among (b || has c cs) (wave_of s c ws)
    by none p true q ih = let z : wave_of s c ws ≡ none = rw (eqb-true d c q) at p in ih ∙ rw (z, among_none (has c cs))
    by none p false q ih = ih
    by (some es) p true q ih = let z : wave_of s c ws ≡ some es = rw (eqb-true d c q) at p in rw (q, lookup, z)
    by (some es) p false q ih = rw (q, lookup) ih

-- a signal's entries may be written, where those before it are of other signals
module _ (n s : ℕ) (ws base : List Wave) (sound : AllSound n ws) (free : (c : ℕ) → wave_of s c base ≡ none) where
  -- no entry before has one of these characters
  abbrev Fresh : Entries → List ℕ → Type 0
  Fresh before cs = (c : ℕ) → has c cs ≡ true → lookup c before ≡ none

  lookup_more : (c : ℕ) (xs : Entries) (x : ℕ × List Event) → lookup c (xs ++ x ∷ []) ≡ or_else (lookup c xs) (elim (eqb x.0 c) [ true ↦ some x.1 | false ↦ none ])
  unfolding lookup or_else
  lookup_more c [] x = refl
  lookup_more c (y ∷ xs) x = by (eqb y.0 c) (lookup_more c xs x)
    where
      rest : Option (List Event)
      rest = elim (eqb x.0 c) [ true ↦ some x.1 | false ↦ none ]

      by : (b : Bool) → lookup c (xs ++ x ∷ []) ≡ or_else (lookup c xs) rest
          → ◌≡◌ {A = Option (List Event)} (elim b [ true ↦ some y.1 | false ↦ lookup c (xs ++ x ∷ []) ]) (or_else (elim b as (λ z. Option (List Event)) [ true ↦ some y.1 | false ↦ lookup c xs ]) rest)
      by true ih = refl
      by false ih = ih

  fresh_more : (before : Entries) (d : ℕ) (es : List Event) (cs : List ℕ) → has d cs ≡ false → Fresh before (d ∷ cs) → Fresh (before ++ (d, es) ∷ []) cs
  unfolding has or_else
  fresh_more before d es cs r h c k =
      let p : eqb d c ≡ false = ne_eqb d c (λ e. let z : true ≡ false = sym k ∙ ap (λ (x : ℕ). has x cs) (sym e) ∙ r in let y : ◌≡◌ {A = ℕ} 0 1 = cc in omega arith) in
      let q : (eqb d c || has c cs) ≡ true = rw (p, k) in
      lookup_more c before (d, es) ∙ rw (h c q, p)

  new_entry : (before : Entries) (c : ℕ) (es : List Event) → wave_of s c ws ≡ some es → lookup c before ≡ none → NewEntry base s before (c, es)
  unfolding is_some or_else
  new_entry before c es e h =
      let w = wave_sound n s c ws sound es e in
      let none_found : wave_of s c (base ++ waves_in s before) ≡ none = wave_append s c base (waves_in s before) ∙ rw (free c, wave_in s c before) h in
      record { char = w.1; free = has_wave_lem s c (base ++ waves_in s before) ∙ rw none_found; events = w.2 }

  entries_new : (cs : List ℕ) (before : Entries) → repeats cs ≡ false → Fresh before cs → AllFit (NewEntry base s) before (entries_of s ws cs)
  unfolding entries_of repeats has
  entries_new [] before r h = tt
  entries_new (d ∷ cs) before r h = by (wave_of s d ws) refl (has d cs) refl r (entries_new cs)
    where
      by : (o : Option (List Event)) → wave_of s d ws ≡ o → (b : Bool) → has d cs ≡ b → (b || repeats cs) ≡ false
          → ((before : Entries) → repeats cs ≡ false → Fresh before cs → AllFit (NewEntry base s) before (entries_of s ws cs))
          → AllFit (NewEntry base s) before (elim o as (λ x. Entries) [ none ↦ entries_of s ws cs | some es ↦ (d, es) ∷ entries_of s ws cs ])
      by o p true q r ih = absurd (let z : ◌≡◌ {A = ℕ} 0 1 = cc in omega arith)
      by none p false q r ih = ih before r (λ c k. h c (rw k (or-true (eqb d c))))
      by (some es) p false q r ih = (
        new_entry before d es p (h d (rw (eq-eqb d d refl))),
        ih (before ++ (d, es) ∷ []) r (fresh_more before d es cs q h),
      )

  pub entries_fit : AllFit (NewEntry base s) [] (entries_of s ws characters)
  unfolding lookup
  entries_fit = entries_new characters [] no_repeats (λ c k. refl)

-- ---- names that stand for signals, from number s on

-- P of each word and its number
unfoldable pub Along : (ℕ → List ℕ → Type 0) → ℕ → List (List ℕ) → Type 0
Along P s [] = Unit {0}
Along P s (w ∷ ws) = P s w × Along P (suc s) ws

pub along_at : (P : ℕ → List ℕ → Type 0) (s : ℕ) (ws : List (List ℕ)) → Along P s ws → (i : ℕ) → i < length ws → P (s + i) (get_or ws i [])
unfolding Along
along_at P s [] h i k = absurd (omega arith)
along_at P s (w ∷ ws) h zero k = subst (λ (j : ℕ). P j w) (sym (add-zero s)) h.0
along_at P s (w ∷ ws) h (suc i) k = subst (λ (j : ℕ). P j (get_or ws i [])) (suc-add s i ∙ sym (add-suc s i)) (along_at P (suc s) ws h.1 i (omega arith))

-- a name that stands for what a table of names has under its number
abbrev pub Known : {A : Type 0} → List (List ℕ × A) → (ℕ → A) → ℕ → List ℕ → Type 0
Known names of s w = Proper w × (is_name w ≡ true) × (find_in names w ≡ some (of s))

abbrev pub one : ℕ → List ℕ
one s = s ∷ []

abbrev pub Knowns : List (List ℕ × List ℕ) → ℕ → List (List ℕ) → Type 0
Knowns names = Along (Known names one)

-- ---- the charts of a table

-- those of signals below s
abbrev Lower : ℕ → List Chart → Type 0
Lower s [] = Unit {0}
Lower s (x ∷ xs) = (x.signal < s) × Lower s xs

lower_more : (s : ℕ) (xs : List Chart) (x : Chart) → Lower s xs → x.signal < s → Lower s (xs ++ x ∷ [])
lower_more s [] x h k = (k, tt)
lower_more s (y ∷ xs) x h k = (h.0, lower_more s xs x h.1 k)

lower_suc : (s : ℕ) (xs : List Chart) → Lower s xs → Lower (suc s) xs
lower_suc s [] h = tt
lower_suc s (x ∷ xs) h = (omega (arith, h.0), lower_suc s xs h.1)

lower_none : (s c : ℕ) (xs : List Chart) → Lower s xs → wave_of s c (waves_all xs) ≡ none
unfolding waves_all wave_of or_else
lower_none s c [] h = refl
lower_none s c (x ∷ xs) h =
    wave_append s c (waves_in x.signal (x.first ∷ x.others)) (waves_all xs) ∙ rw (wave_other s x.signal c (x.first ∷ x.others) (λ e. omega (arith, h.0))) (lower_none s c xs h.1)

module _ (names : List (List ℕ × List ℕ)) (n : ℕ) (ws : List Wave) (sound : AllSound n ws) where
  -- THE LAW: they may be written
  pub charts_new : (s : ℕ) (ts : List Tok) (before : List Chart) → Knowns names s (words_of ts) → Lower s before → AllFit (NewChart names) before (charts_from s ts ws)
  unfolding charts_from chart Along words_of
  charts_new s [] before k l = tt
  charts_new s (t ∷ ts) before k l =
      by (entries_of s ws characters) (entries_fit n s ws (waves_all before) sound (λ c. lower_none s c before l)) (charts_new (suc s) ts)
    where
      by : (xs : Entries) → AllFit (NewEntry (waves_all before) s) [] xs
          → ((before : List Chart) → Knowns names (suc s) (words_of ts) → Lower (suc s) before → AllFit (NewChart names) before (charts_from (suc s) ts ws))
          → AllFit (NewChart names) before (chart t.word s xs (charts_from (suc s) ts ws))
      by [] f ih = ih before k.1 (lower_suc s before l)
      by (x ∷ xs) f ih =
          let c : Chart = record { name = t.word; signal = s; first = x; others = xs } in
          (record { proper = k.0.0; is_name_lem = k.0.1; known = k.0.2; entries = f }, ih (before ++ c ∷ []) k.1 (lower_more (suc s) before c (lower_suc s before l) (omega arith)))

-- a chart's waveforms
wave_chart : (s c : ℕ) (w : List ℕ) (t : ℕ) (xs : Entries) (rest : List Chart) → wave_of s c (waves_all (chart w t xs rest)) ≡ or_else (wave_of s c (waves_in t xs)) (wave_of s c (waves_all rest))
unfolding chart waves_all wave_of waves_in or_else
wave_chart s c w t [] rest = refl
wave_chart s c w t (x ∷ xs) rest = wave_append s c (waves_in t (x ∷ xs)) (waves_all rest)

-- of signals behind s nothing is told
charts_behind : (s c t : ℕ) (ts : List Tok) (ws : List Wave) → s < t → wave_of s c (waves_all (charts_from t ts ws)) ≡ none
unfolding charts_from waves_all wave_of or_else
charts_behind s c t [] ws h = refl
charts_behind s c t (u ∷ ts) ws h =
    wave_chart s c u.word t (entries_of t ws characters) (charts_from (suc t) ts ws)
    ∙ rw (wave_other s t c (entries_of t ws characters) (λ e. omega arith)) (charts_behind s c (suc t) ts ws (omega arith))

charts_of : (s c t : ℕ) (ts : List Tok) (ws : List Wave) → t ≤ s → s < t + length ts → wave_of s c (waves_all (charts_from t ts ws)) ≡ among (has c characters) (wave_of s c ws)
unfolding charts_from or_else
charts_of s c t [] ws h k = absurd (omega arith)
charts_of s c t (u ∷ ts) ws h k = wave_chart s c u.word t (entries_of t ws characters) (charts_from (suc t) ts ws) ∙ by (eqb t s) refl (charts_of s c (suc t) ts ws)
  where
    by : (b : Bool) → eqb t s ≡ b → (suc t ≤ s → s < suc t + length ts → wave_of s c (waves_all (charts_from (suc t) ts ws)) ≡ among (has c characters) (wave_of s c ws))
        → or_else (wave_of s c (waves_in t (entries_of t ws characters))) (wave_of s c (waves_all (charts_from (suc t) ts ws))) ≡ among (has c characters) (wave_of s c ws)
    by true e ih =
        let q : t ≡ s = eqb-true t s e in
        rw (charts_behind s c (suc t) ts ws (omega arith), or_none (wave_of s c (waves_in t (entries_of t ws characters))), q) (wave_in s c (entries_of s ws characters) ∙ lookup_of s c ws characters)
    by false e ih = rw (wave_other s t c (entries_of t ws characters) (eqb-false t s e)) (ih (omega (arith, eqb-false t s e)) (omega arith))

charts_past : (s c t : ℕ) (ts : List Tok) (ws : List Wave) → t + length ts ≤ s → wave_of s c (waves_all (charts_from t ts ws)) ≡ none
unfolding charts_from waves_all wave_of or_else
charts_past s c t [] ws h = refl
charts_past s c t (u ∷ ts) ws h =
    wave_chart s c u.word t (entries_of t ws characters) (charts_from (suc t) ts ws)
    ∙ rw (wave_other s t c (entries_of t ws characters) (λ e. omega arith)) (charts_past s c (suc t) ts ws (omega arith))

-- a waveform that cannot be sound is none
no_wave : (n s c : ℕ) (ws : List Wave) → AllSound n ws → ((s < n) → wave_char c ≡ true → ⊥) → wave_of s c ws ≡ none
no_wave n s c ws sound h = by (wave_of s c ws) refl
  where
    by : (o : Option (List Event)) → wave_of s c ws ≡ o → o ≡ none
    by none e = refl
    by (some es) e = let w = wave_sound n s c ws sound es e in absurd (h w.0 w.1)

-- THE LAW: they have the same waveforms
pub charts_same : (n : ℕ) (ws : List Wave) → AllSound n ws → (ts : List Tok) → length ts ≡ n → (s c : ℕ) → wave_of s c (waves_all (charts_from 0 ts ws)) ≡ wave_of s c ws
charts_same n ws sound ts l s c = by (leb n s) refl (wave_char c) refl
  where
    by : (b : Bool) → leb n s ≡ b → (d : Bool) → wave_char c ≡ d → wave_of s c (waves_all (charts_from 0 ts ws)) ≡ wave_of s c ws
    by true p d q =
        let h : n ≤ s = leb-true n s p in
        charts_past s c 0 ts ws (omega arith) ∙ sym (no_wave n s c ws sound (λ k w. omega arith))
    by false p true q = charts_of s c 0 ts ws (omega arith) (omega (arith, leb-false n s p)) ∙ rw (is_character c, q)
    by false p false q =
        charts_of s c 0 ts ws (omega arith) (omega (arith, leb-false n s p)) ∙ rw (is_character c, q)
        (sym (no_wave n s c ws sound (λ k w. let z : true ≡ false = sym w ∙ q in let y : ◌≡◌ {A = ℕ} 0 1 = cc in omega arith)))

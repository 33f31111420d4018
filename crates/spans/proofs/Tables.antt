-- Tables one behind the other: the arrays hold no table, and one more.
use Prim.Native.Nat.{ℕ, zero, suc, ◌+◌, ◌-◌, ◌*◌, ◌/◌, ◌%◌, ◌≤◌, ◌<◌}
use native.Mathlib.Omega.{arith}
use mathlib.Core.Path.{◌≡◌, refl, sym, ap, ap₂, ◌∙◌, subst}
use mathlib.Core.Bool.{Bool, true, false}
use mathlib.Core.Option.{Option, none}
use mathlib.Core.List.{List, [], ◌∷◌, ◌++◌}
use lib.Dec.{ltb, eqb}
use lib.ListN.{length, get_or, set, length-append}
use lib.Seq.{get_or-set_same, get_or-set_other}
use borrow.Author.Tests.{eqb-true, eqb-false, ltb-true, ltb-false, leb-false}
use Rattle.tokens.specs.Tokens.{Tok, Toks}
use Rattle.meaning.specs.Bounds.{signals_most, tables_most}
use Rattle.meaning.specs.Reader.{due}
use Rattle.meaning.specs.Signals.{Names}
use Rattle.meaning.specs.Timing.{Event, Wave, Table, Tables, table}
use Rattle.meaning.specs.Meaning.{table_at}
use Rattle.meaning.specs.Services.{wave_of}
use Rattle.meaning.proofs.Gives.{bind_ok, gives_if}
use Rattle.words.specs.Cursor.{stream}
use Rattle.words.specs.declared.Cursor.{Cursor}
use Rattle.spots.specs.Answers.{Answers}
use Rattle.meaning.specs.Edges.{Category, times_in, first_of, last_behind, first_time, last_time, events_of, period_at}
use Rattle.spans.specs.Spans.{char_first, chars_wide, table_wide, inside, coded, slot_of, time_at, Sized, Spans}
use Rattle.spans.specs.Parts.{Fit, Clear, Upto, Held}
use Rattle.spans.proofs.Looking.{inside_low, inside_high, events_none}
use Rattle.spans.proofs.Filling.{char_inside}
use Rattle.spans.proofs.Fitting.{outside_none}

-- ---- none

no_events : (s b : ℕ) → events_of s b [] ≡ []
unfolding wave_of
no_events s b = events_none s b [] refl

pub spans_none : {firsts lasts periods : List ℕ} → ((i : ℕ) → (get_or firsts i 0 ≡ 0) × (get_or lasts i 0 ≡ 0) × (get_or periods i 0 ≡ 0)) → Spans [] firsts lasts periods
unfolding table_at period_at wave_of first_time last_time times_in first_of last_behind
spans_none z =
    record {
      first = λ j s b k h g e. (z _).0 ∙ sym (ap (λ (es : List Event). coded (first_time k es)) (no_events s b));
      last = λ j s b k h g e. (z _).1 ∙ sym (ap (λ (es : List Event). coded (last_time k es)) (no_events s b));
      outside = λ j s b e. refl;
      period = λ j h. (z j).2;
    }

no_table : (tabs : Tables) (j : ℕ) → length tabs ≤ j → table_at tabs j ≡ []
unfolding table_at
no_table [] j h = refl
no_table (x ∷ tabs) zero h = absurd (omega arith)
no_table (x ∷ tabs) (suc j) h = no_table tabs j (omega arith)

-- ---- one more

own_waves : (tabs : Tables) (x : Tok × Table) → table_at (tabs ++ x ∷ []) (length tabs) ≡ x.1.waves
unfolding table_at
own_waves [] x = refl
own_waves (y ∷ tabs) x = own_waves tabs x

other_waves : (tabs : Tables) (x : Tok × Table) (j : ℕ) → (j ≡ length tabs → ⊥) → table_at (tabs ++ x ∷ []) j ≡ table_at tabs j
unfolding table_at
other_waves [] x zero h = absurd (h refl)
other_waves [] x (suc j) h = refl
other_waves (y ∷ tabs) x zero h = refl
other_waves (y ∷ tabs) x (suc j) h = other_waves tabs x j (λ e. h (ap suc e))

own_period : (tabs : Tables) (x : Tok × Table) → period_at (tabs ++ x ∷ []) (length tabs) ≡ x.1.period
unfolding period_at
own_period [] x = refl
own_period (y ∷ tabs) x = own_period tabs x

other_period : (tabs : Tables) (x : Tok × Table) (j : ℕ) → (j ≡ length tabs → ⊥) → period_at (tabs ++ x ∷ []) j ≡ period_at tabs j
unfolding period_at
other_period [] x zero h = absurd (h refl)
other_period [] x (suc j) h = refl
other_period (y ∷ tabs) x zero h = refl
other_period (y ∷ tabs) x (suc j) h = other_period tabs x j (λ e. h (ap suc e))

-- a slot of the table that was filled
upto_own : (f : Category → List Event → Option ℕ) (j s b : ℕ) (k : Category) (ws : List Wave) {row after : List ℕ} → Upto f j ws table_wide row after → s < signals_most → inside b ≡ true
    → time_at after (slot_of j s b) k ≡ coded (f k (events_of s b ws))
upto_own f j s b k ws x h e =
    let low = inside_low b e in
    let high = inside_high b e in
    let p : (s * chars_wide + (b - char_first)) / chars_wide ≡ s = omega arith in
    let q : char_first + (s * chars_wide + (b - char_first)) % chars_wide ≡ b = omega arith in
    x.here (s * chars_wide + (b - char_first)) k (omega arith) ∙ ap₂ (λ (t c : ℕ). coded (f k (events_of t c ws))) p q

-- and of another
upto_other : (f : Category → List Event → Option ℕ) (j i s b : ℕ) (k : Category) (ws : List Wave) {row after : List ℕ} → Upto f j ws table_wide row after → (i ≡ j → ⊥) → s < signals_most → inside b ≡ true
    → time_at after (slot_of i s b) k ≡ time_at row (slot_of i s b) k
upto_other f j i s b k ws {row} {after} x n h e = by (ltb i j) refl
  where
    by : (y : Bool) → ltb i j ≡ y → time_at after (slot_of i s b) k ≡ time_at row (slot_of i s b) k
    by true q = x.below (slot_of i s b) k (omega (arith, ltb-true i j q, inside_low b e, inside_high b e))
    by false q = x.above (slot_of i s b) k (omega (arith, ltb-false i j q, n, inside_low b e, inside_high b e))

module _ (tabs : Tables) (t : Tok) (n : ℕ) (ws : List Wave) {firsts firsts' lasts lasts' periods : List ℕ} (x : Spans tabs firsts lasts periods) (fit : Fit ws)
    (few : length tabs < tables_most) (room : length tabs < length periods) (a : Upto first_time (length tabs) ws table_wide firsts firsts') (b : Upto last_time (length tabs) ws table_wide lasts lasts') where
  one : Tok × Table
  one = (t, record { period = n; waves = ws })

  pub spans_more : Spans (tabs ++ (t, record { period = n; waves = ws }) ∷ []) firsts' lasts' (set periods (length tabs) n)
  unfolding one
  spans_more =
      record {
        first = λ j s c k h g e. by_first j s c k h g e (eqb j (length tabs)) refl;
        last = λ j s c k h g e. by_last j s c k h g e (eqb j (length tabs)) refl;
        outside = λ j s c e. by_outside j s c e (eqb j (length tabs)) refl;
        period = λ j h. by_period j h (eqb j (length tabs)) refl;
      }
    where
      own : (j : ℕ) → eqb j (length tabs) ≡ true → table_at (tabs ++ one ∷ []) j ≡ ws
      own j q = ap (table_at (tabs ++ one ∷ [])) (eqb-true j (length tabs) q) ∙ own_waves tabs one

      other : (j : ℕ) → eqb j (length tabs) ≡ false → table_at (tabs ++ one ∷ []) j ≡ table_at tabs j
      other j q = other_waves tabs one j (eqb-false j (length tabs) q)

      by_first : (j s c : ℕ) (k : Category) → j < tables_most → s < signals_most → inside c ≡ true → (y : Bool) → eqb j (length tabs) ≡ y
          → time_at firsts' (slot_of j s c) k ≡ coded (first_time k (events_of s c (table_at (tabs ++ one ∷ []) j)))
      by_first j s c k h g e true q =
          ap (λ (i : ℕ). time_at firsts' (slot_of i s c) k) (eqb-true j (length tabs) q) ∙ upto_own first_time (length tabs) s c k ws a g e
          ∙ sym (ap (λ (l : List Wave). coded (first_time k (events_of s c l))) (own j q))
      by_first j s c k h g e false q =
          upto_other first_time (length tabs) j s c k ws a (eqb-false j (length tabs) q) g e ∙ x.first j s c k h g e
          ∙ sym (ap (λ (l : List Wave). coded (first_time k (events_of s c l))) (other j q))

      by_last : (j s c : ℕ) (k : Category) → j < tables_most → s < signals_most → inside c ≡ true → (y : Bool) → eqb j (length tabs) ≡ y
          → time_at lasts' (slot_of j s c) k ≡ coded (last_time k (events_of s c (table_at (tabs ++ one ∷ []) j)))
      by_last j s c k h g e true q =
          ap (λ (i : ℕ). time_at lasts' (slot_of i s c) k) (eqb-true j (length tabs) q) ∙ upto_own last_time (length tabs) s c k ws b g e
          ∙ sym (ap (λ (l : List Wave). coded (last_time k (events_of s c l))) (own j q))
      by_last j s c k h g e false q =
          upto_other last_time (length tabs) j s c k ws b (eqb-false j (length tabs) q) g e ∙ x.last j s c k h g e
          ∙ sym (ap (λ (l : List Wave). coded (last_time k (events_of s c l))) (other j q))

      by_outside : (j s c : ℕ) → inside c ≡ false → (y : Bool) → eqb j (length tabs) ≡ y → wave_of s c (table_at (tabs ++ one ∷ []) j) ≡ none
      by_outside j s c e true q = ap (wave_of s c) (own j q) ∙ outside_none s c ws fit e
      by_outside j s c e false q = ap (wave_of s c) (other j q) ∙ x.outside j s c e

      by_period : (j : ℕ) → j < tables_most → (y : Bool) → eqb j (length tabs) ≡ y → get_or (set periods (length tabs) n) j 0 ≡ period_at (tabs ++ one ∷ []) j
      by_period j h true q =
          rw (eqb-true j (length tabs) q) (get_or-set_same periods (length tabs) n 0 room ∙ sym (own_period tabs one))
      by_period j h false q =
          let m = eqb-false j (length tabs) q in
          get_or-set_other periods (length tabs) j n 0 m ∙ x.period j h ∙ sym (other_period tabs one j m)

-- ---- a table that is read

-- there is room for it
pub table_few : {text : List ℕ} {c : Cursor} (ns : Names) (tabs : Tables) {it : Tables} {us : Toks} → Answers text c (table ns tabs) it us → length tabs < tables_most
unfolding table
table_few {text} {c} ns tabs {it} {us} x =
    let p = bind_ok (due "WaveformTable") _ (stream text c) it us x.gives in
    let q = bind_ok _ _ p.1 it us p.3 in
    leb-false tables_most (length tabs) ((gives_if _ _ _).all _ _ _ q.2)

-- the arrays hold one table more
pub held_more : {tabs it : Tables} {j : ℕ} {firsts firsts' lasts lasts' periods : List ℕ} (t : Tok) (n : ℕ) (ws : List Wave) → Held j tabs firsts lasts periods
    → it ≡ tabs ++ (t, record { period = n; waves = ws }) ∷ [] → Fit ws → length tabs < tables_most → length periods ≡ tables_most
    → Upto first_time j ws table_wide firsts firsts' → Upto last_time j ws table_wide lasts lasts' → Held (j + 1) it firsts' lasts' (set periods j n)
held_more {tabs} {it} {j} {firsts} {firsts'} {lasts} {lasts'} {periods} t n ws h is fit few sized =
    subst (λ (i : ℕ). Upto first_time i ws table_wide firsts firsts' → Upto last_time i ws table_wide lasts lasts' → Held (i + 1) it firsts' lasts' (set periods i n)) h.count
    λ a b. record {
      count = ap length is ∙ length-append tabs _;
      spans = subst (λ (l : Tables). Spans l firsts' lasts' (set periods (length tabs) n)) (sym is) (spans_more tabs t n ws h.spans fit few (omega arith) a b);
    }

pub still_sized : {firsts firsts' lasts lasts' periods periods' : List ℕ} → Sized firsts lasts periods → (length firsts' ≡ length firsts) × (length lasts' ≡ length lasts) × (length periods' ≡ length periods)
    → Sized firsts' lasts' periods'
still_sized x k = record { first = k.0 ∙ x.first; last = k.1 ∙ x.last; each = k.2 ∙ x.each }

-- where a table comes next there are no times yet
pub held_clear : {j : ℕ} {tabs : Tables} {firsts lasts periods : List ℕ} → Held j tabs firsts lasts periods → j < tables_most → Clear j firsts × Clear j lasts
unfolding first_time last_time times_in first_of last_behind
held_clear {j} {tabs} {firsts} {lasts} h few = (λ m k q. by_first m k q, λ m k q. by_last m k q)
  where
    none_there : (s b : ℕ) → events_of s b (table_at tabs j) ≡ []
    none_there s b = ap (events_of s b) (no_table tabs j (omega (arith, h.count))) ∙ no_events s b

    at : (m : ℕ) → m < table_wide → j * table_wide + m ≡ slot_of j (m / chars_wide) (char_first + m % chars_wide)
    at m q = omega arith

    by_first : (m : ℕ) (k : Category) → m < table_wide → time_at firsts (j * table_wide + m) k ≡ 0
    by_first m k q =
        ap (λ (n : ℕ). time_at firsts n k) (at m q) ∙ h.spans.first j (m / chars_wide) (char_first + m % chars_wide) k few (omega arith) (char_inside m)
        ∙ ap (λ (es : List Event). coded (first_time k es)) (none_there (m / chars_wide) (char_first + m % chars_wide))

    by_last : (m : ℕ) (k : Category) → m < table_wide → time_at lasts (j * table_wide + m) k ≡ 0
    by_last m k q =
        ap (λ (n : ℕ). time_at lasts n k) (at m q) ∙ h.spans.last j (m / chars_wide) (char_first + m % chars_wide) k few (omega arith) (char_inside m)
        ∙ ap (λ (es : List Event). coded (last_time k es)) (none_there (m / chars_wide) (char_first + m % chars_wide))

-- Numbers put one by one, slot by slot, table by table.
use Prim.Native.Nat.{ℕ, ◌+◌, ◌*◌, ◌/◌, ◌%◌, ◌<◌}
use native.Mathlib.Omega.{arith}
use mathlib.Core.Path.{◌≡◌, refl, sym, ap, ap₂, ◌∙◌, subst}
use mathlib.Core.Bool.{Bool, true, false}
use mathlib.Core.Option.{Option, none}
use mathlib.Core.List.{List, []}
use lib.Dec.{leb, eqb}
use borrow.Author.Tests.{le-leb, eqb-true, eqb-false}
use lib.ListN.{length, get_or, set, length-set}
use lib.Seq.{get_or-set_same, get_or-set_other}
use Rattle.meaning.specs.Timing.{Event, Wave}
use Rattle.timing.specs.Watch.{Watched}
use Rattle.spots.specs.Spots.{spot_at, watch_of, sight_of, Spots}
use Rattle.meaning.specs.Edges.{Category, drive, compare, times_in, first_of, last_behind, first_time, last_time, events_of}
use Rattle.spans.specs.Spans.{char_first, chars_wide, table_wide, slots_most, times_most, inside, coded, time_at}
use Rattle.spans.specs.Parts.{Spanned, Put, Filled, Clear, Upto}
use Rattle.spans.specs.declared.Both.{Both}
use Rattle.spans.proofs.Fitting.{spot_same, spot_nothing}

-- ---- one slot

even : (n : ℕ) → n * 2 + 0 ≡ n * 2
even n = omega arith

pub drive_at : (row : List ℕ) (n : ℕ) → get_or row (n * 2) 0 ≡ time_at row n drive
drive_at row n = ap (λ (i : ℕ). get_or row i 0) (sym (even n))

pub put_two : (row : List ℕ) (n d c : ℕ) → length row ≡ times_most → n < slots_most → Put row n d c (set (set row (n * 2) d) (n * 2 + 1) c)
put_two row n d c h k =
    record {
      drives = get_or-set_other (set row (n * 2) d) (n * 2 + 1) (n * 2 + 0) c 0 (λ p. omega arith) ∙ ap (λ (i : ℕ). get_or (set row (n * 2) d) i 0) (even n) ∙ get_or-set_same row (n * 2) d 0 (omega arith);
      compares = get_or-set_same (set row (n * 2) d) (n * 2 + 1) c 0 (omega (arith, length-set row (n * 2) d));
      others = other;
    }
  where
    other : (m : ℕ) (k : Category) → (m ≡ n → ⊥) → time_at (set (set row (n * 2) d) (n * 2 + 1) c) m k ≡ time_at row m k
    other m drive q =
        get_or-set_other (set row (n * 2) d) (n * 2 + 1) (m * 2 + 0) c 0 (λ p. omega arith) ∙ get_or-set_other row (n * 2) (m * 2 + 0) d 0 (λ p. q (omega arith))
    other m compare q =
        get_or-set_other (set row (n * 2) d) (n * 2 + 1) (m * 2 + 1) c 0 (λ p. q (omega arith)) ∙ get_or-set_other row (n * 2) (m * 2 + 1) d 0 (λ p. omega arith)

-- ---- slot by slot

pub char_inside : (i : ℕ) → inside (char_first + i % chars_wide) ≡ true
char_inside i =
    let l : leb char_first (char_first + i % chars_wide) ≡ true = le-leb char_first (char_first + i % chars_wide) (omega arith) in
    let r : leb (char_first + i % chars_wide) 122 ≡ true = le-leb (char_first + i % chars_wide) 122 (omega arith) in
    rw (l, r)

module _ (f : Category → List Event → Option ℕ) (j : ℕ) (ws : List Wave) where
  abbrev Here : List ℕ → ℕ → Category → Type 0
  Here row m k = time_at row (j * table_wide + m) k ≡ coded (f k (events_of (m / chars_wide) (char_first + m % chars_wide) ws))

  pub upto_none : (row : List ℕ) → Upto f j ws 0 row row
  upto_none row = record { here = λ m k h. absurd (omega arith); below = λ m k h. refl; above = λ m k h. refl }

  pub upto_more : (i : ℕ) {before mid after : List ℕ} {d c : ℕ} → Upto f j ws i before mid → Put mid (j * table_wide + i) d c after
      → d ≡ coded (f drive (events_of (i / chars_wide) (char_first + i % chars_wide) ws)) → c ≡ coded (f compare (events_of (i / chars_wide) (char_first + i % chars_wide) ws))
      → Upto f j ws (i + 1) before after
  upto_more i {before} {mid} {after} {d} {c} x p e g =
      record {
        here = λ m k h. by m k h (eqb m i) refl;
        below = λ m k h. p.others m k (λ q. omega arith) ∙ x.below m k h;
        above = λ m k h. p.others m k (λ q. omega arith) ∙ x.above m k (omega arith);
      }
    where
      own : (k : Category) → Here after i k
      own drive = p.drives ∙ e
      own compare = p.compares ∙ g

      by : (m : ℕ) (k : Category) → m < i + 1 → (b : Bool) → eqb m i ≡ b → Here after m k
      by m k h true q = subst (λ (n : ℕ). Here after n k) (sym (eqb-true m i q)) (own k)
      by m k h false q = let n = eqb-false m i q in p.others (j * table_wide + m) k (λ z. n (omega arith)) ∙ x.here m k (omega (arith, n))

  -- a slot that stays 0
  pub upto_skip : (i : ℕ) {before row : List ℕ} → Clear j before → Upto f j ws i before row → i < table_wide → ((k : Category) → f k [] ≡ none)
      → events_of (i / chars_wide) (char_first + i % chars_wide) ws ≡ [] → Upto f j ws (i + 1) before row
  upto_skip i {before} {row} z x h n e =
      record {
        here = λ m k g. by m k g (eqb m i) refl;
        below = x.below;
        above = λ m k g. x.above m k (omega arith);
      }
    where
      by : (m : ℕ) (k : Category) → m < i + 1 → (b : Bool) → eqb m i ≡ b → Here row m k
      by m k g true q =
          subst (λ (u : ℕ). Here row u k) (sym (eqb-true m i q))
          (x.above (j * table_wide + i) k (omega arith) ∙ z i k h ∙ sym (ap (λ (es : List Event). coded (f k es)) e ∙ ap coded (n k)))
      by m k g false q = let u = eqb-false m i q in x.here m k (omega (arith, u))

  pub upto_all : {i : ℕ} {before after : List ℕ} → i ≡ table_wide → Upto f j ws i before after → Upto f j ws table_wide before after
  upto_all {before = before} {after = after} e x = subst (λ (n : ℕ). Upto f j ws n before after) e x

-- a slot has the times of an earlier signal's where that has the same spot
pub earlier_slot : {text spots : List ℕ} (ws : List Wave) (j i earlier : ℕ) {f firsts l lasts : List ℕ} {r : Both} → Spots text spots ws → Upto first_time j ws i f firsts → Upto last_time j ws i l lasts
    → earlier < i / chars_wide → spot_at spots earlier (char_first + i % chars_wide) ≡ spot_at spots (i / chars_wide) (char_first + i % chars_wide)
    → Filled firsts lasts (j * table_wide + (earlier * chars_wide + i % chars_wide)) r → Spanned r (events_of (i / chars_wide) (char_first + i % chars_wide) ws)
earlier_slot {text} {spots} ws j i earlier x a b h e g =
    let m : ℕ = earlier * chars_wide + i % chars_wide in
    let c : ℕ = char_first + i % chars_wide in
    let k : m < i = omega arith in
    let p : m / chars_wide ≡ earlier = omega arith in
    let q : char_first + m % chars_wide ≡ c = omega arith in
    let there = subst (λ (v : ℕ). Watched text (watch_of earlier c) (sight_of v) ws) e (x.each earlier c (omega arith)) in
    let same : events_of (m / chars_wide) (char_first + m % chars_wide) ws ≡ events_of (i / chars_wide) c ws =
    ap₂ (λ (s b : ℕ). events_of s b ws) p q ∙ spot_same (i / chars_wide) c (spot_at spots (i / chars_wide) c) ws (x.each (i / chars_wide) c (omega arith)) earlier there in
    record {
      drives = record {
        first = g.first_drive ∙ a.here m drive k ∙ ap (λ (es : List Event). coded (first_time drive es)) same;
        last = g.last_drive ∙ b.here m drive k ∙ ap (λ (es : List Event). coded (last_time drive es)) same;
      };
      compares = record {
        first = g.first_compare ∙ a.here m compare k ∙ ap (λ (es : List Event). coded (first_time compare es)) same;
        last = g.last_compare ∙ b.here m compare k ∙ ap (λ (es : List Event). coded (last_time compare es)) same;
      };
    }

no_first : (k : Category) → first_time k [] ≡ none
unfolding first_time times_in first_of
no_first k = refl

no_last : (k : Category) → last_time k [] ≡ none
unfolding last_time times_in last_behind
no_last k = refl

-- a slot without an entry
pub empty_slot : {text spots : List ℕ} (ws : List Wave) (j i : ℕ) {f firsts l lasts : List ℕ} → Spots text spots ws → Clear j f → Clear j l → Upto first_time j ws i f firsts → Upto last_time j ws i l lasts
    → i < table_wide → spot_at spots (i / chars_wide) (char_first + i % chars_wide) ≡ 0 → Upto first_time j ws (i + 1) f firsts × Upto last_time j ws (i + 1) l lasts
empty_slot ws j i x y z a b h e =
    let n = spot_nothing (i / chars_wide) (char_first + i % chars_wide) _ ws (x.each (i / chars_wide) (char_first + i % chars_wide) (omega arith)) e in
    (upto_skip first_time j ws i y a h no_first n, upto_skip last_time j ws i z b h no_last n)

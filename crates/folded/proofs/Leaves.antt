-- Numbers and times as they are written: words, which read as what they were.
use Prim.Native.Nat.{ℕ, zero, suc, ◌+◌, ◌*◌, ◌-◌, ◌/◌, ◌%◌, ◌^◌, ◌≤◌, ◌<◌}
use native.Mathlib.Nat.{pow-succ'}
use native.Mathlib.Omega.{arith}
use mathlib.Core.Path.{◌≡◌, refl, sym, ap, ◌∙◌}
use mathlib.Core.Bool.{Bool, true, false, ◌||◌}
use mathlib.Core.Option.{some}
use mathlib.Core.List.{List, [], ◌∷◌, ◌++◌}
use lib.Dec.{ltb, eqb}
use lib.ListN.{length}
use borrow.Author.Tests.{ltb-true, le-leb, ne_eqb, eqb-true}
use Rattle.tokens.specs.Written.{bytes, same}
use Rattle.tokens.specs.Bytes.{between, digit, letter, wordy}
use Rattle.meaning.specs.Bounds.{name_most, time_most}
use Rattle.meaning.specs.Lists.{has}
use Rattle.meaning.specs.Reader.{is_word}
use Rattle.meaning.specs.Names.{reserved, among, is_name, value, number}
use Rattle.meaning.specs.Timing.{unit, picoseconds}
use Rattle.pages.specs.Pages.{digits, decimal, digits_most}
use Rattle.pages.proofs.Laws.{decimal_short}
use Rattle.folded.specs.Layout.{timed, pattern_name}
use Rattle.folded.proofs.Words.{AllWordy, Proper}

-- ---- digits

pub digit_is : (d : ℕ) → d < 10 → digit (48 + d) ≡ true
unfolding digit between
digit_is d h = rw (le-leb 48 (48 + d) (omega arith), le-leb (48 + d) 57 (omega arith))

pub digit_wordy : (b : ℕ) → digit b ≡ true → wordy b ≡ true
unfolding wordy
digit_wordy b h = by (letter b) h
  where
    by : (l : Bool) {d : Bool} → d ≡ true → (l || d || eqb b 95 || eqb b 46) ≡ true
    by true e = refl
    by false e = rw e

-- whoever reads digits one by one reads the number
module _ {X : Type 0} (r : ℕ → List ℕ → X) (step : (m d : ℕ) (s : List ℕ) → d < 10 → r m ((48 + d) ∷ s) ≡ r (m * 10 + d) s) where
  read_digits : (f n : ℕ) (acc : List ℕ) → n < 10 ^ f → r 0 (digits f n acc) ≡ r n acc
  unfolding digits
  read_digits zero n acc h = let e : n ≡ 0 = omega arith in rw e
  read_digits (suc f) n acc h = by (ltb n 10) refl (read_digits f (n / 10) ((48 + n % 10) ∷ acc) (omega (arith, pow-succ' 10 f)))
    where
      by : (t : Bool) → ltb n 10 ≡ t → r 0 (digits f (n / 10) ((48 + n % 10) ∷ acc)) ≡ r (n / 10) ((48 + n % 10) ∷ acc)
          → r 0 (elim t [ true ↦ (48 + n) ∷ acc | false ↦ digits f (n / 10) ((48 + n % 10) ∷ acc) ]) ≡ r n acc
      by true e more = step 0 n acc (ltb-true n 10 e) ∙ ap (λ (k : ℕ). r k acc) (omega arith)
      by false e more = more ∙ step (n / 10) (n % 10) acc (omega arith) ∙ ap (λ (k : ℕ). r k acc) (omega arith)

-- what holds of bytes and of one digit more before them
module _ (P : List ℕ → Type 0) (more : (d : ℕ) (s : List ℕ) → d < 10 → P s → P ((48 + d) ∷ s)) where
  digits_all : (f n : ℕ) (acc : List ℕ) → P acc → P (digits f n acc)
  unfolding digits
  digits_all zero n acc h = h
  digits_all (suc f) n acc h = by (ltb n 10) refl (digits_all f (n / 10) ((48 + n % 10) ∷ acc) (more (n % 10) acc (omega arith) h))
    where
      by : (t : Bool) → ltb n 10 ≡ t → P (digits f (n / 10) ((48 + n % 10) ∷ acc)) → P (elim t [ true ↦ (48 + n) ∷ acc | false ↦ digits f (n / 10) ((48 + n % 10) ∷ acc) ])
      by true e m = more n acc (ltb-true n 10 e) h
      by false e m = m

digits-++ : (f n : ℕ) (acc s : List ℕ) → digits f n acc ++ s ≡ digits f n (acc ++ s)
unfolding digits
digits-++ zero n acc s = refl
digits-++ (suc f) n acc s = by (ltb n 10) (digits-++ f (n / 10) ((48 + n % 10) ∷ acc) s)
  where
    by : (t : Bool) → digits f (n / 10) ((48 + n % 10) ∷ acc) ++ s ≡ digits f (n / 10) ((48 + n % 10) ∷ (acc ++ s))
        → ◌≡◌ {A = List ℕ} (elim t as (λ c. List ℕ) [ true ↦ (48 + n) ∷ acc | false ↦ digits f (n / 10) ((48 + n % 10) ∷ acc) ] ++ s)
        (elim t [ true ↦ (48 + n) ∷ (acc ++ s) | false ↦ digits f (n / 10) ((48 + n % 10) ∷ (acc ++ s)) ])
    by true ih = refl
    by false ih = ih

-- a digit stands first
abbrev pub Opens : List ℕ → Type 0
Opens [] = ⊥
Opens (b ∷ s) = digit b ≡ true

digits_open : (f n : ℕ) (acc : List ℕ) → Opens (digits (suc f) n acc)
unfolding digits
digits_open f n acc = by (ltb n 10) refl (digits_all Opens (λ d s h o. digit_is d h) f (n / 10) ((48 + n % 10) ∷ acc) (digit_is (n % 10) (omega arith)))
  where
    by : (t : Bool) → ltb n 10 ≡ t → Opens (digits f (n / 10) ((48 + n % 10) ∷ acc)) → Opens (elim t [ true ↦ (48 + n) ∷ acc | false ↦ digits f (n / 10) ((48 + n % 10) ∷ acc) ])
    by true e o = digit_is n (ltb-true n 10 e)
    by false e o = o

opens_word : (w : List ℕ) → Opens w → is_word w ≡ true
unfolding is_word
opens_word [] o = absurd o
opens_word (b ∷ s) o = digit_wordy b o

wordy_digits : (f n : ℕ) (acc : List ℕ) → AllWordy acc → AllWordy (digits f n acc)
wordy_digits = digits_all AllWordy λ d s h w. (digit_wordy (48 + d) (digit_is d h), w)

proper : (w : List ℕ) → Opens w → AllWordy w → Proper w
proper [] o h = absurd o
proper (b ∷ s) o h = h

-- ---- numbers

value_step : (m d : ℕ) (s : List ℕ) → d < 10 → value m ((48 + d) ∷ s) ≡ value (m * 10 + d) s
unfolding value
value_step m d s h = let k : 48 + d - 48 ≡ d = omega arith in rw (digit_is d h, k, value)

opens_number : (w : List ℕ) → Opens w → number w ≡ value 0 w
unfolding number
opens_number [] o = absurd o
opens_number (b ∷ s) o = refl

pub decimal_opens : (n : ℕ) → Opens (decimal n)
unfolding decimal
decimal_opens n = digits_open 19 n []

pub decimal_wordy : (n : ℕ) → AllWordy (decimal n)
unfolding decimal
decimal_wordy n = wordy_digits digits_most n [] tt

pub decimal_proper : (n : ℕ) → Proper (decimal n)
decimal_proper n = proper (decimal n) (decimal_opens n) (decimal_wordy n)

pub decimal_word : (n : ℕ) → is_word (decimal n) ≡ true
decimal_word n = opens_word _ (decimal_opens n)

pub decimal_number : (n : ℕ) → n < 2 ^ 64 → number (decimal n) ≡ some n
unfolding decimal value
decimal_number n h = opens_number _ (decimal_opens n) ∙ read_digits value value_step digits_most n [] (omega arith)

-- ---- times

unit_step : (m d : ℕ) (s : List ℕ) → d < 10 → unit m ((48 + d) ∷ s) ≡ unit (m * 10 + d) s
unfolding unit
unit_step m d s h = let k : 48 + d - 48 ≡ d = omega arith in rw (digit_is d h, k, unit)

opens_time : (w : List ℕ) → Opens w → picoseconds w ≡ unit 0 w
unfolding picoseconds
opens_time [] o = absurd o
opens_time (b ∷ s) o = rw (o, picoseconds)

-- digits and a unit
module _ (n : ℕ) (u : List ℕ) (h : AllWordy u) where
  unit_is : decimal n ++ u ≡ digits digits_most n u
  unfolding decimal
  unit_is = digits-++ digits_most n [] u

  unit_opens : Opens (decimal n ++ u)
  unit_opens = rw unit_is (digits_open 19 n u)

  unit_proper : Proper (decimal n ++ u)
  unit_proper = proper (decimal n ++ u) unit_opens (rw unit_is (wordy_digits digits_most n u h))

  unit_read : n < 2 ^ 64 → picoseconds (decimal n ++ u) ≡ unit n u
  unit_read k = opens_time _ unit_opens ∙ ap (unit 0) unit_is ∙ read_digits unit unit_step digits_most n u (omega arith)

ns_wordy : AllWordy (bytes "ns") × AllWordy (bytes "ps")
unfolding bytes wordy letter digit between
ns_wordy = ((refl, (refl, tt)), (refl, (refl, tt)))

unit_ns : (n : ℕ) → unit n (bytes "ns") ≡ some (n * 1000)
unfolding unit bytes same digit between
unit_ns n = refl

unit_ps : (n : ℕ) → unit n (bytes "ps") ≡ some n
unfolding unit bytes same digit between
unit_ps n = refl

pub record Time (n : ℕ) (w : List ℕ) : Type 0 where
  pub opens : Opens w
  pub proper : Proper w
  pub read : picoseconds w ≡ some n

pub time_read : (n : ℕ) → n ≤ time_most → Time n (timed n)
unfolding timed
time_read n h = by (eqb (n % 1000) 0) refl
  where
    by : (t : Bool) → eqb (n % 1000) 0 ≡ t → Time n (elim t [ true ↦ decimal (n / 1000) ++ bytes "ns" | false ↦ decimal n ++ bytes "ps" ])
    by true e =
        let z : n % 1000 ≡ 0 = eqb-true (n % 1000) 0 e in
        let k : n / 1000 * 1000 ≡ n = omega arith in
        record {
          opens = unit_opens (n / 1000) (bytes "ns") ns_wordy.0;
          proper = unit_proper (n / 1000) (bytes "ns") ns_wordy.0;
          read = unit_read (n / 1000) (bytes "ns") ns_wordy.0 (omega arith) ∙ unit_ns (n / 1000) ∙ ap some k;
        }
    by false e = record {
      opens = unit_opens n (bytes "ps") ns_wordy.1;
      proper = unit_proper n (bytes "ps") ns_wordy.1;
      read = unit_read n (bytes "ps") ns_wordy.1 (omega arith) ∙ unit_ps n;
    }

pub time_word : {n : ℕ} {w : List ℕ} → Time n w → is_word w ≡ true
time_word {n} {w} t = opens_word w t.opens

-- ---- the names of Patterns

no_dot : (n : ℕ) → has 46 (decimal n) ≡ false
unfolding decimal has
no_dot n = digits_all (λ s. has 46 s ≡ false) (λ d s h k. rw (ne_eqb (48 + d) 46 (λ e. omega arith), k)) digits_most n [] refl

unreserved : (s : List ℕ) → among reserved (112 ∷ s) ≡ false
unfolding among reserved bytes same
unreserved s = refl

pub pattern_name_lem : (i : ℕ) → is_name (pattern_name i) ≡ true
unfolding pattern_name is_name has digit between
pattern_name_lem i = rw (le-leb (suc (length (decimal i))) name_most (omega (arith, decimal_short i)), no_dot i, unreserved (decimal i))

pub pattern_proper : (i : ℕ) → Proper (pattern_name i)
unfolding pattern_name wordy letter digit between
pattern_proper i = (refl, decimal_wordy i)

pub pattern_apart : (i j : ℕ) → i < 2 ^ 64 → j < 2 ^ 64 → pattern_name i ≡ pattern_name j → i ≡ j
unfolding pattern_name
pattern_apart i j h k e =
    let d : decimal i ≡ decimal j = cc in
    let n : some i ≡ some j = sym (decimal_number i h) ∙ ap number d ∙ decimal_number j k in
    cc

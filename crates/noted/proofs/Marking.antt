-- Marks that are stored one by one: none is lost, and all that is given has one.
use Prim.Native.Nat.{ℕ, ◌+◌, ◌*◌, ◌≤◌, ◌<◌}
use native.Mathlib.Omega.{arith}
use mathlib.Core.Path.{◌≡◌, refl, sym, ap, ◌∙◌, subst}
use mathlib.Core.Bool.{Bool, true, false, ◌||◌, true≢false}
use mathlib.Core.List.{List, [], ◌∷◌}
use lib.Dec.{ltb, leb, eqb}
use lib.ListN.{length, get_or, take, set, length-set}
use lib.Seq.{get_or-set_same, get_or-set_other}
use borrow.Author.Count.{below_more}
use borrow.Author.Tests.{lt-ltb, ltb-true, ltb-false, leb-true, eqb-true, eqb-false, eq-eqb}
use Rattle.tokens.specs.Bytes.{between, digit, letter}
use Rattle.tokens.proofs.Bools.{both, neither, either}
use Rattle.meaning.specs.Bounds.{signals_most}
use Rattle.meaning.specs.Lists.{has, repeats}
use Rattle.meaning.specs.Timing.{wave_char}
use Rattle.meaning.specs.Body as body
use Rattle.meaning.specs.Body.{Assigns, Args, arg_of, supplied}
use Rattle.meaning.specs.Data.{assigned}
use Rattle.words.specs.Cursor.{span}
use Rattle.data.proofs.Characters.{no_other}
use Rattle.feeds.specs.declared.Feed.{Feed}
use Rattle.feeds.specs.Feeds.{NextWord}
use Rattle.timing.specs.Marks.{chars_most, mark}
use Rattle.assigns.specs.Given.{char_of, chars}
use Rattle.measures.specs.Uses.{Given}
use Rattle.arguments.specs.Supplied.{DataAt, Supplied}
use Rattle.arguments.proofs.Lists.{has_behind}
use Rattle.arguments.proofs.Fits.{arg_first, arg_later}
use Rattle.arguments.proofs.Counted.{argument_none}
use Rattle.noted.specs.Noted.{Grows, CharNoted, CharsNoted, Gives, Supplies}
use Rattle.noted.proofs.Reading.{has_more, Unread, unread_all, unread_word, unread_none}

-- ---- no mark is lost

pub grows_none : {used : List ℕ} → Grows used used
grows_none = record { long = refl; more = λ s c h. h }

pub grows_then : {a b c : List ℕ} → Grows a b → Grows b c → Grows a c
grows_then x y = record { long = y.long ∙ x.long; more = λ s c h. y.more s c (x.more s c h) }

pub grows_char : {a b : List ℕ} {s c : ℕ} → Grows a b → CharNoted a s c → CharNoted b s c
grows_char {s = s} {c = c} x m = record { is = λ h. x.more s c (m.is h) }

grows_chars : {a b : List ℕ} {s : ℕ} {cs : List ℕ} → Grows a b → CharsNoted a s cs → CharsNoted b s cs
grows_chars x m = record { each = λ c h. grows_char x (m.each c h) }

-- ---- one mark is stored, at the place of any number with the character's remainder

module _ (used : List ℕ) (i : ℕ) (h : i < length used) where
  grows_set : Grows used (set used i 1)
  grows_set = record { long = length-set used i 1; more = λ s c m. by s c (both (ltb c chars_most) _ m) (eqb (s * chars_most + c) i) refl }
    where
      by : (s c : ℕ) → (ltb c chars_most ≡ true) × (eqb (get_or used (s * chars_most + c) 0) 1 ≡ true) → (z : Bool) → eqb (s * chars_most + c) i ≡ z
          → mark (set used i 1) s c ≡ true
      by s c m true e = rw (m.0, eqb-true (s * chars_most + c) i e) (eq-eqb _ _ (get_or-set_same used i 1 0 h))
      by s c m false e = rw m.0 (ap (λ (x : ℕ). eqb x 1) (get_or-set_other used i (s * chars_most + c) 1 0 (eqb-false _ _ e)) ∙ m.1)

  set_noted : (s c : ℕ) → (c < chars_most → i ≡ s * chars_most + c) → CharNoted (set used i 1) s c
  set_noted s c e = record { is = λ l. rw (lt-ltb c chars_most l) (eq-eqb _ _ (ap (λ (j : ℕ). get_or (set used i 1) j 0) (sym (e l)) ∙ get_or-set_same used i 1 0 h)) }

pub char_noted : (used : List ℕ) (i s c : ℕ) → i < length used → (c < chars_most → i ≡ s * chars_most + c)
    → Grows used (set used i 1) × CharNoted (set used i 1) s c
char_noted used i s c h e = (grows_set used i h, set_noted used i h s c e)

-- ---- the bytes of a word, one after the other: the first i of them

pub word_none : {used : List ℕ} {s : ℕ} → CharsNoted used s []
unfolding has
word_none = record { each = λ c h. absurd (true≢false (sym h)) }

module _ (w : List ℕ) (i : ℕ) {s : ℕ} {used : List ℕ} (x : CharsNoted used s (take i w)) where
  pub word_more : {used' : List ℕ} → i < length w → Grows used used' → CharNoted used' s (get_or w i 0) → CharsNoted used' s (take (i + 1) w)
  word_more {used'} h g m = record { each = λ c. has_more w i h c (λ e. grows_char g (x.each c e)) (λ e. subst (CharNoted used' s) e m) }

-- ---- letters, digits and `#` are below the bound

between_most : (a b c : ℕ) → between a b c ≡ true → c ≤ b
unfolding between
between_most a b c h = leb-true c b (both (leb a c) (leb c b) h).1

pub written_low : (c : ℕ) → (wave_char c || eqb body.mark c) ≡ true → c < chars_most
unfolding wave_char letter digit
written_low c =
    either (wave_char c) (eqb body.mark c)
    (either (letter c) (digit c)
    (either (between 65 90 c) (between 97 122 c) (λ h. omega (arith, between_most 65 90 c h)) (λ h. omega (arith, between_most 97 122 c h)))
    (λ h. omega (arith, between_most 48 57 c h)))
    (λ h. omega (arith, eqb-true body.mark c h))

-- ---- assignments, signal by signal

-- it has one of what `given` gives it, which is no `#`
abbrev Told : List ℕ → List ℕ → ℕ → Type 0
Told given used s = (get_or given s 0 ≡ 0 → ⊥) → (get_or given s 0 ≡ body.mark → ⊥) → CharNoted used s (get_or given s 0)

-- so have the first s
pub record Noting (given : List ℕ) (s : ℕ) (before used : List ℕ) : Type 0 where
  pub grows : Grows before used
  pub each : (i : ℕ) → i < s → Told given used i

-- from s on none is given anything
pub noting_rest : {given before used : List ℕ} {s : ℕ} → Noting given s before used → ((i : ℕ) → s ≤ i → get_or given i 0 ≡ 0) → (e : ℕ) → Noting given e before used
noting_rest {given} {before} {used} {s} x none e = record { grows = x.grows; each = λ i h. by i (ltb i s) refl }
  where
    by : (i : ℕ) (z : Bool) → ltb i s ≡ z → Told given used i
    by i true z = x.each i (ltb-true i s z)
    by i false z = λ n m. absurd (n (none i (ltb-false i s z)))

-- ---- each signal of a list without repeats by itself

other_signal : (s t : ℕ) (l : List ℕ) → has t l ≡ false → has s l ≡ true → eqb t s ≡ false
other_signal s t l o h = by (eqb t s) refl
  where
    by : (z : Bool) → eqb t s ≡ z → z ≡ false
    by true e = sym h ∙ ap (λ (n : ℕ). has n l) (sym (eqb-true t s e)) ∙ o
    by false e = refl

has_first : (s : ℕ) (l : List ℕ) → has s (s ∷ l) ≡ true
unfolding has
has_first s l = rw (eq-eqb s s refl)

char_first_lem : (x : ℕ × ℕ) (a : Assigns) → char_of x.0 (x ∷ a) ≡ x.1
unfolding char_of
char_first_lem x a = rw (eq-eqb x.0 x.0 refl, char_of)

char_later : (x : ℕ × ℕ) (a : Assigns) (s : ℕ) → eqb x.0 s ≡ false → char_of s (x ∷ a) ≡ char_of s a
unfolding char_of
char_later x a s e = rw (e, char_of)

-- what is assigned to a signal is among the characters
chars_has : (s : ℕ) (a : Assigns) → has s (assigned a) ≡ true → has (char_of s a) (chars a) ≡ true
unfolding assigned chars has
chars_has s [] h = absurd (true≢false (sym h))
chars_has s (x ∷ a) h = by (eqb x.0 s) refl h (chars_has s a)
  where
    by : (z : Bool) → eqb x.0 s ≡ z → (z || has s (assigned a)) ≡ true → (has s (assigned a) ≡ true → has (char_of s a) (chars a) ≡ true)
        → has (char_of s (x ∷ a)) (x.1 ∷ chars a) ≡ true
    by true e h ih =
        subst (λ (k : ℕ). has (char_of k (x ∷ a)) (x.1 ∷ chars a) ≡ true) (eqb-true x.0 s e)
        (subst (λ (c : ℕ). has c (x.1 ∷ chars a) ≡ true) (sym (char_first_lem x a)) (has_first x.1 (chars a)))
    by false e h ih = subst (λ (c : ℕ). has c (x.1 ∷ chars a) ≡ true) (sym (char_later x a s e)) (has_behind (char_of s a) (x.1 ∷ []) (chars a) (ih h))

module _ (used : List ℕ) where
  gives_each : (a : Assigns) → repeats (assigned a) ≡ false
      → ((s : ℕ) → has s (assigned a) ≡ true → eqb (char_of s a) body.mark ≡ false → mark used s (char_of s a) ≡ true) → Gives used a
  unfolding Gives assigned repeats
  gives_each [] o f = tt
  gives_each (x ∷ a) o f =
      let once = neither (has x.0 (assigned a)) (repeats (assigned a)) o in (
        λ e. rw (char_first_lem x a) at (f x.0 (has_first x.0 (assigned a)) (rw (char_first_lem x a) e)),
        gives_each a once.1 λ s h e.
            let same = char_later x a s (other_signal s x.0 (assigned a) once.0 h) in
            rw same at (f s (has_behind s (x.0 ∷ []) (assigned a) h) (rw same e)),
      )

  supplies_each : (xs : Args) → repeats (supplied xs) ≡ false
      → ((s : ℕ) → has s (supplied xs) ≡ true → (c : ℕ) → has c (arg_of s xs) ≡ true → mark used s c ≡ true) → Supplies used xs
  unfolding Supplies supplied repeats
  supplies_each [] o f = tt
  supplies_each (x ∷ xs) o f =
      let once = neither (has x.0 (supplied xs)) (repeats (supplied xs)) o in (
        λ c h. f x.0 (has_first x.0 (supplied xs)) c (rw (arg_first x xs) h),
        supplies_each xs once.1 λ s h c k.
            f s (has_behind s (x.0 ∷ []) (supplied xs) h) c (rw (arg_later x xs s (other_signal s x.0 (supplied xs) once.0 h)) k),
      )

-- ---- all signals

pub noting_all : {given before used : List ℕ} {s : ℕ} → Noting given s before used → signals_most ≤ s → (a : Assigns) → Given a given → Gives used a
noting_all {given} {before} {used} {s} x l a g = gives_each used a g.once each
  where
    each : (i : ℕ) → has i (assigned a) ≡ true → eqb (char_of i a) body.mark ≡ false → mark used i (char_of i a) ≡ true
    each i h e =
        let below = g.below i h in
        let is : get_or given i 0 ≡ char_of i a = g.gave.each i below in
        let among = chars_has i a h in
        let real : get_or given i 0 ≡ 0 → ⊥ = λ z. true≢false (sym among ∙ ap (λ (c : ℕ). has c (chars a)) (sym is ∙ z) ∙ g.gave.real) in
        subst (λ (c : ℕ). mark used i c ≡ true) is
        ((x.each i (omega arith) real (λ q. eqb-false _ _ e (sym is ∙ q))).is (subst (λ (c : ℕ). c < chars_most) (sym is) (written_low (char_of i a) (g.written (char_of i a) among))))

-- ---- the words of an argument, up to a place

pub record Feeding (text : List ℕ) (place at s : ℕ) (before used : List ℕ) : Type 0 where
  pub grows : Grows before used
  pub left : (cs : List ℕ) → DataAt text place cs → Unread text cs at (CharNoted used s) (λ rest. Unit {0})

module _ {text : List ℕ} {place s : ℕ} {before : List ℕ} where
  pub feeding_none : Feeding text place place s before before
  feeding_none = record { grows = grows_none; left = λ cs d. unread_all d tt }

  module _ {at : ℕ} {f : Feed} {used : List ℕ} (x : Feeding text place at s before used) (n : NextWord text at f) where
    pub feeding_word : {w used' : List ℕ} → w ≡ span text f.at f.end → Grows used used' → CharsNoted used' s w → Feeding text place f.end s before used'
    feeding_word e g m =
        record {
          grows = grows_then x.grows g;
          left = λ cs d. unread_word (x.left cs d) n e (λ c. grows_char g) m.each (λ front rest a k. tt);
        }

    pub feeding_all : f.end ≤ f.at → (cs : List ℕ) → DataAt text place cs → CharsNoted used s cs
    feeding_all h cs d = record { each = (unread_none (x.left cs d) n h).1 }

-- ---- arguments, signal by signal

-- the characters of an argument, wherever it stands in the text, are marked
abbrev Fed : List ℕ → List ℕ → List ℕ → ℕ → Type 0
Fed text args used s = (cs : List ℕ) → DataAt text (get_or args (signals_most + s) 0) cs → CharsNoted used s cs

-- of the first s that have one
pub record NotingArgs (text given args : List ℕ) (s : ℕ) (before used : List ℕ) : Type 0 where
  pub grows : Grows before used
  pub each : (i : ℕ) → i < s → (get_or given i 0 ≡ 0 → ⊥) → Fed text args used i

module _ {text given args before : List ℕ} where
  module _ {s : ℕ} {used : List ℕ} (x : NotingArgs text given args s before used) where
    pub args_kept : get_or given s 0 ≡ 0 → NotingArgs text given args (s + 1) before used
    args_kept e = record { grows = x.grows; each = below_more (λ i. (get_or given i 0 ≡ 0 → ⊥) → Fed text args used i) s x.each (λ n. absurd (n e)) }

    pub args_next : {used' : List ℕ} → Grows used used' → Fed text args used' s → NotingArgs text given args (s + 1) before used'
    args_next {used'} g f =
        record {
          grows = grows_then x.grows g;
          each = below_more (λ i. (get_or given i 0 ≡ 0 → ⊥) → Fed text args used' i) s (λ i h n cs d. grows_chars g (x.each i h n cs d)) (λ n. f);
        }

    pub args_rest : ((i : ℕ) → s ≤ i → get_or given i 0 ≡ 0) → (e : ℕ) → NotingArgs text given args e before used
    args_rest none e = record { grows = x.grows; each = λ i h. by i (ltb i s) refl }
      where
        by : (i : ℕ) (z : Bool) → ltb i s ≡ z → (get_or given i 0 ≡ 0 → ⊥) → Fed text args used i
        by i true z = x.each i (ltb-true i s z)
        by i false z = λ n. absurd (n (none i (ltb-false i s z)))

    pub args_all : signals_most ≤ s → (xs : Args) → Supplied text xs given args → Supplies used xs
    args_all l xs u = supplies_each used xs u.once each
      where
        each : (i : ℕ) → has i (supplied xs) ≡ true → (c : ℕ) → has c (arg_of i xs) ≡ true → mark used i c ≡ true
        each i h c k =
            let below = u.below i h in
            let read = (u.each i h).at in
            ((x.each i (omega arith) (λ z. true≢false (sym h ∙ argument_none u i below z)) (arg_of i xs) read).each c k).is (low read)
          where
            low : DataAt text (get_or args (signals_most + i) 0) (arg_of i xs) → c < chars_most
            low d = written_low c (by (wave_char c || eqb body.mark c) refl)
              where
                by : (z : Bool) → (wave_char c || eqb body.mark c) ≡ z → z ≡ true
                by true e = refl
                by false e = absurd (true≢false (sym k ∙ (no_other c false e).all _ _ _ d.2))

-- A signal's argument, one word after the other: each character that was read has a property, and one that has it already needs no second look.
use Prim.Native.Nat.{ℕ, ◌+◌, ◌≤◌, ◌<◌}
use native.Mathlib.Omega.{arith}
use mathlib.Core.Path.{◌≡◌, refl, sym, ap, ◌∙◌, subst}
use mathlib.Core.Bool.{Bool, true, false, true≢false}
use mathlib.Core.List.{List, [], ◌∷◌, ◌++◌}
use lib.Dec.{ltb, eqb}
use lib.ListN.{length, get_or, take, set, replicate, length-set, length-replicate, get_or-replicate, get_or-eq_default}
use lib.Seq.{get_or-set_same, get_or-set_other}
use borrow.Author.Tests.{ltb-true, ltb-false, eqb-true, eqb-false, eq-eqb}
use Rattle.meaning.specs.Bounds.{signals_most}
use Rattle.meaning.specs.Lists.{has}
use Rattle.meaning.specs.Body.{Args, arg_of}
use Rattle.words.specs.Cursor.{span}
use Rattle.feeds.specs.declared.Feed.{Feed}
use Rattle.feeds.specs.Feeds.{NextWord}
use Rattle.arguments.specs.Supplied.{DataAt, Supplied}
use Rattle.arguments.proofs.Fits.{arg_none}
use Rattle.arguments.proofs.Counted.{argument_none}
use Rattle.noted.proofs.Reading.{take_more, has_more, Unread, unread_all, unread_word, unread_none}
use Rattle.sums.specs.Parts.{last_of}
use Rattle.tallies.specs.Rows.{bytes, SeenWord}

-- ---- lists

last_append : (xs ys : List ℕ) (d : ℕ) → last_of (xs ++ ys) d ≡ last_of ys (last_of xs d)
unfolding last_of
last_append [] ys d = refl
last_append (x ∷ xs) ys d = last_append xs ys x

-- where all in front of a word are its own
last_word : (front w : List ℕ) (d : ℕ) → ((c : ℕ) → has c front ≡ true → has c w ≡ true) → last_of w (last_of front d) ≡ last_of w d
unfolding last_of has
last_word [] [] d a = refl
last_word (x ∷ front) [] d a = absurd (true≢false (sym (a x (rw (eq-eqb x x refl)))))
last_word front (x ∷ w) d a = refl

-- one more of a list
pub last_more : (w : List ℕ) (i : ℕ) → i < length w → (d : ℕ) → get_or w i 0 ≡ last_of (take (i + 1) w) d
unfolding last_of
last_more w i h d = sym (ap (λ (l : List ℕ). last_of l d) (take_more w i h) ∙ last_append (take i w) (get_or w i 0 ∷ []) d)

-- ---- the words up to a place: each of their characters has the property P

pub record Reading (text : List ℕ) (place at last : ℕ) (P : ℕ → Type 0) : Type 0 where
  pub left : (cs : List ℕ) → DataAt text place cs → Unread text cs at P (λ rest. last_of cs 0 ≡ last_of rest last)

module _ {text : List ℕ} {place : ℕ} where
  pub reading_none : {P : ℕ → Type 0} → Reading text place place 0 P
  reading_none = record { left = λ cs d. unread_all d refl }

  module _ {at last : ℕ} {f : Feed} {P : ℕ → Type 0} (y : Reading text place at last P) (n : NextWord text at f) where
    -- one more, behind which the property may be another
    pub reading_word : {w : List ℕ} {last' : ℕ} {Q : ℕ → Type 0} → w ≡ span text f.at f.end → last' ≡ last_of w last → ((c : ℕ) → P c → Q c) → ((c : ℕ) → has c w ≡ true → Q c)
        → Reading text place f.end last' Q
    reading_word {w} {last'} e l k q = record { left = λ cs d. unread_word (y.left cs d) n e k q λ front rest a h. h ∙ behind front rest a }
      where
        behind : (front rest : List ℕ) → ((c : ℕ) → has c front ≡ true → has c w ≡ true) → last_of (front ++ (w ++ rest)) last ≡ last_of rest last'
        behind front rest a =
            last_append front (w ++ rest) last ∙ last_append w rest (last_of front last) ∙ ap (last_of rest) (last_word front w last a ∙ sym l)

    -- there are no more
    pub reading_all : f.end ≤ f.at → (cs : List ℕ) → DataAt text place cs → (last ≡ last_of cs 0) × ((c : ℕ) → has c cs ≡ true → P c)
    unfolding last_of
    reading_all h cs d = let u = unread_none (y.left cs d) n h in (sym u.0, u.1)

-- a signal that has no argument
pub reading_unsupplied : {text : List ℕ} {xs : Args} {given args : List ℕ} → Supplied text xs given args → (i : ℕ) → i < signals_most → get_or given i 0 ≡ 0
    → (0 ≡ last_of (arg_of i xs) 0) × ((c : ℕ) → has c (arg_of i xs) ≡ true → ⊥)
unfolding last_of has
reading_unsupplied {text} {xs} u i h z = let e = arg_none i xs (argument_none u i h z) in (rw e, λ c k. true≢false (sym (rw e at k)))

-- ---- the bytes of a word, one after the other: the first i of them

pub word_none : {seen : List ℕ} {P : ℕ → Type 0} → SeenWord [] seen seen P
unfolding has
word_none = record { long = refl; word = λ c h. absurd (true≢false (sym h)); new = λ c e n. absurd (n e) }

module _ (w : List ℕ) (i : ℕ) {seen seen' : List ℕ} {P : ℕ → Type 0} (y : SeenWord (take i w) seen seen' P) (h : i < length w) where
  -- one that was seen
  pub word_again : (get_or seen' (get_or w i 0) 0 ≡ 0 → ⊥) → SeenWord (take (i + 1) w) seen seen' P
  word_again s =
      record {
        long = y.long;
        word = λ c. has_more w i h c (y.word c) (λ e. subst (λ (b : ℕ). get_or seen' b 0 ≡ 0 → ⊥) e s);
        new = y.new;
      }

  -- one that is now, behind which the property may be another
  pub word_more : {Q : ℕ → Type 0} → ((c : ℕ) → P c → Q c) → Q (get_or w i 0) → get_or w i 0 < length seen'
      → SeenWord (take (i + 1) w) seen (set seen' (get_or w i 0) 1) Q
  word_more {Q} k q l =
      record {
        long = length-set seen' (get_or w i 0) 1 ∙ y.long;
        word = λ c. has_more w i h c (λ e z. y.word c e (unset c z)) (λ e. subst (λ (b : ℕ). get_or (set seen' (get_or w i 0) 1) b 0 ≡ 0 → ⊥) e here);
        new = λ c e n. by c (eqb c (get_or w i 0)) refl e n;
      }
    where
      here : get_or (set seen' (get_or w i 0) 1) (get_or w i 0) 0 ≡ 0 → ⊥
      here z = omega (arith, get_or-set_same seen' (get_or w i 0) 1 0 l, z)

      unset : (c : ℕ) → get_or (set seen' (get_or w i 0) 1) c 0 ≡ 0 → get_or seen' c 0 ≡ 0
      unset c z = by (eqb c (get_or w i 0)) refl
        where
          by : (b : Bool) → eqb c (get_or w i 0) ≡ b → get_or seen' c 0 ≡ 0
          by true e = absurd (here (subst (λ (b : ℕ). get_or (set seen' (get_or w i 0) 1) b 0 ≡ 0) (eqb-true c (get_or w i 0) e) z))
          by false e = sym (get_or-set_other seen' (get_or w i 0) c 1 0 (eqb-false c (get_or w i 0) e)) ∙ z

      by : (c : ℕ) (b : Bool) → eqb c (get_or w i 0) ≡ b → get_or seen c 0 ≡ 0 → (get_or (set seen' (get_or w i 0) 1) c 0 ≡ 0 → ⊥) → Q c
      by c true e z n = subst Q (sym (eqb-true c (get_or w i 0) e)) q
      by c false e z n = k c (y.new c z (λ o. n (get_or-set_other seen' (get_or w i 0) c 1 0 (eqb-false c (get_or w i 0) e) ∙ o)))

-- ---- characters that were seen: each has the property P

pub record Seen (seen : List ℕ) (P : ℕ → Type 0) : Type 0 where
  pub long : length seen ≡ bytes
  pub each : (c : ℕ) → (get_or seen c 0 ≡ 0 → ⊥) → P c

pub seen_none : {P : ℕ → Type 0} → Seen (replicate bytes 0) P
seen_none = record { long = length-replicate {A = ℕ} bytes 0; each = λ c n. absurd (n (by c (ltb c bytes) refl)) }
  where
    by : (c : ℕ) (b : Bool) → ltb c bytes ≡ b → ◌≡◌ {A = ℕ} (get_or (replicate bytes 0) c 0) 0
    by c true e = get_or-replicate {A = ℕ} bytes c 0 0 (ltb-true c bytes e)
    by c false e = get_or-eq_default (replicate bytes 0) 0 {n = c} (omega (arith, length-replicate {A = ℕ} bytes 0, ltb-false c bytes e))

-- those of a word too
pub seen_word : {w seen seen' : List ℕ} {P N Q : ℕ → Type 0} → Seen seen P → SeenWord w seen seen' N → ((c : ℕ) → P c → Q c) → ((c : ℕ) → N c → Q c) → Seen seen' Q
seen_word {w} {seen} {seen'} {P} {N} {Q} y x k m = record { long = x.long ∙ y.long; each = λ c n. by c (eqb (get_or seen c 0) 0) refl n }
  where
    by : (c : ℕ) (b : Bool) → eqb (get_or seen c 0) 0 ≡ b → (get_or seen' c 0 ≡ 0 → ⊥) → Q c
    by c true e n = m c (x.new c (eqb-true (get_or seen c 0) 0 e) n)
    by c false e n = k c (y.each c (eqb-false (get_or seen c 0) 0 e))

-- a word more, of which the property is the same
pub reading_seen : {text w seen seen' : List ℕ} {place at last last' : ℕ} {f : Feed} {P : ℕ → Type 0} → Reading text place at last P → Seen seen P → NextWord text at f
    → w ≡ span text f.at f.end → last' ≡ last_of w last → SeenWord w seen seen' P → Reading text place f.end last' P × Seen seen' P
reading_seen y z n e l x =
    let known = seen_word z x (λ b h. h) (λ b h. h) in (reading_word y n e l (λ b h. h) (λ b h. known.each b (x.word b h)), known)

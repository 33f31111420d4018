-- An argument, one word after the other: each character that was read has a property.
use Prim.Native.Nat.{ℕ, ◌+◌, ◌≤◌, ◌<◌}
use native.Mathlib.Numerals.{add-one}
use mathlib.Core.Path.{◌≡◌, refl, sym, ap, ◌∙◌}
use mathlib.Core.Bool.{Bool, true, false, ◌||◌, true≢false}
use mathlib.Core.List.{List, [], ◌∷◌, ◌++◌}
use lib.Dec.{eqb}
use lib.ListN.{length, get_or, take}
use lib.Seq.{take-suc}
use borrow.Author.Tests.{eqb-true}
use Rattle.meaning.specs.Lists.{has}
use Rattle.meaning.proofs.Lists.{has_append}
use Rattle.words.specs.Cursor.{span}
use Rattle.feeds.specs.declared.Feed.{Feed}
use Rattle.feeds.specs.Feeds.{NextWord}
use Rattle.feeds.proofs.Worded.{Worded, worded}
use Rattle.arguments.specs.Supplied.{DataAt}

or_left : (a b : Bool) → b ≡ false → (a || b) ≡ true → a ≡ true
or_left true b h e = refl
or_left false b h e = absurd (true≢false (sym e ∙ h))

or_word : (a b z : Bool) → (a ≡ true → b ≡ true) → z ≡ false → (a || (b || z)) ≡ true → b ≡ true
or_word true b z f n h = f refl
or_word false b z f n h = or_left b z n h

-- ---- the bytes of a word: one more of them

module _ (w : List ℕ) (i : ℕ) (h : i < length w) where
  pub take_more : take (i + 1) w ≡ take i w ++ (get_or w i 0 ∷ [])
  take_more = rw (add-one, take-suc w i 0 h)

  pub has_more : {G : Type 0} (c : ℕ) → (has c (take i w) ≡ true → G) → (get_or w i 0 ≡ c → G) → has c (take (i + 1) w) ≡ true → G
  unfolding has
  has_more {G} c f g e = by (eqb (get_or w i 0) c) refl (sym (ap (has c) take_more ∙ has_append c (take i w) (get_or w i 0 ∷ [])) ∙ e)
    where
      by : (z : Bool) → eqb (get_or w i 0) c ≡ z → (has c (take i w) || has c (get_or w i 0 ∷ [])) ≡ true → G
      by true q k = g (eqb-true (get_or w i 0) c q)
      by false q k = f (or_left (has c (take i w)) _ (rw q) k)

-- ---- words

-- of the characters cs, those from the place on are unread: the others have the property P, and K holds of the unread ones
pub record Unread (text cs : List ℕ) (at : ℕ) (P : ℕ → Type 0) (K : List ℕ → Type 0) : Type 0 where
  pub rest : List ℕ
  pub read : DataAt text at rest
  pub known : K rest
  pub each : (c : ℕ) → has c cs ≡ true → has c rest ≡ false → P c

pub unread_all : {text cs : List ℕ} {place : ℕ} {P : ℕ → Type 0} {K : List ℕ → Type 0} → DataAt text place cs → K cs → Unread text cs place P K
unread_all {cs = cs} d k = record { rest = cs; read = d; known = k; each = λ c h n. absurd (true≢false (sym h ∙ n)) }

module _ {text cs : List ℕ} {at : ℕ} {f : Feed} {P : ℕ → Type 0} {K : List ℕ → Type 0} (u : Unread text cs at P K) (n : NextWord text at f) where
  -- one word more, behind which the properties may be others; a repeat says characters of it in front of it
  pub unread_word : {w : List ℕ} {Q : ℕ → Type 0} {L : List ℕ → Type 0} → w ≡ span text f.at f.end → ((c : ℕ) → P c → Q c) → ((c : ℕ) → has c w ≡ true → Q c)
      → ((front rest : List ℕ) → ((c : ℕ) → has c front ≡ true → has c w ≡ true) → K (front ++ (w ++ rest)) → L rest) → Unread text cs f.end Q L
  unread_word {w} {Q} {L} e k q l = by (worded n.whole (n.feeds u.rest u.read.0 u.read.1 u.read.2))
    where
      by : Worded text f u.rest → Unread text cs f.end Q L
      by x =
          record {
            rest = x.rest;
            read = (x.last, x.others, x.read);
            known = l x.front x.rest among (rw is at u.known);
            each = λ c h o. either c (has c u.rest) refl h o;
          }
        where
          is : u.rest ≡ x.front ++ (w ++ x.rest)
          is = x.is ∙ ap (λ (z : List ℕ). x.front ++ (z ++ x.rest)) (sym e)

          among : (c : ℕ) → has c x.front ≡ true → has c w ≡ true
          among c h = ap (has c) e ∙ x.among c h

          either : (c : ℕ) (z : Bool) → has c u.rest ≡ z → has c cs ≡ true → has c x.rest ≡ false → Q c
          either c true r h o =
              q c (or_word (has c x.front) (has c w) (has c x.rest) (among c) o
              (sym (ap (has c) is ∙ has_append c x.front (w ++ x.rest) ∙ ap (λ (z : Bool). has c x.front || z) (has_append c w x.rest)) ∙ r))
          either c false r h o = k c (u.each c h r)

  -- there are no more
  pub unread_none : f.end ≤ f.at → K [] × ((c : ℕ) → has c cs ≡ true → P c)
  unfolding has
  unread_none h =
      let e : u.rest ≡ [] = n.ends u.rest u.read.0 u.read.1 u.read.2 h in
      (rw e at u.known, λ c k. u.each c k (ap (has c) e))

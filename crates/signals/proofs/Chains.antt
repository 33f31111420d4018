-- Chains: a chain leads to every name that may be a word, the last one first, so that the last one found there is the first of all; and one name more.
use Prim.Native.Nat.{ℕ, zero, suc, ◌+◌, ◌*◌, ◌-◌, ◌≤◌, ◌<◌}
use native.Mathlib.Omega.{arith}
use native.Mathlib.Nat.{add-zero, add-suc}
use native.Mathlib.Numerals.{add-one}
use mathlib.Core.Path.{◌≡◌, refl, sym, ap, ◌∙◌, subst}
use mathlib.Core.Bool.{Bool, true, false, cond}
use mathlib.Core.Option.{Option, none, some, or_else}
use mathlib.Core.List.{List, [], ◌∷◌, ◌++◌}
use lib.Dec.{eqb, ltb}
use lib.ListN.{length}
use borrow.Author.Tests.{lt-ltb, le-ltb, ltb-true, ltb-false, eqb-true, eqb-false}
use Rattle.tokens.specs.Written.{same}
use Rattle.tokens.specs.Tokens.{Tok}
use Rattle.meaning.specs.Names.{find}
use Rattle.meaning.proofs.Options.{or_none, or_or}
use Rattle.meaning.proofs.Others.{same_eq}
use Rattle.words.specs.Cursor.{span}
use Rattle.words.specs.Table.{name_of, names_from, names}
use Rattle.words.specs.Values.{told}
use Rattle.words.specs.Chains.{chains_most, chain_of, InChain}
use Rattle.words.proofs.Names.{names_more}
use Rattle.signals.specs.Names.{names_most, places_length, earlier_at, last_at, Apart, Linked, ended, link, Chained, Unchained, Put}

-- ---- what is found among the first names, or else behind them

abbrev here : Bool → ℕ → Option ℕ
here true i = some i
here false i = none

find_append : (xs : List (Tok × ℕ)) (t : Tok) (i : ℕ) (w : List ℕ) → find (xs ++ (t, i) ∷ []) w ≡ or_else (find xs w) (here (same t.word w) i)
unfolding find or_else
find_append [] t i w = by (same t.word w)
  where
    by : (b : Bool) → ◌≡◌ {A = Option ℕ} (elim b [ true ↦ some i | false ↦ none ]) (here b i)
    by true = refl
    by false = refl
find_append (x ∷ xs) t i w = by (same x.0.word w) (find_append xs t i w)
  where
    by : (b : Bool) → find (xs ++ (t, i) ∷ []) w ≡ or_else (find xs w) (here (same t.word w) i)
        → elim b [ true ↦ some x.1 | false ↦ find (xs ++ (t, i) ∷ []) w ] ≡ or_else (elim b [ true ↦ some x.1 | false ↦ find xs w ]) (here (same t.word w) i)
    by true e = refl
    by false e = e

module _ (text places w : List ℕ) where
  -- among the first b names
  abbrev found_in : ℕ → Option ℕ
  found_in b = find (names text places b) w

  abbrev is_here : ℕ → Bool
  is_here i = same (name_of text places i).word w

  found_more : (i : ℕ) → found_in (i + 1) ≡ or_else (found_in i) (here (is_here i) i)
  found_more i = ap (λ (l : List (Tok × ℕ)). find l w) (names_more text places i) ∙ find_append (names text places i) (name_of text places i) i w

  -- names that are not w between
  found_apart : (i d : ℕ) → ((j : ℕ) → i ≤ j → j < i + d → is_here j ≡ false) → found_in (i + d) ≡ found_in i
  found_apart i zero h = rw (add-zero i)
  found_apart i (suc d) h =
      rw (add-suc i d, ← add-one (i + d))
      (found_more (i + d) ∙ ap (λ (b : Bool). or_else (found_in (i + d)) (here b (i + d))) (h (i + d) (omega arith) (omega arith))
      ∙ or_none (found_in (i + d))
      ∙ found_apart i d (λ j k l. h j k (omega arith)))

  found_up_to : (i b : ℕ) → i ≤ b → ((j : ℕ) → i ≤ j → j < b → is_here j ≡ false) → found_in b ≡ found_in i
  found_up_to i b l h =
      let e : i + (b - i) ≡ b = omega arith in
      rw e at (found_apart i (b - i) (λ j k m. h j k (omega arith)))

  -- a name of another chain is another name
  apart_differs : {h : ℕ} (j : ℕ) → h ≡ chain_of w → Apart text places h j → is_here j ≡ false
  apart_differs j e f = by (is_here j) refl
    where
      by : (b : Bool) → is_here j ≡ b → b ≡ false
      by true q = absurd (f (ap chain_of (same_eq _ _ q) ∙ sym e))
      by false q = refl

-- ---- a link

-- at number i of chain h, of which b names were left
record Link (text places : List ℕ) (h i b : ℕ) : Type 0 where
  below : i < b
  apart : (j : ℕ) → i < j → j < b → Apart text places h j
  rest : Linked text places h (earlier_at places i) i

module _ {text places : List ℕ} {h : ℕ} where
  linked_within : {k b : ℕ} → Linked text places h k b → k ≤ b
  linked_within (ended f) = omega arith
  linked_within (link l f r) = omega arith

  linked_link : {k b : ℕ} → Linked text places h k b → 0 < k → Link text places h (k - 1) b
  linked_link (ended f) p = absurd (omega arith)
  linked_link (link {i = i} {b = b} l f r) p =
      let e : i ≡ suc i - 1 = omega arith in
      subst (λ (n : ℕ). Link text places h n b) e (record { below = l; apart = f; rest = r })

  linked_none : {k b : ℕ} → Linked text places h k b → k ≡ 0 → (j : ℕ) → j < b → Apart text places h j
  linked_none (ended f) e = f
  linked_none (link l f r) e = absurd (omega arith)

-- ---- a walk along the chain of the word w: what is found of all names is what is found among the first `bound`, or else what was found on the way

pub record Walked (text places w : List ℕ) (count found k : ℕ) : Type 0 where
  bound : ℕ
  few : bound ≤ count
  linked : Linked text places (chain_of w) k bound
  whole : find (names text places count) w ≡ or_else (find (names text places bound) w) (told (ltb found count) found)

module _ {text places w : List ℕ} {count : ℕ} where
  pub walk_begins : {h : ℕ} → Chained text places count → InChain (chain_of w) h → Walked text places w count count (last_at places h)
  walk_begins {h} x e =
      rw e.is
      (record {
        bound = count;
        few = omega arith;
        linked = x.each (chain_of w) (omega (arith, e.is, e.below));
        whole = rw (le-ltb count count (omega arith)) (sym (or_none (find (names text places count) w)));
      })

  module _ {found k : ℕ} (x : Walked text places w count found k) where
    pub walk_below : k ≤ count
    walk_below = omega (arith, linked_within x.linked, x.few)

    pub walk_falls : 0 < k → earlier_at places (k - 1) < k
    walk_falls p = omega (arith, linked_within (linked_link x.linked p).rest)

    pub walk_turn : 0 < k → {b : Bool} {r : ℕ} → b ≡ same (name_of text places (k - 1)).word w → r ≡ cond b (k - 1) found
        → Walked text places w count r (earlier_at places (k - 1))
    unfolding or_else
    walk_turn p {b} {r} f g =
        let i = k - 1 in
        let l = linked_link x.linked p in
        let under : i < count = omega (arith, l.below, x.few) in
        let near : find (names text places x.bound) w ≡ find (names text places (i + 1)) w =
        found_up_to text places w (i + 1) x.bound (omega (arith, l.below)) (λ j m n. apart_differs text places w j refl (l.apart j (omega arith) n)) in
        let step : or_else (here (same (name_of text places i).word w) i) (told (ltb found count) found) ≡ told (ltb r count) r = rw g (by b f under) in
        record {
          bound = i;
          few = omega arith;
          linked = l.rest;
          whole =
              x.whole
              ∙ ap (λ (o : Option ℕ). or_else o (told (ltb found count) found)) (near ∙ found_more text places w i)
              ∙ or_or (find (names text places i) w) (here (same (name_of text places i).word w) i) (told (ltb found count) found)
              ∙ ap (or_else (find (names text places i) w)) step;
        }
      where
        by : (b : Bool) → b ≡ same (name_of text places (k - 1)).word w → k - 1 < count
            → or_else (here (same (name_of text places (k - 1)).word w) (k - 1)) (told (ltb found count) found) ≡ told (ltb (cond b (k - 1) found) count) (cond b (k - 1) found)
        by true f u = rw (← f, lt-ltb (k - 1) count u)
        by false f u = rw (← f)

    pub walk_ends : k ≤ 0 → told (ltb found count) found ≡ find (names text places count) w
    unfolding names_from find or_else
    walk_ends z =
        let nothing : find (names text places x.bound) w ≡ none =
        found_up_to text places w 0 x.bound (omega arith) (λ j m n. apart_differs text places w j refl (linked_none x.linked (omega arith) j n)) in
        sym (x.whole ∙ ap (λ (o : Option ℕ). or_else o (told (ltb found count) found)) nothing)

-- ---- one name more

apart_past : (text p : List ℕ) (h b : ℕ) → Apart text p h b → (j : ℕ) → j < b + 1 → (j < b → Apart text p h j) → Apart text p h j
apart_past text p h b a j l f = by (ltb j b) refl
  where
    by : (t : Bool) → ltb j b ≡ t → Apart text p h j
    by true e = f (ltb-true j b e)
    by false e = let q : b ≡ j = omega (arith, ltb-false j b e) in subst (Apart text p h) q a

module _ {text : List ℕ} where
  -- names and links that are as they were
  linked_kept : {p q : List ℕ} {h k b : ℕ} → ((j : ℕ) → j < b → name_of text q j ≡ name_of text p j) → ((j : ℕ) → j < b → earlier_at q j ≡ earlier_at p j)
      → Linked text p h k b → Linked text q h k b
  linked_kept {p} {q} {h} e f (ended g) = ended (λ j l n. g j l (ap (λ (t : Tok). chain_of t.word) (sym (e j l)) ∙ n))
  linked_kept {p} {q} {h} e f (link {i = i} l g r) =
      link l (λ j m n o. g j m n (ap (λ (t : Tok). chain_of t.word) (sym (e j n)) ∙ o))
      (subst (λ (k : ℕ). Linked text q h k i) (sym (f i l)) (linked_kept (λ j m. e j (omega arith)) (λ j m. f j (omega arith)) r))

  -- the next name is in another chain
  linked_past : {p : List ℕ} {h k b : ℕ} → Apart text p h b → Linked text p h k b → Linked text p h k (b + 1)
  linked_past {p} {h} {b = b} a (ended g) = ended (λ j l. apart_past text p h b a j l (g j))
  linked_past {p} {h} {b = b} a (link {i = i} m g r) = link {i = i} {b = b + 1} (omega arith) (λ j n l. apart_past text p h b a j l (g j n)) r

  module _ {p q : List ℕ} {count at end h : ℕ} (x : Chained text p count) (few : count < names_most) (put : Put p count at end h q)
      (is : h ≡ chain_of (span text at end)) where
    same_name : (j : ℕ) → j < count → name_of text q j ≡ name_of text p j
    same_name j l =
        let a = put.names (j * 2) (omega arith) in
        let b = put.names (j * 2 + 1) (omega arith) in
        rw (a, b)

    new_chain : chain_of (name_of text q count).word ≡ h
    new_chain = rw (put.place, put.end_is) (sym is)

    pub chained_more : Chained text q (count + 1)
    chained_more = record {
      long = put.long ∙ x.long;
      few = omega arith;
      each = λ k l. by k l (eqb k h) refl;
    }
      where
        kept : (k : ℕ) → k < chains_most → Linked text q k (last_at p k) count
        kept k l = linked_kept same_name put.links (x.each k l)

        by : (k : ℕ) → k < chains_most → (t : Bool) → eqb k h ≡ t → Linked text q k (last_at q k) (count + 1)
        by k l true e =
            let z : k ≡ h = eqb-true k h e in
            let r : Linked text q k (earlier_at q count) count =
            subst (λ (n : ℕ). Linked text q k n count) (ap (last_at p) z ∙ sym put.linked) (kept k l) in
            subst (λ (n : ℕ). Linked text q k n (count + 1)) (sym (ap (last_at q) z ∙ put.last)) (link (omega arith) (λ j m n. absurd (omega arith)) r)
        by k l false e =
            let z = eqb-false k h e in
            subst (λ (n : ℕ). Linked text q k n (count + 1)) (sym (put.lasts k l z)) (linked_past (λ n. z (sym n ∙ new_chain)) (kept k l))

-- no name stands in a chain yet
pub chained_none : {text places : List ℕ} → length places ≡ places_length → Unchained places → Chained text places 0
chained_none {text} {places} e u = record {
  long = e;
  few = omega arith;
  each = λ h l. subst (λ (n : ℕ). Linked text places h n 0) (sym (u.none h l)) (ended (λ j m. absurd (omega arith)));
}

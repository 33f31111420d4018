-- The pass over the labels joins a reader: what the two refuse, the one further left, is what the reader refuses where each name is used once.
use Prim.Native.Nat.{ℕ, ◌≤◌, ◌<◌}
use mathlib.Core.Path.{◌≡◌, refl, sym, ap, ◌∙◌, subst}
use mathlib.Core.Bool.{Bool, true, false, cond, ◌||◌}
use mathlib.Core.Option.{Option, none, some}
use mathlib.Core.List.{List}
use lib.Dec.{ltb}
use lib.ListN.{length}
use borrow.Author.Tests.{lt-ltb, le-ltb, eq-eqb, ne_eqb}
use Rattle.tokens.specs.Refusals.{text_most}
use Rattle.tokens.specs.Tokens.{Toks, toks}
use Rattle.tokens.proofs.Bools.{never}
use Rattle.meaning.specs.Refusals.{used_name}
use Rattle.meaning.specs.Reader.{Res, Reader, refuse, give}
use Rattle.meaning.proofs.SameTokens.{stands_there}
use Rattle.words.specs.Cursor.{ahead, stream, alive, from, Goes}
use Rattle.words.specs.declared.Cursor.{Cursor}
use Rattle.words.proofs.Flow.{from_on, from_stop, stream_on, stream_stop}
use Rattle.meaning.specs.Labels.{labels_from, labels, repeated, used_twice, earlier, each_once}
use Rattle.labels.specs.Joined.{used_at, sooner, Joins}

-- ---- any reader

-- a cursor behind both refuses what comes first
sooner_earlier : {A : Type 0} (text : List ℕ) (o : Option ℕ) (c : Cursor) (a : A) → from text (sooner o c) (give a) ≡ earlier o (from text c (give a))
unfolding earlier give
sooner_earlier text none c a = refl
sooner_earlier {A} text (some q) c a = by (alive c) refl (ltb q c.at) refl
  where
    used : from text (used_at q) (give a) ≡ refuse used_name q
    used = from_stop text (used_at q) (give a) refl

    -- by where a refusal stands
    by_place : (y : Bool) → ltb q c.at ≡ y → earlier {A = A} (some q) (refuse c.no c.at) ≡ elim y as (λ z. Res A) [ true ↦ refuse used_name q | false ↦ refuse c.no c.at ]
    by_place y f = ap (λ (z : Bool). elim z as (λ z. Res A) [ true ↦ refuse used_name q | false ↦ refuse c.no c.at ]) f

    by : (x : Bool) → alive c ≡ x → (y : Bool) → ltb q c.at ≡ y → from text (cond (x || y) (used_at q) c) (give a) ≡ earlier (some q) (from text c (give a))
    by true e y f = used ∙ sym (ap (earlier (some q)) (from_on text c (give a) e))
    by false e true f = used ∙ sym (ap (earlier (some q)) (from_stop text c (give a) e) ∙ by_place true f)
    by false e false f = from_stop text c (give a) e ∙ sym (ap (earlier (some q)) (from_stop text c (give a) e) ∙ by_place false f)

-- THE LAW: where a reader goes, and each name is used once
pub goes_once : {A : Type 0} {text burst : List ℕ} {s c r : Cursor} {m : Reader A} {a : A} → length text ≤ text_most → (p : ℕ) → (alive s ≡ true → stream text s ≡ toks text p)
    → Goes text s m c a → Joins text burst s c r → Goes text s (each_once burst m) r a
unfolding each_once
goes_once {A} {text} {burst} {s} {c} {r} {m} {a} short p there g j = record { same = by (alive s) refl }
  where
    by : (x : Bool) → alive s ≡ x → from text r (give a) ≡ from text s (each_once burst m)
    by false e =
        ap (λ (k : Cursor). from text k (give a)) (j.off e) ∙ g.same ∙ from_stop text s m e ∙ sym (from_stop text s (each_once burst m) e)
    by true e =
        ap (λ (k : Cursor). from text k (give a)) (j.on short e p (there e))
        ∙ sooner_earlier text (used_twice burst (stream text s)) c a
        ∙ ap (earlier (used_twice burst (stream text s))) (g.same ∙ from_on text s m e)
        ∙ sym (from_on text s (each_once burst m) e)

-- where it goes on, it went on so before: what is known of the reader's answer stays
pub once_kept : {text burst : List ℕ} {s c r : Cursor} → length text ≤ text_most → (p : ℕ) → (alive s ≡ true → stream text s ≡ toks text p)
    → Joins text burst s c r → alive r ≡ true → r ≡ c
once_kept {text} {burst} {s} {c} {r} short p there j on = by (alive s) refl
  where
    kept : (o : Option ℕ) → alive (sooner o c) ≡ true → sooner o c ≡ c
    kept none e = refl
    kept (some q) e = at_once (alive c || ltb q c.at) e
      where
        at_once : (x : Bool) → alive (cond x (used_at q) c) ≡ true → cond x (used_at q) c ≡ c
        at_once true e = never e
        at_once false e = refl

    by : (x : Bool) → alive s ≡ x → r ≡ c
    by false e = j.off e
    by true e =
        let q = j.on short e p (there e) in
        q ∙ kept (used_twice burst (stream text s)) (ap (λ (k : Cursor). alive k) (sym q) ∙ on)

-- ---- the code's ways

module _ (text burst : List ℕ) (s c : Cursor) where
  -- reading was refused before
  pub joins_off : (s.no ≡ 0 → ⊥) → Joins text burst s c c
  joins_off h = record { off = λ e. refl; on = λ short e. never (sym (ne_eqb s.no 0 h) ∙ e) }

  -- no token is ahead, and so no label
  pub joins_none : s.end ≤ s.at → Joins text burst s c c
  unfolding used_twice labels labels_from repeated
  joins_none h = record {
    off = λ e. refl;
    on = λ short e p there. sym (ap (λ (ts : Toks). sooner (used_twice burst ts) c) (stream_stop text s (le-ltb s.at s.end h)));
  }

  module _ (z : s.no ≡ 0) (h : s.at < s.end) (o : Option ℕ) (found : length text ≤ text_most → o ≡ used_twice burst (toks text s.at)) where
    -- a token is read again from its own place
    found_here : length text ≤ text_most → (p : ℕ) → stream text s ≡ toks text p → o ≡ used_twice burst (stream text s)
    found_here short p there =
        let here = stream_on text s (lt-ltb s.at s.end h) in
        found short ∙ ap (used_twice burst) (stands_there text (ahead text s) (toks text s.end) (record { at = p; is = sym here ∙ there }) ∙ sym here)

    -- the one of the two that comes first
    pub joins_sooner : Joins text burst s c (sooner o c)
    joins_sooner = record {
      off = λ e. never (sym e ∙ eq-eqb s.no 0 z);
      on = λ short e p there. ap (λ (x : Option ℕ). sooner x c) (found_here short p there);
    }

  module _ (z : s.no ≡ 0) (h : s.at < s.end) (q : ℕ) (found : length text ≤ text_most → some q ≡ used_twice burst (toks text s.at)) where
    joins_by : (x : Bool) → (alive c || ltb q c.at) ≡ x → Joins text burst s c (cond x (used_at q) c)
    joins_by x e = subst (λ (y : Bool). Joins text burst s c (cond y (used_at q) c)) e (joins_sooner z h (some q) found)

    pub joins_first : (alive c || ltb q c.at) ≡ true → Joins text burst s c (used_at q)
    joins_first = joins_by true

    pub joins_later : (alive c || ltb q c.at) ≡ false → Joins text burst s c c
    joins_later = joins_by false

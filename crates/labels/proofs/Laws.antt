-- What `repeated` says: an unknown name repeats nothing, a place that is given is that of the first label that is used already, and where none is given the labels are
-- distinct.
use Prim.Native.Nat.{ℕ}
use native.Mathlib.Omega.{arith}
use mathlib.Core.Path.{◌≡◌, refl, sym, ap, ◌∙◌}
use mathlib.Core.Bool.{Bool, true, false, ◌||◌}
use mathlib.Core.Option.{Option, none, some, or_else}
use mathlib.Core.List.{List, [], ◌∷◌, ◌++◌}
use Rattle.tokens.specs.Written.{same}
use Rattle.tokens.specs.Tokens.{Tok}
use Rattle.tokens.proofs.Bools.{never}
use Rattle.meaning.specs.Labels.{taken, used_by, repeated}
use Rattle.meaning.proofs.Options.{or_both}

-- ---- one token

module _ (vs : List (List ℕ)) (t : Tok) (l : List Tok) where
  pub repeated_here : taken vs t.word ≡ true → repeated vs (t ∷ l) ≡ some t.at
  unfolding repeated
  repeated_here e = rw (e, repeated)

  -- an unknown name repeats nothing
  pub repeated_later : taken vs t.word ≡ false → repeated vs (t ∷ l) ≡ repeated (t.word ∷ vs) l
  unfolding repeated
  repeated_later e = rw (e, repeated)

-- ---- words that are used

pub taken_append : (vs us : List (List ℕ)) (w : List ℕ) → taken (vs ++ us) w ≡ (taken vs w || taken us w)
unfolding taken
taken_append [] us w = refl
taken_append (v ∷ vs) us w = by (same v w) (taken_append vs us w)
  where
    by : (b : Bool) → taken (vs ++ us) w ≡ (taken vs w || taken us w) → (b || taken (vs ++ us) w) ≡ ((b || taken vs w) || taken us w)
    by true e = refl
    by false e = e

-- ---- one list behind the other

pub repeated_append : (vs : List (List ℕ)) (k l : List Tok) → repeated vs (k ++ l) ≡ or_else (repeated vs k) (repeated (used_by vs k) l)
unfolding repeated or_else used_by
repeated_append vs [] l = refl
repeated_append vs (t ∷ k) l = by (taken vs t.word) (repeated_append (t.word ∷ vs) k l)
  where
    by : (b : Bool) → repeated (t.word ∷ vs) (k ++ l) ≡ or_else (repeated (t.word ∷ vs) k) (repeated (used_by (t.word ∷ vs) k) l)
        → ◌≡◌ {A = Option ℕ} (elim b [ true ↦ some t.at | false ↦ repeated (t.word ∷ vs) (k ++ l) ])
        (or_else (elim b [ true ↦ some t.at | false ↦ repeated (t.word ∷ vs) k ]) (repeated (used_by (t.word ∷ vs) k) l))
    by true e = refl
    by false e = e

-- ---- a place that is given

-- q is the place of a token of the list, whose word is used already, and none before it repeats anything
pub record First (vs : List (List ℕ)) (l : List Tok) (q : ℕ) : Type 0 where
  pub before : List Tok
  pub it : Tok
  pub behind : List Tok
  pub whole : l ≡ before ++ it ∷ behind
  pub place : it.at ≡ q
  pub none_before : repeated vs before ≡ none
  pub again : taken (used_by vs before) it.word ≡ true

pub repeated_first : (vs : List (List ℕ)) (l : List Tok) (q : ℕ) → repeated vs l ≡ some q → First vs l q
unfolding repeated used_by
repeated_first vs [] q e = let z : ◌≡◌ {A = ℕ} 0 1 = cc in absurd (omega arith)
repeated_first vs (t ∷ l) q e = by (taken vs t.word) refl e (repeated_first (t.word ∷ vs) l q)
  where
    by : (b : Bool) → taken vs t.word ≡ b → ◌≡◌ {A = Option ℕ} (elim b [ true ↦ some t.at | false ↦ repeated (t.word ∷ vs) l ]) (some q)
        → (repeated (t.word ∷ vs) l ≡ some q → First (t.word ∷ vs) l q) → First vs (t ∷ l) q
    by true h e ih = record { before = []; it = t; behind = l; whole = refl; place = (cc); none_before = refl; again = h }
    by false h e ih =
        let f = ih e in
        record {
          before = t ∷ f.before;
          it = f.it;
          behind = f.behind;
          whole = ap (λ (k : List Tok). t ∷ k) f.whole;
          place = f.place;
          none_before = repeated_later vs t f.before h ∙ f.none_before;
          again = f.again;
        }

-- ---- where none is given

-- a word that is used stays used
used_stays : (vs : List (List ℕ)) (l : List Tok) (w : List ℕ) → taken vs w ≡ true → taken (used_by vs l) w ≡ true
unfolding used_by taken
used_stays vs [] w e = e
used_stays vs (t ∷ l) w e = used_stays (t.word ∷ vs) l w (by (same t.word w))
  where
    by : (b : Bool) → (b || taken vs w) ≡ true
    by true = refl
    by false = e

-- the words of any two labels differ, and are none of those that were used before
module _ (vs : List (List ℕ)) (k l : List Tok) (t : Tok) where
  pub repeated_none : repeated vs (k ++ t ∷ l) ≡ none → taken (used_by vs k) t.word ≡ false
  repeated_none e = by (taken (used_by vs k) t.word) refl (or_both _ _ (sym (repeated_append vs k (t ∷ l)) ∙ e)).1
    where
      by : (b : Bool) → taken (used_by vs k) t.word ≡ b → repeated (used_by vs k) (t ∷ l) ≡ none → b ≡ false
      by false h r = refl
      by true h r = let f : some t.at ≡ none = sym (repeated_here (used_by vs k) t l h) ∙ r in let z : ◌≡◌ {A = ℕ} 0 1 = cc in absurd (omega arith)

pub labels_differ : (vs : List (List ℕ)) (i k l : List Tok) (s t : Tok) → repeated vs (i ++ s ∷ (k ++ t ∷ l)) ≡ none → same s.word t.word ≡ false
unfolding used_by taken
labels_differ vs i k l s t e = by (same s.word t.word) refl
  where
    rest : repeated (used_by vs i) (s ∷ (k ++ t ∷ l)) ≡ none
    rest = (or_both _ _ (sym (repeated_append vs i (s ∷ (k ++ t ∷ l))) ∙ e)).1

    new : taken (used_by (s.word ∷ used_by vs i) k) t.word ≡ false
    new = repeated_none (used_by vs i) (s ∷ k) l t rest

    by : (b : Bool) → same s.word t.word ≡ b → b ≡ false
    by false h = refl
    by true h =
        let here : taken (s.word ∷ used_by vs i) t.word ≡ true = ap (λ (x : Bool). x || taken (used_by vs i) t.word) h in
        never (sym new ∙ used_stays (s.word ∷ used_by vs i) k t.word here)

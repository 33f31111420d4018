-- What a reader's answers have in common: whatever a reader answers, it has P.
use mathlib.Core.Path.{◌≡◌, refl, ap, subst}
use Prim.Native.Nat.{ℕ, zero, suc, ◌≤◌}
use native.Mathlib.Omega.{arith}
use Prim.Native.String.{String}
use mathlib.Core.Bool.{Bool, true, false, not, ◌&&◌}
use mathlib.Core.Option.{Option, none, some}
use mathlib.Core.List.{List, [], ◌∷◌}
use lib.Dec.{leb}
use borrow.Author.Tests.{leb-true}
use Rattle.tokens.specs.Written.{bytes, same}
use Rattle.tokens.specs.Tokens.{Tok, Toks, left, tok, stop}
use Rattle.tokens.specs.Refusals.{not_here}
use Rattle.meaning.specs.Refusals.{bad_number}
use Rattle.meaning.specs.Reader.{Res, Reader, ok, refuse, after, ◌>>=◌, give, refuse_if, any, ahead_of, ahead, due_of, if_ahead, option, one_of, choose, while_f, while, closed, until}
use Rattle.meaning.specs.Names.{known, within}

-- an answer of two readers is one of the first, and then one of the second
pub bind_ok : {A B : Type 0} (m : Reader A) (f : A → Reader B) (ts : Toks) (b : B) (us : Toks) → (m >>= f) ts ≡ ok b us
    → (a : A) × (vs : Toks) × (m ts ≡ ok a vs) × (f a vs ≡ ok b us)
unfolding ◌>>=◌ after
bind_ok {A} {B} m f ts b us e = by (m ts) e
  where
    by : (r : Res A) → after r f ≡ ok b us → (a : A) × (vs : Toks) × (r ≡ ok a vs) × (f a vs ≡ ok b us)
    by (ok a vs) e = (a, vs, refl, e)
    by (refuse n p) e = let z : ◌≡◌ {A = ℕ} 0 1 = cc in absurd (omega arith)

pub give_ok : {A : Type 0} {a b : A} {ts us : Toks} → give a ts ≡ ok b us → (a ≡ b) × (ts ≡ us)
unfolding give
give_ok {A} {a} {b} {ts} {us} e = (let q : a ≡ b = cc in q, let q : ts ≡ us = cc in q)

pub if_ok : (c : Bool) (n p : ℕ) {u : Unit {0}} {ts us : Toks} → refuse_if c n p ts ≡ ok u us → ts ≡ us
unfolding refuse_if
if_ok true n p e = let z : ◌≡◌ {A = ℕ} 0 1 = cc in absurd (omega arith)
if_ok false n p {u} {ts} {us} e = let q : ts ≡ us = cc in q

pub known_ok : {A : Type 0} (o : Option A) (n p : ℕ) (ts : Toks) {a : A} {us : Toks} → known o n p ts ≡ ok a us → o ≡ some a
unfolding known
known_ok none n p ts e = let z : ◌≡◌ {A = ℕ} 0 1 = cc in absurd (omega arith)
known_ok (some x) n p ts {a} e = let q : x ≡ a = cc in ap some q

pub known_rest : {A : Type 0} (o : Option A) (n p : ℕ) (ts : Toks) {a : A} {us : Toks} → known o n p ts ≡ ok a us → ts ≡ us
unfolding known
known_rest none n p ts e = let z : ◌≡◌ {A = ℕ} 0 1 = cc in absurd (omega arith)
known_rest (some x) n p ts {a} {us} e = let q : ts ≡ us = cc in q

-- a token that was due was ahead, and what is left is behind it
pub due_ahead : (w : List ℕ) (ts : Toks) (p : ℕ) (us : Toks) → due_of w ts ≡ ok p us → ahead_of w ts ≡ true
unfolding due_of any ahead_of ◌>>=◌ after refuse_if
due_ahead w (stop n q) p us e = let z : ◌≡◌ {A = ℕ} 0 1 = cc in absurd (omega arith)
due_ahead w (tok t ts) p us e = by (same t.word w) e
  where
    by : (c : Bool) → (refuse_if (not c) not_here t.at >>= λ x. give t.at) ts ≡ ok p us → c ≡ true
    by true e = refl
    by false e = let z : ◌≡◌ {A = ℕ} 0 1 = cc in absurd (omega arith)

pub due_rest : (w : List ℕ) (t : Tok) (us : Toks) {p : ℕ} {vs : Toks} → due_of w (tok t us) ≡ ok p vs → vs ≡ us
unfolding due_of any ◌>>=◌ after refuse_if give
due_rest w t us {p} {vs} e = by (same t.word w) e
  where
    by : (x : Bool) → after (refuse_if (not x) not_here t.at us) (λ u. give t.at) ≡ ok p vs → vs ≡ us
    by true e = cc
    by false e = let z : ◌≡◌ {A = ℕ} 0 1 = cc in absurd (omega arith)

pub any_ok : (ts : Toks) {t : Tok} {us : Toks} → any ts ≡ ok t us → ts ≡ tok t us
unfolding any
any_ok (stop n p) e = let z : ◌≡◌ {A = ℕ} 0 1 = cc in absurd (omega arith)
any_ok (tok u vs) {t} {us} e = let p : u ≡ t = cc in let q : vs ≡ us = cc in cc

pub bind_go : {A B : Type 0} (m : Reader A) (f : A → Reader B) (ts : Toks) (a : A) (vs : Toks) → m ts ≡ ok a vs → (m >>= f) ts ≡ f a vs
unfolding ◌>>=◌ after
bind_go {A} m f ts a vs e = ap (λ (r : Res A). after r f) e

-- whatever it answers has P
pub record Gives {A : Type 0} (P : A → Type 0) (m : Reader A) : Type 0 where
  pub all : (ts : Toks) (a : A) (us : Toks) → m ts ≡ ok a us → P a

module _ {A B : Type 0} (Q : A → Type 0) (P : B → Type 0) (m : Reader A) (k : A → Reader B) where
  pub gives_bind : Gives Q m → ((a : A) → Q a → Gives P (k a)) → Gives P (m >>= k)
  gives_bind h g = record { all = λ ts b us e. (let i = bind_ok m k ts b us e in (g i.0 (h.all ts i.0 i.1 i.2)).all i.1 b us i.3) }

pub gives_after : {A B : Type 0} (P : B → Type 0) (m : Reader A) (k : A → Reader B) → ((a : A) → Gives P (k a)) → Gives P (m >>= k)
gives_after P m k h = gives_bind (λ a. Unit {0}) P m k (record { all = λ ts a us e. tt }) (λ a q. h a)

pub gives_give : {A : Type 0} (P : A → Type 0) (a : A) → P a → Gives P (give a)
gives_give P a h = record { all = λ ts b us e. subst P (give_ok e).0 h }

pub gives_ahead : {A : Type 0} (P : A → Type 0) (w : String) (m k : Reader A) → Gives P m → Gives P k → Gives P (if_ahead w m k)
unfolding if_ahead
gives_ahead {A} P w m k f g = record { all = λ ts a us e. by ts a us (ahead w ts) e }
  where
    by : (ts : Toks) (a : A) (us : Toks) (b : Bool) → ◌≡◌ {A = Res A} (elim b [ true ↦ m ts | false ↦ k ts ]) (ok a us) → P a
    by ts a us true e = f.all ts a us e
    by ts a us false e = g.all ts a us e

module _ {S : Type 0} (P : S → Type 0) (test : Toks → Bool) (step : S → Reader S) (h : (s : S) → P s → Gives P (step s)) where
  gives_while_f : (k : ℕ) (s : S) → P s → Gives P (while_f test step k s)
  unfolding while_f give
  gives_while_f zero s p = gives_give P s p
  gives_while_f (suc k) s p = record { all = λ ts a us e. by ts a us (test ts) (gives_bind P P (step s) _ (h s p) λ x q. gives_while_f k x q) e }
    where
      by : (ts : Toks) (a : S) (us : Toks) (b : Bool) → Gives P (step s >>= λ s'. while_f test step k s')
          → ◌≡◌ {A = Res S} (elim b [ true ↦ (step s >>= λ s'. while_f test step k s') ts | false ↦ ok s ts ]) (ok a us) → P a
      by ts a us true g e = g.all ts a us e
      by ts a us false g e = (gives_give P s p).all ts a us e

  pub gives_while : (s : S) → P s → Gives P (while test step s)
  unfolding while
  gives_while s p = record { all = λ ts a us e. (gives_while_f (suc (left ts)) s p).all ts a us e }

pub gives_closed : {S : Type 0} (P : S → Type 0) (w : String) (step : S → Reader S) → ((s : S) → P s → Gives P (step s)) → (s : S) → P s
    → Gives (λ x. P x.0) (closed w step s)
unfolding closed
gives_closed P w step h s p =
    gives_bind P (λ x. P x.0) _ _ (gives_while P _ step h s p) λ x q. gives_after (λ x. P x.0) _ _ λ z. gives_give (λ x. P x.0) (x, z) q

pub gives_until : {S : Type 0} (P : S → Type 0) (w : String) (step : S → Reader S) → ((s : S) → P s → Gives P (step s)) → (s : S) → P s → Gives P (until w step s)
unfolding until
gives_until P w step h s p = gives_bind (λ x. P x.0) P _ _ (gives_closed P w step h s p) λ x q. gives_give P x.0 q

pub gives_option : {S : Type 0} (P : S → Type 0) (w : String) (part : S → Reader S) → ((s : S) → P s → Gives P (part s)) → (s : S) → P s → Gives P (option w part s)
unfolding option
gives_option P w part h s p = gives_ahead P w _ _ (h s p) (gives_give P s p)

-- a test that refuses is false where reading goes on
pub gives_if : (c : Bool) (n p : ℕ) → Gives (λ u. c ≡ false) (refuse_if c n p)
unfolding refuse_if
gives_if true n p = record { all = λ ts a us e. (let z : ◌≡◌ {A = ℕ} 0 1 = cc in absurd (omega arith)) }
gives_if false n p = record { all = λ ts a us e. refl }

-- each entry of a choice
abbrev pub EachGives : {A : Type 0} → (A → Type 0) → List (String × (ℕ → Reader A)) → Type 0
EachGives P [] = Unit {0}
EachGives P (x ∷ xs) = ((p : ℕ) → Gives P (x.1 p)) × EachGives P xs

pub gives_taken : {A : Type 0} (P : A → Type 0) (xs : List (String × (ℕ → Reader A))) → EachGives P xs → (t : Tok) → Gives P (one_of xs t)
unfolding one_of
gives_taken P [] h t = record { all = λ ts a us e. (let z : ◌≡◌ {A = ℕ} 0 1 = cc in absurd (omega arith)) }
gives_taken {A} P (x ∷ xs) h t = record { all = λ ts a us e. by ts a us (gives_taken P xs h.1 t) (same t.word (bytes x.0)) e }
  where
    by : (ts : Toks) (a : A) (us : Toks) → Gives P (one_of xs t) → (c : Bool) → ◌≡◌ {A = Res A} (elim c [ true ↦ x.1 t.at ts | false ↦ one_of xs t ts ]) (ok a us) → P a
    by ts a us k true e = (h.0 t.at).all ts a us e
    by ts a us k false e = k.all ts a us e

pub gives_choose : {A : Type 0} (P : A → Type 0) (xs : List (String × (ℕ → Reader A))) → EachGives P xs → Gives P (choose xs)
unfolding choose
gives_choose P xs h = gives_after P any (one_of xs) (gives_taken P xs h)

-- a number lies within its bound
pub gives_within : (a b : ℕ) (o : Option ℕ) (p : ℕ) → Gives (λ n. n ≤ b) (within a b o p)
unfolding within
gives_within a b none p = record { all = λ ts n us e. (let z : ◌≡◌ {A = ℕ} 0 1 = cc in absurd (omega arith)) }
gives_within a b (some m) p = record { all = λ ts n us e. by ts n us (leb a m) (leb m b) refl e }
  where
    by : (ts : Toks) (n : ℕ) (us : Toks) (x y : Bool) → leb m b ≡ y
        → ◌≡◌ {A = Res ℕ} (elim (x && y) [ true ↦ ok m ts | false ↦ refuse bad_number p ]) (ok n us) → n ≤ b
    by ts n us true true h e = let q : m ≡ n = cc in omega (arith, leb-true m b h)
    by ts n us true false h e = let z : ◌≡◌ {A = ℕ} 0 1 = cc in absurd (omega arith)
    by ts n us false y h e = let z : ◌≡◌ {A = ℕ} 0 1 = cc in absurd (omega arith)

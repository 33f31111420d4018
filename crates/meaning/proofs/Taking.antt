-- Which readers take a token: what `search taking` finds.
use mathlib.Core.Path.{◌≡◌, refl}
use Prim.Native.Nat.{ℕ, zero, suc, ◌≤◌, ◌<◌}
use Prim.Native.String.{String}
use mathlib.Core.Bool.{Bool, true, false, ◌&&◌}
use mathlib.Core.Option.{Option, none, some}
use mathlib.Core.List.{List, [], ◌∷◌}
use native.Mathlib.Omega.{arith}
use lib.Dec.{leb}
use Rattle.tokens.specs.Written.{bytes, same}
use Rattle.tokens.specs.Tokens.{Tok, Toks, stop, tok, left}
use Rattle.meaning.specs.Refusals.{bad_number}
use Rattle.meaning.specs.Reader.{Res, Reader, ok, refuse, after, ◌>>=◌, give, refuse_if, any, due_of, one_of, choose, word, ahead, if_ahead, while_f, while, closed, until}
use Rattle.meaning.specs.Names.{name, due_among, new_name, known, old_name, within, number_in}
use Rattle.meaning.proofs.Takes.{Takes, Keeps}

pub takes_keeps : {A : Type 0} {m : Reader A} → Takes m → Keeps m
takes_keeps h = record { stays = λ ts a us e. let k = h.falls ts a us e in omega arith }

pub takes_any : Takes any
unfolding any left
takes_any = record { falls = by }
  where
    by : (ts : Toks) (a : Tok) (us : Toks) → any ts ≡ ok a us → left us < left ts
    by (stop n p) a us e = let z : ◌≡◌ {A = ℕ} 0 1 = cc in absurd (omega arith)
    by (tok t ts) a us e = let q : ts ≡ us = cc in rw q (omega arith)

pub keeps_give : {A : Type 0} (a : A) → Keeps (give a)
unfolding give
keeps_give a = record { stays = λ ts b us e. (let q : ts ≡ us = cc in rw q (omega arith)) }

pub keeps_if : (c : Bool) (n p : ℕ) → Keeps (refuse_if c n p)
unfolding refuse_if
keeps_if true n p = record { stays = λ ts a us e. (let z : ◌≡◌ {A = ℕ} 0 1 = cc in absurd (omega arith)) }
keeps_if false n p = record { stays = λ ts a us e. (let q : ts ≡ us = cc in rw q (omega arith)) }

pub keeps_known : {A : Type 0} (o : Option A) (n p : ℕ) → Keeps (known o n p)
unfolding known
keeps_known none n p = record { stays = λ ts a us e. (let z : ◌≡◌ {A = ℕ} 0 1 = cc in absurd (omega arith)) }
keeps_known (some x) n p = record { stays = λ ts a us e. (let q : ts ≡ us = cc in rw q (omega arith)) }

module _ {A B : Type 0} (m : Reader A) (k : A → Reader B) where
  pub takes_bind : Takes m → ((a : A) → Keeps (k a)) → Takes (m >>= k)
  unfolding ◌>>=◌ after
  takes_bind h g = record { falls = λ ts b us e. by ts b us (m ts) refl e }
    where
      by : (ts : Toks) (b : B) (us : Toks) (r : Res A) → m ts ≡ r → after r k ≡ ok b us → left us < left ts
      by ts b us (ok a vs) f e = let x = h.falls ts a vs f in let y = (g a).stays vs b us e in omega arith
      by ts b us (refuse n p) f e = let z : ◌≡◌ {A = ℕ} 0 1 = cc in absurd (omega arith)

  pub keeps_bind : Keeps m → ((a : A) → Keeps (k a)) → Keeps (m >>= k)
  unfolding ◌>>=◌ after
  keeps_bind h g = record { stays = λ ts b us e. by ts b us (m ts) refl e }
    where
      by : (ts : Toks) (b : B) (us : Toks) (r : Res A) → m ts ≡ r → after r k ≡ ok b us → left us ≤ left ts
      by ts b us (ok a vs) f e = let x = h.stays ts a vs f in let y = (g a).stays vs b us e in omega arith
      by ts b us (refuse n p) f e = let z : ◌≡◌ {A = ℕ} 0 1 = cc in absurd (omega arith)

  pub keeps_takes : Keeps m → ((a : A) → Takes (k a)) → Takes (m >>= k)
  unfolding ◌>>=◌ after
  keeps_takes h g = record { falls = λ ts b us e. by ts b us (m ts) refl e }
    where
      by : (ts : Toks) (b : B) (us : Toks) (r : Res A) → m ts ≡ r → after r k ≡ ok b us → left us < left ts
      by ts b us (ok a vs) f e = let x = h.stays ts a vs f in let y = (g a).falls vs b us e in omega arith
      by ts b us (refuse n p) f e = let z : ◌≡◌ {A = ℕ} 0 1 = cc in absurd (omega arith)

pub takes_due : (w : List ℕ) → Takes (due_of w)
unfolding due_of
takes_due w = takes_bind _ _ takes_any (λ t. keeps_bind _ _ (keeps_if _ _ _) (λ u. keeps_give _))

pub takes_among : (ks : List String) → Takes (due_among ks)
unfolding due_among
takes_among ks = takes_bind _ _ takes_any (λ t. keeps_bind _ _ (keeps_if _ _ _) (λ u. keeps_give _))

pub takes_word : Takes word
unfolding word
takes_word = takes_bind _ _ takes_any (λ t. keeps_bind _ _ (keeps_if _ _ _) (λ u. keeps_give _))

pub takes_name : Takes name
unfolding name
takes_name = takes_bind _ _ takes_word (λ t. keeps_bind _ _ (keeps_if _ _ _) (λ u. keeps_give _))

pub takes_new : {A : Type 0} (used : List (Tok × A)) → Takes (new_name used)
unfolding new_name
takes_new used = takes_bind _ _ takes_name (λ t. keeps_bind _ _ (keeps_if _ _ _) (λ u. keeps_give _))

pub takes_old : {A : Type 0} (used : List (Tok × A)) → Takes (old_name used)
unfolding old_name
takes_old used = takes_bind _ _ takes_name (λ t. keeps_bind _ _ (keeps_known _ _ _) (λ u. keeps_give _))

pub ruleset taking = (takes_keeps, takes_any, takes_due, takes_among, takes_word, takes_name, takes_new, takes_old, keeps_give, keeps_if, keeps_known, takes_bind, keeps_bind)

-- ---- choices and loops

abbrev pub Each : {A : Type 0} → List (String × (ℕ → Reader A)) → Type 0
Each [] = Unit {0}
Each (x ∷ xs) = ((p : ℕ) → Keeps (x.1 p)) × Each xs

pub keeps_one_of : {A : Type 0} (xs : List (String × (ℕ → Reader A))) → Each xs → (t : Tok) → Keeps (one_of xs t)
unfolding one_of
keeps_one_of [] h t = record { stays = λ ts a us e. (let z : ◌≡◌ {A = ℕ} 0 1 = cc in absurd (omega arith)) }
keeps_one_of {A} (x ∷ xs) h t = record { stays = λ ts a us e. by (keeps_one_of xs h.1 t) ts a us (same t.word (bytes x.0)) e }
  where
    by : Keeps (one_of xs t) → (ts : Toks) (a : A) (us : Toks) (b : Bool)
        → ◌≡◌ {A = Res A} (elim b [ true ↦ x.1 t.at ts | false ↦ one_of xs t ts ]) (ok a us) → left us ≤ left ts
    by ih ts a us true e = (h.0 t.at).stays ts a us e
    by ih ts a us false e = ih.stays ts a us e

pub takes_choose : {A : Type 0} (xs : List (String × (ℕ → Reader A))) → Each xs → Takes (choose xs)
unfolding choose
takes_choose xs h = takes_bind _ _ takes_any (keeps_one_of xs h)

module _ {A : Type 0} (w : String) (m k : Reader A) where
  pub takes_ahead : Takes m → Takes k → Takes (if_ahead w m k)
  unfolding if_ahead
  takes_ahead f g = record { falls = λ ts a us e. by ts a us (ahead w ts) e }
    where
      by : (ts : Toks) (a : A) (us : Toks) (b : Bool) → ◌≡◌ {A = Res A} (elim b [ true ↦ m ts | false ↦ k ts ]) (ok a us) → left us < left ts
      by ts a us true e = f.falls ts a us e
      by ts a us false e = g.falls ts a us e

module _ {S : Type 0} (test : Toks → Bool) (step : S → Reader S) (h : (s : S) → Takes (step s)) where
  keeps_while_f : (k : ℕ) (s : S) → Keeps (while_f test step k s)
  unfolding while_f ◌>>=◌ after
  keeps_while_f zero s = record { stays = λ ts a us e. (let q : ts ≡ us = cc in rw q (omega arith)) }
  keeps_while_f (suc k) s = record { stays = λ ts a us e. by (keeps_while_f k) ts a us (test ts) (step s ts) refl e }
    where
      by : ((x : S) → Keeps (while_f test step k x)) → (ts : Toks) (a : S) (us : Toks) (b : Bool) (r : Res S) → step s ts ≡ r
          → ◌≡◌ {A = Res S} (elim b [ true ↦ after r (λ s'. while_f test step k s') | false ↦ ok s ts ]) (ok a us) → left us ≤ left ts
      by ih ts a us true (ok x vs) f e = let u = (h s).falls ts x vs f in let v = (ih x).stays vs a us e in omega arith
      by ih ts a us true (refuse n q) f e = let z : ◌≡◌ {A = ℕ} 0 1 = cc in absurd (omega arith)
      by ih ts a us false r f e = let q : ts ≡ us = cc in rw q (omega arith)

  pub keeps_while : (s : S) → Keeps (while test step s)
  unfolding while
  keeps_while s = record { stays = λ ts a us e. (keeps_while_f (suc (left ts)) s).stays ts a us e }

-- a repeated part and its closing token
pub takes_closed : {S : Type 0} (w : String) (step : S → Reader S) → ((s : S) → Takes (step s)) → (s : S) → Takes (closed w step s)
unfolding closed
takes_closed w step h s = keeps_takes _ _ (keeps_while _ step h s) λ x. takes_bind _ _ (takes_due _) λ p. keeps_give _

pub takes_until : {S : Type 0} (w : String) (step : S → Reader S) → ((s : S) → Takes (step s)) → (s : S) → Takes (until w step s)
unfolding until
takes_until w step h s = takes_bind _ _ (takes_closed w step h s) λ x. keeps_give _

pub keeps_within : (a b : ℕ) (o : Option ℕ) (p : ℕ) → Keeps (within a b o p)
unfolding within
keeps_within a b none p = record { stays = λ ts c us e. (let z : ◌≡◌ {A = ℕ} 0 1 = cc in absurd (omega arith)) }
keeps_within a b (some n) p = record { stays = λ ts c us e. by ts c us (leb a n && leb n b) e }
  where
    by : (ts : Toks) (c : ℕ) (us : Toks) (t : Bool) → ◌≡◌ {A = Res ℕ} (elim t [ true ↦ ok n ts | false ↦ refuse bad_number p ]) (ok c us) → left us ≤ left ts
    by ts c us true e = let q : ts ≡ us = cc in rw q (omega arith)
    by ts c us false e = let z : ◌≡◌ {A = ℕ} 0 1 = cc in absurd (omega arith)

pub takes_number : (a b : ℕ) → Takes (number_in a b)
unfolding number_in
takes_number a b = takes_bind _ _ takes_word λ t. keeps_within a b _ _

-- What a reader leads to from here: its answer, and the tokens behind it, have P.
use mathlib.Core.Path.{◌≡◌, subst}
use Prim.Native.Nat.{ℕ, zero, suc}
use Prim.Native.String.{String}
use native.Mathlib.Omega.{arith}
use mathlib.Core.Bool.{Bool, true, false}
use Rattle.tokens.specs.Tokens.{Toks, left}
use Rattle.meaning.specs.Reader.{Reader, ok, refuse, ◌>>=◌, ◌>>◌, give, refuse_if, ahead, if_ahead, option, while_f, while, closed, until}
use Rattle.meaning.proofs.Gives.{bind_ok, give_ok, if_ok, gives_if}
use Rattle.held.proofs.Rest.{Rest, moves_leaves, moves_due}

pub record Leads {A : Type 0} (m : Reader A) (ts : Toks) (P : A → Toks → Type 0) : Type 0 where
  pub all : (a : A) (us : Toks) → m ts ≡ ok a us → P a us

pub leads_bind : {A B : Type 0} (m : Reader A) (f : A → Reader B) {ts : Toks} {P : B → Toks → Type 0} → ((a : A) (vs : Toks) → m ts ≡ ok a vs → Leads (f a) vs P) → Leads (m >>= f) ts P
leads_bind m f {ts} h = record { all = λ b us e. (let i = bind_ok m f ts b us e in (h i.0 i.1 i.2).all b us i.3) }

pub leads_give : {A : Type 0} (a : A) {ts : Toks} {P : A → Toks → Type 0} → P a ts → Leads (give a) ts P
leads_give a {ts} {P} h = record { all = λ b us e. subst (P b) (give_ok e).1 (subst (λ b. P b ts) (give_ok e).0 h) }

-- a test that refuses is false where reading goes on
pub leads_if : {A : Type 0} (c : Bool) (n p : ℕ) (k : Reader A) {ts : Toks} {P : A → Toks → Type 0} → (c ≡ false → Leads k ts P) → Leads (refuse_if c n p >> k) ts P
leads_if c n p k {ts} {P} h = leads_bind _ _ λ u vs e. subst (λ vs. Leads k vs P) (if_ok c n p e) (h ((gives_if c n p).all ts u vs e))

pub leads_refuse : {A : Type 0} (n p : ℕ) {ts : Toks} {P : A → Toks → Type 0} → Leads (λ vs. refuse n p) ts P
leads_refuse n p = record { all = λ a us e. (let z : ◌≡◌ {A = ℕ} 0 1 = cc in absurd (omega arith)) }

pub leads_either : {A : Type 0} (c : Bool) (m k : Reader A) {ts : Toks} {P : A → Toks → Type 0} → Leads m ts P → Leads k ts P
    → Leads (λ us. elim c [ true ↦ m us | false ↦ k us ]) ts P
leads_either true m k f g = f
leads_either false m k f g = g

-- ---- parts that keep I

module _ {S : Type 0} (I : S → Toks → Type 0) (step : S → Reader S) (h : (s : S) (ts : Toks) → I s ts → Leads (step s) ts I) where
  pub leads_option : (w : String) (s : S) (ts : Toks) → I s ts → Leads (option w step s) ts I
  unfolding option if_ahead
  leads_option w s ts i = record { all = (leads_either (ahead w ts) (step s) (give s) (h s ts i) (leads_give s i)).all }

  leads_while_f : (test : Toks → Bool) (k : ℕ) (s : S) (ts : Toks) → I s ts → Leads (while_f test step k s) ts I
  unfolding while_f give
  leads_while_f test zero s ts i = leads_give s i
  leads_while_f test (suc k) s ts i =
      record { all = (leads_either (test ts) _ (give s) (leads_bind _ _ λ s' us q. leads_while_f test k s' us ((h s ts i).all s' us q)) (leads_give s i)).all }

  pub leads_while : (test : Toks → Bool) (s : S) (ts : Toks) → I s ts → Leads (while test step s) ts I
  unfolding while
  leads_while test s ts i = record { all = (leads_while_f test (suc (left ts)) s ts i).all }

  module _ (stable : (s : S) (us ts : Toks) → Rest us ts → I s ts → I s us) where
    pub leads_closed : (w : String) (s : S) (ts : Toks) → I s ts → Leads (closed w step s) ts (λ x us. I x.0 us)
    unfolding closed
    leads_closed w s ts i =
        leads_bind _ _ λ x vs q. leads_bind _ _ λ p us u. leads_give _
        (stable x us vs ((moves_leaves (moves_due _)).rest vs p us u) ((leads_while _ s ts i).all x vs q))

    pub leads_until : (w : String) (s : S) (ts : Toks) → I s ts → Leads (until w step s) ts I
    unfolding until
    leads_until w s ts i = leads_bind _ _ λ x us q. leads_give _ ((leads_closed w s ts i).all x us q)

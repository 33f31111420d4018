-- Where a declared body begins: behind its `{`, which stands behind its name; what is read from there is the body.
use mathlib.Core.Path.{◌≡◌, refl}
use Prim.Native.Nat.{ℕ}
use mathlib.Core.Bool.{Bool, true, false}
use mathlib.Core.List.{[], ◌∷◌, ◌++◌}
use Rattle.tokens.specs.Written.{bytes}
use Rattle.tokens.specs.Tokens.{Tok, Toks, tok}
use Rattle.meaning.specs.Bounds.{depth_most}
use Rattle.meaning.specs.Reader.{ok, ◌>>=◌, give, due}
use Rattle.meaning.specs.Names.{new_name}
use Rattle.meaning.specs.Statements.{Decl, Decls, Env, statements, declared}
use Rattle.meaning.specs.Document.{one_body, besides, pattern}
use Rattle.held.proofs.Leads.{Leads, leads_bind, leads_give, leads_if}
use Rattle.held.proofs.Due.{due_is}

-- `NAME { statements }` from ts, behind complete ones; a new name among those of its name space
pub record More (e : Env) (own : Bool) (names complete : Decls) (ts : Toks) (l : Decls) (us : Toks) : Type 0 where
  pub name : Tok
  pub brace : ℕ
  pub body : Decl
  pub named : new_name names ts ≡ ok name (tok (record { at = brace; word = bytes "{" }) body.from)
  pub read : statements e depth_most own body.from ≡ ok body.body us
  pub is : l ≡ complete ++ (name, body) ∷ []

-- read from where it begins
abbrev pub From : Env → Bool → Toks → Decl → Toks → Type 0
From e own ts d us = (d.from ≡ ts) × (statements e depth_most own ts ≡ ok d.body us)

pub declared_from : (e : Env) (own : Bool) (ts : Toks) → Leads (declared e own) ts (From e own ts)
unfolding declared
declared_from e own ts = record { all = read.all }
  where
    read : Leads {A = Decl} (statements e depth_most own >>= λ b. give (record { body = b; from = ts })) ts (From e own ts)
    read = leads_bind _ _ λ b us q. leads_give _ (refl, q)

pub one_body_lem : (e : Env) (n : ℕ) (complete : Decls) (ts : Toks) → Leads (one_body e n complete) ts (More e true complete complete ts)
unfolding one_body
one_body_lem e n complete ts =
    leads_bind _ _ λ t vs v. leads_if _ _ _ _ λ c. leads_bind _ _ λ p ws w. leads_bind _ _ λ d us u.
    let f = (declared_from e true ws).all d us u in
    leads_give _ (record { name = t; brace = p; body = d; named = rw (f.0, ← (due_is (bytes "{") vs).all p ws w) v; read = rw f.0 f.1; is = refl })

-- behind `Pattern`
pub one_pattern : (e : Env) (b : Tok) (ps : Decls) (ts : Toks)
    → Leads (pattern e b ps) ts (λ l us. (p : ℕ) × (vs : Toks) × (due "Pattern" ts ≡ ok p vs) × More e false (besides b ps) ps vs l us)
unfolding pattern
one_pattern e b ps ts =
    leads_bind _ _ λ q vs v. leads_if _ _ _ _ λ c. leads_bind _ _ λ t ws w. leads_bind _ _ λ p xs x. leads_bind _ _ λ d us u.
    let f = (declared_from e false xs).all d us u in
    leads_give _ (q, vs, v, record { name = t; brace = p; body = d; named = rw (f.0, ← (due_is (bytes "{") ws).all p xs x) w; read = rw f.0 f.1; is = refl })

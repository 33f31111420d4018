-- What every body has that is read where all declared ones have it, every pattern of a text has, and every part of its run.
use mathlib.Core.Path.{◌≡◌, refl, subst}
use Prim.Native.Nat.{ℕ}
use native.Mathlib.Omega.{arith}
use mathlib.Core.Bool.{Bool, true, false}
use mathlib.Core.Option.{Option, none, some}
use mathlib.Core.List.{List, [], ◌∷◌, ◌++◌}
use Rattle.tokens.specs.Written.{same}
use Rattle.tokens.specs.Tokens.{Tok}
use Rattle.meaning.specs.Bounds.{depth_most}
use Rattle.meaning.specs.Refusals.{not_defined}
use Rattle.meaning.specs.Reader.{ahead, option}
use Rattle.meaning.specs.Names.{find, old_name}
use Rattle.meaning.specs.Body.{Body, done, inner, entered, listed}
use Rattle.meaning.specs.Statements.{Decl, Decls, Env, for_patterns, statements, declared}
use Rattle.meaning.specs.Document.{one_body, one_macro, one_procedure, macro_defs, procedures, bodies, pattern, patterns, Read, document, document_up_to}
use Rattle.meaning.specs.Meaning.{Answer, given, refused, answering, run_of}
use Rattle.meaning.proofs.Gives.{known_ok, Gives, gives_bind, gives_after, gives_give, gives_option, gives_while, gives_until}
use Rattle.meaning.proofs.Choices.{gives_either}
use Rattle.meaning.proofs.Once.{gives_once}

-- P of each declared body
unfoldable pub Every : (Body → Type 0) → Decls → Type 0
Every P [] = Unit {0}
Every P (x ∷ l) = P x.1.body × Every P l

-- of each macro and procedure
abbrev pub Known : (Body → Type 0) → Env → Type 0
Known P e = Every P e.macros × Every P e.procs

-- the run: listed patterns one after the other, each with P
pub data Runs (P : Body → Type 0) : Body → Type 0 where
  no_more : Runs P done
  one_more_lem : {b r : Body} → P b → Runs P r → Runs P (inner (entered listed 0 []) b r)

module _ (P : Body → Type 0) where
  every_found : (l : Decls) → Every P l → (w : List ℕ) (d : Decl) → find l w ≡ some d → P d.body
  unfolding Every find
  every_found [] h w d e = let z : ◌≡◌ {A = ℕ} 0 1 = cc in absurd (omega arith)
  every_found (x ∷ l) h w d e = by (same x.0.word w) e (every_found l h.1 w d)
    where
      by : (c : Bool) → ◌≡◌ {A = Option Decl} (elim c [ true ↦ some x.1 | false ↦ find l w ]) (some d) → (find l w ≡ some d → P d.body) → P d.body
      by true e ih = let q : x.1 ≡ d = cc in subst (λ (y : Decl). P y.body) q h.0
      by false e ih = ih e

  pub every_name : (l : Decls) → Every P l → Gives (λ x. P x.1.body) (old_name l)
  unfolding old_name
  every_name l h =
      gives_after Q _ _ λ t. gives_bind (λ d. P d.body) Q _ _ (record { all = λ ts d us e. every_found l h t.word d (known_ok _ _ _ ts e) }) λ d q.
      gives_give Q (t, d) q
    where
      Q : Tok × Decl → Type 0
      Q x = P x.1.body

  pub every_more : (l : Decls) (t : Tok) (d : Decl) → Every P l → P d.body → Every P (l ++ (t, d) ∷ [])
  unfolding Every
  every_more [] t d h p = (p, tt)
  every_more (x ∷ l) t d h p = (h.0, every_more l t d h.1 p)

  pub runs : (ps : Decls) → Every P ps → (l : List Tok) (r : Body) → run_of ps l ≡ given r → Runs P r
  unfolding run_of answering
  runs ps h [] r e = let q : done ≡ r = cc in subst (Runs P) q no_more
  runs ps h (t ∷ l) r e = by (find ps t.word) refl e (runs ps h l)
    where
      on : (d : Decl) → P d.body → (a : Answer Body) → answering a (λ r. given (inner (entered listed 0 []) d.body r)) ≡ given r
          → ((s : Body) → a ≡ given s → Runs P s) → Runs P r
      on d p (given s) e ih = let q : inner (entered listed 0 []) d.body s ≡ r = cc in subst (Runs P) q (one_more_lem p (ih s refl))
      on d p (refused n q) e ih = let z : ◌≡◌ {A = ℕ} 0 1 = cc in absurd (omega arith)

      by : (o : Option Decl) → find ps t.word ≡ o
          → ◌≡◌ {A = Answer Body} (elim o [
            | none ↦ refused not_defined t.at
            | some d ↦ answering (run_of ps l) λ r. given (inner (entered listed 0 []) d.body r)
          ]) (given r)
          → ((s : Body) → run_of ps l ≡ given s → Runs P s) → Runs P r
      by none f e ih = let z : ◌≡◌ {A = ℕ} 0 1 = cc in absurd (omega arith)
      by (some d) f e ih = on d (every_found ps h t.word d f) (run_of ps l) e ih

  module _ (h : (e : Env) → Known P e → (own : Bool) → Gives P (statements e depth_most own)) where
    every_declared : (e : Env) → Known P e → (own : Bool) → Gives (λ d. P d.body) (declared e own)
    unfolding declared
    every_declared e k own = record { all = λ ts. (gives_bind P Q _ _ (h e k own) (λ b p. gives_give Q (record { body = b; from = ts }) p)).all ts }
      where
        Q : Decl → Type 0
        Q d = P d.body

    every_body : (e : Env) → Known P e → (n : ℕ) (l : Decls) → Every P l → Gives (Every P) (one_body e n l)
    unfolding one_body
    every_body e k n l q =
        gives_after (Every P) _ _ λ t. gives_after (Every P) _ _ λ u. gives_after (Every P) _ _ λ p.
        gives_bind (λ d. P d.body) (Every P) _ _ (every_declared e k true) λ d r. gives_give (Every P) _ (every_more l t d q r)

    known_macro : (e : Env) → Known P e → Gives (Known P) (one_macro e)
    unfolding one_macro
    known_macro e k = gives_bind (Every P) (Known P) _ _ (every_body e k _ e.macros k.0) λ l q. gives_give (Known P) _ (q, k.1)

    known_procedure : (e : Env) → Known P e → Gives (Known P) (one_procedure e)
    unfolding one_procedure
    known_procedure e k = gives_bind (Every P) (Known P) _ _ (every_body e k _ e.procs k.1) λ l q. gives_give (Known P) _ (k.0, q)

    known_macros : (e : Env) → Known P e → Gives (Known P) (macro_defs e)
    unfolding macro_defs
    known_macros e k = gives_after (Known P) _ _ λ p. gives_after (Known P) _ _ λ q. gives_until (Known P) "}" one_macro known_macro e k

    known_procedures : (e : Env) → Known P e → Gives (Known P) (procedures e)
    unfolding procedures
    known_procedures e k = gives_after (Known P) _ _ λ p. gives_after (Known P) _ _ λ q. gives_until (Known P) "}" one_procedure known_procedure e k

    known_bodies : (e : Env) → Known P e → Gives (Known P) (bodies e)
    unfolding bodies
    known_bodies e k = record { all = λ ts. (gives_either K (ahead "MacroDefs" ts) _ _ (gives_bind K K _ _ (known_macros e k) ps) (gives_bind K K _ _ (ps e k) ms)).all ts }
      where
        K : Env → Type 0
        K = Known P

        ms : (e : Env) → K e → Gives K (option "MacroDefs" macro_defs e)
        ms = gives_option K "MacroDefs" macro_defs known_macros

        ps : (e : Env) → K e → Gives K (option "Procedures" procedures e)
        ps = gives_option K "Procedures" procedures known_procedures

    every_pattern : (e : Env) → Known P e → (b : Tok) (l : Decls) → Every P l → Gives (Every P) (pattern e b l)
    unfolding pattern
    every_pattern e k b l q =
        gives_after (Every P) _ _ λ p. gives_after (Every P) _ _ λ u. gives_after (Every P) _ _ λ t. gives_after (Every P) _ _ λ v.
        gives_bind (λ d. P d.body) (Every P) _ _ (every_declared e k false) λ d r. gives_give (Every P) _ (every_more l t d q r)

    every_patterns : (e : Env) → Known P e → (b : Tok) → Gives (Every P) (patterns e b)
    unfolding patterns Every
    every_patterns e k b = gives_bind (Every P) (Every P) _ _ (every_pattern e k b [] tt) λ l q. gives_while (Every P) _ _ (every_pattern e k b) l q

    -- THE LAW: every pattern has P
    pub everywhere : Gives (λ d. Every P d.patterns) document
    unfolding document_up_to Every
    everywhere =
        gives_after Q _ _ λ x. gives_after Q _ _ λ y. gives_after Q _ _ λ z. gives_after Q _ _ λ ss. gives_after Q _ _ λ ns. gives_after Q _ _ λ tabs.
        gives_bind (Known P) Q _ _ (known_bodies _ (tt, tt)) λ e k. gives_after Q _ _ λ b. gives_after Q _ _ λ w.
        gives_bind (Every P) Q _ _ (gives_once (Every P) b.0.word _ (every_patterns (for_patterns e) k b.0)) λ l q. gives_give Q _ q
      where
        Q : Read → Type 0
        Q d = Every P d.patterns

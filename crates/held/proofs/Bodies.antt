-- What each declaration of a macro or procedure keeps, all of them keep.
use mathlib.Core.Path.{◌≡◌, refl}
use Prim.Native.String.{String}
use Rattle.tokens.specs.Tokens.{Toks}
use Rattle.meaning.specs.Reader.{Reader, ◌>>=◌, ◌>>◌, ahead, due, until, option}
use Rattle.meaning.specs.Signals.{Names}
use Rattle.meaning.specs.Timing.{Tables}
use Rattle.meaning.specs.Statements.{Env}
use Rattle.meaning.specs.Document.{one_macro, one_procedure, macro_defs, procedures, bodies}
use Rattle.held.proofs.Rest.{Rest, moves_leaves, moves_due}
use Rattle.held.proofs.Leads.{Leads, leads_bind, leads_give, leads_either, leads_option, leads_until}

module _ (I : Env → Toks → Type 0) (stable : (e : Env) (us ts : Toks) → Rest us ts → I e ts → I e us) where
  abbrev pub Keeping : (Env → Reader Env) → Type 0
  Keeping step = (e : Env) (ts : Toks) → I e ts → Leads (step e) ts I

  -- a block of them
  block : (w : String) (step : Env → Reader Env) → Keeping step → Keeping (λ e. do due w; due "{"; until "}" step e)
  block w step h e ts i = leads_bind _ _ λ p vs v. leads_bind _ _ λ q ws u. leads_until I step h stable "}" e ws
      (stable e ws vs ((moves_leaves (moves_due _)).rest vs q ws u) (stable e vs ts ((moves_leaves (moves_due _)).rest ts p vs v) i))

  module _ (macro : Keeping one_macro) (procedure : Keeping one_procedure) where
    leads_macros : Keeping macro_defs
    unfolding macro_defs
    leads_macros = block "MacroDefs" one_macro macro

    leads_procedures : Keeping procedures
    unfolding procedures
    leads_procedures = block "Procedures" one_procedure procedure

    both : (m n : Env → Reader Env) → Keeping m → Keeping n → (e : Env) (ts : Toks) → I e ts → Leads (m e >>= n) ts I
    both m n f g e ts i = leads_bind (m e) n λ e' us q. g e' us ((f e ts i).all e' us q)

    -- THE LAW: in either order
    pub leads_bodies : Keeping bodies
    unfolding bodies
    leads_bodies e ts i =
        let ms : Keeping (option "MacroDefs" macro_defs) = leads_option I macro_defs leads_macros "MacroDefs" in
        let ps : Keeping (option "Procedures" procedures) = leads_option I procedures leads_procedures "Procedures" in
        record { all = (leads_either (ahead "MacroDefs" ts) _ _ (both macro_defs _ leads_macros ps e ts i) (both (option "Procedures" procedures) _ ps ms e ts i)).all }

-- names and tables stay
abbrev pub Stays : Names → Tables → Env → Type 0
Stays ns tabs e = (e.names ≡ ns) × (e.tables ≡ tabs)

pub bodies_stay : (e : Env) (ts : Toks) → Leads (bodies e) ts (λ f us. Stays e.names e.tables f)
unfolding one_macro one_procedure
bodies_stay e ts =
    leads_bodies (λ f us. Stays e.names e.tables f) (λ f us ts r h. h)
    (λ f ts h. leads_bind _ _ λ l us q. leads_give _ h) (λ f ts h. leads_bind _ _ λ l us q. leads_give _ h) e ts (refl, refl)

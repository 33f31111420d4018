-- A body that is read is held where it is read.
use mathlib.Core.Path.{◌≡◌, refl, ◌∙◌}
use Prim.Native.Nat.{ℕ, zero, suc, ◌≤◌}
use native.Mathlib.Omega.{arith}
use mathlib.Core.Bool.{Bool, true, false}
use Rattle.tokens.specs.Tokens.{Tok, Toks, left}
use Rattle.meaning.specs.Refusals.{too_deep}
use Rattle.meaning.specs.Bounds.{depth_most}
use Rattle.meaning.specs.Reader.{Reader, ok, give}
use Rattle.meaning.specs.Names.{old_name}
use Rattle.meaning.specs.Signals.{Names}
use Rattle.meaning.specs.Body.{Kind, Body}
use Rattle.meaning.specs.Statements.{Decl, Decls, Env, Head, ends, vecs, sets, loops, shifts, uses, used, chosen, looping, shift_head, label_head, head, in_shift, behind, statements_f, statements}
use Rattle.meaning.proofs.Gives.{known_ok, bind_go, Gives, gives_bind, gives_after, gives_give, gives_choose}
use Rattle.meaning.proofs.Choices.{◌also◌}
use Rattle.held.specs.Held.{HeadAt, Holds, Stands, AllStand}
use Rattle.held.proofs.All.{all_found}
use Rattle.held.proofs.Again.{Later, grows_head}
use Rattle.held.proofs.Leads.{Leads, leads_bind, leads_give, leads_if, leads_refuse}
use Rattle.held.proofs.Due.{head_end, head_vector}

module _ (E : Env) where
  -- ---- a used body stands, for it was declared

  name_stands : (l : Decls) → AllStand E l → Gives (λ x. Stands E x.1) (old_name l)
  unfolding old_name
  name_stands l h =
      gives_after Q _ _ λ t. gives_bind (Stands E) Q _ _ (record { all = λ ts d us e. (all_found _ l h t.word d (known_ok _ _ _ ts e)).1 }) λ d q. gives_give Q (t, d) q
    where
      Q : Tok × Decl → Type 0
      Q x = Stands E x.1

  -- a head that uses no body, or one that stands
  abbrev Sound : Head → Type 0
  Sound ends = Unit {0}
  Sound (vecs p a) = Unit {0}
  Sound (sets x) = Unit {0}
  Sound (loops n) = Unit {0}
  Sound shifts = Unit {0}
  Sound (uses k x t a) = Stands E x

  used_sound : (k : Kind) (d : ℕ) (ns : Names) (l : Decls) → AllStand E l → Gives Sound (used k d ns l)
  unfolding used
  used_sound k d ns l h =
      gives_bind (λ x. Stands E x.1) Sound _ _ (name_stands l h) λ x q. gives_after Sound _ _ λ u. gives_after Sound _ _ λ a. gives_after Sound _ _ λ v.
      gives_give Sound _ q

  head_sound : (e : Env) → AllStand E e.macros → AllStand E e.procs → (own : Bool) (d : ℕ) (seen : Bool) → Gives Sound (head e own d seen)
  unfolding head chosen looping shift_head label_head
  head_sound e ms ps own d seen = gives_choose Sound _ (
      (λ p. gives_after Sound _ _ λ a. gives_give Sound _ tt)
      also (λ p. gives_after Sound _ _ λ a. gives_give Sound _ tt)
      also (λ p. gives_after Sound _ _ λ x. gives_after Sound _ _ λ q. gives_give Sound _ tt)
      also (λ p. gives_after Sound _ _ λ u. gives_after Sound _ _ λ n. gives_after Sound _ _ λ q. gives_give Sound _ tt)
      also (λ p. used_sound _ d e.names e.macros ms)
      also (λ p. used_sound _ d e.names e.procs ps)
      also (λ p. gives_after Sound _ _ λ u. gives_after Sound _ _ λ t. gives_after Sound _ _ λ q. gives_give Sound _ tt)
      also (λ p. gives_after Sound _ _ λ u. gives_after Sound _ _ λ v. gives_after Sound _ _ λ q. gives_give Sound _ tt)
      also (λ p. gives_give Sound _ tt)
      also tt)

  -- ---- statements

  -- a reader whose bodies are held
  abbrev Holding : Reader Body → Type 0
  Holding m = (ts : Toks) → Leads m ts (Holds E ts)

  holding_shift : Holding (in_shift E.names)
  unfolding in_shift Holds give
  holding_shift ts =
      leads_bind _ _ λ p vs v. leads_bind _ _ λ a ws w. leads_bind _ _ λ q us u. leads_if _ _ _ _ λ c. leads_give _
      (ws, head_vector E ts p vs v ∙ bind_go _ _ vs a ws w, head_end E ws q us u)

  module _ (ns : Names) (names : ns ≡ E.names) (within : Reader Body) (inside : Holding within) (on : Bool → Reader Body) (rest : (seen : Bool) → Holding (on seen)) where
    holding_behind : (seen : Bool) (h : Head) → Sound h → (ts vs : Toks) → HeadAt E ts h vs → Leads (behind ns within on seen h) vs (Holds E ts)
    unfolding behind Holds
    holding_behind seen ends s ts vs x = leads_give _ x
    holding_behind seen (vecs p a) s ts vs x = leads_bind _ _ λ r us q. leads_give _ (vs, x, (rest seen vs).all r us q)
    holding_behind seen (sets y) s ts vs x = leads_bind _ _ λ r us q. leads_give _ (vs, x, (rest seen vs).all r us q)
    holding_behind seen (loops n) s ts vs x =
        leads_bind _ _ λ b ws w. leads_bind _ _ λ r us q. leads_give _ (vs, ws, x, (inside vs).all b ws w, (rest seen ws).all r us q)
    holding_behind seen shifts s ts vs x =
        leads_bind _ _ λ b ws w. leads_bind _ _ λ r us q. leads_give _ (vs, ws, x, (holding_shift vs).all b ws (rw names at w), (rest true ws).all r us q)
    holding_behind seen (uses k y t a) s ts vs x = leads_bind _ _ λ r us q. leads_give _ (vs, s.0, y, x, refl, s.1, (rest seen vs).all r us q)

  module _ (e : Env) (later : Later e E) (macros : AllStand E e.macros) (procs : AllStand E e.procs) where
    holding_statements_f : (own : Bool) (d : ℕ) → d ≤ depth_most → (within : Reader Body) → Holding within → (k : ℕ) (seen : Bool) → Holding (statements_f e own d within k seen)
    unfolding statements_f
    holding_statements_f own d m within h zero seen ts = leads_refuse _ _
    holding_statements_f own d m within h (suc k) seen ts =
        leads_bind _ _ λ x vs q.
        holding_behind e.names later.names within h (statements_f e own d within k) (holding_statements_f own d m within h k) seen x ((head_sound e macros procs own d seen).all ts x vs q) ts vs
        ((grows_head e E later own d depth_most m seen).all ts x vs q)

    -- THE LAW: what is read as a body is held
    pub held : (d : ℕ) → d ≤ depth_most → (own : Bool) (ts : Toks) (b : Body) (us : Toks) → statements e d own ts ≡ ok b us → Holds E ts b us
    unfolding statements
    held zero m own ts = (holding_statements_f own zero m _ (λ vs. leads_refuse too_deep 0) (suc (left ts)) false ts).all
    held (suc d) m own ts =
        (holding_statements_f own (suc d) m (statements e d false) (λ vs. record { all = held d (omega arith) false vs }) (suc (left ts)) false ts).all

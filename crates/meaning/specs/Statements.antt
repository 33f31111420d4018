-- Reading statements (document 01, "Statements", "Bodies", "Shift", and depth in "Bounds"). A statement is read head first, up to where
-- the statements in it or behind it begin.
use Rattle.std.specs.Prelude.{ℕ, zero, suc, Bool, true, false, not, ◌&&◌, List, [], ◌∷◌, leb}
use Rattle.tokens.specs.Refusals.{not_here}
use Rattle.tokens.specs.Tokens.{Tok, Toks, left}
use Rattle.meaning.specs.Refusals.{bad_argument, too_deep}
use Rattle.meaning.specs.Bounds.{loop_most, depth_most}
use Rattle.meaning.specs.Lists.{empty}
use Rattle.meaning.specs.Reader.{Reader, refuse, ◌>>=◌, ◌>>◌, give, refuse_if, due, choose}
use Rattle.meaning.specs.Names.{name, old_name, number_in}
use Rattle.meaning.specs.Signals.{Names}
use Rattle.meaning.specs.Timing.{Tables}
use Rattle.meaning.specs.Body.{Assigns, Args, Setting, assigning, choosing, Kind, macro, procedure, looped, shifted, entered, Body, done, vec, set', inner, depth, marked, turns, fits}
use Rattle.meaning.specs.Data.{assigns, arguments}

-- a declared body, and the tokens from its first on, from where it is read at each use
pub record Decl : Type 0 where
  pub body : Body
  pub from : Toks

abbrev pub Decls : Type 0
Decls = List (Tok × Decl)

-- what is declared before a statement
pub record Env : Type 0 where
  pub names : Names
  pub tables : Tables
  pub macros : Decls
  pub procs : Decls
  -- does it stand in a pattern
  pub pattern : Bool

-- the same before a pattern's statements
abbrev pub for_patterns : Env → Env
for_patterns e = record { names = e.names; tables = e.tables; macros = e.macros; procs = e.procs; pattern = true }

-- the number of each name in its list, from n on
unfoldable pub numbered : {A : Type 0} → ℕ → List (Tok × A) → List (Tok × ℕ)
numbered n [] = []
numbered n (x ∷ xs) = (x.0, n) ∷ numbered (suc n) xs

pub data Head : Type 0 where
  -- `}`
  ends : Head
  -- `V { .. }` at its place
  vecs : ℕ → Assigns → Head
  -- `C { .. }`, `W NAME;`, and `X NAME;`, which assigns nothing
  sets : Setting → Head
  -- `Loop N {`
  loops : ℕ → Head
  -- `Shift {`
  shifts : Head
  -- a body used, its Shift played so often, with its arguments
  uses : Kind → Decl → ℕ → Args → Head

-- a body used where bodies of d more levels may stand
unfoldable pub used : Kind → ℕ → Names → Decls → Reader Head
used k d ns bodies = do
  x ← old_name bodies
  let b = x.1.body
  refuse_if (leb d (depth b)) too_deep x.0.at
  a ← arguments ns b
  refuse_if (not (fits b a.0)) bad_argument a.1
  give (uses k x.1 (turns b a.0) a.0)

unfoldable pub chosen : Tables → Reader Head
chosen tabs = do
  x ← old_name (numbered 0 tabs)
  due ";"
  give (sets (choosing x.1))

unfoldable pub looping : ℕ → ℕ → Reader Head
looping d p = do
  refuse_if (leb d 0) too_deep p
  n ← number_in 1 loop_most
  due "{"
  give (loops n)

unfoldable pub shift_head : Bool → ℕ → ℕ → Reader Head
shift_head may d p = do
  refuse_if (not may) not_here p
  refuse_if (leb d 0) too_deep p
  due "{"
  give shifts

-- an X stands in a pattern only; that its name is new is looked for in all patterns at once (Labels)
unfoldable pub label_head : Bool → ℕ → Reader Head
label_head may p = do
  refuse_if (not may) not_here p
  name
  due ";"
  give (sets (assigning []))

-- One statement's head. own: it stands directly in a macro or procedure; d: how many levels of bodies may stand in this one; seen: a
-- Shift came before.
unfoldable pub head : Env → Bool → ℕ → Bool → Reader Head
head e own d seen =
    choose (
    ("V", λ p. do a ← assigns e.names own; give (vecs p a))
    ∷ ("C", λ p. do a ← assigns e.names false; give (sets (assigning a)))
    ∷ ("W", λ p. chosen e.tables)
    ∷ ("Loop", looping d)
    ∷ ("Macro", λ p. used macro d e.names e.macros)
    ∷ ("Call", λ p. used procedure d e.names e.procs)
    ∷ ("X", label_head e.pattern)
    ∷ ("Shift", shift_head (own && not seen) d)
    ∷ ("}", λ p. give ends)
    ∷ [])

-- what a Shift holds, and its `}`
unfoldable pub in_shift : Names → Reader Body
in_shift ns = do
  p ← due "V"
  a ← assigns ns true
  q ← due "}"
  refuse_if (empty (marked a)) bad_argument q
  give (vec p a done)

-- what follows a head: `within` reads a Loop's body, `on` the statements behind (has a Shift come?)
unfoldable pub behind : Names → Reader Body → (Bool → Reader Body) → Bool → Head → Reader Body
behind ns within on seen ends = give done
behind ns within on seen (vecs p a) = do r ← on seen; give (vec p a r)
behind ns within on seen (sets x) = do r ← on seen; give (set' x r)
behind ns within on seen (loops n) = do b ← within; r ← on seen; give (inner (looped n) b r)
behind ns within on seen shifts = do b ← in_shift ns; r ← on true; give (inner shifted b r)
behind ns within on seen (uses k x t a) = do r ← on seen; give (inner (entered k t a) x.body r)

-- statements and their `}`; a turn takes a token, so that as many turns as there are tokens are enough
unfoldable pub statements_f : Env → Bool → ℕ → Reader Body → ℕ → Bool → Reader Body
statements_f e own d within zero seen ts = refuse not_here 0
statements_f e own d within (suc k) seen ts = (head e own d seen >>= behind e.names within (statements_f e own d within k) seen) ts

-- with at most d levels of bodies in them
unfoldable pub statements : Env → ℕ → Bool → Reader Body
statements e zero own ts = statements_f e own zero (λ us. refuse too_deep 0) (suc (left ts)) false ts
statements e (suc d) own ts = statements_f e own (suc d) (statements e d false) (suc (left ts)) false ts

-- a body behind its `{`
unfoldable pub declared : Env → Bool → Reader Decl
declared e own ts = (statements e depth_most own >>= λ b. give (record { body = b; from = ts })) ts

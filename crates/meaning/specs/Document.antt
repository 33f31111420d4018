-- The blocks of a text in order (document 01, "The text we read", "Bodies", "Run"): refusals 4 to 14.
use Rattle.std.specs.Prelude.{ℕ, ◌+◌, Bool, true, false, not, List, [], ◌∷◌, ◌++◌, length, leb}
use Rattle.tokens.specs.Tokens.{Tok, Toks, stop, tok}
use Rattle.meaning.specs.Refusals.{too_many}
use Rattle.meaning.specs.Bounds.{signals_most, groups_most, bodies_most, patterns_most, list_most}
use Rattle.meaning.specs.Reader.{Reader, ◌>>=◌, ◌>>◌, give, refuse_if, ahead, due, while, until, option}
use Rattle.meaning.specs.Names.{name, new_name, old_name}
use Rattle.meaning.specs.Labels.{each_once}
use Rattle.meaning.specs.Signals.{Names, signals_up_to}
use Rattle.meaning.specs.Groups.{groups_up_to}
use Rattle.meaning.specs.Timing.{Tables, timing}
use Rattle.meaning.specs.Body.{done}
use Rattle.meaning.specs.Statements.{Decls, Env, for_patterns, declared}

-- ---- MacroDefs and Procedures

-- `NAME { statements }` behind the complete ones of its kind; n of both kinds are complete
unfoldable pub one_body : Env → ℕ → Decls → Reader Decls
one_body e n complete = do
  t ← new_name complete
  refuse_if (leb bodies_most n) too_many t.at
  due "{"
  d ← declared e true
  give (complete ++ (t, d) ∷ [])

unfoldable pub bodies_of : Env → ℕ
bodies_of e = length e.macros + length e.procs

unfoldable pub one_macro : Env → Reader Env
one_macro e = do
  ms ← one_body e (bodies_of e) e.macros
  give (record { names = e.names; tables = e.tables; macros = ms; procs = e.procs; pattern = e.pattern })

unfoldable pub one_procedure : Env → Reader Env
one_procedure e = do
  ps ← one_body e (bodies_of e) e.procs
  give (record { names = e.names; tables = e.tables; macros = e.macros; procs = ps; pattern = e.pattern })

unfoldable pub macro_defs : Env → Reader Env
macro_defs e = do
  due "MacroDefs"
  due "{"
  until "}" one_macro e

unfoldable pub procedures : Env → Reader Env
procedures e = do
  due "Procedures"
  due "{"
  until "}" one_procedure e

-- each at most once, in either order
unfoldable pub bodies : Env → Reader Env
bodies e ts =
    elim (ahead "MacroDefs" ts) [
      | true ↦ (macro_defs e >>= option "Procedures" procedures) ts
      | false ↦ (option "Procedures" procedures e >>= option "MacroDefs" macro_defs) ts
    ]

-- ---- PatternBurst and PatternExec

unfoldable pub list_entry : List Tok → Reader (List Tok)
list_entry l = do
  t ← name
  refuse_if (leb list_most (length l)) too_many t.at
  due ";"
  give (l ++ t ∷ [])

-- the burst's name and the listed names
unfoldable pub burst : Reader (Tok × List Tok)
burst = do
  due "PatternBurst"
  t ← name
  due "{"
  due "PatList"
  due "{"
  l ← until "}" list_entry []
  due "}"
  give (t, l)

unfoldable pub exec : Tok → Reader ℕ
exec b = do
  due "PatternExec"
  due "{"
  due "PatternBurst"
  old_name {A = ℕ} ((b, 0) ∷ [])
  due ";"
  due "}"

-- ---- Patterns; the burst b and the X names share their name space

unfoldable pub besides : Tok → Decls → Decls
besides b ps = (b, record { body = done; from = stop 0 0 }) ∷ ps

unfoldable pub pattern : Env → Tok → Decls → Reader Decls
pattern e b ps = do
  p ← due "Pattern"
  refuse_if (leb patterns_most (length ps)) too_many p
  t ← new_name (besides b ps)
  due "{"
  d ← declared e false
  give (ps ++ (t, d) ∷ [])

-- has the text ended
unfoldable pub over : Toks → Bool
over (stop n p) = true
over (tok t ts) = false

unfoldable pub patterns : Env → Tok → Reader Decls
patterns e b = do
  ps ← pattern e b []
  while (λ ts. not (over ts)) (pattern e b) ps

-- ---- the whole text

pub record Read : Type 0 where
  pub signals : Names
  pub tables : Tables
  pub listed : List Tok
  pub patterns : Decls

-- where there may be so many signals and groups
unfoldable pub document_up_to : (most groups : ℕ) → Reader Read
document_up_to most groups = do
  due "STIL"
  due "1.0"
  due ";"
  ss ← signals_up_to most
  ns ← option "SignalGroups" (groups_up_to groups) ss
  tabs ← timing ns
  e ← bodies (record { names = ns; tables = tabs; macros = []; procs = []; pattern = false })
  b ← burst
  exec b.0
  ps ← each_once b.0.word (patterns (for_patterns e) b.0)
  give (record { signals = ss; tables = tabs; listed = b.1; patterns = ps })

abbrev pub document : Reader Read
document = document_up_to signals_most groups_most

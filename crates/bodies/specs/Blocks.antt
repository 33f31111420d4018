-- What the code has of MacroDefs and Procedures. Which of the two: is it MacroDefs?
use Rattle.std.specs.Prelude.{ℕ, ◌+◌, Bool, true, false, List}
use Prim.Native.String.{String}
use Rattle.meaning.specs.Reader.{Reader, ◌>>◌, due, until}
use Rattle.meaning.specs.Statements.{Env}
use Rattle.meaning.specs.Document.{one_macro, one_procedure}
use Rattle.timing.specs.Makes.{Makes}
use Rattle.words.specs.declared.Cursor.{Cursor}
use Rattle.noted.specs.Known.{Knows}
use Rattle.heads.specs.declared.Known.{Known}
use Rattle.heads.specs.Known.{Describes}
use Rattle.bodies.specs.declared.Blocks.{Blocks}

-- its word
abbrev pub word_of : Bool → String
word_of true = "MacroDefs"
word_of false = "Procedures"

-- how many are declared with one more of them
abbrev pub one_more : Known → Bool → Known
one_more known true = record { names = known.names; tables = known.tables; macros = known.macros + 1; procs = known.procs; pattern = known.pattern }
one_more known false = record { names = known.names; tables = known.tables; macros = known.macros; procs = known.procs + 1; pattern = known.pattern }

-- one body of it; its word and `{`, and then k; all of it
unfoldable pub one_of : Bool → Env → Reader Env
one_of true = one_macro
one_of false = one_procedure

abbrev pub opening : Bool → Reader Env → Reader Env
opening macros k = do
  due (word_of macros)
  due "{"
  k

abbrev pub block_of : Bool → Env → Reader Env
block_of macros e = opening macros (until "}" (one_of macros) e)

-- the tables describe all that is declared, and all of it is noted if what e declares was
pub record Declared (text places lists tplaces book rows : List ℕ) (known : Known) (N : Type 0) (used : List ℕ) (f : Env) : Type 0 where
  pub describes : Describes text places lists tplaces book rows known f
  pub knows : N → Knows known.tables used f

-- what `step` reads is declared too: where nothing was refused, the tables describe all
abbrev pub Declares : (text places lists tplaces book rows used : List ℕ) → Known → Cursor → (Env → Reader Env) → (book' rows' used' : List ℕ) → Blocks → Type 0
Declares text places lists tplaces book rows used known c step book' rows' used' r =
    (e : Env) → Describes text places lists tplaces book rows known e
    → Makes text c (step e) r.cursor (Declared text places lists tplaces book' rows' r.known (Knows known.tables used e) used')

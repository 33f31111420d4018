-- What is declared before a statement, as the code's tables have it.
use Rattle.std.specs.Prelude.{ℕ, ◌+◌, ◌≤◌, ◌≡◌, List, length}
use Rattle.meaning.specs.Bounds.{tables_most, bodies_most}
use Rattle.meaning.specs.Meaning.{firsts}
use Rattle.meaning.specs.Statements.{Env}
use Rattle.words.specs.Table.{names}
use Rattle.signals.specs.Names.{names_of}
use Rattle.assigns.specs.Given.{Ready}
use Rattle.measures.specs.Book.{first_procedure, book_length, rows_length, Listed, Used}
use Rattle.heads.specs.declared.Known.{Known}
use Rattle.heads.specs.declared.Declared.{Declared}

-- the tables and the counts of what they hold describe what is declared
pub record Describes (text places lists tplaces book rows : List ℕ) (known : Known) (e : Env) : Type 0 where
  pub names_are : e.names ≡ names_of text places lists known.names
  pub ready : Ready text places lists known.names
  pub tables_are : firsts e.tables ≡ firsts (names text tplaces known.tables)
  pub few_tables : known.tables ≤ tables_most
  pub book_long : length book ≡ book_length
  pub rows_long : length rows ≡ rows_length
  pub macros_counted : length e.macros ≡ known.macros
  pub procs_counted : length e.procs ≡ known.procs
  pub few_bodies : known.macros + known.procs ≤ bodies_most
  pub pattern_is : e.pattern ≡ known.pattern
  pub macros_are : Listed (Used text book rows) 0 e.macros
  pub procs_are : Listed (Used text book rows) first_procedure e.procs

-- they describe something
pub record Described (text places lists tplaces book rows : List ℕ) (known : Known) : Type 0 where
  pub env : Env
  pub describes : Describes text places lists tplaces book rows known env

-- what the code has as declared describes this
abbrev pub Describing : Declared → Env → Type 0
Describing d e = Describes d.text.now d.places.now d.lists.now d.tplaces.now d.book.now d.rows.now d.known e

-- it describes something
abbrev pub DescribingSome : Declared → Type 0
DescribingSome d = Described d.text.now d.places.now d.lists.now d.tplaces.now d.book.now d.rows.now d.known

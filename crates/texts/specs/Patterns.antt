-- What the code has of the blocks behind the bodies: the burst, what it lists, and the patterns. In the book the burst stands before the patterns, as a
-- body without statements, since they share a name space.
use Rattle.std.specs.Prelude.{ℕ, ◌≤◌, ◌≡◌, true, List, [], ◌∷◌, length}
use Rattle.tokens.specs.Tokens.{Tok, toks}
use Rattle.meaning.specs.Bounds.{patterns_most, list_most}
use Rattle.meaning.specs.Reader.{Reader, ◌>>=◌, ◌>>◌, give}
use Rattle.meaning.specs.Body.{done}
use Rattle.meaning.specs.Labels.{each_once}
use Rattle.meaning.specs.Statements.{Decl, Decls, Env, for_patterns}
use Rattle.meaning.specs.Document.{burst, exec, patterns}
use Rattle.measures.specs.Book.{burst as burst_at, Entry, Listed}
use Rattle.noted.specs.Known.{AllNoted, Knows}
use Rattle.heads.specs.declared.Known.{Known}
use Rattle.heads.specs.Known.{Describes}
use Rattle.bursts.specs.Listed.{listed_in}
use Rattle.texts.specs.declared.Ended.{Ended}

abbrev pub burst_as : List ℕ → Tok → Tok × Decl
burst_as text b = (b, record { body = done; from = toks text 0 })

-- the book has the patterns ps, `count` of them, behind the burst b; before them e is declared. They are noted if the bodies that e knows were
pub record Patterned (text places lists tplaces book rows : List ℕ) (known : Known) (count : ℕ) (e : Env) (b : Tok) (used₀ used : List ℕ) (ps : Decls) : Type 0 where
  pub describes : Describes text places lists tplaces book rows known e
  pub entries : Listed (Entry text book) burst_at (burst_as text b ∷ ps)
  pub counted : length ps ≡ count
  pub few : count ≤ patterns_most
  pub noted : Knows known.tables used₀ e → Knows known.tables used e × AllNoted known.tables used ps

-- the burst is kept, and no pattern yet
pub record Begun (text places lists tplaces book rows : List ℕ) (known : Known) (used : List ℕ) : Type 0 where
  pub env : Env
  pub name : Tok
  pub patterned : Patterned text places lists tplaces book rows known 0 env name used used []

-- the blocks behind the bodies: the burst's name, the listed names, and the patterns, each name used once
unfoldable pub ending : Env → Reader (Tok × List Tok × Decls)
ending e = do
  b ← burst
  exec b.0
  ps ← each_once b.0.word (patterns (for_patterns e) b.0)
  give (b.0, b.1, ps)

-- the same before a pattern's statements
abbrev pub in_patterns : Known → Known
in_patterns known = record { names = known.names; tables = known.tables; macros = known.macros; procs = known.procs; pattern = true }

pub record Ends (text places lists tplaces book rows list : List ℕ) (known : Known) (r : Ended) (e : Env) (used₀ used : List ℕ) (x : Tok × List Tok × Decls)
    : Type 0 where
  pub known_is : r.known ≡ in_patterns known
  pub patterned : Patterned text places lists tplaces book rows (in_patterns known) r.patterns (for_patterns e) x.0 used₀ used x.2
  pub listed_are : x.1 ≡ listed_in text list r.listed
  pub few_listed : r.listed ≤ list_most

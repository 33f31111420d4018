-- What the one function behind all services without rows promises: a text is refused as the definition refuses it, or what is wanted of it is told.
use Rattle.std.specs.Prelude.{ℕ, ◌≡◌, Bool, true, false, List, Option, Some, None, Result, Ok, Err}
use Rattle.tokens.specs.Tokens.{Tok}
use Rattle.tokens.specs.declared.Refusal.{Refusal}
use Rattle.meaning.specs.Refusals.{no_such}
use Rattle.meaning.specs.Meaning.{Answer, given, refused, table_at, firsts, Meaning, meaning}
use Rattle.meaning.specs.Services.{counts, Which, signal, table, name_at, names_of}
use Rattle.words.specs.Table.{names}
use Rattle.timing.specs.Watch.{Watched}
use Rattle.texts.specs.Told.{counts_in}
use Rattle.texts.specs.declared.Verdict.{Verdict}
use Rattle.verdicts.specs.declared.Wanted.{Wanted}
use Rattle.verdicts.specs.declared.Name.{Name}
use Rattle.verdicts.specs.declared.Judged.{Judged}

-- the names of tables, or of signals
abbrev pub which_of : Bool → Which
which_of true = table
which_of false = signal

-- a name's place and length, or that there is none
abbrev pub named_of : Option Name → Answer (ℕ × ℕ)
named_of (Some n) = given (n.at, n.length)
named_of None = refused no_such 0

-- the names that are numbered: of tables, or of signals
abbrev pub numbered : Bool → List ℕ → (places tplaces : List ℕ) → (signals tables : ℕ) → List Tok
numbered true text places tplaces signals tables = firsts (names text tplaces tables)
numbered false text places tplaces signals tables = firsts (names text places signals)

pub record Tells (text : List ℕ) (w : Wanted) (r : Judged) (m : Meaning) : Type 0 where
  pub counts_are : counts m ≡ counts_in r.counts
  pub name_is : name_at (names_of (which_of w.table) m) w.number ≡ named_of r.name
  pub watched : Watched text w.watch r.sight (table_at m.tables w.watch.table)

abbrev pub Judges : List ℕ → Wanted → Result Judged Refusal → Type 0
Judges text w (Ok j) = (m : Meaning) × (meaning text ≡ given m) × Tells text w j m
Judges text w (Err r) = meaning text ≡ refused r.no r.place

-- ---- what is told is what was decided, and the name by its number

pub record Copies (text places tplaces : List ℕ) (v : Verdict) (w : Wanted) (r : Judged) : Type 0 where
  pub counts_are : counts_in r.counts ≡ record {
    signals = v.parts.signals;
    tables = v.parts.known.tables;
    listed = v.parts.listed;
    cycles = v.total.cycles;
    size = v.total.size;
  }
  pub name_is : name_at (numbered w.table text places tplaces v.parts.signals v.parts.known.tables) w.number ≡ named_of r.name
  pub sight_is : r.sight ≡ v.parts.sight

-- The references of the pattern that a report names: what the code finds in the text, and what it has of it then.
use Rattle.std.specs.Prelude.{ℕ, ◌≤◌, ◌≡◌, List, length, get_or}
use Rattle.std.proofs.Math.Option.{none, some}
use Rattle.tokens.specs.Refusals.{text_most}
use Rattle.tokens.specs.Tokens.{Toks}
use Rattle.meaning.specs.Bounds.{patterns_most, depth_most, cycles_most}
use Rattle.meaning.specs.Names.{find}
use Rattle.meaning.specs.Body.{depth}
use Rattle.meaning.specs.Labels.{used_twice}
use Rattle.meaning.specs.Run.{cycles}
use Rattle.meaning.specs.Statements.{Decl, Decls, Env}
use Rattle.meaning.proofs.Turns.{Plain}
use Rattle.held.specs.Held.{Stands}
use Rattle.measures.specs.Book.{first_pattern, Entry, Listed}
use Rattle.heads.specs.declared.Known.{Known}
use Rattle.heads.specs.Known.{Describes}
use Rattle.labels.specs.Table.{labels_most, Held}
use Rattle.references.specs.References.{past_by, past}
use Rattle.references.specs.Filled.{noted}
use Rattle.references.proofs.Parted.{Parted}

-- the pattern d of this name is held in the text, whose tables these are; no label of the text is used twice
pub record Pattern (text places lists tplaces book rows : List ℕ) (known : Known) (patterns : ℕ) (name : List ℕ) (E : Env) (ps : Decls) (d : Decl) : Type 0 where
  pub describes : Describes text places lists tplaces book rows known E
  pub book_are : Listed (Entry text book) first_pattern ps
  pub counted : length ps ≡ patterns
  pub few : patterns ≤ patterns_most
  pub found : find ps name ≡ some d
  pub stands : Stands E d
  pub deep : depth d.body ≤ depth_most
  pub plain : Plain d.body
  pub fits : cycles 0 d.body ≤ cycles_most
  pub short : length text ≤ text_most
  pub burst : List ℕ
  pub all : Toks
  pub once : used_twice burst all ≡ none
  pub parted : Parted d.from all

pub record SomePattern (text places lists tplaces book rows : List ℕ) (known : Known) (patterns : ℕ) (name : List ℕ) : Type 0 where
  pub env : Env
  pub decls : Decls
  pub decl : Decl
  pub pattern : Pattern text places lists tplaces book rows known patterns name env decls decl

-- tables that are lent empty
pub record Blank (text labels chains nexts table : List ℕ) : Type 0 where
  pub held : Held text labels chains nexts 0
  pub long : labels_most ≤ length table
  pub empty : (i : ℕ) → get_or table i 0 ≡ 0

-- THE PROMISE: the tables hold so many labels, and tell how many cycles of the pattern come before each reference
pub record Refers (text places lists tplaces book rows : List ℕ) (known : Known) (patterns : ℕ) (name labels chains nexts table : List ℕ) (count : ℕ) : Type 0 where
  pub held : Held text labels chains nexts count
  pub room : count ≤ length table
  pub past_is : (E : Env) (ps : Decls) (d : Decl) → Pattern text places lists tplaces book rows known patterns name E ps d
      → (w : List ℕ) → past_by name (noted text labels count table) w ≡ past E d.from d.body name w

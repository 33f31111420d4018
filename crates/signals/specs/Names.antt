-- What the code's tables of names stand for: each name of a signal or group by its place and end, and its signals in a row of their own.
use Rattle.std.specs.Prelude.{ℕ, suc, ◌+◌, ◌*◌, ◌≤◌, ◌<◌, ◌≡◌, true, List, [], ◌∷◌, ◌++◌, length, get_or, take, drop}
use Rattle.tokens.specs.Tokens.{Tok}
use Rattle.meaning.specs.Bounds.{signals_most, groups_most}
use Rattle.meaning.specs.Reader.{Reader, ◌>>=◌, give, option}
use Rattle.meaning.specs.Signals.{Names, signals}
use Rattle.meaning.specs.Groups.{term, terms, bracket, groups}
use Rattle.sets.specs.Sets.{list_of}
use Rattle.sets.specs.declared.Set.{Set}
use Rattle.sets.proofs.Tidy.{TidyBelow}
use Rattle.words.specs.Cursor.{ahead, alive, Goes}
use Rattle.words.specs.Table.{name_of, names, named}
use Rattle.words.specs.Chains.{chains_most, chain_of}
use Rattle.words.specs.declared.Cursor.{Cursor}

-- how many names there may be: signals and groups
abbrev pub names_most : ℕ
names_most = signals_most + groups_most

-- a row: how many signals, and then places for as many as there may be
abbrev pub row_length : ℕ
row_length = signals_most + 1

-- places: two numbers a name; behind them for each name the one before it in its chain, and for each chain its last name
abbrev pub places_length : ℕ
places_length = names_most * 3 + chains_most

-- a name stands there by its number and 1, none by 0
abbrev pub earlier_at : List ℕ → ℕ → ℕ
earlier_at places i = get_or places (names_most * 2 + i) 0

abbrev pub last_at : List ℕ → ℕ → ℕ
last_at places h = get_or places (names_most * 3 + h) 0

-- the name of number j is in another chain
abbrev pub Apart : List ℕ → List ℕ → ℕ → ℕ → Type 0
Apart text places h j = chain_of (name_of text places j).word ≡ h → ⊥

-- from a link on, chain h leads to each of the first b names that are in it
pub data Linked (text places : List ℕ) (h : ℕ) : ℕ → ℕ → Type 0 where
  ended : {b : ℕ} → ((j : ℕ) → j < b → Apart text places h j) → Linked text places h 0 b
  link : {i b : ℕ} → i < b → ((j : ℕ) → i < j → j < b → Apart text places h j) → Linked text places h (earlier_at places i) i → Linked text places h (suc i) b

-- each of the first `count` names stands in its chain
pub record Chained (text places : List ℕ) (count : ℕ) : Type 0 where
  pub long : length places ≡ places_length
  pub few : count ≤ names_most
  pub each : (h : ℕ) → h < chains_most → Linked text places h (last_at places h) count

-- no chain has a name yet
pub record Unchained (places : List ℕ) : Type 0 where
  pub none : (h : ℕ) → h < chains_most → last_at places h ≡ 0

-- tables of the right length
pub record Sized (places lists : List ℕ) : Type 0 where
  pub all : length places ≡ places_length
  pub rows : length lists ≡ names_most * row_length

-- the signals of the name of number i
unfoldable pub list_at : List ℕ → ℕ → List ℕ
list_at lists i = take (get_or lists (i * row_length) 0) (take signals_most (drop (i * row_length + 1) lists))

-- the first names of the tables, each with its signals
abbrev pub names_of : List ℕ → List ℕ → List ℕ → ℕ → Names
names_of text places lists count = named (list_at lists) (names text places count)

-- the row of number i was written: the rows before it are as they were
pub record Written (before : List ℕ) (i : ℕ) (set : Set) (behind : List ℕ) : Type 0 where
  pub long : length behind ≡ length before
  pub earlier : (j : ℕ) → j < i → list_at behind j ≡ list_at before j
  pub row : list_at behind i ≡ list_of set

-- the name of number i was put to its place, as the last one of chain h
pub record Put (before : List ℕ) (i at end h : ℕ) (behind : List ℕ) : Type 0 where
  pub long : length behind ≡ length before
  pub place : get_or behind (i * 2) 0 ≡ at
  pub end_is : get_or behind (i * 2 + 1) 0 ≡ end
  pub names : (j : ℕ) → j < i * 2 → get_or behind j 0 ≡ get_or before j 0
  pub linked : earlier_at behind i ≡ last_at before h
  pub links : (j : ℕ) → j < i → earlier_at behind j ≡ earlier_at before j
  pub last : last_at behind h ≡ suc i
  pub lasts : (k : ℕ) → k < chains_most → (k ≡ h → ⊥) → last_at behind k ≡ last_at before k

-- one name more stands behind `count` names: the one at the cursor, with a set's signals
pub record Added (text places lists : List ℕ) (count : ℕ) (c : Cursor) (set : Set) (places' lists' : List ℕ) : Type 0 where
  pub names : names_of text places lists count ++ (ahead text c, list_of set) ∷ [] ≡ names_of text places' lists' (count + 1)
  pub sized : Sized places' lists'
  pub chained : Chained text places' (count + 1)

-- THE PROMISE of a function that reads names into the tables: the reader m goes from c to r, and answers the first `count` names there
pub record Named (text : List ℕ) (c : Cursor) (m : Reader Names) (r : Cursor) (places lists : List ℕ) (count : ℕ) : Type 0 where
  pub goes : Goes text c m r (names_of text places lists count)
  pub sized : Sized places lists
  pub chained : alive r ≡ true → Chained text places count

-- every name's signals differ, and lie below a bound
pub data AllTidy (most : ℕ) : Names → Type 0 where
  none : AllTidy most []
  more : {t : Tok} {l : List ℕ} {ns : Names} → TidyBelow most l → AllTidy most ns → AllTidy most ((t, l) ∷ ns)

-- tables whose names an expression may use
pub record Usable (text places lists : List ℕ) (count : ℕ) : Type 0 where
  pub sized : Sized places lists
  pub chained : Chained text places count
  pub tidy : AllTidy signals_most (names_of text places lists count)

-- a term, and an expression, in which brackets may stand d deep
abbrev pub term_within : ℕ → Names → Reader (List ℕ × ℕ)
term_within d ns = term (bracket d ns) ns

abbrev pub expression_within : ℕ → Names → Reader (List ℕ)
expression_within d ns = terms (bracket d ns) ns

-- Signals, and SignalGroups, which may be missing: the signals, and all names
unfoldable pub front : Reader (Names × Names)
front = do
  ss ← signals
  ns ← option "SignalGroups" groups ss
  give (ss, ns)

-- both blocks were read into the tables
pub record Fronted (text : List ℕ) (c r : Cursor) (places lists : List ℕ) (signals names : ℕ) : Type 0 where
  pub goes : Goes text c front r (names_of text places lists signals, names_of text places lists names)
  pub sized : Sized places lists
  pub chained : alive r ≡ true → Chained text places names

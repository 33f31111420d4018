-- Signals (document 01).
use Rattle.std.specs.Prelude.{ℕ, List, [], ◌∷◌, ◌++◌, length, leb}
use Prim.Native.String.{String}
use Rattle.tokens.specs.Tokens.{Tok}
use Rattle.meaning.specs.Refusals.{too_many}
use Rattle.meaning.specs.Bounds.{signals_most}
use Rattle.meaning.specs.Reader.{Reader, ◌>>=◌, ◌>>◌, give, refuse_if, due, until}
use Rattle.meaning.specs.Names.{new_name, due_among}

-- the names of signals and groups, each with its signals by number, in order
abbrev pub Names : Type 0
Names = List (Tok × List ℕ)

unfoldable pub directions : List String
directions = "In" ∷ "Out" ∷ "InOut" ∷ []

-- a signal, where there may be so many
unfoldable pub signal_up_to : ℕ → Names → Reader Names
signal_up_to most ns = do
  t ← new_name ns
  refuse_if (leb most (length ns)) too_many t.at
  due_among directions
  due ";"
  give (ns ++ (t, length ns ∷ []) ∷ [])

unfoldable pub signals_up_to : ℕ → Reader Names
signals_up_to most = do
  due "Signals"
  due "{"
  ns ← signal_up_to most []
  until "}" (signal_up_to most) ns

abbrev pub signal : Names → Reader Names
signal = signal_up_to signals_most

abbrev pub signals : Reader Names
signals = signals_up_to signals_most

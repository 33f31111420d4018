-- What is told of a text's declarations: the refusal, or where the token behind them stands and how many signals, names and tables there are.
use Rattle.std.specs.Prelude.{ℕ, List, [], ◌∷◌, ◌++◌, true, false, length, drop, leb, Result, Ok, Err}
use Rattle.std.proofs.Math.Option.{none, some}
use Rattle.tokens.specs.Tokens.{Toks, stop, tok, toks, fault_of}
use Rattle.meaning.specs.Reader.{Res, ok, refuse}
use Rattle.meaning.specs.Signals.{Names}
use Rattle.meaning.specs.Timing.{Tables}
use Rattle.declared.specs.Declarations.{declarations}
use Rattle.tokens.specs.declared.Refusal.{Refusal}
use Rattle.declared.specs.declared.Told.{Told}

-- where the next token stands, or the tokens stop
unfoldable pub place_of : Toks → ℕ
place_of (stop n p) = p
place_of (tok t ts) = t.at

unfoldable pub numbers_of : Res (Names × Names × Tables) → Result Told Refusal
numbers_of (ok a ts) = Ok (record { place = place_of ts; signals = length a.0; names = length a.1; tables = length a.2 })
numbers_of (refuse n p) = Err (record { no = n; place = p })

unfoldable pub told_of : List ℕ → Result Told Refusal
told_of text = elim (fault_of text) [ some f ↦ Err (record { no = f.0; place = f.1 }) | none ↦ numbers_of (declarations (toks text 0)) ]

-- as five numbers: that of the refusal (0: none), its place or that of the token behind the declarations, and how many signals, names and tables there are
abbrev pub five_of : Result Told Refusal → List ℕ
five_of (Ok t) = 0 ∷ t.place ∷ t.signals ∷ t.names ∷ t.tables ∷ []
five_of (Err r) = r.no ∷ r.place ∷ 0 ∷ 0 ∷ 0 ∷ []

-- they stand at the front of a buffer, if it has room for them
unfoldable pub written : Result Told Refusal → List ℕ → List ℕ
written t buffer = elim (leb 5 (length buffer)) [ true ↦ five_of t ++ drop 5 buffer | false ↦ buffer ]

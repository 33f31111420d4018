-- Of every text, the few turns find the first cycle of the run that cannot be played.
use mathlib.Core.Path.{◌≡◌, sym}
use Prim.Native.Nat.{ℕ}
use mathlib.Core.List.{List}
use Rattle.tokens.specs.Tokens.{Toks, toks}
use Rattle.meaning.specs.Reader.{ok}
use Rattle.meaning.specs.Body.{Body}
use Rattle.meaning.specs.Document.{Read, document}
use Rattle.meaning.specs.Run.{start, cycles_of}
use Rattle.meaning.specs.Meaning.{given, run_of, first_failing}
use Rattle.meaning.proofs.TwoTurns.{run_good}
use Rattle.turns.specs.Few.{play_few, open_most}
use Rattle.turns.proofs.Decides.{few_decides}

pub few_turns_lem : (text : List ℕ) (d : Read) (ts : Toks) (r : Body) → document (toks text 0) ≡ ok d ts → run_of d.patterns d.listed ≡ given r
    → (n : ℕ) → first_failing d.tables (cycles_of n r) ≡ first_failing d.tables (play_few open_most 0 r (start n)).1
unfolding cycles_of
few_turns_lem text d ts r e f n = sym (few_decides 0 r (run_good text d ts r e f) (start n) d.tables).1

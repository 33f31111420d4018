-- THE THEOREM: of every text, at most two turns of each Loop find the first cycle of the run that cannot be played.
use mathlib.Core.Path.{◌≡◌}
use Prim.Native.Nat.{ℕ}
use mathlib.Core.List.{List}
use Rattle.tokens.specs.Tokens.{Toks, toks}
use Rattle.meaning.specs.Bounds.{depth_most}
use Rattle.meaning.specs.Reader.{ok}
use Rattle.meaning.specs.Body.{Body}
use Rattle.meaning.specs.Document.{Read, document}
use Rattle.meaning.specs.Run.{start, cycles_of}
use Rattle.meaning.specs.Meaning.{given, run_of, first_failing}
use Rattle.meaning.proofs.Turns.{Good, play_two, first_failing_two}
use Rattle.meaning.proofs.Plain.{read_good}
use Rattle.meaning.proofs.Everywhere.{Runs, no_more, one_more_lem, runs, everywhere}

good_run : {r : Body} → Runs Good r → Good r
unfolding Good
good_run no_more = tt
good_run (one_more_lem p h) = (tt, p, good_run h)

pub run_good : (text : List ℕ) (d : Read) (ts : Toks) (r : Body) → document (toks text 0) ≡ ok d ts → run_of d.patterns d.listed ≡ given r → Good r
run_good text d ts r e f =
    let every = (everywhere Good (λ e k own. read_good e k depth_most own)).all (toks text 0) d ts e in
    good_run (runs Good d.patterns every d.listed r f)

pub two_turns : (text : List ℕ) (d : Read) (ts : Toks) (r : Body) → document (toks text 0) ≡ ok d ts → run_of d.patterns d.listed ≡ given r
    → (n : ℕ) → first_failing d.tables (cycles_of n r) ≡ first_failing d.tables (play_two 0 r (start n)).1
unfolding cycles_of
two_turns text d ts r e f n = first_failing_two d.tables 0 r (run_good text d ts r e f) (start n)

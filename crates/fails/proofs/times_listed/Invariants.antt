use Prim.Native.Nat.{◌-◌}
use Rattle.meaning.specs.Body.{Body}
use Rattle.meaning.specs.Statements.{Decls}
use Rattle.index.specs.Lines.{Lists}
use Rattle.fails.proofs.Listing.{Seen}
use Rattle.fails.proofs.times_listed.Given as goal

abbrev pub invariant-loop-k : goal.invariant-loop-k
invariant-loop-k l =
    (ps : Decls) (run : Body) (h : Lists l.text l.book l.list l.listed l.patterns ps run) → Seen h l.w l.t l.reached l.k

abbrev pub decreases-loop-k : goal.decreases-loop-k
decreases-loop-k l =
    l.listed - l.k

-- None is marked, or each turn takes the next table.
use Prim.Native.Nat.{◌+◌, ◌*◌}
use native.Mathlib.Omega.{arith}
use Rattle.tallies.specs.Rows.{row_size}
use Rattle.tallies.proofs.Stored.{flag_is, none_marked}
use Rattle.tallies.proofs.Grown.{more_none}
use Rattle.tallies.proofs.Showing.{showing_kept, showing_next}
use Rattle.tallies.proofs.show_tables.Goals.{then-byte-ne0, else-byte-ne0}
use Rattle.tallies.proofs.show_tables.Goals as goal

pub returns-then-not-any_marked : goal.returns-then-not-any_marked
returns-then-not-any_marked c = (
  more_none,
  λ tabs m k h e. absurd (flag_is e (none_marked c.args.sums.now (c.args.from * row_size + c.args.place) (c.any_marked.ensures c.if-not-any_marked.true) (omega arith) h (omega arith))),
)

pub loop-t-preserved : goal.loop-t-preserved
loop-t-preserved c =
    let y = c.loop-t.invariant in
    elim c.if-byte-ne0.branch [
      | then-byte-ne0 w ↦ rw w.sums-is (showing_next y (omega arith) w.show.ensures.0 w.show.ensures.1)
      | else-byte-ne0 w ↦ rw w.sums-is (showing_kept y c.requires.2 (omega arith) c.byte.ensures w.if-byte-ne0.false)
    ]

pub returns : goal.returns
returns c = let y = c.loop-t.invariant in (y.more, λ tabs m k h. y.shows tabs m k (omega arith))

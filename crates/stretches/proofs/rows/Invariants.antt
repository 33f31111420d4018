use Prim.Native.Nat.{◌-◌}
use Rattle.stretches.specs.Rows.{rows_in, signal_words, table_words}
use Rattle.stretches.proofs.Taking.{Amid}
use Rattle.stretches.proofs.rows.Given as goal

abbrev pub invariant-loop-r : goal.invariant-loop-r
invariant-loop-r l = Amid (signal_words l.names) (table_words l.names) l.names.signals l.initial.page l.initial.g l.initial.hand (rows_in l.names.signals l.buffer 0 l.count) (rows_in l.names.signals l.buffer l.r (l.count - l.r)) l.r l.page l.g l.hand

-- `window` meets its contract: the rows that the window wrote are taken, and of an accepted text they are its cycles'.
use Rattle.stretches.proofs.Laws.{rows_long}
use Rattle.flats.proofs.Showing.{accepts, shows_rows}
use Rattle.flats.proofs.window.Goals as goal

pub window-requires : goal.window-requires
window-requires c = record { parts = _; read = _; it = _; accepts = accepts c.requires.is_meant _ _ c.requires.there c.args.buffer.now c.requires.room }

pub returns : goal.returns
returns c = record { shown = _; many = rows_long _ _ 0 c.args.due; takes = c.rows.ensures; are = λ m h t. shows_rows h _ _ t (c.window.ensures _ _ _ (accepts h _ _ t c.args.buffer.now c.requires.room)) }

-- `table` meets its contract: where reading goes on behind the head there is room for a table, and its part of the marks is free.
use native.Mathlib.Omega.{arith}
use mathlib.Core.Path.{◌≡◌, ◌∙◌}
use mathlib.Core.List.{[]}
use lib.ListN.{length, length-set, length-take, length-drop}
use lib.Dec.{eqb}
use borrow.Author.Tests.{eq-eqb, ne_eqb, eqb-true}
use Rattle.tokens.specs.Written.{bytes}
use Rattle.signals.specs.Names.{names_of}
use Rattle.timing.specs.Marks.{table_size}
use Rattle.timing.proofs.TableReading.{part, part_free, held_more, watched_here, watched_other, table_room, table_stops, table_reads}
use Rattle.timing.proofs.Watching.{watched_none}
use Rattle.timing.proofs.table.Goals.{then-here, else-here}
use Rattle.timing.proofs.table.Goals as goal

pub returns-then-e-ne0 : goal.returns-then-e-ne0
unfolding bytes
returns-then-e-ne0 c = λ tabs a. table_stops c.args.tplaces.now c.due-a.ensures c.refuse_if-b.ensures c.new_name-d.ensures c.head-headed.ensures (names_of c.args.text.now c.args.places.now c.args.lists.now c.args.names) a.held (ne_eqb c.head-headed.result.cursor.no 0 c.if-e-ne0.true)

pub bounds-tplaces-k : goal.bounds-tplaces-k
unfolding bytes
bounds-tplaces-k c = omega (arith, table_room c.args.tplaces.now c.due-a.ensures c.refuse_if-b.ensures c.new_name-d.ensures c.head-headed.ensures (eq-eqb c.head-headed.result.cursor.no 0 c.if-e-ne0.false), c.requires.tplaces_len.0)

pub bounds-tplaces-k-2 : goal.bounds-tplaces-k-2
unfolding bytes
bounds-tplaces-k-2 c = simp length-set (omega (arith, table_room c.args.tplaces.now c.due-a.ensures c.refuse_if-b.ensures c.new_name-d.ensures c.head-headed.ensures (eq-eqb c.head-headed.result.cursor.no 0 c.if-e-ne0.false), c.requires.tplaces_len.0))

pub slice_bounds-marks-end : goal.slice_bounds-marks-end
unfolding bytes
slice_bounds-marks-end c = omega (arith, table_room c.args.tplaces.now c.due-a.ensures c.refuse_if-b.ensures c.new_name-d.ensures c.head-headed.ensures (eq-eqb c.head-headed.result.cursor.no 0 c.if-e-ne0.false), c.requires.tplaces_len.1)

pub block-z-requires : goal.block-z-requires
unfolding bytes
block-z-requires c = let room = table_room c.args.tplaces.now c.due-a.ensures c.refuse_if-b.ensures c.new_name-d.ensures c.head-headed.ensures (eq-eqb c.head-headed.result.cursor.no 0 c.if-e-ne0.false) in
    (simp (length-take, length-drop) (omega (arith, room, c.requires.tplaces_len.1)), c.requires.tplaces_len.2, c.requires.tplaces_len.3, record { waves = []; marks = part_free c.requires.held.1 room })

pub returns-then-here-2 : goal.returns-then-here-2
unfolding bytes
returns-then-here-2 c = λ tabs a.
    let room = table_room c.args.tplaces.now c.due-a.ensures c.refuse_if-b.ensures c.new_name-d.ensures c.head-headed.ensures (eq-eqb c.head-headed.result.cursor.no 0 c.if-e-ne0.false) in
    let sized : length (part c.args.k c.args.waves.now) ≡ table_size = simp (length-take, length-drop) (omega (arith, room, c.requires.tplaces_len.1)) in
    table_reads c.args.tplaces.now c.due-a.ensures c.refuse_if-b.ensures c.new_name-d.ensures c.head-headed.ensures (names_of c.args.text.now c.args.places.now c.args.lists.now c.args.names) a.held (c.block-z.ensures (eqb c.args.k c.args.watch.table) [] (record { marks = part_free a.held room; watched = λ h. elim c.if-here.branch [ then-here w ↦ rw w.unseen-is (watched_none _ _) | else-here w ↦ absurd (w.if-here.false (eqb-true _ _ h)) ] })) c.due-cursor.ensures
    λ ws m. record { held = held_more a.held room c.refuse_if-b.result c.head-headed.result.n c.requires.tplaces_len.0 c.requires.tplaces_len.1 (c.block-z.auto.table ∙ sized) m.marks; watched = watched_here a.held _ c.if-here-2.true (m.watched (eq-eqb _ _ c.if-here-2.true)) }

pub returns-else-here-2 : goal.returns-else-here-2
unfolding bytes
returns-else-here-2 c = λ tabs a.
    let room = table_room c.args.tplaces.now c.due-a.ensures c.refuse_if-b.ensures c.new_name-d.ensures c.head-headed.ensures (eq-eqb c.head-headed.result.cursor.no 0 c.if-e-ne0.false) in
    let sized : length (part c.args.k c.args.waves.now) ≡ table_size = simp (length-take, length-drop) (omega (arith, room, c.requires.tplaces_len.1)) in
    table_reads c.args.tplaces.now c.due-a.ensures c.refuse_if-b.ensures c.new_name-d.ensures c.head-headed.ensures (names_of c.args.text.now c.args.places.now c.args.lists.now c.args.names) a.held (c.block-z.ensures (eqb c.args.k c.args.watch.table) [] (record { marks = part_free a.held room; watched = λ h. elim c.if-here.branch [ then-here w ↦ rw w.unseen-is (watched_none _ _) | else-here w ↦ absurd (w.if-here.false (eqb-true _ _ h)) ] })) c.due-cursor.ensures
    λ ws m. record { held = held_more a.held room c.refuse_if-b.result c.head-headed.result.n c.requires.tplaces_len.0 c.requires.tplaces_len.1 (c.block-z.auto.table ∙ sized) m.marks; watched = watched_other a.held _ c.if-here-2.false a.watched }

-- `timing` meets its contract. The invariant: reading on from here, with the tables that the code holds, is reading all tables.
use Prim.Native.Nat.{ℕ}
use native.Mathlib.Omega.{arith}
use mathlib.Core.Path.{◌≡◌, refl, sym, ◌∙◌}
use mathlib.Core.Bool.{true, false}
use mathlib.Core.List.{[]}
use borrow.Author.Tests.{eq-eqb, ne_eqb}
use Rattle.tokens.specs.Written.{bytes}
use Rattle.meaning.specs.Timing.{table, timing}
use Rattle.signals.specs.Names.{names_of}
use Rattle.words.proofs.Flow.{stays}
use Rattle.words.proofs.Loops.{on}
use Rattle.timing.proofs.Making.{looping, again, fewer, leaves, closes, made, makes_then, makes_bind}
use Rattle.timing.proofs.TableReading.{held_none, kept_none, takes_table}
use Rattle.timing.proofs.timing.Goals as goal

pub returns-then-c-ne0 : goal.returns-then-c-ne0
returns-then-c-ne0 c = made (stays {a = []} (ne_eqb c.args.c.no 0 c.if-c-ne0.true))
    λ h. let o : true ≡ false = sym h ∙ ne_eqb c.args.c.no 0 c.if-c-ne0.true in let z : ◌≡◌ {A = ℕ} 0 1 = cc in absurd (omega arith)

pub table-x-requires : goal.table-x-requires
table-x-requires c = let known = c.requires.all_below (eq-eqb c.args.c.no 0 c.if-c-ne0.false) in
    record { tplaces_len = (c.requires.tplaces_len.0, c.requires.tplaces_len.1, (c.requires.tplaces_len.2, known.1), known.0); held = ([], held_none c.args.text.now c.args.tplaces.now c.args.waves.now c.requires.by_index) }

pub loop-watch-init : goal.loop-watch-init
loop-watch-init c = (refl, refl, λ tabs h. looping tabs h)

pub table-x-requires-in-loop-watch : goal.table-x-requires-in-loop-watch
table-x-requires-in-loop-watch c = let known = c.requires.all_below (eq-eqb c.args.c.no 0 c.if-c-ne0.false) in
    let first = c.table-x.ensures [] (kept_none c.args.text.now c.args.tplaces.now c.args.waves.now c.args.watch c.requires.by_index) in
    let l = c.loop-watch.invariant.2 first.it first.held in
    record { tplaces_len = (c.loop-watch.invariant.0 ∙ c.table-x.auto.tplaces ∙ c.requires.tplaces_len.0, c.loop-watch.invariant.1 ∙ c.table-x.auto.waves ∙ c.requires.tplaces_len.1, (c.requires.tplaces_len.2, known.1), known.0); held = (l.state, (l.kept (on _ _ c.until.ensures c.loop-watch-test.true)).held) }

pub overflow_add-count : goal.overflow_add-count
overflow_add-count c = let first = c.table-x.ensures [] (kept_none c.args.text.now c.args.tplaces.now c.args.waves.now c.args.watch c.requires.by_index) in
    let l = c.loop-watch.invariant.2 first.it first.held in
    omega (arith, (l.kept (on _ _ c.until.ensures c.loop-watch-test.true)).held.few)

pub loop-watch-smaller : goal.loop-watch-smaller
unfolding bytes
loop-watch-smaller c = let first = c.table-x.ensures [] (kept_none c.args.text.now c.args.tplaces.now c.args.waves.now c.args.watch c.requires.by_index) in
    fewer (takes_table (names_of c.args.text.now c.args.places.now c.args.lists.now c.args.names)) (c.loop-watch.invariant.2 first.it first.held) c.until.ensures c.loop-watch-test.true c.table-x-in-loop-watch.ensures

pub loop-watch-preserved : goal.loop-watch-preserved
unfolding bytes
loop-watch-preserved c = (c.table-x-in-loop-watch.auto.tplaces ∙ c.loop-watch.invariant.0, c.table-x-in-loop-watch.auto.waves ∙ c.loop-watch.invariant.1, λ tabs h. again (takes_table (names_of c.args.text.now c.args.places.now c.args.lists.now c.args.names)) (c.loop-watch.invariant.2 tabs h) c.until.ensures c.loop-watch-test.true c.table-x-in-loop-watch.ensures)

pub returns : goal.returns
unfolding timing bytes
returns c = let first = c.table-x.ensures [] (kept_none c.args.text.now c.args.tplaces.now c.args.waves.now c.args.watch c.requires.by_index) in
    makes_then _ c.due-a.ensures
    (makes_then _ c.due-b.ensures
    (makes_bind _ first (closes "}" (table (names_of c.args.text.now c.args.places.now c.args.lists.now c.args.names)) first.it (leaves (takes_table (names_of c.args.text.now c.args.places.now c.args.lists.now c.args.names)) (c.loop-watch.invariant.2 first.it first.held) c.until.ensures c.loop-watch-test.false) c.due-cursor.ensures)))

-- `read` meets its contract. The invariant: from here the definition reads on to the entry's end, and the arrays hold the events so far.
use native.Mathlib.Omega.{arith}
use Rattle.tokens.specs.Written.{bytes}
use Rattle.waves.proofs.Entries.{upto_none, number_few, same_times, same_letters, all_read, lines_few, time_room, letter_room, fewer_left, line_read}
use Rattle.waves.proofs.read.Goals as goal

pub loop-cursor-init : goal.loop-cursor-init
unfolding bytes
loop-cursor-init c =
    record {
      some = c.requires.entry_at;
      sized = c.requires.times_len;
      each = λ es x. upto_none _ _ x c.cursor_at-c.ensures c.bytes_of.ensures c.number_of-i.ensures c.word-d.ensures c.due-cursor.ensures;
    }

pub event-e-requires : goal.event-e-requires
event-e-requires c = number_few c.loop-cursor.invariant

pub overflow_add-next : goal.overflow_add-next
unfolding bytes
overflow_add-next c = omega (arith, lines_few c.loop-cursor.invariant c.until.ensures c.loop-cursor-test.true)

pub offset_bounds-times-n : goal.offset_bounds-times-n
unfolding bytes
offset_bounds-times-n c = omega (arith, lines_few c.loop-cursor.invariant c.until.ensures c.loop-cursor-test.true)

pub bounds-times-n : goal.bounds-times-n
unfolding bytes
bounds-times-n c = omega (arith, time_room c.loop-cursor.invariant c.until.ensures c.loop-cursor-test.true)

pub bounds-letters-n : goal.bounds-letters-n
unfolding bytes
bounds-letters-n c = omega (arith, letter_room c.loop-cursor.invariant c.until.ensures c.loop-cursor-test.true)

pub loop-cursor-smaller : goal.loop-cursor-smaller
unfolding bytes
loop-cursor-smaller c =
    fewer_left c.loop-cursor.invariant c.until.ensures c.loop-cursor-test.true c.event-e.ensures

pub loop-cursor-preserved : goal.loop-cursor-preserved
unfolding bytes
loop-cursor-preserved c =
    line_read c.loop-cursor.invariant c.until.ensures c.loop-cursor-test.true c.event-e.ensures

pub shape_of-times : goal.shape_of-times
shape_of-times c = same_times c.loop-cursor.invariant

pub shape_of-letters : goal.shape_of-letters
shape_of-letters c = same_letters c.loop-cursor.invariant

pub returns : goal.returns
unfolding bytes
returns c = all_read c.loop-cursor.invariant c.until.ensures c.loop-cursor-test.false

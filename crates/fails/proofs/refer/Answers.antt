-- `refer` meets its contract: the pattern is found, its labels are gathered from where it begins, and its X names are filled in.
use Prim.Native.Nat.{ℕ, ◌*◌}
use native.Mathlib.Omega.{arith}
use mathlib.Core.Path.{refl, ap}
use lib.Dec.{eqb}
use lib.ListN.{length-replicate}
use Rattle.meaning.specs.Bounds.{signals_most}
use Rattle.words.proofs.Words.{rest}
use Rattle.measures.specs.Book.{first_pattern}
use Rattle.fails.proofs.Referring.{number_below, begins_at, all_gathered, stood, past_found}
use Rattle.fails.proofs.refer.Goals as goal

pub overflow_add-i : goal.overflow_add-i
overflow_add-i c = omega (arith, number_below c.requires.0.pattern c.find-i.result (rest c.args.book.now (first_pattern * 2)) c.find-i.ensures, c.requires.0.pattern.few)

pub gather-requires : goal.gather-requires
gather-requires c = (c.requires.1.held, c.requires.0.pattern.short)

pub fill-requires : goal.fill-requires
fill-requires c =
    let p = c.requires.0.pattern in
    let at = begins_at p c.find-i.result (rest c.args.book.now (first_pattern * 2)) c.find-i.ensures c.start_at-start.ensures in
    let held = (all_gathered p at c.gather.result c.unwrap_or-count.ensures c.gather.ensures).held in
    (ap (λ (n : ℕ). eqb n 0) c.cursor_at-c.ensures.on, length-replicate {A = ℕ} (signals_most * 2) 0, held, omega (arith, held.few, c.requires.1.long), stood p at c.cursor_at-c.ensures _ _)

pub returns : goal.returns
returns c =
    let q = c.requires.0.pattern in
    let there = begins_at q c.find-i.result (rest c.args.book.now (first_pattern * 2)) c.find-i.ensures c.start_at-start.ensures in
    let all = all_gathered q there c.gather.result c.unwrap_or-count.ensures c.gather.ensures in
    let held = all.held in
    record {
      held = held;
      room = omega (arith, held.few, c.requires.1.long, c.fill.ensures.1);
      past_is = λ E ps d p w. past_found p (begins_at p c.find-i.result (rest c.args.book.now (first_pattern * 2)) c.find-i.ensures c.start_at-start.ensures) c.cursor_at-c.ensures _ _ c.requires.1.empty (all_gathered p (begins_at p c.find-i.result (rest c.args.book.now (first_pattern * 2)) c.find-i.ensures c.start_at-start.ensures) c.gather.result c.unwrap_or-count.ensures c.gather.ensures) c.fill.ensures.2 w;
    }

-- `document` meets its contract: a refusal where a block was refused, and else the tables hold all blocks.
use mathlib.Core.Path.{◌∙◌}
use borrow.Author.Tests.{eq-eqb, ne_eqb}
use Rattle.texts.proofs.Tabling.{notes_stopped, describes_first, reads_stopped, bodies_stopped, reads_all, notes_all}
use Rattle.texts.proofs.document.Goals as goal

pub returns-then-a-ne0 : goal.returns-then-a-ne0
returns-then-a-ne0 c =
    let cursor-at' = c.cursor_at-c in
    let declarations' = c.declarations-d in
    let off = ne_eqb _ _ c.if-a-ne0.true in
    (λ short. reads_stopped cursor-at'.ensures declarations'.ensures c.stopped.ensures off, λ short. notes_stopped c.stopped.ensures off)

pub bodies-m-requires : goal.bodies-m-requires
bodies-m-requires c =
    let cursor-at' = c.cursor_at-c in
    let declarations' = c.declarations-d in
    let if1' = c.if-a-ne0 in
    let pre' = c.requires in
    (record { env = _; describes = describes_first cursor-at'.ensures declarations'.ensures (eq-eqb _ _ if1'.false) pre'.1 pre'.2 }, pre'.4)

pub shape_of-places-then-b-ne0 : goal.shape_of-places-then-b-ne0
shape_of-places-then-b-ne0 c =
    let declarations' = c.declarations-d in
    declarations'.auto.places

pub shape_of-lists-then-b-ne0 : goal.shape_of-lists-then-b-ne0
shape_of-lists-then-b-ne0 c =
    let declarations' = c.declarations-d in
    declarations'.auto.lists

pub shape_of-tplaces-then-b-ne0 : goal.shape_of-tplaces-then-b-ne0
shape_of-tplaces-then-b-ne0 c =
    let declarations' = c.declarations-d in
    declarations'.auto.tplaces

pub shape_of-waves-then-b-ne0 : goal.shape_of-waves-then-b-ne0
shape_of-waves-then-b-ne0 c =
    let declarations' = c.declarations-d in
    declarations'.auto.waves

pub returns-then-b-ne0 : goal.returns-then-b-ne0
returns-then-b-ne0 c =
    let if1' = c.if-a-ne0 in
    let cursor-at' = c.cursor_at-c in
    let declarations' = c.declarations-d in
    let bodies' = c.bodies-m in
    let pre' = c.requires in
    let on = eq-eqb _ _ if1'.false in
    let off = ne_eqb _ _ c.if-b-ne0.true in (
      λ short. bodies_stopped cursor-at'.ensures declarations'.ensures on
          (bodies'.ensures.2 _ (describes_first cursor-at'.ensures declarations'.ensures on pre'.1 pre'.2))
          c.stopped-then-b-ne0.ensures off,
      λ short. notes_stopped c.stopped-then-b-ne0.ensures off,
    )

pub ending-e-requires : goal.ending-e-requires
ending-e-requires c =
    let bodies' = c.bodies-m in
    let cursor-at' = c.cursor_at-c in
    let declarations' = c.declarations-d in
    let if1' = c.if-a-ne0 in
    let pre' = c.requires in
    let if2' = c.if-b-ne0 in
    let f = bodies'.ensures.2 _ (describes_first cursor-at'.ensures declarations'.ensures (eq-eqb _ _ if1'.false) pre'.1 pre'.2) in
    (record { env = f.it; describes = (f.held (eq-eqb _ _ if2'.false)).describes }, pre'.3, bodies'.ensures.3.long ∙ pre'.4)

pub shape_of-places : goal.shape_of-places
shape_of-places c =
    let declarations' = c.declarations-d in
    declarations'.auto.places

pub shape_of-lists : goal.shape_of-lists
shape_of-lists c =
    let declarations' = c.declarations-d in
    declarations'.auto.lists

pub shape_of-tplaces : goal.shape_of-tplaces
shape_of-tplaces c =
    let declarations' = c.declarations-d in
    declarations'.auto.tplaces

pub shape_of-waves : goal.shape_of-waves
shape_of-waves c =
    let declarations' = c.declarations-d in
    declarations'.auto.waves

pub shape_of-book : goal.shape_of-book
shape_of-book c =
    let ending' = c.ending-e in
    let bodies' = c.bodies-m in
    ending'.auto.book ∙ bodies'.auto.book

pub returns : goal.returns
returns c =
    let if1' = c.if-a-ne0 in
    let bodies' = c.bodies-m in
    let cursor-at' = c.cursor_at-c in
    let declarations' = c.declarations-d in
    let pre' = c.requires in
    let ending' = c.ending-e in
    let if2' = c.if-b-ne0 in
    let on = eq-eqb _ _ if1'.false in
    let f = bodies'.ensures.2 _ (describes_first cursor-at'.ensures declarations'.ensures on pre'.1 pre'.2) in
    let known = (f.held (eq-eqb _ _ if2'.false)).describes in (
      λ short. reads_all cursor-at'.ensures declarations'.ensures on f (declarations'.auto.waves ∙ pre'.0.marks) (ending'.ensures.0 short f.it known),
      λ short. notes_all cursor-at'.ensures declarations'.ensures on f (ending'.ensures.0 short f.it known),
    )

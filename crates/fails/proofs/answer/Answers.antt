-- `answer` meets its contract: 24, 19, or the answers.
use Prim.Native.Nat.{min}
use mathlib.Core.Path.{sym, ap, ◌∙◌, subst}
use mathlib.Core.List.{List}
use Prim.Native.Nat.{ℕ}
use Rattle.fails.specs.Referred.{SomePattern}
use Rattle.fails.proofs.Referring.{blank_tables}
use Rattle.fails.proofs.Reporting.{answer_outside, answer_full, answer_given}
use Rattle.fails.proofs.answer.Goals as goal

pub refer-known_labels-requires : goal.refer-known_labels-requires
refer-known_labels-requires c = (subst (λ (n : List ℕ). SomePattern c.args.text.now c.args.places.now c.args.lists.now c.args.tplaces.now c.args.book.now c.args.rows.now c.args.known c.args.patterns n) (sym c.bytes_of-name.ensures) c.requires, blank_tables _)

pub judge-v-requires : goal.judge-v-requires
judge-v-requires c = (c.refer-known_labels.ensures.held, c.refer-known_labels.ensures.room)

pub returns-in-Some : goal.returns-in-Some
returns-in-Some c = answer_outside _ _ _ _ _ _ _ _ c.bytes_of-name.ensures c.refer-known_labels.ensures (c.min-room.ensures ∙ ap (min _) c.min.ensures) c.judge-v.ensures c.in-Some.is

pub returns-then-v-spare : goal.returns-then-v-spare
returns-then-v-spare c = answer_full _ _ _ _ _ _ _ _ c.bytes_of-name.ensures c.refer-known_labels.ensures (c.min-room.ensures ∙ ap (min _) c.min.ensures) c.judge-v.ensures c.in_default.is c.if-v-spare.true

pub write-n-requires : goal.write-n-requires
write-n-requires c = (c.refer-known_labels.ensures.held, c.refer-known_labels.ensures.room)

pub returns : goal.returns
returns c = answer_given _ _ _ _ _ _ _ _ c.bytes_of-name.ensures c.refer-known_labels.ensures (c.min-room.ensures ∙ ap (min _) c.min.ensures) c.judge-v.ensures c.in_default.is c.if-v-spare.false c.write-n.ensures

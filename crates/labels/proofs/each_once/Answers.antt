-- `each_once` meets its contract: of the two refusals the one further left.
use mathlib.Core.Option.{none}
use Rattle.labels.proofs.Joining.{joins_off, joins_none, joins_sooner, joins_first, joins_later}
use Rattle.labels.proofs.each_once.Goals as goal

pub returns-then-s-ne0 : goal.returns-then-s-ne0
returns-then-s-ne0 c = joins_off _ _ _ _ c.if-s-ne0.true

pub returns-then-s-at : goal.returns-then-s-at
returns-then-s-at c = joins_none _ _ _ _ c.if-s-at.true

pub returns-in-Some : goal.returns-in-Some
returns-in-Some c = joins_first _ _ _ _ c.if-s-ne0.false c.if-s-at.false c.in-Some.place c.in-Some.ensures c.if-c-place.true

pub returns-in_default : goal.returns-in_default
returns-in_default c = joins_later _ _ _ _ c.if-s-ne0.false c.if-s-at.false c.in-Some.place c.in-Some.ensures c.if-c-place.false

pub returns-in_default-2 : goal.returns-in_default-2
returns-in_default-2 c = joins_sooner _ _ _ _ c.if-s-ne0.false c.if-s-at.false none c.in_default.ensures

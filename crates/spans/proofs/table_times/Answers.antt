-- `table_times` meets its contract. The invariant: the first i slots of the table hold its times.
use native.Mathlib.Omega.{arith}
use mathlib.Core.Path.{◌≡◌, refl, ◌∙◌}
use Rattle.meaning.specs.Edges.{first_time, last_time}
use Rattle.spans.specs.Spans.{table_wide}
use Rattle.spans.proofs.Filling.{upto_none, upto_all}
use Rattle.spans.proofs.table_times.Goals as goal

pub loop-i-init : goal.loop-i-init
loop-i-init c = (refl, λ ws x g y z. (upto_none first_time _ ws _, upto_none last_time _ ws _))

pub put_slot-requires : goal.put_slot-requires
put_slot-requires c =
    let loop = c.loop-i in
    record { spots_len = (c.requires.spots_len.0, loop.auto.firsts ∙ c.requires.spots_len.1, loop.auto.lasts ∙ c.requires.spots_len.2, loop.invariant.0, c.requires.spots_len.3, omega arith); spots = c.requires.spots }

pub loop-i-preserved : goal.loop-i-preserved
loop-i-preserved c = (
  c.put_slot.auto.owners ∙ c.loop-i.invariant.0,
  λ ws x g y z. (let u = c.loop-i.invariant.1 ws x g y z in c.put_slot.ensures ws _ _ x g y z u.0 u.1),
)

pub returns : goal.returns
returns c =
    let e : c.loop-i.i ≡ table_wide = omega arith in
    λ ws x g y z. (let u = c.loop-i.invariant.1 ws x g y z in (upto_all first_time _ ws e u.0, upto_all last_time _ ws e u.1))

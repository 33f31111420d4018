-- `lines` meets its contract. The invariant: the names up to number i have their lines.
use Prim.Native.Nat.{◌≤◌}
use native.Mathlib.Omega.{arith}
use mathlib.Core.Path.{◌≡◌, ap}
use lib.ListN.{length}
use Rattle.meaning.specs.Bounds.{name_most}
use Rattle.sections.proofs.Laws.{no_lines, name_short, line_adds}
use Rattle.sections.proofs.lines.Goals as goal

pub loop-i-init : goal.loop-i-init
loop-i-init c = no_lines _ _ _ _

pub put-end-requires : goal.put-end-requires
put-end-requires c =
    let a = c.args in
    let short = name_short a.text.now a.places.now c.loop-i.i c.requires.0 c.loop-i-test.true in
    omega (arith, ap length c.name_bytes.ensures)

pub put-end-requires-in-loop-i : goal.put-end-requires-in-loop-i
put-end-requires-in-loop-i c =
    let a = c.args in
    let short = name_short a.text.now a.places.now c.loop-i.i c.requires.0 c.loop-i-test.true in
    omega (arith, ap length c.name_bytes.ensures, c.put-end, c.requires)

pub loop-i-preserved : goal.loop-i-preserved
loop-i-preserved c =
    let a = c.args in
    let loop = c.loop-i in
    let name = c.name_bytes in
    let short = name_short a.text.now a.places.now loop.i c.requires.0 c.loop-i-test.true in
    let fits : length name.result.now ≤ name_most = omega (arith, ap length name.ensures) in
    line_adds a.text.now a.places.now loop.i loop.invariant name.ensures fits c.put-end.ensures c.put-end-in-loop-i.ensures

pub returns : goal.returns
returns c =
    let e : c.loop-i.i ≡ c.args.count = omega (arith, c.requires) in
    rw (← e) c.loop-i.invariant

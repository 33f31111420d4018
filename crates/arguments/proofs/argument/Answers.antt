-- `argument` meets its contract: where nothing was refused, the name is one signal that had no argument, and the tables have it now.
use Prim.Native.Nat.{◌*◌, ◌+◌, ◌<◌}
use native.Mathlib.Omega.{arith}
use mathlib.Core.Path.{◌≡◌, refl}
use lib.ListN.{length, get_or, length-set}
use borrow.Author.Tests.{eq-eqb, ne_eqb, not-false}
use Rattle.tokens.specs.Written.{bytes}
use Rattle.meaning.specs.Bounds.{signals_most}
use Rattle.meaning.specs.Body.{Args, Body}
use Rattle.words.proofs.Flow.{passed}
use Rattle.signals.specs.Names.{row_length, list_at}
use Rattle.assigns.specs.Given.{Row}
use Rattle.assigns.proofs.Assigning.{row_of}
use Rattle.measures.specs.Uses.{Uses}
use Rattle.arguments.specs.Supplied.{Supplied}
use Rattle.arguments.proofs.Named.{one_below}
use Rattle.arguments.proofs.Reading.{Tests, tests, one, Naming, Data, unknown, unsuited, refused, done}
use Rattle.arguments.proofs.argument.Goals as goal
use Rattle.arguments.proofs.argument.Goals.{Else-a-ne0, After-refuse_if-d, Else-d-ne0, After-refuse_if-r}

-- a known name's row
row : (c : Else-a-ne0) → Row c.args.lists.now c.old_name-x.result.number c.args.given.now
row c = row_of c.requires.0 c.old_name-x.ensures c.args.given.now (eq-eqb _ _ c.if-a-ne0.false) c.requires.2

-- its two tests
naming : (c : After-refuse_if-d)
    → Naming c.args.text.now c.args.places.now c.args.lists.now c.args.names c.args.c
    c.refuse_if-d.result c.old_name-x.result.number c.met.result c.suits.result
naming c =
    record {
      behind = c.old_name-x.result.cursor;
      met = c.refuse_if-b.result;
      name = c.old_name-x.ensures;
      once = c.refuse_if-b.ensures;
      suited = c.refuse_if-d.ensures;
    }

told : (c : After-refuse_if-d) (b : Body) (xs : Args) → Uses b c.args.row.now
    → Supplied c.args.text.now xs c.args.given.now c.args.args.now
    → Tests (list_at c.args.lists.now c.old_name-x.result.number) c.met.result c.suits.result b xs
told c b xs uses sup = tests _ c.suits.ensures c.met.ensures uses sup

-- they passed: it is one signal, which has its place in the tables
single : (c : Else-d-ne0) → length (list_at c.args.lists.now c.old_name-x.result.number) ≡ 1
single c =
    let passes = not-false _ (passed c.refuse_if-d.ensures refl (eq-eqb _ _ c.if-d-ne0.false)) in
    one _ c.suits.ensures c.requires.1 passes

below : (c : Else-d-ne0) → get_or c.args.lists.now (c.old_name-x.result.number * row_length + 1) 0 < signals_most
below c =
    one_below c.args.lists.now c.old_name-x.result.number (single c)
    (row_of c.requires.0 c.old_name-x.ensures c.args.given.now (eq-eqb _ _ c.if-a-ne0.false) c.requires.2).tidy

-- DATA, and before it that place
data_read_lem : (c : After-refuse_if-r)
    → Data c.args.text.now c.refuse_if-d.result c.refuse_if-r.result c.data-f.result.n
unfolding bytes
data_read_lem c =
    record {
      equals = c.due-e.result;
      behind = c.data-f.result.cursor;
      place = _;
      last = c.data-f.result.last;
      entry = _;
      buffer = _;
      due_goes = c.due-e.ensures;
      fills = c.data-f.ensures;
      few = c.refuse_if-r.ensures;
    }

pub returns-then-a-ne0 : goal.returns-then-a-ne0
returns-then-a-ne0 c =
    let pre = c.requires in
    λ b xs uses sup. unknown b xs pre.0 c.old_name-x.ensures (ne_eqb _ _ c.if-a-ne0.true)

pub met-requires : goal.met-requires
met-requires c = row (goal.at.met-requires c).Else-a-ne0

pub suits-requires : goal.suits-requires
suits-requires c =
    let r = row (goal.at.suits-requires c).Else-a-ne0 in
    (r.rows, r.below, r.tidy, c.requires.1.uses.long)

pub returns-then-d-ne0 : goal.returns-then-d-ne0
returns-then-d-ne0 c =
    let k = (goal.at.returns-then-d-ne0 c).After-refuse_if-d in
    λ b xs uses sup. unsuited (naming k) b xs (ne_eqb _ _ c.if-d-ne0.true) (told k b xs uses sup)

pub overflow_mul-s : goal.overflow_mul-s
overflow_mul-s c = omega (arith, (row (goal.at.overflow_mul-s c).Else-a-ne0).below)

pub overflow_add-s : goal.overflow_add-s
overflow_add-s c = omega (arith, (row (goal.at.overflow_add-s c).Else-a-ne0).below)

pub offset_bounds-lists-i : goal.offset_bounds-lists-i
offset_bounds-lists-i c = omega (arith, (row (goal.at.offset_bounds-lists-i c).Else-a-ne0).below)

pub bounds-lists-i : goal.bounds-lists-i
bounds-lists-i c = let r = row (goal.at.bounds-lists-i c).Else-a-ne0 in omega (arith, r.below, r.rows)

pub returns-then-r-ne0 : goal.returns-then-r-ne0
returns-then-r-ne0 c =
    let k = (goal.at.returns-then-r-ne0 c).After-refuse_if-d in
    λ b xs uses sup.
    refused (naming k) (data_read_lem (goal.at.returns-then-r-ne0 c).After-refuse_if-r) (told k b xs uses sup) (ne_eqb _ _ c.if-r-ne0.true)

pub bounds-given-s : goal.bounds-given-s
bounds-given-s c = omega (arith, below (goal.at.bounds-given-s c).Else-d-ne0, c.requires.2)

pub bounds-args-s : goal.bounds-args-s
bounds-args-s c = omega (arith, below (goal.at.bounds-args-s c).Else-d-ne0, c.requires.3)

pub bounds-args-s-2 : goal.bounds-args-s-2
bounds-args-s-2 c = simp length-set (omega (arith, below (goal.at.bounds-args-s-2 c).Else-d-ne0, c.requires.3))

pub returns : goal.returns
returns c =
    let k = (goal.at.returns c).After-refuse_if-d in
    λ b xs uses sup.
    done (naming k) (data_read_lem (goal.at.returns c).After-refuse_if-r) (told k b xs uses sup) (eq-eqb _ _ c.if-r-ne0.false) (single (goal.at.returns c).Else-d-ne0) (row (goal.at.returns c).Else-a-ne0).tidy sup

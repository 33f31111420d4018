-- `assign` meets its contract: where nothing was refused, the name's signals were free, and each has its character now.
use mathlib.Core.Path.{ap, ◌∙◌}
use mathlib.Core.Bool.{not}
use Prim.Native.Nat.{ℕ}
use native.Mathlib.Omega.{arith}
use lib.ListN.{length, replicate, length-replicate}
use lib.Dec.{eqb}
use borrow.Author.Tests.{eq-eqb, ne_eqb}
use Rattle.tokens.specs.Written.{bytes}
use Rattle.meaning.specs.Bounds.{signals_most}
use Rattle.assigns.specs.Given.{Row}
use Rattle.assigns.proofs.Rows.{row_most_lem}
use Rattle.assigns.proofs.Assigning.{row_of, no_name, Assigning, assign_read, refused, all_put}
use Rattle.assigns.proofs.assign.Goals as goal
use Rattle.assigns.proofs.assign.Goals.{After-refuse_if-r}

-- all readers, up to the last test
whole : (c : After-refuse_if-r)
    → Assigning c.args.text.now c.args.places.now c.args.lists.now c.args.names c.args.may
    c.args.c c.refuse_if-r.result c.old_name-x.result.number c.met.result (replicate signals_most 0)
    c.data-f.new.buffer
unfolding bytes
whole c =
    assign_read c.old_name-x.ensures c.refuse_if-b.ensures c.due-d.ensures
    c.data-f.ensures
    c.refuse_if-r.ensures
    (ap (λ (n : ℕ). not (eqb c.data-f.result.n n)) (ap length c.signals_of.ensures))

pub returns-then-a-ne0 : goal.returns-then-a-ne0
returns-then-a-ne0 c =
    λ xs g. no_name c.requires.0 c.old_name-x.ensures c.args.may xs (ne_eqb _ _ c.if-a-ne0.true) c.requires.1

pub met-requires : goal.met-requires
met-requires c =
    row_of c.requires.0 c.old_name-x.ensures c.args.given.now (eq-eqb _ _ c.if-a-ne0.false) c.requires.1

pub signals_of-requires : goal.signals_of-requires
signals_of-requires c =
    let r = row_of c.requires.0 c.old_name-x.ensures c.args.given.now (eq-eqb _ _ c.if-a-ne0.false) c.requires.1 in
    (r.rows, r.below)

pub returns-then-r-ne0 : goal.returns-then-r-ne0
returns-then-r-ne0 c =
    λ xs g. refused (whole (goal.at.returns-then-r-ne0 c).After-refuse_if-r) xs (c.met.ensures xs g) (ne_eqb _ _ c.if-r-ne0.true) c.requires.1

pub put-requires : goal.put-requires
put-requires c =
    let r : Row c.args.lists.now c.old_name-x.result.number c.args.given.now =
    row_of c.requires.0 c.old_name-x.ensures c.args.given.now (eq-eqb _ _ c.if-a-ne0.false) c.requires.1 in
    (r, omega (arith, row_most_lem c.args.lists.now c.old_name-x.result.number, c.data-f.ensures.kept, length-replicate {A = ℕ} signals_most 0))

pub returns : goal.returns
returns c =
    let r : Row c.args.lists.now c.old_name-x.result.number c.args.given.now =
    row_of c.requires.0 c.old_name-x.ensures c.args.given.now (eq-eqb _ _ c.if-a-ne0.false) c.requires.1 in
    λ xs g.
    all_put (whole (goal.at.returns c).After-refuse_if-r) xs (eq-eqb _ _ c.if-r-ne0.false) (length-replicate {A = ℕ} signals_most 0) r.tidy g (c.met.ensures xs g)
    c.put.ensures
    (c.put.auto.given ∙ c.requires.1)

-- A listed pattern is passed or entered: the name's number is its own, the book has its measure, and its body is held from where the book says.
use Prim.Native.Nat.{◌+◌, ◌*◌, ◌<◌}
use native.Mathlib.Omega.{arith}
use mathlib.Core.List.{[]}
use Rattle.tokens.specs.Tokens.{Tok}
use Rattle.meaning.specs.Body.{listed}
use Rattle.meaning.specs.Statements.{Decl, Decls, Env}
use Rattle.walks.specs.Statement.{begun}
use Rattle.words.proofs.Words.{rest}
use Rattle.measures.specs.Measures.{Measures}
use Rattle.measures.specs.Book.{first_pattern, entries, Entry}
use Rattle.plays.specs.Plays.{ground_of}
use Rattle.plays.specs.Run.{ListedAt}
use Rattle.plays.proofs.Keeping.{sized_kept}
use Rattle.plays.proofs.Entering.{sized_left, part_within, part_begins}
use Rattle.plays.proofs.Running.{found_at, pattern_within, pattern_standing}
use Rattle.rows.proofs.Going.{going_spent}
use Rattle.windows.proofs.Patterns.{pattern_pays, pattern_small, pattern_passed, pattern_ready, pattern_entered}
use borrow.Author.Rules.{rules}
use Rattle.windows.proofs.pattern.Goals as goal
use Rattle.windows.proofs.pattern.Goals.{After-find-i, After-measure_at-m}

-- whatever pattern is listed there
abbrev Listing : After-find-i → Env → Decls → Decl → Type 0
Listing c E ps d =
    ListedAt
    (ground_of c.args.ground.now) c.args.list.now c.args.patterns c.args.k E ps d

-- its number was found
found : (c : After-find-i) {E : Env} {ps : Decls} {d : Decl} → Listing c E ps d
    → (c.find-i.result < c.args.patterns)
    × (t : Tok)
    × Entry c.args.ground.now.declared.text.now c.args.ground.now.declared.book.now (first_pattern + c.find-i.result) (t, d)
found c n = found_at n c.find-i.result (rest c.args.ground.now.declared.book.now (first_pattern * 2)) c.name_bytes.ensures c.find-i.ensures

-- its entry is in the book
in_book : (c : After-find-i) → first_pattern + c.find-i.result < entries
in_book c = let n = c.requires.listed_at in omega (arith, (found c n).0, n.few)

-- and its measure, for what follows it
measured : (c : After-measure_at-m) {E : Env} {ps : Decls} {d : Decl}
    → ListedAt
    (ground_of c.args.ground.now) c.args.list.now c.args.patterns c.args.k E ps d → Measures d.body c.measure_at-m.result
measured c n =
    rw c.measure_at-m.ensures
    (found_at n c.find-i.result (rest c.args.ground.now.declared.book.now (first_pattern * 2)) c.name_bytes.ensures c.find-i.ensures).2.measured

pub overflow_add-i : goal.overflow_add-i
overflow_add-i c = omega (arith, in_book (goal.at.overflow_add-i c).After-find-i)

pub measure_at-m-requires : goal.measure_at-m-requires
measure_at-m-requires c = (search rules, in_book (goal.at.measure_at-m-requires c).After-find-i)

pub overflow_add-m : goal.overflow_add-m
overflow_add-m c =
    let pre = c.requires in
    record { fits = omega (arith, pattern_small pre.ready (measured (goal.at.overflow_add-m c).After-measure_at-m pre.listed_at)) }

pub spend-w-requires : goal.spend-w-requires
spend-w-requires c =
    let pre = c.requires in
    λ e. omega (arith, pattern_pays pre.ready (measured (goal.at.spend-w-requires c).After-measure_at-m pre.listed_at) e)

pub past-requires : goal.past-requires
past-requires c = omega (arith, c.if-m-w.true)

pub returns-then-m-w : goal.returns-then-m-w
returns-then-m-w c =
    let spent = c.spend-w.ensures in
    let pre = c.requires in
    record {
      sized = pre.sized;
      went = λ E ps d n s long ready. (rw (c.past.ensures, spent) (pattern_passed ready (measured (goal.at.returns-then-m-w c).After-measure_at-m n) pre.going (rw spent at c.if-m-w.true)));
    }

pub overflow_add-i-2 : goal.overflow_add-i-2
overflow_add-i-2 c = omega (arith, in_book (goal.at.overflow_add-i-2 c).After-find-i)

pub slice_bounds-body-count : goal.slice_bounds-body-count
slice_bounds-body-count c =
    let starts = c.start_at-start.ensures (in_book (goal.at.slice_bounds-body-count c).After-find-i) in
    let within = pattern_within c.requires.listed_at c.find-i.result (found (goal.at.slice_bounds-body-count c).After-find-i c.requires.listed_at).2 in
    omega (arith, starts, within)

pub slice_bounds-body-start : goal.slice_bounds-body-start
slice_bounds-body-start c =
    let starts = c.start_at-start.ensures (in_book (goal.at.slice_bounds-body-start c).After-find-i) in
    let within = pattern_within c.requires.listed_at c.find-i.result (found (goal.at.slice_bounds-body-start c).After-find-i c.requires.listed_at).2 in
    omega (arith, starts, within)

pub leave-requires : goal.leave-requires
leave-requires c = (c.requires.sized.roomy.values_long, omega arith)

pub body_of-r-requires : goal.body_of-r-requires
unfolding begun
body_of-r-requires c =
    let starts = c.start_at-start.ensures (in_book (goal.at.body_of-r-requires c).After-find-i) in
    let within = pattern_within c.requires.listed_at c.find-i.result (found (goal.at.body_of-r-requires c).After-find-i c.requires.listed_at).2 in
    let enters = rw c.spend-w.ensures at c.if-m-w.false in
    let args = c.args in
    let pre = c.requires in
    let n = pre.listed_at in
    let left = c.leave.ensures in (
      part_within args.ground.now.declared.text.now c.start_at-start.result _ starts within,
      rw (c.spend-w.ensures, part_begins args.ground.now.declared.text.now c.start_at-start.result _ starts within) (record {
        env = pre.env;
        body = pre.decl.body;
        rest = n.stands.0;
        state = begun listed [] pre.state;
        standing = pattern_standing n c.find-i.result (found (goal.at.body_of-r-requires c).After-find-i n).2 pre.sized left pre.state pre.long;
        ready = pattern_ready pre.ready (measured (goal.at.body_of-r-requires c).After-measure_at-m n) enters;
        sized = sized_left pre.sized left;
        going = going_spent pre.going _;
      }),
    )

pub returns : goal.returns
unfolding begun
returns c =
    let starts = c.start_at-start.ensures (in_book (goal.at.returns c).After-find-i) in
    let within = pattern_within c.requires.listed_at c.find-i.result (found (goal.at.returns c).After-find-i c.requires.listed_at).2 in
    let enters = rw c.spend-w.ensures at c.if-m-w.false in
    let args = c.args in
    let pre = c.requires in
    let left = c.leave.ensures in
    let went = rw (c.spend-w.ensures, part_begins args.ground.now.declared.text.now c.start_at-start.result _ starts within)
    at c.body_of-r.ensures in
    record {
      sized = sized_kept (sized_left pre.sized left) went.kept;
      went = λ E ps d n s long ready. (
          let m = measured (goal.at.returns c).After-measure_at-m n in
          let standing = pattern_standing n c.find-i.result (found (goal.at.returns c).After-find-i n).2 pre.sized left s long in
          pattern_entered ready m enters
          (went.walks E d.body n.stands.0 (begun listed [] s) standing (pattern_ready ready m enters)).tells.went);
    }

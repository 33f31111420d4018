-- A listed pattern is played: the name's number is its own, and its body is held from where the book says.
use Prim.Native.Nat.{◌*◌}
use native.Mathlib.Omega.{arith}
use mathlib.Core.Path.{sym, ◌∙◌}
use mathlib.Core.Option.{none}
use mathlib.Core.List.{[]}
use borrow.Author.Tests.{eq-eqb}
use Rattle.meaning.specs.Run.{bare, start}
use Rattle.words.proofs.Words.{rest}
use Rattle.measures.specs.Book.{first_pattern}
use Rattle.plays.proofs.Keeping.{sized_kept}
use Rattle.plays.proofs.Entering.{sized_left}
use Rattle.plays.proofs.Running.{found_at, pattern_standing, opening_long}
use Rattle.crossings.proofs.Passing.{long_ample, long_stored}
use Rattle.crossings.proofs.Running.{pattern_pair}
use Rattle.crossings.proofs.pattern.Goals as goal

pub overflow_add-i : goal.overflow_add-i
overflow_add-i c =
    let n = c.requires.listed_at in
    omega (arith, (found_at n c.find-i.result (rest c.args.ground.now.declared.book.now (first_pattern * 2)) c.name_bytes.ensures c.find-i.ensures).0, n.few)

pub leave-requires : goal.leave-requires
leave-requires c = (c.requires.sized.roomy.values_long, omega arith)

pub forget-requires : goal.forget-requires
forget-requires c = (c.requires.ample.marks_long, omega arith)

pub statements-requires : goal.statements-requires
statements-requires c =
    let n = c.requires.listed_at in
    let x = found_at n c.find-i.result (rest c.args.ground.now.declared.book.now (first_pattern * 2)) c.name_bytes.ensures c.find-i.ensures in
    let at = c.start_at.ensures (omega (arith, x.0, n.few)) in (
      eq-eqb _ 0 c.cursor_at-c.ensures.on,
      rw (c.cursor_at-c.ensures.there, at) (record {
        env = c.requires.env;
        body = c.requires.decl.body;
        rest = n.stands.0;
        state = record { pins = bare (start c.args.ground.now.signals).pins; table = none; args = [] };
        standing = pattern_standing n c.find-i.result x.2 c.requires.sized c.leave.ensures (start c.args.ground.now.signals) (opening_long c.args.ground.now.signals);
        timed = c.requires.timed;
        sized = sized_left c.requires.sized c.leave.ensures;
        fitted = c.requires.fitted;
        ample = long_ample (long_stored (c.forget.ensures c.args.ground.now.signals)) c.requires.ample;
      }),
    )

pub shape_of-values : goal.shape_of-values
shape_of-values c = c.statements.ensures.kept.values_long ∙ c.leave.ensures.long

pub shape_of-feeds : goal.shape_of-feeds
shape_of-feeds c = c.statements.ensures.kept.feeds_long

pub shape_of-args : goal.shape_of-args
shape_of-args c = c.statements.ensures.kept.args_long

pub returns : goal.returns
returns c =
    let n = c.requires.listed_at in
    let x = found_at n c.find-i.result (rest c.args.ground.now.declared.book.now (first_pattern * 2)) c.name_bytes.ensures c.find-i.ensures in
    let at = c.start_at.ensures (omega (arith, x.0, n.few)) in
    let p = rw (c.cursor_at-c.ensures.there, at) at c.statements.ensures in
    let none_yet = (c.forget.ensures c.args.ground.now.signals).here in
    record {
      sized = sized_kept (sized_left c.requires.sized c.leave.ensures) p.kept;
      ample = long_ample p.long (long_ample (long_stored (c.forget.ensures c.args.ground.now.signals)) c.requires.ample);
      fails = λ E ps d m runs s l q. (
          let y = found_at m c.find-i.result (rest c.args.ground.now.declared.book.now (first_pattern * 2)) c.name_bytes.ensures c.find-i.ensures in
          sym (pattern_pair E.tables d.body s none_yet) ∙ (p.plays E d.body m.stands.0 _ (pattern_standing m c.find-i.result y.2 c.requires.sized c.leave.ensures s l) runs).tells.passed.fails q);
      sound = λ E ps d m runs s l q. (
          let y = found_at m c.find-i.result (rest c.args.ground.now.declared.book.now (first_pattern * 2)) c.name_bytes.ensures c.find-i.ensures in
          sym (pattern_pair E.tables d.body s none_yet) ∙ (p.plays E d.body m.stands.0 _ (pattern_standing m c.find-i.result y.2 c.requires.sized c.leave.ensures s l) runs).tells.passed.sound q);
    }

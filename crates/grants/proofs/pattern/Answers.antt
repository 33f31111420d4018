-- A listed pattern is summed up: the name's number is its own, and its body is held from where the book says.
use Prim.Native.Nat.{◌*◌}
use native.Mathlib.Omega.{arith}
use mathlib.Core.Path.{sym, ◌∙◌}
use mathlib.Core.Bool.{true≢false}
use Rattle.words.proofs.Words.{rest}
use Rattle.measures.specs.Book.{first_pattern}
use Rattle.plays.proofs.Running.{found_at}
use Rattle.grants.proofs.Bodies.{stands_on}
use Rattle.grants.proofs.Listing.{pattern_sized, pattern_standing, pattern_summed, pattern_cleared}
use Rattle.grants.proofs.pattern.Goals as goal

pub overflow_add-i : goal.overflow_add-i
overflow_add-i c =
    let n = c.requires.listed_at in
    omega (arith, (found_at n c.find-i.result (rest c.args.ground.now.declared.book.now (first_pattern * 2)) c.name_bytes.ensures c.find-i.ensures).0, n.few)

pub clear-requires : goal.clear-requires
clear-requires c = omega (arith, c.requires.roomy.sums_long)

pub tally-x-requires : goal.tally-x-requires
tally-x-requires c =
    let s = c.requires in
    let n = s.listed_at in
    let x = found_at n c.find-i.result (rest c.args.ground.now.declared.book.now (first_pattern * 2)) c.name_bytes.ensures c.find-i.ensures in
    let at = c.start_at.ensures (omega (arith, x.0, n.few)) in (
      stands_on c.cursor_at-c.ensures,
      record {
        env = s.env;
        body = s.decl.body;
        rest = n.stands.0;
        standing = pattern_standing n c.find-i.result x.2 c.cursor_at-c.ensures at;
        sized = pattern_sized s.roomy c.clear.ensures.0;
      },
    )

pub returns-then-x : goal.returns-then-x
returns-then-x c =
    let s = c.requires in
    let args' = c.args in
    let find' = c.find-i in
    let name = c.name_bytes.ensures in
    let o = c.clear.ensures in
    let p = c.tally-x.ensures in
    let there = c.cursor_at-c.ensures in
    let begins = c.start_at.ensures in
    record {
      roomy = record {
        marks_long = p.kept.marks_long ∙ s.roomy.marks_long;
        sums_long = p.kept.sums_long ∙ o.0.long ∙ s.roomy.sums_long;
        waves_long = s.roomy.waves_long;
        few = s.roomy.few;
      };
      summed = λ E ps d n u. (
          let x = found_at n find'.result (rest args'.ground.now.declared.book.now (first_pattern * 2)) name find'.ensures in
          let at = begins (omega (arith, x.0, n.few)) in
          pattern_summed n o.0 o.1 (p.gone E d.body n.stands.0 (pattern_standing n find'.result x.2 there at)) u);
      cleared = λ e. absurd (true≢false (sym e));
    }

pub grants-requires : goal.grants-requires
grants-requires c =
    let s = c.requires in
    (omega (arith, s.roomy.sums_long, c.clear.ensures.0.long, c.tally-x.ensures.kept.sums_long), s.roomy.few)

pub returns : goal.returns
returns c =
    let s = c.requires in
    let args' = c.args in
    let find' = c.find-i in
    let name = c.name_bytes.ensures in
    let o = c.clear.ensures in
    let p = c.tally-x.ensures in
    let there = c.cursor_at-c.ensures in
    let begins = c.start_at.ensures in
    let alone = c.grants.ensures in
    let none = c.if-x.false in
    record {
      roomy = record {
        marks_long = p.kept.marks_long ∙ s.roomy.marks_long;
        sums_long = p.kept.sums_long ∙ o.0.long ∙ s.roomy.sums_long;
        waves_long = s.roomy.waves_long;
        few = s.roomy.few;
      };
      summed = λ E ps d n u. (
          let x = found_at n find'.result (rest args'.ground.now.declared.book.now (first_pattern * 2)) name find'.ensures in
          let at = begins (omega (arith, x.0, n.few)) in
          pattern_summed n o.0 o.1 (p.gone E d.body n.stands.0 (pattern_standing n find'.result x.2 there at)) u);
      cleared = λ e E ps d n u. (
          let x = found_at n find'.result (rest args'.ground.now.declared.book.now (first_pattern * 2)) name find'.ensures in
          let at = begins (omega (arith, x.0, n.few)) in
          pattern_cleared n o.0 o.1 (p.gone E d.body n.stands.0 (pattern_standing n find'.result x.2 there at)) u none (alone e));
    }

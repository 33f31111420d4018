-- A listed pattern is played: the name's number is its own, and its body is held from where the book says.
use Prim.Native.Nat.{◌*◌}
use native.Mathlib.Omega.{arith}
use mathlib.Core.Option.{none}
use mathlib.Core.List.{[]}
use Rattle.meaning.specs.Run.{bare, start}
use Rattle.words.proofs.Words.{rest}
use Rattle.measures.specs.Book.{first_pattern}
use Rattle.plays.proofs.Keeping.{sized_kept}
use Rattle.plays.proofs.Entering.{sized_left, part_within, part_begins}
use Rattle.plays.proofs.Running.{found_at, pattern_within, pattern_standing, listed_fails, listed_sound, opening_long}
use Rattle.plays.proofs.pattern.Goals as goal

pub overflow_add-i : goal.overflow_add-i
overflow_add-i c =
    let pre' = c.requires in
    let args' = c.args in
    let name-bytes' = c.name_bytes in
    let n = pre'.0.listed_at in
    omega (arith, (found_at n c.find-i.result (rest args'.ground.now.declared.book.now (first_pattern * 2)) name-bytes'.ensures c.find-i.ensures).0, n.few)

pub slice_bounds-body-count : goal.slice_bounds-body-count
slice_bounds-body-count c =
    let pre' = c.requires in
    let args' = c.args in
    let name-bytes' = c.name_bytes in
    let find' = c.find-i in
    let n = pre'.0.listed_at in
    let x = found_at n find'.result (rest args'.ground.now.declared.book.now (first_pattern * 2)) name-bytes'.ensures find'.ensures in
    omega (arith, c.start_at-start.ensures (omega (arith, x.0, n.few)), pattern_within n find'.result x.2)

pub slice_bounds-body-start : goal.slice_bounds-body-start
slice_bounds-body-start c =
    let pre' = c.requires in
    let args' = c.args in
    let name-bytes' = c.name_bytes in
    let find' = c.find-i in
    let n = pre'.0.listed_at in
    let x = found_at n find'.result (rest args'.ground.now.declared.book.now (first_pattern * 2)) name-bytes'.ensures find'.ensures in
    omega (arith, c.start_at-start.ensures (omega (arith, x.0, n.few)), pattern_within n find'.result x.2)

pub body_of-requires : goal.body_of-requires
body_of-requires c =
    let pre' = c.requires in
    let args' = c.args in
    let name-bytes' = c.name_bytes in
    let find' = c.find-i in
    let start-at' = c.start_at-start in
    let leave' = c.leave in
    let pre' = pre' in
    let n = pre'.0.listed_at in
    let x = found_at n find'.result (rest args'.ground.now.declared.book.now (first_pattern * 2)) name-bytes'.ensures find'.ensures in
    let at = start-at'.ensures (omega (arith, x.0, n.few)) in
    let within = pattern_within n find'.result x.2 in
    rw (part_begins args'.ground.now.declared.text.now start-at'.result _ at within) (
      part_within args'.ground.now.declared.text.now start-at'.result _ at within,
      record {
        env = pre'.0.env;
        body = pre'.0.decl.body;
        rest = n.stands.0;
        state = record { pins = bare (start args'.ground.now.signals).pins; table = none; args = [] };
        standing = pattern_standing n find'.result x.2 pre'.0.sized leave'.ensures (start args'.ground.now.signals) (opening_long args'.ground.now.signals);
        sized = sized_left pre'.0.sized leave'.ensures;
      },
      pre'.1,
    )

pub returns : goal.returns
returns c =
    let pre' = c.requires in
    let args' = c.args in
    let name-bytes' = c.name_bytes in
    let find' = c.find-i in
    let start-at' = c.start_at-start in
    let leave' = c.leave in
    let body-of' = c.body_of in
    let pre' = pre' in
    let n = pre'.0.listed_at in
    let l = leave'.ensures in
    let x = found_at n find'.result (rest args'.ground.now.declared.book.now (first_pattern * 2)) name-bytes'.ensures find'.ensures in
    let at = start-at'.ensures (omega (arith, x.0, n.few)) in
    let b = rw (part_begins args'.ground.now.declared.text.now start-at'.result _ at (pattern_within n find'.result x.2)) at body-of'.ensures in
    record {
      sized = sized_kept (sized_left pre'.0.sized l) b.kept;
      fails = λ E ps d m u s h. (
          let e = (found_at m find'.result (rest args'.ground.now.declared.book.now (first_pattern * 2)) name-bytes'.ensures find'.ensures).2 in
          listed_fails m s (b.plays E d.body m.stands.0 _ (pattern_standing m find'.result e pre'.0.sized l s h) u tt));
      sound = λ E ps d m u s h. (
          let e = (found_at m find'.result (rest args'.ground.now.declared.book.now (first_pattern * 2)) name-bytes'.ensures find'.ensures).2 in
          listed_sound m s (b.plays E d.body m.stands.0 _ (pattern_standing m find'.result e pre'.0.sized l s h) u tt));
      memo_long = b.memo_long;
      heads = λ E ps d m u. (
          let e = (found_at m find'.result (rest args'.ground.now.declared.book.now (first_pattern * 2)) name-bytes'.ensures find'.ensures).2 in
          b.heads E d.body m.stands.0 _ (pattern_standing m find'.result e pre'.0.sized l (start args'.ground.now.signals) (opening_long args'.ground.now.signals)) u);
      learnt = λ E ps d m u. (
          let e = (found_at m find'.result (rest args'.ground.now.declared.book.now (first_pattern * 2)) name-bytes'.ensures find'.ensures).2 in
          b.learnt E d.body m.stands.0 _ (pattern_standing m find'.result e pre'.0.sized l (start args'.ground.now.signals) (opening_long args'.ground.now.signals)) u tt);
    }

-- `ending` meets its contract: the burst, its exec and the patterns, one behind the other, and each name once.
use mathlib.Core.Path.{refl}
use Rattle.tokens.specs.Written.{bytes}
use Rattle.words.proofs.Flow.{given, then, alive_before}
use Rattle.meaning.specs.Statements.{for_patterns}
use Rattle.held.proofs.Grammar.{moves_exec}
use Rattle.texts.specs.Patterns.{ending as ending_due}
use Rattle.texts.proofs.Naming.{placed_behind, once_read, once_alive, describes_patterns}
use Rattle.texts.proofs.Keeping.{burst_kept}
use Rattle.texts.proofs.ending.Goals as goal

pub patterns-p-requires : goal.patterns-p-requires
unfolding bytes
patterns-p-requires c =
    let pre' = c.requires in
    let keep' = c.keep in
    let nothing' = c.nothing in
    (record { env = for_patterns pre'.0.env; name = _; patterned = burst_kept keep'.ensures refl refl nothing'.ensures (describes_patterns pre'.0.describes) }, pre'.2)

pub shape_of-list : goal.shape_of-list
shape_of-list c =
    let burst' = c.burst-n in
    burst'.auto.list

pub returns : goal.returns
unfolding ending_due
returns c =
    let each-once' = c.each_once-cursor in
    let bytes-of' = c.bytes_of in
    let patterns' = c.patterns-p in
    let keep' = c.keep in
    let nothing' = c.nothing in
    let burst' = c.burst-n in
    let exec' = c.exec-x in (
      λ short e s.
          let all = patterns'.ensures.0 (for_patterns e) _ (burst_kept keep'.ensures refl refl nothing'.ensures (describes_patterns s)) in
          let placed = placed_behind (moves_exec _) exec'.ensures in
          record {
            it = (_, _, all.it);
            goes = then _ burst'.ensures.goes (then _ exec'.ensures (then _ (once_read _ short placed bytes-of'.ensures each-once'.ensures all.goes) given));
            held = λ live. (
                let on = once_alive short placed each-once'.ensures live in
                record {
                  known_is = refl;
                  patterned = all.held on;
                  listed_are = refl;
                  few_listed = burst'.ensures.few (alive_before exec'.ensures (alive_before all.goes on));
                });
          },
      patterns'.ensures.1,
    )

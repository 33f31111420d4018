-- Expression and term, one proof for both: an expression reads its first term from where it stands, and a term that is a bracket takes a
-- token before it reads an expression, so that twice what is left to read falls at each call. What is kept at each further term: reading on
-- with the signals so far is reading the whole expression, and those signals are tidy, so that there is room for the next.
use native.Mathlib.Omega.{arith}
use mathlib.Core.Path.{refl}
use mathlib.Core.List.{[]}
use Rattle.tokens.specs.Written.{bytes}
use Rattle.meaning.specs.Groups.{bracket, terms, term as term_due}
use Rattle.meaning.proofs.Taking.{takes_keeps, takes_due}
use Rattle.words.specs.Table.{names}
use Rattle.words.proofs.Flow.{then, given, stays, refused_by, refused_no, alive_before}
use Rattle.words.proofs.Choice.{ahead_yes, ahead_no}
use Rattle.words.proofs.Loops.{begins, turned, over, less, no_more, on}
use Rattle.words.proofs.Names.{old_named}
use Rattle.signals.specs.Names.{list_at, names_of}
use Rattle.signals.proofs.Taking.{takes_sign}
use Rattle.signals.proofs.Tidy.{gave}
use Rattle.signals.proofs.Joining.{bracket_in, term_takes, turn_takes, term_tidy, turn_tidy, turn_goes}
use Rattle.signals.proofs.+expression_term.Goals as goal

pub expression-term-x-requires : goal.expression-term-x-requires
expression-term-x-requires t c = (omega (arith, c.decreases), c.requires)

pub expression-loop-s-init : goal.expression-loop-s-init
expression-loop-s-init t c =
    let args' = c.args in
    let pre' = c.requires in
    let term' = c.term-x in
    let ns = names_of args'.text.now args'.places.now args'.lists.now args'.count in
    (begins, (λ h. gave (term_tidy ns args'.d pre'.tidy) term'.ensures h), omega arith)

pub expression-term-y-requires : goal.expression-term-y-requires
expression-term-y-requires t c =
    let args' = c.args in
    let pre' = c.requires in
    let term' = c.term-x in
    let loop' = c.loop-s in
    let sign-ahead' = c.sign_ahead in
    let if1' = c.loop-s-test in
    let sign' = c.sign-s in
    let ns = names_of args'.text.now args'.places.now args'.lists.now args'.count in (
      omega (
        arith,
        c.decreases,
        loop'.invariant.2,
        less takes_sign (on _ _ sign-ahead'.ensures if1'.true) sign'.ensures,
        no_more (takes_keeps (term_takes ns args'.d)) term'.ensures,
      ),
      pre',
    )

pub expression-loop-s-smaller : goal.expression-loop-s-smaller
expression-loop-s-smaller t c =
    let args' = c.args in
    let pre' = c.requires in
    let loop' = c.loop-s in
    let sign-ahead' = c.sign_ahead in
    let if1' = c.loop-s-test in
    let sign' = c.sign-s in
    let term2' = c.term-y in
    let joined' = c.joined-j in
    let ns = names_of args'.text.now args'.places.now args'.lists.now args'.count in
    less (turn_takes ns args'.d _) (on _ _ sign-ahead'.ensures if1'.true)
    (turn_goes ns args'.d pre'.tidy loop'.invariant.1 sign'.ensures term2'.ensures (joined'.ensures args'.text.now))

pub expression-loop-s-preserved : goal.expression-loop-s-preserved
expression-loop-s-preserved t c =
    let args' = c.args in
    let pre' = c.requires in
    let loop' = c.loop-s in
    let sign-ahead' = c.sign_ahead in
    let if1' = c.loop-s-test in
    let sign' = c.sign-s in
    let term2' = c.term-y in
    let joined' = c.joined-j in
    let ns = names_of args'.text.now args'.places.now args'.lists.now args'.count in
    let turn = turn_goes ns args'.d pre'.tidy loop'.invariant.1 sign'.ensures term2'.ensures (joined'.ensures args'.text.now) in (
      turned _ _ (turn_takes ns args'.d) loop'.invariant.0 sign-ahead'.ensures if1'.true turn,
      (λ h. gave (turn_tidy ns args'.d pre'.tidy _ (loop'.invariant.1 (alive_before turn h))) turn h),
      omega (arith, loop'.invariant.2, no_more (takes_keeps (turn_takes ns args'.d _)) turn),
    )

pub expression-returns : goal.expression-returns
unfolding terms
expression-returns t c =
    let args' = c.args in
    let term' = c.term-x in
    let loop' = c.loop-s in
    let sign-ahead' = c.sign_ahead in
    let ns = names_of args'.text.now args'.places.now args'.lists.now args'.count in
    then _ term'.ensures (over _ _ (turn_takes ns args'.d) loop'.invariant.0 sign-ahead'.ensures c.loop-s-test.false)

pub term-returns-then-d-eq0 : goal.term-returns-then-d-eq0
unfolding term_due bracket bytes
term-returns-then-d-eq0 t c =
    let is' = c.is in
    let if1' = c.if-is in
    let due' = c.due-a in
    let if2' = c.if-d-eq0 in
    let refuse-if' = c.refuse_if-cursor in
    ahead_yes "(" _ _ is'.ensures if1'.true
    (then _ due'.ensures
    (then {a = []} _ (rw if2'.true (refused_by refuse-if'.ensures refl)) (stays (refused_no refuse-if'.ensures refl))))

pub term-expression-g-requires : goal.term-expression-g-requires
unfolding bytes
term-expression-g-requires t c =
    let pre' = c.requires in
    let is' = c.is in
    let if1' = c.if-is in
    let due' = c.due-a in
    (omega (arith, c.decreases, less (takes_due _) (on _ _ is'.ensures if1'.true) due'.ensures), pre')

pub term-returns-then-is : goal.term-returns-then-is
unfolding term_due bytes
term-returns-then-is t c =
    let args' = c.args in
    let is' = c.is in
    let if1' = c.if-is in
    let due' = c.due-a in
    let if2' = c.if-d-eq0 in
    let expression' = c.expression-g in
    let due2' = c.due-cursor in
    let ns = names_of args'.text.now args'.places.now args'.lists.now args'.count in
    ahead_yes "(" _ _ is'.ensures if1'.true
    (then _ due'.ensures
    (then _ (rw (bracket_in ns args'.d args'.c.at if2'.false) expression'.ensures) (then _ due2'.ensures given)))

pub term-set_at-set-requires : goal.term-set_at-set-requires
term-set_at-set-requires t c =
    let pre' = c.requires in
    pre'.sized.rows

pub term-returns : goal.term-returns
unfolding term_due bytes
term-returns t c =
    let args' = c.args in
    let is' = c.is in
    let if1' = c.if-is in
    let old-name' = c.old_name-x in
    ahead_no "(" _ _ is'.ensures if1'.false
    (then _ (old_named (list_at args'.lists.now) (names args'.text.now args'.places.now args'.count) old-name'.ensures)
    (rw c.set_at-set.ensures given))

-- `first_from` meets its contract. The invariant: the next token from here is the next token from `at`.
use mathlib.Core.Path.{refl, ap, ◌∙◌, sym}
use Rattle.tokens.specs.Tokens.{plain, toks, first}
use Rattle.tokens.proofs.Reading.{bad_stops, blank_goes, over}
use Rattle.tokens.proofs.first_from.Goals as goal

pub loop-i-init : goal.loop-i-init
loop-i-init c = refl

pub returns-then-b-eq47 : goal.returns-then-b-eq47
returns-then-b-eq47 c = c.past_comments-step.ensures ∙ sym c.loop-i.invariant

pub returns-then-not-is_allowed : goal.returns-then-not-is_allowed
unfolding toks
returns-then-not-is_allowed c =
    let bad = sym c.is_allowed.ensures ∙ c.if-not-is_allowed.true in
    rw c.bad_byte.ensures (sym (c.loop-i.invariant ∙ bad_stops _ _ plain c.loop-i-test.true bad))

pub token_length-length-requires : goal.token_length-length-requires
token_length-length-requires c =
    record {
      inside = c.loop-i-test.true;
      byte = refl;
      good = sym c.is_allowed.ensures ∙ c.if-not-is_allowed.false;
      mark = sym c.is_blank.ensures ∙ c.if-not-is_blank.true;
      alone = c.if-b-eq47.false;
    }

pub returns-then-not-is_blank : goal.returns-then-not-is_blank
returns-then-not-is_blank c = sym (c.loop-i.invariant ∙ c.token_length-length.ensures)

pub loop-i-preserved : goal.loop-i-preserved
loop-i-preserved c =
    c.loop-i.invariant
    ∙ ap first (blank_goes _ _ c.loop-i-test.true (sym c.is_blank.ensures ∙ c.if-not-is_blank.false))

pub returns : goal.returns
returns c = sym (c.loop-i.invariant ∙ over _ _ c.loop-i-test.false)

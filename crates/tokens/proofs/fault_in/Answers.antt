-- `fault_in` meets its contract. The invariant: the text is short enough, and its fault is the fault from here on.
use Prim.Native.Nat.{ℕ, ◌≤◌}
use mathlib.Core.List.{List}
use lib.ListN.{length}
use Rattle.tokens.specs.Refusals.{text_most}
use mathlib.Core.Path.{◌≡◌, refl, ◌∙◌, sym}
use native.Mathlib.Omega.{arith}
use Rattle.tokens.specs.Tokens.{Next, toks, first, next_token, fault_of}
use Rattle.tokens.proofs.Reading.{short_enough}
use Rattle.tokens.proofs.Results.{met_token, met_end, handed_on}
use Rattle.tokens.proofs.Laws.{first_token}
use Rattle.tokens.proofs.Faults.{fault_behind, fault_none, fault_there, fault_too_long, fault_goes, fault_bad, fault_over}
use Rattle.tokens.proofs.fault_in.Goals as goal

pub returns-in_err-short_enough : goal.returns-in_err-short_enough
returns-in_err-short_enough c =
    let told = c.in_err-short_enough.ensures in
    rw (handed_on _ _ c.from_residual.ensures.1, told.1) (sym (fault_too_long _ told.0))

pub loop-i-init : goal.loop-i-init
unfolding fault_of
loop-i-init c = (c.in_ok-short_enough.ensures, refl)

pub returns-then-not-is_allowed : goal.returns-then-not-is_allowed
returns-then-not-is_allowed c =
    let known = c.loop-i.invariant in
    let bad = sym c.is_allowed.ensures ∙ c.if-not-is_allowed.true in
    rw c.bad_byte.ensures (sym (known.1 ∙ fault_bad c.args.text.now _ known.0 c.loop-i-test.true bad))

-- the next token from a place, in a text that is short enough, once it is known
next : (text : List ℕ) (i : ℕ) {n : Next} → length text ≤ text_most → first (toks text i) ≡ n → next_token text i ≡ n
next _ _ short e = short_enough _ _ short ∙ e

pub overflow_add-i : goal.overflow_add-i
overflow_add-i c = omega (arith, first_token _ _ _ _ (met_token c.in-Some.is c.in_ok-token.ensures))

pub loop-i-smaller-then-b-eq47 : goal.loop-i-smaller-then-b-eq47
loop-i-smaller-then-b-eq47 c = omega (arith, first_token _ _ _ _ (met_token c.in-Some.is c.in_ok-token.ensures))

pub loop-i-preserved-then-b-eq47 : goal.loop-i-preserved-then-b-eq47
loop-i-preserved-then-b-eq47 c =
    let known = c.loop-i.invariant in
    (known.0, known.1 ∙ fault_behind _ _ _ _ (next _ _ known.0 (met_token c.in-Some.is c.in_ok-token.ensures)))

pub returns-in_default : goal.returns-in_default
returns-in_default c =
    let known = c.loop-i.invariant in
    sym (known.1 ∙ fault_none _ _ (next _ _ known.0 (met_end c.in_default.is c.in_ok-token.ensures)))

pub returns-in_err-token : goal.returns-in_err-token
returns-in_err-token c =
    let known = c.loop-i.invariant in
    rw (handed_on _ _ c.from_residual-in_err-token.ensures.1) (sym (known.1 ∙ fault_there _ _ _ _ (next _ _ known.0 (sym c.in_err-token.ensures))))

pub loop-i-preserved : goal.loop-i-preserved
loop-i-preserved c =
    let known = c.loop-i.invariant in
    let good = sym c.is_allowed.ensures ∙ c.if-not-is_allowed.false in
    (known.0, known.1 ∙ fault_goes c.args.text.now _ c.loop-i-test.true good c.if-b-eq47.false)

pub returns : goal.returns
returns c =
    let known = c.loop-i.invariant in
    sym (known.1 ∙ fault_over c.args.text.now _ known.0 c.loop-i-test.false)

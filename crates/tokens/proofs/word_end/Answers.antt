-- `word_end` meets its contract. The invariant: a place and the word bytes from it on sum to the same, whether counted from `at` or from here.
use mathlib.Core.Path.{sym, ◌∙◌}
use native.Mathlib.Omega.{arith}
use Rattle.tokens.proofs.Reading.{word_goes, word_ends, word_over}
use Rattle.tokens.proofs.word_end.Goals as goal

pub returns-then-not-is_wordy : goal.returns-then-not-is_wordy
returns-then-not-is_wordy c =
    omega (
      arith,
      word_ends c.args.text.now c.loop-i.i c.loop-i-test.true
          (sym c.is_wordy.ensures ∙ c.if-not-is_wordy.true),
    )

pub loop-i-preserved : goal.loop-i-preserved
loop-i-preserved c =
    omega (
      arith,
      word_goes c.args.text.now c.loop-i.i c.loop-i-test.true
          (sym c.is_wordy.ensures ∙ c.if-not-is_wordy.false),
    )

pub returns : goal.returns
returns c = omega (arith, word_over c.args.text.now c.loop-i.i c.loop-i-test.false)

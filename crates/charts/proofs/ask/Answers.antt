-- `ask` meets its contract: numbers that name no waveform, or a single call.
use Rattle.charts.proofs.Lists.{next_asked}
use Rattle.charts.proofs.Drawing.{ask_short, ask_unlike, ask_named}
use Rattle.charts.proofs.ask.Goals as goal

pub returns-then-asked-at-lt-ASK : goal.returns-then-asked-at-lt-ASK
returns-then-asked-at-lt-ASK c = λ x xs q. ask_short (next_asked _ _ c.requires.1) q _ c.if-asked-at-lt-ASK.true

pub returns-then-char-gt-CHAR : goal.returns-then-char-gt-CHAR
returns-then-char-gt-CHAR c =
    λ x xs q. ask_unlike (next_asked _ _ c.requires.1) q c.if-asked-at-lt-ASK.false _ c.if-char-gt-CHAR.true

pub returns : goal.returns
returns c =
    λ x xs q.
    ask_named (next_asked _ _ c.requires.1) q c.if-asked-at-lt-ASK.false _ c.if-char-gt-CHAR.false c.single.ensures

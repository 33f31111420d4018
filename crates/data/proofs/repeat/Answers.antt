-- How many times, then a word, then the test on its bytes; the spelled-out word is what they are read as.
use mathlib.Core.Path.{ap}
use Rattle.meaning.specs.Data.{stretched}
use Rattle.words.proofs.Flow.{then, given}
use Rattle.data.proofs.Over.{adds_same}
use Rattle.data.proofs.Pieces.{chars_read, repeat_word}
use Rattle.data.proofs.repeat.Goals as goal

pub shape_of-buffer : goal.shape_of-buffer
shape_of-buffer c = c.stretch-m.ensures.kept

pub returns : goal.returns
returns c =
    let e = c.bytes_of-w.ensures in
    let times = c.times-t in
    let read = chars_read _ e c.all_chars.ensures c.refuse_if-cursor.ensures in
    record {
      ds = _;
      goes = repeat_word times.ensures (then _ c.word-e.ensures (then _ read given));
      kept = c.stretch-m.ensures.kept;
      puts = λ h. adds_same c.stretch-m.ensures (ap (stretched times.result.n) e);
    }

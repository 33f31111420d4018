-- `crossing` meets its contract: the times of the text's waveforms are put into tables, and its run is played over them.
use Prim.Native.Nat.{ℕ}
use mathlib.Core.Path.{◌∙◌}
use lib.ListN.{length-replicate}
use Rattle.words.proofs.Words.{zeros}
use Rattle.meaning.specs.Bounds.{tables_most}
use Rattle.texts.proofs.Sounds.{sound_runs}
use Rattle.spans.specs.Spans.{times_most}
use Rattle.verdicts.proofs.Found.{runs}
use Rattle.verdicts.proofs.crossing.Goals as goal

pub of_text-requires : goal.of_text-requires
of_text-requires c =
    let found = c.requires.1 in
    let read = sound_runs _ found.is in
    record {
      sized = record { first = length-replicate {A = ℕ} times_most 0; last = length-replicate {A = ℕ} times_most 0; each = length-replicate {A = ℕ} tables_most 0 };
      by_index = λ i. (zeros times_most i, zeros times_most i, zeros tables_most i);
      text_value = (found.it.read, read.rest, read.read);
    }

pub first_failing_pair-requires : goal.first_failing_pair-requires
first_failing_pair-requires c =
    let filled = c.of_text in
    let found = c.requires.1 in
    let read = sound_runs _ found.is in
    record {
      sized = record {
        first = filled.auto.firsts ∙ length-replicate {A = ℕ} times_most 0;
        last = filled.auto.lasts ∙ length-replicate {A = ℕ} times_most 0;
        each = filled.auto.periods ∙ length-replicate {A = ℕ} tables_most 0;
      };
      spans = (record { parts = _; read = _; body = _; runs = runs found }, filled.ensures found.it.read read.rest read.read);
    }

pub returns : goal.returns
returns c = record {
  decides = λ f.
      let read = sound_runs _ f.is in
      c.first_failing_pair.ensures _ _ _ (runs f) (c.of_text.ensures f.it.read read.rest read.read);
}

-- What is decided of a text before it is played: refusals 1 to 16 (document 01, "Refusal numbers"), and what is told of a text that passes them.
use Rattle.std.specs.Prelude.{ℕ, true, false, List, length}
use Rattle.std.proofs.Math.Option.{none, some}
use Rattle.tokens.specs.Tokens.{toks, fault_of}
use Rattle.meaning.specs.Refusals.{too_large, not_playable}
use Rattle.meaning.specs.Reader.{Res, ok, refuse}
use Rattle.meaning.specs.Body.{Body}
use Rattle.meaning.specs.Run.{cycles_of, cycles, size}
use Rattle.meaning.specs.Document.{Read, document}
use Rattle.meaning.specs.Meaning.{Answer, given, refused, answering, run_of, fitting, first_failing, Meaning, ordered, meaning_of}
use Rattle.meaning.specs.Services.{Counts}

-- a text's parts and its run
pub record Sound : Type 0 where
  pub read : Read
  pub run : Body

-- 16: the run fits
unfoldable pub sized : Read → Body → Answer Sound
sized d r = elim (fitting r) [ false ↦ refused too_large 0 | true ↦ given (record { read = d; run = r }) ]

-- 15: the listed patterns are there
unfoldable pub runnable : Res Read → Answer Sound
runnable (ok d ts) = answering (run_of d.patterns d.listed) (sized d)
runnable (refuse n p) = refused n p

-- 1 to 16
unfoldable pub sound : List ℕ → Answer Sound
sound text = elim (fault_of text) [ some f ↦ refused f.0 f.1 | none ↦ runnable (document (toks text 0)) ]

-- what is told of it: signals, tables, listed patterns, cycles, size
unfoldable pub counts_of : Sound → Counts
counts_of x = record {
  signals = length x.read.signals;
  tables = length x.read.tables;
  listed = length x.read.listed;
  cycles = cycles 0 x.run;
  size = size x.run;
}

-- and then 17 and 25: the meaning of the text
unfoldable pub played : Sound → Answer Meaning
played x =
    elim (first_failing x.read.tables (cycles_of (length x.read.signals) x.run)) [
      | some p ↦ refused not_playable p
      | none ↦ ordered (meaning_of x.read x.run)
    ]

-- The service Fold (request 11): the folded text at the front of a lent buffer. Refusals, after the text's: 23, 22, 19, at place 0.
use Rattle.std.specs.Prelude.{ℕ, true, false, ◌&&◌, List, ◌++◌, length, drop, leb}
use Rattle.tokens.specs.Refusals.{text_most}
use Rattle.meaning.specs.Refusals.{no_room}
use Rattle.meaning.specs.Bounds.{patterns_most}
use Rattle.meaning.specs.Run.{cycles}
use Rattle.meaning.specs.Meaning.{Answer, given, refused, answering, Meaning, meaning}
use Rattle.folded.specs.Flat.{patterns_of, flat}
use Rattle.folded.specs.Layout.{written}

-- cycles that are folded at most
abbrev pub folded_most : ℕ
folded_most = 1_000_000

-- 22: more Patterns than a text may have
abbrev pub many_patterns : ℕ
many_patterns = 22

-- 23: more cycles than are folded
abbrev pub many_cycles : ℕ
many_cycles = 23

-- how many bytes it has, and the buffer with them at its front
pub record Folded : Type 0 where
  pub size : ℕ
  pub buffer : List ℕ

unfoldable pub folded_in : List ℕ → List ℕ → Answer Folded
folded_in bytes buffer =
    elim (leb (length bytes) text_most && leb (length bytes) (length buffer)) [
      | false ↦ refused no_room 0
      | true ↦ given (record { size = length bytes; buffer = bytes ++ drop (length bytes) buffer })
    ]

unfoldable pub folded : List ℕ → Meaning → List ℕ → Answer Folded
folded text m buffer =
    elim (leb (cycles 0 m.run) folded_most) [
      | false ↦ refused many_cycles 0
      | true ↦ elim (leb (length (patterns_of m)) patterns_most) [
        | false ↦ refused many_patterns 0
        | true ↦ folded_in (written (flat text m)) buffer
      ]
    ]

unfoldable pub fold : List ℕ → List ℕ → Answer Folded
fold text buffer = answering (meaning text) λ m. folded text m buffer

-- A folded text on a page, whatever buffer is lent; and the service Fold.
use Rattle.std.specs.Prelude.{Some, ℕ, ◌+◌, ◌≤◌, ◌<◌, ◌≡◌, true, false, List, [], ◌++◌, leb, length, take, Result, Ok, Err}
use Rattle.tokens.specs.declared.Refusal.{Refusal}
use Rattle.tokens.specs.Written.{bytes}
use Rattle.tokens.specs.Refusals.{text_most}
use Rattle.meaning.specs.Bounds.{signals_most, patterns_most}
use Rattle.meaning.specs.Refusals.{no_room}
use Rattle.meaning.specs.Run.{cycles}
use Rattle.meaning.specs.Meaning.{Answer, given, refused, answering, firsts, Meaning, meaning}
use Rattle.meaning.specs.Results.{answer_of}
use Rattle.words.specs.Table.{names}
use Rattle.plays.specs.Plays.{Ground}
use Rattle.verdicts.specs.Buffers.{afterwards}
use Rattle.folded.specs.Pieces.{laid}
use Rattle.folded.specs.Flat.{patterns_of, directed, flat}
use Rattle.folded.specs.Layout.{signals_put, timing_put, names_from, burst_put, exec_put, written}
use Rattle.folded.specs.Fold.{folded_most, many_patterns, many_cycles, Folded as Bytes}
use Rattle.pens.specs.Pens.{Holds, Writes}
use Rattle.pens.specs.declared.Pen.{Pen}
use Rattle.flats.specs.Meant.{Meant}

-- bytes of the longest row
abbrev pub row_most : ℕ
row_most = signals_most + 2

-- ---- the lines before the Patterns

pub record SomeHead (text places : List ℕ) (signals : ℕ) : Type 0 where
  pub it : Meaning
  pub meant : meaning text ≡ given it
  pub few : signals ≤ signals_most

-- where so many Patterns are listed
unfoldable pub headed : List ℕ → Meaning → ℕ → List ℕ
headed text m count =
    (((bytes "STIL 1.0;\n" ++ laid (signals_put (directed text m.signals) [])) ++ laid (timing_put (flat text m).tables [])) ++ laid (burst_put (names_from 0 count) [])) ++ laid (exec_put [])

pub record Heads (text places : List ℕ) (signals count : ℕ) (entry exit : List ℕ) (r : Pen) : Type 0 where
  pub writes : (m : Meaning) → meaning text ≡ given m → m.signals ≡ firsts (names text places signals) → Writes entry (record { at = Some 0 }) (headed text m count) exit r

-- ---- both pages together

-- bytes on a page as long as a text may be: they have no room, or stand at its front
abbrev pub Fits : (all page : List ℕ) → Result ℕ Refusal → Type 0
Fits all page (Ok n) = (length all ≤ text_most) × (take n page ≡ all) × (n ≡ length all)
Fits all page (Err r) = (r ≡ record { no = no_room; place = 0 }) × (text_most < length all)

pub record Joins (entry : List ℕ) (pen : Pen) (other : List ℕ) (q : Pen) (exit : List ℕ) (r : Result ℕ Refusal) : Type 0 where
  pub fits : (front back before blank : List ℕ) → Holds before front pen entry → length before ≡ text_most → Holds blank back q other → length blank ≡ text_most → Fits (front ++ back) exit r

-- ---- the folded text of a text

-- 22; 19 where it is longer than a text may be
unfoldable pub flat_in : List ℕ → Meaning → Answer (List ℕ)
flat_in text m =
    elim (leb (length (patterns_of m)) patterns_most) [
      | false ↦ refused many_patterns 0
      | true ↦ elim (leb (length (written (flat text m))) text_most) [ false ↦ refused no_room 0 | true ↦ given (written (flat text m)) ]
    ]

-- 23 before that
unfoldable pub flat_of : List ℕ → Answer (List ℕ)
flat_of text = answering (meaning text) λ m. elim (leb (cycles 0 m.run) folded_most) [ false ↦ refused many_cycles 0 | true ↦ flat_in text m ]

-- it is refused, or stands at the page's front
abbrev pub Stands : Answer (List ℕ) → (page : List ℕ) → Result ℕ Refusal → Type 0
Stands a page (Ok n) = (a ≡ given (take n page)) × (length (take n page) ≡ n)
Stands a page (Err r) = a ≡ refused r.no r.place

pub record Puts (g : Ground) (list : List ℕ) (listed patterns sized : ℕ) (page : List ℕ) (r : Result ℕ Refusal) : Type 0 where
  pub stands : (m : Meaning) → Meant g list listed patterns sized m → Stands (flat_in g.text m) page r

abbrev pub Flattens : List ℕ → List ℕ → Result ℕ Refusal → Type 0
Flattens text page r = Stands (flat_of text) page r

-- ---- the service

-- the answer, with the buffer as it is afterwards
abbrev pub folded_of : Result ℕ Refusal → List ℕ → Answer Bytes
folded_of r buffer = answer_of (λ n. record { size = n; buffer = buffer }) r

-- the buffer afterwards: that of the answer, or as it was
abbrev pub buffer_of : Answer Bytes → List ℕ → List ℕ
buffer_of a buffer = afterwards (λ x. x.buffer) a buffer

-- THE PROMISE of the service, whose answer is a
pub record Folds (a : Answer Bytes) (before after : List ℕ) (r : Result ℕ Refusal) : Type 0 where
  pub answers : folded_of r after ≡ a
  pub buffer_is : after ≡ buffer_of a before

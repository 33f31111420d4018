-- A table of the code: a mark for each signal and character, 1 where the signal has a waveform for it.
use Rattle.std.specs.Prelude.{ℕ, ◌+◌, ◌*◌, ◌<◌, ◌≡◌, Bool, ◌&&◌, ◌||◌, List, [], ◌∷◌, length, get_or, ltb, eqb}
use Rattle.std.specs.List.{list_any}
use Rattle.meaning.specs.Bounds.{signals_most}
use Rattle.meaning.specs.Lists.{has}
use Rattle.meaning.specs.Timing.{Wave}
use Rattle.meaning.specs.Meaning.{has_wave}
use Rattle.meaning.specs.Signals.{Names}

-- characters that can have a mark: all letters and digits are among them
abbrev pub chars_most : ℕ
chars_most = 128

abbrev pub table_size : ℕ
table_size = signals_most * chars_most

-- the mark of signal s and character b
abbrev pub mark : List ℕ → ℕ → ℕ → Bool
mark table s b = ltb b chars_most && eqb (get_or table (s * chars_most + b) 0) 1

-- the marks are those of these waveforms
pub record Marks (table : List ℕ) (ws : List Wave) : Type 0 where
  pub each : (s b : ℕ) → s < signals_most → mark table s b ≡ has_wave s b ws

-- the marks are those of some waveforms
pub record Described (table : List ℕ) : Type 0 where
  pub waves : List Wave
  pub marks : Marks table waves

-- has a signal a mark for one of these characters
abbrev pub mark_of : List ℕ → ℕ → List ℕ → Bool
mark_of table s w = list_any (mark table s) w

-- has one of these signals
abbrev pub mark_among : List ℕ → List ℕ → List ℕ → Bool
mark_among table sigs w = list_any (λ s. mark_of table s w) sigs

-- marks more, for these signals and characters
pub record Marked (before : List ℕ) (sigs w after : List ℕ) : Type 0 where
  pub each : (s b : ℕ) → s < signals_most → mark after s b ≡ (mark before s b || has s sigs && has b w)

-- signals below the bound
abbrev pub Below : List ℕ → Type 0
Below sigs = (i : ℕ) → i < length sigs → get_or sigs i 0 < signals_most

-- those of every name
unfoldable pub AllBelow : Names → Type 0
AllBelow [] = Unit {0}
AllBelow (x ∷ ns) = Below x.1 × AllBelow ns

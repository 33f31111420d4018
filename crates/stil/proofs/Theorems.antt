-- What follows from the promises to callers in C, whatever keeps them: one answer only, and nothing written where a call is refused.
use Prim.Native.Nat.{ℕ}
use mathlib.Core.Path.{◌≡◌, refl, sym, ◌∙◌}
use mathlib.Core.List.{List}
use Rattle.meaning.specs.Meaning.{Answer, given, refused}
use Rattle.meaning.specs.Services.{Window, Waveform}
use Rattle.meaning.specs.Charts.{Chart}
use Rattle.index.specs.Index.{Rebuilt as Bytes}
use Rattle.fails.specs.Fails.{Told, Failed}
use Rattle.folded.specs.Fold.{Folded as FoldedBytes}
use Rattle.stil.specs.Folds.{Flattens}
use Rattle.stil.specs.Reports.{Replies}
use Rattle.saving.specs.Saving.{Restored}
use Rattle.verdicts.specs.Buffers.{afterwards}
use Rattle.stil.specs.Interface.{with_room, packed, Hands, Opens, Draws}
use Rattle.stil.specs.Charts.{Sketches}
use Rattle.stil.specs.Indexes.{Writes}
use Rattle.stil.specs.Saves.{Restores}

-- ---- one answer only, and one content of each buffer afterwards

-- Check, Name, the next token and the holder of a cycle; Window; the index; a saved text; Waveform; waveforms by the list
pub hands_determined : {A : Type 0} {k : ℕ} {f : A → List ℕ} {a : Answer A} {before x y : List ℕ} {r s : ℕ}
    → Hands k f a before r x → Hands k f a before s y → (r ≡ s) × (x ≡ y)
hands_determined h j = (h.number ∙ sym j.number, h.buffer ∙ sym j.buffer)

pub opens_determined : {a : Answer Window} {rows x y numbers n m : List ℕ} {r s : ℕ}
    → Opens a rows x numbers r n → Opens a rows y numbers s m → ((r ≡ s) × (n ≡ m)) × (x ≡ y)
opens_determined h j = (hands_determined h.counted j.counted, h.rows_are ∙ sym j.rows_are)

pub draws_determined : {a : Answer Waveform} {times t u letters l k count n m : List ℕ} {r s : ℕ}
    → Draws a times t letters l count r n → Draws a times u letters k count s m → ((r ≡ s) × (n ≡ m)) × (t ≡ u) × (l ≡ k)
draws_determined h j = (hands_determined h.counted j.counted, h.times_are ∙ sym j.times_are, h.letters_are ∙ sym j.letters_are)

pub sketches_determined : {a : Answer Chart} {times t u letters l k counts c d numbers n m : List ℕ} {r s : ℕ}
    → Sketches a times t letters l counts c numbers r n → Sketches a times u letters k counts d numbers s m → ((r ≡ s) × (n ≡ m)) × (t ≡ u) × (l ≡ k) × (c ≡ d)
sketches_determined h j =
    ((h.number ∙ sym j.number, h.told ∙ sym j.told), h.times_are ∙ sym j.times_are, h.letters_are ∙ sym j.letters_are, h.counts_are ∙ sym j.counts_are)

pub writes_determined : {a : Answer Bytes} {buffer x y numbers n m : List ℕ} {r s : ℕ}
    → Writes a buffer x numbers r n → Writes a buffer y numbers s m → ((r ≡ s) × (n ≡ m)) × (x ≡ y)
writes_determined h j = (hands_determined h.counted j.counted, h.index_is ∙ sym j.index_is)

pub restores_determined : {a : Answer Restored} {text t u spans b c numbers n m : List ℕ} {r s : ℕ}
    → Restores a text t spans b numbers r n → Restores a text u spans c numbers s m → ((r ≡ s) × (n ≡ m)) × (t ≡ u) × (b ≡ c)
restores_determined h j = (hands_determined h.counted j.counted, h.text_is ∙ sym j.text_is, h.spans_are ∙ sym j.spans_are)

pub flattens_determined : {a : Answer FoldedBytes} {folded x y numbers n m : List ℕ} {r s : ℕ} → Flattens a folded x numbers r n → Flattens a folded y numbers s m → ((r ≡ s) × (n ≡ m)) × (x ≡ y)
flattens_determined h j = (hands_determined h.counted j.counted, h.folded_is ∙ sym j.folded_is)

-- ---- a refused call leaves every buffer as it was

-- any number but 0 is a refusal
not_given : {A : Type 0} (a : Answer A) (f : A → List ℕ) (before : List ℕ) → (packed a ≡ 0 → ⊥) → afterwards f a before ≡ before
unfolding packed afterwards
not_given (given x) f before h = absurd (h refl)
not_given (refused n p) f before h = refl

pub hands_untouched : {A : Type 0} {k : ℕ} {f : A → List ℕ} {a : Answer A} {before after : List ℕ} {r : ℕ} → Hands k f a before r after → (r ≡ 0 → ⊥) → after ≡ before
hands_untouched {A} {k} {f} {a} {before} h z = h.buffer ∙ not_given (with_room k before a) _ before (λ e. z (h.number ∙ e))

pub opens_untouched : {a : Answer Window} {rows x numbers n : List ℕ} {r : ℕ} → Opens a rows x numbers r n → (r ≡ 0 → ⊥) → (n ≡ numbers) × (x ≡ rows)
opens_untouched {a} {rows} {x} {numbers} h z =
    (hands_untouched h.counted z, h.rows_are ∙ not_given (with_room 2 numbers a) _ rows (λ e. z (h.counted.number ∙ e)))

pub writes_untouched : {a : Answer Bytes} {buffer x numbers n : List ℕ} {r : ℕ} → Writes a buffer x numbers r n → (r ≡ 0 → ⊥) → (n ≡ numbers) × (x ≡ buffer)
writes_untouched {a} {buffer} {x} {numbers} h z =
    (hands_untouched h.counted z, h.index_is ∙ not_given (with_room 1 numbers a) _ buffer (λ e. z (h.counted.number ∙ e)))

pub draws_untouched : {a : Answer Waveform} {times t letters l count n : List ℕ} {r : ℕ} → Draws a times t letters l count r n → (r ≡ 0 → ⊥)
    → (n ≡ count) × (t ≡ times) × (l ≡ letters)
draws_untouched {a} {times} {t} {letters} {l} {count} h z =
    let off = not_given (with_room 1 count a) in
    (hands_untouched h.counted z, h.times_are ∙ off _ times (λ e. z (h.counted.number ∙ e)), h.letters_are ∙ off _ letters (λ e. z (h.counted.number ∙ e)))

pub restores_untouched : {a : Answer Restored} {text t spans b numbers n : List ℕ} {r : ℕ} → Restores a text t spans b numbers r n → (r ≡ 0 → ⊥)
    → (n ≡ numbers) × (t ≡ text) × (b ≡ spans)
restores_untouched {a} {text} {t} {spans} {b} {numbers} h z =
    let off = not_given (with_room 1 numbers a) in
    (hands_untouched h.counted z, h.text_is ∙ off _ text (λ e. z (h.counted.number ∙ e)), h.spans_are ∙ off _ spans (λ e. z (h.counted.number ∙ e)))

pub flattens_untouched : {a : Answer FoldedBytes} {folded x numbers n : List ℕ} {r : ℕ} → Flattens a folded x numbers r n → (r ≡ 0 → ⊥) → (n ≡ numbers) × (x ≡ folded)
flattens_untouched {a} {folded} {x} {numbers} h z = (hands_untouched h.counted z, h.folded_is ∙ not_given (with_room 1 numbers a) _ folded (λ e. z (h.counted.number ∙ e)))

-- ---- fail reports

pub replies_determined : {a : Told Failed} {c x₁ x₂ s y₁ y₂ l z₁ z₂ numbers n m : List ℕ} {r q : ℕ} → Replies a c x₁ s y₁ l z₁ numbers r n → Replies a c x₂ s y₂ l z₂ numbers q m
    → (r ≡ q) × (n ≡ m) × (x₁ ≡ x₂) × (y₁ ≡ y₂) × (z₁ ≡ z₂)
replies_determined h k =
    (h.number ∙ sym k.number, h.told ∙ sym k.told, h.cycles_are ∙ sym k.cycles_are, h.signals_are ∙ sym k.signals_are, h.letters_are ∙ sym k.letters_are)

-- A text that was read to its end is judged: by the fault where its tokens stop, by its run, and by the run's measure.
use Prim.Native.Nat.{ℕ, ◌≤◌}
use mathlib.Core.Path.{◌≡◌, sym, ap, ◌∙◌}
use mathlib.Core.Bool.{true, false}
use mathlib.Core.Option.{none}
use mathlib.Core.List.{List}
use lib.ListN.{length}
use Rattle.tokens.specs.Refusals.{text_most, not_here}
use Rattle.tokens.specs.Tokens.{fault_of}
use Rattle.meaning.specs.Refusals.{too_large}
use Rattle.meaning.specs.Document.{Read}
use Rattle.meaning.specs.Body.{Body}
use Rattle.meaning.specs.Meaning.{Answer, given, refused, run_of}
use Rattle.words.specs.Cursor.{stop_no}
use Rattle.measures.specs.declared.Measure.{Measure}
use Rattle.measures.specs.Measures.{Measures}
use Rattle.bursts.specs.Listed.{listed_in}
use Rattle.texts.specs.Texts.{sound}
use Rattle.texts.specs.Run.{Tells, sound_of, Recorded}
use Rattle.texts.specs.declared.Parts.{Parts}
use Rattle.texts.proofs.Ends.{fault_none, fault_last}
use Rattle.texts.proofs.Sounds.{sound_fault, sound_undefined, sound_large, sound_given}
use Rattle.texts.proofs.Runs.{within, fits_measured}

module _ {text book list : List ℕ} {r : Parts} {d : Read} (short : length text ≤ text_most) (h : Recorded text book list r d) where
  pub judged_fault : {n : ℕ} → n ≡ stop_no r.cursor → (n ≡ not_here → ⊥) → sound text ≡ refused n r.cursor.at
  judged_fault {n} e z = rw e (sound_fault text (fault_last text r.cursor d h.read short (λ k. z (e ∙ k))))

  module _ {n : ℕ} (e : n ≡ stop_no r.cursor) (end : n ≡ not_here) where
    clean : fault_of text ≡ none
    clean = fault_none text r.cursor d h.read short (sym e ∙ end)

    listed : {a : Answer Body} → run_of d.patterns (listed_in text list r.listed) ≡ a → run_of d.patterns d.listed ≡ a
    listed e = ap (run_of d.patterns) h.listed_are ∙ e

    pub judged_undefined : {n p : ℕ} → run_of d.patterns (listed_in text list r.listed) ≡ refused n p → sound text ≡ refused n p
    judged_undefined run = sound_undefined text clean d _ h.read (listed run)

    module _ {m : Measure} {b : Body} (run : run_of d.patterns (listed_in text list r.listed) ≡ given b) (measured : Measures b m) where
      pub judged_large : within m ≡ false → sound text ≡ refused too_large 0
      judged_large large = sound_large text clean d _ h.read (listed run) (fits_measured measured ∙ large)

      pub judged_sound : within m ≡ true → sound text ≡ given (sound_of d b)
      judged_sound fits = sound_given text clean d _ h.read (listed run) (fits_measured measured ∙ fits)

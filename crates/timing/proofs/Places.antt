-- Where a cursor stands in its text.
use Prim.Native.Nat.{ℕ}
use native.Mathlib.Omega.{arith}
use mathlib.Core.Path.{◌≡◌, sym, ◌∙◌}
use mathlib.Core.Bool.{true, false}
use mathlib.Core.List.{List}
use Rattle.meaning.specs.Reader.{due_of}
use Rattle.words.specs.Cursor.{alive, Goes}
use Rattle.words.specs.declared.Cursor.{Cursor}
use Rattle.words.proofs.Flow.{behind_due}
use Rattle.timing.specs.Watch.{Placed}

-- the tokens behind a token that was due are the text's from its end on
pub due_placed : {text : List ℕ} {c r : Cursor} {p : ℕ} (w : List ℕ) → Goes text c (due_of w) r p → Placed text r
due_placed {c = c} w g = record { from = c.end; there = λ h. behind_due w g h }

-- nothing is said of a refused cursor
pub refused_placed : {text : List ℕ} {c : Cursor} → alive c ≡ false → Placed text c
refused_placed e = record { from = 0; there = λ h. (let o : true ≡ false = sym h ∙ e in let z : ◌≡◌ {A = ℕ} 0 1 = cc in absurd (omega arith)) }

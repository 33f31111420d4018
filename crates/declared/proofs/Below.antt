-- The signals of every name that was read lie below the bound, so that each has its marks.
use Prim.Native.Nat.{ℕ, zero, suc, ◌≤◌}
use native.Mathlib.Omega.{arith}
use mathlib.Core.Path.{◌≡◌}
use mathlib.Core.Bool.{true}
use mathlib.Core.List.{List}
use Rattle.meaning.specs.Bounds.{signals_most}
use Rattle.meaning.specs.Signals.{Names}
use Rattle.sets.proofs.Tidy.{TidyBelow, bare, next}
use Rattle.words.specs.Cursor.{alive}
use Rattle.words.specs.declared.Cursor.{Cursor}
use Rattle.signals.specs.Names.{names_of, AllTidy, none, more, Fronted}
use Rattle.signals.proofs.Tidy.{gave, declared_front}
use Rattle.timing.specs.Marks.{Below, AllBelow}

pub tidy_below : (most : ℕ) → most ≤ signals_most → {l : List ℕ} → TidyBelow most l → Below l
tidy_below most h bare i k = absurd (omega arith)
tidy_below most h (next b u t) zero k = omega arith
tidy_below most h (next b u t) (suc i) k = tidy_below most h t i (omega arith)

all_tidy_below : (most : ℕ) → most ≤ signals_most → {ns : Names} → AllTidy most ns → AllBelow ns
unfolding AllBelow
all_tidy_below most h none = tt
all_tidy_below most h (more t ts) = (tidy_below most h t, all_tidy_below most h ts)

pub names_below : {text : List ℕ} {c r : Cursor} {places lists : List ℕ} {signals names : ℕ} → Fronted text c r places lists signals names → alive r ≡ true
    → AllBelow (names_of text places lists names)
names_below f e = let d = gave declared_front f.goes e in all_tidy_below _ (omega (arith, d.signals.few)) d.names.tidy

-- Timing of an accepted text is written with the text's own signals.
use Prim.Native.Nat.{ℕ}
use mathlib.Core.Path.{◌≡◌, ap}
use mathlib.Core.List.{List, []}
use Rattle.tokens.specs.Tokens.{Tok}
use Rattle.meaning.specs.Meaning.{Meaning}
use Rattle.folded.specs.Pieces.{laid}
use Rattle.folded.specs.Flat.{sheets, flat}
use Rattle.folded.specs.Layout.{timing_put}
use Rattle.pens.specs.Pens.{Writes}
use Rattle.pens.specs.declared.Pen.{Pen}
use Rattle.pens.proofs.Laws.{writes_same}

pub flat_writes : {a d : List ℕ} {p r : Pen} (text : List ℕ) (m : Meaning) {ss : List Tok} → ss ≡ m.signals → Writes a p (laid (timing_put (sheets ss m.tables) [])) d r
    → Writes a p (laid (timing_put (flat text m).tables [])) d r
unfolding flat
flat_writes text m e w = writes_same (ap (λ (l : List Tok). laid (timing_put (sheets l m.tables) [])) e) w

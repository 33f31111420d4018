-- For callers: what the blocks of names make ready, and what is known of a statement's assignments where nothing was refused.
use Prim.Native.Nat.{ℕ, ◌<◌}
use mathlib.Core.Path.{◌≡◌, refl, sym, ap, ◌∙◌}
use mathlib.Core.Bool.{Bool, true, false, ◌||◌, true≢false}
use mathlib.Core.List.{List, [], ◌∷◌}
use lib.Dec.{eqb}
use lib.ListN.{get_or}
use Rattle.tokens.proofs.Bools.{neither}
use Rattle.meaning.specs.Bounds.{signals_most}
use Rattle.meaning.specs.Body.{Assigns, mark}
use Rattle.meaning.specs.Lists.{has, repeats}
use Rattle.meaning.specs.Signals.{Names}
use Rattle.meaning.specs.Timing.{wave_char}
use Rattle.meaning.specs.Data.{assigned, assigns}
use Rattle.words.specs.declared.Cursor.{Cursor}
use Rattle.words.specs.Cursor.{alive}
use Rattle.sets.proofs.Tidy.{Tidy}
use Rattle.signals.specs.Names.{AllTidy, Fronted}
use Rattle.signals.proofs.Tidy.{gave, declared_front, tidy_wider}
use Rattle.signals.proofs.Tables.{known}
use Rattle.assigns.specs.Given.{char_of, chars, Gives, Ready}
use Rattle.assigns.proofs.Read.{differ_assigns, tidy_once, no_mark_assigned, no_other_assigned}

-- both blocks were read
pub ready : {text : List ℕ} {c r : Cursor} {places lists : List ℕ} {signals names : ℕ} → Fronted text c r places lists signals names → alive r ≡ true
    → Ready text places lists names
ready {text} {c} {r} {places} {lists} {signals} {names} h live =
    let d = gave declared_front h.goes live in
    record {
      usable = record { sized = h.sized; chained = h.chained live; tidy = tidy_wider d.signals.few d.names.tidy };
      fits = (known h live).fits;
    }

-- a character that is never assigned is in no signal's place
char_not : (b s : ℕ) (xs : Assigns) → eqb 0 b ≡ false → has b (chars xs) ≡ false → eqb (char_of s xs) b ≡ false
unfolding char_of chars has
char_not b s [] z h = z
char_not b s (x ∷ xs) z h = let p = neither (eqb x.1 b) (has b (chars xs)) h in by (eqb x.0 s) p.0 (char_not b s xs z p.1)
  where
    by : (t : Bool) → eqb x.1 b ≡ false → eqb (char_of s xs) b ≡ false → eqb (elim t [ true ↦ x.1 | false ↦ char_of s xs ]) b ≡ false
    by true e ih = e
    by false e ih = ih

-- no signal is assigned twice
pub assigned_once : {text : List ℕ} {c r : Cursor} {ns : Names} (may : Bool) {given : List ℕ} → AllTidy signals_most ns
    → (g : Gives text c (assigns ns may) r given) → alive r ≡ true → Tidy (assigned g.it) × (repeats (assigned g.it) ≡ false)
assigned_once {ns = ns} may all g live = let t = gave (differ_assigns ns may all) g.goes live in (t, tidy_once t)

-- where `#` may not stand, no signal has one
pub unmarked : {text : List ℕ} {c r : Cursor} (ns : Names) {given : List ℕ} → (g : Gives text c (assigns ns false) r given) → alive r ≡ true
    → (s : ℕ) → s < signals_most → eqb (get_or given s 0) mark ≡ false
unmarked ns g live s b =
    ap (λ (n : ℕ). eqb n mark) ((g.gave live).each s b) ∙ char_not mark s g.it refl (gave (no_mark_assigned ns) g.goes live)

-- each character is a letter, a digit or `#`
pub all_written : {text : List ℕ} {c r : Cursor} (ns : Names) (may : Bool) {given : List ℕ} → (g : Gives text c (assigns ns may) r given) → alive r ≡ true
    → (b : ℕ) → has b (chars g.it) ≡ true → (wave_char b || eqb mark b) ≡ true
all_written ns may g live b h = by (wave_char b || eqb mark b) refl
  where
    by : (z : Bool) → (wave_char b || eqb mark b) ≡ z → z ≡ true
    by true e = refl
    by false e = absurd (true≢false (sym h ∙ gave (no_other_assigned b ns may e) g.goes live))

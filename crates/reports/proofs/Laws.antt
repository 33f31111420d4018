-- Numbers of offsets, which are refused where they are too large; the end of a report.
use Prim.Native.Nat.{ℕ}
use native.Mathlib.Omega.{arith}
use mathlib.Core.Path.{◌≡◌, refl, sym, ap, ◌∙◌}
use mathlib.Core.Bool.{Bool, true, false, not}
use mathlib.Core.Option.{Option, none, some}
use mathlib.Core.List.{List}
use lib.Dec.{leb, ltb, eqb}
use borrow.Author.Tests.{le-leb}
use Rattle.std.specs.Prelude.{Option as Maybe, Some, None, is_some as has_value, unwrap_or}
use Rattle.tokens.specs.Refusals.{not_here}
use Rattle.tokens.specs.Tokens.{Toks}
use Rattle.tokens.proofs.Bools.{never}
use Rattle.meaning.specs.Bounds.{cycles_most}
use Rattle.meaning.specs.Refusals.{bad_number}
use Rattle.meaning.specs.Reader.{ok, refuse, refuse_if}
use Rattle.meaning.specs.Names.{within, is_some, known}
use Rattle.words.specs.Cursor.{alive, from, Goes, Checked}
use Rattle.words.specs.Values.{told, up_to, value_of}
use Rattle.words.specs.declared.Cursor.{Cursor}
use Rattle.words.proofs.Flow.{from_on, from_stop, alike, checked, passed, known_or, stream_on, stream_stop}
use Rattle.reports.specs.Report.{ending}

-- ---- numbers

within_known : (o : Option ℕ) (p : ℕ) (ts : Toks) → known ((up_to cycles_most) o) bad_number p ts ≡ within 0 cycles_most o p ts
unfolding known up_to within
within_known none p ts = refl
within_known (some n) p ts = rw (le-leb 0 n (omega arith), within) (by (leb n cycles_most))
  where
    by : (z : Bool) → known {A = ℕ} (elim z [ true ↦ some n | false ↦ none ]) bad_number p ts ≡ elim z [ true ↦ ok n ts | false ↦ refuse bad_number p ]
    by true = refl
    by false = refl

-- what the code has of something is the answer, or refused
pub known_told : {text : List ℕ} {c r : Cursor} {k p n : ℕ} {o : Option ℕ} (right : Bool) → Checked c (not right) k p r → told right n ≡ o → eqb k 0 ≡ false
    → Goes text c (known o k p) r n
unfolding is_some
known_told {text} {c} {r} {k} {p} {n} {o} right e f z = known_or e (by right ∙ ap (λ (x : Option ℕ). not (is_some x)) f) (λ h. sym f ∙ is right (passed e z h)) z
  where
    by : (b : Bool) → not b ≡ not (is_some (told b n))
    by true = refl
    by false = refl

    is : (b : Bool) → not b ≡ false → told b n ≡ some n
    is true h = refl
    is false h = let z : ◌≡◌ {A = ℕ} 0 1 = cc in absurd (omega arith)

pub number_read : {text : List ℕ} {c r : Cursor} {p n : ℕ} {b : Bool} (v : Maybe ℕ) (o : Option ℕ) → has_value v ≡ not b → Checked c b bad_number p r
    → value_of v ≡ up_to cycles_most o → n ≡ unwrap_or v 0 → Goes text c (within 0 cycles_most o p) r n
number_read {b = true} None o i e f q = alike (known_told false e f refl) (within_known o _)
number_read {b = false} None o i e f q = never i
number_read {b = true} (Some n) o i e f q = never (sym i)
number_read {b = false} (Some n) o i e f q = alike (known_told true e (ap some q ∙ f) refl) (within_known o _)

-- ---- the end

pub ended : {text : List ℕ} {c r : Cursor} → Checked c (ltb c.at c.end) not_here c.at r → Goes text c ending r tt
unfolding ending refuse_if
ended {text} {c} {r} e = record { same = (checked {text = text} e refl refl).same ∙ by (alive c) refl (ltb c.at c.end) refl }
  where
    by : (x : Bool) → alive c ≡ x → (y : Bool) → ltb c.at c.end ≡ y → from text c (refuse_if y not_here c.at) ≡ from text c ending
    by false h y k = from_stop text c (refuse_if y not_here c.at) h ∙ sym (from_stop text c ending h)
    by true h true k = from_on text c (refuse_if true not_here c.at) h ∙ sym (from_on text c ending h ∙ ap ending (stream_on text c k))
    by true h false k =
        from_on text c (refuse_if false not_here c.at) h ∙ ap (refuse_if false not_here c.at) (stream_stop text c k)
        ∙ sym (from_on text c ending h ∙ ap ending (stream_stop text c k))

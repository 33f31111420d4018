-- What a Shift holds: its readers one behind the other, and where none of them refused, the row with its uses of `#`.
use Prim.Native.Nat.{ℕ}
use mathlib.Core.Path.{◌≡◌, refl, ap}
use mathlib.Core.Bool.{Bool, true, false, not}
use mathlib.Core.List.{List}
use Rattle.meaning.specs.Bounds.{signals_most}
use Rattle.meaning.specs.Refusals.{bad_argument}
use Rattle.meaning.specs.Lists.{empty}
use Rattle.meaning.specs.Reader.{due, refuse_if}
use Rattle.meaning.specs.Signals.{Names}
use Rattle.meaning.specs.Body.{Assigns, shifted, Body, done, vec, inner, marked}
use Rattle.meaning.specs.Data.{assigns}
use Rattle.meaning.specs.Statements.{in_shift}
use Rattle.words.specs.declared.Cursor.{Cursor}
use Rattle.words.specs.Cursor.{alive, Goes, Checked}
use Rattle.words.proofs.Flow.{given, then, checked, recast, alive_before}
use Rattle.signals.specs.Names.{AllTidy}
use Rattle.timing.specs.Makes.{Makes}
use Rattle.assigns.specs.Given.{Gives}
use Rattle.measures.specs.Measures.{joined}
use Rattle.measures.specs.Uses.{Uses, Given}
use Rattle.measures.proofs.Uses.{given_read}
use Rattle.noted.specs.Noted.{Gives as Marked}
use Rattle.bodies.specs.Bodies.{Held}

not-not : (x y : Bool) → x ≡ not y → not x ≡ y
not-not x true e = rw e
not-not x false e = rw e

module _ {text : List ℕ} {c a b d r : Cursor} {ns : Names} {chars : List ℕ} {p : ℕ} {has : Bool} (all : AllTidy signals_most ns) (v : Goes text c (due "V") a p)
    (g : Gives text a (assigns ns true) b chars) (close : Goes text b (due "}") d b.at)
    (marks : (xs : Assigns) → Given xs chars → has ≡ not (empty (marked xs))) (test : Checked d (not has) bad_argument b.at r) where
  is_given : alive d ≡ true → Given g.it chars
  is_given live = given_read true all g (alive_before close live)

  pub in_shift_lem : {row row' used : List ℕ}
      → (alive r ≡ true → (f : Body) → Given g.it chars → Uses f row → Uses (joined f (inner shifted (vec p g.it done) done)) row')
      → (alive r ≡ true → (xs : Assigns) → Given xs chars → Marked used xs) → Makes text c (in_shift ns) r (Held row row' used)
  unfolding in_shift
  in_shift_lem counts notes =
      record {
        it = vec p g.it done;
        goes =
            then _ v
            (then _ g.goes
            (then _ close
            (then _
            (recast (checked test refl refl)
            (λ live. ap (λ (x : Bool). refuse_if x bad_argument b.at) (not-not has _ (marks g.it (is_given live)))))
            given)));
        held = λ live.
            (let on = alive_before (checked {text = text} test refl refl) live in
            record {
              at = p;
              assigns = g.it;
              is = refl;
              counts = λ f. counts live f (is_given on);
              gives = notes live g.it (is_given on);
            });
      }

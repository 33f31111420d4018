-- The loop over the assignments: reading on with those so far is reading the whole statement, and the table has those.
use Prim.Native.Nat.{ℕ, ◌<◌}
use mathlib.Core.Path.{◌≡◌}
use mathlib.Core.Bool.{Bool, true, false, not, ◌&&◌}
use mathlib.Core.List.{List, []}
use lib.ListN.{length}
use Rattle.meaning.specs.Bounds.{signals_most}
use Rattle.meaning.specs.Body.{Assigns}
use Rattle.meaning.specs.Reader.{ahead, due, while}
use Rattle.meaning.specs.Signals.{Names}
use Rattle.meaning.specs.Data.{assign, assigns}
use Rattle.words.specs.declared.Cursor.{Cursor}
use Rattle.words.specs.Cursor.{alive, stream, Goes}
use Rattle.words.proofs.Flow.{then, alive_before}
use Rattle.words.proofs.Loops.{Leads, begins, turned, over, ends, less, on, room}
use Rattle.assigns.specs.Given.{Gave, Gives}
use Rattle.assigns.proofs.Read.{takes_assign}

-- what the loop keeps
pub record Reading (text : List ℕ) (c : Cursor) (ns : Names) (may : Bool) (cursor : Cursor) (given : List ℕ) : Type 0 where
  pub it : Assigns
  pub leads : Leads text c (while (λ ts. not (ahead "}" ts)) (assign ns may) []) cursor (while (λ ts. not (ahead "}" ts)) (assign ns may) it)
  pub long : length given ≡ signals_most
  pub gave : alive cursor ≡ true → Gave it given

pub reading_none : {text : List ℕ} {c : Cursor} {ns : Names} {may : Bool} {given : List ℕ} → Gave [] given → Reading text c ns may c given
reading_none g = record { it = []; leads = begins; long = g.long; gave = λ h. g }

module _ {text : List ℕ} {c : Cursor} {ns : Names} {may : Bool} {cursor : Cursor} {given : List ℕ} {b : Bool}
    (x : Reading text c ns may cursor given) (e : b ≡ (alive cursor && not (ahead "}" (stream text cursor)))) where
  module _ {cursor' : Cursor} {given' : List ℕ} (h : b ≡ true) (turn : (xs : Assigns) → Gave xs given → Gives text cursor (assign ns may xs) cursor' given')
    where
      taken : Gives text cursor (assign ns may x.it) cursor' given'
      taken = turn x.it (x.gave (on _ _ e h))

      pub reading_more : Reading text c ns may cursor' given'
      reading_more =
          record {
            it = taken.it;
            leads = turned _ (assign ns may) (takes_assign ns may) x.leads e h taken.goes;
            long = taken.long;
            gave = taken.gave;
          }

      pub reading_less : room text cursor' < room text cursor
      reading_less = less (takes_assign ns may x.it) (on _ _ e h) taken.goes

  pub reading_all : {first r : Cursor} {p q : ℕ} → b ≡ false → Goes text first (due "{") c p → Goes text cursor (due "}") r q
      → Gives text first (assigns ns may) r given
  unfolding assigns
  reading_all h opening closing =
      record {
        it = x.it;
        goes = then _ opening (ends "}" (assign ns may) [] (over _ (assign ns may) (takes_assign ns may) x.leads e h) closing);
        long = x.long;
        gave = λ live. x.gave (alive_before closing live);
      }

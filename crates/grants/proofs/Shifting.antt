-- A Shift of one V, where it plays at all, is as its V.
use mathlib.Core.Path.{◌≡◌, refl, subst}
use mathlib.Core.Bool.{true, false}
use mathlib.Core.List.{List}
use Prim.Native.Nat.{ℕ}
use Rattle.tokens.specs.Written.{bytes}
use Rattle.tokens.specs.Tokens.{Toks}
use Rattle.meaning.specs.Reader.{due_of}
use Rattle.meaning.specs.Timing.{Tables}
use Rattle.meaning.specs.Body.{Assigns, shifted, done, vec, inner}
use Rattle.meaning.specs.Statements.{Env, Head}
use Rattle.held.specs.Held.{free_head, Holds}
use Rattle.words.specs.Cursor.{alive, stream, Goes}
use Rattle.words.specs.declared.Cursor.{Cursor}
use Rattle.words.proofs.Flow.{went}
use Rattle.timing.specs.Makes.{Makes}
use Rattle.measures.specs.Uses.{Given}
use Rattle.heads.specs.declared.What.{What}
use Rattle.heads.specs.Heads.{Tells}
use Rattle.plays.specs.Plays.{Ground, Holding}
use Rattle.plays.proofs.Heading.{end_due}
use Rattle.plays.proofs.Shifting.{tells_given}
use Rattle.sums.specs.Sums.{Sum}
use Rattle.sums.specs.Parts.{Assigned, Cycled}
use Rattle.sums.proofs.Statements.{shift_sums}
use Rattle.tallies.specs.Rows.{sum_at, Only, Marked}
use Rattle.grants.specs.Grants.{Open, Gone}
use Rattle.grants.proofs.Adding.{added_one, once_shift}

module _ {g : Ground} {c v d : Cursor} {more r : ℕ} {marks sums sums' : List ℕ} {E : Env} {us : Toks} {p : ℕ} {a : Assigns} (given args : List ℕ) (what : What) where
  pub shift_gone : Holding g E → Holds E (stream g.text c) (vec p a done) us → alive c ≡ true
      → Makes g.text c (free_head E) v (Tells g.text g.book g.rows given args g.known.tables what)
      → ((tabs : Tables) (a : Assigns) → Marked g.waves tabs → Given a given → (A : Sum) × Assigned g.signals a (sum_at sums r) A × Cycled tabs g.signals A (sum_at sums' r))
      → Goes g.text v (due_of (bytes "}")) d v.at → Open more marks r → Only r sums sums'
      → Gone g E us r marks marks sums sums' (inner shifted (vec p a done) done) (record { cursor = d; ends = false; shifts = true; twice = false })
  unfolding Holds
  shift_gone holding h on m f close o only =
      let w = went m.goes on h.1 in
      let gave = tells_given g.text g.book g.rows given args g.known.tables what p a
      (subst (λ (z : Head). Tells g.text g.book g.rows given args g.known.tables what z) w.is (m.held w.on)) in
      let q = end_due E (stream g.text v) us (rw w.behind h.2) in
      let e = went close w.on q.1 in
      let z = f E.tables a (g.text, g.tplaces, g.known.tables, holding.held) gave in
      record {
        added = added_one o only true _ (λ front t l y. shift_sums y z.1 z.2 p (l refl));
        once = once_shift p gave;
        on = e.on;
        behind = e.behind;
      }

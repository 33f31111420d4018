-- The loop over the pieces: reading on from here with the characters so far is reading all of DATA, and the buffer holds those characters.
use Prim.Native.Nat.{ℕ, ◌<◌}
use mathlib.Core.Path.{◌≡◌, refl, ◌∙◌}
use mathlib.Core.Bool.{Bool, true, false, not, ◌&&◌}
use mathlib.Core.List.{List, [], ◌++◌}
use lib.ListN.{length}
use Rattle.meaning.specs.Reader.{ahead, due, while}
use Rattle.meaning.specs.Data.{part, data_read}
use Rattle.words.specs.declared.Cursor.{Cursor}
use Rattle.words.specs.Cursor.{alive, stream, Goes}
use Rattle.words.proofs.Flow.{alive_before}
use Rattle.words.proofs.Loops.{Leads, begins, turned, over, closes, less, on, room}
use Rattle.data.specs.Filled.{Holds, Puts, Fills, piece_due}
use Rattle.data.proofs.Over.{holds_none}
use Rattle.data.proofs.Pieces.{part_more}
use Rattle.data.proofs.Characters.{takes_part}

-- what the loop keeps
pub record Reading (text : List ℕ) (c : Cursor) (may : Bool) (cursor : Cursor) (entry buffer : List ℕ) (n : ℕ) : Type 0 where
  pub cs : List ℕ
  pub leads : Leads text c (while (λ ts. not (ahead ";" ts)) (part may) []) cursor (while (λ ts. not (ahead ";" ts)) (part may) cs)
  pub kept : length buffer ≡ length entry
  pub holds : alive cursor ≡ true → Holds entry buffer n cs

pub reading_none : {text : List ℕ} {c : Cursor} {may : Bool} {entry : List ℕ} → Reading text c may c entry entry 0
reading_none {entry = entry} = record { cs = []; leads = begins; kept = refl; holds = λ h. holds_none entry }

module _ {text : List ℕ} {c : Cursor} {may : Bool} {cursor : Cursor} {entry buffer : List ℕ} {n : ℕ} {b : Bool}
    (x : Reading text c may cursor entry buffer n) (e : b ≡ (alive cursor && not (ahead ";" (stream text cursor)))) where
  pub reading_more : {cursor' : Cursor} {buffer' : List ℕ} {n' : ℕ} → b ≡ true → Puts text cursor (piece_due may) cursor' buffer n buffer' n'
      → Reading text c may cursor' entry buffer' n'
  reading_more h p =
      record {
        cs = x.cs ++ p.ds;
        leads = turned _ (part may) (takes_part may) x.leads e h (part_more may x.cs p.goes);
        kept = p.kept ∙ x.kept;
        holds = λ k. (p.puts k).adds entry x.cs (x.holds (alive_before p.goes k));
      }

  pub reading_less : {cursor' : Cursor} {buffer' : List ℕ} {n' : ℕ} → b ≡ true → Puts text cursor (piece_due may) cursor' buffer n buffer' n'
      → room text cursor' < room text cursor
  reading_less h p = less (takes_part may x.cs) (on _ _ e h) (part_more may x.cs p.goes)

  pub reading_all : {r : Cursor} {last : ℕ} → b ≡ false → Goes text cursor (due ";") r last → Fills text c (data_read may) r entry buffer n last
  unfolding data_read
  reading_all h g =
      record {
        cs = x.cs;
        goes = closes ";" (part may) [] (over _ (part may) (takes_part may) x.leads e h) g;
        kept = x.kept;
        holds = λ k. x.holds (alive_before g k);
      }

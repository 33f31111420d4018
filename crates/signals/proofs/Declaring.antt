-- One signal or group more: the readers of its declaration one behind the other, and what is known where none of them refused.
use Prim.Native.Nat.{ℕ, ◌+◌, ◌<◌}
use mathlib.Core.Path.{◌≡◌, refl, sym, ap, ◌∙◌}
use mathlib.Core.Bool.{Bool, true}
use mathlib.Core.List.{List, [], ◌∷◌, ◌++◌}
use lib.Dec.{leb}
use borrow.Author.Tests.{leb-false}
use Rattle.meaning.specs.Bounds.{signals_most, groups_most, brackets_most}
use Rattle.meaning.specs.Refusals.{too_many, bad_group}
use Rattle.meaning.specs.Lists.{empty}
use Rattle.meaning.specs.Reader.{due}
use Rattle.meaning.specs.Names.{new_name, due_among}
use Rattle.meaning.specs.Signals.{Names, directions, signal, signal_up_to}
use Rattle.meaning.specs.Groups.{expression, group, group_up_to}
use Rattle.words.specs.Cursor.{ahead, alive, Goes, Checked}
use Rattle.words.specs.Table.{names}
use Rattle.words.specs.declared.Cursor.{Cursor}
use Rattle.words.proofs.Flow.{given, then, valued, checked, passed, alive_before}
use Rattle.words.proofs.Names.{new_named}
use Rattle.signals.specs.Names.{list_at, names_of, expression_within}
use Rattle.signals.proofs.Tables.{names_length}

-- ---- a signal, from c to r

pub data Signal (text places : List ℕ) (count : ℕ) (c r : Cursor) : Type 0 where
  signal_read : {a b d : Cursor} {p q : ℕ} → Goes text c (new_name (names text places count)) a (ahead text c)
      → Checked a (leb signals_most count) too_many c.at b → Goes text b (due_among directions) d p → Goes text d (due ";") r q
      → Signal text places count c r

module _ {text places : List ℕ} {count : ℕ} {c r : Cursor} where
  pub signal_fits : Signal text places count c r → alive r ≡ true → count < signals_most
  signal_fits (signal_read name room direction semicolon) on =
      leb-false signals_most count (passed room refl (alive_before direction (alive_before semicolon on)))

  pub signal_goes : Signal text places count c r → (lists : List ℕ) {l : List ℕ} {ns : Names} → l ≡ count ∷ []
      → (alive r ≡ true → names_of text places lists count ++ (ahead text c, l) ∷ [] ≡ ns) → Goes text c (signal (names_of text places lists count)) r ns
  unfolding signal_up_to
  signal_goes (signal_read name room direction semicolon) lists f h =
      let e = names_length text places lists count in
      then _ (new_named (list_at lists) (names text places count) name)
      (then _ (checked room (ap (leb signals_most) (sym e)) refl)
      (then _ direction
      (then _ semicolon
      (valued given (λ on. ap (λ (l : List ℕ). names_of text places lists count ++ (ahead text c, l) ∷ []) (ap (λ (k : ℕ). k ∷ []) e ∙ sym f) ∙ h on)))))

-- ---- a group, from c to r, with the signals g, where n are declared

pub data Group (text places lists : List ℕ) (count n : ℕ) (g : List ℕ) (c r : Cursor) : Type 0 where
  group_read : {a b d e f h i : Cursor} {p q o : ℕ} {bare : Bool} → Goes text c (new_name (names text places count)) a (ahead text c)
      → Checked a (leb (n + groups_most) count) too_many c.at b → Goes text b (due "=") d p → Goes text d (due "'") e q
      → Goes text e (expression_within brackets_most (names_of text places lists count)) f g
      → Goes text f (due "'") h f.at → Checked h bare bad_group f.at i → bare ≡ empty g → Goes text i (due ";") r o
      → Group text places lists count n g c r

module _ {text places lists : List ℕ} {count n : ℕ} {g : List ℕ} {c r : Cursor} where
  pub group_fits : Group text places lists count n g c r → alive r ≡ true → count < n + groups_most
  group_fits (group_read name room equals opening sum closing whole some semicolon) on =
      let closed = alive_before (checked {text = text} whole some refl) (alive_before semicolon on) in
      leb-false (n + groups_most) count (passed room refl (alive_before equals (alive_before opening (alive_before sum (alive_before closing closed)))))

  pub group_goes : Group text places lists count n g c r → {ns : Names}
      → (alive r ≡ true → names_of text places lists count ++ (ahead text c, g) ∷ [] ≡ ns) → Goes text c (group n (names_of text places lists count)) r ns
  unfolding group_up_to expression
  group_goes (group_read name room equals opening sum closing whole some semicolon) h =
      let e = names_length text places lists count in
      then _ (new_named (list_at lists) (names text places count) name)
      (then _ (checked room (ap (leb (n + groups_most)) (sym e)) refl)
      (then _ equals
      (then _ opening (then _ sum (then _ closing (then _ (checked whole some refl) (then _ semicolon (valued given h))))))))

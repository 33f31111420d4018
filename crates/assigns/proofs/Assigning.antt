-- One assignment: its readers one behind the other, and what the table has where none of them refused.
use Prim.Native.Nat.{ℕ}
use native.Mathlib.Omega.{arith}
use mathlib.Core.Path.{◌≡◌, refl, sym, ap, ◌∙◌, subst}
use mathlib.Core.Bool.{Bool, true, false, not}
use mathlib.Core.List.{List, ◌++◌}
use lib.Dec.{eqb}
use lib.ListN.{length, take}
use borrow.Author.Tests.{eqb-true, not-false}
use Rattle.meaning.specs.Bounds.{signals_most}
use Rattle.meaning.specs.Refusals.{bad_data}
use Rattle.meaning.specs.Body.{Assigns}
use Rattle.meaning.specs.Lists.{has, meets}
use Rattle.meaning.specs.Reader.{due}
use Rattle.meaning.specs.Names.{old_name}
use Rattle.meaning.specs.Data.{data_read, paired, assigned, assign}
use Rattle.sets.proofs.Tidy.{TidyBelow}
use Rattle.words.specs.declared.Cursor.{Cursor}
use Rattle.words.specs.Cursor.{ahead as ahead_tok, alive, Goes, Checked}
use Rattle.words.specs.Table.{names}
use Rattle.words.proofs.Flow.{given, then, stays, checked, passed, alive_before}
use Rattle.words.proofs.Names.{old_named}
use Rattle.signals.specs.Names.{list_at, names_of}
use Rattle.signals.proofs.Tidy.{gave}
use Rattle.signals.proofs.Tables.{old_below}
use Rattle.data.specs.Filled.{Fills}
use Rattle.data.proofs.Held.{held, told, length_due_lem}
use Rattle.data.proofs.Characters.{no_zero}
use Rattle.assigns.specs.Given.{Gave, Gives, placed, Row, Ready}
use Rattle.assigns.proofs.Rows.{row_most_lem}
use Rattle.assigns.proofs.Table.{gave_more, placed_take}
use Rattle.assigns.proofs.Read.{tidy_name}

pub off_on : (c : Cursor) → alive c ≡ false → alive c ≡ true → ⊥
off_on c e f = let w : true ≡ false = sym f ∙ e in let z : ◌≡◌ {A = ℕ} 0 1 = cc in omega arith

-- ---- the name

module _ {text places lists : List ℕ} {count : ℕ} {c a : Cursor} {i : ℕ} (ready : Ready text places lists count)
    (name : Goes text c (old_name (names text places count)) a (ahead_tok text c, i)) where
  pub row_of : (table : List ℕ) → alive a ≡ true → length table ≡ signals_most → Row lists i table
  row_of table live long =
      let b = old_below places count name live in
      record {
        rows = ready.usable.sized.rows;
        below = omega (arith, ready.fits);
        tidy = gave (tidy_name _ ready.usable.tidy) (old_named (list_at lists) (names text places count) name) live;
        long = long;
      }

  -- it was refused
  pub no_name : {table : List ℕ} (may : Bool) (xs : Assigns) → alive a ≡ false → length table ≡ signals_most
      → Gives text c (assign (names_of text places lists count) may xs) a table
  unfolding assign
  no_name may xs off long =
      record {
        it = xs;
        goes = then _ (old_named (list_at lists) (names text places count) name) (stays off);
        long = long;
        gave = λ live. absurd (off_on a off live);
      }

-- ---- the whole assignment, from c to r: of the name of number i, with what DATA left in the buffer

pub data Assigning (text places lists : List ℕ) (count : ℕ) (may : Bool) (c r : Cursor) (i : ℕ) (twice : Bool) (entry buffer : List ℕ) : Type 0 where
  assign_read : {a b d e : Cursor} {short : Bool} {p n last : ℕ} → Goes text c (old_name (names text places count)) a (ahead_tok text c, i)
      → Checked a twice bad_data c.at b → Goes text b (due "=") d p → Fills text d (data_read may) e entry buffer n last
      → Checked e short bad_data last r → short ≡ not (eqb n (length (list_at lists i))) → Assigning text places lists count may c r i twice entry buffer

module _ {text places lists : List ℕ} {count : ℕ} {may : Bool} {c r : Cursor} {i : ℕ} {twice : Bool} {entry buffer : List ℕ} where
  pub characters : Assigning text places lists count may c r i twice entry buffer → List ℕ
  characters (assign_read name once equals fills same size) = fills.cs

  pub all_read : (x : Assigning text places lists count may c r i twice entry buffer) (xs : Assigns) → twice ≡ meets (list_at lists i) (assigned xs)
      → Goes text c (assign (names_of text places lists count) may xs) r (xs ++ paired (list_at lists i) (characters x))
  unfolding assign characters
  all_read (assign_read name once equals fills same size) xs t =
      then _ (old_named (list_at lists) (names text places count) name)
      (then _ (checked once t refl)
      (then _ equals
      (then _ fills.goes (then _ (length_due_lem fills (length (list_at lists i)) (omega (arith, row_most_lem lists i)) same refl size) given))))

  -- some of it was refused
  pub refused : {table : List ℕ} (x : Assigning text places lists count may c r i twice entry buffer) (xs : Assigns)
      → twice ≡ meets (list_at lists i) (assigned xs) → alive r ≡ false → length table ≡ signals_most
      → Gives text c (assign (names_of text places lists count) may xs) r table
  refused x xs t off long =
      record {
        it = xs ++ paired (list_at lists i) (characters x);
        goes = all_read x xs t;
        long = long;
        gave = λ live. absurd (off_on r off live);
      }

  -- nothing was: a character for each signal stands at the buffer's front, and none is 0
  pub record Right (x : Assigning text places lists count may c r i twice entry buffer) : Type 0 where
    pub once : twice ≡ false
    pub front : take (length (list_at lists i)) buffer ≡ characters x
    pub real : has 0 (characters x) ≡ false

  pub right : (x : Assigning text places lists count may c r i twice entry buffer) → alive r ≡ true → length entry ≡ signals_most → Right x
  unfolding characters
  right (assign_read {n = n} name once equals fills same size) live room =
      let read = alive_before (checked {text = text} same refl refl) live in
      let exact : n ≡ length (list_at lists i) =
      eqb-true n (length (list_at lists i)) (not-false (eqb n (length (list_at lists i))) (sym size ∙ passed same refl live)) in
      record {
        once = passed once refl (alive_before equals (alive_before fills.goes read));
        front =
            ap (λ (k : ℕ). take k buffer) (sym exact)
            ∙ held (fills.holds read) (omega (arith, row_most_lem lists i)) (omega (arith, row_most_lem lists i));
        real = told fills (λ (d : List ℕ × ℕ). has 0 d.0 ≡ false) (no_zero may) read;
      }

  -- and they were put
  pub all_put : {table table' : List ℕ} (x : Assigning text places lists count may c r i twice entry buffer) (xs : Assigns) → alive r ≡ true
      → length entry ≡ signals_most → TidyBelow signals_most (list_at lists i) → Gave xs table → twice ≡ meets (list_at lists i) (assigned xs)
      → table' ≡ placed (list_at lists i) buffer table → length table' ≡ signals_most
      → Gives text c (assign (names_of text places lists count) may xs) r table'
  all_put {table} {table'} x xs live room tidy g t q long =
      let w = right x live room in
      let more = gave_more xs (characters x) table tidy (sym t ∙ w.once) w.real g in
      let there : placed (list_at lists i) (characters x) table ≡ table' =
      ap (λ (cs : List ℕ). placed (list_at lists i) cs table) (sym w.front) ∙ placed_take (list_at lists i) buffer table ∙ sym q in
      record {
        it = xs ++ paired (list_at lists i) (characters x);
        goes = all_read x xs t;
        long = long;
        gave = λ h. subst (Gave (xs ++ paired (list_at lists i) (characters x))) there more;
      }

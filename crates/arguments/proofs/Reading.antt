-- One argument: its readers one behind the other, and what the tables have where none of them refused.
use Prim.Native.Nat.{ℕ, ◌+◌, ◌*◌}
use native.Mathlib.Omega.{arith}
use mathlib.Core.Path.{◌≡◌, refl, sym, ap, ◌∙◌}
use mathlib.Core.Bool.{Bool, true, false, not, ◌&&◌, ◌||◌, true≢false}
use mathlib.Core.List.{List, [], ◌∷◌, ◌++◌}
use lib.Dec.{ltb}
use lib.ListN.{length, get_or, set}
use borrow.Author.Tests.{ltb-false, eqb-true}
use Rattle.tokens.specs.Written.{bytes}
use Rattle.tokens.proofs.Bools.{both, neither}
use Rattle.meaning.specs.Bounds.{signals_most, argument_most}
use Rattle.meaning.specs.Refusals.{bad_data, bad_argument}
use Rattle.meaning.specs.Lists.{has, meets, inside}
use Rattle.meaning.specs.Reader.{due}
use Rattle.meaning.specs.Names.{old_name}
use Rattle.meaning.specs.Body.{Assigns, Args, Body, outside, shifting, supplied}
use Rattle.meaning.specs.Data.{data_read, assigned, is_one, arg_for, argument}
use Rattle.sets.proofs.Tidy.{TidyBelow}
use Rattle.words.specs.declared.Cursor.{Cursor}
use Rattle.words.specs.Cursor.{ahead as ahead_tok, alive, Goes, Checked}
use Rattle.words.specs.Table.{names}
use Rattle.words.proofs.Flow.{given, then, stays, checked, passed, read, alive_before, behind_due}
use Rattle.words.proofs.Names.{old_named}
use Rattle.signals.specs.Names.{row_length, list_at, names_of}
use Rattle.timing.specs.Makes.{Makes}
use Rattle.timing.proofs.Making.{made}
use Rattle.data.specs.Filled.{Fills}
use Rattle.data.proofs.Held.{held_count, length_most}
use Rattle.assigns.specs.Given.{Gave, Ready}
use Rattle.measures.specs.Uses.{Uses}
use Rattle.arguments.specs.Supplied.{marks_of, Argument, Supplied, UsedRow}
use Rattle.arguments.proofs.Counted.{marks_assigned}
use Rattle.arguments.proofs.Named.{one_is, one_below}
use Rattle.arguments.proofs.Supplying.{supplied_more}

-- ---- the name

-- the code's tests of a name's signals l are those of the definition, behind the arguments xs of the body b
pub record Tests (l : List ℕ) (twice suits : Bool) (b : Body) (xs : Args) : Type 0 where
  pub met : twice ≡ meets l (supplied xs)
  pub other : not suits ≡ (not (is_one l) || not (inside l (outside b ++ shifting b)))

module _ (l : List ℕ) {row : List ℕ} {suits : Bool} (suiting : (b : Body) → Uses b row → suits ≡ (is_one l && inside l (outside b ++ shifting b))) where
  pub tests : {text given args : List ℕ} {twice : Bool} {b : Body} {xs : Args}
      → ((ys : Assigns) → Gave ys given → twice ≡ meets l (assigned ys)) → Uses b row → Supplied text xs given args → Tests l twice suits b xs
  tests {b = b} {xs = xs} meeting uses sup =
      record {
        met = meeting (marks_of xs) sup.gave ∙ ap (meets l) (marks_assigned xs);
        other = ap not (suiting b uses) ∙ morgan (is_one l) (inside l (outside b ++ shifting b));
      }
    where
      morgan : (x y : Bool) → not (x && y) ≡ (not x || not y)
      morgan true y = refl
      morgan false y = refl

  -- a name that suits some body is one signal
  pub one : UsedRow row → suits ≡ true → length l ≡ 1
  unfolding is_one
  one u e = eqb-true _ _ (both (is_one l) (inside l (outside u.body ++ shifting u.body)) (sym (suiting u.body u.uses) ∙ e)).0

-- from c to d: the name of number i, which was not met yet and suits
pub record Naming (text places lists : List ℕ) (count : ℕ) (c d : Cursor) (i : ℕ) (twice suits : Bool) : Type 0 where
  pub behind : Cursor
  pub met : Cursor
  pub name : Goes text c (old_name (names text places count)) behind (ahead_tok text c, i)
  pub once : Checked behind twice bad_data c.at met
  pub suited : Checked met (not suits) bad_argument c.at d

-- from d to r: DATA of n characters behind `=`
pub record Data (text : List ℕ) (d r : Cursor) (n : ℕ) : Type 0 where
  pub equals : Cursor
  pub behind : Cursor
  pub place : ℕ
  pub last : ℕ
  pub entry : List ℕ
  pub buffer : List ℕ
  pub due_goes : Goes text d (due "=") equals place
  pub fills : Fills text equals (data_read false) behind entry buffer n last
  pub few : Checked behind (ltb argument_most n) bad_data last r

-- the DATA, where none of that was refused
data_at : {text : List ℕ} {d r : Cursor} {n : ℕ} (x : Data text d r n) → alive r ≡ true → Argument text x.fills.cs n d.end
data_at {text} {d} {r} {n} x live =
    let small = ltb-false argument_most n (passed x.few refl live) in
    let on = alive_before (checked {text = text} x.few refl refl) live in
    let equal = alive_before x.fills.goes on in
    let there = behind_due (bytes "=") x.due_goes equal in
    let counted = held_count (x.fills.holds on) (omega arith) in
    record { counted = counted; few = omega arith; at = (x.last, _, ap (data_read false) (sym there) ∙ (read x.fills.goes on).gave) }

-- ---- the whole argument

pub unknown : {text places lists : List ℕ} {count : ℕ} {c a : Cursor} {i : ℕ} {P : Args → Type 0} (b : Body) (xs : Args)
    → Ready text places lists count → Goes text c (old_name (names text places count)) a (ahead_tok text c, i) → alive a ≡ false
    → Makes text c (argument (names_of text places lists count) b xs) a P
unfolding argument
unknown {text} {places} {lists} {count} b xs ready name off =
    made (then _ (old_named (list_at lists) (names text places count) name) (stays {a = xs} off)) λ live. absurd (true≢false (sym live ∙ off))

module _ {text places lists : List ℕ} {count : ℕ} {c d : Cursor} {i : ℕ} {twice suits : Bool}
    (nam : Naming text places lists count c d i twice suits) where
  pub unsuited : {P : Args → Type 0} (b : Body) (xs : Args) → alive d ≡ false → Tests (list_at lists i) twice suits b xs
      → Makes text c (argument (names_of text places lists count) b xs) d P
  unfolding argument
  unsuited b xs off t =
      made
      (then _ (old_named (list_at lists) (names text places count) nam.name)
      (then _ (checked nam.once t.met refl) (then _ (checked nam.suited t.other refl) (stays {a = xs} off))))
      λ live. absurd (true≢false (sym live ∙ off))

  module _ {r : Cursor} {n : ℕ} (x : Data text d r n) {b : Body} {xs : Args} (t : Tests (list_at lists i) twice suits b xs) where
    all_read : Goes text c (argument (names_of text places lists count) b xs) r (xs ++ arg_for (list_at lists i) x.fills.cs)
    unfolding argument
    all_read =
        then _ (old_named (list_at lists) (names text places count) nam.name)
        (then _ (checked nam.once t.met refl)
        (then _ (checked nam.suited t.other refl)
        (then _ x.due_goes
        (then _ x.fills.goes (then _ (length_most x.fills argument_most (omega arith) x.few refl refl) given)))))

    pub refused : {P : Args → Type 0} → alive r ≡ false → Makes text c (argument (names_of text places lists count) b xs) r P
    refused off = made all_read λ live. absurd (true≢false (sym live ∙ off))

    pub done : {given args : List ℕ} → alive r ≡ true → length (list_at lists i) ≡ 1 → TidyBelow signals_most (list_at lists i) → Supplied text xs given args
        → Makes text c (argument (names_of text places lists count) b xs) r
        (λ ys. Supplied text ys (set given (get_or lists (i * row_length + 1) 0) 1)
        (set (set args (get_or lists (i * row_length + 1) 0) n) (signals_most + get_or lists (i * row_length + 1) 0) d.end))
    unfolding arg_for meets
    done live one tidy sup =
        let s = get_or lists (i * row_length + 1) 0 in
        let is : list_at lists i ≡ s ∷ [] = one_is lists i one in
        let on = alive_before x.due_goes (alive_before x.fills.goes (alive_before (checked {text = text} x.few refl refl) live)) in
        let free = sym t.met ∙ passed nam.once refl (alive_before (checked {text = text} nam.suited refl refl) on) in
        let new = (neither (has s (supplied xs)) false (ap (λ (l : List ℕ). meets l (supplied xs)) (sym is) ∙ free)).0 in
        made all_read λ h. rw is (supplied_more new (one_below lists i one tidy) sup (data_at x live))

-- One listed name more: the readers of its entry one behind the other, what is known where none of them refused, and what the list then holds.
use Prim.Native.Nat.{ℕ, zero, suc, ◌+◌, ◌*◌, ◌<◌}
use native.Mathlib.Omega.{arith}
use mathlib.Core.Path.{◌≡◌, refl, sym, ap, ◌∙◌}
use mathlib.Core.Bool.{true}
use mathlib.Core.List.{List, [], ◌∷◌, ◌++◌}
use lib.ListN.{length, get_or, set, length-set}
use lib.Seq.{get_or-set_same, get_or-set_other}
use lib.Dec.{leb}
use borrow.Author.Tests.{leb-false}
use Rattle.tokens.specs.Tokens.{Tok}
use Rattle.meaning.specs.Bounds.{list_most}
use Rattle.meaning.specs.Refusals.{too_many}
use Rattle.meaning.specs.Reader.{due}
use Rattle.meaning.specs.Names.{name}
use Rattle.meaning.specs.Meaning.{firsts}
use Rattle.meaning.specs.Document.{list_entry}
use Rattle.meaning.proofs.Takes.{Takes}
use Rattle.meaning.proofs.Taking.{taking}
use Rattle.words.specs.Cursor.{ahead, alive, Goes, Checked}
use Rattle.words.specs.Table.{names_from, names}
use Rattle.words.specs.declared.Cursor.{Cursor}
use Rattle.words.proofs.Flow.{given, then, valued, checked, passed, alive_before}
use Rattle.words.proofs.Names.{firsts_append, one_more_lem}
use Rattle.bursts.specs.Listed.{listed_in, list_length, Lists}

-- ---- an entry, from c to r

pub takes_entry : (l : List Tok) → Takes (list_entry l)
unfolding list_entry
takes_entry l = search taking depth 16 fits 4000

pub data Entry (text : List ℕ) (count : ℕ) (c r : Cursor) : Type 0 where
  entry_read : {a b : Cursor} {p : ℕ} → Goes text c name a (ahead text c) → Checked a (leb list_most count) too_many c.at b → Goes text b (due ";") r p
      → Entry text count c r

-- so many names are listed
pub listed_length : (text list : List ℕ) (i k : ℕ) → length (firsts (names_from text list i k)) ≡ k
unfolding firsts names_from
listed_length text list i zero = refl
listed_length text list i (suc k) = ap suc (listed_length text list (suc i) k)

module _ {text : List ℕ} {count : ℕ} {c r : Cursor} where
  pub entry_fits : Entry text count c r → alive r ≡ true → count < list_most
  entry_fits (entry_read word few semicolon) on = leb-false list_most count (passed few refl (alive_before semicolon on))

  entry_goes : Entry text count c r → (list : List ℕ) {ts : List Tok} → (alive r ≡ true → listed_in text list count ++ ahead text c ∷ [] ≡ ts)
      → Goes text c (list_entry (listed_in text list count)) r ts
  unfolding list_entry
  entry_goes (entry_read word few semicolon) list h =
      then _ word (then _ (checked few (ap (leb list_most) (sym (listed_length text list 0 count))) refl) (then _ semicolon (valued given h)))

  -- refused: the list is as it was
  pub entry_refused : Entry text count c r → (list : List ℕ) → length list ≡ list_length → (alive r ≡ true → ⊥)
      → Lists text c (list_entry (listed_in text list count)) r list (count + 1)
  entry_refused e list long stopped = record { goes = entry_goes e list (λ on. absurd (stopped on)); long = long; few = λ on. absurd (stopped on) }

  -- read: the place and the end of the name stand behind those of the others
  pub entry_listed : Entry text count c r → alive r ≡ true → (p q : List ℕ) → length p ≡ list_length
      → q ≡ set (set p (count * 2) c.at) (count * 2 + 1) c.end → Lists text c (list_entry (listed_in text p count)) r q (count + 1)
  entry_listed e on p q long s =
      let fits = entry_fits e on in
      let first = set p (count * 2) c.at in
      let start : get_or q (count * 2) 0 ≡ c.at =
      rw s (get_or-set_other first (count * 2 + 1) (count * 2) c.end 0 (λ z. omega arith) ∙ get_or-set_same p (count * 2) c.at 0 (omega arith)) in
      let end : get_or q (count * 2 + 1) 0 ≡ c.end =
      rw s (get_or-set_same first (count * 2 + 1) c.end 0 (omega (arith, length-set p (count * 2) c.at))) in
      let others : (j : ℕ) → j < count * 2 → get_or q j 0 ≡ get_or p j 0 = λ j b.
      rw s (get_or-set_other first (count * 2 + 1) j c.end 0 (λ z. omega arith) ∙ get_or-set_other p (count * 2) j c.at 0 (λ z. omega arith)) in
      record {
        goes =
            entry_goes e p
            (λ h. sym (firsts_append (names text p count) (ahead text c, count)) ∙ one_more_lem text p q count (names text p count) c count refl others start end);
        long = ap length s ∙ length-set first (count * 2 + 1) c.end ∙ length-set p (count * 2) c.at ∙ long;
        few = λ h. omega arith;
      }

-- Declared bodies by their numbers, macros and procedures alike: the number that a name has in the book says which body it stands for.
use Prim.Native.Nat.{ℕ, ◌+◌, ◌*◌, ◌-◌, ◌<◌}
use native.Mathlib.Omega.{arith}
use mathlib.Core.Path.{◌≡◌}
use mathlib.Core.Bool.{Bool, true, false, cond}
use mathlib.Core.List.{List}
use lib.ListN.{length, get_or, take, drop, length-drop}
use lib.Seq.{take_all}
use borrow.Author.Tests.{lt-ltb, le-ltb}
use Rattle.tokens.specs.Tokens.{Tok, stop}
use Rattle.meaning.specs.Names.{old_name}
use Rattle.meaning.specs.Body.{Kind, macro, procedure, done}
use Rattle.meaning.specs.Statements.{Decl, Decls, Env}
use Rattle.words.specs.Cursor.{alive, Goes}
use Rattle.words.specs.Table.{names, seconds}
use Rattle.words.specs.declared.Cursor.{Cursor}
use Rattle.signals.proofs.Tables.{old_below}
use Rattle.measures.specs.Book.{first_procedure, Used}
use Rattle.measures.proofs.Book.{listed_decl, listed_entries, old_listed}
use Rattle.heads.specs.Known.{Describes}
use Rattle.heads.specs.Heads.{kind_of, OfKind, part_of}
use Rattle.heads.specs.declared.Known.{Known}
use Rattle.heads.specs.declared.Part.{Part}

-- ---- the bodies of each kind

module _ {text places lists tplaces book rows : List ℕ} {known : Known} {e : Env} (h : Describes text places lists tplaces book rows known e) where
  -- a kind's bodies
  of_known : (macros : Bool) → OfKind text book rows (part_of known macros) (cond macros macro procedure) (cond macros e.macros e.procs)
  unfolding kind_of
  of_known true =
      record {
        counted = h.macros_counted;
        few = omega (arith, h.few_bodies);
        kind_is = λ j l. rw (lt-ltb (0 + j) first_procedure (omega (arith, h.few_bodies)), kind_of);
        listed = h.macros_are;
      }
  of_known false =
      record {
        counted = h.procs_counted;
        few = omega (arith, h.few_bodies);
        kind_is = λ j l. rw (le-ltb (first_procedure + j) first_procedure (omega arith), kind_of);
        listed = h.procs_are;
      }

  pub of_part : {part : Part} (macros : Bool) → part ≡ part_of known macros
      → OfKind text book rows part (cond macros macro procedure) (cond macros e.macros e.procs)
  of_part macros q = rw q (of_known macros)

-- ---- the body of a name

-- the names of a kind, as the code takes them
abbrev pub from_first : List ℕ → Part → List ℕ
from_first book part = take (length book - part.first * 2) (drop (part.first * 2) book)

pub from_first_lem : (book : List ℕ) (part : Part) → from_first book part ≡ drop (part.first * 2) book
from_first_lem book part = take_all (length book - part.first * 2) (drop (part.first * 2) book) (omega (arith, length-drop (part.first * 2) book))

pub nothing : Decl
nothing = record { body = done; from = stop 0 0 }

module _ {text book rows : List ℕ} {part : Part} {k : Kind} {ds : Decls} (o : OfKind text book rows part k ds) {c a : Cursor} {t : Tok} (j : ℕ)
    (name : Goes text c (old_name (names text (from_first book part) part.count)) a (t, j)) where
  -- what it stands for
  pub decl : Decl
  decl = get_or (seconds ds) j nothing

  pub found : Goes text c (old_name ds) a (t, decl)
  unfolding decl
  found = old_listed text book part.first ds (listed_entries text book rows part.first ds o.listed) nothing (rw (o.counted, ← from_first_lem book part) name)

  module _ (live : alive a ≡ true) where
    pub number_below : j < part.count
    number_below = old_below (from_first book part) part.count name live

    pub in_book : (u : Tok) × Used text book rows (part.first + j) (u, decl)
    unfolding decl
    in_book = (_, listed_decl (Used text book rows) part.first ds o.listed j (omega (arith, o.counted, number_below)) t nothing)

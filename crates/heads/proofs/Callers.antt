-- For callers: tables that were written on still describe what was declared.
use Prim.Native.Nat.{ℕ, ◌+◌, ◌≤◌, ◌<◌}
use native.Mathlib.Omega.{arith}
use mathlib.Core.Path.{◌≡◌, ◌∙◌}
use mathlib.Core.List.{List}
use lib.ListN.{length}
use Rattle.tokens.specs.Tokens.{Tok}
use Rattle.meaning.specs.Statements.{Decl, Env}
use Rattle.measures.specs.Book.{first_procedure, Used}
use Rattle.measures.proofs.Book.{listed_map}
use Rattle.heads.specs.Known.{Describes}
use Rattle.heads.specs.declared.Known.{Known}

module _ {text places lists tplaces book rows : List ℕ} {known : Known} {e : Env} (h : Describes text places lists tplaces book rows known e)
    {book' rows' : List ℕ} where
  -- every declared macro and procedure stands there as before
  pub describes_frame : length book' ≡ length book → length rows' ≡ length rows
      → ((j : ℕ) (x : Tok × Decl) → j < known.macros → Used text book rows j x → Used text book' rows' j x)
      → ((j : ℕ) (x : Tok × Decl) → first_procedure ≤ j → j < first_procedure + known.procs → Used text book rows j x → Used text book' rows' j x)
      → Describes text places lists tplaces book' rows' known e
  describes_frame b r macros procs =
      record {
        names_are = h.names_are;
        ready = h.ready;
        tables_are = h.tables_are;
        few_tables = h.few_tables;
        book_long = b ∙ h.book_long;
        rows_long = r ∙ h.rows_long;
        macros_counted = h.macros_counted;
        procs_counted = h.procs_counted;
        few_bodies = h.few_bodies;
        pattern_is = h.pattern_is;
        macros_are = listed_map _ _ 0 e.macros (λ j x p q u. macros j x (omega (arith, h.macros_counted)) u) h.macros_are;
        procs_are = listed_map _ _ first_procedure e.procs (λ j x p q u. procs j x p (omega (arith, h.procs_counted)) u) h.procs_are;
      }

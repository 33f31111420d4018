-- A used body: its name, its depth, its arguments, and whether they fit.
use Prim.Native.Nat.{ℕ, ◌+◌, ◌*◌, ◌-◌, ◌≤◌, ◌<◌}
use native.Mathlib.Omega.{arith}
use mathlib.Core.Path.{◌≡◌, refl, sym, ap, ap₂, ◌∙◌}
use mathlib.Core.Bool.{Bool, true, false, not, not-not, true≢false}
use mathlib.Core.List.{List}
use lib.Dec.{leb}
use lib.ListN.{take, drop}
use Rattle.std.specs.Prelude.{Option as Maybe, Some, None, is_some}
use Rattle.std.specs.Option.{unwrap_or}
use Rattle.tokens.specs.Tokens.{Tok}
use Rattle.meaning.specs.Bounds.{depth_most}
use Rattle.meaning.specs.Refusals.{too_deep, bad_argument}
use Rattle.meaning.specs.Reader.{refuse_if}
use Rattle.meaning.specs.Names.{old_name}
use Rattle.meaning.specs.Signals.{Names}
use Rattle.meaning.specs.Body.{Args, Kind, Body, turns, fits}
use Rattle.meaning.specs.Data.{arguments}
use Rattle.meaning.specs.Statements.{Decl, Decls, Head, ends, uses, used}
use Rattle.words.specs.Cursor.{ahead, alive, Goes, Checked}
use Rattle.words.specs.Table.{names}
use Rattle.words.specs.declared.Cursor.{Cursor}
use Rattle.words.proofs.Flow.{given as no_more, recast, stays, checked, passed, alive_before}
use Rattle.timing.specs.Makes.{Makes}
use Rattle.timing.proofs.Making.{made, makes_then, makes_bind}
use Rattle.assigns.proofs.Assigning.{off_on}
use Rattle.measures.specs.Uses.{row_length, row_at, Uses}
use Rattle.measures.specs.Book.{bodies, measure_at, Used}
use Rattle.measures.specs.declared.Measure.{Measure}
use Rattle.measures.proofs.Within.{depth_test}
use Rattle.arguments.specs.Supplied.{Supplied, UsedRow, Fits}
use Rattle.heads.specs.Heads.{Tells, OfKind, SomeKind}
use Rattle.heads.specs.declared.Part.{Part}
use Rattle.heads.specs.declared.What.TheVariants.{Uses as UsesBody}
use Rattle.heads.proofs.ByNumber.{from_first, decl, found, number_below, in_book}

-- the part of the rows that the code takes
abbrev pub taken : List ℕ → ℕ → List ℕ
taken rows i = take (i * row_length + row_length - i * row_length) (drop (i * row_length) rows)

row_part : (rows : List ℕ) (i : ℕ) → taken rows i ≡ row_at rows i
row_part rows i = ap (λ (n : ℕ). take n (drop (i * row_length) rows)) (let e : i * row_length + row_length - i * row_length ≡ row_length = omega arith in e)

some_value : (f : Maybe ℕ) → is_some f ≡ true → f ≡ Some (unwrap_or f 0)
some_value None e = absurd (true≢false (sym e))
some_value (Some x) e = refl

module _ {text book rows : List ℕ} {part : Part} {c a : Cursor} (j : ℕ)
    (name : Goes text c (old_name (names text (from_first book part) part.count)) a (ahead text c, j)) where
  -- the name was refused
  pub no_body : {k : Kind} {ds : Decls} {P : Head → Type 0} (d : ℕ) (ns : Names) → OfKind text book rows part k ds → alive a ≡ false
      → Makes text c (used k d ns ds) a P
  unfolding used
  no_body d ns o off = makes_then _ (found o j name) (made {a = ends} (stays off) (λ on. absurd (off_on a off on)))

  -- it was found: the body has a number and a row
  module _ (some : SomeKind text book rows part) (live : alive a ≡ true) where
    pub body_below : part.first + j < bodies
    body_below = omega (arith, number_below some.of_kind j name live, some.of_kind.few)

    pub row_used : UsedRow (taken rows (part.first + j))
    row_used =
        let x = some.of_kind in
        record { body = (decl x j name).body; uses = rw row_part (in_book x j name live).1.uses }

    -- and the rest was read
    module _ {b e r : Cursor} (d : ℕ) {last : ℕ} (ns : Names) {m : Measure} {given args : List ℕ} {f : Maybe ℕ} {short : Bool} {t : ℕ} (low : d ≤ depth_most)
        (measured : m ≡ measure_at book (part.first + j)) (deep : Checked a (leb d m.depth) too_deep c.at b)
        (supply : (x : Body) → Uses x (taken rows (part.first + j)) → Makes text b (arguments ns x) e (λ y. (y.1 ≡ last) × Supplied text y.0 given args))
        (fit : (text : List ℕ) (x : Body) (xs : Args) → Uses x (taken rows (part.first + j)) → Supplied text xs given args → Fits x xs f)
        (short_is : is_some f ≡ not short) (fitting : Checked e short bad_argument last r) (t_is : t ≡ unwrap_or f 0) where
      pub body_used : (tables : ℕ) {k : Kind} {ds : Decls} → OfKind text book rows part k ds
          → Makes text c (used k d ns ds) r (λ h. Tells text book rows given args tables (UsesBody (part.first + j) t) h)
      unfolding used Tells
      body_used tables {k} {ds} o =
          makes_then _ (found o j name)
          (makes_then _ (checked deep (ap (λ (m : Measure). leb d m.depth) measured ∙ depth_test there.1.entry.measured d (omega arith)) refl)
          (makes_bind _ args_read
          (makes_then _ fits_read (made no_more told))))
        where
          x : Decl
          x = decl o j name

          there : (u : Tok) × Used text book rows (part.first + j) (u, x)
          there = in_book o j name live

          in_row : Uses x.body (taken rows (part.first + j))
          in_row = rw row_part there.1.uses

          args_read : Makes text b (arguments ns x.body) e (λ y. (y.1 ≡ last) × Supplied text y.0 given args)
          args_read = supply x.body in_row

          fits_told : alive e ≡ true → Fits x.body args_read.it.0 f
          fits_told on = fit text x.body args_read.it.0 in_row (args_read.held on).1

          held_on : alive r ≡ true → alive e ≡ true
          held_on on = alive_before (checked {text = text} fitting refl refl) on

          told : alive r ≡ true
              → Tells text book rows given args tables (UsesBody (part.first + j) t) (uses k x (turns x.body args_read.it.0) args_read.it.0)
          told on =
              let some = some_value f (short_is ∙ ap not (passed fitting refl on)) in
              let due = t_is ∙ (fits_told (held_on on)).turns_is (unwrap_or f 0) some in
              let q = o.kind_is j (number_below o j name live) in
              let w = ap₂ (λ (k : Kind) (n : ℕ). uses k x n args_read.it.0) (sym q) (sym due) in
              (there.0, x, args_read.it.0, w, body_below, there.1, (args_read.held (held_on on)).1)

          fits_read : Goes text e (refuse_if (not (fits x.body args_read.it.0)) bad_argument args_read.it.1) r tt
          fits_read =
              recast (checked fitting refl refl)
              (λ on. ap₂ (λ (q : Bool) (p : ℕ). refuse_if q bad_argument p) (sym (not-not short) ∙ ap not (sym short_is ∙ (fits_told on).told)) (sym (args_read.held on).0))

-- The signals and tables of an accepted text as they are written: names that stand for their numbers, tables that may be written.
use Prim.Native.Nat.{ℕ, suc, ◌+◌}
use native.Mathlib.Nat.{zero-add, add-zero, add-suc, suc-add}
use native.Mathlib.Omega.{arith}
use mathlib.Core.Path.{◌≡◌, refl, ap, ◌∙◌, subst}
use mathlib.Core.Bool.{Bool, true, false}
use mathlib.Core.Option.{Option, none, some}
use mathlib.Core.List.{List, [], ◌∷◌, ◌++◌, append_assoc}
use lib.ListN.{length, length-append}
use Rattle.tokens.specs.Written.{same}
use Rattle.tokens.specs.Tokens.{Tok}
use Rattle.meaning.specs.Names.{find}
use Rattle.meaning.specs.Timing.{Table, Tables}
use Rattle.folded.specs.Flat.{Sheet, sheets, charts_from}
use Rattle.folded.specs.Layout.{names_of, sheet_names}
use Rattle.words.proofs.Words.{same_self}
use Rattle.folded.proofs.Reading.{AllFit, SomeFit, find_in}
use Rattle.folded.proofs.SignalsBack.{Directed, singles, NewSignal}
use Rattle.folded.proofs.TimingBack.{waves_all, tables_in, tables_in_length, NewSheet}
use Rattle.folded.proofs.StatementsBack.{numbered_in}
use Rattle.folded.specs.Same.{words_of}
use Rattle.folded.proofs.SourceTiming.{TableFits}
use Rattle.folded.proofs.Charts.{Along, Known, Knowns, charts_new}

-- ---- names that stand for their numbers

pub find_behind : {A : Type 0} (xs ys : List (List ℕ × A)) (w : List ℕ) → find_in xs w ≡ none → find_in (xs ++ ys) w ≡ find_in ys w
unfolding find_in
find_behind [] ys w h = refl
find_behind {A} (x ∷ xs) ys w h = by (same x.0 w) h (find_behind xs ys w)
  where
    by : (c : Bool) → ◌≡◌ {A = Option A} (elim c [ true ↦ some x.1 | false ↦ find_in xs w ]) none → (find_in xs w ≡ none → find_in (xs ++ ys) w ≡ find_in ys w)
        → ◌≡◌ {A = Option A} (elim c [ true ↦ some x.1 | false ↦ find_in (xs ++ ys) w ]) (find_in ys w)
    by true h ih = absurd (let z : ◌≡◌ {A = ℕ} 0 1 = cc in omega arith)
    by false h ih = ih h

singles-++ : (i : ℕ) (xs ys : List Directed) → singles i (xs ++ ys) ≡ singles i xs ++ singles (i + length xs) ys
unfolding singles
singles-++ i [] ys = rw add-zero
singles-++ i (x ∷ xs) ys = rw (singles-++ (suc i) xs ys, suc-add i (length xs), add-suc i (length xs))

single_first : (x : Directed) (xs : List Directed) (i : ℕ) → find_in (singles i (x ∷ xs)) x.0 ≡ some (i ∷ [])
unfolding find_in singles
single_first x xs i = rw (same_self x.0, find_in)

pub one_more_lem : {A : Type 0} (l : List A) (x : A) → length (l ++ x ∷ []) ≡ suc (length l)
one_more_lem l x = length-append l (x ∷ []) ∙ omega arith

pub signals_known : (before xs : List Directed) → AllFit NewSignal before xs → Knowns (singles 0 (before ++ xs)) (length before) (names_of xs)
unfolding Along names_of
signals_known before [] f = tt
signals_known before (x ∷ xs) f =
    let there : find_in (singles 0 (before ++ x ∷ xs)) x.0 ≡ some (length before ∷ []) =
    ap (λ l. find_in l x.0) (singles-++ 0 before (x ∷ xs)) ∙ find_behind (singles 0 before) _ x.0 f.0.new ∙ single_first x xs (0 + length before) ∙ rw zero-add in (
      (f.0.proper, f.0.is_name_lem, there),
      subst (λ (i : ℕ). Knowns (singles 0 (before ++ x ∷ xs)) i (names_of xs)) (one_more_lem before x)
          (subst (λ l. Knowns (singles 0 l) (length (before ++ x ∷ [])) (names_of xs)) (append_assoc before (x ∷ []) xs) (signals_known (before ++ x ∷ []) xs f.1)),
    )

-- ---- tables

abbrev sheet_of : List Tok → Tok × Table → Sheet
sheet_of signals x = record { name = x.0.word; period = x.1.period; charts = charts_from 0 signals x.1.waves }

module _ (signals : List Tok) where
  pub sheets_more : (tabs : Tables) (x : Tok × Table) → sheets signals (tabs ++ x ∷ []) ≡ sheets signals tabs ++ sheet_of signals x ∷ []
  unfolding sheets
  sheets_more [] x = refl
  sheets_more (y ∷ tabs) x = ap (λ (l : List Sheet). sheet_of signals y ∷ l) (sheets_more tabs x)

  sheets_length : (tabs : Tables) → length (sheets signals tabs) ≡ length tabs
  unfolding sheets
  sheets_length [] = refl
  sheets_length (x ∷ tabs) = ap suc (sheets_length tabs)

  none_sheets : (tabs : Tables) (w : List ℕ) → find tabs w ≡ none → find_in (tables_in (sheets signals tabs)) w ≡ none
  unfolding sheets tables_in find find_in
  none_sheets [] w h = refl
  none_sheets (x ∷ tabs) w h = by (same x.0.word w) h (none_sheets tabs w)
    where
      table : Table
      table = record { period = x.1.period; waves = waves_all (charts_from 0 signals x.1.waves) }

      by : (c : Bool) → ◌≡◌ {A = Option Table} (elim c [ true ↦ some x.1 | false ↦ find tabs w ]) none → (find tabs w ≡ none → find_in (tables_in (sheets signals tabs)) w ≡ none)
          → ◌≡◌ {A = Option Table} (elim c [ true ↦ some table | false ↦ find_in (tables_in (sheets signals tabs)) w ]) none
      by true h ih = absurd (let z : ◌≡◌ {A = ℕ} 0 1 = cc in omega arith)
      by false h ih = ih h

  module _ (n : ℕ) (names : List (List ℕ × List ℕ)) (known : Knowns names 0 (words_of signals)) where
    sheets_new : (before tabs : Tables) → AllFit (TableFits n) before tabs → AllFit (NewSheet names) (sheets signals before) (sheets signals tabs)
    unfolding sheets
    sheets_new before [] f = tt
    sheets_new before (x ∷ tabs) f = (
      record {
        proper = f.0.proper;
        is_name_lem = f.0.is_name_lem;
        new = none_sheets before x.0.word f.0.new;
        few = omega (arith, f.0.few, sheets_length before);
        some_time = f.0.some_time;
        within = f.0.within;
        charts = charts_new names n x.1.waves f.0.sound 0 signals [] known tt;
      },
      subst (λ l. AllFit (NewSheet names) l (sheets signals tabs)) (sheets_more before x) (sheets_new (before ++ x ∷ []) tabs f.1),
    )

    pub sheets_good : (tabs : Tables) → SomeFit (TableFits n) tabs → SomeFit (NewSheet names) (sheets signals tabs)
    unfolding sheets
    sheets_good [] f = absurd f
    sheets_good (x ∷ tabs) f = sheets_new [] (x ∷ tabs) f

-- ---- the numbers of tables

numbers-++ : {A : Type 0} (i : ℕ) (xs ys : List (List ℕ × A)) → numbered_in i (xs ++ ys) ≡ numbered_in i xs ++ numbered_in (i + length xs) ys
unfolding numbered_in
numbers-++ i [] ys = rw add-zero
numbers-++ i (x ∷ xs) ys = rw (numbers-++ (suc i) xs ys, suc-add i (length xs), add-suc i (length xs))

number_first : {A : Type 0} (x : List ℕ × A) (xs : List (List ℕ × A)) (i : ℕ) → find_in (numbered_in i (x ∷ xs)) x.0 ≡ some i
unfolding find_in numbered_in
number_first x xs i = rw (same_self x.0, find_in)

none_numbers : {A : Type 0} (i : ℕ) (xs : List (List ℕ × A)) (w : List ℕ) → find_in xs w ≡ none → find_in (numbered_in i xs) w ≡ none
unfolding find_in numbered_in
none_numbers i [] w h = refl
none_numbers {A} i (x ∷ xs) w h = by (same x.0 w) h (none_numbers (suc i) xs w)
  where
    by : (c : Bool) → ◌≡◌ {A = Option A} (elim c [ true ↦ some x.1 | false ↦ find_in xs w ]) none → (find_in xs w ≡ none → find_in (numbered_in (suc i) xs) w ≡ none)
        → ◌≡◌ {A = Option ℕ} (elim c [ true ↦ some i | false ↦ find_in (numbered_in (suc i) xs) w ]) none
    by true h ih = absurd (let z : ◌≡◌ {A = ℕ} 0 1 = cc in omega arith)
    by false h ih = ih h

tables_in-++ : (xs ys : List Sheet) → tables_in (xs ++ ys) ≡ tables_in xs ++ tables_in ys
unfolding tables_in
tables_in-++ [] ys = refl
tables_in-++ (x ∷ xs) ys = rw (tables_in-++ xs ys)

abbrev pub itself : ℕ → ℕ
itself k = k

-- THE LAW: a table's name stands for its number
pub tables_known : (names : List (List ℕ × List ℕ)) (before xs : List Sheet) → AllFit (NewSheet names) before xs
    → Along (Known (numbered_in 0 (tables_in (before ++ xs))) itself) (length before) (sheet_names xs)
unfolding Along sheet_names tables_in
tables_known names before [] f = tt
tables_known names before (x ∷ xs) f =
    let there : find_in (numbered_in 0 (tables_in (before ++ x ∷ xs))) x.name ≡ some (length before) =
    ap (λ l. find_in (numbered_in 0 l) x.name) (tables_in-++ before (x ∷ xs)) ∙ ap (λ l. find_in l x.name) (numbers-++ 0 (tables_in before) (tables_in (x ∷ xs)))
    ∙ find_behind (numbered_in 0 (tables_in before)) _ x.name (none_numbers 0 (tables_in before) x.name f.0.new)
    ∙ number_first _ (tables_in xs) (0 + length (tables_in before)) ∙ rw (zero-add, tables_in_length before) in (
      (f.0.proper, f.0.is_name_lem, there),
      subst (λ (i : ℕ). Along (Known (numbered_in 0 (tables_in (before ++ x ∷ xs))) itself) i (sheet_names xs)) (one_more_lem before x)
          (subst (λ l. Along (Known (numbered_in 0 (tables_in l)) itself) (length (before ++ x ∷ [])) (sheet_names xs)) (append_assoc before (x ∷ []) xs) (tables_known names (before ++ x ∷ []) xs f.1)),
    )

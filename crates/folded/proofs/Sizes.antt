-- The run of a folded text is no larger than the text has bytes.
use Prim.Native.Nat.{ℕ, suc, ◌+◌, ◌≤◌}
use native.Mathlib.Omega.{arith}
use mathlib.Core.Bool.{Bool, true, false}
use mathlib.Core.List.{List, [], ◌∷◌}
use lib.Dec.{leb}
use lib.ListN.{length, get_or, length-append}
use Rattle.tokens.specs.Written.{bytes}
use Rattle.meaning.specs.Timing.{Event, Signed, plus, minus, uncounted}
use Rattle.meaning.specs.Body.{Assigns, looped, Body, done, vec, inner}
use Rattle.meaning.specs.Run.{size}
use Rattle.pages.specs.Pages.{decimal}
use Rattle.folded.specs.Pieces.{Piece, word, only, laid, each, lf, space, semicolon, opening, closing}
use Rattle.folded.specs.Flat.{Chart, Sheet, Line, chooses, repeats, Flat}
use Rattle.folded.specs.Layout.{pattern_name, signal_put, signals_put, time_put, event_put, entry_put, chart_put, sheet_put, timing_put, listed_put, burst_put, exec_put, value_put, vector_put, line_put, pattern_put, names_from, named_from, or_one, names_of, sheet_names, pieces, written}
use Rattle.folded.proofs.StatementsBack.{body_of}
use Rattle.folded.proofs.PlayBack.{run_back}

-- ---- pieces before others

long : List Piece → ℕ
long k = length (laid k)

word_long : (w : List ℕ) (b : ℕ) (k : List Piece) → suc (long k) ≤ long (word w b ∷ k)
unfolding long laid
word_long w b k = omega (arith, length-append w (b ∷ laid k))

only_long : (b : ℕ) (k : List Piece) → suc (long k) ≤ long (only b ∷ k)
unfolding long laid
only_long b k = omega arith

-- so many bytes and a piece more
on_word : {n : ℕ} (w : List ℕ) (b : ℕ) (k : List Piece) → n ≤ long k → n ≤ long (word w b ∷ k)
on_word w b k h = omega (arith, word_long w b k)

on_only : {n : ℕ} (b : ℕ) (k : List Piece) → n ≤ long k → n ≤ long (only b ∷ k)
on_only b k h = omega (arith, only_long b k)

on_each : {X : Type 0} (put : X → List Piece → List Piece) → ((x : X) (k : List Piece) → long k ≤ long (put x k)) → {n : ℕ} (xs : List X) (k : List Piece) → n ≤ long k → n ≤ long (each put xs k)
unfolding each
on_each put h [] k l = l
on_each put h (x ∷ xs) k l = let m = on_each put h xs k l in omega (arith, h x (each put xs k))

-- ---- statements

on_value : (signals : List (List ℕ)) (x : ℕ × ℕ) (k : List Piece) → long k ≤ long (value_put signals x k)
unfolding value_put
on_value signals x k = on_word _ _ _ (on_word _ _ k (omega arith))

vector_long : (signals : List (List ℕ)) (xs : Assigns) (k : List Piece) → suc (long k) ≤ long (vector_put signals xs k)
unfolding vector_put
vector_long signals xs k = let m = on_each (value_put signals) (on_value signals) {n = long k} xs (only closing ∷ k) (on_only closing k (omega arith)) in
    omega (arith, word_long (bytes "V") opening (each (value_put signals) xs (only closing ∷ k)))

module _ (signals tables : List (List ℕ)) where
  lines_long : (ls : List Line) (k : List Piece) → size (body_of ls) + long k ≤ long (each (line_put signals tables) ls k)
  unfolding each line_put body_of size
  lines_long [] k = omega arith
  lines_long (chooses j ∷ ls) k =
      let h = lines_long ls k in
      let m = on_word (get_or tables j []) 59 (only lf ∷ each (line_put signals tables) ls k) (on_only {n = long (each (line_put signals tables) ls k)} lf (each (line_put signals tables) ls k) (omega arith)) in
      omega (arith, word_long (bytes "W") space (word (get_or tables j []) 59 ∷ only lf ∷ each (line_put signals tables) ls k))
  lines_long (repeats n xs ∷ ls) k = by (leb 2 n) (lines_long ls k)
    where
      more : List Piece
      more = each (line_put signals tables) ls k

      by : (b : Bool) → size (body_of ls) + long k ≤ long more
          → size (elim b as (λ c. Body) [ true ↦ inner (looped n) (vec 0 xs done) (body_of ls) | false ↦ vec 0 xs (body_of ls) ]) + long k
          ≤ long (elim b [ true ↦ word (bytes "Loop") space ∷ word (decimal n) opening ∷ vector_put signals xs (only closing ∷ only lf ∷ more) | false ↦ vector_put signals xs (only lf ∷ more) ])
      by true h =
          let v = vector_put signals xs (only closing ∷ only lf ∷ more) in
          omega (arith, vector_long signals xs (only closing ∷ only lf ∷ more), only_long closing (only lf ∷ more), only_long lf more, word_long (decimal n) opening v, word_long (bytes "Loop") space (word (decimal n) opening ∷ v))
      by false h = omega (arith, vector_long signals xs (only lf ∷ more), only_long lf more)

  pattern_long : (x : List ℕ × List Line) (k : List Piece) → suc (size (body_of x.1)) + long k ≤ long (pattern_put signals tables x k)
  unfolding pattern_put
  pattern_long x k =
      let ls = each (line_put signals tables) x.1 (only closing ∷ only lf ∷ k) in
      omega (
        arith,
        lines_long x.1 (only closing ∷ only lf ∷ k),
        only_long closing (only lf ∷ k),
        only_long lf k,
        only_long lf ls,
        word_long x.0 opening (only lf ∷ ls),
        word_long (bytes "Pattern") space (word x.0 opening ∷ only lf ∷ ls),
      )

  patterns_long : (i : ℕ) (ls : List (List Line)) (k : List Piece) → size (run_back ls) + long k ≤ long (each (pattern_put signals tables) (named_from i ls) k)
  unfolding each named_from run_back size
  patterns_long i [] k = omega arith
  patterns_long i (p ∷ ls) k =
      let h = patterns_long (suc i) ls k in
      omega (arith, pattern_long (pattern_name i, p) (each (pattern_put signals tables) (named_from (suc i) ls) k))

-- none at all where none is listed
some_long : (signals tables : List (List ℕ)) (ls : List (List Line)) (k : List Piece) → size (run_back ls) ≤ long (each (pattern_put signals tables) (named_from 0 (or_one ls)) k)
unfolding or_one run_back size
some_long signals tables [] k = omega arith
some_long signals tables (p ∷ ls) k = omega (arith, patterns_long signals tables 0 (p ∷ ls) k)

-- ---- what stands before the Patterns

on_signal : (x : List ℕ × List ℕ) (k : List Piece) → long k ≤ long (signal_put x k)
unfolding signal_put
on_signal x k = on_word _ _ _ (on_word _ _ k (omega arith))

on_time : (s : Signed) (k : List Piece) → long k ≤ long (time_put s k)
unfolding time_put
on_time (plus n) k = on_word _ _ k (omega arith)
on_time (minus n) k = on_only _ _ (on_word _ _ k (omega arith))

on_event : (e : Event) (k : List Piece) → long k ≤ long (event_put e k)
unfolding event_put
on_event e k =
    let letter = word (e.letter ∷ []) semicolon ∷ k in
    let m : long k ≤ long letter = on_word _ _ k (omega arith) in
    on_only _ _ (omega (arith, on_time (uncounted e.time) letter))

on_entry : (x : ℕ × List Event) (k : List Piece) → long k ≤ long (entry_put x k)
unfolding entry_put
on_entry x k = on_word _ _ _ (on_each event_put on_event x.1 (only closing ∷ k) (on_only _ k (omega arith)))

on_chart : (x : Chart) (k : List Piece) → long k ≤ long (chart_put x k)
unfolding chart_put
on_chart x k = on_word _ _ _ (on_each entry_put on_entry (x.first ∷ x.others) (only closing ∷ only lf ∷ k) (on_only _ _ (on_only _ k (omega arith))))

on_sheet : (x : Sheet) (k : List Piece) → long k ≤ long (sheet_put x k)
unfolding sheet_put
on_sheet x k =
    on_word _ _ _ (on_word _ _ _ (on_word _ _ _ (on_word _ _ _ (on_only _ _ (on_word _ _ _ (on_only _ _
    (on_each chart_put on_chart x.charts (only closing ∷ only closing ∷ only lf ∷ k) (on_only _ _ (on_only _ _ (on_only _ k (omega arith)))))))))))

on_listed : (n : List ℕ) (k : List Piece) → long k ≤ long (listed_put n k)
unfolding listed_put
on_listed n k = on_word _ _ k (omega arith)

-- THE LAW
pub run_fits : (f : Flat) → size (run_back f.patterns) ≤ length (written f)
unfolding written pieces signals_put timing_put burst_put exec_put long
run_fits f =
    let patterns = each (pattern_put (names_of f.signals) (sheet_names f.tables)) (named_from 0 (or_one f.patterns)) [] in
    on_word _ _ _ (on_word _ _ _ (on_only _ _ (on_word _ _ _ (on_each signal_put on_signal f.signals _ (on_only _ _ (on_only _ _
    (on_word _ _ _ (on_only _ _ (on_each sheet_put on_sheet f.tables _ (on_only _ _ (on_only _ _
    (on_word _ _ _ (on_word _ _ _ (on_word _ _ _ (on_each listed_put on_listed (names_from 0 (length f.patterns)) _ (on_only _ _ (on_only _ _ (on_only _ _
    (on_word _ _ _ (on_word _ _ _ (on_word _ _ _ (on_only _ _ (on_only _ patterns (some_long (names_of f.signals) (sheet_names f.tables) f.patterns []))))))))))))))))))))))))

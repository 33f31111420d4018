-- Tables written: the lines of one, one more behind others, and all of Timing.
use Prim.Native.Nat.{ℕ}
use mathlib.Core.Path.{◌≡◌, refl, sym, ap, ◌∙◌}
use mathlib.Core.List.{List, [], ◌∷◌, ◌++◌, append_assoc, append-nil}
use Rattle.tokens.specs.Written.{bytes}
use Rattle.tokens.specs.Tokens.{Tok}
use Rattle.meaning.specs.Timing.{Tables}
use Rattle.folded.specs.Pieces.{Piece, only, laid, each, lf, closing}
use Rattle.folded.specs.Flat.{Chart, Sheet, sheets}
use Rattle.folded.specs.Layout.{timed, chart_put, sheet_put, timing_put}
use Rattle.folded.proofs.Sheets.{sheets_more as sheets-append}
use Rattle.pens.specs.Pens.{Writes}
use Rattle.pens.specs.declared.Pen.{Pen}
use Rattle.pens.proofs.Laws.{writes_both, writes_same}
use Rattle.folds.proofs.Laws.{writes_nothing, laid_behind, laid_more}
use Rattle.timings.specs.Lines.{titled, sheet_of, charted, OneSheet, MoreSheets}
use Rattle.timings.proofs.Writing.{own_each, own_chart}

-- ---- its lines

pub charted_writes : {a b d : List ℕ} {p q r : Pen} (xs : List Chart) → Writes a p (laid (each chart_put xs [])) b q → Writes b q (125 ∷ 125 ∷ 10 ∷ []) d r → Writes a p (charted xs) d r
unfolding laid
charted_writes xs f g = writes_same (sym (laid_behind chart_put own_chart xs (only closing ∷ only closing ∷ only lf ∷ []))) (writes_both f g)

sheet_line : (n : List ℕ) (p : ℕ) (xs : List Chart) → titled n p ++ charted xs ≡ laid (sheet_put (record { name = n; period = p; charts = xs }) [])
unfolding laid sheet_put titled bytes
sheet_line n p xs = simp append_assoc

pub sheet_writes : {a b d : List ℕ} {p q r : Pen} {w n : List ℕ} (k : ℕ) (xs : List Chart) → w ≡ n → Writes a p (titled w k) b q → Writes b q (charted xs) d r
    → Writes a p (laid (sheet_put (record { name = n; period = k; charts = xs }) [])) d r
sheet_writes {n = n} k xs e f g = writes_same (sheet_line n k xs) (writes_both (writes_same (ap (λ (w : List ℕ). titled w k) e) f) g)

own_sheet : (x : Sheet) (k : List Piece) → laid (sheet_put x k) ≡ laid (sheet_put x []) ++ laid k
unfolding laid sheet_put bytes
own_sheet x k =
    ap (λ (l : List ℕ). bytes "WaveformTable " ++ (x.name ++ (bytes "{Period'" ++ (timed x.period ++ (bytes "';Waveforms{\n" ++ l)))))
    (own_each chart_put own_chart x.charts (λ k. only closing ∷ only closing ∷ only lf ∷ k) (λ k. refl) k)
    ∙ simp append_assoc

-- ---- one more, and some

pub no_sheets : (page : List ℕ) (pen : Pen) (signals : List Tok) (tabs : Tables) → MoreSheets page pen signals tabs tabs page pen
unfolding laid each sheets
no_sheets page pen signals tabs = record { more = []; is = sym (append-nil tabs); writes = writes_nothing page pen }

pub sheets_more : {a b d : List ℕ} {p q r : Pen} {signals : List Tok} {tabs s s' : Tables} → MoreSheets a p signals tabs s b q → OneSheet b q signals s s' d r
    → MoreSheets a p signals tabs s' d r
sheets_more {signals = signals} {tabs = tabs} m o =
    record {
      more = m.more ++ o.table ∷ [];
      is = o.is ∙ ap (λ (l : Tables). l ++ o.table ∷ []) m.is ∙ append_assoc tabs m.more (o.table ∷ []);
      writes =
          writes_same
          (sym (ap (λ (l : List Sheet). laid (each sheet_put l [])) (sheets-append signals m.more o.table) ∙ laid_more sheet_put own_sheet (sheets signals m.more) (sheet_of signals o.table)))
          (writes_both m.writes o.writes);
    }

-- ---- Timing{ .. }

timing_line : (x : Sheet) (xs : List Sheet) → ((bytes "Timing{\n" ++ laid (sheet_put x [])) ++ laid (each sheet_put xs [])) ++ (125 ∷ 10 ∷ []) ≡ laid (timing_put (x ∷ xs) [])
unfolding laid timing_put bytes each
timing_line x xs =
    append_assoc (bytes "Timing{\n" ++ laid (sheet_put x [])) (laid (each sheet_put xs [])) (125 ∷ 10 ∷ []) ∙ append_assoc (bytes "Timing{\n") (laid (sheet_put x [])) _
    ∙ ap (λ (l : List ℕ). bytes "Timing{\n" ++ l)
    (sym (own_sheet x (each sheet_put xs (only closing ∷ only lf ∷ [])) ∙ ap (λ (l : List ℕ). laid (sheet_put x []) ++ l) (laid_behind sheet_put own_sheet xs (only closing ∷ only lf ∷ []))))

pub timing_writes : {a b d e f : List ℕ} {p q s t r : Pen} {signals : List Tok} {tabs it : Tables} → Writes a p (bytes "Timing{\n") b q → OneSheet b q signals [] tabs d s
    → MoreSheets d s signals tabs it e t → Writes e t (125 ∷ 10 ∷ []) f r → Writes a p (laid (timing_put (sheets signals it) [])) f r
unfolding sheets
timing_writes {signals = signals} {tabs = tabs} {it = it} v x m w =
    let all : it ≡ x.table ∷ m.more = m.is ∙ ap (λ (l : Tables). l ++ m.more) x.is in
    writes_same (timing_line (sheet_of signals x.table) (sheets signals m.more) ∙ ap (λ (l : Tables). laid (timing_put (sheets signals l) [])) (sym all))
    (writes_both (writes_both (writes_both v x.writes) m.writes) w)

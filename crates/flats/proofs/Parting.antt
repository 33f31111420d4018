-- One listed pattern: its Patterns from the first one's beginning to the last one's end.
use Prim.Native.Nat.{ℕ, ◌+◌, ◌*◌, ◌-◌, ◌/◌, ◌≤◌, ◌<◌, min}
use native.Mathlib.Nat.{one-mul, le-div_iff_mul-le, div-mul-le_self, mul-le-mul_right}
use native.Mathlib.Omega.{arith}
use native.Mathlib.Numerals.{add-one}
use mathlib.Core.Path.{◌≡◌, refl, sym, ap, ap₂, ◌∙◌}
use mathlib.Core.Option.{Option, none}
use mathlib.Core.List.{List, [], ◌++◌, append-nil}
use lib.ListN.{length}
use Rattle.meaning.specs.Bounds.{list_most}
use Rattle.meaning.specs.Meaning.{Meaning}
use Rattle.plays.specs.Plays.{Ground}
use Rattle.folded.specs.Pieces.{laid}
use Rattle.folded.specs.Flat.{Row}
use Rattle.pens.specs.declared.Pen.{Pen}
use Rattle.stretches.specs.Rows.{row_in}
use Rattle.stretches.specs.Folding.{in_force, ahead, left_by, begins, Opens, Ends}
use Rattle.stretches.specs.declared.Folding.{Folding}
use Rattle.stretches.proofs.Writing.{onward_none, onward_more, onward_both, onward_from, own_opened}
use Rattle.stretches.proofs.Taking.{walked_ahead, begins_none, begins_one}
use Rattle.flats.specs.Meant.{Meant, signals_in, tables_in, Shows, Listed, Parts, Window}
use Rattle.flats.specs.declared.Part.{Part}

-- ---- windows that fit a buffer

-- no more rows than it has room for
pub fits : (due most w long : ℕ) → most ≡ long / w → due ≤ most → due * w ≤ long
fits due most w long e h = omega (arith, mul-le-mul_right w h, ap (λ (k : ℕ). k * w) e, div-mul-le_self long w)

-- and one at least
pub some_fit : (most w long : ℕ) → most ≡ long / w → 0 < w → w ≤ long → 1 ≤ most
some_fit most w long e p h = let one : 1 ≤ long / w = (le-div_iff_mul-le p).1 (rw one-mul h) in omega (arith, e)

-- few enough are listed
pub few_listed : {g : Ground} {list : List ℕ} {listed patterns sized : ℕ} {m : Meaning} → Meant g list listed patterns sized m → listed ≤ list_most
few_listed h = rw h.runs.listed_is at h.runs.tabled.few_listed

-- ---- what is asked of the next window

module _ {g : Ground} {list : List ℕ} {listed patterns sized first count i : ℕ} {hand₀ buffer₀ : List ℕ} (q : Listed g list listed patterns sized first count i hand₀ buffer₀) where
  pub next_window : {entry exit hand hand' buffer : List ℕ} {f r : Folding} {done due most : ℕ} → r.pattern ≡ i → r.times ≡ 0 → Shows g list listed patterns sized first done entry r hand exit f hand'
      → length hand ≡ length hand₀ → length buffer ≡ length buffer₀ → done ≤ count → most ≡ length buffer₀ / (g.signals + 2) → due ≡ min most (count - done)
      → Window g list listed patterns sized (first + done) due f hand' buffer
  next_window {done = done} {due = due} {most = most} n z s l b d e m = record {
    it = q.it;
    is_meant = q.is_meant;
    there = omega (arith, q.there);
    room = omega (arith, b, fits due most (g.signals + 2) (length buffer₀) e (omega arith));
    taking = record {
      long = omega (arith, s.takes.hand_kept, l, q.long);
      few_times = omega (arith, s.takes.few_times, s.many, z, q.there, q.is_meant.few);
      few_patterns = omega (arith, s.takes.few_patterns, s.many, n, q.few, q.there, q.is_meant.few, few_listed q.is_meant);
    };
  }

-- ---- all of its rows

module _ {g : Ground} {list : List ℕ} {listed patterns sized first count : ℕ} {entry mid mid₁ exit hand hand' : List ℕ} {pen p : Pen} {i : ℕ} {f₀ f : Folding}
    (o : Opens entry pen i mid f₀) (s : Shows g list listed patterns sized first count mid f₀ hand mid₁ f hand') (e : Ends (signals_in g) (tables_in g) g.signals mid₁ f hand' exit p) where
  begun_is : f.pattern ≡ i + begins (row_in g.signals hand) 0 s.shown
  begun_is =
      let x = row_in g.signals hand in
      let k : f₀.pattern + begins x f₀.times (s.shown ++ []) ≡ i + begins x 0 s.shown =
      ap₂ (λ (a b : ℕ). a + begins x b (s.shown ++ [])) o.number o.no_row ∙ ap (λ (l : List Row). i + begins x 0 l) (append-nil s.shown) in
      omega (arith, k, s.takes.counts [], begins_none (row_in g.signals hand') f.times)

  pub parts_are : {r : Part} → r.pen ≡ p → r.pattern ≡ f.pattern + 1 → Parts g list listed patterns sized first count entry pen i exit r
  parts_are {r} a b =
      let x = row_in g.signals hand in
      let S = signals_in g in
      let T = tables_in g in
      record {
        shown = s.shown;
        on = λ behind. (
            let begin : left_by S T f₀ x (s.shown ++ []) behind ≡ laid (ahead S T i none x 0 s.shown behind) =
            ap₂ (λ (j c : ℕ). laid (ahead S T j (in_force f₀.table) x c (s.shown ++ []) behind)) o.number o.no_row
            ∙ ap₂ (λ (t : Option ℕ) (l : List Row). laid (ahead S T i t x 0 l behind)) o.no_table (append-nil s.shown) in
            rw (a, b)
            (onward_from (ap laid (walked_ahead S T i x s.shown behind)) (ap (λ (j : ℕ). laid (behind j)) (sym (add-one f.pattern)))
            (onward_both (onward_more (onward_none entry pen _) o.writes (own_opened i (ahead S T i none x 0 s.shown behind)))
            (onward_both (onward_from (sym begin) refl (s.takes.on [] behind)) (e.on behind)))));
        counts = b ∙ omega (arith, begun_is, begins_one x s.shown);
        few = omega (arith, b, s.takes.few_patterns, s.many, o.number);
        are = s.are;
      }

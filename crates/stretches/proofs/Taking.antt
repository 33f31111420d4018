-- Row by row: what each step writes is the next part of what is left, and the numbers of the Patterns go along.
use Prim.Native.Nat.{ℕ, zero, suc, ◌+◌, ◌≤◌, ◌<◌}
use native.Mathlib.Omega.{arith}
use native.Mathlib.Numerals.{add-one}
use mathlib.Core.Path.{◌≡◌, refl, sym, ap, ap₂, ◌∙◌}
use mathlib.Core.Bool.{Bool, true, false}
use mathlib.Core.Option.{Option, none, some}
use mathlib.Core.List.{List, [], ◌∷◌, ◌++◌, append_assoc}
use lib.ListN.{length, drop, length-append}
use Rattle.pages.specs.Pages.{Puts}
use Rattle.pages.proofs.Laws.{puts_length}
use Rattle.folded.specs.Pieces.{Piece, laid}
use Rattle.folded.specs.Flat.{Row, same_row, loses}
use Rattle.folded.specs.Walk.{opened, closed, flushed, rest, walked, begun, begun_all}
use Rattle.folded.proofs.Stretches.{row_is, self_loses}
use Rattle.pens.specs.Pens.{Writes}
use Rattle.pens.specs.declared.Pen.{Pen}
use Rattle.stretches.specs.Rows.{row_in}
use Rattle.stretches.specs.Folding.{in_force, Onward, ahead, left_by, begins, Follows, Takes, Ends}
use Rattle.stretches.specs.declared.Folding.{Folding}
use Rattle.stretches.proofs.Laws.{row_kept}
use Rattle.stretches.proofs.Writing.{onward_none, onward_more, onward_both, onward_from, onward_pen, own_flush, own_opened, own_closed}

-- the same but for how often the row in hand came
abbrev pub counted : Folding → ℕ → Folding
counted f n = record { pen = f.pen; pattern = f.pattern; table = f.table; times = n }

begins_some : (x : Row) (c : ℕ) (ys : List Row) → 1 ≤ c → begins x c ys ≡ begun x ys
unfolding begins
begins_some x zero ys h = absurd (omega arith)
begins_some x (suc c) ys h = refl

begun_by : (x y : Row) (ys : List Row) {b : Bool} → loses x.pins y.pins ≡ b → begun x (y ∷ ys) ≡ elim b as (λ z. ℕ) [ true ↦ suc (begun y ys) | false ↦ begun y ys ]
unfolding begun
begun_by x y ys e = ap (λ (b : Bool). elim b as (λ z. ℕ) [ true ↦ suc (begun y ys) | false ↦ begun y ys ]) e

module _ (signals tables : List (List ℕ)) where
  ahead_some : (i : ℕ) (t : Option ℕ) (x : Row) (c : ℕ) (ys : List Row) (behind : ℕ → List Piece) → 1 ≤ c → ahead signals tables i t x c ys behind ≡ rest signals tables i t x c ys behind
  unfolding ahead
  ahead_some i t x zero ys behind h = absurd (omega arith)
  ahead_some i t x (suc c) ys behind h = refl

  -- what is left to write, by the two tests
  rest_by : (i : ℕ) (t : Option ℕ) (x y : Row) (c : ℕ) (ys : List Row) (behind : ℕ → List Piece) {a b : Bool} → loses x.pins y.pins ≡ a → same_row x y ≡ b
      → rest signals tables i t x c (y ∷ ys) behind ≡ elim a as (λ z. List Piece) [
        | true ↦ flushed signals tables t x c (closed (opened (suc i) (rest signals tables (suc i) none y 1 ys behind)))
        | false ↦ elim b as (λ z. List Piece) [
          | true ↦ rest signals tables i t x (suc c) ys behind
          | false ↦ flushed signals tables t x c (rest signals tables i (some x.table) y 1 ys behind)
        ]
      ]
  unfolding rest
  rest_by i t x y c ys behind e f =
      ap₂ (λ (a b : Bool). elim a as (λ z. List Piece) [
        | true ↦ flushed signals tables t x c (closed (opened (suc i) (rest signals tables (suc i) none y 1 ys behind)))
        | false ↦ elim b as (λ z. List Piece) [
          | true ↦ rest signals tables i t x (suc c) ys behind
          | false ↦ flushed signals tables t x c (rest signals tables i (some x.table) y 1 ys behind)
        ]
      ]) e f

  -- ---- one row

  -- the first
  pub follows_first : (entry : List ℕ) (f : Folding) (x y : Row) → f.times ≡ 0 → Follows signals tables entry f x y entry (counted f 1)
  unfolding ahead begins
  follows_first entry f x y e = record {
    kept = refl;
    on = λ more behind. onward_from (ap (λ (c : ℕ). laid (ahead signals tables f.pattern (in_force f.table) x c (y ∷ more) behind)) e) refl (onward_none entry f.pen _);
    counts = λ more. ap (λ (c : ℕ). f.pattern + begins x c (y ∷ more)) e;
    few_times = omega arith;
    few_patterns = omega arith;
    again = λ h. absurd (omega arith);
  }

  -- the same once more
  pub follows_same : (entry : List ℕ) (f : Folding) (x y : Row) → 1 ≤ f.times → same_row x y ≡ true → Follows signals tables entry f x y entry (counted f (f.times + 1))
  follows_same entry f x y h e =
      let same = row_is x y e in
      let kept : loses x.pins y.pins ≡ false = ap (λ (z : Row). loses x.pins z.pins) (sym same) ∙ self_loses x.pins in
      let i = f.pattern in
      let t = in_force f.table in
      let c = f.times in
      record {
        kept = refl;
        on = λ more behind. onward_from
            (ap laid (ahead_some i t x c (y ∷ more) behind h ∙ rest_by i t x y c more behind kept e
            ∙ ap₂ (λ (z : Row) (k : ℕ). rest signals tables i t z k more behind) same (sym (add-one c)) ∙ sym (ahead_some i t y (c + 1) more behind (omega arith))))
            refl (onward_none entry f.pen _);
        counts = λ more. ap (λ (k : ℕ). i + k) (begins_some x c (y ∷ more) h ∙ begun_by x y more kept ∙ sym (begins_some y (c + 1) more (omega arith)));
        few_times = omega arith;
        few_patterns = omega arith;
        again = λ z. same;
      }

  module _ {entry mid : List ℕ} {f : Folding} {x y : Row} {p : Pen} (h : 1 ≤ f.times) (e : same_row x y ≡ false)
      (w : Writes entry f.pen (laid (flushed signals tables (in_force f.table) x f.times [])) mid p) where
    -- a Pattern begins
    pub follows_lost : {exit : List ℕ} {r : Folding} → loses x.pins y.pins ≡ true → Writes mid p (laid (closed (opened (f.pattern + 1) []))) exit r.pen
        → r.pattern ≡ f.pattern + 1 → in_force r.table ≡ none → r.times ≡ 1 → Follows signals tables entry f x y exit r
    follows_lost {exit} {r} l v n m o =
        let i = f.pattern in
        let t = in_force f.table in
        let part : (k : List Piece) → laid (closed (opened (i + 1) k)) ≡ laid (closed (opened (i + 1) [])) ++ laid k =
        λ k. own_closed (opened (i + 1) k) ∙ ap (λ (z : List ℕ). 125 ∷ 10 ∷ z) (own_opened (i + 1) k) ∙ ap (λ (z : List ℕ). z ++ laid k) (sym (own_closed (opened (i + 1) []))) in
        record {
          kept = v.kept ∙ w.kept;
          on = λ more behind.
              onward_from refl (sym (ap laid (ap₂ (λ (a : ℕ) (b : ℕ). ahead signals tables a (in_force r.table) y b more behind) n o ∙ ap (λ (z : Option ℕ). ahead signals tables (i + 1) z y 1 more behind) m ∙ ahead_some (i + 1) none y 1 more behind (omega arith))))
              (onward_more (onward_more (onward_none entry f.pen _) w
              (ap laid (ahead_some i t x f.times (y ∷ more) behind h ∙ rest_by i t x y f.times more behind l e
              ∙ ap (λ (j : ℕ). flushed signals tables t x f.times (closed (opened j (rest signals tables j none y 1 more behind)))) (sym (add-one i)))
              ∙ own_flush signals tables t x f.times _)) v (part _));
          counts = λ more. ap (λ (k : ℕ). i + k) (begins_some x f.times (y ∷ more) h ∙ begun_by x y more l) ∙ omega (arith, n, ap (λ (k : ℕ). begins y k more) o ∙ begins_some y 1 more (omega arith));
          few_times = omega (arith, o);
          few_patterns = omega (arith, n);
          again = λ z. absurd (omega (arith, o));
        }

    -- none does
    pub follows_other : {r : Folding} → loses x.pins y.pins ≡ false → r.pen ≡ p
        → r.pattern ≡ f.pattern → in_force r.table ≡ some x.table → r.times ≡ 1 → Follows signals tables entry f x y mid r
    follows_other {r} l q n m o = let i = f.pattern in let t = in_force f.table in record {
      kept = w.kept;
      on = λ more behind.
          onward_from refl (sym (ap laid (ap₂ (λ (a : ℕ) (b : ℕ). ahead signals tables a (in_force r.table) y b more behind) n o ∙ ap (λ (z : Option ℕ). ahead signals tables i z y 1 more behind) m ∙ ahead_some i (some x.table) y 1 more behind (omega arith))))
          (onward_pen q
          (onward_more (onward_none entry f.pen _) w
          (ap laid (ahead_some i t x f.times (y ∷ more) behind h ∙ rest_by i t x y f.times more behind l e) ∙ own_flush signals tables t x f.times _)));
      counts = λ more. ap (λ (k : ℕ). i + k) (begins_some x f.times (y ∷ more) h ∙ begun_by x y more l) ∙ omega (arith, n, ap (λ (k : ℕ). begins y k more) o ∙ begins_some y 1 more (omega arith));
      few_times = omega (arith, o);
      few_patterns = omega (arith, n);
      again = λ z. absurd (omega (arith, o));
    }

  -- ---- and then it is in hand

  module _ {n : ℕ} {entry exit hand : List ℕ} {f r : Folding} {y : Row} (s : Follows signals tables entry f (row_in n hand) y exit r) where
    takes_as : {hand' : List ℕ} → length hand' ≡ length hand → row_in n hand' ≡ y → Takes signals tables n entry f hand (y ∷ []) exit r hand'
    takes_as {hand'} l e = record {
      kept = s.kept;
      hand_kept = l;
      on = λ more behind. onward_from refl (ap (λ (z : Row). left_by signals tables r z more behind) (sym e)) (s.on more behind);
      counts = λ more. s.counts more ∙ ap (λ (z : Row). r.pattern + begins z r.times more) (sym e);
      few_times = s.few_times;
      few_patterns = s.few_patterns;
    }

    pub takes_again : 1 < r.times → Takes signals tables n entry f hand (y ∷ []) exit r hand
    takes_again h = takes_as refl (s.again h)

  pub takes_put : {n at : ℕ} {entry exit hand row hand' : List ℕ} {f r : Folding} → Follows signals tables entry f (row_in n hand) (row_in n row) exit r → length row ≡ n + 2 → n + 2 ≤ length hand
      → Puts hand 0 row at hand' → Takes signals tables n entry f hand (row_in n row ∷ []) exit r hand'
  takes_put {n} {at} {entry} {exit} {hand} {row} {hand'} s l h p =
      takes_as s (puts_length p (omega arith)) (ap (row_in n) p.page ∙ row_kept n row (drop (0 + length row) hand) l)

  -- ---- many rows

  -- of the rows `all` those from number k on are left
  pub record Amid (n : ℕ) (entry : List ℕ) (f : Folding) (hand : List ℕ) (all left : List Row) (k : ℕ) (exit : List ℕ) (r : Folding) (hand' : List ℕ) : Type 0 where
    pub kept : length exit ≡ length entry
    pub hand_kept : length hand' ≡ length hand
    pub on : (more : List Row) (behind : ℕ → List Piece)
        → Onward entry f.pen (left_by signals tables f (row_in n hand) (all ++ more) behind) exit r.pen (left_by signals tables r (row_in n hand') (left ++ more) behind)
    pub counts : (more : List Row) → f.pattern + begins (row_in n hand) f.times (all ++ more) ≡ r.pattern + begins (row_in n hand') r.times (left ++ more)
    pub few_times : r.times ≤ f.times + k
    pub few_patterns : r.pattern ≤ f.pattern + k

  pub amid_all : (n : ℕ) (entry : List ℕ) (f : Folding) (hand : List ℕ) (all : List Row) → Amid n entry f hand all all 0 entry f hand
  amid_all n entry f hand all = record {
    kept = refl;
    hand_kept = refl;
    on = λ more behind. onward_none entry f.pen _;
    counts = λ more. refl;
    few_times = omega arith;
    few_patterns = omega arith;
  }

  module _ {n : ℕ} {entry mid hand hand₁ : List ℕ} {f g : Folding} {all left : List Row} {k : ℕ} (a : Amid n entry f hand all left k mid g hand₁) where
    pub amid_next : {exit hand₂ : List ℕ} {r : Folding} {ys rest : List Row} → left ≡ ys ++ rest → Takes signals tables n mid g hand₁ ys exit r hand₂ → Amid n entry f hand all rest (k + length ys) exit r hand₂
    amid_next {exit} {hand₂} {r} {ys} {rest} e s = record {
      kept = s.kept ∙ a.kept;
      hand_kept = s.hand_kept ∙ a.hand_kept;
      on = λ more behind. onward_both
          (onward_from refl (ap (λ (l : List Row). left_by signals tables g (row_in n hand₁) (l ++ more) behind) e ∙ ap (λ (l : List Row). left_by signals tables g (row_in n hand₁) l behind) (append_assoc ys rest more)) (a.on more behind))
          (s.on (rest ++ more) behind);
      counts = λ more. a.counts more ∙ ap (λ (l : List Row). g.pattern + begins (row_in n hand₁) g.times (l ++ more)) e
          ∙ ap (λ (l : List Row). g.pattern + begins (row_in n hand₁) g.times l) (append_assoc ys rest more) ∙ s.counts (rest ++ more);
      few_times = omega (arith, a.few_times, s.few_times);
      few_patterns = omega (arith, a.few_patterns, s.few_patterns);
    }

    -- none is left
    pub amid_none : left ≡ [] → k ≤ length all → Takes signals tables n entry f hand all mid g hand₁
    amid_none e h = record {
      kept = a.kept;
      hand_kept = a.hand_kept;
      on = λ more behind. onward_from refl (ap (λ (l : List Row). left_by signals tables g (row_in n hand₁) (l ++ more) behind) e) (a.on more behind);
      counts = λ more. a.counts more ∙ ap (λ (l : List Row). g.pattern + begins (row_in n hand₁) g.times (l ++ more)) e;
      few_times = omega (arith, a.few_times);
      few_patterns = omega (arith, a.few_patterns);
    }

  -- some rows, and then others
  pub takes_none : (n : ℕ) (entry : List ℕ) (f : Folding) (hand : List ℕ) → Takes signals tables n entry f hand [] entry f hand
  takes_none n entry f hand = amid_none (amid_all n entry f hand []) refl (omega arith)

  pub takes_both : {n : ℕ} {entry mid exit hand hand₁ hand₂ : List ℕ} {f g r : Folding} {ys zs : List Row}
      → Takes signals tables n entry f hand ys mid g hand₁ → Takes signals tables n mid g hand₁ zs exit r hand₂ → Takes signals tables n entry f hand (ys ++ zs) exit r hand₂
  takes_both {n = n} {hand = hand} {f = f} {ys = ys} {zs = zs} s t = record {
    kept = t.kept ∙ s.kept;
    hand_kept = t.hand_kept ∙ s.hand_kept;
    on = λ more behind. onward_both (onward_from (ap (λ (l : List Row). left_by signals tables f (row_in n hand) l behind) (append_assoc ys zs more)) refl (s.on (zs ++ more) behind)) (t.on more behind);
    counts = λ more. ap (λ (l : List Row). f.pattern + begins (row_in n hand) f.times l) (append_assoc ys zs more) ∙ s.counts (zs ++ more) ∙ t.counts more;
    few_times = omega (arith, s.few_times, t.few_times, length-append ys zs);
    few_patterns = omega (arith, s.few_patterns, t.few_patterns, length-append ys zs);
  }

  -- ---- a Pattern's beginning and end

  -- a listed pattern, before its first row
  pub walked_ahead : (i : ℕ) (x : Row) (l : List Row) (behind : ℕ → List Piece) → walked signals tables i l behind ≡ opened i (ahead signals tables i none x 0 l behind)
  unfolding walked ahead
  walked_ahead i x [] behind = refl
  walked_ahead i x (y ∷ ys) behind = refl

  -- no row came
  pub ends_empty : {n : ℕ} {entry exit hand : List ℕ} {f : Folding} {r : Pen} → f.times ≡ 0 → Writes entry f.pen (125 ∷ 10 ∷ []) exit r → Ends signals tables n entry f hand exit r
  unfolding ahead
  ends_empty {n} {entry} {exit} {hand} {f} e w = record {
    kept = w.kept;
    on = λ behind. onward_more (onward_none entry f.pen _) w
        (ap (λ (c : ℕ). laid (ahead signals tables f.pattern (in_force f.table) (row_in n hand) c [] behind)) e ∙ own_closed (behind (suc f.pattern)));
  }

  pub ends_row : {n : ℕ} {entry mid exit hand : List ℕ} {f : Folding} {p r : Pen} → 1 ≤ f.times
      → Writes entry f.pen (laid (flushed signals tables (in_force f.table) (row_in n hand) f.times [])) mid p → Writes mid p (125 ∷ 10 ∷ []) exit r → Ends signals tables n entry f hand exit r
  unfolding rest
  ends_row {n} {entry} {mid} {exit} {hand} {f} h w v = record {
    kept = v.kept ∙ w.kept;
    on = λ behind. onward_more
        (onward_more (onward_none entry f.pen _) w
        (ap laid (ahead_some f.pattern (in_force f.table) (row_in n hand) f.times [] behind h) ∙ own_flush signals tables (in_force f.table) (row_in n hand) f.times _))
        v (own_closed (behind (suc f.pattern)));
  }

-- ---- how many Patterns begin

pub begins_none : (x : Row) (c : ℕ) → begins x c [] ≡ 0
unfolding begins begun
begins_none x zero = refl
begins_none x (suc c) = refl

-- of one listed pattern, and of those behind it
pub begins_one : (x : Row) (l : List Row) → begun_all (l ∷ []) ≡ suc (begins x 0 l)
unfolding begins begun_all
begins_one x [] = refl
begins_one x (y ∷ ys) = omega arith

pub begins_all : (l : List Row) (ls : List (List Row)) → begun_all (l ∷ ls) ≡ begun_all (l ∷ []) + begun_all ls
unfolding begun_all
begins_all [] ls = omega arith
begins_all (x ∷ xs) ls = omega arith

-- A body entered: all signals passed, it is asked what the definition asks.
use Prim.Native.Nat.{ℕ, ◌+◌, ◌*◌, ◌≤◌, ◌<◌}
use native.Mathlib.Omega.{arith}
use mathlib.Core.Path.{◌≡◌, refl, sym, ap, ◌∙◌, subst}
use mathlib.Core.Bool.{Bool, true, false, true≢false}
use mathlib.Core.Option.{Option, none, some}
use mathlib.Core.List.{List}
use borrow.Author.Count.{below_more}
use Rattle.meaning.specs.Bounds.{signals_most}
use Rattle.meaning.specs.Timing.{Tables}
use Rattle.meaning.specs.Body.{Args, arg_of}
use Rattle.arguments.specs.Supplied.{Supplied}
use Rattle.sums.specs.Sums.{Shown, or_table}
use Rattle.sums.specs.Parts.{Kept, Shows, Entered, InPlace, Called}
use Rattle.sums.proofs.Statements.{kept_both}
use Rattle.tallies.specs.Rows.{slots, given_from, sum_at, Only, More, Marked, Asked, ShownWhere, FedWhere, Passed, OnSignal, Retabled}
use Rattle.tallies.proofs.Stored.{only_then}
use Rattle.tallies.proofs.Grown.{under_slot, given_slot, more_then, shows_kept}
use Rattle.tallies.proofs.Others.{other_sum}
use Rattle.tallies.proofs.Feeding.{where_kept}
use Rattle.tallies.proofs.Entering.{real_char, on_kept, on_later, fed_later}

-- ---- the slots of a row, as the sum has them

module _ {tabs : Tables} {r from i : ℕ} {x : Shown} {sums sums' : List ℕ} (t : Option ℕ) where
  where_under : ShownWhere tabs r from (i * slots) i x sums sums' → (sum_at sums from).under i t ≡ true → Shows tabs i x (or_table t (sum_at sums r).table) (sum_at sums' r)
  where_under y e = let b = under_slot sums from i t e in y.shows t b.0 b.1

  where_given : ShownWhere tabs r from (given_from + i * slots) i x sums sums' → (sum_at sums from).given i t ≡ true → Shows tabs i x (or_table t (sum_at sums r).table) (sum_at sums' r)
  where_given y e = let b = given_slot sums from i t e in y.shows t b.0 b.1

-- ---- what both ways of entering ask

module _ {text : List ℕ} {xs : Args} {given args : List ℕ} {tabs : Tables} {r from n : ℕ} {sums sums' sums'' : List ℕ} where
  entered : Supplied text xs given args → More r sums sums' → Asked (sum_at sums r) (sum_at sums from) (sum_at sums' r)
      → ((m : ℕ) → Kept m (sum_at sums' r) (sum_at sums'' r)) → ((i : ℕ) → i < n → FedWhere tabs r from i (arg_of i xs) sums sums'')
      → Entered tabs n (sum_at sums r) (sum_at sums from) (λ i. arg_of i xs) (sum_at sums'' r)
  entered u m a k f =
      record {
        kept = kept_both (m.kept n) (k n);
        good = λ b. a.good ((k 0).good b);
        chosen = λ j e q b. (a.tabled e).chosen j q ((k 0).good b);
        inherited = λ e q. let w = (a.tabled e).inherited q in ((k 0).needs w.0, λ j h. w.1 j ((k 0).fine j h));
        fed = λ i t h e c q.
            subst (λ (x : Shown). Shows tabs i x (or_table t (sum_at sums r).table) (sum_at sums'' r)) (real_char u i c q) (where_given t ((f i h).each c q) e);
      }

-- ---- in place: the first s signals were passed

pub record Entering (text waves given args : List ℕ) (r from s : ℕ) (sums sums' : List ℕ) : Type 0 where
  pub only : Only r sums sums'
  pub kept : (n : ℕ) → Kept n (sum_at sums r) (sum_at sums' r)
  pub table_is : (sum_at sums' r).table ≡ (sum_at sums r).table
  pub rest : (i : ℕ) → s ≤ i → (sum_at sums' r).pin i ≡ (sum_at sums r).pin i
  pub each : (xs : Args) → Supplied text xs given args → (tabs : Tables) → Marked waves tabs → (i : ℕ) → i < s → OnSignal tabs r from i (arg_of i xs) sums sums'

module _ {text waves given args : List ℕ} {r from : ℕ} {sums : List ℕ} where
  module _ {s : ℕ} {sums' sums'' : List ℕ} (y : Entering text waves given args r from s sums sums') (d : from ≡ r → ⊥) where
    pub entering_next : s < signals_most → Passed r s sums' sums''
        → ((xs : Args) → Supplied text xs given args → (tabs : Tables) → Marked waves tabs → OnSignal tabs r from s (arg_of s xs) sums' sums'')
        → Entering text waves given args r from (s + 1) sums sums''
    entering_next h p o =
        record {
          only = only_then y.only p.only;
          kept = λ n. kept_both (y.kept n) (p.kept n);
          table_is = p.table_is ∙ y.table_is;
          rest = λ i l. p.pins_are i (λ e. omega arith) ∙ y.rest i (omega arith);
          each = λ xs u tabs w. below_more (λ i. OnSignal tabs r from i (arg_of i xs) sums sums'') s
              (λ i l. on_kept (y.each xs u tabs w i l) p (λ e. omega arith))
              (on_later y.only y.table_is (y.rest s (omega arith)) d h (o xs u tabs w));
        }

    pub in_place_all : {sums₀ : List ℕ} (n : ℕ) → More r sums₀ sums → Asked (sum_at sums₀ r) (sum_at sums₀ from) (sum_at sums r) → n ≤ s → n ≤ signals_most
        → Retabled r (sum_at sums' from) sums' sums'' → (xs : Args) → Supplied text xs given args → (tabs : Tables) → Marked waves tabs → (sum_at sums'' r).bad ≡ false
        → InPlace tabs n (sum_at sums₀ r) (sum_at sums₀ from) (λ i. arg_of i xs) (sum_at sums'' r)
    in_place_all {sums₀} n m a l few z xs u tabs w b =
        let k : (j : ℕ) → Kept j (sum_at sums r) (sum_at sums'' r) = λ j. kept_both (y.kept j) (z.kept j) in
        let on : (i : ℕ) → i < n → OnSignal tabs r from i (arg_of i xs) sums₀ sums' =
        λ i h. on_later m.only m.table_is (m.pins_are i) d (omega arith) (y.each xs u tabs w i (omega arith)) in
        let same = other_sum (only_then m.only y.only) from d in
        record {
          entered = entered {sums'' = sums''} u m a k (λ i h. record { each = λ c e. where_kept ((on i h).fed.each c e) z.kept });
          shows = λ i t h e. shows_kept (where_under t (on i h).shown e) z.kept;
          pins_are = λ i h. z.pins_are i ∙ (on i h).pin_is ((z.kept 0).good b);
          table_is = z.table_is ∙ ap (λ (o : Option ℕ). or_table o (sum_at sums' r).table) same.table
              ∙ ap (or_table (sum_at sums₀ from).table) (y.table_is ∙ m.table_is);
        }

    pub bad_stays : {sums₀ : List ℕ} → More r sums₀ sums → Retabled r (sum_at sums' from) sums' sums'' → (sum_at sums₀ r).bad ≡ true → (sum_at sums'' r).bad ≡ true
    bad_stays {sums₀} m z e = by (sum_at sums'' r).bad (λ b. (m.kept 0).good ((y.kept 0).good ((z.kept 0).good b)))
      where
        by : (b : Bool) → (b ≡ false → (sum_at sums₀ r).bad ≡ false) → b ≡ true
        by true f = refl
        by false f = absurd (true≢false (sym e ∙ f refl))

-- ---- a procedure: the first s signals were passed

pub record Calling (text waves given args : List ℕ) (r from s : ℕ) (sums sums' : List ℕ) : Type 0 where
  pub more : More r sums sums'
  pub tabled : (i : ℕ) → i < s → (sum_at sums from).under i none ≡ true → (sum_at sums r).table ≡ none → (sum_at sums' r).needs ≡ true
  pub fed : (xs : Args) → Supplied text xs given args → (tabs : Tables) → Marked waves tabs → (i : ℕ) → i < s → FedWhere tabs r from i (arg_of i xs) sums sums'

module _ {text waves given args : List ℕ} {r from : ℕ} {sums : List ℕ} where
  module _ {s : ℕ} {sums' : List ℕ} (y : Calling text waves given args r from s sums sums') (d : from ≡ r → ⊥) where
    pub calling_next : {sums'' sums''' : List ℕ} → s < signals_most → More r sums' sums''
        → ((sum_at sums' from).under s none ≡ true → (sum_at sums' r).table ≡ none → (sum_at sums'' r).needs ≡ true) → More r sums'' sums'''
        → ((xs : Args) → Supplied text xs given args → (tabs : Tables) → Marked waves tabs → FedWhere tabs r from s (arg_of s xs) sums'' sums''')
        → Calling text waves given args r from (s + 1) sums sums'''
    calling_next {sums''} {sums'''} h m t k f =
        let all = more_then y.more m in
        record {
          more = more_then all k;
          tabled = below_more (λ i. (sum_at sums from).under i none ≡ true → (sum_at sums r).table ≡ none → (sum_at sums''' r).needs ≡ true) s
              (λ i l e q. ((more_then m k).kept 0).needs (y.tabled i l e q))
              (λ e q. (k.kept 0).needs (t ((other_sum y.more.only from d).under s none ∙ e) (y.more.table_is ∙ q)));
          fed = λ xs u tabs w. below_more (λ i. FedWhere tabs r from i (arg_of i xs) sums sums''') s
              (λ i l. record { each = λ c e. where_kept ((y.fed xs u tabs w i l).each c e) (more_then m k).kept })
              (fed_later all.only all.table_is d h (f xs u tabs w));
        }

    pub called_all : {sums₀ : List ℕ} (n : ℕ) → More r sums₀ sums → Asked (sum_at sums₀ r) (sum_at sums₀ from) (sum_at sums r) → n ≤ s → n ≤ signals_most
        → (xs : Args) → Supplied text xs given args → (tabs : Tables) → Marked waves tabs
        → Called tabs n (sum_at sums₀ r) (sum_at sums₀ from) (λ i. arg_of i xs) (sum_at sums' r)
    unfolding or_table
    called_all {sums₀} n m a l few xs u tabs w =
        let same = other_sum m.only from d in
        let all = more_then m y.more in
        record {
          entered = entered u m a y.more.kept (λ i h. fed_later m.only m.table_is d (omega arith) (y.fed xs u tabs w i (omega arith)));
          tabled = λ i t h e q. needed i (omega arith) t e q;
          pins_are = λ i h. all.pins_are i;
          table_is = all.table_is;
        }
      where
        needed : (i : ℕ) → i < s → (t : Option ℕ) → (sum_at sums₀ from).under i t ≡ true → or_table t (sum_at sums₀ r).table ≡ none → (sum_at sums' r).needs ≡ true
        needed i h none e q = y.tabled i h ((other_sum m.only from d).under i none ∙ e) (m.table_is ∙ q)
        needed i h (some k) e q = let z : ◌≡◌ {A = ℕ} 0 1 = cc in absurd (omega arith)

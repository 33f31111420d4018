-- A body entered in place, signal by signal: what it shows there, and what it leaves.
use Prim.Native.Nat.{ℕ, ◌+◌, ◌*◌, ◌≤◌, ◌<◌}
use native.Mathlib.Omega.{arith}
use mathlib.Core.Path.{◌≡◌, refl, sym, ap, ◌∙◌, subst}
use mathlib.Core.Bool.{Bool, true, false, ◌||◌, true≢false}
use mathlib.Core.Option.{Option}
use mathlib.Core.List.{List, [], ◌∷◌}
use lib.Dec.{eqb}
use borrow.Author.Tests.{eqb-false}
use Rattle.meaning.specs.Bounds.{signals_most, tables_most}
use Rattle.meaning.specs.Lists.{has}
use Rattle.meaning.specs.Timing.{Tables}
use Rattle.meaning.specs.Body.{Args, mark, arg_of, supplied}
use Rattle.data.proofs.Characters.{no_mark, no_zero}
use Rattle.arguments.specs.Supplied.{Supplied}
use Rattle.arguments.proofs.Fits.{arg_none}
use Rattle.pins.specs.Shown.{table_of}
use Rattle.pins.proofs.Callers.{table_some, table_none}
use Rattle.sums.specs.Sums.{Shown, char, or_table}
use Rattle.sums.specs.Parts.{last_of, behind}
use Rattle.sums.proofs.Statements.{kept_both}
use Rattle.tallies.specs.Rows.{slots, pins_from, bad_place, byte_at, shown_of, sum_at, Only, Stored, More, ShownWhere, FedWhere, Passed, OnSignal, Retabled, left_on}
use Rattle.tallies.proofs.Stored.{only_then}
use Rattle.tallies.proofs.Grown.{pin_at, pin_alike, kept_beside, more_none, more_then}
use Rattle.tallies.proofs.Others.{other_sum}
use Rattle.tallies.proofs.Showing.{shown_zero, shown_mark, shown_char}
use Rattle.tallies.proofs.Feeding.{where_kept, where_later}

-- ---- characters of arguments: none is 0 or `#`

module _ {text : List ℕ} {xs : Args} {given args : List ℕ} (u : Supplied text xs given args) (i : ℕ) where
  argument_without : (c : ℕ) → ((cs : List ℕ) → has i (supplied xs) ≡ true → arg_of i xs ≡ cs → has c cs ≡ false) → has c (arg_of i xs) ≡ false
  unfolding has
  argument_without c f = by (has i (supplied xs)) refl
    where
      by : (z : Bool) → has i (supplied xs) ≡ z → has c (arg_of i xs) ≡ false
      by true e = f (arg_of i xs) e refl
      by false e = rw (arg_none i xs e)

  pub unmarked : has mark (arg_of i xs) ≡ false
  unmarked = argument_without mark (λ cs e q. rw (sym q) (let d = (u.each i e).at in no_mark.all _ _ _ d.2))

  nonzero : has 0 (arg_of i xs) ≡ false
  nonzero = argument_without 0 (λ cs e q. rw (sym q) (let d = (u.each i e).at in (no_zero false).all _ _ _ d.2))

  pub real_char : (c : ℕ) → has c (arg_of i xs) ≡ true → shown_of c ≡ char c
  real_char c h =
      shown_char c (λ e. true≢false (sym h ∙ ap (λ (n : ℕ). has n (arg_of i xs)) e ∙ nonzero)) (λ e. true≢false (sym h ∙ ap (λ (n : ℕ). has n (arg_of i xs)) e ∙ unmarked))

last_not : (cs : List ℕ) (d : ℕ) → has mark cs ≡ false → (d ≡ mark → ⊥) → last_of cs d ≡ mark → ⊥
unfolding last_of has
last_not [] d h n e = n e
last_not (c ∷ cs) d h n e = by (eqb c mark) refl h (λ k m. last_not cs c k m e)
  where
    by : (z : Bool) → eqb c mark ≡ z → (z || has mark cs) ≡ false → (has mark cs ≡ false → (c ≡ mark → ⊥) → ⊥) → ⊥
    by true q k f = true≢false k
    by false q k f = f k (eqb-false c mark q)

-- ---- what is left on a signal

module _ {r i : ℕ} {sums sums' : List ℕ} where
  pub passed_more : More r sums sums' → Passed r i sums sums'
  passed_more m = record { only = m.only; kept = m.kept; pins_are = λ j d. m.pins_are j; table_is = m.table_is }

  module _ {v : ℕ} (x : Stored r (pins_from + i) v sums sums') (h : i < signals_most) where
    pub passed_stored : Passed r i sums sums'
    passed_stored =
        record {
          only = x.only;
          kept = kept_beside x (omega arith) (λ q l u e. omega arith);
          pins_are = λ j d. pin_alike sums sums' r j (λ b. x.else (pins_from + j) (λ e. d (omega arith)));
          table_is = ap table_of (x.else (bad_place + 2) (λ e. omega arith));
        }

    pin_stored : (sum_at sums' r).pin i ≡ shown_of v
    pin_stored = pin_at sums' r i h ∙ ap shown_of x.here

module _ (sums : List ℕ) (from i : ℕ) {b : ℕ} (h : i < signals_most) (e : b ≡ byte_at sums from (pins_from + i)) where
  left_is : (sum_at sums from).pin i ≡ shown_of b
  left_is = pin_at sums from i h ∙ ap shown_of (sym e)

-- entered from a state with the character c there
module _ (b c : ℕ) (cs : List ℕ) where
  pub left_nothing : b ≡ 0 → c ≡ left_on (shown_of b) c cs
  unfolding left_on
  left_nothing z = rw (shown_zero b z)

  pub left_last : {v : ℕ} → b ≡ mark → v ≡ last_of cs 0 → v ≡ left_on (shown_of b) c cs
  unfolding left_on
  left_last m q = rw (shown_mark b m) q

  pub left_char : (b ≡ 0 → ⊥) → (b ≡ mark → ⊥) → b ≡ left_on (shown_of b) c cs
  unfolding left_on
  left_char n m = rw (shown_char b n m)

module _ (S : Shown) (sums : List ℕ) (from i : ℕ) {b : ℕ} (h : i < signals_most) (e : b ≡ byte_at sums from (pins_from + i)) where
  pub leaves_nothing : b ≡ 0 → (cs : List ℕ) → S ≡ behind S ((sum_at sums from).pin i) cs
  unfolding behind
  leaves_nothing z cs = rw (left_is sums from i h e ∙ shown_zero b z)

  module _ {r : ℕ} {sums' sums'' : List ℕ} where
    pub leaves_char : (b ≡ 0 → ⊥) → (b ≡ mark → ⊥) → Stored r (pins_from + i) b sums' sums'' → (cs : List ℕ) → (sum_at sums'' r).pin i ≡ behind S ((sum_at sums from).pin i) cs
    unfolding behind
    leaves_char n m x cs = rw (left_is sums from i h e ∙ shown_char b n m) (pin_stored x h ∙ shown_char b n m)

    pub leaves_last : {v : ℕ} → b ≡ mark → (v ≡ 0 → ⊥) → Stored r (pins_from + i) v sums' sums'' → (cs : List ℕ) → v ≡ last_of cs 0 → has mark cs ≡ false
        → (sum_at sums'' r).pin i ≡ behind S ((sum_at sums from).pin i) cs
    unfolding behind
    leaves_last {v} m n x cs q k =
        rw (left_is sums from i h e ∙ shown_mark b m) (pin_stored x h ∙ shown_char v n (λ z. last_not cs 0 k (λ o. omega arith) (sym q ∙ z)) ∙ ap char q)

-- ---- the table

module _ (sums : List ℕ) (from : ℕ) {b : ℕ} (e : b ≡ byte_at sums from (bad_place + 2)) where
  -- in force behind a body that chose one
  pub table_chosen : (o : Option ℕ) → b < tables_most → table_of b ≡ or_table (sum_at sums from).table o
  unfolding or_table
  table_chosen o h = table_some b h ∙ sym (ap (λ (p : Option ℕ). or_table p o) (ap table_of (sym e) ∙ table_some b h))

  -- or none
  pub table_before : (o : Option ℕ) → tables_most ≤ b → o ≡ or_table (sum_at sums from).table o
  unfolding or_table
  table_before o h = sym (ap (λ (p : Option ℕ). or_table p o) (ap table_of (sym e) ∙ table_none b h))

module _ (sums : List ℕ) (r from : ℕ) {b : ℕ} (e : b ≡ byte_at sums from (bad_place + 2)) where
  pub retabled_one : {sums' : List ℕ} → b < tables_most → Stored r (bad_place + 2) b sums sums' → Retabled r (sum_at sums from) sums sums'
  retabled_one {sums'} h x =
      record {
        only = x.only;
        kept = kept_beside x (omega arith) (λ q l u z. omega arith);
        pins_are = λ i. pin_alike sums sums' r i (λ l. x.else (pins_from + i) (λ z. omega arith));
        table_is = ap table_of x.here ∙ table_chosen sums from e _ h;
      }

  pub retabled_none : tables_most ≤ b → Retabled r (sum_at sums from) sums sums
  retabled_none h =
      let m = more_none {r = r} {sums = sums} in
      record { only = m.only; kept = m.kept; pins_are = λ i. refl; table_is = table_before sums from e _ h }

-- ---- a signal, among other steps

module _ {tabs : Tables} {r from i : ℕ} {cs sums sums' sums'' : List ℕ} where
  -- another signal is passed
  pub on_kept : {j : ℕ} → OnSignal tabs r from i cs sums sums' → Passed r j sums' sums'' → (i ≡ j → ⊥) → OnSignal tabs r from i cs sums sums''
  on_kept x p d =
      record {
        shown = where_kept x.shown p.kept;
        fed = record { each = λ c h. where_kept (x.fed.each c h) p.kept };
        pin_is = λ b. p.pins_are i d ∙ x.pin_is ((p.kept 0).good b);
      }

  pub fed_later : Only r sums sums' → (sum_at sums' r).table ≡ (sum_at sums r).table → (from ≡ r → ⊥) → i < signals_most → FedWhere tabs r from i cs sums' sums''
      → FedWhere tabs r from i cs sums sums''
  fed_later o t d h x = record { each = λ c k. where_later o t d (omega arith) (x.each c k) }

  -- a step came before that left the signal as it was
  pub on_later : Only r sums sums' → (sum_at sums' r).table ≡ (sum_at sums r).table → (sum_at sums' r).pin i ≡ (sum_at sums r).pin i → (from ≡ r → ⊥) → i < signals_most
      → OnSignal tabs r from i cs sums' sums'' → OnSignal tabs r from i cs sums sums''
  on_later o t q d h x =
      record {
        shown = subst (λ (y : Shown). ShownWhere tabs r from (i * slots) i y sums sums'') q (where_later o t d (omega arith) x.shown);
        fed = fed_later o t d h x.fed;
        pin_is = λ b. x.pin_is b ∙ ap (λ (y : Shown). behind y ((sum_at sums' from).pin i) cs) q ∙ ap (λ (y : Shown). behind ((sum_at sums r).pin i) y cs) ((other_sum o from d).pin i);
      }

-- ---- a signal by itself

pub passed_later : {r i : ℕ} {sums sums' sums'' : List ℕ} → More r sums sums' → Passed r i sums' sums'' → Passed r i sums sums''
passed_later m p =
    record {
      only = only_then m.only p.only;
      kept = λ n. kept_both (m.kept n) (p.kept n);
      pins_are = λ j d. p.pins_are j d ∙ m.pins_are j;
      table_is = p.table_is ∙ m.table_is;
    }

pub on_signal : {tabs : Tables} {r from i b : ℕ} {cs sums sums' sums'' sums''' : List ℕ} → (from ≡ r → ⊥) → i < signals_most → b ≡ byte_at sums r (pins_from + i)
    → More r sums sums' → ShownWhere tabs r from (i * slots) i (shown_of b) sums sums' → More r sums' sums'' → FedWhere tabs r from i cs sums' sums''
    → Passed r i sums'' sums''' → ((sum_at sums''' r).bad ≡ false → (sum_at sums''' r).pin i ≡ behind ((sum_at sums'' r).pin i) ((sum_at sums'' from).pin i) cs)
    → OnSignal tabs r from i cs sums sums'''
on_signal {tabs} {r} {from} {i} {b} {cs} {sums} {sums'} {sums''} {sums'''} d h e m x k f p q =
    let both-more = more_then m k in
    record {
      shown = subst (λ (y : Shown). ShownWhere tabs r from (i * slots) i y sums sums''') (ap shown_of e ∙ sym (pin_at sums r i h))
          (where_kept x (λ n. kept_both (k.kept n) (p.kept n)));
      fed = record { each = λ c z. where_kept ((fed_later m.only m.table_is d h f).each c z) p.kept };
      pin_is = λ z. q z ∙ ap (λ (y : Shown). behind y ((sum_at sums'' from).pin i) cs) (both-more.pins_are i)
          ∙ ap (λ (y : Shown). behind ((sum_at sums r).pin i) y cs) ((other_sum both-more.only from d).pin i);
    }

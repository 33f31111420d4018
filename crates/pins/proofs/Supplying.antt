-- A body's arguments: each signal that has one is given the feed of its DATA.
use Prim.Native.Nat.{ℕ, ◌+◌, ◌≤◌}
use native.Mathlib.Omega.{arith}
use mathlib.Core.Path.{◌≡◌, sym, ◌∙◌}
use mathlib.Core.Bool.{false, true≢false}
use mathlib.Core.List.{List}
use lib.ListN.{get_or}
use Rattle.tokens.specs.Tokens.{Toks, toks}
use Rattle.meaning.specs.Bounds.{signals_most}
use Rattle.meaning.specs.Reader.{ok}
use Rattle.meaning.specs.Body.{Args}
use Rattle.meaning.specs.Data.{data_read}
use Rattle.feeds.specs.declared.Feed.{Feed}
use Rattle.feeds.specs.Feeds.{Feeds}
use Rattle.arguments.specs.Supplied.{Supplied}
use Rattle.arguments.proofs.Counted.{argument_none}
use Rattle.pins.specs.Shown.{Feeding}
use Rattle.pins.proofs.Turns.{Refilled}

-- the feed of the DATA from a place on
abbrev pub Starts : ℕ → Feed → Type 0
Starts place f = (text cs : List ℕ) (q : ℕ) (us : Toks) → data_read false (toks text place) ≡ ok (cs, q) us → Feeds text f cs

abbrev pub Begun : List ℕ → List ℕ → ℕ → Feed → Type 0
Begun given args k f = (get_or given k 0 ≡ 0 → ⊥) → Starts (get_or args (signals_most + k) 0) f

pub begun_all_lem : {given args before feeds : List ℕ} {level s : ℕ} → signals_most ≤ s → Refilled (Begun given args) level s before feeds
    → (text : List ℕ) (xs : Args) → Supplied text xs given args → Feeding text feeds level xs
begun_all_lem {given} {args} {before} {feeds} {level} {s} e x text xs u =
    record {
      each = λ k h.
          let below = u.below k h in
          let from = (u.each k h).at in
          (below, x.each k (omega arith) (λ z. true≢false (sym h ∙ argument_none u k below z)) text _ from.0 from.1 from.2);
    }

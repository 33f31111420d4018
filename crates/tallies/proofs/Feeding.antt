-- A signal's argument, one word after the other: the characters that were read are shown wherever the body shows the argument.
use Prim.Native.Nat.{ℕ, ◌+◌, ◌≤◌, ◌<◌}
use native.Mathlib.Omega.{arith}
use mathlib.Core.Path.{◌≡◌, subst}
use mathlib.Core.Option.{Option}
use mathlib.Core.List.{List}
use lib.ListN.{get_or, replicate}
use Rattle.meaning.specs.Bounds.{signals_most}
use Rattle.meaning.specs.Timing.{Tables}
use Rattle.meaning.specs.Body.{Args, arg_of}
use Rattle.words.specs.Cursor.{span}
use Rattle.feeds.specs.declared.Feed.{Feed}
use Rattle.feeds.specs.Feeds.{NextWord}
use Rattle.arguments.specs.Supplied.{DataAt, Supplied}
use Rattle.sums.specs.Sums.{Shown, or_table}
use Rattle.sums.specs.Parts.{Kept, Shows, last_of}
use Rattle.tallies.specs.Rows.{slots, row_size, slot_of, sum_at, Only, More, Marked, ShownWhere, FedWhere, ShownFed, bytes, SeenWord}
use Rattle.tallies.proofs.Stored.{other_row}
use Rattle.tallies.proofs.Grown.{slot_below, more_none, more_then, shows_kept}
use Rattle.tallies.proofs.Reading.{Reading, reading_none, reading_word, reading_all, reading_unsupplied, Seen, seen_none, seen_word}

-- ---- what was shown

module _ {tabs : Tables} {r from place i : ℕ} {x : Shown} {sums sums' sums'' : List ℕ} where
  pub where_kept : ShownWhere tabs r from place i x sums sums' → ((n : ℕ) → Kept n (sum_at sums' r) (sum_at sums'' r)) → ShownWhere tabs r from place i x sums sums''
  where_kept y k = record { shows = λ t h e. shows_kept (y.shows t h e) k }

  -- where a step came before
  pub where_later : Only r sums sums' → (sum_at sums' r).table ≡ (sum_at sums r).table → (from ≡ r → ⊥) → place + slots ≤ row_size
      → ShownWhere tabs r from place i x sums' sums'' → ShownWhere tabs r from place i x sums sums''
  where_later m q d l y =
      record {
        shows = λ t h e.
            let inside : place + slot_of t < row_size = omega (arith, slot_below t h) in
            subst (λ (o : Option ℕ). Shows tabs i x (or_table t o) (sum_at sums'' r)) q
            (y.shows t h (rw (other_row m from (place + slot_of t) d inside) e));
      }

-- a character that was shown stays so
pub fed_kept : {waves : List ℕ} {r from i : ℕ} {sums sums' sums'' : List ℕ} → More r sums' sums'' → (c : ℕ) → ShownFed waves r from i sums sums' c
    → ShownFed waves r from i sums sums'' c
fed_kept k c s tabs m = where_kept (s tabs m) k.kept

pub fed_later : {waves : List ℕ} {r from i : ℕ} {sums sums' sums'' : List ℕ} → More r sums sums' → (from ≡ r → ⊥) → i < signals_most → (c : ℕ) → ShownFed waves r from i sums' sums'' c
    → ShownFed waves r from i sums sums'' c
fed_later k d h c s tabs m = where_later k.only k.table_is d (omega arith) (s tabs m)

-- ---- the words up to a place

pub record Giving (text waves : List ℕ) (place r from i at last : ℕ) (seen sums sums' : List ℕ) : Type 0 where
  pub more : More r sums sums'
  pub reading : Reading text place at last (ShownFed waves r from i sums sums')
  pub known : Seen seen (ShownFed waves r from i sums sums')

module _ {text waves : List ℕ} {place r from i : ℕ} {sums : List ℕ} where
  pub giving_none : Giving text waves place r from i place 0 (replicate bytes 0) sums sums
  giving_none = record { more = more_none; reading = reading_none; known = seen_none }

  module _ {at last : ℕ} {f : Feed} {seen sums' : List ℕ} (y : Giving text waves place r from i at last seen sums sums') (n : NextWord text at f) where
    pub giving_word : {w seen' sums'' : List ℕ} {last' : ℕ} → w ≡ span text f.at f.end → (from ≡ r → ⊥) → i < signals_most → last' ≡ last_of w last → More r sums' sums''
        → SeenWord w seen seen' (ShownFed waves r from i sums' sums'') → Giving text waves place r from i f.end last' seen' sums sums''
    giving_word {w} {seen'} {sums''} {last'} e d h l k x =
        record {
          more = more_then y.more k;
          reading = reading_word y.reading n e l (fed_kept k) (λ c q. known.each c (x.word c q));
          known = known;
        }
      where
        known : Seen seen' (ShownFed waves r from i sums sums'')
        known = seen_word y.known x (fed_kept k) (fed_later y.more d h)

    pub giving_all : f.end ≤ f.at → (cs : List ℕ) → DataAt text place cs
        → (last ≡ last_of cs 0) × ((tabs : Tables) → Marked waves tabs → FedWhere tabs r from i cs sums sums')
    giving_all h cs d = let w = reading_all y.reading n h cs d in (w.0, λ tabs m. record { each = λ c k. w.1 c k tabs m })

-- a signal that has no argument
pub fed_none : {text waves : List ℕ} {xs : Args} {given args : List ℕ} {r from : ℕ} {sums : List ℕ} → Supplied text xs given args → (i : ℕ) → i < signals_most → get_or given i 0 ≡ 0
    → (0 ≡ last_of (arg_of i xs) 0) × ((tabs : Tables) → Marked waves tabs → FedWhere tabs r from i (arg_of i xs) sums sums)
fed_none u i h z = let w = reading_unsupplied u i h z in (w.0, λ tabs m. record { each = λ c k. absurd (w.1 c k) })

-- Waveforms by the list over document 01's text: served, stopped by 18 and by 19, and refused before any of them.
use Prim.Native.Nat.{ℕ}
use mathlib.Core.Path.{◌≡◌, refl}
use mathlib.Core.Option.{none, some}
use mathlib.Core.List.{List, [], ◌∷◌}
use lib.ListN.{replicate}
use Rattle.tokens.specs.Written.{bytes}
use Rattle.meaning.specs.Meaning.{Answer, given, refused}
use Rattle.meaning.specs.Charts.{Chart, waveforms, asking, asked_in, called, behind, chart}
use Rattle.meaning.specs.Samples.{whole, two_signals, one_group, one_table, its_waveforms, one_macro, one_listed, playing, worked}
use Rattle.meaning.specs.Open.{everything}

-- A's `1` has one event, B's `H` two; so many numbers are lent for times and letters, and for counts
unfoldable pub asked : List ℕ → ℕ → ℕ → Answer Chart
asked list room counts = waveforms worked list (replicate room 35) (replicate room 35) (replicate counts 35)

-- all that they compute with
unfoldable opened : Unit {0}
unfolding everything whole two_signals one_group one_table its_waveforms one_macro one_listed playing worked asked waveforms asking asked_in called behind chart
opened = tt

-- the groups stand one behind the other; the rest of all buffers stays
pub all_served : asked (0 ∷ 0 ∷ 49 ∷ 0 ∷ 1 ∷ 72 ∷ []) 4 3 ≡ given (record {
  stopped = none;
  served = 2;
  events = 3;
  times = 0 ∷ 0 ∷ 50000 ∷ 35 ∷ [];
  letters = bytes "UZH#";
  counts = 1 ∷ 2 ∷ 35 ∷ [];
})
unfolding opened
all_served = refl

-- the second has no room left: the first stays written
pub no_room_left : asked (0 ∷ 0 ∷ 49 ∷ 0 ∷ 1 ∷ 72 ∷ 0 ∷ 0 ∷ 49 ∷ []) 2 3 ≡ given (record {
  stopped = some (19, 0);
  served = 1;
  events = 1;
  times = 0 ∷ 35 ∷ [];
  letters = bytes "U#";
  counts = 1 ∷ 35 ∷ 35 ∷ [];
})
unfolding opened
no_room_left = refl

-- a number that is no character, and numbers left over, name no waveform
pub no_character : asked (0 ∷ 1 ∷ 72 ∷ 0 ∷ 0 ∷ 305 ∷ 0 ∷ 0 ∷ 49 ∷ []) 2 3 ≡ given (record {
  stopped = some (18, 0);
  served = 1;
  events = 2;
  times = 0 ∷ 50000 ∷ [];
  letters = bytes "ZH";
  counts = 2 ∷ 35 ∷ 35 ∷ [];
})
unfolding opened
no_character = refl

pub left_over : asked (0 ∷ 0 ∷ 49 ∷ 0 ∷ 1 ∷ []) 1 2 ≡ given (record {
  stopped = some (18, 0);
  served = 1;
  events = 1;
  times = 0 ∷ [];
  letters = bytes "U";
  counts = 1 ∷ 35 ∷ [];
})
unfolding opened
left_over = refl

-- none asked for
pub none_asked : asked [] 0 0 ≡ given (record { stopped = none; served = 0; events = 0; times = []; letters = []; counts = [] })
unfolding opened
none_asked = refl

-- before any of them: 64 and some numbers are 65 waveforms; counts for all but one
pub too_many_lem : asked (replicate 193 0) 99 99 ≡ refused 8 0
unfolding opened
too_many_lem = refl

pub counts_lack_room : asked (0 ∷ 0 ∷ 49 ∷ 0 ∷ 1 ∷ []) 9 1 ≡ refused 19 0
unfolding opened
counts_lack_room = refl

-- the text's refusals come first
pub text_first : waveforms [] (replicate 193 0) [] [] [] ≡ refused 4 0
unfolding opened
text_first = refl

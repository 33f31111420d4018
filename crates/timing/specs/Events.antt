-- What the code has of an entry's letters and events.
use Rattle.std.specs.Prelude.{ℕ, suc, ◌+◌, ◌*◌, ◌<◌, min, ◌≡◌, Bool, true, cond, ◌&&◌, ◌||◌, List, [], ◌∷◌, length, get_or, leb, Option as Maybe, MatchOption}
use Rattle.std.proofs.Math.Option.{none, some}
use Rattle.meaning.specs.Bounds.{entry_most}
use Rattle.meaning.specs.Timing.{drives, compares, rises, add_events, Event, Events, blanks, event}
use Rattle.timing.specs.declared.Times.{Times}
use Rattle.meaning.specs.Reader.{Reader, ◌>>=◌, until}

-- is it the letter of an event
abbrev pub is_event : ℕ → Bool
is_event e = drives e || compares e

unfoldable pub all_events : List ℕ → Bool
all_events [] = true
all_events (e ∷ es) = is_event e && all_events es

-- the code counts up to one alternative too many, and has as many as there may be
pub record Lettered (n : ℕ) (l es : List ℕ) : Type 0 where
  pub sized : length l ≡ entry_most
  pub count : n ≡ min (entry_most + 1) (length es)
  pub each : (i : ℕ) → i < entry_most → i < length es → get_or l i 0 ≡ get_or es i 0

-- where the code keeps times: drive events of each character, and then compare events of each
abbrev pub slot : ℕ → ℕ → ℕ
slot e i = cond (drives e) 0 entry_most + i

-- the least time that the next event of each character and category may have tells whether a time rises
pub record Timed (n count : ℕ) (least : List ℕ) (s : Events) : Type 0 where
  pub sized : length least ≡ entry_most * 2
  pub chars : length s.0 ≡ n
  pub events : count ≡ min entry_most s.1
  pub each : (i e t : ℕ) → i < n → is_event e ≡ true → rises t e (get_or s.0 i []) ≡ leb (get_or least (slot e i) 0) t

-- an event at time t more, with a letter for each character, unless a time does not rise
abbrev pub Adding : ℕ → ℕ → List ℕ → Events → Maybe Times → Type 0
Adding n t es s r =
    MatchOption r (add_events t es s.0 ≡ none) (λ u. (cs : List (List Event)) × (add_events t es s.0 ≡ some cs) × Timed n u.count u.least (cs, suc s.1))

-- the events of an entry with these characters, and its closing brace
unfoldable pub events : List ℕ → Reader Events
events cs = do
  e ← event (length cs) (blanks cs, 0)
  until "}" (event (length cs)) e

-- An event within the cycle, added to events within it: those of each character, and the waveforms that an entry makes of them.
use Prim.Native.Nat.{ℕ, ◌<◌}
use native.Mathlib.Omega.{arith}
use mathlib.Core.Path.{◌≡◌, refl, sym, ap, ◌∙◌, subst}
use mathlib.Core.Bool.{Bool, true, false}
use mathlib.Core.Option.{Option, none, some}
use mathlib.Core.List.{List, [], ◌∷◌, ◌++◌}
use lib.ListN.{length, get_or}
use Rattle.meaning.specs.Timing.{Event, rises, add_events, blanks, waves_of, waves_for}
use Rattle.meaning.specs.Edges.{last_behind}
use Rattle.edges.proofs.Behind.{last-++}
use Rattle.quiet.specs.Quiet.{earliest, Inside, Each, EventsIn, WavesIn}
use Rattle.quiet.proofs.Each.{each-++, each_more}

-- ---- the events of each character

-- a letter and a character more, where none is refused
with_more : {B : Type 0} (t e : ℕ) (es : List ℕ) (c : List Event) (cs : List (List Event)) {ds : List (List Event)} → add_events t (e ∷ es) (c ∷ cs) ≡ some ds
    → ((r : List (List Event)) → add_events t es cs ≡ some r → ((c ++ record { time = t; letter = e } ∷ []) ∷ r) ≡ ds → B) → B
unfolding add_events
with_more {B} t e es c cs {ds} h k = by (rises t e c) (add_events t es cs) refl h
  where
    by : (x : Bool) (o : Option (List (List Event))) → add_events t es cs ≡ o
        → ◌≡◌ {A = Option (List (List Event))}
        (elim x [ false ↦ none | true ↦ elim o [ none ↦ none | some r ↦ some ((c ++ record { time = t; letter = e } ∷ []) ∷ r) ] ]) (some ds)
        → B
    by false o q h = let z : ◌≡◌ {A = ℕ} 0 1 = cc in absurd (omega arith)
    by true none q h = let z : ◌≡◌ {A = ℕ} 0 1 = cc in absurd (omega arith)
    by true (some r) q h = k r q cc

pub added_in : (period t : ℕ) (es : List ℕ) (cs : List (List Event)) {ds : List (List Event)} → add_events t es cs ≡ some ds → Inside earliest period t → Each (EventsIn period) cs
    → Each (EventsIn period) ds
unfolding add_events Each
added_in period t [] [] {ds} h i k = let q : [] ≡ ds = cc in subst (Each (EventsIn period)) q tt
added_in period t [] (c ∷ cs) h i k = let z : ◌≡◌ {A = ℕ} 0 1 = cc in absurd (omega arith)
added_in period t (e ∷ es) [] h i k = let z : ◌≡◌ {A = ℕ} 0 1 = cc in absurd (omega arith)
added_in period t (e ∷ es) (c ∷ cs) h i k =
    with_more t e es c cs h λ r f q.
    subst (Each (EventsIn period)) q (each_more (λ (x : Event). Inside earliest period x.time) c (record { time = t; letter = e }) k.0 i, added_in period t es cs f i k.1)

-- the time of an event that was added is its own in the first character's events
pub time_is : (t : ℕ) (es : List ℕ) (cs : List (List Event)) {ds : List (List Event)} (x : Event) → add_events t es cs ≡ some ds → 0 < length cs
    → get_or ds 0 [] ≡ get_or cs 0 [] ++ x ∷ [] → x.time ≡ t
unfolding add_events last_behind
time_is t es [] x h z q = absurd (omega arith)
time_is t [] (c ∷ cs) x h z q = let z : ◌≡◌ {A = ℕ} 0 1 = cc in absurd (omega arith)
time_is t (e ∷ es) (c ∷ cs) x h z q =
    with_more t e es c cs h λ r f k.
    let last : ◌≡◌ {A = Option Event} (some x) (some (record { time = t; letter = e })) =
    sym (last-++ none c (x ∷ [])) ∙ ap (last_behind none) (sym (ap (λ (l : List (List Event)). get_or l 0 []) k ∙ q)) ∙ last-++ none c (record { time = t; letter = e } ∷ []) in
    let same : x ≡ record { time = t; letter = e } = cc in
    ap (λ (y : Event). y.time) same

-- before any event
pub blanks_in : (period : ℕ) (cs : List ℕ) → Each (EventsIn period) (blanks cs)
unfolding blanks Each
blanks_in period [] = tt
blanks_in period (c ∷ cs) = (tt, blanks_in period cs)

-- ---- the waveforms of an entry

waves_of_lem : (period s : ℕ) (cs : List ℕ) (es : List (List Event)) → Each (EventsIn period) es → WavesIn period (waves_of s cs es)
unfolding Each waves_of
waves_of_lem period s [] es h = tt
waves_of_lem period s (c ∷ cs) [] h = tt
waves_of_lem period s (c ∷ cs) (e ∷ es) h = (h.0, waves_of_lem period s cs es h.1)

pub waves_for_lem : (period : ℕ) (ss cs : List ℕ) (es : List (List Event)) → Each (EventsIn period) es → WavesIn period (waves_for ss cs es)
unfolding Each waves_for
waves_for_lem period [] cs es h = tt
waves_for_lem period (s ∷ ss) cs es h = each-++ _ (waves_of s cs es) (waves_for ss cs es) (waves_of_lem period s cs es h) (waves_for_lem period ss cs es h)

-- In an accepted text the first event of a category that a waveform lists is its earliest, and the last its latest.
use mathlib.Core.Path.{◌≡◌, refl, sym, ap, ◌∙◌, subst}
use Prim.Native.Nat.{ℕ, zero, suc, ◌<◌, ◌≤◌}
use native.Mathlib.Omega.{arith}
use mathlib.Core.Bool.{Bool, true, false, not, ◌&&◌, ◌||◌, or-true}
use mathlib.Core.Option.{Option, none, some}
use mathlib.Core.List.{List, [], ◌∷◌, ◌++◌, append-nil}
use lib.Dec.{leb, ltb, eqb}
use borrow.Author.Tests.{ltb-true}
use Rattle.tokens.proofs.Bools.{both}
use Rattle.meaning.specs.Refusals.{too_many}
use Rattle.meaning.specs.Bounds.{entry_most}
use Rattle.meaning.specs.Reader.{ahead, due}
use Rattle.meaning.specs.Signals.{Names}
use Rattle.meaning.specs.Timing.{Event, Wave, Tables, drives, alike, rises, add_events, Events, one_event, event, blanks, waves_of, waves_for, entry, waveforms, table, timing}
use Rattle.meaning.specs.Document.{Read, document, document_up_to}
use Rattle.meaning.specs.Meaning.{given, table_at, Meaning, meaning}
use Rattle.meaning.specs.Services.{wave_of}
use Rattle.meaning.proofs.Gives.{known_ok, Gives, gives_bind, gives_after, gives_give, gives_until}
use Rattle.meaning.proofs.Choices.{gives_refuse, gives_either}
use Rattle.meaning.proofs.Accepted.{accepted}
use Rattle.meaning.specs.Edges.{Category, drive, compare, belongs, times_in, first_of, last_behind}
use Rattle.edges.specs.Rising.{Risen, no_event, one_more_lem, WavesRise, TablesRise, Each}
use Rattle.edges.proofs.Behind.{last-++}

-- ---- what is read rises

AllRisen : List (List Event) → Type 0
AllRisen [] = Unit {0}
AllRisen (c ∷ cs) = Risen c × AllRisen cs

added : (t : ℕ) (es : List ℕ) (cs r : List (List Event)) → AllRisen cs → add_events t es cs ≡ some r → AllRisen r
unfolding AllRisen add_events
added t [] [] r h e = let q : [] ≡ r = cc in subst AllRisen q tt
added t [] (c ∷ cs) r h e = let z : ◌≡◌ {A = ℕ} 0 1 = cc in absurd (omega arith)
added t (l ∷ es) [] r h e = let z : ◌≡◌ {A = ℕ} 0 1 = cc in absurd (omega arith)
added t (l ∷ es) (c ∷ cs) r h e = by (rises t l c) refl (add_events t es cs) refl e (added t es cs)
  where
    by : (w : Bool) → rises t l c ≡ w → (o : Option (List (List Event))) → add_events t es cs ≡ o
        → ◌≡◌ {A = Option (List (List Event))} (elim w [
          | false ↦ none
          | true ↦ elim o [ none ↦ none | some r ↦ some ((c ++ record { time = t; letter = l } ∷ []) ∷ r) ]
        ]) (some r)
        → ((r : List (List Event)) → AllRisen cs → add_events t es cs ≡ some r → AllRisen r) → AllRisen r
    by false u o v e ih = let z : ◌≡◌ {A = ℕ} 0 1 = cc in absurd (omega arith)
    by true u none v e ih = let z : ◌≡◌ {A = ℕ} 0 1 = cc in absurd (omega arith)
    by true u (some x) v e ih =
        let q : ((c ++ record { time = t; letter = l } ∷ []) ∷ x) ≡ r = cc in
        subst AllRisen q (one_more_lem t l h.0 u, ih x h.1 v)

blank_risen : (cs : List ℕ) → AllRisen (blanks cs)
unfolding AllRisen blanks
blank_risen [] = tt
blank_risen (c ∷ cs) = (no_event, blank_risen cs)

waves-++ : (a b : List Wave) → WavesRise a → WavesRise b → WavesRise (a ++ b)
unfolding WavesRise
waves-++ [] b h k = k
waves-++ (w ∷ a) b h k = (h.0, waves-++ a b h.1 k)

waves_of_lem : (s : ℕ) (cs : List ℕ) (es : List (List Event)) → AllRisen es → WavesRise (waves_of s cs es)
unfolding AllRisen WavesRise waves_of
waves_of_lem s [] es h = tt
waves_of_lem s (c ∷ cs) [] h = tt
waves_of_lem s (c ∷ cs) (e ∷ es) h = (h.0, waves_of_lem s cs es h.1)

waves_for_lem : (ss cs : List ℕ) (es : List (List Event)) → AllRisen es → WavesRise (waves_for ss cs es)
unfolding WavesRise waves_for
waves_for_lem [] cs es h = tt
waves_for_lem (s ∷ ss) cs es h = waves-++ (waves_of s cs es) (waves_for ss cs es) (waves_of_lem s cs es h) (waves_for_lem ss cs es h)

tables-++ : (a b : Tables) → TablesRise a → TablesRise b → TablesRise (a ++ b)
unfolding TablesRise
tables-++ [] b h k = k
tables-++ (x ∷ a) b h k = (h.0, tables-++ a b h.1 k)

abbrev Lines : Events → Type 0
Lines s = AllRisen s.0

one_rises : (n : ℕ) (s : Events) → Lines s → Gives Lines (one_event n s)
unfolding one_event
one_rises n s h =
    gives_after Lines _ _ λ t. gives_after Lines _ _ λ es. gives_after Lines _ _ λ q. gives_after Lines _ _ λ u.
    gives_bind AllRisen Lines _ _ (record { all = λ ts cs us e. added t _ s.0 cs h (known_ok _ _ _ ts e) }) λ cs r. gives_give Lines (cs, suc s.1) r

event_rises : (n : ℕ) (s : Events) → Lines s → Gives Lines (event n s)
unfolding event
event_rises n s h = record {
  all = λ ts. (gives_either Lines (ahead "'" ts && leb entry_most s.1) _ _ (gives_after Lines (due "'") _ λ p. gives_refuse Lines too_many p) (one_rises n s h)).all ts;
}

entry_rises : (sigs : List ℕ) (ws : List Wave) → WavesRise ws → Gives WavesRise (entry sigs ws)
unfolding entry
entry_rises sigs ws h =
    gives_after WavesRise _ _ λ t. gives_after WavesRise _ _ λ u. gives_after WavesRise _ _ λ v. gives_after WavesRise _ _ λ x. gives_after WavesRise _ _ λ p.
    gives_bind Lines WavesRise _ _ (event_rises _ _ (blank_risen t.word)) λ e r.
    gives_bind Lines WavesRise _ _ (gives_until Lines "}" _ (event_rises _) e r) λ es k.
    gives_give WavesRise _ (waves-++ ws _ h (waves_for_lem sigs t.word es.0 k))

named_rises : (ns : Names) (ws : List Wave) → WavesRise ws → Gives WavesRise (waveforms ns ws)
unfolding waveforms
named_rises ns ws h = gives_after WavesRise _ _ λ x. gives_after WavesRise _ _ λ p. gives_until WavesRise "}" _ (entry_rises x.1) ws h

table_rises : (ns : Names) (tabs : Tables) → TablesRise tabs → Gives TablesRise (table ns tabs)
unfolding table TablesRise WavesRise
table_rises ns tabs h =
    gives_after TablesRise _ _ λ p. gives_after TablesRise _ _ λ u. gives_after TablesRise _ _ λ t. gives_after TablesRise _ _ λ a. gives_after TablesRise _ _ λ b.
    gives_after TablesRise _ _ λ n. gives_after TablesRise _ _ λ c. gives_after TablesRise _ _ λ d. gives_after TablesRise _ _ λ e.
    gives_bind WavesRise TablesRise _ _ (gives_until WavesRise "}" _ (named_rises ns) [] tt) λ ws k.
    gives_after TablesRise _ _ λ f. gives_give TablesRise _ (tables-++ tabs _ h (k, tt))

timing_rises : (ns : Names) → Gives TablesRise (timing ns)
unfolding timing TablesRise
timing_rises ns =
    gives_after TablesRise _ _ λ p. gives_after TablesRise _ _ λ q. gives_bind TablesRise TablesRise _ _ (table_rises ns [] tt) λ tabs h.
    gives_until TablesRise "}" _ (table_rises ns) tabs h

document_rises : Gives (λ d. TablesRise d.tables) document
unfolding document_up_to
document_rises =
    gives_after Q _ _ λ x. gives_after Q _ _ λ y. gives_after Q _ _ λ z. gives_after Q _ _ λ ss. gives_after Q _ _ λ ns.
    gives_bind TablesRise Q _ _ (timing_rises ns) λ tabs h. gives_after Q _ _ λ e. gives_after Q _ _ λ b. gives_after Q _ _ λ w.
    gives_after Q _ _ λ l. gives_give Q _ h
  where
    Q : Read → Type 0
    Q d = TablesRise d.tables

wave_rises : (s c : ℕ) (ws : List Wave) (es : List Event) → WavesRise ws → wave_of s c ws ≡ some es → Risen es
unfolding WavesRise wave_of
wave_rises s c [] es h e = let z : ◌≡◌ {A = ℕ} 0 1 = cc in absurd (omega arith)
wave_rises s c (w ∷ ws) es h e = by (eqb w.signal s && eqb w.char c) e (wave_rises s c ws es h.1)
  where
    by : (b : Bool) → ◌≡◌ {A = Option (List Event)} (elim b [ true ↦ some w.events | false ↦ wave_of s c ws ]) (some es) → (wave_of s c ws ≡ some es → Risen es) → Risen es
    by true e ih = let q : w.events ≡ es = cc in subst Risen q h.0
    by false e ih = ih e

table_at_lem : (tabs : Tables) (k : ℕ) → TablesRise tabs → WavesRise (table_at tabs k)
unfolding TablesRise WavesRise table_at
table_at_lem [] k h = tt
table_at_lem (x ∷ xs) zero h = h.0
table_at_lem (x ∷ xs) (suc k) h = table_at_lem xs k h.1

-- THE LAW: every waveform of an accepted text
pub meant_rises : (text : List ℕ) (m : Meaning) → meaning text ≡ given m → (k s c : ℕ) (es : List Event) → wave_of s c (table_at m.tables k) ≡ some es → Risen es
meant_rises text m e k s c es f =
    let a = accepted text m e in
    let h : TablesRise m.tables = subst TablesRise a.tables (document_rises.all _ _ _ a.read) in
    wave_rises s c (table_at m.tables k) es (table_at_lem m.tables k h) f

-- ---- the first is the earliest, the last is the latest

each-++ : (P : ℕ → Type 0) (a b : List ℕ) → Each P a → Each P b → Each P (a ++ b)
unfolding Each
each-++ P [] b h k = k
each-++ P (t ∷ a) b h k = (h.0, each-++ P a b h.1 k)

each_all : (P Q : ℕ → Type 0) → ((t : ℕ) → P t → Q t) → (l : List ℕ) → Each P l → Each Q l
unfolding Each
each_all P Q f [] h = tt
each_all P Q f (t ∷ l) h = (f t h.0, each_all P Q f l h.1)

-- one event behind the others
times_more : (k : Category) (es : List Event) (x : Event) → times_in k (es ++ x ∷ []) ≡ times_in k es ++ times_in k (x ∷ [])
unfolding times_in
times_more k [] x = refl
times_more k (e ∷ es) x = by (belongs k e.letter) (times_more k es x)
  where
    one : List ℕ
    one = times_in k (x ∷ [])

    by : (w : Bool) → times_in k (es ++ x ∷ []) ≡ times_in k es ++ one
        → ◌≡◌ {A = List ℕ} (elim w [ true ↦ e.time ∷ times_in k (es ++ x ∷ []) | false ↦ times_in k (es ++ x ∷ []) ])
        ((elim w [ true ↦ e.time ∷ times_in k es | false ↦ times_in k es ]) ++ one)
    by true h = ap (λ (l : List ℕ). e.time ∷ l) h
    by false h = h

-- two letters of a category are alike
same_category : (k : Category) (e f : ℕ) → belongs k e ≡ true → belongs k f ≡ true → alike e f ≡ true
unfolding belongs alike
same_category drive e f h g = rw (h, g)
same_category compare e f h g = rw (h, g) (or-true (drives e && drives f))

-- a time that rises is above all of its category
rises_above : (k : Category) (t e : ℕ) (es : List Event) → belongs k e ≡ true → rises t e es ≡ true → Each (λ u. u < t) (times_in k es)
unfolding rises times_in Each
rises_above k t e [] g h = tt
rises_above k t e (x ∷ es) g h =
    let parts = both (not (alike e x.letter) || ltb x.time t) (rises t e es) h in
    by (belongs k x.letter) refl parts.0 (rises_above k t e es g parts.1)
  where
    below : alike e x.letter ≡ true → not (alike e x.letter) || ltb x.time t ≡ true → x.time < t
    below a o = ltb-true x.time t (sym (ap (λ (w : Bool). not w || ltb x.time t) a) ∙ o)

    by : (w : Bool) → belongs k x.letter ≡ w → not (alike e x.letter) || ltb x.time t ≡ true → Each (λ u. u < t) (times_in k es)
        → Each (λ u. u < t) (elim w [ true ↦ x.time ∷ times_in k es | false ↦ times_in k es ])
    by true b o r = (below (same_category k e x.letter g b) o, r)
    by false b o r = r

-- no time is above the last, and none below the first
pub record Between (l : List ℕ) : Type 0 where
  pub up_to : (b : ℕ) → last_behind none l ≡ some b → Each (λ t. t ≤ b) l
  pub from : (a : ℕ) → first_of l ≡ some a → Each (λ t. a ≤ t) l

between_none : Between []
unfolding Each
between_none = record { up_to = λ b e. tt; from = λ a e. tt }

up_to_more : (l : List ℕ) (t : ℕ) → Each (λ u. u < t) l → (b : ℕ) → last_behind none (l ++ t ∷ []) ≡ some b → Each (λ u. u ≤ b) (l ++ t ∷ [])
unfolding Each last_behind
up_to_more l t h b e =
    let whole : ◌≡◌ {A = Option ℕ} (some t) (some b) = sym (last-++ none l (t ∷ [])) ∙ e in
    let q : t ≡ b = cc in
    each-++ (λ u. u ≤ b) l (t ∷ []) (each_all (λ u. u < t) (λ u. u ≤ b) (λ u v. omega (arith, q)) l h) (omega (arith, q), tt)

from_more : (l : List ℕ) (t : ℕ) → ((a : ℕ) → first_of l ≡ some a → Each (λ u. a ≤ u) l) → Each (λ u. u < t) l → (a : ℕ) → first_of (l ++ t ∷ []) ≡ some a
    → Each (λ u. a ≤ u) (l ++ t ∷ [])
unfolding Each first_of
from_more [] t x h a e = let q : t ≡ a = cc in (omega (arith, q), tt)
from_more (u ∷ l) t x h a e =
    let q : u ≡ a = cc in
    each-++ (λ u. a ≤ u) (u ∷ l) (t ∷ []) (x a e) (omega (arith, h.0, q), tt)

between_more : (k : Category) (es : List Event) (t e : ℕ) → Between (times_in k es) → rises t e es ≡ true → Between (times_in k (es ++ record { time = t; letter = e } ∷ []))
unfolding times_in
between_more k es t e x r = subst Between (sym (times_more k es (record { time = t; letter = e }))) (by (belongs k e) refl)
  where
    l : List ℕ
    l = times_in k es

    by : (w : Bool) → belongs k e ≡ w → Between (l ++ elim w [ true ↦ t ∷ [] | false ↦ [] ])
    by true b = let h = rises_above k t e es b r in record { up_to = up_to_more l t h; from = from_more l t x.from h }
    by false b = subst Between (sym (append-nil l)) x

-- THE LAW: of a waveform that rises, in each category
pub risen_between : (k : Category) {es : List Event} → Risen es → Between (times_in k es)
unfolding times_in
risen_between k no_event = between_none
risen_between k (one_more_lem {es} t e h r) = between_more k es t e (risen_between k h) r

-- and so in every accepted text
pub meant_between : (text : List ℕ) (m : Meaning) → meaning text ≡ given m → (n s c : ℕ) (es : List Event) → wave_of s c (table_at m.tables n) ≡ some es
    → (k : Category) → Between (times_in k es)
meant_between text m e n s c es f k = risen_between k (meant_rises text m e n s c es f)

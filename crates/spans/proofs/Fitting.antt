-- Waveforms that were read fit: each time has a number, and each character a place; and what that tells of a spot.
use Prim.Native.Nat.{ℕ, zero, suc, ◌-◌, ◌≤◌, ◌<◌}
use native.Mathlib.Omega.{arith}
use mathlib.Core.Path.{◌≡◌, refl, sym, ap, ◌∙◌, subst}
use Rattle.std.proofs.Common.{Some}
use mathlib.Core.Bool.{Bool, true, false, not, ◌&&◌, ◌||◌}
use mathlib.Core.Option.{Option, none, some}
use mathlib.Core.List.{List, [], ◌∷◌, ◌++◌}
use lib.Dec.{leb, eqb}
use borrow.Author.Tests.{not-false, leb-true, le-leb, eqb-true, ne_eqb}
use lib.ListN.{get_or}
use Rattle.tokens.specs.Tokens.{Tok}
use Rattle.tokens.specs.Bytes.{between, digit, letter}
use Rattle.meaning.specs.Bounds.{entry_most}
use Rattle.meaning.specs.Refusals.{too_many}
use Rattle.meaning.specs.Reader.{ahead, due, until}
use Rattle.meaning.specs.Signals.{Names}
use Rattle.meaning.specs.Timing.{Event, Wave, rises, add_events, Events, one_event, event, wave_char, all_chars, blanks, waves_of, waves_for, entry, waveforms}
use Rattle.meaning.specs.Run.{unassigned}
use Rattle.meaning.specs.Services.{wave_of}
use Rattle.meaning.proofs.Gives.{known_ok, Gives, gives_bind, gives_after, gives_give, gives_if, gives_until}
use Rattle.meaning.proofs.Choices.{gives_refuse, gives_either}
use Rattle.meaning.proofs.Signs.{gives_signed}
use Rattle.timing.specs.Watch.{number_of, Watched}
use Rattle.waves.specs.Waves.{EntryAt}
use Rattle.waves.proofs.Entries.{entry_found}
use Rattle.spots.specs.Spots.{watch_of, sight_of}
use Rattle.meaning.specs.Edges.{events_of}
use Rattle.spans.specs.Spans.{char_first, inside}
use Rattle.spans.specs.Parts.{times_below, Timely, Fit}
use Rattle.spans.proofs.Looking.{inside_low, events_none}

-- ---- events

timely_more : (es : List Event) (e : Event) → Timely es → e.time < times_below → Timely (es ++ e ∷ [])
timely_more [] e h k = (k, tt)
timely_more (x ∷ es) e h k = (h.0, timely_more es e h.1 k)

abbrev AllTimely : List (List Event) → Type 0
AllTimely [] = Unit {0}
AllTimely (c ∷ cs) = Timely c × AllTimely cs

added : (t : ℕ) (es : List ℕ) (cs r : List (List Event)) → t < times_below → AllTimely cs → add_events t es cs ≡ some r → AllTimely r
unfolding add_events
added t [] [] r m h e = let q : [] ≡ r = cc in subst AllTimely q tt
added t [] (c ∷ cs) r m h e = let z : ◌≡◌ {A = ℕ} 0 1 = cc in absurd (omega arith)
added t (l ∷ es) [] r m h e = let z : ◌≡◌ {A = ℕ} 0 1 = cc in absurd (omega arith)
added t (l ∷ es) (c ∷ cs) r m h e = by (rises t l c) (add_events t es cs) refl e (λ r. added t es cs r m h.1)
  where
    by : (w : Bool) (o : Option (List (List Event))) → add_events t es cs ≡ o
        → ◌≡◌ {A = Option (List (List Event))} (elim w [
          | false ↦ none
          | true ↦ elim o [ none ↦ none | some r ↦ some ((c ++ record { time = t; letter = l } ∷ []) ∷ r) ]
        ]) (some r)
        → ((r : List (List Event)) → add_events t es cs ≡ some r → AllTimely r) → AllTimely r
    by false o v e ih = let z : ◌≡◌ {A = ℕ} 0 1 = cc in absurd (omega arith)
    by true none v e ih = let z : ◌≡◌ {A = ℕ} 0 1 = cc in absurd (omega arith)
    by true (some x) v e ih =
        let q : ((c ++ record { time = t; letter = l } ∷ []) ∷ x) ≡ r = cc in
        subst AllTimely q (timely_more c (record { time = t; letter = l }) h.0 m, ih x v)

blank_timely : (cs : List ℕ) → AllTimely (blanks cs)
unfolding blanks
blank_timely [] = tt
blank_timely (c ∷ cs) = (tt, blank_timely cs)

abbrev Lines : Events → Type 0
Lines s = AllTimely s.0

one_timely : (n : ℕ) (s : Events) → Lines s → Gives Lines (one_event n s)
unfolding one_event
one_timely n s h =
    gives_bind (λ t. t < times_below) Lines _ _ (record { all = λ ts t us e. omega (arith, gives_signed.all ts t us e) }) λ t m.
    gives_after Lines _ _ λ es. gives_after Lines _ _ λ q. gives_after Lines _ _ λ u.
    gives_bind AllTimely Lines _ _ (record { all = λ ts cs us e. added t _ s.0 cs m h (known_ok _ _ _ ts e) }) λ cs r. gives_give Lines (cs, suc s.1) r

event_timely : (n : ℕ) (s : Events) → Lines s → Gives Lines (event n s)
unfolding event
event_timely n s h = record {
  all = λ ts. (gives_either Lines (ahead "'" ts && leb entry_most s.1) _ _ (gives_after Lines (due "'") _ λ p. gives_refuse Lines too_many p) (one_timely n s h)).all ts;
}

-- ---- characters

between_inside : (a b c : ℕ) → char_first ≤ a → b ≤ 122 → between a b c ≡ true → inside c ≡ true
unfolding between
between_inside a b c h k e = by (leb a c) refl (leb c b) refl e
  where
    by : (x : Bool) → leb a c ≡ x → (y : Bool) → leb c b ≡ y → (x && y) ≡ true → inside c ≡ true
    by true p true q e =
        let l : leb char_first c ≡ true = le-leb char_first c (omega (arith, leb-true a c p)) in
        let r : leb c 122 ≡ true = le-leb c 122 (omega (arith, leb-true c b q)) in
        rw (l, r)
    by true p false q e = absurd (let z : ◌≡◌ {A = ℕ} 0 1 = cc in omega arith)
    by false p y q e = absurd (let z : ◌≡◌ {A = ℕ} 0 1 = cc in omega arith)

char_inside : (c : ℕ) → wave_char c ≡ true → inside c ≡ true
unfolding wave_char letter digit
char_inside c e = by (between 65 90 c) refl (between 97 122 c) refl (between 48 57 c) refl e
  where
    by : (x : Bool) → between 65 90 c ≡ x → (y : Bool) → between 97 122 c ≡ y → (z : Bool) → between 48 57 c ≡ z → ((x || y) || z) ≡ true → inside c ≡ true
    by true p y q z r e = between_inside 65 90 c (omega arith) (omega arith) p
    by false p true q z r e = between_inside 97 122 c (omega arith) (omega arith) q
    by false p false q true r e = between_inside 48 57 c (omega arith) (omega arith) r
    by false p false q false r e = absurd (let z : ◌≡◌ {A = ℕ} 0 1 = cc in omega arith)

-- ---- waveforms

fit-++ : (a b : List Wave) → Fit a → Fit b → Fit (a ++ b)
fit-++ [] b h k = k
fit-++ (w ∷ a) b h k = (h.0, fit-++ a b h.1 k)

fit_of : (s : ℕ) (cs : List ℕ) (es : List (List Event)) → all_chars cs ≡ true → AllTimely es → Fit (waves_of s cs es)
unfolding waves_of all_chars
fit_of s [] es g h = tt
fit_of s (c ∷ cs) [] g h = tt
fit_of s (c ∷ cs) (e ∷ es) g h = by (wave_char c) refl g (λ g. fit_of s cs es g h.1)
  where
    by : (x : Bool) → wave_char c ≡ x → (x && all_chars cs) ≡ true → (all_chars cs ≡ true → Fit (waves_of s cs es)) → Fit (record { signal = s; char = c; events = e } ∷ waves_of s cs es)
    by true q g ih = ((char_inside c q, h.0), ih g)
    by false q g ih = absurd (let z : ◌≡◌ {A = ℕ} 0 1 = cc in omega arith)

fit_for : (ss cs : List ℕ) (es : List (List Event)) → all_chars cs ≡ true → AllTimely es → Fit (waves_for ss cs es)
unfolding waves_for
fit_for [] cs es g h = tt
fit_for (s ∷ ss) cs es g h = fit-++ (waves_of s cs es) (waves_for ss cs es) (fit_of s cs es g h) (fit_for ss cs es g h)

entry_fit : (sigs : List ℕ) (ws : List Wave) → Fit ws → Gives Fit (entry sigs ws)
unfolding entry
entry_fit sigs ws h =
    gives_after Fit _ _ λ t. gives_after Fit _ _ λ u. gives_after Fit _ _ λ v.
    gives_bind (λ u. not (all_chars t.word) ≡ false) Fit _ _ (gives_if _ _ _) λ x g. gives_after Fit _ _ λ p.
    gives_bind Lines Fit _ _ (event_timely _ _ (blank_timely t.word)) λ e r.
    gives_bind Lines Fit _ _ (gives_until Lines "}" _ (event_timely _) e r) λ es k.
    gives_give Fit _ (fit-++ ws _ h (fit_for sigs t.word es.0 (not-false _ g) k))

name_fit : (ns : Names) (ws : List Wave) → Fit ws → Gives Fit (waveforms ns ws)
unfolding waveforms
name_fit ns ws h = gives_after Fit _ _ λ x. gives_after Fit _ _ λ p. gives_until Fit "}" _ (entry_fit x.1) ws h

-- those of a table
pub waves_fit : (ns : Names) → Gives Fit (until "}" (waveforms ns) [])
waves_fit ns = gives_until Fit "}" _ (name_fit ns) [] tt

-- ---- one of them

wave_fits : (s b : ℕ) (ws : List Wave) → Fit ws → (es : List Event) → wave_of s b ws ≡ some es → (inside b ≡ true) × Timely es
unfolding wave_of
wave_fits s b [] g es e = absurd (let z : ◌≡◌ {A = ℕ} 0 1 = cc in omega arith)
wave_fits s b (w ∷ ws) g es e = by (eqb w.signal s) (eqb w.char b) refl e (wave_fits s b ws g.1 es)
  where
    by : (x y : Bool) → eqb w.char b ≡ y → ◌≡◌ {A = Option (List Event)} (elim (x && y) [ true ↦ some w.events | false ↦ wave_of s b ws ]) (some es)
        → (wave_of s b ws ≡ some es → (inside b ≡ true) × Timely es) → (inside b ≡ true) × Timely es
    by true true q e ih =
        let z : w.events ≡ es = cc in
        (subst (λ (x : ℕ). inside x ≡ true) (eqb-true w.char b q) g.0.0, subst Timely z g.0.1)
    by true false q e ih = ih e
    by false y q e ih = ih e

events_some : (s b : ℕ) (ws : List Wave) {es : List Event} → inside b ≡ true → wave_of s b ws ≡ some es → events_of s b ws ≡ es
unfolding events_of
events_some s b ws {es} h e = by (eqb b unassigned) (wave_of s b ws) (ne_eqb b unassigned (λ z. omega (arith, inside_low b h))) e
  where
    by : (x : Bool) (o : Option (List Event)) → x ≡ false → o ≡ some es → ◌≡◌ {A = List Event} (elim x [ true ↦ [] | false ↦ elim o [ none ↦ [] | some es ↦ es ] ]) es
    by true o p q = absurd (let z : ◌≡◌ {A = ℕ} 0 1 = cc in omega arith)
    by false none p q = absurd (let z : ◌≡◌ {A = ℕ} 0 1 = cc in omega arith)
    by false (some fs) p q = cc

-- a character without a place has none
pub outside_none : (s b : ℕ) (ws : List Wave) → Fit ws → inside b ≡ false → wave_of s b ws ≡ none
outside_none s b ws g h = by (wave_of s b ws) refl
  where
    by : (o : Option (List Event)) → wave_of s b ws ≡ o → o ≡ none
    by none e = refl
    by (some es) e = absurd (let k : true ≡ false = sym (wave_fits s b ws g es e).0 ∙ h in let z : ◌≡◌ {A = ℕ} 0 1 = cc in omega arith)

-- ---- a spot

module _ {text : List ℕ} (s b : ℕ) (spot : ℕ) (ws : List Wave) (x : Watched text (watch_of s b) (sight_of spot) ws) where
  pub spot_nothing : spot ≡ 0 → events_of s b ws ≡ []
  spot_nothing e = events_none s b ws (x.no (ap sight_of e))

  -- another signal with the same spot has the same events
  pub spot_same : (o : ℕ) → Watched text (watch_of o b) (sight_of spot) ws → events_of o b ws ≡ events_of s b ws
  unfolding events_of
  spot_same o y =
      ap (λ (w : Option (List Event)). elim (eqb b unassigned) as (λ z. List Event) [ true ↦ [] | false ↦ elim w [ none ↦ [] | some es ↦ es ] ]) (by spot x y)
    where
      by : (v : ℕ) → Watched text (watch_of s b) (sight_of v) ws → Watched text (watch_of o b) (sight_of v) ws → wave_of o b ws ≡ wave_of s b ws
      by zero x y = y.no refl ∙ sym (x.no refl)
      by (suc place) x y =
          let u = x.yes place refl in
          let v = y.yes place refl in
          let e = sym v.there ∙ u.there in
          let q : ◌≡◌ {A = Tok × Events} (record { at = place; word = v.chars }, v.events) (record { at = place; word = u.chars }, u.events) = cc in
          v.wave ∙ ap (λ (p : Tok × Events). some (get_or p.1.0 (number_of b p.0.word) [])) q ∙ sym u.wave

  pub spot_entry : (spot ≡ 0 → ⊥) → (es : List Event) × EntryAt text (spot - 1) b es × (Fit ws → inside b ≡ true → Timely es × (events_of s b ws ≡ es))
  spot_entry h =
      let f = x.yes (spot - 1) (there spot h) in
      (_, entry_found f f.wave, λ g k. ((wave_fits s b ws g _ f.wave).1, events_some s b ws k f.wave))
    where
      there : (v : ℕ) → (v ≡ 0 → ⊥) → sight_of v ≡ Some (v - 1)
      there zero n = absurd (n refl)
      there (suc place) n = ap Some (omega arith)

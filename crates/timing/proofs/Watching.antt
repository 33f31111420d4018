-- The wanted waveform: which entry gives it, and that what was seen of it stays true with an entry and with a table more.
use Prim.Native.Nat.{ℕ, suc, ◌≤◌}
use native.Mathlib.Omega.{arith}
use mathlib.Core.Path.{◌≡◌, refl, sym, ap, ◌∙◌, subst}
use mathlib.Core.Bool.{Bool, true, false, cond, ◌&&◌, ◌||◌}
use mathlib.Core.Option.{Option, none, some, or_else}
use mathlib.Core.List.{List, [], ◌∷◌, ◌++◌}
use lib.ListN.{length, get_or}
use lib.Dec.{eqb}
use borrow.Author.Tests.{eq-eqb}
use Rattle.std.proofs.Common.{Option as Maybe, None, Some}
use Rattle.tokens.specs.Tokens.{Tok, Toks, toks}
use Rattle.meaning.specs.Bounds.{entry_most}
use Rattle.meaning.specs.Lists.{has}
use Rattle.meaning.specs.Reader.{ok, refuse, give}
use Rattle.meaning.specs.Timing.{Event, Wave, Events, waves_of, waves_for}
use Rattle.meaning.specs.Services.{wave_of}
use Rattle.meaning.proofs.Lists.{wave_append}
use Rattle.words.specs.Cursor.{stream, Stands, alive, from, Goes}
use Rattle.words.specs.declared.Cursor.{Cursor}
use Rattle.words.proofs.Flow.{from_on, from_stop}
use Rattle.timing.specs.Marks.{Marks}
use Rattle.timing.specs.Watch.{chars_events, number_of, Found, Watched, Noted, looked}
use Rattle.timing.specs.declared.Watch.{Watch}

-- ---- the waveform among those of an entry

module _ (s b : ℕ) where
  -- the events of the character b, if the test holds
  abbrev giving : Bool → List ℕ → List (List Event) → Option (List Event)
  giving x cs es = cond x (some (get_or es (number_of b cs) [])) none

  wave_one : (s₀ : ℕ) (cs : List ℕ) (es : List (List Event)) → length es ≡ length cs → wave_of s b (waves_of s₀ cs es) ≡ giving (eqb s₀ s && has b cs) cs es
  unfolding wave_of waves_of has number_of
  wave_one s₀ [] es h = by (eqb s₀ s)
    where
      by : (x : Bool) → none ≡ giving (x && false) [] es
      by true = refl
      by false = refl
  wave_one s₀ (c ∷ cs) [] h = absurd (omega arith)
  wave_one s₀ (c ∷ cs) (e ∷ es) h = by (eqb s₀ s) (eqb c b) (wave_one s₀ cs es (omega arith))
    where
      by : (x y : Bool) → wave_of s b (waves_of s₀ cs es) ≡ giving (x && has b cs) cs es
          → ◌≡◌ {A = Option (List Event)} (elim (x && y) [ true ↦ some e | false ↦ wave_of s b (waves_of s₀ cs es) ])
          (cond (x && (y || has b cs)) (some (get_or (e ∷ es) (elim y [ true ↦ 0 | false ↦ suc (number_of b cs) ]) [])) none)
      by true true ih = refl
      by true false ih = ih
      by false y ih = ih

  wave_all : (sigs cs : List ℕ) (es : List (List Event)) → length es ≡ length cs → wave_of s b (waves_for sigs cs es) ≡ giving (has s sigs && has b cs) cs es
  unfolding wave_of waves_for has or_else
  wave_all [] cs es h = refl
  wave_all (s₀ ∷ sigs) cs es h =
      wave_append s b (waves_of s₀ cs es) (waves_for sigs cs es) ∙ ap (λ (o : Option (List Event)). or_else o (wave_of s b (waves_for sigs cs es))) (wave_one s₀ cs es h)
      ∙ ap (or_else (giving (eqb s₀ s && has b cs) cs es)) (wave_all sigs cs es h) ∙ by (eqb s₀ s) (has s sigs) (has b cs)
    where
      by : (x y z : Bool) → or_else (giving (x && z) cs es) (giving (y && z) cs es) ≡ giving ((x || y) && z) cs es
      by true y true = refl
      by true true false = refl
      by true false false = refl
      by false y z = refl

-- ---- an entry more

pub watched_more : {text : List ℕ} {w : Watch} {s s' : Maybe ℕ} {ws : List Wave} {us : Toks} (sigs cs : List ℕ) (es : Events) (place : ℕ) → length es.0 ≡ length cs
    → length cs ≤ entry_most → chars_events (toks text place) ≡ ok (record { at = place; word = cs }, es) us → s' ≡ looked w s sigs cs place
    → Watched text w s ws → Watched text w s' (ws ++ waves_for sigs cs es.0)
unfolding or_else
watched_more {text} {w} {s} {s'} {ws} {us} sigs cs es place sized few there q h =
    subst (λ (x : Maybe ℕ). Watched text w x all) (sym q) (by s refl)
  where
    all : List Wave
    all = ws ++ waves_for sigs cs es.0

    -- in this entry, or not
    told : (x y : Bool) → has w.char cs ≡ x → wave_of w.signal w.char all ≡ giving w.signal w.char (y && x) cs es.0 → Watched text w (cond (x && y) (Some place) None) all
    told true true p v = record {
      no = λ k. (let z : ◌≡◌ {A = ℕ} 0 1 = cc in absurd (omega arith));
      yes = λ n k. let e : place ≡ n = cc in subst (λ (n : ℕ). Found text w n all) e (record { chars = cs; events = es; behind = us; there = there; few = few; among = p; wave = v });
    }
    told true false p v = record { no = λ k. v; yes = λ n k. (let z : ◌≡◌ {A = ℕ} 0 1 = cc in absurd (omega arith)) }
    told false true p v = record { no = λ k. v; yes = λ n k. (let z : ◌≡◌ {A = ℕ} 0 1 = cc in absurd (omega arith)) }
    told false false p v = record { no = λ k. v; yes = λ n k. (let z : ◌≡◌ {A = ℕ} 0 1 = cc in absurd (omega arith)) }

    by : (x : Maybe ℕ) → s ≡ x → Watched text w (looked w x sigs cs place) all
    by (Some seen) e =
        let a = h.yes seen e in
        record {
          no = λ k. (let z : ◌≡◌ {A = ℕ} 0 1 = cc in absurd (omega arith));
          yes = λ n k. let e : seen ≡ n = cc in subst (λ (n : ℕ). Found text w n all) e (record {
            chars = a.chars;
            events = a.events;
            behind = a.behind;
            there = a.there;
            few = a.few;
            among = a.among;
            wave = wave_append w.signal w.char ws _ ∙ rw a.wave;
          });
        }
    by None e =
        told (has w.char cs) (has w.signal sigs) refl
        (wave_append w.signal w.char ws _ ∙ rw (h.no e) (wave_all w.signal w.char sigs cs es.0 sized))

-- a table of which only the marks matter
pub unwatched : {text : List ℕ} {w : Watch} {table : List ℕ} {s : Maybe ℕ} {ws : List Wave} → Marks table ws → Noted text false w table s ws
unwatched m = record { marks = m; watched = λ h. (let z : ◌≡◌ {A = ℕ} 0 1 = cc in absurd (omega arith)) }

-- ---- read again

-- THE LAW for whoever reads the entry again from its place: reading goes on, and the answer is the entry's
pub read_again : {text : List ℕ} {w : Watch} {place : ℕ} {ws : List Wave} {c r : Cursor} {a : Tok × Events} (f : Found text w place ws) → Stands text place c
    → Goes text c chars_events r a → (alive r ≡ true) × (a ≡ (record { at = place; word = f.chars }, f.events))
unfolding give
read_again {text} {w} {place} {ws} {c} {r} {a} f s g =
    by (alive r) refl (g.same ∙ from_on text c chars_events (eq-eqb c.no 0 s.on) ∙ ap chars_events s.there ∙ f.there)
  where
    entry : Tok × Events
    entry = (record { at = place; word = f.chars }, f.events)

    by : (x : Bool) → alive r ≡ x → from text r (give a) ≡ ok entry f.behind → (alive r ≡ true) × (a ≡ entry)
    by true e h = let q : ok a (stream text r) ≡ ok entry f.behind = sym (from_on text r (give a) e) ∙ h in (e, (let k : a ≡ entry = cc in k))
    by false e h =
        let q : refuse r.no r.at ≡ ok entry f.behind = sym (from_stop text r (give a) e) ∙ h in
        let z : ◌≡◌ {A = ℕ} 0 1 = cc in
        absurd (omega arith)

-- ---- a table more

-- before its first entry
pub watched_none : (text : List ℕ) (w : Watch) → Watched text w None []
unfolding wave_of
watched_none text w = record { no = λ k. refl; yes = λ n k. (let z : ◌≡◌ {A = ℕ} 0 1 = cc in absurd (omega arith)) }

-- What a spot tells of its signal and character, and so of a signal's entries.
use Prim.Native.Nat.{ℕ, zero, suc, ◌+◌, ◌-◌, ◌<◌}
use native.Mathlib.Omega.{arith}
use mathlib.Core.Path.{◌≡◌, refl, ap, ◌∙◌}
use mathlib.Core.Bool.{Bool, true, false, ◌&&◌}
use mathlib.Core.Option.{none}
use mathlib.Core.List.{List, [], ◌∷◌}
use lib.ListN.{length, get_or, drop}
use lib.Dec.{eqb}
use borrow.Author.Tests.{eqb-true, eqb-false}
use Rattle.std.specs.Prelude.{Some}
use Rattle.std.specs.List.{list_all}
use Rattle.meaning.specs.Timing.{Event, Wave}
use Rattle.meaning.specs.Services.{wave_of}
use Rattle.words.proofs.Words.{cut}
use Rattle.waves.specs.Waves.{EntryAt}
use Rattle.waves.proofs.Entries.{entry_found}
use Rattle.folded.specs.Flat.{Entries, entries_of}
use Rattle.spots.specs.Spots.{bytes_most, spot_at, sight_of, Spots}

-- the place that a spot tells
seen : (spot : ℕ) → (spot ≡ 0 → ⊥) → sight_of spot ≡ Some (spot - 1)
seen zero n = absurd (n refl)
seen (suc place) n = let e : place ≡ suc place - 1 = omega arith in ap Some e

module _ {text spots : List ℕ} {ws : List Wave} (chars : List ℕ) (s i : ℕ) (a : Spots text spots ws) (h : i < length chars) (q : get_or chars i 0 < bytes_most) where
  -- no waveform
  pub spot_none : spot_at spots s (get_or chars i 0) ≡ 0 → entries_of s ws (drop i chars) ≡ entries_of s ws (drop (i + 1) chars)
  unfolding entries_of
  spot_none e =
      let n : wave_of s (get_or chars i 0) ws ≡ none = (a.each s (get_or chars i 0) q).no (ap sight_of e) in
      rw (cut chars i h) (rw (n, entries_of))

  -- one, with its entry
  pub spot_some : (spot_at spots s (get_or chars i 0) ≡ 0 → ⊥)
      → (es : List Event) × EntryAt text (spot_at spots s (get_or chars i 0) - 1) (get_or chars i 0) es × (entries_of s ws (drop i chars) ≡ (get_or chars i 0, es) ∷ entries_of s ws (drop (i + 1) chars))
  unfolding entries_of
  spot_some e =
      let f = (a.each s (get_or chars i 0) q).yes _ (seen _ e) in
      (_, entry_found f f.wave, rw (cut chars i h) (rw (f.wave, entries_of)))

module _ {text spots : List ℕ} {ws : List Wave} (s : ℕ) (a : Spots text spots ws) where
  -- no character has a waveform
  pub all_bare : (chars : List ℕ) → ((k : ℕ) → get_or chars k 0 < bytes_most) → list_all (λ (c : ℕ). eqb (spot_at spots s c) 0) chars ≡ true → entries_of s ws chars ≡ []
  unfolding entries_of
  all_bare [] q e = refl
  all_bare (c ∷ cs) q e = by (eqb (spot_at spots s c) 0) refl e (all_bare cs (λ k. q (suc k)))
    where
      by : (b : Bool) → eqb (spot_at spots s c) 0 ≡ b → (b && list_all (λ (c : ℕ). eqb (spot_at spots s c) 0) cs) ≡ true
          → (list_all (λ (c : ℕ). eqb (spot_at spots s c) 0) cs ≡ true → entries_of s ws cs ≡ []) → entries_of s ws (c ∷ cs) ≡ []
      by true f e ih = spot_none (c ∷ cs) s 0 a (omega arith) (q 0) (eqb-true _ 0 f) ∙ ih e
      by false f e ih = let z : ◌≡◌ {A = ℕ} 0 1 = cc in absurd (omega arith)

  -- some character has one
  pub some_there : (chars : List ℕ) → ((k : ℕ) → get_or chars k 0 < bytes_most) → list_all (λ (c : ℕ). eqb (spot_at spots s c) 0) chars ≡ false
      → (x : ℕ × List Event) × (xs : Entries) × (entries_of s ws chars ≡ x ∷ xs)
  unfolding entries_of
  some_there [] q e = let z : ◌≡◌ {A = ℕ} 0 1 = cc in absurd (omega arith)
  some_there (c ∷ cs) q e = by (eqb (spot_at spots s c) 0) refl e (some_there cs (λ k. q (suc k)))
    where
      by : (b : Bool) → eqb (spot_at spots s c) 0 ≡ b → (b && list_all (λ (c : ℕ). eqb (spot_at spots s c) 0) cs) ≡ false
          → (list_all (λ (c : ℕ). eqb (spot_at spots s c) 0) cs ≡ false → (x : ℕ × List Event) × (xs : Entries) × (entries_of s ws cs ≡ x ∷ xs))
          → (x : ℕ × List Event) × (xs : Entries) × (entries_of s ws (c ∷ cs) ≡ x ∷ xs)
      by true f e ih = let r = ih e in (r.0, r.1, spot_none (c ∷ cs) s 0 a (omega arith) (q 0) (eqb-true _ 0 f) ∙ r.2)
      by false f e ih = let r = spot_some (c ∷ cs) s 0 a (omega arith) (q 0) (eqb-false _ 0 f) in (_, _, r.2)

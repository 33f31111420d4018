-- Two pages joined, and what a folded text's refusal or bytes say of it.
use Prim.Native.Nat.{ℕ, ◌-◌, ◌≤◌, ◌<◌}
use native.Mathlib.Omega.{arith}
use mathlib.Core.Path.{◌≡◌, refl, sym, ap, ap₂, ◌∙◌, subst}
use mathlib.Core.Bool.{Bool, true, false}
use mathlib.Core.List.{List, [], ◌++◌}
use lib.Dec.{leb}
use lib.ListN.{length, take, drop, length-append}
use lib.Seq.{take_at}
use borrow.Author.Tests.{le-leb, lt-leb, leb-true, leb-false}
use Rattle.std.specs.Prelude.{Option, Some, None, Result, Ok, Err}
use Rattle.std.specs.Option.{ok_or}
use Rattle.std.proofs.lemmas.Option.{none-some, same_Some}
use Rattle.tokens.specs.declared.Refusal.{Refusal}
use Rattle.tokens.specs.Refusals.{text_most}
use Rattle.meaning.specs.Bounds.{patterns_most}
use Rattle.meaning.specs.Refusals.{no_room}
use Rattle.meaning.specs.Meaning.{Answer, given, refused, Meaning}
use Rattle.plays.specs.Plays.{Ground}
use Rattle.folded.specs.Flat.{patterns_of, flat}
use Rattle.folded.specs.Layout.{written}
use Rattle.folded.specs.Fold.{many_patterns}
use Rattle.pens.specs.Pens.{Holds, Writes}
use Rattle.pens.specs.declared.Pen.{Pen}
use Rattle.flats.specs.Meant.{Meant, signals_in, tables_in, Bodied}
use Rattle.flats.specs.Flattens.{headed, Heads, Fits, Joins, flat_in, Stands, Puts}
use Rattle.flats.specs.declared.Part.{Part}
use Rattle.flats.proofs.Whole.{body_of, whole_is}

-- nothing stands on a page yet
pub holds_none : (page : List ℕ) → Holds page [] (record { at = Some 0 }) page
holds_none page = record { kept = refl; some = λ h. (refl, refl); none = λ h. absurd (omega arith) }

-- a pen that stands nowhere had no room for all, and one that stands somewhere had
full_long : {before front page : List ℕ} {p : Pen} → Holds before front p page → p.at ≡ None → length before < length front
full_long {before} {front} h e = by (leb (length front) (length before)) refl
  where
    by : (b : Bool) → leb (length front) (length before) ≡ b → length before < length front
    by true q = absurd (none-some _ (sym e ∙ (h.some (leb-true (length front) (length before) q)).0))
    by false q = leb-false (length front) (length before) q

roomy : {before front page : List ℕ} {p : Pen} {n : ℕ} → Holds before front p page → p.at ≡ Some n → length front ≤ length before
roomy {before} {front} h e = by (leb (length front) (length before)) refl
  where
    by : (b : Bool) → leb (length front) (length before) ≡ b → length front ≤ length before
    by true q = leb-true (length front) (length before) q
    by false q = absurd (none-some _ (sym (h.none (leb-false (length front) (length before) q)) ∙ e))

-- it stands behind them
stands_at : {before front page : List ℕ} {p : Pen} {n : ℕ} → Holds before front p page → p.at ≡ Some n → n ≡ length front
stands_at h e = same_Some _ _ (sym e ∙ (h.some (roomy h e)).0)

front_is : {before front page : List ℕ} {p : Pen} {n : ℕ} → Holds before front p page → p.at ≡ Some n → take n page ≡ front
front_is {before} {front} {page} {p} h e =
    ap₂ (λ (n : ℕ) (l : List ℕ). take n l) (stands_at h e) (h.some (roomy h e)).1 ∙ take_at front (drop (length front) before) (length front) refl

-- ---- both together

module _ {entry other : List ℕ} {pen q : Pen} where
  -- the other page's bytes have no room by themselves
  pub joins_full : q.at ≡ None → Joins entry pen other q entry (Err (record { no = no_room; place = 0 }))
  joins_full e = record { fits = λ front back before blank h l k m. (refl, omega (arith, full_long k e, length-append front back)) }

  module _ {n : ℕ} (e : q.at ≡ Some n) {bytes exit : List ℕ} {p : Pen} (b : bytes ≡ take (n - 0) (drop 0 other)) (w : Writes entry pen bytes exit p) where
    moved : (front back before blank : List ℕ) → Holds before front pen entry → Holds blank back q other → Holds before (front ++ back) p exit
    moved front back before blank h k =
        let z : n - 0 ≡ n = omega arith in
        subst (λ (l : List ℕ). Holds before (front ++ l) p exit) (b ∙ ap (λ (n : ℕ). take n other) z ∙ front_is k e) (w.on before front h)

    by_pen : (o : Option ℕ) → p.at ≡ o → Joins entry pen other q exit (ok_or o (record { no = no_room; place = 0 }))
    by_pen None f = record { fits = λ front back before blank h l k m. (refl, omega (arith, l, full_long (moved front back before blank h k) f)) }
    by_pen (Some i) f = record {
      fits = λ front back before blank h l k m. (
          let all = moved front back before blank h k in (omega (arith, l, roomy all f), front_is all f, stands_at all f));
    }

    pub joins_both : {r : Result ℕ Refusal} → r ≡ ok_or p.at (record { no = no_room; place = 0 }) → Joins entry pen other q exit r
    joins_both e = rw e (by_pen p.at refl)

-- ---- an accepted text

module _ {g : Ground} {list : List ℕ} {listed patterns sized : ℕ} {body body' : List ℕ} {part : Part} (b : Bodied g list listed patterns sized body body' part) where
  -- 22
  pub puts_many : {page : List ℕ} → patterns_most < part.pattern → Puts g list listed patterns sized page (Err (record { no = many_patterns; place = 0 }))
  unfolding flat_in
  puts_many l = record {
    stands = λ m h. ap (λ c. elim c as (λ x. Answer (List ℕ)) [
      | false ↦ refused many_patterns 0
      | true ↦ elim (leb (length (written (flat g.text m))) text_most) [ false ↦ refused no_room 0 | true ↦ given (written (flat g.text m)) ]
    ]) (lt-leb (length (patterns_of m)) patterns_most (omega (arith, b.counts m h)));
  }

  module _ {page page₁ page₂ : List ℕ} {pen : Pen} {r : Result ℕ Refusal} (few : part.pattern ≤ patterns_most) (long : length page ≡ text_most) (blank : length body ≡ text_most)
      (h : Heads g.text g.places g.signals part.pattern page page₁ pen) (j : Joins page₁ pen body' part.pen page₂ r) where
    together : (m : Meaning) → Meant g list listed patterns sized m → Fits (written (flat g.text m)) page₂ r
    unfolding body_of
    together m k =
        subst (λ (l : List ℕ). Fits l page₂ r)
        (ap (λ (n : ℕ). headed g.text m n ++ body_of (signals_in g) (tables_in g) m) (b.counts m k) ∙ sym (whole_is k))
        (j.fits _ _ page body ((h.writes m k.meant k.signals_are).on page [] (holds_none page)) long ((b.written m k).on body [] (holds_none body)) blank)

    by_room : (m : Meaning) → Meant g list listed patterns sized m → {c : Bool} → leb (length (written (flat g.text m))) text_most ≡ c
        → flat_in g.text m ≡ elim c as (λ x. Answer (List ℕ)) [ false ↦ refused no_room 0 | true ↦ given (written (flat g.text m)) ]
    unfolding flat_in
    by_room m k e = ap₂ (λ (a c : Bool). elim a as (λ x. Answer (List ℕ)) [
      | false ↦ refused many_patterns 0
      | true ↦ elim c as (λ x. Answer (List ℕ)) [ false ↦ refused no_room 0 | true ↦ given (written (flat g.text m)) ]
    ]) (le-leb (length (patterns_of m)) patterns_most (omega (arith, b.counts m k))) e

    pub puts_joined : Puts g list listed patterns sized page₂ r
    puts_joined = record { stands = λ m k. by m k r (together m k) }
      where
        by : (m : Meaning) → Meant g list listed patterns sized m → (x : Result ℕ Refusal) → Fits (written (flat g.text m)) page₂ x → Stands (flat_in g.text m) page₂ x
        by m k (Ok n) t = (by_room m k (le-leb _ text_most t.0) ∙ ap given (sym t.1), ap length t.1 ∙ sym t.2)
        by m k (Err x) t = by_room m k (lt-leb _ text_most t.1) ∙ ap (λ (y : Refusal). refused y.no y.place) (sym t.0)

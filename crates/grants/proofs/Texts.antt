-- The run: what each listed pattern uses is summed up, and behind patterns that are all known to play the rest of the list is left.
use Prim.Native.Nat.{ℕ, ◌+◌, ◌<◌}
use mathlib.Core.Path.{◌≡◌}
use mathlib.Core.Bool.{Bool, true, ◌&&◌}
use mathlib.Core.List.{List}
use Rattle.tokens.proofs.Bools.{both}
use Rattle.meaning.specs.Body.{Body}
use Rattle.meaning.specs.Document.{Read}
use Rattle.heads.specs.declared.Known.{Known}
use Rattle.texts.specs.declared.Parts.{Parts}
use Rattle.texts.proofs.Runs.{list_from}
use Rattle.plays.specs.Plays.{Ground, grounded, Summed}
use Rattle.plays.specs.Run.{Runs, SomeRun}
use Rattle.plays.proofs.Running.{Left, next_left}
use Rattle.plays.proofs.Summing.{summed_none}
use Rattle.plays.proofs.Texts.{run_begins, upcoming, listed_any, listed_next}
use Rattle.grants.specs.Grants.{Roomy, Unknown, SomePattern, Patterned}
use Rattle.grants.proofs.Listing.{cleared_plays}

module _ (text places lists tplaces waves book rows list : List ℕ) (known : Known) (signals listed patterns : ℕ) where
  abbrev all : Ground
  all = grounded text places lists tplaces book rows waves known signals

  -- from the listed name of number k on, whatever text the tables hold, what was marked is summed up; its patterns are left if those before are granted
  pub record Ungranted (k : ℕ) (marks sums : List ℕ) (granted : Bool) : Type 0 where
    pub roomy : Roomy all marks sums
    pub summed : (p : Parts) (d : Read) (run : Body) (h : Runs text places lists tplaces waves book rows list known signals listed patterns p d run)
        → Summed all marks sums h.tabled.parts.env
    pub left : granted ≡ true → (p : Parts) (d : Read) (run : Body) (h : Runs text places lists tplaces waves book rows list known signals listed patterns p d run)
        → Left h.tabled.parts.env.tables signals h.tabled.parts.env d.patterns run (list_from text list listed k)

  module _ (s : SomeRun text places lists tplaces waves book rows list known signals listed patterns) {marks sums : List ℕ} where
    -- before the first
    pub ungranted : Unknown marks sums → Ungranted 0 marks sums true
    ungranted u = record {
      roomy = record {
        marks_long = u.marks_long;
        sums_long = u.sums_long;
        waves_long = s.runs.tabled.waves_long;
        few = rw s.runs.signals_is at s.runs.tabled.few_signals;
      };
      summed = λ p d run h. summed_none all h.tabled.parts.env marks sums u.unmarked;
      left = λ e p d run h. run_begins text places lists tplaces waves book rows list known signals listed patterns h;
    }

    -- the one of number k
    pub some_pattern : {k : ℕ} {granted : Bool} → Ungranted k marks sums granted → k < listed → SomePattern all list patterns k marks sums
    some_pattern u q =
        let n = listed_any text places lists tplaces waves book rows list known signals listed patterns s.runs q in
        record { env = s.runs.tabled.parts.env; decls = s.read.patterns; decl = n.0; listed_at = n.1; roomy = u.roomy }

  -- behind one more
  pub granted_next : {k : ℕ} {marks marks' sums sums' : List ℕ} {granted r : Bool} → Ungranted k marks sums granted → k < listed
      → Patterned all list patterns k marks marks' sums sums' r → Ungranted (k + 1) marks' sums' (granted && r)
  granted_next {granted = granted} {r = r} u q x = record {
    roomy = x.roomy;
    summed = λ p d run h. x.summed _ _ _ (listed_any text places lists tplaces waves book rows list known signals listed patterns h q).1 (u.summed p d run h);
    left = λ e p d run h. (
        let b = both granted r e in
        let l = u.left b.0 p d run h in
        let n = listed_next text places lists tplaces waves book rows list known signals listed patterns h l q in
        next_left (upcoming text places lists tplaces waves book rows list known signals listed patterns h l q)
        (cleared_plays h.tabled.parts.env.tables signals n.fits.good (x.cleared b.1 _ _ _ n (u.summed p d run h))));
  }

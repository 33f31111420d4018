-- The first page from what was decided of a text: its refusal, or its sections.
use Prim.Native.Nat.{ℕ, ◌≤◌, ◌<◌}
use native.Mathlib.Omega.{arith}
use mathlib.Core.Path.{◌≡◌, refl, ap, subst}
use mathlib.Core.Bool.{true, false}
use mathlib.Core.List.{List}
use lib.ListN.{length}
use Rattle.meaning.specs.Run.{cycles}
use Rattle.meaning.specs.Meaning.{given, refused, firsts, Meaning, meaning}
use Rattle.meaning.specs.Services.{Counts, counts, names_of}
use Rattle.words.specs.Table.{names}
use Rattle.timing.specs.declared.Watch.{Watch}
use Rattle.texts.specs.Tables.{Found}
use Rattle.texts.specs.declared.Verdict.{Verdict}
use Rattle.index.proofs.Names.{signals_few}
use Rattle.verdicts.specs.Found.{meant_by}
use Rattle.verdicts.proofs.Found.{names_are, counts_met}
use Rattle.sections.specs.Listing.{front_most, front, refusal, sections_of, Short, first_of, last_of, Fronts}
use Rattle.sections.specs.declared.Page.{Page}
use Rattle.listing.specs.Pages.{too_small, Begins}

pub begins_small : {text before : List ℕ} → length before < front_most → Begins text before too_small before
begins_small {text} {before} h = record { small = λ l. (refl, refl); refuses = λ l. absurd (omega arith); accepts = λ l. absurd (omega arith) }

module _ {text before after : List ℕ} {r : Page} (h : front_most ≤ length before) where
  pub begins_refused : {n p : ℕ} → meaning text ≡ refused n p → Fronts (refusal text n p) before r.length after × (r ≡ last_of r.length) → Begins text before r after
  begins_refused {n} {p} e k =
      record {
        small = λ l. absurd (omega arith);
        refuses = λ l a b f. (
            let i : n ≡ a = cc in
            let j : p ≡ b = cc in
            (rw (← i, ← j) k.0, k.1)
            );
        accepts = λ l m f. (let z : ◌≡◌ {A = ℕ} 0 1 = cc in absurd (omega arith));
      }

  pub begins_given : {m : Meaning} → meaning text ≡ given m
      → Fronts (front m) before r.length after × (r ≡ first_of (length m.signals) (cycles 0 m.run) r.length) → Begins text before r after
  begins_given {m} e k =
      record {
        small = λ l. absurd (omega arith);
        refuses = λ l n p f. (let z : ◌≡◌ {A = ℕ} 0 1 = cc in absurd (omega arith));
        accepts = λ l x f. (let i : m ≡ x = cc in rw (← i) k);
      }

-- ---- a text that 1 to 16 leave: its names are short, and its front is that of the tables

module _ {w : Watch} {text places lists tplaces waves book rows list : List ℕ} {v : Verdict} (f : Found text w places lists tplaces waves book rows list v) where
  pub signals_short : Short (firsts (names text places v.parts.signals))
  unfolding names_of
  signals_short = subst Short (names_are f false) (signals_few.all _ _ _ f.tabled.parts.signals_read)

  -- as the tables hold it
  abbrev held : List ℕ
  held =
      sections_of (firsts (names text places v.parts.signals)) (firsts (names text tplaces v.parts.known.tables))
      v.parts.signals v.parts.known.tables v.total.cycles

  front_is : front (meant_by f.it) ≡ held
  unfolding front names_of counts
  front_is =
      let k = counts_met f in
      rw (ap (λ (c : Counts). c.signals) k, ap (λ (c : Counts). c.tables) k, ap (λ (c : Counts). c.cycles) k, names_are f false, names_are f true)

  pub begins_sections : {before after : List ℕ} {r : Page} → front_most ≤ length before → meaning text ≡ given (meant_by f.it)
      → Fronts held before r.length after × (r ≡ first_of v.parts.signals v.total.cycles r.length)
      → Begins text before r after
  unfolding counts
  begins_sections {before} {after} {r} h e k =
      let c = counts_met f in
      begins_given h e (rw front_is k.0, rw (ap (λ (c : Counts). c.signals) c, ap (λ (c : Counts). c.cycles) c) k.1)

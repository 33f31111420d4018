-- The references of a pattern: where it begins, its labels, and the cycles before each X of it.
use Prim.Native.Nat.{ℕ, ◌+◌, ◌*◌, ◌<◌}
use native.Mathlib.Omega.{arith}
use mathlib.Core.Path.{◌≡◌, refl, sym, ap, ◌∙◌, subst}
use mathlib.Core.Bool.{Bool, true, false}
use mathlib.Core.Option.{none, some}
use mathlib.Core.List.{List, []}
use lib.Dec.{ltb}
use lib.ListN.{get_or, drop, replicate, length-replicate, get_or-replicate}
use borrow.Author.Tests.{ltb-true, ltb-false}
use Rattle.std.specs.Prelude.{Result, Ok, Err}
use Rattle.std.specs.Result.{result_unwrap_or}
use Rattle.tokens.specs.Tokens.{Toks, toks}
use Rattle.meaning.specs.Bounds.{depth_most}
use Rattle.meaning.specs.Names.{find}
use Rattle.meaning.specs.Labels.{used_twice}
use Rattle.meaning.specs.Statements.{Decl, Decls, Env}
use Rattle.held.specs.Held.{Holds}
use Rattle.words.specs.Cursor.{stream, Stands}
use Rattle.words.specs.Table.{names}
use Rattle.words.specs.Values.{told}
use Rattle.words.specs.declared.Cursor.{Cursor}
use Rattle.words.proofs.Words.{zeros}
use Rattle.measures.specs.Book.{entries, first_pattern, start_at}
use Rattle.heads.specs.declared.Known.{Known}
use Rattle.texts.proofs.Runs.{found_none, found_pattern}
use Rattle.labels.specs.Table.{labels_most, hashes, Gathers, Gathered}
use Rattle.labels.proofs.Scanning.{empty_held}
use Rattle.references.specs.References.{referred, past_by, past}
use Rattle.references.specs.Filled.{noted, tables, Standing, Stood, Promised}
use Rattle.references.specs.declared.Passed.{Passed}
use Rattle.references.proofs.Whole.{Labelled, past_is}
use Rattle.references.proofs.Labelled.{names_labelled}
use Rattle.references.proofs.Apart.{none_twice}
use Rattle.fails.specs.Referred.{Pattern, Blank}

module _ {text places lists tplaces book rows : List ℕ} {known : Known} {patterns : ℕ} {name : List ℕ} {E : Env} {ps : Decls} {d : Decl}
    (p : Pattern text places lists tplaces book rows known patterns name E ps d) where
  module _ (i : ℕ) {part : List ℕ} (part_is : part ≡ drop (first_pattern * 2) book) (f : told (ltb i patterns) i ≡ find (names text part patterns) name) where
    -- it is among the patterns
    pub number_below : i < patterns
    number_below = by (ltb i patterns) refl
      where
        by : (b : Bool) → ltb i patterns ≡ b → i < patterns
        by true e = ltb-true i patterns e
        by false e =
            let x = found_none text book ps p.book_are i part_is refl f p.counted (ltb-false i patterns e) in
            let q : none ≡ some d = sym x ∙ p.found in
            let z : ◌≡◌ {A = ℕ} 0 1 = cc in
            absurd (omega arith)

    -- and begins where the book says
    pub begins_at : {s : ℕ} → (first_pattern + i < entries → s ≡ start_at book (first_pattern + i)) → toks text s ≡ d.from
    begins_at {s} h =
        let x = found_pattern text book ps p.book_are i part_is refl f p.counted number_below in
        let q : some x.0 ≡ some d = sym x.1 ∙ p.found in
        let z : x.0 ≡ d = cc in
        ap (toks text) (h (omega (arith, number_below, p.few))) ∙ sym x.3.from ∙ ap (λ (y : Decl). y.from) z

  module _ {s : ℕ} (at : toks text s ≡ d.from) where
    -- no label from there on is used twice
    pub all_gathered : {labels chains nexts : List ℕ} {n : ℕ} (r : Result ℕ ℕ) → n ≡ result_unwrap_or r 0 → Gathered text s [] labels chains nexts r
        → Gathers text s [] labels chains nexts n
    all_gathered {labels} {chains} {nexts} (Ok m) h g = subst (Gathers text s [] labels chains nexts) (sym h) g
    all_gathered (Err q) h g =
        let none_is : used_twice [] (toks text s) ≡ none = ap (used_twice []) at ∙ none_twice text p.burst s d.from p.all p.once p.parted at in
        let e : some q ≡ none = sym g ∙ none_is in
        let z : ◌≡◌ {A = ℕ} 0 1 = cc in
        absurd (omega arith)

    module _ {c : Cursor} (st : Stands text s c) (labels : List ℕ) (count : ℕ) where
      stands_there : stream text c ≡ d.from
      stands_there = st.there ∙ at

      standing : Standing (tables text places lists tplaces book rows known labels count) (stream text c) depth_most 0 E d.body p.stands.0
      standing = record {
        describes = p.describes;
        holds = subst (λ (ts : Toks). Holds E ts d.body p.stands.0) (sym stands_there) p.stands.1;
        deep = p.deep;
        plain = p.plain;
        few = omega (arith, p.fits);
      }

      pub stood : Stood (tables text places lists tplaces book rows known labels count) (stream text c) depth_most 0
      stood = record { env = E; body = d.body; rest = p.stands.0; standing = standing }

      pub past_found : {chains nexts table table' : List ℕ} {x : Passed} → ((i : ℕ) → get_or table i 0 ≡ 0) → Gathers text s [] labels chains nexts count
          → Promised (tables text places lists tplaces book rows known labels count) (stream text c) depth_most 0 table x table'
          → (w : List ℕ) → past_by name (noted text labels count table') w ≡ past E d.from d.body name w
      past_found empty g h w =
          let l = names_labelled g E (stream text c) d.body p.stands.0 0 (sym st.there) standing.holds in
          let filled = (h.fills E d.body p.stands.0 standing).filled in
          past_is empty E (stream text c) d.body filled l name w ∙ ap (λ (ts : Toks). past E ts d.body name w) stands_there

-- ---- tables of zeros

pub blank_tables : (text : List ℕ) → Blank text (replicate (2 * labels_most) 0) (replicate hashes 0) (replicate labels_most 0) (replicate labels_most 0)
blank_tables text = record {
  held = empty_held _ _ _ _ (length-replicate {A = ℕ} (2 * labels_most) 0) (length-replicate {A = ℕ} hashes 0) (length-replicate {A = ℕ} labels_most 0) (λ h k. get_or-replicate hashes h 0 0 k);
  long = omega (arith, length-replicate {A = ℕ} labels_most 0);
  empty = zeros labels_most;
}

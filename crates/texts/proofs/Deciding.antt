-- From what was read to what is decided: a text that 1 to 16 leave was read, so that the tables hold it; and the numbers that are told of it.
use Prim.Native.Nat.{ℕ, ◌≤◌}
use native.Mathlib.Omega.{arith}
use mathlib.Core.Path.{◌≡◌, refl, sym, ap, ◌∙◌}
use mathlib.Core.Bool.{Bool, true, false}
use mathlib.Core.Option.{Option, none, some}
use mathlib.Core.List.{List, []}
use lib.Dec.{eqb, leb}
use lib.ListN.{length}
use borrow.Author.Tests.{eqb-true, eqb-false, leb-true, leb-false}
use Rattle.tokens.specs.Refusals.{text_most}
use Rattle.tokens.specs.Tokens.{fault_of}
use Rattle.tokens.proofs.Faults.{fault_too_long}
use Rattle.tokens.proofs.Bools.{both}
use Rattle.meaning.specs.Bounds.{size_most, cycles_most}
use Rattle.meaning.specs.Body.{Body}
use Rattle.meaning.specs.Run.{size, cycles}
use Rattle.meaning.specs.Document.{Read}
use Rattle.meaning.specs.Meaning.{Answer, given, refused, answering, fitting, table_at}
use Rattle.signals.proofs.Tables.{names_length}
use Rattle.timing.specs.Watch.{Watched}
use Rattle.timing.specs.declared.Watch.{Watch}
use Rattle.timing.proofs.TableReading.{held_count}
use Rattle.measures.specs.declared.Measure.{Measure}
use Rattle.measures.specs.Measures.{Measures}
use Rattle.measures.proofs.Within.{size_within, cycles_within}
use Rattle.bursts.proofs.Entries.{listed_length}
use Rattle.texts.specs.Texts.{Sound, sound, counts_of}
use Rattle.texts.specs.Tables.{Tabled, Reads, NotesRead, Found, NotesSound}
use Rattle.texts.specs.Run.{sound_of, ReadAs}
use Rattle.texts.specs.declared.Parts.{Parts}
use Rattle.texts.specs.declared.Verdict.{Verdict}
use Rattle.texts.proofs.Sounds.{sound_fault, sound_refused, sound_runs}

-- a text that 1 to 16 leave is not too long
pub short_sound : (text : List ℕ) {x : Sound} → sound text ≡ given x → length text ≤ text_most
short_sound text e = by (leb (length text) text_most) refl
  where
    by : (b : Bool) → leb (length text) text_most ≡ b → length text ≤ text_most
    by true f = leb-true (length text) text_most f
    by false f =
        let q = sym e ∙ sound_fault text (fault_too_long text (leb-false (length text) text_most f)) in
        let z : ◌≡◌ {A = ℕ} 0 1 = cc in
        absurd (omega arith)

module _ {text places lists tplaces waves book rows list : List ℕ} {w : Watch} {r : Parts}
    (all : length text ≤ text_most → Reads text w places lists tplaces waves book rows list r) where
  -- what was read, or anything where reading was refused
  abbrev Held : Type 0
  Held =
      (d : Read)
      × (length text ≤ text_most → ReadAs text book list r d)
      × (length text ≤ text_most → r.cursor.no ≡ 0 → Tabled text places lists tplaces waves book rows list r d × Watched text w r.sight (table_at d.tables w.table))

  nothing : Read
  nothing = record { signals = []; tables = []; listed = []; patterns = [] }

  pub held : Held
  held = by (leb (length text) text_most) refl (eqb r.cursor.no 0) refl
    where
      by : (s : Bool) → leb (length text) text_most ≡ s → (b : Bool) → eqb r.cursor.no 0 ≡ b → Held
      by false f b e = let long = leb-false (length text) text_most f in (nothing, λ short. absurd (omega (arith, long, short)), λ short. absurd (omega (arith, long, short)))
      by true f true e =
          let h = all (leb-true (length text) text_most f) in
          let x = h.reads (eqb-true r.cursor.no 0 e) in
          let t = x.2 in (
            x.0,
            λ short. record {
              refuses = h.refuses;
              reads = λ z. record { read = x.1; listed_are = t.listed_are; patterns_are = t.patterns_are; patterns_counted = t.patterns_counted };
            },
            λ short z. (t, x.3),
          )
      by true f false e =
          let h = all (leb-true (length text) text_most f) in
          let off = eqb-false r.cursor.no 0 e in
          (nothing, λ short. record { refuses = h.refuses; reads = λ z. absurd (off z) }, λ short z. absurd (off z))

  -- a text that could not be read is refused, whatever its bytes
  read_sound : {x : Sound} → sound text ≡ given x → r.cursor.no ≡ 0
  read_sound {x} e = by (eqb r.cursor.no 0) refl (fault_of text) refl
    where
      by : (b : Bool) → eqb r.cursor.no 0 ≡ b → (o : Option (ℕ × ℕ)) → fault_of text ≡ o → r.cursor.no ≡ 0
      by true f o g = eqb-true r.cursor.no 0 f
      by false f none g =
          let q = sym e ∙ sound_refused text g ((all (short_sound text e)).refuses (eqb-false r.cursor.no 0 f)) in
          let z : ◌≡◌ {A = ℕ} 0 1 = cc in
          absurd (omega arith)
      by false f (some p) g = let q = sym e ∙ sound_fault text g in let z : ◌≡◌ {A = ℕ} 0 1 = cc in absurd (omega arith)

  pub decides : {b : Body} {m : Measure} → sound text ≡ given (sound_of held.0 b) → Measures b m
      → Found text w places lists tplaces waves book rows list (record { parts = r; total = m })
  decides {b} e m =
      let k = held.2 (short_sound text e) (read_sound e) in
      record { it = sound_of held.0 b; is = e; tabled = k.0; measured = m; watched = k.1 }

  -- what was noted of it is noted of what is left
  pub notes_sound : {used : List ℕ} {m : Measure} → (length text ≤ text_most → NotesRead text used r) → NotesSound text used (record { parts = r; total = m })
  notes_sound n = record { noted = λ x e. (let k = sound_runs text e in (n (short_sound text e)).noted (read_sound e) x.read k.rest k.read) }

-- ---- the numbers that are told

-- a run that fits has the numbers of its measure
measured_size : {b : Body} {x : Measure} → Measures b x → fitting b ≡ true → (x.size ≡ size b) × (x.cycles ≡ cycles 0 b)
unfolding fitting
measured_size {b} m f =
    let k = both (leb (size b) size_most) (leb (cycles 0 b) cycles_most) f in
    (size_within m (leb-true (size b) size_most k.0), cycles_within m (leb-true (cycles 0 b) cycles_most k.1))

module _ {text places lists tplaces waves book rows list : List ℕ} {w : Watch} {v : Verdict} (f : Found text w places lists tplaces waves book rows list v) where
  pub counted : record {
    signals = v.parts.signals;
    tables = v.parts.known.tables;
    listed = v.parts.listed;
    cycles = v.total.cycles;
    size = v.total.size;
  } ≡ counts_of f.it
  unfolding counts_of
  counted =
      let t = f.tabled in
      let m = measured_size f.measured (sound_runs text f.is).fits in
      let signals = ap length t.signals_are ∙ names_length text places lists v.parts.signals in
      let listed = ap length t.listed_are ∙ listed_length text list 0 v.parts.listed in
      rw (signals, held_count t.held, listed, m.0, m.1)

pub answered_given : {A B : Type 0} {a : Answer A} {x : A} (g : A → B) → a ≡ given x → given (g x) ≡ answering a (λ y. given (g y))
unfolding answering
answered_given g e = rw e

pub answered_refused : {A B : Type 0} {a : Answer A} {n p : ℕ} (g : A → Answer B) → a ≡ refused n p → refused n p ≡ answering a g
unfolding answering
answered_refused g e = rw e

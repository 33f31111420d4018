-- One pattern more: its readers one behind the other, and where none of them refused, the book has it behind the others.
use Prim.Native.Nat.{ℕ, suc, ◌+◌, ◌*◌, ◌≤◌, ◌<◌}
use native.Mathlib.Omega.{arith}
use native.Mathlib.Numerals.{add-one}
use mathlib.Core.Path.{◌≡◌, refl, sym, ap, ◌∙◌}
use mathlib.Core.Bool.{Bool, true, false, not, ◌&&◌}
use mathlib.Core.List.{List, [], ◌∷◌, ◌++◌}
use lib.Dec.{leb, ltb}
use lib.ListN.{length, drop, length-append}
use borrow.Author.Tests.{leb-false}
use Rattle.tokens.specs.Tokens.{Tok, Toks, stop, toks}
use Rattle.meaning.specs.Bounds.{patterns_most, depth_most}
use Rattle.meaning.specs.Refusals.{too_many}
use Rattle.meaning.specs.Reader.{Reader, due}
use Rattle.meaning.specs.Names.{new_name}
use Rattle.meaning.specs.Body.{done}
use Rattle.meaning.specs.Statements.{Decl, Decls, Env, statements, declared}
use Rattle.meaning.specs.Meaning.{firsts}
use Rattle.meaning.specs.Document.{besides, pattern, over}
use Rattle.meaning.proofs.Takes.{Takes}
use Rattle.held.specs.Held.{All}
use Rattle.held.proofs.All.{all_more}
use Rattle.held.proofs.Rest.{moves_takes}
use Rattle.held.proofs.Grammar.{moves_pattern}
use Rattle.words.specs.declared.Cursor.{Cursor}
use Rattle.words.specs.Cursor.{ahead, alive, stream, Goes, Checked}
use Rattle.words.specs.Table.{names}
use Rattle.words.proofs.Flow.{given, then, checked, passed, alive_before, stream_on, stream_stop}
use Rattle.words.proofs.Names.{new_by_number}
use Rattle.timing.specs.Makes.{Makes}
use Rattle.timing.proofs.Making.{made}
use Rattle.measures.specs.declared.Measure.{Measure}
use Rattle.measures.specs.Measures.{Measures}
use Rattle.measures.specs.Book.{first_procedure, bodies, burst, first_pattern, Listed, Used, Kept}
use Rattle.measures.proofs.Book.{listed_map, entry_new, used_beside, entries_more, part_listed}
use Rattle.heads.specs.declared.Known.{Known}
use Rattle.heads.specs.Known.{Describes}
use Rattle.noted.specs.Noted.{Grows}
use Rattle.bodies.specs.Bodies.{Notes, Summed}
use Rattle.bodies.proofs.Noting.{knows_grow, all_grow}
use Rattle.bodies.proofs.Callers.{declared_made}
use Rattle.texts.specs.Patterns.{burst_as, Patterned}

pub takes_pattern : (e : Env) (b : Tok) (ps : Decls) → Takes (pattern e b ps)
takes_pattern e b ps = moves_takes (moves_pattern e b ps)

-- the loop's test: has the text not ended
pub test_over : (text : List ℕ) (c : Cursor) → (alive c && ltb c.at c.end) ≡ (alive c && not (over (stream text c)))
unfolding over
test_over text c = ap (λ (b : Bool). alive c && b) (by (ltb c.at c.end) refl)
  where
    by : (b : Bool) → ltb c.at c.end ≡ b → b ≡ not (over (stream text c))
    by true e = sym (ap (λ (ts : Toks). not (over ts)) (stream_on text c e))
    by false e = sym (ap (λ (ts : Toks). not (over ts)) (stream_stop text c e))

-- ---- the book with an entry behind the bodies

module _ {text places lists tplaces book book' rows : List ℕ} {known : Known} {e : Env} {i start : ℕ} {c : Cursor} {x : Measure}
    (k : Kept book i c start x book') where
  -- macros and procedures are as they were
  pub describes_beside : bodies ≤ i → Describes text places lists tplaces book rows known e → Describes text places lists tplaces book' rows known e
  describes_beside h s =
      record {
        names_are = s.names_are;
        ready = s.ready;
        tables_are = s.tables_are;
        few_tables = s.few_tables;
        book_long = k.long ∙ s.book_long;
        rows_long = s.rows_long;
        macros_counted = s.macros_counted;
        procs_counted = s.procs_counted;
        few_bodies = s.few_bodies;
        pattern_is = s.pattern_is;
        macros_are = stay 0 e.macros (omega (arith, s.macros_counted, s.few_bodies)) s.macros_are;
        procs_are = stay first_procedure e.procs (omega (arith, s.procs_counted, s.few_bodies)) s.procs_are;
      }
    where
      stay : (a : ℕ) (ds : Decls) → a + length ds ≤ bodies → Listed (Used text book rows) a ds → Listed (Used text book' rows) a ds
      stay a ds l = listed_map (Used text book rows) (Used text book' rows) a ds (λ j y p q. used_beside k text (omega arith) (λ z. omega arith))

  -- the burst was kept: there is no pattern yet
  pub burst_kept : i ≡ burst → start ≡ 0 → Measures done x → Describes text places lists tplaces book rows known e
      → {used : List ℕ} → Patterned text places lists tplaces book' rows known 0 e (ahead text c) used used []
  unfolding Listed All
  burst_kept h z m s =
      record {
        describes = describes_beside (omega arith) s;
        entries = (rw (← h) (entry_new k text (record { body = done; from = toks text 0 }) (rw z) m), tt);
        counted = refl;
        few = omega arith;
        noted = λ k. (k, tt);
      }

-- ---- a pattern

-- where it was read there was room for it
pub pattern_room : {A B C : Type 0} {text : List ℕ} {k : Reader A} {l : Reader B} {m : Reader C} {x : A} {y : B} {z : C} {p : ℕ} {a o d f r : Cursor} (count : ℕ)
    → Checked a (leb patterns_most count) too_many p o → Goes text o k d x → Goes text d l f y → Goes text f m r z → alive r ≡ true → count < patterns_most
pattern_room count few name opening body live =
    leb-false patterns_most count (passed few refl (alive_before name (alive_before opening (alive_before body live))))

module _ {text places lists tplaces book rows : List ℕ} {known : Known} {count : ℕ} {e : Env} {b : Tok} {used₀ used : List ℕ} {ps : Decls}
    (s : Patterned text places lists tplaces book rows known count e b used₀ used ps) where
  -- the part of the book with the names of the burst and the patterns
  names_besides : firsts (besides b ps) ≡ firsts (names text (drop (burst * 2) book) (count + 1))
  unfolding besides firsts
  names_besides =
      part_listed text book burst (burst_as text b ∷ ps) s.entries
      ∙ ap (λ (n : ℕ). firsts (names text (drop (burst * 2) book) n)) (ap suc s.counted ∙ sym (add-one count))

  nothing : Decl
  nothing = record { body = done; from = stop 0 0 }

  module _ {part row row' used' : List ℕ} {c a o d f r : Cursor} {q : ℕ} {x : Measure} (part_is : part ≡ drop (burst * 2) book)
      (word : Goes text c (due "Pattern") a c.at) (few : Checked a (leb patterns_most count) too_many c.at o)
      (name : Goes text o (new_name (names text part (count + 1))) d (ahead text o)) (opening : Goes text d (due "{") f q)
      (body : Makes text f (statements e depth_most false) r (Summed false row row' x (Notes known.tables e used used'))) where
    new : Goes text o (new_name (besides b ps)) d (ahead text o)
    new = new_by_number text (drop (burst * 2) book) nothing (count + 1) (besides b ps) names_besides (rw (← part_is) name)

    body_made : Makes text f (declared e false) r (λ y. (y.from ≡ toks text d.end) × Summed false row row' x (Notes known.tables e used used') y.body)
    body_made = declared_made e false opening body

    read_all : Goes text c (pattern e b ps) r (ps ++ (ahead text o, body_made.it) ∷ [])
    unfolding pattern
    read_all =
        then _ word
        (then _ (checked few (ap (leb patterns_most) (sym s.counted)) refl)
        (then _ new (then _ opening (then _ body_made.goes given))))

    pub pattern_refused : {P : Decls → Type 0} → (alive r ≡ true → ⊥) → Makes text c (pattern e b ps) r P
    pattern_refused off = made read_all (λ live. absurd (off live))

    pub pattern_kept : {book' : List ℕ} → alive r ≡ true → Kept book (first_pattern + count) o d.end x book' → Grows used used'
        → Makes text c (pattern e b ps) r (Patterned text places lists tplaces book' rows known (count + 1) e b used₀ used')
    pattern_kept live k grows =
        let h = body_made.held live in
        let room = pattern_room count few name opening body.goes live in
        made read_all (λ l. record {
          describes = describes_beside k (omega arith) s.describes;
          entries = entries_more k text burst (burst_as text b ∷ ps) (omega (arith, s.counted)) (omega arith) body_made.it h.0 h.1.measured s.entries;
          counted = length-append ps ((ahead text o, body_made.it) ∷ []) ∙ ap (λ (n : ℕ). n + 1) s.counted;
          few = omega arith;
          noted = λ n.
              let was = s.noted n in
              (knows_grow grows was.0, all_more _ ps (ahead text o, body_made.it) (all_grow grows known.tables ps was.1) (h.1.noted.noted was.0));
        })

-- The tables hold what was read: from the promises of the readers of each block to that of the reader of all of them.
use Prim.Native.Nat.{ℕ, ◌*◌}
use native.Mathlib.Omega.{arith}
use mathlib.Core.Path.{◌≡◌, refl, sym, ap, ◌∙◌, subst}
use Rattle.std.proofs.Common.{Option as Maybe}
use mathlib.Core.Bool.{true, false, true≢false}
use mathlib.Core.List.{List, []}
use lib.ListN.{length}
use borrow.Author.Tests.{eq-eqb, ne_eqb}
use Rattle.tokens.specs.Tokens.{toks}
use Rattle.meaning.specs.Bounds.{tables_most}
use Rattle.meaning.specs.Reader.{ok, give}
use Rattle.meaning.specs.Signals.{Names}
use Rattle.meaning.specs.Statements.{for_patterns}
use Rattle.meaning.specs.Document.{bodies, Read, document}
use Rattle.meaning.specs.Meaning.{firsts, table_at}
use Rattle.held.specs.Held.{All}
use Rattle.held.proofs.Parts.{first_env}
use Rattle.held.proofs.Bodies.{bodies_stay}
use Rattle.words.specs.Cursor.{stream, Stands, alive, from, Goes}
use Rattle.words.specs.declared.Cursor.{Cursor}
use Rattle.words.proofs.Flow.{from_on, from_stop, then, given, stays, read, alive_before}
use Rattle.signals.specs.Names.{names_of, AllTidy}
use Rattle.signals.proofs.Tidy.{tidy_wider}
use Rattle.signals.proofs.Tables.{names_length}
use Rattle.timing.specs.Makes.{Makes}
use Rattle.timing.specs.Marks.{table_size}
use Rattle.timing.specs.Watch.{Watched}
use Rattle.timing.specs.declared.Watch.{Watch}
use Rattle.declared.specs.Declarations.{declarations, Declares}
use Rattle.measures.specs.Book.{book_length, rows_length, Listed}
use Rattle.bursts.proofs.Entries.{listed_length}
use Rattle.noted.specs.Known.{AllNoted, Knows}
use Rattle.heads.specs.declared.Known.{Known}
use Rattle.heads.specs.Known.{Describes}
use Rattle.bodies.specs.Blocks.{Declared}
use Rattle.texts.specs.Patterns.{ending, Ends}
use Rattle.texts.specs.Tables.{stopped_at, Tabled, Reads, NotesRead}
use Rattle.texts.specs.declared.Parts.{Parts}
use Rattle.texts.specs.declared.Ended.{Ended}
use Rattle.texts.proofs.Blocks.{blocks, document_blocks, parts_of, Signals, declared_signals}

-- reading it on from where it was read to
whole_from : {text : List ℕ} {c r : Cursor} {d : Read} → Stands text 0 c → Goes text c blocks r d → from text r (give d) ≡ document (toks text 0)
whole_from {text} {c} s g = g.same ∙ from_on text c blocks (eq-eqb c.no 0 s.on) ∙ ap blocks s.there ∙ document_blocks (toks text 0)

-- a text that was read from its first token on: refused, or held
pub reads_from : {text places lists tplaces waves book rows list : List ℕ} {w : Watch} {c : Cursor} {r : Parts} {d : Read} → Stands text 0 c
    → Goes text c blocks r.cursor d
    → (alive r.cursor ≡ true → Tabled text places lists tplaces waves book rows list r d
    × Watched text w r.sight (table_at d.tables w.table))
    → Reads text w places lists tplaces waves book rows list r
unfolding give
reads_from {text} {r = r} {d = d} s g h =
    let whole = whole_from s g in
    record {
      refuses = λ z. sym whole ∙ from_stop text r.cursor (give d) (ne_eqb r.cursor.no 0 z);
      reads = λ z. let on = eq-eqb r.cursor.no 0 z in (d, sym whole ∙ from_on text r.cursor (give d) on, (h on).0, (h on).1);
    }

-- and what was held of it is so of whatever was read
notes_from : {text used : List ℕ} {c : Cursor} {r : Parts} {d : Read} → Stands text 0 c → Goes text c blocks r.cursor d
    → (alive r.cursor ≡ true → AllNoted r.known.tables used d.patterns) → NotesRead text used r
unfolding give
notes_from {text} {used} {r = r} {d = d} s g h =
    record {
      noted = λ z x us e. (
          let on = eq-eqb r.cursor.no 0 z in
          let both : ok d (stream text r.cursor) ≡ ok x us = sym (from_on text r.cursor (give d) on) ∙ whole_from s g ∙ e in
          let same : d ≡ x = cc in
          subst (λ (y : Read). AllNoted r.known.tables used y.patterns) same (h on));
    }

-- nothing was
pub notes_stopped : {text used : List ℕ} {b : Cursor} {r : Parts} {k : Known} → r ≡ stopped_at b k → alive b ≡ false → NotesRead text used r
notes_stopped {b = b} e off = rw e (record { noted = λ z d us q. absurd (true≢false (sym (eq-eqb b.no 0 z) ∙ off)) })

-- one that was not
nothing : Read
nothing = record { signals = []; tables = []; listed = []; patterns = [] }

refused_from : {text places lists tplaces waves book rows list : List ℕ} {w : Watch} {c b : Cursor} {r : Parts} {k : Known} → Stands text 0 c
    → Goes text c blocks b nothing → r ≡ stopped_at b k → alive b ≡ false → Reads text w places lists tplaces waves book rows list r
refused_from {b = b} {k = k} s g e off = rw e (reads_from {r = stopped_at b k} s g (λ live. absurd (true≢false (sym live ∙ off))))

module _ {text places lists tplaces waves : List ℕ} {c a : Cursor} {signals names tables : ℕ} {w : Watch} {sight : Maybe ℕ} (s : Stands text 0 c)
    (d : Declares text c a places lists tplaces waves signals names tables w sight) where
  abbrev ss : Names
  ss = names_of text places lists signals

  abbrev ns : Names
  ns = names_of text places lists names

  -- refused among the declarations
  pub reads_stopped : {places' lists' tplaces' waves' book rows list : List ℕ} {r : Parts} {k : Known} → r ≡ stopped_at a k → alive a ≡ false
      → Reads text w places' lists' tplaces' waves' book rows list r
  unfolding blocks
  reads_stopped e off = refused_from s (then _ d.goes (stays off)) e off

  module _ (on : alive a ≡ true) where
    known_signals : Signals ss ns
    known_signals = declared_signals.all _ _ _ (read d.goes on).gave

    -- before any macro or procedure
    pub describes_first : {book rows : List ℕ} → length book ≡ book_length → length rows ≡ rows_length
        → Describes text places lists tplaces book rows (record { names = names; tables = tables; macros = 0; procs = 0; pattern = false }) (first_env ns d.it)
    unfolding Listed
    describes_first long rows_long =
        let k = known_signals.declared in
        let n = names_length text places lists signals in
        let m = names_length text places lists names in
        record {
          names_are = refl;
          ready = record {
            usable = record { sized = d.sized; chained = d.chained on; tidy = tidy_wider k.signals.few k.names.tidy };
            fits = omega (arith, k.signals.few, k.names.few);
          };
          tables_are = (d.held on).named;
          few_tables = (d.held on).few;
          book_long = long;
          rows_long = rows_long;
          macros_counted = refl;
          procs_counted = refl;
          few_bodies = omega arith;
          pattern_is = refl;
          macros_are = tt;
          procs_are = tt;
        }

    module _ {book rows used₀ used : List ℕ} {b : Cursor} {known : Known}
        (f : Makes text a (bodies (first_env ns d.it)) b (Declared text places lists tplaces book rows known (Knows tables used₀ (first_env ns d.it)) used))
      where
        -- among the bodies
        pub bodies_stopped : {places' lists' tplaces' waves' book' rows' list : List ℕ} {r : Parts} {k : Known} → r ≡ stopped_at b k → alive b ≡ false
            → Reads text w places' lists' tplaces' waves' book' rows' list r
        unfolding blocks
        bodies_stopped e off = refused_from s (then _ d.goes (then _ f.goes (stays off))) e off

        -- names and tables are those that were declared
        module _ (live : alive b ≡ true) where
          stay : (f.it.names ≡ ns) × (f.it.tables ≡ d.it)
          stay = (bodies_stay (first_env ns d.it) _).all _ _ (read f.goes live).gave

          tables_same : known.tables ≡ tables
          tables_same =
              sym (listed_length text tplaces 0 known.tables)
              ∙ ap length (sym (f.held live).describes.tables_are ∙ ap firsts stay.1 ∙ (d.held on).named)
              ∙ listed_length text tplaces 0 tables

        pub reads_all : {book' rows' list used' : List ℕ} {n : Ended} → length waves ≡ tables_most * table_size
            → Makes text b (ending f.it) n.cursor (Ends text places lists tplaces book' rows' list known n f.it used used')
            → Reads text w places lists tplaces waves book' rows' list
            (record { cursor = n.cursor; signals = signals; known = n.known; listed = n.listed; patterns = n.patterns; sight = sight })
        unfolding blocks parts_of Listed
        reads_all {book' = book'} {rows' = rows'} {n = n} long g =
            reads_from s (then _ d.goes (then _ f.goes (then _ g.goes given)))
            (λ end.
            let live = alive_before g.goes end in
            let e = g.held end in
            let k = known_signals.declared in
            let m = names_length text places lists signals in (
              record {
                rest = stream text n.cursor;
                parts = parts_of (ap declarations (sym s.there) ∙ (read d.goes on).gave) (read f.goes live).gave (read g.goes end).gave;
                describes = subst (λ (k : Known). Describes text places lists tplaces book' rows' k (for_patterns f.it)) (sym e.known_is) e.patterned.describes;
                held = rw (e.known_is, tables_same live) (d.held on);
                waves_long = long;
                signals_are = refl;
                few_signals = omega (arith, k.signals.few);
                some_signal = omega (arith, known_signals.some);
                tidy = subst (AllTidy signals) (sym (stay live).0) (subst (λ (i : ℕ). AllTidy i ns) m k.names.tidy);
                listed_are = e.listed_are;
                few_listed = e.few_listed;
                patterns_are = e.patterned.entries.1;
                patterns_counted = e.patterned.counted;
                few_patterns = e.patterned.few;
              },
              d.watched on,
            ))

        -- and all that it assigns is noted: no body is known before the first
        pub notes_all : {book' rows' list used' : List ℕ} {n : Ended} {sight : Maybe ℕ}
            → Makes text b (ending f.it) n.cursor (Ends text places lists tplaces book' rows' list known n f.it used used')
            → NotesRead text used'
            (record { cursor = n.cursor; signals = signals; known = n.known; listed = n.listed; patterns = n.patterns; sight = sight })
        unfolding blocks All
        notes_all g =
            notes_from s (then _ d.goes (then _ f.goes (then _ g.goes given)))
            (λ end.
            let e = g.held end in
            let k = (f.held (alive_before g.goes end)).knows (record { macros = tt; procs = tt }) in
            rw e.known_is (e.patterned.noted (record { macros = k.macros; procs = k.procs })).1)

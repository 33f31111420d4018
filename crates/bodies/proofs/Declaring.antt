-- One body more: its readers one behind the other, and where none of them refused, the book and the rows describe it too.
use Prim.Native.Nat.{ℕ, ◌+◌, ◌≤◌, ◌<◌}
use native.Mathlib.Omega.{arith}
use mathlib.Core.Path.{◌≡◌, refl, sym, ap, ◌∙◌, subst}
use mathlib.Core.Bool.{Bool, true, false, cond}
use mathlib.Core.List.{List, [], ◌∷◌, ◌++◌}
use lib.Dec.{leb}
use lib.ListN.{length, replicate, length-append}
use borrow.Author.Tests.{leb-false}
use Rattle.tokens.specs.Tokens.{Tok, toks}
use Rattle.tokens.proofs.Bools.{true_false}
use Rattle.meaning.specs.Bounds.{bodies_most, depth_most}
use Rattle.meaning.specs.Refusals.{too_many}
use Rattle.meaning.specs.Reader.{◌>>=◌, give, due}
use Rattle.meaning.specs.Names.{new_name}
use Rattle.meaning.specs.Body.{done}
use Rattle.meaning.specs.Statements.{Decl, Decls, Env, statements, declared}
use Rattle.meaning.specs.Document.{one_body, bodies_of, one_macro, one_procedure}
use Rattle.held.proofs.All.{all_more}
use Rattle.words.specs.declared.Cursor.{Cursor}
use Rattle.words.specs.Cursor.{ahead, alive, Goes, Checked}
use Rattle.words.specs.Table.{names}
use Rattle.words.proofs.Flow.{given, then, checked, passed, alive_before}
use Rattle.timing.specs.Makes.{Makes}
use Rattle.timing.proofs.Making.{made}
use Rattle.measures.specs.declared.Measure.{Measure}
use Rattle.measures.specs.Measures.{joined}
use Rattle.measures.specs.Uses.{row_length}
use Rattle.measures.specs.Book.{first_procedure, Listed, Used, Kept, KeptRow}
use Rattle.measures.proofs.Uses.{uses_none}
use Rattle.measures.proofs.Book.{listed_append, listed_entries, new_listed, used_new, used_stays}
use Rattle.noted.specs.Noted.{Grows, Noted}
use Rattle.noted.specs.Known.{Knows}
use Rattle.heads.specs.declared.Known.{Known}
use Rattle.heads.specs.declared.Part.{Part}
use Rattle.heads.specs.Known.{Describes}
use Rattle.heads.specs.Heads.{part_of}
use Rattle.heads.proofs.ByNumber.{of_part, from_first, from_first_lem}
use Rattle.heads.proofs.Callers.{describes_frame}
use Rattle.bodies.specs.Bodies.{Notes, Summed}
use Rattle.bodies.specs.Blocks.{one_more, one_of, Declared}
use Rattle.bodies.proofs.Noting.{knows_grow}
use Rattle.bodies.proofs.Callers.{declared_made}

-- ---- the tables with one body more

-- the bodies of a kind, and an environment with others of it
abbrev decls_of : Env → Bool → Decls
decls_of e macros = cond macros e.macros e.procs

abbrev with_decls : Env → Bool → Decls → Env
with_decls e true ds = record { names = e.names; tables = e.tables; macros = ds; procs = e.procs; pattern = e.pattern }
with_decls e false ds = record { names = e.names; tables = e.tables; macros = e.macros; procs = ds; pattern = e.pattern }

length_more : {A : Type 0} (l : List A) (x : A) {n : ℕ} → length l ≡ n → length (l ++ x ∷ []) ≡ n + 1
length_more l x q = length-append l (x ∷ []) ∙ ap (λ (k : ℕ). k + 1) q

-- one behind the others of its kind
module _ {text places lists tplaces book rows : List ℕ} {known : Known} {e : Env} (s : Describes text places lists tplaces book rows known e)
    (room : known.macros + known.procs < bodies_most) {x : Tok × Decl} where
  listed_more : (i n : ℕ) (ds : Decls) → length ds ≡ n → Listed (Used text book rows) i ds → Used text book rows (i + n) x → Listed (Used text book rows) i (ds ++ x ∷ [])
  listed_more i n ds q l u =
      listed_append (Used text book rows) i ds l (subst (λ (k : ℕ). Used text book rows (i + k) x) (sym q) u)

  describes_one : (macros : Bool) → Used text book rows ((part_of known macros).first + (part_of known macros).count) x
      → Describes text places lists tplaces book rows (one_more known macros) (with_decls e macros (decls_of e macros ++ x ∷ []))
  describes_one true u =
      record {
        names_are = s.names_are;
        ready = s.ready;
        tables_are = s.tables_are;
        few_tables = s.few_tables;
        book_long = s.book_long;
        rows_long = s.rows_long;
        macros_counted = length_more e.macros x s.macros_counted;
        procs_counted = s.procs_counted;
        few_bodies = omega arith;
        pattern_is = s.pattern_is;
        macros_are = listed_more 0 known.macros e.macros s.macros_counted s.macros_are u;
        procs_are = s.procs_are;
      }
  describes_one false u =
      record {
        names_are = s.names_are;
        ready = s.ready;
        tables_are = s.tables_are;
        few_tables = s.few_tables;
        book_long = s.book_long;
        rows_long = s.rows_long;
        macros_counted = s.macros_counted;
        procs_counted = length_more e.procs x s.procs_counted;
        few_bodies = omega arith;
        pattern_is = s.pattern_is;
        macros_are = s.macros_are;
        procs_are = listed_more first_procedure known.procs e.procs s.procs_counted s.procs_are u;
      }

-- and noted as they are
knows_one : (known : Known) (used : List ℕ) (e : Env) (x : Tok × Decl) → Knows known.tables used e → Noted known.tables used x.1.body → (macros : Bool)
    → Knows (one_more known macros).tables used (with_decls e macros (decls_of e macros ++ x ∷ []))
knows_one known used e x h n true = record { macros = all_more _ e.macros x h.macros n; procs = h.procs }
knows_one known used e x h n false = record { macros = h.macros; procs = all_more _ e.procs x h.procs n }

-- ---- the next number of a kind

module _ (known : Known) {part : Part} (macros : Bool) (part_is : part ≡ part_of known macros) where
  pub first_most : part.first ≤ first_procedure
  first_most = rw part_is (by macros)
    where
      by : (z : Bool) → (part_of known z).first ≤ first_procedure
      by true = omega arith
      by false = omega arith

  module _ (room : known.macros + known.procs < bodies_most) where
    pub count_below : part.count < bodies_most
    count_below = rw part_is (by macros)
      where
        by : (z : Bool) → (part_of known z).count < bodies_most
        by true = omega arith
        by false = omega arith

    -- it is no other's
    no_macro : (j : ℕ) → j < known.macros → j ≡ part.first + part.count → ⊥
    no_macro j l = rw part_is (by macros)
      where
        by : (z : Bool) → j ≡ (part_of known z).first + (part_of known z).count → ⊥
        by true q = omega arith
        by false q = omega arith

    no_procedure : (j : ℕ) → first_procedure ≤ j → j < first_procedure + known.procs → j ≡ part.first + part.count → ⊥
    no_procedure j f l = rw part_is (by macros)
      where
        by : (z : Bool) → j ≡ (part_of known z).first + (part_of known z).count → ⊥
        by true q = omega arith
        by false q = omega arith

-- ---- the readers

one_due : (macros : Bool) (e : Env) → one_of macros e ≡ (one_body e (bodies_of e) (decls_of e macros) >>= λ ds. give (with_decls e macros ds))
unfolding one_of one_macro one_procedure
one_due true e = refl
one_due false e = refl

module _ {text places lists tplaces book rows : List ℕ} {known : Known} {e : Env} {part : Part} (macros : Bool) (part_is : part ≡ part_of known macros)
    (s : Describes text places lists tplaces book rows known e) {c a b d r : Cursor} {p : ℕ} {row used used' : List ℕ} {x : Measure}
    (name : Goes text c (new_name (names text (from_first book part) part.count)) a (ahead text c))
    (few : Checked a (leb bodies_most (known.macros + known.procs)) too_many c.at b) (opening : Goes text b (due "{") d p)
    (body : Makes text d (statements e depth_most true) r (Summed true (replicate row_length 0) row x (Notes known.tables e used used'))) where
  new : Goes text c (new_name (decls_of e macros)) a (ahead text c)
  new =
      let o = of_part s macros part_is in
      new_listed text book part.first (decls_of e macros) (listed_entries text book rows part.first (decls_of e macros) o.listed)
      (rw (o.counted, ← from_first_lem book part) name)

  counted_all : bodies_of e ≡ known.macros + known.procs
  unfolding bodies_of
  counted_all = rw (s.macros_counted, s.procs_counted)

  whole : Makes text d (declared e true) r
      (λ x'. (x'.from ≡ toks text b.end) × Summed true (replicate row_length 0) row x (Notes known.tables e used used') x'.body)
  whole = declared_made e true opening body

  read_all : Goes text c (one_of macros e) r (with_decls e macros (decls_of e macros ++ (ahead text c, whole.it) ∷ []))
  unfolding one_body
  read_all =
      rw (one_due macros e)
      (then _
      (then _ new
      (then _ (checked few (ap (leb bodies_most) (sym counted_all)) refl)
      (then _ opening (then _ whole.goes given))))
      given)

  pub body_refused : {P : Env → Type 0} → alive r ≡ false → Makes text c (one_of macros e) r P
  body_refused off = made read_all (λ live. true_false live off)

  module _ (live : alive r ≡ true) where
    pub room_for : known.macros + known.procs < bodies_most
    room_for = leb-false bodies_most (known.macros + known.procs) (passed few refl (alive_before opening (alive_before body.goes live)))

    module _ {book' rows' : List ℕ} (k : Kept book (part.first + part.count) c b.end x book') (kr : KeptRow rows (part.first + part.count) row rows') where
      others_stay : Describes text places lists tplaces book' rows' known e
      others_stay =
          describes_frame s k.long kr.long
          (λ j y l u. used_stays k text kr (omega (arith, s.few_bodies)) (no_macro known macros part_is room_for j l) u)
          (λ j y f l u. used_stays k text kr (omega (arith, s.few_bodies)) (no_procedure known macros part_is room_for j f l) u)

      new_used : Used text book' rows' (part.first + part.count) (ahead text c, whole.it)
      unfolding joined
      new_used =
          let h = whole.held live in
          used_new k text kr whole.it h.0 h.1.measured (h.1.counted.counts refl done uses_none)

      pub body_kept : {known' : Known} → known' ≡ one_more known macros → Grows used used'
          → Makes text c (one_of macros e) r (Declared text places lists tplaces book' rows' known' (Knows known.tables used e) used')
      body_kept q grows =
          let u = subst (λ (z : Part). Used text book' rows' (z.first + z.count) (ahead text c, whole.it)) part_is new_used in
          made read_all (λ l. rw q (record {
            describes = describes_one others_stay room_for macros u;
            knows = λ k. knows_one known used' e (ahead text c, whole.it) (knows_grow grows k) ((whole.held l).1.noted.noted k) macros;
          }))

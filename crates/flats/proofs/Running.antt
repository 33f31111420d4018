-- All listed patterns, one after the other: what is left of the run, of its cycles and of what is to be written.
use Rattle.std.specs.Prelude.{Some}
use Prim.Native.Nat.{ℕ, ◌+◌, ◌-◌, ◌≤◌, ◌<◌}
use native.Mathlib.Omega.{arith}
use mathlib.Core.Path.{◌≡◌, refl, sym, ap, ap₂, ◌∙◌, subst}
use mathlib.Core.Bool.{false}
use mathlib.Core.List.{List, [], ◌∷◌, ◌++◌, append_assoc, append-nil}
use lib.ListN.{length, take, length-append}
use lib.Seq.{take_at, drop_at}
use Rattle.tokens.specs.Tokens.{Tok}
use Rattle.meaning.specs.Body.{listed as by_list, entered, Body, done, inner}
use Rattle.meaning.specs.Run.{Cycle, cycles, shift_of, play, playing, entering, follow, start, cycles_of, alone}
use Rattle.meaning.specs.Meaning.{Answer, given, answering, run_of, Meaning}
use Rattle.meaning.specs.Statements.{Decls}
use Rattle.meaning.proofs.Rows.{rows_are_cycles}
use Rattle.walks.specs.Seen.{seen}
use Rattle.words.specs.Table.{name_of}
use Rattle.texts.proofs.Runs.{list_from, list_cut, list_end}
use Rattle.sections.specs.Listing.{Short}
use Rattle.index.specs.Lines.{Lists, Named, Shares}
use Rattle.index.specs.declared.Share.{Share}
use Rattle.index.proofs.Names.{listed_few}
use Rattle.index.proofs.Left.{First, Left, next, next_named, next_cycles}
use Rattle.plays.specs.Plays.{Ground}
use Rattle.folded.specs.Pieces.{laid}
use Rattle.folded.specs.Flat.{Row, rows_of, listed_rows}
use Rattle.folded.specs.Walk.{walked_all, begun_all}
use Rattle.pens.specs.Pens.{Writes}
use Rattle.stretches.specs.Folding.{Onward}
use Rattle.stretches.proofs.Writing.{onward_none, onward_both, onward_from, onward_all}
use Rattle.stretches.proofs.Taking.{begins_all}
use Rattle.flats.specs.Meant.{Meant, signals_in, tables_in, Parts}
use Rattle.flats.specs.declared.Part.{Part}

-- ---- a run's first pattern, and the rest

cycles_listed : (n : ℕ) (b r : Body) → cycles_of n (inner (entered by_list 0 []) b r) ≡ cycles_of n (alone b) ++ cycles_of n r
unfolding cycles_of alone play playing entering follow shift_of
cycles_listed n b r = ap (λ (l : List Cycle). l ++ (play 0 r (start n)).1) (sym (append-nil (entering by_list [] (play 0 b) (start n)).1))

pub first_is : {ps : Decls} {t : Tok} {l : List Tok} {run : Body} → run_of ps (t ∷ l) ≡ given run → (f : First ps t l run) → run ≡ inner (entered by_list 0 []) f.decl.body f.rest
unfolding run_of answering
first_is {ps} {t} {l} {run} e f =
    let made : run_of ps (t ∷ l) ≡ given (inner (entered by_list 0 []) f.decl.body f.rest) = rw (f.found, f.rest_is, run_of) in
    let same : ◌≡◌ {A = Answer Body} (given run) (given (inner (entered by_list 0 []) f.decl.body f.rest)) = sym e ∙ made in
    cc

-- those cycles, where others stand before them
seen_there : (front mid back : List Cycle) (n m : ℕ) → length front ≡ n → length mid ≡ m → seen n m (front ++ (mid ++ back)) ≡ mid
seen_there front mid back n m e f = ap (take m) (drop_at front (mid ++ back) n e) ∙ take_at mid back m f

-- ---- the listed patterns of an accepted text

module _ {g : Ground} {list : List ℕ} {listed patterns sized : ℕ} {m : Meaning} (h : Meant g list listed patterns sized m) where
  abbrev pub decls : Decls
  decls = h.read.patterns

  pub lists_are : Lists g.text g.book list listed patterns decls m.run
  lists_are = record {
    book_long = h.runs.tabled.describes.book_long;
    patterns_are = h.runs.tabled.patterns_are;
    counted = h.runs.tabled.patterns_counted ∙ h.runs.patterns_is;
    few = rw h.runs.patterns_is at h.runs.tabled.few_patterns;
    few_listed = rw h.runs.listed_is at h.runs.tabled.few_listed;
    short = rw h.runs.listed_is at (subst Short h.runs.tabled.listed_are (listed_few.all _ _ _ h.runs.tabled.parts.burst_read));
    run_is = rw (h.runs.tabled.listed_are, h.runs.listed_is) at h.runs.run_is;
    fits = omega (arith, h.few);
  }

  -- before the listed pattern of number k: what is left
  pub record Before (entry exit : List ℕ) (part : Part) (first k : ℕ) : Type 0 where
    pub rest : Body
    pub rest_is : run_of decls (list_from g.text list listed k) ≡ given rest
    pub front : List Cycle
    pub split : cycles_of g.signals m.run ≡ front ++ cycles_of g.signals rest
    pub front_long : length front ≡ first
    pub on : Onward entry (record { at = Some 0 }) (laid (walked_all (signals_in g) (tables_in g) 0 (listed_rows g.signals m.run) [])) exit part.pen
        (laid (walked_all (signals_in g) (tables_in g) part.pattern (listed_rows g.signals rest) []))
    pub counts : part.pattern + begun_all (listed_rows g.signals rest) ≡ begun_all (listed_rows g.signals m.run)

  pub before_all : (entry : List ℕ) → Before entry entry (record { pen = record { at = Some 0 }; pattern = 0 }) 0 0
  before_all entry =
      let e : listed - 0 ≡ listed = omega arith in
      record {
        rest = m.run;
        rest_is = rw e lists_are.run_is;
        front = [];
        split = refl;
        front_long = refl;
        on = onward_none entry _ _;
        counts = omega arith;
      }

  module _ {entry exit : List ℕ} {part : Part} {first k : ℕ} (b : Before entry exit part first k) where
    abbrev pub left_is : Left g.text list listed decls m.run first k
    left_is = record {
      rest = b.rest;
      rest_is = b.rest_is;
      sum = sym (omega (arith, ap length b.split, length-append b.front (cycles_of g.signals b.rest), b.front_long, rows_are_cycles g.signals m.run, rows_are_cycles g.signals b.rest));
    }

    -- none is left
    pub before_none : listed ≤ k → Writes entry (record { at = Some 0 }) (laid (walked_all (signals_in g) (tables_in g) 0 (listed_rows g.signals m.run) [])) exit part.pen
        × (part.pattern ≡ begun_all (listed_rows g.signals m.run))
    unfolding run_of listed_rows walked_all begun_all laid
    before_none q =
        let e : run_of decls (list_from g.text list listed k) ≡ given done = rw (list_end g.text list listed k q, run_of) in
        let same : ◌≡◌ {A = Answer Body} (given b.rest) (given done) = sym b.rest_is ∙ e in
        let r : b.rest ≡ done = cc in
        let n : part.pattern + begun_all (listed_rows g.signals b.rest) ≡ part.pattern = rw r (omega arith) in
        (onward_all b.on (rw r), sym n ∙ b.counts)

    module _ (q : k < listed) where
      abbrev pub coming : First decls (name_of g.text list k) (list_from g.text list listed (k + 1)) b.rest
      coming = next lists_are q left_is

      pub named : Named g.text g.book list patterns k decls coming.decl
      named = next_named lists_are q left_is

      shape : b.rest ≡ inner (entered by_list 0 []) coming.decl.body coming.rest
      shape = first_is (rw (list_cut g.text list listed k q) at b.rest_is) coming

      module _ {s : Share} (e : Shares g.text g.book list patterns k s) where
        pub coming_there : first + s.cycles ≤ cycles 0 m.run
        coming_there = omega (arith, next_cycles lists_are q left_is e, coming.cycles_are, left_is.sum)

        abbrev own_cycles : List Cycle
        own_cycles = cycles_of g.signals (alone coming.decl.body)

        own_long : length own_cycles ≡ s.cycles
        own_long = rows_are_cycles g.signals (alone coming.decl.body) ∙ sym (next_cycles lists_are q left_is e)

        split_is : cycles_of g.signals m.run ≡ b.front ++ (own_cycles ++ cycles_of g.signals coming.rest)
        split_is = b.split ∙ ap (λ (l : List Cycle). b.front ++ l) (ap (cycles_of g.signals) shape ∙ cycles_listed g.signals coming.decl.body coming.rest)

        rows_are : rows_of (seen first s.cycles (cycles_of g.signals m.run)) ≡ rows_of own_cycles
        rows_are = ap (λ (l : List Cycle). rows_of (seen first s.cycles l)) split_is ∙ ap rows_of (seen_there b.front own_cycles _ first s.cycles b.front_long own_long)

        lists_next : listed_rows g.signals b.rest ≡ rows_of own_cycles ∷ listed_rows g.signals coming.rest
        unfolding listed_rows
        lists_next = ap (listed_rows g.signals) shape

        -- it is written
        pub before_next : {after : List ℕ} {r : Part} → Parts g list listed patterns sized first s.cycles exit part.pen part.pattern after r → Before entry after r (first + s.cycles) (k + 1)
        unfolding walked_all
        before_next {after} {r} p =
            let S = signals_in g in
            let T = tables_in g in
            let rest = coming.rest in
            let own : p.shown ≡ rows_of own_cycles = p.are m h coming_there ∙ rows_are in
            let all : listed_rows g.signals b.rest ≡ p.shown ∷ listed_rows g.signals rest = lists_next ∙ ap (λ (l : List Row). l ∷ listed_rows g.signals rest) (sym own) in
            record {
              rest = rest;
              rest_is = coming.rest_is;
              front = b.front ++ own_cycles;
              split = split_is ∙ sym (append_assoc b.front own_cycles (cycles_of g.signals rest));
              front_long = length-append b.front own_cycles ∙ ap₂ (λ (x y : ℕ). x + y) b.front_long own_long;
              on = onward_both (onward_from refl (ap (λ (ls : List (List Row)). laid (walked_all S T part.pattern ls [])) all) b.on) (p.on (λ j. walked_all S T j (listed_rows g.signals rest) []));
              counts = omega (arith, p.counts, begins_all p.shown (listed_rows g.signals rest), ap begun_all all, b.counts);
            }

-- The lines of the listed patterns, put into a page one behind the other; and the pattern that holds a cycle, looked for from the front.
use Prim.Native.Nat.{ℕ, ◌+◌, ◌*◌, ◌-◌, ◌≤◌, ◌<◌}
use native.Mathlib.Omega.{arith}
use native.Mathlib.Numerals.{add-one}
use mathlib.Core.Path.{◌≡◌, refl, sym, ap, ◌∙◌}
use mathlib.Core.Option.{none, some}
use mathlib.Core.List.{List, [], ◌∷◌, ◌++◌, append_assoc, append-nil}
use lib.ListN.{length, get_or, take}
use lib.Seq.{get_or-take}
use borrow.Author.Tests.{le-leb, lt-ltb, le-ltb}
use Rattle.tokens.specs.Tokens.{toks}
use Rattle.meaning.specs.Bounds.{name_most}
use Rattle.meaning.specs.Body.{Body}
use Rattle.meaning.specs.Statements.{Decls}
use Rattle.meaning.specs.Meaning.{firsts}
use Rattle.words.specs.Table.{name_of, names}
use Rattle.measures.specs.Book.{first_pattern}
use Rattle.measures.proofs.Book.{part_listed}
use Rattle.bursts.specs.Listed.{listed_in}
use Rattle.bursts.proofs.Entries.{listed_length}
use Rattle.pages.specs.Pages.{decimal, Puts}
use Rattle.pages.proofs.Laws.{puts_same, puts_both, decimal_short}
use Rattle.sections.specs.Listing.{counted, lines, Adds, Fronts}
use Rattle.sections.proofs.Laws.{at_front, adds_none}
use Rattle.texts.proofs.Runs.{list_from, list_end}
use Rattle.index.specs.Index.{keywords, Line, lines_from, line_written, lines_written, written, holder}
use Rattle.index.specs.Lines.{number_most, pattern_most, names_in, Lists, blocks_in, Shares, index_in}
use Rattle.index.specs.declared.Share.{Share}
use Rattle.index.proofs.Left.{Left, left_all, next_line, left_next}
use Rattle.index.proofs.Counts.{as_many}

-- ---- a line

pub spaced_adds : {before p after : List ℕ} {at a r : ℕ} (n : ℕ) → Puts before at (32 ∷ []) a p → Puts p a (decimal n) r after → Adds before at (32 ∷ decimal n) number_most r after
spaced_adds n e f = record { puts = puts_both e f; within = omega (arith, e.behind, f.behind, decimal_short n) }

module _ {before p q s t after : List ℕ} {at a b d e r : ℕ} (name : List ℕ) (first count keyword : ℕ) where
  pub line_adds : length name ≤ name_most → Puts before at name a p → Adds p a (32 ∷ decimal first) number_most b q → Adds q b (32 ∷ decimal count) number_most d s
      → Adds s d (32 ∷ decimal keyword) number_most e t → Puts t e (10 ∷ []) r after
      → Adds before at (line_written (record { name = name; first = first; count = count; keyword = keyword })) pattern_most r after
  unfolding line_written
  line_adds short f g h i j = record {
    puts = puts_both (puts_both (puts_both (puts_both f g.puts) h.puts) i.puts) j;
    within = omega (arith, f.behind, g.within, h.within, i.within, j.behind);
  }

-- ---- all lines

module _ {text book list : List ℕ} {listed patterns : ℕ} {ps : Decls} {run : Body} (h : Lists text book list listed patterns ps run) where
  -- those from number k on, the first of them from a cycle on
  abbrev pub lines_left : ℕ → ℕ → List Line
  lines_left first k = lines_from first (blocks_in text ps) (list_from text list listed k)

  all_lines : lines_left 0 0 ≡ lines_from 0 (blocks_in text ps) (listed_in text list listed)
  all_lines = let e : listed - 0 ≡ listed = omega arith in rw e

  no_lines : (first k : ℕ) → listed ≤ k → lines_left first k ≡ []
  unfolding lines_from
  no_lines first k q = rw (list_end text list listed k q, lines_from)

  -- the keywords that the code has
  key_at : (keys : List ℕ) → take patterns keys ≡ keywords (toks text 0) (firsts (names text (names_in book) patterns)) → (i : ℕ) → i < patterns
      → get_or keys i 0 ≡ get_or (keywords (toks text 0) (firsts ps)) i 0
  key_at keys e i q =
      sym (get_or-take patterns keys i 0 q) ∙ ap (λ (l : List ℕ). get_or l i 0) e
      ∙ (rw (← h.counted, ← part_listed text book first_pattern ps h.patterns_are))

  -- the lines up to number k are put; those behind it are left
  pub record Wrote (before : List ℕ) (at first k end : ℕ) (page : List ℕ) : Type 0 where
    pub left : Left text list listed ps run first k
    pub put : List ℕ
    pub adds : Adds before at put (k * pattern_most) end page
    pub all : put ++ lines_written (lines_left first k) ≡ lines_written (lines_left 0 0)

  pub wrote_none : (before : List ℕ) (at : ℕ) → Wrote before at 0 0 at before
  wrote_none before at = record { left = left_all h; put = []; adds = adds_none before at (0 * pattern_most); all = refl }

  module _ {before page : List ℕ} {at first k end : ℕ} (w : Wrote before at first k end page) where
    pub wrote_all : k ≡ listed → Adds before at (lines_written (lines_from 0 (blocks_in text ps) (listed_in text list listed))) (listed * pattern_most) end page
    unfolding lines_written
    wrote_all e =
        let all : w.put ≡ lines_written (lines_from 0 (blocks_in text ps) (listed_in text list listed)) =
        sym (append-nil w.put) ∙ ap (λ (l : List Line). w.put ++ lines_written l) (sym (no_lines first k (omega arith))) ∙ w.all ∙ ap lines_written all_lines in
        record { puts = puts_same w.adds.puts all; within = rw e at w.adds.within }

    pub wrote_next : (keys v : List ℕ) {after : List ℕ} {r : Share} {e : ℕ} → k < listed → Shares text book list patterns k r → take patterns keys ≡ keywords (toks text 0) (firsts (names text (names_in book) patterns))
        → v ≡ (name_of text list k).word
        → Adds page end (line_written (record { name = v; first = first; count = r.cycles; keyword = get_or keys r.number 0 })) pattern_most e after
        → Wrote before at (first + r.cycles) (k + 1) e after
    unfolding lines_written
    wrote_next keys v {after} {r} {e} q s key i a =
        let x : Line = record { name = (name_of text list k).word; first = first; count = r.cycles; keyword = get_or (keywords (toks text 0) (firsts ps)) r.number 0 } in
        let same : line_written (record { name = v; first = first; count = r.cycles; keyword = get_or keys r.number 0 }) ≡ line_written x =
        rw (i, key_at keys key r.number s.below) in
        record {
          left = left_next h q w.left s;
          put = w.put ++ line_written x;
          adds = record { puts = puts_both w.adds.puts (puts_same a.puts same); within = omega (arith, w.adds.within, a.within) };
          all = append_assoc w.put (line_written x) _ ∙ ap (λ (l : List Line). w.put ++ lines_written l) (sym (next_line h q w.left s (keywords (toks text 0) (firsts ps)))) ∙ w.all;
        }

  -- ---- both sections

  lines_counted : length (lines_from 0 (blocks_in text ps) (listed_in text list listed)) ≡ listed
  lines_counted = as_many ps (keywords (toks text 0) (firsts ps)) (listed_in text list listed) run h.run_is 0 ∙ listed_length text list 0 listed

  pub index_fronts : {before p q s after : List ℕ} {a b d r : ℕ} (tplaces : List ℕ) (tables : ℕ)
      → Puts before 0 (counted "PATTERNS" listed) a p → Puts p a (lines_written (lines_from 0 (blocks_in text ps) (listed_in text list listed))) b q
      → Puts q b (counted "TABLES" tables) d s → Puts s d (lines (firsts (names text tplaces tables))) r after
      → Fronts (written (index_in text list tplaces listed tables ps)) before r after
  unfolding written
  index_fronts tplaces tables e f g i =
      rw (lines_counted, listed_length text tplaces 0 tables) (at_front (puts_both (puts_both (puts_both e f) g) i))

  -- ---- the pattern that holds a cycle

  -- none up to number k holds the cycle n
  pub record Unheld (n first k : ℕ) : Type 0 where
    pub left : Left text list listed ps run first k
    pub reached : first ≤ n
    pub same : holder n k (lines_left first k) ≡ holder n 0 (lines_from 0 (blocks_in text ps) (listed_in text list listed))

  pub unheld_all : (n : ℕ) → Unheld n 0 0
  unheld_all n = record { left = left_all h; reached = omega arith; same = ap (holder n 0) all_lines }

  module _ {n first k : ℕ} (u : Unheld n first k) where
    pub held_none : listed ≤ k → none ≡ holder n 0 (lines_from 0 (blocks_in text ps) (listed_in text list listed))
    unfolding holder
    held_none q = sym (ap (holder n k) (no_lines first k q)) ∙ u.same

    module _ {r : Share} (q : k < listed) (s : Shares text book list patterns k r) where
      pub held_here : n < first + r.cycles → some k ≡ holder n 0 (lines_from 0 (blocks_in text ps) (listed_in text list listed))
      unfolding holder
      held_here l = sym (rw (next_line h q u.left s (keywords (toks text 0) (firsts ps)), le-leb first n u.reached, lt-ltb n (first + r.cycles) l, holder)) ∙ u.same

      pub held_later : first + r.cycles ≤ n → Unheld n (first + r.cycles) (k + 1)
      unfolding holder
      held_later l = record {
        left = left_next h q u.left s;
        reached = l;
        same = sym (rw (next_line h q u.left s (keywords (toks text 0) (firsts ps)), le-leb first n u.reached, le-ltb n (first + r.cycles) l, ← add-one k, holder)) ∙ u.same;
      }

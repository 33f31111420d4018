-- The listed patterns one by one: what is left of the run and of its lines behind some of them, and what the next one has.
use Prim.Native.Nat.{ℕ, zero, suc, ◌+◌, ◌-◌, ◌≤◌, ◌<◌}
use native.Mathlib.Omega.{arith}
use mathlib.Core.Path.{◌≡◌, refl, sym, ap, ◌∙◌, subst}
use mathlib.Core.Bool.{Bool, true, false}
use mathlib.Core.Option.{Option, none, some}
use mathlib.Core.List.{List, [], ◌∷◌}
use lib.Dec.{ltb}
use lib.ListN.{length, get_or, drop}
use lib.Seq.{get_or-drop}
use borrow.Author.Tests.{ltb-true, ltb-false, lt-ltb}
use Rattle.tokens.specs.Written.{same}
use Rattle.tokens.specs.Tokens.{Tok}
use Rattle.meaning.specs.Bounds.{cycles_most}
use Rattle.meaning.specs.Refusals.{not_defined}
use Rattle.meaning.specs.Names.{find}
use Rattle.meaning.specs.Body.{listed, entered, Body, done, inner}
use Rattle.meaning.specs.Run.{turns_of, shift_of, cycles, alone}
use Rattle.meaning.specs.Meaning.{Answer, given, refused, answering, run_of, firsts}
use Rattle.meaning.specs.Statements.{Decl, Decls}
use Rattle.meaning.proofs.Accepted.{never}
use Rattle.words.specs.Table.{name_of, names, seconds}
use Rattle.words.specs.Values.{told}
use Rattle.words.proofs.Names.{found_by_number}
use Rattle.measures.specs.Measures.{Measures}
use Rattle.measures.specs.Book.{first_pattern, measure_at}
use Rattle.measures.proofs.Book.{part_listed}
use Rattle.measures.proofs.Within.{cycles_within}
use Rattle.heads.proofs.ByNumber.{nothing}
use Rattle.texts.proofs.Runs.{list_from, list_cut, found_none, found_pattern}
use Rattle.index.specs.Index.{Block, blocks, line_of, lines_from}
use Rattle.index.specs.Lines.{names_in, Lists, Named, Shares}
use Rattle.index.specs.declared.Share.{Share}

-- ---- a pattern alone has its body's cycles

pub alone_cycles : (b : Body) → cycles 0 (alone b) ≡ cycles 0 b
unfolding alone cycles turns_of shift_of
alone_cycles b = omega arith

-- ---- a run's first pattern

pub record First (ps : Decls) (t : Tok) (l : List Tok) (run : Body) : Type 0 where
  pub decl : Decl
  pub rest : Body
  pub found : find ps t.word ≡ some decl
  pub rest_is : run_of ps l ≡ given rest
  pub cycles_are : cycles 0 run ≡ cycles 0 (alone decl.body) + cycles 0 rest

pub first_listed : (ps : Decls) (t : Tok) (l : List Tok) (run : Body) → run_of ps (t ∷ l) ≡ given run → First ps t l run
unfolding run_of answering alone cycles
first_listed ps t l run e = by (find ps t.word) refl e
  where
    on : (d : Decl) → find ps t.word ≡ some d → (a : Answer Body) → run_of ps l ≡ a
        → answering a (λ r. given (inner (entered listed 0 []) d.body r)) ≡ given run → First ps t l run
    on d f (refused n p) q e = never e
    on d f (given r) q e =
        let i : run ≡ inner (entered listed 0 []) d.body r = cc in
        record { decl = d; rest = r; found = f; rest_is = q; cycles_are = rw i (omega arith) }

    by : (o : Option Decl) → find ps t.word ≡ o
        → ◌≡◌ {A = Answer Body} (elim o [
          | none ↦ refused not_defined t.at
          | some d ↦ answering (run_of ps l) λ r. given (inner (entered listed 0 []) d.body r)
        ]) (given run) → First ps t l run
    by none f e = never e
    by (some d) f e = on d f (run_of ps l) refl e

-- ---- blocks have the patterns' names

no_block : Block
no_block = record { body = done; keyword = 0 }

firsts_blocks : (ps : Decls) (ks : List ℕ) → firsts (blocks ps ks) ≡ firsts ps
unfolding firsts blocks
firsts_blocks [] ks = refl
firsts_blocks (x ∷ xs) ks = ap (λ (l : List Tok). x.0 ∷ l) (firsts_blocks xs (drop 1 ks))

block_at : (ps : Decls) (ks : List ℕ) (i : ℕ) → i < length ps
    → get_or (seconds (blocks ps ks)) i no_block ≡ record { body = (get_or (seconds ps) i nothing).body; keyword = get_or ks i 0 }
unfolding seconds blocks
block_at [] ks i h = absurd (omega arith)
block_at (x ∷ xs) ks zero h = refl
block_at (x ∷ xs) ks (suc i) h =
    let e : 1 + i ≡ suc i = omega arith in
    block_at xs (drop 1 ks) i (omega arith) ∙ (rw (get_or-drop 1 ks i 0, e))

-- whatever the keywords
pub block_of : (ps : Decls) (ks w : List ℕ) (d : Decl) → find ps w ≡ some d → (k : ℕ) × (find (blocks ps ks) w ≡ some (record { body = d.body; keyword = k }))
unfolding find blocks
block_of [] ks w d e = let z : ◌≡◌ {A = ℕ} 0 1 = cc in absurd (omega arith)
block_of (x ∷ xs) ks w d e = by (same x.0.word w) e (block_of xs (drop 1 ks) w d)
  where
    by : (b : Bool) → ◌≡◌ {A = Option Decl} (elim b [ true ↦ some x.1 | false ↦ find xs w ]) (some d)
        → (find xs w ≡ some d → (k : ℕ) × (find (blocks xs (drop 1 ks)) w ≡ some (record { body = d.body; keyword = k })))
        → (k : ℕ) × (◌≡◌ {A = Option Block} (elim b [ true ↦ some (record { body = x.1.body; keyword = get_or ks 0 0 }) | false ↦ find (blocks xs (drop 1 ks)) w ]) (some (record { body = d.body; keyword = k })))
    by true e ih = let i : x.1 ≡ d = cc in (get_or ks 0 0, rw i)
    by false e ih = ih e

-- ---- the listed pattern of a number

-- as the code finds it
pub number_is : (text book part v w : List ℕ) (patterns i : ℕ) → part ≡ names_in book → v ≡ w → told (ltb i patterns) i ≡ find (names text part patterns) v
    → told (ltb i patterns) i ≡ find (names text (names_in book) patterns) w
number_is text book part v w patterns i p q e = e ∙ (rw (p, q))

module _ {text book list : List ℕ} {patterns k : ℕ} {ps : Decls} {d : Decl} (n : Named text book list patterns k ps d) where
  -- the number that is found is a pattern's
  pub number_below : {part v : List ℕ} (i : ℕ) → part ≡ names_in book → v ≡ (name_of text list k).word → told (ltb i patterns) i ≡ find (names text part patterns) v
      → i < patterns
  number_below {part} {v} i p w f = by (ltb i patterns) refl
    where
      by : (b : Bool) → ltb i patterns ≡ b → i < patterns
      by true e = ltb-true i patterns e
      by false e =
          let x = found_none text book ps n.patterns_are i p w f n.counted (ltb-false i patterns e) in
          let q : none ≡ some d = sym x ∙ n.found in
          let z : ◌≡◌ {A = ℕ} 0 1 = cc in
          absurd (omega arith)

  module _ {r : Share} (s : Shares text book list patterns k r) where
    measured : Measures d.body (measure_at book (first_pattern + r.number))
    measured =
        let x = found_pattern text book ps n.patterns_are r.number refl refl s.number_is n.counted s.below in
        let q : some x.0 ≡ some d = sym x.1 ∙ n.found in
        let z : x.0 ≡ d = cc in
        subst (λ (y : Decl). Measures y.body (measure_at book (first_pattern + r.number))) z x.3.measured

    pub cycles_exact : cycles 0 d.body ≤ cycles_most → r.cycles ≡ cycles 0 (alone d.body)
    cycles_exact h = s.cycles_are ∙ cycles_within measured h ∙ sym (alone_cycles d.body)

    -- its block, and its keyword by that number
    pub block_found : (ks : List ℕ) → find (blocks ps ks) (name_of text list k).word ≡ some (record { body = d.body; keyword = get_or ks r.number 0 })
    block_found ks =
        let w = (name_of text list k).word in
        let i = r.number in
        let below : i < length ps = omega (arith, n.counted, s.below) in
        let t : find (names text (names_in book) (length ps)) w ≡ some i =
        ap (λ (z : ℕ). find (names text (names_in book) z) w) n.counted ∙ sym s.number_is ∙ (rw (lt-ltb i patterns s.below)) in
        let own : find ps w ≡ some (get_or (seconds ps) i nothing) =
        found_by_number text (names_in book) nothing (length ps) ps (part_listed text book first_pattern ps n.patterns_are) w ∙ (rw t) in
        let q : some d ≡ some (get_or (seconds ps) i nothing) = sym n.found ∙ own in
        let z : d ≡ get_or (seconds ps) i nothing = cc in
        found_by_number text (names_in book) no_block (length ps) (blocks ps ks) (firsts_blocks ps ks ∙ part_listed text book first_pattern ps n.patterns_are) w
        ∙ (rw t) ∙ ap some (block_at ps ks i below) ∙ (rw (← z))

-- ---- behind some patterns

-- the listed names from number k on are still to come, the first of them from a cycle on
pub record Left (text list : List ℕ) (listed : ℕ) (ps : Decls) (run : Body) (first k : ℕ) : Type 0 where
  pub rest : Body
  pub rest_is : run_of ps (list_from text list listed k) ≡ given rest
  pub sum : first + cycles 0 rest ≡ cycles 0 run

module _ {text book list : List ℕ} {listed patterns : ℕ} {ps : Decls} {run : Body} (h : Lists text book list listed patterns ps run) where
  pub left_all : Left text list listed ps run 0 0
  left_all =
      let e : listed - 0 ≡ listed = omega arith in
      record { rest = run; rest_is = rw e h.run_is; sum = omega arith }

  module _ {first k : ℕ} (q : k < listed) (l : Left text list listed ps run first k) where
    pub next : First ps (name_of text list k) (list_from text list listed (k + 1)) l.rest
    next = first_listed ps (name_of text list k) (list_from text list listed (k + 1)) l.rest (rw (list_cut text list listed k q) at l.rest_is)

    pub next_named : Named text book list patterns k ps next.decl
    next_named = record { book_long = h.book_long; patterns_are = h.patterns_are; counted = h.counted; few = h.few; found = next.found }

    module _ {r : Share} (s : Shares text book list patterns k r) where
      pub next_cycles : r.cycles ≡ cycles 0 (alone next.decl.body)
      next_cycles = cycles_exact next_named s (omega (arith, alone_cycles next.decl.body, next.cycles_are, l.sum, h.fits))

      -- within the machine's numbers
      pub next_fits : first + r.cycles ≤ cycles_most
      next_fits = omega (arith, next_cycles, next.cycles_are, l.sum, h.fits)

      pub left_next : Left text list listed ps run (first + r.cycles) (k + 1)
      left_next = record { rest = next.rest; rest_is = next.rest_is; sum = omega (arith, next_cycles, next.cycles_are, l.sum) }

      pub next_line : (ks : List ℕ) → lines_from first (blocks ps ks) (list_from text list listed k)
          ≡ record { name = (name_of text list k).word; first = first; count = r.cycles; keyword = get_or ks r.number 0 } ∷ lines_from (first + r.cycles) (blocks ps ks) (list_from text list listed (k + 1))
      unfolding lines_from line_of
      next_line ks = rw (list_cut text list listed k q, block_found next_named s ks, next_cycles, lines_from)

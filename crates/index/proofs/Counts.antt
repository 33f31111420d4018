-- THE COUNTS ADD UP: each listed pattern begins where those before it end, together they have the cycles of the text, and one holds a cycle exactly
-- where the text has that cycle.
use Prim.Native.Nat.{ℕ, suc, ◌+◌, ◌≤◌, ◌<◌}
use native.Mathlib.Omega.{arith}
use mathlib.Core.Path.{◌≡◌, refl, sym, ap, ◌∙◌, subst}
use mathlib.Core.Bool.{Bool, true, false, ◌&&◌}
use mathlib.Core.Option.{Option, none, some}
use mathlib.Core.List.{List, [], ◌∷◌, ◌++◌}
use lib.Dec.{leb, ltb}
use lib.ListN.{length}
use borrow.Author.Tests.{leb-true, ltb-true, ltb-false, le-leb}
use Rattle.tokens.specs.Tokens.{Tok, toks}
use Rattle.tokens.proofs.Bools.{both}
use Rattle.meaning.specs.Body.{Body, done}
use Rattle.meaning.specs.Run.{cycles, alone}
use Rattle.meaning.specs.Meaning.{given, run_of, firsts, Meaning, meaning}
use Rattle.meaning.specs.Statements.{Decls}
use Rattle.meaning.proofs.Accepted.{accepted}
use Rattle.index.specs.Index.{keywords, blocks, Line, line_of, lines_from, lines_of, index_of, holder}
use Rattle.index.proofs.Left.{first_listed, block_of}

-- the counts of some lines
unfoldable pub sum : List Line → ℕ
sum [] = 0
sum (x ∷ xs) = x.count + sum xs

-- each begins where the one before it ends, the first at n
unfoldable pub Chained : ℕ → List Line → Type 0
Chained n [] = Unit {0}
Chained n (x ∷ xs) = (x.first ≡ n) × Chained (n + x.count) xs

-- what the lines of a run have
pub record Adding (n : ℕ) (l : List Tok) (run : Body) (xs : List Line) : Type 0 where
  pub many : length xs ≡ length l
  pub sum_is : sum xs ≡ cycles 0 run
  pub chained : Chained n xs

pub adding : (ps : Decls) (ks : List ℕ) (l : List Tok) (run : Body) → run_of ps l ≡ given run → (n : ℕ) → Adding n l run (lines_from n (blocks ps ks) l)
unfolding run_of lines_from line_of sum Chained cycles
adding ps ks [] run e n = let q : run ≡ done = cc in record { many = refl; sum_is = rw q; chained = tt }
adding ps ks (t ∷ l) run e n =
    let f = first_listed ps t l run e in
    let b = block_of ps ks t.word f.decl f.found in
    let i = adding ps ks l f.rest f.rest_is (n + cycles 0 (alone f.decl.body)) in
    rw (b.1, lines_from) (record { many = ap suc i.many; sum_is = omega (arith, i.sum_is, f.cycles_are); chained = (refl, i.chained) })

pub as_many : (ps : Decls) (ks : List ℕ) (l : List Tok) (run : Body) → run_of ps l ≡ given run → (n : ℕ) → length (lines_from n (blocks ps ks) l) ≡ length l
as_many ps ks l run e n = (adding ps ks l run e n).many

-- ---- in such a chain

-- each one's first cycle is the sum of the counts before it
first_is : (n : ℕ) (before : List Line) (x : Line) (after : List Line) → Chained n (before ++ x ∷ after) → x.first ≡ n + sum before
unfolding sum Chained
first_is n [] x after h = omega (arith, h.0)
first_is n (y ∷ before) x after h = omega (arith, first_is (n + y.count) before x after h.1)

-- the line of number k (from j on) holds the cycle n
pub record Holding (n j k : ℕ) (xs : List Line) : Type 0 where
  pub before : List Line
  pub line : Line
  pub behind : List Line
  pub there : xs ≡ before ++ line ∷ behind
  pub number : j + length before ≡ k
  pub from : line.first ≤ n
  pub to : n < line.first + line.count

holding : (n j k : ℕ) (xs : List Line) → holder n j xs ≡ some k → Holding n j k xs
unfolding holder
holding n j k [] e = let z : ◌≡◌ {A = ℕ} 0 1 = cc in absurd (omega arith)
holding n j k (x ∷ xs) e = by (leb x.first n && ltb n (x.first + x.count)) refl e (holding n (suc j) k xs)
  where
    by : (b : Bool) → (leb x.first n && ltb n (x.first + x.count)) ≡ b → elim b [ true ↦ some j | false ↦ holder n (suc j) xs ] ≡ some k
        → (holder n (suc j) xs ≡ some k → Holding n (suc j) k xs) → Holding n j k (x ∷ xs)
    by true f e ih =
        let p = both (leb x.first n) (ltb n (x.first + x.count)) f in
        let q : j ≡ k = cc in
        record { before = []; line = x; behind = xs; there = refl; number = omega (arith, q); from = leb-true x.first n p.0; to = ltb-true n (x.first + x.count) p.1 }
    by false f e ih =
        let i = ih e in
        record {
          before = x ∷ i.before;
          line = i.line;
          behind = i.behind;
          there = ap (λ (l : List Line). x ∷ l) i.there;
          number = omega (arith, i.number);
          from = i.from;
          to = i.to;
        }

-- one holds it exactly where the cycle is theirs
held : (n j m : ℕ) (xs : List Line) → Chained m xs → m ≤ n → n < m + sum xs → (k : ℕ) × (holder n j xs ≡ some k)
unfolding holder sum Chained
held n j m [] h l u = absurd (omega arith)
held n j m (x ∷ xs) h l u = by (ltb n (x.first + x.count)) refl (held n (suc j) (m + x.count) xs h.1)
  where
    here : leb x.first n ≡ true
    here = le-leb x.first n (omega (arith, h.0))

    by : (b : Bool) → ltb n (x.first + x.count) ≡ b
        → (m + x.count ≤ n → n < m + x.count + sum xs → (k : ℕ) × (holder n (suc j) xs ≡ some k)) → (k : ℕ) × (holder n j (x ∷ xs) ≡ some k)
    by true e ih = (j, rw (here, e, holder))
    by false e ih =
        let i = ih (omega (arith, ltb-false n (x.first + x.count) e, h.0)) (omega arith) in
        (i.0, rw (here, e, holder) i.1)

unheld : (n j m : ℕ) (xs : List Line) → Chained m xs → m + sum xs ≤ n → holder n j xs ≡ none
unfolding holder sum Chained
unheld n j m [] h l = refl
unheld n j m (x ∷ xs) h l = by (leb x.first n) (ltb n (x.first + x.count)) refl (unheld n (suc j) (m + x.count) xs h.1 (omega arith))
  where
    by : (a b : Bool) → ltb n (x.first + x.count) ≡ b → holder n (suc j) xs ≡ none → ◌≡◌ {A = Option ℕ} (elim (a && b) [ true ↦ some j | false ↦ holder n (suc j) xs ]) none
    by a true e ih = absurd (omega (arith, ltb-true n (x.first + x.count) e, h.0))
    by true false e ih = ih
    by false false e ih = ih

-- ---- and so of every accepted text

pub record AddsUp (text : List ℕ) (m : Meaning) : Type 0 where
  pub listed : length (index_of text m).patterns ≡ m.listed
  pub sum_is : sum (index_of text m).patterns ≡ cycles 0 m.run
  pub firsts_are : (before : List Line) (x : Line) (after : List Line) → (index_of text m).patterns ≡ before ++ x ∷ after → x.first ≡ sum before
  pub holds : (n k : ℕ) → holder n 0 (index_of text m).patterns ≡ some k → Holding n 0 k (index_of text m).patterns
  pub within : (n : ℕ) → n < cycles 0 m.run → (k : ℕ) × (holder n 0 (index_of text m).patterns ≡ some k)
  pub past : (n : ℕ) → cycles 0 m.run ≤ n → holder n 0 (index_of text m).patterns ≡ none

-- THE LAW
pub counts_add_up : (text : List ℕ) (m : Meaning) → meaning text ≡ given m → AddsUp text m
unfolding index_of lines_of
counts_add_up text m e =
    let a = accepted text m e in
    let xs = lines_from 0 (blocks a.doc.patterns (keywords (toks text 0) (firsts a.doc.patterns))) a.doc.listed in
    let is : (index_of text m).patterns ≡ xs = rw a.read in
    let g = adding a.doc.patterns (keywords (toks text 0) (firsts a.doc.patterns)) a.doc.listed m.run a.run 0 in
    record {
      listed = ap length is ∙ g.many ∙ a.listed;
      sum_is = ap sum is ∙ g.sum_is;
      firsts_are = λ before x after q. omega (arith, first_is 0 before x after (subst (Chained 0) (sym is ∙ q) g.chained));
      holds = λ n k q. holding n 0 k _ q;
      within = λ n l. (let i = held n 0 0 xs g.chained (omega arith) (omega (arith, g.sum_is)) in (i.0, ap (holder n 0) is ∙ i.1));
      past = λ n l. ap (holder n 0) is ∙ unheld n 0 0 xs g.chained (omega (arith, g.sum_is));
    }

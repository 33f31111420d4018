-- The listed patterns of one name, counted from the front.
use Prim.Native.Nat.{ℕ, zero, suc, ◌+◌, ◌-◌, ◌≤◌, ◌<◌}
use native.Mathlib.Omega.{arith}
use mathlib.Core.Path.{◌≡◌, refl, sym, ap, ◌∙◌, subst}
use mathlib.Core.Bool.{Bool, true, false, not}
use mathlib.Core.Option.{some}
use mathlib.Core.List.{List, [], ◌∷◌, ◌++◌, append_assoc, append-nil}
use lib.ListN.{get_or}
use Rattle.tokens.specs.Written.{same}
use Rattle.tokens.specs.Tokens.{toks}
use Rattle.tokens.proofs.Bools.{never}
use Rattle.meaning.specs.Bounds.{cycles_most}
use Rattle.meaning.specs.Names.{find}
use Rattle.meaning.specs.Body.{Body}
use Rattle.meaning.specs.Run.{cycles}
use Rattle.meaning.specs.Meaning.{firsts}
use Rattle.meaning.specs.Statements.{Decl, Decls}
use Rattle.meaning.proofs.Others.{same_eq}
use Rattle.words.specs.Table.{name_of}
use Rattle.bursts.specs.Listed.{listed_in}
use Rattle.texts.proofs.Runs.{list_from, list_end}
use Rattle.index.specs.Index.{Line, keywords, lines_from}
use Rattle.index.specs.Lines.{Lists, Shares, blocks_in}
use Rattle.index.specs.declared.Share.{Share}
use Rattle.index.proofs.Left.{alone_cycles, Left, left_all, next, next_cycles, next_fits, next_line, left_next}
use Rattle.fails.specs.Fails.{lines_named}
use Rattle.fails.specs.Once.{More, Several, Often}
use Rattle.fails.specs.declared.Times.{Times}

-- ---- one line more

module _ {ps : Decls} {w : List ℕ} {xs : List Line} {t r : Times} (o : Often ps w xs t) {first count : ℕ} (m : More t true first count r) (x : Line) (d : Decl) where
  often_more : x.first ≡ first → x.count ≡ count → find ps w ≡ some d → cycles 0 d.body ≡ count → first + count ≤ cycles_most → Often ps w (xs ++ x ∷ []) r
  often_more f c found cs fits = by t.times refl
    where
      several : r.times ≡ 2 → Several (xs ++ x ∷ []) → Often ps w (xs ++ x ∷ []) r
      several e s = record { never = λ z. absurd (omega arith); once = λ z. absurd (omega arith); again = λ y z. s }

      by : (n : ℕ) → t.times ≡ n → Often ps w (xs ++ x ∷ []) r
      by zero e =
          let one = m.once refl e in
          record {
            never = λ z. absurd (omega (arith, one));
            once = λ z. record {
              line = x;
              is = ap (λ (l : List Line). l ++ x ∷ []) (o.never e);
              first_is = f ∙ sym (m.first_is refl);
              count_is = c ∙ sym (m.cycles_are refl);
              decl = d;
              found = found;
              cycles_are = cs ∙ sym (m.cycles_are refl);
              fits = omega (arith, fits, m.first_is refl, m.cycles_are refl);
            };
            again = λ y z. absurd (z one);
          }
      by (suc zero) e =
          let y = o.once e in
          several (m.again refl (λ z. omega (arith, e))) (record { line = y.line; next = x; more = []; are = ap (λ (l : List Line). l ++ x ∷ []) y.is })
      by (suc (suc n)) e =
          let y = o.again (λ z. omega (arith, e)) (λ z. omega (arith, e)) in
          several (m.again refl (λ z. omega (arith, e))) (record { line = y.line; next = y.next; more = y.more ++ x ∷ []; are = ap (λ (l : List Line). l ++ x ∷ []) y.are })

-- ---- the lines from the front

module _ {text book list : List ℕ} {listed patterns : ℕ} {ps : Decls} {run : Body} (h : Lists text book list listed patterns ps run) (w : List ℕ) where
  abbrev lines_left : ℕ → ℕ → List Line
  lines_left first k = lines_from first (blocks_in text ps) (list_from text list listed k)

  -- those of the name up to number k are counted; the others are left
  pub record Seen (t : Times) (first k : ℕ) : Type 0 where
    pub left : Left text list listed ps run first k
    pub so_far : List Line
    pub all : so_far ++ lines_named w (lines_left first k) ≡ lines_named w (lines_from 0 (blocks_in text ps) (listed_in text list listed))
    pub often : Often ps w so_far t

  pub seen_none : Seen (record { times = 0; first = 0; cycles = 0 }) 0 0
  seen_none =
      let e : listed - 0 ≡ listed = omega arith in
      record {
        left = left_all h;
        so_far = [];
        all = rw e;
        often = record { never = λ z. refl; once = λ z. absurd (omega arith); again = λ y z. absurd (y refl) };
      }

  module _ {t : Times} {first k : ℕ} (s : Seen t first k) where
    pub seen_all : listed ≤ k → Often ps w (lines_named w (lines_from 0 (blocks_in text ps) (listed_in text list listed))) t
    unfolding lines_named lines_from
    seen_all q =
        let none : lines_named w (lines_left first k) ≡ [] = rw (list_end text list listed k q, lines_from) in
        let is : s.so_far ≡ lines_named w (lines_from 0 (blocks_in text ps) (listed_in text list listed)) =
        sym (append-nil s.so_far) ∙ ap (λ (l : List Line). s.so_far ++ l) (sym none) ∙ s.all in
        subst (λ (l : List Line). Often ps w l t) is s.often

    module _ (q : k < listed) {x : Share} (sh : Shares text book list patterns k x) where
      abbrev line : Line
      line = record { name = (name_of text list k).word; first = first; count = x.cycles; keyword = get_or (keywords (toks text 0) (firsts ps)) x.number 0 }

      cut : lines_left first k ≡ line ∷ lines_left (first + x.cycles) (k + 1)
      cut = next_line h q s.left sh (keywords (toks text 0) (firsts ps))

      pub seen_next : {v : List ℕ} {b : Bool} {r : Times} → v ≡ (name_of text list k).word → b ≡ same v w → More t b first x.cycles r → Seen r (first + x.cycles) (k + 1)
      unfolding lines_named
      seen_next {v} {b} {r} e f m = by b (ap (λ (u : List ℕ). same u w) (sym e) ∙ sym f) m
        where
          rest : List Line
          rest = lines_named w (lines_left (first + x.cycles) (k + 1))

          turned : (c : Bool) → same (name_of text list k).word w ≡ c → lines_named w (lines_left first k) ≡ elim c as (λ z. List Line) [ true ↦ line ∷ rest | false ↦ rest ]
          turned c g = ap (lines_named w) cut ∙ ap (λ (z : Bool). elim z as (λ z. List Line) [ true ↦ line ∷ rest | false ↦ rest ]) g

          by : (c : Bool) → same (name_of text list k).word w ≡ c → More t c first x.cycles r → Seen r (first + x.cycles) (k + 1)
          by false g m = record {
            left = left_next h q s.left sh;
            so_far = s.so_far;
            all = ap (λ (l : List Line). s.so_far ++ l) (sym (turned false g)) ∙ s.all;
            often = subst (Often ps w s.so_far) (sym (m.other refl)) s.often;
          }
          by true g m =
              let d = next h q s.left in
              let found : find ps w ≡ some d.decl = ap (find ps) (sym (same_eq (name_of text list k).word w g)) ∙ d.found in
              let cs : cycles 0 d.decl.body ≡ x.cycles = sym (next_cycles h q s.left sh ∙ alone_cycles d.decl.body) in
              record {
                left = left_next h q s.left sh;
                so_far = s.so_far ++ line ∷ [];
                all = append_assoc s.so_far (line ∷ []) rest ∙ ap (λ (l : List Line). s.so_far ++ l) (sym (turned true g)) ∙ s.all;
                often = often_more s.often m line d.decl refl refl found cs (next_fits h q s.left sh);
              }

-- ---- as the code counts

module _ {t : Times} {here : Bool} {first count : ℕ} where
  pub more_other : not here ≡ true → More t here first count t
  more_other e = by here e
    where
      by : (b : Bool) → not b ≡ true → More t b first count t
      by true q = let z : ◌≡◌ {A = ℕ} 0 1 = cc in absurd (omega arith)
      by false q = record { other = λ z. refl; first_is = λ z. never z; cycles_are = λ z. never z; once = λ z. never z; again = λ z. never z }

  here_is : {r : Times} → not here ≡ false → (here ≡ true → More t true first count r) → More t here first count r
  here_is {r} e f = by here e f
    where
      by : (b : Bool) → not b ≡ false → (b ≡ true → More t true first count r) → More t b first count r
      by true q f = f refl
      by false q f = never (sym q)

  pub more_first : not here ≡ false → t.times ≡ 0 → More t here first count (record { times = 1; first = first; cycles = count })
  more_first e z = here_is e (λ y. record { other = λ x. never (sym x); first_is = λ x. refl; cycles_are = λ x. refl; once = λ x w. refl; again = λ x w. absurd (w z) })

  pub more_again : not here ≡ false → (t.times ≡ 0 → ⊥) → More t here first count (record { times = 2; first = first; cycles = count })
  more_again e z = here_is e (λ y. record { other = λ x. never (sym x); first_is = λ x. refl; cycles_are = λ x. refl; once = λ x w. absurd (z w); again = λ x w. refl })

-- Statements one after the other: those passed so far with their X names, and a rest that is held from the cursor on.
use Prim.Native.Nat.{ℕ, ◌+◌, ◌*◌, ◌≤◌, ◌<◌}
use native.Mathlib.Omega.{arith}
use mathlib.Core.Path.{◌≡◌, refl, sym, ap, ◌∙◌, subst}
use mathlib.Core.Bool.{true, false}
use mathlib.Core.List.{List, [], ◌++◌, append_assoc}
use lib.ListN.{length}
use Rattle.tokens.specs.Tokens.{Tok, Toks, left}
use Rattle.meaning.specs.Bounds.{signals_most}
use Rattle.meaning.specs.Body.{Body}
use Rattle.meaning.specs.Statements.{Env}
use Rattle.meaning.specs.Run.{cycles}
use Rattle.words.specs.Cursor.{alive, stream}
use Rattle.words.specs.declared.Cursor.{Cursor}
use Rattle.references.specs.References.{referred}
use Rattle.references.specs.Filled.{Filled, Tables, Standing, Fills, Steps}
use Rattle.references.specs.declared.Passed.{Passed}
use Rattle.references.proofs.Filling.{filled_none, filled_both}

-- from ts to c, where n and m cycles come before: the X names xs of the body b were filled in, and from c on the rest is held
pub record Onward (g : Tables) (ts : Toks) (more n : ℕ) (E : Env) (b : Body) (us : Toks) (table : List ℕ) (c : Cursor) (m : ℕ) (table' : List ℕ) : Type 0 where
  pub xs : List (Tok × ℕ)
  pub rest : Body
  pub filled : Filled g.text g.labels g.count table xs table'
  pub all : referred E ts n b ≡ xs ++ referred E (stream g.text c) m rest
  pub sum : n + cycles 0 b ≡ m + cycles 0 rest
  pub on : alive c ≡ true
  pub standing : Standing g (stream g.text c) more m E rest us
  pub less : left (stream g.text c) ≤ left ts

module _ {g : Tables} {more n : ℕ} {E : Env} {b : Body} {us : Toks} {table : List ℕ} where
  -- nothing was passed yet
  pub going : {c : Cursor} → alive c ≡ true → Standing g (stream g.text c) more n E b us → Onward g (stream g.text c) more n E b us table c n table
  going on st = record { xs = []; rest = b; filled = filled_none; all = refl; sum = refl; on = on; standing = st; less = omega arith }

  module _ {ts : Toks} {c : Cursor} {m : ℕ} {t t' : List ℕ} {r : Passed} (o : Onward g ts more n E b us table c m t)
      (h : Steps g (stream g.text c) more m E o.rest us t r t') where
    -- one statement more
    pub going_on : r.ends ≡ false → Onward g ts more n E b us table r.cursor r.cycles t'
    going_on q =
        let s = h.goes q in
        record {
          xs = o.xs ++ s.xs;
          rest = s.rest;
          filled = filled_both o.filled s.filled;
          all = o.all ∙ ap (λ (l : List (Tok × ℕ)). o.xs ++ l) s.all ∙ sym (append_assoc o.xs s.xs _);
          sum = o.sum ∙ s.sum;
          on = h.on;
          standing = s.standing;
          less = omega (arith, o.less, s.less);
        }

    pub fewer : r.ends ≡ false → left (stream g.text r.cursor) < left (stream g.text c)
    fewer q = (h.goes q).less

    -- the `}`
    pub ended : r.ends ≡ true → Fills g ts n E b us table r t'
    unfolding referred cycles
    ended q =
        let d = h.ended q in
        let count : cycles 0 o.rest ≡ 0 = ap (cycles 0) d.is in
        let all : referred E ts n b ≡ o.xs ++ [] = o.all ∙ ap (λ (z : Body). o.xs ++ referred E (stream g.text c) m z) d.is in
        record {
          filled = subst (λ (l : List (Tok × ℕ)). Filled g.text g.labels g.count table l t') (sym all) (filled_both o.filled d.filled);
          cycles_are = omega (arith, d.cycles_are, o.sum);
          on = h.on;
          there = d.there;
          less = omega (arith, d.less, o.less);
        }

-- THE INVARIANT: whatever body is held at c₀, some of its statements were passed
pub record Going (g : Tables) (more : ℕ) (c₀ : Cursor) (n₀ : ℕ) (table₀ : List ℕ) (c : Cursor) (n : ℕ) (args table : List ℕ) : Type 0 where
  pub args_long : length args ≡ signals_most * 2
  pub table_long : length table ≡ length table₀
  pub onward : (E : Env) (b : Body) (us : Toks) → Standing g (stream g.text c₀) more n₀ E b us → Onward g (stream g.text c₀) more n₀ E b us table₀ c n table

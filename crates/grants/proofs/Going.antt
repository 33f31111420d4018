-- Statements one after the other: the body is those summed up so far, and a rest that is held from the cursor on.
use Prim.Native.Nat.{ℕ}
use mathlib.Core.Path.{◌≡◌, refl, sym, ap, ◌∙◌}
use mathlib.Core.Bool.{Bool, true, false, ◌||◌, ◌&&◌}
use mathlib.Core.List.{List}
use Rattle.tokens.specs.Tokens.{Toks}
use Rattle.meaning.specs.Body.{Body, done}
use Rattle.meaning.specs.Statements.{Env}
use Rattle.words.specs.Cursor.{alive, stream}
use Rattle.words.specs.declared.Cursor.{Cursor}
use Rattle.measures.specs.Measures.{joined}
use Rattle.measures.proofs.Joined.{joined_done, joined_assoc}
use Rattle.plays.specs.Plays.{Ground}
use Rattle.grants.specs.declared.Tallied.{Tallied}
use Rattle.grants.specs.Grants.{Kept, Added, Once, Standing, Gone, Steps}
use Rattle.grants.proofs.Adding.{added_none, added_then, once_done, once_then}

-- the statements `front` of the body b were summed up, and from c on the rest is held
pub record Onward (g : Ground) (more r : ℕ) (marks₀ marks sums₀ sums : List ℕ) (E : Env) (b : Body) (us : Toks) (c : Cursor) (shifts twice : Bool) : Type 0 where
  pub front : Body
  pub rest : Body
  pub is : b ≡ joined front rest
  pub added : Added g E r marks₀ marks sums₀ sums shifts front
  pub once : Once shifts twice front
  pub on : alive c ≡ true
  pub standing : Standing g (stream g.text c) more E rest us

-- another Shift
abbrev pub again : Bool → Bool → Bool → Bool → Bool
again twice more shifts another = (twice || more) || (shifts && another)

module _ {g : Ground} {more r : ℕ} {marks₀ marks sums₀ sums : List ℕ} {E : Env} {b : Body} {us : Toks} {c : Cursor} {shifts twice : Bool} where
  module _ {marks' sums' : List ℕ} {x : Tallied} (o : Onward g more r marks₀ marks sums₀ sums E b us c shifts twice)
      (h : Steps g (stream g.text c) more r marks marks' sums sums' E o.rest us x) where
    behind_one : b ≡ joined (joined o.front h.one) h.rest
    behind_one = o.is ∙ ap (joined o.front) h.is ∙ sym (joined_assoc o.front h.one h.rest)

    -- one statement more
    pub going_on : x.ends ≡ false → Onward g more r marks₀ marks' sums₀ sums' E b us x.cursor (shifts || x.shifts) (again twice x.twice shifts x.shifts)
    going_on q = record {
      front = joined o.front h.one;
      rest = h.rest;
      is = behind_one;
      added = added_then o.added h.added;
      once = once_then o.once h.once;
      on = h.on;
      standing = h.standing q;
    }

    -- the `}`
    pub all_gone : x.ends ≡ true
        → Gone g E us r marks₀ marks' sums₀ sums' b (record { cursor = x.cursor; ends = true; shifts = shifts || x.shifts; twice = again twice x.twice shifts x.shifts })
    all_gone q =
        let d = h.ended q in
        let all : b ≡ joined o.front h.one = behind_one ∙ ap (joined (joined o.front h.one)) d.0 ∙ joined_done (joined o.front h.one) in
        record { added = rw all (added_then o.added h.added); once = rw all (once_then o.once h.once); on = h.on; behind = d.1 }

-- from c₀ to c, whatever body is held at c₀, some of its statements were summed up
pub record Going (g : Ground) (more r : ℕ) (c₀ c : Cursor) (marks₀ marks sums₀ sums : List ℕ) (shifts twice : Bool) : Type 0 where
  pub kept : Kept more r marks₀ marks sums₀ sums
  pub onward : (E : Env) (b : Body) (us : Toks) → Standing g (stream g.text c₀) more E b us → Onward g more r marks₀ marks sums₀ sums E b us c shifts twice

module _ {g : Ground} {more r : ℕ} {marks sums : List ℕ} {E : Env} {b : Body} {us : Toks} {c : Cursor} where
  -- nothing was summed up yet
  pub going : alive c ≡ true → Standing g (stream g.text c) more E b us → Onward g more r marks marks sums sums E b us c false false
  unfolding joined
  going on st = record { front = done; rest = b; is = refl; added = added_none false; once = once_done false false; on = on; standing = st }

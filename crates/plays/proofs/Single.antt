-- In every body that is read, each Shift holds one V.
use Prim.Native.Nat.{ℕ, zero, suc}
use mathlib.Core.Path.{refl}
use mathlib.Core.Bool.{Bool}
use Rattle.meaning.specs.Signals.{Names}
use Rattle.meaning.specs.Body.{Kind, macro, procedure, Body}
use Rattle.meaning.specs.Statements.{Decls, Env, Head, ends, vecs, sets, loops, shifts, uses, used, chosen, looping, shift_head, label_head, head, statements}
use Rattle.meaning.proofs.Gives.{Gives, gives_bind, gives_after, gives_give, gives_choose}
use Rattle.meaning.proofs.Choices.{◌also◌}
use Rattle.meaning.proofs.Statements.{Kept, Deeper, gives_statements}
use Rattle.meaning.proofs.Everywhere.{Every, Known, every_name}
use Rattle.plays.specs.Plays.{Single}

-- a head that uses no body, or one whose Shifts hold one V
abbrev Ones : Head → Type 0
Ones ends = Unit {0}
Ones (vecs p a) = Unit {0}
Ones (sets x) = Unit {0}
Ones (loops n) = Unit {0}
Ones shifts = Unit {0}
Ones (uses k x t a) = Single x.body

ones_used : (k : Kind) (d : ℕ) (ns : Names) (l : Decls) → Every Single l → Gives Ones (used k d ns l)
unfolding used
ones_used k d ns l h =
    gives_bind (λ x. Single x.1.body) Ones _ _ (every_name Single l h) λ x q. gives_after Ones _ _ λ u. gives_after Ones _ _ λ a. gives_after Ones _ _ λ v.
    gives_give Ones _ q

ones_head : (e : Env) → Known Single e → (own : Bool) (d : ℕ) (seen : Bool) → Gives Ones (head e own d seen)
unfolding head chosen looping shift_head label_head
ones_head e h own d seen = gives_choose Ones _ (
    (λ p. gives_after Ones _ _ λ a. gives_give Ones _ tt)
    also (λ p. gives_after Ones _ _ λ a. gives_give Ones _ tt)
    also (λ p. gives_after Ones _ _ λ x. gives_after Ones _ _ λ q. gives_give Ones _ tt)
    also (λ p. gives_after Ones _ _ λ u. gives_after Ones _ _ λ n. gives_after Ones _ _ λ q. gives_give Ones _ tt)
    also (λ p. ones_used macro d e.names e.macros h.0)
    also (λ p. ones_used procedure d e.names e.procs h.1)
    also (λ p. gives_after Ones _ _ λ u. gives_after Ones _ _ λ t. gives_after Ones _ _ λ q. gives_give Ones _ tt)
    also (λ p. gives_after Ones _ _ λ u. gives_after Ones _ _ λ v. gives_after Ones _ _ λ q. gives_give Ones _ tt)
    also (λ p. gives_give Ones _ tt)
    also tt)

in_loop : (d : ℕ) (b : Body) → Deeper (λ own d. Single) d b → Single b
in_loop zero b h = absurd h
in_loop (suc d) b h = h

ones : (own : Bool) (d : ℕ) → Kept Ones (Deeper (λ own d. Single) d) Single
unfolding Single
ones own d = record {
  end = tt;
  vector = λ p a r h q. q;
  setting = λ x r h q. q;
  loop = λ n b r h c q. (tt, in_loop d b c, q);
  shift = λ p a r h q. ((p, a, refl), tt, q);
  use' = λ k x t a r h q. (tt, h, q);
}

pub read_single : (e : Env) → Known Single e → (d : ℕ) (own : Bool) → Gives Single (statements e d own)
read_single e h = gives_statements (λ own d. Ones) (λ own d. Single) ones e (ones_head e h)

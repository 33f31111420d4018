-- A body is no deeper than it was read for. So every pattern is at most 8 deep, and a run at most 9.
use mathlib.Core.Path.{◌≡◌}
use Prim.Native.Nat.{ℕ, zero, suc, ◌≤◌, ◌<◌}
use native.Mathlib.Omega.{arith}
use mathlib.Core.Bool.{Bool, false}
use lib.Dec.{leb}
use borrow.Author.Tests.{leb-false}
use Rattle.meaning.specs.Bounds.{depth_most}
use Rattle.meaning.specs.Signals.{Names}
use Rattle.meaning.specs.Body.{Kind, Body, depth}
use Rattle.meaning.specs.Statements.{Decls, Env, Head, ends, vecs, sets, loops, shifts, uses, used, chosen, looping, shift_head, label_head, head, statements}
use Rattle.meaning.specs.Document.{document}
use Rattle.meaning.proofs.Gives.{Gives, gives_bind, gives_after, gives_give, gives_if, gives_choose}
use Rattle.meaning.proofs.Choices.{◌also◌}
use Rattle.meaning.proofs.Statements.{Kept, Deeper, gives_statements}
use Rattle.meaning.proofs.Everywhere.{Every, Runs, no_more, one_more_lem, everywhere}

abbrev Room : ℕ → Head → Type 0
Room d ends = Unit {0}
Room d (vecs p a) = Unit {0}
Room d (sets x) = Unit {0}
Room d (loops n) = Unit {0}
Room d shifts = 0 < d
Room d (uses k x t a) = depth x.body < d

room_used : (k : Kind) (d : ℕ) (ns : Names) (l : Decls) → Gives (Room d) (used k d ns l)
unfolding used
room_used k d ns l =
    gives_after (Room d) _ _ λ x. gives_bind (λ u. leb d (depth x.1.body) ≡ false) (Room d) _ _ (gives_if _ _ _) λ u q.
    gives_after (Room d) _ _ λ a. gives_after (Room d) _ _ λ v. gives_give (Room d) _ (leb-false d (depth x.1.body) q)

room_head : (e : Env) (own : Bool) (d : ℕ) (seen : Bool) → Gives (Room d) (head e own d seen)
unfolding head chosen looping shift_head label_head
room_head e own d seen = gives_choose R _ (
    (λ p. gives_after R _ _ λ a. gives_give R _ tt)
    also (λ p. gives_after R _ _ λ a. gives_give R _ tt)
    also (λ p. gives_after R _ _ λ x. gives_after R _ _ λ q. gives_give R _ tt)
    also (λ p. gives_after R _ _ λ u. gives_after R _ _ λ n. gives_after R _ _ λ q. gives_give R _ tt)
    also (λ p. room_used _ d e.names e.macros)
    also (λ p. room_used _ d e.names e.procs)
    also (λ p. gives_after R _ _ λ u. gives_after R _ _ λ t. gives_after R _ _ λ q. gives_give R _ tt)
    also (λ p. gives_after R _ _ λ u. gives_bind (λ u. leb d 0 ≡ false) R _ _ (gives_if _ _ _) λ v h. gives_after R _ _ λ q. gives_give R _ (leb-false d 0 h))
    also (λ p. gives_give R _ tt)
    also tt)
  where
    R : Head → Type 0
    R = Room d

abbrev Within : Bool → ℕ → Body → Type 0
Within own d b = depth b ≤ d

in_loop : (d : ℕ) (b : Body) → Deeper Within d b → depth b < d
in_loop zero b h = absurd h
in_loop (suc d) b h = omega arith

within : (own : Bool) (d : ℕ) → Kept (Room d) (Deeper Within d) (Within own d)
unfolding depth
within own d = record {
  end = omega arith;
  vector = λ p a r h q. q;
  setting = λ x r h q. q;
  loop = λ n b r h c q. omega (arith, in_loop d b c);
  shift = λ p a r h q. omega arith;
  use' = λ k x t a r h q. omega arith;
}

pub read_within : (e : Env) (d : ℕ) (own : Bool) → Gives (λ b. depth b ≤ d) (statements e d own)
read_within e = gives_statements (λ own. Room) Within within e (room_head e)

pub patterns_within : Gives (λ d. Every (λ b. depth b ≤ depth_most) d.patterns) document
patterns_within = everywhere (λ b. depth b ≤ depth_most) (λ e k own. read_within e depth_most own)

pub run_within : {r : Body} → Runs (λ b. depth b ≤ depth_most) r → depth r ≤ suc depth_most
unfolding depth
run_within no_more = omega arith
run_within (one_more_lem p h) = let k = run_within h in omega arith

-- Every reader of Signals and SignalGroups takes a token, so that one turn of a repeated part leaves less to read.
use Prim.Native.Nat.{ℕ, zero, suc}
use native.Mathlib.Omega.{arith}
use mathlib.Core.Path.{◌≡◌}
use mathlib.Core.Bool.{Bool, true, false}
use mathlib.Core.List.{List}
use Rattle.meaning.specs.Reader.{Reader}
use Rattle.meaning.specs.Signals.{Names, signal, signal_up_to}
use Rattle.meaning.specs.Groups.{term, sign, joined, more, terms, bracket, expression, group, group_up_to}
use Rattle.meaning.proofs.Takes.{Takes, Keeps}
use Rattle.meaning.proofs.Taking.{taking, takes_keeps, takes_due, takes_old, takes_bind, keeps_bind, keeps_give, takes_choose, takes_ahead, keeps_while}

pub takes_signal : (ns : Names) → Takes (signal ns)
unfolding signal_up_to
takes_signal ns = search taking depth 16 fits 4000

pub takes_sign : Takes sign
unfolding sign
takes_sign = takes_choose _ ((λ p. keeps_give true), ((λ p. keeps_give false), tt))

keeps_joined : (plus : Bool) (g x : List ℕ) (q : ℕ) → Keeps (joined plus g x q)
unfolding joined
keeps_joined true g x q = search taking
keeps_joined false g x q = search taking

module _ (inner : ℕ → Reader (List ℕ)) (ns : Names) (h : (p : ℕ) → Keeps (inner p)) where
  pub takes_term : Takes (term inner ns)
  unfolding term
  takes_term =
      takes_ahead "(" _ _
      (takes_bind _ _ (takes_due _) λ p. keeps_bind _ _ (h p) λ g. keeps_bind _ _ (takes_keeps (takes_due _)) λ q. keeps_give _)
      (takes_bind _ _ (takes_old ns) λ x. keeps_give _)

  pub takes_more : (g : List ℕ) → Takes (more inner ns g)
  unfolding more
  takes_more g = takes_bind _ _ takes_sign λ plus. keeps_bind _ _ (takes_keeps takes_term) λ x. keeps_joined plus g x.0 x.1

  takes_terms : Takes (terms inner ns)
  unfolding terms
  takes_terms = takes_bind _ _ takes_term λ x. keeps_while _ (more inner ns) takes_more x.0

pub keeps_bracket : (d : ℕ) (ns : Names) (p : ℕ) → Keeps (bracket d ns p)
unfolding bracket
keeps_bracket zero ns p = record { stays = λ ts a us e. (let z : ◌≡◌ {A = ℕ} 0 1 = cc in absurd (omega arith)) }
keeps_bracket (suc d) ns p = takes_keeps (takes_terms (bracket d ns) ns (keeps_bracket d ns))

takes_expression : (ns : Names) → Takes (expression ns)
unfolding expression
takes_expression ns = takes_terms _ ns (keeps_bracket _ ns)

pub takes_group : (n : ℕ) (ns : Names) → Takes (group n ns)
unfolding group_up_to
takes_group n ns = search (taking, takes_expression) depth 24 fits 8000

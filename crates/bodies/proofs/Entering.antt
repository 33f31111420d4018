-- A head that uses a body uses one of those that are declared: where all those are noted, so is it.
use Prim.Native.Nat.{ℕ}
use mathlib.Core.Bool.{Bool, true, false}
use mathlib.Core.List.{List}
use lib.Dec.{ltb}
use Rattle.tokens.specs.Tokens.{Tok}
use Rattle.meaning.specs.Names.{old_name}
use Rattle.meaning.specs.Signals.{Names}
use Rattle.meaning.specs.Body.{Kind, macro, procedure}
use Rattle.meaning.specs.Statements.{Decl, Decls, Env, Head, ends, vecs, sets, loops, shifts, uses, used, chosen, looping, shift_head, label_head, head}
use Rattle.meaning.proofs.Gives.{Gives, gives_bind, gives_after, gives_give, gives_choose}
use Rattle.meaning.proofs.Choices.{◌also◌}
use Rattle.signals.proofs.Tidy.{gives_known}
use Rattle.held.proofs.All.{all_found}
use Rattle.measures.specs.Book.{first_procedure}
use Rattle.heads.specs.Heads.{kind_of}
use Rattle.noted.specs.Noted.{Stated, Noted}
use Rattle.noted.specs.Known.{AllNoted, Knows}

-- it is a macro or a procedure
pub stated : (i : ℕ) → Stated (kind_of i)
unfolding kind_of
stated i = by (ltb i first_procedure)
  where
    by : (b : Bool) → Stated (elim b [ true ↦ macro | false ↦ procedure ])
    by true = tt
    by false = tt

module _ (tables : ℕ) (marks : List ℕ) where
  abbrev pub UsesNoted : Head → Type 0
  UsesNoted ends = Unit {0}
  UsesNoted (vecs p a) = Unit {0}
  UsesNoted (sets x) = Unit {0}
  UsesNoted (loops n) = Unit {0}
  UsesNoted shifts = Unit {0}
  UsesNoted (uses k x t a) = Noted tables marks x.body

  noted_old : (ds : Decls) → AllNoted tables marks ds → Gives (λ x. Noted tables marks x.1.body) (old_name ds)
  unfolding old_name
  noted_old ds h =
      gives_after P _ _ λ t. gives_bind (λ u. Noted tables marks u.body) P _ _ (gives_known _ _ _ _ (λ u e. (all_found P ds h t.word u e).1)) λ u q. gives_give P (t, u) q
    where
      P : Tok × Decl → Type 0
      P x = Noted tables marks x.1.body

  noted_used : (k : Kind) (d : ℕ) (ns : Names) (ds : Decls) → AllNoted tables marks ds → Gives UsesNoted (used k d ns ds)
  unfolding used
  noted_used k d ns ds h =
      gives_bind (λ x. Noted tables marks x.1.body) UsesNoted _ _ (noted_old ds h) λ x n. gives_after UsesNoted _ _ λ u.
      gives_after UsesNoted _ _ λ a. gives_after UsesNoted _ _ λ v. gives_give UsesNoted _ n

  pub noted_head : (e : Env) (own : Bool) (d : ℕ) (seen : Bool) → Knows tables marks e → Gives UsesNoted (head e own d seen)
  unfolding head chosen looping shift_head label_head
  noted_head e own d seen h = gives_choose UsesNoted _ (
      (λ p. gives_after UsesNoted _ _ λ a. gives_give UsesNoted _ tt)
      also (λ p. gives_after UsesNoted _ _ λ a. gives_give UsesNoted _ tt)
      also (λ p. gives_after UsesNoted _ _ λ x. gives_after UsesNoted _ _ λ q. gives_give UsesNoted _ tt)
      also (λ p. gives_after UsesNoted _ _ λ u. gives_after UsesNoted _ _ λ n. gives_after UsesNoted _ _ λ q. gives_give UsesNoted _ tt)
      also (λ p. noted_used _ d e.names e.macros h.macros)
      also (λ p. noted_used _ d e.names e.procs h.procs)
      also (λ p. gives_after UsesNoted _ _ λ u. gives_after UsesNoted _ _ λ t. gives_after UsesNoted _ _ λ q. gives_give UsesNoted _ tt)
      also (λ p. gives_after UsesNoted _ _ λ u. gives_after UsesNoted _ _ λ v. gives_after UsesNoted _ _ λ q. gives_give UsesNoted _ tt)
      also (λ p. gives_give UsesNoted _ tt)
      also tt)

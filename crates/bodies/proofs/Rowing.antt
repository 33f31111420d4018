-- The row of a body, behind statements one after the other.
use mathlib.Core.Path.{refl, ◌∙◌, subst}
use Prim.Native.Nat.{ℕ}
use mathlib.Core.Bool.{Bool, false}
use mathlib.Core.List.{List}
use Rattle.meaning.specs.Body.{Setting, Args, Kind, looped, entered, Body, done, set', inner}
use Rattle.measures.specs.Measures.{joined}
use Rattle.measures.specs.Uses.{Uses}
use Rattle.measures.proofs.Joined.{joined_done, joined_assoc}
use Rattle.measures.proofs.Uses.{uses_setting, uses_looped, uses_entered}
use Rattle.bodies.specs.Bodies.{Counted}

pub counted_then : {own : Bool} {row row' row'' : List ℕ} {a b : Body} → Counted own row a row' → Counted own row' b row'' → Counted own row (joined a b) row''
counted_then {row'' = row''} {a} {b} f g =
    record {
      counts = λ o c u. subst (λ (x : Body). Uses x row'') (joined_assoc c a b) (g.counts o (joined c a) (f.counts o c u));
      stays = λ o. g.stays o ∙ f.stays o;
    }

-- what is no V of the body's own leaves the row as it is
module _ {own : Bool} {row : List ℕ} where
  pub counted_none : Counted own row done row
  counted_none = record { counts = λ o a u. rw (joined_done a) u; stays = λ o. refl }

  pub counted_setting : {x : Setting} → Counted own row (set' x done) row
  counted_setting {x} = record { counts = λ o a u. uses_setting u x; stays = λ o. refl }

  pub counted_entered : {k : Kind} {t : ℕ} {xs : Args} {b : Body} → Counted own row (inner (entered k t xs) b done) row
  counted_entered {k} {t} {xs} {b} = record { counts = λ o a u. uses_entered u k t xs b; stays = λ o. refl }

  -- of a Loop, whose statements are not
  pub counted_looped : {n : ℕ} {row' : List ℕ} {b : Body} → Counted false row b row' → Counted own row (inner (looped n) b done) row'
  counted_looped {n} {row'} {b} e = record { counts = λ o a u. rw (e.stays refl) (uses_looped u n b); stays = λ o. e.stays refl }

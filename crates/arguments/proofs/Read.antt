-- What arguments are, whatever the text: they take a token.
use mathlib.Core.Bool.{false}
use Rattle.meaning.specs.Signals.{Names}
use Rattle.meaning.specs.Body.{Args, Body}
use Rattle.meaning.specs.Data.{argument}
use Rattle.meaning.proofs.Takes.{Takes}
use Rattle.meaning.proofs.Taking.{takes_keeps, takes_due, takes_old, takes_bind, keeps_bind, keeps_give, keeps_if}
use Rattle.data.proofs.Characters.{takes_data}

-- ---- tokens are taken

pub takes_argument : (ns : Names) (b : Body) (xs : Args) → Takes (argument ns b xs)
unfolding argument
takes_argument ns b xs =
    takes_bind _ _ (takes_old ns) λ x. keeps_bind _ _ (keeps_if _ _ _) λ u. keeps_bind _ _ (keeps_if _ _ _) λ u.
    keeps_bind _ _ (takes_keeps (takes_due _)) λ p. keeps_bind _ _ (takes_keeps (takes_data false)) λ d. keeps_bind _ _ (keeps_if _ _ _) λ u.
    keeps_give _

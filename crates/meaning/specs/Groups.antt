-- SignalGroups (document 01).
use Rattle.std.specs.Prelude.{ℕ, zero, suc, ◌+◌, Bool, true, false, not, ◌||◌, List, [], ◌∷◌, ◌++◌, length, leb}
use Rattle.tokens.specs.Tokens.{Toks}
use Rattle.meaning.specs.Refusals.{too_many, bad_group}
use Rattle.meaning.specs.Bounds.{groups_most, brackets_most}
use Rattle.meaning.specs.Lists.{meets, inside, without, empty}
use Rattle.meaning.specs.Reader.{Reader, refuse, ◌>>=◌, ◌>>◌, give, refuse_if, ahead, due, choose, if_ahead, while, until}
use Rattle.meaning.specs.Names.{new_name, old_name}
use Rattle.meaning.specs.Signals.{Names}

-- a term's signals and its last token's place; `inner` reads what the bracket at a place holds
unfoldable pub term : (ℕ → Reader (List ℕ)) → Names → Reader (List ℕ × ℕ)
term inner ns =
    if_ahead "("
    (do
      p ← due "("
      g ← inner p
      q ← due ")"
      give (g, q))
    (do
      x ← old_name ns
      give (x.1, x.0.at))

-- is it `+`
unfoldable pub sign : Reader Bool
sign = choose (("+", λ p. give true) ∷ ("-", λ p. give false) ∷ [])

unfoldable pub sign_ahead : Toks → Bool
sign_ahead ts = ahead "+" ts || ahead "-" ts

-- the signals g and a term's x, whose last token stands at q: `+` appends, `-` removes
unfoldable pub joined : Bool → List ℕ → List ℕ → ℕ → Reader (List ℕ)
joined true g x q = do
  refuse_if (meets x g) bad_group q
  give (g ++ x)
joined false g x q = do
  refuse_if (not (inside x g)) bad_group q
  give (without g x)

unfoldable pub more : (ℕ → Reader (List ℕ)) → Names → List ℕ → Reader (List ℕ)
more inner ns g = do
  plus ← sign
  x ← term inner ns
  joined plus g x.0 x.1

-- terms, read from the left
unfoldable pub terms : (ℕ → Reader (List ℕ)) → Names → Reader (List ℕ)
terms inner ns = do
  x ← term inner ns
  while sign_ahead (more inner ns) x.0

-- what the bracket at p holds, where so many may stand in each other
unfoldable pub bracket : ℕ → Names → ℕ → Reader (List ℕ)
bracket zero ns p = λ ts. refuse too_many p
bracket (suc d) ns p = terms (bracket d ns) ns

unfoldable pub expression : Names → Reader (List ℕ)
expression ns = terms (bracket brackets_most ns) ns

-- a group, where n signals are declared and there may be so many groups
unfoldable pub group_up_to : ℕ → ℕ → Names → Reader Names
group_up_to most n ns = do
  t ← new_name ns
  refuse_if (leb (n + most) (length ns)) too_many t.at
  due "="
  due "'"
  g ← expression ns
  q ← due "'"
  refuse_if (empty g) bad_group q
  due ";"
  give (ns ++ (t, g) ∷ [])

unfoldable pub groups_up_to : ℕ → Names → Reader Names
groups_up_to most ns = do
  due "SignalGroups"
  due "{"
  until "}" (group_up_to most (length ns)) ns

abbrev pub group : ℕ → Names → Reader Names
group = group_up_to groups_most

abbrev pub groups : Names → Reader Names
groups = groups_up_to groups_most
